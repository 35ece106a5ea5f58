-- Records that agree on their blocks. Where cells stand with the ones, they stand with the others, for
-- the same content.
use Rattle.std.proofs.Common.{◌≡◌, ℕ, ◌≤◌, true, length, None, List, refl, sym, ap, ◌∙◌, arith}
use Rattle.tlsf_store.specs.declared.records.State.{State}
use Rattle.tlsf_store.specs.declared.records.State.TheVariants.{Vacant, Free, Live}
use Rattle.tlsf_store.specs.declared.records.Record.{Record}
use Rattle.tlsf_store.specs.Records.{record_at, is_free_state}
use Rattle.tlsf_store.specs.Cells.{Cells}
use Rattle.tlsf_heap.specs.Images.Rules.{is_used}
use Rattle.tlsf_heap.specs.Inner.Represents.{pool_views, list_views, uses_in, Represents}
use Rattle.tlsf_heap.specs.Inner.Following.{content_of, Stands}
use Rattle.tlsf_heap.proofs.Inner.Chains.{chains_same, index_same}
use Rattle.tlsf_heap.proofs.Inner.Followed.{content_is, stood_for}
use Rattle.tlsf_heap.proofs.Images.FoundNodes.{stands_used, listed_at}

-- the two tables of records agree on each slot's state. Of a block they agree on its place, size and neighbours;
-- of a free one also on its neighbours in its list
pub record AreAlike (records others : List Record) : Type 0 where
  pub count : length records ≡ length others
  pub states : (slot : ℕ) → (record_at records slot).state ≡ (record_at others slot).state
  pub in_pool : (slot : ℕ) → is_used (record_at records slot).state ≡ true → pool_views records slot ≡ pool_views others slot
  pub in_list : (slot : ℕ) → is_free_state (record_at records slot).state ≡ true → list_views records slot ≡ list_views others slot

-- no live record has a neighbour in a list
abbrev pub LiveAlone : List Record → Type 0
LiveAlone records = (slot : ℕ) → (record_at records slot).state ≡ Live → list_views records slot ≡ record { prev = None; next = None }

pub uses_used : (state : State) → 1 ≤ uses_in state → is_used state ≡ true
uses_used Vacant some = absurd (omega (arith, some))
uses_used Free some = refl
uses_used Live some = refl

module _ (cells : Cells) (others : List Record) (alike : AreAlike cells.records others) (stands : Stands cells) where
  abbrev pub with_others : Cells
  with_others = record cells { records = others }

  alike_represented : Represents with_others stands.layout
  alike_represented =
      let was = stands.represented in
      record {
        count = sym alike.count ∙ was.count;
        entries = was.entries;
        chains = record {
          chains = chains_same (pool_views cells.records) (pool_views others) stands.layout.areas (λ q h. sym (alike.in_pool q (uses_used (record_at cells.records q).state (stands_used cells stands q h)))) was.chains.chains;
          once = λ q. was.chains.once q ∙ ap uses_in (alike.states q);
        };
        index = index_same (list_views cells.records) (list_views others) cells.heads cells.step_words cells.level_word stands.layout.lists
            (λ number q h. sym (alike.in_list q (ap is_free_state (listed_at cells stands number q h).free))) was.index;
        agree = was.agree;
      }

  pub alike_stand : Stands with_others
  alike_stand = record { layout = stands.layout; represented = alike_represented; settled = stands.settled; none_taken = stands.none_taken; good = stands.good }

  pub alike_content : content_of with_others ≡ content_of cells
  alike_content = content_is with_others stands.layout alike_represented ∙ sym (stood_for cells stands)
