-- What the plain heap's malloc leaves.
use Rattle.std.proofs.Common.{◌≡◌, ℕ, ◌+◌, ◌-◌, ◌%◌, ◌<◌, ◌≤◌, true, false, cond, [], ◌∷◌, map, refl, sym, ap, ◌∙◌, subst, arith, Option, Some, None, count_by}
use Rattle.std.specs.Prelude.{◌==◌}
use Rattle.tlsf_class.specs.Classes.{unit}
use Rattle.tlsf_heap.specs.Content.{Block, Content, blocks_of, is_free, size_at, used_records, IsSize}
use Rattle.tlsf_heap.specs.Lists.{link, unlink, pick}
use Rattle.tlsf_heap.specs.Malloc.{replaced_in, split, allocated}
use Rattle.tlsf_heap.specs.Free.{free_block}
use Rattle.tlsf_heap.specs.Pools.{end_of_places}
use Rattle.tlsf_heap.specs.PlainHeap.{IsPlain, gap_block, link_block, blocks_among}
use Rattle.tlsf_heap.specs.GoodSlots.{slot_times}
use Rattle.tlsf_heap.proofs.Good.MallocIsGood.{picked, allocated_is_good}
use Rattle.tlsf_heap.proofs.Good.Slots.{allocated_slots}
use Rattle.tlsf_heap.proofs.Good.SlotsLeft.{free_found}

-- what the code has to know of the block that it splits
pub record IsSplit (place asked size : ℕ) (content : Content ℕ) : Type 0 where
  pub asked_size : IsSize asked
  pub whole_size : IsSize size
  pub within : asked ≤ size
  pub ends : place + size ≤ end_of_places
  pub some_free : 1 ≤ count_by is_free (blocks_of content.pools)

pub is_split : {asked place size : ℕ} {content : Content ℕ} {pick_gave : Option ℕ} → IsPlain content → asked % unit ≡ 0 → 0 < asked → pick_gave ≡ pick asked content.lists → pick_gave ≡ Some place → size ≡ size_at place (blocks_of content.pools)
    → IsSplit place asked size content
is_split {asked} {place} {size} {content} plain in_units positive picks gave same =
    let of = picked asked place content plain.good (sym picks ∙ gave) in
    let whole = of.whole in
    let all : of.found.block.size ≡ size = of.size_is ∙ sym same in
    record {
      asked_size = record { positive = positive; in_units = in_units; at_most = omega (arith, of.holds, of.size_is, whole.at_most) };
      whole_size = record { positive = omega (arith, whole.positive, all); in_units = ap (λ k. k % unit) (sym all) ∙ whole.in_units; at_most = omega (arith, whole.at_most, all) };
      within = omega (arith, of.holds, same);
      ends = omega (arith, whole.ends, all, of.found.here);
      some_free = free_found place _ of.found of.free;
    }

-- what is left of it
pub rest_size : (place asked size : ℕ) (content : Content ℕ) → IsSplit place asked size content → 0 < size - asked → IsSize (size - asked)
rest_size place asked size content is some = record {
  positive = some;
  in_units = omega (arith, is.within, is.asked_size.in_units, is.whole_size.in_units);
  at_most = omega (arith, is.whole_size.at_most);
}

-- the plain heap keeps what it keeps where the block picked is split
pub allocated_is_plain : (slot place asked size : ℕ) (content : Content ℕ) → IsPlain content → asked % unit ≡ 0 → 0 < asked → pick asked content.lists ≡ Some place → size ≡ size_at place (blocks_of content.pools)
    → (asked < size → used_records content < content.records) → slot < content.records → slot_times slot (blocks_of content.pools) ≡ 0 → IsPlain (allocated slot place asked size content)
allocated_is_plain slot place asked size content plain in_units positive is same room below new =
    let P : ℕ → Type 0 = λ s. IsPlain (allocated slot place asked s content) in
    subst P (sym same) (record {
      good = allocated_is_good slot asked place content plain.good (picked asked place content plain.good is) positive in_units (λ larger. room (omega (arith, larger, same)));
      slots = allocated_slots slot asked place content plain.good is plain.slots below new;
      records_few = plain.records_few;
    })

-- the steps of the code are those of the definition
pub allocated_by : (slot place asked size : ℕ) (rest : Option (Block ℕ)) (content copy unlinked linked split : Content ℕ)
    → copy ≡ content
    → unlinked ≡ record copy { lists = unlink place size copy.lists }
    → linked ≡ record unlinked { lists = link_block rest unlinked.lists }
    → split ≡ record linked { pools = map (replaced_in place (blocks_among (Some (record { place = place; size = asked; owner = Some slot }) ∷ rest ∷ []))) linked.pools }
    → rest ≡ gap_block (place + asked) (size - asked)
    → split ≡ allocated slot place asked size content
allocated_by slot place asked size rest content copy unlinked linked split a b c d e =
    let live : Block ℕ = record { place = place; size = asked; owner = Some slot } in
    let behind : Block ℕ = free_block (place + asked) (size - asked) in
    let of : Option (Block ℕ) → Content ℕ → Content ℕ = λ o x. record x { pools = map (replaced_in place (blocks_among (Some live ∷ o ∷ []))) x.pools; lists = link_block o x.lists } in
    let left : Content ℕ = record content { lists = unlink place size content.lists } in
    d
    ∙ ap (λ (x : Content ℕ). record x { pools = map (replaced_in place (blocks_among (Some live ∷ rest ∷ []))) x.pools }) c
    ∙ ap (of rest) (b ∙ ap (λ (x : Content ℕ). record x { lists = unlink place size x.lists }) a)
    ∙ ap (λ o. of o left) e
    ∙ elim ((size - asked) == 0) as (λ t. of (cond t None (Some behind)) left ≡ record left {
      pools = map (replaced_in place (live ∷ cond t [] (behind ∷ []))) content.pools;
      lists = cond t left.lists (link (place + asked) (size - asked) left.lists);
    }) [ true ↦ refl | false ↦ refl ]
