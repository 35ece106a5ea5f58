-- A vacant slot is taken for a block to come, and given back.
use Rattle.std.proofs.Common.{◌≡◌, ◌≢◌, ℕ, ◌+◌, ◌<◌, ◌≤◌, List, ◌∷◌, length, set, refl, sym, ap, ◌∙◌, subst, arith, count_by, Some, inl, inr}
use Rattle.std.proofs.lemmas.Bool.{cases_eq, eq-eqb, ne_eqb}
use Rattle.std.proofs.lemmas.List.{length-set}
use Rattle.tlsf_store.specs.declared.records.Record.{Record}
use Rattle.tlsf_store.specs.declared.records.State.TheVariants.{Free}
use Rattle.tlsf_store.specs.Records.{blank, blank_in, record_at}
use Rattle.tlsf_store.specs.Cells.{Cells, with_record, with_taken}
use Rattle.tlsf_store.proofs.RecordLaws.{record_at-set_same, record_at-set_other}
use Rattle.tlsf_heap.specs.Good.{times}
use Rattle.tlsf_heap.specs.Inner.Nodes.{Layout, has_slot, nodes_of}
use Rattle.tlsf_heap.specs.Inner.Represents.{pool_view, list_view, pool_views, list_views, uses_in, Represents}
use Rattle.tlsf_heap.proofs.Counts.{one_if}
use Rattle.tlsf_heap.proofs.Content.FreeLists.{times-cons}
use Rattle.tlsf_heap.proofs.Inner.Chains.{chains_same, index_same, listed_within}

-- what counts differently is another slot
pub counted_apart : (count : ℕ → ℕ) (q slot : ℕ) → 1 ≤ count q → count slot ≡ 0 → q ≢ slot
counted_apart count q slot some none e = let P : ℕ → Type 0 = λ n. 1 ≤ count n in omega (arith, subst P e some, none)

-- a slot of no node is used otherwise
taken_otherwise : (cells : Cells) (layout : Layout) (slot : ℕ) (taken : List ℕ) (r : Record) → Represents cells layout → slot < length cells.records → count_by (has_slot slot) (nodes_of layout.areas) ≡ 0
    → ((q : ℕ) → q ≢ slot → times q taken ≡ times q layout.taken) → times slot taken ≡ uses_in r.state → Represents (with_record cells slot r) (record layout { taken = taken })
taken_otherwise cells layout slot taken r was within none same here =
    let records : List Record = set cells.records slot r in
    let others : (q : ℕ) → q ≢ slot → record_at records q ≡ record_at cells.records q = λ q apart. record_at-set_other cells.records slot q r apart in
    let node_apart : (q : ℕ) → 1 ≤ count_by (has_slot q) (nodes_of layout.areas) → q ≢ slot = λ q h. counted_apart (λ n. count_by (has_slot n) (nodes_of layout.areas)) q slot h none in
    record {
      count = length-set cells.records slot r ∙ was.count;
      entries = was.entries;
      chains = record {
        chains = chains_same (pool_views cells.records) (pool_views records) layout.areas (λ q h. ap pool_view (others q (node_apart q h))) was.chains.chains;
        once = λ q. elim (cases_eq q slot) [
          | inl at ↦
              let P : ℕ → Type 0 = λ n. count_by (has_slot n) (nodes_of layout.areas) + times n taken ≡ uses_in (record_at records n).state in
              subst P (sym at) (omega (arith, none, here, ap (λ (x : Record). uses_in x.state) (record_at-set_same cells.records slot r within)))
          | inr apart ↦ omega (arith, was.chains.once q, same q apart, ap (λ (x : Record). uses_in x.state) (others q apart))
        ];
      };
      index = index_same (list_views cells.records) (list_views records) cells.heads cells.step_words cells.level_word layout.lists
          (λ number q h. ap list_view (others q (node_apart q (omega (arith, h, listed_within layout.areas layout.lists was.agree number q))))) was.index;
      agree = was.agree;
    }

pub slot_taken : (cells : Cells) (layout : Layout) (slot : ℕ) → Represents cells layout → slot < length cells.records → record_at cells.records slot ≡ blank → Represents (with_taken cells (Some slot)) (record layout { taken = slot ∷ layout.taken })
slot_taken cells layout slot was within vacant =
    let spare = ap (λ (x : Record). uses_in x.state) vacant in
    taken_otherwise cells layout slot (slot ∷ layout.taken) (blank_in Free) was within (omega (arith, was.chains.once slot, spare))
    (λ q apart. omega (arith, times-cons q slot layout.taken, ap one_if (ne_eqb slot q (λ e. apart (sym e)))))
    (omega (arith, was.chains.once slot, spare, times-cons slot slot layout.taken, ap one_if (eq-eqb slot slot refl)))
