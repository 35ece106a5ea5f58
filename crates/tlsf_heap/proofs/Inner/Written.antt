-- The links of a block in its class's list, written with the rest of its record: the same is left as by writing them later.
use Rattle.std.proofs.Common.{◌≡◌, ◌≢◌, ℕ, ◌<◌, List, length, set, sym, ap, ◌∙◌, subst, arith, Option, Some, None, inl, inr}
use Rattle.std.proofs.lemmas.Bool.{cases_eq}
use Rattle.std.proofs.lemmas.List.{set-set, set-get_or, length-set}
use Rattle.tlsf_store.specs.declared.records.Record.{Record}
use Rattle.tlsf_store.specs.declared.records.State.TheVariants.{Vacant, Free}
use Rattle.tlsf_store.specs.Records.{blank, record_at}
use Rattle.tlsf_store.specs.Cells.{Cells, with_record, head_at}
use Rattle.tlsf_store.proofs.RecordLaws.{record_at-set_same, record_at-set_other}
use Rattle.tlsf_heap.specs.Inner.Edits.{IsUsed, put_first, with_state, linked}

-- a record is written, and then edited
pub edited_written : (records : List Record) (slot : ℕ) (value : Record) (edit : Record → Record) → slot < length records
    → set (set records slot value) slot (edit (record_at (set records slot value) slot)) ≡ set records slot (edit value)
edited_written records slot value edit below = rw (record_at-set_same records slot value below) (set-set records slot value (edit value))

-- a record that is written as it was
pub written_again : (records : List Record) (slot : ℕ) (value : Record) → value ≡ record_at records slot → set records slot value ≡ records
written_again records slot value same = ap (set records slot) same ∙ set-get_or records slot blank

-- the record of a block that becomes free has its links
pub freed_written : (cells : Cells) (class slot size : ℕ) → slot < length cells.records → size ≡ (record_at cells.records slot).size
    → put_first class slot (head_at cells.heads class) (with_record cells slot (record (record_at cells.records slot) { size = size; state = Free; prev_free = None; next_free = head_at cells.heads class })) ≡ linked class slot (with_state slot Free cells)
freed_written cells class slot size below same =
    let first : Option ℕ = head_at cells.heads class in
    let old : Record = record_at cells.records slot in
    ap (λ n. put_first class slot first (with_record cells slot (record old { size = n; state = Free; prev_free = None; next_free = first }))) same
    ∙ ap (λ records. put_first class slot first (record cells { records = records })) (sym (edited_written cells.records slot (record old { state = Free }) (λ r. record r { prev_free = None; next_free = first }) below))

-- the record of a block has its links already
pub linked_written : (cells : Cells) (class slot : ℕ) → (record_at cells.records slot).prev_free ≡ None → (record_at cells.records slot).next_free ≡ head_at cells.heads class
    → put_first class slot (head_at cells.heads class) cells ≡ linked class slot cells
linked_written cells class slot first next =
    let old : Record = record_at cells.records slot in
    ap (λ records. put_first class slot (head_at cells.heads class) (record cells { records = records }))
    (sym (written_again cells.records slot (record old { prev_free = None; next_free = head_at cells.heads class }) (λ i. record old { prev_free = sym first i; next_free = sym next i })))

-- a record that is written for a block is in use, and each other one is as it was
pub used_written : (records : List Record) (slot : ℕ) (value : Record) → value.state ≢ Vacant → (other : Option ℕ) → IsUsed records other → IsUsed (set records slot value) other
used_written records slot value is_used None used = used
used_written records slot value is_used (Some q) used = (
  omega (arith, used.0, length-set records slot value),
  elim (cases_eq q slot) [
    | inl at ↦
        let P : ℕ → Type 0 = λ n. n < length records → (record_at (set records slot value) n).state ≢ Vacant in
        subst P (sym at) (λ below e. is_used (sym (ap (λ (r : Record). r.state) (record_at-set_same records slot value below)) ∙ e)) used.0
    | inr apart ↦ λ e. used.1 (sym (ap (λ (r : Record). r.state) (record_at-set_other records slot q value apart)) ∙ e)
  ],
)
