-- How records read after one of them was edited.
use Rattle.std.proofs.Common.{◌≡◌, ◌≢◌, ℕ, ◌<◌, List, length, set, refl, sym, ap, ◌∙◌, subst, Option, Some, None, inl, inr}
use Rattle.std.proofs.lemmas.Bool.{cases_eq, cases_lt}
use Rattle.std.proofs.lemmas.List.{length-set, set_past}
use Rattle.tlsf_store.specs.declared.records.Record.{Record}
use Rattle.tlsf_store.specs.Records.{record_at}
use Rattle.tlsf_store.proofs.RecordLaws.{record_at-set_same, record_at-set_other}
use Rattle.tlsf_heap.specs.Inner.Edits.{edited_in}

pub length-edited : (edit : Record → Record) (slot : Option ℕ) (records : List Record) → length (edited_in edit slot records) ≡ length records
length-edited edit None records = refl
length-edited edit (Some slot) records = length-set records slot _

pub edited_here : (edit : Record → Record) (slot : Option ℕ) (records : List Record) (q : ℕ) → q < length records → slot ≡ Some q → record_at (edited_in edit slot records) q ≡ edit (record_at records q)
edited_here edit slot records q within is =
    let P : Option ℕ → Type 0 = λ o. record_at (edited_in edit o records) q ≡ edit (record_at records q) in
    subst P (sym is) (record_at-set_same records q _ within)

pub edited_apart : (edit : Record → Record) (slot : Option ℕ) (records : List Record) (q : ℕ) → slot ≢ Some q → record_at (edited_in edit slot records) q ≡ record_at records q
edited_apart edit None records q apart = refl
edited_apart edit (Some slot) records q apart = record_at-set_other records slot q _ (λ e. apart (ap Some (sym e)))

-- a view that the edit leaves alone
module _ {V : Type 0} (view : Record → V) where
  pub set_kept : (records : List Record) (slot : ℕ) (r : Record) → view r ≡ view (record_at records slot) → (q : ℕ) → view (record_at (set records slot r) q) ≡ view (record_at records q)
  set_kept records slot r same q = elim (cases_eq q slot) [
    | inl here ↦ elim (cases_lt slot (length records)) [
      | inl within ↦
          let P : ℕ → Type 0 = λ n. view (record_at (set records slot r) n) ≡ view (record_at records n) in
          subst P (sym here) (ap view (record_at-set_same records slot r within) ∙ same)
      | inr past ↦ ap (λ (rs : List Record). view (record_at rs q)) (set_past records slot r past)
    ]
    | inr apart ↦ ap view (record_at-set_other records slot q r apart)
  ]

  pub edited_kept : (edit : Record → Record) → ((r : Record) → view (edit r) ≡ view r) → (slot : Option ℕ) (records : List Record) (q : ℕ) → view (record_at (edited_in edit slot records) q) ≡ view (record_at records q)
  edited_kept edit same None records q = refl
  edited_kept edit same (Some slot) records q = set_kept records slot (edit (record_at records slot)) (same (record_at records slot)) q
