-- What an image tells of records is alike to them, and of a live one no neighbours in a list.
use Rattle.std.proofs.Common.{◌≡◌, ℕ, true, List, length, map, refl, sym, ap, ◌∙◌, arith, None, inl, inr}
use Rattle.std.proofs.lemmas.Bool.{cases_lt}
use Rattle.std.proofs.lemmas.List.{get_or-map, get_or_past, length-map}
use Rattle.tlsf_store.specs.declared.records.State.{State}
use Rattle.tlsf_store.specs.declared.records.State.TheVariants.{Vacant, Free, Live}
use Rattle.tlsf_store.specs.declared.records.Record.{Record}
use Rattle.tlsf_store.specs.Records.{blank, record_at, is_free_state}
use Rattle.tlsf_heap.specs.Images.Rules.{is_used}
use Rattle.tlsf_heap.specs.Images.Described.{told_in, told_record}
use Rattle.tlsf_heap.specs.Inner.Represents.{pool_view, list_view}
use Rattle.tlsf_heap.proofs.Images.Alike.{AreAlike, LiveAlone}

told_state : (state : State) (r : Record) → r.state ≡ state → (told_in state r).state ≡ state
told_state Vacant r is = refl
told_state Free r is = is
told_state Live r is = is

told_in_pool : (state : State) (r : Record) → is_used state ≡ true → pool_view (told_in state r) ≡ pool_view r
told_in_pool Vacant r used = absurd (cc)
told_in_pool Free r used = refl
told_in_pool Live r used = refl

told_in_list : (state : State) (r : Record) → is_free_state state ≡ true → list_view (told_in state r) ≡ list_view r
told_in_list Vacant r free = absurd (cc)
told_in_list Free r free = refl
told_in_list Live r free = absurd (cc)

told_live : (state : State) (r : Record) → state ≡ Live → list_view (told_in state r) ≡ record { prev = None; next = None }
told_live Vacant r live = absurd (cc)
told_live Free r live = absurd (cc)
told_live Live r live = refl

module _ (records : List Record) where
  pub told_at : (slot : ℕ) → record_at (map told_record records) slot ≡ told_record (record_at records slot)
  told_at slot = elim (cases_lt slot (length records)) [
    | inl below ↦ get_or-map told_record records slot blank blank below
    | inr past ↦ get_or_past (map told_record records) slot blank (omega (arith, past, length-map records told_record)) ∙ sym (ap told_record (get_or_past records slot blank past))
  ]

  pub told_states : (slot : ℕ) → (record_at records slot).state ≡ (record_at (map told_record records) slot).state
  told_states slot = let r = record_at records slot in sym (ap (λ (q : Record). q.state) (told_at slot) ∙ told_state r.state r refl)

  pub told_alike : AreAlike records (map told_record records)
  told_alike = record {
    count = sym (length-map records told_record);
    states = told_states;
    in_pool = λ slot used. let r = record_at records slot in sym (ap pool_view (told_at slot) ∙ told_in_pool r.state r used);
    in_list = λ slot free. let r = record_at records slot in sym (ap list_view (told_at slot) ∙ told_in_list r.state r free);
  }

  pub told_alone : LiveAlone (map told_record records)
  told_alone slot live = let r = record_at records slot in ap list_view (told_at slot) ∙ told_live r.state r (told_states slot ∙ live)
