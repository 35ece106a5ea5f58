-- What a write, a take and a give leave of a table as it stands in memory.
use Rattle.std.proofs.Common.{◌≡◌, ◌≢◌, ℕ, suc, ◌+◌, ◌-◌, ◌<◌, true, false, List, length, set, Option, Some, None, All, ◌∙◌, sym, ap, subst, refl, arith}
use Rattle.std.proofs.lemmas.Bool.{false≢true}
use Rattle.std.proofs.lemmas.List.{length-set, get_or-set_same, get_or-set_other}
use Rattle.std.proofs.lemmas.List.Elements.{All-set}
use Rattle.tlsf_store.specs.declared.records.Record.{Record}
use Rattle.tlsf_store.specs.Records.{blank, record_at, is_vacant, IsBelow, IsKept}
use Rattle.tlsf_store.specs.Table.{IsVacantAt, next_at, IsTable}
use Rattle.tlsf_store.specs.Table.{IsChain}
use Rattle.tlsf_store.proofs.Chains.{BeginsAt, chain_begins, chain_none, chain_stays, chain_away_from_first, chain_away_from_used}
use Rattle.tlsf_store.proofs.RecordLaws.{vacant_count-set, mark-vacant, mark-used}

-- a slot other than the changed one is vacant as before, with the same link
others : (records : List Record) (slot : ℕ) (r : Record) (q : ℕ) → q ≢ slot → IsVacantAt records q →
    IsVacantAt (set records slot r) q × (next_at (set records slot r) q ≡ next_at records q)
others records slot r q other at =
    let same : record_at (set records slot r) q ≡ record_at records q = get_or-set_other records slot q r blank other in
    let long : length (set records slot r) ≡ length records = length-set records slot r in
    ((omega (arith, at.0), ap (λ v. is_vacant v.state) same ∙ at.1), ap (λ v. v.next) same)

kept-set : (records : List Record) (slot : ℕ) (r : Record) → IsKept (length records) r → All (IsKept (length records)) records →
    All (IsKept (length (set records slot r))) (set records slot r)
kept-set records slot r one all =
    let long : length (set records slot r) ≡ length records = length-set records slot r in
    subst (λ n. All (IsKept n) (set records slot r)) (sym long) (All-set (IsKept (length records)) records slot r one all)

pub table_write : (records : List Record) (first : Option ℕ) (vacant : ℕ) → IsTable records first vacant → (slot : ℕ) (r : Record) →
    slot < length records → is_vacant (record_at records slot).state ≡ false → is_vacant r.state ≡ false →
    IsKept (length records) r → IsTable (set records slot r) first vacant
table_write records first vacant table slot r within used new one =
    let away : IsVacantAt records slot → ⊥ = λ at. false≢true (sym used ∙ at.1) in
    record {
      few = let long : length (set records slot r) ≡ length records = length-set records slot r in omega (arith, table.few);
      kept = kept-set records slot r one table.kept;
      chained =
          chain_stays (IsVacantAt records) (IsVacantAt (set records slot r)) (next_at records) (next_at (set records slot r)) slot
          (others records slot r) vacant first
          (chain_away_from_used (IsVacantAt records) (next_at records) vacant slot away) table.chained;
      counted = omega (arith, vacant_count-set records slot r within, mark-used (record_at records slot) used, mark-used r new, table.counted);
    }

-- what is left when the first vacant slot is taken
pub record IsTaken (records : List Record) (slot vacant : ℕ) (r : Record) : Type 0 where
  pub within : slot < length records
  pub was : is_vacant (record_at records slot).state ≡ true
  pub some : 0 < vacant
  pub table : IsTable (set records slot r) (next_at records slot) (vacant - 1)

pub table_take : (records : List Record) (vacant slot : ℕ) → IsTable records (Some slot) vacant → (r : Record) →
    is_vacant r.state ≡ false → IsKept (length records) r → IsTaken records slot vacant r
table_take records vacant slot table r new one =
    let begins : BeginsAt (IsVacantAt records) (next_at records) vacant slot =
    chain_begins (IsVacantAt records) (next_at records) vacant slot table.chained in
    let within : slot < length records = begins.first.0 in
    let was : is_vacant (record_at records slot).state ≡ true = begins.first.1 in
    record {
      within = within;
      was = was;
      some = begins.some;
      table = record {
        few = let long : length (set records slot r) ≡ length records = length-set records slot r in omega (arith, table.few);
        kept = kept-set records slot r one table.kept;
        chained =
            chain_stays (IsVacantAt records) (IsVacantAt (set records slot r)) (next_at records) (next_at (set records slot r)) slot
            (others records slot r) (vacant - 1) (next_at records slot)
            (chain_away_from_first (IsVacantAt records) (next_at records) vacant slot table.chained) begins.rest;
        counted = omega (arith, vacant_count-set records slot r within, mark-vacant (record_at records slot) was, mark-used r new, table.counted);
      };
    }

-- a chain's first slot is in the table
pub first_below : (records : List Record) (first : Option ℕ) (vacant : ℕ) → IsTable records first vacant → IsBelow (length records) first
first_below records None vacant table = tt
first_below records (Some slot) vacant table =
    (chain_begins (IsVacantAt records) (next_at records) vacant slot table.chained).first.0

pub table_give : (records : List Record) (first : Option ℕ) (vacant : ℕ) → IsTable records first vacant → (slot : ℕ) (r : Record) →
    slot < length records → is_vacant (record_at records slot).state ≡ false → is_vacant r.state ≡ true → r.next ≡ first →
    IsKept (length records) r → IsTable (set records slot r) (Some slot) (vacant + 1)
table_give records first vacant table slot r within used new link one =
    let away : IsVacantAt records slot → ⊥ = λ at. false≢true (sym used ∙ at.1) in
    let long : length (set records slot r) ≡ length records = length-set records slot r in
    let here : record_at (set records slot r) slot ≡ r = get_or-set_same records slot r blank within in
    let rest : IsChain (IsVacantAt (set records slot r)) (next_at (set records slot r)) vacant first =
    chain_stays (IsVacantAt records) (IsVacantAt (set records slot r)) (next_at records) (next_at (set records slot r)) slot
    (others records slot r) vacant first
    (chain_away_from_used (IsVacantAt records) (next_at records) vacant slot away) table.chained in
    let next : next_at (set records slot r) slot ≡ first = ap (λ v. v.next) here ∙ link in
    let begun : IsChain (IsVacantAt (set records slot r)) (next_at (set records slot r)) (suc vacant) (Some slot) = (
      slot,
      refl,
      (omega arith, ap (λ v. is_vacant v.state) here ∙ new),
      subst (λ v. IsChain (IsVacantAt (set records slot r)) (next_at (set records slot r)) vacant v) (sym next) rest,
    ) in
    let more : suc vacant ≡ vacant + 1 = omega arith in
    record {
      few = omega (arith, table.few);
      kept = kept-set records slot r one table.kept;
      chained = subst (λ n. IsChain (IsVacantAt (set records slot r)) (next_at (set records slot r)) n (Some slot)) more begun;
      counted = omega (arith, vacant_count-set records slot r within, mark-used (record_at records slot) used, mark-vacant r new, table.counted);
    }

-- with no first slot, none is vacant
pub table_none : (records : List Record) (vacant : ℕ) → IsTable records None vacant → vacant ≡ 0
table_none records vacant table = chain_none (IsVacantAt records) (next_at records) vacant table.chained
