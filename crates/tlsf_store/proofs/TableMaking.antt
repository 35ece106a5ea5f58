-- A table as it is made, from the first slot on.
use Rattle.std.proofs.Common.{◌≡◌, ◌≢◌, ℕ, suc, ◌+◌, ◌<◌, ◌≤◌, true, List, [], ◌∷◌, ◌++◌, length, map, replicate, Option, Some, None, All, ◌∙◌, sym, ap, subst, refl, arith}
use Rattle.std.proofs.lemmas.List.{length_push, get_or_push, get_or_append_left, map_push, replicate_more}
use Rattle.std.proofs.lemmas.List.Elements.{All-push}
use Rattle.tlsf_store.specs.declared.records.Record.{Record}
use Rattle.tlsf_store.specs.Records.{most_records, blank, record_at, is_vacant, vacant_count, IsBelow, IsKept}
use Rattle.tlsf_store.specs.Table.{seen, IsVacantAt, next_at, IsTable}
use Rattle.tlsf_store.specs.Table.{IsChain}
use Rattle.tlsf_store.proofs.Chains.{BeginsAt, chain_begins, chain_stays, chain_away_from_used}
use Rattle.tlsf_store.proofs.RecordLaws.{vacant_count-replicate}
use Rattle.tlsf_store.proofs.TableViews.{seen-free, vacant_count-seen}

-- `number` vacant records of the `count` that are to come, each linked to the one before
pub record IsBegun (count : ℕ) (records : List Record) (first : Option ℕ) (number : ℕ) : Type 0 where
  pub long : length records ≡ number
  pub kept : All (IsKept count) records
  pub chained : IsChain (IsVacantAt records) (next_at records) number first
  pub seen_as : map seen records ≡ replicate number blank

-- one more record at the end, linked to the one before
pub begun_more : (count : ℕ) (records : List Record) (first : Option ℕ) (number : ℕ) → IsBegun count records first number → (r : Record) →
    is_vacant r.state ≡ true → r.next ≡ first → IsKept count r → IsBegun count (records ++ r ∷ []) (Some number) (number + 1)
begun_more count records first number begun r new link one =
    let longer : length (records ++ r ∷ []) ≡ length records + 1 = length_push records r in
    let long : length records ≡ number = begun.long in
    let here : record_at (records ++ r ∷ []) number ≡ r = get_or_push records r blank number long in
    let next : next_at (records ++ r ∷ []) number ≡ first = ap (λ v. v.next) here ∙ link in
    let stays : (q : ℕ) → q ≢ number → IsVacantAt records q → IsVacantAt (records ++ r ∷ []) q × (next_at (records ++ r ∷ []) q ≡ next_at records q) =
    λ q other at.
    let same : record_at (records ++ r ∷ []) q ≡ record_at records q = get_or_append_left records (r ∷ []) blank q at.0 in
    ((omega (arith, at.0), ap (λ v. is_vacant v.state) same ∙ at.1), ap (λ v. v.next) same) in
    let away : IsVacantAt records number → ⊥ = λ at. omega (arith, at.0) in
    let rest : IsChain (IsVacantAt (records ++ r ∷ [])) (next_at (records ++ r ∷ [])) number first =
    chain_stays (IsVacantAt records) (IsVacantAt (records ++ r ∷ [])) (next_at records) (next_at (records ++ r ∷ [])) number
    stays number first (chain_away_from_used (IsVacantAt records) (next_at records) number number away) begun.chained in
    let begins : IsChain (IsVacantAt (records ++ r ∷ [])) (next_at (records ++ r ∷ [])) (suc number) (Some number) = (
      number,
      refl,
      (omega arith, ap (λ v. is_vacant v.state) here ∙ new),
      subst (λ v. IsChain (IsVacantAt (records ++ r ∷ [])) (next_at (records ++ r ∷ [])) number v) (sym next) rest,
    ) in
    let more : suc number ≡ number + 1 = omega arith in
    record {
      long = omega arith;
      kept = All-push (IsKept count) records r begun.kept one;
      chained = subst (λ n. IsChain (IsVacantAt (records ++ r ∷ [])) (next_at (records ++ r ∷ [])) n (Some number)) more begins;
      seen_as =
          map_push seen records r
          ∙ (ap (λ v. v ++ seen r ∷ []) begun.seen_as
          ∙ (ap (λ v. replicate number blank ++ v ∷ []) (seen-free r new) ∙ replicate_more number blank));
    }

-- a link to the one before is into the table
begun_below : (count : ℕ) (records : List Record) (first : Option ℕ) (number : ℕ) → IsBegun count records first number → number < count → IsBelow count first
begun_below count records None number begun less = tt
begun_below count records (Some slot) number begun less =
    let begins : BeginsAt (IsVacantAt records) (next_at records) number slot = chain_begins (IsVacantAt records) (next_at records) number slot begun.chained in
    let within : slot < length records = begins.first.0 in
    omega (arith, begun.long)

-- a vacant record linked to the one before is one that the table keeps
pub begun_kept : (count : ℕ) (records : List Record) (first : Option ℕ) (number : ℕ) → IsBegun count records first number → number < count →
    (r : Record) → r ≡ record blank { next = first } → IsKept count r
begun_kept count records first number begun less r is =
    let kept : IsKept count (record blank { next = first }) =
    record { place = refl; size = refl; prev = tt; next = begun_below count records first number begun less; prev_free = tt; next_free = tt } in
    subst (λ v. IsKept count v) (sym is) kept

pub begun_vacant : (count : ℕ) (records : List Record) (first : Option ℕ) (number : ℕ) → IsBegun count records first number → number < count →
    (r : Record) → r ≡ record blank { next = first } → IsBegun count (records ++ r ∷ []) (Some number) (number + 1)
begun_vacant count records first number begun less r is =
    begun_more count records first number begun r (ap (λ v. is_vacant v.state) is) (ap (λ v. v.next) is)
    (begun_kept count records first number begun less r is)

-- a whole table of vacant records
pub begun_all : (count : ℕ) (records : List Record) (first : Option ℕ) → IsBegun count records first count → count ≤ most_records →
    IsTable records first count
begun_all count records first begun few =
    record {
      few = omega (arith, begun.long);
      kept = subst (λ n. All (IsKept n) records) (sym begun.long) begun.kept;
      chained = begun.chained;
      counted = sym (vacant_count-seen records) ∙ (ap vacant_count begun.seen_as ∙ vacant_count-replicate count);
    }
