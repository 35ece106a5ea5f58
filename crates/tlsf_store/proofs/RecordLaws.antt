-- Vacant records counted, and records written and read back.
use Rattle.std.proofs.Common.{◌≡◌, ◌≢◌, ℕ, zero, suc, ◌+◌, ◌<◌, ◌≤◌, true, false, cond, List, length, set, replicate, Option, Some, None, ap, refl, arith}
use Rattle.std.proofs.lemmas.Bool.{cond-true, cond-false, ne_eqb}
use Rattle.std.proofs.lemmas.List.{get_or-set_same, get_or-set_other}
use Rattle.std.proofs.lemmas.List.Sums.{sum_by-set, sum_by-cons}
use Rattle.tlsf_store.specs.declared.records.State.{State}
use Rattle.tlsf_store.specs.declared.records.State.TheVariants.{Vacant, Free, Live}
use Rattle.tlsf_store.specs.declared.records.Record.{Record}
use Rattle.tlsf_store.specs.Records.{blank, record_at, is_vacant, vacant_count, IsBelow}
use Rattle.tlsf_store.specs.Slots.{missing, link_of}

-- a word that isn't that of a missing link is that of a slot
pub link_of-slot : (word : ℕ) → word ≢ missing → link_of word ≡ Some word
link_of-slot word there = rw (ne_eqb word missing there) refl

-- what a record adds to the count of vacant records
abbrev pub mark : Record → ℕ
mark r = cond (is_vacant r.state) 1 0

-- a written record counts in place of the one that was there
pub vacant_count-set : (records : List Record) (slot : ℕ) (r : Record) → slot < length records →
    vacant_count (set records slot r) + mark (record_at records slot) ≡ vacant_count records + mark r
vacant_count-set records slot r within = sum_by-set mark records slot r blank within

pub mark-vacant : (r : Record) → is_vacant r.state ≡ true → mark r ≡ 1
mark-vacant r is = cond-true _ _ _ is

pub mark-used : (r : Record) → is_vacant r.state ≡ false → mark r ≡ 0
mark-used r is = cond-false _ _ _ is

-- a state other than vacant
pub used_state : (s : State) → s ≢ Vacant → is_vacant s ≡ false
used_state Vacant used = absurd (used refl)
used_state Free used = refl
used_state Live used = refl

-- a table of vacant records
pub vacant_count-replicate : (n : ℕ) → vacant_count (replicate n blank) ≡ n
vacant_count-replicate zero = refl
vacant_count-replicate (suc n) = omega (arith, vacant_count-replicate n, sum_by-cons mark blank (replicate n blank))

-- a used record written over a vacant one leaves one vacant record less
pub vacant_count-take : (records : List Record) (slot : ℕ) (r : Record) → slot < length records → record_at records slot ≡ blank →
    r.state ≢ Vacant → vacant_count (set records slot r) + 1 ≡ vacant_count records
vacant_count-take records slot r within was new =
    omega (arith, vacant_count-set records slot r within, mark-vacant (record_at records slot) (ap (λ v. is_vacant v.state) was), mark-used r (used_state r.state new))

-- the record that was written
pub record_at-set_same : (records : List Record) (slot : ℕ) (r : Record) → slot < length records → record_at (set records slot r) slot ≡ r
record_at-set_same records slot r within = get_or-set_same records slot r blank within

-- each other record is as it was
pub record_at-set_other : (records : List Record) (slot q : ℕ) (r : Record) → q ≢ slot → record_at (set records slot r) q ≡ record_at records q
record_at-set_other records slot q r other = get_or-set_other records slot q r blank other

-- what a table keeps, a longer one keeps: a link
pub below_more : (count more : ℕ) (link : Option ℕ) → count ≤ more → IsBelow count link → IsBelow more link
below_more count more None most below = tt
below_more count more (Some slot) most below = omega arith
