-- A table as callers see it: what a write, a take and a give change.
use Rattle.std.proofs.Common.{◌≡◌, ◌≢◌, ℕ, ◌+◌, ◌-◌, ◌<◌, true, false, Bool, cond, if◌then◌else◌, List, [], ◌∷◌, length, set, map, slice_index_or, Option, Some, ◌∙◌, sym, ap, subst, refl, arith}
use Rattle.std.proofs.lemmas.List.{length-map, length-set, map-set, get_or-map, get_or_default}
use Rattle.std.proofs.lemmas.List.Sums.{sum_by-cons}
use Rattle.tlsf_store.specs.declared.records.State.TheVariants.{Vacant, Free}
use Rattle.tlsf_store.specs.declared.records.Record.{Record}
use Rattle.tlsf_store.specs.Records.{blank, blank_in, record_at, is_vacant, vacant_count, IsKept}
use Rattle.tlsf_store.specs.Table.{seen, next_at, IsTable, IsStored}
use Rattle.tlsf_store.proofs.RecordLaws.{mark, used_state}
use Rattle.tlsf_store.proofs.TableLaws.{table_write, table_give, table_take, first_below, IsTaken}

seen_if : (b : Bool) (r : Record) → is_vacant r.state ≡ b → is_vacant (if b then blank else r).state ≡ b
seen_if true r is = refl
seen_if false r is = is

pub seen-vacant : (r : Record) → is_vacant (seen r).state ≡ is_vacant r.state
seen-vacant r = seen_if (is_vacant r.state) r refl

pub seen-used : (r : Record) → is_vacant r.state ≡ false → seen r ≡ r
seen-used r is = rw is refl

pub seen-free : (r : Record) → is_vacant r.state ≡ true → seen r ≡ blank
seen-free r is = rw is refl

-- the record that callers see at a slot
pub record_at-seen : (records : List Record) (slot : ℕ) → slot < length records →
    record_at (map seen records) slot ≡ seen (record_at records slot)
record_at-seen records slot within = get_or-map seen records slot blank blank within

pub vacant_count-seen : (records : List Record) → vacant_count (map seen records) ≡ vacant_count records
vacant_count-seen [] = refl
vacant_count-seen (r ∷ rs) =
    let here : mark (seen r) ≡ mark r = ap (λ v. cond v 1 0) (seen-vacant r) in
    omega (arith, here, vacant_count-seen rs, sum_by-cons mark (seen r) (map seen rs), sum_by-cons mark r rs)

pub shown_length : (records shown : List Record) → map seen records ≡ shown → length records ≡ length shown
shown_length records shown view = sym (length-map records seen) ∙ ap length view

shown_at : (records shown : List Record) → map seen records ≡ shown → (slot : ℕ) → slot < length records →
    record_at shown slot ≡ seen (record_at records slot)
shown_at records shown view slot within = ap (λ v. record_at v slot) (sym view) ∙ record_at-seen records slot within

shown_used : (records shown : List Record) → map seen records ≡ shown → (slot : ℕ) → slot < length records →
    (record_at shown slot).state ≢ Vacant → is_vacant (record_at records slot).state ≡ false
shown_used records shown view slot within used =
    sym (seen-vacant (record_at records slot)) ∙ (ap (λ v. is_vacant v.state) (sym (shown_at records shown view slot within)) ∙ used_state (record_at shown slot).state used)

shown_set : (records shown : List Record) → map seen records ≡ shown → (slot : ℕ) (r seen_as : Record) → seen r ≡ seen_as →
    map seen (set records slot r) ≡ set shown slot seen_as
shown_set records shown view slot r seen_as is =
    map-set seen records slot r ∙ (ap (λ v. set v slot (seen r)) view ∙ ap (λ v. set shown slot v) is)

-- a record is changed: the table, and what callers see
pub record Changed (records shown : List Record) (first : Option ℕ) (vacant : ℕ) : Type 0 where
  pub table : IsTable records first vacant
  pub view : map seen records ≡ shown

-- a used record: as it is kept callers see it, and in its place may stand another that is used and kept
pub record UsedAt (capacity room : ℕ) (records shown : List Record) (first : Option ℕ) (vacant slot : ℕ) (was : Record) : Type 0 where
  pub seen_as : was ≡ record_at shown slot
  pub kept : IsKept (length shown) (record_at shown slot)
  pub stored : (new : Record) → new.state ≢ Vacant → IsKept (length shown) new → IsStored capacity room (set records slot new) first vacant
  pub view : (new : Record) → new.state ≢ Vacant → map seen (set records slot new) ≡ set shown slot new

pub used_at : (capacity room : ℕ) (records shown : List Record) (first : Option ℕ) (vacant : ℕ) → IsStored capacity room records first vacant → map seen records ≡ shown →
    (slot : ℕ) → slot < length shown → (record_at shown slot).state ≢ Vacant → (was : Record) → was ≡ slice_index_or records slot was → UsedAt capacity room records shown first vacant slot was
used_at capacity room records shown first vacant stored view slot within used was is =
    let long : length records ≡ length shown = shown_length records shown view in
    let inside : slot < length records = omega arith in
    let used_here = shown_used records shown view slot inside used in
    let same : record_at shown slot ≡ record_at records slot = shown_at records shown view slot inside ∙ seen-used (record_at records slot) used_here in
    record {
      seen_as = is ∙ get_or_default records slot was blank inside ∙ sym same;
      kept = subst (IsKept (length shown)) (sym same) (subst (λ n. IsKept n (record_at records slot)) long (stored.table.kept slot blank inside));
      stored = λ new new_used kept. record {
        exact = stored.exact;
        fits = omega (arith, stored.fits, length-set records slot new);
        table = table_write records first vacant stored.table slot new inside used_here (used_state new.state new_used) (subst (λ n. IsKept n new) (sym long) kept);
      };
      view = λ new new_used. shown_set records shown view slot new new (seen-used new (used_state new.state new_used));
    }

pub give_changes : (records shown : List Record) (first : Option ℕ) (vacant : ℕ) → IsTable records first vacant →
    map seen records ≡ shown → (slot : ℕ) (r : Record) → slot < length shown → (record_at shown slot).state ≢ Vacant →
    r ≡ record blank { next = first } → Changed (set records slot r) (set shown slot blank) (Some slot) (vacant + 1)
give_changes records shown first vacant table view slot r within used is =
    let long : length records ≡ length shown = shown_length records shown view in
    let inside : slot < length records = omega arith in
    let new : is_vacant r.state ≡ true = ap (λ v. is_vacant v.state) is in
    let link : r.next ≡ first = ap (λ v. v.next) is in
    let below : IsKept (length records) (record blank { next = first }) =
    record { place = refl; size = refl; prev = tt; next = first_below records first vacant table; prev_free = tt; next_free = tt } in
    let kept : IsKept (length records) r = subst (λ v. IsKept (length records) v) (sym is) below in
    record {
      table = table_give records first vacant table slot r inside (shown_used records shown view slot inside used) new link kept;
      view = shown_set records shown view slot r blank (seen-free r new);
    }

-- a take: the slot was vacant, and its record is now that of a block to come
pub record Taken (records shown : List Record) (slot vacant : ℕ) : Type 0 where
  pub within : slot < length shown
  pub was : record_at shown slot ≡ blank
  pub some : 0 < vacant
  pub changed : Changed (set records slot (blank_in Free)) (set shown slot (blank_in Free)) (next_at records slot) (vacant - 1)

pub take_changes : (records shown : List Record) (vacant slot : ℕ) → IsTable records (Some slot) vacant → map seen records ≡ shown →
    Taken records shown slot vacant
take_changes records shown vacant slot table view =
    let long : length records ≡ length shown = shown_length records shown view in
    let kept : IsKept (length records) (blank_in Free) =
    record { place = refl; size = refl; prev = tt; next = tt; prev_free = tt; next_free = tt } in
    let taken : IsTaken records slot vacant (blank_in Free) = table_take records vacant slot table (blank_in Free) refl kept in
    record {
      within = let inside : slot < length records = taken.within in omega arith;
      was = shown_at records shown view slot taken.within ∙ seen-free (record_at records slot) taken.was;
      some = taken.some;
      changed = record {
        table = taken.table;
        view = shown_set records shown view slot (blank_in Free) (blank_in Free) refl;
      };
    }
