-- Good settings have all their pools added.
use Rattle.std.proofs.Common.{◌≡◌, ◌≢◌, ℕ, zero, suc, ◌+◌, ◌*◌, ◌%◌, ◌<◌, ◌≤◌, Bool, true, false, cond, not, List, [], ◌∷◌, length, None, length-append, refl, sym, ap, ◌∙◌, subst, arith}
use Rattle.std.specs.Prelude.{◌||◌, nat_lt, nat_le, Ok}
use Rattle.std.specs.List.{AllByRecursion, list_all}
use Rattle.tlsf_class.specs.Classes.{unit, greatest_size}
use Rattle.tlsf_heap.specs.Content.{Block, Pool, used_records, blocks_of}
use Rattle.tlsf_heap.specs.Malloc.{gap}
use Rattle.tlsf_heap.specs.Room.{pool_bytes}
use Rattle.tlsf_heap.specs.Pools.{most_pools, most_records, end_of_places, add_pool, with_pool, is_apart, can_be_pool, in_order_of_base, created}
use Rattle.mtrace_replay.specs.declared.heap.settings.Settings.{Settings}
use Rattle.mtrace_replay.specs.Settings.{are_bad}
use Rattle.mtrace_replay.specs.Fit.{one_pool}
use Rattle.tlsf_heap.proofs.Content.PoolCases.{pool_is_added}
use Rattle.mtrace_replay.specs.Started.{Bare, with_pools, left_by, started}
use Rattle.std.proofs.lemmas.Bool.{ltb-false, lt-ltb, le-leb, lt-leb, eqb-true, eq-eqb, ne_eqb}
use Rattle.std.proofs.lemmas.Nat.{mul-mod_second}
use Rattle.std.proofs.Math.Nat.{mul-le-mul_right}

or_false : (a b : Bool) → a || b ≡ false → (a ≡ false) × (b ≡ false)
or_false true b h = absurd (cc)
or_false false b h = (refl, h)

not_false : (a : Bool) → not a ≡ false → a ≡ true
not_false true h = refl
not_false false h = absurd (cc)

-- what settings that are not bad keep
record AreGood (settings : Settings) : Type 0 where
  in_units : settings.pool % unit ≡ 0
  least : unit ≤ settings.pool
  most : settings.pool ≤ greatest_size
  few : settings.pools ≤ most_pools
  few_records : settings.records ≤ most_records
  room : settings.pools ≤ settings.records
  ends : settings.pool * settings.pools ≤ end_of_places

are_good : (settings : Settings) → are_bad settings ≡ false → AreGood settings
are_good settings h =
    let a = or_false _ _ h in
    let b = or_false _ _ a.1 in
    let c = or_false _ _ b.1 in
    let d = or_false _ _ c.1 in
    let e = or_false _ _ d.1 in
    let f = or_false _ _ e.1 in
    let g = or_false _ _ f.1 in
    let i = or_false _ _ g.1 in
    record {
      in_units = eqb-true _ _ (not_false _ a.0);
      least = ltb-false _ _ b.0;
      most = ltb-false _ _ c.0;
      few = ltb-false _ _ e.0;
      few_records = ltb-false _ _ g.0;
      room = ltb-false _ _ i.0;
      ends = ltb-false _ _ i.1;
    }

-- this many pools are left to add, all below those that stand
record IsReady (settings : Settings) (left : ℕ) (content : Bare) : Type 0 where
  above : AllByRecursion (λ (pool : Pool (Unit {0})). left * settings.pool ≤ pool.base) content.pools
  count : left + length content.pools ≡ settings.pools
  used : used_records content ≡ length content.pools
  records : content.records ≡ settings.records
  bytes : left * settings.pool + pool_bytes content.pools ≡ settings.pools * settings.pool

-- pools at or above a base are apart from one that ends there
all_apart : (base bytes above : ℕ) (pools : List (Pool (Unit {0}))) → base + bytes ≤ above → AllByRecursion (λ (pool : Pool (Unit {0})). above ≤ pool.base) pools → list_all (is_apart base bytes) pools ≡ true
all_apart base bytes above [] ends a = refl
all_apart base bytes above (pool ∷ pools) ends a =
    let apart : nat_le (base + bytes) pool.base ≡ true = le-leb _ _ (omega (arith, ends, a.0)) in
    rw apart (all_apart base bytes above pools ends a.1)

-- a pool below the others stands in front
in_front : (pool : Pool (Unit {0})) (above : ℕ) (pools : List (Pool (Unit {0}))) → pool.base < above → AllByRecursion (λ (other : Pool (Unit {0})). above ≤ other.base) pools → in_order_of_base pool pools ≡ pool ∷ pools
in_front pool above [] below a = refl
in_front pool above (other ∷ pools) below a =
    let before : nat_lt pool.base other.base ≡ true = lt-ltb _ _ (omega (arith, below, a.0)) in
    rw before refl

all_lower : (from to : ℕ) (pools : List (Pool (Unit {0}))) → to ≤ from → AllByRecursion (λ (pool : Pool (Unit {0})). from ≤ pool.base) pools → AllByRecursion (λ (pool : Pool (Unit {0})). to ≤ pool.base) pools
all_lower from to [] h a = tt
all_lower from to (pool ∷ pools) h a = (omega (arith, h, a.0), all_lower from to pools h a.1)

module _ (settings : Settings) (good : AreGood settings) (i : ℕ) (content : Bare) (ready : IsReady settings (suc i) content) where
  next : suc i * settings.pool ≡ i * settings.pool + settings.pool
  next = grind arith

  can : can_be_pool (i * settings.pool) settings.pool ≡ true
  can =
      let base : (i * settings.pool) % unit ≡ 0 = sym (mul-mod_second i settings.pool unit) ∙ ap (λ n. (i * n) % unit) good.in_units ∙ ap (λ n. n % unit) (let zero_is : i * 0 ≡ 0 = omega arith in zero_is) in
      let some : suc i ≤ settings.pools = omega (arith, ready.count) in
      let turned : settings.pool * settings.pools ≡ settings.pools * settings.pool = grind arith in
      let ends : i * settings.pool + settings.pool ≤ end_of_places = omega (arith, next, mul-le-mul_right settings.pool some, turned, good.ends) in
      rw (eq-eqb _ _ base, eq-eqb _ _ good.in_units, le-leb _ _ good.least, le-leb _ _ good.most, le-leb _ _ ends) refl

  apart : list_all (is_apart (i * settings.pool) settings.pool) content.pools ≡ true
  apart = all_apart (i * settings.pool) settings.pool (suc i * settings.pool) content.pools (omega (arith, next)) ready.above

  is_added : add_pool (i * settings.pool) settings.pool content ≡ Ok (with_pool (i * settings.pool) settings.pool content)
  is_added =
      pool_is_added (i * settings.pool) settings.pool content (rw (can, apart) refl) (omega (arith, ready.count, good.few))
      (lt-leb _ _ (omega (arith, ready.count, ready.used, ready.records, good.room)))

  one_block : length (gap {A = Unit {0}} (i * settings.pool) settings.pool) ≡ 1
  one_block = let some : settings.pool ≢ 0 = (λ e. omega (arith, e, good.least)) in ap (λ b. length {A = Block (Unit {0})} (cond b [] (record { place = i * settings.pool; size = settings.pool; owner = None } ∷ []))) (ne_eqb settings.pool 0 some)

  stands : in_order_of_base (record { base = i * settings.pool; bytes = settings.pool; blocks = gap (i * settings.pool) settings.pool }) content.pools
      ≡ record { base = i * settings.pool; bytes = settings.pool; blocks = gap (i * settings.pool) settings.pool } ∷ content.pools
  stands = in_front _ (suc i * settings.pool) content.pools (omega (arith, next, good.least)) ready.above

  still_ready : IsReady settings i (with_pool (i * settings.pool) settings.pool content)
  still_ready =
      let P : List (Pool (Unit {0})) → Type 0 = λ pools. AllByRecursion (λ (pool : Pool (Unit {0})). i * settings.pool ≤ pool.base) pools in
      record {
        above = subst P (sym stands) (omega arith, all_lower (suc i * settings.pool) (i * settings.pool) content.pools (omega (arith, next)) ready.above);
        count = omega (arith, ap length stands, ready.count);
        used = ap (λ pools. length (blocks_of pools)) stands ∙ omega (arith, length-append (gap {A = Unit {0}} (i * settings.pool) settings.pool) (blocks_of content.pools), one_block, ready.used, ap length stands);
        records = ready.records;
        bytes = omega (arith, next, ap pool_bytes stands, ready.bytes);
      }

all_ready : (settings : Settings) → AreGood settings → (left : ℕ) (content : Bare) → IsReady settings left content → IsReady settings 0 (with_pools settings left content)
all_ready settings good zero content ready = ready
all_ready settings good (suc i) content ready =
    let P : Bare → Type 0 = λ new. IsReady settings 0 (with_pools settings i new) in
    subst P (sym (ap (left_by content) (is_added settings good i content ready)))
    (all_ready settings good i (with_pool (i * settings.pool) settings.pool content) (still_ready settings good i content ready))

is_started : (settings : Settings) → are_bad settings ≡ false → IsReady settings 0 (started settings)
unfolding started
is_started settings h = all_ready settings (are_good settings h) settings.pools (created settings.records) (record { above = tt; count = omega arith; used = refl; records = refl; bytes = omega arith })

-- where the settings are not bad, the heap starts with all their pools
pub all_pools_stand : (settings : Settings) → are_bad settings ≡ false → length (started settings).pools ≡ settings.pools
all_pools_stand settings h = omega (arith, (is_started settings h).count)

-- and with no more records than there can be
pub started_records : (settings : Settings) → are_bad settings ≡ false → (started settings).records ≤ most_records
started_records settings h = omega (arith, (is_started settings h).records, (are_good settings h).few_records)

-- as many as the settings say
pub started_room : (settings : Settings) → are_bad settings ≡ false → (started settings).records ≡ settings.records
started_room settings h = omega (arith, (is_started settings h).records)

-- and of the bytes that they say
pub started_bytes : (settings : Settings) → are_bad settings ≡ false → pool_bytes (started settings).pools ≡ settings.pools * settings.pool
started_bytes settings h = omega (arith, (is_started settings h).bytes)

-- a heap of one pool starts as the pool was added
pub one_pool_added : (pool records : ℕ) → are_bad (one_pool pool records) ≡ false → add_pool (0 * pool) pool (created records) ≡ Ok (started (one_pool pool records))
unfolding started
one_pool_added pool records h =
    let settings = one_pool pool records in
    let added = is_added settings (are_good settings h) 0 (created records) (record { above = tt; count = omega arith; used = refl; records = refl; bytes = omega arith }) in
    added ∙ ap Ok (sym (ap (left_by (created records)) added))
