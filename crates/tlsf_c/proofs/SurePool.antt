-- The sure pool of some numbers is larger than what may refuse a request within them.
use Rattle.std.proofs.Common.{◌≡◌, ℕ, ◌<◌, ◌&&◌, Some, None, inl, inr, refl, arith}
use Rattle.std.specs.Prelude.{◌%◌, nat_le}
use Rattle.std.proofs.lemmas.Bool.{cases_Bool}
use Rattle.tlsf_class.specs.Classes.{greatest_size}
use Rattle.tlsf_store.specs.Records.{most_records}
use Rattle.tlsf_heap.specs.Sizing.{most_refusing, sure_records, sure_bytes, sure_pool}

-- the sure pool has more bytes than may refuse
pub more_than_refusing : (blocks bytes size least : ℕ) → sure_pool blocks bytes (Some size) ≡ Some least → most_refusing 1 blocks bytes size < least
more_than_refusing blocks bytes size least is = elim (cases_Bool (nat_le (sure_records blocks) most_records && nat_le (sure_bytes blocks bytes size) greatest_size)) [
  | inl small ↦ (let told : sure_pool blocks bytes (Some size) ≡ Some (sure_bytes blocks bytes size) = rw small refl in let same : sure_bytes blocks bytes size ≡ least = cc in omega (arith, same))
  | inr large ↦ (let none : sure_pool blocks bytes (Some size) ≡ None = rw large refl in absurd (cc))
]

-- and these are whole units
pub sure_in_units : (blocks bytes size least : ℕ) → sure_pool blocks bytes (Some size) ≡ Some least → least % 16 ≡ 0
sure_in_units blocks bytes size least is = elim (cases_Bool (nat_le (sure_records blocks) most_records && nat_le (sure_bytes blocks bytes size) greatest_size)) [
  | inl small ↦ (let told : sure_pool blocks bytes (Some size) ≡ Some (sure_bytes blocks bytes size) = rw small refl in let same : sure_bytes blocks bytes size ≡ least = cc in omega (arith, same))
  | inr large ↦ (let none : sure_pool blocks bytes (Some size) ≡ None = rw large refl in absurd (cc))
]
