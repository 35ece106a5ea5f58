-- Memory of the sure bytes has room for the sure pool.
use Rattle.std.proofs.Common.{◌≡◌, ℕ, ◌+◌, ◌*◌, ◌≤◌, Option, Some, None, inl, inr, refl, sym, ◌∙◌, ap, arith}
use Rattle.std.specs.Prelude.{option_map}
use Rattle.std.proofs.lemmas.Bool.{cases_eq, eq-eqb, ne_eqb}
use Rattle.tlsf_class.specs.Classes.{unit}
use Rattle.tlsf_heap.specs.Sizing.{class_size, sure_pool, sure_records, table_bytes}
use Rattle.tlsf_c.specs.Fronts.{front}
use Rattle.tlsf_c.specs.HeapPlaces.{HasHeapRoom, ArePlacesOf}
use Rattle.tlsf_c.specs.PoolPlaces.{bytes_in}
use Rattle.tlsf_c.specs.SureMemory.{with_front, sure_memory, HasSureBytes}
use Rattle.tlsf_c.specs.declared.heap_places.HeapPlaces.{HeapPlaces}
use Rattle.tlsf_c.proofs.SurePool.{sure_in_units}

-- the class and the pool that the sure bytes are of
pub record IsSure (part blocks bytes largest sure : ℕ) : Type 0 where
  pub size : ℕ
  pub least : ℕ
  pub sized : class_size 1 (largest + front) ≡ Some size
  pub pool : sure_pool blocks (bytes + blocks * unit) (Some size) ≡ Some least
  pub sums : sure ≡ part + front + table_bytes (sure_records blocks) + unit + least

module _ (part blocks bytes largest sure : ℕ) where
  of_pool : (size : ℕ) (pool : Option ℕ) → class_size 1 (largest + front) ≡ Some size → sure_pool blocks (bytes + blocks * unit) (Some size) ≡ pool
      → option_map (λ p. part + front + table_bytes (sure_records blocks) + unit + p) pool ≡ Some sure → IsSure part blocks bytes largest sure
  of_pool size None sized is told = absurd (cc)
  of_pool size (Some least) sized is told = record { size = size; least = least; sized = sized; pool = is; sums = cc }

  of_class : (class : Option ℕ) → class_size 1 (largest + front) ≡ class
      → option_map (λ p. part + front + table_bytes (sure_records blocks) + unit + p) (sure_pool blocks (bytes + blocks * unit) class) ≡ Some sure → IsSure part blocks bytes largest sure
  of_class None sized told = absurd (cc)
  of_class (Some size) sized told = of_pool size (sure_pool blocks (bytes + blocks * unit) (Some size)) sized refl told

  pub sure_is_of : sure_memory part blocks bytes largest ≡ Some sure → IsSure part blocks bytes largest sure
  sure_is_of told = elim (cases_eq largest 0) [
    | inl none ↦ (let gone : sure_memory part blocks bytes largest ≡ None = rw (eq-eqb largest 0 none) refl in absurd (cc))
    | inr some ↦ (
        let asked : with_front largest ≡ largest + front = rw (ne_eqb largest 0 some) refl in
        of_class (class_size 1 (largest + front)) refl (sym (ap (λ n. option_map (λ p. part + front + table_bytes (sure_records blocks) + unit + p) (sure_pool blocks (bytes + blocks * unit) (class_size 1 n))) asked) ∙ told))
  ]

-- so there is room for a heap
pub has_heap_room : (memory total part blocks bytes largest last : ℕ) → HasSureBytes memory total part blocks bytes largest → memory + total ≤ last → HasHeapRoom memory total part (sure_records blocks) last
has_heap_room memory total part blocks bytes largest last sure ends =
    let is = sure_is_of part blocks bytes largest sure.sure sure.sure_is in
    record { begins = sure.begins; room = omega (arith, is.sums, sure.has, sure.begins.in_units, sure.part_in_units); ends = ends }

-- and for the pool behind the table
pub has_sure_pool : (memory total part blocks bytes largest : ℕ) (places : HeapPlaces) (sure : HasSureBytes memory total part blocks bytes largest) → ArePlacesOf memory total part (sure_records blocks) places
    → (sure_is_of part blocks bytes largest sure.sure sure.sure_is).least ≤ bytes_in places.pool places.bytes
has_sure_pool memory total part blocks bytes largest places sure at =
    let is = sure_is_of part blocks bytes largest sure.sure sure.sure_is in
    omega (arith, is.sums, sure.has, sure.begins.in_units, sure.part_in_units, sure_in_units blocks (bytes + blocks * unit) is.size is.least is.pool, at.table_in_units, at.table_behind, at.table_near, at.pool_behind, at.bytes_are)
