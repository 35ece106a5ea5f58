-- The size of a live block of a region, which ends within its bytes.
use Rattle.std.proofs.Common.{◌≡◌, ℕ, ◌+◌, ◌≤◌, true, List, length, refl, sym, subst, arith, Option, Some, None, Result, Ok, Err, IfOk, IfSome, inl, inr, drop}
use Rattle.std.specs.Prelude.{◌==◌}
use Rattle.std.specs.Result.{result_ok}
use Rattle.std.proofs.lemmas.Bool.{cases_Bool}
use Rattle.tlsf_heap.specs.declared.refusal.Refusal.{Refusal}
use Rattle.tlsf_heap.specs.declared.refusal.Refusal.TheVariants.{BadPointer}
use Rattle.tlsf_heap.specs.Content.{Content, blocks_of, size_at}
use Rattle.tlsf_heap.specs.BlockSize.{block_size}
use Rattle.tlsf_heap.specs.Free.{is_live}
use Rattle.tlsf_heap.specs.Good.{IsGood}
use Rattle.tlsf_heap.specs.Pointer.{Pointer}
use Rattle.std.proofs.lemmas.List.{length-take, length-drop}
use Rattle.tlsf_region.specs.Region.{IsWithin}
use Rattle.tlsf_region.specs.Bytes.{IsSizeOf, block_bytes, live_bytes}
use Rattle.tlsf_region.proofs.Ends.{below_in_pools, live_is_below, live_is_positive}

-- where block_size gives a size, the pointer is live, and it is the block's size
pub size_is : (ptr : Pointer) (content : Content ℕ) (size : ℕ) → block_size (λ slot. slot == ptr.slot) ptr.place content ≡ Ok size
    → (is_live (λ slot. slot == ptr.slot) ptr.place (blocks_of content.pools) ≡ true) × (size_at ptr.place (blocks_of content.pools) ≡ size)
size_is ptr content size e = elim (cases_Bool (is_live (λ slot. slot == ptr.slot) ptr.place (blocks_of content.pools))) [
  | inl live ↦
      let told : block_size (λ slot. slot == ptr.slot) ptr.place content ≡ Ok (size_at ptr.place (blocks_of content.pools)) = rw live refl in
      (live, cc)
  | inr stale ↦
      let refused : block_size (λ slot. slot == ptr.slot) ptr.place content ≡ Err BadPointer = rw stale refl in
      absurd (cc)
]

-- it ends within the region's bytes
pub size_is_within : (ptr : Pointer) (content : Content ℕ) (bytes : List ℕ) (size : ℕ) → IsGood content → IsWithin content bytes → block_size (λ slot. slot == ptr.slot) ptr.place content ≡ Ok size
    → ptr.place + size ≤ length bytes
size_is_within ptr content bytes size good within e =
    let is = size_is ptr content size e in
    omega (arith, is.1, live_is_below (length bytes) (λ slot. slot == ptr.slot) ptr.place (blocks_of content.pools) (below_in_pools (length bytes) 0 content.pools good.pools_good within.pools) is.0)

-- the size of a live block, where the answer is kept as an option
pub size_found : (result : Result ℕ Refusal) (ptr : Pointer) (content : Content ℕ) (bytes : List ℕ) → IsGood content → IsWithin content bytes
    → IfOk result (λ size. block_size (λ slot. slot == ptr.slot) ptr.place content ≡ Ok size) → (size : Option ℕ) → size ≡ result_ok result → IfSome size (λ size. IsSizeOf ptr size content bytes)
size_found result ptr content bytes good within ok size is = subst (λ o. IfSome o (λ size. IsSizeOf ptr size content bytes)) (sym is) (of result ok)
  where
    of : (result : Result ℕ Refusal) → IfOk result (λ size. block_size (λ slot. slot == ptr.slot) ptr.place content ≡ Ok size) → IfSome (result_ok result) (λ size. IsSizeOf ptr size content bytes)
    of (Err why) told = tt
    of (Ok size) told =
        let is = size_is ptr content size told in
        record {
          told = told;
          some = omega (arith, is.1, live_is_positive (λ slot. slot == ptr.slot) ptr.place content.pools good.pools_good is.0);
          within = size_is_within ptr content bytes size good within told;
        }

-- a live block has as many bytes as its size
pub live_bytes_long : (ptr : Pointer) (content : Content ℕ) (bytes : List ℕ) → IsGood content → IsWithin content bytes
    → IfSome (live_bytes ptr content bytes) (λ block. length block ≡ size_at ptr.place (blocks_of content.pools))
live_bytes_long ptr content bytes good within =
    let size : ℕ = size_at ptr.place (blocks_of content.pools) in
    let P : Option (List ℕ) → Type 0 = λ o. IfSome o (λ block. length block ≡ size) in
    elim (cases_Bool (is_live (λ slot. slot == ptr.slot) ptr.place (blocks_of content.pools))) [
      | inl live ↦
          let told : block_size (λ slot. slot == ptr.slot) ptr.place content ≡ Ok size = rw live refl in
          let are : live_bytes ptr content bytes ≡ Some (block_bytes ptr.place size bytes) = rw live refl in
          subst P (sym are) (omega (arith, size_is_within ptr content bytes size good within told, length-take size (drop ptr.place bytes), length-drop ptr.place bytes))
      | inr stale ↦
          let none : live_bytes ptr content bytes ≡ None = rw stale refl in
          subst P (sym none) tt
    ]
