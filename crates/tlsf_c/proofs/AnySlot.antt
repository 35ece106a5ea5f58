-- A realloc that is refused where a new block would have one slot is refused for any other.
use Rattle.std.proofs.Common.{◌≡◌, ℕ, Bool, true, false, cond, Option, Some, None, Result, Ok, Err, refl, sym, subst}
use Rattle.std.specs.Prelude.{◌==◌, ◌&&◌, not, nat_lt, nat_le}
use Rattle.tlsf_class.specs.Rounding.{round}
use Rattle.tlsf_heap.specs.declared.refusal.Refusal.{Refusal}
use Rattle.tlsf_heap.specs.declared.refusal.Refusal.TheVariants.{NoFit, TableFull, BadPointer}
use Rattle.tlsf_heap.specs.Content.{Content, blocks_of, size_at, used_records}
use Rattle.tlsf_heap.specs.Free.{is_live, after_free}
use Rattle.tlsf_heap.specs.Lists.{pick}
use Rattle.tlsf_heap.specs.Malloc.{allocated, malloc_picked, malloc_rounded}
use Rattle.tlsf_heap.specs.Pointer.{Pointer, realloc_ptr}
use Rattle.tlsf_heap.specs.Realloc.{moved, resized, fits_in_place, realloc_rounded}

-- what one call refuses the other does
abbrev IsRefusedToo : {X : Type 0} → Result X Refusal → Result X Refusal → Type 0
IsRefusedToo one other = (refusal : Refusal) → one ≡ Err refusal → other ≡ Err refusal

-- by the same test, where each side is refused
chosen : {X : Type 0} (b : Bool) (x x_other y y_other : Result X Refusal) → IsRefusedToo x x_other → IsRefusedToo y y_other → IsRefusedToo (cond b x y) (cond b x_other y_other)
chosen true x x_other y y_other at_x at_y = at_x
chosen false x x_other y y_other at_x at_y = at_y

-- what is done isn't refused
done : {X : Type 0} (x : X) (other : Result X Refusal) → IsRefusedToo (Ok x) other
done x other refusal e = absurd (cc)

same : {X : Type 0} (x : Result X Refusal) → IsRefusedToo x x
same x refusal e = e

picked : (slot other m : ℕ) (place : Option ℕ) (content : Content ℕ) → IsRefusedToo (malloc_picked slot m place content) (malloc_picked other m place content)
picked slot other m None content = same (Err NoFit)
picked slot other m (Some place) content =
    let size = size_at place (blocks_of content.pools) in
    chosen (nat_lt m size && nat_le content.records (used_records content)) (Err TableFull) (Err TableFull) (Ok (place, allocated slot place m size content)) (Ok (place, allocated other place m size content))
    (same (Err TableFull)) (done (place, allocated slot place m size content) (Ok (place, allocated other place m size content)))

moves : (slot other old : ℕ) (given given_other : Result (ℕ × Content ℕ) Refusal) → IsRefusedToo given given_other → IsRefusedToo (moved slot old given) (moved other old given_other)
moves slot other old (Ok (place, content)) given_other too refusal e = absurd (cc)
moves slot other old (Err why) given_other too refusal e =
    subst (λ (g : Result (ℕ × Content ℕ) Refusal). moved other old g ≡ Err refusal) (sym (too why refl)) e

rounded : (slot other : ℕ) (ptr : Pointer) (m : Option ℕ) (content : Content ℕ) → IsRefusedToo (realloc_rounded slot ptr.place ptr.slot m content) (realloc_rounded other ptr.place ptr.slot m content)
rounded slot other ptr None content = same (Err NoFit)
rounded slot other ptr (Some m) content =
    let size = size_at ptr.place (blocks_of content.pools) in
    let stays : Option (ℕ × ℕ) × Content ℕ = (Some (ptr.place, ptr.slot), content) in
    let grows : Option (ℕ × ℕ) × Content ℕ = (Some (ptr.place, ptr.slot), resized ptr.slot ptr.place m content) in
    let one = moved slot ptr.place (malloc_rounded slot (Some m) content) in
    let another = moved other ptr.place (malloc_rounded other (Some m) content) in
    chosen (m == size) (Ok stays) (Ok stays) _ _ (same (Ok stays))
    (chosen (fits_in_place ptr.place m content) (Ok grows) (Ok grows) _ _ (same (Ok grows))
    (chosen (nat_lt m size) (Ok stays) (Ok stays) one another (same (Ok stays))
    (moves slot other ptr.place (malloc_rounded slot (Some m) content) (malloc_rounded other (Some m) content) (picked slot other m (pick m content.lists) content))))

pub refused_for_any : (ptr : Pointer) (bytes slot : ℕ) (content : Content ℕ) (refusal : Refusal) → realloc_ptr (Some ptr) bytes slot content ≡ Err refusal → (other : ℕ) → realloc_ptr (Some ptr) bytes other content ≡ Err refusal
refused_for_any ptr bytes slot content refusal e other =
    let gone : Option (ℕ × ℕ) × Content ℕ = (None, after_free ptr.place content) in
    chosen (not (is_live (λ known. known == ptr.slot) ptr.place (blocks_of content.pools))) (Err BadPointer) (Err BadPointer) _ _ (same (Err BadPointer))
    (chosen (bytes == 0) (Ok gone) (Ok gone) _ _ (same (Ok gone)) (rounded slot other ptr (round bytes) content)) refusal e
