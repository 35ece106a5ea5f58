-- Bytes that are put into a room, one behind the other.
use Rattle.std.proofs.Common.{◌≡◌, ℕ, suc, ◌+◌, ◌≤◌, List, [], ◌∷◌, ◌++◌, length, take, drop, slice_set, refl, ap, sym, ◌∙◌, arith}
use Rattle.std.proofs.Math.ListN.{set}
use Rattle.std.proofs.lemmas.List.{set_past, length-append, take_all, drop_all}
use Rattle.tlsf_c.specs.Room.{put_over, IsPutOver}

pub placed_none : {X : Type 0} (room : List X) → put_over [] room ≡ room
unfolding put_over
placed_none room = refl

pub length_placed : (put room : List ℕ) → length (put_over put room) ≡ length room
unfolding put_over
length_placed [] room = refl
length_placed (byte ∷ put) [] = refl
length_placed (byte ∷ put) (other ∷ room) = ap suc (length_placed put room)

-- one more
pub placed_next : {X : Type 0} (put : List X) (byte : X) (room : List X) → set (put_over put room) (length put) byte ≡ put_over (put ++ byte ∷ []) room
unfolding put_over
placed_next [] byte [] = refl
placed_next [] byte (other ∷ room) = refl
placed_next (one ∷ put) byte [] = refl
placed_next (one ∷ put) byte (other ∷ room) = ap (λ items. one ∷ items) (placed_next put byte room)

-- where there is room
pub one_within : (put stood room : List ℕ) (end byte : ℕ) → IsPutOver put stood room end → end + 1 ≤ length room → IsPutOver (put ++ byte ∷ []) stood (slice_set room end byte) (end + 1)
one_within put stood room end byte before within =
    let long : length room ≡ length stood = ap length before.bytes ∙ length_placed put stood in
    let at_end : end ≡ length put = omega (arith, before.ends, long, within) in
    let more : length (put ++ byte ∷ []) ≡ length put + 1 = length-append put (byte ∷ []) in
    record {
      bytes = ap (λ (bytes : List ℕ). slice_set bytes end byte) before.bytes ∙ ap (λ (index : ℕ). slice_set (put_over put stood) index byte) at_end ∙ placed_next put byte stood;
      ends = omega (arith, at_end, more, long, within);
    }

-- where there is none
pub one_past : (put stood room : List ℕ) (end byte : ℕ) → IsPutOver put stood room end → length room ≤ end → IsPutOver (put ++ byte ∷ []) stood room end
one_past put stood room end byte before past =
    let long : length room ≡ length stood = ap length before.bytes ∙ length_placed put stood in
    let over : length (put_over put stood) ≤ length put = omega (arith, before.ends, long, past, length_placed put stood) in
    let more : length (put ++ byte ∷ []) ≡ length put + 1 = length-append put (byte ∷ []) in
    record {
      bytes = before.bytes ∙ sym (set_past (put_over put stood) (length put) byte over) ∙ placed_next put byte stood;
      ends = omega (arith, before.ends, more, long, past);
    }

-- nothing is put yet
pub placed_at_first : (room told : List ℕ) → told ≡ room → room ≡ put_over (drop (length room) told) (take (length room) told)
placed_at_first room told same =
    let all : take (length room) told ≡ room = take_all (length room) told (omega (arith, ap length same)) ∙ same in
    let none : drop (length room) told ≡ [] = drop_all (length room) told (omega (arith, ap length same)) in
    sym (placed_none room) ∙ ap (λ (stood : List ℕ). put_over [] stood) (sym all) ∙ ap (λ (put : List ℕ). put_over put (take (length room) told)) (sym none)
