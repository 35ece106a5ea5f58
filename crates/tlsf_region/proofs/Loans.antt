-- What a loan of a block's bytes leaves of the region.
use Rattle.std.proofs.Common.{◌≡◌, ℕ, zero, suc, ◌+◌, ◌<◌, ◌≤◌, List, [], ◌∷◌, ◌++◌, length, take, drop, refl, ap, ◌∙◌, arith, length-append, false, Some, None, Ok}
use Rattle.std.specs.Prelude.{◌==◌}
use Rattle.std.specs.List.{refill}
use Rattle.std.proofs.lemmas.List.{length-take, length-drop}
use lib.Seq.{take_at}
use lib.Dec.{T, eqb, eqb→eq}
use mathlib.Core.Bool.{not}
use mathlib.Core.Option as maybe
use seplogic.Ra.Ura.{Ura}
use base.Logic.{ent}
use base.Fml.{GName, fres}
use types.Logic.{Logic, sem}
use types.Kit.{‵, ◌$◌, ◌∵◌, !, qed, fpack, done}
use denote.Follow.{follows, follows_by, such_by, follows_so}
use denote.RattleType.{RattleType}
use Rattle.tlsf_heap.specs.Content.{Content, blocks_of, size_at}
use Rattle.tlsf_heap.specs.BlockSize.{block_size}
use Rattle.tlsf_heap.specs.Free.{is_live}
use Rattle.tlsf_heap.specs.Pointer.{Pointer}
use Rattle.tlsf_region.specs.Region.{CountedRegion}
use Rattle.tlsf_region.specs.Bytes.{block_bytes, live_bytes, overwritten}
use Rattle.tlsf_region.specs.Lends.{written}
use Rattle.tlsf_region.proofs.Sizes.{size_is}

module _ {M : Type 1} {𝓤 : Ura M} (𝓛 : Logic 𝓤) (R U : RattleType) (γ : GName) (P : U.Denot → R.Denot → Type 0) (P₀ : R.Denot → Type 0) where
  -- nothing was lent, and the lender ends as v
  pub none_lent : (v : R.Denot) → ((last : U.Denot) → P last v) → P₀ v → ent 𝓤 (sem 𝓛 (fres γ (R.coded.code v))) (sem 𝓛 (follows_so R U γ maybe.none P P₀))
  unfolding such_by follows_by
  none_lent v so none_so = qed 𝓛 (‵ (fres γ (R.coded.code v)) ∷ []) ∵
      fpack ! ((s : (U.Denot → R.Denot) × R.Denot) × ((last : U.Denot) → P last (s.0 last)) × P₀ s.1) (λ s. follows_by R.Denot U.Denot R.coded.code U.coded.code γ maybe.none s.0.0 s.0.1) (((λ last. v), v), so, none_so) $ done !

  -- a part was lent under the name δ, and the lender ends as F of its last value
  pub some_lent : (δ : GName) (F : U.Denot → R.Denot) (v : R.Denot) → ((last : U.Denot) → P last (F last)) → P₀ v → ent 𝓤 (sem 𝓛 (follows R U γ δ F)) (sem 𝓛 (follows_so R U γ (maybe.some δ) P P₀))
  unfolding such_by follows_by
  some_lent δ F v so none_so = qed 𝓛 (‵ (follows R U γ δ F) ∷ []) ∵
      fpack ! ((s : (U.Denot → R.Denot) × R.Denot) × ((last : U.Denot) → P last (s.0 last)) × P₀ s.1) (λ s. follows_by R.Denot U.Denot R.coded.code U.coded.code γ (maybe.some δ) s.0.0 s.0.1) ((F, v), so, none_so) $ done !

-- a length that isn't 0 is above it
pub is_some : (n : ℕ) → T (not (eqb n 0)) → 0 < n
is_some zero t = absurd t
is_some (suc n) t = omega arith

pub is_none : (n : ℕ) → T (eqb n 0) → n ≡ 0
is_none n t = eqb→eq n 0 t

-- what is written within the bytes leaves as many
overwritten_long : (place : ℕ) (last bytes : List ℕ) → place + length last ≤ length bytes → length (overwritten place last bytes) ≡ length bytes
overwritten_long place last bytes within = omega (
  arith,
  within,
  length-append (take place bytes ++ last) (drop (place + length last) bytes),
  length-append (take place bytes) last,
  length-take place bytes,
  length-drop (place + length last) bytes,
)

-- so nothing is cut off or filled up
pub written_bytes : (place n : ℕ) (last : List ℕ) (old new : CountedRegion) → new.bytes ≡ old.bytes → place + n ≤ length old.bytes → length last ≡ n
    → (written place new last).bytes ≡ overwritten place last old.bytes
written_bytes place n last old new same within long =
    let after = overwritten place last old.bytes in
    ap (λ bytes. refill (length bytes) bytes (overwritten place last bytes)) same
    ∙ take_at after (drop (length after) old.bytes) (length old.bytes) (overwritten_long place last old.bytes (omega (arith, within, long)))

-- the bytes of a live block of this size
pub live_bytes_are : (ptr : Pointer) (n : ℕ) (content : Content ℕ) (bytes : List ℕ) → block_size (λ slot. slot == ptr.slot) ptr.place content ≡ Ok n → live_bytes ptr content bytes ≡ Some (block_bytes ptr.place n bytes)
live_bytes_are ptr n content bytes told =
    let is = size_is ptr content n told in
    let are : live_bytes ptr content bytes ≡ Some (block_bytes ptr.place (size_at ptr.place (blocks_of content.pools)) bytes) = rw is.0 refl in
    are ∙ ap (λ m. Some (block_bytes ptr.place m bytes)) is.1

-- where there is none
pub live_bytes_none : (ptr : Pointer) (content : Content ℕ) (bytes : List ℕ) → is_live (λ slot. slot == ptr.slot) ptr.place (blocks_of content.pools) ≡ false → live_bytes ptr content bytes ≡ None
live_bytes_none ptr content bytes stale = rw stale refl
