-- What lines keep whose requests have more bytes.
use Rattle.std.proofs.Common.{◌≡◌, ℕ, Option, List, [], ◌∷◌, length, reverse, refl, ap, ◌∙◌, Ok, Err}
use Rattle.std.proofs.lemmas.List.{length-reverse, length-map}
use Rattle.indexmap.proofs.ReorderLemmas.{map-reverse}
use Rattle.mtrace_log.specs.declared.event.Event.TheVariants.{Start, End, Alloc, Free, Old, New, Failed, Aligned}
use Rattle.mtrace_replay.specs.Moment.{ReadLine, half}
use Rattle.mtrace_replay.specs.History.{old_address, pending}
use Rattle.mtrace_replay.specs.Fronted.{fronted_line, fronted}

-- it doesn't matter whether the lines are reversed first
pub fronted_reversed : (front : ℕ) (lines : List ReadLine) → fronted front (reverse lines) ≡ reverse (fronted front lines)
fronted_reversed front lines = map-reverse (fronted_line front) lines

old_fronted : (front : ℕ) (line : ReadLine) → old_address (fronted_line front line) ≡ old_address line
old_fronted front (Err fault) = refl
old_fronted front (Ok Start) = refl
old_fronted front (Ok End) = refl
old_fronted front (Ok (Alloc at address size)) = refl
old_fronted front (Ok (Free at address)) = refl
old_fronted front (Ok (Old at address)) = refl
old_fronted front (Ok (New at address size)) = refl
old_fronted front (Ok (Failed at address size)) = refl
old_fronted front (Ok (Aligned at address align size)) = refl

pending_fronted : (front : ℕ) (past : List ReadLine) → pending (fronted front past) ≡ pending past
pending_fronted front [] = refl
pending_fronted front (line ∷ past) = old_fronted front line

-- what is wrong at the end
pub half_fronted : (front : ℕ) (lines : List ReadLine) (count : ℕ) (address : Option ℕ) → count ≡ length (fronted front (reverse lines)) → address ≡ pending (fronted front (reverse lines))
    → half count address ≡ half (length lines) (pending (reverse lines))
half_fronted front lines count address counted is =
    ap (λ n. half n address) (counted ∙ length-map (reverse lines) (fronted_line front) ∙ length-reverse lines)
    ∙ ap (half (length lines)) (is ∙ pending_fronted front (reverse lines))
