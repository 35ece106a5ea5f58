-- Traces one behind the other.
use Rattle.std.proofs.Common.{◌≡◌, ℕ, zero, suc, ◌<◌, List, [], ◌∷◌, ◌++◌, map, Ok, refl, sym, ap, ◌∙◌, append_assoc, arith, inl, inr}
use Rattle.std.proofs.lemmas.List.{map-append}
use Rattle.mtrace_log.specs.Trace.{pulled, offered, Moved, MovedThen, HasGiven, HasTaken, HasFailedToWrite, FlushWasAsked}
use Rattle.mtrace_log.specs.declared.call.Call.{Call}
use Rattle.mtrace_log.specs.declared.call.Call.TheVariants.{Gave, Took, Flushed, FlushFailed, Failed}

-- no call
pub moved_none : (by : ℕ → Call) (trace : List Call) → Moved by trace trace
moved_none by trace = record { counts = []; calls = refl }

-- calls, and then calls
pub moved_append : (by : ℕ → Call) (old middle new : List Call) → Moved by old middle → Moved by middle new → Moved by old new
moved_append by old middle new first second =
    record {
      counts = second.counts ++ first.counts;
      calls = second.calls ∙ ap (λ calls. map by second.counts ++ calls) first.calls
          ∙ sym (append_assoc (map by second.counts) (map by first.counts) old)
          ∙ ap (λ calls. calls ++ old) (sym (map-append by second.counts first.counts));
    }

-- one call
pub moved_once : (by : ℕ → Call) (count : ℕ) (old new : List Call) → new ≡ by count ∷ old → Moved by old new
moved_once by count old new one = record { counts = count ∷ []; calls = one }

-- calls, and then one more
pub moved_more : (by : ℕ → Call) (count : ℕ) (old middle new : List Call) → Moved by old middle → new ≡ by count ∷ middle → Moved by old new
moved_more by count old middle new first more = record { counts = count ∷ first.counts; calls = more ∙ ap (λ calls. by count ∷ calls) first.calls }

-- calls, and then calls with a last one
pub moved_then_append : (by : ℕ → Call) (last : Call) (old middle new : List Call) → Moved by old middle → MovedThen by last middle new → MovedThen by last old new
moved_then_append by last old middle new first second =
    record { middle = second.middle; moved = moved_append by old middle second.middle first second.moved; then = second.then }

-- one last call
pub moved_then_last : (by : ℕ → Call) (last : Call) (old middle new : List Call) → Moved by old middle → new ≡ last ∷ middle → MovedThen by last old new
moved_then_last by last old middle new first then = record { middle = middle; moved = first; then = then }

-- a reader that gave some bytes
pub pulled_some : (count : ℕ) → 0 < count → pulled (Ok count) ≡ Gave count
pulled_some zero some = absurd (omega arith)
pulled_some (suc count) some = refl

-- a reader that gave pieces, and then some bytes more
pub gave_more : (count : ℕ) (old middle new : List Call) → 0 < count → HasGiven old middle → new ≡ pulled (Ok count) ∷ middle → HasGiven old new
gave_more count old middle new some before told = moved_more Gave count old middle new before (told ∙ ap (λ call. call ∷ middle) (pulled_some count some))

-- a writer that took some bytes
pub offered_some : (bytes count : ℕ) → 0 < count → offered bytes (Ok count) ≡ Took count
offered_some bytes zero some = absurd (omega arith)
offered_some zero (suc count) some = refl
offered_some (suc bytes) (suc count) some = refl

-- a writer that took pieces, and was then asked to flush
pub flush_after : (old middle new : List Call) → HasTaken old middle → FlushWasAsked middle new → FlushWasAsked old new
flush_after old middle new taken asked = elim asked [
  | inl did ↦ inl (moved_then_append Took Flushed old middle new taken did)
  | inr failed ↦ inr (moved_then_append Took FlushFailed old middle new taken failed)
]

-- a writer that took pieces, and then failed in the end
pub failed_after : (old middle new : List Call) → HasTaken old middle → HasFailedToWrite middle new → HasFailedToWrite old new
failed_after old middle new taken failed = elim failed [
  | inl put ↦ inl (moved_then_append Took Failed old middle new taken put)
  | inr flush ↦ inr (moved_then_append Took FlushFailed old middle new taken flush)
]
