-- The bytes up to the first that can't stand in a location.
use Rattle.std.proofs.Common.{◌≢◌, ℕ, ◌<◌, ◌≤◌, List, ◌++◌, length, get_or, take, inl, inr, sym, ap, ◌∙◌, arith}
use Rattle.std.proofs.lemmas.List.{length-take-le, take-append-drop, take_rest}
use Rattle.mtrace_log.specs.Location.{IsLocation, IsLocationByte}
use Rattle.mtrace_log.proofs.LocationLemmas.{AllByRecursion-take, location-end, location-cut}
use Rattle.mtrace_log.proofs.location.LentLocation.front.Goals as goal

pub returns-then-end-eq0 : goal.returns-then-end-eq0
returns-then-end-eq0 c = λ location rest is same.
    let end = location-end c.args.bytes.now location rest c.location_end-end.result c.location_end-end.ensures.within c.location_end-end.ensures.allowed c.location_end-end.ensures.ended is.allowed same in
    let some = is.some in
    let short = is.short in
    elim c.then-end-eq0.either [ inl h ↦ omega arith | inr h ↦ omega arith ]

pub returns-in_err-rest : goal.returns-in_err-rest
returns-in_err-rest c = rw c.from_residual.ensures (λ location rest is same.
    let end = location-end c.args.bytes.now location rest c.location_end-end.result c.location_end-end.ensures.within c.location_end-end.ensures.allowed c.location_end-end.ensures.ended is.allowed same in
    c.in_err-rest.ensures rest (location-cut c.args.bytes.now location rest c.location_end-end.result end same))

is_location : (bytes : List ℕ) (end : ℕ) → end ≤ length bytes → ((k : ℕ) → k < end → IsLocationByte (get_or bytes k 0)) → end ≢ 0 → end ≤ 255 → IsLocation (take end bytes)
is_location bytes end within allowed some short =
    let long = length-take-le end bytes within in
    record { some = omega arith; short = omega arith; allowed = AllByRecursion-take IsLocationByte bytes end within allowed }

pub invariant_of-result : goal.invariant_of-result
invariant_of-result c = is_location c.args.bytes.now c.location_end-end.result c.location_end-end.ensures.within c.location_end-end.ensures.allowed c.if-end-eq0.false c.if-end-gt-LONGEST_LOCATION.false

pub returns : goal.returns
returns c = (
  is_location c.args.bytes.now c.location_end-end.result c.location_end-end.ensures.within c.location_end-end.ensures.allowed c.if-end-eq0.false c.if-end-gt-LONGEST_LOCATION.false,
  sym (take-append-drop c.location_end-end.result c.args.bytes.now)
      ∙ ap (λ rest. take c.location_end-end.result c.args.bytes.now ++ rest) (sym (take_rest c.args.bytes.now c.location_end-end.result) ∙ c.in_ok-rest.ensures),
)
