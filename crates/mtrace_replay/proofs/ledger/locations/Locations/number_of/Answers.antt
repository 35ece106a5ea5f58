-- A location has its number in the set.
use Rattle.std.proofs.Common.{◌≡◌, ◌∙◌, sym, ap, subst, Some}
use Rattle.std.specs.Prelude.{slice_get, position, nat_eq}
use Rattle.std.specs.Cmp.Lexicographic.{pointwise}
use Rattle.mtrace_replay.proofs.OnLedger.LocationsLemmas.{stands, extends_insert}
use Rattle.mtrace_replay.proofs.ledger.locations.Locations.number_of.Goals as goal

pub returns-in-Some-clause-found : goal.returns-in-Some-clause-found
returns-in-Some-clause-found c =
    let keys = c.self.inside.seen.keys in
    ap (slice_get keys) c.in-Ok.ensures.1
    ∙ stands keys c.args.bytes.now c.in-Some.number
    (subst (λ bytes. position (pointwise nat_eq bytes) keys ≡ Some c.in-Some.number) c.in_ok-set.ensures.set (sym c.in-Some.ensures.index))

pub returns-in_default-try_from-2-clause-others : goal.returns-in_default-try_from-2-clause-others
returns-in_default-try_from-2-clause-others c = λ number bytes is.
    subst (λ keys. slice_get keys number ≡ Some bytes) (sym c.in_ok-number.ensures.keys)
    (extends_insert (pointwise nat_eq) c.self.inside.seen.keys c.in_ok-kept.kept number bytes (ap (λ all. slice_get all number) c.self.view_is ∙ is))

pub returns-clause-others : goal.returns-clause-others
returns-clause-others c = λ number bytes is.
    subst (λ keys. slice_get keys number ≡ Some bytes) (sym c.in_ok-number.ensures.keys)
    (extends_insert (pointwise nat_eq) c.self.inside.seen.keys c.in_ok-kept.kept number bytes (ap (λ all. slice_get all number) c.self.view_is ∙ is))
