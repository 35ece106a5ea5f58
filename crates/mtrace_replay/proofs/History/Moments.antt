-- The moments of no line, and of one line more.
use Rattle.std.proofs.Common.{◌≡◌, List, [], ◌∷◌, length, refl}
use Rattle.mtrace_replay.specs.Started.{Bare}
use Rattle.mtrace_replay.specs.Moment.{ReadLine, moment}
use Rattle.mtrace_replay.specs.History.{moments, pending, held, content_after}

pub moments-none : (start : Bare) → moments start [] ≡ []
unfolding moments
moments-none start = refl

pub moments-line : (start : Bare) (line : ReadLine) (past : List ReadLine)
    → moments start (line ∷ past) ≡ moment (length past) line (pending past) (held (moments start past)) (content_after start (moments start past)) ∷ moments start past
unfolding moments
moments-line start line past = refl
