-- Sixteen bytes more in each turn, until one can't stand there.
use Rattle.std.proofs.Common.{ℕ, ◌+◌, ◌≤◌, List, length, not, ap, ◌∙◌, arith}
use Rattle.std.specs.List.{prefix_len}
use Rattle.mtrace_log.specs.Location.{is_blank}
use Rattle.mtrace_log.proofs.LocationLemmas.{loaded, allowed-more, ended-there}
use Rattle.mtrace_log.proofs.location.location_end.Goals as goal

abbrev blank_behind : List ℕ → ℕ
blank_behind bytes = prefix_len (λ byte. not (is_blank byte)) bytes

pub returns-in-Some : goal.returns-in-Some
returns-in-Some c =
    let room : c.loop-at.at + 16 ≤ length c.args.bytes.now = omega arith in
    let blank = c.in-Some.ensures.1 ∙ ap blank_behind (loaded c.args.bytes.now c.loop-at.at room) in
    record {
      within = omega (arith, c.in-Some.ensures.0);
      allowed = allowed-more c.args.bytes.now c.loop-at.at c.in-Some.lane room c.loop-at.invariant.1 blank;
      ended = λ _. ended-there c.args.bytes.now c.loop-at.at c.in-Some.lane room c.in-Some.ensures.0 blank;
    }

pub loop-at-preserved : goal.loop-at-preserved
loop-at-preserved c =
    let room : c.loop-at.at + 16 ≤ length c.args.bytes.now = omega arith in
    (room, allowed-more c.args.bytes.now c.loop-at.at 16 room c.loop-at.invariant.1 (c.in_default.ensures ∙ ap blank_behind (loaded c.args.bytes.now c.loop-at.at room)))
