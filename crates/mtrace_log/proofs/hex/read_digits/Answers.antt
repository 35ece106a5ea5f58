-- Digits that begin with 0 spell no number but 0.
use Rattle.std.proofs.Common.{◌≤◌, length, arith, inl, inr}
use Rattle.std.proofs.lemmas.Bool.{cases_lt}
use Rattle.mtrace_log.specs.Address.{hex_digits}
use Rattle.mtrace_log.specs.Fields.{ReadsDigits}
use Rattle.mtrace_log.proofs.HexLemmas.{read_digits-only, digits-end, digits-first, length-hex_digits-le}
use Rattle.mtrace_log.proofs.hex.read_digits.Goals as goal
use Rattle.mtrace_log.proofs.hex.read_digits.Goals.{then-bytes-lt16, else-bytes-lt16}

pub returns-then-bytes-eq48-clause-only : goal.returns-then-bytes-eq48-clause-only
returns-then-bytes-eq48-clause-only c = λ n rest valid ends same. absurd (digits-first c.args.bytes.now rest n valid.0 same c.if-bytes-eq48.true)

pub returns-clause-only : goal.returns-clause-only
returns-clause-only c = λ n rest valid ends same.
    let number = c.if-bytes-lt16.number.0 in
    let count = c.if-bytes-lt16.number.1 in
    let read : ReadsDigits c.args.bytes.now number count = elim c.if-bytes-lt16.branch [
      | then-bytes-lt16 w ↦ rw w.number-is w.read_each.ensures
      | else-bytes-lt16 w ↦ rw w.number-is w.read_sixteen.ensures
    ] in
    let short : length (hex_digits n) ≤ count = elim (cases_lt count 16) [
      | inl fewer ↦ digits-end c.args.bytes.now rest count n (read.ended fewer) same
      | inr all ↦ omega (arith, all, length-hex_digits-le n valid.1)
    ] in
    read_digits-only c.args.bytes.now count number read.within read.digits n rest ends same short
