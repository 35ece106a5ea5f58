-- The next multiple is the least at or above.
use Rattle.std.proofs.Common.{◌≡◌, Some, ◌∙◌, sym, ap, arith}
use Rattle.tlsf_class.specs.Rounding.{rounded}
use Rattle.tlsf_class.proofs.RoundingLaws.{round_within, rounded_from}
use Rattle.tlsf_class.proofs.rounding.round.Goals as goal

pub returns : goal.returns
returns c =
    let e = c.next_multiple_of.ensures in
    let is : rounded c.args.n ≡ c.next_multiple_of.result = rounded_from c.args.n c.next_multiple_of.result e.multiple e.lower_bound e.upper_bound in
    ap Some (sym is) ∙ sym (round_within c.args.n (omega arith) (omega arith))
