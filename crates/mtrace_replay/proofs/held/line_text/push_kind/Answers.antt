-- The texts that end with an address.
use Rattle.std.proofs.Common.{◌++◌, ap, ◌∙◌, append_assoc, codes, sym, arith}
use Rattle.mtrace_replay.specs.Texts.{kind_text}
use Rattle.mtrace_replay.proofs.held.line_text.push_kind.Goals as goal

pub returns-in-NotHeld : goal.returns-in-NotHeld
returns-in-NotHeld c = record {
  bytes =
      c.push_bytes-in-NotHeld.ensures.bytes ∙ ap (λ text. text ++ codes " is not held") c.push_address.ensures.bytes ∙ append_assoc c.args.text.now.items _ _
      ∙ ap (λ kind. c.args.text.now.items ++ kind_text kind) (sym c.in-NotHeld.is);
  len = omega arith;
}

pub returns-in-AlreadyHeld : goal.returns-in-AlreadyHeld
returns-in-AlreadyHeld c = record {
  bytes =
      c.push_bytes-in-AlreadyHeld.ensures.bytes ∙ ap (λ text. text ++ codes " is already held") c.push_address-in-AlreadyHeld.ensures.bytes ∙ append_assoc c.args.text.now.items _ _
      ∙ ap (λ kind. c.args.text.now.items ++ kind_text kind) (sym c.in-AlreadyHeld.is);
  len = omega arith;
}

pub returns-in-Half : goal.returns-in-Half
returns-in-Half c = record {
  bytes =
      c.push_bytes-in-Half.ensures.bytes ∙ ap (λ kind. c.args.text.now.items ++ kind_text kind) (sym c.in-Half.is);
  len = omega arith;
}
