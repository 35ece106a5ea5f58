-- Each mark has its fields.
use Rattle.std.proofs.Common.{sym, ◌∙◌}
use Rattle.mtrace_log.proofs.EventLemmas.{marked-cut}
use Rattle.mtrace_log.proofs.line_reader.read_marked.Goals as goal

pub returns-in_err-addr : goal.returns-in_err-addr
returns-in_err-addr c = rw c.from_residual-in_err-addr.ensures (λ parts fits same.
    c.in_err-addr.ensures (parts.1, parts.2) fits (marked-cut c.in_ok-mark.mark parts.0 c.in_ok-mark.fields.now _ (sym c.in_ok-mark.ensures ∙ same)))
