-- `0`, or an address.
use Rattle.mtrace_log.proofs.FrontLemmas.{size-none}
use Rattle.mtrace_log.proofs.line_reader.read_size.Goals as goal

pub returns-in_default-read_addr : goal.returns-in_default-read_addr
returns-in_default-read_addr c = size-none c.args.bytes.now c.in_default.ensures c.in_default-read_addr.ensures
