-- Each list in such a text is in strict order, and exact.
use Rattle.mtrace_replay.proofs.OnLedger.OneText.{one_sites_text, one_callers_text, one_timeline_text}
use Rattle.mtrace_replay.proofs.BySize.OneHeapsText.{one_parts_text}
use Rattle.mtrace_replay.proofs.laws.one_text_without_a_heap.Goals as goal

pub returns-clause-sites : goal.returns-clause-sites
returns-clause-sites c = one_sites_text

pub returns-clause-callers : goal.returns-clause-callers
returns-clause-callers c = one_callers_text

pub returns-clause-timeline : goal.returns-clause-timeline
returns-clause-timeline c = one_timeline_text

pub returns-clause-heaps : goal.returns-clause-heaps
returns-clause-heaps c = one_parts_text
