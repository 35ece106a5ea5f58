use Rattle.std.proofs.Common.{inr, ap, ◌∙◌}
use Rattle.tlsf_heap.specs.Images.Rules.{first_broken}
use Rattle.tlsf_c.specs.Saving.{fault_number}
use Rattle.tlsf_c.proofs.LoadLemmas.{none_where_loaded, number_of_broken}
use Rattle.tlsf_c.proofs.images.tlsf_heap_load.Goals as goal

pub returns-in-Ok-clause-broken : goal.returns-in-Ok-clause-broken
returns-in-Ok-clause-broken c = λ rule is. absurd (none_where_loaded (first_broken c.args.bytes.now) c.in-Ok.heap c.in-Ok.ensures.broken rule is)

-- the heap that was put there is the one loaded
pub returns-in-Ok-clause-loaded : goal.returns-in-Ok-clause-loaded
returns-in-Ok-clause-loaded c = λ served. record {
  heap = c.in-Ok.heap;
  is_there = c.put.ensures.made served;
  content = c.in-Ok.ensures.content;
  bound = c.in-Ok.ensures.bound;
}

pub returns-in-Err-clause-broken : goal.returns-in-Err-clause-broken
returns-in-Err-clause-broken c = λ rule is. c.fault_number.ensures.value ∙ number_of_broken (first_broken c.args.bytes.now) c.in-Err.fault c.in-Err.ensures.broken rule is

pub returns-in-Err-clause-memory : goal.returns-in-Err-clause-memory
returns-in-Err-clause-memory c = λ none. inr (c.fault_number.ensures.value ∙ ap fault_number (c.in-Err.ensures.memory none))
