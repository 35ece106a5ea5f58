use Rattle.tlsf_c.proofs.creation.tlsf_heap_create.Goals as goal

-- the heap that was put there is the one made
pub returns-in-Ok-clause-made : goal.returns-in-Ok-clause-made
returns-in-Ok-clause-made c = λ served. record {
  heap = c.in-Ok.heap;
  is_there = c.put.ensures.made served;
  content = c.in-Ok.ensures.made;
  untouched = c.in-Ok.ensures.untouched;
}
