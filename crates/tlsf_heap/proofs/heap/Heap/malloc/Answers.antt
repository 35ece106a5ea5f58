use Rattle.std.proofs.Common.{rules, ◌≡◌, ℕ, Err}
use Rattle.std.proofs.lemmas.Result.{IfErr-at_err}
use Rattle.tlsf_heap.specs.declared.refusal.Refusal.{Refusal}
use Rattle.tlsf_heap.specs.declared.refusal.Refusal.TheVariants.{NoFit, TableFull, OutOfMemory}
use Rattle.tlsf_heap.specs.Inner.Following.{content_of}
use Rattle.tlsf_heap.specs.Malloc.{malloc}
use Rattle.tlsf_heap.proofs.Inner.Standing.{content_is_good}
use Rattle.tlsf_heap.proofs.Good.Implied.{no_fit, malloc_full}
use Rattle.tlsf_heap.proofs.Good.Room.{room_serves}
use Rattle.tlsf_heap.proofs.Content.MallocCases.{malloc_lacks_none}
use Rattle.tlsf_heap.proofs.Content.Results.{never_err}
use Rattle.tlsf_heap.proofs.heap.Heap.malloc.Goals as goal

-- where malloc is refused, so is it under slot 0
refused : (c : goal.After-malloc) → (refusal : Refusal) → c.malloc.result ≡ Err refusal → malloc 0 c.args.n (content_of c.self.inside.store.cells) ≡ Err refusal
refused c refusal is = IfErr-at_err (λ why. (slot : ℕ) → malloc slot c.args.n (content_of c.self.inside.store.cells) ≡ Err why) is c.malloc.ensures.refused 0

pub returns-clause-no_fit : goal.returns-clause-no_fit
returns-clause-no_fit c = λ is.
    rw (← c.self.view_is) (no_fit 0 c.args.n (content_of c.self.inside.store.cells) (content_is_good c.self.inside.store.cells c.self.invariant) (refused c NoFit is))

pub returns-clause-table_full : goal.returns-clause-table_full
returns-clause-table_full c = λ is.
    rw (← c.self.view_is) (malloc_full 0 c.args.n (content_of c.self.inside.store.cells) (content_is_good c.self.inside.store.cells c.self.invariant) (refused c TableFull is))

pub returns-clause-refused : goal.returns-clause-refused
returns-clause-refused c = record {
  refused = search rules;
  never_memory = λ is. malloc_lacks_none 0 c.args.n (content_of c.self.inside.store.cells) (refused c OutOfMemory is);
  unchanged = search rules;
}

pub returns-clause-room : goal.returns-clause-room
returns-clause-room c =
    rw (← c.self.view_is) (λ room. never_err c.malloc.result (λ refusal is. room_serves 0 c.args.n (content_of c.self.inside.store.cells) refusal (content_is_good c.self.inside.store.cells c.self.invariant) room (refused c refusal is)))
