use Rattle.std.proofs.Common.{rules, ◌≡◌, ℕ, Err}
use Rattle.std.proofs.lemmas.Result.{IfErr-at_err}
use Rattle.tlsf_heap.specs.declared.refusal.Refusal.{Refusal}
use Rattle.tlsf_heap.specs.declared.refusal.Refusal.TheVariants.{NoFit, TableFull, BadAlign, OutOfMemory}
use Rattle.tlsf_heap.specs.Memalign.{memalign}
use Rattle.tlsf_heap.specs.Inner.Following.{content_of}
use Rattle.tlsf_heap.proofs.Inner.Standing.{content_is_good}
use Rattle.tlsf_heap.proofs.Content.Results.{each_err}
use Rattle.tlsf_heap.proofs.Good.AlignedImplied.{aligned_no_fit, aligned_full, aligned_lacks_none}
use Rattle.tlsf_heap.proofs.Good.Room.{aligned_room_serves}
use Rattle.tlsf_heap.proofs.heap.Heap.memalign.Goals as goal

-- where memalign is refused, so is it under slot 0
refused : (c : goal.After-memalign) → (refusal : Refusal) → c.memalign.result ≡ Err refusal → memalign 0 c.args.align c.args.n (content_of c.self.inside.store.cells) ≡ Err refusal
refused c refusal is = IfErr-at_err (λ why. (slot : ℕ) → memalign slot c.args.align c.args.n (content_of c.self.inside.store.cells) ≡ Err why) is c.memalign.ensures.refused 0

pub returns-clause-no_fit : goal.returns-clause-no_fit
returns-clause-no_fit c = λ is.
    rw (← c.self.view_is) (aligned_no_fit 0 c.args.align c.args.n (content_of c.self.inside.store.cells) (content_is_good c.self.inside.store.cells c.self.invariant) (refused c NoFit is))

pub returns-clause-table_full : goal.returns-clause-table_full
returns-clause-table_full c = λ is.
    rw (← c.self.view_is) (aligned_full 0 c.args.align c.args.n (content_of c.self.inside.store.cells) (content_is_good c.self.inside.store.cells c.self.invariant) (refused c TableFull is))

pub returns-clause-refused : goal.returns-clause-refused
returns-clause-refused c = record {
  refused = search rules;
  never_memory = λ is. aligned_lacks_none 0 c.args.align c.args.n (content_of c.self.inside.store.cells) (content_is_good c.self.inside.store.cells c.self.invariant) (refused c OutOfMemory is);
  unchanged = search rules;
}

pub returns-clause-room : goal.returns-clause-room
returns-clause-room c =
    rw (← c.self.view_is) (λ room. each_err c.memalign.result (λ refusal. refusal ≡ BadAlign)
    (λ refusal is. aligned_room_serves 0 c.args.align c.args.n (content_of c.self.inside.store.cells) refusal (content_is_good c.self.inside.store.cells c.self.invariant) room (refused c refusal is)))
