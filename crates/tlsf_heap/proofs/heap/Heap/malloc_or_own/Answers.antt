use Rattle.std.proofs.Common.{rules, ◌≡◌, ℕ, Err}
use Rattle.std.proofs.lemmas.Result.{IfErr-at_err}
use Rattle.tlsf_heap.specs.declared.refusal.Refusal.{Refusal}
use Rattle.tlsf_heap.specs.declared.refusal.Refusal.TheVariants.{OutOfMemory}
use Rattle.tlsf_heap.specs.Inner.Following.{content_of}
use Rattle.tlsf_heap.specs.OwnClass.{malloc_or_own}
use Rattle.tlsf_heap.proofs.Inner.Standing.{content_is_good}
use Rattle.tlsf_heap.proofs.Good.Room.{or_own_room_serves}
use Rattle.tlsf_heap.proofs.Content.OwnCases.{or_own_lacks_none}
use Rattle.tlsf_heap.proofs.Content.Results.{never_err}
use Rattle.tlsf_heap.proofs.heap.Heap.malloc_or_own.Goals as goal

-- where it is refused, so is it under slot 0
refused : (c : goal.After-malloc_or_own) → (refusal : Refusal) → c.malloc_or_own.result ≡ Err refusal → malloc_or_own 0 c.args.n (content_of c.self.inside.store.cells) ≡ Err refusal
refused c refusal is = IfErr-at_err (λ why. (slot : ℕ) → malloc_or_own slot c.args.n (content_of c.self.inside.store.cells) ≡ Err why) is c.malloc_or_own.ensures.refused 0

pub returns-clause-refused : goal.returns-clause-refused
returns-clause-refused c = record {
  refused = search rules;
  never_memory = λ is. or_own_lacks_none 0 (content_of c.self.inside.store.cells) c.args.n (refused c OutOfMemory is);
  unchanged = search rules;
}

pub returns-clause-room : goal.returns-clause-room
returns-clause-room c =
    rw (← c.self.view_is) (λ room. never_err c.malloc_or_own.result (λ refusal is. or_own_room_serves 0 c.args.n (content_of c.self.inside.store.cells) refusal (content_is_good c.self.inside.store.cells c.self.invariant) room (refused c refusal is)))
