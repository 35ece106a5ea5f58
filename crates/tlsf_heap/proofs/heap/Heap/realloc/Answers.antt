use Rattle.std.proofs.Common.{rules, ◌≡◌, ℕ, Err, inl, inr}
use Rattle.std.specs.Prelude.{◌==◌, ◌⊎◌}
use Rattle.std.proofs.lemmas.Result.{IfErr-at_err}
use Rattle.tlsf_heap.specs.declared.refusal.Refusal.{Refusal}
use Rattle.tlsf_heap.specs.declared.refusal.Refusal.TheVariants.{NoFit, TableFull, BadPointer, OutOfMemory}
use Rattle.tlsf_heap.specs.Pointer.{place_and_slot}
use Rattle.tlsf_heap.specs.Inner.Following.{content_of}
use Rattle.tlsf_heap.specs.Malloc.{malloc}
use Rattle.tlsf_heap.specs.Realloc.{realloc}
use Rattle.tlsf_heap.proofs.Inner.Standing.{content_is_good}
use Rattle.tlsf_heap.proofs.Good.Implied.{malloc_full, no_fit}
use Rattle.tlsf_heap.proofs.Good.Room.{realloc_room_serves}
use Rattle.tlsf_heap.proofs.Content.MallocCases.{malloc_lacks_none}
use Rattle.tlsf_heap.proofs.Content.ReallocCases.{realloc_refused}
use Rattle.tlsf_heap.proofs.Content.Results.{each_err}
use Rattle.tlsf_heap.proofs.heap.Heap.realloc.Goals as goal

-- where realloc is refused, so is it under slot 0
refused_anew : (c : goal.After-realloc) → (refusal : Refusal) → c.realloc.result ≡ Err refusal → realloc (λ a b. a == b) 0 (place_and_slot c.args.ptr) c.args.n (content_of c.self.inside.store.cells) ≡ Err refusal
refused_anew c refusal is = IfErr-at_err (λ why. (slot : ℕ) → realloc (λ a b. a == b) slot (place_and_slot c.args.ptr) c.args.n (content_of c.self.inside.store.cells) ≡ Err why) is c.realloc.ensures.refused 0

-- then malloc is refused alike, or it is for another reason
refused : (c : goal.After-realloc) → (refusal : Refusal) → c.realloc.result ≡ Err refusal → (malloc 0 c.args.n (content_of c.self.inside.store.cells) ≡ Err refusal) ⊎ ((refusal ≡ NoFit) ⊎ (refusal ≡ BadPointer))
refused c refusal is = elim (realloc_refused 0 refusal (λ a b. a == b) (place_and_slot c.args.ptr) c.args.n (content_of c.self.inside.store.cells) (refused_anew c refusal is)) [
  | inl asked ↦ inl asked
  | inr (inl fit) ↦ inr (inl fit.0)
  | inr (inr bad) ↦ inr (inr bad)
]

pub returns-clause-table_full : goal.returns-clause-table_full
returns-clause-table_full c = λ is.
    rw (← c.self.view_is) (elim (refused c TableFull is) [
      | inl full ↦ malloc_full 0 c.args.n (content_of c.self.inside.store.cells) (content_is_good c.self.inside.store.cells c.self.invariant) full
      | inr (inl other) ↦ absurd (cc)
      | inr (inr other) ↦ absurd (cc)
    ])

pub returns-clause-refused : goal.returns-clause-refused
returns-clause-refused c = record {
  refused = search rules;
  never_memory = λ is. elim (refused c OutOfMemory is) [
    | inl memory ↦ malloc_lacks_none 0 c.args.n (content_of c.self.inside.store.cells) memory
    | inr (inl other) ↦ cc
    | inr (inr other) ↦ cc
  ];
  unchanged = search rules;
}

pub returns-clause-room : goal.returns-clause-room
returns-clause-room c =
    rw (← c.self.view_is) (λ room. each_err c.realloc.result (λ refusal. refusal ≡ BadPointer)
    (λ refusal is. realloc_room_serves 0 (λ a b. a == b) (place_and_slot c.args.ptr) c.args.n (content_of c.self.inside.store.cells) refusal (content_is_good c.self.inside.store.cells c.self.invariant) room (refused_anew c refusal is)))

pub returns-clause-no_fit : goal.returns-clause-no_fit
returns-clause-no_fit c = λ is.
    rw (← c.self.view_is) (λ m k rounds needed. elim (realloc_refused 0 NoFit (λ a b. a == b) (place_and_slot c.args.ptr) c.args.n (content_of c.self.inside.store.cells) (refused_anew c NoFit is)) [
      | inl asked ↦ no_fit 0 c.args.n (content_of c.self.inside.store.cells) (content_is_good c.self.inside.store.cells c.self.invariant) asked m k rounds needed
      | inr (inl fit) ↦ absurd (cc)
      | inr (inr bad) ↦ absurd (cc)
    ])
