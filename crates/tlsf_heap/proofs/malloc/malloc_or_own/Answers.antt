-- The block picked is taken, and where none is the first of the bytes' own class.
use Rattle.std.proofs.Common.{◌≡◌, ℕ, List, cond, sym, ap, ◌∙◌, subst, arith, Option, None, Some, Err}
use Rattle.std.proofs.lemmas.Bool.{ne_eqb}
use Rattle.tlsf_class.specs.Rounding.{round}
use Rattle.tlsf_store.specs.Records.{record_at}
use Rattle.tlsf_store.specs.CountedCells.{CountedCells}
use Rattle.tlsf_heap.specs.declared.refusal.Refusal.TheVariants.{ZeroSize}
use Rattle.tlsf_heap.specs.Malloc.{malloc_picked}
use Rattle.tlsf_store.specs.Cells.{Cells, head_at}
use Rattle.tlsf_heap.specs.Content.{IsSize}
use Rattle.tlsf_heap.specs.Lists.{pick}
use Rattle.tlsf_heap.specs.OwnClass.{own_first, picked_or_own, malloc_or_own, malloc_or_own_rounded}
use Rattle.tlsf_heap.specs.Inner.Following.{Stands, content_of}
use Rattle.tlsf_heap.specs.Inner.Answers.{Leaves, IsPickOf, IsTakenFor, IsFirstFor}
use Rattle.tlsf_heap.proofs.Content.Alignments.{round_size}
use Rattle.tlsf_heap.proofs.Inner.Answered.{answered_as}
use Rattle.tlsf_heap.proofs.Inner.TakenBlock.{pick_takeable, first_taken}
use Rattle.tlsf_heap.proofs.malloc.malloc_or_own.Goals as goal
use Rattle.tlsf_heap.proofs.malloc.malloc_or_own.Goals.{in-Some, in-None+in_ok-class-in-None, After-first-slot, In_ok-asked}

sized : (c : In_ok-asked) → IsSize c.in_ok-asked.asked
sized c = round_size c.args.n c.in_ok-asked.asked (sym c.round.ensures ∙ c.in_ok-asked.ensures.ok_part)

pub pick-requires-clause-whole : goal.pick-requires-clause-whole
pick-requires-clause-whole c = (sized (goal.at.pick-requires-clause-whole c).In_ok-asked).in_units

pub pick-requires-clause-some : goal.pick-requires-clause-some
pick-requires-clause-some c = (sized (goal.at.pick-requires-clause-some c).In_ok-asked).positive

pub own_class-requires-clause-size : goal.own_class-requires-clause-size
own_class-requires-clause-size c = sized (goal.at.own_class-requires-clause-size c).In_ok-asked

pub take-requires-clause-size : goal.take-requires-clause-size
take-requires-clause-size c = sized (goal.at.take-requires-clause-size c).In_ok-asked

-- the block that is picked is the one that is found
picked_found : (cells : Cells) (stands : Stands cells) (asked class : ℕ) → IsPickOf asked class cells → IsFirstFor asked (picked_or_own asked (content_of cells) (pick asked (content_of cells).lists)) class cells
picked_found cells stands asked class is = (
  is.0,
  is.1,
  record {
    takeable = pick_takeable cells stands asked class is.0 is.2;
    found = ap (λ (place : Option ℕ). picked_or_own asked (content_of cells) place) is.2.found;
  },
)

-- and where none is picked, the first of the own class
own_found : (cells before : Cells) (asked class : ℕ) → before ≡ cells → pick asked (content_of cells).lists ≡ None → IsFirstFor asked (own_first asked (content_of before)) class before → IsFirstFor asked (picked_or_own asked (content_of cells) (pick asked (content_of cells).lists)) class cells
own_found cells before asked class same none is =
    subst (λ place. IsFirstFor asked place class cells) (sym (ap (λ (place : Option ℕ). picked_or_own asked (content_of cells) place) none)) (subst (λ c. IsFirstFor asked (own_first asked (content_of c)) class c) same is)

-- the first block of the class on each way to it
chosen : (c : After-first-slot) → IsFirstFor c.in_ok-asked.asked (picked_or_own c.in_ok-asked.asked (content_of c.args.store.now.cells) (pick c.in_ok-asked.asked (content_of c.args.store.now.cells).lists)) c.match-pick.class c.args.store.now.cells
chosen c =
    let old : Cells = c.args.store.now.cells in
    let asked : ℕ = c.in_ok-asked.asked in
    let P : ℕ → Type 0 = λ class. IsFirstFor asked (picked_or_own asked (content_of old) (pick asked (content_of old).lists)) class old in
    elim c.match-pick.branch [
      | in-Some w ↦ subst P (sym w.class-is) (picked_found old c.requires asked w.in-Some.class w.in-Some.ensures.found)
      | in-None+in_ok-class-in-None w ↦ subst P (sym w.class-is)
          (own_found old c.pick.new.store.cells asked w.in_ok-class-in-None.class c.pick.ensures.left.cells w.in-None.ensures.found (rw w.in_ok-class-in-None.ensures.ok_part at w.own_class.ensures.found))
    ]

-- the cells are as they were
read : (c : After-first-slot) → Leaves c.args.store.now.cells 6 c.args.store.now c.first-slot.new.self
read c =
    let old : CountedCells = c.args.store.now in
    let P : CountedCells → Type 0 = λ store. Leaves old.cells 5 old store in
    let chose : Leaves old.cells 5 old c.match-pick.store = elim c.match-pick.branch [
      | in-Some w ↦ subst P (sym w.store-is) (record {
        cells = c.pick.ensures.left.cells;
        touches = record { floor = c.pick.ensures.left.touches.floor; bound = omega (arith, c.pick.ensures.left.touches.bound) };
      })
      | in-None+in_ok-class-in-None w ↦ subst P (sym w.store-is) (record {
        cells = w.own_class.ensures.left.cells ∙ c.pick.ensures.left.cells;
        touches = record { floor = omega (arith, c.pick.ensures.left.touches.floor, w.own_class.ensures.left.touches.floor); bound = omega (arith, c.pick.ensures.left.touches.bound, w.own_class.ensures.left.touches.bound) };
      })
    ] in
    record {
      cells = c.first-slot.ensures.left.cells ∙ chose.cells;
      touches = record { floor = omega (arith, chose.touches.floor, c.first-slot.ensures.left.touches); bound = omega (arith, chose.touches.bound, c.first-slot.ensures.left.touches) };
    }

-- the block that is taken
taken : (c : After-first-slot) → IsTakenFor c.in_ok-asked.asked (picked_or_own c.in_ok-asked.asked (content_of c.args.store.now.cells) (pick c.in_ok-asked.asked (content_of c.args.store.now.cells).lists)) c.match-pick.class c.first-slot.result c.first-slot.new.self.cells
taken c =
    let old : Cells = c.args.store.now.cells in
    let heads : List (Option ℕ) → Type 0 = λ heads. head_at heads c.match-pick.class ≡ Some c.first-slot.result in
    first_taken old c.first-slot.new.self.cells c.in_ok-asked.asked _ c.match-pick.class c.first-slot.result (chosen c)
    (subst heads (ap (λ (cells : Cells). cells.heads) (sym c.first-slot.ensures.left.cells ∙ (read c).cells)) c.first-slot.ensures.value) (read c).cells

pub take-requires-clause-takeable : goal.take-requires-clause-takeable
take-requires-clause-takeable c = (taken (goal.at.take-requires-clause-takeable c).After-first-slot).takeable

pub returns : goal.returns
returns c =
    let old : Cells = c.args.store.now.cells in
    let is = taken (goal.at.returns c).After-first-slot in
    let left = read (goal.at.returns c).After-first-slot in
    let round_is : round c.args.n ≡ Some c.in_ok-asked.asked = sym c.round.ensures ∙ c.in_ok-asked.ensures.ok_part in
    answered_as (λ slot. malloc_or_own slot c.args.n) (λ owner. malloc_picked owner c.in_ok-asked.asked (Some (record_at c.first-slot.new.self.cells.records c.first-slot.result).place)) c.take.result 17 6 c.args.store.now c.first-slot.new.self c.take.new.store
    (λ slot.
    ap (λ b. cond b (Err ZeroSize) (malloc_or_own_rounded slot (round c.args.n) (content_of old))) (ne_eqb c.args.n 0 c.if-n-eq0.false)
    ∙ ap (λ rounded. malloc_or_own_rounded slot rounded (content_of old)) round_is
    ∙ ap (λ place. malloc_picked slot c.in_ok-asked.asked place (content_of old)) is.found)
    left.cells left.touches c.take.ensures
