-- A vacant position takes the key, so one address more is held and no other changes.
use Rattle.std.proofs.Common.{ℕ, List, slice_index_or, Some, None, refl, sym, ap, ◌∙◌, subst, cond, arith}
use Rattle.std.specs.Prelude.{◌==◌, Result, Ok, Err, IfOk}
use Rattle.std.proofs.lemmas.List.{get_or_default}
use Rattle.std.specs.List.{remove}
use Rattle.mtrace_replay.specs.declared.heap.key.Key.{Key}
use Rattle.mtrace_replay.specs.Search.{StandsAt, FitsAt, IsVacantAt}
use Rattle.mtrace_replay.specs.Index.{Indexed, IsFound, IsNewSlot, held_at}
use Rattle.mtrace_replay.proofs.Index.IndexLemmas.{Puts, vacant_there, enters, puts_keeps, puts_held}
use Rattle.mtrace_replay.proofs.heap.index.Index.insert.Goals.{After-put}
use Rattle.mtrace_replay.proofs.heap.index.Index.insert.Goals as goal

pub make_gap-gap-requires-clause-vacant : goal.make_gap-gap-requires-clause-vacant
make_gap-gap-requires-clause-vacant c =
    let kept = c.self.inside.keys in
    let address = c.args.entry.now.addr in
    let found = subst (λ keys. IsFound keys c.args.found.now) (sym (ap (λ (index : Indexed). index.keys) c.self.view_is)) c.requires.found in
    by_position kept.keys (λ at stands. vacant_there kept address at (slice_index_or kept.keys at (record { address = 0; block = None })) (record { rise = c.self.invariant.rise; have = c.self.invariant.rows; stands = stands; there = get_or_default kept.keys at _ _ stands.0 })
    (ap (λ (index : Indexed). held_at index.all address) c.self.view_is ∙ c.requires.free)) c.args.found.now.position
    (subst (λ a. IfOk c.args.found.now.position (StandsAt kept.keys a)) c.requires.address found.held)
  where
    by_position : {address : ℕ} → (keys : List Key) → ((at : ℕ) → StandsAt keys address at → IsVacantAt keys at) → (position : Result ℕ ℕ) → IfOk position (StandsAt keys address) → IfOk position (IsVacantAt keys)
    by_position keys vacant (Ok at) stands = vacant at stands
    by_position keys vacant (Err at) stands = tt

-- it is held from then on, and all else as before
put : (c : After-put) → Puts c.self.inside.keys c.put.new.self c.args.entry.now.addr None (Some (record { entry = c.args.entry.now; ptr = c.args.ptr }))
put c =
    let kept = c.self.inside.keys in
    let address = c.args.entry.now.addr in
    let found = subst (λ keys. IsFound keys c.args.found.now) (sym (ap (λ (index : Indexed). index.keys) c.self.view_is)) c.requires.found in
    let fits = subst (λ a. FitsAt (remove c.make_gap-gap.new.keys.keys c.make_gap-gap.result.from) a c.make_gap-gap.result.to) c.requires.address (c.make_gap-gap.ensures.fits c.args.found.now.address c.self.invariant.rise found.held found.absent) in
    let is_new = subst (IsNewSlot c.args.ptr.slot address) (sym (ap (λ (index : Indexed). index.all) c.self.view_is)) c.requires.new in
    let new : Key = record { address = address; block = Some c.args.ptr } in
    enters kept c.put.new.self (remove c.make_gap-gap.new.keys.keys c.make_gap-gap.result.from) c.make_gap-gap.new.keys.rows address c.make_gap-gap.result.to c.args.entry.now c.args.ptr new c.make_gap-gap.ensures.others
    c.self.invariant.rise c.self.invariant.rows fits c.make_gap-gap.ensures.rows refl refl refl c.put.ensures.keys c.put.ensures.rows is_new

pub invariant_of-self : goal.invariant_of-self
invariant_of-self c =
    puts_keeps _ _ _ _ _ (put (goal.at.invariant_of-self c).After-put) c.self.inside.blocks c.self.inside.bytes _ _ c.self.invariant
    (omega (arith, c.put.ensures.len, c.put.ensures.rows.room, c.make_gap-gap.ensures.within, c.make_gap-gap.ensures.rows.room)) (c.put.ensures.rows.room ∙ c.make_gap-gap.ensures.rows.room) (omega arith) (omega arith)

pub returns-clause-held : goal.returns-clause-held
returns-clause-held c other =
    ap (λ all. held_at all other) c.settle.ensures.unchanged
    ∙ puts_held _ _ _ _ _ (put (goal.at.returns-clause-held c).After-put) other
    ∙ ap (λ (index : Indexed). cond (c.args.entry.now.addr == other) (Some (record { entry = c.args.entry.now; ptr = c.args.ptr })) (held_at index.all other)) c.self.view_is
