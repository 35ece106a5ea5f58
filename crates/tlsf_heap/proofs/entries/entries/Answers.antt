-- One entry more in each turn, until one is empty.
use Rattle.std.proofs.Common.{◌≡◌, ◌++◌, [], ◌∷◌, ◌<◌, ℕ, length, List, Option, sym, ap, ◌∙◌, arith}
use Rattle.tlsf_store.specs.declared.pools.Pool.{Pool as StoredPool}
use Rattle.std.proofs.lemmas.List.{append-nil}
use Rattle.tlsf_heap.specs.Inner.Entries.{entries_of}
use Rattle.tlsf_heap.proofs.Inner.EntryLists.{entries_of_more, length-entries_more, entries_below_more}
use Rattle.tlsf_heap.proofs.entries.entries.Goals as goal
use Rattle.tlsf_heap.proofs.entries.entries.Goals.{in-Some, in_default}

pub loop-number-preserved : goal.loop-number-preserved
loop-number-preserved c =
    let pools : List (Option StoredPool) = c.args.store.now.cells.pools in
    let count : ℕ = length c.args.store.now.cells.records in
    let n : ℕ = c.loop-number.number in
    let within : n < length pools = omega (arith, c.loop-number-test.true, c.requires) in
    let below = rw c.loop-number.invariant.cells at c.pool.ensures.below in
    let pushed : c.match-pool.entries.items ≡ c.loop-number.entries.items ++ entries_of (c.pool.result ∷ []) = elim c.match-pool.branch [
      | in-Some w ↦ rw (w.entries-is, w.in-Some.is) w.push.ensures.items
      | in_default w ↦ rw (w.entries-is, w.in_default.is) (sym (append-nil _))
    ] in
    record {
      items = rw (pushed, c.loop-number.invariant.items, c.pool.ensures.value, c.loop-number.invariant.cells) (sym (entries_of_more pools n within));
      few = omega (arith, ap length pushed, length-entries_more c.loop-number.entries.items c.pool.result, c.loop-number.invariant.few);
      below = rw pushed (entries_below_more count c.loop-number.entries.items c.pool.result c.loop-number.invariant.below below);
      cells = c.pool.ensures.left.cells ∙ c.loop-number.invariant.cells;
      touches = omega (arith, c.pool.ensures.left.touches, c.loop-number.invariant.touches);
    }
