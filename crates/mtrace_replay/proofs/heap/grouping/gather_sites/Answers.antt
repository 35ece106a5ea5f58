-- Sums of a part of the entries fit where the sum of all does.
use Rattle.std.proofs.Common.{◌≡◌, ◌≤◌, ◌-◌, suc, arith, subst, map, drop, length, length-drop, sym, ap, List, Bor}
use Rattle.std.proofs.Math.ListN.{length-map}
use Rattle.std.specs.List.{AllByRecursion, sum_by}
use Rattle.mtrace_replay.specs.Sites.{Site}
use Rattle.mtrace_replay.specs.Entry.{Entry}
use Rattle.mtrace_replay.proofs.Told.SiteLemmas.Gathered.{gather_small}
use Rattle.mtrace_replay.proofs.Told.SiteLemmas.Sorting.{small_sites, part_sum}
use Rattle.mtrace_replay.proofs.heap.grouping.gather_sites.Goals as goal

pub join-requires-clause-blocks : goal.join-requires-clause-blocks
join-requires-clause-blocks c k d lt =
    let es = map (λ (e : Bor Entry). e.now) (drop c.loop-left.left c.args.entries.now) in
    let P = λ (ss : List Site). AllByRecursion (λ (s : Site). (s.blocks ≤ length es) × (s.bytes ≤ sum_by (λ e. e.size) es)) ss in
    let small = small_sites c.loop-left.sites.items (length es) (sum_by (λ e. e.size) es) (subst P (sym c.loop-left.invariant.gathered) (gather_small es)) k d lt in
    omega (arith, small.0, length-map (drop c.loop-left.left c.args.entries.now) (λ (e : Bor Entry). e.now), length-drop c.loop-left.left c.args.entries.now, c.requires.few, c.loop-left.invariant.within, c.loop-left-test.true)

pub join-requires-clause-bytes : goal.join-requires-clause-bytes
join-requires-clause-bytes c k d lt =
    let es = map (λ (e : Bor Entry). e.now) (drop c.loop-left.left c.args.entries.now) in
    let P = λ (ss : List Site). AllByRecursion (λ (s : Site). (s.blocks ≤ length es) × (s.bytes ≤ sum_by (λ e. e.size) es)) ss in
    let small = small_sites c.loop-left.sites.items (length es) (sum_by (λ e. e.size) es) (subst P (sym c.loop-left.invariant.gathered) (gather_small es)) k d lt in
    let i : suc (c.loop-left.left - 1) ≡ c.loop-left.left = omega (arith, c.loop-left-test.true) in
    let part = part_sum (λ (e : Entry). e.size) (c.loop-left.left - 1) c.args.entries.now c.index-entries-left.result (omega (arith, c.loop-left.invariant.within, c.loop-left-test.true)) in
    let part2 = rw i at part in
    let is = ap (λ (e : Bor Entry). e.now.size) c.index-entries-left.is in
    omega (arith, small.1, part2, c.requires.fits, is)
