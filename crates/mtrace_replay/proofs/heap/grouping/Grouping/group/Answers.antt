use Rattle.std.proofs.Common.{◌≡◌, List, arith, sym, ap, subst, length, map, reverse, vec_capacity, Bor}
use Rattle.std.proofs.Math.Nat.{min-le_right}
use Rattle.std.specs.List.Sorted.{IsPermutation, IsSortedByKey}
use Rattle.std.proofs.lemmas.List.{length-map}
use Rattle.std.proofs.lemmas.List.Sorted.{length_permutation, sum_by-IsPermutation, IsPermutation-reverse, IsPermutation-sym, IsPermutation-map, IsPermutation-trans}
use Rattle.mtrace_replay.specs.Sites.{Site, origin_cmp}
use Rattle.mtrace_replay.specs.Gather.{Grouped, lent_origin}
use Rattle.mtrace_replay.specs.Entry.{Entry}
use Rattle.mtrace_replay.proofs.Told.SiteLemmas.Sorting.{ordered_from_sorted}
use Rattle.mtrace_replay.proofs.Told.SiteLemmas.Exact.{sites_are}
use Rattle.mtrace_replay.proofs.heap.grouping.Grouping.group.Goals as goal

abbrev now : Bor Entry → Entry
now entry = entry.now

-- what is lent are the entries, in some order
lent_permutes : (held : List Entry) (entries sorted lent : List (Bor Entry)) → map now entries ≡ held → IsPermutation entries sorted → lent ≡ sorted → IsPermutation held (map now lent)
lent_permutes held entries sorted lent all moved is =
    subst (λ es. IsPermutation es (map now lent)) all (IsPermutation-map now entries lent (subst (IsPermutation entries) (sym is) moved))

as_many : (held : List Entry) (lent : List (Bor Entry)) → IsPermutation held (map now lent) → length lent ≡ length held
as_many held lent moved = omega (arith, length_permutation held (map now lent) moved, length-map lent now)

pub gather_sites-requires-clause-room : goal.gather_sites-requires-clause-room
gather_sites-requires-clause-room c =
    let moved = lent_permutes c.args.held _ _ c.as_slice.result.now c.collect.ensures.all c.sort_entries.ensures.moved c.as_slice.ensures.value in
    omega (arith, as_many c.args.held c.as_slice.result.now moved, c.requires.room, ap (λ (g : Grouped). g.room) c.self.view_is, min-le_right (vec_capacity c.self.inside.entries) (vec_capacity c.self.inside.sites), c.clear.ensures.capacity)

pub gather_sites-requires-clause-fits : goal.gather_sites-requires-clause-fits
gather_sites-requires-clause-fits c =
    let moved = lent_permutes c.args.held _ _ c.as_slice.result.now c.collect.ensures.all c.sort_entries.ensures.moved c.as_slice.ensures.value in
    omega (arith, sum_by-IsPermutation (λ (e : Entry). e.size) c.args.held (map now c.as_slice.result.now) moved, c.requires.fits)

pub returns-clause-sites : goal.returns-clause-sites
returns-clause-sites c =
    let held = c.args.held in
    let lent = c.as_slice.result.now in
    let sites = c.gather_sites.new.sites.items in
    let sorted = c.sort_sites.new.sites.items in
    let moved = lent_permutes held _ _ lent c.collect.ensures.all c.sort_entries.ensures.moved c.as_slice.ensures.value in
    let order = subst (λ es. IsSortedByKey lent_origin origin_cmp es) (sym c.as_slice.ensures.value) c.sort_entries.ensures.sorted in
    let back = IsPermutation-sym sites (reverse sites) (IsPermutation-reverse sites) in
    let arranged = IsPermutation-trans (reverse sites) sites sorted back c.sort_sites.ensures.moved in
    sites_are held (map now lent) sorted moved (ordered_from_sorted lent order)
    (subst (λ (ss : List Site). IsPermutation ss sorted) c.gather_sites.ensures.gathered arranged) c.sort_sites.ensures.sorted
