use Rattle.std.proofs.Common.{◌≡◌, ℕ, ◌<◌, List, length, map, get_or, Some, None, refl, ap, ◌∙◌, arith}
use Rattle.std.specs.List.Sorted.{IsStrictlyIncreasing}
use Rattle.std.proofs.lemmas.List.{get_or-map, get_or_default, length-map}
use Rattle.std.proofs.lemmas.List.Elements.{Contains-get_or}
use Rattle.std.proofs.lemmas.Map.Keys.{sorted_from_strictly_increasing}
use Rattle.mtrace_replay.specs.Entry.{Entry}
use Rattle.mtrace_replay.specs.Texts.{entry_text}
use Rattle.mtrace_replay.specs.Ledger.{entry_under}
use Rattle.mtrace_replay.proofs.History.SortedLemmas.{is_found}
use Rattle.mtrace_replay.proofs.Told.TextLemmas.{text_more, text_fails}
use Rattle.mtrace_replay.proofs.ledger.report.put_entries.Goals as goal

-- the entry of a number
abbrev numbered : List Entry → ℕ → Entry
numbered all index = get_or all index (record { addr = 0; size = 0; line = 0; at = None })

from_some : (one other : Entry) → Some one ≡ Some other → one ≡ other
from_some one other same = cc

module _ (all : List Entry) (addresses : List ℕ) (index : ℕ) (same : addresses ≡ map (λ entry. entry.addr) all) (below : index < length addresses) where
  within : index < length all
  within = omega (arith, below, ap (length {A = ℕ}) same, length-map all (λ (entry : Entry). entry.addr))

  -- what is held under the address of a number is the entry of that number
  entry_at : IsStrictlyIncreasing (map (λ (entry : Entry). entry.addr) all) → entry_under all (get_or addresses index 0) ≡ Some (numbered all index)
  entry_at rises =
      let at : get_or addresses index 0 ≡ (numbered all index).addr = ap (λ list. get_or list index 0) same ∙ get_or-map (λ (entry : Entry). entry.addr) all index (record { addr = 0; size = 0; line = 0; at = None }) 0 within in
      ap (entry_under all) at
      ∙ is_found (λ entry. entry.addr) all (numbered all index) (sorted_from_strictly_increasing (map (λ entry. entry.addr) all) rises)
      (Contains-get_or all index (record { addr = 0; size = 0; line = 0; at = None }) within)

pub unreachable-requires : goal.unreachable-requires
unreachable-requires g c =
    let there = entry_at c.args.ledger.now.all c.args.addresses.now c.loop-address.address-index c.requires c.loop-address-test.true c.keeps_order.ensures in
    let none : None ≡ entry_under c.args.ledger.now.all (get_or c.args.addresses.now c.loop-address.address-index 0) = c.in_default.ensures in
    cc (none, there)

pub loop-address-preserved : goal.loop-address-preserved
loop-address-preserved g c =
    let all = c.args.ledger.now.all in
    let index = c.loop-address.address-index in
    let inside = within all c.args.addresses.now index c.requires c.loop-address-test.true in
    let there = entry_at all c.args.addresses.now index c.requires c.loop-address-test.true c.keeps_order.ensures in
    text_more entry_text all all index (numbered all index) refl inside (get_or_default all index _ _ inside) _ _ _
    c.loop-address.invariant _ (ap entry_text (from_some _ (numbered all index) (c.in-Some.ensures ∙ there))) c.in_ok-put_entry.ensures

pub returns-in_err-put_entry : goal.returns-in_err-put_entry
returns-in_err-put_entry g c =
    let all = c.args.ledger.now.all in
    let index = c.loop-address.address-index in
    let inside = within all c.args.addresses.now index c.requires c.loop-address-test.true in
    let there = entry_at all c.args.addresses.now index c.requires c.loop-address-test.true c.keeps_order.ensures in
    text_fails entry_text all all index (numbered all index) refl inside (get_or_default all index _ _ inside) _ _ _
    c.loop-address.invariant _ (ap entry_text (from_some _ (numbered all index) (c.in-Some.ensures ∙ there))) c.from_residual.result _ c.from_residual.ensures.1 c.in_err-put_entry.ensures
