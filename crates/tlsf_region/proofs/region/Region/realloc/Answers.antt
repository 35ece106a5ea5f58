use Rattle.std.proofs.Common.{rules, ℕ, List, ◌++◌, take, drop, ◌≡◌, ◌≢◌, ◌+◌, ◌-◌, ◌≤◌, length, ap, sym, ◌∙◌, refl, Some, None, arith}
use Rattle.std.specs.Prelude.{◌==◌}
use Rattle.std.specs.List.{copy_within}
use Rattle.std.proofs.Math.Seq.{paste}
use Rattle.std.proofs.lemmas.Bool.{cond-false, ne_eqb}
use Rattle.std.proofs.lemmas.List.{length-take, length-drop}
use Rattle.std.proofs.lemmas.Result.{IfOk-weaker, err_from_is_err_and}
use Rattle.tlsf_heap.specs.Pointer.{place_and_slot, slot_of}
use Rattle.tlsf_heap.specs.Realloc.{realloc as reallocated}
use Rattle.tlsf_region.specs.Bytes.{block_bytes, taken_along}
use Rattle.tlsf_region.proofs.Ranges.{reallocated_ranges, still_within, within_kept, within_long}
use Rattle.tlsf_region.proofs.Room.{room_there}
use Rattle.tlsf_region.proofs.region.Region.realloc.Goals as goal

-- the bytes of a block that are copied to where it is now
copied : (old new size : ℕ) (bytes : List ℕ) → new ≢ old → old + size ≤ length bytes → copy_within bytes old (old + size) new ≡ taken_along old new size bytes
copied old new size bytes elsewhere within =
    let many : old + size - old ≡ size = omega arith in
    let long : length (block_bytes old size bytes) ≡ size = omega (arith, within, length-take size (drop old bytes), length-drop old bytes) in
    ap (λ n. paste bytes new (drop old bytes) n) many ∙ ap (λ n. take new bytes ++ block_bytes old size bytes ++ drop (new + n) bytes) (sym long)
    ∙ sym (cond-false _ _ _ (ne_eqb new old elsewhere))

pub invariant_of-self : goal.invariant_of-self
invariant_of-self c =
    let old = c.self.inside.heap.content in
    let new = c.realloc.new.self.content in (
      still_within c.realloc.result c.self.inside.heap c.realloc.new.self c.self.inside.bytes.items
          (IfOk-weaker c.realloc.result _ _ (λ given e. reallocated_ranges (slot_of given) None c.args.n old new (place_and_slot given) e.ok) c.realloc.ensures.ok)
          c.realloc.ensures.refused.unchanged c.self.invariant.0,
      c.self.invariant.1,
    )

pub returns-in_err-new-clause-refused : goal.returns-in_err-new-clause-refused
returns-in_err-new-clause-refused c =
    let same = ap (λ region. region.content) c.self-2.view_is ∙ c.live_size.ensures.read.unchanged.content in
    let exit = err_from_is_err_and c.from_residual.result c.from_residual.ensures.1 in
    record {
      refused = rw (exit.1, exit.2) (λ slot. (λ i. reallocated (λ a b. a == b) slot (place_and_slot (c.in-Some.is i)) c.args.n (sym same i)) ∙ c.in_err-new.ensures.refused.refused slot);
      never_memory = search rules;
      unchanged = search rules;
    }

pub invariant_of-self-in_default-2 : goal.invariant_of-self-in_default-2
invariant_of-self-in_default-2 c =
    let old = c.self-2.inside.heap.content in
    let new = c.realloc-2.new.self.content in (
      within_kept old new c.self-2.inside.bytes.items (reallocated_ranges _ (Some (c.in-Some.old.place, c.in-Some.old.slot)) c.args.n old new _ c.in_ok-new.ensures.ok.ok) c.self-2.invariant.0,
      c.self-2.invariant.1,
    )

pub copy_within-requires : goal.copy_within-requires
copy_within-requires c =
    let bytes = c.self-2.inside.bytes in
    let same = ap (λ region. region.content) c.self-2.view_is ∙ c.live_size.ensures.read.unchanged.content in
    let old : c.in-Some.old.place + c.in-Some-live_size.size ≤ length bytes.items = omega (arith, c.in-Some-live_size.ensures.some.within, ap (λ region. length region.bytes) c.self-2.view_is, ap length c.live_size.ensures.read.bytes) in
    let elsewhere : c.in-Some-2.new.place ≢ c.in-Some.old.place = λ is. c.if-place.false (c.place.ensures ∙ is ∙ sym c.place-2.ensures) in
    let new = room_there c.in-Some.old c.in-Some-2.new c.args.n c.in-Some-live_size.size c.args.self.now.content c.self-2.inside.heap.content c.realloc-2.new.self.content bytes.items same c.live_size.ensures.good c.self-2.invariant.0 c.in-Some-live_size.ensures.some.told (Some c.in-Some.old) _ refl c.in-Some-2.is c.in_ok-new.ensures.ok.ok elsewhere in
    record {
      start_le_end = omega arith;
      in_bounds = rw bytes.ok.0 (omega (arith, old, c.place-start.ensures));
      dest_in_bounds = rw bytes.ok.0 (omega (arith, new, c.place-3.ensures));
      not_exhausted = tt;
    }

pub invariant_of-self-then-place : goal.invariant_of-self-then-place
invariant_of-self-then-place c =
    let old = c.self-2.inside.heap.content in
    let new = c.realloc-2.new.self.content in (
      within_kept old new c.self-2.inside.bytes.items (reallocated_ranges _ (Some (c.in-Some.old.place, c.in-Some.old.slot)) c.args.n old new _ c.in_ok-new.ensures.ok.ok) c.self-2.invariant.0,
      c.self-2.invariant.1,
    )

pub invariant_of-self-2 : goal.invariant_of-self-2
invariant_of-self-2 c =
    let old = c.self-2.inside.heap.content in
    let new = c.realloc-2.new.self.content in
    let bytes = c.self-2.inside.bytes in
    let more = c.copy_within.new.self in
    let same_length = sym more.ok.0 ∙ c.copy_within.ensures.len ∙ bytes.ok.0 in (
      within_kept old new more.items (reallocated_ranges _ (Some (c.in-Some.old.place, c.in-Some.old.slot)) c.args.n old new _ c.in_ok-new.ensures.ok.ok)
          (within_long old bytes.items more.items same_length c.self-2.invariant.0),
      c.copy_within.ensures.capacity ∙ c.self-2.invariant.1 ∙ sym same_length,
    )

pub returns-clause-bytes : goal.returns-clause-bytes
returns-clause-bytes c =
    let old = c.in-Some.old in
    let new = c.in-Some-2.new in
    let within : old.place + c.in-Some-live_size.size ≤ length c.self-2.inside.bytes.items = omega (arith, c.in-Some-live_size.ensures.some.within, ap (λ region. length region.bytes) c.self-2.view_is, ap length c.live_size.ensures.read.bytes) in
    let elsewhere : new.place ≢ old.place = λ is. c.if-place.false (c.place.ensures ∙ is ∙ sym c.place-2.ensures) in
    let taken : c.copy_within.new.self.items ≡ taken_along old.place new.place c.in-Some-live_size.size c.self-2.inside.bytes.items = c.copy_within.ensures.items ∙ rw (c.place-start.ensures, c.place-3.ensures) (copied old.place new.place c.in-Some-live_size.size c.self-2.inside.bytes.items elsewhere within) in
    search rules
