-- The block that realloc leaves is live, and has the bytes.
use Rattle.std.proofs.Common.{rules, ◌≡◌, ℕ, ◌%◌, map, Some, Ok, sym, ap, ◌∙◌, subst, arith}
use Rattle.tlsf_heap.specs.Content.{Content}
use Rattle.tlsf_heap.specs.Counted.{Counted, range_of}
use Rattle.tlsf_heap.specs.Pointer.{realloc_ptr, block_size_ptr}
use Rattle.tlsf_heap.specs.Room.{HasRoom}
use Rattle.tlsf_c.specs.LiveFigures.{IsLiveChange}
use Rattle.tlsf_c.specs.Lying.{LiesIn}
use Rattle.tlsf_c.proofs.LiveChanges.{resized_change}
use Rattle.tlsf_c.proofs.Refusing.{never_on, resized_without}
use Rattle.tlsf_c.proofs.ResizedBlock.{live_units, size_told, same_ranges, holds_bytes, lies_still}
use Rattle.tlsf_c.proofs.placed_sizes.resize.Goals as goal

pub unreachable-requires : goal.unreachable-requires
unreachable-requires c =
    let old = (c.heap.result.now).content in
    let new = c.heap-heap.result.now in
    let given = c.in_ok-new.new in
    let good = c.keeps_good.ensures.good in
    let served = subst (λ (h : Counted). realloc_ptr (Some c.args.block.ptr) c.args.bytes given.slot old ≡ Ok (Some (given.place, given.slot), h.content)) (sym c.heap-heap.ensures.value) c.in_ok-new.ensures.ok.ok in
    size_told c.args.block.ptr given c.args.bytes old new.content good served c.in_default.field-0 c.in_default.ensures.refused.refused

pub returns : goal.returns
returns c =
    let ptr = c.args.block.ptr in
    let had = c.args.block.size in
    let first = c.args.handle.now.value in
    let old = c.heap.result.now in
    let new = c.heap-heap.result.now.content in
    let given = c.in_ok-new.new in
    let good = c.keeps_good.ensures.good in
    let good_now = c.keeps_good-2.ensures.good in
    let told = c.in-Ok.ensures.ok in
    let last = c.block_size.new.self.content in
    let served = subst (λ (h : Counted). realloc_ptr (Some ptr) c.args.bytes given.slot old.content ≡ Ok (Some (given.place, given.slot), h.content)) (sym c.heap-heap.ensures.value) c.in_ok-new.ensures.ok.ok in
    let told_before = subst (λ (h : Counted). block_size_ptr ptr h.content ≡ Ok had) (sym c.heap.ensures.value) c.requires.sized in
    let is = live_units given c.in-Ok.size new good_now told in
    let lies = lies_still ptr given c.args.bytes old.content new good served good_now c.in-Ok.size told in
    let change = resized_change ptr given c.args.bytes had c.in-Ok.size old.content new good good_now told_before told served in
    let changed = subst (λ (k : Content ℕ). IsLiveChange 1 had 1 c.in-Ok.size old.content k) (sym c.block_size.ensures.read.unchanged.content) change in
    record {
      ok = search rules;
      in_units = is.place;
      units = subst (λ (n : ℕ). n % 16 ≡ 0) (sym c.from.ensures) is.size_in_units;
      most = omega (arith, is.most, c.from.ensures);
      holds = omega (arith, holds_bytes ptr given c.args.bytes old.content new good served good_now c.in-Ok.size told, c.from.ensures);
      lies = subst (λ (h : Counted). LiesIn given.place c.from.result (map range_of h.content.pools)) c.heap.ensures.value (subst (λ (n : ℕ). LiesIn given.place n (map range_of old.content.pools)) (sym c.from.ensures) lies);
      size = search rules;
      live = subst (λ (h : Counted). IsLiveChange 1 had 1 c.from.result h.content last) c.heap.ensures.value (subst (λ (n : ℕ). IsLiveChange 1 had 1 n old.content last) (sym c.from.ensures) changed);
      ranges = ap (λ (k : Content ℕ). map range_of k.pools) c.block_size.ensures.read.unchanged.content ∙ same_ranges ptr given c.args.bytes old.content new good served ∙ ap (λ (h : Counted). map range_of h.content.pools) c.heap.ensures.value;
      refused = search rules;
      unchanged = search rules;
      room = search rules;
      stands = search rules;
      bound = search rules;
    }

pub returns-in_err-new-clause-room : goal.returns-in_err-new-clause-room
returns-in_err-new-clause-room c =
    let ptr = c.args.block.ptr in
    let old = c.heap.result.now in
    let told_before = subst (λ (h : Counted). block_size_ptr ptr h.content ≡ Ok c.args.block.size) (sym c.heap.ensures.value) c.requires.sized in
    let why = c.in_err-new.ensures.refused in
    never_on (HasRoom c.args.bytes c.args.handle.now.value.content) c.from_residual.result (λ room.
    resized_without ptr c.args.bytes c.args.block.size old.content why.0 c.keeps_good.ensures.good (λ e. absurd (omega (arith, e, c.requires.some))) told_before why.2
    (subst (λ (h : Counted). HasRoom c.args.bytes h.content) (sym c.heap.ensures.value) room))
