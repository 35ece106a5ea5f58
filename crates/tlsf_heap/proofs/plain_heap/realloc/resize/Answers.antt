use Rattle.std.proofs.Common.{rules, ◌<◌}
use Rattle.std.specs.Prelude.{◌==◌}
use Rattle.tlsf_heap.proofs.Good.StaysLive.{live_after}
use Rattle.tlsf_heap.proofs.Plain.Realloc.{live_below}
use Rattle.tlsf_heap.proofs.plain_heap.realloc.resize.Goals as goal
use Rattle.tlsf_heap.proofs.plain_heap.realloc.resize.Goals.{Start}

-- the slot of the block is one of the slots
below : (c : Start) → c.args.ptr.slot < c.args.content.now.records
below c = live_below c.args.ptr.slot c.args.ptr.place c.args.content.now c.requires.plain c.requires.live

pub returns-then-asked-size : goal.returns-then-asked-size
returns-then-asked-size c = record {
  plain = search rules;
  ok = record { ok = search rules; slot_below = below (goal.at.returns-then-asked-size c).Start; slot_new = search rules };
  refused = search rules;
}

pub returns-then-fits_in_place : goal.returns-then-fits_in_place
returns-then-fits_in_place c = record {
  plain = search rules;
  ok = record { ok = search rules; slot_below = below (goal.at.returns-then-fits_in_place c).Start; slot_new = search rules };
  refused = search rules;
}

pub returns-then-asked-size-2 : goal.returns-then-asked-size-2
returns-then-asked-size-2 c = record {
  plain = search rules;
  ok = record { ok = search rules; slot_below = below (goal.at.returns-then-asked-size-2 c).Start; slot_new = search rules };
  refused = search rules;
}

pub freed-requires-clause-live : goal.freed-requires-clause-live
freed-requires-clause-live c =
    live_after (λ slot. slot == c.args.ptr.slot) c.in_ok-next.new.slot c.args.asked c.args.ptr.place c.args.content.now (c.in_ok-next.new.place, c.in_ok-next.next) c.requires.plain.good c.requires.live c.in_ok-next.ensures.ok.ok
