-- The block's bytes, then its state.
use Rattle.std.proofs.Common.{ℕ, ◌+◌, List, ◌++◌, arith}
use Rattle.tlsf_store.specs.declared.records.Record.{Record}
use Rattle.tlsf_heap.specs.Images.Writing.{four, head_bytes}
use Rattle.tlsf_heap.proofs.Images.Appending.{then_text}
use Rattle.tlsf_heap.proofs.image.writing.push_block.Goals as goal

pub returns : goal.returns
returns c =
    let r : Record = c.args.block.now in
    let old : List ℕ = c.args.piece.now.items in
    let place : List ℕ = four r.place in
    let size : List ℕ = four (r.size + c.args.code) in
    let links : List ℕ = head_bytes r.prev ++ head_bytes r.next in
    record {
      appended = record {
        bytes =
            then_text old c.push_link-3.new.piece.items c.push_link-4.new.piece.items (place ++ (size ++ (links ++ head_bytes r.prev_free))) (head_bytes r.next_free)
            (then_text old c.push_link-2.new.piece.items c.push_link-3.new.piece.items (place ++ (size ++ links)) (head_bytes r.prev_free)
            (then_text old c.push_link.new.piece.items c.push_link-2.new.piece.items (place ++ (size ++ head_bytes r.prev)) (head_bytes r.next)
            (then_text old c.push_four-2.new.piece.items c.push_link.new.piece.items (place ++ size) (head_bytes r.prev)
            (then_text old c.push_four.new.piece.items c.push_four-2.new.piece.items place size c.push_four.ensures.appended.bytes c.push_four-2.ensures.appended.bytes) c.push_link.ensures.appended.bytes)
            c.push_link-2.ensures.appended.bytes) c.push_link-3.ensures.appended.bytes) c.push_link-4.ensures.appended.bytes;
        len = omega arith;
      };
    }
