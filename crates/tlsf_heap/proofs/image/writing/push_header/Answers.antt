-- The magic, the counts, then zeros.
use Rattle.std.proofs.Common.{ℕ, List, ◌++◌, length, ap, ◌∙◌, replicate, arith}
use Rattle.tlsf_heap.specs.Images.Image.{magic, Sections}
use Rattle.tlsf_heap.specs.Images.Writing.{two}
use Rattle.tlsf_heap.proofs.Images.Appending.{then_text}
use Rattle.tlsf_heap.proofs.image.writing.push_header.Goals as goal
use Rattle.tlsf_heap.specs.Inner.Entries.{entries_of}

pub returns-clause-appended : goal.returns-clause-appended
returns-clause-appended g c =
    let sections : Sections = g.T.HasSections.sections c.args.table.now in
    let old : List ℕ = c.args.piece.now.items in
    let records : List ℕ = two (length sections.records) in
    let pools : List ℕ = two (length (entries_of sections.pools)) in
    let first = c.push_bytes.ensures.appended.bytes in
    let second = c.push_two.ensures.appended.bytes ∙ ap (λ (n : ℕ). c.push_bytes.new.piece.items ++ two n) (c.count.ensures.value ∙ ap (λ (p : Sections). length p.records) c.count_pools-pools.ensures.read.same) in
    let third = c.push_two-2.ensures.appended.bytes ∙ ap (λ (n : ℕ). c.push_two.new.piece.items ++ two n) c.count_pools-pools.ensures.value in
    record {
      bytes =
          then_text old c.push_two-2.new.piece.items c.push_bytes-2.new.piece.items (magic ++ (records ++ pools)) (replicate 4 0)
          (then_text old c.push_two.new.piece.items c.push_two-2.new.piece.items (magic ++ records) pools
          (then_text old c.push_bytes.new.piece.items c.push_two.new.piece.items magic records first second) third)
          c.push_bytes-2.ensures.appended.bytes;
      len = omega arith;
    }
