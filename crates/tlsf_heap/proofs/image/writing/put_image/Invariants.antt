use Rattle.std.proofs.Common.{◌≡◌, ◌%◌, ◌<◌, ◌++◌, drop}
use Rattle.std.specs.List.{flat_map}
use Rattle.arrayvec.specs.ArrayVec.{array_vec_len}
use Rattle.mtrace_log.proofs.Writing.{IsPutting}
use Rattle.tlsf_heap.specs.Images.Writing.{record_bytes, image_of}
use Rattle.tlsf_heap.specs.Images.Findings.{OnlyReads}
use Rattle.tlsf_heap.proofs.image.writing.put_image.Given as goal

-- what is put, the piece and the records that are left are the image; the piece has room for a record
abbrev pub invariant-loop-number : goal.invariant-loop-number
invariant-loop-number g l =
    let sections = g.T.HasSections.sections l.fn.table in
    record {
      read : OnlyReads g.T.HasSections.sections g.T.HasSections.cells g.T.HasSections.touches l.fn.table l.table;
      room : array_vec_len l.piece < 4096;
      whole : array_vec_len l.piece % 16 ≡ 0;
      put : IsPutting (image_of sections) (l.piece.items ++ flat_map record_bytes (drop l.number sections.records)) (g.W.Sink.shown l.fn.writer) (g.W.Sink.shown l.writer);
    }
