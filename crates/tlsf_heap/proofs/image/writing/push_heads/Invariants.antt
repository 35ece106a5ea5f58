use Rattle.std.proofs.Common.{◌≡◌, ◌+◌, ◌*◌, ◌<◌, ◌++◌, length, drop}
use Rattle.std.specs.List.{flat_map}
use Rattle.arrayvec.specs.ArrayVec.{array_vec_len}
use Rattle.tlsf_class.specs.Classes.{classes}
use Rattle.tlsf_heap.specs.Images.Writing.{head_bytes}
use Rattle.tlsf_heap.specs.Images.Findings.{OnlyReads}
use Rattle.tlsf_heap.proofs.image.writing.push_heads.Given as goal

-- the heads up to here stand at the end, in front of those that are left
abbrev pub invariant-loop-number : goal.invariant-loop-number
invariant-loop-number g l =
    let sections = g.T.HasSections.sections l.fn.table in
    record {
      read : OnlyReads g.T.HasSections.sections g.T.HasSections.cells g.T.HasSections.touches l.fn.table l.table;
      whole : 0 < l.number → length sections.heads ≡ classes;
      len : array_vec_len l.piece ≡ array_vec_len l.fn.piece + 2 * l.number;
      told : l.piece.items ++ flat_map head_bytes (drop l.number sections.heads) ≡ l.fn.piece.items ++ flat_map head_bytes sections.heads;
    }
