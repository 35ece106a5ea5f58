-- The lines appended one after the other.
use Rattle.std.proofs.Common.{◌++◌, ◌*◌, ◌+◌, ap, ◌∙◌, append_assoc}
use Rattle.std.specs.Prelude.{codes}
use Rattle.tlsf_heap.specs.Sizing.{class_size, sure_pool}
use Rattle.mtrace_replay.specs.Size.{align_of, largest_of, blocks_bytes}
use Rattle.mtrace_replay.specs.Texts.{record_lines, size_line}
use Rattle.mtrace_replay.proofs.runs.size.bounds_text.Goals as goal

pub returns : goal.returns
returns c =
    let b = c.args.bounds in
    let sure = size_line (codes "sure pool: ") c.sure_of.result in
    let sure_is = sure_pool b.blocks (blocks_bytes b b.bytes) (class_size (align_of b) (largest_of b)) in
    let rounded = size_line (codes "rounded pool: ") c.rounded_of.result in
    c.push_size_line-2.ensures.bytes
    ∙ ap (λ text. text ++ rounded) c.push_size_line.ensures.bytes
    ∙ ap (λ text. (text ++ sure) ++ rounded) c.push_records.ensures.bytes
    ∙ ap (λ text. ((text ++ record_lines c.sure_records.result) ++ sure) ++ rounded) c.new-text.ensures
    ∙ append_assoc (record_lines c.sure_records.result) sure rounded
    ∙ ap (λ records. record_lines records ++ (sure ++ rounded)) c.sure_records.ensures
    ∙ ap (λ blocks. record_lines (2 * blocks + 3) ++ (sure ++ rounded)) c.from.ensures
    ∙ ap (λ pool. record_lines (2 * b.blocks + 3) ++ (size_line (codes "sure pool: ") pool ++ rounded)) c.sure_of.ensures
    ∙ ap (λ pool. record_lines (2 * b.blocks + 3) ++ (size_line (codes "sure pool: ") sure_is ++ size_line (codes "rounded pool: ") pool)) c.rounded_of.ensures
