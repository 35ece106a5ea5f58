-- The three lines of heaps that serve nothing.
use Rattle.std.proofs.Common.{List, ℕ, ◌++◌, None, codes, ap, ◌∙◌, append_assoc, arith}
use Rattle.mtrace_replay.specs.Texts.{size_line}
use Rattle.mtrace_replay.proofs.parts.text.push_no_parts.Goals as goal

pub returns : goal.returns
returns c =
    let one : List ℕ = size_line (codes "heaps: ") None in
    let two : List ℕ = size_line (codes "sum: ") None in
    let three : List ℕ = size_line (codes "tables: ") None in
    record {
      bytes = c.push_size_line-3.ensures.bytes
          ∙ ap (λ text. text ++ three) (c.push_size_line-2.ensures.bytes ∙ ap (λ text. text ++ two) c.push_size_line.ensures.bytes ∙ append_assoc c.args.text.now.items one two)
          ∙ append_assoc c.args.text.now.items (one ++ two) three;
      len = omega (arith, c.push_size_line.ensures.len, c.push_size_line-2.ensures.len, c.push_size_line-3.ensures.len);
    }
