use Rattle.std.proofs.Common.{List, ℕ, ◌≡◌, ◌++◌, length, map, flat_map, codes, sym, subst, ap, ◌∙◌, append_assoc}
use Rattle.std.proofs.lemmas.List.{length-map}
use Rattle.mtrace_log.specs.Output.{Puts, PutsBeginning, PutsAll}
use Rattle.mtrace_log.proofs.Writing.{puts_then, fails_early, puts_exit}
use Rattle.mtrace_replay.specs.declared.parts.text.PartOf.{PartOf}
use Rattle.mtrace_replay.specs.Texts.{number_line, size_line}
use Rattle.mtrace_replay.specs.Parts.{pool_bytes, records_bytes, sum_over, part_line, parts_text, peak_line_text}
use Rattle.mtrace_replay.specs.PartsText.{part_in}
use Rattle.mtrace_replay.proofs.BySize.PartsTextLemmas.{lines_same}
use Rattle.mtrace_replay.proofs.parts.text.put_parts.Goals as goal

abbrev front_of : ℕ → ℕ → List PartOf → List ℕ
front_of bytes line parts = peak_line_text bytes line ++ number_line (codes "heaps: ") (length parts)

abbrev behind_of : List PartOf → List ℕ
behind_of parts =
    flat_map (λ part. part_line (part_in part)) parts
    ++ (size_line (codes "sum: ") (sum_over pool_bytes (map part_in parts)) ++ size_line (codes "tables: ") (sum_over records_bytes (map part_in parts)))

-- the front, and what is behind it, are the whole
whole : (bytes line : ℕ) (parts : List PartOf) → front_of bytes line parts ++ behind_of parts ≡ peak_line_text bytes line ++ parts_text (map part_in parts)
whole bytes line parts =
    append_assoc (peak_line_text bytes line) (number_line (codes "heaps: ") (length parts)) (behind_of parts)
    ∙ ap (λ n. peak_line_text bytes line ++ (number_line (codes "heaps: ") n ++ behind_of parts)) (sym (length-map parts part_in))
    ∙ ap (λ lines. peak_line_text bytes line ++ (number_line (codes "heaps: ") (length (map part_in parts))
    ++ (lines ++ (size_line (codes "sum: ") (sum_over pool_bytes (map part_in parts)) ++ size_line (codes "tables: ") (sum_over records_bytes (map part_in parts)))))) (lines_same parts)

pub returns-in_err-put_all : goal.returns-in_err-put_all
returns-in_err-put_all g c =
    let writes = g.W.Sink.shown in
    let parts = c.args.parts.now in
    let P : List ℕ → Type 0 = λ text. PutsBeginning text (writes c.args.writer.now) (writes c.put_all.new.writer) in
    puts_exit c.from_residual.result _ c.from_residual.ensures.1 _ (writes c.args.writer.now) (writes c.put_all.new.writer)
    (subst P (whole c.args.bytes c.args.line parts)
    (fails_early (writes c.args.writer.now) (writes c.put_all.new.writer) (front_of c.args.bytes c.args.line parts) (behind_of parts) (subst P (c.as_slice.ensures.value ∙ c.front_text.ensures) c.in_err-put_all.ensures)))

pub returns : goal.returns
returns g c =
    let writes = g.W.Sink.shown in
    let parts = c.args.parts.now in
    let P : List ℕ → Type 0 = λ text. PutsAll text (writes c.args.writer.now) (writes c.put_all.new.writer) in
    subst (λ text. Puts c.put_behind.result text (writes c.args.writer.now) (writes c.put_behind.new.writer)) (whole c.args.bytes c.args.line parts)
    (puts_then c.put_behind.result (writes c.args.writer.now) (writes c.put_all.new.writer) (writes c.put_behind.new.writer) (front_of c.args.bytes c.args.line parts) (behind_of parts)
    (subst P (c.as_slice.ensures.value ∙ c.front_text.ensures) c.in_ok-put_all.ensures) c.put_behind.ensures)
