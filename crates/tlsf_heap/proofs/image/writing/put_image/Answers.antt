use Rattle.std.proofs.Common.{◌≡◌, ℕ, ◌+◌, ◌<◌, List, ◌++◌, length, drop, refl, sym, ap, ◌∙◌, subst, arith}
use Rattle.std.specs.List.{flat_map}
use Rattle.std.proofs.lemmas.Bool.{eqb-false}
use Rattle.tlsf_store.specs.Records.{blank, record_at}
use Rattle.mtrace_log.specs.Output.{PutsAll, PutsBeginning, Puts}
use Rattle.mtrace_log.proofs.Writing.{IsPutting, putting_more, putting_fails, putting_last, puts_exit}
use Rattle.tlsf_heap.specs.Images.Image.{Sections}
use Rattle.tlsf_heap.specs.Images.Writing.{record_bytes, image_of}
use Rattle.tlsf_heap.proofs.Images.Appending.{pushed, appended_all}
use Rattle.tlsf_heap.proofs.Images.HasSectionsLemmas.{and_reads}
use Rattle.tlsf_heap.proofs.image.writing.put_image.Given.{Over}
use Rattle.tlsf_heap.proofs.image.writing.put_image.Goals as goal
use Rattle.tlsf_heap.proofs.image.writing.put_image.Goals.{After-push_record, then-is_full+in_ok-put_all, else-is_full}

-- the bytes of the records behind this one
abbrev later : (g : Over) → After-push_record g → List ℕ
later g c = flat_map record_bytes (drop (c.loop-number.number + 1) (g.T.HasSections.sections c.args.table.now).records)

-- the piece with this record, before those behind it
whole : (g : Over) (c : After-push_record g) → c.push_record.new.piece.items ++ later g c ≡ c.loop-number.piece.items ++ flat_map record_bytes (drop c.loop-number.number (g.T.HasSections.sections c.args.table.now).records)
whole g c =
    let sections : Sections = g.T.HasSections.sections c.args.table.now in
    let number : ℕ = c.loop-number.number in
    let counted : c.count-number-end.result ≡ length sections.records =
    c.count-number-end.ensures.value ∙ ap (λ (p : Sections). length p.records) (c.push_heads.ensures.read.same ∙ c.push_entries.ensures.read.same ∙ c.push_header.ensures.read.same) in
    let within : number < length sections.records = omega (arith, c.loop-number-test.true, counted) in
    let read : c.record.result ≡ record_at sections.records number = c.record.ensures.value ∙ ap (λ (p : Sections). record_at p.records number) c.loop-number.invariant.read.same in
    pushed record_bytes sections.records blank number c.loop-number.piece.items c.push_record.new.piece.items _ c.record.result within read c.push_record.ensures.appended.bytes refl

-- the piece with one record more, and those that are left
pub loop-number-preserved : goal.loop-number-preserved
loop-number-preserved g c =
    let sections : Sections = g.T.HasSections.sections c.args.table.now in
    let shown = g.W.Sink.shown in
    let here = (goal.at.loop-number-preserved g c).After-push_record in
    let later : List ℕ = later g here in
    let whole = whole g here in
    let I : List ℕ → g.row.W.Denot → Type 0 = λ text writer. IsPutting (image_of sections) text (shown c.args.writer.now) (shown writer) in
    elim c.if-is_full.branch [
      | then-is_full+in_ok-put_all w ↦
          let P : List ℕ → Type 0 = λ text. PutsAll text (shown c.loop-number.writer) (shown w.put_all.new.writer) in
          let put = subst P w.deref.ensures.0 w.in_ok-put_all.ensures in
          let more = putting_more (shown c.args.writer.now) (shown c.loop-number.writer) (shown w.put_all.new.writer) (image_of sections) _ c.push_record.new.piece.items later c.loop-number.invariant.put (sym whole) put in
          rw (w.writer-is, w.piece-is) (record {
            read = and_reads c.loop-number.invariant.read c.record.ensures.read;
            room = omega (arith, ap length w.clear.ensures);
            whole = omega (arith, ap length w.clear.ensures);
            put = subst (λ text. I text w.put_all.new.writer) (ap (λ text. text ++ later) (sym w.clear.ensures)) more;
          })
      | else-is_full w ↦
          rw (w.writer-is, w.piece-is) (record {
            read = and_reads c.loop-number.invariant.read c.record.ensures.read;
            room = omega (arith, eqb-false (length c.push_record.new.piece.items) 4096 (sym w.if-is_full.ensures.value), w.if-is_full.ensures.fits);
            whole = omega (arith, c.push_record.ensures.appended.len, c.loop-number.invariant.whole);
            put = subst (λ text. I text c.loop-number.writer) (sym whole) c.loop-number.invariant.put;
          })
    ]

pub returns-in_err-put_all-clause-put : goal.returns-in_err-put_all-clause-put
returns-in_err-put_all-clause-put g c =
    let sections : Sections = g.T.HasSections.sections c.args.table.now in
    let shown = g.W.Sink.shown in
    let here = (goal.at.returns-in_err-put_all-clause-put g c).After-push_record in
    let P : List ℕ → Type 0 = λ text. PutsBeginning text (shown c.loop-number.writer) (shown c.put_all.new.writer) in
    puts_exit c.from_residual.result _ c.from_residual.ensures.1 (image_of sections) (shown c.args.writer.now) (shown c.put_all.new.writer)
    (putting_fails (shown c.args.writer.now) (shown c.loop-number.writer) (shown c.put_all.new.writer) (image_of sections) _ c.push_record.new.piece.items (later g here) c.loop-number.invariant.put (sym (whole g here)) (subst P c.deref.ensures.0 c.in_err-put_all.ensures))

pub returns-clause-put : goal.returns-clause-put
returns-clause-put g c =
    let sections : Sections = g.T.HasSections.sections c.args.table.now in
    let shown = g.W.Sink.shown in
    let number : ℕ = c.loop-number.number in
    let items : List ℕ = c.loop-number.piece.items in
    let rest : List ℕ = items ++ flat_map record_bytes (drop number sections.records) in
    let counted : c.count-number-end.result ≡ length sections.records =
    c.count-number-end.ensures.value ∙ ap (λ (p : Sections). length p.records) (c.push_heads.ensures.read.same ∙ c.push_entries.ensures.read.same ∙ c.push_header.ensures.read.same) in
    let none : items ≡ rest = appended_all record_bytes sections.records number items rest (omega (arith, c.loop-number-test.false, counted)) refl in
    let P : List ℕ → Type 0 = λ text. Puts c.put_all-2.result text (shown c.loop-number.writer) (shown c.put_all-2.new.writer) in
    putting_last c.put_all-2.result (shown c.args.writer.now) (shown c.loop-number.writer) (shown c.put_all-2.new.writer) (image_of sections) rest c.loop-number.invariant.put (subst P (c.deref-2.ensures.0 ∙ none) c.put_all-2.ensures)
