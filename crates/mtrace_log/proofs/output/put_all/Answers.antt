-- A part more in each turn is put.
use Rattle.std.proofs.Common.{ℕ, List, take, drop, length, ◌∷◌, sym, subst, arith, ◌∙◌, ap}
use Rattle.std.proofs.lemmas.List.{take_rest, take-append-drop}
use Rattle.mtrace_log.specs.declared.call.Call.TheVariants.{Took}
use Rattle.mtrace_log.proofs.TraceLemmas.{moved_once, offered_some}
use Rattle.mtrace_log.proofs.Writing.{IsPutting, putting_more}
use Rattle.mtrace_log.proofs.output.put_all.Goals as goal

pub loop-rest-preserved : goal.loop-rest-preserved
loop-rest-preserved g c =
    let shown = g.W.Sink.shown in
    let rest = c.loop-rest.rest.now in
    let count = c.in_ok-count.count in
    let P : List ℕ → Type 0 = λ xs. IsPutting c.args.bytes.now xs (shown c.args.writer.now) (shown c.put.new.self) in
    subst P (sym (take_rest rest count))
    (putting_more (shown c.args.writer.now) (shown c.loop-rest.writer) (shown c.put.new.self) c.args.bytes.now rest (take count rest) (drop count rest)
    c.loop-rest.invariant (sym (take-append-drop count rest)) (record {
      wrote = c.in_ok-count.ensures.bytes;
      took = moved_once Took count _ _ (c.in_ok-count.ensures.told ∙ ap (λ call. call ∷ (shown c.loop-rest.writer).calls) (offered_some (length rest) count (omega arith)));
    }))
