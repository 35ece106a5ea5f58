-- What the line did to the heap, to what is held and to the sums is what its moment says.
use Rattle.std.proofs.Common.{rules, ◌≡◌, ◌+◌, ◌∷◌, ◌++◌, false, List, length, arith, refl, sym, subst, ap, ◌∙◌}
use Rattle.std.specs.List.{list_any}
use Rattle.std.specs.List.Sorted.{IsStrictlyIncreasing}
use Rattle.std.proofs.lemmas.List.{length-map}
use Rattle.tlsf_heap.specs.Bare.{bare}
use Rattle.mtrace_replay.specs.declared.held.diagnostic.Diagnostic.{Diagnostic}
use Rattle.mtrace_replay.specs.declared.heap.settings.Settings.{Settings}
use Rattle.mtrace_replay.specs.Moment.{ReadLine}
use Rattle.mtrace_replay.specs.Replay.{Replayed, StandsFor, added_diagnostics}
use Rattle.mtrace_replay.specs.Step.{given_of, all_given, held_given}
use Rattle.mtrace_replay.specs.Totals.{is_refusal}
use Rattle.mtrace_replay.proofs.History.FoundLemmas.{addresses_given, sizes_given}
use Rattle.mtrace_replay.proofs.Told.DiagnosticLemmas.{diagnostics_few}
use Rattle.mtrace_replay.proofs.OnHeap.HeldFew.{held_few}
use Rattle.mtrace_replay.proofs.OnHeap.OneLineMore.{served_within, refused_within, stands_for_line, diagnostics_of_line}
use Rattle.mtrace_replay.proofs.heap.replay.Replay.feed_lent.Goals as goal

pub invariant_of-self : goal.invariant_of-self
invariant_of-self g c =
    let old = c.self.inside.totals in
    let gone = c.after-self-inside.ensures in
    record {
      live = (λ works. c.in-Ok.ensures.live);
      lacks = c.self.invariant.lacks;
      room = c.outcome.ensures.looked.room ∙ c.self.invariant.room ∙ sym c.outcome.ensures.records;
      few = held_few c.outcome.new.holder.held.all (g.H.Heaped.content c.outcome.new.holder.heap) c.keeps_order.ensures c.keeps_good.ensures.good c.in-Ok.ensures.live;
      served = served_within old c.in-Ok.end c.has_refusal-is_refused.result c.bytes-bytes.result c.len-blocks.result c.after-self-inside.result gone c.self.invariant.served;
      refused = refused_within old c.in-Ok.end c.has_refusal-is_refused.result c.bytes-bytes.result c.len-blocks.result c.after-self-inside.result gone c.self.invariant.refused;
    }

pub put_half-requires : goal.put_half-requires
put_half-requires g c =
    let inside = c.self.inside in
    omega (
      arith,
      ap (length {A = Diagnostic}) c.half_before-half.ensures,
      ap (length {A = Diagnostic}) c.in-Ok.ensures.comes.diagnostics_are,
      diagnostics_few inside.totals.lines c.args.number c.args.event inside.pending (held_given (all_given inside.holder.held.all)) (bare (g.H.Heaped.content inside.holder.heap)),
    )

pub returns-in-Ok : goal.returns-in-Ok
returns-in-Ok g c =
    let number = c.args.number in
    let event = c.args.event in
    let heap = g.H.Heaped.content c.outcome.new.holder.heap in
    let holdings = c.outcome.new.holder.held.all in
    let new : Replayed = record {
      content = bare heap;
      touches = g.H.Heaped.touches c.outcome.new.holder.heap;
      comparisons = c.outcome.new.holder.held.comparisons;
      given = all_given holdings;
      totals = c.after-self-inside.result;
      pending = c.old_address-next.result;
      out_of_memory = c.self.inside.out_of_memory;
    } in
    let diagnostics : (settings : Settings) (past : List ReadLine) → StandsFor c.args.self.now settings past → c.put_half.new.findings ≡ added_diagnostics settings event past = λ settings past.
    let P : Replayed → Type 0 = λ old. (old.out_of_memory ≡ false → number ≡ old.totals.lines + 1) → StandsFor old settings past → c.put_half.new.findings ≡ added_diagnostics settings event past in
    subst P c.self.view_is
    (λ next stands. c.put_half.ensures ∙ ap (λ (all : List Diagnostic). all ++ c.outcome.new.findings) c.half_before-half.ensures
    ∙ diagnostics_of_line _ new settings past event c.outcome.new.findings c.in-Ok.end number stands (next c.if-self.false) c.in-Ok.ensures.comes)
    c.requires.next in
    record {
      stands = λ settings past.
          let P : Replayed → Type 0 = λ old. (old.out_of_memory ≡ false → number ≡ old.totals.lines + 1)
          → (StandsFor old settings past → c.put_half.new.findings ≡ added_diagnostics settings event past)
          → StandsFor old settings past → StandsFor new settings (event ∷ past) in
          subst P c.self.view_is
          (λ next told stands. stands_for_line _ new settings past event c.outcome.new.findings c.in-Ok.end number stands (next c.if-self.false) c.in-Ok.ensures.comes
          heap holdings c.keeps_good.ensures.good c.in-Ok.ensures.live refl refl
          (subst IsStrictlyIncreasing (sym (addresses_given holdings)) c.keeps_order.ensures) c.old_address-next.ensures c.if-self.false
          c.bytes-bytes.result c.len-blocks.result c.has_refusal-is_refused.result c.after-self-inside.ensures
          (c.bytes-bytes.ensures ∙ sizes_given holdings) (c.len-blocks.ensures.len ∙ sym (length-map holdings given_of))
          (c.has_refusal-is_refused.ensures ∙ ap (λ (all : List Diagnostic). list_any (λ (diagnostic : Diagnostic). is_refusal diagnostic.kind) all) (told stands)))
          c.requires.next (diagnostics settings past);
      diagnostics = diagnostics;
      counted = search rules;
      for_good = search rules;
      fault = search rules;
      ends = search rules;
      memory = search rules;
      unchanged = search rules;
      totals_unchanged = search rules;
      records = search rules;
      compared = search rules;
      bound = search rules;
      idle = search rules;
    }
