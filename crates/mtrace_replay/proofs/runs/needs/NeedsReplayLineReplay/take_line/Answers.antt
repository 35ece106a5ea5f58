-- What the line exchanged changes the needs as its moment says.
use Rattle.std.proofs.Common.{◌≡◌, ℕ, ap, ◌∙◌, subst}
use Rattle.std.specs.Prelude.{if◌then◌else◌, nat_lt, max}
use Rattle.mtrace_replay.specs.declared.heap.totals.Totals.{Totals}
use Rattle.mtrace_replay.specs.Asked.{class_asked, greater_class}
use Rattle.mtrace_replay.specs.Needs.{BehindExchange}
use Rattle.mtrace_replay.proofs.Running.NeedsLemmas.{needs_more}
use Rattle.mtrace_replay.proofs.runs.needs.NeedsReplayLineReplay.take_line.Goals as goal

pub returns : goal.returns
returns c =
    let taken = c.in_ok-take_line.ensures in
    let old = c.args.self.now in
    let new = c.take_line.new.self in
    let before = c.totals-old.ensures.totals in
    let after = c.totals.ensures.totals in
    let served : nat_lt c.totals-old.result.served c.totals.result.served ≡ nat_lt old.replay.totals.served new.totals.served =
    ap (λ (totals : Totals). nat_lt totals.served c.totals.result.served) before ∙ ap (λ (totals : Totals). nat_lt old.replay.totals.served totals.served) after in
    let B : ℕ → Totals → Totals → Type 0 = λ asked totals totals_now. BehindExchange asked totals totals_now old.needs.rounded c.after-self.result.rounded in
    let behind = subst (λ asked. B asked old.replay.totals new.totals) c.of-asked.ensures.size
    (subst (λ totals. B c.of-asked.result.size totals new.totals) before (subst (λ totals. B c.of-asked.result.size c.totals-old.result totals) after c.after-self.ensures.rounded)) in
    record {
      stands = λ settings past stands.
          let now = taken.stands settings past stands.0 in (
            now,
            needs_more old.replay new settings past c.args.event stands.0 now old.needs c.after-self.result stands.1 c.keeps_working.ensures.few behind
                (c.after-self.ensures.most ∙ ap (λ (totals : Totals). max old.needs.most totals.live_blocks) after) c.after-self.ensures.most_rounded
                (c.after-self.ensures.class
                ∙ ap (λ class. if nat_lt c.totals-old.result.served c.totals.result.served then greater_class old.needs.class_size class else old.needs.class_size) c.of-asked.ensures.class
                ∙ ap (λ more. if more then greater_class old.needs.class_size (class_asked c.args.event) else old.needs.class_size) served),
          );
      told = λ settings past stands. taken.told settings past stands.0;
      counted = taken.counted;
      ready = tt;
      fixed = taken.fixed;
      memory = tt;
    }
