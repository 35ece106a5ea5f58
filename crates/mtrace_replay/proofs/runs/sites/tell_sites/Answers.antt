-- What both replays hold, grouped, is the text of the sites.
use Rattle.std.proofs.Common.{ℕ, List, sym, subst, ap}
use Rattle.mtrace_replay.specs.declared.heap.totals.Totals.{Totals}
use Rattle.mtrace_replay.specs.Sites.{Site, AreSites}
use Rattle.mtrace_replay.specs.Replay.{Replayed, entries}
use Rattle.mtrace_replay.specs.Again.{HasReplayedFirst}
use Rattle.mtrace_replay.specs.Reporting.{PutsAndFlushes}
use Rattle.mtrace_replay.proofs.Running.RunsAgain.{follows_told}
use Rattle.mtrace_replay.proofs.Running.SitesLemmas.{sites_text, tells_sites, sites_text-is}
use Rattle.mtrace_replay.proofs.runs.sites.tell_sites.Goals as goal

pub returns-clause-told : goal.returns-clause-told
returns-clause-told g c = λ settings lines stands fresh.
    let writes = g.W.Sink.shown in
    let end = c.args.at_end.now in
    let peak = c.replay_again.new.replay in
    let peak_sites = c.sites.result.now in
    let end_sites = c.sites-2.result.now in
    let line = ap (λ (totals : Totals). totals.peak_line) c.totals-totals.ensures.totals in
    let text = sites_text-is peak peak_sites end end_sites c.totals-totals.result _ _ _ _ c.totals-totals.ensures.totals
    c.group_held-peak_sum.ensures.blocks c.group_held-peak_sum.ensures.bytes c.group_held-end_sum.ensures.blocks c.group_held-end_sum.ensures.bytes in
    let M : ℕ → Type 0 = λ most. HasReplayedFirst most settings peak (g.R.Source.shown c.args.reader.now).whole (g.R.Source.shown c.replay_again.new.reader).left in
    let A : Replayed → List Site → Type 0 = λ replay sites. AreSites (entries replay) sites in
    let tells = tells_sites settings lines peak end peak_sites end_sites (g.R.Source.shown c.args.reader.now).whole (g.R.Source.shown c.replay_again.new.reader).left stands
    (subst M line (c.in-Ok.ensures.done settings fresh)) (subst (A peak) (sym c.sites.ensures) c.group_held-peak_sum.ensures.sites) (subst (A end) (sym c.sites-2.ensures) c.group_held-end_sum.ensures.sites) in
    let P : List ℕ → Type 0 = λ words. PutsAndFlushes c.flush_behind.result words (writes c.args.writer.now) (writes c.flush_behind.new.writer) in
    follows_told _ _ _ _ _ c.flush_behind.result
    (sites_text peak peak_sites end end_sites) c.flush_behind.ensures.fault tells (subst P text (c.flush_behind.ensures.flushed (writes c.args.writer.now) _ c.put_told-put.ensures)) c.in-Ok.ensures.not_failed
