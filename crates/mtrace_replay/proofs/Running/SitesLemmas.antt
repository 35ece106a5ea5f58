-- The run that tells who holds the memory of a log.
use Rattle.std.proofs.Common.{◌≡◌, ℕ, List, ◌++◌, length, reverse, refl, ◌∙◌}
use Rattle.std.proofs.lemmas.List.{length-map}
use Rattle.mtrace_replay.specs.declared.heap.settings.Settings.{Settings}
use Rattle.mtrace_replay.specs.declared.heap.totals.Totals.{Totals}
use Rattle.mtrace_replay.specs.Moment.{ReadLine, Given}
use Rattle.mtrace_replay.specs.Replay.{Replayed, StandsFor, entries}
use Rattle.mtrace_log.specs.Shown.{Bytes}
use Rattle.mtrace_replay.specs.Sites.{Site, AreSites}
use Rattle.mtrace_replay.specs.Texts.{total_size, both_sections, refused_line}
use Rattle.mtrace_replay.specs.Again.{HasReplayedFirst}
use Rattle.mtrace_replay.specs.RunSites.{TellsSites}

-- both sections, of two replays and their sites
abbrev pub sites_text : (at_peak : Replayed) (peak_sites : List Site) (at_end : Replayed) (end_sites : List Site) → List ℕ
sites_text at_peak peak_sites at_end end_sites =
    both_sections at_end.totals.peak_line (length at_peak.given) (total_size (entries at_peak)) peak_sites (length at_end.given) (total_size (entries at_end)) end_sites
    ++ refused_line at_end.totals.refused

pub tells_sites : (settings : Settings) (lines : List ReadLine) (at_peak at_end : Replayed) (peak_sites end_sites : List Site) (whole left : Bytes)
    → StandsFor at_end settings (reverse lines) → HasReplayedFirst at_end.totals.peak_line settings at_peak whole left
    → AreSites (entries at_peak) peak_sites → AreSites (entries at_end) end_sites
    → TellsSites settings lines whole left (sites_text at_peak peak_sites at_end end_sites)
tells_sites settings lines at_peak at_end peak_sites end_sites whole left stands first peak_are end_are = record {
  totals = at_end.totals;
  summed = stands.totals;
  first = first.lines;
  again = first.read;
  at_peak = record { all = at_peak.given; held = first.stands.held; sites = peak_sites; are = peak_are };
  at_end = record { all = at_end.given; held = stands.held; sites = end_sites; are = end_are };
  text_is = refl;
}

many : (replay : Replayed) (blocks : ℕ) → blocks ≡ length (entries replay) → blocks ≡ length replay.given
many replay blocks is = is ∙ length-map replay.given (λ (given : Given). given.entry)

-- the text that is put, by the totals that were told and by what was counted and summed
pub sites_text-is : (at_peak : Replayed) (peak_sites : List Site) (at_end : Replayed) (end_sites : List Site) (totals : Totals) (peak_blocks peak_bytes end_blocks end_bytes : ℕ)
    → totals ≡ at_end.totals → peak_blocks ≡ length (entries at_peak) → peak_bytes ≡ total_size (entries at_peak)
    → end_blocks ≡ length (entries at_end) → end_bytes ≡ total_size (entries at_end)
    → both_sections totals.peak_line peak_blocks peak_bytes peak_sites end_blocks end_bytes end_sites ++ refused_line totals.refused
    ≡ sites_text at_peak peak_sites at_end end_sites
sites_text-is at_peak peak_sites at_end end_sites totals peak_blocks peak_bytes end_blocks end_bytes totals_are a b c d =
    rw (totals_are, many at_peak peak_blocks a, b, many at_end end_blocks c, d) refl
