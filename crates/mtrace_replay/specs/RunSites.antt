-- What a run leaves that tells who holds the memory of a log.
use Rattle.std.specs.Prelude.{◌≡◌, ℕ, ◌≤◌, List, [], ◌++◌, length, Result}
use Rattle.mtrace_log.specs.Shown.{Bytes, ReaderState, WriterState}
use Rattle.mtrace_log.specs.Trace.{HasNotFailed}
use Rattle.mtrace_replay.specs.declared.heap.settings.Settings.{Settings}
use Rattle.mtrace_replay.specs.declared.runs.status.Status.{Status}
use Rattle.mtrace_replay.specs.declared.runs.status.RunFault.{RunFault}
use Rattle.mtrace_replay.specs.declared.heap.totals.Totals.{Totals}
use Rattle.mtrace_replay.specs.Course.{Course, shown_before}
use Rattle.mtrace_replay.specs.Started.{started}
use Rattle.mtrace_replay.specs.Totals.{AreTotals}
use Rattle.mtrace_replay.specs.Moment.{ReadLine, Given, Moment}
use Rattle.mtrace_replay.specs.History.{history, AreHeld, entries_of}
use Rattle.mtrace_replay.specs.Sites.{Site, AreSites}
use Rattle.mtrace_replay.specs.declared.held.amount.Amount.{Amount}
use Rattle.mtrace_replay.specs.Entry.{Entry}
use Rattle.mtrace_replay.specs.Gather.{Grouped}
use Rattle.mtrace_replay.specs.Replay.{Replayed, StandsFor}
use Rattle.mtrace_replay.specs.Texts.{total_size, both_sections, refused_line}
use Rattle.mtrace_replay.specs.Again.{HasReadFirst, begun_again, FailsAgain, Follows, RunsAgain}

-- how many entries there are, of how many bytes, and their sites
pub record Groups (entries : List Entry) (sum : Amount) (grouped : Grouped) : Type 0 where
  pub blocks : sum.blocks ≡ length entries
  pub bytes : sum.bytes ≡ total_size entries
  pub sites : AreSites entries grouped.sites

-- a replay of no line yet, by the settings. There is room to group as much as it has records, at the peak and at the
-- end
pub record HasMemory (settings : Settings) (start : Replayed) (peak end : ℕ) : Type 0 where
  pub replay : StandsFor start settings []
  pub records : start.content.records ≡ settings.records
  pub peak_room : settings.records ≤ peak
  pub end_room : settings.records ≤ end

-- what moments leave held, and its sites
pub record HeldSites (past : List Moment) : Type 0 where
  pub all : List Given
  pub held : AreHeld all past
  pub sites : List Site
  pub are : AreSites (entries_of all) sites

-- both sections: of what moments left held at the peak, behind this line, and of what they leave held at the end
abbrev pub sections_of : {at_peak at_end : List Moment} → ℕ → HeldSites at_peak → HeldSites at_end → List ℕ
sections_of line peak end =
    both_sections line (length peak.all) (total_size (entries_of peak.all)) peak.sites (length end.all) (total_size (entries_of end.all)) end.sites

-- The text of who holds the memory of a log. It is first of the lines up to the peak, which are read again from the
-- first byte on. Then it is of all lines, and of how many were refused, where some were.
pub record TellsSites (settings : Settings) (lines : List ReadLine) (whole left : Bytes) (text : List ℕ) : Type 0 where
  pub totals : Totals
  pub summed : AreTotals (started settings) (history settings lines) totals
  pub first : List ReadLine
  pub again : HasReadFirst totals.peak_line whole left first
  pub at_peak : HeldSites (history settings first)
  pub at_end : HeldSites (history settings lines)
  pub text_is : text ≡ sections_of totals.peak_line at_peak at_end ++ refused_line totals.refused

-- the reader failed in the second reading, or has fewer lines then than the peak's number
abbrev pub FailsAgainAtPeak : (settings : Settings) (lines : List ReadLine) (reader_old reader_new : ReaderState) → Type 0
FailsAgainAtPeak settings lines reader_old reader_new =
    (totals : Totals) × AreTotals (started settings) (history settings lines) totals × FailsAgain totals.peak_line reader_old reader_new

-- the log whose lines these are was read again, and who holds its memory was written
abbrev pub SitesFollow : {R W : Type 0} → (settings : Settings) (lines : List ReadLine) → Result Status RunFault → Course R ReaderState → Course W WriterState → Type 0
SitesFollow settings lines result reader writer =
    Follows (TellsSites settings lines (shown_before reader).whole) (λ old new. HasNotFailed (begun_again old).calls new.calls) (FailsAgainAtPeak settings lines) result reader writer

-- What a run leaves that tells who holds the memory of a log. There is first a run without a report, and then the log
-- is read again.
abbrev pub RunsSites : {R W : Type 0} → (settings : Settings) → Result Status RunFault → Course R ReaderState → Course W WriterState → Type 0
RunsSites settings result reader writer = RunsAgain settings (SitesFollow settings) result reader writer
