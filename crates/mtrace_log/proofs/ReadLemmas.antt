-- What many calls of `next` took: none yet, one more line, the end, a fault.
use Rattle.std.proofs.Common.{◌≡◌, ℕ, List, [], ◌∷◌, ◌++◌, Option, Result, sym, ap, ◌∙◌, subst, append-nil}
use Rattle.std.specs.Io.KnownBytes.{prepend_known, IsAtEnd}
use Rattle.std.proofs.KnownBytes.{prepend_known-nil}
use Rattle.mtrace_log.specs.Shown.{ReaderState}
use Rattle.mtrace_log.specs.Bytes.{Lacks, newline}
use Rattle.mtrace_log.specs.Lines.{lines_of, ReadAs}
use Rattle.mtrace_log.specs.Progress.{Stage, Reading, Ended, Faulted, Progress, to_come, ReadsLine, GivesLine, FindsEnd, StopsReading, GivesFault}
use Rattle.mtrace_log.specs.HasRead.{whole_lines, HasRead, HasReadAll, HasReadBefore, HasReadSo}
use Rattle.mtrace_log.specs.Event.{Event}
use Rattle.mtrace_log.specs.declared.event.LineFault.{LineFault}
use Rattle.mtrace_log.specs.declared.line.Line.{Line}
use Rattle.mtrace_log.specs.declared.line.ReadFault.{ReadFault}
use Rattle.mtrace_log.specs.declared.line.ReadFault.TheVariants.{ReaderFailed, TooManyLines}
use Rattle.mtrace_log.proofs.TextLemmas.{AllByRecursion-append, prepend_known-step}
use Rattle.mtrace_log.proofs.LineLemmas.{lines_of-last, lines_of-whole_lines, whole_lines-more, ReadAs-more}

-- nothing is read yet
pub HasRead-none : (text : Option (List ℕ)) → HasRead text text []
HasRead-none text = record { pieces = []; no_newlines = tt; read = tt; taken = sym (prepend_known-nil text) }

-- one more whole line
pub HasRead-line : (before middle after : Option (List ℕ)) (events : List (Result Event LineFault)) (event : Result Event LineFault) → HasRead before middle events
    → ReadsLine Reading middle after event → HasRead before after (events ++ event ∷ [])
HasRead-line before middle after events event so_far line =
    let (piece, lacks, read, taken) = line in
    record {
      pieces = so_far.pieces ++ piece ∷ [];
      no_newlines = AllByRecursion-append (Lacks newline) so_far.pieces (piece ∷ []) so_far.no_newlines (lacks, tt);
      read = ReadAs-more so_far.pieces events piece event so_far.read read;
      taken =
          prepend_known-step (whole_lines so_far.pieces) (piece ++ newline ∷ []) before middle after so_far.taken taken
          ∙ ap (λ text. prepend_known text after) (sym (whole_lines-more so_far.pieces piece));
    }

-- the last line, without newline
pub HasRead-last : (before middle after : Option (List ℕ)) (events : List (Result Event LineFault)) (event : Result Event LineFault) → HasRead before middle events
    → ReadsLine Ended middle after event → HasReadAll before after (events ++ event ∷ [])
HasRead-last before middle after events event so_far line =
    let (piece, lacks, read, taken, some, at_end) = line in
    let lines : lines_of (whole_lines so_far.pieces ++ piece) ≡ so_far.pieces ++ piece ∷ [] = lines_of-whole_lines so_far.pieces piece so_far.no_newlines ∙ ap (λ last. so_far.pieces ++ last) (lines_of-last piece lacks some) in
    record {
      text = whole_lines so_far.pieces ++ piece;
      taken = prepend_known-step (whole_lines so_far.pieces) piece before middle after so_far.taken taken;
      at_end = at_end;
      read = subst (λ ls. ReadAs ls (events ++ event ∷ [])) (sym lines) (ReadAs-more so_far.pieces events piece event so_far.read read);
    }

-- the end, behind whole lines
pub HasRead-end : (before after : Option (List ℕ)) (events : List (Result Event LineFault)) → HasRead before after events → IsAtEnd after → HasReadAll before after events
HasRead-end before after events so_far at_end =
    let lines : lines_of (whole_lines so_far.pieces) ≡ so_far.pieces = ap lines_of (sym (append-nil (whole_lines so_far.pieces))) ∙ lines_of-whole_lines so_far.pieces [] so_far.no_newlines ∙ append-nil so_far.pieces in
    record {
      text = whole_lines so_far.pieces;
      taken = so_far.taken;
      at_end = at_end;
      read = subst (λ ls. ReadAs ls events) (sym lines) so_far.read;
    }

-- a first fault, behind whole lines
pub HasRead-fault : (fault : ReadFault) (count : ℕ) (before middle after : Option (List ℕ)) (events : List (Result Event LineFault)) → HasRead before middle events
    → StopsReading fault count middle after → HasReadBefore before after events
HasRead-fault ReaderFailed count before middle after events so_far stop =
    let (piece, lacks, taken) = stop in
    record {
      pieces = so_far.pieces;
      lost = piece;
      no_newlines = so_far.no_newlines;
      no_newline = lacks;
      read = so_far.read;
      taken = prepend_known-step (whole_lines so_far.pieces) piece before middle after so_far.taken taken;
    }
HasRead-fault TooManyLines count before middle after events so_far stop =
    let (full, same, more) = stop in
    record {
      pieces = so_far.pieces;
      lost = [];
      no_newlines = so_far.no_newlines;
      no_newline = tt;
      read = so_far.read;
      taken = so_far.taken ∙ ap (prepend_known (whole_lines so_far.pieces)) same ∙ ap (λ text. prepend_known text after) (sym (append-nil (whole_lines so_far.pieces)));
    }

-- ---- the clauses of `next`, whatever the stage before was

-- a line
pub HasReadSo-line : (start before after : Option (List ℕ)) (old new : Progress) (line : Line) (events : List (Result Event LineFault)) → HasReadSo old.stage start before events
    → GivesLine old new before after line → HasReadSo new.stage start after (events ++ line.event ∷ [])
HasReadSo-line start before after old new line events so_far given =
    let reading : HasRead start before events = subst (λ stage. HasReadSo stage start before events) given.was_reading so_far in
    taken_by new.stage given.taken reading
  where
    taken_by : (stage : Stage) → ReadsLine stage before after line.event → HasRead start before events → HasReadSo stage start after (events ++ line.event ∷ [])
    taken_by Reading taken reading = HasRead-line start before after events line.event reading taken
    taken_by Ended taken reading = HasRead-last start before after events line.event reading taken
    taken_by (Faulted fault) taken reading = absurd taken

-- nothing changed
unchanged : {R : Type 0} (shown : R → ReaderState) (old new : Progress) (reader_old reader_new : R) → new ≡ old → reader_new ≡ reader_old
    → to_come old (shown reader_old).left ≡ to_come new (shown reader_new).left
unchanged shown old new reader_old reader_new lines reader =
    ap (λ r. to_come old (shown r).left) (sym reader) ∙ ap (λ l. to_come l (shown reader_new).left) (sym lines)

-- the end
pub HasReadSo-end : {R : Type 0} (shown : R → ReaderState) (start : Option (List ℕ)) (old new : Progress) (reader_old reader_new : R) (events : List (Result Event LineFault))
    → HasReadSo old.stage start (to_come old (shown reader_old).left) events
    → FindsEnd old.stage old new reader_old reader_new (to_come old (shown reader_old).left) (to_come new (shown reader_new).left)
    → HasReadAll start (to_come new (shown reader_new).left) events
HasReadSo-end {R} shown start old new reader_old reader_new events so_far found = by_stage old.stage so_far found
  where
    by_stage : (stage : Stage) → HasReadSo stage start (to_come old (shown reader_old).left) events
        → FindsEnd stage old new reader_old reader_new (to_come old (shown reader_old).left) (to_come new (shown reader_new).left)
        → HasReadAll start (to_come new (shown reader_new).left) events
    by_stage Reading before end = HasRead-end start (to_come new (shown reader_new).left) events (subst (λ text. HasRead start text events) end.1 before) end.2
    by_stage Ended before end = subst (λ text. HasReadAll start text events) (unchanged shown old new reader_old reader_new end.0 end.1) before
    by_stage (Faulted fault) before end = absurd end

-- a fault
pub HasReadSo-fault : {R : Type 0} (shown : R → ReaderState) (start : Option (List ℕ)) (old new : Progress) (reader_old reader_new : R) (fault : ReadFault) (events : List (Result Event LineFault))
    → HasReadSo old.stage start (to_come old (shown reader_old).left) events
    → GivesFault old.stage fault old new reader_old reader_new (to_come old (shown reader_old).left) (to_come new (shown reader_new).left)
    → HasReadBefore start (to_come new (shown reader_new).left) events
HasReadSo-fault {R} shown start old new reader_old reader_new fault events so_far given = by_stage old.stage so_far given
  where
    by_stage : (stage : Stage) → HasReadSo stage start (to_come old (shown reader_old).left) events
        → GivesFault stage fault old new reader_old reader_new (to_come old (shown reader_old).left) (to_come new (shown reader_new).left)
        → HasReadBefore start (to_come new (shown reader_new).left) events
    by_stage Reading before stop = HasRead-fault fault old.count start (to_come old (shown reader_old).left) (to_come new (shown reader_new).left) events before stop.2
    by_stage Ended before stop = absurd stop
    by_stage (Faulted first) before stop = subst (λ text. HasReadBefore start text events) (unchanged shown old new reader_old reader_new stop.1 stop.2) before

-- ---- the text to come and what the reader has left

-- where nothing is held
pub to_come-nothing_held : (lines : Progress) (left : Option (List ℕ)) → lines.held ≡ [] → to_come lines left ≡ left
to_come-nothing_held lines left none = ap (λ held. prepend_known held left) none ∙ prepend_known-nil left
