-- Lines read and followed, one after the other, and how the reading goes on and ends.
use Rattle.std.proofs.Common.{◌≡◌, ◌≢◌, ℕ, List, [], ◌∷◌, ◌++◌, length, refl, sym, ap, ◌∙◌, subst, arith, Some, None, reverse, ◌⊎◌, inl, inr, length-append, append_assoc}
use Rattle.std.specs.Prelude.{Result}
use Rattle.std.specs.Io.KnownBytes.{prepend_known, IsAtEnd}
use Rattle.std.proofs.lemmas.List.{reverse-append, append-nil}
use Rattle.mtrace_log.specs.Progress.{Progress, Stage, Reading, Ended, Faulted, to_come, ReadsLine, GivesLine, FindsEnd, StopsReading, GivesFault, CallsFor}
use Rattle.mtrace_log.specs.Shown.{Bytes, ReaderState}
use Rattle.mtrace_log.specs.HasRead.{HasRead, HasReadAll, HasReadBefore, HasReadSo}
use Rattle.mtrace_log.specs.Event.{Event}
use Rattle.mtrace_log.specs.declared.event.LineFault.{LineFault}
use Rattle.mtrace_log.specs.declared.line.Line.{Line}
use Rattle.mtrace_log.specs.declared.line.ReadFault.{ReadFault}
use Rattle.mtrace_log.specs.declared.line.ReadFault.TheVariants.{ReaderFailed, TooManyLines}
use Rattle.mtrace_log.proofs.ReadLemmas.{HasRead-none, HasReadSo-line, HasReadSo-end, HasReadSo-fault}
use Rattle.mtrace_replay.specs.Following.{with_unused, FailedInPiece, IsPastLastNumber}
use Rattle.mtrace_replay.specs.Replaying.{no_line, IsFollowed, IsFollowedOn}

pub prepend_nothing : (known : Bytes) → prepend_known [] known ≡ known
prepend_nothing None = refl
prepend_nothing (Some bytes) = refl

pub no_fault_yet : (fault : ReadFault) → Reading ≢ Faulted fault
no_fault_yet fault is = cc

-- before the first line
abbrev pub followed_start : (Stands : List (Result Event LineFault) → Type 0) (reader : ReaderState) → Stands [] → IsFollowed Stands no_line reader reader
followed_start Stands reader stands = record {
  lines = [];
  count = refl;
  no_fault = no_fault_yet;
  read = (let P : Bytes → Type 0 = λ text. HasRead reader.left text [] in subst P (sym (prepend_nothing reader.left)) (HasRead-none reader.left));
  stands = stands;
}

pub reverse-more : (lines : List (Result Event LineFault)) (line : Result Event LineFault) → reverse (lines ++ line ∷ []) ≡ line ∷ reverse lines
reverse-more lines line = reverse-append lines (line ∷ [])

-- one line more
abbrev pub followed_line : (Stood Stands : List (Result Event LineFault) → Type 0) (old new : Progress) (start before after : ReaderState) (line : Line)
    → (so_far : IsFollowed Stood old start before)
    → GivesLine old new (to_come old before.left) (to_come new after.left) line
    → Stands (line.event ∷ reverse so_far.lines)
    → IsFollowed Stands new start after
followed_line Stood Stands old new start before after line so_far given stands = record {
  lines = so_far.lines ++ line.event ∷ [];
  count = given.count ∙ given.number ∙ omega (arith, so_far.count, length-append {A = Result Event LineFault});
  no_fault = (λ fault is. (let T : Stage → Type 0 = λ stage. ReadsLine stage (to_come old before.left) (to_come new after.left) line.event in subst T is given.taken));
  read = HasReadSo-line start.left (to_come old before.left) (to_come new after.left) old new line so_far.lines so_far.read given;
  stands = subst Stands (sym (reverse-more so_far.lines line.event)) stands;
}

-- so far nothing came behind
abbrev pub followed_on_none : (Stands : List (Result Event LineFault) → Type 0) (progress : Progress) (start now : ReaderState) (so_far : IsFollowed Stands progress start now)
    → IsFollowedOn Stands so_far.lines progress start now
followed_on_none Stands progress start now so_far = record { now = so_far; more = []; behind = sym (append-nil so_far.lines) }

-- one line more came behind
abbrev pub followed_on_line : (Stood Stands : List (Result Event LineFault) → Type 0) (old new : Progress) (start before after : ReaderState) (line : Line)
    → (so_far : IsFollowed Stood old start before)
    → GivesLine old new (to_come old before.left) (to_come new after.left) line
    → Stands (line.event ∷ reverse so_far.lines)
    → IsFollowedOn Stands so_far.lines new start after
followed_on_line Stood Stands old new start before after line so_far given stands = record {
  now = followed_line Stood Stands old new start before after line so_far given stands;
  more = line.event ∷ [];
  behind = refl;
}

-- what came behind, and then what came behind that
abbrev pub followed_on_further : (Stood Stands : List (Result Event LineFault) → Type 0) (first : List (Result Event LineFault)) (old new : Progress) (start before after : ReaderState)
    → (so_far : IsFollowedOn Stood first old start before) → IsFollowedOn Stands so_far.now.lines new start after
    → IsFollowedOn Stands first new start after
followed_on_further Stood Stands first old new start before after so_far later = record {
  now = later.now;
  more = so_far.more ++ later.more;
  behind = later.behind ∙ ap (λ lines. lines ++ later.more) so_far.behind ∙ append_assoc first so_far.more later.more;
}

-- a line that was taken leaves the stage reading or ended
pub line_read : (stage : Stage) (start before after : Bytes) (lines : List (Result Event LineFault)) (answer : Result Event LineFault) → ReadsLine stage before after answer → HasReadSo stage start after lines
    → HasRead start after lines ⊎ HasReadAll start after lines
line_read Reading start before after lines answer taken read = inl read
line_read Ended start before after lines answer taken read = inr read
line_read (Faulted fault) start before after lines answer taken read = absurd taken

-- at the end nothing that was asked of the reader is unused
all_used : (held : List ℕ) (left : Bytes) → IsAtEnd (prepend_known held left) → prepend_known held left ≡ left
all_used held None end = refl
all_used [] (Some bytes) end = refl
all_used (b ∷ held) (Some bytes) end = absurd (cc)

pub used_to_end : (held : List ℕ) (start left : Bytes) (lines : List (Result Event LineFault)) → HasReadAll start (prepend_known held left) lines → HasReadAll start left lines
used_to_end held start left lines all =
    let P : Bytes → Type 0 = λ after. HasReadAll start after lines in
    subst P (all_used held left all.at_end) all

-- the end of the log
pub followed_end : {R : Type 0} (reads : R → ReaderState) (Stands : List (Result Event LineFault) → Type 0) (old new : Progress) (start : ReaderState) (reader_old reader_new : R)
    → (so_far : IsFollowed Stands old start (reads reader_old))
    → FindsEnd old.stage old new reader_old reader_new (to_come old (reads reader_old).left) (to_come new (reads reader_new).left)
    → HasReadAll start.left (reads reader_new).left so_far.lines
followed_end reads Stands old new start reader_old reader_new so_far found =
    used_to_end new.held start.left (reads reader_new).left so_far.lines (HasReadSo-end reads start.left old new reader_old reader_new so_far.lines so_far.read found)

-- why the reading stopped
stop_reason : (fault : ReadFault) (count : ℕ) (start : ReaderState) (before : Bytes) (held : List ℕ) (reader : ReaderState) (lines : List (Result Event LineFault)) → count ≡ length lines
    → HasRead start.left before lines → HasReadBefore start.left (prepend_known held reader.left) lines → (fault ≡ ReaderFailed → held ≡ [])
    → StopsReading fault count before (prepend_known held reader.left) → CallsFor (Faulted fault) start.calls reader.calls
    → FailedInPiece start reader lines ⊎ ((unused : List ℕ) × IsPastLastNumber start (with_unused unused reader) lines)
stop_reason ReaderFailed count start before held reader lines same read lost nothing stop came =
    let P : Bytes → Type 0 = λ text. HasReadBefore start.left text lines in
    inl (subst P (ap (λ bytes. prepend_known bytes reader.left) (nothing refl) ∙ prepend_nothing reader.left) lost, came)
stop_reason TooManyLines count start before held reader lines same read lost nothing stop came =
    let P : Bytes → Type 0 = λ text. HasRead start.left text lines in
    inr (held, record { count = sym same ∙ stop.0; read = subst P stop.1 read; more = stop.2; given = came })

-- the reader failed, or there are no numbers left
pub followed_fault : {R : Type 0} (reads : R → ReaderState) (Stands : List (Result Event LineFault) → Type 0) (old new : Progress) (start : ReaderState) (reader_old reader_new : R) (fault : ReadFault)
    → (so_far : IsFollowed Stands old start (reads reader_old))
    → GivesFault old.stage fault old new reader_old reader_new (to_come old (reads reader_old).left) (to_come new (reads reader_new).left)
    → (fault ≡ ReaderFailed → new.held ≡ []) → CallsFor (Faulted fault) start.calls (reads reader_new).calls
    → FailedInPiece start (reads reader_new) so_far.lines ⊎ ((unused : List ℕ) × IsPastLastNumber start (with_unused unused (reads reader_new)) so_far.lines)
followed_fault {R} reads Stands old new start reader_old reader_new fault so_far given nothing came = reason_by old.stage refl so_far.read given
  where
    lost : HasReadBefore start.left (to_come new (reads reader_new).left) so_far.lines
    lost = HasReadSo-fault reads start.left old new reader_old reader_new fault so_far.lines so_far.read given

    reason_by : (stage : Stage) → old.stage ≡ stage → HasReadSo stage start.left (to_come old (reads reader_old).left) so_far.lines
        → GivesFault stage fault old new reader_old reader_new (to_come old (reads reader_old).left) (to_come new (reads reader_new).left)
        → FailedInPiece start (reads reader_new) so_far.lines ⊎ ((unused : List ℕ) × IsPastLastNumber start (with_unused unused (reads reader_new)) so_far.lines)
    reason_by Reading is read stop =
        stop_reason fault old.count start (to_come old (reads reader_old).left) new.held (reads reader_new) so_far.lines so_far.count read lost nothing stop.2 came
    reason_by Ended is read stop = absurd stop
    reason_by (Faulted first) is read stop = absurd (so_far.no_fault first is)
