-- Lines that are followed, with what is wrong with each put at once: how that goes on and ends.
use Rattle.std.proofs.Common.{◌≡◌, ℕ, Bool, true, false, ◌||◌, List, [], ◌∷◌, ◌++◌, length, refl, sym, ap, ◌∙◌, subst, reverse, arith, inl}
use Rattle.std.specs.Prelude.{◌==◌, Result, Ok, Err}
use Rattle.std.proofs.lemmas.Bool.{eqb-true}
use Rattle.mtrace_log.specs.Progress.{Progress, Faulted, to_come, GivesLine, FindsEnd, GivesFault, CallsFor}
use Rattle.mtrace_log.specs.Shown.{ReaderState, WriterState}
use Rattle.mtrace_log.specs.Output.{Wrote, Begins}
use Rattle.mtrace_log.specs.declared.line.Line.{Line}
use Rattle.mtrace_log.specs.declared.line.ReadFault.{ReadFault}
use Rattle.mtrace_log.specs.declared.line.ReadFault.TheVariants.{ReaderFailed}
use Rattle.mtrace_log.proofs.Writing.{Wrote-nothing, Wrote-append, Begins-after}
use Rattle.mtrace_replay.specs.declared.held.diagnostic.Diagnostic.{Diagnostic}
use Rattle.mtrace_replay.specs.Moment.{ReadLine}
use Rattle.mtrace_replay.specs.Texts.{diagnostics_text}
use Rattle.mtrace_replay.specs.Replaying.{IsFollowed}
use Rattle.mtrace_replay.specs.declared.runs.line_replay.TellFault.{TellFault}
use Rattle.mtrace_replay.specs.declared.runs.line_replay.TellFault.TheVariants as fault
use Rattle.mtrace_replay.specs.LineReplay.{has_some, Notes, TellsLine}
use Rattle.mtrace_replay.specs.Following.{HasFollowed, StopsReading, StopsWriting, StopsWanting}
use Rattle.mtrace_replay.specs.Replaying.{no_line}
use Rattle.mtrace_replay.proofs.Running.ReplayingLemmas.{followed_start, followed_line, followed_end, followed_fault, line_read, reverse-more}
use Rattle.mtrace_replay.proofs.Told.DiagnosticLemmas.{diagnostics_text-append, some_diagnostic-append}

-- the lines so far were read and followed, and what is told of them was written
pub record IsFollowing (Stands : List ReadLine → Type 0) (noted : List ReadLine → List Diagnostic) (Tells : List ReadLine → List ℕ → Type 0) (progress : Progress) (has_diagnostics : Bool)
    (reader_start reader_now : ReaderState) (writer_start writer_now : WriterState) : Type 0 where
  pub so_far : IsFollowed Stands progress reader_start reader_now
  pub text : List ℕ
  pub told : Tells (reverse so_far.lines) text
  pub wrote : Wrote writer_start writer_now text
  pub has_diagnostics_is : has_diagnostics ≡ has_some (noted (reverse so_far.lines))

module _ (noted : List ReadLine → List Diagnostic) (Tells : List ReadLine → List ℕ → Type 0) where
  -- before the first line
  pub following_start : (Stands : List ReadLine → Type 0) (reader : ReaderState) (writer : WriterState) → Stands [] → noted [] ≡ [] → Tells [] [] → IsFollowing Stands noted Tells no_line false reader reader writer writer
  following_start Stands reader writer stands none told = record {
    so_far = followed_start Stands reader stands;
    text = [];
    told = told;
    wrote = Wrote-nothing writer;
    has_diagnostics_is = sym (ap has_some none);
  }

  module _ (Stood Stands : List ReadLine → Type 0) (old new : Progress) (had_diagnostics : Bool) (start before after : ReaderState) (writer_start writer_old writer_new : WriterState) (line : Line)
      (under : IsFollowing Stood noted Tells old had_diagnostics start before writer_start writer_old) (given : GivesLine old new (to_come old before.left) (to_come new after.left) line) where
    abbrev past_lines : List ReadLine
    past_lines = reverse under.so_far.lines

    module _ (stands : Stands (line.event ∷ past_lines)) (its : List Diagnostic) (noted_is : noted (line.event ∷ past_lines) ≡ noted past_lines ++ its)
        (text : List ℕ) (told : Tells (line.event ∷ past_lines) (under.text ++ text)) where
      one_more : reverse (under.so_far.lines ++ line.event ∷ []) ≡ line.event ∷ past_lines
      one_more = reverse-more under.so_far.lines line.event

      told_more : Tells (reverse (under.so_far.lines ++ line.event ∷ [])) (under.text ++ text)
      told_more = subst (λ (past : List ReadLine). Tells past (under.text ++ text)) (sym one_more) told

      -- one line more
      pub following_line : (more : Bool) → Wrote writer_old writer_new text → more ≡ has_some its → IsFollowing Stands noted Tells new (had_diagnostics || more) start after writer_start writer_new
      following_line more wrote more_is = record {
        so_far = followed_line Stood Stands old new start before after line under.so_far given stands;
        text = under.text ++ text;
        told = told_more;
        wrote = Wrote-append writer_start writer_old writer_new under.text text under.wrote wrote;
        has_diagnostics_is = ap (λ b. b || more) under.has_diagnostics_is ∙ ap (λ b. has_some (noted past_lines) || b) more_is
            ∙ sym (ap (λ (past : List ReadLine). has_some (noted past)) one_more ∙ ap has_some noted_is ∙ some_diagnostic-append (noted past_lines) its);
      }

      -- the writer failed at what is told of a line
      pub following_write : Begins writer_old writer_new text → StopsWriting Stands Tells start after writer_start writer_new
      following_write begun =
          let now = followed_line Stood Stands old new start before after line under.so_far given stands in
          record {
            lines = now.lines;
            unused = new.held;
            read = line_read new.stage start.left (to_come old before.left) (to_come new after.left) now.lines line.event given.taken now.read;
            stands = now.stands;
            text = under.text ++ text;
            told = told_more;
            begun = Begins-after writer_start writer_old writer_new under.text text under.wrote begun;
          }

    -- memory was refused at a line
    pub following_memory : writer_new.taken ≡ writer_old.taken → StopsWanting Tells start after writer_start writer_new
    following_memory same =
        -- the line was read, and isn't followed
        let now = followed_line Stood (λ past. Unit {0}) old new start before after line under.so_far given tt in
        record {
          lines = under.so_far.lines;
          unused = new.held;
          reason = inl (line.event, line_read new.stage start.left (to_come old before.left) (to_come new after.left) now.lines line.event given.taken now.read);
          text = under.text;
          told = under.told;
          wrote = same ∙ under.wrote;
        }

  module _ {R : Type 0} (reads : R → ReaderState) (Stands : List ReadLine → Type 0) (old new : Progress) (has_diagnostics : Bool) (start : ReaderState) (reader_old reader_new : R) (writer_start writer : WriterState)
      (under : IsFollowing Stands noted Tells old has_diagnostics start (reads reader_old) writer_start writer) where
    -- the end of the log
    pub following_end : FindsEnd old.stage old new reader_old reader_new (to_come old (reads reader_old).left) (to_come new (reads reader_new).left)
        → HasFollowed Stands noted Tells has_diagnostics start (reads reader_new) writer_start writer
    following_end found = record {
      lines = under.so_far.lines;
      read = followed_end reads Stands old new start reader_old reader_new under.so_far found;
      stands = under.so_far.stands;
      text = under.text;
      told = under.told;
      wrote = under.wrote;
      has_diagnostics_is = under.has_diagnostics_is;
    }

    -- the reader failed, or there are no numbers left
    pub following_fault : (fault : ReadFault) (writer_new : WriterState) → GivesFault old.stage fault old new reader_old reader_new (to_come old (reads reader_old).left) (to_come new (reads reader_new).left)
        → (fault ≡ ReaderFailed → new.held ≡ []) → CallsFor (Faulted fault) start.calls (reads reader_new).calls
        → writer_new.taken ≡ writer.taken → StopsReading Tells start (reads reader_new) writer_start writer_new
    following_fault fault writer_new given nothing came same = record {
      lines = under.so_far.lines;
      reason = followed_fault reads Stands old new start reader_old reader_new fault under.so_far given nothing came;
      text = under.text;
      told = under.told;
      wrote = same ∙ under.wrote;
    }

-- what is told of a line, told as more
pub tells_also : (Adds Also : List ℕ → Type 0) (Lacks Wants : Type 0) → ((text : List ℕ) → Adds text → Also text) → (Lacks → Wants)
    → (result : Result Bool TellFault) (its left : List Diagnostic) (old new : WriterState) → TellsLine Adds Lacks result its left old new → TellsLine Also Wants result its left old new
tells_also Adds Also Lacks Wants also wants (Ok more) its left old new told = record { more_is = told.more_is; cleared = told.cleared; text = told.text; adds = also told.text told.adds; put = told.put }
tells_also Adds Also Lacks Wants also wants (Err fault.Write) its left old new told = record { text = told.text; adds = also told.text told.adds; put = told.put }
tells_also Adds Also Lacks Wants also wants (Err fault.OutOfMemory) its left old new told = (wants told.0, told.1)

-- the diagnostics of one line more, where no other text is put
pub notes_added : (noted : List ReadLine → List Diagnostic) (line : ReadLine) (past : List ReadLine) (its : List Diagnostic) (before text : List ℕ) → text ≡ diagnostics_text its
    → noted (line ∷ past) ≡ noted past ++ its → Notes noted past before → Notes noted (line ∷ past) (before ++ text)
notes_added noted line past its before text text_is noted_is told =
    ap (λ front. front ++ text) told ∙ ap (λ end. diagnostics_text (noted past) ++ end) text_is ∙ sym (diagnostics_text-append (noted past) its) ∙ sym (ap diagnostics_text noted_is)

pub no_findings : (findings : List Diagnostic) → (length findings == 0) ≡ true → findings ≡ []
no_findings [] is = refl
no_findings (first ∷ more) is = absurd (omega (arith, eqb-true (length (first ∷ more)) 0 is))

pub some_findings : (findings : List Diagnostic) → (length findings == 0) ≡ false → true ≡ has_some findings
some_findings [] is = absurd (let e : true ≡ false = is in cc)
some_findings (first ∷ more) is = refl
