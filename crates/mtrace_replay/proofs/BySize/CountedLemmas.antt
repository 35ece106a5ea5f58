-- What one more line does to the spans that are counted.
use Rattle.std.proofs.Common.{Bool, true, false, Option, Some, None, ◌≡◌, ℕ, suc, ◌≤◌, List, ◌∷◌, map, refl, sym, ap, ◌∙◌, subst, nat_eq}
use Rattle.std.specs.Prelude.{is_some, nat_lt, if◌then◌else◌}
use Rattle.std.specs.HashMap.{get}
use Rattle.std.specs.List.{All, list_all}
use Rattle.std.proofs.lemmas.Bool.{false≢true}
use Rattle.mtrace_replay.specs.declared.parts.change.Change.{Change}
use Rattle.mtrace_replay.specs.declared.parts.span.Span.{Span}
use Rattle.mtrace_replay.specs.declared.parts.spans.Block.{Block}
use Rattle.mtrace_replay.specs.declared.parts.spans.Spans.{Spans}
use Rattle.mtrace_replay.specs.Moment.{ReadLine, Given}
use Rattle.mtrace_replay.specs.History.{pending}
use Rattle.mtrace_replay.specs.Totals.{is_served}
use Rattle.mtrace_replay.specs.Asked.{class_asked}
use Rattle.mtrace_replay.specs.LedgerReplay.{ledger_moments, LedgerReplayed, LedgerStandsFor}
use Rattle.mtrace_replay.specs.Parts.{served_classes}
use Rattle.mtrace_replay.specs.Span.{released}
use Rattle.mtrace_replay.specs.Spans.{range_released, unless_released, given_all, given_range, released_by, block_asked, AreCounted, AreCountedOf}
use Rattle.mtrace_replay.specs.CountedReplay.{IsChangeOf}
use Rattle.mtrace_replay.proofs.History.TotalsStep.{served_more as moment_served}
use Rattle.mtrace_replay.proofs.BySize.SpansLemmas.{its, taken, facts, counted_without, counted_with, few_released, few_given}

-- where a request had no class, one had none with one line more
pub none_again : (line : ReadLine) (past : List ReadLine) → AreCountedOf past None → AreCountedOf (line ∷ past) None
unfolding served_classes
none_again line past none = by_served (is_served (its past line))
  where
    by_class : (class : Option ℕ) → list_all is_some (class ∷ served_classes past) ≡ false
    by_class None = refl
    by_class (Some size) = none

    by_served : (b : Bool) → list_all is_some (if b then class_asked line ∷ served_classes past else served_classes past) ≡ false
    by_served true = by_class (class_asked line)
    by_served false = none

module _ (change : Change) (served : Bool) (line : ReadLine) (past : List ReadLine) (is : IsChangeOf change served line past) (old new : Spans) (freed : Option ℕ)
    (freed_is : freed ≡ (if served then change.moved else change.freed)) (counted : AreCounted past old.all (get nat_eq old.ranges)) where
  abbrev ranges : ℕ → Option ℕ
  ranges = get nat_eq old.ranges

  freed_taken : freed ≡ taken past line
  freed_taken = freed_is ∙ by_served served ∙ ap (released_by line (pending past)) is.served_is
    where
      by_served : (b : Bool) → (if b then change.moved else change.freed) ≡ released_by line (pending past) b
      by_served true = is.moved
      by_served false = is.freed

  -- the line isn't served
  pub followed_unserved : served ≡ false → new.all ≡ map (released (range_released ranges freed)) old.all
      → ((other : ℕ) → get nat_eq new.ranges other ≡ unless_released freed other (ranges other)) → AreCounted (line ∷ past) new.all (get nat_eq new.ranges)
  followed_unserved not spans_are ranges_are =
      subst (λ spans. AreCounted (line ∷ past) spans (get nat_eq new.ranges)) (sym (spans_are ∙ ap (λ address. map (released (range_released ranges address)) old.all) freed_taken))
      (counted_without past line old.all ranges (get nat_eq new.ranges) counted (sym is.served_is ∙ not)
      (λ address. ranges_are address ∙ ap (λ gone. unless_released gone address (ranges address)) freed_taken))

  module _ (given : Option Block) (given_is : given ≡ block_asked change.address change.size) (serves : served ≡ true)
      (spans_are : new.all ≡ given_all given (map (released (range_released ranges freed)) old.all))
      (ranges_are : (other : ℕ) → get nat_eq new.ranges other ≡ given_range given other (unless_released freed other (ranges other))) where
    -- its request has no class
    no_class : class_asked line ≡ None → AreCountedOf (line ∷ past) (if is_some given then Some new else None)
    unfolding served_classes
    no_class none =
        let no_block : given ≡ None = given_is ∙ ap (block_asked change.address) (is.size ∙ none) ∙ without change.address in
        subst (λ (o : Option Block). AreCountedOf (line ∷ past) (if is_some o then Some new else None)) (sym no_block)
        (ap (λ b. list_all is_some (if b then class_asked line ∷ served_classes past else served_classes past)) (sym is.served_is ∙ serves)
        ∙ ap (λ class. list_all is_some (class ∷ served_classes past)) none)
      where
        without : (address : Option ℕ) → block_asked address None ≡ None
        without None = refl
        without (Some address) = refl

    -- it has one
    has_class : (size : ℕ) → class_asked line ≡ Some size → (block : Given) → (its past line).given ≡ Some block → AreCountedOf (line ∷ past) (if is_some given then Some new else None)
    has_class size class block gave =
        let asks = (facts past line block gave).1 in
        let its_block : given ≡ Some (record { address = block.entry.addr; size = size }) = given_is ∙ ap (λ o. block_asked o change.size) (is.address ∙ asks) ∙ ap (block_asked (Some block.entry.addr)) (is.size ∙ class) in
        subst (λ (o : Option Block). AreCountedOf (line ∷ past) (if is_some o then Some new else None)) (sym its_block)
        (subst (λ spans. AreCounted (line ∷ past) spans (get nat_eq new.ranges))
        (sym (spans_are ∙ ap (λ o. given_all o (map (released (range_released ranges freed)) old.all)) its_block
        ∙ ap (λ address. given_all (Some (record { address = block.entry.addr; size = size })) (map (released (range_released ranges address)) old.all)) freed_taken))
        (counted_with past line old.all ranges (get nat_eq new.ranges) counted block size gave class block.entry.addr asks
        (λ other. ranges_are other ∙ ap (λ o. given_range o other (unless_released freed other (ranges other))) its_block
        ∙ ap (λ gone. given_range (Some (record { address = block.entry.addr; size = size })) other (unless_released gone other (ranges other))) freed_taken)))

    by_class : (class : Option ℕ) → class_asked line ≡ class → (o : Option Given) → (its past line).given ≡ o → AreCountedOf (line ∷ past) (if is_some given then Some new else None)
    by_class None none o same = no_class none
    by_class (Some size) class None same = absurd (false≢true (sym (ap is_some same) ∙ (sym is.served_is ∙ serves)))
    by_class (Some size) class (Some block) same = has_class size class block same

    -- the line is served
    pub followed_served : AreCountedOf (line ∷ past) (if is_some given then Some new else None)
    followed_served = by_class (class_asked line) refl (its past line).given refl

-- no span has more blocks than there were lines
pub followed_few : (range : Option ℕ) (given : Option Block) (old new : List Span) → new ≡ given_all given (map (released range) old) → (lines : ℕ)
    → All (λ (span : Span). span.live ≤ lines) old → All (λ (span : Span). span.live ≤ suc lines) new
followed_few range given old new is lines few =
    subst (All (λ (span : Span). span.live ≤ suc lines)) (sym is) (few_given given lines (map (released range) old) (few_released range lines old few))

-- whether a line was served is told by how many were
pub served_more : (old new : LedgerReplayed) (line : ReadLine) (past : List ReadLine) → LedgerStandsFor old past → LedgerStandsFor new (line ∷ past) → nat_lt old.served new.served ≡ is_served (its past line)
unfolding ledger_moments
served_more old new line past before after = moment_served (its past line) (ledger_moments past) old.served new.served before.served_are after.served_are
