-- The command line's description, and what a parse by it gives.
use Rattle.std.proofs.Common.{◌≡◌, ◌∙◌, ◌⊎◌, ◌<◌, ◌^◌, ◌||◌, ℕ, List, [], Option, Some, None, Result, Ok, Err, Bool, inl, inr, refl, sym, ap, subst, true, false, codes}
use Rattle.std.proofs.lemmas.Bool.{false≢true}
use Rattle.std.proofs.lemmas.Slice.Eq.{bytes_eq-Decides}
use Rattle.std.specs.Prelude.{MatchBool, IfSome, String, bytes_eq, string_bytes}
use Rattle.std.specs.Result.{IsErrAnd}
use Rattle.std.specs.declared.alloc.Global.{Global}
use Rattle.std.specs.Str.Parse.{ParsesUnsigned, digits_value, without_leading_plus}
use Rattle.clap.specs.Words.{AddsArg, App, HasMatchesOf, HasKind, IsAmong, Kinds, ReadsOne, Row, Rule, Text, rule_of, with_rule, fault_of, all_of, first_of, is_simple, is_simple_and_free, kind_of, one_text, rows_of, with_subcommand, subcommand_of, subcommand_rows_of}
use Rattle.clap.specs.declared.builder.arg.Arg.{Arg}
use Rattle.clap.specs.declared.builder.command.Command.{Command as Clap}
use Rattle.clap.specs.declared.builder.value_parser.ValueParser.{ValueParser}
use Rattle.clap.specs.declared.parser.matches.ArgMatches.{ArgMatches}
use Rattle.clap.specs.declared.parser.matches.Found.{Found}
use Rattle.clap.specs.declared.error.Error.{Error}
use Rattle.clap.specs.declared.error.kind.ErrorKind.{ErrorKind}
use Rattle.clap.specs.declared.error.kind.ErrorKind.TheVariants as kind
use Rattle.clap.proofs.OnLiterals.{clap_on_literals}
use Rattle.clap.proofs.WalkLemmas.{one_text-rows}
use Rattle.mtrace_replay.specs.declared.heap.settings.Settings.{Settings}
use Rattle.mtrace_replay.specs.declared.ledger.report.LedgerReport.TheVariants.{Held, Sums, Callers, Nothing}
use Rattle.mtrace_replay.specs.declared.runs.size.Bounds.{Bounds}
use Rattle.mtrace_replay.specs.declared.runs.size_parts.PartBounds.{PartBounds}
use Rattle.mtrace_replay.specs.declared.runs.status.RunFault.TheVariants.{OutOfMemory}
use Rattle.tlsf_tool.specs.declared.asked.Command.{Command}
use Rattle.mtrace_replay.specs.declared.ledger.report.LedgerReport.TheVariants as ledger
use Rattle.tlsf_tool.specs.declared.asked.Command.TheVariants.{Report, Ledger, Parts, Reread, Size, SizeParts, Save, Image}
use Rattle.tlsf_tool.specs.declared.asked.ImageReport.TheVariants.{Check}
use Rattle.tlsf_tool.specs.declared.asked.ImageReport.TheVariants as image_report
use Rattle.tlsf_tool.specs.declared.asked.Rereading.TheVariants.{Sites, Timeline, SiteTimeline, Fit}
use Rattle.tlsf_tool.specs.declared.asked.HeapReport.{HeapReport}
use Rattle.tlsf_tool.specs.declared.asked.HeapReport.TheVariants.{Leaks, Peak, Walk}
use Rattle.tlsf_tool.specs.declared.asked.ToolFault.{ToolFault}
use Rattle.tlsf_tool.specs.declared.asked.ToolFault.TheVariants.{Help, Usage, CannotOpen, InputIsOutput, ImageIsOutput, NoRandomBytes, ReadsOnce, ReadsFileOnce, Run}
use Rattle.tlsf_tool.specs.CommandLine.{IsArgOf, IsCommandOf, given_rule, AskFor, HasNumber, HasNone, HasSettings, HasBounds, HasNoBounds, HasParts, HasNoLog, HasNoSetting, HasFlag, HasCalls, HasImage, HasSites, MatchesAskFor, bare_line, walk_line, ledger_line, HasNoHeap, default_settings, sites_line, timeline_line, fit_line, size_line, save_line, check_line, name_text, texts_of, tlsf_line, wrong_with}
use Rattle.tlsf_tool.specs.Faults.{ExplainsKind, ExplainsWords, IsUsage}
use Rattle.tlsf_tool.specs.Asks.{Asks, Picks}

pub line_is_simple : is_simple tlsf_line ≡ true
unfolding clap_on_literals
line_is_simple = refl

pub line_is_free : is_simple_and_free tlsf_line ≡ true
unfolding clap_on_literals
line_is_free = refl

-- an option by its parser, and then changed as its rule is
pub changed_arg : (change : Rule → Rule) (id : Text) (by takes : ValueParser) (arg new : Arg) → IsArgOf (given_rule id by) arg → by ≡ takes
    → rule_of new ≡ change (rule_of arg) → new.global ≡ arg.global → IsArgOf (change (given_rule id takes)) new
changed_arg change id by takes arg new given by_is is own = record { rule_is = is ∙ ap change (given.rule_is ∙ ap (given_rule id) by_is); own = own ∙ given.own }

-- one argument more
pub more_arg : (line : App) (rule : Rule) (command : Clap) (arg : Arg) (new : Clap) → IsCommandOf line command → IsArgOf rule arg → AddsArg command arg new → IsCommandOf (with_rule line rule) new
more_arg line rule command arg new is given adds = record {
  line_is = adds.shape given.own ∙ ap (λ l. with_rule l (rule_of arg)) is.line_is ∙ ap (with_rule line) given.rule_is;
  own = adds.globals ∙ ap (λ b. b || arg.global) is.own ∙ given.own;
}

-- one subcommand more
put : (more a b next : App) → a ≡ b → next ≡ with_subcommand a more.top → next ≡ with_subcommand b more.top
put more a b next is next_is = next_is ∙ ap (λ (x : App). with_subcommand x more.top) is

-- the lines of the subcommands, put to the bare one one after the other
pub line_of : (bare leaks peak walk sites timeline fit size save last : App) → bare ≡ bare_line → leaks ≡ with_subcommand bare (ledger_line (codes "leaks")).top
    → peak ≡ with_subcommand leaks (ledger_line (codes "peak")).top → walk ≡ with_subcommand peak walk_line.top
    → sites ≡ with_subcommand walk sites_line.top → timeline ≡ with_subcommand sites timeline_line.top → fit ≡ with_subcommand timeline fit_line.top
    → size ≡ with_subcommand fit size_line.top → save ≡ with_subcommand size save_line.top → last ≡ with_subcommand save check_line.top → last ≡ tlsf_line
line_of bare leaks peak walk sites timeline fit size save last bare_is leaks_is peak_is walk_is sites_is timeline_is fit_is size_is save_is last_is =
    put check_line _ _ last (put save_line _ _ save (put size_line _ _ size (put fit_line _ _ fit (put timeline_line _ _ timeline (put sites_line _ _ sites (put walk_line _ _ walk (put (ledger_line (codes "peak")) _ _ peak
    (put (ledger_line (codes "leaks")) _ _ leaks bare_is leaks_is) peak_is) walk_is) sites_is) timeline_is) fit_is) size_is) save_is) last_is

-- ---- numbers

pub number_none : {E : Type 0} (gives : Text → Result ℕ E → Type 0) (f : Found) (id : Text) (bits : ℕ) (r : Option ℕ)
    → ((t : Text) (x : Result ℕ E) → gives t x → ParsesUnsigned bits 10 t x)
    → ((t : Text) → one_text f id ≡ Some t → ReadsOne gives t r)
    → r ≡ None → (n : ℕ) → HasNumber (rows_of f) id bits n → ⊥
number_none {E} gives f id bits r parses value is n has =
    let text = has.0 in
    let reads = subst (λ (o : Option ℕ). ReadsOne gives text o) is (value text (one_text-rows f id ∙ has.1)) in
    let fits : digits_value 10 (without_leading_plus text) < 2 ^ bits = subst (λ (k : ℕ). k < 2 ^ bits) (sym has.3) has.4 in
    parses text (Err reads.0) reads.1 (has.2, fits)

pub number_some : {E : Type 0} (gives : Text → Result ℕ E → Type 0) (f : Found) (id : Text) (bits : ℕ) (n : ℕ)
    → ((t : Text) (x : Result ℕ E) → gives t x → ParsesUnsigned bits 10 t x)
    → ((one_text f id ≡ None) → Some n ≡ None)
    → ((t : Text) → one_text f id ≡ Some t → ReadsOne gives t (Some n))
    → HasNumber (rows_of f) id bits n
number_some {E} gives f id bits n parses none value = go (one_text f id) refl
  where
    go : (o : Option Text) → one_text f id ≡ o → HasNumber (rows_of f) id bits n
    go None is = absurd (let e : Some n ≡ None = none is in cc)
    go (Some text) is =
        let p = parses text (Ok n) (value text is) in
        (text, sym (one_text-rows f id) ∙ is, p.0.0, sym p.1, subst (λ (k : ℕ). k < 2 ^ bits) (sym p.1) p.0.1)

pub number_read : {E : Type 0} (gives : Text → Result ℕ E → Type 0) (f : Found) (id : Text) (bits : ℕ) (r : Option ℕ)
    → ((t : Text) (x : Result ℕ E) → gives t x → ParsesUnsigned bits 10 t x)
    → ((one_text f id ≡ None) → r ≡ None)
    → ((t : Text) → one_text f id ≡ Some t → ReadsOne gives t r)
    → Picks (HasNumber (rows_of f) id bits) r
number_read gives f id bits None parses none value = record { given = tt; other = number_none gives f id bits None parses value refl }
number_read gives f id bits (Some n) parses none value = record { given = number_some gives f id bits n parses none value; other = tt }

-- ---- what matches ask for

abbrev pub AsksNothing : Option (Text × List Row) → Type 0
AsksNothing found = (command : Command) → MatchesAskFor found command → ⊥

no_such : (one : Option Text) (text : Text) → one ≡ None → one ≡ Some text → ⊥
no_such one text none some = let e : None ≡ Some text = sym none ∙ some in cc

-- the subcommand of a command
abbrev subcommand_text : Command → Text
subcommand_text (Report name settings log) = name_text name
subcommand_text (Ledger Held every log) = codes "leaks"
subcommand_text (Ledger Sums every log) = codes "peak"
subcommand_text (Ledger ledger.Sites every log) = codes "sites"
subcommand_text (Ledger Callers every log) = codes "sites"
subcommand_text (Ledger Nothing every log) = []
subcommand_text (Parts front heaps log) = codes "fit"
subcommand_text (Reread (Sites settings) log) = codes "sites"
subcommand_text (Reread (Timeline heap stretches) log) = codes "timeline"
subcommand_text (Reread (SiteTimeline stretches) log) = codes "timeline"
subcommand_text (Reread (Fit front step) log) = codes "fit"
subcommand_text (Size bounds) = codes "size"
subcommand_text (SizeParts front parts) = codes "size"
subcommand_text (Save settings log image) = codes "save"
subcommand_text (Image Check image) = codes "check"
subcommand_text (Image image_report.Walk image) = codes "walk"

asked_under : (found : Text × List Row) (command : Command) → MatchesAskFor (Some found) command → found.0 ≡ subcommand_text command
asked_under found (Report name settings log) asks = asks.0
asked_under found (Ledger Held every log) asks = asks.0.0
asked_under found (Ledger Sums every log) asks = asks.0.0
asked_under found (Ledger ledger.Sites every log) asks = asks.0.0
asked_under found (Ledger Callers every log) asks = asks.0.0
asked_under found (Ledger Nothing every log) asks = absurd asks.0.0
asked_under found (Parts front heaps log) asks = asks.0
asked_under found (Reread (Sites settings) log) asks = asks.0
asked_under found (Reread (Timeline heap stretches) log) asks = asks.0
asked_under found (Reread (SiteTimeline stretches) log) asks = asks.0
asked_under found (Reread (Fit front step) log) asks = asks.0
asked_under found (Size bounds) asks = asks.0
asked_under found (SizeParts front parts) asks = asks.0
asked_under found (Save settings log image) asks = asks.0
asked_under found (Image Check image) asks = asks.0
asked_under found (Image image_report.Walk image) asks = asks.0

-- what matches of these rows ask for, where the log or the settings are missing, or the image
module _ (rows : List Row) where
  -- there is no number of stretches
  abbrev HasNoStretches : Type 0
  HasNoStretches = (stretches : ℕ) → HasNumber rows (codes "points") 32 stretches → ⊥

  -- each location is asked for, and there is a setting of a heap beside that
  abbrev pub HasSitesOnHeap : Type 0
  HasSitesOnHeap = HasSites rows × (HasNoSetting rows → ⊥)

  -- what the subcommand that tells lines needs is missing, or it has too much
  abbrev TimelineMisses : Type 0
  TimelineMisses = HasNoStretches ⊎ ((first_of (codes "LOG") rows ≡ None) ⊎ HasSitesOnHeap)

  -- there is a number of heaps, and a step too
  abbrev HasBoth : Type 0
  HasBoth = ((heaps : ℕ) × HasNumber rows (codes "heaps") 32 heaps) × ((step : ℕ) × HasNumber rows (codes "step") 64 step)

  -- snapshots are asked for
  abbrev HasEvery : Type 0
  HasEvery = (every : ℕ) × HasNumber rows (codes "every") 64 every

  -- no heap is asked for, and there is a setting of one beside that; or a heap is, and there are snapshots beside that
  abbrev HasTooMuch : Type 0
  HasTooMuch = (HasNoHeap rows × (HasSettings rows default_settings → ⊥)) ⊎ ((HasNoHeap rows → ⊥) × HasEvery)

  -- who asks is asked for, or snapshots are, and there is a setting of a heap beside that
  abbrev pub HasCallsOnHeap : Type 0
  HasCallsOnHeap = (HasCalls rows ⊎ HasEvery) × (HasNoSetting rows → ⊥)

  -- there are no bounds of a program without heaps by size, and no such heaps without bounds
  abbrev pub HasNoSize : Type 0
  HasNoSize = ((bounds : Bounds) → HasBounds rows bounds → all_of (codes "part") rows ≡ None → ⊥) × ((parts : List PartBounds) → HasParts rows parts → HasNoBounds rows → ⊥)

  -- a heap is walked, and none is asked for or there are snapshots; or an image is, and there is a setting of a heap beside it
  abbrev WalksTooMuch : Type 0
  WalksTooMuch = ((HasImage Walk rows → ⊥) × (HasNoHeap rows ⊎ ((HasNoHeap rows → ⊥) × HasEvery))) ⊎ (HasImage Walk rows × (HasSettings rows default_settings → ⊥))

  -- what the subcommand of this text needs is missing: its settings, its log, its bounds or its image; or it has too much
  abbrev IsMissing : Text → Type 0
  IsMissing text = MatchBool (bytes_eq text (codes "check")) (first_of (codes "IMAGE") rows ≡ None)
      (MatchBool (bytes_eq text (codes "size")) HasNoSize
      (MatchBool (bytes_eq text (codes "fit")) ((first_of (codes "LOG") rows ≡ None) ⊎ HasBoth)
      (MatchBool (bytes_eq text (codes "timeline")) TimelineMisses
      (MatchBool (bytes_eq text (codes "save")) (HasNoLog rows ⊎ (first_of (codes "IMAGE") rows ≡ None))
      (MatchBool (bytes_eq text (codes "sites")) ((first_of (codes "LOG") rows ≡ None) ⊎ HasCallsOnHeap)
      (MatchBool (bytes_eq text (codes "walk")) (HasNoLog rows ⊎ WalksTooMuch) (HasNoLog rows ⊎ HasTooMuch)))))))

  no_log : (settings : Settings) (log : String Global) → HasNoLog rows → HasSettings rows settings → first_of (codes "LOG") rows ≡ Some (string_bytes log) → ⊥
  no_log settings log (inl never) has is = never settings has
  no_log settings log (inr none) has is = no_such (first_of (codes "LOG") rows) (string_bytes log) none is

  has_all : (text : Text) (command : Command) → MatchesAskFor (Some (text, rows)) command → IsMissing (subcommand_text command) → ⊥
  has_all text (Report Leaks settings log) asks (inl missing) = no_log settings log missing asks.2 asks.3
  has_all text (Report Leaks settings log) asks (inr (inl much)) = asks.1 much.0
  has_all text (Report Leaks settings log) asks (inr (inr much)) = asks.4 much.1.0 much.1.1
  has_all text (Report Peak settings log) asks (inl missing) = no_log settings log missing asks.2 asks.3
  has_all text (Report Peak settings log) asks (inr (inl much)) = asks.1 much.0
  has_all text (Report Peak settings log) asks (inr (inr much)) = asks.4 much.1.0 much.1.1
  has_all text (Report Walk settings log) asks (inl missing) = no_log settings log missing asks.2 asks.3
  has_all text (Report Walk settings log) asks (inr (inl (no_image, inl without))) = asks.1 without
  has_all text (Report Walk settings log) asks (inr (inl (no_image, inr much))) = asks.4 much.1.0 much.1.1
  has_all text (Report Walk settings log) asks (inr (inr (image, other))) = asks.5 image
  has_all text (Ledger Held every log) asks (inl missing) = no_log default_settings log missing asks.0.2 asks.1
  has_all text (Ledger Held every log) asks (inr (inl much)) = much.1 asks.0.2
  has_all text (Ledger Held every log) asks (inr (inr much)) = much.0 asks.0.1
  has_all text (Ledger Sums every log) asks (inl missing) = no_log default_settings log missing asks.0.2 asks.1
  has_all text (Ledger Sums every log) asks (inr (inl much)) = much.1 asks.0.2
  has_all text (Ledger Sums every log) asks (inr (inr much)) = much.0 asks.0.1
  has_all text (Ledger ledger.Sites every log) asks (inl none) = no_such (first_of (codes "LOG") rows) (string_bytes log) none asks.1
  has_all text (Ledger ledger.Sites every log) asks (inr much) = much.1 asks.0.1
  has_all text (Ledger Callers every log) asks (inl none) = no_such (first_of (codes "LOG") rows) (string_bytes log) none asks.1
  has_all text (Ledger Callers every log) asks (inr much) = much.1 asks.0.1
  has_all text (Ledger Nothing every log) asks missing = asks.0.0
  has_all text (Parts front heaps log) asks (inl none) = no_such (first_of (codes "LOG") rows) (string_bytes log) none asks.3
  has_all text (Parts front heaps log) asks (inr both) = asks.2 both.1.0 both.1.1
  has_all text (Reread (Sites settings) log) asks (inl none) = no_such (first_of (codes "LOG") rows) (string_bytes log) none asks.3
  has_all text (Reread (Sites settings) log) asks (inr (inl calls, some)) = asks.2 calls
  has_all text (Reread (Sites settings) log) asks (inr (inr every, some)) = asks.4 every.0 every.1
  has_all text (Reread (Timeline heap stretches) log) asks (inl never) = never stretches asks.2
  has_all text (Reread (Timeline heap stretches) log) asks (inr (inl none)) = no_such (first_of (codes "LOG") rows) (string_bytes log) none asks.3
  has_all text (Reread (Timeline heap stretches) log) asks (inr (inr much)) = asks.4 much.0
  has_all text (Reread (SiteTimeline stretches) log) asks (inl never) = never stretches asks.2
  has_all text (Reread (SiteTimeline stretches) log) asks (inr (inl none)) = no_such (first_of (codes "LOG") rows) (string_bytes log) none asks.3
  has_all text (Reread (SiteTimeline stretches) log) asks (inr (inr much)) = much.1 asks.1
  has_all text (Reread (Fit front step) log) asks (inl none) = no_such (first_of (codes "LOG") rows) (string_bytes log) none asks.3
  has_all text (Reread (Fit front step) log) asks (inr both) = asks.2 both.0.0 both.0.1
  has_all text (Size bounds) asks never = never.0 bounds asks.1 asks.2
  has_all text (SizeParts front parts) asks never = never.1 parts.items asks.1 asks.2
  has_all text (Save settings log image) asks (inl missing) = no_log settings log missing asks.1 asks.2
  has_all text (Save settings log image) asks (inr none) = no_such (first_of (codes "IMAGE") rows) (string_bytes image) none asks.3
  has_all text (Image Check image) asks none = no_such (first_of (codes "IMAGE") rows) (string_bytes image) none asks.1
  has_all text (Image image_report.Walk image) asks (inl missing) = no_log default_settings image missing asks.2 asks.3
  has_all text (Image image_report.Walk image) asks (inr (inl (no_image, much))) = no_image asks.1
  has_all text (Image image_report.Walk image) asks (inr (inr (is, other))) = other asks.2

  text_asks_nothing : (text : Text) → IsMissing text → AsksNothing (Some (text, rows))
  text_asks_nothing text missing command asks = has_all text command asks (subst IsMissing (asked_under (text, rows) command asks) missing)

  pub report_asks_nothing : (name : HeapReport) → HasNoLog rows → AsksNothing (Some (name_text name, rows))
  report_asks_nothing Leaks missing = text_asks_nothing (codes "leaks") (inl missing)
  report_asks_nothing Peak missing = text_asks_nothing (codes "peak") (inl missing)
  report_asks_nothing Walk missing = text_asks_nothing (codes "walk") (inl missing)

  -- a number that is there is given
  pub given_number : (id : Text) (bits : ℕ) (found : Option ℕ) (n : ℕ) → Picks (HasNumber rows id bits) found → found ≡ Some n → HasNone rows id bits → ⊥
  given_number id bits found n picks is none = none n (subst (λ (o : Option ℕ). IfSome o (HasNumber rows id bits)) is picks.given)

  -- two numbers of one id are one
  one_number : (id : Text) (bits n m : ℕ) → HasNumber rows id bits n → HasNumber rows id bits m → n ≡ m
  one_number id bits n m has other =
      let same : Some has.0 ≡ Some other.0 = sym has.1 ∙ other.1 in
      let text : has.0 ≡ other.0 = cc in
      sym has.3 ∙ ap (λ (t : Text). digits_value 10 (without_leading_plus t)) text ∙ other.3

  one_heap : (settings other : Settings) → HasSettings rows settings → HasSettings rows other → settings ≡ other
  one_heap settings other has too =
      let pool = one_number (codes "pool") 64 settings.pool other.pool has.0 too.0 in
      let pools = one_number (codes "pools") 32 settings.pools other.pools has.1 too.1 in
      let records = one_number (codes "records") 32 settings.records other.records has.2 too.2 in
      let S : ℕ → ℕ → ℕ → Settings = λ pool pools records. record { pool = pool; pools = pools; records = records } in
      ap (λ (n : ℕ). S n settings.pools settings.records) pool ∙ ap (λ (n : ℕ). S other.pool n settings.records) pools ∙ ap (λ (n : ℕ). S other.pool other.pools n) records

  pub follow_asks_nothing : (name : HeapReport) (settings : Settings) → (HasImage name rows → ⊥) → HasNoHeap rows → HasSettings rows settings → (settings ≡ default_settings → ⊥)
      → AsksNothing (Some (name_text name, rows))
  follow_asks_nothing Leaks settings no_image without has other = text_asks_nothing (codes "leaks") (inr (inl (without, λ default. other (one_heap settings default_settings has default))))
  follow_asks_nothing Peak settings no_image without has other = text_asks_nothing (codes "peak") (inr (inl (without, λ default. other (one_heap settings default_settings has default))))
  follow_asks_nothing Walk settings no_image without has other = text_asks_nothing (codes "walk") (inr (inl (no_image, inl without)))

  pub image_asks_nothing : (settings : Settings) → HasImage Walk rows → HasSettings rows settings → (settings ≡ default_settings → ⊥) → AsksNothing (Some (codes "walk", rows))
  image_asks_nothing settings image has other = text_asks_nothing (codes "walk") (inr (inr (image, λ default. other (one_heap settings default_settings has default))))

  pub every_asks_nothing : (name : HeapReport) → (HasImage name rows → ⊥) → (HasNoHeap rows → ⊥) → HasEvery → AsksNothing (Some (name_text name, rows))
  every_asks_nothing Leaks no_image on_heap every = text_asks_nothing (codes "leaks") (inr (inr (on_heap, every)))
  every_asks_nothing Peak no_image on_heap every = text_asks_nothing (codes "peak") (inr (inr (on_heap, every)))
  every_asks_nothing Walk no_image on_heap every = text_asks_nothing (codes "walk") (inr (inl (no_image, inr (on_heap, every))))

  pub flag_read : (id text : Text) (result : Bool) → first_of id rows ≡ Some text → result ≡ bytes_eq text (codes "true")
      → MatchBool result (HasFlag id rows) (HasFlag id rows → ⊥)
  flag_read id text true is eq = is ∙ ap (λ (t : Text). Some t) ((bytes_eq-Decides text (codes "true")).0 (sym eq))
  flag_read id text false is eq = λ has.
      let same : Some text ≡ Some (codes "true") = sym is ∙ has in
      let text_is : text ≡ codes "true" = cc in
      false≢true (eq ∙ (bytes_eq-Decides text (codes "true")).1 text_is)

  pub flag_missing : (id : Text) → first_of id rows ≡ None → HasFlag id rows → ⊥
  flag_missing id none has = no_such (first_of id rows) (codes "true") none has

  pub walk_asks_nothing : (HasImage Walk rows → ⊥) → HasNoHeap rows → AsksNothing (Some (codes "walk", rows))
  walk_asks_nothing no_image without = text_asks_nothing (codes "walk") (inr (inl (no_image, inl without)))

  pub sites_asks_nothing : (first_of (codes "LOG") rows ≡ None) ⊎ HasCallsOnHeap → AsksNothing (Some (codes "sites", rows))
  sites_asks_nothing missing = text_asks_nothing (codes "sites") missing

  pub timeline_asks_nothing : TimelineMisses → AsksNothing (Some (codes "timeline", rows))
  timeline_asks_nothing missing = text_asks_nothing (codes "timeline") missing

  pub fit_asks_nothing : (first_of (codes "LOG") rows ≡ None) ⊎ HasBoth → AsksNothing (Some (codes "fit", rows))
  fit_asks_nothing missing = text_asks_nothing (codes "fit") missing

  pub size_asks_nothing : HasNoSize → AsksNothing (Some (codes "size", rows))
  size_asks_nothing never = text_asks_nothing (codes "size") never

  pub save_asks_nothing : HasNoLog rows ⊎ (first_of (codes "IMAGE") rows ≡ None) → AsksNothing (Some (codes "save", rows))
  save_asks_nothing missing = text_asks_nothing (codes "save") missing

pub refuses : {P : Type 0} (fault : ToolFault) → IsUsage fault ⊎ (fault ≡ Run OutOfMemory) → P
    → (fault ≡ Run OutOfMemory) ⊎ (IsUsage fault × P)
refuses fault (inl usage) p = inr (usage, p)
refuses fault (inr memory) p = inl memory

-- a wrong use, for another reason that follows from the one
refuses_too : {P Q : Type 0} (fault : ToolFault) → (P → Q) → (fault ≡ Run OutOfMemory) ⊎ (IsUsage fault × P) → (fault ≡ Run OutOfMemory) ⊎ (IsUsage fault × Q)
refuses_too fault follows (inl memory) = inl memory
refuses_too fault follows (inr usage) = inr (usage.0, follows usage.1)

-- the fault is handed on, and what is missing follows
pub asks_exit : {A P Q : Type 0} {IsAsked : A → Type 0} (result : Result A ToolFault) (fault : ToolFault) → IsErrAnd result (λ other. other ≡ fault)
    → (P → Q) → (fault ≡ Run OutOfMemory) ⊎ (IsUsage fault × P) → Asks IsAsked Q result
asks_exit (Ok given) fault is follows why = absurd is
asks_exit {A} {P} {Q} (Err other) fault is follows why =
    let R : ToolFault → Type 0 = λ f. (f ≡ Run OutOfMemory) ⊎ (IsUsage f × Q) in
    record { asked = tt; faults = subst R (sym is) (refuses_too fault follows why) }

-- ---- the parse

module _ (app : App) (texts : List Text) (is : app ≡ tlsf_line) where
  pub finds : (m : ArgMatches) → HasMatchesOf app texts m → subcommand_rows_of m ≡ subcommand_of tlsf_line texts
  finds m h = (subst (λ (a : App). HasMatchesOf a texts m) is h line_is_simple).1

  pub nothing_wrong : (is_simple_and_free app ≡ true → fault_of app texts ≡ []) → fault_of tlsf_line texts ≡ []
  nothing_wrong h = subst (λ (a : App). is_simple_and_free a ≡ true → fault_of a texts ≡ []) is h line_is_free

  pub some_wrong : (e : Error) → (is_simple_and_free app ≡ true → HasKind (fault_of app texts) e) → HasKind (fault_of tlsf_line texts) e
  some_wrong e h = subst (λ (a : App). is_simple_and_free a ≡ true → HasKind (fault_of a texts) e) is h line_is_free

pub no_memory_explained : (k : ErrorKind) (fault : ToolFault) → k ≡ kind.OutOfMemory → ExplainsKind k fault → ⊥
no_memory_explained k (Help text) is (inl help) = absurd (let e : kind.OutOfMemory ≡ kind.DisplayHelp = sym is ∙ help in cc)
no_memory_explained k (Help text) is (inr version) = absurd (let e : kind.OutOfMemory ≡ kind.DisplayVersion = sym is ∙ version in cc)
no_memory_explained k (Usage text) is explains = explains.2 is
no_memory_explained k (CannotOpen file) is explains = explains
no_memory_explained k (InputIsOutput file) is explains = explains
no_memory_explained k (ImageIsOutput file) is explains = explains
no_memory_explained k NoRandomBytes is explains = explains
no_memory_explained k ReadsOnce is explains = explains
no_memory_explained k (ReadsFileOnce log) is explains = explains
no_memory_explained k (Run fault) is explains = explains

pub explained : (kinds : Kinds) (e : Error) (fault : ToolFault) → HasKind kinds e
    → (fault ≡ Run OutOfMemory) ⊎ ExplainsKind (kind_of e) fault
    → (fault ≡ Run OutOfMemory) ⊎ ((k : ErrorKind) × IsAmong k kinds × ExplainsKind k fault)
explained kinds e fault has (inl memory) = inl memory
explained kinds e fault (inl memory) (inr explains) = absurd (no_memory_explained (kind_of e) fault memory explains)
explained kinds e fault (inr among) (inr explains) = inr (kind_of e, among, explains)

pub not_empty : (k : ErrorKind) (kinds : Kinds) → IsAmong k kinds → kinds ≡ [] → ⊥
not_empty k kinds among is = subst (λ (ks : Kinds). IsAmong k ks) is among

module _ (words : List (String Global)) (fault : ToolFault) where
  abbrev IsMemory : Type 0
  IsMemory = fault ≡ Run OutOfMemory

  abbrev Explains : Type 0
  Explains = (k : ErrorKind) × IsAmong k (wrong_with words) × ExplainsKind k fault

  pub explains_words : IsMemory ⊎ Explains → IsMemory ⊎ ExplainsWords words fault
  explains_words (inl memory) = inl memory
  explains_words (inr explains) = inr (inl explains)

  pub asks_nothing : IsMemory ⊎ Explains → IsMemory ⊎ ((command : Command) → AskFor words command → ⊥)
  asks_nothing (inl memory) = inl memory
  asks_nothing (inr explains) = inr (λ command asks. not_empty explains.0 (wrong_with words) explains.1 asks.0)

  pub no_report_explains : {P : Type 0} → wrong_with words ≡ [] → IsMemory ⊎ (IsUsage fault × P) → IsMemory ⊎ ExplainsWords words fault
  no_report_explains none (inl memory) = inl memory
  no_report_explains none (inr usage) = inr (inr (usage.0, none))

  -- what its matches don't ask for, the words don't
  pub never_asks : (found : Option (Text × List Row)) → found ≡ subcommand_of tlsf_line (texts_of words) → IsMemory ⊎ (IsUsage fault × AsksNothing found)
      → IsMemory ⊎ ((command : Command) → AskFor words command → ⊥)
  never_asks found is (inl memory) = inl memory
  never_asks found is (inr usage) = inr (λ command asks. usage.1 command (subst (λ (f : Option (Text × List Row)). MatchesAskFor f command) (sym is) asks.1))
