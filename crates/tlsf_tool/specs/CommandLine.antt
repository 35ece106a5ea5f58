-- The command line of the program, as clap reads it, and what its matches ask for.
use Rattle.std.specs.List.{position_or_len, before_first, after_first}
use Rattle.std.specs.Prelude.{◌≡◌, ◌⊎◌, ◌<◌, ◌≤◌, ◌^◌, ◌==◌, ℕ, Bool, ⊤, List, [], ◌∷◌, length, Option, Some, None, true, false, map, codes, string_bytes, String, pos}
use Rattle.std.specs.declared.alloc.Global.{Global}
use Rattle.std.specs.Str.Parse.{IsNumeral, digits_value, without_leading_plus}
use Rattle.clap.specs.Words.{App, Kinds, all_of, Row, Rule, Text, app_of, fault_of, first_of, new_app, new_rule, one_of, rule_of, subcommand_of, with_rule, with_subcommand}
use Rattle.clap.specs.declared.builder.arg.Arg.{Arg}
use Rattle.clap.specs.declared.builder.action.ArgAction.TheVariants.{Append, SetTrue}
use Rattle.clap.specs.declared.builder.command.Command.{Command as Clap}
use Rattle.clap.specs.declared.builder.command.Command.TheViews.{out-Command}
use Rattle.clap.specs.Simple.{on_top}
use Rattle.clap.specs.declared.builder.value_parser.ValueParser.{ValueParser}
use Rattle.clap.specs.declared.builder.value_parser.ValueParser.TheVariants as parser
use Rattle.tlsf_class.specs.Classes.{unit, greatest_size}
use Rattle.mtrace_replay.specs.declared.heap.settings.Settings.{Settings}
use Rattle.mtrace_replay.specs.declared.ledger.report.LedgerReport.{LedgerReport}
use Rattle.mtrace_replay.specs.declared.ledger.report.LedgerReport.TheVariants.{Held, Sums}
use Rattle.mtrace_replay.specs.declared.ledger.report.LedgerReport.TheVariants as report
use Rattle.mtrace_replay.specs.declared.runs.size.Bounds.{Bounds}
use Rattle.mtrace_replay.specs.declared.runs.size_parts.PartBounds.{PartBounds}
use Rattle.tlsf_tool.specs.declared.asked.Command.{Command}
use Rattle.tlsf_tool.specs.declared.asked.Command.TheVariants.{Report, Ledger, Parts, Reread, Size, SizeParts, Save, Image}
use Rattle.tlsf_tool.specs.declared.asked.ImageReport.TheVariants.{Check}
use Rattle.tlsf_tool.specs.declared.asked.ImageReport.TheVariants as image_report
use Rattle.tlsf_tool.specs.declared.asked.Rereading.TheVariants.{Sites, Timeline, SiteTimeline, Fit}
use Rattle.tlsf_tool.specs.declared.asked.HeapReport.{HeapReport}
use Rattle.tlsf_tool.specs.declared.asked.HeapReport.TheVariants.{Leaks, Peak, Walk}

-- ---- the command line's description

-- `--ID` with one value, which this parser takes, where it is given
abbrev pub given_rule : Text → ValueParser → Rule
given_rule id takes = record (new_rule id) {
  long = Some id;
  value_names = 1;
  parser = Some takes;
}

-- the same, with a default
abbrev pub option_rule : Text → Text → ValueParser → Rule
option_rule id default takes = record (given_rule id takes) { defaults = default ∷ [] }

-- `--ID` with one value, any number of times
abbrev pub repeated_rule : Text → Rule
repeated_rule id = record (new_rule id) {
  long = Some id;
  value_names = 1;
  action = Some Append;
}

-- `--ID` with no value
abbrev pub flag_rule : Text → Rule
flag_rule id = record (new_rule id) {
  long = Some id;
  action = Some SetTrue;
}

-- one word that must be there
abbrev pub word_rule : Text → Rule
word_rule id = record (new_rule id) { required = true }

-- a subcommand that takes a heap's settings and a log, with these defaults of a pool's bytes and of the records
abbrev pub heap_line : (pool records name : Text) → App
heap_line pool records name =
    with_rule (with_rule (with_rule (with_rule (new_app name)
    (option_rule (codes "pool") pool (parser.Unsigned unit greatest_size)))
    (option_rule (codes "pools") (codes "1") (parser.Signed (pos 1) (pos 8))))
    (option_rule (codes "records") records (parser.Signed (pos 1) (pos 65535))))
    (word_rule (codes "LOG"))

-- a report's subcommand, or one that takes the same words
abbrev pub report_line : Text → App
report_line = heap_line (codes "16777216") (codes "8192")

-- the default heap of these is the greatest
-- the milliseconds between snapshots
abbrev pub every_rule : Rule
every_rule = given_rule (codes "every") (parser.Unsigned 1 4294967295)

-- a report's subcommand that needs no heap
abbrev pub ledger_line : Text → App
ledger_line name = with_rule (with_rule (report_line name) (flag_rule (codes "no-heap"))) every_rule

-- a subcommand that takes a log, and a heap's settings where one is asked for
abbrev pub choice_line : Text → App
choice_line name =
    with_rule (with_rule (with_rule (with_rule (new_app name)
    (given_rule (codes "pool") (parser.Unsigned unit greatest_size)))
    (given_rule (codes "pools") (parser.Signed (pos 1) (pos 8))))
    (given_rule (codes "records") (parser.Signed (pos 1) (pos 65535))))
    (word_rule (codes "LOG"))

-- the heap's blocks at the end of a log, or those of an image where the option says so
abbrev pub walk_line : App
walk_line = with_rule (report_line (codes "walk")) (flag_rule (codes "image"))

-- who holds the memory, and who asks for it where the option says so
abbrev pub sites_line : App
sites_line = with_rule (with_rule (choice_line (codes "sites")) (flag_rule (codes "calls"))) every_rule

abbrev pub timeline_line : App
timeline_line =
    with_rule (with_rule (choice_line (codes "timeline"))
    (option_rule (codes "points") (codes "100") (parser.Signed (pos 1) (pos 10000))))
    (flag_rule (codes "sites"))

-- the bytes that a heap keeps in front of each block
abbrev pub front_rule : Rule
front_rule = given_rule (codes "front") (parser.Unsigned 0 greatest_size)

abbrev pub fit_line : App
fit_line =
    with_rule (with_rule (with_rule (with_rule (new_app (codes "fit"))
    (given_rule (codes "step") (parser.Unsigned unit greatest_size)))
    (given_rule (codes "heaps") (parser.Signed (pos 1) (pos 8))))
    front_rule)
    (word_rule (codes "LOG"))

abbrev pub size_line : App
size_line =
    with_rule (with_rule (with_rule (with_rule (with_rule (with_rule (new_app (codes "size"))
    (given_rule (codes "blocks") (parser.Signed (pos 1) (pos 32766))))
    (given_rule (codes "largest") (parser.Unsigned 1 1056964608)))
    (given_rule (codes "bytes") (parser.Unsigned 1 greatest_size)))
    (given_rule (codes "align") (parser.Unsigned 0 18446744073709551615)))
    front_rule)
    (repeated_rule (codes "part"))

abbrev pub save_line : App
save_line = with_rule (report_line (codes "save")) (word_rule (codes "IMAGE"))

abbrev pub check_line : App
check_line = with_rule (new_app (codes "check")) (word_rule (codes "IMAGE"))

-- `tlsf`, which tells its version and wants one of its subcommands
abbrev pub bare_line : App
bare_line = on_top (λ s. record s { has_version = true; subcommand_required = true }) (new_app (codes "tlsf"))

abbrev pub tlsf_line : App
tlsf_line = with_subcommand (with_subcommand (with_subcommand (with_subcommand (with_subcommand (with_subcommand (with_subcommand (with_subcommand (with_subcommand bare_line (ledger_line (codes "leaks")).top)
    (ledger_line (codes "peak")).top) walk_line.top) sites_line.top) timeline_line.top) fit_line.top) size_line.top) save_line.top) check_line.top

-- an option or a word by this rule, which the subcommand has for itself
pub record IsArgOf (rule : Rule) (arg : Arg) : Type 0 where
  pub rule_is : rule_of arg ≡ rule
  pub own : arg.global ≡ false

-- a subcommand by this line, with no option that goes to others too
pub record IsCommandOf (line : App) (command : Clap) : Type 0 where
  pub line_is : app_of command ≡ line
  pub own : (out-Command command).has_globals ≡ false

-- ---- what matches ask for

abbrev pub name_text : HeapReport → Text
name_text Leaks = codes "leaks"
name_text Peak = codes "peak"
name_text Walk = codes "walk"

-- the value of this id, which clap reads as the number n of this width in bits
abbrev pub HasNumber : List Row → Text → ℕ → ℕ → Type 0
HasNumber rows id bits n = (text : Text) × (one_of id rows ≡ Some text) × IsNumeral 10 (without_leading_plus text)
    × (digits_value 10 (without_leading_plus text) ≡ n) × (n < 2 ^ bits)

abbrev pub HasSettings : List Row → Settings → Type 0
HasSettings rows settings = HasNumber rows (codes "pool") 64 settings.pool
    × HasNumber rows (codes "pools") 32 settings.pools × HasNumber rows (codes "records") 32 settings.records

-- there is no number of this id
abbrev pub HasNone : List Row → Text → ℕ → Type 0
HasNone rows id bits = (n : ℕ) → HasNumber rows id bits n → ⊥

-- the value of this id, or else this number
abbrev pub HasOr : List Row → Text → (bits other n : ℕ) → Type 0
HasOr rows id bits other n = HasNumber rows id bits n ⊎ (HasNone rows id bits × (n ≡ other))

-- no setting of a heap is given
abbrev pub HasNoSetting : List Row → Type 0
HasNoSetting rows = HasNone rows (codes "pool") 64 × HasNone rows (codes "pools") 32 × HasNone rows (codes "records") 32

-- the heap that is asked for, where a setting of one is given: for each of the others that of the greatest heap is taken
abbrev pub HasHeap : List Row → Option Settings → Type 0
HasHeap rows None = HasNoSetting rows
HasHeap rows (Some settings) = (HasNoSetting rows → ⊥) × HasOr rows (codes "pool") 64 1073741808 settings.pool
    × HasOr rows (codes "pools") 32 1 settings.pools × HasOr rows (codes "records") 32 65535 settings.records

-- the option of this id is there, which takes no value
abbrev pub HasFlag : Text → List Row → Type 0
HasFlag id rows = first_of id rows ≡ Some (codes "true")

-- the option is there that asks for no heap
abbrev pub HasNoHeap : List Row → Type 0
HasNoHeap rows = HasFlag (codes "no-heap") rows

-- this report's subcommand is given an image in place of a log
abbrev pub HasImage : HeapReport → List Row → Type 0
HasImage Walk rows = HasFlag (codes "image") rows
HasImage name rows = ⊥

-- the option is there that asks who asks
abbrev pub HasCalls : List Row → Type 0
HasCalls rows = HasFlag (codes "calls") rows

-- the option is there that asks for each location
abbrev pub HasSites : List Row → Type 0
HasSites rows = HasFlag (codes "sites") rows

-- the settings of a report where none is given
abbrev pub default_settings : Settings
default_settings = record { pool = 16777216; pools = 1; records = 8192 }

-- this subcommand's text is that of a report which the option makes without a heap
abbrev pub IsOfReport : LedgerReport → Text → Type 0
IsOfReport Held text = text ≡ codes "leaks"
IsOfReport Sums text = text ≡ codes "peak"
IsOfReport report text = ⊥

-- the subcommand and its matches ask for this report without a heap: by the option, or by no setting of one
abbrev pub AskForLedger : LedgerReport → Text × List Row → Type 0
AskForLedger report.Sites found = (found.0 ≡ codes "sites") × HasNoSetting found.1 × (HasCalls found.1 → ⊥)
AskForLedger report.Callers found = (found.0 ≡ codes "sites") × HasNoSetting found.1 × HasCalls found.1
AskForLedger report found = IsOfReport report found.0 × HasNoHeap found.1 × HasSettings found.1 default_settings

-- the value of this id, where there is a number of it
abbrev pub HasGiven : List Row → Text → Option ℕ → Type 0
HasGiven rows id (Some n) = HasNumber rows id 64 n
HasGiven rows id None = (n : ℕ) → HasNumber rows id 64 n → ⊥

-- how many bytes more each request has, and none where that isn't given
abbrev pub HasFront : List Row → ℕ → Type 0
HasFront rows front = HasOr rows (codes "front") 64 0 front

-- the bounds of a program
abbrev pub HasBounds : List Row → Bounds → Type 0
HasBounds rows bounds = HasNumber rows (codes "blocks") 32 bounds.blocks × HasNumber rows (codes "largest") 64 bounds.largest
    × HasGiven rows (codes "bytes") bounds.bytes × HasGiven rows (codes "align") bounds.align × HasFront rows bounds.front

-- none of the bounds of a program is given
abbrev pub HasNoBounds : List Row → Type 0
HasNoBounds rows = HasNone rows (codes "blocks") 32 × HasNone rows (codes "largest") 64 × HasNone rows (codes "bytes") 64 × HasNone rows (codes "align") 64

-- the text is read as the number n of this width in bits
abbrev pub IsNumberText : Text → (bits n : ℕ) → Type 0
IsNumberText text bits n = IsNumeral 10 (without_leading_plus text) × (digits_value 10 (without_leading_plus text) ≡ n) × (n < 2 ^ bits)

-- an x between two numbers: how many blocks one heap by size has at most, and the bytes of its largest request
abbrev pub is_times : ℕ → Bool
is_times byte = byte == 120

pub record IsPartText (text : Text) (part : PartBounds) : Type 0 where
  pub times : position_or_len is_times text < length text
  pub blocks : IsNumberText (before_first is_times text) 32 part.blocks
  pub largest : IsNumberText (after_first is_times text) 64 part.largest
  pub some_blocks : 0 < part.blocks
  pub few_blocks : part.blocks ≤ 65535
  pub some_bytes : 0 < part.largest
  pub few_bytes : part.largest ≤ 1056964608

-- each text is of a part
abbrev pub ArePartTexts : List Text → List PartBounds → Type 0
ArePartTexts [] [] = ⊤
ArePartTexts (text ∷ texts) (part ∷ parts) = IsPartText text part × ArePartTexts texts parts
ArePartTexts texts parts = ⊥

-- the heaps by size that are told, eight at most
pub record HasParts (rows : List Row) (parts : List PartBounds) : Type 0 where
  pub texts : List Text
  pub told : all_of (codes "part") rows ≡ Some texts
  pub few : length texts ≤ 8
  pub read : ArePartTexts texts parts

-- there are no settings, or there is no log
abbrev pub HasNoLog : List Row → Type 0
HasNoLog rows = ((settings : Settings) → HasSettings rows settings → ⊥) ⊎ (first_of (codes "LOG") rows ≡ None)

-- the subcommand and its matches ask for the command
abbrev pub MatchesAskFor : Option (Text × List Row) → Command → Type 0
MatchesAskFor None command = ⊥
MatchesAskFor (Some found) (Report name settings log) = (found.0 ≡ name_text name) × (HasNoHeap found.1 → ⊥)
    × HasSettings found.1 settings × (first_of (codes "LOG") found.1 ≡ Some (string_bytes log)) × HasNone found.1 (codes "every") 64
    × (HasImage name found.1 → ⊥)
MatchesAskFor (Some found) (Ledger report every log) = AskForLedger report found × (first_of (codes "LOG") found.1 ≡ Some (string_bytes log))
    × HasGiven found.1 (codes "every") every
MatchesAskFor (Some found) (Reread (Sites settings) log) = (found.0 ≡ codes "sites")
    × HasHeap found.1 (Some settings) × (HasCalls found.1 → ⊥) × (first_of (codes "LOG") found.1 ≡ Some (string_bytes log)) × HasNone found.1 (codes "every") 64
MatchesAskFor (Some found) (Reread (Timeline heap stretches) log) = (found.0 ≡ codes "timeline")
    × HasHeap found.1 heap × HasNumber found.1 (codes "points") 32 stretches × (first_of (codes "LOG") found.1 ≡ Some (string_bytes log))
    × (HasSites found.1 → ⊥)
MatchesAskFor (Some found) (Reread (SiteTimeline stretches) log) = (found.0 ≡ codes "timeline")
    × HasNoSetting found.1 × HasNumber found.1 (codes "points") 32 stretches × (first_of (codes "LOG") found.1 ≡ Some (string_bytes log))
    × HasSites found.1
MatchesAskFor (Some found) (Reread (Fit front step) log) = (found.0 ≡ codes "fit") × HasGiven found.1 (codes "step") step × HasNone found.1 (codes "heaps") 32
    × (first_of (codes "LOG") found.1 ≡ Some (string_bytes log)) × HasFront found.1 front
MatchesAskFor (Some found) (Parts front heaps log) = (found.0 ≡ codes "fit") × HasNumber found.1 (codes "heaps") 32 heaps × HasNone found.1 (codes "step") 64
    × (first_of (codes "LOG") found.1 ≡ Some (string_bytes log)) × HasFront found.1 front
MatchesAskFor (Some found) (Size bounds) = (found.0 ≡ codes "size") × HasBounds found.1 bounds × (all_of (codes "part") found.1 ≡ None)
MatchesAskFor (Some found) (SizeParts front parts) = (found.0 ≡ codes "size") × HasParts found.1 parts.items × HasNoBounds found.1 × HasFront found.1 front
MatchesAskFor (Some found) (Save settings log image) = (found.0 ≡ codes "save")
    × HasSettings found.1 settings × (first_of (codes "LOG") found.1 ≡ Some (string_bytes log)) × (first_of (codes "IMAGE") found.1 ≡ Some (string_bytes image))
MatchesAskFor (Some found) (Image Check image) = (found.0 ≡ codes "check") × (first_of (codes "IMAGE") found.1 ≡ Some (string_bytes image))
MatchesAskFor (Some found) (Image image_report.Walk image) = (found.0 ≡ codes "walk") × HasImage Walk found.1 × HasSettings found.1 default_settings
    × (first_of (codes "LOG") found.1 ≡ Some (string_bytes image))

abbrev pub texts_of : List (String Global) → List Text
texts_of = map string_bytes

-- what is wrong with the words, or that they ask for help or the version: the kinds of clap's error, none where
-- it takes them
abbrev pub wrong_with : List (String Global) → Kinds
wrong_with words = fault_of tlsf_line (texts_of words)

-- clap takes the words, and the subcommand that it finds in them, with its matches, asks for the command
abbrev pub AskFor : List (String Global) → Command → Type 0
AskFor words command = (wrong_with words ≡ []) × MatchesAskFor (subcommand_of tlsf_line (texts_of words)) command
