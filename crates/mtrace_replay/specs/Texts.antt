-- The texts of diagnostics and of the reports.
use Rattle.std.specs.Prelude.{ℕ, ◌*◌, ◌/◌, Bool, true, false, max, List, [], ◌∷◌, ◌++◌, length, map, sum_by, flat_map, codes, decimal, Option, Some, None, if◌then◌else◌, ◌==◌}
use Rattle.std.specs.List.{filter}
use Rattle.mtrace_log.specs.Address.{address_text}
use Rattle.mtrace_log.specs.Bytes.{newline}
use Rattle.tlsf_heap.specs.Sizing.{table_bytes}
use Rattle.tlsf_heap.specs.declared.row.Row.{Row}
use Rattle.tlsf_heap.specs.Content.{Pool, blocks_of, is_free}
use Rattle.tlsf_heap.specs.Rows.{row_of}
use Rattle.mtrace_replay.specs.Entry.{Entry}
use Rattle.mtrace_replay.specs.declared.ledger.point.LedgerPoint.{LedgerPoint}
use Rattle.mtrace_replay.specs.declared.ledger.replay.LedgerTotals.{LedgerTotals}
use Rattle.mtrace_replay.specs.declared.runs.report.Report.{Report}
use Rattle.mtrace_replay.specs.declared.runs.report.Report.TheVariants.{Leaks, Peak, Walk, Nothing}
use Rattle.mtrace_replay.specs.declared.heap.point.Point.{Point}
use Rattle.mtrace_replay.specs.declared.heap.totals.Totals.{Totals}
use Rattle.mtrace_replay.specs.Started.{Bare}
use Rattle.mtrace_replay.specs.Calls.{Caller}
use Rattle.mtrace_replay.specs.declared.held.count.Count.{Count}
use Rattle.mtrace_replay.specs.Sites.{Site}
use Rattle.mtrace_replay.specs.declared.runs.fitted.Fitted.{Fitted}
use Rattle.mtrace_replay.specs.declared.held.diagnostic.Diagnostic.{Diagnostic}
use Rattle.mtrace_replay.specs.declared.held.diagnostic.Kind.{Kind}
use Rattle.mtrace_replay.specs.declared.held.diagnostic.Kind.TheVariants.{TooLong, NotALine, NotHeld, AlreadyHeld, Refused, Half, Stray}
use Rattle.tlsf_heap.specs.declared.refusal.Refusal.{Refusal}
use Rattle.tlsf_heap.specs.declared.refusal.Refusal.TheVariants.{ZeroSize, NoFit, TableFull, BadPointer, BadAlign, BadPool, PoolsFull, PoolInUse, OutOfMemory, NoPool}
use Rattle.mtrace_replay.specs.declared.runs.status.Status.{Status}
use Rattle.mtrace_replay.specs.declared.runs.status.Status.TheVariants.{Clean, Found}

-- a refusal in words
abbrev pub refusal_text : Refusal → List ℕ
refusal_text ZeroSize = codes "zero size"
refusal_text NoFit = codes "no fit"
refusal_text TableFull = codes "table full"
refusal_text BadPointer = codes "bad pointer"
refusal_text BadAlign = codes "bad alignment"
refusal_text BadPool = codes "bad pool"
refusal_text PoolsFull = codes "pools full"
refusal_text PoolInUse = codes "pool in use"
refusal_text OutOfMemory = codes "out of memory"
refusal_text NoPool = codes "no pool"

abbrev pub kind_text : Kind → List ℕ
kind_text TooLong = codes "too long"
kind_text NotALine = codes "not a line"
kind_text (NotHeld address) = address_text address ++ codes " is not held"
kind_text (AlreadyHeld address) = address_text address ++ codes " is already held"
kind_text (Refused address refusal) = address_text address ++ codes " refused: " ++ refusal_text refusal
kind_text Half = codes "half of a reallocation"
kind_text Stray = codes "no < before >"

-- `line K: ` and what is wrong, one line
abbrev pub diagnostic_text : Diagnostic → List ℕ
diagnostic_text diagnostic = codes "line " ++ decimal diagnostic.line ++ codes ": " ++ kind_text diagnostic.kind ++ newline ∷ []

abbrev pub diagnostics_text : List Diagnostic → List ℕ
diagnostics_text all = flat_map diagnostic_text all

-- ` at LOCATION`, or nothing
abbrev pub at_text : Option (List ℕ) → List ℕ
at_text None = []
at_text (Some location) = codes " at " ++ location

-- `ADDR SIZE line K at LOCATION`, one line
abbrev pub entry_text : Entry → List ℕ
entry_text entry = address_text entry.addr ++ codes " " ++ decimal entry.size ++ codes " line " ++ decimal entry.line ++ at_text entry.at ++ newline ∷ []

-- the bytes asked for by all entries
abbrev pub total_size : List Entry → ℕ
total_size entries = sum_by (λ entry. entry.size) entries

-- `word` and a number, one line
abbrev pub number_line : List ℕ → ℕ → List ℕ
number_line word number = word ++ decimal number ++ newline ∷ []

-- two numbers, each behind its words, and the last words, one line
abbrev pub pair_line : (word : List ℕ) (first : ℕ) (middle : List ℕ) (second : ℕ) (last : List ℕ) → List ℕ
pair_line word first middle second last = word ++ decimal first ++ middle ++ decimal second ++ last ++ newline ∷ []

-- `Total: E blocks, B bytes.`, one line
abbrev pub total_text : List Entry → List ℕ
total_text entries = pair_line (codes "Total: ") (length entries) (codes " blocks, ") (total_size entries) (codes " bytes.")

-- the report of leaks, of the entries in order of address
abbrev pub leaks_report : List Entry → List ℕ
leaks_report [] = codes "No memory leaks." ++ newline ∷ []
leaks_report (first ∷ entries) = (codes "Memory not freed:" ++ newline ∷ []) ++ flat_map entry_text (first ∷ entries) ++ total_text (first ∷ entries)

-- all diagnostics, and then the report
abbrev pub leaks_text : List Diagnostic → List Entry → List ℕ
leaks_text diagnostics entries = diagnostics_text diagnostics ++ leaks_report entries

-- the sizes of the free blocks
abbrev pub free_sizes : Bare → List ℕ
free_sizes content = map (λ block. block.size) (filter is_free (blocks_of content.pools))

-- the greatest of the sizes, 0 where there is none
abbrev pub greatest : List ℕ → ℕ
greatest [] = 0
greatest (size ∷ sizes) = max size (greatest sizes)

-- the high place in thousandths of the peak, rounded down; no number where nothing was ever held
abbrev pub spread_text : (high peak : ℕ) → List ℕ
spread_text high peak = if peak == 0 then codes "-" else decimal (high * 1000 / peak)

-- `peak: B bytes at line K`, one line
abbrev pub greatest_line : Totals → List ℕ
greatest_line totals = pair_line (codes "peak: ") totals.peak_bytes (codes " bytes at line ") totals.peak_line []

-- the nine lines, by what is free: how many bytes, in how many blocks, and the bytes of the largest
abbrev pub peak_lines : Totals → (bytes blocks largest : ℕ) → List ℕ
peak_lines totals bytes blocks largest =
    number_line (codes "lines: ") totals.lines
    ++ number_line (codes "served: ") totals.served
    ++ number_line (codes "refused: ") totals.refused
    ++ pair_line (codes "live: ") totals.live_bytes (codes " bytes in ") totals.live_blocks (codes " blocks")
    ++ greatest_line totals
    ++ number_line (codes "high place: ") totals.high_place
    ++ pair_line (codes "free: ") bytes (codes " bytes in ") blocks (codes " blocks")
    ++ number_line (codes "largest free: ") largest
    ++ codes "spread: " ++ spread_text totals.high_place totals.peak_bytes ++ newline ∷ []

-- the report of the peak
abbrev pub peak_report : Totals → Bare → List ℕ
peak_report totals content =
    let sizes = free_sizes content in
    peak_lines totals (sum_by (λ size. size) sizes) (length sizes) (greatest sizes)

abbrev pub use_text : Bool → List ℕ
use_text true = codes " used"
use_text false = codes " free"

-- `PLACE SIZE free` or `PLACE SIZE used`, one line
abbrev pub row_text : Row → List ℕ
row_text row = pair_line [] row.place (codes " ") row.size (use_text row.used)

-- `pool BASE: BYTES bytes`, one line, and then a line for each row
abbrev pub rows_text : ℕ × ℕ → List Row → List ℕ
rows_text range rows = pair_line (codes "pool ") range.0 (codes ": ") range.1 (codes " bytes") ++ flat_map row_text rows

-- the line of a pool, and a line for each of its blocks
abbrev pub pool_text : {A : Type 0} → Pool A → List ℕ
pool_text pool = rows_text (pool.base, pool.bytes) (map row_of pool.blocks)

-- the report of the walk: the pools in order of base, each with its blocks in order of place
abbrev pub walk_report : Bare → List ℕ
walk_report content = flat_map pool_text content.pools

-- `B bytes in E blocks at LOCATION`, one line
abbrev pub site_text : Site → List ℕ
site_text site = decimal site.bytes ++ codes " bytes in " ++ decimal site.blocks ++ codes " blocks" ++ at_text site.at ++ newline ∷ []

-- words, how many blocks are held and their bytes, one line, and then a line for each site
abbrev pub section : List ℕ → (blocks bytes : ℕ) → List Site → List ℕ
section words blocks bytes sites = words ++ pair_line (codes ": ") blocks (codes " blocks, ") bytes (codes " bytes.") ++ flat_map site_text sites

-- the words above the sites at the peak
abbrev pub peak_words : ℕ → List ℕ
peak_words line = codes "Held at the peak, line " ++ decimal line

-- the words above the sites at the end
abbrev pub end_words : List ℕ
end_words = codes "Held at the end"

-- what is held at the peak and what is held at the end, each by its sites
abbrev pub both_sections : (peak_line peak_blocks peak_bytes : ℕ) → List Site → (end_blocks end_bytes : ℕ) → List Site → List ℕ
both_sections peak_line peak_blocks peak_bytes peak_sites end_blocks end_bytes end_sites =
    section (peak_words peak_line) peak_blocks peak_bytes peak_sites ++ section end_words end_blocks end_bytes end_sites

-- `B bytes in C calls, T temporary at LOCATION`, one line
abbrev pub caller_text : Caller → List ℕ
caller_text caller = decimal caller.bytes ++ codes " bytes in " ++ decimal caller.calls ++ codes " calls, " ++ decimal caller.temporary ++ codes " temporary" ++ at_text caller.at ++ newline ∷ []

-- `Asked over the log: C calls, B bytes, T temporary.`, one line
abbrev pub calls_line : Count → List ℕ
calls_line total =
    codes "Asked over the log: " ++ decimal total.calls ++ codes " calls, " ++ decimal total.bytes ++ codes " bytes, " ++ decimal total.temporary ++ codes " temporary." ++ newline ∷ []

-- all calls together, and then a line for each caller
abbrev pub callers_text : Count → List Caller → List ℕ
callers_text total callers = calls_line total ++ flat_map caller_text callers

-- a number between its words, one line
abbrev pub count_line : List ℕ → ℕ → List ℕ → List ℕ
count_line word number last = word ++ decimal number ++ last ++ newline ∷ []

-- `refused: N lines`, one line, where lines were refused
abbrev pub refused_line : ℕ → List ℕ
refused_line refused = if refused == 0 then [] else count_line (codes "refused: ") refused (codes " lines")

-- `held at most: L blocks`, one line
abbrev pub most_line : ℕ → List ℕ
most_line most = count_line (codes "held at most: ") most (codes " blocks")

-- a size in bytes, or that there is none
abbrev pub bytes_text : Option ℕ → List ℕ
bytes_text None = codes "-"
bytes_text (Some size) = decimal size ++ codes " bytes"

-- `word` and a size, one line
abbrev pub size_line : List ℕ → Option ℕ → List ℕ
size_line word size = word ++ bytes_text size ++ newline ∷ []

-- the records, and the bytes of their table
abbrev pub record_lines : ℕ → List ℕ
record_lines records = number_line (codes "records: ") records ++ size_line (codes "table: ") (Some (table_bytes records))

-- the records, what the sizes tell that were tried with them, and the pool that is always enough
abbrev pub fitted_lines : (records : ℕ) → Fitted → Option ℕ → List ℕ
fitted_lines records fitted sure =
    record_lines records
    ++ size_line (codes "least pool: ") fitted.least
    ++ size_line (codes "safe pool: ") fitted.safe
    ++ pair_line (codes "sizes tried: ") fitted.tried (codes ", ") fitted.refused (codes " refused")
    ++ size_line (codes "sure pool: ") sure

-- that no size was tried
abbrev pub untried_lines : List ℕ
untried_lines =
    size_line (codes "records: ") None
    ++ size_line (codes "table: ") None
    ++ size_line (codes "least pool: ") None
    ++ size_line (codes "safe pool: ") None
    ++ number_line (codes "sizes tried: ") 0
    ++ size_line (codes "sure pool: ") None

-- a number behind a blank
abbrev pub column : ℕ → List ℕ
column number = codes " " ++ decimal number

-- the words above the points
abbrev pub timeline_words : List ℕ
timeline_words = codes "line bytes blocks reach free largest" ++ newline ∷ []

-- `LINE BYTES BLOCKS REACH FREE LARGEST`, one line
abbrev pub point_text : Point → List ℕ
point_text point =
    decimal point.line ++ column point.bytes ++ column point.blocks ++ column point.reach ++ column point.free ++ column point.largest ++ newline ∷ []

-- a line for each point below their words, and how many lines were refused, where some were
abbrev pub timeline_text : List Point → (refused : ℕ) → List ℕ
timeline_text points refused = timeline_words ++ flat_map point_text points ++ refused_line refused

-- the words above the points where there is no heap
abbrev pub ledger_timeline_words : List ℕ
ledger_timeline_words = codes "line bytes blocks" ++ newline ∷ []

-- `LINE BYTES BLOCKS`, one line
abbrev pub ledger_point_text : LedgerPoint → List ℕ
ledger_point_text point = decimal point.line ++ column point.bytes ++ column point.blocks ++ newline ∷ []

-- a line for each point below their words
abbrev pub ledger_timeline_text : List LedgerPoint → List ℕ
ledger_timeline_text points = ledger_timeline_words ++ flat_map ledger_point_text points

-- the line of a point, and then a line for each site that has changed
abbrev pub changes_text : LedgerPoint → List Site → List ℕ
changes_text point sites = ledger_point_text point ++ flat_map site_text sites

-- the text of a report
abbrev pub report_text : Report → List Entry → Totals → Bare → List ℕ
report_text Leaks entries totals content = leaks_report entries
report_text Peak entries totals content = peak_report totals content
report_text Walk entries totals content = walk_report content
report_text Nothing entries totals content = []

-- Clean where nothing is held and there is no diagnostic
abbrev pub clean_or_found : List Diagnostic → List Entry → Status
clean_or_found [] [] = Clean
clean_or_found [] (first ∷ entries) = Found
clean_or_found (diagnostic ∷ more) entries = Found

-- the sums over the lines where there is no heap
abbrev pub ledger_peak_report : LedgerTotals → List ℕ
ledger_peak_report totals =
    number_line (codes "lines: ") totals.lines
    ++ number_line (codes "served: ") totals.served
    ++ pair_line (codes "live: ") totals.live_bytes (codes " bytes in ") totals.live_blocks (codes " blocks")
    ++ pair_line (codes "peak: ") totals.peak_bytes (codes " bytes at line ") totals.peak_line []
