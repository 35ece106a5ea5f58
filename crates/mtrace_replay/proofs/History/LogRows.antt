-- Worked logs, computed by the definitions.
use Rattle.std.proofs.Common.{◌≡◌, ℕ, List, [], ◌∷◌, map, take, Some, None, Ok, Err, refl, codes}
use Rattle.std.specs.Prelude.{sum_by}
use Rattle.mtrace_log.specs.declared.event.Event.TheVariants.{Start, End, Alloc, Free, Old, New, Failed, Aligned}
use Rattle.mtrace_log.specs.declared.event.LineFault.TheVariants as fault
use Rattle.std.specs.Fmt.{digits}
use Rattle.tlsf_class.specs.Classes.{class, need, low}
use Rattle.tlsf_class.specs.Rounding.{rounded}
use Rattle.mtrace_replay.specs.declared.heap.settings.Settings.{Settings}
use Rattle.mtrace_replay.specs.Started.{started}
use Rattle.mtrace_replay.specs.Moment.{ReadLine}
use Rattle.mtrace_replay.specs.History.{moments, history, held, content_after, diagnostics}
use Rattle.mtrace_replay.specs.Survey.{live_ends}
use Rattle.mtrace_replay.specs.Texts.{free_sizes, greatest, leaks_text, timeline_text, ledger_timeline_text}
use Rattle.mtrace_replay.specs.Timeline.{end_of_stretch}

-- the settings where none are named
abbrev default_settings : Settings
default_settings = record { pool = 16777216; pools = 1; records = 8192 }

-- one small pool, and few records
abbrev small : Settings
small = record { pool = 1024; pools = 1; records = 16 }

-- one pool of 64 bytes, and few records or one
abbrev tiny : Settings
tiny = record { pool = 64; pools = 1; records = 4 }

abbrev one_record : Settings
one_record = record { pool = 64; pools = 1; records = 1 }

-- first-leak (one pool of 16777216 bytes, 8192 records): `= Start`, `@ a + 0x10 0x64`, `= End`
abbrev first_leak : List ReadLine
first_leak = Ok Start ∷ Ok (Alloc (Some (codes "a")) (Some 16) 100) ∷ Ok End ∷ []

first_leak-rows : (leaks_text (diagnostics default_settings first_leak) (record { addr = 16; size = 100; line = 2; at = Some (codes "a") } ∷ []) ≡ codes "Memory not freed:\n0x10 100 line 2 at a\nTotal: 1 blocks, 100 bytes.\n")
    × (held (history default_settings first_leak) 16 ≡ Some (record { entry = record { addr = 16; size = 100; line = 2; at = Some (codes "a") }; place = 0 }))
unfolding started moments class need low rounded digits
first_leak-rows = (refl, refl)

-- first-path-diagnostics (one pool of 1024 bytes, 16 records): `= Start`, `+ 0x10 0x64`, `+ 0x10 0x1`, `- 0x10`, `+ 0x20 0x400`
abbrev first_path_diagnostics : List ReadLine
first_path_diagnostics = Ok Start ∷ Ok (Alloc None (Some 16) 100) ∷ Ok (Alloc None (Some 16) 1) ∷ Ok (Free None 16) ∷ Ok (Alloc None (Some 32) 1024) ∷ []

first_path_diagnostics-rows : (leaks_text (diagnostics small first_path_diagnostics) (record { addr = 32; size = 1024; line = 5; at = None } ∷ []) ≡ codes "line 3: 0x10 is already held\nMemory not freed:\n0x20 1024 line 5\nTotal: 1 blocks, 1024 bytes.\n")
    × (held (history small first_path_diagnostics) 32 ≡ Some (record { entry = record { addr = 32; size = 1024; line = 5; at = None }; place = 0 }))
    × (held (history small first_path_diagnostics) 16 ≡ None)
unfolding started moments class need low rounded digits
first_path_diagnostics-rows = (refl, refl, refl)

-- half-reallocation (one pool of 1024 bytes, 16 records): `+ 0x01000 0x10` (not a line), `+ 0x1000 0`, `- 0x2000`, `< 0x1000`
abbrev half_reallocation : List ReadLine
half_reallocation = Err fault.NotALine ∷ Ok (Alloc None (Some 4096) 0) ∷ Ok (Free None 8192) ∷ Ok (Old None 4096) ∷ []

half_reallocation-rows : (leaks_text (diagnostics small half_reallocation) (record { addr = 4096; size = 0; line = 2; at = None } ∷ []) ≡ codes "line 1: not a line\nline 3: 0x2000 is not held\nline 4: half of a reallocation\nMemory not freed:\n0x1000 0 line 2\nTotal: 1 blocks, 0 bytes.\n")
    × (held (history small half_reallocation) 4096 ≡ Some (record { entry = record { addr = 4096; size = 0; line = 2; at = None }; place = 0 }))
unfolding started moments class need low rounded digits
half_reallocation-rows = (refl, refl)

-- reallocation-pair (one pool of 1024 bytes, 16 records): `@ a + 0x10 0x64`, `@ b < 0x10`, `@ b > 0x30 0xc8`
abbrev reallocation_pair : List ReadLine
reallocation_pair = Ok (Alloc (Some (codes "a")) (Some 16) 100) ∷ Ok (Old (Some (codes "b")) 16) ∷ Ok (New (Some (codes "b")) 48 200) ∷ []

reallocation_pair-rows : (leaks_text (diagnostics small reallocation_pair) (record { addr = 48; size = 200; line = 3; at = Some (codes "b") } ∷ []) ≡ codes "Memory not freed:\n0x30 200 line 3 at b\nTotal: 1 blocks, 200 bytes.\n")
    × (held (history small reallocation_pair) 48 ≡ Some (record { entry = record { addr = 48; size = 200; line = 3; at = Some (codes "b") }; place = 0 }))
    × (held (history small reallocation_pair) 16 ≡ None)
unfolding started moments class need low rounded digits
reallocation_pair-rows = (refl, refl, refl)

-- one-record-log (one pool of 64 bytes, 1 record): `+ 0x10 0x8`, `- 0x10`, `+ 0x10 0x40`, `+ 0x10 0x8`, `- 0x10`
abbrev one_record_log : List ReadLine
one_record_log = Ok (Alloc None (Some 16) 8) ∷ Ok (Free None 16) ∷ Ok (Alloc None (Some 16) 64) ∷ Ok (Alloc None (Some 16) 8) ∷ Ok (Free None 16) ∷ []

one_record_log-rows : (leaks_text (diagnostics one_record one_record_log) [] ≡ codes "line 1: 0x10 refused: table full\nline 2: 0x10 is not held\nline 4: 0x10 is already held\nNo memory leaks.\n")
    × (held (history one_record one_record_log) 16 ≡ None)
unfolding started moments class need low rounded digits
one_record_log-rows = (refl, refl)

-- refused-reallocation (one pool of 64 bytes, 4 records): `+ 0x10 0x8`, `< 0x10`, `> 0x20 0x80`
abbrev refused_reallocation : List ReadLine
refused_reallocation = Ok (Alloc None (Some 16) 8) ∷ Ok (Old None 16) ∷ Ok (New None 32 128) ∷ []

refused_reallocation-rows : (leaks_text (diagnostics tiny refused_reallocation) [] ≡ codes "line 3: 0x20 refused: no fit\nNo memory leaks.\n")
    × (held (history tiny refused_reallocation) 16 ≡ None)
    × (held (history tiny refused_reallocation) 32 ≡ None)
unfolding started moments class need low rounded digits
refused_reallocation-rows = (refl, refl, refl)

-- repeated-half (one pool of 64 bytes, 4 records): `+ 0x10 0x8`, `< 0x10`, `< 0x10`, `> 0x10 0x10`
abbrev repeated_half : List ReadLine
repeated_half = Ok (Alloc None (Some 16) 8) ∷ Ok (Old None 16) ∷ Ok (Old None 16) ∷ Ok (New None 16 16) ∷ []

repeated_half-rows : (leaks_text (diagnostics tiny repeated_half) (record { addr = 16; size = 16; line = 4; at = None } ∷ []) ≡ codes "line 2: half of a reallocation\nMemory not freed:\n0x10 16 line 4\nTotal: 1 blocks, 16 bytes.\n")
    × (held (history tiny repeated_half) 16 ≡ Some (record { entry = record { addr = 16; size = 16; line = 4; at = None }; place = 0 }))
unfolding started moments class need low rounded digits
repeated_half-rows = (refl, refl)

-- stray-new (one pool of 1024 bytes, 16 records): `> 0x20 0x8`, `< 0x10`, `> 0x20 0x8`
abbrev stray_new : List ReadLine
stray_new = Ok (New None 32 8) ∷ Ok (Old None 16) ∷ Ok (New None 32 8) ∷ []

stray_new-rows : (leaks_text (diagnostics small stray_new) (record { addr = 32; size = 8; line = 3; at = None } ∷ []) ≡ codes "line 1: no < before >\nline 3: 0x10 is not held\nMemory not freed:\n0x20 8 line 3\nTotal: 1 blocks, 8 bytes.\n")
    × (held (history small stray_new) 32 ≡ Some (record { entry = record { addr = 32; size = 8; line = 3; at = None }; place = 0 }))
    × (held (history small stray_new) 16 ≡ None)
unfolding started moments class need low rounded digits
stray_new-rows = (refl, refl, refl)

-- end-between-halves (one pool of 1024 bytes, 16 records): `< 0x10`, `= End`, `> 0x10 0x8`
abbrev end_between_halves : List ReadLine
end_between_halves = Ok (Old None 16) ∷ Ok End ∷ Ok (New None 16 8) ∷ []

end_between_halves-rows : (leaks_text (diagnostics small end_between_halves) [] ≡ codes "line 1: half of a reallocation\nline 3: no < before >\nNo memory leaks.\n")
    × (held (history small end_between_halves) 16 ≡ None)
unfolding started moments class need low rounded digits
end_between_halves-rows = (refl, refl)

-- old-not-held-new-held (one pool of 1024 bytes, 16 records): `+ 0x20 0x8`, `< 0x10`, `> 0x20 0x8`
abbrev old_not_held_new_held : List ReadLine
old_not_held_new_held = Ok (Alloc None (Some 32) 8) ∷ Ok (Old None 16) ∷ Ok (New None 32 8) ∷ []

old_not_held_new_held-rows : (leaks_text (diagnostics small old_not_held_new_held) (record { addr = 32; size = 8; line = 1; at = None } ∷ []) ≡ codes "line 3: 0x10 is not held\nline 3: 0x20 is already held\nMemory not freed:\n0x20 8 line 1\nTotal: 1 blocks, 8 bytes.\n")
    × (held (history small old_not_held_new_held) 16 ≡ None)
    × (held (history small old_not_held_new_held) 32 ≡ Some (record { entry = record { addr = 32; size = 8; line = 1; at = None }; place = 0 }))
unfolding started moments class need low rounded digits
old_not_held_new_held-rows = (refl, refl, refl)

-- lines-without-effect (one pool of 1024 bytes, 16 records): `! 0x10 0x8`, `! (nil) 0`, `+ (nil) 0x8`, `= End`
abbrev lines_without_effect : List ReadLine
lines_without_effect = Ok (Failed None (Some 16) 8) ∷ Ok (Failed None None 0) ∷ Ok (Alloc None None 8) ∷ Ok End ∷ []

lines_without_effect-rows : (leaks_text (diagnostics small lines_without_effect) [] ≡ codes "No memory leaks.\n")
    × (held (history small lines_without_effect) 16 ≡ None)
unfolding started moments class need low rounded digits
lines_without_effect-rows = (refl, refl)

-- aligned-line (one pool of 1024 bytes, 16 records): `+ 0x10 0x8`, `* 0x20 0x40 0x20`
abbrev aligned_line : List ReadLine
aligned_line = Ok (Alloc None (Some 16) 8) ∷ Ok (Aligned None 32 64 32) ∷ []

aligned_line-rows : (leaks_text (diagnostics small aligned_line) (record { addr = 16; size = 8; line = 1; at = None } ∷ record { addr = 32; size = 32; line = 2; at = None } ∷ []) ≡ codes "Memory not freed:\n0x10 8 line 1\n0x20 32 line 2\nTotal: 2 blocks, 40 bytes.\n")
    × (held (history small aligned_line) 32 ≡ Some (record { entry = record { addr = 32; size = 32; line = 2; at = None }; place = 64 }))
unfolding started moments class need low rounded digits
aligned_line-rows = (refl, refl)

-- bad-alignment (one pool of 1024 bytes, 16 records): `* 0x10 0x3 0x8`, `* 0x10 0 0x8` (not a line), `* 0x10 0x1 0`
abbrev bad_alignment : List ReadLine
bad_alignment = Ok (Aligned None 16 3 8) ∷ Err fault.NotALine ∷ Ok (Aligned None 16 1 0) ∷ []

bad_alignment-rows : (leaks_text (diagnostics small bad_alignment) (record { addr = 16; size = 0; line = 3; at = None } ∷ []) ≡ codes "line 1: 0x10 refused: bad alignment\nline 2: not a line\nMemory not freed:\n0x10 0 line 3\nTotal: 1 blocks, 0 bytes.\n")
    × (held (history small bad_alignment) 16 ≡ Some (record { entry = record { addr = 16; size = 0; line = 3; at = None }; place = 0 }))
unfolding started moments class need low rounded digits
bad_alignment-rows = (refl, refl)

-- aligned-behind-half (one pool of 1024 bytes, 16 records): `< 0x10`, `* 0x10 0x40 0x8`, `> 0x10 0x8`
abbrev aligned_behind_half : List ReadLine
aligned_behind_half = Ok (Old None 16) ∷ Ok (Aligned None 16 64 8) ∷ Ok (New None 16 8) ∷ []

aligned_behind_half-text : leaks_text (diagnostics small aligned_behind_half) (record { addr = 16; size = 8; line = 2; at = None } ∷ [])
    ≡ codes "line 1: half of a reallocation\nline 3: no < before >\nMemory not freed:\n0x10 8 line 2\nTotal: 1 blocks, 8 bytes.\n"
unfolding started moments class need low rounded digits
aligned_behind_half-text = refl

-- empty-log (one pool of 1024 bytes, 16 records): no line
abbrev empty_log : List ReadLine
empty_log = []

empty_log-text : leaks_text (diagnostics small empty_log) []
    ≡ codes "No memory leaks.\n"
unfolding started moments class need low rounded digits
empty_log-text = refl

-- a-hole (one pool of 1024 bytes, 16 records): `+ 0x10 0x64`, `+ 0x20 0x8`, `- 0x10`
abbrev a_hole : List ReadLine
a_hole = Ok (Alloc None (Some 16) 100) ∷ Ok (Alloc None (Some 32) 8) ∷ Ok (Free None 16) ∷ []

-- the ends of its live blocks, and the sizes of its free ones, after each number of lines
a_hole-points : (live_ends (content_after (started small) (history small [])) ≡ []) × (free_sizes (content_after (started small) (history small [])) ≡ 1024 ∷ [])
    × (live_ends (content_after (started small) (history small (take 1 a_hole))) ≡ 112 ∷ []) × (free_sizes (content_after (started small) (history small (take 1 a_hole))) ≡ 912 ∷ [])
    × (live_ends (content_after (started small) (history small (take 2 a_hole))) ≡ 112 ∷ 128 ∷ []) × (free_sizes (content_after (started small) (history small (take 2 a_hole))) ≡ 896 ∷ [])
    × (live_ends (content_after (started small) (history small a_hole)) ≡ 128 ∷ []) × (free_sizes (content_after (started small) (history small a_hole)) ≡ 112 ∷ 896 ∷ [])
    × (timeline_text (record { line = 3; bytes = 8; blocks = 1; reach = greatest (128 ∷ []); free = sum_by (λ (size : ℕ). size) (112 ∷ 896 ∷ []); largest = greatest (112 ∷ 896 ∷ []) } ∷ []) 0
    ≡ codes "line bytes blocks reach free largest\n3 8 1 128 1008 896\n")
unfolding started moments class need low rounded digits
a_hole-points = (refl, refl, refl, refl, refl, refl, refl, refl, refl)

-- the ends of three parts of seven lines, and of five parts of fourteen; a log of one line ends with each part
ends_of_stretches : (map (end_of_stretch 7 3) (0 ∷ 1 ∷ 2 ∷ 3 ∷ []) ≡ 0 ∷ 3 ∷ 5 ∷ 7 ∷ []) × (map (end_of_stretch 14 5) (0 ∷ 1 ∷ 2 ∷ 3 ∷ 4 ∷ 5 ∷ []) ≡ 0 ∷ 3 ∷ 6 ∷ 9 ∷ 12 ∷ 14 ∷ [])
    × (map (end_of_stretch 1 3) (0 ∷ 1 ∷ 2 ∷ 3 ∷ []) ≡ 0 ∷ 1 ∷ 1 ∷ 1 ∷ [])
ends_of_stretches = (refl, refl, refl)

-- words.log in twenty parts, without a heap, as an independent implementation tells it: where its parts end, and its first two rows,
-- that of the peak, and the last one
words-rows : (map (end_of_stretch 163 20) (1 ∷ 2 ∷ 3 ∷ 4 ∷ 5 ∷ 6 ∷ 7 ∷ 8 ∷ 9 ∷ 10 ∷ 11 ∷ 12 ∷ 13 ∷ 14 ∷ 15 ∷ 16 ∷ 17 ∷ 18 ∷ 19 ∷ 20 ∷ [])
    ≡ 9 ∷ 17 ∷ 25 ∷ 33 ∷ 41 ∷ 49 ∷ 58 ∷ 66 ∷ 74 ∷ 82 ∷ 90 ∷ 98 ∷ 106 ∷ 115 ∷ 123 ∷ 131 ∷ 139 ∷ 147 ∷ 155 ∷ 163 ∷ [])
    × (ledger_timeline_text (record { line = 0; bytes = 0; blocks = 0 } ∷ record { line = 9; bytes = 434; blocks = 6 } ∷ record { line = 136; bytes = 8208; blocks = 39 }
    ∷ record { line = 163; bytes = 1906; blocks = 21 } ∷ []) ≡ codes "line bytes blocks\n0 0 0\n9 434 6\n136 8208 39\n163 1906 21\n")
unfolding digits
words-rows = (refl, refl)
