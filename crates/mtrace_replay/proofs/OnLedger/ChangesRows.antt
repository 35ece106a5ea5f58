-- What has changed, by worked entries and slots.
use Rattle.std.proofs.Common.{◌≡◌, ℕ, List, [], ◌∷◌, ◌++◌, true, false, Some, None, codes, refl}
use Rattle.std.specs.Prelude.{slice_index_or}
use Rattle.std.specs.Fmt.{digits}
use Rattle.mtrace_log.specs.Bytes.{newline}
use Rattle.mtrace_replay.specs.Entry.{Entry}
use Rattle.mtrace_replay.specs.Sites.{Site, blocks_at, bytes_at, origin_cmp}
use Rattle.mtrace_replay.specs.Shares.{Between, changes_of, is_unchanged}
use Rattle.mtrace_replay.specs.Texts.{changes_text}
use Rattle.mtrace_replay.specs.RunSiteTimeline.{last_told}

abbrev entry : (addr size : ℕ) → List ℕ → Entry
entry addr size location = record { addr = addr; size = size; line = 1; at = Some location }

abbrev before : List Entry
before = entry 16 8 (codes "a") ∷ entry 32 200 (codes "b") ∷ []

abbrev now : List Entry
now = entry 16 8 (codes "a") ∷ entry 48 0 (codes "a") ∷ []

-- another block of no byte, a location that holds no more, and one that never held
held-rows : (blocks_at (Some (codes "a")) before ≡ 1) × (blocks_at (Some (codes "a")) now ≡ 2) × (bytes_at (Some (codes "a")) before ≡ 8) × (bytes_at (Some (codes "a")) now ≡ 8)
    × (bytes_at (Some (codes "b")) before ≡ 200) × (bytes_at (Some (codes "b")) now ≡ 0) × (blocks_at None now ≡ 0)
unfolding origin_cmp
held-rows = (refl, refl, refl, refl, refl, refl, refl)

abbrev amounts : (blocks bytes now_blocks now_bytes : ℕ) → Between
amounts blocks bytes now_blocks now_bytes = record { before = record { blocks = blocks; bytes = bytes }; now = record { blocks = now_blocks; bytes = now_bytes } }

unchanged-rows : (is_unchanged (amounts 1 8 1 8) ≡ true) × (is_unchanged (amounts 1 8 2 8) ≡ false) × (is_unchanged (amounts 1 8 1 9) ≡ false) × (is_unchanged (amounts 0 0 0 0) ≡ true)
    × (is_unchanged (amounts 1 0 0 0) ≡ false) × (is_unchanged (amounts 0 0 1 0) ≡ false)
unchanged-rows = (refl, refl, refl, refl, refl, refl)

-- by the slots of no location, of a and of b
abbrev by_slot : ℕ → Between
by_slot slot = slice_index_or (amounts 3 30 3 30 ∷ amounts 1 8 2 8 ∷ amounts 1 200 0 0 ∷ []) slot (amounts 0 0 0 0)

abbrev changed : List Site
changed = record { blocks = 2; bytes = 8; at = Some (codes "a") } ∷ record { blocks = 0; bytes = 0; at = Some (codes "b") } ∷ []

changes-row : changes_of by_slot (codes "a" ∷ codes "b" ∷ codes "c" ∷ []) ≡ changed
changes-row = refl

text-row : changes_text (record { line = 5; bytes = 38; blocks = 5 }) changed
    ≡ (codes "5 38 5" ++ newline ∷ []) ++ (codes "8 bytes in 2 blocks at a" ++ newline ∷ []) ++ (codes "0 bytes in 0 blocks at b" ++ newline ∷ [])
unfolding digits
text-row = refl

last-rows : (last_told [] ≡ 0) × (last_told (8 ∷ 5 ∷ 0 ∷ []) ≡ 8)
last-rows = (refl, refl)
