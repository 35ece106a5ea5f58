-- Worked logs, and the parts that serve them, computed by the definitions.
use Rattle.std.proofs.Common.{◌≡◌, ℕ, List, [], ◌∷◌, reverse, Some, None, Ok, refl, codes}
use Rattle.std.specs.Prelude.{◌==◌, if◌then◌else◌}
use Rattle.std.proofs.Common.{Less, Greater}
use Rattle.std.specs.Fmt.{digits}
use Rattle.mtrace_log.specs.declared.event.Event.TheVariants.{Alloc, Free, Old, New, Aligned}
use Rattle.tlsf_class.specs.Classes.{need, low}
use Rattle.tlsf_class.specs.Rounding.{rounded}
use Rattle.mtrace_replay.specs.Moment.{ReadLine}
use Rattle.mtrace_replay.specs.History.{held}
use Rattle.mtrace_replay.specs.LedgerReplay.{ledger_moments}
use Rattle.mtrace_replay.specs.Parts.{range_of, class_at, served_classes, largest, Part, parts_of, cut_bytes, cut_cmp, pool_bytes, parts_text, no_parts_text, peak_line_text}

-- the ranges end at powers of two
pub ranges-rows : (range_of 16 ≡ 0) × (range_of 32 ≡ 1) × (range_of 48 ≡ 2) × (range_of 64 ≡ 2) × (range_of 80 ≡ 3) × (range_of 1008 ≡ 6) × (range_of 335872 ≡ 15) × (range_of 1056964608 ≡ 26)
unfolding range_of
ranges-rows = (refl, refl, refl, refl, refl, refl, refl, refl)

-- aligned (of glibc): `+ 0x10 0x64`, `* 0x20 0x1000 0x64`, `< 0x10`, `> 0x30 0x400`, `- 0x20`
abbrev aligned : List ReadLine
aligned =
    Ok (Alloc None (Some 16) 100)
    ∷ Ok (Aligned None 32 4096 100)
    ∷ Ok (Old None 16)
    ∷ Ok (New None 48 1024)
    ∷ Ok (Free None 32)
    ∷ []

-- what the lines ask for, and what is held behind the last
aligned-rows : (served_classes (reverse aligned) ≡ Some 1024 ∷ Some 4224 ∷ Some 112 ∷ [])
    × (class_at (reverse aligned) 1 ≡ Some 112)
    × (class_at (reverse aligned) 2 ≡ Some 4224)
    × (class_at (reverse aligned) 4 ≡ Some 1024)
    × (held (ledger_moments (reverse aligned)) 48 ≡ Some (record { entry = record { addr = 48; size = 1024; line = 4; at = None }; place = 0 }))
    × (held (ledger_moments (reverse aligned)) 16 ≡ None)
    × (largest 0 6 (served_classes (reverse aligned)) ≡ 1024)
    × (largest 7 26 (served_classes (reverse aligned)) ≡ 4224)
    × (largest 0 2 (served_classes (reverse aligned)) ≡ 0)
unfolding ledger_moments served_classes range_of need low rounded
aligned-rows = (refl, refl, refl, refl, refl, refl, refl, refl, refl)

-- a request of no byte is one unit, and one above the last class has none
classes-rows : (served_classes (Ok (Alloc None (Some 16) 0) ∷ []) ≡ Some 16 ∷ []) × (served_classes (Ok (Alloc None (Some 16) 1056964609) ∷ []) ≡ None ∷ [])
unfolding ledger_moments served_classes need low rounded
classes-rows = (refl, refl)

-- the parts of ls, by the ends of their ranges: what an independent implementation found for these
abbrev ls_part : ℕ → ℕ → Part
ls_part first last =
    if last == 2 then record { blocks = 2130; size = 64 }
    else (if last == 7 then record { blocks = 41; size = 2048 }
    else (if last == 12 then record { blocks = 3; size = 41984 }
    else (if first == 0 then record { blocks = 2174; size = 335872 } else record { blocks = 1; size = 335872 })))

ls-rows : (cut_bytes ls_part 0 (2 ∷ 7 ∷ 12 ∷ 15 ∷ []) ≡ 682112)
    × (parts_text (parts_of ls_part 0 (2 ∷ 7 ∷ 12 ∷ 15 ∷ [])) ≡ codes "heaps: 4\nup to 64: 2130 blocks, 136320 bytes\nup to 2048: 41 blocks, 83968 bytes\nup to 41984: 3 blocks, 125952 bytes\nup to 335872: 1 blocks, 335872 bytes\nsum: 682112 bytes\ntables: 41584 bytes\n")
    × (parts_text (parts_of ls_part 0 (15 ∷ [])) ≡ codes "heaps: 1\nup to 335872: 2174 blocks, 730185728 bytes\nsum: 730185728 bytes\ntables: 36480 bytes\n")
    × (cut_cmp ls_part 0 (2 ∷ 7 ∷ 12 ∷ 15 ∷ []) (15 ∷ []) ≡ Less)
unfolding digits
ls-rows = (refl, refl, refl, refl)

-- of cuts of the same sum the one of fewer parts, and of these the one that ends lower, is less
abbrev nothing_part : ℕ → ℕ → Part
nothing_part first last = record { blocks = 0; size = 0 }

ties-rows : (cut_cmp nothing_part 0 (5 ∷ []) (2 ∷ 5 ∷ []) ≡ Less) × (cut_cmp nothing_part 0 (2 ∷ 5 ∷ []) (1 ∷ 9 ∷ []) ≡ Greater)
ties-rows = (refl, refl)

-- a part above the greatest pool, or of more blocks than there can be records, has no bytes, and then there are no sums
without-rows : (parts_text (record { blocks = 2; size = 536870912 } ∷ record { blocks = 1; size = 16 } ∷ [])
    ≡ codes "heaps: 2\nup to 536870912: 2 blocks, -\nup to 16: 1 blocks, 16 bytes\nsum: -\ntables: -\n")
    × (pool_bytes (record { blocks = 65535; size = 16 }) ≡ Some 1048560)
    × (pool_bytes (record { blocks = 65536; size = 16 }) ≡ None)
    × (parts_text [] ≡ codes "heaps: 0\nsum: 0 bytes\ntables: 0 bytes\n")
    × (no_parts_text ≡ codes "heaps: -\nsum: -\ntables: -\n")
    × (peak_line_text 425945 6385 ≡ codes "peak: 425945 bytes at line 6385\n")
unfolding digits
without-rows = (refl, refl, refl, refl, refl, refl)
