-- The definitions of sites on worked rows.
use Rattle.std.proofs.Common.{◌≡◌, ℕ, List, [], ◌∷◌, ◌++◌, Some, None, codes, refl}
use Rattle.std.specs.Fmt.{digits}
use Rattle.std.specs.declared.cmp.Ordering.TheVariants.{Less, Equal}
use Rattle.mtrace_log.specs.Bytes.{newline}
use Rattle.mtrace_replay.specs.Sites.{Site, origin_cmp, site_cmp}
use Rattle.mtrace_replay.specs.Texts.{section, peak_words, end_words, refused_line}

abbrev site : ℕ → ℕ → List ℕ → Site
site bytes blocks location = record { blocks = blocks; bytes = bytes; at = Some location }

abbrev nowhere : ℕ → ℕ → Site
nowhere bytes blocks = record { blocks = blocks; bytes = bytes; at = None }

-- most bytes first, then most blocks, then no location, then the bytes of the locations
more_bytes : site_cmp (site 320 1 (codes "b")) (site 100 9 (codes "a")) ≡ Less
unfolding origin_cmp
more_bytes = refl

more_blocks : site_cmp (site 16 2 (codes "b")) (site 16 1 (codes "a")) ≡ Less
unfolding origin_cmp
more_blocks = refl

no_location : site_cmp (nowhere 8 1) (site 8 1 (codes "a")) ≡ Less
unfolding origin_cmp
no_location = refl

a_beginning : site_cmp (site 8 1 (codes "a")) (site 8 1 (codes "ab")) ≡ Less
unfolding origin_cmp
a_beginning = refl

itself : site_cmp (site 8 1 (codes "ab")) (site 8 1 (codes "ab")) ≡ Equal
unfolding origin_cmp
itself = refl

-- sensor.log, one pool of 1024 bytes and 16 records
at_peak :
    section (peak_words 12) 3 429 (site 320 1 (codes "./sensor:[0x11dc]") ∷ site 100 1 (codes "./sensor:[0x11ff]") ∷ [])
    ≡ (codes "Held at the peak, line 12: 3 blocks, 429 bytes." ++ newline ∷ [])
    ++ (codes "320 bytes in 1 blocks at ./sensor:[0x11dc]" ++ newline ∷ [])
    ++ (codes "100 bytes in 1 blocks at ./sensor:[0x11ff]" ++ newline ∷ [])
unfolding digits
at_peak = refl

-- a block of no byte
at_end : section end_words 1 0 (nowhere 0 1 ∷ []) ≡ (codes "Held at the end: 1 blocks, 0 bytes." ++ newline ∷ []) ++ (codes "0 bytes in 1 blocks" ++ newline ∷ [])
unfolding digits
at_end = refl

-- words.log, one pool of 4096 bytes and 48 records
refused_there : refused_line 18 ≡ codes "refused: 18 lines" ++ newline ∷ []
unfolding digits
refused_there = refl

none_refused : refused_line 0 ≡ []
none_refused = refl
