-- The rules at worked images.
use Rattle.std.proofs.Common.{◌≡◌, ℕ, ◌+◌, ◌*◌, ◌-◌, List, map, [], ◌∷◌, ◌++◌, refl, replicate, Option, Some, None}
use Rattle.std.specs.Prelude.{Bool, nat_lt, if◌then◌else◌, slice_set, codes, take}
use Rattle.tlsf_class.specs.Classes.{class, low}
use Rattle.tlsf_heap.specs.declared.image.rule.Rule.{Rule}
use Rattle.tlsf_heap.specs.declared.image.rule.Rule.TheVariants.{Magic, Length, Pools, UnusedPools, States, Links, Chains, Cover, OnChains, Merged, Lists, OnLists}
use Rattle.std.specs.List.{flat_map}
use Rattle.tlsf_store.specs.declared.records.State.{State}
use Rattle.tlsf_store.specs.declared.records.State.TheVariants.{Free, Live}
use Rattle.tlsf_store.specs.declared.records.Record.{Record}
use Rattle.tlsf_store.specs.Records.{blank}
use Rattle.tlsf_heap.specs.Images.Image.{Sections, sections_in}
use Rattle.tlsf_heap.specs.Images.Rules.{first_unmet, first_broken, rules, rules_of_sections}
use Rattle.tlsf_heap.specs.Images.Writing.{record_bytes, image_of}

-- all rules whose test says no
abbrev broken_of : List (Rule × Bool) → List Rule
broken_of [] = []
broken_of (rule ∷ more) = if rule.1 then broken_of more else rule.0 ∷ broken_of more

abbrev broken : List ℕ → List Rule
broken bytes = broken_of (rules bytes)

-- of the rules of the bytes themselves, and of those of what they describe
abbrev broken_in_bytes : List ℕ → List Rule
broken_in_bytes bytes = broken_of (take 5 (rules bytes))

abbrev broken_in_sections : Sections → List Rule
broken_in_sections sections = broken_of (rules_of_sections sections)

-- bytes in hexadecimal
abbrev digit : ℕ → ℕ
digit letter = if nat_lt letter 97 then letter - 48 else letter - 87

abbrev of_digits : List ℕ → List ℕ
of_digits [] = []
of_digits (letter ∷ []) = []
of_digits (first ∷ second ∷ letters) = (16 * digit first + digit second) ∷ of_digits letters

-- an image of one pool: its numbers and its entry, heads of none with one in between, and its records
abbrev image : List ℕ → List ℕ → ℕ → List ℕ → List ℕ → List ℕ
image numbers entry class first records =
    codes "TLSFIMG1" ++ (numbers ++ (entry ++ (replicate 84 0 ++ (replicate (2 * class) 255 ++ (first ++ (replicate (2 * (703 - class)) 255 ++ records))))))

-- one record and one pool of 64 bytes, all free
abbrev vector : List ℕ
vector = image (of_digits (codes "0100010000000000")) (of_digits (codes "000000004000000000000000")) 4 (of_digits (codes "0000"))
    (of_digits (codes "0000000041000000ffffffffffffffff"))

-- the vector with some bytes changed, and the rules that it breaks then
abbrev byte_rows : List (List ℕ × List Rule)
byte_rows =
    -- its first byte changed, and a byte behind its end
    (slice_set vector 0 0x55, Magic ∷ [])
    ∷ (vector ++ 0 ∷ [], Length ∷ [])
    -- a byte that is to be zero: behind the numbers, in the entry and behind it
    ∷ (slice_set vector 12 1, Length ∷ [])
    ∷ (slice_set vector 27 1, Pools ∷ [])
    ∷ (slice_set vector 28 1, UnusedPools ∷ [])
    -- a state of 3
    ∷ (slice_set vector 1524 0x43, States ∷ [])
    ∷ []

byte_rows-broken : map (λ row. broken_in_bytes row.0) byte_rows ≡ map (λ row. row.1) byte_rows
byte_rows-broken = refl

-- what the images here describe: one pool of this many bytes from 0 on, and the head of one class
abbrev sections_of : ℕ → ℕ → Option ℕ → List Record → Sections
sections_of bytes class first records = record {
  pools = Some (record { base = 0; bytes = bytes; first = 0 }) ∷ replicate 7 None;
  heads = replicate class None ++ (first ∷ replicate (703 - class) None);
  records = records;
}

-- a block that is alone in its list, if it is in one
abbrev block : ℕ → ℕ → State → Option ℕ → Option ℕ → Record
block place size state prev next = record { place = place; size = size; state = state; prev = prev; next = next; prev_free = None; next_free = None }

-- the vector's sections, and their bytes
abbrev its_sections : Sections
its_sections = sections_of 64 4 (Some 0) (block 0 64 Free None None ∷ [])

written : image_of its_sections ≡ vector
written = refl

read : sections_in vector ≡ its_sections
read = refl

vector_holds : first_broken vector ≡ None
unfolding class low
vector_holds = refl

-- sections, and the rules that they break
abbrev section_rows : List (Sections × List Rule)
section_rows =
    -- the head of none; a head of no record; the list of another class
    (sections_of 64 4 None (block 0 64 Free None None ∷ []), OnLists ∷ [])
    ∷ (sections_of 64 4 (Some 1) (block 0 64 Free None None ∷ []), Links ∷ Lists ∷ OnLists ∷ [])
    ∷ (sections_of 64 5 (Some 0) (block 0 64 Free None None ∷ []), Lists ∷ [])
    -- a link back to itself; another place
    ∷ (sections_of 64 4 (Some 0) (block 0 64 Free (Some 0) None ∷ []), Chains ∷ [])
    ∷ (sections_of 64 4 (Some 0) (block 16 64 Free None None ∷ []), Cover ∷ [])
    -- rules of both are broken
    ∷ (sections_of 64 4 (Some 65280) (block 16 64 Free None None ∷ []), Links ∷ Cover ∷ Lists ∷ OnLists ∷ [])
    -- a block of no chain
    ∷ (sections_of 64 4 (Some 0) (block 0 64 Free None None ∷ block 0 16 Live None None ∷ []), OnChains ∷ [])
    ∷ []

section_rows-broken : map (λ row. broken_in_sections row.0) section_rows ≡ map (λ row. row.1) section_rows
unfolding class low
section_rows-broken = refl

-- a ring; of two that are broken the one that stands first is named
first_named : map (λ sections. first_unmet (rules_of_sections sections)) (sections_of 64 4 (Some 0) (block 0 64 Free None (Some 0) ∷ []) ∷ sections_of 64 4 (Some 65280) (block 16 64 Free None None ∷ []) ∷ []) ≡ Some Chains ∷ Some Links ∷ []
unfolding class low
first_named = refl

-- free-neighbours: two free blocks of 32 bytes side by side
free_neighbours : broken (image (of_digits (codes "0200010000000000")) (of_digits (codes "000000004000000000000000")) 2 (of_digits (codes "0000"))
    (of_digits (codes "0000000021000000ffff0100ffff010020000000210000000000ffff0000ffff"))) ≡ Merged ∷ []
unfolding class low
free_neighbours = refl

-- detached-ring: two free blocks name one another, and no head names them
detached_ring : broken (image (of_digits (codes "0400010000000000")) (of_digits (codes "000000008000000000000000")) 0 (of_digits (codes "ffff"))
    (of_digits (codes "0000000021000000ffff010002000200200000002200000000000200ffffffff4000000021000000010003000000000060000000220000000200ffffffffffff"))) ≡ OnLists ∷ []
unfolding class low
detached_ring = refl

-- loaded-pointers: a live block of 16 bytes and a free one of 48, of two records
a_live_block : first_broken (image (of_digits (codes "0200010000000000")) (of_digits (codes "000000004000000000000000")) 3 (of_digits (codes "0100"))
    (of_digits (codes "0000000012000000ffff0100ffffffff10000000310000000000ffffffffffff"))) ≡ None
unfolding class low
a_live_block = refl

-- a vacant record, and a live one with links
written_records : flat_map record_bytes (blank ∷ record { place = 0x12345670; size = 48; state = Live; prev = Some 1; next = Some 515; prev_free = None; next_free = None } ∷ [])
    ≡ replicate 16 0 ++ of_digits (codes "705634123200000001000302ffffffff")
written_records = refl
