-- What stands where in the bytes of an image of sections.
use Rattle.std.proofs.Common.{◌≡◌, ℕ, zero, suc, ◌+◌, ◌*◌, ◌/◌, ◌%◌, ◌<◌, List, [], ◌∷◌, ◌++◌, length, refl, sym, ap, ◌∙◌, arith, get_or, Option, Some, None}
use Rattle.std.specs.Prelude.{slice_index}
use Rattle.std.specs.List.{flat_map}
use Rattle.std.proofs.lemmas.List.{get_or_append_left, get_or-append-add, append_assoc, length-append, append-nil}
use Rattle.tlsf_class.specs.Classes.{classes}
use Rattle.tlsf_store.specs.declared.records.State.{State}
use Rattle.tlsf_store.specs.declared.records.State.TheVariants.{Vacant, Free, Live}
use Rattle.tlsf_store.specs.declared.records.Record.{Record}
use Rattle.tlsf_store.specs.declared.pools.Pool.{Pool}
use Rattle.tlsf_store.specs.Records.{blank, record_at}
use Rattle.tlsf_store.specs.Cells.{head_at as head_of, pool_at, most_pools}
use Rattle.tlsf_heap.specs.Images.Image.{entry_at, head_at, record_start, Sections}
use Rattle.tlsf_heap.specs.Images.Writing.{entry_bytes, head_bytes, bytes_in, record_bytes, header_bytes, image_of}

-- pieces of one length
module _ {X : Type 0} (f : X → List ℕ) (size : ℕ) (sized : (x : X) → length (f x) ≡ size) where
  pub pieces_length : (xs : List X) → length (flat_map f xs) ≡ length xs * size
  pieces_length [] = omega arith
  pieces_length (x ∷ xs) = grind (arith, length-append (f x) (flat_map f xs), sized x, pieces_length xs)

  -- a byte of a piece, whatever stands behind the pieces
  pub piece_at : (xs : List X) (d : X) (rest : List ℕ) (k j : ℕ) → k < length xs → j < size → slice_index (flat_map f xs ++ rest) (k * size + j) ≡ slice_index (f (get_or xs k d)) j
  piece_at [] d rest k j within below = absurd (omega (arith, within))
  piece_at (x ∷ xs) d rest zero j within below =
      let first : zero * size + j ≡ j = omega arith in
      ap (slice_index (flat_map f (x ∷ xs) ++ rest)) first
      ∙ ap (λ bytes. slice_index bytes j) (append_assoc (f x) (flat_map f xs) rest)
      ∙ get_or_append_left (f x) (flat_map f xs ++ rest) 0 j (omega (arith, below, sized x))
  piece_at (x ∷ xs) d rest (suc k) j within below =
      let later : suc k * size + j ≡ length (f x) + (k * size + j) = grind (arith, sized x) in
      ap (slice_index (flat_map f (x ∷ xs) ++ rest)) later
      ∙ ap (λ bytes. slice_index bytes (length (f x) + (k * size + j))) (append_assoc (f x) (flat_map f xs) rest)
      ∙ get_or-append-add (f x) (flat_map f xs ++ rest) (k * size + j) 0
      ∙ piece_at xs d rest k j (omega (arith, within)) below

-- the number of two bytes, and of four
pub two_back : (n : ℕ) → n % 256 + 256 * (n / 256) ≡ n
two_back n = omega arith

pub four_back : (n : ℕ) → (n % 65536) % 256 + 256 * ((n % 65536) / 256) + 65536 * ((n / 65536) % 256 + 256 * ((n / 65536) / 256)) ≡ n
four_back n = omega arith

entry_size : (entry : Option Pool) → length (entry_bytes entry) ≡ 12
entry_size None = refl
entry_size (Some pool) = refl

head_size : (head : Option ℕ) → length (head_bytes head) ≡ 2
head_size head = refl

size_in : (state : State) (r : Record) → length (bytes_in state r) ≡ 16
size_in Vacant r = refl
size_in Free r = refl
size_in Live r = refl

record_size : (r : Record) → length (record_bytes r) ≡ 16
record_size r = size_in r.state r

-- what stands behind a beginning of this many bytes
behind : (front rest : List ℕ) (size at i : ℕ) → length front ≡ size → size + i ≡ at → slice_index (front ++ rest) at ≡ slice_index rest i
behind front rest size at i long is =
    let there : at ≡ length front + i = omega (arith, long, is) in
    ap (slice_index (front ++ rest)) there ∙ get_or-append-add front rest i 0

module _ (sections : Sections) (pools_count : length sections.pools ≡ most_pools) (heads_count : length sections.heads ≡ classes) where
  abbrev image : List ℕ
  image = image_of sections

  abbrev records_section : List ℕ
  records_section = flat_map record_bytes sections.records

  abbrev heads_section : List ℕ
  heads_section = flat_map head_bytes sections.heads

  abbrev entries_section : List ℕ
  entries_section = flat_map entry_bytes sections.pools

  entries_long : length entries_section ≡ 96
  entries_long = omega (arith, pieces_length entry_bytes 12 entry_size sections.pools, pools_count)

  heads_long : length heads_section ≡ 1408
  heads_long = omega (arith, pieces_length head_bytes 2 head_size sections.heads, heads_count)

  pub image_long : length image ≡ record_start (length sections.records)
  image_long = omega (
    arith,
    length-append entries_section (heads_section ++ records_section),
    length-append heads_section records_section,
    entries_long,
    heads_long,
    pieces_length record_bytes 16 record_size sections.records,
  )

  -- a byte of an entry, a head, a record
  pub entry_byte : (number j : ℕ) → number < most_pools → j < 12 → slice_index image (entry_at number + j) ≡ slice_index (entry_bytes (pool_at sections.pools number)) j
  entry_byte number j within below =
      behind (header_bytes sections) (entries_section ++ (heads_section ++ records_section)) 16 (entry_at number + j) (number * 12 + j) refl (omega arith)
      ∙ piece_at entry_bytes 12 entry_size sections.pools None (heads_section ++ records_section) number j (omega (arith, within, pools_count)) below

  pub head_byte : (class j : ℕ) → class < classes → j < 2 → slice_index image (head_at class + j) ≡ slice_index (head_bytes (head_of sections.heads class)) j
  head_byte class j within below =
      behind (header_bytes sections) (entries_section ++ (heads_section ++ records_section)) 16 (head_at class + j) (96 + (class * 2 + j)) refl (omega arith)
      ∙ behind entries_section (heads_section ++ records_section) 96 (96 + (class * 2 + j)) (class * 2 + j) entries_long refl
      ∙ piece_at head_bytes 2 head_size sections.heads None records_section class j (omega (arith, within, heads_count)) below

  pub record_byte : (slot j : ℕ) → slot < length sections.records → j < 16 → slice_index image (record_start slot + j) ≡ slice_index (record_bytes (record_at sections.records slot)) j
  record_byte slot j within below =
      behind (header_bytes sections) (entries_section ++ (heads_section ++ records_section)) 16 (record_start slot + j) (96 + (1408 + (slot * 16 + j))) refl (omega arith)
      ∙ behind entries_section (heads_section ++ records_section) 96 (96 + (1408 + (slot * 16 + j))) (1408 + (slot * 16 + j)) entries_long refl
      ∙ behind heads_section records_section 1408 (1408 + (slot * 16 + j)) (slot * 16 + j) heads_long refl
      ∙ ap (λ bytes. slice_index bytes (slot * 16 + j)) (sym (append-nil records_section))
      ∙ piece_at record_bytes 16 record_size sections.records blank [] slot j within below
