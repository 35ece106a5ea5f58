-- What is read of the bytes that were written.
use Rattle.std.proofs.Common.{◌≡◌, ◌≢◌, ℕ, ◌+◌, ◌-◌, ◌%◌, ◌<◌, eqb, false, List, length, replicate, refl, ap, ◌∙◌, arith, Option, Some, None}
use Rattle.std.specs.Prelude.{slice_index, if◌then◌else◌}
use Rattle.std.proofs.lemmas.Bool.{ne_eqb, eq-eqb}
use Rattle.tlsf_class.specs.Classes.{unit, classes}
use Rattle.tlsf_store.specs.declared.records.Record.{Record}
use Rattle.tlsf_store.specs.declared.pools.Pool.{Pool}
use Rattle.tlsf_store.specs.Records.{blank, record_at}
use Rattle.tlsf_store.specs.Cells.{head_at as head_of, pool_at, most_pools}
use Rattle.tlsf_heap.specs.Images.Image.{two_at, four_at, entry_at, head_at, record_start, block_state, size_word, pool_in, head_in, record_in, Sections}
use Rattle.tlsf_store.specs.Slots.{missing, link_of}
use Rattle.tlsf_heap.specs.Images.Writing.{word_of, entry_bytes, head_bytes, block_bytes, record_bytes, image_of}
use Rattle.tlsf_heap.proofs.Images.WritingLemmas.{two_back, four_back, entry_byte, head_byte, record_byte}

-- a link that isn't the word of none
pub record IsWritten (link : Option ℕ) : Type 0 where
  pub other : link ≢ Some missing

-- no link of a record is the word of none
pub record LinksFit (r : Record) : Type 0 where
  pub prev : IsWritten r.prev
  pub next : IsWritten r.next
  pub prev_free : IsWritten r.prev_free
  pub next_free : IsWritten r.next_free

link_back : (link : Option ℕ) → IsWritten link → link_of (word_of link) ≡ link
link_back None fits = refl
link_back (Some slot) fits = ap (λ b. if b then None else Some slot) (ne_eqb slot missing (λ e. fits.other (ap Some e)))

-- bytes that stand for those of a piece
module _ (bytes piece : List ℕ) (base size : ℕ) (same : (j : ℕ) → j < size → slice_index bytes (base + j) ≡ slice_index piece j) where
  two_of : (j : ℕ) → j + 1 < size → two_at (base + j) bytes ≡ two_at j piece
  two_of j within =
      let next : base + j + 1 ≡ base + (j + 1) = omega arith in
      let second : slice_index bytes (base + j + 1) ≡ slice_index piece (j + 1) = ap (slice_index bytes) next ∙ same (j + 1) within in
      omega (arith, same j (omega (arith, within)), second)

  four_of : (j : ℕ) → j + 3 < size → four_at (base + j) bytes ≡ four_at j piece
  four_of j within =
      let next : base + j + 2 ≡ base + (j + 2) = omega arith in
      let high : two_at (base + j + 2) bytes ≡ two_at (j + 2) piece = ap (λ at. two_at at bytes) next ∙ two_of (j + 2) (omega (arith, within)) in
      omega (arith, two_of j (omega (arith, within)), high)

  four_first : 3 < size → four_at base bytes ≡ four_at 0 piece
  four_first within = let first : base ≡ base + 0 = omega arith in ap (λ at. four_at at bytes) first ∙ four_of 0 within

  two_first : 1 < size → two_at base bytes ≡ two_at 0 piece
  two_first within = let first : base ≡ base + 0 = omega arith in ap (λ at. two_at at bytes) first ∙ two_of 0 within

module _ (sections : Sections) (pools_count : length sections.pools ≡ most_pools) (heads_count : length sections.heads ≡ classes) where
  abbrev image : List ℕ
  image = image_of sections

  -- a head
  pub head_back : (class : ℕ) → class < classes → IsWritten (head_of sections.heads class) → head_in image class ≡ head_of sections.heads class
  head_back class within fits =
      let link = head_of sections.heads class in
      let word : two_at (head_at class) image ≡ word_of link =
      two_first image (head_bytes link) (head_at class) 2 (λ j below. head_byte sections pools_count heads_count class j within below) (omega arith) ∙ two_back (word_of link) in
      ap link_of word ∙ link_back link fits

  -- a pool
  pub pool_back : (number : ℕ) (pool : Pool) → number < most_pools → pool_at sections.pools number ≡ Some pool → pool_in image number ≡ pool
  pool_back number pool within is =
      let same : (j : ℕ) → j < 12 → slice_index image (entry_at number + j) ≡ slice_index (entry_bytes (Some pool)) j =
      λ j below. entry_byte sections pools_count heads_count number j within below ∙ ap (λ entry. slice_index (entry_bytes entry) j) is in
      let base : four_at (entry_at number) image ≡ pool.base = four_first image (entry_bytes (Some pool)) (entry_at number) 12 same (omega arith) ∙ four_back pool.base in
      let bytes : four_at (entry_at number + 4) image ≡ pool.bytes = four_of image (entry_bytes (Some pool)) (entry_at number) 12 same 4 (omega arith) ∙ four_back pool.bytes in
      let first : two_at (entry_at number + 8) image ≡ pool.first = two_of image (entry_bytes (Some pool)) (entry_at number) 12 same 8 (omega arith) ∙ two_back pool.first in
      λ i. record { base = base i; bytes = bytes i; first = first i }

  -- the record of a block
  module _ (slot code : ℕ) (r : Record) (within : slot < length sections.records) (is : record_bytes (record_at sections.records slot) ≡ block_bytes code r) (some : 0 < code) (low : code < unit) (whole : r.size % unit ≡ 0) where
    same : (j : ℕ) → j < 16 → slice_index image (record_start slot + j) ≡ slice_index (block_bytes code r) j
    same j below = record_byte sections pools_count heads_count slot j within below ∙ ap (λ bytes. slice_index bytes j) is

    place : four_at (record_start slot) image ≡ r.place
    place = four_first image (block_bytes code r) (record_start slot) 16 same (omega arith) ∙ four_back r.place

    word : size_word image slot ≡ r.size + code
    word = four_of image (block_bytes code r) (record_start slot) 16 same 4 (omega arith) ∙ four_back (r.size + code)

    link_at : (j : ℕ) (link : Option ℕ) → IsWritten link → j + 1 < 16 → two_at j (block_bytes code r) ≡ word_of link → link_of (two_at (record_start slot + j) image) ≡ link
    link_at j link fits below is = ap link_of (two_of image (block_bytes code r) (record_start slot) 16 same j below ∙ is) ∙ link_back link fits

    pub code_is : size_word image slot % unit ≡ code
    code_is = omega (arith, word, whole, low)

    size_is : size_word image slot - size_word image slot % unit ≡ r.size
    size_is = omega (arith, word, whole, low, code_is)

    pub block_back : LinksFit r → record_in image slot ≡ record r { state = block_state code }
    block_back links =
        let prev = link_at 8 r.prev links.prev (omega arith) (two_back (word_of r.prev)) in
        let next = link_at 10 r.next links.next (omega arith) (two_back (word_of r.next)) in
        let prev_free = link_at 12 r.prev_free links.prev_free (omega arith) (two_back (word_of r.prev_free)) in
        let next_free = link_at 14 r.next_free links.next_free (omega arith) (two_back (word_of r.next_free)) in
        let used : eqb (size_word image slot % unit) 0 ≡ false = ne_eqb (size_word image slot % unit) 0 (λ e. omega (arith, e, code_is, some)) in
        ap (λ b. if b then blank else record { place = four_at (record_start slot) image; size = size_word image slot - size_word image slot % unit; state = block_state (size_word image slot % unit); prev = link_of (two_at (record_start slot + 8) image); next = link_of (two_at (record_start slot + 10) image); prev_free = link_of (two_at (record_start slot + 12) image); next_free = link_of (two_at (record_start slot + 14) image) }) used
        ∙ (λ i. record { place = place i; size = size_is i; state = block_state (code_is i); prev = prev i; next = next i; prev_free = prev_free i; next_free = next_free i })

  -- a vacant record
  pub zero_code : (slot : ℕ) → slot < length sections.records → record_bytes (record_at sections.records slot) ≡ replicate 16 0 → size_word image slot % unit ≡ 0
  zero_code slot within is =
      let same : (j : ℕ) → j < 16 → slice_index image (record_start slot + j) ≡ slice_index (replicate 16 0) j =
      λ j below. record_byte sections pools_count heads_count slot j within below ∙ ap (λ bytes. slice_index bytes j) is in
      let word : size_word image slot ≡ 0 = four_of image (replicate 16 0) (record_start slot) 16 same 4 (omega arith) in
      omega (arith, word)

  pub vacant_back : (slot : ℕ) → slot < length sections.records → record_bytes (record_at sections.records slot) ≡ replicate 16 0 → record_in image slot ≡ blank
  vacant_back slot within is =
      let code = zero_code slot within is in
      ap (λ b. if b then blank else record { place = four_at (record_start slot) image; size = size_word image slot - size_word image slot % unit; state = block_state (size_word image slot % unit); prev = link_of (two_at (record_start slot + 8) image); next = link_of (two_at (record_start slot + 10) image); prev_free = link_of (two_at (record_start slot + 12) image); next_free = link_of (two_at (record_start slot + 14) image) }) (eq-eqb (size_word image slot % unit) 0 code)
