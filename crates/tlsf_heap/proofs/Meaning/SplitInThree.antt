-- To split a free block keeps a content good: with a gap in front for memalign, with none for malloc.
use Rattle.std.proofs.Common.{◌≡◌, ℕ, ◌+◌, ◌-◌, ◌%◌, ◌<◌, ◌≤◌, Bool, true, false, cond, ◌&&◌, List, [], ◌∷◌, ◌++◌, length, map, refl, sym, ap, ◌∙◌, subst, arith, count_by, append_assoc, IsTrue, not, None}
use Rattle.std.specs.Prelude.{◌==◌}
use Rattle.std.proofs.lemmas.Bool.{eqb-true, and_parts}
use Rattle.tlsf_class.specs.Classes.{unit, classes, class}
use Rattle.tlsf_class.proofs.ClassLaws.{class-lt}
use Rattle.tlsf_heap.specs.Content.{Block, Pool, Content, blocks_of, is_free, size_at, used_records}
use Rattle.tlsf_heap.specs.Lists.{list_of, unlink}
use Rattle.tlsf_heap.specs.Malloc.{gap, link_gap, split, replaced_in, allocated}
use Rattle.tlsf_heap.specs.Memalign.{split_in_three, aligned}
use Rattle.tlsf_heap.specs.Good.{Covers, NoFreeNeighbours, times, is_listed, IsGood}
use Rattle.tlsf_heap.proofs.Content.FreeLists.{times-unlink, times-link_gap, length-unlink, length-link_gap, count_listed-gap, count_listed-split, found_stands}
use Rattle.tlsf_heap.proofs.Counts.{count-cons, count-append}
use Rattle.std.proofs.Math.Nat.{sub-zero}
use Rattle.tlsf_heap.proofs.Meaning.BlockPositions.{BlockPosition, filled_pools, LocatedBlock, located_block, IsAlone, block_alone, replaced_at, size_here}
use Rattle.tlsf_heap.proofs.Meaning.Gaps.{covers_gap, covers_split, apart_split}
use Rattle.tlsf_heap.proofs.Meaning.FreeFirst.{is_first_free, begins_once}
use Rattle.tlsf_heap.proofs.Meaning.Refilled.{IsRefill, refilled_is_good}

module _ {A : Type 0} where
  -- the block to split in three, and where it can be
  pub record IsSplittable (start m : ℕ) (block : Block A) : Type 0 where
    pub free : is_free block ≡ true
    pub begins : block.place ≤ start
    pub fits : (start - block.place) + m ≤ block.size
    pub some : 0 < m
    pub whole : m % unit ≡ 0
    pub front_whole : (start - block.place) % unit ≡ 0

  module _ (owner : A) (start m : ℕ) (block : Block A) (blocks : List (Block A)) (lists : List (List ℕ)) (can : IsSplittable start m block) where
    abbrev front : ℕ
    front = start - block.place

    abbrev rest : ℕ
    rest = (block.size - front) - m

    abbrev news : List (Block A)
    news = split_in_three owner start m block.place block.size ++ blocks

    abbrev new_lists : List (List ℕ)
    new_lists = link_gap (start + m) rest (link_gap block.place front (unlink block.place block.size lists))

    covers : (from to : ℕ) → Covers from to (block ∷ blocks) → Covers from to news
    covers from to c =
        let live : List (Block A) = split owner start m (block.size - front) in
        let P : ℕ → Type 0 = λ place. Covers from to ((gap place front ++ live) ++ blocks) in
        let Q : List (Block A) → Type 0 = λ bs. Covers from to bs in
        let R : ℕ → Type 0 = λ n. Covers n to blocks in
        let ends : from + block.size ≡ from + front + (block.size - front) = omega (arith, can.fits) in
        let begins : start ≡ from + front = omega (arith, can.begins, c.0) in
        let left_whole : (block.size - front) % unit ≡ 0 = omega (arith, c.2, can.front_whole, can.fits) in
        subst P (sym c.0)
        (subst Q (sym (append_assoc (gap from front) live blocks))
        (covers_gap from to front (live ++ blocks) can.front_whole (covers_split owner (from + front) to start m (block.size - front) blocks begins can.some can.whole (omega (arith, can.fits)) left_whole (subst R ends c.3))))

    apart : (was : Bool) → NoFreeNeighbours was (block ∷ blocks) → NoFreeNeighbours was news
    apart was n =
        let live : List (Block A) = split owner start m (block.size - front) in
        let P : List (Block A) → Type 0 = λ bs. NoFreeNeighbours was bs in
        let Q : Bool → Type 0 = λ f. IsTrue (not (was && f)) × NoFreeNeighbours f blocks in
        let free : IsTrue (not (was && true)) × NoFreeNeighbours true blocks = subst Q can.free n in
        let R : Bool → Type 0 = λ b. NoFreeNeighbours was (cond b [] (record { place = block.place; size = front; owner = None } ∷ []) ++ (live ++ blocks)) in
        subst P (sym (append_assoc (gap block.place front) live blocks))
        (elim (front == 0) as R [
          | true ↦ apart_split owner start m (block.size - front) was blocks free.1
          | false ↦ (free.0, apart_split owner start m (block.size - front) true blocks free.1)
        ])

    listed : times block.place (list_of (class block.size) lists) ≡ 1 → length lists ≡ classes → (q p : ℕ)
        → times p (list_of q new_lists) + count_by (is_listed q p) (block ∷ blocks) ≡ times p (list_of q lists) + count_by (is_listed q p) news
    listed once full q p =
        let kind : Block A → Bool = is_listed q p in
        let out : List (List ℕ) = unlink block.place block.size lists in
        let out_full = length-unlink lists full block.place block.size in
        let with_front : List (List ℕ) = link_gap block.place front out in
        let front_full = length-link_gap out out_full block.place front in
        omega (
          arith,
          times-unlink lists full q p block.place block.size once,
          times-link_gap out out_full q p block.place front,
          times-link_gap with_front front_full q p (start + m) rest,
          count-cons kind block blocks,
          found_stands q p block.place block.size block can.free refl refl,
          count-append kind (split_in_three owner start m block.place block.size) blocks,
          count-append kind (gap block.place front) (split owner start m (block.size - front)),
          count_listed-gap A q p block.place front,
          count_listed-split owner q p start m (block.size - front),
        )

    refill : times block.place (list_of (class block.size) lists) ≡ 1 → length lists ≡ classes → (before : List (Block A)) → IsRefill before (block ∷ blocks) news lists new_lists
    refill once full before = record {
      covers = covers;
      apart = apart (is_first_free before);
      full = (let out_full = length-unlink lists full block.place block.size in
          length-link_gap (link_gap block.place front (unlink block.place block.size lists)) (length-link_gap (unlink block.place block.size lists) out_full block.place front) (start + m) rest);
      listed = (λ q p within. listed once full q p);
    }

    -- at a position
    pub split_in_three_at : (records : ℕ) (position : BlockPosition A) → IsGood (record { records = records; pools = filled_pools position (block ∷ blocks); lists = lists }) → times block.place (list_of (class block.size) lists) ≡ 1
        → used_records (aligned owner start m block.place block.size (record { records = records; pools = filled_pools position (block ∷ blocks); lists = lists })) ≤ records
        → IsGood (aligned owner start m block.place block.size (record { records = records; pools = filled_pools position (block ∷ blocks); lists = lists }))
    split_in_three_at records position good once few =
        let places = begins_once (record { records = records; pools = filled_pools position (block ∷ blocks); lists = lists }) good in
        let alone : IsAlone position block blocks = block_alone position block blocks places in
        let is = replaced_at position block blocks alone (split_in_three owner start m block.place block.size) in
        let P : List (Pool A) → Type 0 = λ pools. IsGood (record { records = records; pools = pools; lists = new_lists }) in
        let fits : length (blocks_of (filled_pools position news)) ≤ records = omega (arith, few, ap (λ pools. length (blocks_of pools)) is) in
        subst P (sym is) (refilled_is_good records position (block ∷ blocks) news lists new_lists (refill once good.lists_count position.before) fits good)

  -- to split a listed block in three keeps the content good
  pub aligned_is_good : (owner : A) (start m place : ℕ) (content : Content A) → IsGood content → times place (list_of (class (size_at place (blocks_of content.pools))) content.lists) ≡ 1
      → place ≤ start → (start - place) + m ≤ size_at place (blocks_of content.pools) → 0 < m → m % unit ≡ 0 → (start - place) % unit ≡ 0
      → used_records (aligned owner start m place (size_at place (blocks_of content.pools)) content) ≤ content.records
      → IsGood (aligned owner start m place (size_at place (blocks_of content.pools)) content)
  aligned_is_good owner start m place content good once begins fits some whole front_whole few =
      let size : ℕ = size_at place (blocks_of content.pools) in
      let test : Block A → Bool = is_listed (class size) place in
      let counted : 1 ≤ count_by test (blocks_of content.pools) = omega (arith, once, good.listed (class size) place (class-lt size)) in
      let at : LocatedBlock test content.pools = located_block test content.pools counted in
      let parts = and_parts _ _ at.passes in
      let here : at.block.place ≡ place = eqb-true at.block.place place (and_parts _ _ parts.1).0 in
      let P : List (Pool A) → Type 0 = λ pools. IsGood (record content { pools = pools }) in
      let moved : P (filled_pools at.position (at.block ∷ at.blocks)) = subst P at.whole good in
      let places = begins_once (record content { pools = filled_pools at.position (at.block ∷ at.blocks) }) moved in
      let alone : IsAlone at.position at.block at.blocks = block_alone at.position at.block at.blocks places in
      let sized : at.block.size ≡ size = sym (ap (λ pools. size_at place (blocks_of pools)) at.whole ∙ ap (λ p. size_at p (blocks_of (filled_pools at.position (at.block ∷ at.blocks)))) (sym here) ∙ size_here at.position at.block at.blocks alone) in
      let can : IsSplittable start m at.block = record {
        free = parts.0;
        begins = omega (arith, here, begins);
        fits = omega (arith, here, fits, sized);
        some = some;
        whole = whole;
        front_whole = ap (λ p. (start - p) % unit) here ∙ front_whole;
      } in
      let once_there : times at.block.place (list_of (class at.block.size) content.lists) ≡ 1 = ap (λ p. times p (list_of (class at.block.size) content.lists)) here ∙ ap (λ n. times place (list_of (class n) content.lists)) sized ∙ once in
      let of : ℕ → ℕ → List (Pool A) → Content A = λ p n pools. aligned owner start m p n (record content { pools = pools }) in
      let same : of at.block.place at.block.size (filled_pools at.position (at.block ∷ at.blocks)) ≡ of place size content.pools =
      ap (λ p. of p at.block.size (filled_pools at.position (at.block ∷ at.blocks))) here ∙ ap (λ n. of place n (filled_pools at.position (at.block ∷ at.blocks))) sized ∙ ap (of place size) (sym at.whole) in
      let Q : Content A → Type 0 = λ x. IsGood x in
      subst Q same (split_in_three_at owner start m at.block at.blocks content.lists can content.records at.position moved once_there (omega (arith, few, ap used_records same)))

  -- at its own place it is split as malloc splits it
  pub aligned_here : (owner : A) (m place size : ℕ) (content : Content A) → aligned owner place m place size content ≡ allocated owner place m size content
  aligned_here owner m place size content =
      let none : place - place ≡ 0 = omega arith in
      let of : ℕ → ℕ → Content A = λ front bytes. record content {
        pools = map (replaced_in place (gap place front ++ split owner place m bytes)) content.pools;
        lists = link_gap (place + m) (bytes - m) (link_gap place front (unlink place size content.lists));
      } in
      ap (λ front. of front (size - front)) none ∙ ap (of 0) (sub-zero size)
