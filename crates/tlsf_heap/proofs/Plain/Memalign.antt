-- What the plain heap's memalign leaves.
use Rattle.std.proofs.Common.{◌≡◌, ℕ, ◌+◌, ◌-◌, ◌%◌, ◌<◌, ◌≤◌, Bool, true, false, cond, ◌++◌, [], ◌∷◌, map, refl, sym, ap, ◌∙◌, subst, arith, Option, Some, None, count_by, Result, Ok, Err}
use Rattle.std.specs.Prelude.{◌==◌, nat_lt}
use Rattle.std.specs.Int.{next_multiple_of}
use Rattle.std.proofs.lemmas.Bool.{ltb-false}
use Rattle.tlsf_class.specs.Classes.{unit}
use Rattle.tlsf_heap.specs.declared.refusal.Refusal.TheVariants.{TableFull}
use Rattle.tlsf_heap.specs.Content.{Block, Content, blocks_of, is_free, size_at, used_records, IsSize}
use Rattle.tlsf_heap.specs.Lists.{link, unlink, pick}
use Rattle.tlsf_heap.specs.Malloc.{replaced_in}
use Rattle.tlsf_heap.specs.Memalign.{is_alignment, size_asked, aligned, if_recorded, memalign_picked, memalign_rounded}
use Rattle.tlsf_heap.specs.Free.{free_block}
use Rattle.tlsf_heap.specs.Pools.{end_of_places}
use Rattle.tlsf_heap.specs.PlainHeap.{IsPlain, gap_block, link_block, blocks_among}
use Rattle.tlsf_heap.specs.GoodSlots.{slot_times}
use Rattle.tlsf_heap.proofs.Content.MemalignCases.{few_gap, used_aligned}
use Rattle.tlsf_heap.proofs.Good.Slots.{aligned_slots}
use Rattle.tlsf_heap.proofs.Good.SlotsLeft.{free_found}
use Rattle.tlsf_heap.proofs.Meaning.AlignedIsGood.{CanSplitAligned, can_split_aligned}
use Rattle.tlsf_heap.proofs.Meaning.SplitInThree.{aligned_is_good}

-- what the code has to know of the block that it splits
pub record IsSplitAligned (align asked place start size : ℕ) (content : Content ℕ) : Type 0 where
  pub picked : pick (size_asked align asked) content.lists ≡ Some place
  pub can_split : CanSplitAligned align asked place content
  pub start_is : start ≡ next_multiple_of place align
  pub size_is : size ≡ size_at place (blocks_of content.pools)
  pub begins : place ≤ start
  pub below : start < 4294967296
  pub asked_size : IsSize asked
  pub whole_size : IsSize size
  pub front_size : 0 < start - place → IsSize (start - place)
  pub front_fits : start - place ≤ size
  pub asked_fits : asked ≤ size - (start - place)
  pub rest_size : 0 < (size - (start - place)) - asked → IsSize ((size - (start - place)) - asked)
  pub ends : (start + asked) + ((size - (start - place)) - asked) ≤ end_of_places
  pub some_free : 1 ≤ count_by is_free (blocks_of content.pools)

pub is_split_aligned : {align asked place start size bytes : ℕ} {content : Content ℕ} {pick_gave : Option ℕ} → IsPlain content → is_alignment align ≡ true → asked % unit ≡ 0 → 0 < asked → bytes ≡ size_asked align asked
    → pick_gave ≡ pick bytes content.lists → pick_gave ≡ Some place → size ≡ size_at place (blocks_of content.pools) → start ≡ next_multiple_of place align → IsSplitAligned align asked place start size content
is_split_aligned {align} {asked} {place} {start} {size} {bytes} {content} {pick_gave} plain is whole some bytes_is picks gave size_is start_is =
    let found : pick (size_asked align asked) content.lists ≡ Some place = ap (λ n. pick n content.lists) (sym bytes_is) ∙ sym picks ∙ gave in
    let at = can_split_aligned align asked place content plain.good is found in
    let block = at.picked.whole in
    let here : at.picked.found.block.size ≡ size = at.picked.size_is ∙ sym size_is in
    let size_whole : size % unit ≡ 0 = ap (λ n. n % unit) (sym here) ∙ block.in_units in
    let front_whole : (start - place) % unit ≡ 0 = ap (λ s. (s - place) % unit) start_is ∙ at.start.gap_whole in
    let fits : (start - place) + asked ≤ size = omega (arith, at.fits, start_is, size_is) in
    let begins : place ≤ start = omega (arith, at.start.begins, start_is) in
    record {
      picked = found;
      can_split = at;
      start_is = start_is;
      size_is = size_is;
      begins = begins;
      below = omega (arith, begins, fits, some, block.ends, here, at.picked.found.here);
      asked_size = record { positive = some; in_units = whole; at_most = omega (arith, fits, block.at_most, here) };
      whole_size = record { positive = omega (arith, block.positive, here); in_units = size_whole; at_most = omega (arith, block.at_most, here) };
      front_size = (λ left. record { positive = left; in_units = front_whole; at_most = omega (arith, fits, block.at_most, here) });
      front_fits = omega (arith, fits);
      asked_fits = omega (arith, fits);
      rest_size = (λ left. record { positive = left; in_units = omega (arith, size_whole, front_whole, whole, fits); at_most = omega (arith, block.at_most, here) });
      ends = omega (arith, begins, fits, block.ends, here, at.picked.found.here);
      some_free = free_found place _ at.picked.found at.picked.free;
    }

module _ {align asked place start size : ℕ} {content : Content ℕ} (by : IsSplitAligned align asked place start size content) where
  -- two blocks more, at most
  pub used_few : (slot : ℕ) → used_records (aligned slot start asked place size content) ≤ used_records content + 2
  used_few slot = omega (arith, used_aligned slot start asked place size content by.can_split.picked.found, few_gap (start - place), few_gap ((size - (start - place)) - asked))

  used_same : (slot other : ℕ) → used_records (aligned slot start asked place size content) ≡ used_records (aligned other start asked place size content)
  used_same slot other = used_aligned slot start asked place size content by.can_split.picked.found ∙ sym (used_aligned other start asked place size content by.can_split.picked.found)

  picked_is : (slot : ℕ) → memalign_rounded slot align (Some asked) content ≡ if_recorded start (aligned slot start asked place size content)
  picked_is slot =
      ap (λ p. memalign_picked slot align asked p content) by.picked
      ∙ ap (λ n. if_recorded (next_multiple_of place align) (aligned slot (next_multiple_of place align) asked place n content)) (sym by.size_is)
      ∙ ap (λ s. if_recorded s (aligned slot s asked place size content)) (sym by.start_is)

  -- whether it would be too many blocks
  pub split_aligned_or_full : (slot : ℕ) (full : _) → full ≡ nat_lt content.records (used_records (aligned slot start asked place size content)) → (other : ℕ)
      → memalign_rounded other align (Some asked) content ≡ cond {A = Result (ℕ × Content ℕ) _} full (Err TableFull) (Ok (start, aligned other start asked place size content))
  split_aligned_or_full slot full is other =
      picked_is other ∙ ap (λ b. cond b (Err TableFull) (Ok (start, aligned other start asked place size content))) (ap (nat_lt content.records) (used_same other slot) ∙ sym is)

  pub split_aligned_is_plain : (slot : ℕ) → IsPlain content → 0 < asked → asked % unit ≡ 0 → nat_lt content.records (used_records (aligned slot start asked place size content)) ≡ false → slot < content.records
      → slot_times slot (blocks_of content.pools) ≡ 0 → IsPlain (aligned slot start asked place size content)
  split_aligned_is_plain slot plain some whole room below new =
      let of : ℕ → ℕ → Content ℕ = λ s n. aligned slot s asked place n content in
      let same : of (next_multiple_of place align) (size_at place (blocks_of content.pools)) ≡ of start size = ap (of (next_multiple_of place align)) (sym by.size_is) ∙ ap (λ s. of s size) (sym by.start_is) in
      let P : Content ℕ → Type 0 = λ x. used_records x ≤ content.records → IsPlain x in
      subst P same (λ few. record {
        good = aligned_is_good slot (next_multiple_of place align) asked place content plain.good by.can_split.picked.once by.can_split.start.begins by.can_split.fits some whole by.can_split.start.gap_whole few;
        slots = aligned_slots slot (size_asked align asked) place content plain.good by.picked (next_multiple_of place align) asked plain.slots below new;
        records_few = plain.records_few;
      }) (ltb-false _ _ room)

-- the steps of the code are those of the definition
pub aligned_by : (slot place start asked size : ℕ) (front rest : Option (Block ℕ)) (content copy out first second after : Content ℕ)
    → copy ≡ content
    → out ≡ record copy { lists = unlink place size copy.lists }
    → first ≡ record out { lists = link_block front out.lists }
    → second ≡ record first { lists = link_block rest first.lists }
    → after ≡ record second { pools = map (replaced_in place (blocks_among (front ∷ Some (record { place = start; size = asked; owner = Some slot }) ∷ rest ∷ []))) second.pools }
    → front ≡ gap_block place (start - place)
    → rest ≡ gap_block (start + asked) ((size - (start - place)) - asked)
    → after ≡ aligned slot start asked place size content
aligned_by slot place start asked size front rest content copy out first second after a b c d e front_is rest_is =
    let live : Block ℕ = record { place = start; size = asked; owner = Some slot } in
    let of : Option (Block ℕ) → Option (Block ℕ) → Content ℕ → Content ℕ = λ f r x. record x { pools = map (replaced_in place (blocks_among (f ∷ Some live ∷ r ∷ []))) x.pools; lists = link_block r (link_block f x.lists) } in
    let left : Content ℕ = record content { lists = unlink place size content.lists } in
    let g : ℕ = start - place in
    let o : ℕ = (size - g) - asked in
    let gap_front : Block ℕ = free_block place g in
    let gap_rest : Block ℕ = free_block (start + asked) o in
    let IsSame : Bool → Bool → Type 0 = λ t u. of (cond t None (Some gap_front)) (cond u None (Some gap_rest)) left ≡ record left {
      pools = map (replaced_in place (cond t [] (gap_front ∷ []) ++ (live ∷ cond u [] (gap_rest ∷ [])))) content.pools;
      lists = cond u (cond t left.lists (link place g left.lists)) (link (start + asked) o (cond t left.lists (link place g left.lists)));
    } in
    e
    ∙ ap (λ (x : Content ℕ). record x { pools = map (replaced_in place (blocks_among (front ∷ Some live ∷ rest ∷ []))) x.pools }) d
    ∙ ap (λ (x : Content ℕ). record x { pools = map (replaced_in place (blocks_among (front ∷ Some live ∷ rest ∷ []))) x.pools; lists = link_block rest x.lists }) c
    ∙ ap (of front rest) (b ∙ ap (λ (x : Content ℕ). record x { lists = unlink place size x.lists }) a)
    ∙ ap (λ f. of f rest left) front_is
    ∙ ap (λ r. of (gap_block place g) r left) rest_is
    ∙ elim (g == 0) as (λ t. IsSame t (o == 0)) [
      | true ↦ elim (o == 0) as (λ u. IsSame true u) [ true ↦ refl | false ↦ refl ]
      | false ↦ elim (o == 0) as (λ u. IsSame false u) [ true ↦ refl | false ↦ refl ]
    ]
