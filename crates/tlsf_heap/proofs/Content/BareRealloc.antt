-- realloc does the same to a content, whatever its live blocks are known by.
use Rattle.std.proofs.Common.{◌≡◌, ℕ, ◌+◌, ◌-◌, Bool, cond, not, List, map, refl, sym, ap, ◌∙◌, Option, Some, None, option_map, Result, Ok, Err}
use Rattle.std.specs.Prelude.{is_some, nat_lt, nat_le, ◌==◌, ◌||◌}
use Rattle.tlsf_class.specs.Rounding.{round}
use Rattle.tlsf_heap.specs.declared.refusal.Refusal.{Refusal}
use Rattle.tlsf_heap.specs.declared.refusal.Refusal.TheVariants.{BadPointer}
use Rattle.tlsf_heap.specs.Content.{Block, Content, blocks_of, size_at, used_records}
use Rattle.tlsf_heap.specs.Malloc.{link_gap, replaced_in, split, malloc_rounded}
use Rattle.tlsf_heap.specs.Free.{is_live, free_next, unlink_block, without_block, size_of, after_free}
use Rattle.tlsf_heap.specs.Realloc.{size_with_next, resized, fits_in_place, moved, realloc_sized, realloc_rounded, realloc}
use Rattle.tlsf_heap.specs.Bare.{renamed_block, renamed_pool, renamed, renamed_given, renamed_moved}
use Rattle.tlsf_heap.proofs.Content.BareSteps.{ap-cond, size_at-renamed, used_records-renamed, split-renamed, replaced_in-renamed, malloc_rounded-renamed}
use Rattle.tlsf_heap.proofs.Content.BareFree.{free_next-renamed, without_block-renamed, size_of-renamed, after_free-renamed}

module _ {A B : Type 0} (rename : A → B) where
  is_some-renamed : (block : Option (Block A)) → is_some (option_map (renamed_block rename) block) ≡ is_some block
  is_some-renamed None = refl
  is_some-renamed (Some block) = refl

  unlink_block-renamed : (block : Option (Block A)) (lists : List (List ℕ)) → unlink_block (option_map (renamed_block rename) block) lists ≡ unlink_block block lists
  unlink_block-renamed None lists = refl
  unlink_block-renamed (Some block) lists = refl

  size_with_next-renamed : (place : ℕ) (content : Content A) → size_with_next place (renamed rename content) ≡ size_with_next place content
  size_with_next-renamed place content =
      let size = size_at place (blocks_of content.pools) in
      ap (λ s. s + size_of (free_next place (renamed rename content))) (size_at-renamed rename place content.pools)
      ∙ ap (λ next. size + size_of next) (free_next-renamed rename place content)
      ∙ ap (λ s. size + s) (size_of-renamed rename (free_next place content))

  resized-renamed : (owner : A) (place m : ℕ) (content : Content A) → resized (rename owner) place m (renamed rename content) ≡ renamed rename (resized owner place m content)
  resized-renamed owner place m content =
      let next = free_next place content in
      let size = size_with_next place content in
      let lists_of : List (List ℕ) → List (List ℕ) = λ left. link_gap (place + m) (size - m) left in
      let of : Option (Block B) → ℕ → Content B = λ next size. record {
        records = content.records;
        pools = map (replaced_in place (split (rename owner) place m size)) (without_block next (map (renamed_pool rename) content.pools));
        lists = link_gap (place + m) (size - m) (unlink_block next content.lists);
      } in
      ap (of (free_next place (renamed rename content))) (size_with_next-renamed place content)
      ∙ ap (λ other. of other size) (free_next-renamed rename place content)
      ∙ ap (λ pools. record { records = content.records; pools = map (replaced_in place (split (rename owner) place m size)) pools; lists = lists_of (unlink_block (option_map (renamed_block rename) next) content.lists) })
      (without_block-renamed rename next content.pools)
      ∙ ap (λ pools. record { records = content.records; pools = pools; lists = lists_of (unlink_block (option_map (renamed_block rename) next) content.lists) })
      (replaced_in-renamed rename place (split owner place m size) (split (rename owner) place m size) (split-renamed rename owner place m size) (without_block next content.pools))
      ∙ ap (λ left. record { records = content.records; pools = map (renamed_pool rename) (resized owner place m content).pools; lists = lists_of left }) (unlink_block-renamed next content.lists)

  fits_in_place-renamed : (place m : ℕ) (content : Content A) → fits_in_place place m (renamed rename content) ≡ fits_in_place place m content
  fits_in_place-renamed place m content =
      let new = renamed rename content in
      let less = nat_lt m (size_at place (blocks_of content.pools)) in
      let behind = is_some (free_next place content) in
      ap (λ size. cond (nat_lt m size) (is_some (free_next place new) || nat_lt (used_records new) content.records) (nat_le m (size_with_next place new))) (size_at-renamed rename place content.pools)
      ∙ ap (λ some. cond less (some || nat_lt (used_records new) content.records) (nat_le m (size_with_next place new))) (ap is_some (free_next-renamed rename place content) ∙ is_some-renamed (free_next place content))
      ∙ ap (λ used. cond less (behind || nat_lt used content.records) (nat_le m (size_with_next place new))) (used_records-renamed rename content)
      ∙ ap (λ size. cond less (behind || nat_lt (used_records content) content.records) (nat_le m size)) (size_with_next-renamed place content)

  moved-renamed : (owner : A) (old : ℕ) (answer : Result (ℕ × Content A) Refusal) → moved (rename owner) old (renamed_given rename answer) ≡ renamed_moved rename (moved owner old answer)
  moved-renamed owner old (Err refusal) = refl
  moved-renamed owner old (Ok given) = ap (λ after. Ok (Some (given.0, rename owner), after)) (after_free-renamed rename old given.1)

  realloc_sized-renamed : (owner : A) (place : ℕ) (known : A) (m : ℕ) (content : Content A)
      → realloc_sized (rename owner) place (rename known) m (renamed rename content) ≡ renamed_moved rename (realloc_sized owner place known m content)
  realloc_sized-renamed owner place known m content =
      let size = size_at place (blocks_of content.pools) in
      let new = renamed rename content in
      let there : Result (Option (ℕ × B) × Content B) Refusal = Ok (Some (place, rename known), new) in
      let fits = fits_in_place place m content in
      let in_place : Result (Option (ℕ × A) × Content A) Refusal = Ok (Some (place, known), resized known place m content) in
      let in_place_too : Result (Option (ℕ × B) × Content B) Refusal = Ok (Some (place, rename known), resized (rename known) place m new) in
      let elsewhere = moved owner place (malloc_rounded owner (Some m) content) in
      let elsewhere_too = moved (rename owner) place (malloc_rounded (rename owner) (Some m) new) in
      let stays : Result (Option (ℕ × A) × Content A) Refusal = Ok (Some (place, known), content) in
      let past = cond (nat_lt m size) stays elsewhere in
      ap (λ s. cond (m == s) there (cond (fits_in_place place m new) in_place_too (cond (nat_lt m s) there elsewhere_too))) (size_at-renamed rename place content.pools)
      ∙ ap (λ b. cond (m == size) there (cond b in_place_too (cond (nat_lt m size) there elsewhere_too))) (fits_in_place-renamed place m content)
      ∙ ap (λ after. cond (m == size) there (cond fits (Ok (Some (place, rename known), after)) (cond (nat_lt m size) there elsewhere_too))) (resized-renamed known place m content)
      ∙ ap (λ answer. cond (m == size) there (cond fits (renamed_moved rename in_place) (cond (nat_lt m size) there (moved (rename owner) place answer)))) (malloc_rounded-renamed rename owner (Some m) content)
      ∙ ap (λ answer. cond (m == size) there (cond fits (renamed_moved rename in_place) (cond (nat_lt m size) there answer))) (moved-renamed owner place (malloc_rounded owner (Some m) content))
      ∙ ap (λ answer. cond (m == size) there (cond fits (renamed_moved rename in_place) answer)) (sym (ap-cond (renamed_moved rename) (nat_lt m size) stays elsewhere))
      ∙ ap (λ answer. cond (m == size) there answer) (sym (ap-cond (renamed_moved rename) fits in_place past))
      ∙ sym (ap-cond (renamed_moved rename) (m == size) stays (cond fits in_place past))

  realloc_rounded-renamed : (owner : A) (place : ℕ) (known : A) (rounded : Option ℕ) (content : Content A)
      → realloc_rounded (rename owner) place (rename known) rounded (renamed rename content) ≡ renamed_moved rename (realloc_rounded owner place known rounded content)
  realloc_rounded-renamed owner place known None content = refl
  realloc_rounded-renamed owner place known (Some m) content = realloc_sized-renamed owner place known m content

  -- realloc leaves the block at the same place, or refuses for the same reason, where the block that is meant is live
  -- in both
  pub realloc-renamed : (same : A → A → Bool) (same_too : B → B → Bool) (owner : A) (place : ℕ) (known : A) (n : ℕ) (content : Content A)
      → is_live (λ other. same_too other (rename known)) place (blocks_of (renamed rename content).pools) ≡ is_live (λ other. same other known) place (blocks_of content.pools)
      → realloc same_too (rename owner) (Some (place, rename known)) n (renamed rename content) ≡ renamed_moved rename (realloc same owner (Some (place, known)) n content)
  realloc-renamed same same_too owner place known n content alike =
      let new = renamed rename content in
      let live = is_live (λ other. same other known) place (blocks_of content.pools) in
      let freed : Result (Option (ℕ × A) × Content A) Refusal = Ok (None, after_free place content) in
      let sized = realloc_rounded owner place known (round n) content in
      let sized_too = realloc_rounded (rename owner) place (rename known) (round n) new in
      let refused : Result (Option (ℕ × A) × Content A) Refusal = Err BadPointer in
      ap (λ b. cond (not b) (Err BadPointer) (cond (n == 0) (Ok (None, after_free place new)) sized_too)) alike
      ∙ ap (λ after. cond (not live) (Err BadPointer) (cond (n == 0) (Ok (None, after)) sized_too)) (after_free-renamed rename place content)
      ∙ ap (λ answer. cond (not live) (Err BadPointer) (cond (n == 0) (renamed_moved rename freed) answer)) (realloc_rounded-renamed owner place known (round n) content)
      ∙ ap (λ answer. cond (not live) (Err BadPointer) answer) (sym (ap-cond (renamed_moved rename) (n == 0) freed sized))
      ∙ sym (ap-cond (renamed_moved rename) (not live) refused (cond (n == 0) freed sized))
