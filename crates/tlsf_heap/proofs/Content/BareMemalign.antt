-- memalign does the same to a content, whatever its live blocks are known by.
use Rattle.std.proofs.Common.{◌≡◌, ℕ, ◌-◌, ◌++◌, cond, map, refl, sym, ap, ◌∙◌, not, Option, Some, None, Ok, Err}
use Rattle.std.specs.Prelude.{◌==◌, nat_lt}
use Rattle.std.specs.Int.{next_multiple_of}
use Rattle.std.proofs.lemmas.List.{map-append}
use Rattle.tlsf_class.specs.Rounding.{round}
use Rattle.tlsf_heap.specs.declared.refusal.Refusal.TheVariants.{ZeroSize, TableFull, BadAlign}
use Rattle.tlsf_heap.specs.Content.{Content, blocks_of, size_at, used_records}
use Rattle.tlsf_heap.specs.Lists.{pick}
use Rattle.tlsf_heap.specs.Malloc.{gap, split}
use Rattle.tlsf_heap.specs.Memalign.{is_alignment, size_asked, split_in_three, aligned, if_recorded, memalign_picked, memalign_rounded, memalign}
use Rattle.tlsf_heap.specs.Bare.{renamed_block, renamed, renamed_given}
use Rattle.tlsf_heap.proofs.Content.BareSteps.{ap-cond, size_at-renamed, used_records-renamed, gap-renamed, split-renamed, replaced_in-renamed}

module _ {A B : Type 0} (rename : A → B) where
  split_in_three-renamed : (owner : A) (start m place size : ℕ) → map (renamed_block rename) (split_in_three owner start m place size) ≡ split_in_three (rename owner) start m place size
  split_in_three-renamed owner start m place size =
      let left : ℕ = size - (start - place) in
      map-append (renamed_block rename) (gap place (start - place)) (split owner start m left)
      ∙ ap (λ front. front ++ map (renamed_block rename) (split owner start m left)) (gap-renamed rename place (start - place))
      ∙ ap (λ back. gap place (start - place) ++ back) (split-renamed rename owner start m left)

  aligned-renamed : (owner : A) (start m place size : ℕ) (content : Content A)
      → aligned (rename owner) start m place size (renamed rename content) ≡ renamed rename (aligned owner start m place size content)
  aligned-renamed owner start m place size content =
      ap (λ pools. record { records = content.records; pools = pools; lists = (aligned owner start m place size content).lists })
      (replaced_in-renamed rename place (split_in_three owner start m place size) (split_in_three (rename owner) start m place size) (split_in_three-renamed owner start m place size) content.pools)

  if_recorded-renamed : (place : ℕ) (after : Content A) → if_recorded place (renamed rename after) ≡ renamed_given rename (if_recorded place after)
  if_recorded-renamed place after =
      ap (λ used. cond (nat_lt after.records used) (Err TableFull) (Ok (place, renamed rename after))) (used_records-renamed rename after)
      ∙ sym (ap-cond (renamed_given rename) (nat_lt after.records (used_records after)) (Err TableFull) (Ok (place, after)))

  memalign_picked-renamed : (owner : A) (align m : ℕ) (picked : Option ℕ) (content : Content A)
      → memalign_picked (rename owner) align m picked (renamed rename content) ≡ renamed_given rename (memalign_picked owner align m picked content)
  memalign_picked-renamed owner align m None content = refl
  memalign_picked-renamed owner align m (Some place) content =
      let start : ℕ = next_multiple_of place align in
      let size : ℕ = size_at place (blocks_of content.pools) in
      ap (λ bytes. if_recorded start (aligned (rename owner) start m place bytes (renamed rename content))) (size_at-renamed rename place content.pools)
      ∙ ap (if_recorded start) (aligned-renamed owner start m place size content)
      ∙ if_recorded-renamed start (aligned owner start m place size content)

  memalign_rounded-renamed : (owner : A) (align : ℕ) (rounded : Option ℕ) (content : Content A)
      → memalign_rounded (rename owner) align rounded (renamed rename content) ≡ renamed_given rename (memalign_rounded owner align rounded content)
  memalign_rounded-renamed owner align None content = refl
  memalign_rounded-renamed owner align (Some m) content = memalign_picked-renamed owner align m (pick (size_asked align m) content.lists) content

  -- memalign gives the same place, or refuses for the same reason
  pub memalign-renamed : (owner : A) (align n : ℕ) (content : Content A) → memalign (rename owner) align n (renamed rename content) ≡ renamed_given rename (memalign owner align n content)
  memalign-renamed owner align n content =
      let bad = not (is_alignment align) in
      let served = memalign_rounded owner align (round n) content in
      ap (λ given. cond bad (Err BadAlign) (cond (n == 0) (Err ZeroSize) given)) (memalign_rounded-renamed owner align (round n) content)
      ∙ ap (λ given. cond bad (Err BadAlign) given) (sym (ap-cond (renamed_given rename) (n == 0) (Err ZeroSize) served))
      ∙ sym (ap-cond (renamed_given rename) bad (Err BadAlign) (cond (n == 0) (Err ZeroSize) served))
