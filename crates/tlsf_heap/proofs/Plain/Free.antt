-- What the plain heap's free leaves.
use Rattle.std.proofs.Common.{◌≡◌, ℕ, ◌+◌, Bool, true, [], ◌∷◌, map, ap, ◌∙◌, subst, arith, Option}
use Rattle.tlsf_heap.specs.Content.{Block, Content, blocks_of, size_at, IsSize}
use Rattle.tlsf_heap.specs.Lists.{link}
use Rattle.tlsf_heap.specs.Malloc.{replaced_in}
use Rattle.tlsf_heap.specs.Free.{is_live, free_previous, free_next, unlink_block, size_of, start_of, free_block, without_block, after_free}
use Rattle.tlsf_heap.specs.PlainHeap.{IsPlain}
use Rattle.tlsf_heap.proofs.Meaning.FreedIsGood.{freed_is_good, freed_size}
use Rattle.tlsf_heap.proofs.Meaning.FreedSlots.{after_free_slots}

-- the plain heap keeps what it keeps where a live block is freed
pub freed_is_plain : (is_meant : ℕ → Bool) (place : ℕ) (content : Content ℕ) → IsPlain content → is_live is_meant place (blocks_of content.pools) ≡ true → IsPlain (after_free place content)
freed_is_plain is_meant place content plain live = record { good = freed_is_good is_meant place content plain.good live; slots = after_free_slots place content plain.slots; records_few = plain.records_few }

-- the block that is left has a size that a block can have
pub merged_size : (is_meant : ℕ → Bool) (place : ℕ) {front here back : ℕ} {previous next : Option (Block ℕ)} {content : Content ℕ} → IsPlain content → is_live is_meant place (blocks_of content.pools) ≡ true
    → previous ≡ free_previous place content → next ≡ free_next place content → front ≡ size_of previous → here ≡ size_at place (blocks_of content.pools) → back ≡ size_of next → IsSize (front + here + back)
merged_size is_meant place {front} {here} {back} {previous} {next} {content} plain live before behind a b c =
    let P : ℕ → Type 0 = λ n. IsSize n in
    let all : size_of (free_previous place content) + size_at place (blocks_of content.pools) + size_of (free_next place content) ≡ front + here + back = omega (arith, a, b, c, ap size_of before, ap size_of behind) in
    let s = freed_size is_meant place content plain.good live in
    subst P all (record { positive = s.0; in_units = s.1; at_most = s.2 })

-- a neighbour is gone, from its list too
abbrev pub removed : Option (Block ℕ) → Content ℕ → Content ℕ
removed block content = record content { pools = without_block block content.pools; lists = unlink_block block content.lists }

-- the steps of the code are those of the definition
pub freed_by : (place : ℕ) (previous next : Option (Block ℕ)) (merged : Block ℕ) (content copy first second third linked : Content ℕ)
    → copy ≡ content → first ≡ removed previous copy → second ≡ removed next first
    → third ≡ record second { pools = map (replaced_in place (merged ∷ [])) second.pools }
    → linked ≡ record third { lists = link merged.place merged.size third.lists }
    → previous ≡ free_previous place content → next ≡ free_next place content
    → merged ≡ free_block (start_of previous place) (size_of previous + size_at place (blocks_of content.pools) + size_of next)
    → linked ≡ after_free place content
freed_by place previous next merged content copy first second third linked a b c d e before behind all =
    let put : Block ℕ → Content ℕ → Content ℕ = λ block x. record x { pools = map (replaced_in place (block ∷ [])) x.pools; lists = link block.place block.size x.lists } in
    let of : Option (Block ℕ) → Option (Block ℕ) → Content ℕ = λ o other.
    put (free_block (start_of o place) (size_of o + size_at place (blocks_of content.pools) + size_of other)) (removed other (removed o content)) in
    e
    ∙ ap (λ (x : Content ℕ). record x { lists = link merged.place merged.size x.lists }) d
    ∙ ap (put merged) (c ∙ ap (removed next) (b ∙ ap (removed previous) a))
    ∙ ap (λ block. put block (removed next (removed previous content))) all
    ∙ ap (λ o. of o next) before
    ∙ ap (of (free_previous place content)) behind
