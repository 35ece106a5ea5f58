-- A run that stays within its bounds is refused neither for want of a block nor for want of a record.
use Rattle.std.proofs.Common.{◌≡◌, ◌≢◌, ℕ, ◌+◌, ◌-◌, ◌*◌, ◌<◌, ◌≤◌, Bool, List, [], ◌∷◌, length, map, Option, Some, None, Ok, Err, ◌⊎◌, inl, inr, refl, sym, ap, ◌∙◌, subst, arith, All}
use Rattle.std.specs.Prelude.{◌==◌, Result, IsTrue}
use Rattle.std.proofs.lemmas.Bool.{cases_Bool, eq-eqb}
use Rattle.std.proofs.lemmas.List.{length-map}
use Rattle.std.proofs.lemmas.List.Elements.{All-cons}
use Rattle.std.proofs.Math.Nat.{mul-le-mul}
use Rattle.tlsf_class.specs.Classes.{unit, low}
use Rattle.tlsf_heap.specs.declared.request.Request.{Request}
use Rattle.tlsf_heap.specs.declared.request.Request.TheVariants.{AddPool, RemovePool, Malloc, Memalign, Free, Realloc, BlockSize}
use Rattle.tlsf_heap.specs.declared.answer.Answer.{Answer}
use Rattle.tlsf_heap.specs.declared.answer.Answer.TheVariants.{Done, Given, Moved, Size, Refused}
use Rattle.tlsf_heap.specs.declared.refusal.Refusal.{Refusal}
use Rattle.tlsf_heap.specs.declared.refusal.Refusal.TheVariants.{ZeroSize, NoFit, TableFull, BadPointer, BadAlign}
use Rattle.tlsf_heap.specs.Content.{Block, Pool, Content, blocks_of, size_at}
use Rattle.tlsf_heap.specs.Malloc.{replaced_in, malloc}
use Rattle.tlsf_heap.specs.Memalign.{is_alignment, size_asked, memalign}
use Rattle.tlsf_heap.specs.Pools.{created, add_pool}
use Rattle.tlsf_heap.specs.Free.{free, is_live, after_free, free_previous, free_next, without_block}
use Rattle.tlsf_heap.specs.Realloc.{given_anew, realloc}
use Rattle.tlsf_heap.specs.BlockSize.{block_size}
use Rattle.tlsf_heap.specs.Pointer.{Pointer, place_and_slot, slot_of, realloc_ptr}
use Rattle.tlsf_heap.specs.Good.{IsGood}
use Rattle.tlsf_heap.specs.Implied.{live_blocks}
use Rattle.tlsf_heap.specs.Room.{pool_bytes, HasRoomFor}
use Rattle.tlsf_heap.specs.Sizing.{most_refusing, sure_records}
use Rattle.tlsf_heap.specs.Run.{IsRefused, Step, Run}
use Rattle.tlsf_heap.specs.Within.{TakesWithin, NamesLive, IsWithin, StaysWithin, IsLargeEnough, IsNotFull}
use Rattle.tlsf_heap.proofs.Content.Given.{malloc_gave, realloc_gave, free_gave}
use Rattle.tlsf_heap.proofs.Content.MemalignCases.{memalign_given}
use Rattle.tlsf_heap.proofs.Content.ReallocCases.{realloc_reasons}
use Rattle.tlsf_heap.proofs.Good.MallocIsGood.{malloc_is_good, add_pool_is_good, created_is_good}
use Rattle.tlsf_heap.proofs.Good.Realloc.{realloc_is_good}
use Rattle.tlsf_heap.proofs.Meaning.AlignedIsGood.{memalign_is_good}
use Rattle.tlsf_heap.proofs.Meaning.FreedIsGood.{freed_is_good}
use Rattle.tlsf_heap.proofs.Good.Room.{room_serves, aligned_room_serves}
use Rattle.tlsf_heap.proofs.Content.PoolCases.{pool_added}

-- a refusal for want of a block, or of a record
abbrev pub IsWant : Refusal → Type 0
IsWant why = (why ≡ NoFit) ⊎ (why ≡ TableFull)

pub not_other : (why other : Refusal) → (NoFit ≢ other) → (TableFull ≢ other) → IsWant why → why ≢ other
not_other why other fit full (inl is) e = fit (sym is ∙ e)
not_other why other fit full (inr is) e = full (sym is ∙ e)

pub not_bad : (why : Refusal) → IsWant why → why ≢ BadPointer
not_bad why = not_other why BadPointer (λ e. cc) (λ e. cc)

-- what every request but those of pools leaves as it was
pub record Keeps {A : Type 0} (old new : Content A) : Type 0 where
  pub pools : length new.pools ≡ length old.pools
  pub bytes : pool_bytes new.pools ≡ pool_bytes old.pools
  pub records : new.records ≡ old.records

module _ {A : Type 0} where
  replaced_bytes : (place : ℕ) (others : List (Block A)) (pools : List (Pool A)) → pool_bytes (map (replaced_in place others) pools) ≡ pool_bytes pools
  replaced_bytes place others [] = refl
  replaced_bytes place others (pool ∷ pools) = ap (λ n. pool.bytes + n) (replaced_bytes place others pools)

  without_pools : (gone : Option (Block A)) (pools : List (Pool A)) → length (without_block gone pools) ≡ length pools
  without_pools None pools = refl
  without_pools (Some block) pools = length-map pools _

  without_bytes : (gone : Option (Block A)) (pools : List (Pool A)) → pool_bytes (without_block gone pools) ≡ pool_bytes pools
  without_bytes None pools = refl
  without_bytes (Some block) pools = replaced_bytes block.place [] pools

  pub malloc_keeps : (owner : A) (n : ℕ) (content : Content A) (given : ℕ × Content A) → malloc owner n content ≡ Ok given → Keeps content given.1
  malloc_keeps owner n content given served =
      let gave = malloc_gave owner content n given served in
      subst (λ (g : ℕ × Content A). Keeps content g.1) gave.4 (record {
        pools = length-map content.pools _;
        bytes = replaced_bytes _ _ content.pools;
        records = refl;
      })

  pub memalign_keeps : (owner : A) (align n : ℕ) (content : Content A) (given : ℕ × Content A) → memalign owner align n content ≡ Ok given → Keeps content given.1
  memalign_keeps owner align n content given served =
      let gave = memalign_given owner align n content given served in
      subst (λ (g : ℕ × Content A). Keeps content g.1) gave.1 (record {
        pools = length-map content.pools _;
        bytes = replaced_bytes _ _ content.pools;
        records = refl;
      })

  pub freed_keeps : (place : ℕ) (content : Content A) → Keeps content (after_free place content)
  freed_keeps place content =
      let previous : Option (Block A) = free_previous place content in
      let next : Option (Block A) = free_next place content in
      record {
        pools = length-map (without_block next (without_block previous content.pools)) _ ∙ (without_pools next (without_block previous content.pools) ∙ without_pools previous content.pools);
        bytes = replaced_bytes _ _ (without_block next (without_block previous content.pools)) ∙ (without_bytes next (without_block previous content.pools) ∙ without_bytes previous content.pools);
        records = refl;
      }

  pub realloc_keeps : (same : A → A → Bool) (owner : A) (pointer : Option (ℕ × A)) (n : ℕ) (content : Content A) (given : Option (ℕ × A) × Content A) → realloc same owner pointer n content ≡ Ok given → Keeps content given.1
  realloc_keeps same owner None n content given served = of (malloc owner n content) refl served
    where
      of : (answer : Result (ℕ × Content A) Refusal) → malloc owner n content ≡ answer → given_anew owner answer ≡ Ok given → Keeps content given.1
      of (Err refusal) is e = absurd (cc)
      of (Ok new) is e =
          let there : (Some (new.0, owner), new.1) ≡ given = cc in
          subst (λ (g : Option (ℕ × A) × Content A). Keeps content g.1) there (malloc_keeps owner n content new is)
  realloc_keeps same owner (Some (place, known)) n content given served =
      realloc_gave same owner known place n content (λ (g : Option (ℕ × A) × Content A). Keeps content g.1)
      (λ live none. freed_keeps place content)
      (λ live some. record { pools = refl; bytes = refl; records = refl })
      (λ m live some. (let next : Option (Block A) = free_next place content in record {
        pools = length-map (without_block next content.pools) _ ∙ without_pools next content.pools;
        bytes = replaced_bytes _ _ (without_block next content.pools) ∙ without_bytes next content.pools;
        records = refl;
      }))
      (λ new live some is. (let first = malloc_keeps owner n content new is in let then = freed_keeps place new.1 in record {
        pools = then.pools ∙ first.pools;
        bytes = then.bytes ∙ first.bytes;
        records = then.records ∙ first.records;
      }))
      given served

  -- free and block_size are refused for the pointer alone
  pub free_refused : (is_meant : A → Bool) (place : ℕ) (content : Content A) (refusal : Refusal) → free is_meant place content ≡ Err refusal → refusal ≡ BadPointer
  free_refused is_meant place content refusal e = elim (cases_Bool (is_live is_meant place (blocks_of content.pools))) [
    | inl live ↦ let is : free is_meant place content ≡ Ok (after_free place content) = rw live refl in absurd (cc)
    | inr stale ↦ let refused : free is_meant place content ≡ Err BadPointer = rw stale refl in cc
  ]

  pub size_refused : (is_meant : A → Bool) (place : ℕ) (content : Content A) (refusal : Refusal) → block_size is_meant place content ≡ Err refusal → refusal ≡ BadPointer
  size_refused is_meant place content refusal e = elim (cases_Bool (is_live is_meant place (blocks_of content.pools))) [
    | inl live ↦ let is : block_size is_meant place content ≡ Ok (size_at place (blocks_of content.pools)) = rw live refl in absurd (cc)
    | inr stale ↦ let refused : block_size is_meant place content ≡ Err BadPointer = rw stale refl in cc
  ]

  -- no request for no bytes is refused for want of a block or of a record
  pub some_bytes : (owner : A) (n : ℕ) (content : Content A) (refusal : Refusal) → refusal ≢ ZeroSize → malloc owner n content ≡ Err refusal → n ≢ 0
  some_bytes owner n content refusal other refused = λ nothing. other (let zero_size : malloc owner n content ≡ Err ZeroSize = ap (λ k. malloc owner k content) nothing in cc)

  pub some_aligned_bytes : (owner : A) (align n : ℕ) (content : Content A) (refusal : Refusal) → refusal ≢ BadAlign → refusal ≢ ZeroSize → memalign owner align n content ≡ Err refusal → n ≢ 0
  some_aligned_bytes owner align n content refusal aligned other refused = λ nothing. elim (cases_Bool (is_alignment align)) [
    | inl is ↦ let zero_size : memalign owner align n content ≡ Err ZeroSize = rw (is, eq-eqb n 0 nothing) refl in other (cc)
    | inr isn't ↦ let bad : memalign owner align n content ≡ Err BadAlign = rw isn't refl in aligned (cc)
  ]

-- what is within the bounds finds room
pub room_within : {A : Type 0} (blocks bytes size : ℕ) (asked : ℕ → ℕ) (rests n : ℕ) (content : Content A) → rests ≤ 2 → IsLargeEnough blocks bytes size content → TakesWithin blocks bytes size asked n content
    → HasRoomFor asked rests n content
room_within blocks bytes size asked rests n content most enough within =
    let less : live_blocks content + length content.pools ≤ blocks + length content.pools = omega (arith, within.few) in
    let smaller : low within.asks.c - unit ≤ size - unit = omega (arith, within.asks.sized) in
    let product : (live_blocks content + length content.pools) * (low within.asks.c - unit) ≤ (blocks + length content.pools) * (size - unit) = mul-le-mul less smaller in
    record {
      m = within.asks.m;
      rounds = within.asks.rounds;
      c = within.asks.c;
      needed = within.asks.needed;
      bytes = omega (arith, within.small, product, enough.pools);
      records = omega (arith, most, within.few, enough.records);
    }

module _ (blocks bytes size : ℕ) where
  -- a good content that is large enough for the bounds
  pub record IsEnough (content : Content ℕ) : Type 0 where
    pub good : IsGood content
    pub large : IsLargeEnough blocks bytes size content

  still_enough : (old new : Content ℕ) → IsEnough old → IsGood new → Keeps old new → IsEnough new
  still_enough old new enough good keeps = record {
    good = good;
    large = record {
      pools =
          let product : (blocks + length new.pools) * (size - unit) ≡ (blocks + length old.pools) * (size - unit) = ap (λ n. (blocks + n) * (size - unit)) keeps.pools in
          omega (arith, enough.large.pools, keeps.bytes, product);
      records = omega (arith, enough.large.records, keeps.records, keeps.pools);
    };
  }

  abbrev AllWithin : (ℕ → ℕ) → ℕ → Content ℕ → Type 0
  AllWithin asked n content = n ≢ 0 → TakesWithin blocks bytes size asked n content

  malloc_served : (why : Refusal) → IsWant why → (owner n : ℕ) (content : Content ℕ) → IsEnough content → AllWithin (λ m. m) n content → malloc owner n content ≡ Err why → ⊥
  malloc_served why want owner n content enough within refused =
      let some = some_bytes owner n content why (not_other why ZeroSize (λ e. cc) (λ e. cc) want) refused in
      room_serves owner n content why enough.good (room_within blocks bytes size (λ m. m) 1 n content (omega arith) enough.large (within some)) refused

  memalign_served : (why : Refusal) → IsWant why → (owner align n : ℕ) (content : Content ℕ) → IsEnough content → (IsTrue (is_alignment align) → AllWithin (size_asked align) n content) → memalign owner align n content ≡ Err why → ⊥
  memalign_served why want owner align n content enough within refused =
      let aligned = not_other why BadAlign (λ e. cc) (λ e. cc) want in
      let some = some_aligned_bytes owner align n content why aligned (not_other why ZeroSize (λ e. cc) (λ e. cc) want) refused in
      elim (cases_Bool (is_alignment align)) [
        | inl good ↦ aligned (aligned_room_serves owner align n content why enough.good (room_within blocks bytes size (size_asked align) 2 n content (omega arith) enough.large (within good some)) refused)
        | inr bad ↦ (let is : memalign owner align n content ≡ Err BadAlign = rw bad refl in aligned (cc))
      ]

  -- a realloc asks for a block, or names no live block
  live_served : (why : Refusal) → IsWant why → (owner : ℕ) (pointer : Option (ℕ × ℕ)) (n : ℕ) (content : Content ℕ) → IsEnough content → AllWithin (λ m. m) n content → realloc (λ a b. a == b) owner pointer n content ≡ Err why → ⊥
  live_served why want owner pointer n content enough within refused =
      elim (realloc_reasons owner why (λ a b. a == b) pointer n content (λ some. (let w = within some in (w.asks.m, w.asks.rounds))) refused) [
        | inl asked ↦ malloc_served why want owner n content enough within asked
        | inr bad ↦ not_bad why want bad
      ]

  realloc_served : (why : Refusal) → IsWant why → (owner : ℕ) (pointer : Option Pointer) (n : ℕ) (content : Content ℕ) → IsEnough content → (NamesLive pointer content → AllWithin (λ m. m) n content)
      → realloc_ptr pointer n owner content ≡ Err why → ⊥
  realloc_served why want owner None n content enough within refused = live_served why want owner None n content enough (within tt) refused
  realloc_served why want owner (Some pointer) n content enough within refused = elim (cases_Bool (is_live (λ slot. slot == pointer.slot) pointer.place (blocks_of content.pools))) [
    | inl live ↦ live_served why want owner (place_and_slot (Some pointer)) n content enough (within live) refused
    | inr stale ↦ (let bad : realloc_ptr (Some pointer) n owner content ≡ Err BadPointer = rw stale refl in not_bad why want (cc (bad, refused)))
  ]

  -- no request is refused for want of a block, nor of a record
  request_served : (request : Request) (why : Refusal) → IsWant why → (content : Content ℕ) → IsEnough content → IsWithin blocks bytes size request content → IsRefused request why content → ⊥
  request_served (AddPool base pool) why want content enough within refused = within
  request_served (RemovePool base) why want content enough within refused = within
  request_served (Malloc n) why want content enough within refused = malloc_served why want 0 n content enough within (refused 0)
  request_served (Memalign align n) why want content enough within refused = memalign_served why want 0 align n content enough within (refused 0)
  request_served (Free pointer) why want content enough within refused = not_bad why want (free_refused (λ slot. slot == pointer.slot) pointer.place content why refused)
  request_served (Realloc pointer n) why want content enough within refused = realloc_served why want 0 pointer n content enough within (refused 0)
  request_served (BlockSize pointer) why want content enough within refused = not_bad why want (size_refused (λ slot. slot == pointer.slot) pointer.place content why refused)

  step_not_full : (lacks : Type 0) (request : Request) (answer : Answer) (old new : Content ℕ) → IsEnough old → IsWithin blocks bytes size request old → Step lacks request answer old new → IsNotFull answer
  step_not_full lacks request answer old new enough within step =
      let P : Answer → Type 0 = λ a. Step lacks request a old new in (
        λ is. request_served request NoFit (inl refl) old enough within ((subst P is step).1 (λ e. cc)),
        λ is. request_served request TableFull (inr refl) old enough within ((subst P is step).1 (λ e. cc)),
      )

  -- what a request leaves is large enough still
  pub step_enough : (lacks : Type 0) (request : Request) (answer : Answer) (old new : Content ℕ) → IsEnough old → IsWithin blocks bytes size request old → Step lacks request answer old new → IsEnough new
  step_enough lacks request (Refused refusal) old new enough within step = subst IsEnough (sym step.0) enough
  step_enough lacks (AddPool base pool) Done old new enough within step = absurd within
  step_enough lacks (RemovePool base) Done old new enough within step = absurd within
  step_enough lacks (Malloc n) (Given pointer) old new enough within step =
      still_enough old new enough (malloc_is_good pointer.slot n old (pointer.place, new) enough.good step.ok) (malloc_keeps pointer.slot n old (pointer.place, new) step.ok)
  step_enough lacks (Memalign align n) (Given pointer) old new enough within step =
      still_enough old new enough (memalign_is_good pointer.slot align n old (pointer.place, new) enough.good step.ok) (memalign_keeps pointer.slot align n old (pointer.place, new) step.ok)
  step_enough lacks (Free pointer) Done old new enough within step =
      let gave = free_gave (λ slot. slot == pointer.slot) pointer.place old new step in
      subst IsEnough gave.1 (still_enough old (after_free pointer.place old) enough (freed_is_good (λ slot. slot == pointer.slot) pointer.place old enough.good gave.0) (freed_keeps pointer.place old))
  step_enough lacks (Realloc pointer n) (Moved given) old new enough within step =
      still_enough old new enough
      (realloc_is_good (λ a b. a == b) (slot_of given) (place_and_slot pointer) n old (place_and_slot given, new) enough.good step.ok)
      (realloc_keeps (λ a b. a == b) (slot_of given) (place_and_slot pointer) n old (place_and_slot given, new) step.ok)
  step_enough lacks (BlockSize pointer) (Size told) old new enough within step = subst IsEnough (sym step.1) enough
  step_enough lacks _ _ old new enough within step = absurd step

  run_fits : (lacks : Type 0) (requests : List Request) (answers : List Answer) (old new : Content ℕ) (before after : ℕ) (run : Run lacks requests answers old new before after)
      → IsEnough old → StaysWithin blocks bytes size lacks requests answers old new before after run → All IsNotFull answers
  run_fits lacks [] [] old new before after run enough within = λ k d less. absurd (omega (arith, less))
  run_fits lacks [] (answer ∷ answers) old new before after run enough within = absurd run
  run_fits lacks (request ∷ requests) [] old new before after run enough within = absurd run
  run_fits lacks (request ∷ requests) (answer ∷ answers) old new before after run enough within =
      All-cons IsNotFull answer answers (step_not_full lacks request answer old run.0 enough within.0 run.2)
      (run_fits lacks requests answers run.0 new run.1 after run.5 (step_enough lacks request answer old run.0 enough within.0 run.2) within.1)

  -- no request of a run within the bounds is refused for want of a block or of a record
  pub run_not_full : (lacks : Type 0) (requests : List Request) (answers : List Answer) (old new : Content ℕ) (before after : ℕ) (run : Run lacks requests answers old new before after)
      → IsGood old → IsLargeEnough blocks bytes size old → StaysWithin blocks bytes size lacks requests answers old new before after run → All IsNotFull answers
  run_not_full lacks requests answers old new before after run good large within = run_fits lacks requests answers old new before after run (record { good = good; large = large }) within

-- a heap with one pool is good, and large enough where the numbers are
pub one_pool_enough : (blocks bytes size records base pool : ℕ) (content : Content ℕ) → add_pool base pool (created records) ≡ Ok content
    → most_refusing 1 blocks bytes size < pool → sure_records blocks ≤ records → IsGood content × IsLargeEnough blocks bytes size content
one_pool_enough blocks bytes size records base pool content added large many = (
  add_pool_is_good base pool (created records) content (created_is_good records) added,
  subst (IsLargeEnough blocks bytes size) (pool_added base pool (created records) content added).is
      (record { pools = omega (arith, large); records = omega (arith, many) }),
)
