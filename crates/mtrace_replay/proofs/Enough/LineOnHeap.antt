-- What a line of a log leaves of the heap, and why the heap refused it.
use Rattle.std.proofs.Common.{◌≡◌, ◌≢◌, ℕ, suc, ◌<◌, ◌≤◌, Bool, true, false, List, [], ◌∷◌, map, Option, Some, None, Ok, Err, inl, inr, refl, sym, ap, ◌∙◌, subst, arith}
use Rattle.std.specs.Prelude.{Result, if◌then◌else◌, unwrap_or}
use Rattle.std.specs.List.{Contains, AllByRecursion}
use Rattle.std.proofs.lemmas.Bool.{cases_Bool}
use Rattle.mtrace_log.proofs.TextLemmas.{AllByRecursion-append}
use Rattle.tlsf_heap.specs.declared.refusal.Refusal.{Refusal}
use Rattle.tlsf_heap.specs.declared.refusal.Refusal.TheVariants.{BadPointer, TableFull}
use Rattle.tlsf_heap.specs.Content.{Block, Pool, Content, blocks_of, is_free, used_records}
use Rattle.tlsf_heap.specs.Malloc.{replaced_in}
use Rattle.tlsf_heap.specs.Free.{free, is_live, after_free, free_previous, free_next, without_block}
use Rattle.tlsf_heap.specs.Realloc.{realloc}
use Rattle.tlsf_heap.specs.Good.{IsGood}
use Rattle.tlsf_heap.specs.Implied.{HasFewRecordsAndOne}
use Rattle.tlsf_heap.proofs.Good.MallocIsGood.{malloc_is_good}
use Rattle.tlsf_heap.proofs.Good.Implied.{malloc_full}
use Rattle.tlsf_heap.proofs.Good.AlignedImplied.{aligned_full}
use Rattle.tlsf_heap.proofs.Good.Realloc.{realloc_is_good}
use Rattle.tlsf_heap.proofs.Meaning.AlignedIsGood.{memalign_is_good}
use Rattle.tlsf_heap.proofs.Meaning.FreedIsGood.{freed_is_good}
use Rattle.tlsf_heap.proofs.Content.Given.{malloc_gave, realloc_gave}
use Rattle.tlsf_heap.proofs.Content.MemalignCases.{memalign_given}
use Rattle.mtrace_replay.specs.declared.held.diagnostic.Diagnostic.{Diagnostic}
use Rattle.mtrace_replay.specs.declared.held.diagnostic.Kind.TheVariants.{Refused}
use Rattle.mtrace_replay.specs.Started.{Bare, left_by}
use Rattle.mtrace_replay.specs.History.{pending}
use Rattle.mtrace_replay.specs.Moment.{ReadLine, Given, Moment, unserved, after_diagnostics, without, outcome, asked_size, rounded_bytes, asked_block, moment, is_new, half, Act, idle, give, take, move, plan, answered, moved, done}
use Rattle.mtrace_replay.specs.Entry.{Entry}
use Rattle.mtrace_replay.proofs.OnHeap.AskedBlock.{asked_records, asked_sized}
use Rattle.mtrace_replay.proofs.OnHeap.FreeAndRealloc.{moved_records}
use Rattle.tlsf_heap.proofs.Good.GivenSizes.{IsRounded, moved_sized}
use Rattle.mtrace_replay.proofs.History.PlanLemmas.{Fits, IsNoRefusal, is_planned}
use Rattle.mtrace_replay.proofs.Enough.EnoughBlocks.{freed_elsewhere, stale_elsewhere, moved_elsewhere}

-- the bytes of each pool
abbrev pub bytes_of : {A : Type 0} → List (Pool A) → List ℕ
bytes_of [] = []
bytes_of (pool ∷ pools) = pool.bytes ∷ bytes_of pools

replaced_pools : {A : Type 0} (place : ℕ) (others : List (Block A)) (pools : List (Pool A)) → bytes_of (map (replaced_in place others) pools) ≡ bytes_of pools
replaced_pools place others [] = refl
replaced_pools place others (pool ∷ pools) = ap (λ bytes. pool.bytes ∷ bytes) (replaced_pools place others pools)

-- a block is asked for: the content stays good, its pools are the same, and where the table is full there are few records
module _ {A : Type 0} (owner : A) where
  asked_good : (align : Option ℕ) (n : ℕ) (content : Content A) (given : ℕ × Content A) → IsGood content → asked_block owner align n content ≡ Ok given → IsGood given.1
  asked_good None n content given good is = malloc_is_good owner n content given good is
  asked_good (Some align) n content given good is = memalign_is_good owner align n content given good is

  asked_pools : (align : Option ℕ) (n : ℕ) (content : Content A) (given : ℕ × Content A) → asked_block owner align n content ≡ Ok given → bytes_of given.1.pools ≡ bytes_of content.pools
  asked_pools None n content given served = let gave = malloc_gave owner content n given served in sym (ap (λ (g : ℕ × Content A). bytes_of g.1.pools) gave.4) ∙ replaced_pools _ _ content.pools
  asked_pools (Some align) n content given served = let gave = memalign_given owner align n content given served in sym (ap (λ (g : ℕ × Content A). bytes_of g.1.pools) gave.1) ∙ replaced_pools _ _ content.pools

  pub asked_full : (align : Option ℕ) (n : ℕ) (content : Content A) → IsGood content → asked_block owner align n content ≡ Err TableFull → HasFewRecordsAndOne content
  asked_full None n content good full = omega (arith, malloc_full owner n content good full)
  asked_full (Some align) n content good full = aligned_full owner align n content good full

without_pools : {A : Type 0} (gone : Option (Block A)) (pools : List (Pool A)) → bytes_of (without_block gone pools) ≡ bytes_of pools
without_pools None pools = refl
without_pools (Some block) pools = replaced_pools block.place [] pools

freed_pools : {A : Type 0} (place : ℕ) (content : Content A) → bytes_of (after_free place content).pools ≡ bytes_of content.pools
freed_pools place content =
    replaced_pools _ _ (without_block (free_next place content) (without_block (free_previous place content) content.pools))
    ∙ (without_pools (free_next place content) (without_block (free_previous place content) content.pools) ∙ without_pools (free_previous place content) content.pools)

moved_pools : {A : Type 0} (same : A → A → Bool) (owner known : A) (place n : ℕ) (content : Content A) (given : Option (ℕ × A) × Content A) → realloc same owner (Some (place, known)) n content ≡ Ok given
    → bytes_of given.1.pools ≡ bytes_of content.pools
moved_pools {A} same owner known place n content given served =
    realloc_gave same owner known place n content (λ (g : Option (ℕ × A) × Content A). bytes_of g.1.pools ≡ bytes_of content.pools)
    (λ live none. freed_pools place content) (λ live some. refl)
    (λ m live some. replaced_pools _ _ (without_block (free_next place content) content.pools) ∙ without_pools (free_next place content) content.pools)
    (λ new live some is. freed_pools place new.1 ∙ asked_pools owner None n content new is) given served

none_given : (place : ℕ) (o : Unit {0}) → (let none : Option (ℕ × Unit {0}) = None in none ≡ Some (place, o)) → ⊥
none_given place o is = cc

-- each refusal that is told is the heap's: this is what it answered
abbrev pub AreRefusals : (Refusal → Type 0) → List Diagnostic → Type 0
AreRefusals answers diagnostics = AllByRecursion (λ (one : Diagnostic). (address : ℕ) (why : Refusal) → one.kind ≡ Refused address why → answers why) diagnostics

-- the block has no more bytes
abbrev pub IsOfSize : Given → Block (Unit {0}) → Type 0
IsOfSize given b = b.size ≤ rounded_bytes given.entry.size

rounded_is : (given : Given) (b : Block (Unit {0})) → IsRounded (asked_size given.entry.size) b → IsOfSize given b
rounded_is given b is = omega (arith, is.2, ap (λ m. unwrap_or m 0) is.1)

-- what a line leaves of the heap, which answers with a refusal where `answers` says so
pub record LeavesHeap (answers : Refusal → Type 0) (content : Bare) (held : ℕ → Option Given) (moment : Moment) : Type 0 where
  pub good : IsGood moment.content
  pub records : moment.content.records ≡ content.records
  pub pools : bytes_of moment.content.pools ≡ bytes_of content.pools
  -- where the block of the address taken was, a live block is the one given
  pub gone : (address : ℕ) (given : Given) (b : Block (Unit {0})) → moment.taken ≡ Some address → held address ≡ Some given → Contains (blocks_of moment.content.pools) b → is_free b ≡ false
      → b.place ≡ given.place → (new : Given) × (moment.given ≡ Some new) × (new.place ≡ b.place)
  pub refused : AreRefusals answers moment.diagnostics
  -- where a record is left, the block given has the bytes asked for, rounded up
  pub sized : used_records content < content.records → (new : Given) → moment.given ≡ Some new → (b : Block (Unit {0})) → Contains (blocks_of moment.content.pools) b → is_free b ≡ false → b.place ≡ new.place → IsOfSize new b

same_refusal : (address other : ℕ) (refusal why : Refusal) → Refused address refusal ≡ Refused other why → refusal ≡ why
same_refusal address other refusal why told = cc

-- the heap refuses what is done
abbrev pub IsRefusedAs : Act → Bare → Refusal → Type 0
IsRefusedAs idle content why = ⊥
IsRefusedAs (give entry align) content why = asked_block tt align (asked_size entry.size) content ≡ Err why
IsRefusedAs (take address place) content why = ⊥
IsRefusedAs (move old place entry) content why = realloc (λ one other. true) tt (Some (place, tt)) (asked_size entry.size) content ≡ Err why

module _ (content : Bare) (good : IsGood content) (held : ℕ → Option Given) where
  leaves_idle : LeavesHeap (IsRefusedAs idle content) content held (unserved [] content)
  leaves_idle = record {
    good = good;
    records = refl;
    pools = refl;
    gone = λ address given b is. absurd (cc);
    refused = tt;
    sized = λ room new is. absurd (cc);
  }

  leaves_asked : (entry : Entry) (align : Option ℕ) (answer : Result (ℕ × Bare) Refusal)
      → asked_block tt align (asked_size entry.size) content ≡ answer → LeavesHeap (IsRefusedAs (give entry align) content) content held (answered entry content answer)
  leaves_asked entry align (Ok (place, new)) is =
      let given : Given = record { entry = entry; place = place } in
      record {
        good = asked_good tt align (asked_size entry.size) content (place, new) good is;
        records = asked_records tt align (asked_size entry.size) content (place, new) is;
        pools = asked_pools tt align (asked_size entry.size) content (place, new) is;
        gone = λ other given b taken. absurd (cc);
        refused = tt;
        sized = λ room one one_is b has live b_at. (
            let same : given ≡ one = (let e : Some given ≡ Some one = one_is in cc) in
            let sized : IsRounded (asked_size entry.size) b = asked_sized tt align (asked_size entry.size) content (place, new) good is b has live (b_at ∙ ap (λ (g : Given). g.place) (sym same)) in
            subst (λ (g : Given). IsOfSize g b) same (rounded_is given b sized));
      }
  leaves_asked entry align (Err refusal) is = record {
    good = good;
    records = refl;
    pools = refl;
    gone = λ other given b taken. absurd (cc);
    refused = ((λ other why told. is ∙ ap Err (same_refusal entry.addr other refusal why told)), tt);
    sized = λ room new given_is. absurd (cc);
  }

  -- the block at the place is freed, where it is live
  record IsWithout (place : ℕ) (new : Bare) : Type 0 where
    good_still : IsGood new
    as_many : new.records ≡ content.records
    same_pools : bytes_of new.pools ≡ bytes_of content.pools
    none_there : (b : Block (Unit {0})) → Contains (blocks_of new.pools) b → is_free b ≡ false → b.place ≢ place

  is_without : (place : ℕ) → IsWithout place (without place content)
  is_without place = elim (cases_Bool (is_live (λ (owner : Unit {0}). true) place (blocks_of content.pools))) [
    | inl there ↦
        let is : free (λ owner. true) place content ≡ Ok (after_free place content) = rw there refl in
        let left : without place content ≡ after_free place content = ap (left_by content) is in
        subst (IsWithout place) (sym left) (record {
          good_still = freed_is_good (λ owner. true) place content good there;
          as_many = refl;
          same_pools = freed_pools place content;
          none_there = λ b has live. freed_elsewhere place content b has live;
        })
    | inr stale ↦
        let is : free (λ owner. true) place content ≡ Err BadPointer = rw stale refl in
        let left : without place content ≡ content = ap (left_by content) is in
        subst (IsWithout place) (sym left) (record {
          good_still = good;
          as_many = refl;
          same_pools = refl;
          none_there = λ b has live. stale_elsewhere place content BadPointer b is has live;
        })
  ]

  -- what is left where an address was taken, and its block with it
  taken_gone : (old : ℕ) (from : Given) (moment : Moment) → held old ≡ Some from → moment.taken ≡ Some old
      → ((b : Block (Unit {0})) → Contains (blocks_of moment.content.pools) b → is_free b ≡ false → b.place ≡ from.place → (new : Given) × (moment.given ≡ Some new) × (new.place ≡ b.place))
      → (address : ℕ) (given : Given) (b : Block (Unit {0})) → moment.taken ≡ Some address → held address ≡ Some given → Contains (blocks_of moment.content.pools) b → is_free b ≡ false → b.place ≡ given.place
      → (new : Given) × (moment.given ≡ Some new) × (new.place ≡ b.place)
  taken_gone old from moment held_old taken_old gone address given b taken held_so has live at =
      let same : old ≡ address = (let e : Some old ≡ Some address = sym taken_old ∙ taken in cc) in
      let one_is : from ≡ given = (let e : Some from ≡ Some given = sym held_old ∙ ap held same ∙ held_so in cc) in
      gone b has live (at ∙ ap (λ (g : Given). g.place) (sym one_is))

  leaves_taken : (address : ℕ) (from : Given) → held address ≡ Some from → LeavesHeap (IsRefusedAs (take address from.place) content) content held (done (take address from.place) content)
  leaves_taken address from is =
      let left = is_without from.place in
      record {
        good = left.good_still;
        records = left.as_many;
        pools = left.same_pools;
        gone = taken_gone address from (done (take address from.place) content) is refl (λ b has live b_at. absurd (left.none_there b has live b_at));
        refused = tt;
        sized = λ room new given_is. absurd (cc);
      }

  leaves_moved : (old : ℕ) (from : Given) (entry : Entry) (answer : Result (Option (ℕ × Unit {0}) × Bare) Refusal) → held old ≡ Some from
      → realloc (λ one other. true) tt (Some (from.place, tt)) (asked_size entry.size) content ≡ answer
      → LeavesHeap (IsRefusedAs (move old from.place entry) content) content held (moved old from.place entry content answer)
  leaves_moved old from entry (Ok (Some (place, owner), new)) held_old is =
      let given : Given = record { entry = entry; place = place } in
      record {
        good = realloc_is_good (λ one other. true) tt (Some (from.place, tt)) (asked_size entry.size) content (Some (place, owner), new) good is;
        records = moved_records (λ one other. true) tt tt from.place (asked_size entry.size) content (Some (place, owner), new) is;
        pools = moved_pools (λ one other. true) tt tt from.place (asked_size entry.size) content (Some (place, owner), new) is;
        gone = taken_gone old from (moved old from.place entry content (Ok (Some (place, owner), new))) held_old refl (λ b has live b_at. (
            let gave = moved_elsewhere (λ one other. true) tt tt from.place (asked_size entry.size) content b (Some (place, owner), new) is has live b_at in
            let place_is : place ≡ from.place = (let e : Some (place, owner) ≡ Some (from.place, gave.0) = gave.1 in let pair : (place, owner) ≡ (from.place, gave.0) = cc in ap (λ (pointer : ℕ × Unit {0}). pointer.0) pair) in
            (given, refl, place_is ∙ sym b_at)));
        refused = tt;
        sized = λ room one one_is b has live b_at. (
            let same : given ≡ one = (let e : Some given ≡ Some one = one_is in cc) in
            let sized : IsRounded (asked_size entry.size) b = moved_sized (λ one other. true) tt tt from.place (asked_size entry.size) content good room (Some (place, owner), new) is place owner refl b has live (b_at ∙ ap (λ (g : Given). g.place) (sym same)) in
            subst (λ (g : Given). IsOfSize g b) same (rounded_is given b sized));
      }
  leaves_moved old from entry (Ok (None, new)) held_old is =
      record {
        good = realloc_is_good (λ one other. true) tt (Some (from.place, tt)) (asked_size entry.size) content (None, new) good is;
        records = moved_records (λ one other. true) tt tt from.place (asked_size entry.size) content (None, new) is;
        pools = moved_pools (λ one other. true) tt tt from.place (asked_size entry.size) content (None, new) is;
        gone = taken_gone old from (moved old from.place entry content (Ok (None, new))) held_old refl (λ b has live b_at. (
            let gave = moved_elsewhere (λ one other. true) tt tt from.place (asked_size entry.size) content b (None, new) is has live b_at in
            absurd (none_given from.place gave.0 gave.1)));
        refused = tt;
        sized = λ room one one_is. absurd (cc);
      }
  leaves_moved old from entry (Err refusal) held_old is =
      let left = is_without from.place in
      record {
        good = left.good_still;
        records = left.as_many;
        pools = left.same_pools;
        gone = taken_gone old from (moved old from.place entry content (Err refusal)) held_old refl (λ b has live b_at. absurd (left.none_there b has live b_at));
        refused = ((λ other why told. is ∙ ap Err (same_refusal entry.addr other refusal why told)), tt);
        sized = λ room one one_is. absurd (cc);
      }

  -- other diagnostics stand in front
  leaves_after_diagnostics : (answers : Refusal → Type 0) (diagnostics : List Diagnostic) (moment : Moment) → AreRefusals answers diagnostics
      → LeavesHeap answers content held moment → LeavesHeap answers content held (after_diagnostics diagnostics moment)
  leaves_after_diagnostics answers diagnostics moment first leaves = record {
    good = leaves.good;
    records = leaves.records;
    pools = leaves.pools;
    gone = leaves.gone;
    refused = AllByRecursion-append (λ (one : Diagnostic). (address : ℕ) (why : Refusal) → one.kind ≡ Refused address why → answers why) diagnostics moment.diagnostics first leaves.refused;
    sized = leaves.sized;
  }

  -- what is no refusal needs no answer
  none_refused : (answers : Refusal → Type 0) (diagnostics : List Diagnostic) → AllByRecursion IsNoRefusal diagnostics → AreRefusals answers diagnostics
  none_refused answers [] none = tt
  none_refused answers (one ∷ diagnostics) none = ((λ address why told. absurd (none.0 address why told)), none_refused answers diagnostics none.1)

  leaves_done : (number : ℕ) (act : Act) → Fits number held act → LeavesHeap (IsRefusedAs act content) content held (done act content)
  leaves_done number idle fits = leaves_idle
  leaves_done number (give entry align) fits = leaves_asked entry align (asked_block tt align (asked_size entry.size) content) refl
  leaves_done number (take address place) fits =
      subst (λ (place : ℕ). LeavesHeap (IsRefusedAs (take address place) content) content held (done (take address place) content)) fits.2 (leaves_taken address fits.0 fits.1)
  leaves_done number (move old place entry) fits =
      let from = fits.1 in
      subst (λ (place : ℕ). LeavesHeap (IsRefusedAs (move old place entry) content) content held (done (move old place entry) content)) from.2
      (leaves_moved old from.0 entry (realloc (λ one other. true) tt (Some (from.0.place, tt)) (asked_size entry.size) content) from.1 refl)

  leaves_outcome : (number : ℕ) (line : ReadLine) (pending : Option ℕ) → LeavesHeap (IsRefusedAs (plan number line pending held).act content) content held (outcome number line pending held content)
  leaves_outcome number line pending =
      let planned = is_planned number held line pending in
      let now = plan number line pending held in
      let answers = IsRefusedAs now.act content in
      leaves_after_diagnostics answers now.first (done now.act content) (none_refused answers now.first planned.none_refused) (leaves_done number now.act planned.fits)

  -- what a line leaves, with what it tells of the line before
  pub leaves_moment : (before : ℕ) (line : ReadLine) (pending : Option ℕ) → LeavesHeap (IsRefusedAs (plan (suc before) line pending held).act content) content held (moment before line pending held content)
  leaves_moment before line pending =
      let answers = IsRefusedAs (plan (suc before) line pending held).act content in
      let first = if is_new line then [] else half before pending in
      leaves_after_diagnostics answers first (outcome (suc before) line pending held content) (none_refused answers first (half_told (is_new line))) (leaves_outcome (suc before) line pending)
    where
      half_so : (found : Option ℕ) → AllByRecursion IsNoRefusal (half before found)
      half_so None = tt
      half_so (Some address) = ((λ other why e. cc), tt)

      half_told : (new : Bool) → AllByRecursion IsNoRefusal (if new then [] else half before pending)
      half_told true = tt
      half_told false = half_so pending
