-- A log that asks for blocks of one size alone, and without a heap never holds more than a number of them, is refused nothing on
-- one pool with the bytes of as many.
use Rattle.std.proofs.Math.Path.{fun_ext}
use Rattle.std.proofs.Common.{◌≡◌, ◌≢◌, ℕ, suc, ◌*◌, ◌<◌, ◌≤◌, Bool, true, false, cond, List, [], ◌∷◌, length, map, reverse, not, is_some, Option, Some, None, Ok, Err, refl, sym, ap, ◌∙◌, subst, arith, inl, inr}
use Rattle.std.specs.Prelude.{Result, ◌==◌, ◌&&◌, count_by}
use Rattle.std.specs.List.{AllByRecursion}
use Rattle.std.proofs.lemmas.Bool.{cases_Bool, eqb-true, eq-eqb, ne_eqb}
use Rattle.std.proofs.lemmas.Map.Keys.{sorted_from_strictly_increasing, IsStrictlyIncreasing-from_sorted}
use Rattle.tlsf_class.specs.Rounding.{round}
use Rattle.tlsf_heap.specs.declared.refusal.Refusal.{Refusal}
use Rattle.tlsf_heap.specs.Malloc.{malloc}
use Rattle.tlsf_heap.specs.Memalign.{memalign}
use Rattle.tlsf_heap.specs.Free.{after_free}
use Rattle.tlsf_heap.specs.Implied.{live_blocks}
use Rattle.tlsf_heap.specs.OneSize.{HasRecords}
use Rattle.tlsf_heap.specs.Sizing.{class_size}
use Rattle.tlsf_heap.proofs.Counts.{one_if, count-cons}
use Rattle.tlsf_heap.proofs.Good.OneSizePool.{IsLowest, IsForSize, malloc_for, memalign_for, freed_for, realloc_kept, positive}
use Rattle.tlsf_heap.proofs.Good.OneSize.{malloc_given, memalign_given_or_bad, one_pool_for, own_class}
use Rattle.tlsf_heap.proofs.Good.StaysLive.{free_of_live}
use Rattle.indexmap.proofs.ReorderLemmas.{map-reverse}
use Rattle.mtrace_log.specs.declared.event.Event.TheVariants.{Alloc, Free, New, Aligned}
use Rattle.mtrace_log.specs.declared.event.LineFault.TheVariants as fault
use Rattle.mtrace_replay.specs.declared.held.diagnostic.Kind.TheVariants.{AlreadyHeld}
use Rattle.mtrace_replay.specs.Entry.{Entry}
use Rattle.mtrace_replay.specs.Started.{Bare, left_by, started}
use Rattle.mtrace_replay.specs.Settings.{are_bad}
use Rattle.mtrace_replay.specs.Fit.{one_pool}
use Rattle.mtrace_replay.specs.Moment.{ReadLine, Given, Moment, Act, idle, give, take, move, plan, asked_size, answered, moved, done, without as heap_without, allocation, release, reallocation, renewal, none_for, doing}
use Rattle.mtrace_replay.specs.History.{AreHeld, held, moments, next_moment, content_after, pending}
use Rattle.mtrace_replay.specs.Totals.{is_refused}
use Rattle.mtrace_replay.specs.Enough.{HoldsAtMost, act_of}
use Rattle.mtrace_replay.specs.LedgerReplay.{act_moment, ledger_moment, ledger_moments, unplaced}
use Rattle.mtrace_replay.specs.Step.{held_given}
use Rattle.mtrace_replay.specs.OneSize.{ledger_act, ledger_acts, AsksForSize, rounded_up}
use Rattle.mtrace_replay.proofs.History.TotalsLemmas.{AreAllFree, first_moments_all, started_free}
use Rattle.mtrace_replay.proofs.History.Moments.{moments-none, moments-line}
use Rattle.mtrace_replay.proofs.History.PlanLemmas.{Fits, is_planned}
use Rattle.mtrace_replay.proofs.History.HeldCounts.{Rise, without, rise-without, held_given-without}
use Rattle.mtrace_replay.proofs.History.SortedLemmas.{addresses}
use Rattle.mtrace_replay.proofs.History.FoundLemmas.{found_is_held, held_as_found}
use Rattle.mtrace_replay.proofs.Enough.LineOnHeap.{IsRefusedAs, leaves_moment}
use Rattle.mtrace_replay.proofs.Enough.EnoughRecords.{first_but_one, few_held}
use Rattle.mtrace_replay.proofs.OnHeap.HeldLive.{AllLive, IsLiveAt, all_live}
use Rattle.mtrace_replay.proofs.Enough.UnrefusedLemmas.{bare, bare_act, plain, moment_bare, asked_some, ledger_alike, held_plain, held_back, length_back}
use Rattle.mtrace_replay.proofs.Enough.FittedPool.{no_refusal, never_bad, act_bare}
use Rattle.mtrace_replay.proofs.OnHeap.StartLemmas.{one_pool_added}

-- ---- what is asked for, with the place of a block or without

asks_bare : (size : ℕ) (act : Act) → AsksForSize size act → AsksForSize size (bare_act act)
asks_bare size idle asks = asks
asks_bare size (give entry None) asks = asks
asks_bare size (give entry (Some align)) asks = asks
asks_bare size (take address place) asks = asks
asks_bare size (move old place entry) asks = asks

bare_asks : (size : ℕ) (act : Act) → AsksForSize size (bare_act act) → AsksForSize size act
bare_asks size idle asks = asks
bare_asks size (give entry None) asks = asks
bare_asks size (give entry (Some align)) asks = asks
bare_asks size (take address place) asks = asks
bare_asks size (move old place entry) asks = asks

-- ---- what is held behind a line that was given a block

length-without : (a : ℕ) (es : List Given) (given : Given) → held_given es a ≡ Some given → length es ≡ suc (length (without a es))
length-without a [] given is = absurd (cc)
length-without a (f ∷ fs) given is = by (length-without a fs given) (f.entry.addr == a) is
  where
    by : (held_given fs a ≡ Some given → length fs ≡ suc (length (without a fs))) → (b : Bool) → cond b (Some f) (held_given fs a) ≡ Some given → suc (length fs) ≡ suc (length (cond b fs (f ∷ without a fs)))
    by more true here = refl
    by more false later = ap suc (more later)

-- what is held is what was held before, and the address given
one_more_held : (new : Given) (one : Moment) (past : List Moment) (all : List Given) → one.given ≡ Some new → one.taken ≡ None → held past new.entry.addr ≡ None → AreHeld all (one ∷ past)
    → AreHeld (without new.entry.addr all) past × (length all ≡ suc (length (without new.entry.addr all)))
one_more_held new one past all gave took none are =
    (held_as_found (without address all) past (IsStrictlyIncreasing-from_sorted (addresses (without address all)) (rise-without address all rise)) (λ q. held_given-without address all rise q ∙ at q), length-without address all new (found_is_held all (one ∷ past) are address ∙ after address ∙ here address refl))
  where
    address : ℕ
    address = new.entry.addr

    rise : Rise all
    rise = sorted_from_strictly_increasing (addresses all) are.in_order

    after : (q : ℕ) → held (one ∷ past) q ≡ cond (address == q) (Some new) (held past q)
    after q = rw (gave, took) refl

    here : (q : ℕ) → address ≡ q → cond (address == q) (Some new) (held past q) ≡ Some new
    here q same = ap (λ b. cond b (Some new) (held past q)) (eq-eqb address q same)

    at : (q : ℕ) → cond (address == q) None (held_given all q) ≡ held past q
    at q = elim (cases_Bool (address == q)) [
      | inl same ↦ ap (λ b. cond b None (held_given all q)) same ∙ sym none ∙ ap (held past) (eqb-true address q same)
      | inr other ↦ ap (λ b. cond b None (held_given all q)) other ∙ found_is_held all (one ∷ past) are q ∙ after q ∙ ap (λ b. cond b (Some new) (held past q)) other
    ]

module _ (blocks size base : ℕ) (lowest : IsLowest size) where
  -- what is done is refused nothing, and leaves a heap for the size
  record Serves (act : Act) (content : Bare) : Type 0 where
    granted : (why : Refusal) → IsRefusedAs act content why → ⊥
    still : IsForSize blocks size base (done act content).content

  some_asked : (bytes : ℕ) → asked_size bytes ≢ 0
  some_asked bytes nothing = let e : true ≡ false = sym (eq-eqb (asked_size bytes) 0 nothing) ∙ asked_some bytes in cc

  asked_still : (entry : Entry) (align : Option ℕ) (content : Bare) (answer : Result (ℕ × Bare) Refusal) → IsForSize blocks size base content
      → ((given : ℕ × Bare) → answer ≡ Ok given → IsForSize blocks size base given.1) → IsForSize blocks size base (answered entry content answer).content
  asked_still entry align content (Ok (place, new)) is served = served (place, new) refl
  asked_still entry align content (Err refusal) is served = is

  act_serves : (number : ℕ) (look : ℕ → Option Given) (content : Bare) (act : Act) → IsForSize blocks size base content → AllLive content look → Fits number look act → AsksForSize size act
      → ((entry : Entry) (align : Option ℕ) → act ≡ give entry align → live_blocks content < blocks) → Serves act content
  act_serves number look content idle is live fits asks few = record { granted = λ why refused. refused; still = is }
  act_serves number look content (give entry None) is live fits asks few =
      let n = asked_size entry.size in record {
        granted = λ why refused. malloc_given blocks size base lowest tt n content is (some_asked entry.size) (record { few = few entry None refl; rounds = asks }) why refused;
        still = asked_still entry None content (malloc tt n content) is (λ given served. malloc_for blocks size base tt n content given is asks served);
      }
  act_serves number look content (give entry (Some align)) is live fits asks few =
      let n = asked_size entry.size in record {
        granted = λ why refused.
            let bad = memalign_given_or_bad blocks size base lowest tt align n content is asks.1 (some_asked entry.size) (record { few = few entry (Some align) refl; rounds = asks.2 }) why refused in
            never_bad align n content asks.0 (asked_some entry.size) (refused ∙ ap Err bad);
        still = asked_still entry (Some align) content (memalign tt align n content) is (λ given served. memalign_for blocks size base tt align n content given is asks.1 asks.2 served);
      }
  act_serves number look content (take address place) is live fits asks few =
      let there : IsLiveAt place content = subst (λ p. IsLiveAt p content) fits.2 (live.live address fits.0 fits.1) in
      let freed : heap_without place content ≡ after_free place content = ap (left_by content) (free_of_live (λ owner. true) place content there) in
      record { granted = λ why refused. refused; still = subst (IsForSize blocks size base) (sym freed) (freed_for blocks size base (λ owner. true) place content is there) }
  act_serves number look content (move old place entry) is live fits asks few =
      let from = fits.1 in
      let there : IsLiveAt place content = subst (λ p. IsLiveAt p content) from.2 (live.live old from.0 from.1) in
      let n = asked_size entry.size in
      let kept = realloc_kept blocks size base (λ one other. true) tt place tt n content is.good is.cut there (some_asked entry.size) asks in
      record {
        granted = λ why refused. cc (kept, refused);
        still = subst (λ (answer : Result (Option (ℕ × Unit {0}) × Bare) Refusal). IsForSize blocks size base (moved old place entry content answer).content) (sym kept) is;
      }

  -- ---- the log

  module _ (start : Bare) (ready : IsForSize blocks size base start) (free : AreAllFree start) where
    -- what is so of the lines without a heap
    record IsSo (past : List ReadLine) : Type 0 where
      holds : HoldsAtMost blocks (ledger_moments past)
      asks : AllByRecursion (AsksForSize size) (ledger_acts past)

    -- and then on the heap
    record IsHere (past : List ReadLine) : Type 0 where
      unrefused : count_by is_refused (moments start past) ≡ 0
      still : IsForSize blocks size base (content_after start (moments start past))

    fewer : (line : ReadLine) (past : List ReadLine) → IsSo (line ∷ past) → IsSo past
    unfolding ledger_moments
    fewer line past so = record {
      holds = first_but_one (λ first. (all : List Given) × AreHeld all first × (length all ≤ blocks)) _ (ledger_moments past) so.holds;
      asks = so.asks.1;
    }

    look_alike : (past : List ReadLine) → IsHere past → held (ledger_moments past) ≡ (λ a. bare (held (moments start past) a))
    look_alike past before = ap held (ledger_alike start past before.unrefused) ∙ fun_ext (held_plain (moments start past))

    act_alike : (line : ReadLine) (past : List ReadLine) → IsHere past → bare_act (ledger_act line past) ≡ bare_act (act_of start line past)
    act_alike line past before =
        ap (λ (look : ℕ → Option Given). bare_act (plan (suc (length past)) line (pending past) look).act) (look_alike past before) ∙ act_bare (suc (length past)) line (pending past) (held (moments start past))

    -- a line that asks for a block finds fewer live ones
    few_before : (line : ReadLine) (past : List ReadLine) → IsSo (line ∷ past) → IsHere past → Fits (suc (length past)) (held (moments start past)) (act_of start line past)
        → (entry : Entry) (align : Option ℕ) → act_of start line past ≡ give entry align → live_blocks (content_after start (moments start past)) < blocks
    unfolding ledger_moments
    few_before line past so before fits entry align is =
        let ms = moments start past in
        let ones = ledger_moments past in
        let one = ledger_moment (length past) line (pending past) (held ones) in
        let last = so.holds (length (one ∷ ones)) in
        let all : AreHeld last.0 (one ∷ ones) = subst (λ (first : List Moment). AreHeld last.0 first) (first_moments_all (one ∷ ones)) last.1 in
        let its : act_moment (ledger_act line past) ≡ act_moment (give entry align) =
        sym (moment_bare (ledger_act line past)) ∙ ap act_moment (act_alike line past before) ∙ moment_bare (act_of start line past) ∙ ap act_moment is in
        let not_held : held ms entry.addr ≡ None = (subst (Fits (suc (length past)) (held ms)) is fits).1 in
        let none : held ones entry.addr ≡ None = ap (λ (look : ℕ → Option Given). look entry.addr) (look_alike past before) ∙ ap bare not_held in
        let less = one_more_held (unplaced entry) one ones last.0 (ap (λ (m : Moment). m.given) its) (ap (λ (m : Moment). m.taken) its) none all in
        let rest = without entry.addr last.0 in
        let on_heap : AreHeld rest (map plain ms) = subst (AreHeld rest) (ledger_alike start past before.unrefused) less.0 in
        omega (arith, few_held start ready.good free past _ (held_back ms rest on_heap), length_back ms rest on_heap, less.1, last.2)

    here : (past : List ReadLine) → IsSo past → IsHere past
    here [] so = record {
      unrefused = ap (count_by is_refused) (moments-none start);
      still = subst (λ (ms : List Moment). IsForSize blocks size base (content_after start ms)) (sym (moments-none start)) ready;
    }
    here (line ∷ past) so =
        let ms = moments start past in
        let content = content_after start ms in
        let act = act_of start line past in
        let before = here past (fewer line past so) in
        let asks : AsksForSize size act = bare_asks size act (subst (AsksForSize size) (act_alike line past before) (asks_bare size (ledger_act line past) so.asks.0)) in
        let planned = is_planned (suc (length past)) (held ms) line (pending past) in
        let serves = act_serves (suc (length past)) (held ms) content act before.still (all_live start ready.good free past) planned.fits asks (few_before line past so before planned.fits) in
        let leaves = leaves_moment content before.still.good (held ms) (length past) line (pending past) in
        let now = next_moment start line past ms in
        let none : is_refused now ≡ false = no_refusal (IsRefusedAs act content) now.diagnostics leaves.refused serves.granted in
        record {
          unrefused = ap (count_by is_refused) (moments-line start line past) ∙ omega (arith, count-cons is_refused now ms, ap one_if none, before.unrefused);
          still = subst (λ (all : List Moment). IsForSize blocks size base (content_after start all)) (sym (moments-line start line past)) serves.still;
        }

pub one_size_serves : (blocks size pool records : ℕ) (past : List ReadLine) → class_size 1 size ≡ Some size → AllByRecursion (AsksForSize size) (ledger_acts past) → HoldsAtMost blocks (ledger_moments past)
    → are_bad (one_pool pool records) ≡ false → blocks * size ≤ pool → HasRecords blocks size pool records → count_by is_refused (moments (started (one_pool pool records)) past) ≡ 0
one_size_serves blocks size pool records past sized asks holds good large many =
    let settings = one_pool pool records in
    (here blocks size (0 * pool) (own_class size sized) (started settings)
    (one_pool_for blocks size records (0 * pool) pool (started settings) (one_pool_added pool records good) large many) (started_free settings)
    past (record { holds = holds; asks = asks })).unrefused

-- ---- a log whose requests are rounded up

module _ (size : ℕ) (rounds : round (asked_size size) ≡ Some size) where
  allocation_asks : (entry : Entry) (here : Option Given) → entry.size ≡ size → AsksForSize size (allocation entry None here).act
  allocation_asks entry None same = ap (λ n. round (asked_size n)) same ∙ rounds
  allocation_asks entry (Some given) same = tt

  release_asks : (number address : ℕ) (here : Option Given) → AsksForSize size (release number address here).act
  release_asks number address None = tt
  release_asks number address (Some given) = tt

  reallocation_asks : (entry : Entry) (old : ℕ) (from here : Option Given) → entry.size ≡ size → AsksForSize size (reallocation entry old from here).act
  reallocation_asks entry old None here same = allocation_asks entry here same
  reallocation_asks entry old (Some from) here same = by (not (entry.addr == old) && is_some here)
    where
      by : (b : Bool) → AsksForSize size (cond b (none_for entry.line (AlreadyHeld entry.addr)) (doing (move old from.place entry))).act
      by true = tt
      by false = ap (λ n. round (asked_size n)) same ∙ rounds

  renewal_asks : (entry : Entry) (pending : Option ℕ) (look : ℕ → Option Given) → entry.size ≡ size → AsksForSize size (renewal entry pending look).act
  renewal_asks entry None look same = tt
  renewal_asks entry (Some old) look same = reallocation_asks entry old (look old) (look entry.addr) same

  line_asks : (number : ℕ) (line : ReadLine) (pending : Option ℕ) (look : ℕ → Option Given) → AsksForSize size (plan number (rounded_up size line) pending look).act
  line_asks number (Err fault.TooLong) pending look = tt
  line_asks number (Err fault.NotALine) pending look = tt
  line_asks number (Ok (Alloc at (Some address) bytes)) pending look = allocation_asks (record { addr = address; size = size; line = number; at = at }) (look address) refl
  line_asks number (Ok (Aligned at address align bytes)) pending look = allocation_asks (record { addr = address; size = size; line = number; at = at }) (look address) refl
  line_asks number (Ok (Free at address)) pending look = release_asks number address (look address)
  line_asks number (Ok (New at address bytes)) pending look = renewal_asks (record { addr = address; size = size; line = number; at = at }) pending look refl
  line_asks number (Ok _) pending look = tt

  pub all_ask : (past : List ReadLine) → AllByRecursion (AsksForSize size) (ledger_acts (map (rounded_up size) past))
  all_ask [] = tt
  all_ask (line ∷ past) = (line_asks _ line _ _, all_ask past)

pub rounded_serves : (blocks size pool records : ℕ) (lines : List ReadLine) → class_size 1 size ≡ Some size → HoldsAtMost blocks (ledger_moments (reverse (map (rounded_up size) lines)))
    → are_bad (one_pool pool records) ≡ false → blocks * size ≤ pool → HasRecords blocks size pool records → count_by is_refused (moments (started (one_pool pool records)) (reverse (map (rounded_up size) lines))) ≡ 0
rounded_serves blocks size pool records lines sized =
    let rounds : round size ≡ Some size = (own_class size sized).rounds in
    let some : size ≢ 0 = λ nothing. omega (arith, nothing, positive size size rounds) in
    let asks : round (asked_size size) ≡ Some size = ap (λ b. round (cond b 1 size)) (ne_eqb size 0 some) ∙ rounds in
    one_size_serves blocks size pool records (reverse (map (rounded_up size) lines)) sized
    (subst (λ past. AllByRecursion (AsksForSize size) (ledger_acts past)) (map-reverse (rounded_up size) lines) (all_ask size asks (reverse lines)))
