-- Through a run of calls a program's blocks stay live and apart. Within its numbers no call is refused.
use Rattle.std.proofs.Common.{◌≡◌, ◌≢◌, ℕ, ◌+◌, ◌*◌, ◌<◌, ◌≤◌, ◌⊎◌, true, false, cond, List, [], ◌∷◌, map, length, count_by, refl, sym, ap, subst, arith, Some, inl, inr}
use Rattle.std.specs.Prelude.{◌==◌, ◌/◌, not, if◌then◌else◌}
use Rattle.std.specs.List.{All, AllPairs, AllByRecursion}
use Rattle.std.proofs.lemmas.Bool.{cases_Bool, cases_eq, cases_order, eq-eqb, ne_eqb}
use Rattle.std.proofs.lemmas.List.Elements.{All-from_recursion}
use Rattle.std.proofs.lemmas.List.Kept.{AllPairs-cons}
use Rattle.tlsf_class.specs.Classes.{unit}
use Rattle.tlsf_class.specs.Rounding.{round, rounded}
use Rattle.tlsf_class.proofs.RoundingLaws.{round-Some, le-rounded, rounded-unit}
use Rattle.tlsf_heap.specs.Content.{Block, Content, blocks_of, is_free, used_records}
use Rattle.tlsf_heap.specs.Counted.{Counted, range_of}
use Rattle.tlsf_heap.specs.Good.{IsGood}
use Rattle.tlsf_heap.specs.Implied.{live_blocks}
use Rattle.tlsf_heap.specs.Room.{live_bytes}
use Rattle.tlsf_heap.specs.Sizing.{class_size}
use Rattle.tlsf_heap.proofs.Counts.{one_if, count-cons}
use Rattle.tlsf_heap.proofs.Good.Implied.{few_blocks}
use Rattle.tlsf_c.specs.declared.placed_pool.PlacedPool.{PlacedPool}
use Rattle.tlsf_c.specs.Fronts.{front, told_size}
use Rattle.tlsf_c.specs.Held.{Held, held_then, held_after, with_told, without, AreOwn, IsOwn, EndsBefore, AreHeld, asked_bytes, AsksWithin, KeepsToNumbers, AllKeepToNumbers, KeepsToOneSize, AllKeepToOneSize, IsNoRefusal, AreNoRefusals}
use Rattle.tlsf_c.specs.PlacedPools.{IsPlaced, AreApart, AreEntriesOf}
use Rattle.tlsf_c.specs.PlacedRuns.{Call, ask, ask_aligned, ask_again, give_back, Told, CallStep, CallRun, KeepsTo, IsCallWithin, IsCallOfSize, CallsStayOfSize, IsServedCall, AreServedCalls}
use Rattle.tlsf_c.proofs.HeldLemmas.{IsAway, AreDistinct, told_bytes, each_zip, each_without}
use Rattle.tlsf_c.proofs.HeldRuns.{IsSized, IsLong, IsExact, IsSound, IsLive, AreAllLive, held_is_live, step_leaves, moved_exact}
use Rattle.tlsf_c.proofs.PlacedLemmas.{live_apart}
use Rattle.tlsf_c.proofs.PlacedRunLemmas.{AsksLess, IsEnoughFor, call_serves}

-- what a program asked for a block fits the size that the word tells
abbrev pub Fits : ((asked size : ℕ) → Type 0) → Held → Type 0
Fits fits block = fits block.asked (told_size block.word block.address)

module _ (fits : (asked size : ℕ) → Type 0) where
  given_fits : (n : ℕ) (told : Told) (held : List Held) (others : List Held) → (0 < told.address → fits n (told_size told.word told.address)) → AllByRecursion (Fits fits) others → AllByRecursion (Fits fits) held
      → AllByRecursion (Fits fits) (cond (told.address == 0) others (with_told n told held))
  given_fits n told held others new all_others all = elim (cases_eq told.address 0) [
    | inl none ↦ (let left : cond (told.address == 0) others (with_told n told held) ≡ others = rw (eq-eqb told.address 0 none) refl in subst (λ (l : List Held). AllByRecursion (Fits fits) l) (sym left) all_others)
    | inr some ↦ (
        let left : cond (told.address == 0) others (with_told n told held) ≡ with_told n told held = rw (ne_eqb told.address 0 some) refl in
        subst (λ (l : List Held). AllByRecursion (Fits fits) l) (sym left) (new (omega (arith, some)), all))
  ]

  -- so it is with what is held then
  then_fits : (call : Call) (told : Told) (held : List Held) → IsSized fits call told → AllByRecursion (Fits fits) held → AllByRecursion (Fits fits) (held_then call told held)
  then_fits (ask n) told held sized all = given_fits n told held held sized all all
  then_fits (ask_aligned align n) told held sized all = given_fits n told held held sized all all
  then_fits (ask_again address word n) told held sized all = given_fits n told (without address held) held sized all (each_without (Fits fits) address held all)
  then_fits (give_back address word) told held sized all = elim (told.word == 0) as (λ b. AllByRecursion (Fits fits) (cond b (without address held) held)) [
    | true ↦ each_without (Fits fits) address held all
    | false ↦ all
  ]

-- where no block is live they have no bytes
none_live_bytes : (blocks : List (Block ℕ)) → count_by (λ (block : Block ℕ). not (is_free block)) blocks ≡ 0 → live_bytes blocks ≡ 0
none_live_bytes [] none = refl
none_live_bytes (block ∷ blocks) none =
    let counted = count-cons (λ (b : Block ℕ). not (is_free b)) block blocks in
    elim (cases_Bool (is_free block)) [
      | inl free ↦
          let rest : live_bytes (block ∷ blocks) ≡ 0 + live_bytes blocks = ap (λ b. (if b then 0 else block.size) + live_bytes blocks) free in
          omega (arith, rest, none_live_bytes blocks (omega (arith, none, counted)))
      | inr live ↦ absurd (omega (arith, none, counted, ap (λ f. one_if (not f)) live))
    ]

module _ (pools : List PlacedPool) (apart : AllPairs AreApart pools) where
  abbrev BothLive : Content ℕ → Held → Type 0
  BothLive content block = IsLive pools apart content block × Fits IsLong block

  abbrev AreApartHeld : Held → Held → Type 0
  AreApartHeld one other = EndsBefore one other ⊎ EndsBefore other one

  -- two blocks at two addresses are apart
  two_apart : (content : Content ℕ) (one other : Held) → IsSound pools apart content → BothLive content one → BothLive content other → other.address ≢ one.address → AreApartHeld one other
  two_apart content one other sound live live_other away = elim (cases_order one.address other.address) [
    | inl same ↦ absurd (away (sym same))
    | inr order ↦ elim order [
      | inl below ↦ inl (omega (arith, live.1, live_apart one.address other.address one.word other.word pools content sound.good apart sound.entries live.0 live_other.0 below))
      | inr above ↦ inr (omega (arith, live_other.1, live_apart other.address one.address other.word one.word pools content sound.good apart sound.entries live_other.0 live.0 above))
    ]
  ]

  all_apart : (content : Content ℕ) (held : List Held) → IsSound pools apart content → AllByRecursion (BothLive content) held → AreDistinct held → AllPairs AreApartHeld held
  all_apart content [] sound live distinct = λ i j d less within. absurd (omega (arith, less, within))
  all_apart content (block ∷ held) sound live distinct =
      AllPairs-cons AreApartHeld block held
      (All-from_recursion (AreApartHeld block) held (each_zip (BothLive content) (IsAway block.address) (AreApartHeld block) (λ other is away. two_apart content block other sound live.0 is away) held live.1 distinct.0))
      (all_apart content held sound live.1 distinct.1)

  -- what is held at the end of a run
  run_holds : (calls : List Call) (tolds : List Told) (old new : Content ℕ) (held : List Held) (run : CallRun pools calls tolds old new) → IsSound pools apart old → AreAllLive pools apart old held → AllByRecursion (Fits IsLong) held → AreOwn calls tolds held
      → AreHeld pools new (held_after calls tolds held)
  run_holds [] [] old new held run sound all long own =
      let now : AreAllLive pools apart new held = subst (λ (c : Content ℕ). AreAllLive pools apart c held) (sym run) all in
      let sound_now : IsSound pools apart new = subst (IsSound pools apart) (sym run) sound in
      record {
        live = All-from_recursion (IsLive pools apart new) held now.live;
        long = All-from_recursion (Fits IsLong) held long;
        apart = all_apart new held sound_now (each_zip (IsLive pools apart new) (Fits IsLong) (BothLive new) (λ block live fits. (live, fits)) held now.live long) now.distinct;
      }
  run_holds [] (told ∷ tolds) old new held run sound all long own = absurd run
  run_holds (call ∷ calls) [] old new held run sound all long own = absurd run
  run_holds (call ∷ calls) (told ∷ tolds) old new held run sound all long own =
      let found : IsSound pools apart run.0.content = subst (IsSound pools apart) (sym run.2) sound in
      let found_live : AreAllLive pools apart run.0.content held = subst (λ (c : Content ℕ). AreAllLive pools apart c held) (sym run.2) all in
      let leaves = step_leaves pools apart call told run.0 run.1 held run.3 own.0 found found_live in
      run_holds calls tolds run.1.content new (held_then call told held) run.4 leaves.sound leaves.all_live (then_fits IsLong call told held leaves.long long) own.1

  -- where no block is live, a program holds none
  pub none_held : (content : Content ℕ) → live_blocks content ≡ 0 → AreAllLive pools apart content []
  none_held content none = record { live = tt; distinct = tt; blocks = none; bytes = none_live_bytes (blocks_of content.pools) none }

  pub held_blocks : (calls : List Call) (tolds : List Told) (old new : Content ℕ) (run : CallRun pools calls tolds old new) → IsGood old → live_blocks old ≡ 0 → ∥ AreEntriesOf (map range_of old.pools) pools ∥₁ → AreOwn calls tolds []
      → AreHeld pools new (held_after calls tolds [])
  held_blocks calls tolds old new run good none entries own = run_holds calls tolds old new [] run (record { good = good; entries = entries }) (none_held old none) tt own

module _ (pools : List PlacedPool) (apart : AllPairs AreApart pools) where
  -- a call that is served is no refusal
  no_refusal : (call : Call) (told : Told) (content : Content ℕ) (held : List Held) → AreAllLive pools apart content held → IsOwn call held → IsServedCall pools call told content → IsNoRefusal call told
  no_refusal (ask n) told content held all own served = served
  no_refusal (ask_aligned align n) told content held all own served = served
  no_refusal (ask_again address word n) told content held all own served = served (held_is_live pools apart address word content held all own)
  no_refusal (give_back address word) told content held all own served = served (held_is_live pools apart address word content held all own)

  -- nor is any call of a run
  pub no_refusals : (calls : List Call) (tolds : List Told) (old new : Content ℕ) (held : List Held) (run : CallRun pools calls tolds old new) → IsSound pools apart old → AreAllLive pools apart old held → AreOwn calls tolds held
      → AreServedCalls pools calls tolds old new run → AreNoRefusals calls tolds
  no_refusals [] [] old new held run sound all own served = tt
  no_refusals [] (told ∷ tolds) old new held run sound all own served = absurd run
  no_refusals (call ∷ calls) [] old new held run sound all own served = absurd run
  no_refusals (call ∷ calls) (told ∷ tolds) old new held run sound all own served =
      let found : IsSound pools apart run.0.content = subst (IsSound pools apart) (sym run.2) sound in
      let found_live : AreAllLive pools apart run.0.content held = subst (λ (c : Content ℕ). AreAllLive pools apart c held) (sym run.2) all in
      let leaves = step_leaves pools apart call told run.0 run.1 held run.3 own.0 found found_live in (
        no_refusal call told old held all own.0 served.0,
        no_refusals calls tolds run.1.content new (held_then call told held) run.4 leaves.sound leaves.all_live own.1 served.1,
      )

  -- a call for a block of one size finds as few live blocks as its program holds
  of_size : (blocks size : ℕ) (call : Call) (content : Content ℕ) (held : List Held) → AreAllLive pools apart content held → KeepsToOneSize blocks size call held → IsCallOfSize blocks size pools call content
  of_size blocks size (ask n) content held all keeps = λ some. record { few = omega (arith, (keeps some).few, all.blocks); rounds = (keeps some).rounds }
  of_size blocks size (ask_aligned align n) content held all keeps = λ is some. ((keeps is some).0, record { few = omega (arith, (keeps is some).1.few, all.blocks); rounds = (keeps is some).1.rounds })
  of_size blocks size (ask_again address word n) content held all keeps = λ live. keeps
  of_size blocks size (give_back address word) content held all keeps = tt

  pub all_of_size : (blocks size : ℕ) (calls : List Call) (tolds : List Told) (old new : Content ℕ) (held : List Held) (run : CallRun pools calls tolds old new) → IsSound pools apart old → AreAllLive pools apart old held → AreOwn calls tolds held
      → AllKeepToOneSize blocks size calls tolds held → CallsStayOfSize blocks size pools calls tolds old new run
  all_of_size blocks size [] [] old new held run sound all own keeps = tt
  all_of_size blocks size [] (told ∷ tolds) old new held run sound all own keeps = absurd run
  all_of_size blocks size (call ∷ calls) [] old new held run sound all own keeps = absurd run
  all_of_size blocks size (call ∷ calls) (told ∷ tolds) old new held run sound all own keeps =
      let found : IsSound pools apart run.0.content = subst (IsSound pools apart) (sym run.2) sound in
      let found_live : AreAllLive pools apart run.0.content held = subst (λ (c : Content ℕ). AreAllLive pools apart c held) (sym run.2) all in
      let leaves = step_leaves pools apart call told run.0 run.1 held run.3 own.0 found found_live in (
        of_size blocks size call old held all keeps.0,
        all_of_size blocks size calls tolds run.1.content new (held_then call told held) run.4 leaves.sound leaves.all_live own.1 keeps.1,
      )

-- a block has no more than what was asked for, rounded up, and a unit
abbrev IsTight : (asked size : ℕ) → Type 0
IsTight asked size = size ≤ rounded asked + unit

tight_exact : (n size : ℕ) → size ≡ (n + front + 15) / 16 * 16 → IsTight n size
tight_exact n size is = omega (arith, is, le-rounded n, rounded-unit n)

tight_round : (n size : ℕ) → round (n + front) ≡ Some size → IsTight n size
tight_round n size is = let rounds = round-Some (n + front) size is in omega (arith, rounds.near, rounds.whole, le-rounded n, rounded-unit n)

-- so the words tell no more than all that was asked for, and a unit a block
tight_bytes : (held : List Held) → AllByRecursion (Fits IsTight) held → told_bytes held ≤ asked_bytes held + unit * length held
tight_bytes [] all = omega arith
tight_bytes (block ∷ held) all = omega (arith, all.0, tight_bytes held all.1)

module _ (asks_less : AsksLess) (blocks bytes largest size : ℕ) (sized : class_size 1 (largest + front) ≡ Some size) (pools : List PlacedPool) (apart : AllPairs AreApart pools) (placed : All IsPlaced pools) where
  abbrev pub IsLarge : Content ℕ → Type 0
  IsLarge content = IsEnoughFor asks_less blocks bytes largest size sized content

  keeps_to : (n : ℕ) (content : Content ℕ) (held : List Held) → AreAllLive pools apart content held → AllByRecursion (Fits IsTight) held → AsksWithin blocks bytes largest n held → KeepsTo blocks bytes largest n content
  keeps_to n content held all tight asks = record {
    few = omega (arith, asks.few, all.blocks);
    small = omega (arith, asks.small, all.blocks, all.bytes, tight_bytes held tight);
    least = asks.least;
  }

  within : (call : Call) (content : Content ℕ) (held : List Held) → AreAllLive pools apart content held → AllByRecursion (Fits IsTight) held → KeepsToNumbers blocks bytes largest call held → IsCallWithin blocks bytes largest pools call content
  within (ask n) content held all tight keeps = λ some. keeps_to n content held all tight (keeps some)
  within (ask_aligned align n) content held all tight keeps = λ is some. ((keeps is some).0, keeps_to n content held all tight (keeps is some).1)
  within (ask_again address word n) content held all tight keeps = λ live. keeps_to n content held all tight keeps
  within (give_back address word) content held all tight keeps = tt

  -- a record is left for a block that gets smaller
  tight_step : (call : Call) (told : Told) (old new : Counted) (held : List Held) → IsLarge old.content → IsSound pools apart old.content → AreAllLive pools apart old.content held → KeepsToNumbers blocks bytes largest call held → IsExact call told → CallStep pools call told old new → IsSized IsTight call told
  tight_step (ask n) told old new held large sound all keeps exact step = λ some. tight_exact n (told_size told.word told.address) (exact some)
  tight_step (ask_aligned align n) told old new held large sound all keeps exact step = λ some. tight_exact n (told_size told.word told.address) (exact some)
  tight_step (ask_again address word n) told old new held large sound all keeps exact step = λ some.
      let room : used_records old.content < old.content.records = omega (arith, few_blocks old.content.pools 0 sound.good.pools_good, keeps.few, all.blocks, large.large.records) in
      tight_round n (told_size told.word told.address) (moved_exact pools apart address word n told old.content new.content sound (step.0 some) room (step.2 some))
  tight_step (give_back address word) told old new held large sound all keeps exact step = tt

  pub run_never_refused : (calls : List Call) (tolds : List Told) (old new : Content ℕ) (held : List Held) (run : CallRun pools calls tolds old new) → IsLarge old → IsSound pools apart old → AreAllLive pools apart old held → AllByRecursion (Fits IsTight) held
      → AreOwn calls tolds held → AllKeepToNumbers blocks bytes largest calls tolds held → AreNoRefusals calls tolds
  run_never_refused [] [] old new held run large sound all tight own keeps = tt
  run_never_refused [] (told ∷ tolds) old new held run large sound all tight own keeps = absurd run
  run_never_refused (call ∷ calls) [] old new held run large sound all tight own keeps = absurd run
  run_never_refused (call ∷ calls) (told ∷ tolds) old new held run large sound all tight own keeps =
      let found_large : IsLarge run.0.content = subst IsLarge (sym run.2) large in
      let found : IsSound pools apart run.0.content = subst (IsSound pools apart) (sym run.2) sound in
      let found_live : AreAllLive pools apart run.0.content held = subst (λ (c : Content ℕ). AreAllLive pools apart c held) (sym run.2) all in
      let serves = call_serves asks_less blocks bytes largest size sized pools call told run.0 run.1 placed found_large (within call run.0.content held found_live tight keeps.0) run.3 in
      let leaves = step_leaves pools apart call told run.0 run.1 held run.3 own.0 found found_live in
      let tight_now = then_fits IsTight call told held (tight_step call told run.0 run.1 held found_large found found_live keeps.0 leaves.exact run.3) tight in (
        no_refusal pools apart call told run.0.content held found_live own.0 serves.0,
        run_never_refused calls tolds run.1.content new (held_then call told held) run.4 serves.1 leaves.sound leaves.all_live tight_now own.1 keeps.1,
      )
