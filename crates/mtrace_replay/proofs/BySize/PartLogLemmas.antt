-- One heap by size is never asked for more blocks than its part has, and each is of its size.
use Rattle.std.proofs.Common.{cond, ◌≡◌, ◌⊎◌, ℕ, suc, ◌<◌, ◌≤◌, Bool, true, false, List, [], ◌∷◌, ◌++◌, length, map, count_by, is_some, not, Option, Some, None, Ok, refl, sym, ap, ◌∙◌, subst, arith, inl, inr}
use Rattle.std.specs.Prelude.{◌==◌, ◌&&◌}
use Rattle.std.proofs.lemmas.Bool.{eq-eqb}
use Rattle.std.proofs.lemmas.List.{map-append}
use Rattle.std.proofs.lemmas.Map.Keys.{sorted_from_strictly_increasing}
use Rattle.mtrace_log.specs.declared.event.Event.TheVariants.{Free, Old, New}
use Rattle.mtrace_replay.specs.Entry.{Entry}
use Rattle.mtrace_replay.specs.Moment.{ReadLine, Given, Moment, Act, idle, give, take, move, none_for, doing, allocation, release, reallocation}
use Rattle.mtrace_replay.specs.declared.held.diagnostic.Kind.TheVariants.{AlreadyHeld}
use Rattle.mtrace_replay.specs.History.{AreHeld, held, pending, unless_taken}
use Rattle.mtrace_replay.specs.Step.{held_given}
use Rattle.mtrace_replay.specs.Totals.{first_moments, is_served}
use Rattle.mtrace_replay.specs.Enough.{HoldsAtMost}
use Rattle.mtrace_replay.specs.LedgerReplay.{unplaced, act_moment, ledger_moment, ledger_moments}
use Rattle.mtrace_replay.specs.OneSize.{ledger_act, rounded_up}
use Rattle.mtrace_replay.specs.PartLog.{is_of, asking, moving, part_lines, part_log}
use Rattle.mtrace_replay.proofs.History.PlanLemmas.{Fits, is_planned}
use Rattle.mtrace_replay.proofs.History.HeldCounts.{Rise, put, without, still_held, with_given, held_given-without}
use Rattle.mtrace_replay.proofs.History.HeldSums.{held_behind}
use Rattle.mtrace_replay.proofs.History.SortedLemmas.{addresses}
use Rattle.mtrace_replay.proofs.History.FoundLemmas.{found_is_held, none_held}
use Rattle.mtrace_replay.proofs.History.TotalsLemmas.{le_or_more, first_moments_before, first_moments_most, first_moments_all}
use Rattle.mtrace_replay.proofs.Enough.EnoughRecords.{first_but_one}
use Rattle.mtrace_replay.proofs.BySize.MirrorLemmas.{length-put, none_there, some_there, passes, Mirrors, put_both, put_one, without_both, without_one}

-- ---- what is held behind a line, by what it does

module _ (past : List ReadLine) (all : List Given) (are : AreHeld all (ledger_moments past)) where
  abbrev look : ℕ → Option Given
  look = held (ledger_moments past)

  acted : (line : ReadLine) (act : Act) → ledger_act line past ≡ act
      → ((given : Given) → (act_moment act).given ≡ Some given → unless_taken (act_moment act).taken given.entry.addr (look given.entry.addr) ≡ None)
      → AreHeld (with_given (act_moment act).given (still_held (act_moment act).taken all)) (ledger_moments (line ∷ past))
  unfolding ledger_moments
  acted line act is vacant =
      held_behind (ledger_moments past) (ledger_moment (length past) line (pending past) look) (act_moment act).taken
      (λ q. ap (λ (a : Act). unless_taken (act_moment a).taken q (look q)) is) all are (act_moment act).given (ap (λ (a : Act). (act_moment a).given) is)
      (λ given gave. ap (λ (a : Act). unless_taken (act_moment a).taken given.entry.addr (look given.entry.addr)) is ∙ vacant given gave)

  -- nothing is done
  idled : (line : ReadLine) → ledger_act line past ≡ idle → AreHeld all (ledger_moments (line ∷ past))
  idled line is = acted line idle is (λ given gave. absurd (cc))

  -- a block is given for an entry whose address isn't held
  gave : (line : ReadLine) (entry : Entry) (align : Option ℕ) → ledger_act line past ≡ give entry align → look entry.addr ≡ None → AreHeld (put (unplaced entry) all) (ledger_moments (line ∷ past))
  gave line entry align is none = acted line (give entry align) is (λ given same. subst (λ (g : Given). look g.entry.addr ≡ None) (let e : unplaced entry ≡ given = cc in e) none)

  -- an address is taken
  took : (line : ReadLine) (address place : ℕ) → ledger_act line past ≡ take address place → AreHeld (without address all) (ledger_moments (line ∷ past))
  took line address place is = acted line (take address place) is (λ given gave. absurd (cc))

  -- a block moves to an address that isn't held, or stays at its own
  went : (line : ReadLine) (old place : ℕ) (entry : Entry) → ledger_act line past ≡ move old place entry → cond (old == entry.addr) None (look entry.addr) ≡ None
      → AreHeld (put (unplaced entry) (without old all)) (ledger_moments (line ∷ past))
  went line old place entry is vacant = acted line (move old place entry) is
      (λ given same. subst (λ (g : Given). cond (old == g.entry.addr) None (look g.entry.addr) ≡ None) (let e : unplaced entry ≡ given = cc in e) vacant)

-- ---- the lines of the part

module _ (p : List ReadLine) (few : List Given) (are : AreHeld few (ledger_moments p)) where
  -- the entry that its next line has
  abbrev entry_of : (size : ℕ) → Entry → Entry
  entry_of size entry = record { addr = entry.addr; size = size; line = suc (length p); at = entry.at }

  asked_for : (size : ℕ) (entry : Entry) → held (ledger_moments p) entry.addr ≡ None → AreHeld (put (unplaced (entry_of size entry)) few) (ledger_moments (asking size entry ∷ p))
  asked_for size entry none = gave p few are (asking size entry) (entry_of size entry) None (ap (λ here. (allocation (entry_of size entry) None here).act) none) none

  freed : (at : Option (List ℕ)) (address : ℕ) (given : Given) → held (ledger_moments p) address ≡ Some given → AreHeld (without address few) (ledger_moments (Ok (Free at address) ∷ p))
  freed at address given there = took p few are (Ok (Free at address)) address given.place (ap (λ here. (release (suc (length p)) address here).act) there)

  -- the line of the old address, which does nothing
  began : (at : Option (List ℕ)) (old : ℕ) → AreHeld few (ledger_moments (Ok (Old at old) ∷ p))
  began at old = idled p few are (Ok (Old at old)) refl

  -- the line behind it
  renewed : (size old : ℕ) (entry : Entry) (given : Given) → held (ledger_moments (Ok (Old entry.at old) ∷ p)) old ≡ Some given
      → (held (ledger_moments (Ok (Old entry.at old) ∷ p)) entry.addr ≡ None) ⊎ (old ≡ entry.addr)
      → ledger_act (Ok (New entry.at entry.addr size)) (Ok (Old entry.at old) ∷ p) ≡ move old given.place (record { addr = entry.addr; size = size; line = suc (suc (length p)); at = entry.at })
  renewed size old entry given there free =
      let look = held (ledger_moments (Ok (Old entry.at old) ∷ p)) in
      let new : Entry = record { addr = entry.addr; size = size; line = suc (suc (length p)); at = entry.at } in
      ap (λ here. (reallocation new old here (look entry.addr)).act) there
      ∙ ap (λ b. (cond b (none_for new.line (AlreadyHeld new.addr)) (doing (move old given.place new))).act) (no_clash free)
    where
      and_false : (b : Bool) → (b && false) ≡ false
      and_false true = refl
      and_false false = refl

      no_clash : (held (ledger_moments (Ok (Old entry.at old) ∷ p)) entry.addr ≡ None) ⊎ (old ≡ entry.addr) → (not (entry.addr == old) && is_some (held (ledger_moments (Ok (Old entry.at old) ∷ p)) entry.addr)) ≡ false
      no_clash (inl none) = ap (λ (here : Option Given). not (entry.addr == old) && is_some here) none ∙ and_false (not (entry.addr == old))
      no_clash (inr same) = ap (λ b. not b && is_some (held (ledger_moments (Ok (Old entry.at old) ∷ p)) entry.addr)) (eq-eqb entry.addr old (sym same))

-- ---- line by line

module _ (has : ℕ → Bool) where
  -- after any number of lines no more of the part's blocks are held
  abbrev pub IsBounded : (most : ℕ) → List ReadLine → Type 0
  IsBounded most past = (k : ℕ) (all : List Given) → AreHeld all (first_moments k (ledger_moments past)) → count_by (passes has) all ≤ most

  -- where a line is served and its block is of the part, the part has a size
  abbrev pub HasSize : (size : ℕ) → List ReadLine → Type 0
  HasSize size [] = Unit {0}
  HasSize size (line ∷ past) =
      (is_served (ledger_moment (length past) line (pending past) (held (ledger_moments past))) ≡ true → has (suc (length past)) ≡ true → 0 < size) × HasSize size past

module _ (has : ℕ → Bool) (size most : ℕ) where
  abbrev pub IsNothing : Type 0
  IsNothing = (most ≡ 0) ⊎ (size ≡ 0)

  -- the part holds its own of what is held, and never more than it may; a part of nothing is asked for nothing
  pub record Follows (past p : List ReadLine) : Type 0 where
    pub all : List Given
    pub few : List Given
    pub are_all : AreHeld all (ledger_moments past)
    pub are_few : AreHeld few (ledger_moments p)
    pub mirrors : Mirrors has all few
    pub holds : HoldsAtMost most (ledger_moments p)
    pub none : IsNothing → p ≡ []

  rises : (all : List Given) (past : List Moment) → AreHeld all past → Rise all
  rises all past are = sorted_from_strictly_increasing (addresses all) are.in_order

  first_but_last : (line : ReadLine) (past : List ReadLine) → IsBounded has most (line ∷ past) → IsBounded has most past
  unfolding ledger_moments
  first_but_last line past bounded = first_but_one (λ first. (all : List Given) → AreHeld all first → count_by (passes has) all ≤ most) _ (ledger_moments past) bounded

  bounded_now : (past : List ReadLine) → IsBounded has most past → (all : List Given) → AreHeld all (ledger_moments past) → count_by (passes has) all ≤ most
  bounded_now past bounded all are = bounded (length (ledger_moments past)) all (subst (AreHeld all) (sym (first_moments_all (ledger_moments past))) are)

  -- one line more of the part
  one_more : (line : ReadLine) (p : List ReadLine) (few : List Given) → AreHeld few (ledger_moments (line ∷ p)) → length few ≤ most → HoldsAtMost most (ledger_moments p) → HoldsAtMost most (ledger_moments (line ∷ p))
  unfolding ledger_moments
  one_more line p few are within holds k = elim (le_or_more k (length (ledger_moments p))) [
    | inl before ↦ (let earlier = holds k in (earlier.0, subst (AreHeld earlier.0) (sym (first_moments_before k _ (ledger_moments p) before)) earlier.1, earlier.2))
    | inr all ↦ (few, subst (AreHeld few) (sym (first_moments_most k (ledger_moments (line ∷ p)) all)) are, within)
  ]

  module _ (line : ReadLine) (past p : List ReadLine) (so : Follows past p) (bounded : IsBounded has most (line ∷ past)) (sized : HasSize has size (line ∷ past)) where
    abbrev number : ℕ
    number = suc (length past)

    abbrev before : ℕ → Option Given
    before = held (ledger_moments past)

    abbrev mine : ℕ → Option Given
    mine = held (ledger_moments p)

    all_found : (a : ℕ) → held_given so.all a ≡ before a
    all_found a = found_is_held so.all (ledger_moments past) so.are_all a

    few_found : (a : ℕ) → held_given so.few a ≡ mine a
    few_found a = found_is_held so.few (ledger_moments p) so.are_few a

    -- what the part holds is what is held and of the part
    alike : (a : ℕ) → is_some (mine a) ≡ is_of has (before a)
    alike a = ap is_some (sym (few_found a)) ∙ so.mirrors.found a ∙ ap (is_of has) (all_found a)

    not_mine : (a : ℕ) → is_of has (before a) ≡ false → mine a ≡ None
    not_mine a none = none_there (mine a) (alike a ∙ none)

    no_mine : (a : ℕ) → before a ≡ None → mine a ≡ None
    no_mine a none = not_mine a (ap (is_of has) none)

    rise_all : Rise so.all
    rise_all = rises so.all (ledger_moments past) so.are_all

    rise_few : Rise so.few
    rise_few = rises so.few (ledger_moments p) so.are_few

    served : (act : Act) → ledger_act line past ≡ act → is_some (act_moment act).given ≡ true → is_served (ledger_moment (length past) line (pending past) before) ≡ true
    served act is some = ap (λ (a : Act). is_some (act_moment a).given) is ∙ some

    -- nothing is held before the first line
    empty : (a : ℕ) → is_some (held (ledger_moments []) a) ≡ false
    unfolding ledger_moments
    empty a = refl

    -- a part of nothing holds nothing
    nothing_mine : IsNothing → (a : ℕ) → is_of has (before a) ≡ true → ⊥
    nothing_mine nothing a there =
        let none : is_some (mine a) ≡ false = ap (λ (p : List ReadLine). is_some (held (ledger_moments p) a)) (so.none nothing) ∙ empty a in
        cc (alike a, none, there)

    -- and gets nothing
    nothing_given : (entry : Entry) (act : Act) → ledger_act line past ≡ act → is_some (act_moment act).given ≡ true → entry.line ≡ number → has entry.line ≡ true
        → (few : List Given) → 0 < length few → length few ≤ most → IsNothing → ⊥
    nothing_given entry act is some at its few more within (inl none) = omega (arith, more, within, none)
    nothing_given entry act is some at its few more within (inr none) = let there = sized.0 (served act is some) (ap has (sym at) ∙ its) in omega (arith, there, none)

    -- all that is held stays within
    within_now : (all few : List Given) → Mirrors has all few → AreHeld all (ledger_moments (line ∷ past)) → length few ≤ most
    within_now all few mirrors are = omega (arith, mirrors.count, bounded_now (line ∷ past) bounded all are)

    abbrev Next : List ReadLine → Type 0
    Next lines = Follows (line ∷ past) (lines ++ p)

    -- nothing is asked of the part
    stays : (all : List Given) → AreHeld all (ledger_moments (line ∷ past)) → Mirrors has all so.few → Next []
    stays all are mirrors = record { all = all; few = so.few; are_all = are; are_few = so.are_few; mirrors = mirrors; holds = so.holds; none = so.none }

    -- one line is
    grows : (next : ReadLine) (all few : List Given) → AreHeld all (ledger_moments (line ∷ past)) → AreHeld few (ledger_moments (next ∷ p)) → Mirrors has all few → (IsNothing → ⊥) → Next (next ∷ [])
    grows next all few are_all are_few mirrors something = record {
      all = all;
      few = few;
      are_all = are_all;
      are_few = are_few;
      mirrors = mirrors;
      holds = one_more next p few are_few (within_now all few mirrors are_all) so.holds;
      none = λ nothing. absurd (something nothing);
    }

    -- a block of the part is asked for, and was not held there
    arrives : (entry : Entry) (act : Act) → ledger_act line past ≡ act → is_some (act_moment act).given ≡ true → entry.line ≡ number → has entry.line ≡ true → mine entry.addr ≡ None
        → (all : List Given) → Mirrors has all so.few → AreHeld (put (unplaced entry) all) (ledger_moments (line ∷ past)) → Next (asking size entry ∷ [])
    arrives entry act is some at its none all mirrors are =
        let new = unplaced (entry_of p so.few so.are_few size entry) in
        let both = put_both has all so.few mirrors (unplaced entry) new its refl in
        grows (asking size entry) (put (unplaced entry) all) (put new so.few) are (asked_for p so.few so.are_few size entry none) both
        (nothing_given entry act is some at its (put new so.few) (let e = length-put new so.few in omega (arith, e)) (within_now (put (unplaced entry) all) (put new so.few) both are))

    give_next : (entry : Entry) (align : Option ℕ) → ledger_act line past ≡ give entry align → Fits number before (give entry align) → (b : Bool) → has entry.line ≡ b → Next (cond b (asking size entry ∷ []) [])
    give_next entry align is fits true its =
        arrives entry (give entry align) is refl fits.0 its (no_mine entry.addr fits.1) so.all so.mirrors (gave past so.all so.are_all line entry align is fits.1)
    give_next entry align is fits false its =
        stays (put (unplaced entry) so.all) (gave past so.all so.are_all line entry align is fits.1)
        (put_one has so.all so.few so.mirrors (unplaced entry) its (few_found entry.addr ∙ no_mine entry.addr fits.1))

    take_next : (address place : ℕ) → ledger_act line past ≡ take address place → Fits number before (take address place) → (b : Bool) → is_of has (before address) ≡ b → Next (cond b (Ok (Free None address) ∷ []) [])
    take_next address place is fits true its =
        let from = fits.0 in
        let there = some_there (mine address) (alike address ∙ its) in
        let line_is : has from.entry.line ≡ true = ap (is_of has) (sym fits.1) ∙ its in
        grows (Ok (Free None address)) (without address so.all) (without address so.few) (took past so.all so.are_all line address place is) (freed p so.few so.are_few None address there.0 there.1)
        (without_both has so.all so.few so.mirrors address from (all_found address ∙ fits.1) rise_all rise_few line_is)
        (λ nothing. nothing_mine nothing address its)
    take_next address place is fits false its =
        let from = fits.0 in
        stays (without address so.all) (took past so.all so.are_all line address place is)
        (without_one has so.all so.few so.mirrors address from (all_found address ∙ fits.1) rise_all (ap (is_of has) (sym fits.1) ∙ its))

    -- a block moves
    module _ (old place : ℕ) (entry : Entry) (is : ledger_act line past ≡ move old place entry) (fits : Fits number before (move old place entry)) where
      abbrev from : Given
      from = fits.1.0

      there : before old ≡ Some from
      there = fits.1.1

      -- the new address is free, in what is held and in the part
      free_after : (look : ℕ → Option Given) → (look entry.addr ≡ None) ⊎ (old ≡ entry.addr) → cond (old == entry.addr) None (look entry.addr) ≡ None
      free_after look (inl none) = by (old == entry.addr)
        where
          by : (b : Bool) → cond b None (look entry.addr) ≡ None
          by true = refl
          by false = none
      free_after look (inr same) = ap (λ b. cond b None (look entry.addr)) (eq-eqb old entry.addr same)

      free_mine : (before entry.addr ≡ None) ⊎ (old ≡ entry.addr) → (mine entry.addr ≡ None) ⊎ (old ≡ entry.addr)
      free_mine (inl none) = inl (no_mine entry.addr none)
      free_mine (inr same) = inr same

      all_after : AreHeld (put (unplaced entry) (without old so.all)) (ledger_moments (line ∷ past))
      all_after = went past so.all so.are_all line old place entry is (free_after before fits.2)

      mine_of : (b : Bool) → is_of has (before old) ≡ b → has from.entry.line ≡ b
      mine_of b its = ap (is_of has) (sym there) ∙ its

      -- it leaves the part, where the part had it
      left_both : has from.entry.line ≡ true → Mirrors has (without old so.all) (without old so.few)
      left_both its = without_both has so.all so.few so.mirrors old from (all_found old ∙ there) rise_all rise_few its

      left_one : has from.entry.line ≡ false → Mirrors has (without old so.all) so.few
      left_one its = without_one has so.all so.few so.mirrors old from (all_found old ∙ there) rise_all its

      -- an address that the part doesn't have before it moves
      none_where_other : is_of has (before old) ≡ false → mine entry.addr ≡ None
      none_where_other its = by fits.2
        where
          by : (before entry.addr ≡ None) ⊎ (old ≡ entry.addr) → mine entry.addr ≡ None
          by (inl none) = no_mine entry.addr none
          by (inr same) = subst (λ a. mine a ≡ None) same (not_mine old its)

      within : is_of has (before old) ≡ true → has entry.line ≡ true → Next (moving true true size old entry)
      within its to =
          let first : List ReadLine = Ok (Old entry.at old) ∷ p in
          let begun : AreHeld so.few (ledger_moments first) = began p so.few so.are_few entry.at old in
          let still : (a : ℕ) → held (ledger_moments first) a ≡ mine a = λ a. sym (found_is_held so.few (ledger_moments first) begun a) ∙ few_found a in
          let had = some_there (mine old) (alike old ∙ its) in
          let free : (held (ledger_moments first) entry.addr ≡ None) ⊎ (old ≡ entry.addr) = elim (free_mine fits.2) [ inl none ↦ inl (still entry.addr ∙ none) | inr same ↦ inr same ] in
          let new : Entry = record { addr = entry.addr; size = size; line = suc (suc (length p)); at = entry.at } in
          let next : ReadLine = Ok (New entry.at entry.addr size) in
          let few = put (unplaced new) (without old so.few) in
          let are_few : AreHeld few (ledger_moments (next ∷ first)) = went first so.few begun next old had.0.place new (renewed p so.few so.are_few size old entry had.0 (still old ∙ had.1) free) (free_after (held (ledger_moments first)) free) in
          let all = put (unplaced entry) (without old so.all) in
          let both = put_both has (without old so.all) (without old so.few) (left_both (mine_of true its)) (unplaced entry) (unplaced new) to refl in
          let before_within : length so.few ≤ most = omega (arith, so.mirrors.count, bounded_now past (first_but_last line past bounded) so.all so.are_all) in
          record {
            all = all;
            few = few;
            are_all = all_after;
            are_few = are_few;
            mirrors = both;
            holds = one_more next first few are_few (within_now all few both all_after) (one_more (Ok (Old entry.at old)) p so.few begun before_within so.holds);
            none = λ nothing. absurd (nothing_mine nothing old its);
          }

      leaves : is_of has (before old) ≡ true → has entry.line ≡ false → Next (moving true false size old entry)
      leaves its to =
          let had = some_there (mine old) (alike old ∙ its) in
          let rest = without old so.few in
          let gone : held_given rest entry.addr ≡ None = held_given-without old so.few rise_few entry.addr ∙ ap (λ here. cond (old == entry.addr) None here) (few_found entry.addr) ∙ free_after mine (free_mine fits.2) in
          grows (Ok (Free entry.at old)) (put (unplaced entry) (without old so.all)) rest all_after (freed p so.few so.are_few entry.at old had.0 had.1)
          (put_one has (without old so.all) rest (left_both (mine_of true its)) (unplaced entry) to gone)
          (λ nothing. nothing_mine nothing old its)

      enters : is_of has (before old) ≡ false → has entry.line ≡ true → Next (moving false true size old entry)
      enters its to = arrives entry (move old place entry) is refl fits.0 to (none_where_other its) (without old so.all) (left_one (mine_of false its)) all_after

      passes_by : is_of has (before old) ≡ false → has entry.line ≡ false → Next (moving false false size old entry)
      passes_by its to = stays (put (unplaced entry) (without old so.all)) all_after
          (put_one has (without old so.all) so.few (left_one (mine_of false its)) (unplaced entry) to (few_found entry.addr ∙ none_where_other its))

      move_next : (b c : Bool) → is_of has (before old) ≡ b → has entry.line ≡ c → Next (moving b c size old entry)
      move_next true true = within
      move_next true false = leaves
      move_next false true = enters
      move_next false false = passes_by

    next : (act : Act) → ledger_act line past ≡ act → Fits number before act → Next (part_lines has size before act)
    next idle is fits = stays so.all (idled past so.all so.are_all line is) so.mirrors
    next (give entry align) is fits = give_next entry align is fits (has entry.line) refl
    next (take address place) is fits = take_next address place is fits (is_of has (before address)) refl
    next (move old place entry) is fits = move_next old place entry is fits (is_of has (before old)) (has entry.line) refl refl

  pub follows : (past : List ReadLine) → IsBounded has most past → HasSize has size past → Follows past (part_log has size past)
  unfolding ledger_moments part_log
  follows [] bounded sized = record {
    all = [];
    few = [];
    are_all = none_held;
    are_few = none_held;
    mirrors = record { found = λ q. refl; count = refl };
    holds = λ k. ([], subst (AreHeld []) (sym (first_moments_most k [] (omega arith))) none_held, omega arith);
    none = λ nothing. refl;
  }
  follows (line ∷ past) bounded sized =
      let so = follows past (first_but_last line past bounded) sized.1 in
      next line past (part_log has size past) so bounded sized (ledger_act line past) refl (is_planned (suc (length past)) (held (ledger_moments past)) line (pending past)).fits

-- ---- each asks for the size

module _ (has : ℕ → Bool) (size : ℕ) where
  moving_rounded : (from to : Bool) (old : ℕ) (entry : Entry) → map (rounded_up size) (moving from to size old entry) ≡ moving from to size old entry
  moving_rounded true true old entry = refl
  moving_rounded true false old entry = refl
  moving_rounded false true old entry = refl
  moving_rounded false false old entry = refl

  lines_rounded : (look : ℕ → Option Given) (act : Act) → map (rounded_up size) (part_lines has size look act) ≡ part_lines has size look act
  lines_rounded look idle = refl
  lines_rounded look (give entry align) = by (has entry.line)
    where
      by : (b : Bool) → map (rounded_up size) (cond b (asking size entry ∷ []) []) ≡ cond b (asking size entry ∷ []) []
      by true = refl
      by false = refl
  lines_rounded look (take address place) = by (is_of has (look address))
    where
      by : (b : Bool) → map (rounded_up size) (cond b (Ok (Free None address) ∷ []) []) ≡ cond b (Ok (Free None address) ∷ []) []
      by true = refl
      by false = refl
  lines_rounded look (move old place entry) = moving_rounded (is_of has (look old)) (has entry.line) old entry

  pub log_rounded : (past : List ReadLine) → map (rounded_up size) (part_log has size past) ≡ part_log has size past
  unfolding part_log
  log_rounded [] = refl
  log_rounded (line ∷ past) =
      let look = held (ledger_moments past) in
      map-append (rounded_up size) (part_lines has size look (ledger_act line past)) (part_log has size past)
      ∙ ap (λ lines. lines ++ map (rounded_up size) (part_log has size past)) (lines_rounded look (ledger_act line past))
      ∙ ap (λ lines. part_lines has size look (ledger_act line past) ++ lines) (log_rounded past)
