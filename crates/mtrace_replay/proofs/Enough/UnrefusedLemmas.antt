-- Where no line is refused, a heap and none serve alike.
use Rattle.std.proofs.Math.Path.{fun_ext}
use Rattle.std.proofs.Common.{◌≡◌, ℕ, zero, suc, ◌-◌, Bool, true, false, cond, not, ◌&&◌, ◌||◌, List, [], ◌∷◌, ◌++◌, length, map, drop, inl, inr, Option, Some, None, Result, Ok, Err, refl, sym, ap, ◌∙◌, subst, arith}
use Rattle.std.specs.Prelude.{◌==◌, count_by, is_some, option_map, unwrap_or, nat_lt, ⊤}
use Rattle.std.specs.List.{Contains, list_any}
use Rattle.std.proofs.lemmas.Bool.{cases_Bool, eqb-true}
use Rattle.std.proofs.lemmas.List.{length-map}
use Rattle.std.specs.List.Sorted.{IsStrictlyIncreasing}
use Rattle.mtrace_log.specs.declared.event.Event.TheVariants.{Alloc, Free, New, Aligned}
use Rattle.mtrace_log.specs.declared.event.LineFault.TheVariants as fault
use Rattle.mtrace_replay.specs.Entry.{Entry}
use Rattle.mtrace_replay.specs.declared.held.diagnostic.Diagnostic.{Diagnostic}
use Rattle.mtrace_replay.specs.declared.held.diagnostic.Kind.TheVariants.{AlreadyHeld}
use Rattle.mtrace_replay.specs.Started.{Bare}
use Rattle.mtrace_replay.specs.Moment.{ReadLine, Given, Moment, Plan, Act, idle, give, take, move, plan, allocation, release, reallocation, renewal, none_for, doing, done, moment, answered, moved, asked_size, after_diagnostics, half, is_new}
use Rattle.mtrace_replay.specs.History.{held, given_or, unless_taken, pending, notes, AreHeld, entries_of, moments, next_moment, content_after}
use Rattle.mtrace_replay.specs.Totals.{is_served, is_refused, is_refusal, Measures, IsPeak, asked_bytes_in, blocks_in, first_moments, AreTotals}
use Rattle.mtrace_replay.specs.Step.{held_given}
use Rattle.mtrace_replay.specs.RunLedger.{AreLedgerTotals}
use Rattle.mtrace_replay.specs.declared.heap.totals.Totals.{Totals}
use Rattle.mtrace_replay.specs.declared.heap.point.Point.{Point}
use Rattle.mtrace_replay.specs.declared.ledger.point.LedgerPoint.{LedgerPoint}
use Rattle.mtrace_replay.specs.Timeline.{IsPoint}
use Rattle.mtrace_replay.specs.LedgerTimeline.{IsLedgerPoint}
use Rattle.mtrace_replay.specs.declared.ledger.replay.LedgerTotals.{LedgerTotals}
use Rattle.mtrace_replay.specs.Texts.{total_size}
use Rattle.mtrace_replay.specs.LedgerReplay.{no_heap, unplaced, act_moment, plan_moment, ledger_moment, ledger_moments, without_places}
use Rattle.tlsf_heap.specs.declared.refusal.Refusal.{Refusal}
use Rattle.tlsf_heap.specs.Realloc.{realloc, realloc_rounded, fits_in_place, moved as heap_moved}
use Rattle.tlsf_heap.specs.declared.refusal.Refusal.TheVariants.{BadPointer}
use Rattle.tlsf_heap.specs.Content.{size_at, blocks_of}
use Rattle.tlsf_heap.specs.Free.{is_live, after_free}
use Rattle.tlsf_class.specs.Rounding.{round}
use Rattle.tlsf_heap.proofs.Counts.{one_if, count-cons}
use Rattle.mtrace_replay.proofs.History.FoundLemmas.{found_is_held, held_as_found}
use Rattle.mtrace_replay.proofs.History.SortedLemmas.{address_of, addresses, has_first, has_more}
use Rattle.mtrace_replay.proofs.History.TotalsLemmas.{measure_is_one, one_greatest, not_later}
use Rattle.mtrace_replay.proofs.History.Moments.{moments-none, moments-line}

-- what an address is held under, without a place
abbrev pub bare : Option Given → Option Given
bare = option_map (λ given. unplaced given.entry)

-- ---- a plan does the same where no place is told

-- an act, and a plan, without the place of a block
abbrev pub bare_act : Act → Act
bare_act idle = idle
bare_act (give entry align) = give entry align
bare_act (take address place) = take address 0
bare_act (move old place entry) = move old 0 entry

abbrev bare_plan : Plan → Plan
bare_plan planned = record { first = planned.first; act = bare_act planned.act }

allocated_bare : (entry : Entry) (align : Option ℕ) (here : Option Given) → bare_plan (allocation entry align (bare here)) ≡ bare_plan (allocation entry align here)
allocated_bare entry align None = refl
allocated_bare entry align (Some given) = refl

released_bare : (number address : ℕ) (here : Option Given) → bare_plan (release number address (bare here)) ≡ bare_plan (release number address here)
released_bare number address None = refl
released_bare number address (Some given) = refl

reallocated_bare : (entry : Entry) (old : ℕ) (from here : Option Given) → bare_plan (reallocation entry old (bare from) (bare here)) ≡ bare_plan (reallocation entry old from here)
reallocated_bare entry old None None = refl
reallocated_bare entry old None (Some given) = refl
reallocated_bare entry old (Some from) None = by (not (entry.addr == old) && false)
  where
    by : (b : Bool) → bare_plan (cond b (none_for entry.line (AlreadyHeld entry.addr)) (doing (move old 0 entry))) ≡ bare_plan (cond b (none_for entry.line (AlreadyHeld entry.addr)) (doing (move old from.place entry)))
    by true = refl
    by false = refl
reallocated_bare entry old (Some from) (Some given) = by (not (entry.addr == old) && true)
  where
    by : (b : Bool) → bare_plan (cond b (none_for entry.line (AlreadyHeld entry.addr)) (doing (move old 0 entry))) ≡ bare_plan (cond b (none_for entry.line (AlreadyHeld entry.addr)) (doing (move old from.place entry)))
    by true = refl
    by false = refl

renewed_bare : (entry : Entry) (pending : Option ℕ) (look : ℕ → Option Given) → bare_plan (renewal entry pending (λ a. bare (look a))) ≡ bare_plan (renewal entry pending look)
renewed_bare entry None look = refl
renewed_bare entry (Some old) look = reallocated_bare entry old (look old) (look entry.addr)

pub planned_bare : (number : ℕ) (line : ReadLine) (pending : Option ℕ) (look : ℕ → Option Given) → bare_plan (plan number line pending (λ a. bare (look a))) ≡ bare_plan (plan number line pending look)
planned_bare number (Err fault.TooLong) pending look = refl
planned_bare number (Err fault.NotALine) pending look = refl
planned_bare number (Ok (Alloc at (Some address) size)) pending look = allocated_bare (record { addr = address; size = size; line = number; at = at }) None (look address)
planned_bare number (Ok (Alloc at None size)) pending look = refl
planned_bare number (Ok (Aligned at address align size)) pending look = allocated_bare (record { addr = address; size = size; line = number; at = at }) (Some align) (look address)
planned_bare number (Ok (Free at address)) pending look = released_bare number address (look address)
planned_bare number (Ok (New at address size)) pending look = renewed_bare (record { addr = address; size = size; line = number; at = at }) pending look
planned_bare number (Ok _) pending look = refl

pub moment_bare : (act : Act) → act_moment (bare_act act) ≡ act_moment act
moment_bare idle = refl
moment_bare (give entry align) = refl
moment_bare (take address place) = refl
moment_bare (move old place entry) = refl

plan_bare : (number : ℕ) (line : ReadLine) (pending : Option ℕ) (look : ℕ → Option Given) → plan_moment (plan number line pending (λ a. bare (look a))) ≡ plan_moment (plan number line pending look)
plan_bare number line pending look =
    of_plan (plan number line pending (λ a. bare (look a))) ∙ ap plan_moment (planned_bare number line pending look) ∙ sym (of_plan (plan number line pending look))
  where
    of_plan : (planned : Plan) → plan_moment planned ≡ plan_moment (bare_plan planned)
    of_plan planned = ap (after_diagnostics planned.first) (sym (moment_bare planned.act))

-- ---- an act that is not refused does what it does without a heap

-- the moment, without the place of what it gave, and without the heap
abbrev pub plain : Moment → Moment
plain one = record { given = bare one.given; taken = one.taken; diagnostics = one.diagnostics; content = no_heap }

abbrev pub Answer : Type 0
Answer = Result (Option (ℕ × Unit {0}) × Bare) Refusal

-- a block, or a refusal
abbrev pub IsBlock : Answer → Type 0
IsBlock (Ok (None, content)) = ⊥
IsBlock (Ok (Some block, content)) = ⊤
IsBlock (Err refusal) = ⊤

block_either : (b : Bool) (one other : Answer) → IsBlock one → IsBlock other → IsBlock (cond b one other)
block_either true one other first second = first
block_either false one other first second = second

moved_block : (place : ℕ) (answer : Result (ℕ × Bare) Refusal) → IsBlock (heap_moved tt place answer)
moved_block place (Ok (new, content)) = tt
moved_block place (Err refusal) = tt

rounded_block : (place : ℕ) (rounded : Option ℕ) (content : Bare) → IsBlock (realloc_rounded tt place tt rounded content)
rounded_block place None content = tt
rounded_block place (Some m) content =
    block_either (m == size_at place (blocks_of content.pools)) _ _ tt
    (block_either (fits_in_place place m content) _ _ tt
    (block_either (nat_lt m (size_at place (blocks_of content.pools))) _ _ tt (moved_block place _)))

pub asked_some : (size : ℕ) → (asked_size size == 0) ≡ false
asked_some size = elim (cases_Bool (size == 0)) [
  | inl none ↦ ap (λ (b : Bool). cond b 1 size == 0) none
  | inr some ↦ ap (λ (b : Bool). cond b 1 size == 0) some ∙ some
]

pub realloc_block : (place size : ℕ) (content : Bare) → IsBlock (realloc (λ one other. true) tt (Some (place, tt)) (asked_size size) content)
realloc_block place size content =
    let freed : Answer = Ok (None, after_free place content) in
    let rest : Answer = realloc_rounded tt place tt (round (asked_size size)) content in
    block_either (not (is_live (λ other. true) place (blocks_of content.pools))) (Err BadPointer) (cond (asked_size size == 0) freed rest) tt
    (subst (λ (b : Bool). IsBlock (cond b freed rest)) (sym (asked_some size)) (rounded_block place (round (asked_size size)) content))

module _ (entry : Entry) (content : Bare) where
  answered_alike : (align : Option ℕ) (answer : Result (ℕ × Bare) Refusal) → is_refused (answered entry content answer) ≡ false → plain (answered entry content answer) ≡ act_moment (give entry align)
  answered_alike align (Ok (place, new)) none = refl
  answered_alike align (Err refusal) none = absurd (cc)

  moved_alike : (old from : ℕ) (answer : Answer) → IsBlock answer → is_refused (moved old from entry content answer) ≡ false → plain (moved old from entry content answer) ≡ act_moment (move old from entry)
  moved_alike old from (Ok (Some (place, owner), new)) block none = refl
  moved_alike old from (Ok (None, new)) block none = absurd block
  moved_alike old from (Err refusal) block none = absurd (cc)

done_alike : (act : Act) (content : Bare) → is_refused (done act content) ≡ false → plain (done act content) ≡ act_moment act
done_alike idle content none = refl
done_alike (give entry align) content none = answered_alike entry content align _ none
done_alike (take address place) content none = refl
done_alike (move old place entry) content none = moved_alike entry content old place _ (realloc_block place entry.size content) none

-- where none of both is, none of the second is
pub none_behind : (first second : List Diagnostic) → list_any (λ (d : Diagnostic). is_refusal d.kind) (first ++ second) ≡ false → list_any (λ (d : Diagnostic). is_refusal d.kind) second ≡ false
none_behind [] second none = none
none_behind (d ∷ first) second none = by (none_behind first second) (is_refusal d.kind) none
  where
    by : (list_any (λ (d : Diagnostic). is_refusal d.kind) (first ++ second) ≡ false → list_any (λ (d : Diagnostic). is_refusal d.kind) second ≡ false)
        → (b : Bool) → (b || list_any (λ (d : Diagnostic). is_refusal d.kind) (first ++ second)) ≡ false → list_any (λ (d : Diagnostic). is_refusal d.kind) second ≡ false
    by more true wrong = absurd (cc)
    by more false rest = more rest

moment_alike : (before : ℕ) (line : ReadLine) (pending : Option ℕ) (look : ℕ → Option Given) (content : Bare) → is_refused (moment before line pending look content) ≡ false
    → ledger_moment before line pending (λ a. bare (look a)) ≡ plain (moment before line pending look content)
moment_alike before line pending look content none =
    let planned = plan (suc before) line pending look in
    let first = cond (is_new line) [] (half before pending) in
    let behind = none_behind planned.first (done planned.act content).diagnostics (none_behind first (planned.first ++ (done planned.act content).diagnostics) none) in
    ap (after_diagnostics first) (plan_bare (suc before) line pending look)
    ∙ ap (λ (m : Moment). after_diagnostics first (after_diagnostics planned.first m)) (sym (done_alike planned.act content behind))

-- ---- what is held, told and served by moments without places

bare_cond : (b : Bool) (one other : Option Given) → bare (cond b one other) ≡ cond b (bare one) (bare other)
bare_cond true one other = refl
bare_cond false one other = refl

given_bare : (gave : Option Given) (address : ℕ) (before : Option Given) → given_or (bare gave) address (bare before) ≡ bare (given_or gave address before)
given_bare None address before = refl
given_bare (Some given) address before = sym (bare_cond (given.entry.addr == address) (Some given) before)

taken_bare : (taken : Option ℕ) (address : ℕ) (before : Option Given) → unless_taken taken address (bare before) ≡ bare (unless_taken taken address before)
taken_bare None address before = refl
taken_bare (Some taken) address before = sym (bare_cond (taken == address) None before)

pub held_plain : (past : List Moment) (address : ℕ) → held (map plain past) address ≡ bare (held past address)
held_plain [] address = refl
held_plain (one ∷ past) address =
    ap (λ (before : Option Given). given_or (bare one.given) address (unless_taken one.taken address before)) (held_plain past address)
    ∙ ap (given_or (bare one.given) address) (taken_bare one.taken address (held past address))
    ∙ given_bare one.given address (unless_taken one.taken address (held past address))

pub notes_plain : (past : List Moment) → notes (map plain past) ≡ notes past
notes_plain [] = refl
notes_plain (one ∷ past) = ap (λ (earlier : List Diagnostic). earlier ++ one.diagnostics) (notes_plain past)

pub length_plain : (past : List Moment) → length (map plain past) ≡ length past
length_plain [] = refl
length_plain (one ∷ past) = ap suc (length_plain past)

served_plain : (given : Option Given) → is_some (bare given) ≡ is_some given
served_plain None = refl
served_plain (Some given) = refl

pub count_plain : (past : List Moment) → count_by is_served (map plain past) ≡ count_by is_served past
count_plain [] = refl
count_plain (one ∷ past) =
    omega (arith, count-cons is_served (plain one) (map plain past), count-cons is_served one past, ap one_if (served_plain one.given), count_plain past)

pub ledger_alike : (start : Bare) (past : List ReadLine) → count_by is_refused (moments start past) ≡ 0 → ledger_moments past ≡ map plain (moments start past)
unfolding ledger_moments
ledger_alike start [] none = sym (ap (map plain) (moments-none start))
ledger_alike start (line ∷ past) none =
    let before = moments start past in
    let last = next_moment start line past before in
    let all : moments start (line ∷ past) ≡ last ∷ before = moments-line start line past in
    let counted : count_by is_refused (last ∷ before) ≡ 0 = sym (ap (count_by is_refused) all) ∙ none in
    let cons = count-cons is_refused last before in
    let earlier = ledger_alike start past (omega (arith, counted, cons)) in
    let look : held (ledger_moments past) ≡ (λ a. bare (held before a)) = ap held earlier ∙ fun_ext (held_plain before) in
    let now : ledger_moment (length past) line (pending past) (held (ledger_moments past)) ≡ plain last =
    ap (ledger_moment (length past) line (pending past)) look ∙ moment_alike (length past) line (pending past) (held before) (content_after start before) (not_refused (is_refused last) (omega (arith, counted, cons))) in
    ap (λ (m : Moment). m ∷ ledger_moments past) now ∙ ap (λ (ms : List Moment). plain last ∷ ms) earlier ∙ sym (ap (map plain) all)
  where
    not_refused : (b : Bool) → one_if b ≡ 0 → b ≡ false
    not_refused true is = absurd (omega (arith, is))
    not_refused false is = refl

-- ---- what is held, without places

abbrev pub unplaced_all : List Given → List Given
unplaced_all = map (λ given. unplaced given.entry)

pub entries_unplaced_all : (all : List Given) → entries_of (unplaced_all all) ≡ entries_of all
entries_unplaced_all [] = refl
entries_unplaced_all (given ∷ all) = ap (λ (more : List Entry). given.entry ∷ more) (entries_unplaced_all all)

addresses_unplaced_all : (all : List Given) → addresses (unplaced_all all) ≡ addresses all
addresses_unplaced_all [] = refl
addresses_unplaced_all (given ∷ all) = ap (λ (more : List ℕ). given.entry.addr ∷ more) (addresses_unplaced_all all)

length_unplaced_all : (all : List Given) → length (unplaced_all all) ≡ length all
length_unplaced_all [] = refl
length_unplaced_all (given ∷ all) = ap suc (length_unplaced_all all)

found_bare : (all : List Given) (address : ℕ) → held_given (unplaced_all all) address ≡ bare (held_given all address)
found_bare [] address = refl
found_bare (given ∷ all) address = by (given.entry.addr == address) (found_bare all address)
  where
    by : (b : Bool) → held_given (unplaced_all all) address ≡ bare (held_given all address)
        → cond b (Some (unplaced given.entry)) (held_given (unplaced_all all) address) ≡ bare (cond b (Some given) (held_given all address))
    by true more = refl
    by false more = more

pub held_unplaced : (all : List Given) (past : List Moment) → AreHeld all past → AreHeld (unplaced_all all) (map plain past)
held_unplaced all past are =
    held_as_found (unplaced_all all) (map plain past) (subst IsStrictlyIncreasing (sym (addresses_unplaced_all all)) are.in_order)
    (λ address. found_bare all address ∙ ap bare (found_is_held all past are address) ∙ sym (held_plain past address))

-- the same back: each is held with its place
module _ (past : List Moment) where
  abbrev placed : Given → Given
  placed given = unwrap_or (held past given.entry.addr) given

  abbrev AreEach : List Given → Type 0
  AreEach all = (given : Given) → Contains all given → bare (held past given.entry.addr) ≡ Some given

  placed_is : (given : Given) → bare (held past given.entry.addr) ≡ Some given → (held past given.entry.addr ≡ Some (placed given)) × ((placed given).entry ≡ given.entry)
  placed_is given is = by (held past given.entry.addr) is
    where
      by : (here : Option Given) → bare here ≡ Some given → (here ≡ Some (unwrap_or here given)) × ((unwrap_or here given).entry ≡ given.entry)
      by None wrong = absurd (cc)
      by (Some there) same = (refl, (let e : unplaced there.entry ≡ given = cc in ap (λ (g : Given). g.entry) e))

  each_behind : (given : Given) (all : List Given) → AreEach (given ∷ all) → AreEach all
  each_behind given all each other has = each other (has_more address_of given other all has)

  entries_placed : (all : List Given) → AreEach all → entries_of (map placed all) ≡ entries_of all
  entries_placed [] each = refl
  entries_placed (given ∷ all) each =
      ap (λ (entry : Entry). entry ∷ entries_of (map placed all)) (placed_is given (each given (has_first address_of given all))).1
      ∙ ap (λ (more : List Entry). given.entry ∷ more) (entries_placed all (each_behind given all each))

  addresses_placed : (all : List Given) → AreEach all → addresses (map placed all) ≡ addresses all
  addresses_placed [] each = refl
  addresses_placed (given ∷ all) each =
      ap (λ (entry : Entry). entry.addr ∷ addresses (map placed all)) (placed_is given (each given (has_first address_of given all))).1
      ∙ ap (λ (more : List ℕ). given.entry.addr ∷ more) (addresses_placed all (each_behind given all each))

  found_placed : (all : List Given) → AreEach all → (address : ℕ) → held_given (map placed all) address ≡ cond (is_some (held_given all address)) (held past address) None
  found_placed [] each address = refl
  found_placed (given ∷ all) each address =
      let here = placed_is given (each given (has_first address_of given all)) in
      let more = found_placed all (each_behind given all each) address in
      ap (λ (entry : Entry). cond (entry.addr == address) (Some (placed given)) (held_given (map placed all) address)) here.1
      ∙ elim (cases_Bool (given.entry.addr == address)) [
        | inl same ↦
            let at : held past address ≡ Some (placed given) = subst (λ a. held past a ≡ Some (placed given)) (eqb-true given.entry.addr address same) here.0 in
            ap (λ b. cond b (Some (placed given)) (held_given (map placed all) address)) same
            ∙ sym at ∙ sym (ap (λ b. cond (is_some (cond b (Some given) (held_given all address))) (held past address) None) same)
        | inr other ↦
            ap (λ b. cond b (Some (placed given)) (held_given (map placed all) address)) other
            ∙ more ∙ sym (ap (λ b. cond (is_some (cond b (Some given) (held_given all address))) (held past address) None) other)
      ]

  none_bare : (here there : Option Given) → bare here ≡ there → cond (is_some there) here None ≡ here
  none_bare here (Some given) is = refl
  none_bare None None is = refl
  none_bare (Some given) None is = absurd (cc)

  module _ (all : List Given) (are : AreHeld all (map plain past)) where
    each_is : AreEach all
    each_is given has = sym (held_plain past given.entry.addr) ∙ (are.each given).0 has

    pub entries_back : entries_of (map placed all) ≡ entries_of all
    entries_back = entries_placed all each_is

    pub length_back : length (map placed all) ≡ length all
    length_back = length-map all placed

    pub held_back : AreHeld (map placed all) past
    held_back =
        held_as_found (map placed all) past (subst IsStrictlyIncreasing (sym (addresses_placed all each_is)) are.in_order)
        (λ address. found_placed all each_is address
        ∙ none_bare (held past address) (held_given all address) (sym (held_plain past address) ∙ sym (found_is_held all (map plain past) are address)))

-- ---- the sums

bytes_on : (past : List Moment) (n : ℕ) → Measures asked_bytes_in past n → Measures asked_bytes_in (map plain past) n
bytes_on past n is = record { all = unplaced_all is.all; held = held_unplaced is.all past is.held; measured = is.measured ∙ ap total_size (sym (entries_unplaced_all is.all)) }

bytes_back : (past : List Moment) (n : ℕ) → Measures asked_bytes_in (map plain past) n → Measures asked_bytes_in past n
bytes_back past n is = record { all = _; held = held_back past is.all is.held; measured = is.measured ∙ ap total_size (sym (entries_back past is.all is.held)) }

blocks_on : (past : List Moment) (n : ℕ) → Measures blocks_in past n → Measures blocks_in (map plain past) n
blocks_on past n is = record { all = unplaced_all is.all; held = held_unplaced is.all past is.held; measured = is.measured ∙ sym (length_unplaced_all is.all) }

drop_plain : (n : ℕ) (past : List Moment) → drop n (map plain past) ≡ map plain (drop n past)
drop_plain zero past = refl
drop_plain (suc n) [] = refl
drop_plain (suc n) (one ∷ past) = drop_plain n past

pub first_plain : (k : ℕ) (past : List Moment) → first_moments k (map plain past) ≡ map plain (first_moments k past)
first_plain k past = ap (λ n. drop (n - k) (map plain past)) (length_plain past) ∙ drop_plain (length past - k) past

peak_plain : (past : List Moment) (bytes line : ℕ) → IsPeak past bytes line → IsPeak (map plain past) bytes line
peak_plain past bytes line is = record {
  within = omega (arith, is.within, length_plain past);
  reached = subst (λ ms. Measures asked_bytes_in ms bytes) (sym (first_plain line past)) (bytes_on (first_moments line past) bytes is.reached);
  greatest = λ k n has. is.greatest k n (bytes_back (first_moments k past) n (subst (λ ms. Measures asked_bytes_in ms n) (first_plain k past) has));
  first = λ k n less has. is.first k n less (bytes_back (first_moments k past) n (subst (λ ms. Measures asked_bytes_in ms n) (first_plain k past) has));
}

pub sums_alike : (start : Bare) (past : List Moment) (totals : Totals) (sums : LedgerTotals) → AreTotals start past totals → AreLedgerTotals (map plain past) sums → sums ≡ without_places totals
sums_alike start past totals sums are told =
    let lines : sums.lines ≡ totals.lines = told.lines ∙ length_plain past ∙ sym are.lines in
    let served : sums.served ≡ totals.served = told.served ∙ count_plain past ∙ sym are.served in
    let bytes = measure_is_one asked_bytes_in (map plain past) sums.live_bytes totals.live_bytes told.live_bytes (bytes_on past totals.live_bytes are.live_bytes) in
    let blocks = measure_is_one blocks_in (map plain past) sums.live_blocks totals.live_blocks told.live_blocks (blocks_on past totals.live_blocks are.live_blocks) in
    let peak = peak_plain past totals.peak_bytes totals.peak_line are.peak in
    let most = one_greatest _ (map plain past) sums.peak_bytes totals.peak_bytes sums.peak_line totals.peak_line told.peak peak in
    let line : sums.peak_line ≡ totals.peak_line = omega (
      arith,
      not_later _ (map plain past) sums.peak_bytes totals.peak_bytes sums.peak_line totals.peak_line told.peak peak,
      not_later _ (map plain past) totals.peak_bytes sums.peak_bytes totals.peak_line sums.peak_line peak told.peak,
    ) in
    λ i. record { lines = lines i; served = served i; live_bytes = bytes i; live_blocks = blocks i; peak_bytes = most i; peak_line = line i }

-- ---- the points

-- where no line is refused, none of the first ones is
pub none_refused_before : (start : Bare) (later past : List ReadLine) → count_by is_refused (moments start (later ++ past)) ≡ 0 → count_by is_refused (moments start past) ≡ 0
none_refused_before start [] past none = none
none_refused_before start (line ∷ later) past none =
    let before = moments start (later ++ past) in
    let last = next_moment start line (later ++ past) before in
    let counted : count_by is_refused (last ∷ before) ≡ 0 = sym (ap (count_by is_refused) (moments-line start line (later ++ past))) ∙ none in
    none_refused_before start later past (omega (arith, counted, count-cons is_refused last before))

pub points_alike : (start : Bare) (past : List Moment) (point : Point) (other : LedgerPoint) → IsPoint start past point → IsLedgerPoint (map plain past) other
    → (other.bytes ≡ point.bytes) × (other.blocks ≡ point.blocks)
points_alike start past point other is told = (
  measure_is_one asked_bytes_in (map plain past) other.bytes point.bytes told.bytes (bytes_on past point.bytes is.bytes),
  measure_is_one blocks_in (map plain past) other.blocks point.blocks told.blocks (blocks_on past point.blocks is.blocks),
)
