-- A log that one heap refuses nothing is refused nothing on one pool that is large enough for what it holds and asks for.
use Rattle.std.proofs.Math.Path.{fun_ext}
use Rattle.std.proofs.Common.{◌≡◌, ℕ, suc, ◌+◌, ◌-◌, ◌*◌, ◌<◌, ◌≤◌, Bool, true, false, cond, ◌||◌, List, [], ◌∷◌, length, map, Option, Some, None, Ok, Err, inl, inr, refl, sym, ap, ◌∙◌, subst, arith}
use Rattle.std.specs.Prelude.{Result, ◌==◌, nat_lt, count_by}
use Rattle.std.specs.List.{AllByRecursion, list_any}
use Rattle.std.proofs.lemmas.Bool.{cases_Bool}
use Rattle.std.proofs.lemmas.List.{length-map}
use Rattle.tlsf_class.specs.Classes.{unit}
use Rattle.tlsf_class.specs.Rounding.{round}
use Rattle.tlsf_heap.specs.declared.refusal.Refusal.{Refusal}
use Rattle.tlsf_heap.specs.declared.refusal.Refusal.TheVariants.{TableFull, BadAlign}
use Rattle.tlsf_heap.specs.Content.{blocks_of, size_at}
use Rattle.tlsf_heap.specs.Malloc.{malloc, malloc_rounded}
use Rattle.tlsf_heap.specs.Lists.{pick}
use Rattle.tlsf_heap.specs.Memalign.{is_alignment, size_asked, memalign, memalign_rounded, memalign_picked}
use Rattle.tlsf_heap.specs.Realloc.{realloc, realloc_rounded, realloc_sized, moved as heap_moved, fits_in_place, resized}
use Rattle.tlsf_heap.specs.Good.{IsGood}
use Rattle.tlsf_heap.specs.Room.{pool_bytes}
use Rattle.tlsf_heap.specs.Within.{AsksAtMost}
use Rattle.tlsf_heap.proofs.Counts.{one_if, count-cons}
use Rattle.tlsf_heap.proofs.Good.Room.{room_serves, aligned_room_serves}
use Rattle.mtrace_replay.specs.declared.held.diagnostic.Diagnostic.{Diagnostic}
use Rattle.mtrace_replay.specs.declared.held.diagnostic.Kind.{Kind}
use Rattle.mtrace_replay.specs.declared.held.diagnostic.Kind.TheVariants.{TooLong, NotALine, NotHeld, AlreadyHeld, Refused, Half, Stray}
use Rattle.mtrace_replay.specs.Entry.{Entry}
use Rattle.mtrace_replay.specs.Started.{Bare}
use Rattle.mtrace_replay.specs.Moment.{ReadLine, Given, Moment, Plan, Act, idle, give, take, move, plan, asked_size, rounded_bytes, answered, done, is_new, half}
use Rattle.mtrace_replay.specs.History.{AreHeld, entries_of, held, moments, next_moment, content_after, pending}
use Rattle.mtrace_replay.specs.Totals.{is_refused, is_refusal, first_moments, rounded_bytes_in}
use Rattle.mtrace_replay.specs.Enough.{HoldsAtMost, HoldsBytesAtMost, act_of, acts_of, IsOfAtMost}
use Rattle.mtrace_replay.proofs.History.TotalsLemmas.{AreAllFree}
use Rattle.mtrace_replay.proofs.History.Moments.{moments-none, moments-line}
use Rattle.mtrace_replay.proofs.History.PlanLemmas.{Fits, is_planned}
use Rattle.mtrace_replay.proofs.Enough.LineOnHeap.{IsRefusedAs, AreRefusals, leaves_moment}
use Rattle.mtrace_replay.proofs.Enough.EnoughRecords.{first_but_last}
use Rattle.mtrace_replay.proofs.Enough.SurePool.{IsEnough, IsWithin, room, enough_still}
use Rattle.mtrace_replay.proofs.OnHeap.HeldLive.{IsLiveAt, AllLive, all_live}
use Rattle.mtrace_replay.proofs.Enough.UnrefusedLemmas.{Answer, bare, bare_act, plain, planned_bare, none_behind, asked_some, ledger_alike, held_plain, held_unplaced, held_back, unplaced_all, entries_back, entries_unplaced_all, first_plain}

-- ---- what the heap refuses where it has room

-- a good alignment isn't told to be a bad one
pub never_bad : (align n : ℕ) (content : Bare) → is_alignment align ≡ true → (n == 0) ≡ false → memalign tt align n content ≡ Err BadAlign → ⊥
never_bad align n content good some refused =
    let is : memalign tt align n content ≡ memalign_rounded tt align (round n) content = rw (good, some) refl in
    of_rounded (round n) (sym is ∙ refused)
  where
    full_or : (b : Bool) (given : ℕ × Bare) → (let answer : Result (ℕ × Bare) Refusal = cond b (Err TableFull) (Ok given) in answer ≡ Err BadAlign) → ⊥
    full_or true given is = cc
    full_or false given is = cc

    of_picked : (m : ℕ) (place : Option ℕ) → memalign_picked tt align m place content ≡ Err BadAlign → ⊥
    of_picked m None is = cc
    of_picked m (Some place) is = full_or _ _ is

    of_rounded : (rounded : Option ℕ) → memalign_rounded tt align rounded content ≡ Err BadAlign → ⊥
    of_rounded None is = cc
    of_rounded (Some m) is = of_picked m (pick (size_asked align m) content.lists) is

module _ (most bytes size : ℕ) (content : Bare) (enough : IsEnough most bytes size content) (why : Refusal) where
  -- a block at a good alignment
  aligned_fits : (align n : ℕ) → is_alignment align ≡ true → (n == 0) ≡ false → AsksAtMost size (size_asked align) n → memalign tt align n content ≡ Err why → ⊥
  aligned_fits align n good some asks refused =
      let bad : why ≡ BadAlign = aligned_room_serves tt align n content why enough.good (room most bytes size (size_asked align) 2 n content (omega arith) enough asks) refused in
      never_bad align n content good some (refused ∙ ap Err bad)

  -- a live block is reallocated
  moved_fits : (place n : ℕ) → IsLiveAt place content → (n == 0) ≡ false → AsksAtMost size (λ m. m) n → realloc (λ one other. true) tt (Some (place, tt)) n content ≡ Err why → ⊥
  moved_fits place n live some asks refused =
      let has_room = room most bytes size (λ m. m) 1 n content (omega arith) enough asks in
      let is : realloc (λ one other. true) tt (Some (place, tt)) n content ≡ realloc_rounded tt place tt (round n) content = rw (live, some) refl in
      let rounds : realloc_rounded tt place tt (round n) content ≡ realloc_sized tt place tt has_room.m content = ap (λ rounded. realloc_rounded tt place tt rounded content) has_room.rounds in
      let asked : malloc tt n content ≡ malloc_rounded tt (Some has_room.m) content = (let whole : malloc tt n content ≡ malloc_rounded tt (round n) content = rw some refl in whole ∙ ap (λ rounded. malloc_rounded tt rounded content) has_room.rounds) in
      let m = has_room.m in
      let size_there = size_at place (blocks_of content.pools) in
      let kept : Option (ℕ × Unit {0}) × Bare = (Some (place, tt), content) in
      let moved = heap_moved tt place (malloc_rounded tt (Some m) content) in
      let why_moved : moved ≡ Err why = of_sized (m == size_there) (fits_in_place place m content) (nat_lt m size_there) kept (Some (place, tt), resized tt place m content) kept moved (sym rounds ∙ sym is ∙ refused) in
      room_serves tt n content why enough.good has_room (asked ∙ of_moved (malloc_rounded tt (Some m) content) why_moved)
    where
      of_sized : (b c d : Bool) (kept cut small : Option (ℕ × Unit {0}) × Bare) (last : Answer) → cond b (Ok kept) (cond c (Ok cut) (cond d (Ok small) last)) ≡ Err why → last ≡ Err why
      of_sized true c d kept cut small last is = absurd (cc)
      of_sized false true d kept cut small last is = absurd (cc)
      of_sized false false true kept cut small last is = absurd (cc)
      of_sized false false false kept cut small last is = is

      of_moved : (answer : Result (ℕ × Bare) Refusal) → heap_moved tt place answer ≡ Err why → answer ≡ Err why
      of_moved (Ok given) is = absurd (cc)
      of_moved (Err refusal) is = ap Err (let same : (let e : Answer = Err refusal in e ≡ Err why) = is in cc)

-- ---- a line that is refused nothing has no diagnostic that is a refusal

pub no_refusal : (answers : Refusal → Type 0) (diagnostics : List Diagnostic) → AreRefusals answers diagnostics → ((why : Refusal) → answers why → ⊥) → list_any (λ (d : Diagnostic). is_refusal d.kind) diagnostics ≡ false
no_refusal answers [] refusals never = refl
no_refusal answers (d ∷ more) refusals never =
    by_kind d.kind refl ∙ no_refusal answers more refusals.1 never
  where
    by_kind : (kind : Kind) → d.kind ≡ kind → (is_refusal d.kind || list_any (λ (d : Diagnostic). is_refusal d.kind) more) ≡ list_any (λ (d : Diagnostic). is_refusal d.kind) more
    by_kind TooLong is = ap (λ kind. is_refusal kind || list_any (λ (d : Diagnostic). is_refusal d.kind) more) is
    by_kind NotALine is = ap (λ kind. is_refusal kind || list_any (λ (d : Diagnostic). is_refusal d.kind) more) is
    by_kind (NotHeld address) is = ap (λ kind. is_refusal kind || list_any (λ (d : Diagnostic). is_refusal d.kind) more) is
    by_kind (AlreadyHeld address) is = ap (λ kind. is_refusal kind || list_any (λ (d : Diagnostic). is_refusal d.kind) more) is
    by_kind Half is = ap (λ kind. is_refusal kind || list_any (λ (d : Diagnostic). is_refusal d.kind) more) is
    by_kind Stray is = ap (λ kind. is_refusal kind || list_any (λ (d : Diagnostic). is_refusal d.kind) more) is
    by_kind (Refused address why) is = absurd (never why (refusals.0 address why is))

-- ---- what two histories hold alike that are one without places

-- what depends on the entries alone
abbrev OfEntries : (List Given → Type 0) → Type 0
OfEntries P = (one other : List Given) → entries_of one ≡ entries_of other → P one → P other

few_entries : (most : ℕ) → OfEntries (λ all. length all ≤ most)
few_entries most one other same few = omega (arith, few, length-map one (λ (g : Given). g.entry), length-map other (λ (g : Given). g.entry), ap length same)

small_entries : (bytes : ℕ) → OfEntries (λ all. rounded_bytes_in all ≤ bytes)
small_entries bytes one other same small = omega (arith, small, bytes_are one, bytes_are other, ap bytes_asked same)
  where
    bytes_asked : List Entry → ℕ
    bytes_asked [] = 0
    bytes_asked (entry ∷ more) = rounded_bytes entry.size + bytes_asked more

    bytes_are : (all : List Given) → rounded_bytes_in all ≡ bytes_asked (entries_of all)
    bytes_are [] = refl
    bytes_are (given ∷ all) = omega (arith, bytes_are all)

module _ (one other : List Moment) (same : map plain one ≡ map plain other) where
  holds_alike : (P : List Given → Type 0) → OfEntries P → ((k : ℕ) → (all : List Given) × AreHeld all (first_moments k one) × P all) → (k : ℕ) → (all : List Given) × AreHeld all (first_moments k other) × P all
  holds_alike P of so k =
      let was = so k in
      let first = first_moments k other in
      let alike : map plain (first_moments k one) ≡ map plain first = sym (first_plain k one) ∙ ap (first_moments k) same ∙ first_plain k other in
      let here : AreHeld (unplaced_all was.0) (map plain first) = subst (λ (ms : List Moment). AreHeld (unplaced_all was.0) ms) alike (held_unplaced was.0 (first_moments k one) was.1) in
      (_, held_back first (unplaced_all was.0) here, of was.0 _ (sym (entries_back first (unplaced_all was.0) here ∙ entries_unplaced_all was.0)) was.2)

  abbrev bare_look : List Moment → ℕ → Option Given
  bare_look ms address = bare (held ms address)

  look_alike : bare_look one ≡ bare_look other
  look_alike = fun_ext (λ address. sym (held_plain one address) ∙ ap (λ (ms : List Moment). held ms address) same ∙ held_plain other address)

pub act_bare : (number : ℕ) (line : ReadLine) (pending : Option ℕ) (look : ℕ → Option Given) → bare_act (plan number line pending (λ a. bare (look a))).act ≡ bare_act (plan number line pending look).act
act_bare number line pending look = ap (λ (planned : Plan). planned.act) (planned_bare number line pending look)

of_bare : (size : ℕ) (act : Act) → IsOfAtMost size act → IsOfAtMost size (bare_act act)
of_bare size idle of = of
of_bare size (give entry None) of = of
of_bare size (give entry (Some align)) of = of
of_bare size (take address place) of = of
of_bare size (move old place entry) of = of

bare_of : (size : ℕ) (act : Act) → IsOfAtMost size (bare_act act) → IsOfAtMost size act
bare_of size idle of = of
bare_of size (give entry None) of = of
bare_of size (give entry (Some align)) of = of
bare_of size (take address place) of = of
bare_of size (move old place entry) of = of

-- a block is given at a good alignment, or none is told, where the heap doesn't refuse what is done
abbrev IsWellAligned : Act → Type 0
IsWellAligned (give entry (Some align)) = is_alignment align ≡ true
IsWellAligned _ = Unit {0}

well_bare : (act : Act) → IsWellAligned act → IsWellAligned (bare_act act)
well_bare idle well = well
well_bare (give entry None) well = well
well_bare (give entry (Some align)) well = well
well_bare (take address place) well = well
well_bare (move old place entry) well = well

bare_well : (act : Act) → IsWellAligned (bare_act act) → IsWellAligned act
bare_well idle well = well
bare_well (give entry None) well = well
bare_well (give entry (Some align)) well = well
bare_well (take address place) well = well
bare_well (move old place entry) well = well

unrefused_aligned : (act : Act) (content : Bare) → is_refused (done act content) ≡ false → IsWellAligned act
unrefused_aligned idle content none = tt
unrefused_aligned (give entry None) content none = tt
unrefused_aligned (give entry (Some align)) content none = elim (cases_Bool (is_alignment align)) [
  | inl good ↦ good
  | inr bad ↦ (
      let is : memalign tt align (asked_size entry.size) content ≡ Err BadAlign = rw bad refl in
      let refused : is_refused (done (give entry (Some align)) content) ≡ true = ap (λ answer. is_refused (answered entry content answer)) is in
      absurd (let e : true ≡ false = sym refused ∙ none in cc))
]
unrefused_aligned (take address place) content none = tt
unrefused_aligned (move old place entry) content none = tt

not_refused : (b : Bool) → one_if b ≡ 0 → b ≡ false
not_refused true is = absurd (omega (arith, is))
not_refused false is = refl

-- ---- the log

module _ (most bytes size : ℕ) (big : Bare) (big_good : IsGood big) (big_free : AreAllFree big) (start : Bare) (good : IsGood start) (free : AreAllFree start) (one : length start.pools ≡ 1)
    (large : bytes + (most + 1) * (size - unit) < pool_bytes start.pools) (enough : 2 * most + 3 ≤ start.records) where
  -- what is so of the lines on the other heap
  record IsSo (past : List ReadLine) : Type 0 where
    unrefused : count_by is_refused (moments big past) ≡ 0
    holds : HoldsAtMost most (moments big past)
    bytes_held : HoldsBytesAtMost bytes (moments big past)
    of : AllByRecursion (IsOfAtMost size) (acts_of big past)

  -- and then here
  record IsHere (past : List ReadLine) : Type 0 where
    unrefused_here : count_by is_refused (moments start past) ≡ 0
    of_here : AllByRecursion (IsOfAtMost size) (acts_of start past)

  act_fits_here : (number : ℕ) (look : ℕ → Option Given) (content : Bare) (act : Act) → IsEnough most bytes size content → AllLive content look → Fits number look act
      → IsOfAtMost size act → IsWellAligned act → (why : Refusal) → IsRefusedAs act content why → ⊥
  act_fits_here number look content idle room_left live fits of well why refused = refused
  act_fits_here number look content (give entry None) room_left live fits of well why refused =
      room_serves tt (asked_size entry.size) content why room_left.good (room most bytes size (λ m. m) 1 (asked_size entry.size) content (omega arith) room_left of) refused
  act_fits_here number look content (give entry (Some align)) room_left live fits of well why refused =
      aligned_fits most bytes size content room_left why align (asked_size entry.size) well (asked_some entry.size) (of well) refused
  act_fits_here number look content (take address place) room_left live fits of well why refused = refused
  act_fits_here number look content (move old place entry) room_left live fits of well why refused =
      let from = fits.1 in
      moved_fits most bytes size content room_left why place (asked_size entry.size)
      (subst (λ p. IsLiveAt p content) from.2 (live.live old from.0 from.1)) (asked_some entry.size) of refused

  here : (past : List ReadLine) → IsSo past → IsHere past
  here [] so = record { unrefused_here = ap (count_by is_refused) (moments-none start); of_here = tt }
  here (line ∷ past) so =
      let there = moments big past in
      let ms = moments start past in
      let last = next_moment big line past there in
      let counted : count_by is_refused (last ∷ there) ≡ 0 = sym (ap (count_by is_refused) (moments-line big line past)) ∙ so.unrefused in
      let cons = count-cons is_refused last there in
      let before : IsSo past = record {
        unrefused = omega (arith, counted, cons);
        holds = first_but_last big big_good big_free (λ first. (all : List Given) × AreHeld all first × (length all ≤ most)) line past so.holds;
        bytes_held = first_but_last big big_good big_free (λ first. (all : List Given) × AreHeld all first × (rounded_bytes_in all ≤ bytes)) line past so.bytes_held;
        of = so.of.1;
      } in
      let done_before = here past before in
      let alike : map plain there ≡ map plain ms = sym (ledger_alike big past before.unrefused) ∙ ledger_alike start past done_before.unrefused_here in
      let within : IsWithin most bytes size start good free one large enough past = record {
        holds = holds_alike there ms alike (λ all. length all ≤ most) (few_entries most) before.holds;
        bytes_held = holds_alike there ms alike (λ all. rounded_bytes_in all ≤ bytes) (small_entries bytes) before.bytes_held;
        of = done_before.of_here;
      } in
      let number = suc (length past) in
      let act = act_of start line past in
      let same_act : bare_act (act_of big line past) ≡ bare_act act =
      sym (act_bare number line (pending past) (held there)) ∙ ap (λ (look : ℕ → Option Given). bare_act (plan number line (pending past) look).act) (look_alike there ms alike) ∙ act_bare number line (pending past) (held ms) in
      let of_act : IsOfAtMost size act = bare_of size act (subst (IsOfAtMost size) same_act (of_bare size (act_of big line past) so.of.0)) in
      let first = cond (is_new line) [] (half (length past) (pending past)) in
      let planned_there = plan number line (pending past) (held there) in
      let none_there = none_behind planned_there.first (done planned_there.act (content_after big there)).diagnostics
      (none_behind first _ (not_refused (is_refused last) (omega (arith, counted, cons)))) in
      let well : IsWellAligned act = bare_well act (subst IsWellAligned same_act (well_bare (act_of big line past) (unrefused_aligned (act_of big line past) (content_after big there) none_there))) in
      let content = content_after start ms in
      let room_left = enough_still most bytes size start good free one large enough past within in
      let planned = is_planned number (held ms) line (pending past) in
      let leaves = leaves_moment content room_left.good (held ms) (length past) line (pending past) in
      let now = next_moment start line past ms in
      let none : is_refused now ≡ false = no_refusal (IsRefusedAs act content) now.diagnostics leaves.refused
      (act_fits_here number (held ms) content act room_left (all_live start good free past) planned.fits of_act well) in
      record {
        unrefused_here = ap (count_by is_refused) (moments-line start line past) ∙ omega (arith, count-cons is_refused now ms, ap one_if none, done_before.unrefused_here);
        of_here = (of_act, done_before.of_here);
      }

  pub never_refused_here : (past : List ReadLine) → count_by is_refused (moments big past) ≡ 0 → HoldsAtMost most (moments big past) → HoldsBytesAtMost bytes (moments big past) → AllByRecursion (IsOfAtMost size) (acts_of big past)
      → count_by is_refused (moments start past) ≡ 0
  never_refused_here past unrefused holds bytes_held of = (here past (record { unrefused = unrefused; holds = holds; bytes_held = bytes_held; of = of })).unrefused_here
