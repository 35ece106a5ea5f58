-- On one pool no line is refused for want of a record, where there are enough for what is held.
use Rattle.std.proofs.Common.{◌≡◌, ◌≢◌, ◌⊎◌, ℕ, zero, suc, ◌+◌, ◌*◌, ◌<◌, ◌≤◌, true, false, cond, List, [], ◌∷◌, length, Option, Some, None, Ok, Err, inl, inr, refl, sym, ap, ◌∙◌, subst, arith}
use Rattle.std.specs.Prelude.{◌==◌, Result, ⊤}
use Rattle.std.specs.List.{Contains, AllByRecursion}
use Rattle.std.proofs.lemmas.Bool.{cases_Bool, eq-eqb, eqb-true}
use Rattle.tlsf_heap.specs.declared.refusal.Refusal.{Refusal}
use Rattle.tlsf_heap.specs.declared.refusal.Refusal.TheVariants.{TableFull}
use Rattle.tlsf_heap.specs.Content.{Block, Pool, blocks_of, is_free, used_records}
use Rattle.tlsf_heap.specs.Good.{IsGood}
use Rattle.tlsf_heap.specs.Implied.{live_blocks, HasFewRecordsAndOne}
use Rattle.tlsf_heap.specs.Pools.{add_pool, created}
use Rattle.tlsf_heap.proofs.Good.MallocIsGood.{add_pool_is_good, created_is_good}
use Rattle.mtrace_replay.specs.declared.held.diagnostic.Diagnostic.{Diagnostic}
use Rattle.mtrace_replay.specs.declared.held.diagnostic.Kind.TheVariants.{Refused}
use Rattle.mtrace_replay.specs.declared.heap.settings.Settings.{Settings}
use Rattle.mtrace_replay.specs.Started.{Bare, left_by, with_pools, started}
use Rattle.mtrace_replay.specs.History.{AreHeld, held, held_after, given_or, unless_taken, moments, pending, content_after}
use Rattle.mtrace_replay.specs.Moment.{ReadLine, Given, Moment, asked_size, moment, Act, idle, give, take, move}
use Rattle.mtrace_replay.specs.Totals.{first_moments}
use Rattle.mtrace_replay.specs.Enough.{HoldsAtMost, IsNeverRefused, IsNeverFull, act_of}
use Rattle.mtrace_replay.proofs.History.Moments.{moments-none, moments-line}
use Rattle.mtrace_replay.proofs.History.HeldLemmas.{moment_gives}
use Rattle.mtrace_replay.proofs.History.PlanLemmas.{Fits}
use Rattle.mtrace_replay.proofs.OnHeap.LiveBefore.{StoodIn, stood_outcome}
use Rattle.mtrace_replay.proofs.History.TotalsLemmas.{AreAllFree, le_or_more, first_moments_before, first_moments_most, first_moments_all}
use Rattle.mtrace_replay.proofs.Enough.EnoughBlocks.{few_live, realloc_full}
use Rattle.mtrace_replay.proofs.Enough.LineOnHeap.{bytes_of, asked_full, AreRefusals, IsOfSize, LeavesHeap, IsRefusedAs, leaves_moment}

-- where the heap didn't refuse the line so, the line isn't told to be refused so
never_told : (answers : Refusal → Type 0) (why : Refusal) (diagnostics : List Diagnostic) → (answers why → ⊥) → AreRefusals answers diagnostics
    → AllByRecursion (λ (one : Diagnostic). (address : ℕ) → one.kind ≢ Refused address why) diagnostics
never_told answers why [] never refused = tt
never_told answers why (one ∷ diagnostics) never refused = (λ address told. never (refused.0 address why told), never_told answers why diagnostics never refused.1)

-- where the heap has no record for what is done, it has few
few_records : (act : Act) (content : Bare) → IsGood content → IsRefusedAs act content TableFull → HasFewRecordsAndOne content
few_records idle content good full = absurd full
few_records (give entry align) content good full = asked_full tt align (asked_size entry.size) content good full
few_records (take address place) content good full = absurd full
few_records (move old place entry) content good full = omega (arith, realloc_full (λ one other. true) tt (Some (place, tt)) (asked_size entry.size) content good full)

-- each live block is one that is held, and fits what it is held under
abbrev pub OwnsLive : (Given → Block (Unit {0}) → Type 0) → Bare → (ℕ → Option Given) → Type 0
OwnsLive Fits content held =
    (b : Block (Unit {0})) → Contains (blocks_of content.pools) b → is_free b ≡ false → (given : Given) × (held given.entry.addr ≡ Some given) × (given.place ≡ b.place) × Fits given b

module _ (Fits : Given → Block (Unit {0}) → Type 0) (content : Bare) (held : ℕ → Option Given) (moment : Moment) (owns : OwnsLive Fits content held)
    (answers : Refusal → Type 0) (leaves : LeavesHeap answers content held moment) (stood : StoodIn content moment)
    (fresh : (new : Given) → moment.given ≡ Some new → (held new.entry.addr ≡ None) ⊎ (moment.taken ≡ Some new.entry.addr))
    (fits : (new : Given) → moment.given ≡ Some new → (b : Block (Unit {0})) → Contains (blocks_of moment.content.pools) b → is_free b ≡ false → b.place ≡ new.place → Fits new b) where
  given_held : (new : Given) → moment.given ≡ Some new → held_after moment held new.entry.addr ≡ Some new
  given_held new is =
      ap (λ given. given_or given new.entry.addr (unless_taken moment.taken new.entry.addr (held new.entry.addr))) is
      ∙ ap (λ b. cond b (Some new) (unless_taken moment.taken new.entry.addr (held new.entry.addr))) (eq-eqb new.entry.addr new.entry.addr refl)

  taken_none : (address : ℕ) → moment.taken ≡ Some address → unless_taken moment.taken address (held address) ≡ None
  taken_none address is =
      ap (λ taken. unless_taken taken address (held address)) is ∙ ap (λ b. cond b None (held address)) (eq-eqb address address refl)

  -- an address that isn't taken is held still
  held_still : (given : Given) → held given.entry.addr ≡ Some given → unless_taken moment.taken given.entry.addr (held given.entry.addr) ≡ Some given → held_after moment held given.entry.addr ≡ Some given
  held_still given was left = by_given moment.given refl
    where
      address : ℕ
      address = given.entry.addr

      no_two : (new : Given) → new.entry.addr ≡ given.entry.addr → (held new.entry.addr ≡ None) ⊎ (moment.taken ≡ Some new.entry.addr) → ⊥
      no_two new same (inl none) = let e : None ≡ Some given = sym none ∙ ap held same ∙ was in cc
      no_two new same (inr taken) = let e : None ≡ Some given = sym (taken_none given.entry.addr (taken ∙ ap Some same)) ∙ left in cc

      by_given : (gave : Option Given) → moment.given ≡ gave → held_after moment held given.entry.addr ≡ Some given
      by_given None is = ap (λ g. given_or g given.entry.addr (unless_taken moment.taken given.entry.addr (held given.entry.addr))) is ∙ left
      by_given (Some new) is = elim (cases_Bool (new.entry.addr == given.entry.addr)) [
        | inl same ↦ absurd (no_two new (eqb-true new.entry.addr given.entry.addr same) (fresh new is))
        | inr other ↦
            ap (λ g. given_or g given.entry.addr (unless_taken moment.taken given.entry.addr (held given.entry.addr))) is
            ∙ ap (λ b. cond b (Some new) (unless_taken moment.taken given.entry.addr (held given.entry.addr))) other ∙ left
      ]

  owns_given : (b : Block (Unit {0})) (new : Given) → Contains (blocks_of moment.content.pools) b → is_free b ≡ false → moment.given ≡ Some new → new.place ≡ b.place
      → (given : Given) × (held_after moment held given.entry.addr ≡ Some given) × (given.place ≡ b.place) × Fits given b
  owns_given b new has live is at = (new, given_held new is, at, fits new is b has live (sym at))

  pub owns_after : OwnsLive Fits moment.content (held_after moment held)
  owns_after b has live = elim (stood b has live) [
    | inr gave ↦ owns_given b gave.0 has live gave.1 (sym gave.2)
    | inl old ↦ was_held (owns b old live) moment.taken refl
  ]
    where
      was_held : (given : Given) × (held given.entry.addr ≡ Some given) × (given.place ≡ b.place) × Fits given b → (taken : Option ℕ) → moment.taken ≡ taken
          → (given : Given) × (held_after moment held given.entry.addr ≡ Some given) × (given.place ≡ b.place) × Fits given b
      was_held was None is =
          (was.0, held_still was.0 was.1 (ap (λ taken. unless_taken taken was.0.entry.addr (held was.0.entry.addr)) is ∙ was.1), was.2, was.3)
      was_held was (Some taken) is = elim (cases_Bool (taken == was.0.entry.addr)) [
        | inl same ↦
            let gave = leaves.gone was.0.entry.addr was.0 b (is ∙ ap Some (eqb-true taken was.0.entry.addr same)) was.1 has live (sym was.2) in
            owns_given b gave.0 has live gave.1 gave.2
        | inr other ↦
            let left = ap (λ t. unless_taken t was.0.entry.addr (held was.0.entry.addr)) is ∙ ap (λ c. cond c None (held was.0.entry.addr)) other ∙ was.1 in
            (was.0, held_still was.0 was.1 left, was.2, was.3)
      ]

-- what is so after any number of lines is so after any number of all but the last
pub first_but_one : (P : List Moment → Type 0) (moment : Moment) (past : List Moment) → ((k : ℕ) → P (first_moments k (moment ∷ past))) → (k : ℕ) → P (first_moments k past)
first_but_one P moment past so k = elim (le_or_more k (length past)) [
  | inl within ↦ subst P (first_moments_before k moment past within) (so k)
  | inr beyond ↦ subst P (first_moments_before (length past) moment past (omega arith) ∙ first_moments_all past ∙ sym (first_moments_most k past (omega (arith, beyond)))) (so (length past))
]

-- the heap after lines on one pool
pub record Stands (start : Bare) (past : List Moment) : Type 0 where
  pub good : IsGood (content_after start past)
  pub records : (content_after start past).records ≡ start.records
  pub pools : bytes_of (content_after start past).pools ≡ bytes_of start.pools
  pub owns : OwnsLive (λ given b. ⊤) (content_after start past) (held past)

module _ (start : Bare) (good : IsGood start) (free : AreAllFree start) where
  stands_none : Stands start []
  stands_none = record {
    good = good;
    records = refl;
    pools = refl;
    owns = λ b has live. absurd (let e : true ≡ false = sym (free b has) ∙ live in cc);
  }

  stands_line : (line : ReadLine) (past : List ReadLine) → Stands start (moments start past) → Stands start (moments start (line ∷ past))
  stands_line line past stands =
      let ms = moments start past in
      let content = content_after start ms in
      let leaves = leaves_moment content stands.good (held ms) (length past) line (pending past) in
      let now = moment (length past) line (pending past) (held ms) content in
      subst (Stands start) (sym (moments-line start line past)) (record {
        good = leaves.good;
        records = leaves.records ∙ stands.records;
        pools = leaves.pools ∙ stands.pools;
        owns = owns_after (λ given b. ⊤) content (held ms) now stands.owns (IsRefusedAs (act_of start line past) content) leaves (stood_outcome content (suc (length past)) line (pending past) (held ms))
            (moment_gives (length past) line (pending past) (held ms) content).was_free (λ new is b has live at. tt);
      })

  pub stands_all : (past : List ReadLine) → Stands start (moments start past)
  stands_all [] = subst (Stands start) (sym (moments-none start)) stands_none
  stands_all (line ∷ past) = stands_line line past (stands_all past)

  -- no line is refused so, where what is so of lines is so of fewer, and lets no line be refused so by the heap
  pub never_refused : (why : Refusal) (So : List ReadLine → Type 0) → ((line : ReadLine) (past : List ReadLine) → So (line ∷ past) → So past)
      → ((line : ReadLine) (past : List ReadLine) → So (line ∷ past) → IsRefusedAs (act_of start line past) (content_after start (moments start past)) why → ⊥)
      → (past : List ReadLine) → So past → AllByRecursion (IsNeverRefused why) (moments start past)
  never_refused why So fewer never [] so = subst (AllByRecursion (IsNeverRefused why)) (sym (moments-none start)) tt
  never_refused why So fewer never (line ∷ past) so =
      let ms = moments start past in
      let content = content_after start ms in
      let leaves = leaves_moment content (stands_all past).good (held ms) (length past) line (pending past) in
      subst (AllByRecursion (IsNeverRefused why)) (sym (moments-line start line past))
      (never_told (IsRefusedAs (act_of start line past) content) why _ (never line past so) leaves.refused, never_refused why So fewer never past (fewer line past so))

  pub first_but_last : (P : List Moment → Type 0) (line : ReadLine) (past : List ReadLine) → ((k : ℕ) → P (first_moments k (moments start (line ∷ past)))) → (k : ℕ) → P (first_moments k (moments start past))
  first_but_last P line past so = first_but_one P _ (moments start past) (subst (λ (ms : List Moment). (k : ℕ) → P (first_moments k ms)) (moments-line start line past) so)

  -- there are no more live blocks than addresses held
  pub few_held : (past : List ReadLine) (all : List Given) → AreHeld all (moments start past) → live_blocks (content_after start (moments start past)) ≤ length all
  few_held past all are =
      let stands = stands_all past in
      few_live (λ (given : Given). given.place) (content_after start (moments start past)) all stands.good (λ b has live. (let own = stands.owns b has live in (own.0, (are.each own.0).1 own.1, own.2)))

  pub few_blocks : (most : ℕ) (past : List ReadLine) → HoldsAtMost most (moments start past) → live_blocks (content_after start (moments start past)) ≤ most
  few_blocks most past holds =
      let ms = moments start past in
      let now = holds (length ms) in
      omega (arith, few_held past now.0 (subst (λ (first : List Moment). AreHeld now.0 first) (first_moments_all ms) now.1), now.2)

  -- where a record is left at each line, each live block has no more bytes than what it is held under
  pub owns_sized : (So : List ReadLine → Type 0) → ((line : ReadLine) (past : List ReadLine) → So (line ∷ past) → So past)
      → ((past : List ReadLine) → So past → used_records (content_after start (moments start past)) < (content_after start (moments start past)).records)
      → (past : List ReadLine) → So past → OwnsLive IsOfSize (content_after start (moments start past)) (held (moments start past))
  owns_sized So fewer room [] so = subst (λ (ms : List Moment). OwnsLive IsOfSize (content_after start ms) (held ms)) (sym (moments-none start)) (λ b has live. absurd (let e : true ≡ false = sym (free b has) ∙ live in cc))
  owns_sized So fewer room (line ∷ past) so =
      let ms = moments start past in
      let content = content_after start ms in
      let leaves = leaves_moment content (stands_all past).good (held ms) (length past) line (pending past) in
      let now = moment (length past) line (pending past) (held ms) content in
      subst (λ (all : List Moment). OwnsLive IsOfSize (content_after start all) (held all)) (sym (moments-line start line past))
      (owns_after IsOfSize content (held ms) now (owns_sized So fewer room past (fewer line past so)) (IsRefusedAs (act_of start line past) content) leaves
      (stood_outcome content (suc (length past)) line (pending past) (held ms)) (moment_gives (length past) line (pending past) (held ms) content).was_free (leaves.sized (room past (fewer line past so))))

  -- on one pool still stands one
  pub one_still : length start.pools ≡ 1 → (past : List ReadLine) → length (content_after start (moments start past)).pools ≡ 1
  one_still one past = as_many _ ∙ (ap length (stands_all past).pools ∙ (sym (as_many start.pools) ∙ one))
    where
      as_many : (pools : List (Pool (Unit {0}))) → length pools ≡ length (bytes_of pools)
      as_many [] = refl
      as_many (pool ∷ pools) = omega (arith, as_many pools)

  pub never_full : (most : ℕ) → length start.pools ≡ 1 → 2 * most + 3 ≤ start.records → (past : List ReadLine) → HoldsAtMost most (moments start past) → AllByRecursion IsNeverFull (moments start past)
  never_full most one enough = never_refused TableFull (λ past. HoldsAtMost most (moments start past)) fewer never
    where
      fewer : (line : ReadLine) (past : List ReadLine) → HoldsAtMost most (moments start (line ∷ past)) → HoldsAtMost most (moments start past)
      fewer line past holds = first_but_last (λ first. (all : List Given) × AreHeld all first × (length all ≤ most)) line past holds

      never : (line : ReadLine) (past : List ReadLine) → HoldsAtMost most (moments start (line ∷ past)) → IsRefusedAs (act_of start line past) (content_after start (moments start past)) TableFull → ⊥
      never line past holds full =
          let stands = stands_all past in
          omega (arith, few_records (act_of start line past) (content_after start (moments start past)) stands.good full, few_blocks most past (fewer line past holds), stands.records, one_still one past, enough)

-- the heap before the first line is good
pools_good : (settings : Settings) (left : ℕ) (content : Bare) → IsGood content → IsGood (with_pools settings left content)
pools_good settings zero content good = good
pools_good settings (suc i) content good = pools_good settings i (left_by content (add_pool (i * settings.pool) settings.pool content)) (by_answer (add_pool (i * settings.pool) settings.pool content) refl)
  where
    by_answer : (answer : Result Bare Refusal) → add_pool (i * settings.pool) settings.pool content ≡ answer → IsGood (left_by content answer)
    by_answer (Ok new) is = add_pool_is_good (i * settings.pool) settings.pool content new good is
    by_answer (Err refusal) is = good

pub started_good : (settings : Settings) → IsGood (started settings)
unfolding started
started_good settings = pools_good settings settings.pools (created settings.records) (created_is_good settings.records)
