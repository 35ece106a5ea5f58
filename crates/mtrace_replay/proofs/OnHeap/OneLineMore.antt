-- A replay stands for one line more.
use Rattle.std.proofs.Math.Path.{fun_ext}
use Rattle.std.proofs.Common.{◌⊎◌, inl, inr, cond, option_map, is_some, Bool, true, false, ◌≤◌, Option, Some, None, ◌≡◌, ℕ, suc, ◌+◌, List, [], ◌∷◌, ◌++◌, length, refl, sym, ap, ◌∙◌, subst, arith}
use Rattle.std.specs.Prelude.{if◌then◌else◌, ◌==◌}
use Rattle.std.specs.List.Sorted.{IsStrictlyIncreasing}
use Rattle.mtrace_replay.specs.declared.held.diagnostic.Diagnostic.{Diagnostic}
use Rattle.mtrace_replay.specs.declared.heap.settings.Settings.{Settings}
use Rattle.mtrace_replay.specs.Started.{Bare, started}
use Rattle.mtrace_replay.specs.Moment.{ReadLine, Given, Moment, outcome, moment, is_new, half}
use Rattle.mtrace_replay.specs.History.{entries_of, AreHeld, held, given_or, unless_taken, held_after, moments, content_after, pending, old_address}
use Rattle.mtrace_replay.specs.Replay.{Replayed, StandsFor, added_diagnostics}
use Rattle.mtrace_replay.specs.Step.{given_of, all_given, held_given, Comes, AreLive}
use Rattle.mtrace_replay.proofs.History.FoundLemmas.{found_is_held, held_as_found}
use Rattle.std.specs.List.{Contains, list_any}
use Rattle.std.proofs.lemmas.Bool.{eq-eqb}
use Rattle.tlsf_heap.specs.Content.{Block, Content, blocks_of, is_free, size_at}
use Rattle.tlsf_heap.specs.Bare.{bare}
use Rattle.tlsf_heap.specs.Good.{IsGood}
use Rattle.tlsf_heap.proofs.Content.BareSteps.{size_at-renamed}
use Rattle.tlsf_heap.proofs.Good.LiveBlocks.{end_here_bare, live_end_bare}
use Rattle.mtrace_replay.specs.Holding.{Holding}
use Rattle.mtrace_replay.specs.declared.heap.totals.Totals.{Totals}
use Rattle.mtrace_replay.specs.Index.{held_at}
use Rattle.mtrace_replay.specs.Texts.{total_size}
use Rattle.mtrace_replay.specs.Totals.{asked_bytes_in, AreTotals, blocks_in, gone_on, is_refusal}
use Rattle.mtrace_replay.proofs.OnHeap.StepLemmas.{found_given, given_under}
use Rattle.mtrace_replay.proofs.OnHeap.LiveBefore.{stood_outcome}
use Rattle.mtrace_replay.proofs.History.TotalsLemmas.{none_measured, most_none, high_none, started_free}
use Rattle.mtrace_replay.proofs.History.TotalsStep.{totals_of_line}
use Rattle.mtrace_replay.proofs.History.Moments.{moments-line}
use Rattle.mtrace_replay.proofs.History.SortedLemmas.{addresses}

module _ (old new : Replayed) (settings : Settings) (past : List ReadLine) (line : ReadLine) (diagnostics : List Diagnostic) (end : Option ℕ) (number : ℕ)
    (stands : StandsFor old settings past) (next : number ≡ old.totals.lines + 1)
    (comes : Comes old.content new.content old.given new.given diagnostics end (outcome number line old.pending (held_given old.given) old.content)) where
  before : List Moment
  before = moments (started settings) past

  -- the moment of the line
  now : Moment
  now = moment (length past) line (pending past) (held before) (content_after (started settings) before)

  its_outcome : Moment
  its_outcome = outcome (suc (length past)) line (pending past) (held before) (content_after (started settings) before)

  outcome_is : outcome number line old.pending (held_given old.given) old.content ≡ its_outcome
  unfolding its_outcome before
  outcome_is =
      ap (λ n. outcome n line old.pending (held_given old.given) old.content) (next ∙ omega (arith, stands.lines_are))
      ∙ ap (λ p. outcome (suc (length past)) line p (held_given old.given) old.content) stands.pending_is
      ∙ ap (λ look. outcome (suc (length past)) line (pending past) look old.content) (fun_ext (found_is_held old.given (moments (started settings) past) stands.held))
      ∙ ap (outcome (suc (length past)) line (pending past) (held (moments (started settings) past))) stands.content_is

  comes_so : Comes old.content new.content old.given new.given diagnostics end its_outcome
  comes_so = subst (Comes old.content new.content old.given new.given diagnostics end) outcome_is comes

  -- what is held after the line
  held_after_line : IsStrictlyIncreasing (addresses new.given) → AreHeld new.given (now ∷ before)
  unfolding its_outcome before now
  held_after_line ordered = held_as_found new.given _ ordered (λ address. comes_so.held_is address
      ∙ ap (λ look. held_after its_outcome look address) (fun_ext (found_is_held old.given (moments (started settings) past) stands.held)))

  module _ (heap : Content ℕ) (holdings : List Holding) (good : IsGood heap) (are : AreLive holdings heap) (heap_is : new.content ≡ bare heap) (given_is : new.given ≡ all_given holdings) where
    bare_is : bare heap ≡ its_outcome.content
    bare_is = sym heap_is ∙ comes_so.content_is

    -- the end of the block given, by the heap
    end_of_given : (given : Given) → its_outcome.given ≡ Some given → end ≡ Some (given.place + size_at given.place (blocks_of heap.pools))
    end_of_given given is =
        comes_so.end_is ∙ ap (λ gave. option_map (λ (g : Given). g.place + size_at g.place (blocks_of its_outcome.content.pools)) gave) is
        ∙ ap (λ (content : Bare). Some (given.place + size_at given.place (blocks_of content.pools))) (sym bare_is)
        ∙ ap (λ n. Some (given.place + n)) (size_at-renamed (λ owner. tt) given.place heap.pools)

    -- a live block was live before, or ends where the one does that was given
    stood : (block : Block (Unit {0})) → Contains (blocks_of now.content.pools) block → is_free block ≡ false
        → Contains (blocks_of (content_after (started settings) before).pools) block ⊎ ((place : ℕ) × (end ≡ Some place) × (block.place + block.size ≡ place))
    unfolding its_outcome before now
    stood block has live = elim (stood_outcome (content_after (started settings) before) (suc (length past)) line (pending past) (held before) block has live) [
      | inl there ↦ inl there
      | inr given ↦
          let P : Bare → Type 0 = λ content. Contains (blocks_of content.pools) block in
          inr (given.0.place + size_at given.0.place (blocks_of heap.pools), end_of_given given.0 given.1, end_here_bare given.0.place heap block good (subst P (sym bare_is) has) given.2)
    ]

    -- the block given is live
    given_lives : (given : Given) → its_outcome.given ≡ Some given
        → (block : Block (Unit {0})) × Contains (blocks_of (bare heap).pools) block × (is_free block ≡ false) × (block.place + block.size ≡ given.place + size_at given.place (blocks_of heap.pools))
    given_lives given is =
        let address = given.entry.addr in
        let gave : held_after its_outcome (held_given old.given) address ≡ Some given =
        ap (λ g. given_or g address (unless_taken its_outcome.taken address (held_given old.given address))) is
        ∙ ap (λ b. cond b (Some given) (unless_taken its_outcome.taken address (held_given old.given address))) (eq-eqb address address refl) in
        let there : option_map given_of (held_at holdings address) ≡ Some given =
        sym (found_given holdings address) ∙ ap (λ all. held_given all address) (sym given_is) ∙ comes_so.held_is address ∙ gave in
        let held_so = given_under (held_at holdings address) given there in
        let live = are.live address held_so.0 held_so.1 in
        let P : ℕ → Type 0 = λ place. (block : Block (Unit {0})) × Contains (blocks_of (bare heap).pools) block × (is_free block ≡ false) × (block.place + block.size ≡ place + size_at place (blocks_of heap.pools)) in
        subst P held_so.2 (live_end_bare (λ slot. slot == held_so.0.ptr.slot) held_so.0.ptr.place heap good live)

    given_stands : (place : ℕ) → end ≡ Some place → (block : Block (Unit {0})) × Contains (blocks_of now.content.pools) block × (is_free block ≡ false) × (block.place + block.size ≡ place)
    unfolding its_outcome before now
    given_stands place is = by_given its_outcome.given refl
      where
        by_given : (gave : Option Given) → its_outcome.given ≡ gave → (block : Block (Unit {0})) × Contains (blocks_of now.content.pools) block × (is_free block ≡ false) × (block.place + block.size ≡ place)
        by_given None none = absurd (let e : None ≡ Some place = ap (λ gave. option_map (λ (g : Given). g.place + size_at g.place (blocks_of its_outcome.content.pools)) gave) (sym none) ∙ sym comes_so.end_is ∙ is in cc)
        by_given (Some given) some =
            let same : given.place + size_at given.place (blocks_of heap.pools) ≡ place = (let e : Some (given.place + size_at given.place (blocks_of heap.pools)) ≡ Some place = sym (end_of_given given some) ∙ is in cc) in
            let block = given_lives given some in
            let P : Bare → Type 0 = λ content. Contains (blocks_of content.pools) block.0 in
            (block.0, subst P bare_is block.1, block.2, block.3 ∙ same)

    pub stands_for_line : IsStrictlyIncreasing (addresses new.given) → new.pending ≡ old_address line → new.out_of_memory ≡ false
        → (bytes blocks : ℕ) (refused : Bool) → new.totals ≡ gone_on old.totals end refused bytes blocks
        → bytes ≡ total_size (entries_of new.given) → blocks ≡ length new.given
        → refused ≡ list_any (λ (diagnostic : Diagnostic). is_refusal diagnostic.kind) (added_diagnostics settings line past)
        → StandsFor new settings (line ∷ past)
    unfolding its_outcome before now
    stands_for_line ordered told works bytes blocks refused gone sum count has_diagnostics =
        let whole = moments-line (started settings) line past in
        let start = started settings in
        let ms = moments (started settings) past in
        let holds = held_after_line ordered in
        let P : List Moment → Type 0 = λ past. AreHeld new.given past in
        let T : List Moment → Totals → Type 0 = λ past totals. AreTotals start past totals in
        record {
          works = works;
          lines_are = ap (λ (totals : Totals). totals.lines) gone ∙ omega (arith, stands.lines_are);
          pending_is = told;
          content_is = comes_so.content_is ∙ ap (content_after start) (sym whole);
          held = subst P (sym whole) holds;
          totals = subst (λ past. T past new.totals) (sym whole) (subst (T (now ∷ ms)) (sym gone)
              (totals_of_line start ms now new.given old.totals end refused bytes blocks stands.totals comes_so.end_is has_diagnostics holds sum count stood given_stands));
        }

  pub diagnostics_of_line : (if is_new line then [] else half old.totals.lines old.pending) ++ diagnostics ≡ added_diagnostics settings line past
  unfolding its_outcome before
  diagnostics_of_line =
      ap (λ n. (if is_new line then [] else half n old.pending) ++ diagnostics) stands.lines_are
      ∙ ap (λ p. (if is_new line then [] else half (length past) p) ++ diagnostics) stands.pending_is
      ∙ ap (λ ns. (if is_new line then [] else half (length past) (pending past)) ++ ns) comes_so.diagnostics_are

-- the totals of which each is 0
pub all_zero : (totals : Totals) → (totals.lines ≡ 0) × ((totals.served ≡ 0) × ((totals.refused ≡ 0) × ((totals.live_bytes ≡ 0) × ((totals.live_blocks ≡ 0) × ((totals.peak_bytes ≡ 0) × ((totals.peak_line ≡ 0) × ((totals.high_place ≡ 0))))))))
    → totals ≡ record { lines = 0; served = 0; refused = 0; live_bytes = 0; live_blocks = 0; peak_bytes = 0; peak_line = 0; high_place = 0 }
all_zero totals is = λ i. record {
  lines = is.0 i;
  served = is.1.0 i;
  refused = is.1.1.0 i;
  live_bytes = is.1.1.1.0 i;
  live_blocks = is.1.1.1.1.0 i;
  peak_bytes = is.1.1.1.1.1.0 i;
  peak_line = is.1.1.1.1.1.1.0 i;
  high_place = is.1.1.1.1.1.1.1 i;
}

-- the totals before the first line
pub totals_none : (settings : Settings) → AreTotals (started settings) [] (record { lines = 0; served = 0; refused = 0; live_bytes = 0; live_blocks = 0; peak_bytes = 0; peak_line = 0; high_place = 0 })
totals_none settings = record {
  lines = refl;
  served = refl;
  refused = refl;
  live_bytes = none_measured asked_bytes_in refl;
  live_blocks = none_measured blocks_in refl;
  peak = most_none asked_bytes_in refl;
  high_place = high_none (started settings) (started_free settings);
}

one_at_most : (b : Bool) → (if b then 1 else 0) ≤ 1
one_at_most true = omega arith
one_at_most false = omega arith

-- no more lines are served, or refused, than there are
module _ (old : Totals) (end : Option ℕ) (refused : Bool) (bytes blocks : ℕ) (new : Totals) (gone : new ≡ gone_on old end refused bytes blocks) where
  pub served_within : old.served ≤ old.lines → new.served ≤ new.lines
  served_within within =
      omega (arith, within, one_at_most (is_some end), ap (λ (totals : Totals). totals.served) gone, ap (λ (totals : Totals). totals.lines) gone)

  pub refused_within : old.refused ≤ old.lines → new.refused ≤ new.lines
  refused_within within =
      omega (arith, within, one_at_most refused, ap (λ (totals : Totals). totals.refused) gone, ap (λ (totals : Totals). totals.lines) gone)
