-- The totals of a log's lines after one line more, by the outcome of that line.
use Rattle.std.proofs.Common.{cond, ◌≡◌, ℕ, suc, ◌+◌, ◌<◌, ◌≤◌, Bool, true, false, List, ◌∷◌, length, ◌⊎◌, inl, inr, refl, sym, ap, ◌∙◌, subst, arith, Option, Some, None, count_by}
use Rattle.std.specs.Prelude.{max, nat_lt, unwrap_or, is_some, option_map, if◌then◌else◌}
use Rattle.std.specs.List.{Contains, list_any}
use Rattle.std.proofs.lemmas.Bool.{lt-ltb, le-ltb}
use Rattle.tlsf_heap.specs.Content.{Block, blocks_of, is_free}
use Rattle.tlsf_heap.proofs.Counts.{count-cons, one_if}
use Rattle.mtrace_replay.specs.declared.held.diagnostic.Diagnostic.{Diagnostic}
use Rattle.mtrace_replay.specs.declared.heap.totals.Totals.{Totals}
use Rattle.mtrace_replay.specs.Started.{Bare}
use Rattle.mtrace_replay.specs.Moment.{Given, Moment}
use Rattle.mtrace_replay.specs.History.{AreHeld, content_after, entries_of}
use Rattle.mtrace_replay.specs.Step.{end_of}
use Rattle.mtrace_replay.specs.Texts.{total_size}
use Rattle.mtrace_replay.specs.Totals.{is_served, is_refusal, is_refused, asked_bytes_in, Measures, IsPeak, IsLiveIn, IsEnd, IsHighPlace, AreTotals, gone_on}
use Rattle.mtrace_replay.proofs.History.TotalsLemmas.{first_moments_all, greatest_goes_on, peak_goes_on}

-- an end is there where something was given
pub some_mapped : {A B : Type 0} (f : A → B) (o : Option A) → is_some (option_map f o) ≡ is_some o
some_mapped f None = refl
some_mapped f (Some x) = refl

-- the count of one moment more
count_more : (p : Moment → Bool) (moment : Moment) (past : List Moment) (before : ℕ) (test : Bool) → before ≡ count_by p past → test ≡ p moment → before + (if test then 1 else 0) ≡ count_by p (moment ∷ past)
count_more p moment past before test counted same =
    let one : (if test then 1 else 0) ≡ one_if (p moment) = ap (λ b. if b then 1 else 0) same in
    omega (arith, counted, one, count-cons p moment past)

-- whether a line was served is told by how many were
pub served_more : (moment : Moment) (past : List Moment) (old new : ℕ) → old ≡ count_by is_served past → new ≡ count_by is_served (moment ∷ past) → nat_lt old new ≡ is_served moment
served_more moment past old new before after = by_served (is_served moment) (after ∙ count-cons is_served moment past)
  where
    by_served : (b : Bool) → new ≡ cond b 1 0 + count_by is_served past → nat_lt old new ≡ b
    by_served true is = lt-ltb old new (omega (arith, is, before))
    by_served false is = le-ltb old new (omega (arith, is, before))

-- each block that is live now stood before, or ends at this end
abbrev StoodBut : Bare → List Moment → Moment → Option ℕ → Type 0
StoodBut start past moment end = (block : Block (Unit {0})) → Contains (blocks_of moment.content.pools) block → is_free block ≡ false
    → Contains (blocks_of (content_after start past).pools) block ⊎ ((place : ℕ) × (end ≡ Some place) × (block.place + block.size ≡ place))

-- at this end, if any, a block that is live now ends
abbrev EndsBlock : Moment → Option ℕ → Type 0
EndsBlock moment end = (place : ℕ) → end ≡ Some place → (block : Block (Unit {0})) × Contains (blocks_of moment.content.pools) block × (is_free block ≡ false) × (block.place + block.size ≡ place)

-- the greatest end of one moment more
high_goes_on : (start : Bare) (past : List Moment) (moment : Moment) (high : ℕ) → IsHighPlace start past high
    → (end : Option ℕ) → StoodBut start past moment end → EndsBlock moment end
    → IsHighPlace start (moment ∷ past) (if nat_lt high (unwrap_or end 0) then unwrap_or end 0 else high)
high_goes_on start past moment high is end stood ends = (_, greatest_goes_on (IsEnd start) moment past high is.0 is.1 (unwrap_or end 0) (given end refl) below (nat_lt high (unwrap_or end 0)) refl)
  where
    given : (o : Option ℕ) → end ≡ o → high < unwrap_or o 0 → IsEnd start (moment ∷ past) (unwrap_or o 0)
    given None is more = absurd (omega (arith, more))
    given (Some place) is more = let block = ends place is in inr (block.0, (block.1, block.2), sym block.3)

    -- a block that was live ends at or below the greatest end
    before : (block : Block (Unit {0})) → IsLiveIn (content_after start past) block → block.place + block.size ≤ high
    before block live = is.1.greatest (length past) (block.place + block.size) (subst (λ first. IsEnd start first (block.place + block.size)) (sym (first_moments_all past)) (inr (block, live, refl)))

    below : (n : ℕ) → IsEnd start (moment ∷ past) n → n ≤ max high (unwrap_or end 0)
    below n (inl none) = omega (arith, none)
    below n (inr at) = elim (stood at.0 at.1.0 at.1.1) [
      | inl there ↦ omega (arith, at.2, before at.0 (there, at.1.1))
      | inr new ↦ omega (arith, at.2, new.2, ap (λ o. unwrap_or o 0) new.1)
    ]

-- the totals go on by the line's end, by whether it was refused, and by what is held after it
pub totals_of_line : (start : Bare) (past : List Moment) (moment : Moment) (all : List Given) (old : Totals) (end : Option ℕ) (refused : Bool) (bytes blocks : ℕ)
    → AreTotals start past old
    → end ≡ end_of moment
    → refused ≡ list_any (λ (diagnostic : Diagnostic). is_refusal diagnostic.kind) moment.diagnostics
    → AreHeld all (moment ∷ past)
    → bytes ≡ total_size (entries_of all) → blocks ≡ length all
    → ((block : Block (Unit {0})) → Contains (blocks_of moment.content.pools) block → is_free block ≡ false → Contains (blocks_of (content_after start past).pools) block ⊎ ((place : ℕ) × (end ≡ Some place) × (block.place + block.size ≡ place)))
    → ((place : ℕ) → end ≡ Some place → (block : Block (Unit {0})) × Contains (blocks_of moment.content.pools) block × (is_free block ≡ false) × (block.place + block.size ≡ place))
    → AreTotals start (moment ∷ past) (gone_on old end refused bytes blocks)
totals_of_line start past moment all old end refused bytes blocks are end_is refused_is held sum count stood given = record {
  lines = omega (arith, are.lines);
  served = count_more is_served moment past old.served (is_some end) are.served (ap is_some end_is ∙ some_mapped _ moment.given);
  refused = count_more is_refused moment past old.refused refused are.refused refused_is;
  live_bytes = sum_now;
  live_blocks = record { all = all; held = held; measured = count };
  peak = peak;
  high_place = high_goes_on start past moment old.high_place are.high_place end stood given;
}
  where
    sum_now : Measures asked_bytes_in (moment ∷ past) bytes
    sum_now = record { all = all; held = held; measured = sum }

    -- the line is as many as there were, and one
    peak : IsPeak (moment ∷ past) (if nat_lt old.peak_bytes bytes then bytes else old.peak_bytes) (if nat_lt old.peak_bytes bytes then old.lines + 1 else old.peak_line)
    peak =
        let last : suc (length past) ≡ old.lines + 1 = omega (arith, are.lines) in
        subst (λ n. IsPeak (moment ∷ past) (if nat_lt old.peak_bytes bytes then bytes else old.peak_bytes) (if nat_lt old.peak_bytes bytes then n else old.peak_line)) last
        (peak_goes_on asked_bytes_in moment past old.peak_bytes bytes sum_now old.peak_line are.peak (nat_lt old.peak_bytes bytes) refl)
