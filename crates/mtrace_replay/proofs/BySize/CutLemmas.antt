-- The order of cuts is total, and a cut with one part more in front is compared as the rest.
use Rattle.std.proofs.Common.{cond, Bool, true, false, Option, Some, None, ◌≡◌, ℕ, zero, suc, ◌+◌, ◌^◌, ◌<◌, ◌≤◌, List, [], ◌∷◌, ◌++◌, length, slice_index_or, ◌⊎◌, inl, inr, refl, sym, ap, ◌∙◌, subst, arith, Less, Equal, Greater}
use Rattle.std.specs.Prelude.{◌==◌, nat_lt}
use Rattle.std.specs.List.{All, Contains}
use Rattle.std.specs.Cmp.{IsTotalOrder}
use Rattle.std.specs.Cmp.Lexicographic.{slice_cmp}
use Rattle.std.specs.Ordering.{nat_cmp, ordering_then, ordering_reverse, is_gt}
use Rattle.std.specs.declared.cmp.Ordering.{Ordering}
use Rattle.std.proofs.lemmas.Cmp.{then_total, on_total, nat_cmp_total, lists_total, upto, tied_itself}
use Rattle.std.proofs.lemmas.List.Sums.{sum_by-cons}
use Rattle.std.proofs.lemmas.Bool.{false≢true, eqb-true, eq-eqb, ne_eqb, lt-ltb, le-ltb, ltb-true, ltb-false, cases_lt}
use Rattle.mtrace_replay.specs.declared.parts.span.Span.{Span}
use Rattle.mtrace_replay.specs.declared.parts.cut.Cut.{Cut}
use Rattle.mtrace_replay.specs.Parts.{Part, part_bytes, unbuilt, can_be_built, parts_of, IsCut, cut_bytes, cut_unbuilt, cut_cmp}
use Rattle.mtrace_replay.specs.Span.{IsPlaced}
use Rattle.mtrace_replay.proofs.Index.MappedLemmas.{no_span}
use Rattle.mtrace_replay.specs.Cuts.{part_of, span_bytes, cut_order, NotGreater, IsLesser, IsJoined, IsSmall, ArePartsIn, IsBest, AreBest}

order_total : IsTotalOrder cut_order
order_total =
    then_total (on_total (λ (cut : Cut). cut.unbuilt) nat_cmp_total) (then_total (on_total (λ (cut : Cut). cut.bytes) nat_cmp_total)
    (then_total (on_total (λ (cut : Cut). length cut.ends.items) nat_cmp_total) (on_total (λ (cut : Cut). cut.ends.items) (lists_total nat_cmp_total))))

itself : (cut : Option Cut) → NotGreater cut cut
itself None = tt
itself (Some cut) = ap is_gt (tied_itself order_total cut)

pub not_greater_through : (one middle other : Option Cut) → NotGreater one middle → NotGreater middle other → NotGreater one other
not_greater_through one middle None first second = tt
not_greater_through one None (Some other) first second = absurd second
not_greater_through None (Some middle) (Some other) first second = absurd first
not_greater_through (Some one) (Some middle) (Some other) first second = upto order_total one middle other first second

pub lesser_of_none : (other : Option Cut) → IsLesser None other other
lesser_of_none other = record { either = inr refl; first = tt; second = itself other }

pub lesser_alone : (cut : Cut) → IsLesser (Some cut) None (Some cut)
lesser_alone cut = record { either = inl refl; first = itself (Some cut); second = tt }

pub lesser_first : (one other : Cut) → is_gt (cut_order one other) ≡ false → IsLesser (Some one) (Some other) (Some one)
lesser_first one other is = record { either = inl refl; first = itself (Some one); second = is }

pub lesser_second : (one other : Cut) → is_gt (cut_order one other) ≡ true → IsLesser (Some one) (Some other) (Some other)
lesser_second one other is = record { either = inr refl; first = back (cut_order one other) (cut_order other one) is (order_total.antisymm one other); second = itself (Some other) }
  where
    back : (there here : Ordering) → is_gt there ≡ true → there ≡ ordering_reverse here → is_gt here ≡ false
    back there Less is same = refl
    back there Equal is same = refl
    back there Greater is same = absurd (false≢true (ap is_gt (sym same) ∙ is))

module _ (part : ℕ → ℕ → Part) where
  pub cmp_total : (first : ℕ) → IsTotalOrder (cut_cmp part first)
  cmp_total first =
      then_total (on_total (cut_unbuilt part first) nat_cmp_total) (then_total (on_total (cut_bytes part first) nat_cmp_total)
      (then_total (on_total (λ (ends : List ℕ). length ends) nat_cmp_total) (lists_total nat_cmp_total)))

  -- numbers that have as much more are compared as before
  same_cmp : (c x y : ℕ) → nat_cmp (c + x) (c + y) ≡ nat_cmp x y
  same_cmp c x y = by_lt (nat_lt x y) refl
    where
      by_eq : (y ≤ x) → (b : Bool) → (x == y) ≡ b → nat_cmp (c + x) (c + y) ≡ cond b Equal Greater
      by_eq not true is = ap (λ n. nat_cmp (c + n) (c + y)) (eqb-true x y is) ∙ tied_itself nat_cmp_total (c + y)
      by_eq not false is =
          ap (λ b. cond b Less (cond (c + x == c + y) Equal Greater)) (le-ltb (c + x) (c + y) (omega (arith, not)))
          ∙ ap (λ b. cond b Equal Greater) (ne_eqb (c + x) (c + y) (λ same. let equal : x ≡ y = omega (arith, same) in false≢true (sym is ∙ eq-eqb x y equal)))

      by_lt : (b : Bool) → nat_lt x y ≡ b → nat_cmp (c + x) (c + y) ≡ cond b Less (cond (x == y) Equal Greater)
      by_lt true is = ap (λ b. cond b Less (cond (c + x == c + y) Equal Greater)) (lt-ltb (c + x) (c + y) (let less = ltb-true x y is in omega (arith, less)))
      by_lt false is = by_eq (ltb-false x y is) (x == y) refl

  -- two cuts compared by these figures
  abbrev compared : (unbuilt_one unbuilt_other bytes_one bytes_other : ℕ) → List ℕ → List ℕ → Ordering
  compared unbuilt_one unbuilt_other bytes_one bytes_other one other =
      ordering_then (nat_cmp unbuilt_one unbuilt_other) (ordering_then (nat_cmp bytes_one bytes_other) (ordering_then (nat_cmp (length one) (length other)) (slice_cmp nat_cmp one other)))

  -- as much more in front of each figure, and the same first end, change nothing
  same_compared : (m n u v b c last : ℕ) (one other : List ℕ) → compared (m + u) (m + v) (n + b) (n + c) (last ∷ one) (last ∷ other) ≡ compared u v b c one other
  same_compared m n u v b c last one other =
      ap (λ o. ordering_then o (ordering_then (nat_cmp (n + b) (n + c)) (ordering_then (nat_cmp (suc (length one)) (suc (length other))) (slice_cmp nat_cmp (last ∷ one) (last ∷ other))))) (same_cmp m u v)
      ∙ ap (λ o. ordering_then (nat_cmp u v) (ordering_then o (ordering_then (nat_cmp (suc (length one)) (suc (length other))) (slice_cmp nat_cmp (last ∷ one) (last ∷ other))))) (same_cmp n b c)
      ∙ ap (λ o. ordering_then (nat_cmp u v) (ordering_then (nat_cmp b c) (ordering_then o (slice_cmp nat_cmp (last ∷ one) (last ∷ other))))) (counts (length one) (length other))
      ∙ ap (λ o. ordering_then (nat_cmp u v) (ordering_then (nat_cmp b c) (ordering_then (nat_cmp (length one) (length other)) (ordering_then o (slice_cmp nat_cmp one other))))) (tied_itself nat_cmp_total last)
    where
      counts : (m n : ℕ) → nat_cmp (suc m) (suc n) ≡ nat_cmp m n
      counts m n =
          let left : suc m ≡ 1 + m = omega arith in
          let right : suc n ≡ 1 + n = omega arith in
          ap (λ k. nat_cmp k (suc n)) left ∙ ap (λ k. nat_cmp (1 + m) k) right ∙ same_cmp 1 m n

  unbuilt-cons : (first last : ℕ) (ends : List ℕ) → cut_unbuilt part first (last ∷ ends) ≡ unbuilt (part first last) + cut_unbuilt part (suc last) ends
  unbuilt-cons first last ends = sum_by-cons unbuilt (part first last) (parts_of part (suc last) ends)

  bytes-cons : (first last : ℕ) (ends : List ℕ) → cut_bytes part first (last ∷ ends) ≡ part_bytes (part first last) + cut_bytes part (suc last) ends
  bytes-cons first last ends = sum_by-cons part_bytes (part first last) (parts_of part (suc last) ends)

  -- with the same part in front they are compared as the rest
  cmp-cons : (first last : ℕ) (one other : List ℕ) → cut_cmp part first (last ∷ one) (last ∷ other) ≡ cut_cmp part (suc last) one other
  cmp-cons first last one other =
      ap (λ n. compared n (cut_unbuilt part first (last ∷ other)) (cut_bytes part first (last ∷ one)) (cut_bytes part first (last ∷ other)) (last ∷ one) (last ∷ other)) (unbuilt-cons first last one)
      ∙ ap (λ n. compared (unbuilt (part first last) + cut_unbuilt part (suc last) one) n (cut_bytes part first (last ∷ one)) (cut_bytes part first (last ∷ other)) (last ∷ one) (last ∷ other)) (unbuilt-cons first last other)
      ∙ ap (λ n. compared (unbuilt (part first last) + cut_unbuilt part (suc last) one) (unbuilt (part first last) + cut_unbuilt part (suc last) other) n (cut_bytes part first (last ∷ other)) (last ∷ one) (last ∷ other)) (bytes-cons first last one)
      ∙ ap (λ n. compared (unbuilt (part first last) + cut_unbuilt part (suc last) one) (unbuilt (part first last) + cut_unbuilt part (suc last) other) (part_bytes (part first last) + cut_bytes part (suc last) one) n (last ∷ one) (last ∷ other)) (bytes-cons first last other)
      ∙ same_compared (unbuilt (part first last)) (part_bytes (part first last)) (cut_unbuilt part (suc last) one) (cut_unbuilt part (suc last) other) (cut_bytes part (suc last) one) (cut_bytes part (suc last) other) last one other

  -- a cut isn't greater than these ends
  abbrev pub Covers : (first : ℕ) → Option Cut → List ℕ → Type 0
  Covers first None ends = ⊥
  Covers first (Some cut) ends = is_gt (cut_cmp part first cut.ends.items ends) ≡ false

  -- it is a cut of so few parts, and its bytes are told
  abbrev pub IsValid : (most first : ℕ) → Option Cut → Type 0
  IsValid most first None = Unit {0}
  IsValid most first (Some cut) = IsCut part first cut.ends.items × (length cut.ends.items ≤ most) × (cut.bytes ≡ cut_bytes part first cut.ends.items) × (cut.unbuilt ≡ cut_unbuilt part first cut.ends.items)

  order_is : (most first : ℕ) (one other : Cut) → IsValid most first (Some one) → IsValid most first (Some other) → cut_order one other ≡ cut_cmp part first one.ends.items other.ends.items
  order_is most first one other is as_well =
      ap (λ n. compared n other.unbuilt one.bytes other.bytes one.ends.items other.ends.items) is.3
      ∙ ap (λ n. compared (cut_unbuilt part first one.ends.items) n one.bytes other.bytes one.ends.items other.ends.items) as_well.3
      ∙ ap (λ n. compared (cut_unbuilt part first one.ends.items) (cut_unbuilt part first other.ends.items) n other.bytes one.ends.items other.ends.items) is.2
      ∙ ap (λ n. compared (cut_unbuilt part first one.ends.items) (cut_unbuilt part first other.ends.items) (cut_bytes part first one.ends.items) n one.ends.items other.ends.items) as_well.2

  -- what isn't greater covers as much
  covers_through : (most first : ℕ) (one other : Option Cut) (ends : List ℕ) → IsValid most first one → IsValid most first other → NotGreater one other → Covers first other ends → Covers first one ends
  covers_through most first one None ends is as_well not covers = absurd covers
  covers_through most first None (Some other) ends is as_well not covers = absurd not
  covers_through most first (Some one) (Some other) ends is as_well not covers =
      upto (cmp_total first) one.ends.items other.ends.items ends (sym (ap is_gt (order_is most first one other is as_well)) ∙ not) covers

  covers_itself : (first : ℕ) (cut : Cut) → Covers first (Some cut) cut.ends.items
  covers_itself first cut = ap is_gt (tied_itself (cmp_total first) cut.ends.items)

  -- what is known of the best cut when the spans so far were tried
  pub record IsBestSoFar (most : ℕ) (rests : List (Option Cut)) (spans : List Span) (first index : ℕ) (best : Option Cut) : Type 0 where
    pub valid : IsValid (suc most) first best
    pub empty : IsCut part first [] → Covers first best []
    pub each : (k : ℕ) (d : Span) → k < index → (slice_index_or spans k d).first ≡ first → (rest : Cut) → slice_index_or rests (suc (slice_index_or spans k d).last) None ≡ Some rest
        → Covers first best ((slice_index_or spans k d).last ∷ rest.ends.items)

  -- what holds of all spans holds of one
  of_one : (P : Span → Type 0) (spans : List Span) → All P spans → (span : Span) → Contains spans span → P span
  of_one P spans all span has = subst P has.2 (all has.0 span has.1)

  module _ (spans : List Span) (first : ℕ) (in_spans : ArePartsIn part spans) where
    -- the part of the ranges that a span has
    part_at : (span : Span) → Contains spans span → part span.first span.last ≡ part_of span
    part_at span has = of_one (λ span. part span.first span.last ≡ part_of span) spans in_spans.each span has

    -- no request falls under the ranges: then the cut of no part is one
    pub is_empty : (cut : Cut) → cut.ends.items ≡ [] → cut.bytes ≡ 0 → cut.unbuilt ≡ 0 → All (λ (span : Span). span.first ≡ first → span.size ≡ 0) spans → IsValid 0 first (Some cut)
    is_empty cut no_ends no_bytes no_unbuilt unused = (
      subst (IsCut part first) (sym no_ends) (λ last from within.
          let has = in_spans.all first last from within in
          let span : Span = has.0 in
          ap (λ f. (part f last).size) (sym has.2) ∙ ap (λ l. (part span.first l).size) (sym has.3) ∙ ap (λ (p : Part). p.size) (part_at span has.1)
          ∙ of_one (λ (span : Span). span.first ≡ first → span.size ≡ 0) spans unused span has.1 has.2),
      subst (λ ends. length ends ≤ 0) (sym no_ends) (omega arith),
      no_bytes ∙ sym (ap (cut_bytes part first) no_ends),
      no_unbuilt ∙ sym (ap (cut_unbuilt part first) no_ends),
    )

    -- some request falls under them: then it isn't one
    pub is_used : (k : ℕ) → k < length spans → ((d : Span) → ((slice_index_or spans k d).first ≡ first) × (0 < (slice_index_or spans k d).size)) → IsCut part first [] → ⊥
    is_used k within used is =
        let span = slice_index_or spans k no_span in
        let its = used no_span in
        let placed = in_spans.placed k no_span within in
        let none = is span.last (omega (arith, placed.ordered, its.0)) placed.within in
        let same : (part span.first span.last).size ≡ span.size = ap (λ (p : Part). p.size) (in_spans.each k no_span within) in
        let there : (part span.first span.last).size ≡ (part first span.last).size = ap (λ f. (part f span.last).size) its.0 in
        omega (arith, none, same, there, its.1)

  module _ (most : ℕ) (rests : List (Option Cut)) (spans : List Span) (first : ℕ) (in_spans : ArePartsIn part spans) (best_rests : AreBest part most rests) where
    -- no request falls under the ranges
    pub none_so_far : (cut : Cut) → cut.ends.items ≡ [] → cut.bytes ≡ 0 → cut.unbuilt ≡ 0 → All (λ (span : Span). span.first ≡ first → span.size ≡ 0) spans → IsBestSoFar most rests spans first 0 (Some cut)
    none_so_far cut no_ends no_bytes no_unbuilt unused =
        let empty = is_empty spans first in_spans cut no_ends no_bytes no_unbuilt unused in
        record {
          valid = (empty.0, subst (λ ends. length ends ≤ suc most) (sym no_ends) (omega arith), empty.2, empty.3);
          empty = λ is. subst (λ ends. is_gt (cut_cmp part first ends []) ≡ false) (sym no_ends) refl;
          each = λ k d below. absurd (omega (arith, below));
        }

    -- some request falls under them
    pub some_so_far : (k : ℕ) → k < length spans → ((d : Span) → ((slice_index_or spans k d).first ≡ first) × (0 < (slice_index_or spans k d).size)) → IsBestSoFar most rests spans first 0 None
    some_so_far k within used = record {
      valid = tt;
      empty = is_used spans first in_spans k within used;
      each = λ k d below. absurd (omega (arith, below));
    }

    -- a span of other ranges is passed over
    pub passed_over : (index : ℕ) (best : Option Cut) → IsBestSoFar most rests spans first index best → ((d : Span) → (slice_index_or spans index d).first ≡ first → ⊥) → IsBestSoFar most rests spans first (index + 1) best
    passed_over index best so_far other = record {
      valid = so_far.valid;
      empty = so_far.empty;
      each = λ k d below from rest is. elim (cases_lt k index) [
        | inl before ↦ so_far.each k d before from rest is
        | inr now ↦ let same : k ≡ index = omega (arith, now, below) in absurd (other d (ap (λ n. (slice_index_or spans n d).first) (sym same) ∙ from))
      ];
    }

    -- a cut with one part more in front is one of one part more
    valid_joined : (span : Span) → Contains spans span → span.first ≡ first → (rest : Option Cut) → IsBest part most (suc span.last) rest → (cut : Option Cut) → IsJoined span rest cut → IsValid (suc most) first cut
    valid_joined span has from None best cut is = subst (IsValid (suc most) first) (sym is) tt
    valid_joined span has from (Some rest) best None is = tt
    valid_joined span has from (Some rest) best (Some cut) is =
        let placed = of_one IsPlaced spans in_spans.placed span has in
        let part_is : part_bytes (part first span.last) ≡ span_bytes span = ap (λ f. part_bytes (part f span.last)) (sym from) ∙ ap part_bytes (part_at spans first in_spans span has) in
        let whole = bytes-cons first span.last rest.ends.items in
        let part_unbuilt : unbuilt (part first span.last) ≡ unbuilt (part_of span) = ap (λ f. unbuilt (part f span.last)) (sym from) ∙ ap unbuilt (part_at spans first in_spans span has) in
        let all_unbuilt = unbuilt-cons first span.last rest.ends.items in
        let count : length cut.ends.items ≡ suc (length rest.ends.items) = ap length is.0 in (
          subst (IsCut part first) (sym is.0) (subst (λ f. f ≤ span.last) from placed.ordered, placed.within, best.0.cut),
          omega (arith, count, best.0.few),
          is.1 ∙ omega (arith, part_is, whole, best.1) ∙ sym (ap (cut_bytes part first) is.0),
          is.2 ∙ omega (arith, part_unbuilt, all_unbuilt, best.2) ∙ sym (ap (cut_unbuilt part first) is.0),
        )

    -- a span is tried
    pub tried : (index : ℕ) (best candidate new : Option Cut) (span : Span) → ((d : Span) → slice_index_or spans index d ≡ span) → index < length spans → span.first ≡ first
        → IsBestSoFar most rests spans first index best → (rest : Option Cut) → IsBest part most (suc span.last) rest → slice_index_or rests (suc span.last) None ≡ rest
        → IsJoined span rest candidate → IsLesser best candidate new → IsBestSoFar most rests spans first (index + 1) new
    tried index best candidate new span span_is within from so_far rest best_rest rest_is joins lesser =
        let has : Contains spans span = (index, within, span_is span) in
        let valid_candidate = valid_joined span has from rest best_rest candidate joins in
        let valid_new = by_either new valid_candidate lesser.either in
        record {
          valid = valid_new;
          empty = λ is. covers_through (suc most) first new best [] valid_new so_far.valid lesser.first (so_far.empty is);
          each = λ k d below other_from other is. elim (cases_lt k index) [
            | inl before ↦ covers_through (suc most) first new best _ valid_new so_far.valid lesser.first (so_far.each k d before other_from other is)
            | inr now ↦
                let same : k ≡ index = omega (arith, now, below) in
                let here : slice_index_or spans k d ≡ span = ap (λ n. slice_index_or spans n d) same ∙ span_is d in
                let rest_there : rest ≡ Some other = sym rest_is ∙ ap (λ (s : Span). slice_index_or rests (suc s.last) None) (sym here) ∙ is in
                subst (λ (s : Span). Covers first new (s.last ∷ other.ends.items)) (sym here)
                (by_rest candidate other (subst (λ o. IsJoined span o candidate) rest_there joins) valid_candidate valid_new)
          ];
        }
      where
        by_either : (new : Option Cut) → IsValid (suc most) first candidate → (new ≡ best) ⊎ (new ≡ candidate) → IsValid (suc most) first new
        by_either new valid_candidate (inl is) = subst (IsValid (suc most) first) (sym is) so_far.valid
        by_either new valid_candidate (inr is) = subst (IsValid (suc most) first) (sym is) valid_candidate

        by_rest : (cut : Option Cut) (other : Cut) → IsJoined span (Some other) candidate → IsValid (suc most) first candidate → IsValid (suc most) first new → Covers first new (span.last ∷ other.ends.items)
        by_rest cut other is valid_candidate valid_new = covers_through (suc most) first new candidate _ valid_new valid_candidate lesser.second (covers_joined candidate is)
          where
            covers_joined : (cut : Option Cut) → IsJoined span (Some other) cut → Covers first cut (span.last ∷ other.ends.items)
            covers_joined None is = absurd is
            covers_joined (Some cut) is = subst (λ ends. is_gt (cut_cmp part first cut.ends.items ends) ≡ false) is.0 (covers_itself first cut)

    -- all spans were tried
    module _ (best : Option Cut) (so_far : IsBestSoFar most rests spans first (length spans) best) where
      covered : (ends : List ℕ) → IsCut part first ends → length ends ≤ suc most → Covers first best ends
      covered [] is few = so_far.empty is
      covered (last ∷ ends) is few =
          let has = in_spans.all first last is.0 is.1 in
          let span : Span = has.0 in
          by_rest (slice_index_or rests (suc last) None) refl (best_rests.each (suc last) None (omega (arith, is.1, best_rests.all)))
        where
          by_rest : (rest : Option Cut) → slice_index_or rests (suc last) None ≡ rest → IsBest part most (suc last) rest → Covers first best (last ∷ ends)
          by_rest None same none = absurd (none ends is.2 (omega (arith, few)))
          by_rest (Some rest) same least =
              let has = in_spans.all first last is.0 is.1 in
              let at = has.1 in
              let here = at.2 in
              let its : (slice_index_or spans at.0 has.0).last ≡ last = ap (λ (s : Span). s.last) here ∙ has.3 in
              let one = so_far.each at.0 has.0 at.1 (ap (λ (s : Span). s.first) here ∙ has.2) rest (ap (λ n. slice_index_or rests (suc n) None) its ∙ same) in
              covers_then best (subst (λ n. Covers first best (n ∷ rest.ends.items)) its one)
              (ap is_gt (cmp-cons first last rest.ends.items ends) ∙ least.0.least ends is.2 (omega (arith, few)))
            where
              covers_then : (cut : Option Cut) → Covers first cut (last ∷ rest.ends.items) → is_gt (cut_cmp part first (last ∷ rest.ends.items) (last ∷ ends)) ≡ false → Covers first cut (last ∷ ends)
              covers_then None covers not = absurd covers
              covers_then (Some cut) covers not = upto (cmp_total first) cut.ends.items (last ∷ rest.ends.items) (last ∷ ends) covers not

      pub all_tried : IsBest part (suc most) first best
      all_tried = by_best best so_far.valid covered
        where
          by_best : (best : Option Cut) → IsValid (suc most) first best → ((ends : List ℕ) → IsCut part first ends → length ends ≤ suc most → Covers first best ends) → IsBest part (suc most) first best
          by_best None valid covers = covers
          by_best (Some cut) valid covers = (record { cut = valid.0; few = valid.1; least = covers }, valid.2, valid.3)

-- a cut with a part more in front is small
pub small_joined : (most : ℕ) (span : Span) → span_bytes span ≤ 2 ^ 96 → (rest cut : Option Cut) → IsSmall most rest → IsJoined span rest cut → IsSmall (suc most) cut
small_joined most span few None cut small is = subst (IsSmall (suc most)) (sym is) tt
small_joined most span few (Some rest) None small is = tt
small_joined most span few (Some rest) (Some cut) small is =
    let count : length cut.ends.items ≡ suc (length rest.ends.items) = ap length is.0 in
    (omega (arith, count, small.0), omega (arith, is.1, few, small.1), unbuilt_small (can_be_built (part_of span)) refl)
  where
    unbuilt_small : (b : Bool) → can_be_built (part_of span) ≡ b → cut.unbuilt ≤ suc most
    unbuilt_small true built = (let none : unbuilt (part_of span) ≡ 0 = ap (λ b. cond b 0 1) built in omega (arith, is.2, none, small.2))
    unbuilt_small false not = (let one : unbuilt (part_of span) ≡ 1 = ap (λ b. cond b 0 1) not in omega (arith, is.2, one, small.2))

-- the lesser of two small ones is small
pub small_lesser : (most : ℕ) (one other cut : Option Cut) → IsLesser one other cut → IsSmall most one → IsSmall most other → IsSmall most cut
small_lesser most one other cut lesser first second = elim lesser.either [
  | inl is ↦ subst (IsSmall most) (sym is) first
  | inr is ↦ subst (IsSmall most) (sym is) second
]

-- with no part, only the cut of none is there
pub empty_best : (part : ℕ → ℕ → Part) (spans : List Span) (first : ℕ) → ArePartsIn part spans → (cut : Cut) → cut.ends.items ≡ [] → cut.bytes ≡ 0 → cut.unbuilt ≡ 0 → All (λ (span : Span). span.first ≡ first → span.size ≡ 0) spans
    → IsBest part 0 first (Some cut)
empty_best part spans first in_spans cut no_ends no_bytes no_unbuilt unused =
    let valid = is_empty part spans first in_spans cut no_ends no_bytes no_unbuilt unused in (
      record {
        cut = valid.0;
        few = subst (λ ends. length ends ≤ 0) (sym no_ends) (omega arith);
        least = by_ends;
      },
      valid.2,
      valid.3,
    )
  where
    by_ends : (ends : List ℕ) → IsCut part first ends → length ends ≤ 0 → is_gt (cut_cmp part first cut.ends.items ends) ≡ false
    by_ends [] is few = subst (λ ends. is_gt (cut_cmp part first ends []) ≡ false) (sym no_ends) refl
    by_ends (last ∷ ends) is few = absurd (omega (arith, few))

pub empty_none : (part : ℕ → ℕ → Part) (spans : List Span) (first : ℕ) → ArePartsIn part spans → (k : ℕ) → k < length spans → ((d : Span) → ((slice_index_or spans k d).first ≡ first) × (0 < (slice_index_or spans k d).size))
    → IsBest part 0 first None
empty_none part spans first in_spans k within used [] is few = is_used part spans first in_spans k within used is
empty_none part spans first in_spans k within used (last ∷ ends) is few = absurd (omega (arith, few))

-- what holds at each position holds with one more
pub pushed : {X : Type 0} (P : ℕ → X → Type 0) (xs : List X) (x : X) → ((k : ℕ) (d : X) → k < length xs → P k (slice_index_or xs k d)) → P (length xs) x
    → (k : ℕ) (d : X) → k < length (xs ++ x ∷ []) → P k (slice_index_or (xs ++ x ∷ []) k d)
pushed P [] x all its zero d within = its
pushed P [] x all its (suc k) d within = absurd (omega (arith, within))
pushed P (y ∷ ys) x all its zero d within = all 0 d (omega arith)
pushed P (y ∷ ys) x all its (suc k) d within = pushed (λ n. P (suc n)) ys x (λ k d within. all (suc k) d (omega (arith, within))) its k d (omega (arith, within))

-- there is a cut of one part
pub some_cut : (part : ℕ → ℕ → Part) (most : ℕ) → 0 < most → IsBest part most 0 None → ⊥
some_cut part most some none = none (26 ∷ []) (omega arith, omega arith, λ last from within. absurd (omega (arith, from, within))) (omega (arith, some))

-- what is small is small where more is allowed
pub smaller : (few many : ℕ) → few ≤ many → (cut : Option Cut) → IsSmall few cut → IsSmall many cut
smaller few many less None small = tt
smaller few many less (Some cut) small = (omega (arith, less, small.0), omega (arith, less, small.1), omega (arith, less, small.2))
