-- Heads that enter cells one after the other.
use Rattle.std.proofs.Common.{◌≡◌, ℕ, ◌+◌, ◌<◌, ◌≤◌, ◌/◌, List, length, refl, sym, ◌∙◌, subst, arith, Option, Some, None, inl, inr, set}
use Rattle.std.proofs.lemmas.Bool.{cases_lt}
use Rattle.std.proofs.lemmas.List.{ext_get_or, get_or-set_same, get_or-set_other, length-set, get_or-replicate, length-replicate}
use Rattle.tlsf_class.specs.Classes.{classes, steps}
use Rattle.tlsf_store.specs.Cells.{Cells, head_at, with_head, empty_cells}
use Rattle.tlsf_store.specs.declared.records.Record.{Record}
use Rattle.tlsf_heap.specs.Inner.Edits.{with_class_bit}
use Rattle.tlsf_heap.specs.Inner.Loading.{HasHeadsBelow, with_records}
use Rattle.tlsf_heap.proofs.Bits.Edits.{bits_set}
use Rattle.tlsf_heap.proofs.Inner.Empty.{empty_stands}

module _ (heads : List (Option ℕ)) (old : Cells) where
  module _ (number : ℕ) (cells : Cells) (within : number < classes) (so_far : HasHeadsBelow heads old number cells) where
    -- one head more
    pub heads_on : (first : ℕ) → head_at heads number ≡ Some first → HasHeadsBelow heads old (number + 1) (with_class_bit number (with_head cells number (Some first)))
    heads_on first is = record {
      records = so_far.records;
      pools = so_far.pools;
      heads_count = length-set cells.heads number (Some first) ∙ so_far.heads_count;
      words_count = length-set cells.step_words (number / steps) _ ∙ so_far.words_count;
      bitmaps = bits_set cells.heads cells.step_words cells.level_word number so_far.heads_count so_far.words_count within so_far.bitmaps first;
      done = λ k below. elim (cases_lt k number) [
        | inl before ↦ get_or-set_other cells.heads number k (Some first) None (λ e. omega (arith, before, e)) ∙ so_far.done k before
        | inr after ↦
            let same : number ≡ k = omega (arith, after, below) in
            subst (λ n. head_at (set cells.heads number (Some first)) n ≡ head_at heads n) same (get_or-set_same cells.heads number (Some first) None (omega (arith, within, so_far.heads_count)) ∙ sym is)
      ];
      left = λ k above below. get_or-set_other cells.heads number k (Some first) None (λ e. omega (arith, above, e)) ∙ so_far.left k (omega (arith, above)) below;
    }

    -- a class without a block
    pub heads_off : head_at heads number ≡ None → HasHeadsBelow heads old (number + 1) cells
    heads_off is = record {
      records = so_far.records;
      pools = so_far.pools;
      heads_count = so_far.heads_count;
      words_count = so_far.words_count;
      bitmaps = so_far.bitmaps;
      done = λ k below. elim (cases_lt k number) [
        | inl before ↦ so_far.done k before
        | inr after ↦
            let same : number ≡ k = omega (arith, after, below) in
            subst (λ n. head_at cells.heads n ≡ head_at heads n) same (so_far.left number (omega arith) within ∙ sym is)
      ];
      left = λ k above below. so_far.left k (omega (arith, above)) below;
    }

  -- all heads are there
  pub heads_all : (number : ℕ) (cells : Cells) → classes ≤ number → length heads ≡ classes → HasHeadsBelow heads old number cells → cells.heads ≡ heads
  heads_all number cells all count so_far = ext_get_or None cells.heads heads (omega (arith, so_far.heads_count, count)) (λ k within. so_far.done k (omega (arith, within, all, so_far.heads_count)))

-- an empty store has none
pub none_at_first : (count : ℕ) (records others : List Record) (heads : List (Option ℕ)) → let cells = with_records records (with_records others (empty_cells count)) in HasHeadsBelow heads cells 0 cells
none_at_first count records others heads =
    let index = (empty_stands count).represented.index in
    let no_head : Option ℕ = None in
    record {
      records = refl;
      pools = refl;
      heads_count = length-replicate classes no_head;
      words_count = index.words_count;
      bitmaps = index.bitmaps;
      done = λ k below. absurd (omega (arith, below));
      left = λ k above within. get_or-replicate classes k None None within;
    }
