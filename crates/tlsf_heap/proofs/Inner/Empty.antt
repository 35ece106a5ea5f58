-- A store with nothing in it stands for a heap with no pool.
use Rattle.std.proofs.Common.{◌≡◌, ℕ, zero, suc, ◌/◌, ◌%◌, List, [], ◌∷◌, map, replicate, get_or, refl, sym, ap, ◌∙◌, subst, arith, count_by, Option, None, inl, inr}
use Rattle.std.specs.Int.{bit_at}
use Rattle.std.proofs.lemmas.Bool.{cases_lt}
use Rattle.std.proofs.lemmas.List.{length-replicate, get_or-replicate, get_or_past}
use Rattle.std.proofs.lemmas.Nat.Bits.{bit_at-zero}
use Rattle.tlsf_class.specs.Classes.{classes, levels, steps}
use Rattle.tlsf_store.specs.declared.records.Record.{Record}
use Rattle.tlsf_store.specs.Records.{blank}
use Rattle.tlsf_store.specs.Cells.{empty_cells}
use Rattle.tlsf_heap.specs.Content.{Content}
use Rattle.tlsf_heap.specs.Pools.{created}
use Rattle.tlsf_heap.specs.Good.{IsGood}
use Rattle.tlsf_heap.specs.Images.Bitmaps.{head_bit, word_bit}
use Rattle.tlsf_heap.specs.Inner.Nodes.{Node, Layout, content_by, nodes_in}
use Rattle.tlsf_heap.specs.Inner.Represents.{list_views, in_list, first_slot, uses_in, AreLinked, Represents}
use Rattle.tlsf_heap.specs.Inner.Following.{content_of, Stands}
use Rattle.tlsf_heap.proofs.Good.MallocIsGood.{created_is_good}
use Rattle.tlsf_heap.proofs.Inner.Followed.{content_is}

get_or-same : {A : Type 0} (n i : ℕ) (a : A) → get_or (replicate n a) i a ≡ a
get_or-same n i a = elim (cases_lt i n) [
  | inl within ↦ get_or-replicate n i a a within
  | inr past ↦ get_or_past (replicate n a) i a (omega (arith, past, length-replicate n a))
]

map-replicate : {A B : Type 0} (f : A → B) (n : ℕ) (a : A) → map f (replicate n a) ≡ replicate n (f a)
map-replicate f zero a = refl
map-replicate f (suc n) a = ap (λ xs. f a ∷ xs) (map-replicate f n a)

-- the layout of this many records with no pool
abbrev pub empty : ℕ → Layout
empty count = record { count = count; areas = []; lists = replicate classes []; taken = [] }

empty_content : (count : ℕ) → content_by (empty count) ≡ created count
empty_content count = ap (λ lists. record { records = count; pools = []; lists = lists }) (map-replicate (map (λ (node : Node). node.place)) classes [])

empty_represents : (count : ℕ) → Represents (empty_cells count) (empty count)
empty_represents count =
    let none : (number : ℕ) → nodes_in number (replicate classes []) ≡ [] = λ number. get_or-same {A = List Node} classes number [] in
    let word : (level : ℕ) → get_or (replicate levels 0) level 0 ≡ 0 = λ level. get_or-same levels level 0 in
    let P : List Node → Type 0 = λ nodes. AreLinked in_list (list_views (replicate count blank)) None nodes in
    record {
      count = length-replicate count blank;
      entries = refl;
      chains = record { chains = tt; once = λ slot. sym (ap (λ (r : Record). uses_in r.state) (get_or-same count slot blank)) };
      index = record {
        heads_are = sym (map-replicate first_slot classes []);
        lists_count = length-replicate {A = List Node} classes [];
        words_count = length-replicate {A = ℕ} levels 0;
        linked = λ number. subst P (sym (none number)) tt;
        bitmaps = record {
          by_class = λ k within. ap (λ w. bit_at w (k % steps)) (word (k / steps)) ∙ bit_at-zero (k % steps) ∙ sym (ap head_bit (get_or-same {A = Option ℕ} classes k None));
          by_level = λ l within. bit_at-zero l ∙ sym (ap word_bit (word l));
        };
      };
      agree = λ number test. ap (count_by test) (none number);
    }

pub empty_stands : (count : ℕ) → Stands (empty_cells count)
empty_stands count = record {
  layout = empty count;
  represented = empty_represents count;
  settled = refl;
  none_taken = refl;
  good = let P : Content ℕ → Type 0 = λ x. IsGood x in subst P (sym (empty_content count)) (created_is_good count);
}

pub empty_is_created : (count : ℕ) → content_of (empty_cells count) ≡ created count
empty_is_created count = content_is (empty_cells count) (empty count) (empty_represents count) ∙ empty_content count
