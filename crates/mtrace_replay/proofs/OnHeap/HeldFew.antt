-- No more addresses are held than the heap has records.
use Rattle.std.proofs.Common.{◌≡◌, ◌≢◌, ℕ, ◌*◌, ◌<◌, ◌≤◌, Bool, cond, true, false, List, [], ◌∷◌, length, map, Option, Some, None, refl, sym, ap, ◌∙◌, subst, arith, inl, inr}
use Rattle.std.specs.Prelude.{◌==◌, ◌&&◌, ◌||◌, unwrap_or}
use Rattle.std.specs.List.{AllByRecursion, Contains, IsDistinct}
use Rattle.std.specs.Set.{is_member}
use Rattle.std.proofs.lemmas.Cmp.{nat_eq_equiv}
use Rattle.std.proofs.lemmas.Bool.{cases_Bool, eqb-true, eq-eqb, ne_eqb}
use Rattle.std.proofs.lemmas.Map.Made.{length-le_from_is_member}
use Rattle.std.proofs.lemmas.Map.Keys.{sorted_from_strictly_increasing}
use Rattle.std.proofs.lemmas.List.{length-map}
use Rattle.tlsf_heap.specs.Content.{Block, Content, blocks_of, is_at}
use Rattle.tlsf_heap.specs.Free.{is_owned_by, is_live}
use Rattle.tlsf_heap.specs.Good.{IsGood}
use Rattle.mtrace_replay.specs.Holding.{Holding}
use Rattle.tlsf_class.specs.Classes.{greatest_size}
use Rattle.tlsf_class.specs.Rounding.{round}
use Rattle.tlsf_class.proofs.RoundingLaws.{round-Some}
use Rattle.mtrace_replay.specs.Moment.{Given, asked_size, rounded_bytes}
use Rattle.mtrace_replay.specs.Totals.{rounded_bytes_in}
use Rattle.tlsf_heap.specs.Pools.{most_records}
use Rattle.std.proofs.lemmas.List.Sums.{sum_by-cons}
use Rattle.mtrace_replay.specs.Index.{AreInOrder, held_at, held_bytes}
use Rattle.mtrace_replay.specs.Step.{AreLive}
use Rattle.mtrace_replay.proofs.History.SortedLemmas.{AreSorted, first_or_rest, has_first, has_more, above, sorted_rest, is_found}

abbrev key : Holding → ℕ
key holding = holding.entry.addr

abbrev places : List Holding → List ℕ
places holdings = map (λ holding. holding.ptr.place) holdings

-- two that are held have blocks of their own
abbrev Apart : List Holding → Type 0
Apart holdings = (first second : Holding) → Contains holdings first → Contains holdings second → first.ptr.place ≡ second.ptr.place → key first ≡ key second

others_differ : (place : ℕ) (rest : List Holding) → ((other : Holding) → Contains rest other → place ≢ other.ptr.place) → AllByRecursion (λ p. (place == p) ≡ false) (places rest)
others_differ place [] differ = tt
others_differ place (other ∷ rest) differ =
    (ne_eqb place other.ptr.place (differ other (has_first key other rest)), others_differ place rest (λ x has. differ x (has_more key other x rest has)))

distinct_places : (holdings : List Holding) → AreSorted key holdings → Apart holdings → IsDistinct (λ a b. a == b) (places holdings)
unfolding IsDistinct
distinct_places [] sorted apart = tt
distinct_places (first ∷ rest) sorted apart = (
  others_differ first.ptr.place rest (λ other has same.
      let more = above key first other rest sorted has in
      let equal = apart first other (has_first key first rest) (has_more key first other rest has) same in
      omega (arith, more, equal)),
  distinct_places rest (sorted_rest key first rest sorted) (λ one other has has_too. apart one other (has_more key first one rest has) (has_more key first other rest has_too)),
)

-- a live block's place is one of the blocks'
live_place : (meant : ℕ → Bool) (place : ℕ) (blocks : List (Block ℕ)) → is_live meant place blocks ≡ true → is_member (λ a b. a == b) (map (λ (block : Block ℕ). block.place) blocks) place ≡ true
live_place meant place [] live = absurd (cc)
live_place meant place (block ∷ blocks) live = by_block (λ later. live_place meant place blocks later)
  where
    by_block : (is_live meant place blocks ≡ true → is_member (λ a b. a == b) (map (λ (b : Block ℕ). b.place) blocks) place ≡ true)
        → is_member (λ a b. a == b) (map (λ (b : Block ℕ). b.place) (block ∷ blocks)) place ≡ true
    by_block later = elim (cases_Bool (place == block.place)) [
      | inl here ↦ ap (λ b. b || is_member (λ x y. x == y) (map (λ (o : Block ℕ). o.place) blocks) place) here
      | inr there ↦
          let elsewhere : is_at place block ≡ false = ne_eqb block.place place (λ same. let e : true ≡ false = sym (eq-eqb place block.place (sym same)) ∙ there in cc) in
          let rest : is_live meant place blocks ≡ true = sym (ap (λ b. (b && is_owned_by meant block.owner) || is_live meant place blocks) elsewhere) ∙ live in
          ap (λ b. b || is_member (λ x y. x == y) (map (λ (o : Block ℕ). o.place) blocks) place) there ∙ later rest
    ]

-- each place that is held is one of the blocks'
held_places : (holdings : List Holding) (blocks : List (Block ℕ)) → ((holding : Holding) → Contains holdings holding → is_live (λ slot. slot == holding.ptr.slot) holding.ptr.place blocks ≡ true)
    → (place : ℕ) → is_member (λ a b. a == b) (places holdings) place ≡ true → is_member (λ a b. a == b) (map (λ (block : Block ℕ). block.place) blocks) place ≡ true
held_places [] blocks live place has = absurd (cc)
held_places (first ∷ rest) blocks live place has = by_first (λ later. held_places rest blocks (λ other there. live other (has_more key first other rest there)) place later)
  where
    by_first : (is_member (λ a b. a == b) (places rest) place ≡ true → is_member (λ a b. a == b) (map (λ (block : Block ℕ). block.place) blocks) place ≡ true)
        → is_member (λ a b. a == b) (map (λ (block : Block ℕ). block.place) blocks) place ≡ true
    by_first later = elim (cases_Bool (place == first.ptr.place)) [
      | inl here ↦
          let P : ℕ → Type 0 = λ p. is_member (λ a b. a == b) (map (λ (block : Block ℕ). block.place) blocks) p ≡ true in
          subst P (sym (eqb-true place first.ptr.place here)) (live_place (λ slot. slot == first.ptr.slot) first.ptr.place blocks (live first (has_first key first rest)))
      | inr there ↦ later (sym (ap (λ b. b || is_member (λ x y. x == y) (places rest) place) there) ∙ has)
    ]

-- what is live in blocks of its own is no more than the heap's records
few_places : (holdings : List Holding) (content : Content ℕ) → IsDistinct (λ a b. a == b) (places holdings)
    → ((holding : Holding) → Contains holdings holding → is_live (λ slot. slot == holding.ptr.slot) holding.ptr.place (blocks_of content.pools) ≡ true) → IsGood content
    → length holdings ≤ content.records
few_places holdings content distinct live good =
    let fewer = length-le_from_is_member nat_eq_equiv (places holdings) (map (λ (block : Block ℕ). block.place) (blocks_of content.pools)) distinct
    (held_places holdings (blocks_of content.pools) live) in
    let held : length (places holdings) ≡ length holdings = length-map holdings (λ (holding : Holding). holding.ptr.place) in
    let used : length (map (λ (block : Block ℕ). block.place) (blocks_of content.pools)) ≡ length (blocks_of content.pools) = length-map (blocks_of content.pools) (λ (block : Block ℕ). block.place) in
    omega (arith, fewer, good.blocks_few, held, used)

module _ (holdings : List Holding) (content : Content ℕ) (ordered : AreInOrder holdings) (good : IsGood content) where
  sorted : AreSorted key holdings
  sorted = sorted_from_strictly_increasing (map key holdings) ordered

  here : (holding : Holding) → Contains holdings holding → held_at holdings (key holding) ≡ Some holding
  here holding has = is_found key holdings holding sorted has

  pub held_few : AreLive holdings content → length holdings ≤ content.records
  held_few are =
      few_places holdings content
      (distinct_places holdings sorted (λ one other has has_too same. are.apart (key one) (key other) one other (here one has) (here other has_too) same))
      (λ holding has. are.live (key holding) holding (here holding has)) good

  -- one more that is live has a record of its own
  pub held_room : (more : Holding) → held_at holdings (key more) ≡ None → AreLive (more ∷ holdings) content → length holdings < content.records
  unfolding IsDistinct
  held_room more absent are = few_places (more ∷ holdings) content (
    others_differ more.ptr.place holdings (λ other has same. other_key other has (are.apart (key more) (key other) more other first (later other has) same)),
    distinct_places holdings sorted (λ one other has has_too same. are.apart (key one) (key other) one other (later one has) (later other has_too) same),
  ) (λ holding has. elim (first_or_rest key more holding holdings has) [
    | inl is ↦ subst (λ (h : Holding). is_live (λ slot. slot == h.ptr.slot) h.ptr.place (blocks_of content.pools) ≡ true) is (are.live (key more) more first)
    | inr is ↦ are.live (key holding) holding (later holding is)
  ]) good
    where
      other_key : (other : Holding) → Contains holdings other → key more ≢ key other
      other_key other has same = let e : None ≡ Some other = sym absent ∙ ap (held_at holdings) same ∙ here other has in cc

      first : held_at (more ∷ holdings) (key more) ≡ Some more
      first = ap (λ b. cond b (Some more) (held_at holdings (key more))) (eq-eqb (key more) (key more) refl)

      later : (other : Holding) → Contains holdings other → held_at (more ∷ holdings) (key other) ≡ Some other
      later other has = ap (λ b. cond b (Some more) (held_at holdings (key other))) (ne_eqb (key more) (key other) (other_key other has)) ∙ here other has

-- the sum of the sizes held
bytes_few : (holdings : List Holding) → ((holding : Holding) → Contains holdings holding → holding.entry.size ≤ greatest_size) → held_bytes holdings ≤ greatest_size * length holdings
bytes_few [] small = omega arith
bytes_few (first ∷ rest) small =
    let one = small first (has_first key first rest) in
    let others = bytes_few rest (λ other has. small other (has_more key first other rest has)) in
    let sum = sum_by-cons (λ (holding : Holding). holding.entry.size) first rest in
    omega (arith, one, others, sum)

pub held_fits : (holdings : List Holding) (content : Content ℕ) → AreInOrder holdings → IsGood content → AreLive holdings content → held_bytes holdings ≤ greatest_size * most_records
held_fits holdings content ordered good are =
    let few = held_few holdings content ordered good are in
    let bytes = bytes_few holdings (λ holding has. are.small (key holding) holding (here holdings content ordered good holding has)) in
    omega (arith, few, bytes, are.records)

-- no block has more bytes than the greatest size
rounded_small : (size : ℕ) → rounded_bytes size ≤ greatest_size
rounded_small size = of (round (asked_size size)) refl
  where
    of : (bytes : Option ℕ) → round (asked_size size) ≡ bytes → unwrap_or bytes 0 ≤ greatest_size
    of None is = omega arith
    of (Some bytes) is = (round-Some (asked_size size) bytes is).within

pub rounded_few : (all : List Given) → rounded_bytes_in all ≤ greatest_size * length all
rounded_few [] = omega arith
rounded_few (first ∷ rest) = omega (arith, rounded_small first.entry.size, rounded_few rest)
