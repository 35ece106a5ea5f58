-- How many items of a list pass a test: in parts of the list, and for several tests at once.
use Rattle.std.proofs.Common.{◌≡◌, ◌+◌, ◌≤◌, Bool, true, false, not, ◌&&◌, ◌||◌, List, [], ◌∷◌, refl, ap, ◌∙◌, arith, count_by, filter, length, map, inl, inr}
use Rattle.std.proofs.lemmas.Bool.{cases_Bool}
use Rattle.std.specs.List.{list_any}
pub use Rattle.tlsf_heap.proofs.Images.Counting.{one_if, count-cons, count-append, any_counts, counts_any}
use Rattle.tlsf_heap.specs.Inner.Positions.{plug}

module _ {X : Type 0} where
  pub count-plug : (p : X → Bool) (front behind : List X) → count_by p (plug front behind) ≡ count_by p front + count_by p behind
  count-plug p [] behind = omega arith
  count-plug p (x ∷ front) behind = omega (arith, count-plug p front (x ∷ behind), count-cons p x behind, count-cons p x front)

  pub count_same : (p q : X → Bool) → ((x : X) → p x ≡ q x) → (xs : List X) → count_by p xs ≡ count_by q xs
  count_same p q same [] = refl
  count_same p q same (x ∷ xs) = omega (arith, count-cons p x xs, count-cons q x xs, ap one_if (same x), count_same p q same xs)

  -- two tests of which no item passes both, and which both pass the third
  pub count_apart : (p q r : X → Bool) → ((x : X) → one_if (p x) + one_if (q x) ≤ one_if (r x)) → (xs : List X) → count_by p xs + count_by q xs ≤ count_by r xs
  count_apart p q r apart [] = omega arith
  count_apart p q r apart (x ∷ xs) = omega (arith, count-cons p x xs, count-cons q x xs, count-cons r x xs, apart x, count_apart p q r apart xs)

  -- a test that passes where one of two others does
  pub count_either : (p q r : X → Bool) → ((x : X) → one_if (p x) ≤ one_if (q x) + one_if (r x)) → (xs : List X) → count_by p xs ≤ count_by q xs + count_by r xs
  count_either p q r either [] = omega arith
  count_either p q r either (x ∷ xs) = omega (arith, count-cons p x xs, count-cons q x xs, count-cons r x xs, either x, count_either p q r either xs)

  pub count_and : (p q : X → Bool) (xs : List X) → count_by (λ x. p x && q x) xs ≤ count_by q xs
  count_and p q [] = omega arith
  count_and p q (x ∷ xs) = omega (arith, count-cons (λ y. p y && q y) x xs, count-cons q x xs, one (p x) (q x), count_and p q xs)
    where
      one : (a b : Bool) → one_if (a && b) ≤ one_if b
      one true b = omega arith
      one false true = omega arith
      one false false = omega arith

  -- where no item passes a test, its failing adds nothing
  pub count_but : (p q r : X → Bool) (xs : List X) → count_by r xs ≡ 0 → count_by (λ x. p x && (not (r x) && q x)) xs ≡ count_by (λ x. p x && q x) xs
  count_but p q r [] none = refl
  count_but p q r (x ∷ xs) none = elim (cases_Bool (r x)) [
    | inl passes ↦ absurd (omega (arith, none, count-cons r x xs, ap one_if passes))
    | inr fails ↦ omega (
      arith,
      none,
      count-cons r x xs,
      count_but p q r xs (omega (arith, none, count-cons r x xs)),
      count-cons (λ y. p y && (not (r y) && q y)) x xs,
      count-cons (λ y. p y && q y) x xs,
      ap (λ b. one_if (p x && (not b && q x))) fails,
    )
  ]

  filter_kept : (q : X → Bool) (x : X) (xs : List X) → q x ≡ true → filter q (x ∷ xs) ≡ x ∷ filter q xs
  filter_kept q x xs kept = rw kept refl

  filter_left : (q : X → Bool) (x : X) (xs : List X) → q x ≡ false → filter q (x ∷ xs) ≡ filter q xs
  filter_left q x xs left = rw left refl

  pub count-filter : (p q : X → Bool) (xs : List X) → count_by p (filter q xs) ≡ count_by (λ x. q x && p x) xs
  count-filter p q [] = refl
  count-filter p q (x ∷ xs) = elim (cases_Bool (q x)) [
    | inl kept ↦ ap (count_by p) (filter_kept q x xs kept) ∙ omega (arith, count-cons p x (filter q xs), count-filter p q xs, count-cons (λ y. q y && p y) x xs, ap (λ b. one_if (b && p x)) kept)
    | inr left ↦ ap (count_by p) (filter_left q x xs left) ∙ omega (arith, count-filter p q xs, count-cons (λ y. q y && p y) x xs, ap (λ b. one_if (b && p x)) left)
  ]

  -- nothing leaves where none passes
  pub filter_none : (p : X → Bool) (xs : List X) → count_by p xs ≡ 0 → filter (λ x. not (p x)) xs ≡ xs
  filter_none p [] none = refl
  filter_none p (x ∷ xs) none = elim (cases_Bool (p x)) [
    | inl passes ↦ absurd (omega (arith, none, count-cons p x xs, ap one_if passes))
    | inr fails ↦ rw fails (ap (λ ys. x ∷ ys) (filter_none p xs (omega (arith, none, count-cons p x xs))))
  ]

  pub filter-plug : (p : X → Bool) (front behind : List X) → filter p (plug front behind) ≡ plug (filter p front) (filter p behind)
  filter-plug p [] behind = refl
  filter-plug p (x ∷ front) behind = elim (cases_Bool (p x)) [
    | inl kept ↦ filter-plug p front (x ∷ behind) ∙ rw kept refl
    | inr left ↦ filter-plug p front (x ∷ behind) ∙ rw left refl
  ]

  -- the one item that passes leaves
  pub filter_one : (p : X → Bool) (front : List X) (x : X) (behind : List X) → p x ≡ true → count_by p front ≡ 0 → count_by p behind ≡ 0 → filter (λ y. not (p y)) (plug front (x ∷ behind)) ≡ plug front behind
  filter_one p front x behind passes none_before none_behind =
      filter-plug (λ y. not (p y)) front (x ∷ behind)
      ∙ ap (λ xs. plug xs (filter (λ y. not (p y)) (x ∷ behind))) (filter_none p front none_before)
      ∙ ap (plug front) (here ∙ filter_none p behind none_behind)
    where
      here : filter (λ y. not (p y)) (x ∷ behind) ≡ filter (λ y. not (p y)) behind
      here = rw passes refl

  -- a list at the first item that passes
  pub record FirstPassing (p : X → Bool) (xs : List X) : Type 0 where
    pub front : List X
    pub item : X
    pub behind : List X
    pub whole : xs ≡ plug front (item ∷ behind)
    pub passes : p item ≡ true

  first_passing_behind : (p : X → Bool) (front xs : List X) → 1 ≤ count_by p xs → FirstPassing p (plug front xs)
  first_passing_behind p front [] some = absurd (omega (arith, some))
  first_passing_behind p front (x ∷ xs) some = elim (cases_Bool (p x)) [
    | inl passes ↦ record { front = front; item = x; behind = xs; whole = refl; passes = passes }
    | inr fails ↦ first_passing_behind p (x ∷ front) xs (omega (arith, some, count-cons p x xs, ap one_if fails))
  ]

  pub first_passing : (p : X → Bool) (xs : List X) → 1 ≤ count_by p xs → FirstPassing p xs
  first_passing p xs some = first_passing_behind p [] xs some

-- items seen through a function
pub count-map : {X Y : Type 0} (p : Y → Bool) (f : X → Y) (xs : List X) → count_by p (map f xs) ≡ count_by (λ x. p (f x)) xs
count-map p f [] = refl
count-map p f (x ∷ xs) = omega (arith, count-cons p (f x) (map f xs), count-cons (λ y. p (f y)) x xs, count-map p f xs)

pub count_all : {X : Type 0} (xs : List X) → count_by (λ x. true) xs ≡ length xs
count_all [] = refl
count_all (x ∷ xs) = omega (arith, count-cons (λ y. true) x xs, count_all xs)

pub any-map : {X Y : Type 0} (test : Y → Bool) (f : X → Y) (xs : List X) → list_any test (map f xs) ≡ list_any (λ x. test (f x)) xs
any-map test f [] = refl
any-map test f (x ∷ xs) = ap (λ b. test (f x) || b) (any-map test f xs)
