-- A search by halves.
use Rattle.std.proofs.Common.{is_some, cond, ◌≡◌, ℕ, zero, suc, ◌+◌, ◌-◌, ◌/◌, ◌^◌, ◌<◌, ◌≤◌, List, [], ◌∷◌, take, drop, length, Bool, true, false, slice_index_or, arith, nat_eq, ◌*◌, ◌||◌, MatchBool, refl, sym, ap, ◌∙◌, subst, drop-drop}
use Rattle.std.proofs.lemmas.List.{get_or_default}
use Rattle.std.proofs.Math.Bool.{or-false}
use Rattle.std.proofs.lemmas.Bool.Decides.{nat_tests}
use Rattle.mtrace_replay.specs.declared.heap.key.Key.{Key}
use Rattle.mtrace_replay.specs.Key.{least_behind, RiseFrom, AreBelow, AreAbove}
use Rattle.mtrace_replay.specs.Search.{StandsAt}
use Rattle.mtrace_replay.proofs.Index.KeyLemmas.{above_behind, not_higher, not_below_one_before, below_up_to, above_from}

-- this many comparisons were made of those that the digits allow, and the rest is enough for what is left
pub record Afford (digits before count left : ℕ) : Type 0 where
  pub floor : before ≤ count
  pub rest : ℕ
  pub spent : count + rest ≤ before + digits
  pub enough : left < 2 ^ rest

-- one comparison leaves half
pub half_left : (digits before count left less : ℕ) → Afford digits before count left → 0 < left → less + less ≤ left → Afford digits before (count + 1) less
half_left digits before count left less can some fewer = by_rest can.rest refl
  where
    by_rest : (rest : ℕ) → can.rest ≡ rest → Afford digits before (count + 1) less
    by_rest zero is = absurd (omega (arith, some, fewer, subst (λ r. left < 2 ^ r) is can.enough))
    by_rest (suc rest) is = record {
      floor = omega (arith, can.floor);
      rest = rest;
      spent = omega (arith, can.spent, is);
      enough = omega (arith, fewer, subst (λ r. left < 2 ^ r) is can.enough);
    }

-- the last of the first this many keys has the address
pub record IsLast (keys : List Key) (address low : ℕ) : Type 0 where
  pub some : 0 < low
  pub there : (default : Key) → (slice_index_or keys (low - 1) default).address ≡ address

-- The last key before `low` has the address, where that was seen; else the address is above all keys before `low`.
-- The address is below the keys behind those that are left from `low` on.
pub record Searching (keys : List Key) (address low left : ℕ) (is_seen : Bool) (before count : ℕ) : Type 0 where
  pub within : low + left ≤ length keys
  pub below : MatchBool is_seen (IsLast keys address low) (AreBelow address (take low keys))
  pub above : AreAbove address (drop (low + left) keys)
  pub afford : (digits : ℕ) → length keys < 2 ^ digits → Afford digits before count left

-- what is above an address is so from any key on
above_drop : (address : ℕ) (keys : List Key) (more : ℕ) → AreAbove address keys → AreAbove address (drop more keys)
above_drop address keys zero above = above
above_drop address [] (suc more) above = tt
above_drop address (key ∷ keys) (suc more) above = above_drop address keys more above.1

above_on : (address : ℕ) (keys : List Key) (from more : ℕ) → AreAbove address (drop from keys) → AreAbove address (drop (from + more) keys)
above_on address keys from more above = subst (AreAbove address) (drop-drop more from keys) (above_drop address (drop from keys) more above)

module _ (keys : List Key) (address before low left count : ℕ) (is_seen : Bool) (rise : RiseFrom 0 keys) (has : Searching keys address low left is_seen before count) (some : 0 < left)
    (key : Key) (is : slice_index_or keys (low + (left - left / 2) - 1) key ≡ key) (after : ℕ) (counted : after ≡ count + 1) where
  abbrev pub middle : ℕ
  middle = low + (left - left / 2) - 1

  affords : (digits : ℕ) → length keys < 2 ^ digits → Afford digits before after (left / 2)
  affords digits few = subst (λ n. Afford digits before n (left / 2)) (sym counted) (half_left digits before count left (left / 2) (has.afford digits few) some (omega arith))

  within : middle < length keys
  within = omega (arith, some, has.within)

  -- the key in the middle doesn't reach the address
  stays : address < key.address → Searching keys address low (left / 2) is_seen before after
  stays greater = record {
    within = omega (arith, has.within);
    below = has.below;
    above = subst (λ k. AreAbove address (drop k keys)) (omega (arith, some)) (above_on address keys middle (low + left / 2 - middle)
        (above_from key address 0 keys middle rise within (subst (λ s. address < s.address) (sym is) greater)));
    afford = affords;
  }

  reached_last : key.address ≡ address → IsLast keys address (suc middle)
  reached_last same = record {
    some = omega arith;
    there = λ default. subst (λ k. (slice_index_or keys k default).address ≡ address) {x = middle} (omega arith)
        (ap (λ (k : Key). k.address) (get_or_default keys middle default key within ∙ is) ∙ same);
  }

  -- what then stands before it, where it does
  reached : (is_seen is_same : Bool) → is_same ≡ nat_eq (key.address) address → key.address ≤ address → MatchBool is_seen (IsLast keys address low) (AreBelow address (take low keys))
      → MatchBool (is_seen || is_same) (IsLast keys address (suc middle)) (AreBelow address (take (suc middle) keys))
  reached true true same reaches below = reached_last (grind (arith, nat_tests, same))
  reached false true same reaches below = reached_last (grind (arith, nat_tests, same))
  reached false false same reaches below =
      let other : key.address < address = grind (arith, nat_tests, same, reaches) in
      below_up_to key address 0 keys middle rise within (subst (λ s. least_behind s ≤ address) (sym is) (omega (arith, other, not_higher key)))
  reached true false same reaches below =
      let before = not_below_one_before key 0 keys (low - 1) middle rise (omega (arith, some)) within in
      let least = subst (λ a. a ≤ key.address) (below.there key) (subst (λ s. (slice_index_or keys (low - 1) key).address ≤ s.address) is before) in
      absurd (grind (arith, nat_tests, same, reaches, least))

  goes_on : (is_same : Bool) → is_same ≡ nat_eq (key.address) address → key.address ≤ address → Searching keys address (low + (left - left / 2)) (left / 2) (is_seen || is_same) before after
  goes_on is_same same reaches = record {
    within = omega (arith, has.within);
    below = subst (λ k. MatchBool (is_seen || is_same) (IsLast keys address k) (AreBelow address (take k keys))) (omega (arith, some)) (reached is_seen is_same same reaches has.below);
    above = subst (λ k. AreAbove address (drop k keys)) (omega arith) has.above;
    afford = affords;
  }

  -- by what the comparison tells
  pub goes : (reaches step : ℕ) (is_same : Bool) → step ≡ (left - left / 2) * reaches → reaches ≤ 1 → (reaches ≡ 1 → key.address ≤ address) → (reaches ≡ 0 → address < key.address) → is_same ≡ nat_eq (key.address) address
      → Searching keys address (low + step) (left / 2) (is_seen || is_same) before after
  goes zero step is_same by few reaches above same =
      let greater = above refl in
      let other : is_same ≡ false = grind (arith, nat_tests, same, greater) in
      let there_is : low ≡ low + step = omega (arith, by) in
      let unseen : is_seen ≡ (is_seen || is_same) = sym (ap (λ is_same. is_seen || is_same) other ∙ or-false is_seen) in
      subst (λ at. Searching keys address at (left / 2) (is_seen || is_same) before after) there_is
      (subst (λ h. Searching keys address low (left / 2) h before after) unseen (stays greater))
  goes (suc zero) step is_same by few reaches above same =
      let there_is : low + (left - left / 2) ≡ low + step = omega (arith, by) in
      subst (λ at. Searching keys address at (left / 2) (is_seen || is_same) before after) there_is (goes_on is_same same (reaches refl))
  goes (suc (suc more)) step is_same by few reaches above same = absurd (omega (arith, few))

-- There is something held at each key less far away than this, and where the end is less far away no room is left
-- there.
pub record HeldAround (keys : List Key) (room at distance : ℕ) : Type 0 where
  pub held : (k : ℕ) → at ≤ k + distance → k < at + distance → k < length keys → (default : Key) → is_some (slice_index_or keys k default).block ≡ true
  pub full : length keys < at + distance → room ≤ length keys

-- a key of the address stands there, where the one behind it has a higher one
pub last_stands : (keys : List Key) (address at : ℕ) → RiseFrom 0 keys → at + 1 < length keys → (key behind : Key) → slice_index_or keys at key ≡ key → key.address ≡ address
    → slice_index_or keys (at + 1) behind ≡ behind → address < behind.address → StandsAt keys address at
last_stands keys address at rise within key behind is same is_behind above = (
  omega (arith, within),
  (λ default. ap (λ (k : Key). k.address) (get_or_default keys at default key (omega (arith, within)) ∙ is) ∙ same),
  above_from behind address 0 keys (at + 1) rise within (subst (λ (k : Key). address < k.address) (sym is_behind) above),
)

-- so does one under which something is held
pub held_stands : (keys : List Key) (address at : ℕ) → RiseFrom 0 keys → at < length keys → (key : Key) → slice_index_or keys at key ≡ key → key.address ≡ address → is_some key.block ≡ true → StandsAt keys address at
held_stands keys address at rise within key is same held = (
  within,
  (λ default. ap (λ (k : Key). k.address) (get_or_default keys at default key within ∙ is) ∙ same),
  (let next : suc at ≡ at + 1 = omega arith in subst (λ k. AreAbove address (drop k keys)) next (above_behind key address 0 keys at rise within (subst (λ (k : Key). address < least_behind k) (sym is)
      (subst (λ b. address < cond b (suc key.address) key.address) (sym held) (omega (arith, same)))))),
)

-- the number of two keys or more has two binary digits or more
pub two_digits : (keys digits : ℕ) → 2 ≤ keys → keys < 2 ^ digits → 2 ≤ digits
two_digits keys zero some few = absurd (omega (arith, some, few))
two_digits keys (suc zero) some few = absurd (omega (arith, some, few))
two_digits keys (suc (suc more)) some few = omega arith
