-- The held keys alone, and vacant ones spread among them.
use Rattle.std.proofs.Common.{◌≡◌, ℕ, zero, suc, ◌+◌, ◌-◌, ◌<◌, ◌≤◌, List, [], ◌∷◌, ◌++◌, Bool, not, take, drop, length, slice_index_or, slice_set, is_some, cond, true, false, Option, Some, None, arith, refl, sym, ap, ◌∙◌, subst}
use Rattle.std.specs.Prelude.{option_map, option_to_list}
use Rattle.std.proofs.Math.Seq.{take-suc, take-suc-set, drop-cons}
use Rattle.std.proofs.lemmas.List.{append_assoc, drop-set-lt, take-set-le, length-set}
use Rattle.tlsf_heap.specs.Pointer.{Pointer}
use Rattle.mtrace_replay.specs.Keys.{Rows}
use Rattle.mtrace_replay.specs.declared.heap.key.Key.{Key}
use Rattle.mtrace_replay.specs.Key.{held_under, holding_of, all_held, IsRow, HaveRows, least_behind, RiseFrom}
use Rattle.mtrace_replay.specs.Arrange.{held_keys}
use Rattle.mtrace_replay.proofs.Index.KeyLemmas.{rise_lower, not_lower}

-- the held keys alone have what is held, and are in order
pub alone_held : (rows : Rows) (keys : List Key) → all_held rows (held_keys keys) ≡ all_held rows keys
alone_held rows [] = refl
alone_held rows (key ∷ keys) = one key.block refl ∙ ap (λ all. option_to_list (holding_of rows key) ++ all) (alone_held rows keys)
  where
    one : (block : Option Pointer) → key.block ≡ block → all_held rows (cond (is_some block) (key ∷ held_keys keys) (held_keys keys)) ≡ option_to_list (holding_of rows key) ++ all_held rows (held_keys keys)
    one (Some ptr) is = refl
    one None is = sym (ap (λ b. option_to_list (option_map (held_under key.address rows) b) ++ all_held rows (held_keys keys)) is)

pub alone_rise : (bound : ℕ) (keys : List Key) → RiseFrom bound keys → RiseFrom bound (held_keys keys)
alone_rise bound [] rise = tt
alone_rise bound (key ∷ keys) rise = one (is_some key.block) refl (alone_rise (least_behind key) keys rise.1)
  where
    one : (is : Bool) → is_some key.block ≡ is → RiseFrom (least_behind key) (held_keys keys) → RiseFrom bound (cond is (key ∷ held_keys keys) (held_keys keys))
    one true is rest = (rise.0, rest)
    one false is rest = rise_lower (least_behind key) bound (held_keys keys) (omega (arith, rise.0, not_lower key)) rest

-- their rows are all rows
pub alone_rows : (rows : Rows) (keys : List Key) → HaveRows rows keys → HaveRows rows (held_keys keys)
alone_rows rows [] have = tt
alone_rows rows (key ∷ keys) have = one (is_some key.block) (alone_rows rows keys have.1)
  where
    one : (is : Bool) → HaveRows rows (held_keys keys) → HaveRows rows (cond is (key ∷ held_keys keys) (held_keys keys))
    one true rest = (have.0, rest)
    one false rest = rest

pub rows_of_alone : (rows : Rows) (keys : List Key) → HaveRows rows (held_keys keys) → HaveRows rows keys
rows_of_alone rows [] have = tt
rows_of_alone rows (key ∷ keys) have = one key.block refl (λ rest. rows_of_alone rows keys rest) have
  where
    one : (block : Option Pointer) → key.block ≡ block → (HaveRows rows (held_keys keys) → HaveRows rows keys) → HaveRows rows (cond (is_some block) (key ∷ held_keys keys) (held_keys keys)) → HaveRows rows (key ∷ keys)
    one (Some ptr) is later both = (both.0, later both.1)
    one None is later rest = (subst (IsRow rows key.address) (sym is) tt, later rest)

one_held : (key : Key) (keys : List Key) → is_some key.block ≡ true → held_keys (key ∷ keys) ≡ key ∷ held_keys keys
one_held key keys is = ap (λ b. cond b (key ∷ held_keys keys) (held_keys keys)) is

one_vacant : (key : Key) (keys : List Key) → is_some key.block ≡ false → held_keys (key ∷ keys) ≡ held_keys keys
one_vacant key keys is = ap (λ b. cond b (key ∷ held_keys keys) (held_keys keys)) is

pub alone_alone : (keys : List Key) → held_keys (held_keys keys) ≡ held_keys keys
alone_alone [] = refl
alone_alone (key ∷ keys) = one (is_some key.block) refl (alone_alone keys)
  where
    one : (is : Bool) → is_some key.block ≡ is → held_keys (held_keys keys) ≡ held_keys keys → held_keys (cond is (key ∷ held_keys keys) (held_keys keys)) ≡ cond is (key ∷ held_keys keys) (held_keys keys)
    one true is rest = one_held key (held_keys keys) is ∙ ap (λ all. key ∷ all) rest
    one false is rest = rest

-- what was held before a position stands first, and with what is held from there on it is all
pub record HeldStandFirst (old now : List Key) (at held : ℕ) : Type 0 where
  pub fewer : held ≤ at
  pub len : length now ≡ length old
  pub left : take held now ++ held_keys (drop at now) ≡ held_keys old

pub is_not : (b : Bool) → not b ≡ true → b ≡ false
is_not true is = cc
is_not false is = refl

pub is_so : (b : Bool) → not b ≡ false → b ≡ true
is_so true is = refl
is_so false is = cc

-- one position on
module _ (old now : List Key) (at held : ℕ) (within : at < length old) (has : HeldStandFirst old now at held) (key : Key) (there : key ≡ slice_index_or now at key) where
  next : suc at ≡ at + 1
  next = omega arith

  rest_is : drop at now ≡ key ∷ drop (suc at) now
  rest_is = drop-cons now at key (omega (arith, within, has.len)) ∙ ap (λ (k : Key). k ∷ drop (suc at) now) (sym there)

  pub leaves_vacant : is_some key.block ≡ false → HeldStandFirst old now (at + 1) held
  leaves_vacant is = record {
    fewer = omega (arith, has.fewer);
    len = has.len;
    left = ap (λ k. take held now ++ held_keys (drop k now)) (sym next)
        ∙ ap (λ all. take held now ++ all) (sym (ap held_keys rest_is ∙ one_vacant key (drop (suc at) now) is))
        ∙ has.left;
  }

  pub leaves_held : is_some key.block ≡ true → (new : List Key) → new ≡ slice_set now held key → HeldStandFirst old new (at + 1) (held + 1)
  leaves_held is new new_is = record {
    fewer = omega (arith, has.fewer);
    len = ap (length {A = Key}) new_is ∙ length-set now held key ∙ has.len;
    left = ap (λ k. take (held + 1) new ++ held_keys (drop k new)) (sym next)
        ∙ ap (λ k. take k new ++ held_keys (drop (suc at) new)) (let one : held + 1 ≡ suc held = omega arith in one)
        ∙ ap (λ (all : List Key). take (suc held) all ++ held_keys (drop (suc at) all)) new_is
        ∙ ap (λ first. first ++ held_keys (drop (suc at) (slice_set now held key))) (take-suc-set now held key (omega (arith, has.fewer, has.len, within)))
        ∙ ap (λ rest. (take held now ++ key ∷ []) ++ held_keys rest) (drop-set-lt (suc at) now held key (omega (arith, has.fewer)))
        ∙ append_assoc (take held now) (key ∷ []) (held_keys (drop (suc at) now))
        ∙ ap (λ all. take held now ++ all) (sym (ap held_keys rest_is ∙ one_held key (drop (suc at) now) is))
        ∙ has.left;
  }

-- what stands before `left` and from `end` on is in order, and has all that is held; what is between is overwritten
pub record Spreads (old now : List Key) (held left end : ℕ) : Type 0 where
  pub order : left ≤ end
  pub within : end ≤ length now
  pub len : length now ≡ length old
  pub all : held_keys (take left now ++ drop end now) ≡ held_keys (take held old)
  pub rise : RiseFrom 0 (take left now ++ drop end now)
  pub first : end ≡ length old → left ≡ held

drop_set : (keys : List Key) (at : ℕ) (key : Key) → at < length keys → drop at (slice_set keys at key) ≡ key ∷ drop (suc at) keys
drop_set [] at key within = absurd (omega (arith, within))
drop_set (first ∷ keys) zero key within = refl
drop_set (first ∷ keys) (suc at) key within = drop_set keys at key (omega (arith, within))

-- a vacant key comes before one of its address
vacant_rise : (bound : ℕ) (before : List Key) (vacant key : Key) (behind : List Key) → vacant.address ≡ key.address → vacant.block ≡ None → RiseFrom bound (before ++ key ∷ behind) → RiseFrom bound (before ++ vacant ∷ key ∷ behind)
vacant_rise bound [] vacant key behind same none rise =
    (omega (arith, rise.0, same), (subst (λ b. cond (is_some b) (suc vacant.address) vacant.address ≤ key.address) (sym none) (omega (arith, same)), rise.1))
vacant_rise bound (first ∷ before) vacant key behind same none rise = (rise.0, vacant_rise (least_behind first) before vacant key behind same none rise.1)

vacant_held : (before : List Key) (vacant : Key) (behind : List Key) → vacant.block ≡ None → held_keys (before ++ vacant ∷ behind) ≡ held_keys (before ++ behind)
vacant_held [] vacant behind none = one_vacant vacant behind (ap is_some none)
vacant_held (first ∷ before) vacant behind none = ap (λ rest. cond (is_some first.block) (first ∷ rest) rest) (vacant_held before vacant behind none)

module _ (old now new : List Key) (held left end : ℕ) (key : Key) (some : 0 < end) (has : Spreads old now held left end) (new_is : new ≡ slice_set now (end - 1) key) where
  as_many : length new ≡ length now
  as_many = ap (length {A = Key}) new_is ∙ length-set now (end - 1) key

  end_is : suc (end - 1) ≡ end
  end_is = omega (arith, some)

  -- this many first ones stay, and the key stands before the others
  parts : (many : ℕ) → many ≤ end - 1 → take many new ++ drop (end - 1) new ≡ take many now ++ key ∷ drop end now
  parts many few =
      ap (λ (all : List Key). take many all ++ drop (end - 1) all) new_is
      ∙ ap (λ first. first ++ drop (end - 1) (slice_set now (end - 1) key)) (take-set-le many now (end - 1) key few)
      ∙ ap (λ rest. take many now ++ rest) (drop_set now (end - 1) key (omega (arith, some, has.within)) ∙ ap (λ k. key ∷ drop k now) end_is)

  -- the last of those that are left stands there
  pub spreads_held : 0 < left → key ≡ slice_index_or now (left - 1) key → Spreads old new held (left - 1) (end - 1)
  spreads_held more there = record {
    order = omega (arith, has.order);
    within = omega (arith, as_many, has.within);
    len = as_many ∙ has.len;
    all = ap held_keys same ∙ has.all;
    rise = subst (RiseFrom 0) (sym same) has.rise;
    first = λ last. absurd (omega (arith, last, has.within, has.len, some));
  }
    where
      left_is : suc (left - 1) ≡ left
      left_is = omega (arith, more)

      same : take (left - 1) new ++ drop (end - 1) new ≡ take left now ++ drop end now
      same =
          parts (left - 1) (omega (arith, has.order, more))
          ∙ sym (append_assoc (take (left - 1) now) (key ∷ []) (drop end now))
          ∙ ap (λ first. first ++ drop end now) (sym (ap (λ k. take k now) (sym left_is) ∙ take-suc now (left - 1) key (omega (arith, more, has.order, has.within)) ∙ ap (λ (k : Key). take (left - 1) now ++ k ∷ []) (sym there)))

  -- a vacant key stands there, with the address of the one behind
  pub spreads_vacant : left < end → end < length now → (behind : Key) → behind ≡ slice_index_or now end behind → key.address ≡ behind.address → key.block ≡ None → Spreads old new held left (end - 1)
  spreads_vacant less inside behind there same none = record {
    order = omega (arith, less);
    within = omega (arith, as_many, has.within);
    len = as_many ∙ has.len;
    all = ap held_keys (parts left (omega (arith, less))) ∙ vacant_held (take left now) key (drop end now) none ∙ has.all;
    rise = subst (RiseFrom 0) (sym (parts left (omega (arith, less)) ∙ ap (λ rest. take left now ++ key ∷ rest) rest_is))
        (vacant_rise 0 (take left now) key behind (drop (suc end) now) same none (subst (λ rest. RiseFrom 0 (take left now ++ rest)) rest_is has.rise));
    first = λ last. absurd (omega (arith, last, has.within, has.len, some));
  }
    where
      rest_is : drop end now ≡ behind ∷ drop (suc end) now
      rest_is = drop-cons now end behind inside ∙ ap (λ (k : Key). k ∷ drop (suc end) now) (sym there)
