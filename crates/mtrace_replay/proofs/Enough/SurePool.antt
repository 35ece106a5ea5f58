-- A log on one pool is refused neither for want of a block nor for want of a record, where the pool is large enough for what
-- is held and asked for.
use Rattle.std.proofs.Common.{◌≡◌, ℕ, ◌+◌, ◌-◌, ◌*◌, ◌<◌, ◌≤◌, true, List, [], ◌∷◌, length, Some, None, Err, inl, inr, refl, sym, ap, ◌∙◌, subst, arith}
use Rattle.std.specs.List.{AllByRecursion}
use Rattle.std.proofs.lemmas.Bool.{cases_Bool}
use Rattle.tlsf_class.specs.Classes.{unit}
use Rattle.tlsf_heap.specs.declared.refusal.Refusal.TheVariants.{NoFit, BadAlign}
use Rattle.tlsf_heap.specs.Content.{Pool, blocks_of, used_records}
use Rattle.tlsf_heap.specs.Memalign.{is_alignment, size_asked, memalign}
use Rattle.tlsf_heap.specs.Good.{IsGood}
use Rattle.tlsf_heap.specs.Implied.{live_blocks}
use Rattle.tlsf_heap.specs.Room.{live_bytes, pool_bytes, HasRoomFor}
use Rattle.tlsf_heap.proofs.Good.Implied.{few_blocks as used_few}
use Rattle.tlsf_heap.specs.Within.{AsksAtMost, IsLargeEnough}
use Rattle.tlsf_heap.proofs.Good.Room.{room_serves, aligned_room_serves, realloc_room_serves}
use Rattle.tlsf_heap.proofs.Good.Within.{room_within}
use Rattle.mtrace_replay.specs.Started.{Bare}
use Rattle.mtrace_replay.specs.Moment.{ReadLine, Given, Moment, asked_size, rounded_bytes, Act, idle, give, take, move}
use Rattle.mtrace_replay.specs.History.{AreHeld, moments, content_after}
use Rattle.mtrace_replay.specs.Totals.{rounded_bytes_in}
use Rattle.mtrace_replay.specs.Enough.{HoldsAtMost, HoldsBytesAtMost, act_of, acts_of, IsOfAtMost, IsNeverRefused}
use Rattle.mtrace_replay.proofs.History.TotalsLemmas.{AreAllFree, first_moments_all}
use Rattle.mtrace_replay.proofs.Enough.LineOnHeap.{bytes_of, IsRefusedAs}
use Rattle.mtrace_replay.proofs.Enough.EnoughRecords.{stands_all, few_blocks, one_still, owns_sized, first_but_last, never_refused}
use Rattle.mtrace_replay.proofs.Enough.HeldBytes.{few_bytes, all_bytes}

abbrev rounded_size : Given → ℕ
rounded_size given = rounded_bytes given.entry.size

module _ (most bytes size : ℕ) where
  -- a good content that is large enough for the bounds, and keeps to them
  pub record IsEnough (content : Bare) : Type 0 where
    pub good : IsGood content
    pub few : live_blocks content ≤ most
    pub small : live_bytes (blocks_of content.pools) ≤ bytes
    pub large : IsLargeEnough most bytes size content

  pub room : (asked : ℕ → ℕ) (rests n : ℕ) (content : Bare) → rests ≤ 2 → IsEnough content → AsksAtMost size asked n → HasRoomFor asked rests n content
  room asked rests n content two enough asks = room_within most bytes size asked rests n content two enough.large (record { few = enough.few; small = enough.small; asks = asks })

  -- a block fits what is done
  act_fits : (act : Act) (content : Bare) → IsEnough content → IsOfAtMost size act → IsRefusedAs act content NoFit → ⊥
  act_fits idle content enough of refused = refused
  act_fits (give entry None) content enough of refused =
      room_serves tt (asked_size entry.size) content NoFit enough.good (room (λ m. m) 1 (asked_size entry.size) content (omega arith) enough of) refused
  act_fits (give entry (Some align)) content enough of refused = elim (cases_Bool (is_alignment align)) [
    | inl good ↦ (let other = aligned_room_serves tt align (asked_size entry.size) content NoFit enough.good (room (size_asked align) 2 (asked_size entry.size) content (omega arith) enough (of good)) refused in absurd (cc))
    | inr bad ↦ (let is : memalign tt align (asked_size entry.size) content ≡ Err BadAlign = rw bad refl in absurd (cc))
  ]
  act_fits (take address place) content enough of refused = refused
  act_fits (move old place entry) content enough of refused =
      let other = realloc_room_serves tt (λ one other. true) (Some (place, tt)) (asked_size entry.size) content NoFit enough.good (room (λ m. m) 1 (asked_size entry.size) content (omega arith) enough of) refused in absurd (cc)

  module _ (start : Bare) (good : IsGood start) (free : AreAllFree start) (one : length start.pools ≡ 1)
      (large : bytes + (most + 1) * (size - unit) < pool_bytes start.pools) (enough : 2 * most + 3 ≤ start.records) where
    -- what is so of the lines
    pub record IsWithin (past : List ReadLine) : Type 0 where
      pub holds : HoldsAtMost most (moments start past)
      pub bytes_held : HoldsBytesAtMost bytes (moments start past)
      pub of : AllByRecursion (IsOfAtMost size) (acts_of start past)

    fewer : (line : ReadLine) (past : List ReadLine) → IsWithin (line ∷ past) → IsWithin past
    fewer line past within = record {
      holds = first_but_last start good free (λ first. (all : List Given) × AreHeld all first × (length all ≤ most)) line past within.holds;
      bytes_held = first_but_last start good free (λ first. (all : List Given) × AreHeld all first × (rounded_bytes_in all ≤ bytes)) line past within.bytes_held;
      of = within.of.1;
    }

    as_large : (pools : List (Pool (Unit {0}))) → bytes_of pools ≡ bytes_of start.pools → pool_bytes pools ≡ pool_bytes start.pools
    as_large pools same = summed pools ∙ ap sum same ∙ sym (summed start.pools)
      where
        sum : List ℕ → ℕ
        sum [] = 0
        sum (n ∷ ns) = n + sum ns

        summed : (pools : List (Pool (Unit {0}))) → pool_bytes pools ≡ sum (bytes_of pools)
        summed [] = refl
        summed (pool ∷ pools) = omega (arith, summed pools)

    room_left : (past : List ReadLine) → IsWithin past → used_records (content_after start (moments start past)) < (content_after start (moments start past)).records
    room_left past within =
        let content = content_after start (moments start past) in
        let stands = stands_all start good free past in
        omega (arith, used_few content.pools 0 stands.good.pools_good, few_blocks start good free most past within.holds, one_still start good free one past, stands.records, enough)

    -- the live blocks have no more bytes than what is held
    few_live_bytes : (past : List ReadLine) → IsWithin past → live_bytes (blocks_of (content_after start (moments start past)).pools) ≤ bytes
    few_live_bytes past within =
        let ms = moments start past in
        let now = within.bytes_held (length ms) in
        let all_held : AreHeld now.0 ms = subst (λ (first : List Moment). AreHeld now.0 first) (first_moments_all ms) now.1 in
        let owns = owns_sized start good free IsWithin fewer room_left past within in
        omega (
          arith,
          few_bytes (λ (given : Given). given.place) rounded_size (content_after start ms) now.0 (stands_all start good free past).good (λ b has live. (let own = owns b has live in (own.0, (all_held.each own.0).1 own.1, own.2, own.3))),
          total now.0,
          now.2,
        )
      where
        total : (all : List Given) → all_bytes rounded_size all ≡ rounded_bytes_in all
        total [] = refl
        total (given ∷ all) = omega (arith, total all)

    pub enough_still : (past : List ReadLine) → IsWithin past → IsEnough (content_after start (moments start past))
    enough_still past within =
        let ms = moments start past in
        let stands = stands_all start good free past in
        record {
          good = stands.good;
          few = few_blocks start good free most past within.holds;
          small = few_live_bytes past within;
          large =
              let one_pool : length (content_after start ms).pools ≡ 1 = one_still start good free one past in
              let product : (most + length (content_after start ms).pools) * (size - unit) ≡ (most + 1) * (size - unit) = ap (λ n. (most + n) * (size - unit)) one_pool in
              record {
                pools = omega (arith, product, large, as_large (content_after start ms).pools stands.pools);
                records = omega (arith, enough, stands.records, one_pool);
              };
        }

    pub always_fits : (past : List ReadLine) → HoldsAtMost most (moments start past) → HoldsBytesAtMost bytes (moments start past) → AllByRecursion (IsOfAtMost size) (acts_of start past)
        → AllByRecursion (IsNeverRefused NoFit) (moments start past)
    always_fits past holds bytes_held of = never_refused start good free NoFit IsWithin fewer
        (λ line past within refused. act_fits (act_of start line past) (content_after start (moments start past)) (enough_still past (fewer line past within)) within.of.0 refused)
        past (record { holds = holds; bytes_held = bytes_held; of = of })
