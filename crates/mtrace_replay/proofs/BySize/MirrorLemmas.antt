-- Two lists of what is held: all addresses of a log, and those of one heap by size, whose blocks are those of lines with these numbers.
use Rattle.std.proofs.Common.{cond, ◌≡◌, ℕ, suc, Bool, true, false, List, length, count_by, is_some, Option, Some, None, refl, sym, ap, ◌∙◌, arith}
use Rattle.std.specs.Prelude.{◌==◌}
use Rattle.std.proofs.lemmas.Bool.{eqb-true}
use Rattle.mtrace_replay.specs.Moment.{Given}
use Rattle.mtrace_replay.specs.Step.{held_given}
use Rattle.mtrace_replay.specs.Needs.{of_one}
use Rattle.mtrace_replay.specs.PartLog.{is_of}
use Rattle.mtrace_replay.proofs.History.HeldCounts.{Rise, put, without, count-put, count-without, sum-put, sum-without, held_given-put, held_given-without}
use Rattle.mtrace_replay.proofs.History.HeldSums.{blocks_summed}

-- one more is one longer
pub length-put : (given : Given) (all : List Given) → length (put given all) ≡ suc (length all)
length-put given all = omega (arith, blocks_summed (put given all), sum-put (λ (g : Given). 1) given all, blocks_summed all)

-- nothing is there
pub none_there : (here : Option Given) → is_some here ≡ false → here ≡ None
none_there None is = refl
none_there (Some given) is = absurd (cc)

-- something is
pub some_there : (here : Option Given) → is_some here ≡ true → (given : Given) × (here ≡ Some given)
some_there None is = absurd (cc)
some_there (Some given) is = (given, refl)

-- one that is found stands among the rest
pub length-found : (address : ℕ) (all : List Given) → is_some (held_given all address) ≡ true → length all ≡ suc (length (without address all))
length-found address all is =
    let there = some_there (held_given all address) is in
    let one : of_one (λ (g : Given). 1) (held_given all address) ≡ 1 = ap (of_one (λ (g : Given). 1)) there.1 in
    omega (arith, blocks_summed all, sum-without (λ (g : Given). 1) address all, blocks_summed (without address all), one)

module _ (has : ℕ → Bool) where
  -- whether a block is one of them
  abbrev pub passes : Given → Bool
  passes given = has given.entry.line

  -- `few` has the addresses of these blocks among all
  pub record Mirrors (all few : List Given) : Type 0 where
    pub found : (q : ℕ) → is_some (held_given few q) ≡ is_of has (held_given all q)
    pub count : length few ≡ count_by passes all

  one_of : (held : Option Given) (from : Given) → held ≡ Some from → (b : Bool) → has from.entry.line ≡ b → of_one (λ (given : Given). cond (passes given) 1 0) held ≡ cond b 1 0
  one_of held from is b same = ap (of_one (λ (given : Given). cond (passes given) 1 0)) is ∙ ap (λ b. cond b 1 0) same

  module _ (all few : List Given) (mirrors : Mirrors all few) where
    -- one more of these blocks, in both
    pub put_both : (new other : Given) → has new.entry.line ≡ true → other.entry.addr ≡ new.entry.addr → Mirrors (put new all) (put other few)
    put_both new other is same = record {
      found = λ q.
          ap is_some (held_given-put other few q) ∙ ap (λ a. is_some (cond (a == q) (Some other) (held_given few q))) same ∙ by q (new.entry.addr == q)
          ∙ sym (ap (is_of has) (held_given-put new all q));
      count = omega (arith, length-put other few, mirrors.count, count-put passes new all, one_of (Some new) new refl true is);
    }
      where
        by : (q : ℕ) (b : Bool) → is_some (cond b (Some other) (held_given few q)) ≡ is_of has (cond b (Some new) (held_given all q))
        by q true = sym is
        by q false = mirrors.found q

    -- one more of other blocks
    pub put_one : (new : Given) → has new.entry.line ≡ false → held_given few new.entry.addr ≡ None → Mirrors (put new all) few
    put_one new is none = record {
      found = λ q. by q (new.entry.addr == q) refl ∙ sym (ap (is_of has) (held_given-put new all q));
      count = omega (arith, mirrors.count, count-put passes new all, one_of (Some new) new refl false is);
    }
      where
        by : (q : ℕ) (b : Bool) → (new.entry.addr == q) ≡ b → is_some (held_given few q) ≡ is_of has (cond b (Some new) (held_given all q))
        by q true e = ap (λ a. is_some (held_given few a)) (sym (eqb-true new.entry.addr q e)) ∙ ap is_some none ∙ sym is
        by q false e = mirrors.found q

    module _ (address : ℕ) (from : Given) (there : held_given all address ≡ Some from) (rise_all : Rise all) where
      -- one of these blocks less, in both
      pub without_both : Rise few → has from.entry.line ≡ true → Mirrors (without address all) (without address few)
      without_both rise_few is = record {
        found = λ q. ap is_some (held_given-without address few rise_few q) ∙ by q (address == q) ∙ sym (ap (is_of has) (held_given-without address all rise_all q));
        count =
            let here : is_some (held_given few address) ≡ true = mirrors.found address ∙ ap (is_of has) there ∙ is in
            omega (arith, length-found address few here, mirrors.count, count-without passes address all, one_of (held_given all address) from there true is);
      }
        where
          by : (q : ℕ) (b : Bool) → is_some (cond b None (held_given few q)) ≡ is_of has (cond b None (held_given all q))
          by q true = refl
          by q false = mirrors.found q

      -- one of other blocks less
      pub without_one : has from.entry.line ≡ false → Mirrors (without address all) few
      without_one is = record {
        found = λ q. by q (address == q) refl ∙ sym (ap (is_of has) (held_given-without address all rise_all q));
        count = omega (arith, mirrors.count, count-without passes address all, one_of (held_given all address) from there false is);
      }
        where
          by : (q : ℕ) (b : Bool) → (address == q) ≡ b → is_some (held_given few q) ≡ is_of has (cond b None (held_given all q))
          by q true e = ap (λ a. is_some (held_given few a)) (sym (eqb-true address q e)) ∙ mirrors.found address ∙ ap (is_of has) there ∙ is
          by q false e = mirrors.found q
