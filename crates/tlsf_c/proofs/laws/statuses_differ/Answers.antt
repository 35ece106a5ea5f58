use Rattle.std.proofs.Common.{◌≡◌, ℕ, ◌<◌, refl, sym, ap, ◌∙◌, arith}
use Rattle.std.specs.Prelude.{◌==◌, if◌then◌else◌}
use Rattle.tlsf_heap.specs.declared.refusal.Refusal.{Refusal}
use Rattle.tlsf_heap.specs.declared.refusal.Refusal.TheVariants as refusal
use Rattle.tlsf_heap.specs.declared.image.rule.Rule.{Rule}
use Rattle.tlsf_heap.specs.declared.image.rule.Rule.TheVariants as rule
use Rattle.tlsf_c.specs.Status.{number}
use Rattle.tlsf_c.specs.Saving.{broken_number}
use Rattle.tlsf_c.proofs.laws.statuses_differ.Goals as goal

-- the refusal of a number, and the rule of one
abbrev refusal_of : ℕ → Refusal
refusal_of n =
    if n == 1 then refusal.ZeroSize else
    (if n == 2 then refusal.NoFit else
    (if n == 3 then refusal.TableFull else
    (if n == 4 then refusal.BadPointer else
    (if n == 5 then refusal.BadAlign else
    (if n == 6 then refusal.BadPool else
    (if n == 7 then refusal.PoolsFull else
    (if n == 8 then refusal.PoolInUse else
    (if n == 9 then refusal.OutOfMemory else refusal.NoPool))))))))

abbrev rule_of : ℕ → Rule
rule_of n =
    if n == 101 then rule.Magic else
    (if n == 102 then rule.Length else
    (if n == 103 then rule.Pools else
    (if n == 104 then rule.UnusedPools else
    (if n == 105 then rule.States else
    (if n == 106 then rule.Links else
    (if n == 107 then rule.Chains else
    (if n == 108 then rule.Cover else
    (if n == 109 then rule.OnChains else
    (if n == 110 then rule.Merged else
    (if n == 111 then rule.Lists else rule.OnLists))))))))))

refusal_back : (one : Refusal) → refusal_of (number one) ≡ one
refusal_back refusal.ZeroSize = refl
refusal_back refusal.NoFit = refl
refusal_back refusal.TableFull = refl
refusal_back refusal.BadPointer = refl
refusal_back refusal.BadAlign = refl
refusal_back refusal.BadPool = refl
refusal_back refusal.PoolsFull = refl
refusal_back refusal.PoolInUse = refl
refusal_back refusal.OutOfMemory = refl
refusal_back refusal.NoPool = refl

rule_back : (one : Rule) → rule_of (broken_number one) ≡ one
rule_back rule.Magic = refl
rule_back rule.Length = refl
rule_back rule.Pools = refl
rule_back rule.UnusedPools = refl
rule_back rule.States = refl
rule_back rule.Links = refl
rule_back rule.Chains = refl
rule_back rule.Cover = refl
rule_back rule.OnChains = refl
rule_back rule.Merged = refl
rule_back rule.Lists = refl
rule_back rule.OnLists = refl

-- a refusal's number is from 1 to 10, a rule's above 100
within : (one : Refusal) → (0 < number one) × (number one < 11)
within refusal.ZeroSize = (omega arith, omega arith)
within refusal.NoFit = (omega arith, omega arith)
within refusal.TableFull = (omega arith, omega arith)
within refusal.BadPointer = (omega arith, omega arith)
within refusal.BadAlign = (omega arith, omega arith)
within refusal.BadPool = (omega arith, omega arith)
within refusal.PoolsFull = (omega arith, omega arith)
within refusal.PoolInUse = (omega arith, omega arith)
within refusal.OutOfMemory = (omega arith, omega arith)
within refusal.NoPool = (omega arith, omega arith)

above : (one : Rule) → 100 < broken_number one
above rule.Magic = omega arith
above rule.Length = omega arith
above rule.Pools = omega arith
above rule.UnusedPools = omega arith
above rule.States = omega arith
above rule.Links = omega arith
above rule.Chains = omega arith
above rule.Cover = omega arith
above rule.OnChains = omega arith
above rule.Merged = omega arith
above rule.Lists = omega arith
above rule.OnLists = omega arith

pub returns-clause-refusals : goal.returns-clause-refusals
returns-clause-refusals c = λ one other same. sym (refusal_back one) ∙ ap refusal_of same ∙ refusal_back other

pub returns-clause-rules : goal.returns-clause-rules
returns-clause-rules c = λ one other same. sym (rule_back one) ∙ ap rule_of same ∙ rule_back other

pub returns-clause-kinds : goal.returns-clause-kinds
returns-clause-kinds c = λ one other same. omega (arith, (within one).1, above other, same)

pub returns-clause-served : goal.returns-clause-served
returns-clause-served c = λ one same. omega (arith, (within one).0, same)

pub returns-clause-others : goal.returns-clause-others
returns-clause-others c = λ one. ((λ same. omega (arith, (within one).1, same)), (λ same. omega (arith, (within one).1, same)))
