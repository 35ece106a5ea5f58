-- By the heap's law on blocks of one size: a part's size is that of a class.
use Rattle.std.proofs.Common.{◌≡◌, ℕ, ◌*◌, Option, Some, None, refl, ap, subst, arith, inl}
use Rattle.std.specs.Prelude.{option_map}
use Rattle.tlsf_heap.specs.Sizing.{class_size}
use Rattle.tlsf_heap.proofs.Good.OneSize.{run_of_size}
use Rattle.mtrace_replay.specs.declared.runs.size_parts.PartBounds.{PartBounds}
use Rattle.mtrace_replay.specs.Fronted.{with_front}
use Rattle.mtrace_replay.specs.Parts.{Part}
use Rattle.mtrace_replay.specs.SizeParts.{part_for}
use Rattle.mtrace_replay.proofs.BySize.ClassSizes.{class_size_is}
use Rattle.mtrace_replay.proofs.laws.size_parts_are_enough.Goals as goal

-- the part's size is a class's own
own_size : (front : ℕ) (bounds : PartBounds) (part : Part) → part_for front bounds ≡ Some part → class_size 1 part.size ≡ Some part.size
own_size front bounds part is = by (class_size 1 (with_front front bounds.largest)) refl is
  where
    by : (answer : Option ℕ) → class_size 1 (with_front front bounds.largest) ≡ answer → option_map (λ size. record { blocks = bounds.blocks; size = size }) answer ≡ Some part → class_size 1 part.size ≡ Some part.size
    by None answers is = absurd (cc)
    by (Some size) answers is =
        let same : size ≡ part.size = (let e : record { blocks = bounds.blocks; size = size } ≡ part = cc in ap (λ (p : Part). p.size) e) in
        subst (λ n. class_size 1 n ≡ Some n) same (class_size_is 1 (with_front front bounds.largest) size answers).own

pub returns : goal.returns
returns g c = λ front base bounds part requests answers old new before after run told added within.
    run_of_size _ part.blocks part.size part.blocks base (part.blocks * part.size) requests answers old new before after run added (own_size front bounds part told) (omega arith) (inl (omega arith)) within
