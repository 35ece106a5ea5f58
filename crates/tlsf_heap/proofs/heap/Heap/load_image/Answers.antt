use Rattle.std.proofs.Common.{◌≡◌, ℕ, ◌∙◌, List, length, sym, ap, subst, arith, Some, None}
use Rattle.tlsf_heap.specs.Images.Image.{Sections, sections_in}
use Rattle.std.specs.Prelude.{Err}
use Rattle.tlsf_heap.specs.declared.image_fault.ImageFault.TheVariants.{Broken}
use Rattle.tlsf_heap.specs.Inner.Loading.{CanBeStored, HoldsSections}
use Rattle.tlsf_heap.proofs.Images.Storable.{image_storable}
use Rattle.tlsf_heap.proofs.Inner.Followed.{records_are}
use Rattle.tlsf_heap.proofs.Images.Loaded.{loaded_stand, loaded_content}
use Rattle.tlsf_heap.proofs.heap.Heap.load_image.Goals as goal
use Rattle.tlsf_heap.proofs.heap.Heap.load_image.Goals.{In-Ok-stored}

pub returns-in-Err-clause-broken : goal.returns-in-Err-clause-broken
returns-in-Err-clause-broken c = λ rule is. let e : Some c.in-Err.rule ≡ Some rule = sym c.in-Err.ensures.broken ∙ is in ap (λ r. Err (Broken r)) (cc)

pub returns-in-Err-clause-memory : goal.returns-in-Err-clause-memory
returns-in-Err-clause-memory c = λ is. let e : Some c.in-Err.rule ≡ None = sym c.in-Err.ensures.broken ∙ is in absurd (cc)

pub stored-requires : goal.stored-requires
stored-requires c = record { stored = subst (λ (b : List ℕ). CanBeStored (sections_in b)) (sym c.in-Ok.ensures.bytes) (image_storable c.args.bytes.now c.in-Ok.ensures.whole) }

-- what is loaded is what the bytes describe
loaded : (c : In-Ok-stored) → HoldsSections (sections_in c.args.bytes.now) c.in-Ok-stored.store.cells
loaded c = subst (λ (b : List ℕ). HoldsSections (sections_in b) c.in-Ok-stored.store.cells) c.in-Ok.ensures.bytes c.in-Ok-stored.ensures.held

pub invariant_of-result : goal.invariant_of-result
invariant_of-result c = loaded_stand c.args.bytes.now c.in-Ok.ensures.whole c.in-Ok-stored.store.cells (loaded (goal.at.invariant_of-result c).In-Ok-stored)

pub returns-in-Ok-stored-clause-broken : goal.returns-in-Ok-stored-clause-broken
returns-in-Ok-stored-clause-broken c = λ rule is. let e : Some rule ≡ None = sym is ∙ c.in-Ok.ensures.whole in absurd (cc)

pub returns-in-Ok-stored-clause-content : goal.returns-in-Ok-stored-clause-content
returns-in-Ok-stored-clause-content c = loaded_content c.args.bytes.now c.in-Ok.ensures.whole c.in-Ok-stored.store.cells (loaded (goal.at.returns-in-Ok-stored-clause-content c).In-Ok-stored)

pub returns-in-Ok-stored-clause-bound : goal.returns-in-Ok-stored-clause-bound
returns-in-Ok-stored-clause-bound c = omega (arith, c.in-Ok-stored.ensures.bound, ap (λ (p : Sections). length p.records) c.in-Ok-stored.ensures.held.held, records_are c.in-Ok-stored.store.cells)

pub returns-in-Err-stored-clause-broken : goal.returns-in-Err-stored-clause-broken
returns-in-Err-stored-clause-broken c = λ rule is. let e : Some rule ≡ None = sym is ∙ c.in-Ok.ensures.whole in absurd (cc)

pub returns-in-Err-clause-saved : goal.returns-in-Err-clause-saved
returns-in-Err-clause-saved c = λ content image. let e : Some c.in-Err.rule ≡ None = sym c.in-Err.ensures.broken ∙ image.unbroken in absurd (cc)

pub returns-in-Ok-stored-clause-saved : goal.returns-in-Ok-stored-clause-saved
returns-in-Ok-stored-clause-saved c = λ content image.
    loaded_content c.args.bytes.now c.in-Ok.ensures.whole c.in-Ok-stored.store.cells (loaded (goal.at.returns-in-Ok-stored-clause-saved c).In-Ok-stored) ∙ image.describes
