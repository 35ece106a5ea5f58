-- What a loaded image tells of the rules, and why one isn't loaded.
use Rattle.std.proofs.Common.{◌≡◌, Option, Some, Result, Ok, Err, ap}
use Rattle.tlsf_heap.specs.declared.image.rule.Rule.{Rule}
use Rattle.tlsf_heap.specs.declared.image_fault.ImageFault.{ImageFault}
use Rattle.tlsf_heap.specs.declared.image_fault.ImageFault.TheVariants.{Broken}
use Rattle.tlsf_c.specs.Saving.{broken_number, fault_number}

abbrev loaded : {T : Type 0} → T → Result T ImageFault
loaded heap = Ok heap

abbrev failed : (T : Type 0) → ImageFault → Result T ImageFault
failed T fault = Err fault

-- where a heap came of it, no rule is broken
pub none_where_loaded : {T : Type 0} (first : Option Rule) (heap : T) → ((rule : Rule) → first ≡ Some rule → loaded heap ≡ Err (Broken rule)) → (rule : Rule) → first ≡ Some rule → ⊥
none_where_loaded first heap broken rule is = let e = broken rule is in absurd (cc)

-- else the number is that of the first rule broken
pub number_of_broken : {T : Type 0} (first : Option Rule) (fault : ImageFault) → ((rule : Rule) → first ≡ Some rule → failed T fault ≡ Err (Broken rule)) → (rule : Rule) → first ≡ Some rule → fault_number fault ≡ broken_number rule
number_of_broken first fault broken rule is = let e = broken rule is in let same : fault ≡ Broken rule = cc in ap fault_number same
