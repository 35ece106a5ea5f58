-- What the answer of loading an image tells of its rules.
use Rattle.std.proofs.Common.{◌≡◌, ◌⊎◌, ℕ, List, inl, inr, false, sym, ap, ◌∙◌, refl, Option, Some, None}
use Rattle.std.specs.Prelude.{Result, Ok, Err, if◌then◌else◌}
use Rattle.std.specs.Result.{is_ok, is_err, IsErrAnd}
use Rattle.mtrace_replay.specs.declared.runs.status.RunFault.{RunFault}
use Rattle.mtrace_replay.specs.declared.runs.status.RunFault.TheVariants as fault
use Rattle.mtrace_replay.specs.declared.runs.status.Status.TheVariants.{Clean, Found}
use Rattle.tlsf_heap.specs.declared.heap.Heap.{Heap}
use Rattle.tlsf_heap.specs.declared.image.rule.Rule.{Rule}
use Rattle.tlsf_heap.specs.Images.Described.{described}
use Rattle.tlsf_tool.specs.declared.asked.ImageReport.{ImageReport}
use Rattle.tlsf_tool.specs.Checking.{IsLoaded, image_status, image_text, loaded_status, loaded_text, on_rule, rule_text, whole_text}
use Rattle.tlsf_heap.specs.declared.image_fault.ImageFault.{ImageFault}
use Rattle.tlsf_heap.specs.declared.image_fault.ImageFault.TheVariants.{Broken, OutOfMemory}

pub none_where_loaded : {H : Type 0} (first : Option Rule) (result : Result H ImageFault) (heap : H) → ((rule : Rule) → first ≡ Some rule → result ≡ Err (Broken rule)) → result ≡ Ok heap → first ≡ None
none_where_loaded None result heap broken is = refl
none_where_loaded (Some rule) result heap broken is = absurd (let e : Ok heap ≡ Err (Broken rule) = sym is ∙ broken rule refl in cc)

pub some_where_broken : {H : Type 0} (first : Option Rule) (result : Result H ImageFault) (rule : Rule) → ((other : Rule) → first ≡ Some other → result ≡ Err (Broken other))
    → (first ≡ None → Broken rule ≡ OutOfMemory) → result ≡ Err (Broken rule) → first ≡ Some rule
some_where_broken None result rule broken memory is = absurd (let e = memory refl in cc)
some_where_broken (Some other) result rule broken memory is = let e : Err (Broken rule) ≡ Err (Broken other) = sym is ∙ broken other refl in cc

-- what is told of what was loaded is told of the image
pub told_is : (report : ImageReport) (image : List ℕ) (loaded : Result Heap Rule) → IsLoaded image loaded → loaded_text report loaded ≡ image_text report image
told_is report image (Ok heap) is = ap (whole_text report) is.1 ∙ ap (λ (first : Option Rule). on_rule first (whole_text report (described image)) rule_text) (sym is.0)
told_is report image (Err rule) is = ap (λ (first : Option Rule). on_rule first (whole_text report (described image)) rule_text) (sym is)

pub status_is : (image : List ℕ) (loaded : Result Heap Rule) → IsLoaded image loaded → loaded_status loaded ≡ image_status image
status_is image (Ok heap) is = ap (λ (first : Option Rule). on_rule first Clean (λ rule. Found)) (sym is.0)
status_is image (Err rule) is = ap (λ (first : Option Rule). on_rule first Clean (λ rule. Found)) (sym is)

-- what a call leaves that didn't fail
pub where_ok : {T E X : Type 0} (result : Result T E) (new one other : X) → new ≡ (if is_ok result then one else other) → false ≡ is_err result → new ≡ one
where_ok (Ok done) new one other is ok = is
where_ok (Err failure) new one other is ok = absurd (cc)

-- what is handed on of a reading isn't a failed write
pub no_write : {T P : Type 0} (result : Result T RunFault) (failure : RunFault) → IsErrAnd result (λ other. other ≡ failure)
    → (failure ≡ fault.Read) ⊎ (failure ≡ fault.OutOfMemory) → result ≡ Err fault.Write → P
no_write (Ok done) failure is which write = absurd is
no_write (Err other) failure is (inl read) write = absurd (cc)
no_write (Err other) failure is (inr memory) write = absurd (cc)
