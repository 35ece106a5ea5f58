-- The image that is written breaks no rule, and describes the content.
use Rattle.std.proofs.Common.{◌≡◌, ℕ, ◌<◌, ◌≤◌, List, length, ap, ◌∙◌, arith}
use Rattle.std.proofs.lemmas.List.{length-map}
use Rattle.tlsf_store.specs.Records.{most_records}
use Rattle.tlsf_store.specs.Cells.{Cells}
use Rattle.tlsf_heap.specs.Images.Writing.{image_of}
use Rattle.tlsf_heap.specs.Counted.{Counted}
use Rattle.tlsf_heap.specs.Images.Described.{IsImageOf, told_record, told_sections}
use Rattle.tlsf_heap.proofs.Images.Written.{written_unbroken, written_content}
use Rattle.tlsf_heap.proofs.heap.Heap.save_image.Goals as goal
use Rattle.tlsf_heap.proofs.heap.Heap.save_image.Goals.{in-Ok, in-Err}

pub returns-clause-saved : goal.returns-clause-saved
returns-clause-saved g c =
    let cells : Cells = c.self.inside.store.cells in
    let count : length (told_sections cells).records ≡ length cells.records = length-map cells.records told_record in
    let few : length cells.records ≤ most_records = omega (arith, c.put_image.ensures.few, count) in
    let some : 0 < length cells.records = omega (arith, c.put_image.ensures.some, count) in
    let image : List ℕ = image_of (told_sections cells) in
    let is_image : IsImageOf c.args.self.now.content image = record {
      unbroken = written_unbroken cells c.self.invariant few some;
      describes = written_content cells c.self.invariant few some ∙ ap (λ (v : Counted). v.content) c.self.view_is;
    } in
    elim c.match-put_image.branch [
      | in-Ok w ↦ rw w.result-is (record { image = image; is_image = is_image; put = w.in-Ok.ensures.put })
      | in-Err w ↦ rw w.result-is (record { image = image; is_image = is_image; put = w.in-Err.ensures.put })
    ]
