-- The count stands in the header.
use Rattle.std.proofs.Common.{sym, ◌∙◌, ap}
use Rattle.tlsf_heap.specs.Images.Image.{two_at, count_at}
use Rattle.tlsf_heap.proofs.Images.ImageLemmas.{records_count}
use Rattle.tlsf_heap.proofs.image.ImageHasSections.count.Goals as goal

pub returns-clause-value : goal.returns-clause-value
returns-clause-value c =
    c.from.ensures ∙ c.two_at.ensures ∙ ap (two_at count_at) c.self.view_is ∙ sym (records_count c.args.self.now)
