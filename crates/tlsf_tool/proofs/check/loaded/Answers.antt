-- A load answers the first broken rule, or the heap that is described.
use Rattle.std.proofs.Common.{sym, ap, ◌∙◌, Err}
use Rattle.tlsf_heap.specs.Images.Rules.{first_broken}
use Rattle.tlsf_tool.proofs.CheckLemmas.{none_where_loaded, some_where_broken}
use Rattle.tlsf_tool.proofs.check.loaded.Goals as goal

pub returns-in-Ok : goal.returns-in-Ok
returns-in-Ok c = (none_where_loaded (first_broken c.args.image.now) c.load_image.result _ c.load_image.ensures.broken c.in-Ok.is, c.in-Ok.ensures.content)

pub returns-in-Err-Broken : goal.returns-in-Err-Broken
returns-in-Err-Broken c =
    some_where_broken (first_broken c.args.image.now) c.load_image.result c.in-Err-Broken.rule c.load_image.ensures.broken
    (λ none. sym c.in-Err-Broken.field-0-is ∙ c.in-Err-Broken.ensures.memory none) (c.in-Err-Broken.is ∙ ap (λ fault. Err fault) c.in-Err-Broken.field-0-is)
