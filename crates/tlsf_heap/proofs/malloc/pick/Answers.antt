-- What the search finds is the first list that fits.
use Rattle.std.proofs.Common.{sym, ◌∙◌}
use Rattle.tlsf_heap.proofs.Inner.Picked.{search_finds}
use Rattle.tlsf_heap.proofs.malloc.pick.Goals as goal

pub returns-clause-found : goal.returns-clause-found
returns-clause-found c =
    search_finds c.args.store.now.cells c.requires.stands c.args.asked c.in_ok-least.least (sym c.class_for.ensures ∙ c.in_ok-least.was) c.search.result c.search.ensures.value c.search.ensures.listed
