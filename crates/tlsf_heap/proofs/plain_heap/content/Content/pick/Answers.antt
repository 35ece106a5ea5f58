use Rattle.std.proofs.Common.{ℕ, ◌-◌, ◌≡◌, drop, take, length, ap, sym, ◌∙◌, option_and_then}
use Rattle.std.proofs.lemmas.List.{drop-map, take_rest}
use Rattle.tlsf_heap.specs.Lists.{first_of_lists, pick}
use Rattle.tlsf_heap.specs.PlainHeap.{lists_of}
use Rattle.tlsf_heap.proofs.plain_heap.content.Content.pick.Goals as goal

-- the search goes over the lists from the class on
pub returns : goal.returns
returns c =
    let lists = c.deref.result.now in
    let number : ℕ = c.number-number.result in
    let rest : take (length lists - number) (drop number lists) ≡ drop number lists = take_rest lists number in
    c.first_of_lists.ensures
    ∙ ap (λ xs. first_of_lists (lists_of xs)) rest
    ∙ ap first_of_lists (sym (drop-map (λ places. places.items) number lists))
    ∙ ap (λ n. first_of_lists (drop n (lists_of lists))) c.number-number.ensures.value
    ∙ ap (option_and_then (λ n. first_of_lists (drop n (lists_of lists)))) c.in_ok-class_for.ensures
    ∙ ap (λ xs. pick c.args.size (lists_of xs)) c.deref.ensures.value
    ∙ ap (λ content. pick c.args.size content.lists) c.self.view_is
