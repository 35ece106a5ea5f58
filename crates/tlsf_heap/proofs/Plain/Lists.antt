-- A list of the plain heap is written: the lists are those of the definitions.
use Rattle.std.proofs.Common.{◌≡◌, ℕ, ◌<◌, List, [], ◌∷◌, length, sym, ap, ◌∙◌, get_or, set, Vec, vec_len, refl}
use Rattle.std.proofs.lemmas.List.{map-set, get_or-map}
use Rattle.std.specs.List.{AllZip, each_same}
use Rattle.std.specs.declared.alloc.Global.{Global}
use Rattle.tlsf_class.specs.Classes.{class}
use Rattle.tlsf_heap.specs.Lists.{list_of, without, link, unlink}
use Rattle.tlsf_heap.specs.PlainHeap.{lists_of}

abbrev Places : Type 0
Places = Vec ℕ Global

-- a list reads as the vector that stands there
list_of-at : (lists : List Places) (number : ℕ) (places : Places) → number < length lists → places ≡ get_or lists number places → list_of number (lists_of lists) ≡ places.items
list_of-at lists number places below is = get_or-map (λ v. v.items) lists number places [] below ∙ ap (λ v. v.items) (sym is)

set_list : (lists : List Places) (number : ℕ) (places : Places) (items : List ℕ) → places.items ≡ items → lists_of (set lists number places) ≡ set (lists_of lists) number items
set_list lists number places items is = map-set (λ v. v.items) lists number places ∙ ap (set (lists_of lists) number) is

pub link_is : (lists : List Places) (number place size : ℕ) (old entered : Places) → number ≡ class size → number < length lists → old ≡ get_or lists number old → entered.items ≡ place ∷ old.items
    → lists_of (set lists number entered) ≡ link place size (lists_of lists)
link_is lists number place size old entered same below is items =
    set_list lists number entered _ (items ∙ ap (λ xs. place ∷ xs) (sym (list_of-at lists number old below is)))
    ∙ ap (λ n. set (lists_of lists) n (place ∷ list_of n (lists_of lists))) same

pub unlink_is : (lists : List Places) (number place size : ℕ) (old left : Places) → number ≡ class size → number < length lists → old ≡ get_or lists number old → left.items ≡ without place old.items
    → lists_of (set lists number left) ≡ unlink place size (lists_of lists)
unlink_is lists number place size old left same below is items =
    set_list lists number left _ (items ∙ ap (without place) (sym (list_of-at lists number old below is)))
    ∙ ap (λ n. set (lists_of lists) n (without place (list_of n (lists_of lists)))) same

-- lists whose places are clones of others are those lists
pub lists_cloned : (lists others : List Places) → AllZip (λ (v w : Places). AllZip (λ (x y : ℕ). y ≡ x) v.items w.items × (vec_len w ≡ vec_len v)) lists others → lists_of others ≡ lists_of lists
lists_cloned [] [] same = refl
lists_cloned [] (other ∷ others) same = absurd same
lists_cloned (places ∷ lists) [] same = absurd same
lists_cloned (places ∷ lists) (other ∷ others) same = λ i. each_same places.items other.items same.0.0 i ∷ lists_cloned lists others same.1 i
