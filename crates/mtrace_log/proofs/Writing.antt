-- Writes one after the other.
use Rattle.std.proofs.Common.{◌≡◌, ℕ, false, List, [], ◌++◌, refl, sym, ap, ◌∙◌, subst, Option, Some, None, append_assoc}
use Rattle.std.specs.Prelude.{Result, Ok, Err, IsErrAnd}
use Rattle.std.specs.Result.{is_err}
use Rattle.std.specs.Io.KnownBytes.{append_known}
use Rattle.std.proofs.lemmas.List.{append-nil}
use Rattle.mtrace_log.specs.Output.{Wrote, Begins, PutsAll, PutsBeginning, Puts}
use Rattle.mtrace_log.specs.Shown.{WriterState}
use Rattle.mtrace_log.specs.declared.call.Call.TheVariants.{Took, Failed}
use Rattle.mtrace_log.proofs.TraceLemmas.{moved_append, moved_then_append}

append_known-append : (old : Option (List ℕ)) (first second : List ℕ) → append_known (append_known old first) second ≡ append_known old (first ++ second)
append_known-append None first second = refl
append_known-append (Some bytes) first second = ap Some (append_assoc bytes first second)

append_known-nil : (old : Option (List ℕ)) → old ≡ append_known old []
append_known-nil None = refl
append_known-nil (Some bytes) = ap Some (sym (append-nil bytes))

pub Wrote-nothing : (old : WriterState) → Wrote old old []
Wrote-nothing old = append_known-nil old.taken

pub Wrote-append : (old middle new : WriterState) (first second : List ℕ) → Wrote old middle first → Wrote middle new second → Wrote old new (first ++ second)
Wrote-append old middle new first second w v = v ∙ ap (λ known. append_known known second) w ∙ append_known-append old.taken first second

-- a text that begins behind one that was written begins as a whole
pub Begins-after : (old middle new : WriterState) (first second : List ℕ) → Wrote old middle first → Begins middle new second → Begins old new (first ++ second)
Begins-after old middle new first second w b = record {
  beginning = first ++ b.beginning;
  rest = b.rest;
  whole = ap (λ text. first ++ text) b.whole ∙ sym (append_assoc first b.beginning b.rest);
  wrote = Wrote-append old middle new first b.beginning w b.wrote;
}

-- a beginning of a text is one of a longer text
pub Begins-longer : (old new : WriterState) (text more : List ℕ) → Begins old new text → Begins old new (text ++ more)
Begins-longer old new text more b = record {
  beginning = b.beginning;
  rest = b.rest ++ more;
  whole = ap (λ t. t ++ more) b.whole ∙ append_assoc b.beginning b.rest more;
  wrote = b.wrote;
}

-- all of a text is a beginning of it
pub Begins-all : (old new : WriterState) (text : List ℕ) → Wrote old new text → Begins old new text
Begins-all old new text w = record { beginning = text; rest = []; whole = sym (append-nil text); wrote = w }

-- a text is put, and then another
pub puts_on : (old middle new : WriterState) (first second : List ℕ)
    → PutsAll first old middle → PutsAll second middle new → PutsAll (first ++ second) old new
puts_on old middle new first second one other = record {
  wrote = Wrote-append old middle new first second one.wrote other.wrote;
  took = moved_append Took old.calls middle.calls new.calls one.took other.took;
}

-- a text is put, and then another is begun
pub fails_on : (old middle new : WriterState) (first second : List ℕ)
    → PutsAll first old middle → PutsBeginning second middle new → PutsBeginning (first ++ second) old new
fails_on old middle new first second one other = record {
  begun = Begins-after old middle new first second one.wrote other.begun;
  failed = moved_then_append Took Failed old.calls middle.calls new.calls one.took other.failed;
}

-- a text is begun that goes on
pub fails_early : (old new : WriterState) (text more : List ℕ)
    → PutsBeginning text old new → PutsBeginning (text ++ more) old new
fails_early old new text more one = record { begun = Begins-longer old new text more one.begun; failed = one.failed }

-- a text is put, and then a call puts another
pub puts_then : {T E : Type 0} (result : Result T E) (old middle new : WriterState) (first second : List ℕ)
    → PutsAll first old middle → Puts result second middle new → Puts result (first ++ second) old new
puts_then (Ok done) old middle new first second one other = puts_on old middle new first second one other
puts_then (Err failure) old middle new first second one other = fails_on old middle new first second one other

-- a call that didn't fail put all of the text
pub puts_done : {T E : Type 0} (result : Result T E) (text : List ℕ) (old new : WriterState)
    → false ≡ is_err result → Puts result text old new → PutsAll text old new
puts_done (Ok done) text old new is put = put
puts_done (Err failure) text old new is put = absurd (cc)

-- the exit of a call that failed to put a text
pub puts_exit : {T E : Type 0} (result : Result T E) (Q : E → Type 0) → IsErrAnd result Q → (text : List ℕ) (old new : WriterState)
    → PutsBeginning text old new → Puts result text old new
puts_exit (Ok done) Q failed text old new beginning = absurd failed
puts_exit (Err failure) Q failed text old new beginning = beginning

-- a beginning of the text is put, and the rest is left
pub record IsPutting (text rest : List ℕ) (old new : WriterState) : Type 0 where
  pub beginning : List ℕ
  pub whole : text ≡ beginning ++ rest
  pub put : PutsAll beginning old new

-- the next piece of what is left is put
pub putting_more : (old middle new : WriterState) (text rest piece later : List ℕ)
    → IsPutting text rest old middle → rest ≡ piece ++ later → PutsAll piece middle new → IsPutting text later old new
putting_more old middle new text rest piece later so_far is next = record {
  beginning = so_far.beginning ++ piece;
  whole = so_far.whole ∙ ap (λ t. so_far.beginning ++ t) is ∙ sym (append_assoc so_far.beginning piece later);
  put = puts_on old middle new so_far.beginning piece so_far.put next;
}

-- the next piece is begun
pub putting_fails : (old middle new : WriterState) (text rest piece later : List ℕ)
    → IsPutting text rest old middle → rest ≡ piece ++ later → PutsBeginning piece middle new → PutsBeginning text old new
putting_fails old middle new text rest piece later so_far is next =
    let P : List ℕ → Type 0 = λ t. PutsBeginning t old new in
    subst P (sym (so_far.whole ∙ ap (λ t. so_far.beginning ++ t) is)) (fails_on old middle new so_far.beginning (piece ++ later) so_far.put (fails_early middle new piece later next))

-- nothing is left
pub putting_ends : (old new : WriterState) (text rest : List ℕ)
    → IsPutting text rest old new → rest ≡ [] → PutsAll text old new
putting_ends old new text rest so_far none =
    let P : List ℕ → Type 0 = λ t. PutsAll t old new in
    subst P (sym (so_far.whole ∙ ap (λ t. so_far.beginning ++ t) none ∙ append-nil so_far.beginning)) so_far.put

-- a call puts what is left
pub putting_last : {T E : Type 0} (result : Result T E) (old middle new : WriterState) (text rest : List ℕ)
    → IsPutting text rest old middle → Puts result rest middle new → Puts result text old new
putting_last result old middle new text rest so_far put =
    let P : List ℕ → Type 0 = λ t. Puts result t old new in
    subst P (sym so_far.whole) (puts_then result old middle new so_far.beginning rest so_far.put put)
