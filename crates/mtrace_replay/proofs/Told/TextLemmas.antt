-- The report, and the text of one line more.
use Rattle.std.proofs.Common.{◌≡◌, ◌≢◌, ℕ, suc, ◌+◌, ◌<◌, List, [], ◌∷◌, ◌++◌, length, drop, refl, sym, ap, subst, ◌∙◌, flat_map, codes, arith}
use Rattle.std.proofs.Math.ListN.{get_or}
use Rattle.std.proofs.Math.Seq.{drop-cons}
use Rattle.std.specs.Prelude.{Result, IsErrAnd}
use Rattle.mtrace_log.specs.Output.{PutsAll, PutsBeginning, Puts}
use Rattle.mtrace_log.specs.Shown.{WriterState}
use Rattle.mtrace_log.proofs.Writing.{IsPutting, putting_more, putting_fails, puts_exit}
use Rattle.mtrace_log.specs.Bytes.{newline}
use Rattle.mtrace_replay.specs.Entry.{Entry}
use Rattle.mtrace_replay.specs.Texts.{entry_text, total_text, total_size, leaks_report, pair_line}

-- the line above the entries
abbrev pub heading : List ℕ
heading = codes "Memory not freed:" ++ newline ∷ []

pub leaks_report-some : (entries : List Entry) → entries ≢ [] → leaks_report entries ≡ (heading ++ flat_map entry_text entries) ++ total_text entries
leaks_report-some [] some = absurd (some refl)
leaks_report-some (first ∷ entries) some = refl

-- the line of the totals, where both numbers are known
pub total_text-is : (entries : List Entry) (blocks bytes : ℕ) → blocks ≡ length entries → bytes ≡ total_size entries
    → pair_line (codes "Total: ") blocks (codes " blocks, ") bytes (codes " bytes.") ≡ total_text entries
total_text-is entries blocks bytes count size =
    ap (λ n. pair_line (codes "Total: ") n (codes " blocks, ") bytes (codes " bytes.")) count
    ∙ ap (λ n. pair_line (codes "Total: ") (length entries) (codes " blocks, ") n (codes " bytes.")) size

-- the text of the next one, before those of the rest
pub texts-next : {X : Type 0} (text : X → List ℕ) (items all : List X) (index : ℕ) (item : X) → items ≡ all → index < length items → item ≡ get_or items index item
    → flat_map text (drop index all) ≡ text item ++ flat_map text (drop (index + 1) all)
texts-next text items all index item same below is =
    let next : index + 1 ≡ suc index = omega arith in
    let first : item ≡ get_or all index item = is ∙ ap (λ ones. get_or ones index item) same in
    let inside : index < length all = omega (arith, below, ap (λ (ones : List _). length ones) same) in
    ap (flat_map text) (drop-cons all index item inside ∙ ap (λ one. one ∷ drop (suc index) all) (sym first) ∙ ap (λ n. item ∷ drop n all) (sym next))

-- the texts before this one are put, and its bytes are next
module _ {X : Type 0} (text : X → List ℕ) (items all : List X) (index : ℕ) (item : X) (same : items ≡ all) (below : index < length items) (is : item ≡ get_or items index item)
    (old middle new : WriterState) (so_far : IsPutting (flat_map text all) (flat_map text (drop index all)) old middle) (bytes : List ℕ) (told : bytes ≡ text item) where
  pub text_more : PutsAll bytes middle new → IsPutting (flat_map text all) (flat_map text (drop (index + 1) all)) old new
  text_more next =
      let P : List ℕ → Type 0 = λ bytes. PutsAll bytes middle new in
      putting_more old middle new (flat_map text all) (flat_map text (drop index all)) (text item) (flat_map text (drop (index + 1) all)) so_far (texts-next text items all index item same below is) (subst P told next)

  pub text_fails : {T E : Type 0} (result : Result T E) (Q : E → Type 0) → IsErrAnd result Q → PutsBeginning bytes middle new → Puts result (flat_map text all) old new
  text_fails result Q failed next =
      let P : List ℕ → Type 0 = λ bytes. PutsBeginning bytes middle new in
      puts_exit result Q failed (flat_map text all) old new
      (putting_fails old middle new (flat_map text all) (flat_map text (drop index all)) (text item) (flat_map text (drop (index + 1) all)) so_far (texts-next text items all index item same below is) (subst P told next))
