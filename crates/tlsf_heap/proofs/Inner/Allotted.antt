-- A listed node leaves its list and is in use, and the rest behind its first bytes is listed. What the steps need and
-- leave.
use Rattle.std.proofs.Common.{◌≡◌, ℕ, ◌+◌, ◌-◌, ◌%◌, ◌<◌, ◌≤◌, ◌∙◌, Bool, List, ◌∷◌, length, map, refl, ap, subst, arith, Option, Some, None, true, false, cond, [], ◌++◌, sym, count_by}
use Rattle.std.proofs.lemmas.Bool.{eq-eqb, ne_eqb}
use Rattle.tlsf_class.specs.Classes.{unit, class, greatest_size}
use Rattle.tlsf_store.specs.declared.records.State.TheVariants.{Free, Live}
use Rattle.tlsf_store.specs.declared.records.Record.{Record}
use Rattle.tlsf_store.specs.Records.{blank, record_at}
use Rattle.tlsf_store.specs.Cells.{Cells, with_taken}
use Rattle.tlsf_heap.specs.Good.{Covers}
use Rattle.tlsf_heap.specs.declared.span.Span.{Span}
use Rattle.tlsf_heap.specs.Inner.Edits.{IsUsed, unlinked_by}
use Rattle.tlsf_heap.specs.Inner.Spans.{IsRead, span_at, rest_record, split_by}
use Rattle.tlsf_heap.specs.Inner.Nodes.{NodeState, InUse, Listed, Loose, Node, turned, rest_node, block_of, is_listed_state, Layout, pool_of, nodes_of}
use Rattle.tlsf_heap.specs.Inner.Represents.{Represents}
use Rattle.tlsf_heap.specs.Inner.At.{At, layout_at, StandsAt, at_unlisted, with_slot, at_turned, at_split, AreCovered, at_split_off, at_split_rest}
use Rattle.tlsf_heap.proofs.Counts.{one_if, count-cons}
use Rattle.tlsf_heap.proofs.Inner.Plugs.{count-filled}
use Rattle.tlsf_heap.proofs.Content.FreeLists.{times-cons}
use Rattle.tlsf_heap.proofs.Inner.Used.{stands_used}
use Rattle.tlsf_heap.proofs.Inner.Unlinked.{unlinked_laid, beside_used}
use Rattle.tlsf_heap.proofs.Inner.Split.{split_laid, at_rest}
use Rattle.tlsf_heap.proofs.Inner.Taken.{slot_taken}
use Rattle.tlsf_heap.proofs.Inner.Steps.{size_read, whole_at, covered_turned}
use Rattle.tlsf_heap.proofs.Inner.Spans.{span_is}
use Rattle.tlsf_heap.proofs.Meaning.Covered.{covered_refilled}
use Rattle.std.specs.Prelude.{◌==◌}
use Rattle.tlsf_heap.specs.Inner.Positions.{filled, is_loose}

module _ (cells : Cells) (slot : ℕ) (at : At) (stands : StandsAt slot Listed cells at) where
  listed_was : Represents cells (layout_at (record at { node = turned Listed at.node }))
  listed_was =
      let P : Node → Type 0 = λ n. Represents cells (layout_at (record at { node = n })) in
      let same : at.node ≡ turned Listed at.node = ap (λ s. turned s at.node) stands.1.node_state_is in
      subst P same stands.0

-- what is known of a listed block whose record was read
pub record ListedRead (cells : Cells) (block : Record) : Type 0 where
  pub some : unit ≤ block.size
  pub whole : block.size % unit ≡ 0
  pub most : block.size ≤ greatest_size
  pub prev_used : IsUsed cells.records block.prev_free
  pub next_used : IsUsed cells.records block.next_free

pub listed_read : (cells : Cells) (slot : ℕ) (block : Record) (at : At) → StandsAt slot Listed cells at → block ≡ record_at cells.records slot → ListedRead cells block
listed_read cells slot block at stands read =
    let all = whole_at cells slot Listed at stands in
    let size = ap (λ (r : Record). r.size) read ∙ size_read cells slot Listed at stands in
    let beside = subst (λ (r : Record). IsUsed cells.records r.prev_free × IsUsed cells.records r.next_free) (ap (record_at cells.records) stands.1.slot_is ∙ sym read)
    (beside_used cells at.count at.position (turned Listed at.node) at.nodes at.lists at.taken (listed_was cells slot at stands)) in
    record {
      some = omega (arith, all.positive, all.in_units, size);
      whole = ap (λ n. n % unit) size ∙ all.in_units;
      most = omega (arith, all.at_most, size);
      prev_used = beside.0;
      next_used = beside.1;
    }

-- and what stands once it left its list
pub read_leaves : (old new : Cells) (slot number : ℕ) (block : Record) (at : At) → StandsAt slot Listed old at → block ≡ record_at old.records slot → number ≡ class block.size → new ≡ unlinked_by number block old → StandsAt slot Loose new (at_unlisted at)
read_leaves old new slot number block at stands read number_is is =
    let size = ap (λ (r : Record). r.size) read ∙ size_read old slot Listed at stands in
    let P : ℕ → Type 0 = λ q. Represents (unlinked_by (class at.node.size) (record_at old.records q) old) (layout_at (at_unlisted at)) in
    let left = subst P stands.1.slot_is (unlinked_laid old at.count at.position (turned Listed at.node) at.nodes at.lists at.taken (listed_was old slot at stands)) in (
      subst (λ c. Represents c (layout_at (at_unlisted at))) (sym (is ∙ (λ i. unlinked_by ((number_is ∙ ap class size) i) (read i) old))) left,
      record { slot_is = stands.1.slot_is; node_state_is = refl; others_settled = stands.1.others_settled; covered = covered_turned old slot Listed at stands Loose },
    )

-- a vacant record was taken meanwhile
pub slot_stands : (old new : Cells) (result : Option ℕ) (slot rest : ℕ) (node_state : NodeState) (at : At) → StandsAt slot node_state old at → result ≡ Some rest → new ≡ with_taken old result → rest < length old.records → record_at old.records rest ≡ blank
    → StandsAt slot node_state new (with_slot rest at)
slot_stands old new result slot rest node_state at stands is taken within vacant =
    rw (taken, is)
    (slot_taken old (layout_at at) rest stands.0 within vacant, record { slot_is = stands.1.slot_is; node_state_is = stands.1.node_state_is; others_settled = stands.1.others_settled; covered = stands.1.covered })

covers_split : (rest bytes : ℕ) (node : Node) (nodes : List Node) → 0 < bytes → bytes < node.size → bytes % unit ≡ 0 → (from to : ℕ) → Covers from to (map block_of (node ∷ nodes)) → Covers from to (map block_of (record node { size = bytes } ∷ rest_node rest bytes node ∷ nodes))
covers_split rest bytes node nodes some less whole from to c =
    let P : ℕ → Type 0 = λ n. Covers n to (map block_of nodes) in
    let same : from + node.size ≡ (from + bytes) + (node.size - bytes) = omega (arith, less) in
    (c.0, some, whole, (omega (arith, c.0), omega (arith, less), omega (arith, c.2, whole, less), subst P same c.3))

module _ (cells : Cells) (slot rest : ℕ) (node_state : NodeState) (at : At) (stands : StandsAt slot node_state cells (with_slot rest at)) where
  pub rest_used : IsUsed cells.records (Some rest)
  rest_used = stands_used cells (layout_at (with_slot rest at)) rest stands.0 (omega (arith, times-cons rest rest at.taken, ap one_if (eq-eqb rest rest refl)))

-- a block that was read, and was split into one in use and a loose one
pub span_splits : (old new : Cells) (span : Span) (node_state : NodeState) (rest : ℕ) (second : Option ℕ) (bytes : ℕ) (at : At) → is_listed_state node_state ≡ false → StandsAt span.slot node_state old (with_slot rest at) → IsRead span old.records → 0 < bytes → bytes < span.size → bytes % unit ≡ 0
    → new ≡ split_by span rest Free second bytes old → StandsAt rest Loose new (at_split rest bytes (at_turned InUse at))
span_splits old new span node_state rest second bytes at unlisted stands read some less whole is =
    let loose : Node → Bool = λ n. is_loose n.state in
    let first : Node = record at.node { size = bytes; state = InUse } in
    let known : span ≡ span_at at = span_is old node_state (with_slot rest at) span stands read in
    let size = ap (λ (s : Span). s.size) known in (
      subst (λ c. Represents c (layout_at (at_split rest bytes (at_turned InUse at)))) (sym (is ∙ ap (λ s. split_by s rest Free second bytes old) known))
          (split_laid old at.count at.position at.node at.nodes at.lists rest Loose second at.taken bytes stands.0 (ap is_listed_state stands.1.node_state_is ∙ unlisted) refl),
      record {
        slot_is = refl;
        node_state_is = refl;
        others_settled = omega (
          arith,
          stands.1.others_settled,
          count-filled loose at.position at.nodes,
          count-filled loose (record at.position { before = first ∷ at.position.before }) at.nodes,
          count-cons loose first at.position.before,
        );
        covered = covered_refilled at.position (at.node ∷ at.nodes) (first ∷ rest_node rest bytes at.node ∷ at.nodes) (covers_split rest bytes at.node at.nodes some (omega (arith, less, size)) whole) stands.1.covered;
      },
    )

-- the record of the rest
pub span_rest : (old new : Cells) (span : Span) (node_state : NodeState) (rest : ℕ) (second : Option ℕ) (bytes : ℕ) (at : At) → is_listed_state node_state ≡ false → StandsAt span.slot node_state old (with_slot rest at) → IsRead span old.records
    → new ≡ split_by span rest Free second bytes old → record_at new.records rest ≡ rest_record Free span second bytes
span_rest old new span node_state rest second bytes at unlisted stands read is =
    let known : span ≡ span_at at = span_is old node_state (with_slot rest at) span stands read in
    ap (λ (c : Cells). record_at c.records rest) (is ∙ ap (λ s. split_by s rest Free second bytes old) known)
    ∙ at_rest old at.count at.position at.node at.nodes at.lists rest Loose second at.taken bytes stands.0 (ap is_listed_state stands.1.node_state_is ∙ unlisted) refl
    ∙ ap (λ s. rest_record Free s second bytes) (sym known)

-- the node keeps its first bytes, and a live one of what is left stands behind it
abbrev pub at_front : ℕ → ℕ → At → At
at_front live bytes at = record at { node = record at.node { size = bytes }; nodes = turned InUse (rest_node live bytes at.node) ∷ at.nodes }

-- the same, where the rest is live, too
pub span_gaps : (old new : Cells) (span : Span) (live bytes : ℕ) (at : At) → StandsAt span.slot InUse old (with_slot live at) → IsRead span old.records → 0 < bytes → bytes < span.size → bytes % unit ≡ 0
    → new ≡ split_by span live Live None bytes old → StandsAt span.slot InUse new (at_front live bytes (at_turned InUse at))
span_gaps old new span live bytes at stands read some less whole is =
    let loose : Node → Bool = λ n. is_loose n.state in
    let second : Node = turned InUse (rest_node live bytes at.node) in
    let known : span ≡ span_at at = span_is old InUse (with_slot live at) span stands read in
    let size = ap (λ (s : Span). s.size) known in (
      subst (λ c. Represents c (layout_at (at_front live bytes (at_turned InUse at)))) (sym (is ∙ ap (λ s. split_by s live Live None bytes old) known))
          (split_laid old at.count at.position at.node at.nodes at.lists live InUse None at.taken bytes stands.0 (ap is_listed_state stands.1.node_state_is) refl),
      record {
        slot_is = stands.1.slot_is;
        node_state_is = refl;
        others_settled = omega (arith, stands.1.others_settled, count-filled loose at.position at.nodes, count-filled loose at.position (second ∷ at.nodes), count-cons loose second at.nodes);
        covered = covered_refilled at.position (at.node ∷ at.nodes) (record at.node { size = bytes; state = InUse } ∷ second ∷ at.nodes) (covers_split live bytes at.node at.nodes some (omega (arith, less, size)) whole) stands.1.covered;
      },
    )

-- a gap of no bytes is none, and another is a node
rest_split_all : (rest : ℕ) (at : At) → at_split_rest rest at.node.size at ≡ at
rest_split_all rest at =
    let nothing : ((at.node.size - at.node.size) == 0) ≡ true = eq-eqb (at.node.size - at.node.size) 0 (omega arith) in
    rw nothing refl

rest_split_off : (rest bytes : ℕ) (at : At) → bytes < at.node.size → layout_at (at_split_off rest bytes at) ≡ layout_at (at_split_rest rest bytes at)
rest_split_off rest bytes at less =
    let some : ((at.node.size - bytes) == 0) ≡ false = ne_eqb (at.node.size - bytes) 0 (λ e. omega (arith, e, less)) in
    rw some refl

-- the node keeps all
pub rest_split_none : (cells : Cells) (slot rest bytes : ℕ) (at : At) → StandsAt slot InUse cells at → bytes ≡ at.node.size → StandsAt slot InUse cells (at_split_rest rest bytes at)
rest_split_none cells slot rest bytes at stands all =
    let P : At → Type 0 = λ a. StandsAt slot InUse cells a in
    let Q : ℕ → Type 0 = λ n. StandsAt slot InUse cells (at_split_rest rest n at) in
    subst Q (sym all) (subst P (sym (rest_split_all rest at)) stands)

-- the node keeps its first bytes, and the rest was linked
pub rest_split_stands : (old new : Cells) (slot rest bytes : ℕ) (at : At) → StandsAt slot InUse old at → bytes < at.node.size → StandsAt rest Listed new (at_split_off rest bytes at) → StandsAt slot InUse new (at_split_rest rest bytes at)
rest_split_stands old new slot rest bytes at was less stands =
    let loose : Node → Bool = λ n. is_loose n.state in
    let first : Node = record at.node { size = bytes } in
    let second : Node = record { slot = rest; place = at.node.place + bytes; size = at.node.size - bytes; state = Listed } in
    let same = rest_split_off rest bytes at less in
    let some : ((at.node.size - bytes) == 0) ≡ false = ne_eqb (at.node.size - bytes) 0 (λ e. omega (arith, e, less)) in
    let P : Layout → Type 0 = λ l. Represents new l in
    let Q : Layout → Type 0 = λ l. AreCovered 0 (map pool_of l.areas) in
    let R : Bool → Type 0 = λ b. count_by loose (nodes_of (filled at.position (cond b [] (second ∷ []) ++ at.nodes))) ≡ 0 in (
      subst P same stands.0,
      record {
        slot_is = was.1.slot_is;
        node_state_is = was.1.node_state_is;
        others_settled = subst R (sym some) (omega (arith, was.1.others_settled, count-filled loose at.position at.nodes, count-filled loose at.position (second ∷ at.nodes), count-cons loose second at.nodes));
        covered = subst Q same stands.1.covered;
      },
    )
