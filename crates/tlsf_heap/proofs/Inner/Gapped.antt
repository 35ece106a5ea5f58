-- A live node that leaves a gap of its first bytes: what stands after that.
use Rattle.std.proofs.Common.{◌≡◌, ℕ, ◌+◌, ◌-◌, ◌<◌, Bool, false, cond, List, [], ◌∷◌, ◌++◌, refl, sym, ap, subst, arith}
use Rattle.std.specs.Prelude.{◌==◌}
use Rattle.std.proofs.lemmas.Bool.{ne_eqb}
use Rattle.tlsf_store.specs.Cells.{Cells}
use Rattle.tlsf_heap.specs.Inner.Nodes.{NodeState, InUse, Listed, Node, turned, rest_node, entered}
use Rattle.tlsf_heap.specs.Inner.Positions.{is_loose}
use Rattle.tlsf_heap.specs.Inner.At.{At, StandsAt, at_turned, at_listed, at_gapped}
use Rattle.tlsf_heap.proofs.Counts.{one_if, count-cons}
use Rattle.tlsf_heap.proofs.Inner.Plugs.{count-filled}
use Rattle.tlsf_heap.proofs.Inner.Allotted.{at_front}

-- from one of two neighbours to the one behind it
stepped_on : (cells : Cells) (at : At) (first second : Node) (before nodes : List Node) (slot other : ℕ) (node_state was : NodeState)
    → StandsAt other was cells (record at { position = record at.position { before = before }; node = first; nodes = second ∷ nodes }) → is_loose was ≡ false → second.slot ≡ slot → second.state ≡ node_state
    → StandsAt slot node_state cells (record at { position = record at.position { before = first ∷ before }; node = second; nodes = nodes })
stepped_on cells at first second before nodes slot other node_state was stands settled slot_is node_state_is =
    let loose : Node → Bool = λ node. is_loose node.state in (
      stands.0,
      record {
        slot_is = slot_is;
        node_state_is = node_state_is;
        others_settled = omega (
          arith,
          stands.1.others_settled,
          count-filled loose (record at.position { before = first ∷ before }) nodes,
          count-filled loose (record at.position { before = before }) (second ∷ nodes),
          count-cons loose first before,
          count-cons loose second nodes,
          ap (λ s. one_if (is_loose s)) stands.1.node_state_is,
          ap one_if settled,
        );
        covered = stands.1.covered;
      },
    )

-- the first node entered its list: the gap is left
pub gapped_stands : (slot live bytes : ℕ) (at : At) (cells : Cells) → at.node.slot ≡ slot → at.node.state ≡ InUse → 0 < bytes → StandsAt slot Listed cells (at_listed (at_front live bytes (at_turned InUse at))) → StandsAt live InUse cells (at_gapped live bytes at)
gapped_stands slot live bytes at cells slot_is node_state_is some stands =
    let gap : Node = record { slot = at.node.slot; place = at.node.place; size = bytes; state = Listed } in
    let moved = stepped_on cells (record at { lists = entered gap at.lists }) gap (turned InUse (rest_node live bytes at.node)) at.position.before at.nodes live slot InUse Listed stands refl refl refl in
    let none : (bytes == 0) ≡ false = ne_eqb bytes 0 (λ e. omega (arith, e, some)) in
    let P : Bool → Type 0 = λ b. StandsAt live InUse cells (record at {
      position = record at.position { before = cond b [] (gap ∷ []) ++ at.position.before };
      node = turned InUse (rest_node live bytes at.node);
      lists = cond b at.lists (entered gap at.lists);
    }) in
    let Q : NodeState → Type 0 = λ s. StandsAt live InUse cells (record at {
      position = record at.position { before = cond (bytes == 0) [] (gap ∷ []) ++ at.position.before };
      node = record { slot = live; place = at.node.place + bytes; size = at.node.size - bytes; state = s };
      lists = cond (bytes == 0) at.lists (entered gap at.lists);
    }) in
    subst Q (sym node_state_is) (subst P (sym none) moved)
