-- Links that break no rule are read as they were written.
use Rattle.std.proofs.Common.{◌≡◌, ℕ, ◌≤◌, true, ◌&&◌, not, ap, sym, ◌∙◌, arith, Option, Some, None}
use Rattle.std.specs.Prelude.{is_none, nat_lt, ◌||◌}
use Rattle.std.proofs.lemmas.Bool.{and_parts, ltb-true}
use Rattle.tlsf_store.specs.declared.records.State.{State}
use Rattle.tlsf_store.specs.declared.records.State.TheVariants.{Vacant, Free, Live}
use Rattle.tlsf_store.specs.declared.records.Record.{Record}
use Rattle.tlsf_store.specs.Records.{most_records}
use Rattle.tlsf_store.specs.Slots.{missing}
use Rattle.tlsf_heap.specs.Images.Rules.{is_below, is_used, has_links_in, has_record_links}
use Rattle.tlsf_heap.proofs.Images.ReadBack.{IsWritten, LinksFit}
use Rattle.tlsf_heap.proofs.Inner.Links.{Some-same}

pub below_written : (count : ℕ) (link : Option ℕ) → count ≤ most_records → is_below count link ≡ true → IsWritten link
below_written count None few below = record { other = λ same. cc }
below_written count (Some slot) few below = record { other = λ same. omega (arith, Some-same slot missing same, ltb-true slot count below, few) }

none_written : (link : Option ℕ) → is_none link ≡ true → IsWritten link
none_written None none = record { other = λ same. cc }
none_written (Some slot) none = absurd (cc)

free_links : (state : State) (count : ℕ) (r : Record) → count ≤ most_records → is_used state ≡ true → has_links_in state count r ≡ true → IsWritten r.prev_free × IsWritten r.next_free
free_links Vacant count r few used links = absurd (cc)
free_links Free count r few used links =
    let both = and_parts (is_below count r.prev_free) (is_below count r.next_free) links in
    (below_written count r.prev_free few both.0, below_written count r.next_free few both.1)
free_links Live count r few used links =
    let both = and_parts (is_none r.prev_free) (is_none r.next_free) links in
    (none_written r.prev_free both.0, none_written r.next_free both.1)

-- the links of a block
pub block_written : (count : ℕ) (r : Record) → count ≤ most_records → is_used r.state ≡ true → has_record_links count r ≡ true → LinksFit r
block_written count r few used links =
    let at_hand = nat_lt 0 r.size && ((is_below count r.prev && is_below count r.next) && has_links_in r.state count r) in
    let whole : at_hand ≡ true = ap (λ b. not b || at_hand) (sym used) ∙ links in
    let behind = (and_parts (nat_lt 0 r.size) _ whole).1 in
    let parts = and_parts (is_below count r.prev && is_below count r.next) (has_links_in r.state count r) behind in
    let near = and_parts (is_below count r.prev) (is_below count r.next) parts.0 in
    let listed = free_links r.state count r few used parts.1 in
    record { prev = below_written count r.prev few near.0; next = below_written count r.next few near.1; prev_free = listed.0; next_free = listed.1 }
