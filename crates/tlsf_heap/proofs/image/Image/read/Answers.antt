-- The rules of bytes come first, in their order, then those of the table.
use Rattle.std.proofs.Common.{◌≡◌, ℕ, ◌∙◌, sym, subst, true}
use Rattle.tlsf_heap.specs.Images.Image.{sections_in}
use Rattle.tlsf_heap.specs.Images.Rules.{are_pools}
use Rattle.tlsf_heap.proofs.Images.ImageLemmas.{records_count, pools_are, first_left}
use Rattle.tlsf_heap.proofs.image.Image.read.Goals as goal
use Rattle.std.proofs.Common.{sym}
use Rattle.tlsf_heap.proofs.Images.ImageLemmas.{not_magic, not_length, not_pools, not_unused, not_states}
use Rattle.tlsf_heap.specs.Inner.Entries.{entries_of}

pub returns-then-not-has_magic-clause-broken : goal.returns-then-not-has_magic-clause-broken
returns-then-not-has_magic-clause-broken c = not_magic c.args.bytes.now (sym c.if-not-has_magic.ensures)

pub returns-then-not-has_length-clause-broken : goal.returns-then-not-has_length-clause-broken
returns-then-not-has_length-clause-broken c = not_length c.args.bytes.now (sym c.if-not-has_magic.ensures) (sym c.if-not-has_length.ensures)

pub returns-then-not-has_pools-clause-broken : goal.returns-then-not-has_pools-clause-broken
returns-then-not-has_pools-clause-broken c = not_pools c.args.bytes.now (sym c.if-not-has_magic.ensures) (sym c.if-not-has_length.ensures) (sym c.if-not-has_pools.ensures)

pub returns-then-not-has_unused_pools-clause-broken : goal.returns-then-not-has_unused_pools-clause-broken
returns-then-not-has_unused_pools-clause-broken c = not_unused c.args.bytes.now (sym c.if-not-has_magic.ensures) (sym c.if-not-has_length.ensures) (sym c.if-not-has_pools.ensures) (sym c.if-not-has_unused_pools.ensures)

pub returns-then-not-has_states-clause-broken : goal.returns-then-not-has_states-clause-broken
returns-then-not-has_states-clause-broken c = not_states c.args.bytes.now (sym c.if-not-has_magic.ensures) (sym c.if-not-has_length.ensures) (sym c.if-not-has_pools.ensures) (sym c.if-not-has_unused_pools.ensures) (sym c.if-not-has_states.ensures)

pub invariant_of-result : goal.invariant_of-result
invariant_of-result c = record { magic = sym c.if-not-has_magic.ensures; length = sym c.if-not-has_length.ensures; pools = sym c.if-not-has_pools.ensures; unused = sym c.if-not-has_unused_pools.ensures; states = sym c.if-not-has_states.ensures }

pub first_behind_pools-requires : goal.first_behind_pools-requires
first_behind_pools-requires c =
    subst (λ (n : ℕ). are_pools n 0 (entries_of (sections_in c.args.bytes.now).pools) ≡ true) (sym (records_count c.args.bytes.now)) (pools_are c.args.bytes.now (record { magic = sym c.if-not-has_magic.ensures; length = sym c.if-not-has_length.ensures; pools = sym c.if-not-has_pools.ensures; unused = sym c.if-not-has_unused_pools.ensures; states = sym c.if-not-has_states.ensures }))

pub returns-in-Some-clause-broken : goal.returns-in-Some-clause-broken
returns-in-Some-clause-broken c =
    first_left c.args.bytes.now (record { magic = sym c.if-not-has_magic.ensures; length = sym c.if-not-has_length.ensures; pools = sym c.if-not-has_pools.ensures; unused = sym c.if-not-has_unused_pools.ensures; states = sym c.if-not-has_states.ensures }) ∙ sym c.first_behind_pools.ensures.value ∙ c.in-Some.is

pub returns-in-None-clause-whole : goal.returns-in-None-clause-whole
returns-in-None-clause-whole c =
    first_left c.args.bytes.now (record { magic = sym c.if-not-has_magic.ensures; length = sym c.if-not-has_length.ensures; pools = sym c.if-not-has_pools.ensures; unused = sym c.if-not-has_unused_pools.ensures; states = sym c.if-not-has_states.ensures }) ∙ sym c.first_behind_pools.ensures.value ∙ c.in-None.is
