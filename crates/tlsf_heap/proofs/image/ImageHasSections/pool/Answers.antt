-- An entry's bytes are within the header.
use Rattle.std.proofs.Common.{◌≡◌, ◌<◌, ◌≤◌, ℕ, List, sym, ◌∙◌, ap, subst, Some, None, refl}
use Rattle.std.specs.Prelude.{nat_lt, if◌then◌else◌}
use Rattle.std.proofs.lemmas.Bool.{lt-ltb, le-ltb}
use Rattle.tlsf_heap.specs.Images.Image.{two_at, count_at, pools_at, pool_in}
use Rattle.tlsf_heap.proofs.Images.ImageLemmas.{pool_read, first_below, records_count}
use Rattle.tlsf_heap.proofs.image.ImageHasSections.pool.Goals as goal

pub returns-then-number-from-clause-value : goal.returns-then-number-from-clause-value
returns-then-number-from-clause-value c =
    let above : two_at pools_at c.self.inside.bytes.now ≤ c.args.number = rw (c.from.ensures, c.two_at.ensures) at c.if-number-from.true in
    let read : None ≡ (if nat_lt c.args.number (two_at pools_at c.self.inside.bytes.now) then Some (pool_in c.self.inside.bytes.now c.args.number) else None) = rw (le-ltb c.args.number (two_at pools_at c.self.inside.bytes.now) above) refl in
    subst (λ (bytes : List ℕ). None ≡ (if nat_lt c.args.number (two_at pools_at bytes) then Some (pool_in bytes c.args.number) else None)) c.self.view_is read
    ∙ sym (pool_read c.args.self.now c.args.number c.requires)

pub returns-clause-value : goal.returns-clause-value
returns-clause-value c =
    let within : c.args.number < two_at pools_at c.self.inside.bytes.now = rw (c.from.ensures, c.two_at.ensures) at c.if-number-from.false in
    let P : List ℕ → Type 0 = λ bytes. Some c.pool_in.result ≡ (if nat_lt c.args.number (two_at pools_at bytes) then Some (pool_in bytes c.args.number) else None) in
    let read : P c.self.inside.bytes.now = rw (c.pool_in.ensures, lt-ltb c.args.number (two_at pools_at c.self.inside.bytes.now) within) refl in
    subst P c.self.view_is read ∙ sym (pool_read c.args.self.now c.args.number c.requires)

pub returns-clause-below : goal.returns-clause-below
returns-clause-below c =
    let bytes : List ℕ = c.self.inside.bytes.now in
    let within : c.args.number < two_at pools_at bytes = rw (c.from.ensures, c.two_at.ensures) at c.if-number-from.false in
    let first : c.pool_in.result.first < two_at count_at bytes = rw c.pool_in.ensures (first_below bytes c.self.invariant c.args.number within) in
    subst (λ (n : ℕ). c.pool_in.result.first < n) (ap (two_at count_at) c.self.view_is ∙ sym (records_count c.args.self.now)) first
