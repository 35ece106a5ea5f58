use Rattle.std.proofs.Common.{arith}
use Rattle.tlsf_c.proofs.placed_blocks.place_in.Goals as goal

-- place and first address are in units
pub returns-clause-multiple : goal.returns-clause-multiple
returns-clause-multiple c =
    let at = c.address_of-address.ensures.at in
    omega (arith, c.requires.placed.place_in_units, c.requires.placed.first_in_units, c.requires.in_units, at.address_is, at.has.0)
