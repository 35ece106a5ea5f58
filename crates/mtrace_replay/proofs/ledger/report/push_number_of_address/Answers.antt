use Rattle.std.proofs.Common.{◌≡◌, ℕ, ◌<◌, ◌++◌, codes, ap, ◌∙◌, arith}
use Rattle.mtrace_log.specs.Address.{address_text}
use Rattle.mtrace_replay.proofs.ledger.report.push_number_of_address.Goals as goal

-- the spelling of no address
zero_is : (address : ℕ) → (0 < address → ⊥) → codes "0x" ≡ address_text address
zero_is address none = let zero : 0 ≡ address = omega (arith, none) in ap address_text zero

pub returns-in-None : goal.returns-in-None
returns-in-None c = record {
  bytes = c.push_bytes.ensures.bytes ∙ ap (λ text. c.args.text.now.items ++ text) (zero_is c.args.address c.in-None.ensures);
  len = omega (arith, c.push_bytes.ensures.len);
}
