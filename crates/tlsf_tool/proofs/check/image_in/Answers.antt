-- The bytes behind the front, where there is one.
use Rattle.std.proofs.Common.{cond, ◌∙◌, ap, sym, arith, ◌-◌, length, drop, take}
use Rattle.std.specs.Prelude.{◌&&◌, bytes_eq}
use Rattle.std.proofs.lemmas.Bool.{le-leb}
use Rattle.std.proofs.lemmas.List.{length-drop, take_all}
use Rattle.tlsf_tool.specs.Checking.{saved}
use Rattle.tlsf_tool.proofs.check.image_in.Goals as goal

pub returns : goal.returns
returns c =
    let bytes = c.args.bytes.now in
    let long = le-leb 280 (length bytes) c.if-bytes-lt-SAVED_BYTES.false in
    let first = sym c.starts_with.ensures.value ∙ c.if-not-starts_with.false in
    take_all (length bytes - 280) (drop 280 bytes) (omega (arith, length-drop 280 bytes))
    ∙ sym (ap (λ b. cond (b && bytes_eq saved (take (length saved) bytes)) (drop 280 bytes) bytes) long ∙ ap (λ b. cond b (drop 280 bytes) bytes) first)
