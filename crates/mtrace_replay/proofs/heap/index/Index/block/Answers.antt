-- A found key is held exactly where its address is.
use Rattle.std.proofs.Common.{◌≡◌, ℕ, Option, Some, None, refl, sym, ap, ◌∙◌}
use Rattle.std.specs.Prelude.{option_map}
use Rattle.tlsf_heap.specs.Pointer.{Pointer}
use Rattle.mtrace_replay.specs.Holding.{Holding}
use Rattle.mtrace_replay.specs.Keys.{Rows}
use Rattle.mtrace_replay.specs.Key.{held_under}
use Rattle.mtrace_replay.specs.Index.{Indexed, held_at}
use Rattle.mtrace_replay.proofs.Index.IndexLemmas.{held_there, none_there, found_key, found_fits}
use Rattle.mtrace_replay.proofs.heap.index.Index.block.Goals as goal

same_block : (rows : Rows) (address : ℕ) (block : Option Pointer) → block ≡ option_map (λ (holding : Holding). holding.ptr) (option_map (held_under address rows) block)
same_block rows address (Some ptr) = refl
same_block rows address None = refl

pub returns-in-Ok : goal.returns-in-Ok
returns-in-Ok c =
    let kept = c.self.inside.keys in
    let address = c.args.found.now.address in
    let is_at = found_key kept c.args.self.now (ap (λ (index : Indexed). index.keys) c.self.view_is) _ _ c.self.invariant c.args.found.now c.requires.found c.in-Ok.at c.in-Ok.is c.key.result (c.key.ensures c.key.result) in
    record {
      value = c.block.ensures ∙ same_block kept.rows c.key.result.address c.key.result.block
          ∙ ap (option_map (λ (holding : Holding). holding.ptr))
          (sym (held_there kept address c.in-Ok.at c.key.result is_at) ∙ ap (λ (index : Indexed). held_at index.all address) c.self.view_is);
    }

pub returns-in-Err : goal.returns-in-Err
returns-in-Err c =
    let kept = c.self.inside.keys in
    let address = c.args.found.now.address in
    let fits = found_fits kept.keys c.args.self.now (ap (λ (index : Indexed). index.keys) c.self.view_is) c.args.found.now c.requires.found c.in-Err.field-0 c.in-Err.is in
    record {
      value = ap (option_map (λ (holding : Holding). holding.ptr)) (sym (none_there kept address c.in-Err.field-0 fits) ∙ ap (λ (index : Indexed). held_at index.all address) c.self.view_is);
    }
