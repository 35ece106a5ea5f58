use Rattle.std.proofs.Common.{rules, ◌≡◌, ℕ, Bool, not, true, Option, None, Some, is_some, length, arith, refl, sym, ap, ◌∙◌, cond}
use Rattle.std.specs.Prelude.{◌==◌, option_to_list}
use mir.Val.{bool_byte}
use Rattle.std.proofs.lemmas.List.{length-set}
use Rattle.mtrace_replay.specs.Holding.{Holding}
use Rattle.mtrace_replay.specs.declared.heap.key.Key.{Key}
use Rattle.mtrace_replay.specs.Keys.{Rows}
use Rattle.mtrace_replay.specs.Key.{holding_of}
use Rattle.mtrace_replay.specs.Index.{Indexed, held_at, held_bytes}
use Rattle.mtrace_replay.proofs.Index.IndexLemmas.{IsKeyAt, Puts, row_there, held_there, held_fewer, held_less, vacates, puts_keeps, puts_held, puts_count, puts_sum, none_there, none_removed, found_key, found_fits}
use Rattle.mtrace_replay.proofs.heap.index.Index.remove.Goals.{After-key-key, After-set_key}
use Rattle.mtrace_replay.proofs.heap.index.Index.remove.Goals as goal

-- one block is held under the key, or none
blocks_under : (rows : Rows) (key : Key) (vacant : Bool) → vacant ≡ not (is_some key.block) → (count : ℕ) → count ≡ bool_byte (not vacant) → count ≡ length (option_to_list (holding_of rows key))
blocks_under rows key vacant is count by = search rules

-- the key that was found
is_at : (c : After-key-key) → IsKeyAt c.self.inside.keys c.args.found.now.address c.in-Ok.at c.key-key.result
is_at c = found_key c.self.inside.keys c.args.self.now (ap (λ (index : Indexed). index.keys) c.self.view_is) _ _ c.self.invariant c.args.found.now c.requires.found c.in-Ok.at c.in-Ok.is c.key-key.result (c.key-key.ensures c.key-key.result)

-- nothing is held there from then on, and all else as before
put : (c : After-set_key) → IsKeyAt c.self.inside.keys c.args.found.now.address c.in-Ok.at c.key-key.result
    → Puts c.self.inside.keys c.set_key.new.self c.args.found.now.address (holding_of c.self.inside.keys.rows c.key-key.result) None
put c is_at =
    let gone = ap (λ (k : Key). k.address) c.vacated.ensures ∙ ap (λ (k : Key). k.address) is_at.there ∙ is_at.stands.1 c.key-key.result in
    vacates c.self.inside.keys c.args.found.now.address c.in-Ok.at c.key-key.result is_at c.set_key.new.self c.vacated.result gone (ap (λ (k : Key). k.block) c.vacated.ensures) c.set_key.ensures.keys c.set_key.ensures.rows

pub overflow_sub-self : goal.overflow_sub-self
overflow_sub-self c =
    let fewer = held_fewer _ _ _ _ (is_at (goal.at.overflow_sub-self c).After-key-key) in
    omega (arith, fewer, blocks_under c.self.inside.keys.rows c.key-key.result c.is_vacant.result c.is_vacant.ensures c.from.result c.from.ensures, c.self.invariant.blocks_are)

pub size_of-requires : goal.size_of-requires
size_of-requires c = row_there _ _ _ _ (is_at (goal.at.size_of-requires c).After-key-key)

pub overflow_sub-self-in-Ok : goal.overflow_sub-self-in-Ok
overflow_sub-self-in-Ok c =
    let less = held_less _ _ _ _ (is_at (goal.at.overflow_sub-self-in-Ok c).After-key-key) in
    omega (arith, less (λ (held : Holding). held.entry.size), c.size_of.ensures, c.self.invariant.bytes_are)

pub invariant_of-self : goal.invariant_of-self
invariant_of-self c =
    let kept = c.self.inside.keys in
    let is_at = is_at (goal.at.invariant_of-self c).After-key-key in
    let put = put (goal.at.invariant_of-self c).After-set_key is_at in
    let fewer = held_fewer _ _ _ _ is_at in
    let less = held_less _ _ _ _ is_at in
    let as_many = ap (length {A = Key}) c.set_key.ensures.keys ∙ length-set kept.keys c.in-Ok.at c.vacated.result in
    puts_keeps kept c.set_key.new.self c.args.found.now.address (holding_of kept.rows c.key-key.result) None put c.self.inside.blocks c.self.inside.bytes _ _ c.self.invariant
    (omega (arith, as_many, ap (λ (rows : Rows). rows.room) c.set_key.ensures.rows, c.self.invariant.within)) (ap (λ (rows : Rows). rows.room) c.set_key.ensures.rows)
    (omega (arith, fewer, blocks_under kept.rows c.key-key.result c.is_vacant.result c.is_vacant.ensures c.from.result c.from.ensures, c.self.invariant.blocks_are)) (omega (arith, less (λ (held : Holding). held.entry.size), c.size_of.ensures, c.self.invariant.bytes_are))

pub returns-in-Ok-clause-held : goal.returns-in-Ok-clause-held
returns-in-Ok-clause-held c other =
    let at = goal.at.returns-in-Ok-clause-held c in
    puts_held _ _ _ _ _ (put at.After-set_key (is_at at.After-key-key)) other ∙ ap (λ (index : Indexed). cond (c.args.found.now.address == other) None (held_at index.all other)) c.self.view_is

one_there : (held : Option Holding) → is_some held ≡ true → length (option_to_list held) ≡ 1
one_there (Some holding) some = refl
one_there None some = absurd cc

pub returns-in-Ok-clause-fewer : goal.returns-in-Ok-clause-fewer
returns-in-Ok-clause-fewer c some =
    let is_at = is_at (goal.at.returns-in-Ok-clause-fewer c).After-key-key in
    let count = puts_count _ _ _ _ _ (put (goal.at.returns-in-Ok-clause-fewer c).After-set_key is_at) in
    let one = one_there _ (ap is_some (sym (held_there _ _ _ _ is_at)) ∙ ap (λ (index : Indexed). is_some (held_at index.all c.args.found.now.address)) c.self.view_is ∙ some) in
    omega (arith, count, one, ap (λ (index : Indexed). length index.all) c.self.view_is)

pub returns-in-Ok-clause-bytes : goal.returns-in-Ok-clause-bytes
returns-in-Ok-clause-bytes c =
    let at = goal.at.returns-in-Ok-clause-bytes c in
    let bytes = puts_sum _ _ _ _ _ (put at.After-set_key (is_at at.After-key-key)) (λ (held : Holding). held.entry.size) in
    omega (arith, bytes, ap (λ (index : Indexed). held_bytes index.all) c.self.view_is)

pub returns-in_default-clause-held : goal.returns-in_default-clause-held
returns-in_default-clause-held c other =
    let kept = c.self.inside.keys in
    let address = c.args.found.now.address in
    let fits = found_fits kept.keys c.args.self.now (ap (λ (index : Indexed). index.keys) c.self.view_is) c.args.found.now c.requires.found c.in_default.field-0 c.in_default.is in
    ap (λ (index : Indexed). held_at index.all other) (sym c.self.view_is)
    ∙ none_removed kept address c.in_default.field-0 fits other
    ∙ ap (λ (index : Indexed). cond (address == other) None (held_at index.all other)) c.self.view_is

pub returns-in_default-clause-fewer : goal.returns-in_default-clause-fewer
returns-in_default-clause-fewer c some =
    let kept = c.self.inside.keys in
    let address = c.args.found.now.address in
    let fits = found_fits kept.keys c.args.self.now (ap (λ (index : Indexed). index.keys) c.self.view_is) c.args.found.now c.requires.found c.in_default.field-0 c.in_default.is in
    let never = ap is_some (sym (none_there kept address c.in_default.field-0 fits)) ∙ ap (λ (index : Indexed). is_some (held_at index.all address)) c.self.view_is ∙ some in
    cc
