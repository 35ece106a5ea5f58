-- No call yet: no code, and two lists that contracts alone see.
use mathlib.Core.Path.{refl}
use mathlib.Core.List.{[], ◌∷◌}
use seplogic.Ra.Ura.{Ura}
use mir.Val.{vstruct, vnil}
use base.Logic.{SProp, ent, emp, via, fst∗}
use prog.Memory.{Memory}
use prog.Routine.{Routine}
use prog.Wp.{Calls, Loops, WpFn}
use types.Logic.{Logic}
use contract.Monad.{Fun}
use contract.Running.{tables}
use types.Kit.{‵, raw, ◌$◌, ◌∵◌, !, qed, move, suffices, done}
use types.Run.{no_more, returns, enter}
use types.Part.{agg}
use types.ByLocal.{alloc_all, pass_all, free_all, look_at, sets}
use denote.RattleType.{owns}
use denote.Shadow.{pure_i}
use denote.Triple.Entry.{on_entry, alive}
use denote.Triple.Walked.{says, Stays, walk_of, ends_at}
use Rattle.tlsf_c.specs.contracts.window_trace.WindowTrace.new.Key.{name as key}
use Rattle.tlsf_c.specs.contracts.window_trace.WindowTrace.new as f
use Rattle.std.proofs.raw_atomic.Walks.{proved}
use Rattle.tlsf_c.proofs.window_trace.WindowTrace.new.Statement.{statement}
use Rattle.tlsf_c.proofs.window_trace.WindowTrace.new.Code as code
use Rattle.tlsf_c.specs.contracts.window_trace.WindowTrace as made

abbrev stayed : Stays (f.ended).signature.params (f.ended).kept
stayed = tt

module _ {M : Type 1} {𝓤 : Ura M} (𝓛 : Logic 𝓤) (mem : Memory → SProp 𝓤) (run : Routine → Fun 𝓤) (C : Calls 𝓤 𝓛.H) (Λ : Loops 𝓤 𝓛.H) where
  open 𝓛 use {H}

  abbrev bound : (walk_of 𝓛 f.ended stayed (f.clauses 𝓛 mem run)).Ghost
  bound = ((tt, tt, tt, tt, tt), tt)

  walk : ent 𝓤 (on_entry 𝓛 f.signature tt tt tt tt) (WpFn 𝓤 H C Λ code.function [] ((walk_of 𝓛 f.ended stayed (f.clauses 𝓛 mem run)).post bound))
  walk =
      qed 𝓛 (raw (alive 𝓛 f.signature tt tt) ∷ ‵ (owns [] tt tt) ∷ []) ∵ enter ! C Λ code.function [] _ $
      alloc_all ! (λ l. pass_all ! refl tt $ sets ! (agg ! (no_more !)) refl (tt, tt) $
      returns ! (look_at ! 0 refl) $ free_all ! refl $
      suffices ! _ (ends_at 𝓛 f.ended stayed (f.clauses 𝓛 mem run) bound (vstruct vnil) (record { calls = []; bytes = [] }) tt tt) $
      says ! refl $ pure_i ! (made.the_row.own_val (record { calls = []; bytes = [] }) (vstruct vnil ∷ [])) ((λ vss. (tt, tt)), tt) ((tt, (refl, tt)), tt) $
      move ! (1 ∷ 2 ∷ 0 ∷ []) $ done !)

pub new_spec : {M : Type 1} → statement M
new_spec 𝓤 𝓛 𝓜 𝓡 wired =
    let 𝓣 = tables 𝓤 𝓛.H 𝓜 𝓡 𝓡.env in
    proved 𝓛 f.ended stayed (f.clauses 𝓛 𝓜.mem 𝓡.returns) 𝓜 𝓡 tt key code.function (code.unfolded 𝓤 𝓛.H 𝓜 𝓡 wired) (λ κs. tt) (λ κs. tt)
    (λ κs qs bounds a _ are. via 𝓤 _ (fst∗ 𝓤 _ (emp 𝓤)) (walk 𝓛 𝓜.mem 𝓡.returns 𝓣.C 𝓣.Λ))
