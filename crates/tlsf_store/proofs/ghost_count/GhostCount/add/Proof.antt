-- No code: the borrow is opened and closed at a count that contracts alone see.
use Rattle.std.proofs.Common.{ℕ, List, [], ◌∷◌, ◌+◌, refl, MutBor}
use seplogic.Ra.Ura.{Ura}
use mir.Syntax.{named}
use mir.Val.{Val, vunit, vptr}
use base.Logic.{SProp, ent, sep, emp, via, fst∗, id⊢}
use base.Fml.{GName, Lft, Share, ftrue, flft, fobs, fbor}
use prog.Memory.{Memory}
use prog.Routine.{Routine}
use prog.Wp.{Calls, Loops, WpFn}
use types.Logic.{Logic}
use contract.Monad.{Fun}
use contract.Running.{tables}
use types.Kit.{‵, ◌⊛◌, ◌$◌, ◌∵◌, !, qed, by, move, keep, drop, use1, split, join, fsplit, fsplit3, fjoin, fjoin3, feq_i, suffices, frame, done}
use types.Run.{unit_lit, of_opd, returns, enter}
use types.SemTy.{Body}
use types.ByLocal.{alloc_all, pass_all, free_all, look_at, sets}
use denote.RattleType.{owns}
use denote.Memory.{mem}
use denote.Ref.{Bor, MutRef, ShrRef, mut_vals, mut_Tells, shr_vals, shr_Tells}
use denote.Builtin.{RefOf}
use denote.Exit.{yes}
use denote.Signature.{Slot, plain}
use denote.Steps.{nothing, opens, closes}
use denote.Triple.Entry.{on_entry}
use denote.Triple.Walked.{says, Stays, stay_ref, stay_dropped, walk_of, Goes-ref, Goes-dropped, ends_at}
use Rattle.tlsf_store.specs.declared.ghost_count.GhostCount.{GhostCount}
use Rattle.tlsf_store.specs.contracts.ghost_count.GhostCount as T
use Rattle.tlsf_store.specs.contracts.ghost_count.GhostCount.add.Key.{name as #it}
use Rattle.tlsf_store.specs.contracts.ghost_count.GhostCount.add as it
use Rattle.std.proofs.raw_atomic.Walks.{proved}
use Rattle.tlsf_store.proofs.ghost_count.GhostCount.add.Statement.{statement}
use Rattle.tlsf_store.proofs.ghost_count.GhostCount.add.Code as code

abbrev Arg : Type 0
Arg = MutBor GhostCount × (Bor GhostCount × Unit {0})

abbrev other : Slot 2
other = RefOf (1 ∷ []) tt (plain (λ _. T.the_row)) (λ _. tt)

abbrev stayed : Stays (it.ended).signature.params (it.ended).kept
stayed = (stay_ref (0 ∷ []) tt (plain (λ _. T.the_row)), (stay_dropped other yes, tt))

module _ {M : Type 1} {𝓤 : Ura M} (𝓛 : Logic 𝓤) (at_mem : Memory → SProp 𝓤) (run : Routine → Fun 𝓤) (κ κ₂ : Lft) (q q₂ : Share) (b o : ℕ) (γ : GName) (h : GhostCount) (r : Bor GhostCount) where
  open 𝓛 use {H, A}

  abbrev x : Arg
  x = (record { ref_ptr = (b, o); ghost_name = γ; now = h }, (r, tt))

  abbrev h' : GhostCount
  h' = record { count = h.count + r.now.count }

  abbrev at : List Val × (List Val × Unit {0})
  at = (vptr b o ∷ [], (shr_vals r, tt))

  abbrev Post : Val → SProp 𝓤
  Post = (walk_of 𝓛 it.ended stayed (it.clauses 𝓛 at_mem run)).post (((κ, (κ₂, tt)), (q, (q₂, tt)), tt, x, at), tt)

  exits : ent 𝓤 (sep 𝓤 (A.obs γ ((T.the_row).coded.code h')) (sep 𝓤 (A.bor κ (Body (mem T.the_row) b o γ)) (sep 𝓤 (A.lft κ q) (A.lft κ₂ q₂)))) (Post vunit)
  exits =
      qed 𝓛 (‵ (fobs γ ((T.the_row).coded.code h')) ∷ ‵ (fbor κ (Body (mem T.the_row) b o γ)) ∷ ‵ (flft κ q) ∷ ‵ (flft κ₂ q₂) ∷ []) ∵
      suffices ! _ (ends_at 𝓛 it.ended stayed (it.clauses 𝓛 at_mem run) (((κ, (κ₂, tt)), (q, (q₂, tt)), tt, x, at), tt) vunit tt (h', (tt, tt)) (tt, (tt, tt))) $ says ! refl $ nothing ! $ move ! (4 ∷ 0 ∷ []) $ join ! $
      move ! (3 ∷ 0 ∷ []) $ join ! $ frame ! $ feq_i ! (List Val) (vptr b o ∷ []) (vptr b o ∷ []) refl $ fjoin3 ! $
      nothing ! $ nothing ! $ fjoin ! $ move ! (1 ∷ 0 ∷ []) $ fjoin ! $ feq_i ! (List Val) (vunit ∷ []) (vunit ∷ []) refl $ move ! (1 ∷ 0 ∷ []) $ done !

  module _ (C : Calls 𝓤 H) (Λ : Loops 𝓤 H) where
    walk : ent 𝓤 (on_entry 𝓛 it.signature (κ, (κ₂, tt)) (q, (q₂, tt)) x at) (WpFn 𝓤 H C Λ code.function (vptr b o ∷ vptr r.ref_ptr.0 r.ref_ptr.1 ∷ []) Post)
    walk =
        qed 𝓛 ((‵ (flft κ q) ⊛ (‵ (flft κ₂ q₂) ⊛ ‵ ftrue)) ∷ ‵ (owns (MutRef (named 0) κ T.the_row ∷ ShrRef (named 1) κ₂ T.the_row ∷ []) x at) ∷ []) ∵ split ! $ move ! (2 ∷ []) $ fsplit ! $ fsplit3 ! $ drop ! $ move ! (0 ∷ 1 ∷ 3 ∷ []) $
        enter ! C Λ code.function (vptr b o ∷ vptr r.ref_ptr.0 r.ref_ptr.1 ∷ []) _ $
        alloc_all ! (λ l. pass_all ! refl ((tt, tt), ((tt, tt), tt)) $
        move ! (0 ∷ 1 ∷ 2 ∷ []) $ opens ! tt T.the_row {h = h} b o (λ vs.
        sets ! (of_opd ! (unit_lit !)) refl (tt, tt) $
        move ! (1 ∷ []) $ use1 𝓛 (‵ ((T.the_row).own_val h' vs)) (id⊢ 𝓤 _) $ move ! (1 ∷ 0 ∷ []) $ closes ! tt T.the_row h' vs b o $
        returns ! (look_at ! 0 refl) $ free_all ! refl $
        move ! (4 ∷ []) $ split ! $ keep ! (2 ∷ 3 ∷ 4 ∷ 0 ∷ []) $ by ! exits))

pub add_spec : {M : Type 1} → statement M
add_spec 𝓤 𝓛 𝓜 𝓡 wired =
    let 𝓣 = tables 𝓤 𝓛.H 𝓜 𝓡 𝓡.env in
    proved 𝓛 it.ended stayed (it.clauses 𝓛 𝓜.mem 𝓡.returns) 𝓜 𝓡 (Goes-ref 𝓛 2 0 tt (plain (λ _. T.the_row)), (Goes-dropped 𝓛 2 other yes (λ κs x f. refl), tt)) #it code.function (code.unfolded 𝓤 𝓛.H 𝓜 𝓡 wired)
    (λ κs. (mut_vals, (shr_vals, tt))) (λ κs. (mut_Tells (named 0) κs.0 T.the_row, (shr_Tells (named 1) κs.1.0 T.the_row, tt)))
    (λ κs qs bounds a _ are. via 𝓤 _ (fst∗ 𝓤 _ (emp 𝓤)) (walk 𝓛 𝓜.mem 𝓡.returns κs.0 κs.1.0 qs.0 qs.1.0 a.0.ref_ptr.0 a.0.ref_ptr.1 a.0.ghost_name a.0.now a.1.0 𝓣.C 𝓣.Λ))
