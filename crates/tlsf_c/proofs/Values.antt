-- The machine values of the parts of a box and of a handle. Assumes `Logic`.
use Rattle.std.proofs.Common.{◌≡◌, ℕ, List, [], ◌∷◌, ◌++◌, refl, ap, ◌∙◌, subst}
use mathlib.Core.Bool.{true, ◌&&◌}
use lib.Dec.{T}
use seplogic.Ra.Ura.{Ura}
use mir.Syntax.{impl, tnil, dnil}
use mir.Raw.{raw as bare}
use mir.Val.{Val, vptr, vnull, vstruct, vcons, vnil, of_list, has_ty, WT}
use base.Logic.{ent, via, guard, guard_i, never, fst∗, snd∗}
use types.Logic.{Logic, sem}
use types.Kit.{Item, Goal, Seq, Step, step, ‵, given, ◌$◌, move, drop, use1, learn, fsplit, fjoin, fpick, fpack, feq_i, feq_l}
use contract.Monad.{fact_use}
use denote.RattleType.{RattleType, Valss}
use denote.Builtin.{RawPtr}
use denote.Memory.{lone}
use denote.RawPtr.{Ptr, block_ptr, null_ptr, ptr_val, in_a_block, Testable}
use denote.Steps.{nothing}
use denote.Param.{layout}
use denote.Param.Laws.{Laws}
use denote.Struct.Struct.{within}
use denote.Struct.Owning.{shape}
use Rattle.core.specs.declared.alloc.Allocator.{Ghosts}
use Rattle.core.proofs.alloc.Calls.{Al, handle_tells}
use Rattle.core.proofs.cell.Inside.{Good}
use Rattle.std_alloc.specs.Box.Ownership.{box_owns}
use Rattle.std_alloc.proofs.ResultValues.{and_tt}
use Rattle.std.specs.declared.option.Option.{Option}
use Rattle.std.specs.declared.option.Option.TheVariants.{None, Some}
use Rattle.std.proofs.GlobalToken.{dealloc_token-Testable}
use Rattle.core.specs.Ptr.{points_to}
use Rattle.tlsf_heap.specs.contracts.heap.Heap as heap
use Rattle.tlsf_c.specs.Owned.{token, owned_heap, owned}
use Rattle.tlsf_c.specs.Creation.{zeros}
use Rattle.tlsf_c.specs.declared.made.Made.{Made}
use Rattle.tlsf_c.specs.contracts.unboxed.Unboxed as unboxed
use Rattle.tlsf_c.specs.contracts.made.Made as made

abbrev pub both : Val → Val → Val
both v w = vstruct (vcons v (vcons w vnil))

module _ (R Z : RattleType) (L : Laws Z) (g : Ghosts Z.Denot) where
  abbrev pub Unboxed : RattleType
  Unboxed = unboxed.the_row R Z g

  abbrev pub al : Al
  al = record { row = Z; laws = L; g = g; d = impl [] tnil dnil; drops = impl [] tnil dnil }

  pub unboxed_good : (b o : ℕ) (h : Val) → Good (layout Z) h → T (has_ty (layout Z) h && true) × WT (both (vptr b o) h)
  unboxed_good b o h fits = (and_tt (has_ty (layout Z) h) fits.0, (tt, (fits.1, tt)))

  module _ {M : Type 1} {𝓤 : Ura M} {𝓛 : Logic 𝓤} {K : Type 0} {Γ : List (Item 𝓤)} {G : Goal 𝓤 𝓛.H} where
    pub unboxed_out : K → (d : Unboxed.Denot) (vs : List Val)
        → ((b o : ℕ) (h : Val) → d.at ≡ block_ptr b o → vs ≡ both (vptr b o) h ∷ [] → Good (layout Z) h → Seq K 𝓛 (‵ (box_owns (g.dealloc_token d.alloc) R (block_ptr b o) d.value) ∷ ‵ (Z.own_val d.alloc (h ∷ [])) ∷ Γ) G)
        → Seq K 𝓛 (‵ (Unboxed.own_val d vs) ∷ Γ) G
    unboxed_out t d vs k =
        fsplit t $ fpick t (λ vss. fsplit t $ feq_l t (λ ev. fsplit t $ feq_l t (λ ep. fsplit t $ handle_tells al t d.alloc vss.1.0 (λ h ea fits. move t (1 ∷ []) $ drop t $ move t (1 ∷ []) $
        in_a_block t d.at (λ p. box_owns (g.dealloc_token d.alloc) R p d.value) (fst∗ 𝓤 (never 𝓤) (sem 𝓛 (g.dealloc_token d.alloc (bare (lone R.mir)) null_ptr))) (λ b o e. k b o h e
        (subst (λ (p : Ptr). vs ≡ vstruct (of_list (ptr_val p ∷ h ∷ [])) ∷ []) e
        (subst (λ (ws : List Val). vs ≡ vstruct (of_list (ptr_val d.at ∷ (ws ++ []))) ∷ []) ea (subst (λ (ps : List Val). vs ≡ vstruct (of_list (ps ++ (vss.1.0 ++ []))) ∷ []) ep ev))) fits)))))

    pub unboxed_in : K → (b o : ℕ) (h : Val) (a : Z.Denot) (x : R.Denot)
        → Step K 𝓛 (‵ (Unboxed.own_val (record { at = block_ptr b o; alloc = a; value = x }) (both (vptr b o) h ∷ [])) ∷ Γ) G (‵ (box_owns (g.dealloc_token a) R (block_ptr b o) x) ∷ ‵ (Z.own_val a (h ∷ [])) ∷ Γ) G
    unboxed_in t b o h a x = step (λ s. let v : Val = both (vptr b o) h in
        nothing t $ move t (2 ∷ 0 ∷ []) $ fjoin t $ feq_i t (List Val) (vptr b o ∷ []) (vptr b o ∷ []) refl $ fjoin t $ feq_i t (List Val) (v ∷ []) (v ∷ []) refl $ fjoin t $
        fpack t (Valss (RawPtr ∷ Z ∷ [])) (within (shape (unboxed.the_type R Z g)) (block_ptr b o, (a, tt)) (v ∷ [])) (vptr b o ∷ [], (h ∷ [], tt)) $ fjoin t $ s)

abbrev pub one_field : Val → Val
one_field v = vstruct (vcons v vnil)

module _ {M : Type 1} {𝓤 : Ura M} {𝓛 : Logic 𝓤} {K : Type 0} {Γ : List (Item 𝓤)} {G : Goal 𝓤 𝓛.H} where
  pub made_in : K → (b o : ℕ) (x : heap.the_row.Denot)
      → Step K 𝓛 (‵ (made.the_row.own_val (record { at = block_ptr b o; value = Some x }) (one_field (vptr b o) ∷ [])) ∷ Γ) G (‵ (owned_heap (block_ptr b o) x) ∷ Γ) G
  made_in t b o x = step (λ s. let v : Val = one_field (vptr b o) in
      nothing t $ feq_i t (List Val) (vptr b o ∷ []) (vptr b o ∷ []) refl $ fjoin t $ feq_i t (List Val) (v ∷ []) (v ∷ []) refl $ fjoin t $
      fpack t (Valss (RawPtr ∷ [])) (within (shape made.the_type) (block_ptr b o, tt) (v ∷ [])) (vptr b o ∷ [], tt) $ fjoin t $ s)

-- the pointer of a heap may be compared with null
tested : {M : Type 1} {𝓤 : Ura M} (𝓛 : Logic 𝓤) (p : Ptr) (x : heap.the_row.Denot) → ent 𝓤 (sem 𝓛 (owned_heap p x)) (guard 𝓤 (Testable p) (sem 𝓛 (owned_heap p x)))
tested {𝓤 = 𝓤} 𝓛 p x =
    fact_use 𝓤 (Testable p)
    (via 𝓤 _ (snd∗ 𝓤 (sem 𝓛 (points_to heap.the_row p x)) (sem 𝓛 (token (bare (lone heap.the_row.mir)) p))) (dealloc_token-Testable 𝓛 _ (bare (lone heap.the_row.mir)) p))
    (guard_i 𝓤 (Testable p) (sem 𝓛 (owned_heap p x)))

module _ {M : Type 1} {𝓤 : Ura M} {𝓛 : Logic 𝓤} {K : Type 0} {Γ : List (Item 𝓤)} {G : Goal 𝓤 𝓛.H} where
  pub made_zeros : K → Step K 𝓛 (‵ (made.the_row.own_val zeros (one_field vnull ∷ [])) ∷ Γ) G Γ G
  made_zeros t = step (λ s. let v : Val = one_field vnull in
      feq_i t Ptr null_ptr null_ptr refl $ nothing t $ feq_i t (List Val) (vnull ∷ []) (vnull ∷ []) refl $ fjoin t $ feq_i t (List Val) (v ∷ []) (v ∷ []) refl $ fjoin t $
      fpack t (Valss (RawPtr ∷ [])) (within (shape made.the_type) (null_ptr, tt) (v ∷ [])) (vnull ∷ [], tt) $ fjoin t $ s)

  either : K → (p : Ptr) (held : Option heap.the_row.Denot) → (p ≡ null_ptr → held ≡ None → Seq K 𝓛 Γ G)
      → ((b o : ℕ) (x : heap.the_row.Denot) → p ≡ block_ptr b o → held ≡ Some x → Testable (block_ptr b o) → Seq K 𝓛 (‵ (owned_heap (block_ptr b o) x) ∷ Γ) G)
      → Seq K 𝓛 (‵ (owned p held) ∷ Γ) G
  either t p None none one = feq_l t (λ e. none e refl)
  either t p (Some x) none one =
      in_a_block t p (λ q. owned_heap q x) (fst∗ 𝓤 (never 𝓤) (sem 𝓛 (token (bare (lone heap.the_row.mir)) null_ptr))) (λ b o e.
      use1 𝓛 (given (Testable (block_ptr b o)) (‵ (owned_heap (block_ptr b o) x))) (tested 𝓛 (block_ptr b o) x) $ learn t (λ may. one b o x e refl may))

  pub made_out : K → (m : made.the_row.Denot) (vs : List Val) → (m ≡ zeros → vs ≡ one_field vnull ∷ [] → Seq K 𝓛 Γ G)
      → ((b o : ℕ) (x : heap.the_row.Denot) → m.value ≡ Some x → vs ≡ one_field (vptr b o) ∷ [] → Testable (block_ptr b o) → Seq K 𝓛 (‵ (owned_heap (block_ptr b o) x) ∷ Γ) G)
      → Seq K 𝓛 (‵ (made.the_row.own_val m vs) ∷ Γ) G
  made_out t m vs none one =
      fsplit t $ fpick t (λ vss. fsplit t $ feq_l t (λ ev. fsplit t $ feq_l t (λ ep. drop t $
      let is : (p : Ptr) → m.at ≡ p → vs ≡ one_field (ptr_val p) ∷ [] = λ p e.
      subst (λ (q : Ptr). vs ≡ vstruct (of_list (ptr_val q ∷ [])) ∷ []) e (subst (λ (ps : List Val). vs ≡ vstruct (of_list (ps ++ [])) ∷ []) ep ev) in
      either t m.at m.value
      (λ e h. none (ap (λ (p : Ptr). let n : Made = record { at = p; value = m.value } in n) e ∙ ap (λ (held : Option heap.the_row.Denot). let n : Made = record { at = null_ptr; value = held } in n) h) (is null_ptr e))
      (λ b o x e h may. one b o x h (is (block_ptr b o) e) may))))
