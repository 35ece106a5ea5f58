-- `bytes_mut` reads the heap, and then lends the block's bytes, or none. The heap is read through a loan of its own,
-- and the region itself is lent on. Assumes `Logic`.
use Rattle.std.specs.Prelude.{◌==◌}
use Rattle.std.proofs.raw_atomic.Walks.{proved}
use Rattle.std.proofs.Common.{◌≡◌, ℕ, ◌+◌, ◌≤◌, ◌<◌, List, [], ◌∷◌, length, false, refl, sym, ap, ◌∙◌, lit<, w32, MutBor, arith, Some, None}
use base.Fraction.{full_share}
use base.Logic.{emp, id⊢}
use base.Fml.{ftrue, flft, fres}
use mir.Syntax.{named}
use mir.Val.{Val, vint, vcons, vnil}
use contract.Monad.{fact}
use contract.Fact.{fact_i}
use contract.Running.{tables}
use types.Kit.{‵, raw, ◌⊛◌, some, later, at_ret, ◌$◌, ◌∵◌, !, qed, move, keep, use0, use1, use2, use3, split, join, fsplit, fsplit3, fjoin, feq_l, flt_l, pick, await, rewrite, suffices, frame, done}
use types.Run.{enter, lit, addr, bin, stop, no_more, and_then, first, branches, skips, exec, returns, returns_within}
use types.Part.{agg}
use types.Match.{live}
use types.ByLocal.{alloc_all, pass_all, free_all, look_at, get, through, sets, lands_as, env}
use types.Tokens.{lft_new, lft_end}
use denote.Builtin.{u8, u32}
use denote.Array.{Array}
use denote.Plain.{uint_Makes}
use denote.Laws.{shows}
use denote.Follow.{follows}
use denote.Ref.{MutRef, mut_vals, mut_Tells}
use denote.Slice.{MutSlice, slice_val}
use denote.Lend.{lends_again, comes_back, LentAgain}
use denote.Signature.{plain, mut_ref_to}
use denote.Steps.{nothing, owned, heard, peeks, only}
use denote.Exit.{yes, no}
use denote.Triple.Call.{calls_at}
use denote.Triple.Clauses.{lasts, Lasts}
use denote.Triple.Spec.{triple_of}
use denote.Triple.Walked.{Stays, says, stay_dropped, Goes-spent_ref, Goes-dropped, walk_of, ends_at}
use denote.Triple.Table.{framed}
use Rattle.std.specs.contracts.option.Option as Opt
use Rattle.std.proofs.RcSteps.{Some-of, none_of}
use Rattle.tlsf_heap.specs.Content.{blocks_of}
use Rattle.tlsf_heap.specs.Free.{is_live}
use Rattle.tlsf_region.specs.Region.{Reads}
use Rattle.tlsf_region.specs.Bytes.{IsSizeOf, block_bytes}
use Rattle.tlsf_region.specs.Lends.{lends_block, written}
use Rattle.tlsf_region.proofs.Sizes.{size_is}
use Rattle.tlsf_region.proofs.Loans.{none_lent, some_lent, is_some, is_none, written_bytes, live_bytes_are, live_bytes_none}
use Rattle.tlsf_region.specs.contracts.region.Region.{the_row as R}
use Rattle.tlsf_heap.specs.contracts.pointer.Ptr.{the_row as P}
use Rattle.tlsf_heap.proofs.pointer.Ptr.TheLaws as P'
use Rattle.tlsf_region.specs.contracts.region.Region.bytes_mut as f
use Rattle.tlsf_region.specs.contracts.region.Region.lent_len as g
use Rattle.tlsf_region.specs.contracts.region.Region.lend as h
use Rattle.tlsf_region.proofs.region.Region.lent_len.Met.{met as lent_len_met}
use Rattle.tlsf_region.proofs.region.Region.lend.Met.{met as lend_met}
use Rattle.tlsf_region.proofs.region.Region.bytes_mut.Statement.{statement}
use Rattle.tlsf_region.proofs.region.Region.bytes_mut.Code as code

abbrev stayed : Stays f.ended.signature.params f.ended.kept
stayed = (stay_dropped (mut_ref_to (0 ∷ []) tt (plain (λ _. R))) no, (stay_dropped (plain (λ _. P)) yes, tt))

pub bytes_mut_spec : {M : Type 1} → statement M
bytes_mut_spec 𝓤 𝓛 𝓜 𝓡 wired =
    let c = f.clauses 𝓛 𝓜.mem 𝓡.returns in let W = walk_of 𝓛 f.ended stayed c in let 𝓣 = tables 𝓤 𝓛.H 𝓜 𝓡 𝓡.env in
    proved 𝓛 f.ended stayed c 𝓜 𝓡 (Goes-spent_ref 𝓛 1 (0 ∷ []) tt (plain (λ _. R)), (Goes-dropped 𝓛 1 (plain (λ _. P)) yes (λ κs x w. refl), tt))
    f.Key.name code.function (code.unfolded 𝓤 𝓛.H 𝓜 𝓡 wired)
    (λ κs. (mut_vals, ((λ x. P'.lowered x ∷ []), tt))) (λ κs. (mut_Tells (named 0) κs.0 R, (P'.lowers.val_is, tt))) (λ κs qs bounds a _ are.
    let κ = κs.0 in let q = qs.0 in let s = a.0 in let p = a.1.0 in let b = s.ref_ptr.0 in let o = s.ref_ptr.1 in let vs = mut_vals s in let us : List Val = P'.lowered p ∷ [] in
    let Ref = λ (κ' : List ℕ) (x : MutBor R.Denot). (MutRef (named 0) κ' R).own_val x vs in
    let y : W.Ghost = ((κs, qs, bounds, a, (vs, (us, tt))), tt) in
    qed 𝓛 (((‵ (flft κ q) ⊛ ‵ ftrue) ⊛ ‵ (Ref κ s) ⊛ ‵ (P.own_val p us) ⊛ ‵ ftrue) ∷ ‵ ftrue ∷ []) ∵
    split ! $ split ! $ move ! (2 ∷ []) $ split ! $ move ! (1 ∷ []) $ split ! $ keep ! (2 ∷ 3 ∷ 0 ∷ []) $
    -- [self; the token of κ; the pointer]
    enter ! _ _ _ _ _ $ alloc_all ! (λ l. pass_all ! refl ((tt, tt), (P'.the_row_laws.lawful 𝓛).typed p us are.1.0) $
    sets ! (addr ! (through ! refl (stop !))) refl (tt, tt) $
    lft_new ! tt (λ α. move ! (1 ∷ 2 ∷ []) $
    use2 𝓛 (later (some (λ (δ : ℕ). ‵ (Ref (α ∷ []) (record s { ghost_name = δ })) ⊛ ‵ (LentAgain R κ (α ∷ []) q s.ghost_name b o δ s.now))))
    (lends_again 𝓛 R (named 0) κ (α ∷ []) q s.ghost_name b o (named 0) s.now) $ await ! tt $ pick ! (λ δ. split ! $
    -- [the loan; what the lender keeps; the token of α; the pointer]
    move ! (3 ∷ []) $ use1 𝓛 (‵ (P.own_val p us) ⊛ ‵ (P.own_val p us)) ((P'.the_row_copy.copies _ 𝓤 𝓛).twice p us) $ split ! $
    nothing ! $ move ! (1 ∷ 0 ∷ []) $ join ! $ move ! (2 ∷ 0 ∷ []) $ join ! $ nothing ! $ move ! (4 ∷ 0 ∷ []) $ join ! $ join ! $ nothing ! $ move ! (1 ∷ 0 ∷ []) $
    let G = triple_of 𝓛 g.signature (g.spec 𝓛 𝓜.mem 𝓡.returns) in
    let z : G.Ghost = (((α ∷ [], tt), (full_share, tt), tt, (record s { ghost_name = δ }, (p, tt)), (vs, (us, tt))), tt) in
    use2 𝓛 (raw (G.pre z)) (id⊢ 𝓤 _) $
    calls_at ! (framed 𝓤 𝓛.H 𝓜 𝓣) G (lent_len_met 𝓤 𝓛 𝓜 𝓡 (code.calls-tlsf_region::region::Region::lent_len 𝓡.env wired)) z
    (and_then ! (get ! refl) (and_then ! (get ! refl) (no_more !))) (λ v.
    use1 𝓛 (later (some (λ (n : ℕ). ((‵ (flft (α ∷ []) full_share) ⊛ ‵ ftrue) ⊛ ‵ (u32.own_val n (v ∷ []))) ⊛ some (λ (ws : Lasts g.ended z.0.0 z.0.3). ‵ (lasts g.ended z.0.0 z.0.3 ws)
    ⊛ raw (fact 𝓤 (0 < n → IsSizeOf p n s.now.content s.now.bytes))
    ⊛ raw (fact 𝓤 (n ≡ 0 → is_live (λ slot. slot == p.slot) p.place (blocks_of s.now.content.pools) ≡ false)) ⊛ raw (fact 𝓤 (Reads 1 s.now ws.0)))))) (id⊢ 𝓤 _) $
    await ! tt $ pick ! (λ n. split ! $ split ! $ split ! $ lft_end ! tt $ move ! (2 ∷ []) $ fsplit ! $ feq_l ! (λ is_n. flt_l ! (λ fits.
    lands_as ! (ap only is_n) refl (tt, record { fits = fits }) $
    move ! (2 ∷ []) $ pick ! (λ ws. split ! $ move ! (1 ∷ []) $ split ! $ heard ! _ (λ told. split ! $ heard ! _ (λ stale. heard ! _ (λ read.
    fsplit ! $ fsplit ! $
    -- [the loan's last value; its borrow; of the pointer; α is over; nothing; the pointer; what the lender keeps]
    move ! (3 ∷ 6 ∷ 0 ∷ []) $ use3 𝓛 (later (‵ (Ref κ (record s { now = ws.0 })) ⊛ ‵ (flft κ q))) (comes_back 𝓛 R (named 0) κ (α ∷ []) q s.ghost_name b o δ s.now ws.0) $ await ! tt $ split ! $
    sets ! (bin ! (get ! refl) (lit ! tt) tt) refl (tt, tt) $
    first ! $ branches ! (get ! refl)
    (λ none. sets ! (agg ! (and_then ! (lit ! tt) (no_more !))) refl (tt, (record { fits = lit< tt }, tt)) $
    fsplit3 ! $ move ! (1 ∷ []) $ use1 𝓛 (‵ (fres s.ghost_name (R.coded.code ws.0))) (𝓛.names.obs-res s.ghost_name (R.coded.code ws.0)) $
    use1 𝓛 (‵ (lends_block s p None)) (none_lent 𝓛 R (Array u8 0) s.ghost_name _ _ ws.0 (λ last. tt) read) $
    use0 𝓛 (‵ ((Opt.the_row (MutSlice (named 0) κ u8)).own_val None (live 0 vnil ∷ []))) (none_of 𝓛 (MutSlice (named 0) κ u8)) $
    -- [no slice; what is lent; two parts of self; the token of κ]
    returns_within ! (W.post y) refl (look_at ! 0 refl) $ free_all ! refl $ keep ! (0 ∷ 4 ∷ 1 ∷ []) $
    suffices ! _ (ends_at 𝓛 f.ended stayed c y (live 0 vnil) None (tt, (tt, tt)) (tt, (tt, tt))) $
    nothing ! $ nothing ! $ fjoin ! $ nothing ! $ fjoin ! $ join ! $ nothing ! $ move ! (2 ∷ 0 ∷ []) $ join ! $ join ! $ frame ! $ says ! (sym (live_bytes_none p s.now.content s.now.bytes (stale (is_none n none)))) $ done !)
    (λ lent. skips ! $ exec ! 𝓣.C 𝓣.Λ (env code.Mir.locals l) code.Mir.t-5 (at_ret _ (W.post y)) $
    let any : 0 < n = is_some n lent in
    sets ! (addr ! (through ! refl (stop !))) refl (tt, tt) $
    move ! (5 ∷ []) $ owned ! u32 _ (uint_Makes 𝓛 w32) n (vint w32 n ∷ []) (refl, fits) $ nothing ! $ move ! (1 ∷ 0 ∷ []) $ join ! $ move ! (1 ∷ 0 ∷ []) $ join ! $ move ! (1 ∷ 0 ∷ []) $ join ! $
    nothing ! $ move ! (2 ∷ 0 ∷ []) $ join ! $ join ! $
    let room : p.place + n ≤ length ws.0.bytes = omega (arith, (told any).within, ap length read.bytes) in
    use0 𝓛 (raw (fact 𝓤 (p.place + n ≤ length ws.0.bytes))) (fact_i 𝓤 _ (emp 𝓤) room) $ move ! (1 ∷ 0 ∷ []) $
    let F = triple_of 𝓛 h.signature (h.spec 𝓛 𝓜.mem 𝓡.returns) in
    let x : F.Ghost = ((κs, qs, tt, (record s { now = ws.0 }, (p, (n, tt))), (vs, (us, (vint w32 n ∷ [], tt)))), tt) in
    use2 𝓛 (raw (F.pre x)) (id⊢ 𝓤 _) $
    calls_at ! (framed 𝓤 𝓛.H 𝓜 𝓣) F (lend_met 𝓤 𝓛 𝓜 𝓡 (code.calls-tlsf_region::region::Region::lend 𝓡.env wired)) x
    (and_then ! (get ! refl) (and_then ! (get ! refl) (and_then ! (get ! refl) (no_more !)))) (λ u.
    let Lent = MutSlice (named 0) κ u8 in
    use1 𝓛 (later (some (λ (r : MutBor (List ℕ)). ((‵ (flft κ q) ⊛ ‵ ftrue) ⊛ ‵ (Lent.own_val r (u ∷ []))) ⊛ some (λ (ws' : Lasts h.ended x.0.0 x.0.3). ‵ (lasts h.ended x.0.0 x.0.3 ws')
    ⊛ ‵ (follows R (Array u8 0) s.ghost_name r.ghost_name (written p.place ws.0)) ⊛ raw (fact 𝓤 (r.now ≡ block_bytes p.place n ws.0.bytes)))))) (id⊢ 𝓤 _) $
    await ! tt $ pick ! (λ r. split ! $ split ! $ split ! $ move ! (2 ∷ []) $ peeks ! Lent _ (shows 𝓛 Lent) r (u ∷ []) (λ is.
    lands_as ! (ap only is.0.0) refl (tt, (tt, (record { fits = is.0.1.0 }, tt))) $
    let w : Val = slice_val r.ref_ptr (length r.now) in
    rewrite ! 0 (λ (ts : List Val). ‵ (Lent.own_val r ts)) is.0.0 refl $
    -- [the slice; the token of κ; nothing; what is lent]
    move ! (3 ∷ []) $ pick ! (λ ws'. split ! $ move ! (1 ∷ []) $ split ! $ move ! (1 ∷ []) $ heard ! _ (λ now.
    use1 𝓛 (‵ (lends_block s p (Some r))) (some_lent 𝓛 R (Array u8 0) s.ghost_name _ _ r.ghost_name (written p.place ws.0) ws.0 (λ last. (
      record { content = read.unchanged.content; rows = read.unchanged.rows },
      read.bound,
      (λ long. written_bytes p.place n last s.now ws.0 read.bytes (told any).within (long ∙ (size_is p s.now.content n (told any).told).1)),
    )) read) $
    sets ! (agg ! (and_then ! (lit ! tt) (and_then ! (get ! refl) (no_more !)))) refl (tt, (record { fits = lit< tt }, ((tt, (record { fits = is.0.1.0 }, tt)), tt))) $
    -- [what is lent; what lasts; the slice; the token of κ]
    move ! (2 ∷ []) $ use1 𝓛 (‵ ((Opt.the_row Lent).own_val (Some r) (live 1 (vcons w vnil) ∷ []))) (Some-of 𝓛 Lent r w) $
    returns ! (look_at ! 0 refl) $ free_all ! refl $ keep ! (0 ∷ 3 ∷ 1 ∷ []) $
    suffices ! _ (ends_at 𝓛 f.ended stayed c y (live 1 (vcons w vnil)) (Some r) (tt, (tt, tt)) (tt, (tt, tt))) $
    nothing ! $ nothing ! $ fjoin ! $ nothing ! $ fjoin ! $ join ! $ nothing ! $ move ! (2 ∷ 0 ∷ []) $ join ! $ join ! $ frame ! $ says ! (ap Some (now ∙ ap (λ bytes. block_bytes p.place n bytes) read.bytes) ∙ sym (live_bytes_are p n s.now.content s.now.bytes (told any).told)) $ done !))))))))))))))))))
