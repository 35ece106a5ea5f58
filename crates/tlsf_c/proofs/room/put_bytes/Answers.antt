-- A byte is put where there is room, and counted where there is none.
use Rattle.std.proofs.Common.{ℕ, List, [], ◌∷◌, ◌++◌, take, sym, ap, ◌∙◌, subst, append_assoc, arith}
use Rattle.std.proofs.lemmas.List.{take_more}
use Rattle.std.specs.List.{slice_index}
use Rattle.tlsf_c.specs.Room.{IsPutOver}
use Rattle.tlsf_c.proofs.RoomLemmas.{one_within, one_past}
use Rattle.tlsf_c.proofs.room.put_bytes.Goals as goal
use Rattle.tlsf_c.proofs.room.put_bytes.Goals.{then-end-room, else-end-room}

pub loop-byte-preserved : goal.loop-byte-preserved
loop-byte-preserved c = record {
  kept = λ put stood before.
      let bytes = c.args.bytes.now in let i = c.loop-byte.byte-index in let room = c.loop-byte.room in let end = c.loop-byte.end in
      let byte : ℕ = slice_index bytes i in let so_far = c.loop-byte.invariant.kept put stood before in
      let one : IsPutOver ((put ++ take i bytes) ++ byte ∷ []) stood c.if-end-room.room c.if-end-room.end = elim c.if-end-room.branch [
        | then-end-room w ↦ rw (w.room-is, w.end-is) (one_within (put ++ take i bytes) stood room end byte so_far (omega (arith, w.if-end-room.true)))
        | else-end-room w ↦ rw (w.room-is, w.end-is) (one_past (put ++ take i bytes) stood room end byte so_far (omega (arith, w.if-end-room.false)))
      ] in
      subst (λ (all : List ℕ). IsPutOver all stood c.if-end-room.room c.if-end-room.end)
      (append_assoc put (take i bytes) (byte ∷ []) ∙ ap (λ (more : List ℕ). put ++ more) (sym (take_more bytes i 0 c.loop-byte-test.true))) one;
}
