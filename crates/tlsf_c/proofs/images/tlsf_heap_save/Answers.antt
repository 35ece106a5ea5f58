use Rattle.std.proofs.Common.{◌≡◌, ℕ, Bool, List, length, Result, ap, sym, subst, ◌∙◌}
use Rattle.tlsf_heap.specs.Counted.{Counted}
use Rattle.tlsf_heap.specs.Images.Described.{IsImageOf, Saves}
use Rattle.std.specs.Prelude.{min, nat_le, if◌then◌else◌}
use Rattle.tlsf_c.specs.Room.{put_over}
use Rattle.tlsf_c.specs.Saving.{SavesInto, no_room}
use Rattle.tlsf_c.specs.Window.{shown}
use Rattle.tlsf_c.specs.declared.window.Window.{Window}
use Rattle.tlsf_c.proofs.SavedLemmas.{has_text}
use Rattle.tlsf_c.proofs.images.tlsf_heap_save.Goals as goal

-- what was put into a window over these bytes
saved_into : {T E : Type 0} {heap saved_heap : Counted} {whole : Bool} {before after : List ℕ} (result : Result T E) (old new : Window) → Saves result saved_heap.content (shown old) (shown new) → old.trace.bytes ≡ before → old.room.now ≡ before → (new.room.ghost_name ≡ old.room.ghost_name → after ≡ new.room.now) → saved_heap ≡ heap → whole ≡ new.fits → SavesInto heap.content (if whole then 0 else no_room) new.end before after
saved_into result old new saved told room lent same fits =
    let text = has_text result saved.image old new saved.put (told ∙ sym room) in
    record {
      image = saved.image;
      is_image = subst (λ (h : Counted). IsImageOf h.content saved.image) same saved.is_image;
      bytes = lent text.lent ∙ text.bytes ∙ ap (λ (bytes : List ℕ). put_over saved.image bytes) room;
      count_is = text.ends ∙ ap (λ (bytes : List ℕ). min (length saved.image) (length bytes)) room;
      status_is = ap (λ (all : Bool). if all then 0 else no_room) (fits ∙ text.all ∙ ap (λ (bytes : List ℕ). nat_le (length saved.image) (length bytes)) room);
    }

pub returns-then-window-clause-saved : goal.returns-then-window-clause-saved
returns-then-window-clause-saved c =
    let over = c.over-window.ensures in
    saved_into c.save_image-all.result c.over-window.result c.save_image-all.new.writer c.save_image-all.ensures.saved over.told over.room (λ lent. c.bytes-1.given.1.1 (sym over.lent ∙ sym lent)) c.heap.ensures.value (sym c.if-window.true)

pub returns-else-window-clause-saved : goal.returns-else-window-clause-saved
returns-else-window-clause-saved c =
    let over = c.over-window.ensures in
    saved_into c.save_image-all.result c.over-window.result c.save_image-all.new.writer c.save_image-all.ensures.saved over.told over.room (λ lent. c.bytes-1.given.1.1 (sym over.lent ∙ sym lent)) c.heap.ensures.value (sym c.if-window.false)
