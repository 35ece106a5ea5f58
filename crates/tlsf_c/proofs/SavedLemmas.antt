-- What the room of a window has once a text was put.
use Rattle.std.proofs.Common.{◌≡◌, ℕ, ◌-◌, List, refl, ◌∷◌, ◌++◌, length, take, drop, Result, Ok, Err, ap, ◌∙◌, arith}
use Rattle.std.specs.Prelude.{min, nat_le}
use Rattle.std.proofs.lemmas.List.{take_at, drop_at, length-append}
use Rattle.std.specs.Io.KnownBytes.{append_known}
use Rattle.mtrace_log.specs.Output.{Puts, PutsAll}
use Rattle.tlsf_c.specs.Room.{put_over}
use Rattle.tlsf_c.specs.declared.window.Window.{Window}
use Rattle.tlsf_c.specs.Window.{shown}

-- a window never fails
puts_all : {T E : Type 0} (result : Result T E) (text : List ℕ) (old new : Window) → Puts result text (shown old) (shown new) → PutsAll text (shown old) (shown new)
puts_all (Ok done) text old new puts = puts
puts_all (Err failure) text old new puts = absurd (new.served puts.failed.middle puts.failed.then)

-- the same bytes are lent, the text is in them, and where it ends and whether it is whole is told
pub record HasText (text : List ℕ) (old new : Window) : Type 0 where
  pub lent : new.room.ghost_name ≡ old.room.ghost_name
  pub bytes : new.room.now ≡ put_over text old.room.now
  pub ends : new.end ≡ min (length text) (length old.room.now)
  pub all : new.fits ≡ nat_le (length text) (length old.room.now)

pub has_text : {T E : Type 0} (result : Result T E) (text : List ℕ) (old new : Window) → Puts result text (shown old) (shown new) → old.trace.bytes ≡ old.room.now → HasText text old new
has_text result text old new puts first =
    let room = old.room.now in
    let wrote : (shown new).taken ≡ append_known (shown old).taken text = (puts_all result text old new puts).wrote in
    let same : new.room.ghost_name ∷ length new.room.now ∷ new.trace.bytes ≡ old.room.ghost_name ∷ length room ∷ (old.trace.bytes ++ text) = cc in
    let long : length new.room.now ≡ length room = cc in
    let told : new.trace.bytes ≡ room ++ text = (let tail : new.trace.bytes ≡ old.trace.bytes ++ text = cc in tail ∙ ap (λ (bytes : List ℕ). bytes ++ text) first) in
    let stood : take (length new.room.now) new.trace.bytes ≡ room = ap (λ (n : ℕ). take n new.trace.bytes) long ∙ ap (λ (bytes : List ℕ). take (length room) bytes) told ∙ take_at room text (length room) refl in
    let put : drop (length new.room.now) new.trace.bytes ≡ text = ap (λ (n : ℕ). drop n new.trace.bytes) long ∙ ap (λ (bytes : List ℕ). drop (length room) bytes) told ∙ drop_at room text (length room) refl in
    let count : length new.trace.bytes - length new.room.now ≡ length text = omega (arith, ap length told, length-append room text, long) in
    record {
      lent = cc;
      bytes = new.kept ∙ ap (λ (bytes : List ℕ). put_over bytes (take (length new.room.now) new.trace.bytes)) put ∙ ap (λ (bytes : List ℕ). put_over text bytes) stood;
      ends = new.ends ∙ ap (λ (n : ℕ). min n (length new.room.now)) count ∙ ap (λ (n : ℕ). min (length text) n) long;
      all = new.all ∙ ap (λ (n : ℕ). nat_le n (length new.room.now)) count ∙ ap (λ (n : ℕ). nat_le (length text) n) long;
    }
