-- Through all lines of a log, what an address is held under is a live block, and no two addresses are held under one.
use Rattle.std.proofs.Common.{◌≡◌, ◌≢◌, ℕ, suc, true, false, cond, List, [], ◌∷◌, length, Option, Some, None, Ok, Err, inl, inr, refl, sym, ap, ◌∙◌, subst}
use Rattle.std.specs.Prelude.{◌==◌, Result}
use Rattle.std.proofs.lemmas.Bool.{cases_Bool, eqb-true, eq-eqb}
use Rattle.tlsf_heap.specs.declared.refusal.Refusal.{Refusal}
use Rattle.tlsf_heap.specs.Content.{blocks_of}
use Rattle.tlsf_heap.specs.Free.{free, is_live, after_free}
use Rattle.tlsf_heap.specs.Realloc.{realloc}
use Rattle.tlsf_heap.specs.Good.{IsGood}
use Rattle.tlsf_heap.proofs.Good.StaysLive.{free_of_live, live_through_free, live_through_realloc, moved_elsewhere, live_moved}
use Rattle.mtrace_replay.specs.Entry.{Entry}
use Rattle.mtrace_replay.specs.Started.{Bare, left_by}
use Rattle.mtrace_replay.specs.Moment.{ReadLine, Given, Moment, Act, idle, give, take, move, plan, asked_block, asked_size, without, answered, moved, done}
use Rattle.mtrace_replay.specs.History.{held, held_after, given_or, unless_taken, moments, pending, content_after}
use Rattle.mtrace_replay.proofs.OnHeap.AskedBlock.{live_asked, live_through_asked, asked_elsewhere}
use Rattle.mtrace_replay.proofs.History.Moments.{moments-none, moments-line}
use Rattle.mtrace_replay.proofs.History.PlanLemmas.{Fits, is_planned}
use Rattle.mtrace_replay.proofs.Enough.EnoughRecords.{stands_all}
use Rattle.mtrace_replay.proofs.History.TotalsLemmas.{AreAllFree}
use Rattle.mtrace_replay.proofs.Enough.UnrefusedLemmas.{IsBlock, realloc_block}

-- the block at the place is live
abbrev pub IsLiveAt : ℕ → Bare → Type 0
IsLiveAt place content = is_live (λ owner. true) place (blocks_of content.pools) ≡ true

-- no two addresses are held under one block
abbrev Apart : (ℕ → Option Given) → Type 0
Apart look = (one other : ℕ) (first second : Given) → look one ≡ Some first → look other ≡ Some second → first.place ≡ second.place → one ≡ other

-- what is held is live, and no two addresses are held under one block
pub record AllLive (content : Bare) (look : ℕ → Option Given) : Type 0 where
  pub live : (address : ℕ) (given : Given) → look address ≡ Some given → IsLiveAt given.place content
  pub apart : Apart look

-- what an address is held under where this is given
abbrev with_new : Given → (ℕ → Option Given) → ℕ → Option Given
with_new new look address = given_or (Some new) address (look address)

-- an address is held under a new block, which stands apart from the others
live_with : (look : ℕ → Option Given) (after : Bare) (new : Given) → Apart look → IsLiveAt new.place after
    → ((other : ℕ) (found : Given) → look other ≡ Some found → IsLiveAt found.place after × (new.place ≢ found.place))
    → AllLive after (with_new new look)
live_with look after new were_apart live_now others = record { live = live; apart = apart }
  where
    here : (other : ℕ) (found : Given) → (new.entry.addr == other) ≡ true → with_new new look other ≡ Some found → found ≡ new
    here other found is at = let e : Some found ≡ Some new = sym at ∙ ap (λ b. cond b (Some new) (look other)) is in cc

    elsewhere : (other : ℕ) (found : Given) → (new.entry.addr == other) ≡ false → with_new new look other ≡ Some found → look other ≡ Some found
    elsewhere other found is at = sym (ap (λ b. cond b (Some new) (look other)) is) ∙ at

    live : (other : ℕ) (found : Given) → with_new new look other ≡ Some found → IsLiveAt found.place after
    live other found at = elim (cases_Bool (new.entry.addr == other)) [
      | inl is ↦ subst (λ (g : Given). IsLiveAt g.place after) (sym (here other found is at)) live_now
      | inr is ↦ (others other found (elsewhere other found is at)).0
    ]

    apart : (one other : ℕ) (first second : Given) → with_new new look one ≡ Some first → with_new new look other ≡ Some second → first.place ≡ second.place → one ≡ other
    apart one other first second at at_too same = elim (cases_Bool (new.entry.addr == one)) [
      | inl is ↦ elim (cases_Bool (new.entry.addr == other)) [
        | inl is_too ↦ sym (eqb-true new.entry.addr one is) ∙ eqb-true new.entry.addr other is_too
        | inr is_not ↦ absurd ((others other second (elsewhere other second is_not at_too)).1 (ap (λ (g : Given). g.place) (sym (here one first is at)) ∙ same))
      ]
      | inr is_not ↦ elim (cases_Bool (new.entry.addr == other)) [
        | inl is ↦ absurd ((others one first (elsewhere one first is_not at)).1 (ap (λ (g : Given). g.place) (sym (here other second is at_too)) ∙ sym same))
        | inr is_not_too ↦ were_apart one other first second (elsewhere one first is_not at) (elsewhere other second is_not_too at_too) same
      ]
    ]

module _ (content : Bare) (good : IsGood content) (look : ℕ → Option Given) (all : AllLive content look) where
  live_asked_for : (entry : Entry) (align : Option ℕ) (answer : Result (ℕ × Bare) Refusal) → asked_block tt align (asked_size entry.size) content ≡ answer
      → AllLive (answered entry content answer).content (held_after (answered entry content answer) look)
  live_asked_for entry align (Err refusal) is = all
  live_asked_for entry align (Ok (place, new)) is =
      live_with look new (record { entry = entry; place = place }) all.apart (live_asked (λ owner. true) tt align (asked_size entry.size) place content new good is refl)
      (λ other found at. (
        live_through_asked (λ owner. true) tt align found.place (asked_size entry.size) place content new good (all.live other found at) is,
        asked_elsewhere (λ owner. true) tt align found.place (asked_size entry.size) place content new good (all.live other found at) is,
      ))

  module _ (address : ℕ) (from : Given) (at_address : look address ≡ Some from) where
    abbrev others : ℕ → Option Given
    others other = unless_taken (Some address) other (look other)

    -- what else is held is another block
    other_block : (other : ℕ) (found : Given) → others other ≡ Some found → (look other ≡ Some found) × (found.place ≢ from.place)
    other_block other found at = elim (cases_Bool (address == other)) [
      | inl here ↦ absurd (let e : None ≡ Some found = sym (ap (λ b. cond b None (look other)) here) ∙ at in cc)
      | inr there ↦
          let is = sym (ap (λ b. cond b None (look other)) there) ∙ at in
          (is, (λ same. let e : true ≡ false = sym (eq-eqb address other (all.apart address other from found at_address is (sym same))) ∙ there in cc))
    ]

    others_apart : Apart others
    others_apart one other first second at at_too same = all.apart one other first second (other_block one first at).0 (other_block other second at_too).0 same

    live_without : AllLive (without from.place content) others
    live_without =
        let freed : free (λ owner. true) from.place content ≡ Ok (after_free from.place content) = free_of_live (λ owner. true) from.place content (all.live address from at_address) in
        let left : without from.place content ≡ after_free from.place content = ap (left_by content) freed in
        subst (λ (after : Bare). AllLive after others) (sym left) (record {
          live = λ other found at.
              let is = other_block other found at in
              live_through_free (λ owner. true) (λ owner. true) found.place from.place content (after_free from.place content) good (all.live other found is.0) is.1 freed;
          apart = others_apart;
        })

    live_moved_to : (entry : Entry) (answer : Result (Option (ℕ × Unit {0}) × Bare) Refusal) → IsBlock answer
        → realloc (λ one other. true) tt (Some (from.place, tt)) (asked_size entry.size) content ≡ answer
        → AllLive (moved address from.place entry content answer).content (held_after (moved address from.place entry content answer) look)
    live_moved_to entry (Err refusal) block is = live_without
    live_moved_to entry (Ok (None, new)) block is = absurd block
    live_moved_to entry (Ok (Some (place, owner), new)) block is =
        live_with others new (record { entry = entry; place = place }) others_apart
        (live_moved (λ one other. true) tt tt from.place (asked_size entry.size) content place owner new (λ a. refl) good is)
        (λ other found at.
        let was = other_block other found at in
        let live = all.live other found was.0 in (
          live_through_realloc (λ owner. true) (λ one other. true) tt tt found.place from.place (asked_size entry.size) (Some (place, owner)) content new good live was.1 is,
          moved_elsewhere (λ owner. true) (λ one other. true) tt tt found.place from.place (asked_size entry.size) place owner (Some (place, owner)) content new good live was.1 is refl,
        ))

  live_done : (number : ℕ) (act : Act) → Fits number look act → AllLive (done act content).content (held_after (done act content) look)
  live_done number idle fits = all
  live_done number (give entry align) fits = live_asked_for entry align (asked_block tt align (asked_size entry.size) content) refl
  live_done number (take address place) fits =
      subst (λ (place : ℕ). AllLive (done (take address place) content).content (held_after (done (take address place) content) look)) fits.2 (live_without address fits.0 fits.1)
  live_done number (move old place entry) fits =
      let from = fits.1 in
      subst (λ (place : ℕ). AllLive (done (move old place entry) content).content (held_after (done (move old place entry) content) look)) from.2
      (live_moved_to old from.0 from.1 entry (realloc (λ one other. true) tt (Some (from.0.place, tt)) (asked_size entry.size) content) (realloc_block from.0.place entry.size content) refl)

-- after any lines
pub all_live : (start : Bare) → IsGood start → AreAllFree start → (past : List ReadLine) → AllLive (content_after start (moments start past)) (held (moments start past))
all_live start good free [] = subst (λ (ms : List Moment). AllLive (content_after start ms) (held ms)) (sym (moments-none start)) (record {
  live = λ address given is. absurd (let e : None ≡ Some given = is in cc);
  apart = λ one other first second is. absurd (let e : None ≡ Some first = is in cc);
})
all_live start good free (line ∷ past) =
    let ms = moments start past in
    let number = suc (length past) in
    let planned = is_planned number (held ms) line (pending past) in
    subst (λ (all : List Moment). AllLive (content_after start all) (held all)) (sym (moments-line start line past))
    (live_done (content_after start ms) (stands_all start good free past).good (held ms) (all_live start good free past) number (plan number line (pending past) (held ms)).act planned.fits)
