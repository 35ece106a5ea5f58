-- What one line of a log asks for, by the line before it and by what is held: its plan. What that leaves, on what the heap holds.
use Rattle.std.specs.Prelude.{ℕ, suc, Bool, true, false, not, ◌&&◌, List, [], ◌∷◌, ◌++◌, is_some, unwrap_or, Option, Some, None, Result, Ok, Err, if◌then◌else◌, ◌==◌}
use Rattle.mtrace_log.specs.Event.{Event}
use Rattle.mtrace_log.specs.declared.event.Event.TheVariants.{Start, End, Alloc, Free, Old, New, Failed, Aligned}
use Rattle.mtrace_log.specs.declared.event.LineFault.{LineFault}
use Rattle.mtrace_log.specs.declared.event.LineFault.TheVariants as fault
use Rattle.mtrace_replay.specs.Entry.{Entry}
use Rattle.mtrace_replay.specs.declared.held.diagnostic.Diagnostic.{Diagnostic}
use Rattle.mtrace_replay.specs.declared.held.diagnostic.Kind.{Kind}
use Rattle.mtrace_replay.specs.declared.held.diagnostic.Kind.TheVariants.{TooLong, NotALine, NotHeld, AlreadyHeld, Refused, Half, Stray}
use Rattle.tlsf_heap.specs.declared.refusal.Refusal.{Refusal}
use Rattle.tlsf_class.specs.Rounding.{round}
use Rattle.tlsf_heap.specs.Content.{Content}
use Rattle.tlsf_heap.specs.Malloc.{malloc}
use Rattle.tlsf_heap.specs.Memalign.{memalign}
use Rattle.tlsf_heap.specs.Free.{free}
use Rattle.tlsf_heap.specs.Realloc.{realloc}
use Rattle.mtrace_replay.specs.Started.{Bare, left_by}

-- what a line is, or why it is no event
abbrev pub ReadLine : Type 0
ReadLine = Result Event LineFault

-- what an address is held under: its entry, and where its block begins
pub record Given : Type 0 where
  pub entry : Entry
  pub place : ℕ

abbrev pub one_diagnostic : ℕ → Kind → List Diagnostic
one_diagnostic number kind = record { line = number; kind = kind } ∷ []

-- What is done: nothing; a block is asked for, for the entry; the address is taken, and the block at the place freed;
-- the block of the old address, at the place, is reallocated for the entry.
pub data Act : Type 0 where
  idle : Act
  give : Entry → Option ℕ → Act
  take : (address place : ℕ) → Act
  move : (old place : ℕ) → Entry → Act

-- the diagnostics that come first, and what is then done
pub record Plan : Type 0 where
  pub first : List Diagnostic
  pub act : Act

abbrev pub none_for : ℕ → Kind → Plan
none_for number kind = record { first = one_diagnostic number kind; act = idle }

abbrev pub doing : Act → Plan
doing act = record { first = []; act = act }

-- a block for the entry, by what its address is held under
abbrev pub allocation : Entry → Option ℕ → Option Given → Plan
allocation entry align None = doing (give entry align)
allocation entry align (Some given) = none_for entry.line (AlreadyHeld entry.addr)

-- `- address`, by what the address is held under
abbrev pub release : ℕ → ℕ → Option Given → Plan
release number address None = none_for number (NotHeld address)
release number address (Some given) = doing (take address given.place)

-- the plan with another diagnostic in front
abbrev pub preceded : Kind → ℕ → Plan → Plan
preceded kind number planned = record { first = one_diagnostic number kind ++ planned.first; act = planned.act }

-- `>` after `< old`, by what the two are held under
abbrev pub reallocation : Entry → (old : ℕ) → (held_old held_new : Option Given) → Plan
reallocation entry old None here = preceded (NotHeld old) entry.line (allocation entry None here)
reallocation entry old (Some from) here =
    if not (entry.addr == old) && is_some here then none_for entry.line (AlreadyHeld entry.addr) else doing (move old from.place entry)

-- `>`, by the address of the line before, where that is `<`
abbrev pub renewal : Entry → Option ℕ → (ℕ → Option Given) → Plan
renewal entry None held = none_for entry.line Stray
renewal entry (Some old) held = reallocation entry old (held old) (held entry.addr)

-- the plan of the line of this number
abbrev pub plan : ℕ → ReadLine → Option ℕ → (ℕ → Option Given) → Plan
plan number (Err fault.TooLong) pending held = none_for number TooLong
plan number (Err fault.NotALine) pending held = none_for number NotALine
plan number (Ok (Alloc at (Some address) size)) pending held = allocation (record { addr = address; size = size; line = number; at = at }) None (held address)
plan number (Ok (Aligned at address align size)) pending held = allocation (record { addr = address; size = size; line = number; at = at }) (Some align) (held address)
plan number (Ok (Free at address)) pending held = release number address (held address)
plan number (Ok (New at address size)) pending held = renewal (record { addr = address; size = size; line = number; at = at }) pending held
plan number (Ok (Alloc at None size)) pending held = doing idle
plan number (Ok (Old at address)) pending held = doing idle
plan number (Ok (Failed at address size)) pending held = doing idle
plan number (Ok Start) pending held = doing idle
plan number (Ok End) pending held = doing idle

-- whether the heap is asked
abbrev pub acts : Act → Bool
acts idle = false
acts _ = true

-- the outcome of one line: what it was given, the address that it took, its diagnostics, and the heap after it
pub record Moment : Type 0 where
  pub given : Option Given
  pub taken : Option ℕ
  pub diagnostics : List Diagnostic
  pub content : Bare

-- nothing was given and nothing taken
abbrev pub unserved : List Diagnostic → Bare → Moment
unserved diagnostics content = record { given = None; taken = None; diagnostics = diagnostics; content = content }

-- the moment with other diagnostics in front of its own
abbrev pub after_diagnostics : List Diagnostic → Moment → Moment
after_diagnostics diagnostics moment = record { given = moment.given; taken = moment.taken; diagnostics = diagnostics ++ moment.diagnostics; content = moment.content }

-- a block of no byte is asked for as one of one byte
abbrev pub asked_size : ℕ → ℕ
asked_size size = if size == 0 then 1 else size

-- the size of the block for this many bytes
abbrev pub rounded_bytes : ℕ → ℕ
rounded_bytes size = unwrap_or (round (asked_size size)) 0

-- a block is asked for, at a multiple of an alignment where there is one
abbrev pub asked_block : {A : Type 0} → A → Option ℕ → ℕ → Content A → Result (ℕ × Content A) Refusal
asked_block owner None n content = malloc owner n content
asked_block owner (Some align) n content = memalign owner align n content

-- the heap after the block at the place was freed
abbrev pub without : ℕ → Bare → Bare
without place content = left_by content (free (λ owner. true) place content)

-- a block was given to the entry, or none
abbrev pub answered : Entry → Bare → Result (ℕ × Bare) Refusal → Moment
answered entry content (Ok (place, new)) = record { given = Some (record { entry = entry; place = place }); taken = None; diagnostics = []; content = new }
answered entry content (Err refusal) = unserved (one_diagnostic entry.line (Refused entry.addr refusal)) content

-- the block of the old address was given to the entry, or freed
abbrev pub moved : (old from : ℕ) → Entry → Bare → Result (Option (ℕ × Unit {0}) × Bare) Refusal → Moment
moved old from entry content (Ok (Some (place, owner), new)) =
    record { given = Some (record { entry = entry; place = place }); taken = Some old; diagnostics = []; content = new }
moved old from entry content (Ok (None, new)) = record { given = None; taken = Some old; diagnostics = []; content = new }
moved old from entry content (Err refusal) =
    record { given = None; taken = Some old; diagnostics = one_diagnostic entry.line (Refused entry.addr refusal); content = without from content }

-- what an act leaves
abbrev pub done : Act → Bare → Moment
done idle content = unserved [] content
done (give entry align) content = answered entry content (asked_block tt align (asked_size entry.size) content)
done (take address place) content = record { given = None; taken = Some address; diagnostics = []; content = without place content }
done (move old place entry) content = moved old place entry content (realloc (λ one other. true) tt (Some (place, tt)) (asked_size entry.size) content)

-- what a plan leaves
abbrev pub carried_out : Plan → Bare → Moment
carried_out planned content = after_diagnostics planned.first (done planned.act content)

-- what the line of this number leaves, but for what it tells of the line before
abbrev pub outcome : ℕ → ReadLine → Option ℕ → (ℕ → Option Given) → Bare → Moment
outcome number line pending held content = carried_out (plan number line pending held) content

-- whether a line is `>`
abbrev pub is_new : ReadLine → Bool
is_new (Err fault) = false
is_new (Ok Start) = false
is_new (Ok End) = false
is_new (Ok (Alloc at address size)) = false
is_new (Ok (Free at address)) = false
is_new (Ok (Old at address)) = false
is_new (Ok (New at address size)) = true
is_new (Ok (Failed at address size)) = false
is_new (Ok (Aligned at address align size)) = false

-- the line of this number is `<`, where an address is pending, and no `>` follows
abbrev pub half : ℕ → Option ℕ → List Diagnostic
half number None = []
half number (Some address) = one_diagnostic number Half

-- what the line behind this many lines leaves
abbrev pub moment : ℕ → ReadLine → Option ℕ → (ℕ → Option Given) → Bare → Moment
moment before line pending held content = after_diagnostics (if is_new line then [] else half before pending) (outcome (suc before) line pending held content)
