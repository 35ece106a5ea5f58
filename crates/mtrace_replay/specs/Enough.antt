-- What is held at most, which blocks are asked for at most, and for what reasons a line isn't refused.
use Rattle.std.specs.Prelude.{◌≢◌, ℕ, suc, ◌≤◌, List, [], ◌∷◌, length, Some, None, IsTrue, ⊤}
use Rattle.std.specs.List.{AllByRecursion}
use Rattle.tlsf_heap.specs.declared.refusal.Refusal.{Refusal}
use Rattle.tlsf_heap.specs.declared.refusal.Refusal.TheVariants.{TableFull}
use Rattle.tlsf_heap.specs.Memalign.{is_alignment, size_asked}
use Rattle.tlsf_heap.specs.Within.{AsksAtMost}
use Rattle.mtrace_replay.specs.declared.held.diagnostic.Diagnostic.{Diagnostic}
use Rattle.mtrace_replay.specs.declared.held.diagnostic.Kind.TheVariants.{Refused}
use Rattle.mtrace_replay.specs.Moment.{ReadLine, Given, Moment, asked_size, Act, give, move, plan}
use Rattle.mtrace_replay.specs.Started.{Bare}
use Rattle.mtrace_replay.specs.History.{AreHeld, held, moments, pending}
use Rattle.mtrace_replay.specs.Totals.{first_moments, rounded_bytes_in}

-- after any number of lines no more addresses are held
abbrev pub HoldsAtMost : ℕ → List Moment → Type 0
HoldsAtMost most past = (k : ℕ) → (all : List Given) × AreHeld all (first_moments k past) × (length all ≤ most)

-- after any number of lines what is held has no more bytes together
abbrev pub HoldsBytesAtMost : ℕ → List Moment → Type 0
HoldsBytesAtMost bytes past = (k : ℕ) → (all : List Given) × AreHeld all (first_moments k past) × (rounded_bytes_in all ≤ bytes)

-- what the line behind these does
abbrev pub act_of : Bare → ReadLine → List ReadLine → Act
act_of start line past = (plan (suc (length past)) line (pending past) (held (moments start past))).act

-- what each line does, the latest first
abbrev pub acts_of : Bare → List ReadLine → List Act
acts_of start [] = []
acts_of start (line ∷ past) = act_of start line past ∷ acts_of start past

-- no block is asked for, or one in these bounds; what is asked at a bad alignment is refused for that
abbrev pub IsOfAtMost : ℕ → Act → Type 0
IsOfAtMost size (give entry None) = AsksAtMost size (λ m. m) (asked_size entry.size)
IsOfAtMost size (give entry (Some align)) = IsTrue (is_alignment align) → AsksAtMost size (size_asked align) (asked_size entry.size)
IsOfAtMost size (move old place entry) = AsksAtMost size (λ m. m) (asked_size entry.size)
IsOfAtMost size _ = ⊤

-- the line isn't refused for this reason
abbrev pub IsNeverRefused : Refusal → Moment → Type 0
IsNeverRefused why moment = AllByRecursion (λ (diagnostic : Diagnostic). (address : ℕ) → diagnostic.kind ≢ Refused address why) moment.diagnostics

-- the line isn't refused for want of a record
abbrev pub IsNeverFull : Moment → Type 0
IsNeverFull = IsNeverRefused TableFull
