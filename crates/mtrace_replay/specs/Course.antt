-- A reader or a writer over a call.

-- what a reader or writer shows in each state, its state before the call, and its state after it
pub record Course (T S : Type 0) : Type 0 where
  pub shown : T → S
  pub old : T
  pub new : T

abbrev pub course : {T S : Type 0} → (T → S) → (old new : T) → Course T S
course shown old new = record { shown = shown; old = old; new = new }

-- what it showed before, and shows after
abbrev pub shown_before : {T S : Type 0} → Course T S → S
shown_before over = over.shown over.old

abbrev pub shown_after : {T S : Type 0} → Course T S → S
shown_after over = over.shown over.new

-- the part of a course up to a middle, and the part from there on
abbrev pub until : {T S : Type 0} → Course T S → (middle : T) → Course T S
until over middle = course over.shown over.old middle

abbrev pub since : {T S : Type 0} → Course T S → (middle : T) → Course T S
since over middle = course over.shown middle over.new
