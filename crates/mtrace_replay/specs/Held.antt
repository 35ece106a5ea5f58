-- Under which line an address is held.
use Rattle.std.specs.Prelude.{◌≡◌, ◌≢◌, ℕ, suc, List, ◌∷◌, ◌++◌, length, Some}
use Rattle.std.specs.List.{AllByRecursion}
use Rattle.mtrace_replay.specs.Moment.{Given, Moment}

-- one line asked for the address and was served, under its own number, and no later one took it
pub record IsHeldUnder (past : List Moment) (address : ℕ) (given : Given) : Type 0 where
  pub later : List Moment
  pub moment : Moment
  pub earlier : List Moment
  pub whole : past ≡ later ++ moment ∷ earlier
  pub gave : moment.given ≡ Some given
  pub address_is : given.entry.addr ≡ address
  pub line_is : given.entry.line ≡ suc (length earlier)
  pub none_later : AllByRecursion (λ (after : Moment). after.taken ≢ Some address) later
