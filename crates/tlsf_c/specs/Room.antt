-- Items that are put into a room.
use Rattle.std.specs.Prelude.{◌≡◌, ℕ, min, List, [], ◌∷◌, length}

-- the items, as many as there is room for, and behind them what stood there
unfoldable pub put_over : {X : Type 0} → List X → List X → List X
put_over [] room = room
put_over (item ∷ items) [] = []
put_over (item ∷ items) (other ∷ room) = item ∷ put_over items room

-- these bytes are put over what stood in the room, and end there
pub record IsPutOver (put stood room : List ℕ) (end : ℕ) : Type 0 where
  pub bytes : room ≡ put_over put stood
  pub ends : end ≡ min (length put) (length stood)
