-- The entries, sorted by origin, cut into runs of one origin, from the back.
use Rattle.std.specs.Prelude.{◌≡◌, ℕ, ◌+◌, ◌≤◌, Bool, false, if◌then◌else◌, List, [], ◌∷◌, ⊤, Vec, vec_capacity}
use Rattle.std.specs.List.{AllByRecursion}
use Rattle.std.specs.List.Sorted.{IsPermutation, IsSortedByKey}
use Rattle.std.specs.declared.cmp.Ordering.{Ordering}
use Rattle.std.specs.Ordering.{is_eq, is_lt}
use denote.Ref.{Bor}
use Rattle.std.specs.declared.cmp.Ordering.TheVariants.{Less}
use Rattle.mtrace_replay.specs.Sites.{Origin, origin_cmp, Site}
use Rattle.mtrace_replay.specs.Entry.{Entry}

abbrev pub own : Entry → Site
own e = record { blocks = 1; bytes = e.size; at = e.at }

abbrev pub joined : Site → Entry → Site
joined s e = record { blocks = s.blocks + 1; bytes = s.bytes + e.size; at = s.at }

abbrev pub is_same : Site → Entry → Bool
is_same s e = is_eq (origin_cmp s.at e.at)

-- the entry joins the first run, or begins one
abbrev pub onto : Entry → List Site → List Site
onto e [] = own e ∷ []
onto e (s ∷ ss) = if is_same s e then joined s e ∷ ss else own e ∷ (s ∷ ss)

abbrev pub gather : List Entry → List Site
gather [] = []
gather (e ∷ es) = onto e (gather es)

-- sorted by origin
abbrev pub Ordered : List Entry → Type 0
Ordered [] = ⊤
Ordered (e ∷ []) = ⊤
Ordered (e ∷ (f ∷ es)) = (is_lt (origin_cmp f.at e.at) ≡ false) × Ordered (f ∷ es)

-- strictly sorted by origin
abbrev pub Rising : List Site → Type 0
Rising [] = ⊤
Rising (s ∷ ss) = AllByRecursion (λ t. origin_cmp s.at t.at ≡ Less) ss × Rising ss

-- the location of an entry that is lent
abbrev pub lent_origin : Bor Entry → Origin
lent_origin entry = entry.now.at

-- entries that are grouped: room for how many, and the sites of those grouped last
pub record Grouped : Type 0 where
  pub room : ℕ
  pub sites : List Site

-- the elements were put in order by their keys, without memory
pub record Sorts {X K Z : Type 0} (key : X → K) (cmp : K → K → Ordering) (old new : Vec X Z) : Type 0 where
  pub moved : IsPermutation old.items new.items
  pub sorted : IsSortedByKey key cmp new.items
  pub capacity : vec_capacity old ≤ vec_capacity new
