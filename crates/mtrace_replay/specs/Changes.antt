-- What locations hold that have changed between two moments.
use Rattle.std.specs.Prelude.{◌≡◌, ◌≢◌, ◌⊎◌, List}
use Rattle.std.specs.List.{All, Any}
use Rattle.std.specs.List.Sorted.{IsStrictlySortedBy}
use Rattle.mtrace_replay.specs.Entry.{Entry}
use Rattle.mtrace_replay.specs.Sites.{Origin, Site, blocks_at, bytes_at, site_cmp}

-- an origin's blocks or its bytes have changed
abbrev pub HasChanged : (before now : List Entry) → Origin → Type 0
HasChanged before now at = (blocks_at at before ≢ blocks_at at now) ⊎ (bytes_at at before ≢ bytes_at at now)

-- a site has what its origin holds now, which has changed
pub record IsChange (before now : List Entry) (s : Site) : Type 0 where
  pub blocks : s.blocks ≡ blocks_at s.at now
  pub bytes : s.bytes ≡ bytes_at s.at now
  pub changed : HasChanged before now s.at

-- the sites that have changed: strictly in their order, each exact, and each origin that has changed has one
pub record AreChanges (before now : List Entry) (sites : List Site) : Type 0 where
  pub order : IsStrictlySortedBy site_cmp sites
  pub exact : All (IsChange before now) sites
  pub covers : (at : Origin) → HasChanged before now at → Any (λ s. s.at ≡ at) sites
