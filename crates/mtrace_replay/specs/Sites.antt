-- Who holds it: entries by the location that asked for them.
use Rattle.std.specs.Prelude.{◌≡◌, ℕ, ◌<◌, ◌≤◌, List, Option, if◌then◌else◌}
use Rattle.std.specs.List.{All, Any, sum_by}
use Rattle.std.specs.List.Sorted.{IsStrictlySortedBy}
use Rattle.std.specs.Option.{option_cmp}
use Rattle.std.specs.Ordering.{nat_cmp, ordering_then, is_eq}
use Rattle.std.specs.Cmp.Lexicographic.{slice_cmp}
use Rattle.std.specs.declared.cmp.Ordering.{Ordering}
use Rattle.mtrace_replay.specs.Entry.{Entry}

-- a location's bytes, or none
abbrev pub Origin : Type 0
Origin = Option (List ℕ)

-- no location first, and then by the bytes in their order
unfoldable pub origin_cmp : Origin → Origin → Ordering
origin_cmp = option_cmp (slice_cmp nat_cmp)

-- what one origin holds: how many blocks, and how many bytes were asked for them
pub record Site : Type 0 where
  pub blocks : ℕ
  pub bytes : ℕ
  pub at : Origin

-- n where both origins are one, else 0
abbrev pub weigh : Origin → Origin → ℕ → ℕ
weigh p q n = if is_eq (origin_cmp p q) then n else 0

-- how many entries have the origin
abbrev pub blocks_at : Origin → List Entry → ℕ
blocks_at p entries = sum_by (λ e. weigh p e.at 1) entries

-- how many bytes those entries have
abbrev pub bytes_at : Origin → List Entry → ℕ
bytes_at p entries = sum_by (λ e. weigh p e.at e.size) entries

-- most bytes first, then most blocks, then by the origin
abbrev pub site_cmp : Site → Site → Ordering
site_cmp s t = ordering_then (ordering_then (nat_cmp t.bytes s.bytes) (nat_cmp t.blocks s.blocks)) (origin_cmp s.at t.at)

-- a site counts and sums exactly the entries of its origin, and there are some
pub record IsSiteOf (entries : List Entry) (s : Site) : Type 0 where
  pub some : 0 < s.blocks
  pub blocks : s.blocks ≡ blocks_at s.at entries
  pub bytes : s.bytes ≡ bytes_at s.at entries

-- the sites of a list of entries: strictly in their order, each exact, and each entry's origin has one
pub record AreSites (entries : List Entry) (sites : List Site) : Type 0 where
  pub order : IsStrictlySortedBy site_cmp sites
  pub exact : All (IsSiteOf entries) sites
  pub covers : All (λ e. Any (λ s. s.at ≡ e.at) sites) entries

-- the sites of a list of entries, in any order: no origin has two, and each origin has the blocks and the bytes of its entries
pub record AreTallied (entries : List Entry) (sites : List Site) : Type 0 where
  pub one : (p : Origin) → sum_by (λ s. weigh p s.at 1) sites ≤ 1
  pub blocks : (p : Origin) → sum_by (λ s. weigh p s.at s.blocks) sites ≡ blocks_at p entries
  pub bytes : (p : Origin) → sum_by (λ s. weigh p s.at s.bytes) sites ≡ bytes_at p entries
