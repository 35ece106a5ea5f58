-- Other blocks of the same bytes at a position keep a content good.
use Rattle.std.proofs.Common.{◌≡◌, ℕ, ◌+◌, ◌<◌, ◌≤◌, false, List, [], ◌∷◌, length, arith, count_by}
use Rattle.tlsf_class.specs.Classes.{classes}
use Rattle.tlsf_heap.specs.Content.{Block, blocks_of}
use Rattle.tlsf_heap.specs.Lists.{list_of}
use Rattle.tlsf_heap.specs.Good.{Covers, NoFreeNeighbours, IsGoodPool, times, is_listed, IsGood}
use Rattle.tlsf_heap.specs.Inner.Positions.{plug}
use Rattle.tlsf_heap.proofs.Meaning.BlockPositions.{BlockPosition, pool_at, filled_pools, count-filled_pools}
use Rattle.tlsf_heap.proofs.Meaning.FreeFirst.{length-plug, is_first_free, covers_plug, pools_plug}

module _ {A : Type 0} where
  apart_plug : (front olds news : List (Block A)) → (NoFreeNeighbours (is_first_free front) olds → NoFreeNeighbours (is_first_free front) news) → NoFreeNeighbours false (plug front olds) → NoFreeNeighbours false (plug front news)
  apart_plug [] olds news apart = apart
  apart_plug (f ∷ front) olds news apart = apart_plug front (f ∷ olds) (f ∷ news) (λ n. (n.0, apart n.1))

  -- what the blocks that come behind others must have in common with those that go
  pub record IsRefill (before olds news : List (Block A)) (lists new_lists : List (List ℕ)) : Type 0 where
    pub covers : (from to : ℕ) → Covers from to olds → Covers from to news
    pub apart : NoFreeNeighbours (is_first_free before) olds → NoFreeNeighbours (is_first_free before) news
    pub full : length new_lists ≡ classes
    pub listed : (q p : ℕ) → q < classes → times p (list_of q new_lists) + count_by (is_listed q p) olds ≡ times p (list_of q lists) + count_by (is_listed q p) news

  pub refilled_is_good : (records : ℕ) (position : BlockPosition A) (olds news : List (Block A)) (lists new_lists : List (List ℕ)) → IsRefill position.before olds news lists new_lists
      → length (blocks_of (filled_pools position news)) ≤ records
      → IsGood (record { records = records; pools = filled_pools position olds; lists = lists }) → IsGood (record { records = records; pools = filled_pools position news; lists = new_lists })
  refilled_is_good records position olds news lists new_lists is few good = record {
    pools_few = omega (arith, good.pools_few, length-plug position.pools_before (pool_at position olds ∷ position.pools_behind), length-plug position.pools_before (pool_at position news ∷ position.pools_behind));
    pools_good = pools_plug position.pools_before (pool_at position olds ∷ position.pools_behind) (pool_at position news ∷ position.pools_behind) (λ from g. (g.0, pool_good g.1, g.2)) 0 good.pools_good;
    lists_count = is.full;
    listed = (λ q p within. omega (arith, good.listed q p within, is.listed q p within, count-filled_pools (is_listed q p) position olds, count-filled_pools (is_listed q p) position news));
    blocks_few = few;
  }
    where
      pool_good : IsGoodPool (pool_at position olds) → IsGoodPool (pool_at position news)
      pool_good g = record {
        base_in_units = g.base_in_units;
        bytes_in_units = g.bytes_in_units;
        least_bytes = g.least_bytes;
        most_bytes = g.most_bytes;
        ends = g.ends;
        covered = covers_plug (position.base + position.bytes) position.before olds news (λ from. is.covers from (position.base + position.bytes)) position.base g.covered;
        merged = apart_plug position.before olds news is.apart g.merged;
      }
