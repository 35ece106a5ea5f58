-- How many blocks the plain heap's pools have.
use Rattle.std.proofs.Common.{◌≡◌, ℕ, ◌+◌, ◌<◌, ◌≤◌, List, length, ap, arith, get_or, take}
use Rattle.std.proofs.lemmas.List.Folds.{length-flat_map-take}
use Rattle.tlsf_heap.specs.Content.{Pool, blocks_of}

-- the blocks so far and those of the next pool are some of all
pub blocks_so_far : (pools : List (Pool ℕ)) (index : ℕ) (pool : Pool ℕ) → index < length pools → pool ≡ get_or pools index pool → length (blocks_of (take index pools)) + length pool.blocks ≤ length (blocks_of pools)
blocks_so_far pools index pool below is =
    let more = length-flat_map-take (λ (p : Pool ℕ). p.blocks) pools index pool below in
    omega (arith, more, ap (λ (p : Pool ℕ). length p.blocks) is)
