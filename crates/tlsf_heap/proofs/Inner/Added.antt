-- What add_pool's answers mean for the content of cells that stand.
use Rattle.std.proofs.Common.{◌≡◌, ℕ, ◌<◌, ◌≤◌, Bool, true, false, ◌&&◌, List, length, refl, sym, ap, ◌∙◌, arith, Ok, Err}
use Rattle.std.specs.Prelude.{nat_le}
use Rattle.std.specs.List.{list_all}
use Rattle.std.proofs.lemmas.Bool.{le-leb, lt-leb, leb-true, and_parts}
use Rattle.tlsf_class.specs.Classes.{unit}
use Rattle.tlsf_store.specs.declared.records.State.TheVariants.{Free}
use Rattle.tlsf_store.specs.Records.{blank, blank_in, record_at, vacant_count}
use Rattle.tlsf_store.specs.Cells.{Cells, most_pools}
use Rattle.tlsf_store.proofs.RecordLaws.{vacant_count-take}
use Rattle.tlsf_heap.specs.declared.refusal.Refusal.TheVariants.{BadPool, PoolsFull, TableFull}
use Rattle.tlsf_store.specs.declared.pools.Pool.{Pool as StoredPool}
use Rattle.tlsf_heap.specs.Content.{used_records}
use Rattle.tlsf_heap.specs.Pools.{add_pool, with_pool, can_be_pool, is_apart}
use Rattle.tlsf_heap.specs.Inner.Entries.{is_entry_apart, entries_of}
use Rattle.tlsf_heap.specs.Inner.Nodes.{Node, Listed, turned, content_by, pool_node, pool_laid}
use Rattle.tlsf_heap.specs.Inner.Represents.{Represents}
use Rattle.tlsf_heap.specs.Inner.Positions.{is_loose}
use Rattle.tlsf_heap.specs.Inner.Following.{content_of, Stands}
use Rattle.tlsf_heap.proofs.Good.MallocIsGood.{add_pool_is_good}
use Rattle.tlsf_heap.proofs.Inner.Followed.{records_are, content_is, stood_for}
use Rattle.tlsf_heap.proofs.Inner.Standing.{apart_is, pools_length, used_are, content_is_good}
use Rattle.tlsf_heap.proofs.Meaning.Entered.{count-with_area, pool_laid_is}

-- what can be a pool's bytes are some
pub least_bytes : (base bytes : ℕ) → can_be_pool base bytes ≡ true → unit ≤ bytes
least_bytes base bytes can = leb-true _ _ (and_parts _ _ (and_parts _ _ (and_parts _ _ can).1).1).0

-- whether a pool from base on may enter beside the entries
abbrev pub is_allowed : ℕ → ℕ → List StoredPool → Bool
is_allowed base bytes entries = can_be_pool base bytes && list_all (is_entry_apart base bytes) entries

module _ (cells : Cells) (stands : Stands cells) (base bytes : ℕ) where
  allowed_is : (can_be_pool base bytes && list_all (is_apart base bytes) (content_of cells).pools) ≡ is_allowed base bytes (entries_of cells.pools)
  allowed_is = ap (λ b. can_be_pool base bytes && b) (apart_is cells stands base bytes)

  pub refused_bad : is_allowed base bytes (entries_of cells.pools) ≡ false → add_pool base bytes (content_of cells) ≡ Err BadPool
  refused_bad bad = rw (allowed_is ∙ bad) refl

  module _ (allowed : is_allowed base bytes (entries_of cells.pools) ≡ true) where
    pub refused_pools : most_pools ≤ length (entries_of cells.pools) → add_pool base bytes (content_of cells) ≡ Err PoolsFull
    refused_pools full =
        let no_more : nat_le most_pools (length (content_of cells).pools) ≡ true = le-leb _ _ (omega (arith, full, pools_length cells stands)) in
        rw (allowed_is ∙ allowed, no_more) refl

    module _ (few : length (entries_of cells.pools) < most_pools) where
      some_more : nat_le most_pools (length (content_of cells).pools) ≡ false
      some_more = lt-leb _ _ (omega (arith, few, pools_length cells stands))

      pub refused_records : vacant_count cells.records ≡ 0 → add_pool base bytes (content_of cells) ≡ Err TableFull
      refused_records none =
          let none_left : nat_le (content_of cells).records (used_records (content_of cells)) ≡ true = le-leb _ _ (omega (arith, none, used_are cells stands, records_are cells)) in
          rw (allowed_is ∙ allowed, some_more, none_left) refl

      -- where a record is vacant
      module _ (slot : ℕ) (within : slot < length cells.records) (vacant : record_at cells.records slot ≡ blank) where
        is_added : add_pool base bytes (content_of cells) ≡ Ok (with_pool base bytes (content_of cells))
        is_added =
            let some_left : nat_le (content_of cells).records (used_records (content_of cells)) ≡ false =
            lt-leb _ _ (omega (arith, used_are cells stands, records_are cells, vacant_count-take cells.records slot (blank_in Free) within vacant (λ e. cc))) in
            rw (allowed_is ∙ allowed, some_more, some_left) refl

        pub pool_added : (new : Cells) → Represents new (pool_laid (record { base = base; bytes = bytes; first = slot }) stands.layout) → Stands new × (add_pool base bytes (content_of cells) ≡ Ok (content_of new))
        pool_added new after =
            let entry : StoredPool = record { base = base; bytes = bytes; first = slot } in
            let loose : Node → Bool = λ node. is_loose node.state in
            let is : content_by (pool_laid entry stands.layout) ≡ with_pool base bytes (content_of cells) =
            pool_laid_is entry stands.layout stands.represented.index.lists_count (λ e. omega (arith, e, least_bytes base bytes (and_parts _ _ allowed).0)) ∙ ap (with_pool base bytes) (sym (stood_for cells stands)) in
            let added : add_pool base bytes (content_of cells) ≡ Ok (content_by (pool_laid entry stands.layout)) = is_added ∙ ap (λ content. Ok content) (sym is) in (
              record {
                layout = pool_laid entry stands.layout;
                represented = after;
                settled = omega (arith, count-with_area loose entry (turned Listed (pool_node entry)) stands.layout.areas, stands.settled);
                none_taken = stands.none_taken;
                good = add_pool_is_good base bytes (content_of cells) _ (content_is_good cells stands) added;
              },
              added ∙ ap (λ content. Ok content) (sym (content_is new (pool_laid entry stands.layout) after)),
            )
