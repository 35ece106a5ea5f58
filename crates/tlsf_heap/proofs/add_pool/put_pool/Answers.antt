-- The pool's block is written with its links, its entry is put, and the block is first in its list.
use Rattle.std.proofs.Common.{◌≡◌, ℕ, ◌<◌, List, length, ap, ◌∙◌, Option, Some}
use Rattle.tlsf_class.specs.Classes.{class}
use Rattle.tlsf_store.specs.Cells.{Cells, with_record, head_at}
use Rattle.tlsf_store.specs.declared.pools.Pool.{Pool as StoredPool}
use Rattle.tlsf_heap.specs.Inner.Edits.{IsUsed, put_first}
use Rattle.tlsf_heap.specs.Inner.Entries.{entries_of, with_entries}
use Rattle.tlsf_heap.specs.Inner.Nodes.{pool_node}
use Rattle.tlsf_heap.proofs.Inserted.{insert_is}
use Rattle.tlsf_heap.proofs.Inner.Entered.{pool_is_laid, pool_written}
use Rattle.tlsf_heap.proofs.Inner.PoolMoves.{with_entry, free_record, pool_entered}
use Rattle.tlsf_heap.proofs.Inner.Used.{head_used}
use Rattle.tlsf_heap.proofs.Inner.Written.{used_written}
use Rattle.tlsf_heap.proofs.add_pool.put_pool.Goals as goal

pub put_first-requires-clause-slot_used : goal.put_first-requires-clause-slot_used
put_first-requires-clause-slot_used c =
    rw (c.set_entries.ensures.cells, c.write.ensures.left.cells, c.head-second.ensures.left.cells) (used_written c.args.store.now.cells.records c.args.entry.first _ (λ e. cc) (Some c.args.entry.first) c.requires.slot_used)

pub put_first-requires-clause-first_used : goal.put_first-requires-clause-first_used
put_first-requires-clause-first_used c =
    let old : Cells = c.args.store.now.cells in
    let used : IsUsed old.records c.head-second.result = rw (c.head-second.ensures.value, c.class_of-class.ensures) (head_used old _ (pool_node c.args.entry) c.requires.taken.1) in
    rw (c.set_entries.ensures.cells, c.write.ensures.left.cells, c.head-second.ensures.left.cells) (used_written old.records c.args.entry.first _ (λ e. cc) c.head-second.result used)

-- the cells once the pool is there
laid : (old read put new : Cells) (entry : StoredPool) (all : List StoredPool) (second : Option ℕ) (number : ℕ) → entry.first < length old.records → read ≡ old → number ≡ class entry.bytes → second ≡ head_at old.heads number
    → all ≡ with_entry entry (entries_of old.pools) → put ≡ with_entries all (with_record read entry.first (record (free_record entry.base entry.bytes) { next_free = second })) → new ≡ put_first number entry.first second put → new ≡ pool_entered entry old
laid old read put new entry all second number below same class_is second_is all_is put_is new_is =
    let head : second ≡ head_at old.heads (class entry.bytes) = second_is ∙ ap (head_at old.heads) class_is in
    new_is
    ∙ (λ i. put_first (class_is i) entry.first (head i) (put_is i))
    ∙ (λ i. put_first (class entry.bytes) entry.first (head_at old.heads (class entry.bytes)) (with_entries (all_is i) (with_record (same i) entry.first (record (free_record entry.base entry.bytes) { next_free = head i }))))
    ∙ pool_written old entry below

pub returns-clause-leads : goal.returns-clause-leads
returns-clause-leads c layout was =
    let items : List StoredPool = c.args.entries.now in
    let all : c.as_slice.result.now ≡ with_entry c.args.entry (entries_of c.args.store.now.cells.pools) =
    rw (c.as_slice.ensures.value, c.entries_with-all.ensures, c.unwrap_or-place.ensures, c.first_behind.ensures.number, insert_is (λ (e : StoredPool). e.base) c.args.entry items, c.requires.entries) in
    rw (laid c.args.store.now.cells c.head-second.new.self.cells c.set_entries.new.store.cells c.put_first.new.store.cells c.args.entry c.as_slice.result.now c.head-second.result c.class_of-class.result c.requires.slot_used.0 c.head-second.ensures.left.cells c.class_of-class.ensures c.head-second.ensures.value all (c.set_entries.ensures.cells ∙ ap (with_entries c.as_slice.result.now) c.write.ensures.left.cells) c.put_first.ensures.cells)
    (pool_is_laid c.args.store.now.cells c.args.entry layout was).laid
