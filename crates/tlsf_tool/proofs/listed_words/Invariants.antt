use Rattle.std.proofs.Common.{◌≡◌, ◌++◌, length}
use Rattle.std.specs.Vec.Iter.{into_iter_items, into_iter_len}
use Rattle.tlsf_tool.proofs.listed_words.Given as goal

-- the words so far are listed, and the others are to come
abbrev pub invariant-loop-word : goal.invariant-loop-word
invariant-loop-word l = record {
  listed : l.words.items ≡ l.yielded;
  others : l.yielded ++ into_iter_items l.word-iterator ≡ into_iter_items l.initial.word-iterator;
  counted : into_iter_len l.word-iterator ≡ length (into_iter_items l.word-iterator);
}
