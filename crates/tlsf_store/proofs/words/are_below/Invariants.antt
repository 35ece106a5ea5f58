-- Each link so far is below the count.
use Rattle.std.proofs.Common.{All, take}
use Rattle.tlsf_store.specs.Records.{IsBelow}
use Rattle.tlsf_store.specs.Slots.{link_of}
use Rattle.tlsf_store.proofs.words.are_below.Given as goal

abbrev pub invariant-loop-word : goal.invariant-loop-word
invariant-loop-word l = All (λ word. IsBelow l.count (link_of word)) (take l.word-index l.words)
