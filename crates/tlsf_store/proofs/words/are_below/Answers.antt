-- One link more is below the count in each turn.
use Rattle.std.proofs.Common.{◌∙◌, sym, refl, arith}
use Rattle.std.proofs.lemmas.Bool.{false≢true}
use Rattle.std.proofs.lemmas.List.Elements.{All-more, All-map}
use Rattle.tlsf_store.specs.Records.{IsBelow}
use Rattle.tlsf_store.specs.Slots.{link_of}
use Rattle.tlsf_store.proofs.Heads.{head_below, all_taken}
use Rattle.tlsf_store.proofs.words.are_below.Goals as goal

pub returns-then-not-is_below : goal.returns-then-not-is_below
returns-then-not-is_below c = (
  λ never. absurd (false≢true never),
  λ all.
      let here = head_below c.args.count c.args.words.now all c.loop-word.word-index 0 c.loop-word-test.true in
      absurd (false≢true (sym c.if-not-is_below.true ∙ c.is_below.ensures.1 here)),
)

pub loop-word-preserved : goal.loop-word-preserved
loop-word-preserved c =
    All-more (λ word. IsBelow c.args.count (link_of word)) c.args.words.now c.loop-word.word-index 0 c.loop-word-test.true c.loop-word.invariant (c.is_below.ensures.0 c.if-not-is_below.false)

pub returns : goal.returns
returns c = (
  λ yes. All-map (IsBelow c.args.count) link_of c.args.words.now (all_taken (λ word. IsBelow c.args.count (link_of word)) c.args.words.now c.loop-word.word-index (omega arith) c.loop-word.invariant),
  λ all. refl,
)
