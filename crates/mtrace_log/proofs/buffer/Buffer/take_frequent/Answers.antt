-- What was read from the front is a line of the unread bytes.
use Rattle.std.proofs.Common.{◌≡◌, List, ℕ, sym, ap, ◌∙◌, subst}
use Rattle.std.specs.Prelude.{slice_range}
use Rattle.mtrace_log.specs.Buffer.{Buffered}
use Rattle.mtrace_log.specs.Frequent.{BeginsFrequent}
use Rattle.mtrace_log.proofs.FrequentLemmas.{frequent-taken}
use Rattle.mtrace_log.proofs.buffer.Buffer.take_frequent.Goals as goal

pub returns : goal.returns
returns c =
    let at = c.self.inside in
    let same : slice_range at.bytes at.start at.end ≡ c.args.self.now.unread = ap (λ (buffer : Buffered). buffer.unread) c.self.view_is in
    let P : List ℕ → Type 0 = λ bytes. BeginsFrequent bytes c.in_ok-frequent.frequent c.in_ok-frequent.len in
    let found : P (slice_range at.bytes at.start at.end) = subst P (c.unread.ensures ∙ sym same) c.in_ok-frequent.ensures in
    let taken = frequent-taken at.bytes at.start at.end c.in_ok-frequent.frequent c.in_ok-frequent.len found in
    ((taken.0.0, sym same ∙ taken.0.1), taken.1)
