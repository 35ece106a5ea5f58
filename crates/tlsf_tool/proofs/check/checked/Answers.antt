-- The file is read, and what is told of its image is put.
use Rattle.std.proofs.Common.{rules, ℕ, List, ap, ◌∙◌, subst, inl, inr, refl}
use Rattle.mtrace_log.specs.Output.{Wrote, Begins}
use Rattle.tlsf_tool.specs.Checking.{image_in, IsLoaded}
use Rattle.tlsf_tool.proofs.CheckLemmas.{no_write, status_is, told_is}
use Rattle.tlsf_tool.proofs.check.checked.Goals as goal

pub returns-in_err-bytes : goal.returns-in_err-bytes
returns-in_err-bytes g c = record {
  checks = search rules;
  flushed = search rules;
  read = search rules;
  not_failed = search rules;
  begun = no_write c.from_residual.result _ c.from_residual.ensures.1 c.in_err-bytes.ensures.faults;
  write = no_write c.from_residual.result _ c.from_residual.ensures.1 c.in_err-bytes.ensures.faults;
  unwritten = search rules;
  faults = search rules;
}

pub returns-in-Ok-put_loaded : goal.returns-in-Ok-put_loaded
returns-in-Ok-put_loaded g c =
    let writes = g.W.Sink.shown in
    let image = c.image_in.ensures ∙ ap image_in c.as_slice.ensures.value in
    let is = subst (λ (bytes : List ℕ). IsLoaded bytes c.in-Ok.loaded) image c.in-Ok.ensures in
    let P : List ℕ → Type 0 = λ text. Wrote (writes c.args.writer.now) (writes c.put_loaded.new.writer) text in
    record {
      checks = record {
        bytes = c.in_ok-bytes.bytes.items;
        read = c.in_ok-bytes.ensures.read;
        wrote = subst P (told_is c.args.report (image_in c.in_ok-bytes.bytes.items) c.in-Ok.loaded is) c.in-Ok-put_loaded.ensures.0;
        status_is = c.status_of-status.ensures ∙ status_is (image_in c.in_ok-bytes.bytes.items) c.in-Ok.loaded is;
      };
      flushed = c.in-Ok-put_loaded.ensures.1;
      read = λ failed. absurd (cc);
      not_failed = λ other. c.in_ok-bytes.ensures.not_failed (λ is. cc);
      begun = λ failed. absurd (cc);
      write = λ failed. absurd (cc);
      unwritten = λ other. tt;
      faults = tt;
    }

pub returns : goal.returns
returns g c =
    let writes = g.W.Sink.shown in
    let image = c.image_in.ensures ∙ ap image_in c.as_slice.ensures.value in
    let is = subst (λ (bytes : List ℕ). IsLoaded bytes c.in-Ok.loaded) image c.in-Ok.ensures in
    let P : List ℕ → Type 0 = λ text. Begins (writes c.args.writer.now) (writes c.put_loaded.new.writer) text in
    record {
      checks = tt;
      flushed = tt;
      read = λ failed. absurd (cc);
      not_failed = λ other. c.in_ok-bytes.ensures.not_failed (λ is. cc);
      begun = λ failed. record {
        bytes = c.in_ok-bytes.bytes.items;
        read = c.in_ok-bytes.ensures.read;
        begun = subst P (told_is c.args.report (image_in c.in_ok-bytes.bytes.items) c.in-Ok.loaded is) c.in-Err.ensures.0;
      };
      write = λ failed. c.in-Err.ensures.1;
      unwritten = λ other. absurd (other refl);
      faults = inr (inl refl);
    }
