-- What clap answers is help, a version, a fault, or matches.
use Rattle.std.proofs.Common.{subst, Option, List}
use Rattle.std.proofs.lemmas.Result.{IfErr-weaker, IfOk-weaker}
use Rattle.tlsf_tool.specs.CommandLine.{MatchesAskFor, texts_of, wrong_with}
use Rattle.clap.specs.Words.{app_of, Row, Text}
use Rattle.tlsf_tool.proofs.CommandLineLemmas.{asks_nothing, explained, explains_words, finds, never_asks, no_report_explains, nothing_wrong, some_wrong}
use Rattle.tlsf_tool.proofs.words.command.Goals as goal

pub returns-in-Ok-try_get_matches_from : goal.returns-in-Ok-try_get_matches_from
returns-in-Ok-try_get_matches_from c =
    let none = nothing_wrong (app_of c.in-Ok.line) (texts_of c.args.words.now) c.in-Ok.ensures c.in-Ok-try_get_matches_from.ensures.kinds in
    let found = finds (app_of c.in-Ok.line) (texts_of c.args.words.now) c.in-Ok.ensures c.in-Ok-try_get_matches_from.matches c.in-Ok-try_get_matches_from.ensures.matches in
    record {
      asked = IfOk-weaker c.asked.result _ _ (λ command asks. (none, subst (λ (f : Option (Text × List Row)). MatchesAskFor f command) found asks)) c.asked.ensures.asked;
      faults = IfErr-weaker c.asked.result _ _ (λ fault h. no_report_explains c.args.words.now fault none h) c.asked.ensures.faults;
      nothing_asked = IfErr-weaker c.asked.result _ _ (λ fault h. never_asks c.args.words.now fault _ found h) c.asked.ensures.faults;
    }

pub returns-in-Err : goal.returns-in-Err
returns-in-Err c =
    let some = some_wrong (app_of c.in-Ok.line) (texts_of c.args.words.now) c.in-Ok.ensures c.in-Err.error c.in-Err.ensures.kinds in
    let told = explained (wrong_with c.args.words.now) c.in-Err.error c.fault_of.result some c.fault_of.ensures in
    record {
      asked = tt;
      faults = explains_words c.args.words.now c.fault_of.result told;
      nothing_asked = asks_nothing c.args.words.now c.fault_of.result told;
    }
