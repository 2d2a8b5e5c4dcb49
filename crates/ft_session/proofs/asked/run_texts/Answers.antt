-- One text more.
use Rattle.std.proofs.Common.{◌+◌, drop}
use Rattle.std.proofs.lemmas.List.{drop_more}
use Rattle.serde_json.specs.Written.{compact_text}
use Rattle.ft_attrib.specs.declared.attribution.AttrRun.{AttrRun}
use Rattle.ft_attrib.specs.declared.attribution.Origin.TheVariants.{Known}
use Rattle.ft_seqr.specs.AnswerTexts.{written_origin_run}
use Rattle.ft_session.proofs.Asking.{text-added}
use Rattle.ft_session.proofs.asked.run_texts.Goals as goal

pub loop-run-preserved : goal.loop-run-preserved
loop-run-preserved c =
    let none : AttrRun = record { start = 0; end = 0; who = Known 0 0 } in
    text-added (written_origin_run c.args.names.now) compact_text c.args.runs.now (drop c.loop-run.run-index c.args.runs.now)
    (drop (c.loop-run.run-index + 1) c.args.runs.now) _ c.origin_run_text.result c.loop-run.values c.push_text.new.texts
    (drop_more c.args.runs.now c.loop-run.run-index none c.loop-run-test.true) c.origin_run_text.ensures c.in_ok-push_text.ensures
    c.loop-run.invariant
