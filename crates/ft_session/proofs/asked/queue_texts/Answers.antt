-- One text more.
use Rattle.std.proofs.Common.{◌∙◌, ◌++◌, ◌∷◌, ℕ, List, [], ap, map, sym, arith}
use Rattle.serde_json.specs.Written.{compact_text}
use Rattle.ft_msg.specs.declared.messages.Draft.{Draft}
use Rattle.ft_msg.specs.Written.{written_draft}
use Rattle.std.proofs.lemmas.List.{take_all}
use Rattle.ft_session.proofs.Asking.{added-known, none-left, one-more}
use Rattle.ft_session.proofs.asked.queue_texts.Goals as goal
use Rattle.ft_session.proofs.asked.queue_texts.Goals.{else-loop-i-test, then-loop-i-test+in_default}

pub loop-i-preserved : goal.loop-i-preserved
loop-i-preserved g c = added-known _ c.write_draft.result c.loop-i.values c.push_text.new.texts c.write_draft.ensures.text c.in_ok-push_text.ensures
    ∙ ap (λ (ts : List (List ℕ)). ts ++ (compact_text (written_draft c.in-Some.draft.now) ∷ [])) c.loop-i.invariant
    ∙ sym (one-more c.loop-i.i (g.R.Replica.state c.args.replica.now).client.queue c.in-Some.draft.now (sym c.in-Some.ensures))

pub returns : goal.returns
returns g c = elim c.loop-i-test.branch [
  | else-loop-i-test w ↦ c.loop-i.invariant ∙ ap (λ (ds : List Draft). map compact_text (map written_draft ds))
      (take_all c.loop-i.i (g.R.Replica.state c.args.replica.now).client.queue (let h = w.loop-i-test.false in let e = c.queued-i-end.ensures in omega (arith, h, e)))
  | then-loop-i-test+in_default w ↦ c.loop-i.invariant ∙ ap (λ (ds : List Draft). map compact_text (map written_draft ds))
      (none-left c.loop-i.i (g.R.Replica.state c.args.replica.now).client.queue (sym w.in_default.ensures))
]
