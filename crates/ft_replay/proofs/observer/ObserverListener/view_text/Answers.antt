use Rattle.std.proofs.Common.{◌≡◌, ◌∙◌, Ok, subst}
use Rattle.std.proofs.lemmas.Result.{IfOk-at_ok, IfOk-weaker}
use Rattle.ft_msg.specs.declared.views.View.{View}
use Rattle.ft_msg.specs.Answers.{AnswersRead, numbers_of, view_content}
use Rattle.ft_msg.specs.Client.{NaiveClient, client_over}
use Rattle.ft_msg.specs.Content.{content}
use Rattle.ft_replay.proofs.Observing.{lines-shown}
use Rattle.ft_replay.proofs.observer.ObserverListener.view_text.Goals as goal

pub returns : goal.returns
returns g c = λ seen h.
    let r = g.R.Replica.state c.args.self.now.replica in
    let view = c.view-shown.ensures in
    IfOk-weaker c.shown_text.result _ _ (λ text k.
    let shows : AnswersRead (λ (v : View) (x : NaiveClient). view_content v ≡ content x) r (Ok k.0) =
    subst (AnswersRead (λ (v : View) (x : NaiveClient). view_content v ≡ content x) r) k.1 view.content in
    k.2 ∙ lines-shown k.0 r seen.doc h.runs.client (IfOk-at_ok (λ (v : View). v.numbers ≡ numbers_of r) k.1 view.numbers)
    (shows.1 (client_over seen.doc) h.reached h.runs.client)) c.shown_text.ensures
