-- The connection stands behind the others, and the message tells of it.
use Rattle.std.proofs.Common.{◌≡◌, ℕ, List, [], ◌∷◌, ◌++◌, Ok, refl, subst}
use Rattle.std.proofs.lemmas.Result.{IfOk-at_ok}
use Rattle.ft_props.specs.Properties.{Characters}
use Rattle.ft_msg.specs.declared.messages.Entry.{Entry}
use Rattle.ft_msg.specs.declared.messages.MsgKind.TheVariants as kind
use Rattle.ft_seqr.specs.Sequencer.{JoinedConnection, NaiveSequencer, join, next, notice}
use Rattle.ft_seqr.specs.SequencerCalls.{newcomer}
use Rattle.ft_seqr.proofs.sequencer.Sequencer.join.Goals as goal

joined_last : (q p : NaiveSequencer) (conn : ℕ) (name sender : Characters) (j : JoinedConnection) (js : List JoinedConnection) (entry : Entry)
    → j ≡ newcomer conn name q.minimum → js ≡ q.joined ++ j ∷ [] → p ≡ next js q → sender ≡ name → entry ≡ notice p conn sender kind.Join
    → join q conn name ≡ (p, entry)
joined_last q p conn name sender j js entry new pushed after same told = rw (told, same, after, pushed, new) refl

pub returns-clause-ok : goal.returns-clause-ok
returns-clause-ok c =
    let inside = c.self.inside in
    let q : NaiveSequencer = record { number = inside.number; minimum = inside.minimum; joined = inside.joined.items } in
    let conn = c.args.conn in
    let name = c.args.name.now in
    let pushed = c.in_ok-sender.ensures.ok in
    let new = IfOk-at_ok (λ (j : JoinedConnection). j ≡ newcomer conn name q.minimum)
    (IfOk-at_ok (λ (p : JoinedConnection × Characters). c.newcomer.result ≡ Ok p.0) pushed.1 c.both-made.ensures.first) c.newcomer.ensures in
    let same = IfOk-at_ok (λ (n : Characters). n ≡ name)
    (IfOk-at_ok (λ (p : JoinedConnection × Characters). c.copy.result ≡ Ok p.1) pushed.1 c.both-made.ensures.second) c.copy.ensures in
    subst (λ x. join x conn name ≡ (c.advance.new.self, c.notice.result)) c.self.view_is
    (joined_last q c.advance.new.self conn name c.in_ok-sender.sender pushed.0 _ c.notice.result new pushed.2 c.advance.ensures same
    c.notice.ensures)
