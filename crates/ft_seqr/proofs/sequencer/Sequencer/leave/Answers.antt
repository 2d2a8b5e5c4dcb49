use Rattle.std.proofs.Common.{◌≡◌, ◌∙◌, ℕ, Option, Some, None, refl, sym, ap, subst, rules, not}
use Rattle.std.specs.List.{filter, find}
use Rattle.std.proofs.lemmas.Fn.{filter_same}
use Rattle.ft_msg.specs.declared.messages.Entry.{Entry}
use Rattle.ft_msg.specs.declared.messages.MsgKind.TheVariants as kind
use Rattle.ft_seqr.specs.Sequencer.{JoinedConnection, NaiveSequencer, is_joined, leave, next, notice}
use Rattle.ft_seqr.proofs.sequencer.Sequencer.leave.Goals as goal

-- what is answered where this was found
abbrev answer : NaiveSequencer → ℕ → Option JoinedConnection → Option (NaiveSequencer × Entry)
answer q conn None = None
answer q conn (Some j) = let p = next (filter (λ i. not (is_joined conn i)) q.joined) q in Some (p, notice p conn j.name kind.Leave)

answered : (q : NaiveSequencer) (conn : ℕ) (o : Option JoinedConnection) → find (is_joined conn) q.joined ≡ o → leave q conn ≡ answer q conn o
answered q conn None e = ap (answer q conn) e
answered q conn (Some j) e = ap (answer q conn) e

left : (q p : NaiveSequencer) (conn : ℕ) (j : JoinedConnection) (entry : Entry) → find (is_joined conn) q.joined ≡ Some j
    → p ≡ next (filter (λ i. not (is_joined conn i)) q.joined) q → entry ≡ notice p conn j.name kind.Leave → leave q conn ≡ Some (p, entry)
left q p conn j entry found after told = answered q conn (Some j) found ∙ rw (told, after) refl

pub returns-clause-ok : goal.returns-clause-ok
returns-clause-ok c =
    let inside = c.self.inside in
    let q : NaiveSequencer = record { number = inside.number; minimum = inside.minimum; joined = inside.joined.items } in
    let conn = c.args.conn in
    let kept = filter_same _ (λ i. not (is_joined conn i)) _ (λ x b f' k. search rules) inside.joined.items _ c.retain.ensures.filtered in
    let found = sym (c.in-Some.ensures ∙ ap (find (is_joined conn)) c.as_slice.ensures.value) in
    let name = c.in_ok-sender.ensures ∙ ap (λ (x : JoinedConnection). x.name) c.joined.view_is in
    let told = c.notice.ensures ∙ ap (λ n. notice c.advance.new.self conn n kind.Leave) name in
    subst (λ x. leave x conn ≡ Some (c.advance.new.self, c.notice.result)) c.self.view_is
    (left q c.advance.new.self conn c.in-Some.joined.now c.notice.result found (c.advance.ensures ∙ ap (λ js. next js q) kept) told)
