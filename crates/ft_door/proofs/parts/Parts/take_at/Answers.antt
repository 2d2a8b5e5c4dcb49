use Rattle.std.proofs.Common.{ℕ, ◌<◌, ◌≡◌, ◌+◌, ap, length, subst, sym}
use Rattle.std.proofs.lemmas.Result.{IfOk-weaker}
use Rattle.ft_msg.specs.declared.messages.Entry.{Entry}
use Rattle.ft_msg.specs.declared.messages.Message.{Message}
use Rattle.ft_seqr.specs.World.{body_load}
use Rattle.ft_door.specs.Editors.{EditorState, IsNextFor, TellsStep, next_exceeds, table_limit, take_next}
use Rattle.ft_door.proofs.Editing.{awaited-taken, state_of}
use Rattle.ft_door.proofs.parts.Parts.take_at.Goals as goal

abbrev entry_of : Message → ℕ → Entry
entry_of m origin = record { msg = m; origin = origin }

pub sender_number-requires : goal.sender_number-requires
sender_number-requires g c = subst (λ (s : EditorState). length s.names < table_limit) (sym c.self.view_is) c.requires.room

pub take_entry-requires-clause-join : goal.take_entry-requires-clause-join
take_entry-requires-clause-join g c = λ joins.
    let i = c.self.inside in
    let m = c.args.entry.now.msg in
    awaited-taken (state_of (g.R.Replica.state i.replica) i.told i.names i.name i.waits i.load) m c.in_ok-origin.origin c.is_awaited-joins.result
    (subst (λ (s : EditorState). IsNextFor s m) (sym c.self.view_is) c.requires.next) c.is_awaited-joins.ensures joins

pub returns : goal.returns
returns g c =
    let i = c.self.inside in
    let old = state_of (g.R.Replica.state i.replica) i.told i.names i.name i.waits i.load in
    let m = c.args.entry.now.msg in
    let sum : c.args.load ≡ old.load + (1 + body_load m.body) = subst (λ (s : EditorState). c.args.load ≡ s.load + (1 + body_load m.body)) (sym c.self.view_is) c.requires.sum in
    IfOk-weaker c.take_entry.result _ _ (λ told t. subst (λ (s : EditorState). TellsStep told s c.take_entry.new.self (λ x. take_next x m) (λ x. next_exceeds x m.body)) c.self.view_is t)
    (c.take_entry.ensures old m (ap (entry_of m) c.in_ok-origin.ensures.ok) (ap (λ names. state_of (g.R.Replica.state i.replica) i.told names i.name i.waits i.load) c.in_ok-origin.ensures.names)
    c.is_awaited-joins.ensures sum)
