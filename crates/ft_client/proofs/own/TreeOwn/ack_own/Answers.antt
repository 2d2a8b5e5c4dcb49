use Rattle.std.proofs.Common.{◌∙◌, ◌+◌, ℕ, refl, subst, sym}
use Rattle.ft_string.specs.Calls.{AreOldest, HoldsOldest}
use Rattle.ft_client.proofs.AckedParts.{on-grid, on-text}
use Rattle.ft_client.proofs.own.TreeOwn.ack_own.Goals as goal

pub ack-requires-clause-held : goal.ack-requires-clause-held
ack-requires-clause-held c =
    subst (λ n. (last : ℕ) × HoldsOldest last 1 (1 + n) c.args.self.now.text) (sym c.last_number.ensures)
    (c.requires.front.of_text (sym c.are_of_text.ensures ∙ c.if-are_of_text.true))

pub ack_table-requires-clause-held : goal.ack_table-requires-clause-held
ack_table-requires-clause-held c = c.requires.front.of_grid (c.requires.front.of_one (sym c.are_of_text.ensures ∙ c.if-are_of_text.false))

pub returns-then-are_of_text : goal.returns-then-are_of_text
returns-then-are_of_text c =
    let s = c.args.self.now in
    on-text c.ack.result c.args.own.now c.args.entry.now.msg.seq c.args.entry.now.origin s (record c.args.self.now { text = c.ack.new.self })
    (sym c.are_of_text.ensures ∙ c.if-are_of_text.true)
    (λ last doc mine rest a i t. c.ack.ensures.acked last doc mine rest (subst (λ n. AreOldest 1 (1 + n) mine rest) (sym c.last_number.ensures) a) i t) c.ack.ensures.rest refl

pub returns-else-are_of_text : goal.returns-else-are_of_text
returns-else-are_of_text c =
    let s = c.args.self.now in
    on-grid c.ack_table.result c.args.own.now c.args.entry.now.msg.seq c.args.entry.now.origin s (record c.args.self.now { table = c.ack_table.new.table })
    (c.requires.front.of_one (sym c.are_of_text.ensures ∙ c.if-are_of_text.false))
    (λ last doc mine rest n w a t. c.ack_table.ensures.acked last doc mine rest n w a t) c.ack_table.ensures.rest refl
