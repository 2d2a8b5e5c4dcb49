use Rattle.std.proofs.Common.{◌∙◌, ◌-◌, ◌<◌, ap, length, subst, sym}
use Rattle.ft_client.proofs.AckedGrids.{row-lowest, row-numbers}
use Rattle.ft_client.proofs.own.acks.ack_table.Goals as goal

pub ack-requires-clause-lowest : goal.ack-requires-clause-lowest
ack-requires-clause-lowest c =
    let k = c.requires.held.1 in
    row-lowest c.requires.held.0 c.args.seq c.args.conn k.doc k.mine k.rest c.args.own.now c.in-Some.first.now c.args.table.now k.numbers
    (sym c.in-Some.ensures.value) k.named k.holds k.counted

pub returns-then-saturating_sub-own-clause-acked : goal.returns-then-saturating_sub-own-clause-acked
returns-then-saturating_sub-own-clause-acked c = λ last doc mine rest n named counted h.
    c.ack.ensures.acked last doc mine rest named h
    (row-numbers last mine rest c.args.own.now c.in-Some.first.now n (sym c.in-Some.ensures.value) named.rise
    (subst (λ m. m < length c.args.own.now) (c.saturating_sub.ensures ∙ ap (λ m. m - c.in-Some.first.now.stage) c.last_number.ensures) c.if-saturating_sub-own.true)) counted
