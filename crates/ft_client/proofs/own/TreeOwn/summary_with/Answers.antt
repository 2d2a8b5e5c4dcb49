use Rattle.std.proofs.Common.{refl, subst}
use Rattle.ft_string.specs.Calls.{KeepsSummary}
use Rattle.ft_client.proofs.Idle.{table-saved, text-saved}
use Rattle.ft_client.proofs.Saved.{small, summed}
use Rattle.ft_client.proofs.own.TreeOwn.summary_with.Goals as goal

pub returns-clause-sum : goal.returns-clause-sum
returns-clause-sum c = λ held named e h.
    let s = c.args.self.now in
    let mid = c.save.new.doc in
    let new = c.save-2.new.doc in
    let conns = c.args.conns in
    let bare = c.bare_summary-sum.ensures in
    let keeps = subst (λ d. KeepsSummary d mid) bare c.in_ok-save.ensures.others in
    summed s c.requires conns held mid new h (text-saved s c.requires held named h conns c.bare_summary-sum.result mid bare c.in_ok-save.ensures.saves) keeps
    (table-saved s c.requires held named h conns mid new keeps c.in_ok-save-2.ensures)

pub returns-clause-small : goal.returns-clause-small
returns-clause-small c = λ held named h.
    let s = c.args.self.now in
    let conns = c.args.conns in
    let mid = c.save.new.doc in
    let new = c.save-2.new.doc in
    let keeps = subst (λ d. KeepsSummary d mid) c.bare_summary-sum.ensures c.in_ok-save.ensures.others in
    small s c.requires held conns mid new h (text-saved s c.requires held named h conns c.bare_summary-sum.result mid c.bare_summary-sum.ensures c.in_ok-save.ensures.saves) keeps
    (table-saved s c.requires held named h conns mid new keeps c.in_ok-save-2.ensures) (c.if-not-is_short.ensures refl)
