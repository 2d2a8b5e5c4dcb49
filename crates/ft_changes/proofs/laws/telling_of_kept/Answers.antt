use Rattle.ft_changes.proofs.CellsTold.{kept-unset-cells-tell-nothing}
use Rattle.ft_changes.proofs.KeptClients.{kept-is-shown, told-by-stand-in}
use Rattle.ft_changes.proofs.KeptEdits.{kept-edits-leave-cells, kept-edits-tell-their-intervals}
use Rattle.ft_changes.proofs.KeptTells.{kept-ack-tells-nothing, kept-join-tells-nothing, kept-tells, kept-tells-edits}
use Rattle.ft_changes.proofs.KeptTold.{kept-tells-the-same}
use Rattle.ft_changes.proofs.MessageIntervals.{kept-messages-tell-their-intervals}
use Rattle.ft_changes.proofs.NamelessClients.{nameless-is-shown}
use Rattle.ft_changes.proofs.QuietIntervals.{kept-quiet-intervals}
use Rattle.ft_changes.proofs.laws.telling_of_kept.Goals as goal

pub returns-clause-shown : goal.returns-clause-shown
returns-clause-shown c = kept-is-shown

pub returns-clause-leads : goal.returns-clause-leads
returns-clause-leads c = told-by-stand-in

pub returns-clause-tells : goal.returns-clause-tells
returns-clause-tells c = kept-tells

pub returns-clause-edits : goal.returns-clause-edits
returns-clause-edits c = kept-tells-edits

pub returns-clause-nameless : goal.returns-clause-nameless
returns-clause-nameless c = nameless-is-shown

pub returns-clause-joins : goal.returns-clause-joins
returns-clause-joins c = kept-join-tells-nothing

pub returns-clause-acks : goal.returns-clause-acks
returns-clause-acks c = kept-ack-tells-nothing

pub returns-clause-same : goal.returns-clause-same
returns-clause-same c = kept-tells-the-same

pub returns-clause-cells : goal.returns-clause-cells
returns-clause-cells c = kept-unset-cells-tell-nothing

pub returns-clause-quiet : goal.returns-clause-quiet
returns-clause-quiet c = kept-quiet-intervals

pub returns-clause-texts : goal.returns-clause-texts
returns-clause-texts c = kept-edits-leave-cells

pub returns-clause-edited : goal.returns-clause-edited
returns-clause-edited c = kept-edits-tell-their-intervals

pub returns-clause-told : goal.returns-clause-told
returns-clause-told c = kept-messages-tell-their-intervals
