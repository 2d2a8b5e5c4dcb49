use Rattle.ft_changes.proofs.AckedClient.{ack-moves-none}
use Rattle.ft_changes.proofs.CellsTold.{unset-cells-tell-nothing}
use Rattle.ft_changes.proofs.KeptEdits.{edits-leave-cells, edits-tell-their-intervals}
use Rattle.ft_changes.proofs.LocalLaw.{told-edit-leads-on}
use Rattle.ft_changes.proofs.MessageIntervals.{messages-tell-their-intervals}
use Rattle.ft_changes.proofs.NothingTold.{ack-tells-nothing, own-join-tells-nothing}
use Rattle.ft_changes.proofs.QuietIntervals.{quiet-intervals}
use Rattle.ft_changes.proofs.SetCells.{told-cells-set}
use Rattle.ft_changes.proofs.ShownViews.{shown-is-content}
use Rattle.ft_changes.proofs.ToldLaw.{lists-lead, told-leads-on}
use Rattle.ft_changes.proofs.laws.telling.Goals as goal

pub returns-clause-kept : goal.returns-clause-kept
returns-clause-kept c = shown-is-content

pub returns-clause-lists : goal.returns-clause-lists
returns-clause-lists c = lists-lead

pub returns-clause-leads : goal.returns-clause-leads
returns-clause-leads c = told-leads-on

pub returns-clause-edits : goal.returns-clause-edits
returns-clause-edits c = told-edit-leads-on

pub returns-clause-joins : goal.returns-clause-joins
returns-clause-joins c = own-join-tells-nothing

pub returns-clause-acks : goal.returns-clause-acks
returns-clause-acks c = ack-moves-none

pub returns-clause-own : goal.returns-clause-own
returns-clause-own c = ack-tells-nothing

pub returns-clause-cells : goal.returns-clause-cells
returns-clause-cells c = unset-cells-tell-nothing

pub returns-clause-quiet : goal.returns-clause-quiet
returns-clause-quiet c = quiet-intervals

pub returns-clause-set : goal.returns-clause-set
returns-clause-set c = told-cells-set

pub returns-clause-texts : goal.returns-clause-texts
returns-clause-texts c = edits-leave-cells

pub returns-clause-edited : goal.returns-clause-edited
returns-clause-edited c = edits-tell-their-intervals

pub returns-clause-told : goal.returns-clause-told
returns-clause-told c = messages-tell-their-intervals
