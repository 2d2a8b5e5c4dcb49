use Rattle.ft_laws_names.proofs.OneAnswersAll.{one-compaction-serves-all, one-connect-answers-all, one-drop-answers-all, one-edit-answers-all, one-entry-answers-all, one-idle-answers-all, one-summary-answers-all, one-view-answers-all}
use Rattle.ft_laws_names.proofs.naming.replicas.Goals as goal

pub returns-clause-edits : goal.returns-clause-edits
returns-clause-edits c = one-edit-answers-all

pub returns-clause-entries : goal.returns-clause-entries
returns-clause-entries c = one-entry-answers-all

pub returns-clause-connects : goal.returns-clause-connects
returns-clause-connects c = one-connect-answers-all

pub returns-clause-drops : goal.returns-clause-drops
returns-clause-drops c = one-drop-answers-all

pub returns-clause-idles : goal.returns-clause-idles
returns-clause-idles c = one-idle-answers-all

pub returns-clause-shows : goal.returns-clause-shows
returns-clause-shows c = one-view-answers-all

pub returns-clause-sums : goal.returns-clause-sums
returns-clause-sums c = one-summary-answers-all

pub returns-clause-compacts : goal.returns-clause-compacts
returns-clause-compacts c = one-compaction-serves-all
