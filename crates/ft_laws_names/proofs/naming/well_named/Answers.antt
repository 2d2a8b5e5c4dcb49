-- Each is a law on names.
use Rattle.ft_laws_names.proofs.KeptNames.{kept-named, made-or-kept-named}
use Rattle.ft_laws_names.proofs.NamedSteps.{run-named, step-named}
use Rattle.ft_msg.specs.Summary.{doc_of}
use Rattle.ft_laws_agreement.proofs.SummaryStarts.{summary-sound}
use Rattle.ft_laws_names.proofs.NamedStarts.{start-named}
use Rattle.ft_laws_names.proofs.naming.well_named.Goals as goal

pub returns-clause-steps : goal.returns-clause-steps
returns-clause-steps c = λ x y step h e. step-named x y step h e

pub returns-clause-clients : goal.returns-clause-clients
returns-clause-clients c = λ start steps x run. run-named start steps x run

pub returns-clause-kept : goal.returns-clause-kept
returns-clause-kept c = λ x kept h k. kept-named x kept h k

pub returns-clause-summaries : goal.returns-clause-summaries
returns-clause-summaries c = λ sum h. start-named (doc_of sum) (summary-sound sum h)

pub returns-clause-made_or_kept : goal.returns-clause-made_or_kept
returns-clause-made_or_kept c = λ start kept h. made-or-kept-named start kept h
