use Rattle.ft_laws_sessions.proofs.WorldLaws.{attributions-agree, clients-attribute-the_same, counts-are-agreed}
use Rattle.ft_laws_sessions.proofs.worlds.counts_and_attributions_agree.Goals as goal

pub returns-clause-counts : goal.returns-clause-counts
returns-clause-counts c = counts-are-agreed

pub returns-clause-attributions : goal.returns-clause-attributions
returns-clause-attributions c = attributions-agree

pub returns-clause-same : goal.returns-clause-same
returns-clause-same c = clients-attribute-the_same
