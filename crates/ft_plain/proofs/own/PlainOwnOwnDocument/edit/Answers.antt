use Rattle.ft_plain.proofs.own.PlainOwnOwnDocument.edit.Goals as goal

-- nobody listens
pub returns-clause-answers : goal.returns-clause-answers
returns-clause-answers g c = λ held named last h. c.edit_heard.ensures.answers held last h
