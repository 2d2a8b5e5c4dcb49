use Rattle.ft_plain_lists.proofs.elements.pending.PlainElementCopied.copied.Goals as goal

pub returns : goal.returns
returns c = rw (← c.self.view_is) (rw (← c.self.view_is) at c.copy_with.ensures)
