-- The rows or the columns of a document, lent as a splice is for the ones or the others. No public clause cites this module.
use Rattle.std.specs.Borrow.{Lends, Fml, MutBor}
use Rattle.ft_op.specs.declared.operations.Target.{Target}
use Rattle.ft_op.specs.Document.{Document, with_rows_or_cols}
use Rattle.ft_props.specs.Steps.{Sequence}
use Rattle.ft_plain_lists.specs.contracts.lists.PlainList as list
use Rattle.ft_plain_document.specs.contracts.documents.PlainDocument as document

-- the document has the last value written
abbrev pub lends_list : Target → MutBor Document → MutBor Sequence → Fml
lends_list target s r = Lends document.the_row list.the_row s r (with_rows_or_cols target s.now)
