-- What has names differs from what has none in names alone.
use Rattle.std.proofs.Common.{sym}
use Rattle.ft_msg.specs.Indexed.{indexed_client}
use Rattle.ft_laws_names.specs.Naming.{named}
use Rattle.ft_laws_names.proofs.Indexing.{client-indexed, list-indexed}
use Rattle.ft_laws_names.proofs.NamedClients.{client-named, other-well-named}
use Rattle.ft_laws_names.proofs.NamedLists.{named-alike}
use Rattle.ft_laws_names.proofs.naming.names.Goals as goal

pub returns-clause-lists : goal.returns-clause-lists
returns-clause-lists c = λ last list h. (let n = named-alike last list h in (n.right, sym (list-indexed n.twins)))

pub returns-clause-clients : goal.returns-clause-clients
returns-clause-clients c = λ x h. (let n = client-named x h in (other-well-named x (named (indexed_client x)) n, sym (client-indexed x (named (indexed_client x)) n)))
