-- What a listener heard.
use Rattle.std.specs.Prelude.{List, [], ◌++◌, cond}
use Rattle.ft_changes.specs.declared.changes.ViewChange.{ViewChange}
use Rattle.ft_changes.specs.declared.listeners.Listener.{Listener}

-- after these changes, which only one that listens hears
abbrev pub heard : Listener → List ViewChange → Listener
heard l more = record l { changes = l.changes ++ cond l.listens more [] }
