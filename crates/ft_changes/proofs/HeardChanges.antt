-- What a listener heard, of changes one after another.
use Rattle.std.proofs.Common.{◌≡◌, Bool, true, false, cond, List, [], ◌++◌, ap, append_assoc, append-nil}
use Rattle.ft_changes.specs.declared.changes.ViewChange.{ViewChange}
use Rattle.ft_changes.specs.declared.listeners.Listener.{Listener}
use Rattle.ft_changes.specs.Listeners.{heard}

all-heard : (b : Bool) (old more rest : List ViewChange) → (old ++ cond b more []) ++ cond b rest [] ≡ old ++ cond b (more ++ rest) []
all-heard true old more rest = append_assoc old more rest
all-heard false old more rest = append-nil (old ++ [])

-- some changes, and then the rest
pub heard-more : (l : Listener) (more rest : List ViewChange) → heard (heard l more) rest ≡ heard l (more ++ rest)
heard-more l more rest = ap (λ (cs : List ViewChange). record l { changes = cs }) (all-heard l.listens l.changes more rest)

none-heard : (b : Bool) (old : List ViewChange) → old ++ cond b [] [] ≡ old
none-heard true old = append-nil old
none-heard false old = append-nil old

-- no changes
pub heard-nothing : (l : Listener) → heard l [] ≡ l
heard-nothing l = ap (λ (cs : List ViewChange). record l { changes = cs }) (none-heard l.listens l.changes)
