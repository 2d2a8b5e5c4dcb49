use Rattle.std.proofs.Common.{◌≡◌, ◌↔◌, Bool, true, false, IsTrue, not, ◌&&◌, List, [], ◌∷◌, refl, sym, ◌∙◌}
use Rattle.std.specs.List.{list_any}
use Rattle.ft_base.specs.Visibility.{is_acked}
use Rattle.ft_tree_changes.proofs.neighbours.is_always_seen.Goals as goal

none-there : {A : Type 0} (a b : Bool) (xs : List A) → not a ≡ false → IsTrue b ↔ (xs ≡ []) → b ≡ (a && not (list_any (λ (x : A). true) xs))
none-there false b xs e h = (cc)
none-there true true [] e h = refl
none-there true true (x ∷ xs) e h = let none : x ∷ xs ≡ [] = h.0 refl in (cc)
none-there true false [] e h = let some : false ≡ true = h.1 refl in (cc)
none-there true false (x ∷ xs) e h = refl

pub returns : goal.returns
returns c =
    none-there (is_acked c.args.e.now.ins) c.is_empty.result c.args.e.now.dels (sym c.is_pending.ensures ∙ c.if-is_pending.false) c.is_empty.ensures
