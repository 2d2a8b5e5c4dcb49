-- How far one operation is read for, in a loop over operations.
use Rattle.std.proofs.Common.{◌≡◌, ℕ, zero, suc, ◌+◌, ◌*◌, ◌≤◌, ◌<◌, List, [], ◌∷◌, refl, sym, ap, subst, arith, length, drop, get_or}
use Rattle.ft_tree_leaves.specs.declared.text.TextContent.{TextContent}
use Rattle.ft_op.specs.declared.operations.BaseOp.{BaseOp}
use Rattle.ft_op.specs.declared.operations.TextOp.TheVariants.{One}
use Rattle.ft_tree.specs.State.{TreeState}
use Rattle.ft_string.specs.Edits.{IsShort}

-- where there is one operation alone, nothing is read before it, and not too much with it
pub record IsReadFor (all rest : List BaseOp) (tree now : TreeState TextContent) (before steps : ℕ) : Type 0 where
  pub ahead : rest ≡ all → (now ≡ tree) × (steps ≡ before)
  pub bound : steps ≤ before + 9 * (tree.depth + 1)

abbrev pub ReadsSoFar : List BaseOp → List BaseOp → TreeState TextContent → TreeState TextContent → ℕ → ℕ → Type 0
ReadsSoFar all rest tree now before steps = (op : BaseOp) → all ≡ op ∷ [] → IsShort (One op) → IsReadFor all rest tree now before steps

pub reads-begin : (all : List BaseOp) (tree : TreeState TextContent) (steps : ℕ) → ReadsSoFar all all tree tree steps steps
reads-begin all tree steps op e short = record { ahead = λ r. (refl, refl); bound = omega arith }

reads-one : (one : BaseOp) (i : ℕ) (op : BaseOp) (tree now next : TreeState TextContent) (before steps after : ℕ) → IsShort (One one)
    → IsReadFor (one ∷ []) (drop i (one ∷ [])) tree now before steps → i < 1 → op ≡ get_or (one ∷ []) i op
    → (IsShort (One op) → after ≤ steps + 9 * (now.depth + 1))
    → IsReadFor (one ∷ []) (drop (i + 1) (one ∷ [])) tree next before after
reads-one one zero op tree now next before steps after short h l e read =
    let p = h.ahead refl in
    let here = read (subst (λ o. IsShort (One o)) (sym e) short) in
    let deep = ap (λ (x : TreeState TextContent). x.depth) p.0 in
    let start = p.1 in
    record { ahead = λ r. (cc); bound = bound now.depth tree.depth deep start here }
  where
    bound : (m n : ℕ) → m ≡ n → steps ≡ before → after ≤ steps + 9 * (m + 1) → after ≤ before + 9 * (n + 1)
    bound m n e s r = omega arith
reads-one one (suc i) op tree now next before steps after short h l e read = absurd (omega arith)

pub reads-next : (all : List BaseOp) (i : ℕ) (op : BaseOp) (tree now next : TreeState TextContent) (before steps after : ℕ)
    → ReadsSoFar all (drop i all) tree now before steps → i < length all → op ≡ get_or all i op → (IsShort (One op) → after ≤ steps + 9 * (now.depth + 1))
    → ReadsSoFar all (drop (i + 1) all) tree next before after
reads-next all i op tree now next before steps after h l e read one is short =
    subst (λ os. IsReadFor os (drop (i + 1) os) tree next before after) (sym is)
    (reads-one one i op tree now next before steps after short (subst (λ os. IsReadFor os (drop i os) tree now before steps) is (h one is short))
    (subst (λ os. i < length os) is l) (subst (λ os. op ≡ get_or os i op) is e) read)
