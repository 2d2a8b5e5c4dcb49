-- What a listener hears of operations one after another: what it heard so far, and then what is told of those ahead, is what is told of
-- all.
use Rattle.std.proofs.Common.{◌≡◌, ℕ, zero, suc, ◌+◌, ◌<◌, List, [], ◌++◌, length, drop, get_or, sym, ◌∙◌, ap}
use Rattle.ft_base.specs.declared.elements.Perspective.{Perspective}
use Rattle.ft_base.specs.Scan.{len}
use Rattle.ft_block.specs.declared.leaves.LenView.TheVariants.{At}
use Rattle.ft_changes.specs.declared.listeners.Listener.{Listener}
use Rattle.ft_changes.specs.Listeners.{heard}
use Rattle.ft_changes.proofs.HeardChanges.{heard-more, heard-nothing}
use Rattle.ft_interval_store.specs.State.{text_elements}
use Rattle.ft_op.specs.declared.operations.BaseOp.{BaseOp}
use Rattle.ft_text.specs.Lengths.{end_of}
use Rattle.ft_tree.specs.State.{TreeState}
use Rattle.ft_tree_leaves.specs.declared.text.TextContent.{TextContent}
use Rattle.ft_tree_leaves.specs.Elements.{seen_in}
use Rattle.ft_laws_agreement.proofs.NumberTests.{from_self}
use Rattle.ft_string.specs.Parts.{TakesOp, TriesOp, applied_elements}
use Rattle.ft_string.specs.Told.{told_of_all_own, told_of_op, told_of_ops, told_of_own, tried_elements}
use Rattle.ft_string.proofs.Applied.{choice-false, choice-true, le-false}
use Rattle.ft_string.proofs.Chains.{ahead}

-- the elements after an operation of a message
pub tried : (s : ℕ) (at : Perspective) (op : BaseOp) (n : ℕ) (old new : TreeState TextContent) → TriesOp s at op n old new
    → tried_elements s at op (text_elements old) ≡ text_elements new
tried s at op zero old new t =
    let xs = text_elements old in
    choice-true _ (applied_elements s at op xs) xs (from_self (end_of op) (len (seen_in (At at)) xs) t.0) ∙ sym t.1.elements
tried s at op (suc n) old new t =
    let xs = text_elements old in
    choice-false _ (applied_elements s at op xs) xs (le-false (end_of op) (len (seen_in (At at)) xs) t.0) ∙ sym (ap text_elements t.2)

pub hears-next : (l more : Listener) (s : ℕ) (at : Perspective) (all : List BaseOp) (i : ℕ) (op : BaseOp) (n : ℕ) (old new : TreeState TextContent)
    → i < length all → op ≡ get_or all i op → TriesOp s at op n old new → more ≡ heard l (told_of_op at op (text_elements old))
    → heard more (told_of_ops s at (drop (i + 1) all) (text_elements new)) ≡ heard l (told_of_ops s at (drop i all) (text_elements old))
hears-next l more s at all i op n old new short here t hears =
    let told = told_of_op at op (text_elements old) in
    let rest = drop (i + 1) all in
    ap (λ m. heard m (told_of_ops s at rest (text_elements new))) hears ∙ heard-more l told (told_of_ops s at rest (text_elements new))
    ∙ ap (λ xs. heard l (told ++ told_of_ops s at rest xs)) (sym (tried s at op n old new t))
    ∙ ap (λ os. heard l (told_of_ops s at os (text_elements old))) (sym (ahead all i op short here))

pub heard-all : (l : Listener) (s : ℕ) (at : Perspective) (rest : List BaseOp) (now : TreeState TextContent) → rest ≡ []
    → l ≡ heard l (told_of_ops s at rest (text_elements now))
heard-all l s at rest now none = sym (ap (λ os. heard l (told_of_ops s at os (text_elements now))) none ∙ heard-nothing l)

-- ---- the client's own

pub own-hears-next : (l more : Listener) (all : List BaseOp) (i : ℕ) (op : BaseOp) (stage : ℕ) (old new : TreeState TextContent)
    → i < length all → op ≡ get_or all i op → TakesOp stage op old new → more ≡ heard l (told_of_own stage op (text_elements old))
    → heard more (told_of_all_own (stage + 1) (drop (i + 1) all) (text_elements new)) ≡ heard l
    (told_of_all_own stage (drop i all) (text_elements old))
own-hears-next l more all i op stage old new short here t hears =
    let told = told_of_own stage op (text_elements old) in
    let rest = drop (i + 1) all in
    ap (λ m. heard m (told_of_all_own (stage + 1) rest (text_elements new))) hears
    ∙ heard-more l told (told_of_all_own (stage + 1) rest (text_elements new))
    ∙ ap (λ xs. heard l (told ++ told_of_all_own (stage + 1) rest xs)) t.elements
    ∙ ap (λ os. heard l (told_of_all_own stage os (text_elements old))) (sym (ahead all i op short here))

pub own-heard-all : (l : Listener) (stage : ℕ) (rest : List BaseOp) (now : TreeState TextContent) → rest ≡ []
    → l ≡ heard l (told_of_all_own stage rest (text_elements now))
own-heard-all l stage rest now none = sym (ap (λ os. heard l (told_of_all_own stage os (text_elements now))) none ∙ heard-nothing l)
