-- Operations of a tree one after another, as loops make them.
use Rattle.std.proofs.Common.{◌≡◌, ℕ, zero, suc, ◌+◌, ◌≤◌, ◌<◌, All, IsTrue, List, [], ◌∷◌, ◌++◌, refl, sym, ◌∙◌, ap, subst, arith, length, drop, get_or, append_assoc, append-nil}
use Rattle.std.specs.List.{AllByRecursion}
use Rattle.std.proofs.Math.Seq.{drop-cons}
use Rattle.ft_base.specs.declared.elements.Perspective.{Perspective}
use Rattle.ft_tree_leaves.specs.declared.text.TextContent.{TextContent}
use Rattle.ft_tree_leaves.specs.Elements.{IsAboveChanges}
use Rattle.ft_op.specs.declared.operations.BaseOp.{BaseOp}
use Rattle.ft_op.specs.WellFormed.{IsWellFormedBase}
use Rattle.ft_interval_store.specs.State.{text_elements}
use Rattle.ft_props.specs.Properties.{max_safe_integer}
use Rattle.ft_tree.specs.State.{TreeState}
use Rattle.ft_text.specs.Lengths.{put_in_by, put_in_by_all}
use Rattle.ft_string.specs.Parts.{TakesOp, TakesOps, TriesOp, TriesOps, noted}
use Rattle.ft_string.specs.declared.pending.PendingOp.{PendingOp}
use Rattle.ft_string.proofs.Above.{HaveBelow, have-below, taken-below}

-- ---- operations of a message

pub record TriesSoFar (s : ℕ) (at : Perspective) (all rest : List BaseOp) (skipped : ℕ) (first now : TreeState TextContent) : Type 0 where
  pub whole : (new : TreeState TextContent) (n : ℕ) → TriesOps s at rest n now new → TriesOps s at all (skipped + n) first new
  pub usable : IsTrue now.usable
  pub floor : now.floor ≡ first.floor
  pub formed : AllByRecursion IsWellFormedBase rest

usable-after : (s : ℕ) (at : Perspective) (op : BaseOp) (n : ℕ) (old new : TreeState TextContent) → TriesOp s at op n old new
    → IsTrue old.usable → IsTrue new.usable
usable-after s at op zero old new t u = subst (λ b. IsTrue b) (sym t.1.rest.usable) u
usable-after s at op (suc n) old new t u = subst (λ (x : TreeState TextContent). IsTrue x.usable) (sym t.2) u

floor-after : (s : ℕ) (at : Perspective) (op : BaseOp) (n : ℕ) (old new : TreeState TextContent) → TriesOp s at op n old new → new.floor ≡ old.floor
floor-after s at op zero old new t = t.1.rest.floor
floor-after s at op (suc n) old new t = ap (λ (x : TreeState TextContent). x.floor) t.2

tries-next-of : (s : ℕ) (at : Perspective) (all : List BaseOp) (op : BaseOp) (rest : List BaseOp) (skipped more : ℕ) (first now next : TreeState TextContent)
    → TriesSoFar s at all (op ∷ rest) skipped first now → TriesOp s at op more now next → TriesSoFar s at all rest (skipped + more) first next
tries-next-of s at all op rest skipped more first now next h t = record {
  whole = λ new n g. subst (λ k. TriesOps s at all k first new) (sum skipped more n) (h.whole new (more + n) (next, more, n, (t, g, refl)));
  usable = usable-after s at op more now next t h.usable;
  floor = floor-after s at op more now next t ∙ h.floor;
  formed = h.formed.1;
}
  where
    sum : (a b c : ℕ) → a + (b + c) ≡ a + b + c
    sum a b c = omega arith

pub ahead : (all : List BaseOp) (i : ℕ) (op : BaseOp) → i < length all → op ≡ get_or all i op → drop i all ≡ op ∷ drop (i + 1) all
ahead all i op l e = drop-cons all i op l ∙ ap (λ o. o ∷ drop (suc i) all) (sym e) ∙ ap (λ k. op ∷ drop k all) (one-more i)
  where
    one-more : (n : ℕ) → suc n ≡ n + 1
    one-more n = omega arith

pub tries-next : (s : ℕ) (at : Perspective) (all : List BaseOp) (i : ℕ) (op : BaseOp) (skipped more : ℕ) (first now next : TreeState TextContent)
    → TriesSoFar s at all (drop i all) skipped first now → i < length all → op ≡ get_or all i op → TriesOp s at op more now next
    → TriesSoFar s at all (drop (i + 1) all) (skipped + more) first next
tries-next s at all i op skipped more first now next h l e t =
    tries-next-of s at all op (drop (i + 1) all) skipped more first now next (subst (λ os. TriesSoFar s at all os skipped first now) (ahead all i op l e) h) t

pub tries-done : (s : ℕ) (at : Perspective) (all rest : List BaseOp) (skipped : ℕ) (first now : TreeState TextContent)
    → TriesSoFar s at all rest skipped first now
    → rest ≡ [] → TriesOps s at all skipped first now
tries-done s at all rest skipped first now h none =
    subst (λ k. TriesOps s at all k first now) (more-zero skipped) (h.whole now 0 (subst (λ os. TriesOps s at os 0 now now) (sym none) (refl, refl)))
  where
    more-zero : (n : ℕ) → n + 0 ≡ n
    more-zero n = omega arith

-- ---- the client's own operations

-- what is taken, and then the operations ahead, are all; what is noted, and then they, are all
pub record TakesSoFar (first : ℕ) (all rest : List BaseOp) (stage : ℕ) (tree now : TreeState TextContent) (before pending : List PendingOp) : Type 0 where
  pub whole : (new : TreeState TextContent) → TakesOps stage rest now new → TakesOps first all tree new
  pub notes : before ++ noted first all ≡ pending ++ noted stage rest
  pub usable : IsTrue now.usable
  pub formed : AllByRecursion IsWellFormedBase rest
  pub above : HaveBelow stage (text_elements now)
  pub made : now.made + put_in_by_all rest ≤ max_safe_integer
  pub stages : stage + length rest < 18446744073709551616

takes-next-of : (first : ℕ) (all : List BaseOp) (op : BaseOp) (rest : List BaseOp) (stage : ℕ) (tree now next : TreeState TextContent)
    (before pending after : List PendingOp)
    → TakesSoFar first all (op ∷ rest) stage tree now before pending → TakesOp stage op now next
    → after ≡ pending ++ (record { stage = stage; op = op } ∷ []) → TakesSoFar first all rest (stage + 1) tree next before after
takes-next-of first all op rest stage tree now next before pending after h t e = record {
  whole = λ new g. h.whole new (next, (t, g));
  notes = h.notes ∙ sym (append_assoc pending (record { stage = stage; op = op } ∷ []) (noted (stage + 1) rest)) ∙ ap (λ ps. ps ++ noted (stage + 1) rest) (sym e);
  usable = subst (λ b. IsTrue b) (sym t.rest.usable) h.usable;
  formed = h.formed.1;
  above = subst (HaveBelow (stage + 1)) (sym t.elements) (taken-below stage op (text_elements now) h.above);
  made = let m = t.made in let n = h.made in omega arith;
  stages = let s = h.stages in omega arith;
}

pub takes-here : (first : ℕ) (all : List BaseOp) (i : ℕ) (op : BaseOp) (stage : ℕ) (tree now : TreeState TextContent) (before pending : List PendingOp)
    → TakesSoFar first all (drop i all) stage tree now before pending → i < length all → op ≡ get_or all i op
    → TakesSoFar first all (op ∷ drop (i + 1) all) stage tree now before pending
takes-here first all i op stage tree now before pending h l e =
    subst (λ os. TakesSoFar first all os stage tree now before pending) (ahead all i op l e) h

pub takes-next : (first : ℕ) (all : List BaseOp) (i : ℕ) (op : BaseOp) (stage : ℕ) (tree now next : TreeState TextContent)
    (before pending after : List PendingOp)
    → TakesSoFar first all (drop i all) stage tree now before pending → i < length all → op ≡ get_or all i op → TakesOp stage op now next
    → after ≡ pending ++ (record { stage = stage; op = op } ∷ []) → TakesSoFar first all (drop (i + 1) all) (stage + 1) tree next before after
takes-next first all i op stage tree now next before pending after h l e t n =
    takes-next-of first all op (drop (i + 1) all) stage tree now next before pending after (takes-here first all i op stage tree now before pending h l e) t n

-- there is room for what the first one puts in
pub takes-room : (first : ℕ) (all : List BaseOp) (i : ℕ) (op : BaseOp) (stage : ℕ) (tree now : TreeState TextContent) (before pending : List PendingOp)
    → TakesSoFar first all (drop i all) stage tree now before pending → i < length all → op ≡ get_or all i op → now.made + put_in_by op ≤ max_safe_integer
takes-room first all i op stage tree now before pending h l e = let m = (takes-here first all i op stage tree now before pending h l e).made in omega arith

pub takes-done : (first : ℕ) (all rest : List BaseOp) (stage : ℕ) (tree now : TreeState TextContent) (before pending : List PendingOp)
    → TakesSoFar first all rest stage tree now before pending → rest ≡ [] → TakesOps first all tree now
takes-done first all rest stage tree now before pending h none = h.whole now (subst (λ os. TakesOps stage os now now) (sym none) refl)

pub noted-done : (first : ℕ) (all rest : List BaseOp) (stage : ℕ) (tree now : TreeState TextContent) (before pending : List PendingOp)
    → TakesSoFar first all rest stage tree now before pending → rest ≡ [] → pending ≡ before ++ noted first all
noted-done first all rest stage tree now before pending h none = sym (h.notes ∙ ap (λ os. pending ++ noted stage os) none ∙ append-nil pending)

pub takes-begin : (first : ℕ) (all : List BaseOp) (tree : TreeState TextContent) (pending : List PendingOp) → IsTrue tree.usable
    → AllByRecursion IsWellFormedBase all
    → All (λ e. IsAboveChanges first e.overlay) (text_elements tree) → tree.made + put_in_by_all all ≤ max_safe_integer
    → first + length all < 18446744073709551616 → TakesSoFar first all all first tree tree pending pending
takes-begin first all tree pending usable formed above made stages = record {
  whole = λ new h. h;
  notes = refl;
  usable = usable;
  formed = formed;
  above = have-below first (text_elements tree) above;
  made = made;
  stages = stages;
}
