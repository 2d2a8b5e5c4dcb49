-- A leaf that stands in blocks: how long it is, and which stamps it has, after each step.
use Rattle.std.proofs.Common.{◌≡◌, ℕ, zero, suc, ◌+◌, ◌<◌, Bool, true, false, cond, List, [], ◌∷◌, length, take, drop, refl, ap, ◌∙◌, arith}
use Rattle.ft_base.specs.Visibility.{is_of_stage}
use Rattle.ft_tree_leaves.specs.declared.leaves.TreeLeaf.{TreeLeaf}
use Rattle.ft_tree_leaves.specs.declared.block_leaf.LeafChange.{LeafChange}
use Rattle.ft_tree_leaves.specs.declared.block_leaf.LeafChange.TheVariants.{SetAcked, PushPending, DropPending, DropAll, Ack}
use Rattle.ft_tree_leaves.specs.BlockChanges.{changed_leaf}

taken : {A : Type 0} (n : ℕ) (xs : List A) → n < length xs → length (take n xs) ≡ n
taken zero xs h = refl
taken (suc n) [] h = absurd (omega arith)
taken (suc n) (x ∷ xs) h = ap (λ k. suc k) (taken n xs (omega arith))

dropped : {A : Type 0} (n : ℕ) (xs : List A) → n < length xs → n + length (drop n xs) ≡ length xs
dropped zero xs h = omega arith
dropped (suc n) [] h = absurd (omega arith)
dropped (suc n) (x ∷ xs) h = omega (arith, dropped n xs (omega arith))

module _ {C U : Type 0} (units : C → List U) where
  pub front_length : (x k : C) (at : ℕ) → at < length (units x) → units k ≡ take at (units x) → length (units k) ≡ at
  front_length x k at h e = ap length e ∙ taken at (units x) h

  pub rear_length : (x k : C) (at : ℕ) → at < length (units x) → units k ≡ drop at (units x) → at + length (units k) ≡ length (units x)
  rear_length x k at h e = omega (arith, ap length e, dropped at (units x) h)

  module _ (stamped : C → ℕ → ℕ → C) where
    stamped_by : ((x : C) (s c : ℕ) → units (stamped x s c) ≡ units x) → (b : Bool) (x : C) (s c : ℕ)
        → length (units (cond b (stamped x s c) x)) ≡ length (units x)
    stamped_by h true x s c = ap length (h x s c)
    stamped_by h false x s c = refl

    pub changed_length : ((x : C) (s c : ℕ) → units (stamped x s c) ≡ units x) → (x : TreeLeaf C) (c : LeafChange)
        → length (units (changed_leaf stamped x c).content) ≡ length (units x.content)
    changed_length h x (SetAcked set) = refl
    changed_length h x (PushPending k set) = refl
    changed_length h x (DropPending k) = refl
    changed_length h x DropAll = refl
    changed_length h x (Ack k s c) = stamped_by h (is_of_stage k x.stamps.ins) x.content s c

pub changed_stamps : {C : Type 0} (stamped : C → ℕ → ℕ → C) (x : TreeLeaf C) (c : LeafChange) → (changed_leaf stamped x c).stamps ≡ x.stamps
changed_stamps stamped x (SetAcked set) = refl
changed_stamps stamped x (PushPending k set) = refl
changed_stamps stamped x (DropPending k) = refl
changed_stamps stamped x DropAll = refl
changed_stamps stamped x (Ack k s c) = refl
