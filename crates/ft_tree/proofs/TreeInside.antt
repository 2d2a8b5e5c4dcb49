-- What holds of a tree that may still be used, as its callers see it, and that its steps keep it.
use Rattle.std.proofs.Common.{◌≡◌, ℕ, suc, ◌+◌, ◌≤◌, Bool, true, false, cond, List, [], ◌∷◌, map, IsTrue, Option, Some, None, length, subst, refl, sym, ◌∙◌, ap, arith}
use Rattle.ft_base.specs.declared.stamps.Stamp.{Stamp}
use Rattle.ft_base.specs.Scan.{change_range, change_range_from, one_more_if, place, put}
use Rattle.ft_base.specs.Visibility.{is_of_stage}
use Rattle.ft_arena.specs.Ids.{times}
use Rattle.ft_block.specs.Leaves.{IsPlaceIn, LeafList, ids, times_leaf}
use Rattle.ft_block.proofs.CallerLemmas.{times-ids}
use Rattle.ft_tree_steps.specs.RangeEdits.{edited_leaf}
use Rattle.ft_tree_blocks.specs.State.{TrackedLeaves, list_of}
use Rattle.ft_tree_steps.specs.LeafSteps.{Acts, held_place}
use Rattle.ft_tree_steps.specs.declared.ranges.RangeEdit.{RangeEdit}
use Rattle.ft_tree_steps.specs.declared.ranges.RangeEdit.TheVariants.{Change, Remove}
use Rattle.ft_tree_leaves.specs.declared.block_leaf.LeafChange.TheVariants.{SetAcked, PushPending, DropPending, DropAll, Ack}
use Rattle.ft_tree_leaves.specs.declared.leaves.TreeLeaf.{TreeLeaf}
use Rattle.ft_tree_leaves.specs.Edits.{sweep_without, with_place}
use Rattle.ft_tree_leaves.specs.Elements.{TreeElement, element_with, new_elements, removed_stamps, sequenced_overlay}
use Rattle.ft_tree_leaves.specs.LeafChanges.{fresh_leaf}
use Rattle.ft_tree_leaves.specs.LeafLists.{Extends, elements, leaf_elements}
use Rattle.ft_tree_leaves.specs.LeafLists.Extends.{kept, added}
use Rattle.ft_tree_leaves.specs.Places.{put_place, shifted_place}
use Rattle.ft_tree_leaves.specs.Plain.{WithoutNode}
use Rattle.ft_tree_leaves.specs.References.{ChangesReferences}
use Rattle.ft_tree_leaves.proofs.LeafEdits.{sweep_there}
use Rattle.ft_tree_leaves.proofs.RangeLeaves.{leaf-with_overlay, leaf-with_stamps}
use Rattle.ft_props.specs.Overlay.{after_ack, after_acked_changes, after_drop, after_pending_changes}
use Rattle.ft_props.specs.Properties.{PropertyList, max_safe_integer}
use Rattle.ft_tree.specs.declared.tree.Tree.TheInside.{Inside}
use Rattle.ft_tree.specs.Inside.{IsSound, IsSoundIfUsable, Puts, edited_element, view_of}
use Rattle.ft_tree.specs.State.{TreeState}

length-range : {A : Type 0} (i : ℕ) (seen : A → Bool) (p q : ℕ) (f : A → A) (xs : List A) → length (change_range_from i seen p q f xs) ≡ length xs
length-range i seen p q f [] = refl
length-range i seen p q f (x ∷ xs) = ap (λ n. suc n) (length-range (one_more_if (seen x) i) seen p q f xs)

pub length-change_range : {A : Type 0} (seen : A → Bool) (p q : ℕ) (f : A → A) (xs : List A) → length (change_range seen p q f xs) ≡ length xs
length-change_range seen p q f xs = length-range 0 seen p q f xs

-- each node of before stands as often at least
pub extends_times : (xs ys : List ℕ) (id : ℕ) → Extends xs ys → times xs id ≤ times ys id
extends_times [] ys id h = omega arith
extends_times (x ∷ xs) [] id h = elim h [ ]
extends_times (x ∷ xs) (y ∷ ys) id (kept h) = omega (arith, extends_times xs ys id h)
extends_times (x ∷ xs) (y ∷ ys) id (added h) = omega (arith, extends_times (x ∷ xs) ys id h)

module _ {L : Type 0} where
  -- a leaf of before is one of now
  pub place_kept : (xs ys : List (ℕ × L)) (o : Option ℕ) → Extends (ids xs) (ids ys) → IsPlaceIn xs o → IsPlaceIn ys o
  place_kept xs ys None e h = tt
  place_kept xs ys (Some id) e h = omega (arith, extends_times (ids xs) (ids ys) id e, times-ids xs id, times-ids ys id)

module _ {C U : Type 0} (units : C → List U) (by : C → Option Stamp) (a : Inside C U) (v : TreeState C) (is : view_of a ≡ v)
    (inv : IsSoundIfUsable units by a) (usable : IsTrue v.usable) where
  pub in_sound : IsSound units by a
  in_sound = inv (subst (λ (w : TreeState C). IsTrue w.usable) (sym is) usable)

module _ {C U : Type 0} (units : C → List U) (by : C → Option Stamp) (a : Inside C U) (v : TreeState C) (is : view_of a ≡ v)
    (at : Option ℕ) (n : ℕ) (seen : TreeElement U → Bool) (p : ℕ) where
  -- a place that was found among the leaves as callers see them, and as they are kept
  pub held_inside : held_place units by v.leaves at n ≡ place seen p (elements units by v.leaves)
      → held_place units by a.blocks.leaves at n ≡ place seen p (elements units by a.blocks.leaves)
  held_inside h = subst (λ (s : TreeState C). held_place units by s.leaves at n ≡ place seen p (elements units by s.leaves)) (sym is) h

  pub held_outside : held_place units by a.blocks.leaves at n ≡ place seen p (elements units by a.blocks.leaves)
      → held_place units by v.leaves at n ≡ place seen p (elements units by v.leaves)
  held_outside h = subst (λ (s : TreeState C). held_place units by s.leaves at n ≡ place seen p (elements units by s.leaves)) is h

  -- the same of one that was found in the list of blocks
  pub held_listed : (l : LeafList (TreeLeaf C)) → l ≡ list_of a.blocks → held_place units by l.leaves at n ≡ place seen p (elements units by l.leaves)
      → held_place units by v.leaves at n ≡ place seen p (elements units by v.leaves)
  held_listed l e h = held_outside (subst (λ (m : LeafList (TreeLeaf C)). held_place units by m.leaves at n ≡ place seen p (elements units by m.leaves)) e h)

module _ {C U : Type 0} (units : C → List U) (by : C → Option Stamp) (a b : Inside C U) (sound : IsSound units by a) (blocks : IsTrue b.blocks.usable) where
  -- where leaves may have been cut, and leaves may have come
  pub extends_sound : Extends (ids a.blocks.leaves) (ids b.blocks.leaves) → b.sweep ≡ a.sweep → length (elements units by b.blocks.leaves) ≤ b.made
      → b.made ≤ max_safe_integer → IsSound units by b
  extends_sound nodes sweep fits small = record {
    blocks = blocks;
    fits = fits;
    small = small;
    sweep = subst (IsPlaceIn b.blocks.leaves) (sym sweep) (place_kept a.blocks.leaves b.blocks.leaves a.sweep nodes sound.sweep);
  }

  place_same : ((id : ℕ) → times_leaf b.blocks.leaves id ≡ times_leaf a.blocks.leaves id) → (o : Option ℕ) → IsPlaceIn a.blocks.leaves o
      → IsPlaceIn b.blocks.leaves o
  place_same times None h = tt
  place_same times (Some id) h = omega (arith, times id)

  -- where leaves keep their nodes, and are as long together
  pub same_sound : ((id : ℕ) → times_leaf b.blocks.leaves id ≡ times_leaf a.blocks.leaves id)
      → length (elements units by b.blocks.leaves) ≡ length (elements units by a.blocks.leaves) → b.sweep ≡ a.sweep → b.made ≡ a.made → IsSound units by b
  same_sound times count sweep made = record {
    blocks = blocks;
    fits = omega (arith, count, sound.fits);
    small = omega (arith, sound.small);
    sweep = subst (IsPlaceIn b.blocks.leaves) (sym sweep) (place_same times a.sweep sound.sweep);
  }

  -- without a leaf
  pub without_sound : (id : ℕ) → ((z : ℕ) → times_leaf a.blocks.leaves z ≤ 1) → WithoutNode units by id a.blocks.leaves b.blocks.leaves
      → b.sweep ≡ sweep_without a.blocks.leaves id a.sweep → b.made ≡ a.made → IsSound units by b
  without_sound id once gone sweep made = record {
    blocks = blocks;
    fits = omega (arith, gone.fewer, sound.fits);
    small = omega (arith, sound.small);
    sweep = subst (IsPlaceIn b.blocks.leaves) (sym sweep) (sweep_there a.blocks.leaves b.blocks.leaves id a.sweep once gone.others sound.sweep);
  }

module _ {C U : Type 0} (units : C → List U) (by : C → Option Stamp) (a : Inside C U) (now : TrackedLeaves C)
    (rest : now ≡ record a.blocks { refs = now.refs }) where
  -- where nothing but references changed
  pub refs_sound : IsSound units by a → IsSound units by (record a { blocks = now })
  refs_sound sound = record {
    blocks = subst (λ (s : TrackedLeaves C). IsTrue s.usable) (sym rest) sound.blocks;
    fits = omega (arith, ap (λ (s : TrackedLeaves C). length (elements units by s.leaves)) rest, sound.fits);
    small = sound.small;
    sweep = subst (λ (s : TrackedLeaves C). IsPlaceIn s.leaves a.sweep) (sym rest) sound.sweep;
  }

  pub refs_rest : (v : TreeState C) → view_of a ≡ v → view_of (record a { blocks = now }) ≡ record v { refs = now.refs }
  refs_rest v is = ap (λ (s : TrackedLeaves C). view_of (record a { blocks = s })) rest ∙ ap (λ (w : TreeState C). record w { refs = now.refs }) is

module _ {C U : Type 0} (units : C → List U) (by : C → Option Stamp) (a : Inside C U) (v : TreeState C) (is : view_of a ≡ v)
    (seen past : TreeElement U → Bool) (p : ℕ) (leaf : TreeLeaf C) (b : Inside C U) where
  -- an insertion, as its callers see it
  pub put_seen : elements units by b.blocks.leaves ≡ put seen past p (leaf_elements units by leaf) (elements units by a.blocks.leaves)
      → ChangesReferences (with_place (shifted_place (put_place seen past p (elements units by a.blocks.leaves)) (length (units leaf.content))))
      a.blocks.refs b.blocks.refs
      → Extends (ids a.blocks.leaves) (ids b.blocks.leaves) → b.made ≡ a.made + length (units leaf.content)
      → b.blocks.floor ≡ a.blocks.floor → b.sweep ≡ a.sweep → b.usable ≡ a.usable → Puts units by seen past p leaf v (view_of b)
  put_seen list refs nodes made floor sweep still =
      subst (λ (s : TreeState C). Puts units by seen past p leaf s (view_of b)) is
      (record {
        list = list;
        refs = refs;
        nodes = nodes;
        rest = record { floor = floor; sweep = sweep; usable = still };
        made = made;
      })

module _ {C U : Type 0} (units : C → List U) (by : C → Option Stamp) where
  -- the elements of a content that got its author
  pub fresh_elements : (k l : C) (ins : Stamp) (author : Option Stamp) (props : PropertyList) → units l ≡ units k → by l ≡ author
      → leaf_elements units by (fresh_leaf l ins props) ≡ new_elements ins author props (units k)
  fresh_elements k l ins author props e_units e_by = ap (λ a. new_elements ins a props (units l)) e_by ∙ ap (new_elements ins author props) e_units

module _ {C U : Type 0} (units : C → List U) (by : C → Option Stamp) (author : ℕ → ℕ → Option Stamp) (stamped : C → ℕ → ℕ → C)
    (stamped_units : (x : C) (s c : ℕ) → units (stamped x s c) ≡ units x) (stamped_by : (x : C) (s c : ℕ) → by (stamped x s c) ≡ author s c) where
  -- what an edit makes of each element of a leaf
  acts_ack : (k s c : ℕ) (x : TreeLeaf C) (us : List U)
      → map (element_with x.stamps (cond (is_of_stage k x.stamps.ins) (author s c) (by x.content)) (after_ack k x.overlay)) us
      ≡ map (edited_element author (Change (Ack k s c))) (map (element_with x.stamps (by x.content) x.overlay) us)
  acts_ack k s c x [] = refl
  acts_ack k s c x (u ∷ us) = ap (λ es. edited_element author (Change (Ack k s c)) (element_with x.stamps (by x.content) x.overlay u) ∷ es) (acts_ack k s c x us)

  by_ack : (b : Bool) (s c : ℕ) (x : C) → by (cond b (stamped x s c) x) ≡ cond b (author s c) (by x)
  by_ack true s c x = stamped_by x s c
  by_ack false s c x = refl

  units_ack : (b : Bool) (s c : ℕ) (x : C) → units (cond b (stamped x s c) x) ≡ units x
  units_ack true s c x = stamped_units x s c
  units_ack false s c x = refl

  pub acts : (edit : RangeEdit) → Acts units by (edited_leaf stamped edit) (edited_element author edit)
  acts (Remove t) x = leaf-with_stamps units by (removed_stamps t) x
  acts (Change (SetAcked set)) x = leaf-with_overlay units by (after_acked_changes set) x
  acts (Change (PushPending k set)) x = leaf-with_overlay units by (after_pending_changes k set) x
  acts (Change (DropPending k)) x = leaf-with_overlay units by (after_drop k) x
  acts (Change DropAll) x = leaf-with_overlay units by sequenced_overlay x
  acts (Change (Ack k s c)) x =
      let test = is_of_stage k x.stamps.ins in
      ap (λ a. map (element_with x.stamps a (after_ack k x.overlay)) (units (cond test (stamped x.content s c) x.content))) (by_ack test s c x.content)
      ∙ ap (map (element_with x.stamps (cond test (author s c) (by x.content)) (after_ack k x.overlay))) (units_ack test s c x.content)
      ∙ acts_ack k s c x (units x.content)
