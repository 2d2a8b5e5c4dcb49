-- What splices make of a vector. No public clause cites this module.
use Rattle.std.specs.Prelude.{◌≡◌, ◌<◌, ◌≤◌, ℕ, ◌+◌, Bool, true, false, ◌||◌, [], None, map}
use Rattle.ft_base.specs.declared.stamps.Stamp.{Stamp}
use Rattle.ft_base.specs.Scan.{change_range, len, put}
use Rattle.ft_props.specs.Properties.{max_safe_integer}
use Rattle.ft_block.specs.declared.leaves.LenView.{LenView}
use Rattle.ft_tree_leaves.specs.Elements.{TreeElement, acked_element, new_elements, removed_stamps, seen_in, with_stamps}
use Rattle.ft_perm.specs.Handles.{HandleRun, handles_of, in_run}
use Rattle.ft_perm.specs.Vectors.{VectorState, in_use}
use Rattle.ft_matrix.specs.Units.{units_of}

-- the floor and, where it isn't said otherwise, the handles in use stay
pub record PutsUnits (view : LenView) (past : TreeElement ℕ → Bool) (ins : Stamp) (p count : ℕ) (old new : VectorState) : Type 0 where
  pub run : HandleRun
  pub count_is : run.count ≡ count
  pub units : units_of new ≡ put (seen_in view) past p (new_elements ins None [] (handles_of run)) (units_of old)
  pub unused : (h : ℕ) → in_run h run ≡ true → in_use old h ≡ false
  pub used : (h : ℕ) → in_use new h ≡ (in_use old h || in_run h run)
  pub floor : new.tree.floor ≡ old.tree.floor

-- new units are put in, if place p is within the length
abbrev pub Inserts : LenView → (TreeElement ℕ → Bool) → Stamp → ℕ → ℕ → VectorState → VectorState → Bool → Type 0
Inserts view past ins p count old new true = (p ≤ len (seen_in view) (units_of old)) × PutsUnits view past ins p count old new
Inserts view past ins p count old new false = (len (seen_in view) (units_of old) < p) × (new ≡ old)

-- units get a removal
pub record MarksUnits (view : LenView) (removal : Stamp) (p q : ℕ) (old new : VectorState) : Type 0 where
  pub units : units_of new ≡ change_range (seen_in view) p q (with_stamps (removed_stamps removal)) (units_of old)
  pub used : (h : ℕ) → in_use new h ≡ in_use old h
  pub floor : new.tree.floor ≡ old.tree.floor

-- if place q is within the length
abbrev pub Removes : LenView → Stamp → ℕ → ℕ → VectorState → VectorState → Bool → Type 0
Removes view removal p q old new true = (q ≤ len (seen_in view) (units_of old)) × MarksUnits view removal p q old new
Removes view removal p q old new false = (len (seen_in view) (units_of old) < q) × (new ≡ old)

-- a run of so many handles that weren't in use
pub record TakesRun (count : ℕ) (run : HandleRun) (old new : VectorState) : Type 0 where
  pub count_is : run.count ≡ count
  pub unused : (h : ℕ) → in_run h run ≡ true → in_use old h ≡ false
  pub used : (h : ℕ) → in_use new h ≡ (in_use old h || in_run h run)
  pub tree : new.tree ≡ old.tree
  pub rises : new.next ≤ old.next + count
  pub fits : old.tree.made + count ≤ max_safe_integer

-- a pending stage is sequenced
pub record AcksUnits (k s c : ℕ) (old new : VectorState) : Type 0 where
  pub units : units_of new ≡ map (acked_element k s c None) (units_of old)
  pub used : (h : ℕ) → in_use new h ≡ in_use old h
  pub floor : new.tree.floor ≡ old.tree.floor
