-- What is sent again of a stage, as the calls on a vector tell it.
use Rattle.std.proofs.Common.{◌≡◌, ℕ, suc, ◌+◌, ◌-◌, ◌≤◌, Bool, true, false, cond, not, ◌&&◌, ◌||◌, nat_eq, nat_lt, List, [], ◌∷◌, ◌++◌, Some, None, refl, sym, ◌∙◌, ap, map, arith, length, option_map, position, append_assoc, append-nil}
use Rattle.std.specs.List.{list_any, prefix_len}
use Rattle.std.specs.Option.{option_to_list}
use Rattle.std.proofs.lemmas.Bool.Decides.{nat_tests}
use Rattle.ft_base.specs.Scan.{len, one_more_if, rank, retain_map}
use Rattle.ft_block.specs.declared.leaves.LenView.TheVariants.{Stage}
use Rattle.ft_tree_leaves.specs.Elements.{TreeElement, seen_in}
use Rattle.ft_op.specs.declared.operations.CellOp.{CellOp}
use Rattle.ft_op.specs.declared.operations.CellOp.TheVariants.{SpliceIn, SpliceOut}
use Rattle.ft_op.specs.declared.operations.Target.{Target}
use Rattle.ft_props.specs.Steps.{lowered_runs}
use Rattle.ft_rebase.specs.Pieces.{annotation_pieces, insertion_position, is_inserted_by, marked_runs, pieces, removal_pieces}
use Rattle.ft_rebase.specs.declared.marks.PendingMark.TheVariants.{Changes, Removal}
use Rattle.ft_rebase.specs.declared.pieces.Piece.{Piece}
use Rattle.ft_rebase.specs.declared.pieces.Piece.TheVariants as piece
use Rattle.ft_perm.specs.Vectors.{VectorState, seen_handles}
use Rattle.ft_matrix.specs.Resubmitted.{first_insertion, insertion_of, is_seen_at, place_before, place_seen, put_position, removal_op, removal_ops, removals_of}
use Rattle.ft_matrix.specs.Units.{has_handle, units_of}
use Rattle.ft_matrix.proofs.HeldGrids.{HandlesOnce, handles-tail, only-here}

-- ---- the place of a handle among those that a view sees

pos-step : (b : Bool) (n l : ℕ) → cond (nat_lt (cond (not b) (1 + n) 0) (suc l)) (Some (cond (not b) (1 + n) 0)) None
    ≡ cond b (Some 0) (option_map suc (cond (nat_lt n l) (Some n) None))
pos-step true n l = ap (λ c. cond c (Some 0) None) low
  where
    low : nat_lt 0 (suc l) ≡ true
    low = grind (arith, nat_tests)
pos-step false n l = step (nat_lt n l) refl
  where
    is-more : 1 + n ≡ suc n
    is-more = omega arith

    below : nat_lt n l ≡ true → nat_lt (1 + n) (suc l) ≡ true
    below e = grind (arith, nat_tests)

    above : nat_lt n l ≡ false → nat_lt (1 + n) (suc l) ≡ false
    above e = grind (arith, nat_tests)

    step : (c : Bool) → nat_lt n l ≡ c → cond (nat_lt (1 + n) (suc l)) (Some (1 + n)) None ≡ option_map suc (cond c (Some n) None)
    step true e = ap (λ c. cond c (Some (1 + n)) None) (below e) ∙ ap Some is-more
    step false e = ap (λ c. cond c (Some (1 + n)) None) (above e)

module _ (h : ℕ) (see : TreeElement ℕ → Bool) where
  abbrev there : List (TreeElement ℕ) → Bool
  there es = list_any (λ e. has_handle h e && see e) es

  abbrev handles : List (TreeElement ℕ) → List ℕ
  handles es = retain_map see (λ e. e.unit) es

  none-there : (es : List (TreeElement ℕ)) → len (has_handle h) es ≡ 0 → there es ≡ false
  none-there [] e = refl
  none-there (x ∷ es) e = step (nat_eq x.unit h) e (none-there es)
    where
      step : (b : Bool) → one_more_if b (len (has_handle h) es) ≡ 0 → (len (has_handle h) es ≡ 0 → there es ≡ false) → (b && see x) || there es ≡ false
      step true e r = absurd (omega (arith, e))
      step false e r = r e

  pub seen-position : (es : List (TreeElement ℕ)) → HandlesOnce es
      → position (λ g. nat_eq g h) (handles es) ≡ cond (there es) (Some (rank (has_handle h) see es)) None
  seen-position [] once = refl
  seen-position (x ∷ es) once = step (nat_eq x.unit h) (see x) refl (once h) (seen-position es (handles-tail x es once))
    where
      more : (b : Bool) (r : ℕ) → option_map suc (cond b (Some r) None) ≡ cond b (Some (suc r)) None
      more true r = refl
      more false r = refl

      step : (b c : Bool) → nat_eq x.unit h ≡ b → one_more_if b (len (has_handle h) es) ≤ 1
          → position (λ g. nat_eq g h) (handles es) ≡ cond (there es) (Some (rank (has_handle h) see es)) None
          → position (λ g. nat_eq g h) (cond c (x.unit ∷ handles es) (handles es))
          ≡ cond ((b && c) || there es) (Some (cond b 0 (one_more_if c (rank (has_handle h) see es)))) None
      step true true e o r = pos-step (nat_eq x.unit h) (prefix_len (λ g. not (nat_eq g h)) (handles es)) (length (handles es))
          ∙ ap (λ d. cond d (Some 0) (option_map suc (position (λ g. nat_eq g h) (handles es)))) e
      step true false e o r =
          let none = none-there es (only-here true (len (has_handle h) es) o refl) in
          r ∙ ap (λ d. cond d (Some (rank (has_handle h) see es)) None) none ∙ sym (ap (λ d. cond d (Some 0) None) none)
      step false true e o r = pos-step (nat_eq x.unit h) (prefix_len (λ g. not (nat_eq g h)) (handles es)) (length (handles es))
          ∙ ap (λ d. cond d (Some 0) (option_map suc (position (λ g. nat_eq g h) (handles es)))) e
          ∙ ap (option_map suc) r ∙ more (there es) (rank (has_handle h) see es)
      step false false e o r = r

-- a handle that the view sees, or doesn't
module _ (v : VectorState) (once : HandlesOnce (units_of v)) (k h : ℕ) where
  pub seen-at : position (λ g. nat_eq g h) (seen_handles (Stage k) v.tree)
      ≡ cond (is_seen_at k (Some h) (units_of v)) (Some (place_seen k (Some h) (units_of v))) None
  seen-at = seen-position h (seen_in (Stage k)) (units_of v) once

  pub unseen-before : position (λ g. nat_eq g h) (seen_handles (Stage k) v.tree) ≡ None → place_before k (Some h) (units_of v) ≡ None
  unseen-before e = step (is_seen_at k (Some h) (units_of v)) (sym seen-at ∙ e)
    where
      step : (b : Bool) → cond b (Some (place_seen k (Some h) (units_of v))) None ≡ None
          → cond (b && is_seen_at (k - 1) (Some h) (units_of v)) (Some (place_seen (k - 1) (Some h) (units_of v))) None ≡ None
      step true f = cc f
      step false f = refl

pub seen-before : (v : VectorState) (once : HandlesOnce (units_of v)) (k h i : ℕ) → position (λ g. nat_eq g h) (seen_handles (Stage k) v.tree) ≡ Some i
    → position (λ g. nat_eq g h) (seen_handles (Stage (k - 1)) v.tree) ≡ place_before k (Some h) (units_of v)
seen-before v once k h i e = seen-at v once (k - 1) h ∙ step (is_seen_at k (Some h) (units_of v)) (sym (seen-at v once k h) ∙ e)
  where
    step : (b : Bool) → cond b (Some (place_seen k (Some h) (units_of v))) None ≡ Some i
        → cond (is_seen_at (k - 1) (Some h) (units_of v)) (Some (place_seen (k - 1) (Some h) (units_of v))) None
        ≡ cond (b && is_seen_at (k - 1) (Some h) (units_of v)) (Some (place_seen (k - 1) (Some h) (units_of v))) None
    step true f = refl
    step false f = cc f

-- ---- where the units of a stage stand

module _ {A : Type 0} (is seen : A → Bool) where
  pub rank-none : (xs : List A) → list_any is xs ≡ false → rank is seen xs ≡ len seen xs
  rank-none [] h = refl
  rank-none (x ∷ xs) h = step (is x) (list_any is xs) h (rank-none xs)
    where
      step : (b c : Bool) → b || c ≡ false → (c ≡ false → rank is seen xs ≡ len seen xs)
          → cond b 0 (one_more_if (seen x) (rank is seen xs)) ≡ one_more_if (seen x) (len seen xs)
      step true c g r = cc g
      step false c g r = ap (one_more_if (seen x)) (r g)

module _ (k : ℕ) (es : List (TreeElement ℕ)) where
  -- only the first piece of a stage inserts
  pub first-is : (parts : List Piece) → parts ≡ pieces k es → first_insertion parts ≡ insertion_position k es
  first-is parts e = ap first_insertion e ∙ step (list_any (is_inserted_by k) es)
    where
      none-first : (runs : List (ℕ × ℕ)) → first_insertion (map (λ r. piece.Annotate r.0 r.1) runs) ≡ None
      none-first [] = refl
      none-first (r ∷ runs) = refl

      not-first : (runs more : List (ℕ × ℕ)) → first_insertion (map (λ r. piece.Remove r.0 r.1) runs ++ map (λ r. piece.Annotate r.0 r.1) more) ≡ None
      not-first [] more = none-first more
      not-first (r ∷ runs) more = refl

      step : (b : Bool) → first_insertion (option_to_list (option_map piece.Insert (cond b (Some (put_position k es)) None)) ++ removal_pieces k es ++ annotation_pieces k es)
          ≡ cond b (Some (put_position k es)) None
      step true = refl
      step false = not-first (lowered_runs 0 (marked_runs k Removal es)) (marked_runs k Changes es)

  pub some-position : (pos : ℕ) → insertion_position k es ≡ Some pos → pos ≡ put_position k es
  some-position pos e = step (list_any (is_inserted_by k) es) e
    where
      step : (b : Bool) → cond b (Some (put_position k es)) None ≡ Some pos → pos ≡ put_position k es
      step true h = same h
        where
          same : Some (put_position k es) ≡ Some pos → pos ≡ put_position k es
          same g = cc g
      step false h = cc h

  pub none-position : insertion_position k es ≡ None → len (seen_in (Stage (k - 1))) es ≡ put_position k es
  none-position e = step (list_any (is_inserted_by k) es) refl e
    where
      step : (b : Bool) → list_any (is_inserted_by k) es ≡ b → cond b (Some (put_position k es)) None ≡ None
          → len (seen_in (Stage (k - 1))) es ≡ put_position k es
      step true g h = cc h
      step false g h = sym (rank-none (is_inserted_by k) (seen_in (Stage (k - 1))) es g)

  pub insertion-is : (target : Target) (count pos : ℕ) → pos ≡ put_position k es → nat_eq count 0 ≡ false
      → SpliceIn target pos count ∷ [] ≡ insertion_of k target count es
  insertion-is target count pos e f = ap (λ p. SpliceIn target p count ∷ []) e ∙ sym (ap (λ b. cond b [] (SpliceIn target (put_position k es) count ∷ [])) f)

-- ---- the removals among the pieces

module _ (target : Target) where
  none-removed : (runs : List (ℕ × ℕ)) → removal_ops target (map (λ r. piece.Annotate r.0 r.1) runs) ≡ []
  none-removed [] = refl
  none-removed (r ∷ runs) = none-removed runs

  some-removed : (runs more : List (ℕ × ℕ))
      → removal_ops target (map (λ r. piece.Remove r.0 r.1) runs ++ map (λ r. piece.Annotate r.0 r.1) more) ≡ map (λ r. SpliceOut target r.0 r.1) runs
  some-removed [] more = none-removed more
  some-removed (r ∷ runs) more = ap (λ ops. SpliceOut target r.0 r.1 ∷ ops) (some-removed runs more)

  pub removals-all : (k : ℕ) (es : List (TreeElement ℕ)) → removal_ops target (pieces k es) ≡ removals_of k target es
  removals-all k es = step (list_any (is_inserted_by k) es)
    where
      step : (b : Bool) → removal_ops target (option_to_list (option_map piece.Insert (cond b (Some (put_position k es)) None)) ++ removal_pieces k es ++ annotation_pieces k es)
          ≡ removals_of k target es
      step true = some-removed (lowered_runs 0 (marked_runs k Removal es)) (marked_runs k Changes es)
      step false = some-removed (lowered_runs 0 (marked_runs k Removal es)) (marked_runs k Changes es)

  removals-append : (xs ys : List Piece) → removal_ops target (xs ++ ys) ≡ removal_ops target xs ++ removal_ops target ys
  removals-append [] ys = refl
  removals-append (x ∷ xs) ys = ap (λ ops. removal_op target x ++ ops) (removals-append xs ys)
      ∙ sym (append_assoc (removal_op target x) (removal_ops target xs) (removal_ops target ys))

  -- one piece more
  pub removals-more : (given ops : List CellOp) (parts : List Piece) (x : Piece) → ops ≡ given ++ removal_ops target parts
      → ops ++ removal_op target x ≡ given ++ removal_ops target (parts ++ (x ∷ []))
  removals-more given ops parts x e =
      ap (λ os. os ++ removal_op target x) e ∙ append_assoc given (removal_ops target parts) (removal_op target x)
      ∙ ap (λ os. given ++ os) (ap (λ os. removal_ops target parts ++ os) (sym (append-nil (removal_op target x))) ∙ sym (removals-append parts (x ∷ [])))
