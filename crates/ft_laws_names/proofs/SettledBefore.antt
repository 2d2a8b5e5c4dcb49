-- Settled at a stage of which the list has no elements, an end is on an element from before that stage.
use Rattle.std.proofs.Common.{◌≡◌, ℕ, ◌<◌, Bool, true, false, cond, not, nat_eq, nat_le, List, [], ◌∷◌, Option, Some, None, refl, find, arith}
use Rattle.std.specs.List.{list_any}
use Rattle.std.specs.Option.{option_map, option_or}
use Rattle.std.proofs.lemmas.Bool.Decides.{nat_tests}
use Rattle.ft_base.specs.declared.stamps.Stamp.{Stamp}
use Rattle.ft_base.specs.declared.stamps.Stamp.TheVariants.{Acked, Local}
use Rattle.ft_base.specs.Scan.{len, settled_after}
use Rattle.ft_base.specs.Visibility.{has_occurred_at_stage, is_of_stage}
use Rattle.ft_base.proofs.Booleans.{both}
use Rattle.ft_props.specs.Element.{ElementId, ListElement, has_id, id, id_of_stamp, seen, stamps_of}
use Rattle.ft_props.specs.Slide.{settle}
use Rattle.ft_props.specs.Steps.{is_inserted_by}
use Rattle.ft_laws_names.specs.WellNamed.{IsNamedBefore}
use Rattle.ft_laws_names.proofs.Twins.{none-more}

module _ (k : ℕ) where
  -- what stage k sees and didn't insert is from before it
  seen-before : (x : ListElement) → is_inserted_by k x ≡ false → seen k x ≡ true → IsNamedBefore k (Some (id x))
  seen-before x e s = of x.ins e (both (has_occurred_at_stage k x.ins) (not (list_any (has_occurred_at_stage k) (stamps_of x).dels)) s).0
    where
      of : (t : Stamp) → is_of_stage k t ≡ false → has_occurred_at_stage k t ≡ true → IsNamedBefore k (Some (id_of_stamp t x.nth))
      of (Acked r c) g h = tt
      of (Local j) g h = before j g h
        where
          before : (i : ℕ) → nat_eq i k ≡ false → nat_le i k ≡ true → i < k
          before i g h = grind (arith, nat_tests)

  abbrev IsBefore : Option ListElement → Type 0
  IsBefore o = IsNamedBefore k (option_map id o)

  kept-before : (x : ListElement) (last : Option ListElement) → is_inserted_by k x ≡ false → IsBefore last → IsBefore (cond (seen k x) (Some x) last)
  kept-before x last e l = step (seen k x) refl
    where
      step : (b : Bool) → seen k x ≡ b → IsBefore (cond b (Some x) last)
      step true s = seen-before x e s
      step false s = l

  found-before : (last : Option ListElement) (xs : List ListElement) → len (is_inserted_by k) xs ≡ 0 → IsBefore last → IsBefore (option_or (find (seen k) xs) last)
  found-before last [] h l = l
  found-before last (x ∷ xs) h l =
      let parts = none-more (is_inserted_by k x) (len (is_inserted_by k) xs) h in
      step (seen k x) refl parts.0 (found-before last xs parts.1 l)
    where
      step : (b : Bool) → seen k x ≡ b → is_inserted_by k x ≡ false → IsBefore (option_or (find (seen k) xs) last)
          → IsBefore (option_or (cond b (Some x) (find (seen k) xs)) last)
      step true s e ih = seen-before x e s
      step false s e ih = ih

  settled_after-before : (is : ListElement → Bool) (last : Option ListElement) (xs : List ListElement) → len (is_inserted_by k) xs ≡ 0 → IsBefore last
      → IsBefore (settled_after is (seen k) last xs)
  settled_after-before is last [] h l = tt
  settled_after-before is last (x ∷ xs) h l =
      let parts = none-more (is_inserted_by k x) (len (is_inserted_by k) xs) h in
      step (is x) (found-before last (x ∷ xs) h l) (settled_after-before is (cond (seen k x) (Some x) last) xs parts.1 (kept-before x last parts.0 l))
    where
      step : (b : Bool) → IsBefore (option_or (find (seen k) (x ∷ xs)) last) → IsBefore (settled_after is (seen k) (cond (seen k x) (Some x) last) xs)
          → IsBefore (cond b (option_or (find (seen k) (x ∷ xs)) last) (settled_after is (seen k) (cond (seen k x) (Some x) last) xs))
      step true f s = f
      step false f s = s

  pub settled-before : (xs : List ListElement) → len (is_inserted_by k) xs ≡ 0 → (o : Option ElementId) → IsNamedBefore k (settle xs k o)
  settled-before xs h None = tt
  settled-before xs h (Some a) = settled_after-before (has_id a) None xs h tt
