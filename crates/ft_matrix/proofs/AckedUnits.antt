-- A named list beside the units of a vector where a pending stage is sequenced: names change, handles stay.
use Rattle.std.proofs.Common.{◌≡◌, ℕ, ◌≤◌, ◌<◌, Bool, true, false, cond, not, nat_eq, nat_lt, List, [], ◌∷◌, ◌++◌, Option, Some, None, refl, sym, ◌∙◌, ap, subst, map, filter, arith}
use Rattle.std.specs.List.{AllByRecursion, list_all}
use Rattle.std.proofs.lemmas.Bool.Decides.{nat_tests}
use Rattle.ft_base.specs.declared.stamps.Stamp.{Stamp}
use Rattle.ft_base.specs.declared.stamps.Stamp.TheVariants.{Acked, Local}
use Rattle.ft_base.specs.Scan.{len, one_more_if, rank}
use Rattle.ft_base.specs.Visibility.{is_acked, is_of_stage}
use Rattle.ft_props.specs.Element.{ElementId, ListElement, NamelessElement, PendingId, SequencedId, has_id, id, nameless, removal_stamp, same_id}
use Rattle.ft_props.specs.Steps.{Sequence, acked_element, acked_id, acked_list, acked_props, acked_removal, acked_stamp, author, remaining_removal}
use Rattle.ft_props.proofs.AcknowledgedInsertion.{same_nat}
use Rattle.ft_tree_leaves.specs.Elements as tree
use Rattle.ft_tree_leaves.specs.Elements.{TreeElement, acked_stamps}
use Rattle.ft_laws_agreement.proofs.SlidEnds.{true-false}
use Rattle.ft_laws_names.specs.WellNamed.{IsWellNumbered, has_odd_removal}
use Rattle.ft_laws_names.proofs.AckedLists.{IsBelow, acked-id, same-acked, stands-below}
use Rattle.ft_laws_names.proofs.Beside.{ends, next}
use Rattle.ft_laws_names.proofs.ForeignAlike.{all-behind}
use Rattle.ft_matrix.specs.Units.{has_handle}
use Rattle.ft_matrix.proofs.HeldGrids.{HandlesOnce, MeetsAt, meet-at, meets-rank}
use Rattle.ft_matrix.proofs.UnitLists.{BesideUnits, HandleNamed, IsUnit}

module _ (k s c : ℕ) where
  -- ---- one unit

  acked-dels : (ds : List Stamp) (o : Option ℕ) → list_all is_acked ds ≡ true
      → (ds ++ acked_removal k s c o) ++ removal_stamp (remaining_removal k o) ≡ map (acked_stamp k s c) (ds ++ removal_stamp o)
  acked-dels [] None h = refl
  acked-dels [] (Some j) h = step (nat_eq j k)
    where
      step : (b : Bool) → cond b (Acked s c ∷ []) [] ++ removal_stamp (cond b None (Some j)) ≡ cond b (Acked s c) (Local j) ∷ []
      step true = refl
      step false = refl
  acked-dels (Acked r d ∷ ds) o h = ap (λ es. Acked r d ∷ es) (acked-dels ds o h)
  acked-dels (Local j ∷ ds) o h = (cc)

  acked-behind : (o : Option ℕ) → list_all is_acked (acked_removal k s c o) ≡ true
  acked-behind None = refl
  acked-behind (Some j) = step (nat_eq j k)
    where
      step : (b : Bool) → list_all is_acked (cond b (Acked s c ∷ []) []) ≡ true
      step true = refl
      step false = refl

  none-odd : (x : ListElement) → has_odd_removal x ≡ false → list_all is_acked x.dels ≡ true
  none-odd x h = shown (list_all is_acked x.dels) h
    where
      shown : (b : Bool) → not b ≡ false → b ≡ true
      shown true g = refl
      shown false g = (cc)

  abbrev acked-nameless : NamelessElement → NamelessElement
  acked-nameless n = record {
    content = n.content;
    stamps = acked_stamps k s c n.stamps;
    by = cond (is_of_stage k n.stamps.ins) (author s c n.content) n.by;
    props = acked_props k n.props n.pending;
    pending = filter (λ p. not (nat_eq p.0 k)) n.pending;
  }

  pub acked-unit : (n : ℕ) (x : ListElement) (e : TreeElement ℕ) → IsUnit x e → IsUnit (acked_element k n s c x) (tree.acked_element k s c None e)
  acked-unit n x e u = record {
    same = ap (λ ds. record (acked-nameless (nameless x)) { stamps = record { ins = acked_stamp k s c x.ins; dels = ds } }) (acked-dels x.dels x.removal_stage (none-odd x u.even))
        ∙ ap acked-nameless u.same;
    even = ap not (all-behind x.dels (acked_removal k s c x.removal_stage) (acked-behind x.removal_stage)) ∙ u.even;
  }

  -- ---- a list

  abbrev pub AllBelow : ℕ → List ListElement → Type 0
  AllBelow n xs = AllByRecursion (λ x. IsBelow n (id x)) xs

  -- what holds of name and handle at each place holds of the new names, where the acknowledgement keeps it
  pub units-acked : (n : ℕ) (P R : ElementId → ℕ → Type 0) → ((a : ElementId) (h : ℕ) → IsBelow n a → P a h → R (acked_id k n a) h)
      → {xs : List ListElement} {es : List (TreeElement ℕ)} → AllBelow n xs → BesideUnits (HandleNamed P) xs es
      → BesideUnits (HandleNamed R) (map (acked_element k n s c) xs) (map (tree.acked_element k s c None) es)
  units-acked n P R f b ends = ends
  units-acked n P R f b (next {x = x} {y = e} q qs) =
      next (acked-unit n x e q.0, subst (λ a. R a e.unit) (sym (acked-id k s c n x)) (f (id x) e.unit b.0 q.1)) (units-acked n P R f b.1 qs)

  less : (b : Bool) (i : ℕ) → one_more_if b i ≡ 0 → i ≡ 0
  less true i h = absurd (omega arith)
  less false i h = h

  none : (b : Bool) (i : ℕ) → one_more_if b i ≡ 0 → b ≡ false
  none true i h = absurd (omega arith)
  none false i h = refl

  name-below : (n : ℕ) (a : ElementId) → ((i : ℕ) → n ≤ i → same_id (SequencedId i) a ≡ false) → IsBelow n a
  name-below n (PendingId j m) h = tt
  name-below n (SequencedId j) h = number (nat_lt j n) refl
    where
      number : (b : Bool) → nat_lt j n ≡ b → j < n
      number true e = grind (arith, nat_tests)
      number false e =
          let high : n ≤ j = grind (arith, nat_tests) in
          absurd (true-false (sym (same_nat j) ∙ h j high))

  all-below : (n : ℕ) (xs : List ListElement) → ((i : ℕ) → n ≤ i → len (has_id (SequencedId i)) xs ≡ 0) → AllBelow n xs
  all-below n [] f = tt
  all-below n (x ∷ xs) f = (
    name-below n (id x) (λ i l. none (same_id (SequencedId i) (id x)) (len (has_id (SequencedId i)) xs) (f i l)),
    all-below n xs (λ i l. less (has_id (SequencedId i) x) (len (has_id (SequencedId i)) xs) (f i l)),
  )

  module _ (last : ℕ) (list : Sequence) (w : IsWellNumbered last list) where
    pub below : AllBelow list.made list.items
    below = all-below list.made list.items w.below

    pub meets-acked : (a : ElementId) (h : ℕ) → 1 ≤ len (has_id a) list.items → {es : List (TreeElement ℕ)} → HandlesOnce es → BesideUnits IsUnit list.items es
        → rank (has_id a) (λ _. true) list.items ≡ rank (has_handle h) (λ _. true) es
        → rank (has_id (acked_id k list.made a)) (λ _. true) (acked_list k s c list).items
        ≡ rank (has_handle h) (λ _. true) (map (tree.acked_element k s c None) es)
    meets-acked a h there o us r =
        meets-rank (acked_id k list.made a) h (units-acked list.made (MeetsAt a h) (MeetsAt (acked_id k list.made a) h)
        (λ b g l q. same-acked k list.made a b (stands-below last k s c list w a there) l ∙ q) below (meet-at a h w.once o us r))
