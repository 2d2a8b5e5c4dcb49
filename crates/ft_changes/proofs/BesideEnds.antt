-- To which elements ends go, by their names, if some of a list are marked to go away beside which each test is passed.
use Rattle.std.proofs.Common.{◌≡◌, ◌≤◌, Bool, true, false, cond, not, ◌&&◌, ◌||◌, List, [], ◌∷◌, Option, Some, None, refl, sym, ◌∙◌, ap, subst, filter, find}
use Rattle.std.specs.List.{list_any}
use Rattle.std.specs.Option.{option_map, option_or}
use Rattle.ft_base.proofs.Booleans.{both}
use Rattle.ft_base.specs.Scan.{len, settled}
use Rattle.ft_props.specs.Element.{ElementId, ListElement, has_id, id}
use Rattle.ft_laws_agreement.proofs.SlidEnds.{same_id-refl}
use Rattle.ft_changes.specs.Beside.{pass_beside_marked}
use Rattle.ft_changes.proofs.AckedLists.{neither}
use Rattle.ft_changes.proofs.BesideRuns.{IsBetween, IsFound, Search, found_from, gone-found, left, none-found, nothing, of_marked, once-before, none-onto, none-skipped, onto, onto-before, onto-behind, search-list, settled-at, something}

-- an element with its mark, and whether it is named so
abbrev pub Marked : Type 0
Marked = Bool × ListElement

abbrev pub named : ElementId → Marked → Bool
named a m = has_id a m.1

abbrev pub name_of : Option Marked → Option ElementId
name_of o = option_map (λ m. id m.1) o

-- an end that settles, where none goes away, and of what is left
abbrev pub settle_all : (ListElement → Bool) → List Marked → Option ElementId → Option ElementId
settle_all ok zs None = None
settle_all ok zs (Some a) = name_of (settled (named a) (of_marked ok) zs)

abbrev pub settle_left : (ListElement → Bool) → List Marked → Option ElementId → Option ElementId
settle_left ok zs None = None
settle_left ok zs (Some a) = name_of (settled (named a) (left ok) zs)

-- a place where one stands that passes
pub record IsPlace {A : Type 0} (test : A → Bool) (zs : List A) : Type 0 where
  pub before : List A
  pub here : A
  pub behind : List A
  pub all : zs ≡ onto before (here ∷ behind)
  pub passes : test here ≡ true

place-of : {A : Type 0} (test : A → Bool) (zs : List A) → list_any test zs ≡ true → IsPlace test zs
place-of test zs h = by (search-list test zs)
  where
    by : Search test zs → IsPlace test zs
    by (nothing none found) = absurd (cc)
    by (something f) = record {
      before = onto f.before [];
      here = f.here;
      behind = f.behind;
      all = f.all ∙ onto-behind [] f.before (f.here ∷ f.behind);
      passes = f.passes;
    }

left-none : (ok : ListElement → Bool) (s : List Marked) → list_any (of_marked ok) s ≡ false → list_any (left ok) s ≡ false
left-none ok [] h = refl
left-none ok (m ∷ s) h =
    let p = neither (ok m.1) (list_any (of_marked ok) s) h in
    ap (λ o. (not m.0 && o) || list_any (left ok) s) p.0 ∙ by m.0 (left-none ok s p.1)
  where
    by : (b : Bool) → list_any (left ok) s ≡ false → (not b && false) || list_any (left ok) s ≡ false
    by true ih = ih
    by false ih = ih

-- the first, if it stays or goes
stays-found : (ok : ListElement → Bool) (b : Marked) (r : List Marked) → b.0 ≡ false → ok b.1 ≡ true → find (left ok) (b ∷ r) ≡ Some b
stays-found ok b r m e = ap (λ d. cond (not d && ok b.1) (Some b) (find (left ok) r)) m ∙ ap (λ d. cond d (Some b) (find (left ok) r)) e

gone-skipped : (ok : ListElement → Bool) (b : Marked) (r : List Marked) → b.0 ≡ true → find (left ok) (b ∷ r) ≡ find (left ok) r
gone-skipped ok b r m = ap (λ d. cond (not d && ok b.1) (Some b) (find (left ok) r)) m

module _ (stands always : ListElement → Bool) (zs : List Marked) (beside : pass_beside_marked always (filter (of_marked stands) zs) ≡ true)
    (once : (a : ElementId) → len (named a) zs ≤ 1) where
  at_place : (is ok : Marked → Bool) (l r : List Marked) (x : Marked) → zs ≡ onto l (x ∷ r) → list_any is l ≡ false → is x ≡ true
      → settled is ok zs ≡ found_from ok l (x ∷ r)
  at_place is ok l r x all none e = ap (settled is ok) all ∙ settled-at is ok l r x none e

  none-before : (a : ElementId) (l r : List Marked) (x : Marked) → zs ≡ onto l (x ∷ r) → named a x ≡ true → list_any (named a) l ≡ false
  none-before a l r x all e = once-before (named a) l r x (subst (λ ys. len (named a) ys ≤ 1) all (once a)) e

  named-at : (a : ElementId) (ok : Marked → Bool) (l r : List Marked) (x : Marked) → zs ≡ onto l (x ∷ r) → named a x ≡ true
      → settled (named a) ok zs ≡ found_from ok l (x ∷ r)
  named-at a ok l r x all e = at_place (named a) ok l r x all (none-before a l r x all e) e

  -- two settles of one that goes
  run-left : (ok other : ListElement → Bool) → IsBetween stands always ok → IsBetween stands always other → (l r : List Marked) (b : Marked)
      → zs ≡ onto l (b ∷ r) → b.0 ≡ true → stands b.1 ≡ true → found_from (left other) l (b ∷ r) ≡ found_from (left ok) l (b ∷ r)
  run-left ok other h g l r b all m e = gone-found stands always zs beside other g l r b all m e
      ∙ sym (gone-found stands always zs beside ok h l r b all m e)

  -- an end goes where it would have gone, or from there to where it would have gone of what is left
  pub data Goes (ok : ListElement → Bool) (a : ElementId) : Type 0 where
    as_before : settle_left ok zs (Some a) ≡ settle_all ok zs (Some a) → Goes ok a
    from_run : ((other : ListElement → Bool) → IsBetween stands always other
        → settle_left other zs (settle_all ok zs (Some a)) ≡ settle_left ok zs (Some a)) → Goes ok a

  module _ (ok : ListElement → Bool) (h : IsBetween stands always ok) (a : ElementId) (l r : List Marked) (x : Marked) (all : zs ≡ onto l (x ∷ r))
      (meant : named a x ≡ true) where
    -- it goes to the one at this place
    goes-to : (s t : List Marked) (b : Marked) → zs ≡ onto s (b ∷ t) → ok b.1 ≡ true → settle_all ok zs (Some a) ≡ Some (id b.1)
        → (b.0 ≡ false → found_from (left ok) l (x ∷ r) ≡ Some b)
        → (b.0 ≡ true → found_from (left ok) l (x ∷ r) ≡ found_from (left ok) s (b ∷ t)) → Goes ok a
    goes-to s t b there e to same moved = by b.0 refl
      where
        by : (m : Bool) → b.0 ≡ m → Goes ok a
        by false m = Goes.as_before (ap name_of (named-at a (left ok) l r x all meant ∙ same m) ∙ sym to)
        by true m = Goes.from_run (λ other g.
            ap (settle_left other zs) to
            ∙ ap name_of (named-at (id b.1) (left other) s t b there (same_id-refl (id b.1)) ∙ run-left ok other h g s t b there m (h.below b.1 e)
            ∙ sym (moved m) ∙ sym (named-at a (left ok) l r x all meant)))

    goes-behind : IsFound (of_marked ok) (x ∷ r) → Goes ok a
    goes-behind f =
        let b = f.here in
        let s = f.before in
        let none = left-none ok s f.none in
        let there : zs ≡ onto (onto s l) (b ∷ f.behind) = all ∙ ap (onto l) f.all ∙ onto-behind l s (b ∷ f.behind) in
        let first : find (left ok) (x ∷ r) ≡ find (left ok) (b ∷ f.behind) =
        ap (find (left ok)) f.all ∙ none-skipped (left ok) s (b ∷ f.behind) none in
        goes-to (onto s l) f.behind b there f.passes
        (ap name_of (named-at a (of_marked ok) l r x all meant ∙ ap (λ o. option_or o (find (of_marked ok) l)) f.found))
        (λ m. ap (λ o. option_or o (find (left ok) l)) (first ∙ stays-found ok b f.behind m f.passes))
        (λ m. ap (λ o. option_or o (find (left ok) l)) first
        ∙ ap (option_or (find (left ok) (b ∷ f.behind))) (sym (none-onto (left ok) s l none)))

    goes-before : list_any (of_marked ok) (x ∷ r) ≡ false → IsFound (of_marked ok) l → Goes ok a
    goes-before none f =
        let b = f.here in
        let s = f.before in
        let skipped = left-none ok s f.none in
        let t = onto s (x ∷ r) in
        let there : zs ≡ onto f.behind (b ∷ t) = all ∙ ap (λ ys. onto ys (x ∷ r)) f.all ∙ onto-before s (b ∷ f.behind) (x ∷ r) in
        let nowhere : find (left ok) (x ∷ r) ≡ None = none-found (left ok) (x ∷ r) (left-none ok (x ∷ r) none) in
        let last : find (left ok) l ≡ find (left ok) (b ∷ f.behind) =
        ap (find (left ok)) f.all ∙ none-skipped (left ok) s (b ∷ f.behind) skipped in
        goes-to f.behind t b there f.passes
        (ap name_of (named-at a (of_marked ok) l r x all meant
        ∙ ap (λ o. option_or o (find (of_marked ok) l)) (none-found (of_marked ok) (x ∷ r) none) ∙ f.found))
        (λ m. ap (λ o. option_or o (find (left ok) l)) nowhere ∙ last ∙ stays-found ok b f.behind m f.passes)
        (λ m. ap (λ o. option_or o (find (left ok) l)) (sym (none-onto (left ok) s (x ∷ r) skipped) ∙ sym (gone-skipped ok b t m))
        ∙ ap (option_or (find (left ok) (b ∷ t))) (last ∙ gone-skipped ok b f.behind m))

    goes-nowhere : list_any (of_marked ok) (x ∷ r) ≡ false → list_any (of_marked ok) l ≡ false → Goes ok a
    goes-nowhere none before =
        Goes.as_before (ap name_of (named-at a (left ok) l r x all meant
        ∙ ap (λ o. option_or o (find (left ok) l)) (none-found (left ok) (x ∷ r) (left-none ok (x ∷ r) none))
        ∙ none-found (left ok) l (left-none ok l before)
        ∙ sym (ap (λ o. option_or o (find (of_marked ok) l)) (none-found (of_marked ok) (x ∷ r) none) ∙ none-found (of_marked ok) l before)
        ∙ sym (named-at a (of_marked ok) l r x all meant)))

    goes-from : Goes ok a
    goes-from = by (search-list (of_marked ok) (x ∷ r)) (search-list (of_marked ok) l)
      where
        by : Search (of_marked ok) (x ∷ r) → Search (of_marked ok) l → Goes ok a
        by (something f) s = goes-behind f
        by (nothing none found) (something f) = goes-before none f
        by (nothing none found) (nothing before f) = goes-nowhere none before

  pub goes : (ok : ListElement → Bool) → IsBetween stands always ok → (a : ElementId) → list_any (named a) zs ≡ true → Goes ok a
  goes ok h a there = let p = place-of (named a) zs there in goes-from ok h a p.before p.behind p.here p.all p.passes

  -- an end that slides stays, or goes where it settles of what is left
  pub data Slides (slid : Option ElementId) (a : ElementId) : Type 0 where
    stays : slid ≡ Some a → Slides slid a
    settles : ((ok : ListElement → Bool) → IsBetween stands always ok → slid ≡ settle_left ok zs (Some a)) → Slides slid a

  module _ (sequenced unremoved : ListElement → Bool) (h : IsBetween stands always unremoved)
      (within : (x : ListElement) → unremoved x ≡ true → sequenced x ≡ true) (a : ElementId) where
    abbrev meant_sequenced : Marked → Bool
    meant_sequenced m = sequenced m.1 && has_id a m.1

    abbrev on_it : Marked → Bool
    on_it m = has_id a m.1 && unremoved m.1

    none-meant : (l : List Marked) → list_any (named a) l ≡ false → list_any meant_sequenced l ≡ false
    none-meant [] e = refl
    none-meant (m ∷ l) e =
        let p = neither (has_id a m.1) (list_any (named a) l) e in
        ap (λ b. (sequenced m.1 && b) || list_any meant_sequenced l) p.0 ∙ by (sequenced m.1) (none-meant l p.1)
      where
        by : (b : Bool) → list_any meant_sequenced l ≡ false → (b && false) || list_any meant_sequenced l ≡ false
        by true ih = ih
        by false ih = ih

    pub slides : (eq : (x : ListElement) → has_id a x ≡ true → a ≡ id x) → list_any on_it zs ≡ true
        → Slides (name_of (settled meant_sequenced (left unremoved) zs)) a
    slides eq there = by x.0 refl
      where
        p : IsPlace on_it zs
        p = place-of on_it zs there

        x : Marked
        x = p.here

        parts : (has_id a p.here.1 ≡ true) × (unremoved p.here.1 ≡ true)
        parts = both (has_id a p.here.1) (unremoved p.here.1) p.passes

        meant : meant_sequenced p.here ≡ true
        meant = rw (within p.here.1 parts.1, parts.0) refl

        slid : settled meant_sequenced (left unremoved) zs ≡ found_from (left unremoved) p.before (p.here ∷ p.behind)
        slid = at_place meant_sequenced (left unremoved) p.before p.behind p.here p.all
            (none-meant p.before (none-before a p.before p.behind p.here p.all parts.0)) meant

        by : (m : Bool) → p.here.0 ≡ m → Slides (name_of (settled meant_sequenced (left unremoved) zs)) a
        by false m = Slides.stays (ap name_of (slid
            ∙ ap (λ o. option_or o (find (left unremoved) p.before)) (stays-found unremoved p.here p.behind m parts.1)) ∙ ap Some (sym
            (eq p.here.1 parts.0)))
        by true m = Slides.settles (λ ok g. ap name_of (slid
            ∙ run-left ok unremoved g h p.before p.behind p.here p.all m (h.below p.here.1 parts.1)
            ∙ sym (named-at a (left ok) p.before p.behind p.here p.all parts.0)))
