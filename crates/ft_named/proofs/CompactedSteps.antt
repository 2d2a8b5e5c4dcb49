-- Compaction of a list, of any content: what is written of the tree's elements that stay is kept of the document's list, and names that
-- are held stand where places tell.
use Rattle.std.proofs.Common.{◌≡◌, ℕ, zero, suc, ◌-◌, Bool, true, false, cond, not, ◌&&◌, List, [], ◌∷◌, ◌++◌, Option, Some, None, IfSome, slice_get, inl, inr, refl, sym, ◌∙◌, ap, subst, arith, map, filter}
use Rattle.std.specs.Prelude.{◌⊎◌}
use Rattle.std.specs.List.{AllByRecursion, list_all}
use Rattle.ft_base.specs.declared.stamps.Stamp.{Stamp}
use Rattle.ft_base.specs.declared.stamps.Stamp.TheVariants.{Acked, Local}
use Rattle.ft_base.specs.declared.elements.Element.{Element as ElementStamps}
use Rattle.ft_base.specs.Scan.{len, one_more_if}
use Rattle.ft_base.specs.Visibility.{is_acked}
use Rattle.ft_base.proofs.Booleans.{both}
use Rattle.ft_props.specs.Compaction.{Keeps, has_collectable_removal, is_before_pending, is_collectable, is_insertion_at_or_below, with_universal_insertion}
use Rattle.ft_props.specs.Compaction.{none as keeps_none, same as keeps_same, universal as keeps_universal, collected as keeps_collected}
use Rattle.ft_props.specs.Element.{ElementContent, ElementId, ListElement, NamelessElement, has_id, id, id_of_stamp, is_pending, removal_stamp, same_id, stamps_of}
use Rattle.ft_tree_leaves.specs.Elements.{TreeElement, universal_stamps, with_stamps}
use Rattle.ft_tree_leaves.specs.Places.{seen_before}
use Rattle.ft_laws_compaction.specs.Free.{AreFree}
use Rattle.ft_laws_agreement.specs.Sequencing.{is_marked_later}
use Rattle.ft_laws_agreement.proofs.SlidEnds.{same_id-eq}
use Rattle.ft_laws_names.proofs.Beside.{Beside, ends, next}
use Rattle.ft_zamboni.specs.Scours.{Writes, marked, place_among, staying}
use Rattle.ft_zamboni.specs.Scours.{none as writes_none, same as writes_same, universal as writes_universal}
use Rattle.ft_zamboni.specs.Scours.{is_collectable as is_tree_collectable}
use Rattle.ft_zamboni.proofs.BothSweeps.{second}
use Rattle.ft_zamboni.proofs.Marks.{gone-few}
use Rattle.ft_zamboni.proofs.SweptElements.{MayGo}
use Rattle.ft_named.proofs.Bares.{AreElements, IsElement, same-stamps}
use Rattle.ft_named.proofs.Placed.{name_place}

-- ---- what may go

module _ (floor : ℕ) where
  -- a removed element of the tree is one of the document, which isn't pending
  pub collectable-there : (e : ListElement) → is_marked_later e ≡ true → has_collectable_removal floor (stamps_of e).dels ≡ true → is_collectable floor e ≡ true
  collectable-there e later h = step e.ins e.dels e.removal_stage h later
    where
      step : (t : Stamp) (ds : List Stamp) (o : Option ℕ) → has_collectable_removal floor (ds ++ removal_stamp o) ≡ true
          → is_marked_later (record e { ins = t; dels = ds }) ≡ true
          → is_acked t && has_collectable_removal floor ds ≡ true
      step t [] None g l = (cc)
      step t [] (Some k) g l = (cc)
      step (Acked s c) (Acked r d ∷ ds) o g l = g
      step (Acked s c) (Local j ∷ ds) o g l = (cc)
      step (Local k) (Acked r d ∷ ds) o g l = (cc)
      step (Local k) (Local j ∷ ds) o g l = (cc)

  pub universal-id : (e : ListElement) → is_insertion_at_or_below floor e.ins ≡ true → id (with_universal_insertion e) ≡ id e
  universal-id e h = step e.ins h
    where
      step : (t : Stamp) → is_insertion_at_or_below floor t ≡ true → id_of_stamp (Acked 0 0) e.nth ≡ id_of_stamp t e.nth
      step (Acked s c) g = refl
      step (Local k) g = (cc)

  universal-sequenced : (e : ListElement) → is_insertion_at_or_below floor e.ins ≡ true → is_pending e ≡ false
  universal-sequenced e h = step e.ins h
    where
      step : (t : Stamp) → is_insertion_at_or_below floor t ≡ true → not (is_acked t) ≡ false
      step (Acked s c) g = refl
      step (Local k) g = (cc)

  collectable-sequenced : (e : ListElement) → is_collectable floor e ≡ true → is_pending e ≡ false
  collectable-sequenced e h = ap not (both (is_acked e.ins) (has_collectable_removal floor e.dels) h).0

-- ---- lists beside one another, by their first elements

module _ {A B : Type 0} (Q : A → B → Type 0) where
  abbrev Heads : List A → List B → Type 0
  Heads [] [] = Unit {0}
  Heads [] (y ∷ ys) = ⊥
  Heads (x ∷ xs) [] = ⊥
  Heads (x ∷ xs) (y ∷ ys) = Q x y × Beside A B Q xs ys

  heads : {xs : List A} {ys : List B} → Beside A B Q xs ys → Heads xs ys
  heads ends = tt
  heads (next q qs) = (q, qs)

module _ {U : Type 0} (floor : ℕ) where
  -- an element as it is, or with the insertion that everybody sees
  abbrev IsWritten : TreeElement U → TreeElement U → Type 0
  IsWritten y x = (y ≡ x) ⊎ ((is_insertion_at_or_below floor x.stamps.ins ≡ true) × (y ≡ with_stamps universal_stamps x))

  abbrev Written : List (TreeElement U) → List (TreeElement U) → Type 0
  Written [] [] = Unit {0}
  Written [] (x ∷ xs) = ⊥
  Written (y ∷ ys) [] = ⊥
  Written (y ∷ ys) (x ∷ xs) = IsWritten y x × Writes floor ys xs

  written : {ys xs : List (TreeElement U)} → Writes floor ys xs → Written ys xs
  written writes_none = tt
  written (writes_same w) = (inl refl, w)
  written (writes_universal h w) = (inr (h, refl), w)

  -- marks of all elements
  pub staying-marked : (xs : List (TreeElement U)) → staying (map (marked floor) xs) ≡ filter (λ e. not (is_tree_collectable floor e.stamps)) xs
  staying-marked [] = refl
  staying-marked (x ∷ xs) = step (is_tree_collectable floor x.stamps) (staying-marked xs)
    where
      step : (b : Bool) → staying (map (marked floor) xs) ≡ filter (λ e. not (is_tree_collectable floor e.stamps)) xs
          → cond (not b) (x ∷ staying (map (marked floor) xs)) (staying (map (marked floor) xs))
          ≡ cond (not b) (x ∷ filter (λ e. not (is_tree_collectable floor e.stamps)) xs) (filter (λ e. not (is_tree_collectable floor e.stamps)) xs)
      step true h = h
      step false h = ap (λ zs. x ∷ zs) h

  pub gone-marked : (xs : List (TreeElement U)) (i : ℕ) → place_among (map (marked floor) xs) i ≡ i - seen_before (λ e. is_tree_collectable floor e.stamps) xs i
  gone-marked xs i = ap (λ n. i - n) (count xs i)
    where
      count : (xs : List (TreeElement U)) (i : ℕ) → seen_before (λ (m : Bool × TreeElement U). m.0) (map (marked floor) xs) i ≡ seen_before (λ e. is_tree_collectable floor e.stamps) xs i
      count xs zero = refl
      count [] (suc i) = refl
      count (x ∷ xs) (suc i) = ap (one_more_if (is_tree_collectable floor x.stamps)) (count xs i)

  pub marked-go : (xs : List (TreeElement U)) → AllByRecursion (MayGo floor) (map (marked floor) xs)
  marked-go [] = tt
  marked-go (x ∷ xs) = (λ h. h, marked-go xs)

  pub marked-list : (xs : List (TreeElement U)) → map second (map (marked floor) xs) ≡ xs
  marked-list [] = refl
  marked-list (x ∷ xs) = ap (λ zs. x ∷ zs) (marked-list xs)

-- ---- what is kept

module _ {U : Type 0} (content : U → ElementContent) (floor : ℕ) (held : ElementId → Bool) where
  -- marked elements of the tree beside the document's, and what is written of those that stay beside what is kept of these
  pub data Compacts : List (Bool × TreeElement U) → List ListElement → List (TreeElement U) → List ListElement → Type 0 where
    none : Compacts [] [] [] []
    same : {x : TreeElement U} {e : ListElement} {ms : List (Bool × TreeElement U)} {es : List ListElement} {xs : List (TreeElement U)} {ks : List ListElement}
        → IsElement content x e → Compacts ms es xs ks → Compacts ((false, x) ∷ ms) (e ∷ es) (x ∷ xs) (e ∷ ks)
    universal : {x : TreeElement U} {e : ListElement} {ms : List (Bool × TreeElement U)} {es : List ListElement}
        {xs : List (TreeElement U)} {ks : List ListElement}
        → IsElement content x e → is_insertion_at_or_below floor e.ins ≡ true → Compacts ms es xs ks
        → Compacts ((false, x) ∷ ms) (e ∷ es) (with_stamps universal_stamps x ∷ xs) (with_universal_insertion e ∷ ks)
    collected : {x : TreeElement U} {e : ListElement} {ms : List (Bool × TreeElement U)} {es : List ListElement}
        {xs : List (TreeElement U)} {ks : List ListElement}
        → is_collectable floor e ≡ true → held (id e) ≡ false → is_before_pending es ≡ false → Compacts ms es xs ks → Compacts ((true, x) ∷ ms) (e ∷ es) xs ks

  -- some elements are kept so
  abbrev pub KeepsSome : List (Bool × TreeElement U) → List ListElement → List (TreeElement U) → Type 0
  KeepsSome ms es xs = (ks : List ListElement) × Compacts ms es xs ks

  -- a removed element may go: it is sequenced, isn't held, and stands before no pending one
  pub record IsToGo (e : ListElement) (behind : List ListElement) : Type 0 where
    pub is : is_collectable floor e ≡ true
    pub name : held (id e) ≡ false
    pub next : is_before_pending behind ≡ false

  -- each element with a removal at or below the floor may
  abbrev pub AreToGo : List ListElement → Type 0
  AreToGo [] = Unit {0}
  AreToGo (e ∷ es) = (has_collectable_removal floor (stamps_of e).dels ≡ true → IsToGo e es) × AreToGo es

  pub to-go : (es : List ListElement) → AreFree floor held es → list_all is_marked_later es ≡ true → AreToGo es
  to-go [] free later = tt
  to-go (e ∷ es) free later =
      let l = both (is_marked_later e) (list_all is_marked_later es) later in (
        λ h. let is = collectable-there floor e l.0 h in record { is = is; name = (free.0 is).name; next = (free.0 is).next },
        to-go es free.1 l.1,
      )

  pub compacts-all : (ms : List (Bool × TreeElement U)) → AllByRecursion (MayGo floor) ms → (es : List ListElement)
      → AreElements content (map second ms) es → AreToGo es
      → (xs : List (TreeElement U)) → Writes floor xs (staying ms) → KeepsSome ms es xs
  compacts-all [] may [] b go [] w = ([], none)
  compacts-all [] may [] b go (y ∷ ys) w = absurd (written floor w)
  compacts-all [] may (e ∷ es) b go xs w = absurd (heads (IsElement content) b)
  compacts-all (m ∷ ms) may [] b go xs w = absurd (heads (IsElement content) b)
  compacts-all ((true, x) ∷ ms) may (e ∷ es) b go xs w =
      let h = go.0 (sym (ap (λ (t : ElementStamps). has_collectable_removal floor t.dels) (same-stamps content x e (heads (IsElement content) b).0)) ∙ may.0 refl) in
      let rest = compacts-all ms may.1 es (heads (IsElement content) b).1 go.1 xs w in
      (rest.0, collected h.is h.name h.next rest.1)
  compacts-all ((false, x) ∷ ms) may (e ∷ es) b go [] w = absurd (written floor w)
  compacts-all ((false, x) ∷ ms) may (e ∷ es) b go (y ∷ ys) w =
      let q = (heads (IsElement content) b).0 in
      let rest = compacts-all ms may.1 es (heads (IsElement content) b).1 go.1 ys (written floor w).1 in
      elim (written floor w).0 [
        | inl h ↦ (e ∷ rest.0, subst (λ z. Compacts ((false, x) ∷ ms) (e ∷ es) (z ∷ ys) (e ∷ rest.0)) (sym h) (same q rest.1))
        | inr h ↦
            let low = sym (ap (λ (t : ElementStamps). is_insertion_at_or_below floor t.ins) (same-stamps content x e q)) ∙ h.0 in (
              with_universal_insertion e ∷ rest.0,
              subst (λ z. Compacts ((false, x) ∷ ms) (e ∷ es) (z ∷ ys) (with_universal_insertion e ∷ rest.0)) (sym h.1) (universal q low rest.1),
            )
      ]

  pub compacts : (ms : List (Bool × TreeElement U)) → AllByRecursion (MayGo floor) ms → (es : List ListElement)
      → AreElements content (map second ms) es → AreFree floor held es
      → list_all is_marked_later es ≡ true → (xs : List (TreeElement U)) → Writes floor xs (staying ms) → KeepsSome ms es xs
  compacts ms may es b free later xs w = compacts-all ms may es b (to-go es free later) xs w

  pub compacts-keeps : {ms : List (Bool × TreeElement U)} {es : List ListElement} {xs : List (TreeElement U)} {ks : List ListElement} → Compacts ms es xs ks
      → Keeps floor held ks es
  compacts-keeps none = keeps_none
  compacts-keeps (same q h) = keeps_same (compacts-keeps h)
  compacts-keeps (universal q l h) = keeps_universal l (compacts-keeps h)
  compacts-keeps (collected c n b h) = keeps_collected c n b (compacts-keeps h)

  pub compacts-elements : {ms : List (Bool × TreeElement U)} {es : List ListElement} {xs : List (TreeElement U)} {ks : List ListElement} → Compacts ms es xs ks
      → AreElements content xs ks
  compacts-elements none = ends
  compacts-elements (same q h) = next q (compacts-elements h)
  compacts-elements (universal q l h) =
      next (ap (λ (m : NamelessElement). record m { stamps = universal_stamps m.stamps }) q) (compacts-elements h)
  compacts-elements (collected c n b h) = compacts-elements h

  -- none of the pending ones goes
  pub compacts-pending : {ms : List (Bool × TreeElement U)} {es : List ListElement} {xs : List (TreeElement U)} {ks : List ListElement} → Compacts ms es xs ks
      → len is_pending ks ≡ len is_pending es
  compacts-pending none = refl
  compacts-pending (same {e = e} q h) = ap (one_more_if (is_pending e)) (compacts-pending h)
  compacts-pending (universal {e = e} {es = es} q l h) = compacts-pending h ∙ sym (ap (λ b. one_more_if b (len is_pending es)) (universal-sequenced floor e l))
  compacts-pending (collected {e = e} {es = es} c n b h) = compacts-pending h ∙ sym (ap (λ b. one_more_if b (len is_pending es)) (collectable-sequenced floor e c))

  -- ---- names that are held

  module _ (a : ElementId) (holds : held a ≡ true) where
    -- such an element doesn't go
    not-held : (e : ListElement) → held (id e) ≡ false → has_id a e ≡ false
    not-held e n = step (has_id a e) refl
      where
        step : (b : Bool) → has_id a e ≡ b → has_id a e ≡ false
        step false g = g
        step true g = let same = sym holds ∙ ap held (same_id-eq a (id e) g) ∙ n in (cc)

    universal-same : (e : ListElement) → is_insertion_at_or_below floor e.ins ≡ true → has_id a (with_universal_insertion e) ≡ has_id a e
    universal-same e l = ap (same_id a) (universal-id floor e l)

    pub compacts-there : {ms : List (Bool × TreeElement U)} {es : List ListElement} {xs : List (TreeElement U)} {ks : List ListElement} → Compacts ms es xs ks
        → len (has_id a) ks ≡ len (has_id a) es
    compacts-there none = refl
    compacts-there (same {e = e} q h) = ap (one_more_if (has_id a e)) (compacts-there h)
    compacts-there (universal {e = e} {es = es} {ks = ks} q l h) =
        ap (λ b. one_more_if b (len (has_id a) ks)) (universal-same e l) ∙ ap (one_more_if (has_id a e)) (compacts-there h)
    compacts-there (collected {e = e} {es = es} c n b h) = compacts-there h ∙ sym (ap (λ b. one_more_if b (len (has_id a) es)) (not-held e n))

    kept-step : (ms : List (Bool × TreeElement U)) (x : TreeElement U) (b : Bool) (p q : ℕ) → q ≡ place_among ms p
        → cond b 0 (suc q) ≡ place_among ((false, x) ∷ ms) (cond b 0 (suc p))
    kept-step ms x true p q h = omega arith
    kept-step ms x false p q h = let few = gone-few ms p in omega arith

    pub compacts-place : {ms : List (Bool × TreeElement U)} {es : List ListElement} {xs : List (TreeElement U)} {ks : List ListElement} → Compacts ms es xs ks
        → name_place ks a ≡ place_among ms (name_place es a)
    compacts-place none = refl
    compacts-place (same {x = x} {e = e} {ms = ms} {es = es} {ks = ks} q h) = kept-step ms x (has_id a e) (name_place es a) (name_place ks a) (compacts-place h)
    compacts-place (universal {x = x} {e = e} {ms = ms} {es = es} {ks = ks} q l h) =
        ap (λ b. cond b 0 (suc (name_place ks a))) (universal-same e l) ∙ kept-step ms x (has_id a e) (name_place es a) (name_place ks a) (compacts-place h)
    compacts-place (collected {x = x} {e = e} {ms = ms} {es = es} c n b h) =
        compacts-place h ∙ gone-step (name_place es a) ∙ sym (ap (λ d. place_among ((true, x) ∷ ms) (cond d 0 (suc (name_place es a)))) (not-held e n))
      where
        gone-step : (p : ℕ) → place_among ms p ≡ place_among ((true, x) ∷ ms) (suc p)
        gone-step p = omega arith

    -- nor was it removed at or below the floor
    pub held-clear : {xs : List (TreeElement U)} {es : List ListElement} → AreElements content xs es → AreFree floor held es
        → list_all is_marked_later es ≡ true
        → IfSome (slice_get xs (name_place es a)) (λ x. is_tree_collectable floor x.stamps ≡ false)
    held-clear ends free later = tt
    held-clear (next {x = x} {y = e} {xs = xs} {ys = es} q qs) free later =
        let l = both (is_marked_later e) (list_all is_marked_later es) later in
        step (has_id a e) refl (held-clear qs free.1 l.1) l.0
      where
        here : (b : Bool) → is_tree_collectable floor x.stamps ≡ b → has_id a e ≡ true → is_marked_later e ≡ true → is_tree_collectable floor x.stamps ≡ false
        here false g h l = g
        here true g h l =
            let is = collectable-there floor e l (sym (ap (λ (t : ElementStamps). has_collectable_removal floor t.dels) (same-stamps content x e q)) ∙ g) in
            let never = sym h ∙ not-held e (free.0 is).name in (cc)

        step : (b : Bool) → has_id a e ≡ b → IfSome (slice_get xs (name_place es a)) (λ x. is_tree_collectable floor x.stamps ≡ false)
            → is_marked_later e ≡ true
            → IfSome (slice_get (x ∷ xs) (cond b 0 (suc (name_place es a)))) (λ x. is_tree_collectable floor x.stamps ≡ false)
        step true h rest l = here (is_tree_collectable floor x.stamps) refl h l
        step false h rest l = rest
