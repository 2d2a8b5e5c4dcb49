-- What the pieces of one stage make of a document, one after another.
use Rattle.std.proofs.Common.{◌≡◌, ℕ, Bool, true, false, cond, not, ◌&&◌, List, [], ◌∷◌, Option, Some, None, refl, sym, ◌∙◌, ap, subst, arith, map, nat_le, find}
use Rattle.std.specs.List.{list_all, list_any}
use Rattle.std.specs.Option.{option_map, option_or}
use Rattle.ft_base.specs.Scan.{change_range, change_range_from, len, one_more_if, settled_after, within}
use Rattle.ft_base.specs.Visibility.{is_acked}
use Rattle.ft_base.proofs.Booleans.{both}
use Rattle.ft_op.specs.declared.operations.BaseOp.TheVariants.{Annotate, Remove}
use Rattle.ft_op.specs.declared.operations.CellOp.TheVariants.{SpliceOut}
use Rattle.ft_op.specs.declared.operations.Target.{Target}
use Rattle.ft_op.specs.declared.operations.Target.TheVariants.{Cols, Rows}
use Rattle.ft_props.specs.declared.properties.Changes.{Changes}
use Rattle.ft_props.specs.Element.{ElementId, ListElement, has_id, id, is_sequenced, same_id, is_unremoved, seen_by, with_annotation, with_removal}
use Rattle.ft_props.specs.Slide.{slide}
use Rattle.ft_op.specs.Operation.{OnGrid, OnText}
use Rattle.ft_op.specs.Intervals.{Interval, slide_ends}
use Rattle.ft_op.specs.Document.{Document, effects, rows_or_cols, text_effect, grid_effect, with_skip, with_slid_ends}
use Rattle.ft_laws_agreement.specs.Trimming.{IsConsistent, are_distinct_elements, has_ends_on, is_end_on, is_numbered_below}
use Rattle.ft_laws_agreement.proofs.ConsistentDocument.{effect-consistent}
use Rattle.ft_laws_agreement.proofs.OwnNames.{all-weaker}
use Rattle.ft_laws_agreement.proofs.PairedLists.{Pair, each-with, lefts, rights, settled-map}
use Rattle.ft_laws_agreement.proofs.RunsOfMarks.{Each, change_run, change_runs}
use Rattle.ft_laws_agreement.proofs.SequencedStages.{hidden-by}
use Rattle.ft_laws_agreement.proofs.SettledEnds.{only-named, stays}
use Rattle.ft_laws_agreement.proofs.SlidTwice.{Apart, again, settled_twice}

-- ---- a list of which less and less is unremoved

pub record IsFewer (a b : ListElement) : Type 0 where
  pub name : id b ≡ id a
  pub sequenced : is_sequenced b ≡ is_sequenced a
  pub unremoved : is_unremoved a ≡ false → is_unremoved b ≡ false

abbrev pub Fewer : List ListElement → List ListElement → Type 0
Fewer [] [] = Unit {0}
Fewer (a ∷ xs) (b ∷ ys) = IsFewer a b × Fewer xs ys
Fewer _ _ = false ≡ true

fewer-self : (xs : List ListElement) → Fewer xs xs
fewer-self [] = tt
fewer-self (x ∷ xs) = (record { name = refl; sequenced = refl; unremoved = λ h. h }, fewer-self xs)

fewer-still : (xs ys zs : List ListElement) → Fewer xs ys → Fewer ys zs → Fewer xs zs
fewer-still [] [] [] h k = tt
fewer-still (x ∷ xs) (y ∷ ys) (z ∷ zs) h k =
    (record { name = k.0.name ∙ h.0.name; sequenced = k.0.sequenced ∙ h.0.sequenced; unremoved = λ u. k.0.unremoved (h.0.unremoved u) }, fewer-still xs ys zs h.1 k.1)
fewer-still [] (y ∷ ys) zs h k = absurd cc
fewer-still (x ∷ xs) [] zs h k = absurd cc
fewer-still [] [] (z ∷ zs) h k = absurd cc
fewer-still (x ∷ xs) (y ∷ ys) [] h k = absurd cc

removal-fewer : (s c : ℕ) (e : ListElement) → IsFewer e (with_removal s c e)
removal-fewer s c e = record { name = refl; sequenced = refl; unremoved = λ h. hidden-by is_acked s c e refl }

range-fewer : (see : ListElement → Bool) (s c i p q : ℕ) (xs : List ListElement) → Fewer xs (change_range_from i see p q (with_removal s c) xs)
range-fewer see s c i p q [] = tt
range-fewer see s c i p q (x ∷ xs) = (chosen (see x && within p q i), range-fewer see s c (one_more_if (see x) i) p q xs)
  where
    chosen : (b : Bool) → IsFewer x (cond b (with_removal s c x) x)
    chosen true = removal-fewer s c x
    chosen false = record { name = refl; sequenced = refl; unremoved = λ h. h }

run-fewer : (see : ListElement → Bool) (s c : ℕ) (r : ℕ × ℕ) (xs : List ListElement) → Fewer xs (change_run see (with_removal s c) r xs)
run-fewer see s c r xs = step (nat_le r.1 (len see xs))
  where
    step : (b : Bool) → Fewer xs (cond b (change_range see r.0 r.1 (with_removal s c) xs) xs)
    step true = range-fewer see s c 0 r.0 r.1 xs
    step false = fewer-self xs

runs-fewer : (see : ListElement → Bool) (s c : ℕ) (rs : List (ℕ × ℕ)) (xs : List ListElement) → Fewer xs (change_runs see (with_removal s c) rs xs)
runs-fewer see s c [] xs = fewer-self xs
runs-fewer see s c (r ∷ rs) xs = fewer-still xs (change_run see (with_removal s c) r xs) _ (run-fewer see s c r xs) (runs-fewer see s c rs (change_run see (with_removal s c) r xs))

zipped : List ListElement → List ListElement → List Pair
zipped [] ys = []
zipped (x ∷ xs) [] = []
zipped (x ∷ xs) (y ∷ ys) = (x, y) ∷ zipped xs ys

module _ where
  zip-left : (xs ys : List ListElement) → Fewer xs ys → lefts (zipped xs ys) ≡ xs
  unfolding zipped
  zip-left [] [] h = refl
  zip-left (x ∷ xs) (y ∷ ys) h = ap (λ us. x ∷ us) (zip-left xs ys h.1)
  zip-left [] (y ∷ ys) h = refl
  zip-left (x ∷ xs) [] h = absurd cc

  zip-right : (xs ys : List ListElement) → Fewer xs ys → rights (zipped xs ys) ≡ ys
  unfolding zipped
  zip-right [] [] h = refl
  zip-right (x ∷ xs) (y ∷ ys) h = ap (λ us. y ∷ us) (zip-right xs ys h.1)
  zip-right [] (y ∷ ys) h = absurd cc
  zip-right (x ∷ xs) [] h = absurd cc

  zip-each : (xs ys : List ListElement) → Fewer xs ys → list_all is_sequenced xs ≡ true → Each (λ p. IsFewer p.0 p.1 × (is_sequenced p.0 ≡ true)) (zipped xs ys)
  unfolding zipped
  zip-each [] [] h k = tt
  zip-each (x ∷ xs) (y ∷ ys) h k = let p = both (is_sequenced x) (list_all is_sequenced xs) k in ((h.0, p.0), zip-each xs ys h.1 p.1)
  zip-each [] (y ∷ ys) h k = tt
  zip-each (x ∷ xs) [] h k = tt

distinct-apart : (xs : List ListElement) → are_distinct_elements xs ≡ true → Apart id xs
distinct-apart [] h = tt
distinct-apart (x ∷ xs) h = let p = both (not (list_any (has_id (id x)) xs)) (are_distinct_elements xs) h in (negated _ p.0, distinct-apart xs p.1)
  where
    negated : (b : Bool) → not b ≡ true → b ≡ false
    negated true h = (cc)
    negated false h = refl

apart-left : (ps : List Pair) → Apart id (lefts ps) → Apart (λ p. id p.0) ps
apart-left [] h = tt
apart-left (p ∷ ps) h = (absent p ps h.0, apart-left ps h.1)
  where
    absent : (p : Pair) (qs : List Pair) → list_any (has_id (id p.0)) (lefts qs) ≡ false → list_any (λ q. has_id (id p.0) q.0) qs ≡ false
    absent p [] h = refl
    absent p (q ∷ qs) h = grind (arith, absent p qs)

-- slides go by pairs
module _ (ps : List Pair) (h : Each (λ p. IsFewer p.0 p.1 × (is_sequenced p.0 ≡ true)) ps) where
  left-slide : (x : ElementId) → slide (lefts ps) (Some x) ≡ option_map id (option_map (λ p. p.0) (settled_after (λ p. has_id x p.0) (λ p. is_unremoved p.0) None ps))
  left-slide x =
      ap (option_map id) (settled-map (λ p. p.0) (λ p. has_id x p.0) (λ p. is_unremoved p.0) (λ e. is_sequenced e && has_id x e) is_unremoved None ps
      (each-with (λ p. IsFewer p.0 p.1 × (is_sequenced p.0 ≡ true)) (λ p. is_sequenced p.0 && has_id x p.0 ≡ has_id x p.0) (λ p k. ap (λ b. b && has_id x p.0) k.1) ps h)
      (each-with (λ p. IsFewer p.0 p.1 × (is_sequenced p.0 ≡ true)) (λ p. is_unremoved p.0 ≡ is_unremoved p.0) (λ p k. refl) ps h))

  both-unremoved : (p : Pair) → IsFewer p.0 p.1 → is_unremoved p.1 ≡ is_unremoved p.1 && is_unremoved p.0
  both-unremoved p k = step (is_unremoved p.1) (is_unremoved p.0) k.unremoved
    where
      step : (a b : Bool) → (b ≡ false → a ≡ false) → a ≡ a && b
      step true true f = refl
      step true false f = f refl
      step false b f = refl

  right-slide : (x : ElementId) → slide (rights ps) (Some x) ≡ option_map id
      (option_map (λ p. p.1) (settled_after (λ p. has_id x p.0) (λ p. is_unremoved p.1 && is_unremoved p.0) None ps))
  right-slide x =
      ap (option_map id) (settled-map (λ p. p.1) (λ p. has_id x p.0) (λ p. is_unremoved p.1 && is_unremoved p.0) (λ e. is_sequenced e && has_id x e) is_unremoved None ps
      (each-with (λ p. IsFewer p.0 p.1 × (is_sequenced p.0 ≡ true)) (λ p. is_sequenced p.1 && has_id x p.1 ≡ has_id x p.0)
      (λ p k. ap (λ b. b && has_id x p.1) (k.0.sequenced ∙ k.1) ∙ ap (same_id x) k.0.name) ps h)
      (each-with (λ p. IsFewer p.0 p.1 × (is_sequenced p.0 ≡ true)) (λ p. is_unremoved p.1 ≡ is_unremoved p.1 && is_unremoved p.0) (λ p k. both-unremoved p k.0) ps h))

-- an end that slid before slides on as it would slide at once
again-pairs : (ps : List Pair) → Each (λ p. IsFewer p.0 p.1 × (is_sequenced p.0 ≡ true)) ps → are_distinct_elements (lefts ps) ≡ true → (x : ElementId)
    → slide (rights ps) (slide (lefts ps) (Some x)) ≡ slide (rights ps) (Some x)
again-pairs ps h d x =
    ap (slide (rights ps)) (left-slide ps h x)
    ∙ step (settled_after (λ p. has_id x p.0) (λ p. is_unremoved p.0) None ps)
    (settled_twice (λ p. id p.0) (λ p. is_unremoved p.0) (λ p. is_unremoved p.1 && is_unremoved p.0)
    (λ p k. both-false (is_unremoved p.1) (is_unremoved p.0) k) x ps (apart-left ps (distinct-apart (lefts ps) d)))
    ∙ sym (right-slide ps h x)
  where
    both-false : (a b : Bool) → b ≡ false → a && b ≡ false
    both-false true b h = h
    both-false false b h = refl

    step : (o : Option Pair) → again (λ p. id p.0) (λ p. is_unremoved p.0) (λ p. is_unremoved p.1 && is_unremoved p.0)
        (λ p k. both-false (is_unremoved p.1) (is_unremoved p.0) k) ps o ≡ settled_after (λ p. has_id x p.0) (λ p. is_unremoved p.1 && is_unremoved p.0) None ps
        → slide (rights ps) (option_map id (option_map (λ p. p.0) o)) ≡ option_map id
        (option_map (λ p. p.1) (settled_after (λ p. has_id x p.0) (λ p. is_unremoved p.1 && is_unremoved p.0) None ps))
    step None u = ap (λ o. option_map id (option_map (λ (p : Pair). p.1) o)) u
    step (Some y) u = right-slide ps h (id y.0) ∙ ap (λ o. option_map id (option_map (λ (p : Pair). p.1) o)) u

slide-again : (xs ys : List ListElement) → Fewer xs ys → list_all is_sequenced xs ≡ true → are_distinct_elements xs ≡ true → (x : Option ElementId) → slide ys (slide xs x) ≡ slide ys x
slide-again xs ys f s d None = refl
slide-again xs ys f s d (Some x) =
    let left = zip-left xs ys f in
    let right = zip-right xs ys f in
    subst (λ us. slide ys (slide us (Some x)) ≡ slide ys (Some x)) left
    (subst (λ us. slide us (slide (lefts (zipped xs ys)) (Some x)) ≡ slide us (Some x)) right
    (again-pairs (zipped xs ys) (zip-each xs ys f s) (subst (λ us. are_distinct_elements us ≡ true) (sym left) d) x))

pub slide_ends-again : (xs ys : List ListElement) → Fewer xs ys → list_all is_sequenced xs ≡ true → are_distinct_elements xs ≡ true → (is : List Interval)
    → slide_ends ys (slide_ends xs is) ≡ slide_ends ys is
slide_ends-again xs ys f s d [] = refl
slide_ends-again xs ys f s d (i ∷ is) = rw (slide-again xs ys f s d i.start, slide-again xs ys f s d i.end, slide_ends-again xs ys f s d is) refl

-- ---- ends that stand on unremoved elements don't slide

slide-stays : (xs : List ListElement) → list_all is_sequenced xs ≡ true → are_distinct_elements xs ≡ true → (x : Option ElementId) → is_end_on xs x ≡ true → slide xs x ≡ x
slide-stays xs s d None h = refl
slide-stays xs s d (Some x) h = ap (option_map id) (same None xs s) ∙ stays is_unremoved x None xs (only-named is_unremoved xs d x h) h
  where
    same : (last : Option ListElement) (xs : List ListElement) → list_all is_sequenced xs ≡ true
        → settled_after (λ e. is_sequenced e && has_id x e) is_unremoved last xs ≡ settled_after (has_id x) is_unremoved last xs
    same last [] s = refl
    same last (e ∷ xs) s = let p = both (is_sequenced e) (list_all is_sequenced xs) s in
        ap (λ b. cond (b && has_id x e) (option_or (find is_unremoved (e ∷ xs)) last)
        (settled_after (λ e. is_sequenced e && has_id x e) is_unremoved (cond (is_unremoved e) (Some e) last) xs)) p.0
        ∙ ap (cond (has_id x e) (option_or (find is_unremoved (e ∷ xs)) last)) (same (cond (is_unremoved e) (Some e) last) xs p.1)

pub slide_ends-stay : (xs : List ListElement) → list_all is_sequenced xs ≡ true → are_distinct_elements xs ≡ true → (is : List Interval) → list_all (has_ends_on xs) is
    ≡ true → slide_ends xs is ≡ is
slide_ends-stay xs s d [] h = refl
slide_ends-stay xs s d (i ∷ is) h =
    let q = both (has_ends_on xs i) (list_all (has_ends_on xs) is) h in
    let r = both (is_end_on xs i.start) (is_end_on xs i.end) q.0 in
    rw (slide-stays xs s d i.start r.0, slide-stays xs s d i.end r.1, slide_ends-stay xs s d is q.1) refl

numbered-sequenced : (n : ℕ) (xs : List ListElement) → list_all (is_numbered_below n) xs ≡ true → list_all is_sequenced xs ≡ true
numbered-sequenced n xs h = all-weaker (is_numbered_below n) is_sequenced (λ e k. (both (is_sequenced e) _ k).0) xs h

-- ---- what a piece leaves alone

-- the text has these elements and the intervals are these; the rest is as it was
pub record TextBecomes (d d' : Document) (items : List ListElement) (intervals : List Interval) : Type 0 where
  pub text : d'.text ≡ record { items = items; made = d.text.made }
  pub rows : d'.rows ≡ d.rows
  pub cols : d'.cols ≡ d.cols
  pub cells : d'.cells ≡ d.cells
  pub ends : d'.intervals ≡ intervals

module _ (s c r : ℕ) where
  one-removal : (p q : ℕ) (d : Document) → IsConsistent d
      → TextBecomes d (text_effect d s c r (Remove p q)) (change_run (seen_by r c) (with_removal s c) (p, q) d.text.items)
      (slide_ends (change_run (seen_by r c) (with_removal s c) (p, q) d.text.items) d.intervals)
  one-removal p q d h = step (nat_le q (len (seen_by r c) d.text.items))
    where
      step : (b : Bool) → TextBecomes d (cond b (with_slid_ends (record d {
        text = record d.text
            { items = change_range (seen_by r c) p q (with_removal s c) d.text.items };
      })) (with_skip d))
          (cond b (change_range (seen_by r c) p q (with_removal s c) d.text.items) d.text.items)
          (slide_ends (cond b (change_range (seen_by r c) p q (with_removal s c) d.text.items) d.text.items) d.intervals)
      step true = record { text = refl; rows = refl; cols = refl; cells = refl; ends = refl }
      step false = record {
        text = refl;
        rows = refl;
        cols = refl;
        cells = refl;
        ends = sym
            (slide_ends-stay d.text.items (numbered-sequenced d.text.made d.text.items h.text.below) h.text.distinct d.intervals h.ends);
      }

  -- removals one after another: the ends slide once for all
  pub removals : (rs : List (ℕ × ℕ)) (d : Document) → IsConsistent d
      → TextBecomes d (effects d s c r (map (λ r. OnText (Remove r.0 r.1)) rs)) (change_runs (seen_by r c) (with_removal s c) rs d.text.items)
      (slide_ends (change_runs (seen_by r c) (with_removal s c) rs d.text.items) d.intervals)
  removals [] d h = record {
    text = refl;
    rows = refl;
    cols = refl;
    cells = refl;
    ends = sym
        (slide_ends-stay d.text.items (numbered-sequenced d.text.made d.text.items h.text.below) h.text.distinct d.intervals h.ends);
  }
  removals (x ∷ rs) d h =
      let d1 = text_effect d s c r (Remove x.0 x.1) in
      let h1 = effect-consistent d s c r (OnText (Remove x.0 x.1)) h in
      let one = one-removal x.0 x.1 d h in
      let rest = removals rs d1 h1 in
      let run = change_run (seen_by r c) (with_removal s c) x d.text.items in
      let items : d1.text.items ≡ run = ap (λ l. l.items) one.text in
      let all = change_runs (seen_by r c) (with_removal s c) rs run in
      record {
        text = rest.text ∙ ap (λ us. record { items = change_runs (seen_by r c) (with_removal s c) rs us; made = d1.text.made }) items
            ∙ ap (λ l. record { items = all; made = l.made }) one.text;
        rows = rest.rows ∙ one.rows;
        cols = rest.cols ∙ one.cols;
        cells = rest.cells ∙ one.cells;
        ends =
            rest.ends
            ∙ ap (slide_ends (change_runs (seen_by r c) (with_removal s c) rs d1.text.items)) (one.ends ∙ ap (λ us. slide_ends us d.intervals) (sym items))
            ∙ slide_ends-again d1.text.items (change_runs (seen_by r c) (with_removal s c) rs d1.text.items) (runs-fewer (seen_by r c) s c rs d1.text.items)
            (numbered-sequenced d1.text.made d1.text.items h1.text.below) h1.text.distinct d.intervals
            ∙ ap (λ us. slide_ends (change_runs (seen_by r c) (with_removal s c) rs us) d.intervals) items;
      }

  one-annotation : (p q : ℕ) (changes : Changes) (d : Document) → TextBecomes d (text_effect d s c r (Annotate p q changes))
      (change_run (seen_by r c) (with_annotation changes) (p, q) d.text.items) d.intervals
  one-annotation p q changes d = step (nat_le q (len (seen_by r c) d.text.items))
    where
      step : (b : Bool) → TextBecomes d (cond b (record d {
        text = record {
          items = change_range (seen_by r c) p q (with_annotation changes) d.text.items;
          made = d.text.made;
        };
      }) (with_skip d))
          (cond b (change_range (seen_by r c) p q (with_annotation changes) d.text.items) d.text.items) d.intervals
      step true = record { text = refl; rows = refl; cols = refl; cells = refl; ends = refl }
      step false = record { text = refl; rows = refl; cols = refl; cells = refl; ends = refl }

  -- annotations one after another
  pub annotations : (changes : Changes) (rs : List (ℕ × ℕ)) (d : Document)
      → TextBecomes d (effects d s c r (map (λ r. OnText (Annotate r.0 r.1 changes)) rs)) (change_runs (seen_by r c) (with_annotation changes) rs d.text.items) d.intervals
  annotations changes [] d = record { text = refl; rows = refl; cols = refl; cells = refl; ends = refl }
  annotations changes (x ∷ rs) d =
      let d1 = text_effect d s c r (Annotate x.0 x.1 changes) in
      let one = one-annotation x.0 x.1 changes d in
      let rest = annotations changes rs d1 in
      let run = change_run (seen_by r c) (with_annotation changes) x d.text.items in
      let items : d1.text.items ≡ run = ap (λ l. l.items) one.text in
      let all = change_runs (seen_by r c) (with_annotation changes) rs run in
      record {
        text = rest.text ∙ ap (λ us. record { items = change_runs (seen_by r c) (with_annotation changes) rs us; made = d1.text.made }) items
            ∙ ap (λ l. record { items = all; made = l.made }) one.text;
        rows = rest.rows ∙ one.rows;
        cols = rest.cols ∙ one.cols;
        cells = rest.cells ∙ one.cells;
        ends = rest.ends ∙ one.ends;
      }

-- the rows, or the columns, have these elements; the rest is as it was
pub record LaneBecomes (target : Target) (d d' : Document) (items : List ListElement) : Type 0 where
  pub lane : rows_or_cols target d' ≡ record { items = items; made = (rows_or_cols target d).made }
  pub text : d'.text ≡ d.text
  pub rows : target ≡ Cols → d'.rows ≡ d.rows
  pub cols : target ≡ Rows → d'.cols ≡ d.cols
  pub cells : d'.cells ≡ d.cells
  pub ends : d'.intervals ≡ d.intervals

module _ (s c r : ℕ) where
  one-splice : (target : Target) (p q : ℕ) (d : Document) → LaneBecomes target d (grid_effect d s c r (SpliceOut target p q))
      (change_run (seen_by r c) (with_removal s c) (p, q) (rows_or_cols target d).items)
  one-splice Rows p q d = step (nat_le q (len (seen_by r c) d.rows.items))
    where
      step : (b : Bool) → LaneBecomes Rows d (cond b (record d {
        rows = record d.rows
            { items = change_range (seen_by r c) p q (with_removal s c) d.rows.items };
      }) (with_skip d))
          (cond b (change_range (seen_by r c) p q (with_removal s c) d.rows.items) d.rows.items)
      step true = record { lane = refl; text = refl; rows = λ e. absurd cc; cols = λ e. refl; cells = refl; ends = refl }
      step false = record { lane = refl; text = refl; rows = λ e. absurd cc; cols = λ e. refl; cells = refl; ends = refl }
  one-splice Cols p q d = step (nat_le q (len (seen_by r c) d.cols.items))
    where
      step : (b : Bool) → LaneBecomes Cols d (cond b (record d {
        cols = record d.cols
            { items = change_range (seen_by r c) p q (with_removal s c) d.cols.items };
      }) (with_skip d))
          (cond b (change_range (seen_by r c) p q (with_removal s c) d.cols.items) d.cols.items)
      step true = record { lane = refl; text = refl; rows = λ e. refl; cols = λ e. absurd cc; cells = refl; ends = refl }
      step false = record { lane = refl; text = refl; rows = λ e. refl; cols = λ e. absurd cc; cells = refl; ends = refl }

  pub splices : (target : Target) (rs : List (ℕ × ℕ)) (d : Document) → LaneBecomes target d (effects d s c r (map (λ r. OnGrid (SpliceOut target r.0 r.1)) rs))
      (change_runs (seen_by r c) (with_removal s c) rs (rows_or_cols target d).items)
  splices target [] d = record { lane = refl; text = refl; rows = λ e. refl; cols = λ e. refl; cells = refl; ends = refl }
  splices target (x ∷ rs) d =
      let d1 = grid_effect d s c r (SpliceOut target x.0 x.1) in
      let one = one-splice target x.0 x.1 d in
      let rest = splices target rs d1 in
      let run = change_run (seen_by r c) (with_removal s c) x (rows_or_cols target d).items in
      let items : (rows_or_cols target d1).items ≡ run = ap (λ l. l.items) one.lane in
      let all = change_runs (seen_by r c) (with_removal s c) rs run in
      record {
        lane = rest.lane ∙ ap (λ us. record { items = change_runs (seen_by r c) (with_removal s c) rs us; made = (rows_or_cols target d1).made }) items
            ∙ ap (λ l. record { items = all; made = l.made }) one.lane;
        text = rest.text ∙ one.text;
        rows = λ e. rest.rows e ∙ one.rows e;
        cols = λ e. rest.cols e ∙ one.cols e;
        cells = rest.cells ∙ one.cells;
        ends = rest.ends ∙ one.ends;
      }
