-- One list: what a pending stage makes of a client's list, and what its pieces make of the list of the log.
use Rattle.std.proofs.Common.{◌≡◌, ℕ, ◌+◌, ◌-◌, ◌≤◌, Bool, true, false, cond, not, ◌&&◌, ◌||◌, List, [], ◌∷◌, ◌++◌, Option, Some, None, refl, sym, ◌∙◌, ap, subst, arith, filter, map, nat_eq, nat_le}
use Rattle.std.specs.List.{list_any}
use Rattle.std.proofs.lemmas.Bool.Decides.{nat_tests}
use Rattle.ft_base.specs.declared.stamps.Stamp.{Stamp}
use Rattle.ft_base.specs.declared.stamps.Stamp.TheVariants.{Acked, Local}
use Rattle.ft_base.specs.Scan.{no_run, put}
use Rattle.ft_base.specs.Visibility.{has_occurred, has_occurred_at_stage, is_acked}
use Rattle.ft_props.specs.declared.properties.Changes.{Changes}
use Rattle.ft_props.specs.Properties.{PropertyList, change, shown_props}
use Rattle.ft_props.specs.Element.{ElementContent, ElementId, ListElement, id, is_pending, is_sequenced, is_unremoved, new_elements, removal_stamp, seen, seen_by, with_annotation, with_removal}
use Rattle.ft_props.specs.Steps.{Sequence, after_insertion, is_annotated_by, is_removed_by, lowered_runs, marked_runs_from}
use Rattle.ft_props.proofs.PendingStages.{shown_props-append}
pub use Rattle.ft_laws_agreement.specs.Sequencing.{IsBlockOf}
use Rattle.ft_laws_agreement.proofs.RunsOfMarks.{Each, change_marked, change_runs, kept-marked, lowered-marked}
use Rattle.ft_laws_agreement.proofs.PairedLists.{Pair, each-both, each-put, each-with, has_pair, lefts, pair-changed, pair-put, put-map, rights, runs-map}
use Rattle.ft_laws_agreement.proofs.Booleans.{never}
use Rattle.ft_props.proofs.AcknowledgedInsertion.{same_nat}
use Rattle.ft_laws_agreement.proofs.AnyAndAll.{any-append, any-behind}

-- the changes of stages up to k
abbrev pub pending_up_to : ℕ → List (ℕ × Changes) → List (ℕ × Changes)
pending_up_to k ps = filter (λ p. nat_le p.0 k) ps

pub each-under : {A B : Type 0} (R : B → Type 0) (to : A → B) (xs : List A) → Each R (map to xs) → Each (λ x. R (to x)) xs
each-under R to [] h = tt
each-under R to (x ∷ xs) h = (h.0, each-under R to xs h.1)

-- what a test of stamps by which the new removal has occurred no longer sees
pub hidden-by : (occurred : Stamp → Bool) (s c : ℕ) (e : ListElement) → occurred (Acked s c) ≡ true
    → occurred e.ins && not (list_any occurred ((e.dels ++ (Acked s c ∷ [])) ++ removal_stamp e.removal_stage)) ≡ false
hidden-by occurred s c e h =
    rw (any-append occurred (e.dels ++ (Acked s c ∷ [])) (removal_stamp e.removal_stage) (any-behind occurred e.dels (Acked s c ∷ []) (rw h refl))) (never (occurred e.ins))

own_number : (n s c : ℕ) → nat_le s n || nat_eq c c ≡ true
own_number n s c = rw (same_nat c) (or_right (nat_le s n))
  where
    or_right : (b : Bool) → b || true ≡ true
    or_right true = refl
    or_right false = refl

-- an element that a stage removes isn't seen at it
marked-unseen : (k : ℕ) (e : ListElement) → is_removed_by k e ≡ true → seen k e ≡ false
marked-unseen k e h = rw (any-behind (has_occurred_at_stage k) e.dels (removal_stamp e.removal_stage) (marked e.removal_stage h)) (never (has_occurred_at_stage k e.ins))
  where
    marked : (o : Option ℕ) → list_any (λ s. elim s [ Acked r c ↦ false | Local i ↦ nat_eq i k ]) (removal_stamp o) ≡ true
        → list_any (has_occurred_at_stage k) (removal_stamp o) ≡ true
    marked None h = (cc)
    marked (Some i) h = step (nat_eq i k) (nat_le i k) refl refl h
      where
        step : (a b : Bool) → nat_eq i k ≡ a → nat_le i k ≡ b → a || false ≡ true → b || false ≡ true
        step true true p q h = refl
        step true false p q h = absurd (grind (arith, nat_tests))
        step false b p q h = (cc)

module _ (n conn made : ℕ) where
  -- an element of the log's list beside the client's at stage k
  pub record Image (k : ℕ) (p : Pair) : Type 0 where
    pub perspective : seen_by n conn p.1 ≡ seen k p.0
    pub unremoved : is_unremoved p.1 ≡ seen k p.0
    pub at_last : seen 0 p.1 ≡ seen k p.0
    pub sequenced : is_sequenced p.1 ≡ true
    pub content : p.1.content ≡ p.0.content
    pub bare : p.1.pending ≡ []
    pub props : seen k p.0 ≡ true → p.1.props ≡ shown_props p.0.props (pending_up_to k p.0.pending)
    pub old : is_sequenced p.0 ≡ true → id p.1 ≡ id p.0
    pub new : is_sequenced p.0 ≡ false → nat_le made p.1.nth ≡ true

  -- the list of the log beside the client's at stage k
  pub record Beside (k : ℕ) (ls ds : List ListElement) : Type 0 where
    pub pairs : List Pair
    pub left : lefts pairs ≡ ls
    pub right : rights pairs ≡ ds
    pub images : Each (Image k) pairs

  -- the lists at a later stage, with the pairs that there were
  pub record Onward (j k : ℕ) {ls ds : List ListElement} (b : Beside j ls ds) (ls' ds' : List ListElement) : Type 0 where
    pub next : Beside k ls' ds'
    pub stays : (x y : ElementId) → has_pair b.pairs x y ≡ true → has_pair next.pairs x y ≡ true

  -- the element is the same at both stages
  pub record SameAt (j k : ℕ) (e : ListElement) : Type 0 where
    pub view : seen k e ≡ seen j e
    pub pending : pending_up_to k e.pending ≡ pending_up_to j e.pending

  image-same : (j k : ℕ) (p : Pair) → SameAt j k p.0 → Image j p → Image k p
  image-same j k p s i = record {
    perspective = i.perspective ∙ sym s.view;
    unremoved = i.unremoved ∙ sym s.view;
    at_last = i.at_last ∙ sym s.view;
    sequenced = i.sequenced;
    content = i.content;
    bare = i.bare;
    props = λ h. i.props (sym s.view ∙ h) ∙ ap (shown_props p.0.props) (sym s.pending);
    old = i.old;
    new = i.new;
  }

  images-same : (j k : ℕ) {ls ds : List ListElement} → Each (SameAt j k) ls → (b : Beside j ls ds) → Each (Image k) b.pairs
  images-same j k s b =
      each-both (λ p. SameAt j k p.0) (Image j) (Image k) (λ p u v. image-same j k p u v) b.pairs
      (each-under (SameAt j k) (λ p. p.0) b.pairs (subst (Each (SameAt j k)) (sym b.left) s)) b.images

  -- a stage that doesn't touch the list
  pub beside-same : (j k : ℕ) {ls ds : List ListElement} → Each (SameAt j k) ls → (b : Beside j ls ds) → Onward j k b ls ds
  beside-same j k s b = record { next = record { pairs = b.pairs; left = b.left; right = b.right; images = images-same j k s b }; stays = λ x y h. h }

  -- ---- an insertion

  -- a new element of the stage: it is seen at it, and nothing up to the stage is pending on it
  pub record IsNew (k : ℕ) (e : ListElement) : Type 0 where
    pub view : seen k e ≡ true
    pub pending : pending_up_to k e.pending ≡ []
    pub own : is_sequenced e ≡ false

  abbrev block-pairs : (s i : ℕ) (by : Option Stamp) (props : PropertyList) (bs : List ElementContent) (es : List ListElement) → IsBlockOf props bs es → List Pair
  block-pairs s i by props [] [] h = []
  block-pairs s i by props (b ∷ bs) (e ∷ es) h = (
    e,
    record {
      nth = i;
      content = b;
      ins = Acked s conn;
      dels = [];
      removal_stage = None;
      by = by;
      props =
          props;
      pending = [];
    },
  ) ∷ block-pairs s (i + 1) by props bs es h.2
  block-pairs s i by props [] (e ∷ es) h = []
  block-pairs s i by props (b ∷ bs) [] h = []

  block-left : (s i : ℕ) (by : Option Stamp) (props : PropertyList) (bs : List ElementContent) (es : List ListElement) (h : IsBlockOf props bs es)
      → lefts (block-pairs s i by props bs es h) ≡ es
  block-left s i by props [] [] h = refl
  block-left s i by props (b ∷ bs) (e ∷ es) h = ap (λ us. e ∷ us) (block-left s (i + 1) by props bs es h.2)
  block-left s i by props [] (e ∷ es) h = (cc)
  block-left s i by props (b ∷ bs) [] h = (cc)

  block-right : (s i : ℕ) (by : Option Stamp) (props : PropertyList) (bs : List ElementContent) (es : List ListElement) (h : IsBlockOf props bs es)
      → rights (block-pairs s i by props bs es h) ≡ new_elements i (Acked s conn) [] by props bs
  block-right s i by props [] [] h = refl
  block-right s i by props (b ∷ bs) (e ∷ es) h = ap (λ us. record {
    nth = i;
    content = b;
    ins = Acked s conn;
    dels = [];
    removal_stage = None;
    by = by;
    props =
        props;
    pending = [];
  } ∷ us) (block-right s (i + 1) by props bs es h.2)
  block-right s i by props [] (e ∷ es) h = (cc)
  block-right s i by props (b ∷ bs) [] h = (cc)

  from_made : (i : ℕ) → made ≤ i → nat_le made i ≡ true
  from_made i l = grind (arith, nat_tests)

  block-images : (k s i : ℕ) (by : Option Stamp) (props : PropertyList) (bs : List ElementContent) (es : List ListElement) (h : IsBlockOf props bs es)
      → made ≤ i → Each (IsNew k) es → Each (Image k) (block-pairs s i by props bs es h)
  block-images k s i by props [] [] h l a = tt
  block-images k s i by props (b ∷ bs) (e ∷ es) h l a =
      let v = a.0.view in (
        record {
          perspective = rw (own_number n s conn) (sym v);
          unremoved = sym v;
          at_last = sym v;
          sequenced = refl;
          content = sym h.0;
          bare = refl;
          props = λ _. sym h.1 ∙ ap (shown_props e.props) (sym a.0.pending);
          old = λ o. absurd (cc (o, a.0.own));
          new = λ _. from_made i l;
        },
        block-images k s (i + 1) by props bs es h.2 (omega arith) a.1,
      )
  block-images k s i by props [] (e ∷ es) h l a = tt
  block-images k s i by props (b ∷ bs) [] h l a = tt

  -- an insertion on both sides
  pub beside-insertion : (j k s p : ℕ) (by : Option Stamp) (props : PropertyList) (bs : List ElementContent) (block ls : List ListElement) (list : Sequence)
      → Each (SameAt j k) ls → Each (λ e. seen (k - 1) e ≡ seen j e) ls → made ≤ list.made → IsBlockOf props bs block → Each (IsNew k) block → (b : Beside j ls list.items)
      → Onward j k b (put (seen (k - 1)) no_run p block ls) (after_insertion s conn n p by props bs list).items
  beside-insertion j k s p by props bs block ls list same before m isblock new b =
      let fresh = block-pairs s list.made by props bs block isblock in
      let before' = each-under (λ e. seen (k - 1) e ≡ seen j e) (λ p. p.0) b.pairs (subst (Each (λ e. seen (k - 1) e ≡ seen j e)) (sym b.left) before) in
      record {
        next = record {
          pairs = put (λ p. seen_by n conn p.1) no_run p fresh b.pairs;
          left =
              put-map (λ p. p.0) (λ p. seen_by n conn p.1) (seen (k - 1)) no_run p fresh b.pairs
              (each-both (λ q. seen (k - 1) q.0 ≡ seen j q.0) (Image j) (λ q. seen (k - 1) q.0 ≡ seen_by n conn q.1) (λ q u v. u ∙ sym v.perspective) b.pairs before' b.images)
              (each-with (Image j) (λ q. false ≡ false) (λ q u. refl) b.pairs b.images)
              ∙ ap (λ us. put (seen (k - 1)) no_run p us (lefts b.pairs)) (block-left s list.made by props bs block isblock)
              ∙ ap (put (seen (k - 1)) no_run p block) b.left;
          right =
              put-map (λ p. p.1) (λ p. seen_by n conn p.1) (seen_by n conn) is_pending p fresh b.pairs
              (each-with (Image j) (λ q. seen_by n conn q.1 ≡ seen_by n conn q.1) (λ q u. refl) b.pairs b.images)
              (each-with (Image j) (λ q. is_pending q.1 ≡ false) (λ q u. ap not u.sequenced) b.pairs b.images)
              ∙ ap (λ us. put (seen_by n conn) is_pending p us (rights b.pairs)) (block-right s list.made by props bs block isblock)
              ∙ ap (put (seen_by n conn) is_pending p (new_elements list.made (Acked s conn) [] by props bs)) b.right;
          images = each-put (Image k) (λ p. seen_by n conn p.1) p fresh b.pairs (block-images k s list.made by props bs block isblock m new) (images-same j k same b);
        };
        stays = λ x y h. pair-put (λ p. seen_by n conn p.1) p fresh x y b.pairs h;
      }

  -- ---- a removal

  removal-hides : (s : ℕ) (d : ListElement) → seen_by n conn (with_removal s conn d) ≡ false
  removal-hides s d = hidden-by (has_occurred n conn) s conn d (own_number n s conn)

  removed-image : (k s : ℕ) (p : Pair) → seen k p.0 ≡ false → (j : ℕ) → Image j p → Image k (p.0, with_removal s conn p.1)
  removed-image k s p h j i = record {
    perspective = removal-hides s p.1 ∙ sym h;
    unremoved = hidden-by is_acked s conn p.1 refl ∙ sym h;
    at_last = hidden-by (has_occurred_at_stage 0) s conn p.1 refl ∙ sym h;
    sequenced = i.sequenced;
    content = i.content;
    bare = i.bare;
    props = λ g. absurd (cc (g, h));
    old = i.old;
    new = i.new;
  }

  -- the element is as before unless the stage removes it
  pub record RemovedAt (j k : ℕ) (e : ListElement) : Type 0 where
    pub before : seen (k - 1) e ≡ seen j e
    pub view : is_removed_by k e ≡ false → seen k e ≡ seen j e
    pub pending : pending_up_to k e.pending ≡ pending_up_to j e.pending

  changed-image : (j k s : ℕ) (p : Pair) → RemovedAt j k p.0 → Image j p → Image k (cond (seen_by n conn p.1 && is_removed_by k p.0) (p.0, with_removal s conn p.1) p)
  changed-image j k s p r i = step (seen_by n conn p.1) (is_removed_by k p.0) refl refl
    where
      step : (a b : Bool) → seen_by n conn p.1 ≡ a → is_removed_by k p.0 ≡ b → Image k (cond (a && b) (p.0, with_removal s conn p.1) p)
      step true true g h = removed-image k s p (marked-unseen k p.0 h) j i
      step true false g h = image-same j k p (record { view = r.view h; pending = r.pending }) i
      step false true g h = image-same j k p (record { view = marked-unseen k p.0 h ∙ sym (sym i.perspective ∙ g); pending = r.pending }) i
      step false false g h = image-same j k p (record { view = r.view h; pending = r.pending }) i

  left-changed : (k s : ℕ) (ps : List Pair) → lefts (map (λ p. cond (seen_by n conn p.1 && is_removed_by k p.0) (p.0, with_removal s conn p.1) p) ps) ≡ lefts ps
  left-changed k s [] = refl
  left-changed k s (p ∷ ps) = step (seen_by n conn p.1 && is_removed_by k p.0) (left-changed k s ps)
    where
      step : (b : Bool) {us vs : List ListElement} → us ≡ vs → (cond b (p.0, with_removal s conn p.1) p).0 ∷ us ≡ p.0 ∷ vs
      step true e = ap (λ us. p.0 ∷ us) e
      step false e = ap (λ us. p.0 ∷ us) e

  -- a removal on both sides, there run by run
  pub beside-removal : (j k s : ℕ) (ls ds : List ListElement) → Each (RemovedAt j k) ls → (b : Beside j ls ds)
      → Onward j k b ls (change_runs (seen_by n conn) (with_removal s conn) (lowered_runs 0 (marked_runs_from 0 (seen (k - 1)) (is_removed_by k) ls)) ds)
  beside-removal j k s ls ds r b =
      let r' = each-under (RemovedAt j k) (λ p. p.0) b.pairs (subst (Each (RemovedAt j k)) (sym b.left) r) in
      let see : Pair → Bool = λ p. seen_by n conn p.1 in
      let f : Pair → Pair = λ p. (p.0, with_removal s conn p.1) in
      let done = change_marked see f (λ p. p.0) (seen (k - 1)) (is_removed_by k) b.pairs in
      let runs = lowered_runs 0 (marked_runs_from 0 (seen (k - 1)) (is_removed_by k) ls) in
      record {
        next = record {
          pairs = done;
          left = left-changed k s b.pairs ∙ b.left;
          right =
              ap rights (sym (lowered-marked see f (λ p. p.0) (seen (k - 1)) (is_removed_by k) (λ p. removal-hides s p.1) b.pairs
              (each-both (λ p. RemovedAt j k p.0) (Image j) (λ p. see p ≡ seen (k - 1) p.0) (λ p u v. v.perspective ∙ sym u.before) b.pairs r' b.images)))
              ∙ ap (λ us. rights (change_runs see f (lowered_runs 0 (marked_runs_from 0 (seen (k - 1)) (is_removed_by k) us)) b.pairs)) b.left
              ∙ runs-map (λ p. p.1) see (seen_by n conn) (λ p. refl) f (with_removal s conn) (λ p. refl) runs b.pairs
              ∙ ap (change_runs (seen_by n conn) (with_removal s conn) runs) b.right;
          images = mapped b.pairs r' b.images;
        };
        stays = λ x y h. stays b.pairs x y h;
      }
    where
      stays : (ps : List Pair) (x y : ElementId) → has_pair ps x y ≡ true → has_pair
          (map (λ p. cond (seen_by n conn p.1 && is_removed_by k p.0) (p.0, with_removal s conn p.1) p) ps) x y ≡ true
      stays ps x y h = pair-changed (λ p. cond (seen_by n conn p.1 && is_removed_by k p.0) (p.0, with_removal s conn p.1) p)
          (λ p. same_left (seen_by n conn p.1 && is_removed_by k p.0) p) (λ p. same_right (seen_by n conn p.1 && is_removed_by k p.0) p) x y ps ∙ h
        where
          same_left : (b : Bool) (p : Pair) → id (cond b (p.0, with_removal s conn p.1) p).0 ≡ id p.0
          same_left true p = refl
          same_left false p = refl

          same_right : (b : Bool) (p : Pair) → id (cond b (p.0, with_removal s conn p.1) p).1 ≡ id p.1
          same_right true p = refl
          same_right false p = refl

      mapped : (ps : List Pair) → Each (λ p. RemovedAt j k p.0) ps → Each (Image j) ps
          → Each (Image k) (map (λ p. cond (seen_by n conn p.1 && is_removed_by k p.0) (p.0, with_removal s conn p.1) p) ps)
      mapped [] u v = tt
      mapped (p ∷ ps) u v = (changed-image j k s p u.0 v.0, mapped ps u.1 v.1)

  -- ---- an annotation

  -- the element is seen as before, and the stage adds its changes to those on which it has some
  pub record AnnotatedAt (j k : ℕ) (c : Changes) (e : ListElement) : Type 0 where
    pub before : seen (k - 1) e ≡ seen j e
    pub view : seen k e ≡ seen j e
    pub others : is_annotated_by k e ≡ false → pending_up_to k e.pending ≡ pending_up_to j e.pending
    pub changed : is_annotated_by k e ≡ true → pending_up_to k e.pending ≡ pending_up_to j e.pending ++ ((k, c) ∷ [])

  annotated-image : (j k : ℕ) (c : Changes) (p : Pair) → AnnotatedAt j k c p.0 → Image j p
      → Image k (cond (seen_by n conn p.1 && is_annotated_by k p.0) (p.0, with_annotation c p.1) p)
  annotated-image j k c p r i = step (seen_by n conn p.1) (is_annotated_by k p.0) refl refl
    where
      unseen : seen_by n conn p.1 ≡ false → Image k p
      unseen g = record {
        perspective = i.perspective ∙ sym r.view;
        unremoved = i.unremoved ∙ sym r.view;
        at_last = i.at_last ∙ sym r.view;
        sequenced = i.sequenced;
        content = i.content;
        bare = i.bare;
        props = λ h. absurd (cc (i.perspective, g, r.view, h));
        old = i.old;
        new = i.new;
      }

      step : (a b : Bool) → seen_by n conn p.1 ≡ a → is_annotated_by k p.0 ≡ b → Image k (cond (a && b) (p.0, with_annotation c p.1) p)
      step true true g h = record {
        perspective = i.perspective ∙ sym r.view;
        unremoved = i.unremoved ∙ sym r.view;
        at_last = i.at_last ∙ sym r.view;
        sequenced = i.sequenced;
        content = i.content;
        bare = i.bare;
        props = λ q. ap (λ ps. change ps c) (i.props (sym r.view ∙ q)) ∙ sym (ap (shown_props p.0.props) (r.changed h)
            ∙ shown_props-append p.0.props (pending_up_to j p.0.pending) ((k, c) ∷ []));
        old = i.old;
        new = i.new;
      }
      step true false g h = image-same j k p (record { view = r.view; pending = r.others h }) i
      step false b g h = unseen g

  left-annotated : (k : ℕ) (c : Changes) (ps : List Pair) → lefts (map (λ p. cond (seen_by n conn p.1 && is_annotated_by k p.0) (p.0, with_annotation c p.1) p) ps) ≡ lefts ps
  left-annotated k c [] = refl
  left-annotated k c (p ∷ ps) = step (seen_by n conn p.1 && is_annotated_by k p.0) (left-annotated k c ps)
    where
      step : (b : Bool) {us vs : List ListElement} → us ≡ vs → (cond b (p.0, with_annotation c p.1) p).0 ∷ us ≡ p.0 ∷ vs
      step true e = ap (λ us. p.0 ∷ us) e
      step false e = ap (λ us. p.0 ∷ us) e

  -- an annotation on both sides, there run by run
  pub beside-annotation : (j k : ℕ) (c : Changes) (ls ds : List ListElement) → Each (AnnotatedAt j k c) ls → (b : Beside j ls ds)
      → Onward j k b ls (change_runs (seen_by n conn) (with_annotation c) (marked_runs_from 0 (seen (k - 1)) (is_annotated_by k) ls) ds)
  beside-annotation j k c ls ds r b =
      let r' = each-under (AnnotatedAt j k c) (λ p. p.0) b.pairs (subst (Each (AnnotatedAt j k c)) (sym b.left) r) in
      let see : Pair → Bool = λ p. seen_by n conn p.1 in
      let f : Pair → Pair = λ p. (p.0, with_annotation c p.1) in
      let runs = marked_runs_from 0 (seen (k - 1)) (is_annotated_by k) ls in
      record {
        next = record {
          pairs = change_marked see f (λ p. p.0) (seen (k - 1)) (is_annotated_by k) b.pairs;
          left = left-annotated k c b.pairs ∙ b.left;
          right =
              ap rights (sym (kept-marked see f (λ p. p.0) (seen (k - 1)) (is_annotated_by k) (λ p. refl) b.pairs
              (each-both (λ p. AnnotatedAt j k c p.0) (Image j) (λ p. see p ≡ seen (k - 1) p.0) (λ p u v. v.perspective ∙ sym u.before) b.pairs r' b.images)))
              ∙ ap (λ us. rights (change_runs see f (marked_runs_from 0 (seen (k - 1)) (is_annotated_by k) us) b.pairs)) b.left
              ∙ runs-map (λ p. p.1) see (seen_by n conn) (λ p. refl) f (with_annotation c) (λ p. refl) runs b.pairs
              ∙ ap (change_runs (seen_by n conn) (with_annotation c) runs) b.right;
          images = mapped b.pairs r' b.images;
        };
        stays = λ x y h. stays b.pairs x y h;
      }
    where
      stays : (ps : List Pair) (x y : ElementId) → has_pair ps x y ≡ true → has_pair
          (map (λ p. cond (seen_by n conn p.1 && is_annotated_by k p.0) (p.0, with_annotation c p.1) p) ps) x y ≡ true
      stays ps x y h = pair-changed (λ p. cond (seen_by n conn p.1 && is_annotated_by k p.0) (p.0, with_annotation c p.1) p)
          (λ p. same_left (seen_by n conn p.1 && is_annotated_by k p.0) p) (λ p. same_right (seen_by n conn p.1 && is_annotated_by k p.0) p) x y ps ∙ h
        where
          same_left : (b : Bool) (p : Pair) → id (cond b (p.0, with_annotation c p.1) p).0 ≡ id p.0
          same_left true p = refl
          same_left false p = refl

          same_right : (b : Bool) (p : Pair) → id (cond b (p.0, with_annotation c p.1) p).1 ≡ id p.1
          same_right true p = refl
          same_right false p = refl

      mapped : (ps : List Pair) → Each (λ p. AnnotatedAt j k c p.0) ps → Each (Image j) ps
          → Each (Image k) (map (λ p. cond (seen_by n conn p.1 && is_annotated_by k p.0) (p.0, with_annotation c p.1) p) ps)
      mapped [] u v = tt
      mapped (p ∷ ps) u v = (annotated-image j k c p u.0 v.0, mapped ps u.1 v.1)
