-- What the steps of a tree and of the document's list make of elements beside one another; of any content.
use Rattle.std.proofs.Common.{◌≡◌, ℕ, ◌+◌, ◌≤◌, Bool, true, false, not, cond, ◌&&◌, ◌||◌, nat_le, List, [], ◌∷◌, ◌++◌, Option, Some, None, refl, sym, ◌∙◌, ap, subst, arith, map, append-nil, append_assoc}
use Rattle.std.specs.List.{list_all, list_any}
use Rattle.std.proofs.lemmas.Bool.Decides.{nat_tests}
use Rattle.ft_base.specs.declared.stamps.Stamp.{Stamp}
use Rattle.ft_base.specs.declared.stamps.Stamp.TheVariants.{Acked, Local}
use Rattle.ft_base.specs.Scan.{change_range_from, one_more_if, put_past, within}
use Rattle.ft_base.specs.Visibility.{has_occurred_at_stage, is_acked}
use Rattle.ft_base.proofs.Booleans.{both}
use Rattle.ft_props.specs.declared.properties.Changes.{Changes}
use Rattle.ft_props.specs.Element.{ElementContent, ListElement, NamelessElement, removal_stamp, seen, with_annotation, with_pending_annotation, with_pending_removal, with_removal}
use Rattle.ft_props.specs.Element.{new_elements as document_elements}
use Rattle.ft_props.specs.Overlay.{after_acked_changes, after_pending_changes}
use Rattle.ft_props.specs.Properties.{PropertyList}
use Rattle.ft_tree_leaves.specs.Elements.{TreeElement, new_elements, removed_stamps, with_overlay, with_stamps}
use Rattle.ft_laws_names.proofs.Beside.{Beside, ends, next}
use Rattle.ft_named.proofs.Bares.{AreElements, IsElement}

-- ---- what is pending on an element is of stages up to m

abbrev pub is_stamp_up_to : ℕ → Stamp → Bool
is_stamp_up_to m (Acked s c) = true
is_stamp_up_to m (Local k) = nat_le k m

abbrev pub is_removal_up_to : ℕ → Option ℕ → Bool
is_removal_up_to m None = true
is_removal_up_to m (Some k) = nat_le k m

abbrev pub are_changes_up_to : ℕ → List (ℕ × Changes) → Bool
are_changes_up_to m qs = list_all (λ q. nat_le q.0 m) qs

abbrev pub is_up_to : ℕ → ListElement → Bool
is_up_to m e = is_stamp_up_to m e.ins && (is_removal_up_to m e.removal_stage && (list_all is_acked e.dels && are_changes_up_to m e.pending))

pub record IsUpTo (m : ℕ) (e : ListElement) : Type 0 where
  pub ins : is_stamp_up_to m e.ins ≡ true
  pub removal : is_removal_up_to m e.removal_stage ≡ true
  pub dels : list_all is_acked e.dels ≡ true
  pub changes : are_changes_up_to m e.pending ≡ true

pub up_to-parts : (m : ℕ) (e : ListElement) → is_up_to m e ≡ true → IsUpTo m e
up_to-parts m e h =
    let p = both (is_stamp_up_to m e.ins) (is_removal_up_to m e.removal_stage && (list_all is_acked e.dels && are_changes_up_to m e.pending)) h in
    let q = both (is_removal_up_to m e.removal_stage) (list_all is_acked e.dels && are_changes_up_to m e.pending) p.1 in
    let r = both (list_all is_acked e.dels) (are_changes_up_to m e.pending) q.1 in
    record { ins = p.0; removal = q.0; dels = r.0; changes = r.1 }

pub up_to-made : (m : ℕ) (e : ListElement) → IsUpTo m e → is_up_to m e ≡ true
up_to-made m e h = rw (h.ins, h.removal, h.dels, h.changes) refl

pub below-stage : (k m j : ℕ) → m ≤ j → nat_le k m ≡ true → nat_le k j ≡ true
below-stage k m j l h = grind (arith, nat_tests)

later-stamp : (m j : ℕ) → m ≤ j → (t : Stamp) → is_stamp_up_to m t ≡ true → is_stamp_up_to j t ≡ true
later-stamp m j l (Acked s c) h = refl
later-stamp m j l (Local k) h = below-stage k m j l h

later-removal : (m j : ℕ) → m ≤ j → (o : Option ℕ) → is_removal_up_to m o ≡ true → is_removal_up_to j o ≡ true
later-removal m j l None h = refl
later-removal m j l (Some k) h = below-stage k m j l h

later-changes : (m j : ℕ) → m ≤ j → (qs : List (ℕ × Changes)) → are_changes_up_to m qs ≡ true → are_changes_up_to j qs ≡ true
later-changes m j l [] h = refl
later-changes m j l (q ∷ qs) h =
    let p = both (nat_le q.0 m) (are_changes_up_to m qs) h in rw (below-stage q.0 m j l p.0, later-changes m j l qs p.1) refl

pub later-up_to : (m j : ℕ) → m ≤ j → (e : ListElement) → is_up_to m e ≡ true → is_up_to j e ≡ true
later-up_to m j l e h =
    let p = up_to-parts m e h in
    up_to-made j e (record {
      ins = later-stamp m j l e.ins p.ins;
      removal = later-removal m j l e.removal_stage p.removal;
      dels = p.dels;
      changes = later-changes m j l e.pending p.changes;
    })

-- ---- such an element is seen alike at all later stages

occurred-alike : (m j : ℕ) → m ≤ j → (t : Stamp) → is_stamp_up_to m t ≡ true → has_occurred_at_stage j t ≡ has_occurred_at_stage m t
occurred-alike m j l (Acked s c) h = refl
occurred-alike m j l (Local k) h = below-stage k m j l h ∙ sym h

any-alike : (m j : ℕ) → m ≤ j → (ds : List Stamp) (o : Option ℕ) → list_all is_acked ds ≡ true → is_removal_up_to m o ≡ true
    → list_any (has_occurred_at_stage j) (ds ++ removal_stamp o) ≡ list_any (has_occurred_at_stage m) (ds ++ removal_stamp o)
any-alike m j l [] None h g = refl
any-alike m j l [] (Some k) h g = rw (below-stage k m j l g, g) refl
any-alike m j l (Acked s c ∷ ds) o h g = refl
any-alike m j l (Local k ∷ ds) o h g = (cc)

pub seen-later : (m j : ℕ) → m ≤ j → (e : ListElement) → is_up_to m e ≡ true → seen j e ≡ seen m e
seen-later m j l e h =
    let p = up_to-parts m e h in
    rw (occurred-alike m j l e.ins p.ins, any-alike m j l e.dels e.removal_stage p.dels p.removal) refl

-- an element that is seen at stage m has no pending removal
pub unseen-removal : (m k : ℕ) (ds : List Stamp) → nat_le k m ≡ true → list_any (has_occurred_at_stage m) (ds ++ (Local k ∷ [])) ≡ true
unseen-removal m k [] h = rw h refl
unseen-removal m k (d ∷ ds) h = rw (unseen-removal m k ds h) (or-true (has_occurred_at_stage m d))
  where
    or-true : (b : Bool) → b || true ≡ true
    or-true true = refl
    or-true false = refl

pub unmarked-if-seen : (m : ℕ) (e : ListElement) → is_up_to m e ≡ true → seen m e ≡ true → e.removal_stage ≡ None
unmarked-if-seen m e h s = step e.removal_stage refl (up_to-parts m e h).removal
  where
    never : (b : Bool) → b && not true ≡ true → ⊥
    never true g = (cc)
    never false g = (cc)

    step : (o : Option ℕ) → e.removal_stage ≡ o → is_removal_up_to m o ≡ true → e.removal_stage ≡ None
    step None g r = g
    step (Some k) g r =
        let any : list_any (has_occurred_at_stage m) (e.dels ++ removal_stamp e.removal_stage) ≡ true =
        ap (λ o. list_any (has_occurred_at_stage m) (e.dels ++ removal_stamp o)) g ∙ unseen-removal m k e.dels r in
        absurd (never (has_occurred_at_stage m e.ins) (sym (ap (λ b. has_occurred_at_stage m e.ins && not b) any) ∙ s))

-- ---- removals

past-acked : (new ds rest : List Stamp) → list_all is_acked ds ≡ true → put_past is_acked new (ds ++ rest) ≡ ds ++ put_past is_acked new rest
past-acked new [] rest h = refl
past-acked new (Acked s c ∷ ds) rest h = ap (λ ts. Acked s c ∷ ts) (past-acked new ds rest h)
past-acked new (Local k ∷ ds) rest h = (cc)

before-removal : (new : List Stamp) (o : Option ℕ) → put_past is_acked new (removal_stamp o) ≡ new ++ removal_stamp o
before-removal new None = sym (append-nil new)
before-removal new (Some k) = refl

module _ {U : Type 0} (content : U → ElementContent) where
  module _ (x : TreeElement U) (e : ListElement) (q : IsElement content x e) where
    pub removed-alike : (s c : ℕ) → list_all is_acked e.dels ≡ true → IsElement content (with_stamps (removed_stamps (Acked s c)) x) (with_removal s c e)
    removed-alike s c h =
        let dels : put_past is_acked (Acked s c ∷ []) (e.dels ++ removal_stamp e.removal_stage) ≡ (e.dels ++ (Acked s c ∷ [])) ++ removal_stamp e.removal_stage =
        past-acked (Acked s c ∷ []) e.dels (removal_stamp e.removal_stage) h
        ∙ ap (λ ts. e.dels ++ ts) (before-removal (Acked s c ∷ []) e.removal_stage)
        ∙ sym (append_assoc e.dels (Acked s c ∷ []) (removal_stamp e.removal_stage)) in
        ap (λ (n : NamelessElement). record n { stamps = removed_stamps (Acked s c) n.stamps }) q
        ∙ ap (λ ts. record { content = e.content; stamps = record { ins = e.ins; dels = ts }; by = e.by; props = e.props; pending = e.pending }) dels

    pub marked-alike : (k : ℕ) → list_all is_acked e.dels ≡ true → e.removal_stage ≡ None
        → IsElement content (with_stamps (removed_stamps (Local k)) x) (with_pending_removal k e)
    marked-alike k h none =
        let dels : put_past is_acked (Local k ∷ []) (e.dels ++ removal_stamp e.removal_stage) ≡ e.dels ++ (Local k ∷ []) =
        ap (λ o. put_past is_acked (Local k ∷ []) (e.dels ++ removal_stamp o)) none ∙ past-acked (Local k ∷ []) e.dels [] h in
        ap (λ (n : NamelessElement). record n { stamps = removed_stamps (Local k) n.stamps }) q
        ∙ ap (λ ts. record { content = e.content; stamps = record { ins = e.ins; dels = ts }; by = e.by; props = e.props; pending = e.pending }) dels

    pub changed-alike : (c : Changes) → IsElement content (with_overlay (after_acked_changes c) x) (with_annotation c e)
    changed-alike c = ap (λ (n : NamelessElement). record n { props = (after_acked_changes c (record { acked = n.props; pending = n.pending })).acked }) q

    pub noted-alike : (k : ℕ) (c : Changes) → IsElement content (with_overlay (after_pending_changes k c) x) (with_pending_annotation k c e)
    noted-alike k c = ap (λ (n : NamelessElement). record n { pending = n.pending ++ ((k, c) ∷ []) }) q

  -- ---- new elements

  pub new-alike : (n : ℕ) (ins : Stamp) (by : Option Stamp) (props : PropertyList) (us : List U)
      → AreElements content (new_elements ins by props us) (document_elements n ins [] by props (map content us))
  new-alike n ins by props [] = ends
  new-alike n ins by props (u ∷ us) = next refl (new-alike (n + 1) ins by props us)

-- ---- facts of the elements of the document's list

module _ {A : Type 0} {Q : A → ListElement → Type 0} (test : ListElement → Bool) where
  pub beside-all : {xs : List A} {es : List ListElement} → list_all test es ≡ true → Beside A ListElement Q xs es
      → Beside A ListElement (λ x e. Q x e × (test e ≡ true)) xs es
  beside-all h ends = ends
  beside-all h (next {x = x} {y = e} {xs = xs} {ys = es} q qs) =
      let p = both (test e) (list_all test es) h in next (q, p.0) (beside-all p.1 qs)

-- changes of the elements that are seen
module _ {A : Type 0} {Q : A → ListElement → Type 0} (seen : A → Bool) (seen' : ListElement → Bool)
    (agree : (x : A) (e : ListElement) → Q x e → seen x ≡ seen' e) where
  pub beside-seen_range : {R : A → ListElement → Type 0} (f : A → A) (g : ListElement → ListElement) → ((x : A) (e : ListElement) → Q x e → R x e)
      → ((x : A) (e : ListElement) → Q x e → seen' e ≡ true → R (f x) (g e)) → (i p q : ℕ) {xs : List A} {es : List ListElement} → Beside A ListElement Q xs es
      → Beside A ListElement R (change_range_from i seen p q f xs) (change_range_from i seen' p q g es)
  beside-seen_range f g stays goes i p q ends = ends
  beside-seen_range {R} f g stays goes i p q (next {x = x} {y = e} {xs = xs} {ys = es} r rs) =
      next (step (seen x) (seen' e) (within p q i) (agree x e r) (λ s. goes x e r s) (stays x e r))
      (subst (λ b. Beside A ListElement R (change_range_from (one_more_if (seen x) i) seen p q f xs) (change_range_from (one_more_if b i) seen' p q g es))
      (agree x e r) (beside-seen_range f g stays goes (one_more_if (seen x) i) p q rs))
    where
      step : (b c d : Bool) → b ≡ c → (c ≡ true → R (f x) (g e)) → R x e → R (cond (b && d) (f x) x) (cond (c && d) (g e) e)
      step true true true h go stay = go refl
      step true true false h go stay = stay
      step false false d h go stay = stay
      step true false d h go stay = (cc)
      step false true d h go stay = (cc)
