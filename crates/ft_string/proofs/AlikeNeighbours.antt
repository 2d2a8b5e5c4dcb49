-- What stands beside an operation, told by the elements of a tree of text and by the document that it holds.
use Rattle.std.proofs.Common.{◌≡◌, ℕ, zero, suc, Bool, true, false, cond, not, ◌&&◌, ◌||◌, List, [], ◌∷◌, ◌++◌, Option, Some, None, refl, ◌∙◌, ap, drop, reverse, subst, take}
use mathlib.Core.List.{reverse_aux}
use Rattle.std.specs.List.{list_all, list_any}
use Rattle.ft_base.specs.declared.elements.Perspective.{Perspective}
use Rattle.ft_base.specs.declared.stamps.Stamp.{Stamp}
use Rattle.ft_base.specs.declared.stamps.Stamp.TheVariants.{Acked, Local}
use Rattle.ft_base.specs.Scan.{one_more_if, within}
use Rattle.ft_base.specs.Visibility.{is_acked}
use Rattle.ft_block.specs.declared.leaves.LenView.TheVariants.{At}
use Rattle.ft_changes.specs.Beside.{body_moves_ends_alike, first_passes, is_always_seen, is_standing, marked_range, moves_ends_alike, pass_beside_marked, passes_beside_marked}
use Rattle.ft_changes.specs.ShownRuns.{place_of_insertion}
use Rattle.ft_changes.proofs.RunsBeside.{place-beside}
use Rattle.ft_interval_store.specs.State.{is_interval_operation}
use Rattle.ft_laws_names.proofs.Beside.{Beside, beside-filter, ends, next}
use Rattle.ft_msg.specs.declared.messages.Body.TheVariants.{Op}
use Rattle.ft_named.proofs.Bares.{IsElement, pending-alike, same-stamps, seen-alike}
use Rattle.ft_named.proofs.Changed.{is_up_to, up_to-parts}
use Rattle.ft_op.specs.declared.operations.BaseOp.{BaseOp}
use Rattle.ft_op.specs.declared.operations.BaseOp.TheVariants.{Insert, Remove, Annotate}
use Rattle.ft_op.specs.declared.operations.ChannelOp.TheVariants.{Text}
use Rattle.ft_op.specs.declared.operations.TextOp.{TextOp}
use Rattle.ft_op.specs.declared.operations.TextOp.TheVariants.{One, Group, IntervalAdd, IntervalChange, IntervalDelete}
use Rattle.ft_op.specs.Document.{Document}
use Rattle.ft_op.specs.Operation.{OnText}
use Rattle.ft_props.specs.Element.{ElementContent, ListElement, is_pending, removal_stamp, seen_by}
use Rattle.ft_text.specs.Texts.{TextElements}
use Rattle.ft_tree_changes.specs.StandingElements.{stamps_always_seen, stamps_stand}
use Rattle.ft_tree_changes.specs.StandingElements.{is_always_seen as tree_always_seen, is_standing as tree_standing}
use Rattle.ft_tree_leaves.specs.Elements.{TreeElement, seen_in}
use Rattle.ft_tree_leaves.specs.Elements.{is_pending as tree_pending}
use Rattle.ft_string.specs.Bare.{text_content}
use Rattle.ft_string.specs.Neighbours.{passes_beside}
use Rattle.ft_string.proofs.ShownTexts.{AreSeen}

-- ---- two lists side by side

-- two that are marked alike
abbrev AreMarked : {A B : Type 0} → (A → B → Type 0) → Bool × A → Bool × B → Type 0
AreMarked Q a b = (a.0 ≡ b.0) × Q a.1 b.1

module _ {A B : Type 0} {Q : A → B → Type 0} where
  beside-take : (n : ℕ) {xs : List A} {ys : List B} → Beside A B Q xs ys → Beside A B Q (take n xs) (take n ys)
  beside-take zero qs = ends
  beside-take (suc n) ends = ends
  beside-take (suc n) (next q qs) = next q (beside-take n qs)

  beside-drop : (n : ℕ) {xs : List A} {ys : List B} → Beside A B Q xs ys → Beside A B Q (drop n xs) (drop n ys)
  beside-drop zero qs = qs
  beside-drop (suc n) ends = ends
  beside-drop (suc n) (next q qs) = beside-drop n qs

  beside-onto : {xs : List A} {ys : List B} → Beside A B Q xs ys → {us : List A} {vs : List B} → Beside A B Q us vs
      → Beside A B Q (reverse_aux xs us) (reverse_aux ys vs)
  beside-onto ends rs = rs
  beside-onto (next q qs) rs = beside-onto qs (next q rs)

  beside-reverse : {xs : List A} {ys : List B} → Beside A B Q xs ys → Beside A B Q (reverse xs) (reverse ys)
  beside-reverse qs = beside-onto qs ends

  module _ (test : A → Bool) (test' : B → Bool) (tests : (x : A) (y : B) → Q x y → test x ≡ test' y) where
    module _ (stands : A → Bool) (stands' : B → Bool) (stand : (x : A) (y : B) → Q x y → stands x ≡ stands' y) where
      first-beside : {xs : List A} {ys : List B} → Beside A B Q xs ys → first_passes stands test xs ≡ first_passes stands' test' ys
      first-beside ends = refl
      first-beside (next {x = x} {y = y} {xs = xs} q qs) =
          ap (λ b. cond b (test x) (first_passes stands test xs)) (stand x y q)
          ∙ ap (λ b. cond (stands' y) b (first_passes stands test xs)) (tests x y q)
          ∙ ap (cond (stands' y) (test' y)) (first-beside qs)

      -- on both sides of a place
      sides-beside : (m n : ℕ) → m ≡ n → {xs : List A} {ys : List B} → Beside A B Q xs ys
          → first_passes stands test (reverse (take m xs)) && first_passes stands test (drop m xs)
          ≡ first_passes stands' test' (reverse (take n ys)) && first_passes stands' test' (drop n ys)
      sides-beside m n e {xs} {ys} qs =
          ap (λ k. first_passes stands test (reverse (take k xs)) && first_passes stands test (drop k xs)) e
          ∙ ap (λ b. b && first_passes stands test (drop n xs)) (first-beside (beside-reverse (beside-take n qs)))
          ∙ ap (λ b. first_passes stands' test' (reverse (take n ys)) && b) (first-beside (beside-drop n qs))

    -- marked elements

    pair-beside : (a c : Bool × A) (b d : Bool × B) → AreMarked Q a b → AreMarked Q c d
        → passes_beside_marked test a c ≡ passes_beside_marked test' b d
    pair-beside a c b d h k =
        ap (λ m. cond m (c.0 || test c.1) (not c.0 || test a.1)) h.0
        ∙ ap (λ m. cond b.0 (m || test c.1) (not m || test a.1)) k.0
        ∙ ap (λ t. cond b.0 (d.0 || t) (not d.0 || test a.1)) (tests c.1 d.1 k.1)
        ∙ ap (λ t. cond b.0 (d.0 || test' d.1) (not d.0 || t)) (tests a.1 b.1 h.1)

    marked-beside : {xs : List (Bool × A)} {ys : List (Bool × B)} → Beside (Bool × A) (Bool × B) (AreMarked Q) xs ys
        → pass_beside_marked test xs ≡ pass_beside_marked test' ys
    marked-beside ends = refl
    marked-beside (next q ends) = refl
    marked-beside (next {x = a} {y = b} q (next {x = c} {y = d} {xs = xs} r qs)) =
        ap (λ t. t && pass_beside_marked test (c ∷ xs)) (pair-beside a c b d q r)
        ∙ ap (λ t. passes_beside_marked test' b d && t) (marked-beside (next r qs))

  module _ (seen : A → Bool) (seen' : B → Bool) (sees : (x : A) (y : B) → Q x y → seen x ≡ seen' y) (p q : ℕ) where
    range-beside : (n : ℕ) {xs : List A} {ys : List B} → Beside A B Q xs ys
        → Beside (Bool × A) (Bool × B) (AreMarked Q) (marked_range n seen p q xs) (marked_range n seen' p q ys)
    range-beside n ends = ends
    range-beside n (next {x = x} {y = y} {xs = xs} {ys = ys} r rs) =
        next (ap (λ b. b && within p q n) (sees x y r), r)
        (subst (λ b. Beside (Bool × A) (Bool × B) (AreMarked Q) (marked_range (one_more_if (seen x) n) seen p q xs)
        (marked_range (one_more_if b n) seen' p q ys)) (sees x y r) (range-beside (one_more_if (seen x) n) rs))

-- ---- elements

acked-alike : (ds : List Stamp) (o : Option ℕ) → list_any is_acked (ds ++ removal_stamp o) ≡ list_any is_acked ds
acked-alike [] None = refl
acked-alike [] (Some k) = refl
acked-alike (d ∷ ds) o = ap (λ b. is_acked d || b) (acked-alike ds o)

unmarked-alike : (a : Bool) (ds : List Stamp) (o : Option ℕ) → list_all is_acked ds ≡ true
    → a && not (list_any (λ (t : Stamp). true) (ds ++ removal_stamp o))
    ≡ (a && not (list_any is_acked (ds ++ removal_stamp o))) && not (list_any (λ (t : Stamp). true) (removal_stamp o))
unmarked-alike true [] None h = refl
unmarked-alike false [] None h = refl
unmarked-alike true [] (Some k) h = refl
unmarked-alike false [] (Some k) h = refl
unmarked-alike true (Acked s c ∷ ds) o h = refl
unmarked-alike false (Acked s c ∷ ds) o h = refl
unmarked-alike a (Local k ∷ ds) o h = (cc)

standing-alike : (x : TreeElement ElementContent) (e : ListElement) → IsElement text_content x e → tree_standing x ≡ is_standing e
standing-alike x e q = ap stamps_stand (same-stamps text_content x e q) ∙ ap not (acked-alike e.dels e.removal_stage)

always-alike : (last : ℕ) (x : TreeElement ElementContent) (e : ListElement) → IsElement text_content x e → is_up_to last e ≡ true
    → tree_always_seen x ≡ is_always_seen e
always-alike last x e q up =
    ap stamps_always_seen (same-stamps text_content x e q) ∙ unmarked-alike (is_acked e.ins) e.dels e.removal_stage (up_to-parts last e up).dels

-- ---- operations

pub passes-alike : (last : ℕ) (at : Perspective) (op : BaseOp) (doc : Document) {xs : TextElements} → AreSeen last xs doc.text.items
    → passes_beside at op xs ≡ moves_ends_alike doc at.c at.r (OnText op)
passes-alike last at (Insert p seg props) doc {xs} b =
    let items = doc.text.items in
    let place = place-beside (λ (x : TreeElement ElementContent). true) (λ (e : ListElement). true) (λ x e q. refl)
    (seen_in (At at)) (seen_by at.r at.c) (λ x e q. seen-alike text_content (At at) x e q.0)
    tree_pending is_pending (λ x e q. pending-alike text_content x e q.0) p b in
    sides-beside tree_always_seen is_always_seen (λ x e q. always-alike last x e q.0 q.1) tree_standing is_standing
    (λ x e q. standing-alike x e q.0)
    (place_of_insertion (seen_in (At at)) tree_pending (λ (x : TreeElement ElementContent). true) p xs)
    (place_of_insertion (seen_by at.r at.c) is_pending (λ (e : ListElement). true) p items) place b
passes-alike last at (Remove p q) doc {xs} b =
    marked-beside tree_always_seen is_always_seen (λ x e r. always-alike last x e r.0 r.1)
    (beside-filter (λ (m : Bool × TreeElement ElementContent). tree_standing m.1) (λ (m : Bool × ListElement). is_standing m.1)
    (λ m k r. standing-alike m.1 k.1 r.1.0)
    (range-beside (seen_in (At at)) (seen_by at.r at.c) (λ x e r. seen-alike text_content (At at) x e r.0) p q 0 b))
passes-alike last at (Annotate p q changes) doc b = refl

-- an operation on intervals moves no element
pub intervals-alike : (doc : Document) (c r : ℕ) (op : TextOp) → is_interval_operation op ≡ true → body_moves_ends_alike doc c r (Op (Text op)) ≡ true
intervals-alike doc c r (One op) h = (cc)
intervals-alike doc c r (Group ops) h = (cc)
intervals-alike doc c r (IntervalAdd label id bounds props) h = refl
intervals-alike doc c r (IntervalChange label id bounds props) h = refl
intervals-alike doc c r (IntervalDelete label id) h = refl
