-- What the client's own steps make of a list, of any content: new elements, marks and notes of the next stage, and how many elements
-- the client sees afterwards.
use Rattle.std.proofs.Common.{◌≡◌, ℕ, zero, suc, ◌+◌, ◌-◌, ◌≤◌, ◌<◌, Bool, true, false, cond, not, ◌&&◌, nat_le, nat_lt, max, List, [], ◌∷◌, None, refl, sym, ◌∙◌, ap, subst, arith, length, map}
use Rattle.std.specs.List.{list_all}
use Rattle.std.proofs.lemmas.Bool.Decides.{nat_tests}
use Rattle.ft_base.specs.declared.stamps.Stamp.TheVariants.{Local}
use Rattle.ft_base.specs.Scan.{change_range, change_range_from, len, no_run, one_more_if, put, within}
use Rattle.ft_base.specs.Visibility.{has_occurred_at_stage}
use Rattle.ft_base.proofs.Booleans.{both}
use Rattle.ft_block.specs.Leaves.{last_stage}
use Rattle.ft_tree_leaves.specs.Elements.{TreeElement, new_elements, removed_stamps, seen_in, with_overlay, with_stamps}
use Rattle.ft_tree_leaves.specs.Places.{put_place, shifted_place}
use Rattle.ft_props.specs.declared.properties.Changes.{Changes}
use Rattle.ft_props.specs.Element.{ElementContent, ListElement, is_pending, seen, with_pending_annotation, with_pending_removal}
use Rattle.ft_props.specs.Element.{new_elements as document_elements}
use Rattle.ft_props.specs.Overlay.{after_pending_changes}
use Rattle.ft_props.specs.Properties.{PropertyList}
use Rattle.ft_props.specs.Steps.{Sequence}
use Rattle.ft_laws_agreement.proofs.AgreedStage.{len-put-add}
use Rattle.ft_laws_names.specs.WellNamed.{IsWellNumbered}
use Rattle.ft_laws_names.proofs.Beside.{Beside, beside-append, beside-len, beside-more, ends, next}
use Rattle.ft_laws_names.proofs.NumberedLists.{local-numbered}
use Rattle.ft_named.proofs.Bares.{AreElements, IsElement, seen-alike}
use Rattle.ft_named.proofs.Changed.{beside-all, beside-seen_range, is_up_to, later-up_to, marked-alike, new-alike, noted-alike, seen-later, unmarked-if-seen, unseen-removal, up_to-made, up_to-parts}
use Rattle.ft_named.proofs.Lists.{all-append, all-weaker}
use Rattle.ft_named.proofs.ListSteps.{StepsList, mapped-length, new-length, new-local, put-moves, put_place-beside, there-still}
use Rattle.ft_named.proofs.Placed.{name_place}

-- what is pending on the elements is of stages up to m
abbrev pub AreUpTo : ℕ → List ListElement → Type 0
AreUpTo m es = list_all (is_up_to m) es ≡ true

-- ---- what stays up to a stage

pub self-stage : (k : ℕ) → nat_le k k ≡ true
self-stage k = grind (arith, nat_tests)

pub new-up_to : (n k : ℕ) (props : PropertyList) (bs : List ElementContent) → list_all (is_up_to k) (document_elements n (Local k) [] None props bs) ≡ true
new-up_to n k props [] = refl
new-up_to n k props (b ∷ bs) = rw (self-stage k, new-up_to (n + 1) k props bs) refl

pub later-all : (m j : ℕ) → m ≤ j → (es : List ListElement) → AreUpTo m es → AreUpTo j es
later-all m j l es h = all-weaker (is_up_to m) (is_up_to j) (λ e g. later-up_to m j l e g) es h

pub marked-up_to : (k : ℕ) (e : ListElement) → is_up_to k e ≡ true → is_up_to k (with_pending_removal k e) ≡ true
marked-up_to k e h =
    let p = up_to-parts k e h in up_to-made k (with_pending_removal k e) (record { ins = p.ins; removal = self-stage k; dels = p.dels; changes = p.changes })

pub noted-up_to : (k : ℕ) (c : Changes) (e : ListElement) → is_up_to k e ≡ true → is_up_to k (with_pending_annotation k c e) ≡ true
noted-up_to k c e h =
    let p = up_to-parts k e h in
    up_to-made k (with_pending_annotation k c e) (record {
      ins = p.ins;
      removal = p.removal;
      dels = p.dels;
      changes = all-append (λ q. nat_le q.0 k) e.pending ((k, c) ∷ []) p.changes (rw (self-stage k) refl);
    })

-- an insertion of elements that needn't be seen alike
module _ {A B : Type 0} {Q R : A → B → Type 0} (weaker : (x : A) (y : B) → Q x y → R x y) (see : A → Bool) (see' : B → Bool)
    (agree : (x : A) (y : B) → Q x y → see x ≡ see' y) {new : List A} {new' : List B} (news : Beside A B R new new') where
  put-unlike : (p : ℕ) {xs : List A} {ys : List B} → Beside A B Q xs ys → Beside A B R (put see no_run p new xs) (put see' no_run p new' ys)
  put-unlike zero ends = news
  put-unlike zero (next {x = x} {y = y} {xs = xs} {ys = ys} q qs) = beside-append news (next (weaker x y q) (beside-more weaker qs))
  put-unlike (suc p) ends = news
  put-unlike (suc p) (next {x = x} {y = y} {xs = xs} {ys = ys} q qs) =
      next (weaker x y q) (subst (λ b. Beside A B R (put see no_run (cond (see x) p (suc p)) new xs) (put see' no_run (cond b p (suc p)) new' ys)) (agree x y q)
      (put-unlike (cond (see x) p (suc p)) qs))

-- ---- one list

module _ {U : Type 0} (content : U → ElementContent) where
  pub seen-last : (m : ℕ) → m < 18446744073709551616 → (x : TreeElement U) (e : ListElement) → IsElement content x e → is_up_to m e ≡ true
      → seen_in last_stage x ≡ seen m e
  seen-last m l x e q h = seen-alike content last_stage x e q ∙ seen-later m 18446744073709551615 (omega arith) e h

  -- with what is pending on each
  abbrev Pairs : ℕ → List (TreeElement U) → List ListElement → Type 0
  Pairs m xs es = Beside (TreeElement U) ListElement (λ x e. IsElement content x e × (is_up_to m e ≡ true)) xs es

  pairs-of : (m : ℕ) {xs : List (TreeElement U)} {es : List ListElement} → AreUpTo m es → AreElements content xs es → Pairs m xs es
  pairs-of m h b = beside-all (is_up_to m) h b

  module _ (m : ℕ) (fits : m < 18446744073709551616) where
    pub same-count : {xs : List (TreeElement U)} {es : List ListElement} → AreUpTo m es → AreElements content xs es
        → len (seen_in last_stage) xs ≡ len (seen m) es
    same-count h b = beside-len (seen_in last_stage) (seen m) (λ x e q. seen-last m fits x e q.0 q.1) (pairs-of m h b)

    -- an insertion at the next stage
    pub local-alike : (p : ℕ) (props : PropertyList) (us : List U) (bs : List ElementContent) → map content us ≡ bs
        → {xs : List (TreeElement U)} {es : List ListElement} → AreUpTo m es
        → AreElements content xs es
        → AreElements content (put (seen_in last_stage) no_run p (new_elements (Local (m + 1)) None props us) xs)
        (put (seen m) no_run p (document_elements 0 (Local (m + 1)) [] None props bs) es)
    local-alike p props us bs same {xs} {es} h b =
        let new : AreElements content (new_elements (Local (m + 1)) None props us) (document_elements 0 (Local (m + 1)) [] None props bs) =
        subst (λ cs. AreElements content (new_elements (Local (m + 1)) None props us) (document_elements 0 (Local (m + 1)) [] None props cs)) same
        (new-alike content 0 (Local (m + 1)) None props us) in
        put-unlike (λ x e q. q.0) (seen_in last_stage) (seen m) (λ x e q. seen-last m fits x e q.0 q.1) new p (pairs-of m h b)

    pub local-place : (p : ℕ) {xs : List (TreeElement U)} {es : List ListElement} → AreUpTo m es → AreElements content xs es
        → put_place (seen_in last_stage) no_run p xs ≡ put_place (seen m) no_run p es
    local-place p h b = put_place-beside (seen_in last_stage) no_run (seen m) no_run (λ x e q. seen-last m fits x e q.0 q.1) (λ x e q. refl) p (pairs-of m h b)

    pub local-step : (p : ℕ) (props : PropertyList) (us : List U) (bs : List ElementContent) → map content us ≡ bs → (list : Sequence)
        → IsWellNumbered m list → {xs : List (TreeElement U)}
        → AreUpTo m list.items → AreElements content xs list.items
        → StepsList (m + 1) (length us) (shifted_place (put_place (seen_in last_stage) no_run p xs) (length us)) list
        (record { items = put (seen m) no_run p (document_elements 0 (Local (m + 1)) [] None props bs) list.items; made = list.made })
    local-step p props us bs same list h {xs} u b = record {
      numbered = after;
      stays = λ a there. there-still (seen m) no_run p new list.items a there;
      moves = λ a there. put-moves (seen m) no_run p new list.items after.once a there
          ∙ ap (λ i. shifted_place i (length new) (name_place list.items a)) (sym (local-place p u b))
          ∙ ap (λ n. shifted_place (put_place (seen_in last_stage) no_run p xs) n (name_place list.items a)) count;
      held = let sum = len-put-add is_pending (seen m) no_run p new list.items in let all = new-local 0 (m + 1) None props bs in
          let size = sym (ap length same) ∙ mapped-length content us in omega arith;
    }
      where
        new : List ListElement
        new = document_elements 0 (Local (m + 1)) [] None props bs

        count : length new ≡ length us
        count = new-length 0 (Local (m + 1)) None props bs ∙ sym (ap length same) ∙ mapped-length content us

        after : IsWellNumbered (m + 1) (record { items = put (seen m) no_run p new list.items; made = list.made })
        after = local-numbered m p (seen m) no_run props bs list h

    -- marks of the next stage
    pub marks-alike : (p q : ℕ) {xs : List (TreeElement U)} {es : List ListElement} → AreUpTo m es → AreElements content xs es
        → AreElements content (change_range (seen_in last_stage) p q (with_stamps (removed_stamps (Local (m + 1)))) xs)
        (change_range (seen m) p q (with_pending_removal (m + 1)) es)
    marks-alike p q h b =
        beside-seen_range (seen_in last_stage) (seen m) (λ x e r. seen-last m fits x e r.0 r.1) (with_stamps (removed_stamps (Local (m + 1)))) (with_pending_removal (m + 1))
        (λ x e r. r.0) (λ x e r s. marked-alike content x e r.0 (m + 1) (up_to-parts m e r.1).dels (unmarked-if-seen m e r.1 s)) 0 p q (pairs-of m h b)

    pub notes-alike : (p q : ℕ) (c : Changes) {xs : List (TreeElement U)} {es : List ListElement} → AreUpTo m es → AreElements content xs es
        → AreElements content (change_range (seen_in last_stage) p q (with_overlay (after_pending_changes (m + 1) c)) xs)
        (change_range (seen m) p q (with_pending_annotation (m + 1) c) es)
    notes-alike p q c h b =
        beside-seen_range (seen_in last_stage) (seen m) (λ x e r. seen-last m fits x e r.0 r.1) (with_overlay (after_pending_changes (m + 1) c)) (with_pending_annotation (m + 1) c)
        (λ x e r. r.0) (λ x e r s. noted-alike content x e r.0 (m + 1) c) 0 p q (pairs-of m h b)

-- ---- how many are seen afterwards

len-all : {A : Type 0} (s t u : A → Bool) → ((x : A) → u x ≡ true → s x ≡ t x) → (xs : List A) → list_all u xs ≡ true → len s xs ≡ len t xs
len-all s t u f [] h = refl
len-all s t u f (x ∷ xs) h =
    let p = both (u x) (list_all u xs) h in ap (λ b. one_more_if b (len s xs)) (f x p.0) ∙ ap (one_more_if (t x)) (len-all s t u f xs p.1)

pub same-next : (m j : ℕ) → m ≤ j → (es : List ListElement) → AreUpTo m es → len (seen j) es ≡ len (seen m) es
same-next m j l es h = len-all (seen j) (seen m) (is_up_to m) (λ e g. seen-later m j l e g) es h

pub seen-new : (n k : ℕ) (props : PropertyList) (bs : List ElementContent) → len (seen k) (document_elements n (Local k) [] None props bs) ≡ length bs
seen-new n k props [] = refl
seen-new n k props (b ∷ bs) = rw (self-stage k) (ap suc (seen-new (n + 1) k props bs))

-- how many of n numbers from i on are from p up to before q
abbrev pub inside : ℕ → ℕ → ℕ → ℕ → ℕ
inside i p q zero = 0
inside i p q (suc n) = one_more_if (within p q i) (inside (suc i) p q n)

inside-step : (i p q r : ℕ) → r ≡ q - max p (suc i) → one_more_if (within p q i) r ≡ q - max p i
inside-step i p q r h = step (nat_le p i) (nat_lt i q) refl refl
  where
    step : (b c : Bool) → nat_le p i ≡ b → nat_lt i q ≡ c → one_more_if (b && c) r ≡ q - max p i
    step true true e g = let low : p ≤ i = grind (arith, nat_tests) in let high : i < q = grind (arith, nat_tests) in omega arith
    step true false e g = let low : p ≤ i = grind (arith, nat_tests) in let high : q ≤ i = grind (arith, nat_tests) in omega arith
    step false c e g = let low : i < p = grind (arith, nat_tests) in omega arith

pub inside-is : (i p q n : ℕ) → q ≤ i + n → inside i p q n ≡ q - max p i
inside-is i p q zero l = omega arith
inside-is i p q (suc n) l = inside-step i p q (inside (suc i) p q n) (inside-is (suc i) p q n (omega arith))

module _ {A : Type 0} (u see later : A → Bool) (f : A → A) (p q : ℕ) (same : (x : A) → u x ≡ true → later x ≡ see x)
    (gone : (x : A) → u x ≡ true → later (f x) ≡ false) where
  removed-step : (x : A) (xs : List A) (i n r : ℕ) → u x ≡ true → (b : Bool) → see x ≡ b
      → (b ≡ true → n + inside (suc i) p q r ≡ r) → (b ≡ false → n + inside i p q r ≡ r)
      → one_more_if (later (cond (b && within p q i) (f x) x)) n + inside i p q (one_more_if b r) ≡ one_more_if b r
  removed-step x xs i n r t true e seen_one other = step (within p q i) refl
    where
      step : (d : Bool) → within p q i ≡ d → one_more_if (later (cond d (f x) x)) n + one_more_if (within p q i) (inside (suc i) p q r) ≡ suc r
      step true g = let more = seen_one refl in rw (g, gone x t) (omega arith)
      step false g = let more = seen_one refl in rw (g, same x t, e) (omega arith)
  removed-step x xs i n r t false e seen_one other = let more = other refl in rw (same x t, e) more

  pub removed-count : (i : ℕ) (xs : List A) → list_all u xs ≡ true → len later (change_range_from i see p q f xs) + inside i p q (len see xs) ≡ len see xs
  removed-count i [] h = refl
  removed-count i (x ∷ xs) h =
      let a = both (u x) (list_all u xs) h in
      removed-step x xs i (len later (change_range_from (one_more_if (see x) i) see p q f xs)) (len see xs) a.0 (see x) refl
      (λ e. subst (λ b. len later (change_range_from (one_more_if b i) see p q f xs) + inside (suc i) p q (len see xs) ≡ len see xs) (sym e) (removed-count (suc i) xs a.1))
      (λ e. subst (λ b. len later (change_range_from (one_more_if b i) see p q f xs) + inside i p q (len see xs) ≡ len see xs) (sym e) (removed-count i xs a.1))

pub unseen-marked : (m : ℕ) (e : ListElement) → seen (m + 1) (with_pending_removal (m + 1) e) ≡ false
unseen-marked m e = rw (unseen-removal (m + 1) (m + 1) e.dels (self-stage (m + 1))) (and-false (has_occurred_at_stage (m + 1) e.ins))
  where
    and-false : (b : Bool) → b && not true ≡ false
    and-false true = refl
    and-false false = refl
