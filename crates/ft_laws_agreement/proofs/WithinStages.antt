-- A list all of whose numbers are known, and all of whose pending stages are among some.
use Rattle.std.proofs.Common.{◌≡◌, ℕ, zero, suc, ◌+◌, ◌≤◌, Bool, true, false, cond, not, ◌&&◌, ◌||◌, nat_le, nat_eq, List, [], ◌∷◌, ◌++◌, Option, Some, None, map, filter, refl, sym, ◌∙◌, ap, subst, arith, append-nil}
use Rattle.std.specs.List.{list_all, list_any}
use Rattle.std.proofs.lemmas.List.Folds.{list_any-append}
use Rattle.std.proofs.lemmas.Bool.Decides.{nat_tests}
use Rattle.ft_base.specs.declared.stamps.Stamp.{Stamp}
use Rattle.ft_base.specs.declared.stamps.Stamp.TheVariants.{Acked, Local}
use Rattle.ft_base.proofs.Booleans.{all_four, both}
use Rattle.ft_base.specs.Scan.{change_range, no_run, put, put_past}
use Rattle.ft_base.specs.Visibility.{has_occurred}
use Rattle.ft_props.specs.declared.properties.Changes.{Changes}
use Rattle.ft_props.specs.Properties.{PropertyList}
use Rattle.ft_props.specs.Element.{ElementContent, ListElement, is_pending, new_elements, seen, seen_by, with_annotation, with_pending_annotation, with_pending_removal, with_removal}
use Rattle.ft_props.specs.Steps.{acked_element, acked_removal, acked_stamp, remaining_removal}
use Rattle.ft_props.proofs.AcknowledgedInsertion.{from_mark, from_stamp, is_from}
use Rattle.ft_props.proofs.PlacedInsertion.{is_current, mark_upto, stamp_known}
use Rattle.ft_laws_agreement.proofs.StageEdits.{StageEdit, PutIn, TakenOut, Annotated, after_own, after_sequenced, change_ranges}
use Rattle.ft_laws_agreement.proofs.RangesOfLists.{all-range}
use Rattle.ft_laws_agreement.proofs.Booleans.{or-true}
use Rattle.ft_laws_agreement.proofs.NumberTests.{own-least, same_number}
use Rattle.ft_laws_agreement.proofs.AnyAndAll.{all-append}

-- the stage is among these
abbrev pub is_among : List ℕ → ℕ → Bool
is_among ks j = list_any (nat_eq j) ks

abbrev pub stamp_within : ℕ → List ℕ → Stamp → Bool
stamp_within n ks (Acked s c) = nat_le s n
stamp_within n ks (Local j) = is_among ks j

-- the stamp is sequenced, with a number up to n
abbrev pub is_numbered : ℕ → Stamp → Bool
is_numbered n (Acked s c) = nat_le s n
is_numbered n (Local j) = false

abbrev pub mark_within : List ℕ → Option ℕ → Bool
mark_within ks None = true
mark_within ks (Some j) = is_among ks j

-- all its numbers are up to n, and what is pending on it is of these stages
abbrev pub is_within : ℕ → List ℕ → ListElement → Bool
is_within n ks e = stamp_within n ks e.ins && list_all (is_numbered n) e.dels && mark_within ks e.removal_stage && list_all (λ p. is_among ks p.0) e.pending

parts : (n : ℕ) (ks : List ℕ) (e : ListElement) → is_within n ks e ≡ true
    → (stamp_within n ks e.ins ≡ true) × (list_all (is_numbered n) e.dels ≡ true) × (mark_within ks e.removal_stage ≡ true) × (list_all (λ p. is_among ks p.0) e.pending ≡ true)
parts n ks e h = all_four (stamp_within n ks e.ins) (list_all (is_numbered n) e.dels) (mark_within ks e.removal_stage) (list_all (λ p. is_among ks p.0) e.pending) h

all-weaker : {A : Type 0} (is is' : A → Bool) → ((x : A) → is x ≡ true → is' x ≡ true) → (xs : List A) → list_all is xs ≡ true → list_all is' xs ≡ true
all-weaker is is' w [] h = refl
all-weaker is is' w (x ∷ xs) h = grind (arith, all-weaker is is' w xs, w x)

-- ---- no stage below the least, none above the last

among-step : (test : ℕ → Bool) (k j : ℕ) (there : Bool) → test k ≡ true → (there ≡ true → test j ≡ true) → (b : Bool) → nat_eq j k ≡ b → b || there ≡ true → test j ≡ true
among-step test k j there h ih true e g = subst (λ i. test i ≡ true) (sym (same_number j k e)) h
among-step test k j there h ih false e g = ih g

among-all : (test : ℕ → Bool) (ks : List ℕ) (j : ℕ) → list_all test ks ≡ true → is_among ks j ≡ true → test j ≡ true
among-all test [] j h g = (cc)
among-all test (k ∷ ks) j h g =
    let p = both (test k) (list_all test ks) h in
    among-step test k j (is_among ks j) p.0 (among-all test ks j p.1) (nat_eq j k) refl g

from-stamp : (n k : ℕ) (ks : List ℕ) (t : Stamp) → list_all (nat_le k) ks ≡ true → stamp_within n ks t ≡ true → from_stamp k t ≡ true
from-stamp n k ks (Acked s c) l h = refl
from-stamp n k ks (Local j) l h = among-all (nat_le k) ks j l h

from-mark : (k : ℕ) (ks : List ℕ) (m : Option ℕ) → list_all (nat_le k) ks ≡ true → mark_within ks m ≡ true → from_mark k m ≡ true
from-mark k ks None l h = refl
from-mark k ks (Some j) l h = among-all (nat_le k) ks j l h

from-element : (n k : ℕ) (ks : List ℕ) → list_all (nat_le k) ks ≡ true → (e : ListElement) → is_within n ks e ≡ true → is_from k e ≡ true
from-element n k ks l e h =
    let p = parts n ks e h in
    rw (
      from-stamp n k ks e.ins l p.0,
      from-mark k ks e.removal_stage l p.2,
      all-weaker (λ q. is_among ks q.0) (λ q. nat_le k q.0)
          (λ q g. among-all (nat_le k) ks q.0 l g) e.pending p.3,
    ) refl

-- nothing below the least stage is pending
pub within-from : (n k : ℕ) (ks : List ℕ) (xs : List ListElement) → list_all (nat_le k) ks ≡ true → list_all (is_within n ks) xs ≡ true → list_all (is_from k) xs ≡ true
within-from n k ks xs l h = all-weaker (is_within n ks) (is_from k) (from-element n k ks l) xs h

known-stamp : (n c k : ℕ) (ks : List ℕ) (t : Stamp) → list_all (λ j. nat_le j k) ks ≡ true → stamp_within n ks t ≡ true → stamp_known n c k t ≡ true
known-stamp n c k ks (Acked s d) l h = rw h refl
known-stamp n c k ks (Local j) l h = among-all (λ j. nat_le j k) ks j l h

known-removal : (n c : ℕ) (t : Stamp) → is_numbered n t ≡ true → has_occurred n c t ≡ true
known-removal n c (Acked s d) h = rw h refl
known-removal n c (Local j) h = (cc)

known-mark : (k : ℕ) (ks : List ℕ) (m : Option ℕ) → list_all (λ j. nat_le j k) ks ≡ true → mark_within ks m ≡ true → mark_upto k m ≡ true
known-mark k ks None l h = refl
known-mark k ks (Some j) l h = among-all (λ j. nat_le j k) ks j l h

current-element : (n c k : ℕ) (ks : List ℕ) → list_all (λ j. nat_le j k) ks ≡ true → (e : ListElement) → is_within n ks e ≡ true → is_current n c k e ≡ true
current-element n c k ks l e h =
    let p = parts n ks e h in
    rw (
      known-stamp n c k ks e.ins l p.0,
      all-weaker (is_numbered n) (has_occurred n c) (known-removal n c) e.dels p.1,
      known-mark k ks e.removal_stage l p.2,
      all-weaker (λ q. is_among ks q.0) (λ q. nat_le q.0 k) (λ q g. among-all (λ j. nat_le j k) ks q.0 l g) e.pending p.3,
    ) refl

-- a message of reference number n will know all
pub within-current : (n c k : ℕ) (ks : List ℕ) (xs : List ListElement) → list_all (λ j. nat_le j k) ks ≡ true → list_all (is_within n ks) xs ≡ true
    → list_all (is_current n c k) xs ≡ true
within-current n c k ks xs l h = all-weaker (is_within n ks) (is_current n c k) (current-element n c k ks l) xs h

-- ---- more numbers and more stages

more-number : (m n : ℕ) → m ≤ n → (s : ℕ) → nat_le s m ≡ true → nat_le s n ≡ true
more-number m n l s h = grind (arith, nat_tests)

more-among : (ks js : List ℕ) (j : ℕ) → is_among ks j ≡ true → is_among (ks ++ js) j ≡ true
more-among ks js j h = list_any-append (nat_eq j) ks js ∙ ap (λ b. b || list_any (nat_eq j) js) h

more-stamp : (m n : ℕ) (ks js : List ℕ) (t : Stamp) → m ≤ n → stamp_within m ks t ≡ true → stamp_within n (ks ++ js) t ≡ true
more-stamp m n ks js (Acked s c) l h = more-number m n l s h
more-stamp m n ks js (Local j) l h = more-among ks js j h

more-removal : (m n : ℕ) → m ≤ n → (t : Stamp) → is_numbered m t ≡ true → is_numbered n t ≡ true
more-removal m n l (Acked s c) h = more-number m n l s h
more-removal m n l (Local j) h = h

more-mark : (ks js : List ℕ) (m : Option ℕ) → mark_within ks m ≡ true → mark_within (ks ++ js) m ≡ true
more-mark ks js None h = refl
more-mark ks js (Some j) h = more-among ks js j h

more-element : (m n : ℕ) (ks js : List ℕ) → m ≤ n → (e : ListElement) → is_within m ks e ≡ true → is_within n (ks ++ js) e ≡ true
more-element m n ks js l e h =
    let p = parts m ks e h in
    rw (
      more-stamp m n ks js e.ins l p.0,
      all-weaker (is_numbered m) (is_numbered n) (more-removal m n l) e.dels p.1,
      more-mark ks js e.removal_stage p.2,
      all-weaker (λ q. is_among ks q.0) (λ q. is_among (ks ++ js) q.0) (λ q g. more-among ks js q.0 g) e.pending p.3,
    ) refl

pub within-more : (m n : ℕ) (ks js : List ℕ) (xs : List ListElement) → m ≤ n → list_all (is_within m ks) xs ≡ true → list_all (is_within n (ks ++ js)) xs ≡ true
within-more m n ks js xs l h = all-weaker (is_within m ks) (is_within n (ks ++ js)) (more-element m n ks js l) xs h

-- ---- scans

all-past : {A : Type 0} (is past : A → Bool) (new xs : List A) → list_all is new ≡ true → list_all is xs ≡ true → list_all is (put_past past new xs) ≡ true
all-past is past new [] h g = h
all-past is past new (x ∷ xs) h g = grind (arith, all-past is past new xs, all-append is new (x ∷ xs))

pub all-put : {A : Type 0} (is place past : A → Bool) (q : ℕ) (new xs : List A) → list_all is new ≡ true → list_all is xs ≡ true → list_all is (put place past q new xs) ≡ true
all-put is place past zero new xs h g = all-past is past new xs h g
all-put is place past (suc q) new [] h g = h
all-put is place past (suc q) new (x ∷ xs) h g = grind (arith, all-put is place past q new xs, all-put is place past (suc q) new xs)

pub all-ranges : {A : Type 0} (is seen : A → Bool) (g : A → A) → ((x : A) → is x ≡ true → is (g x) ≡ true) → (ranges : List (ℕ × ℕ)) (xs : List A)
    → list_all is xs ≡ true → list_all is (change_ranges seen g ranges xs) ≡ true
all-ranges is seen g keep [] xs h = h
all-ranges is seen g keep ((p, q) ∷ ranges) xs h = all-ranges is seen g keep ranges (change_range seen p q g xs) (all-range is seen g keep p q 0 xs h)

pub all-map : {A : Type 0} (is is' : A → Bool) (f : A → A) → ((x : A) → is x ≡ true → is' (f x) ≡ true) → (xs : List A) → list_all is xs ≡ true → list_all is' (map f xs) ≡ true
all-map is is' f keep [] h = refl
all-map is is' f keep (x ∷ xs) h = grind (arith, all-map is is' f keep xs, keep x)

-- ---- the steps

append-none : (ks : List ℕ) → ks ++ [] ≡ ks
append-none ks = append-nil ks

new-within : (s d i : ℕ) (by : Option Stamp) (props : PropertyList) (items : List ElementContent) (ks : List ℕ)
    → list_all (is_within s ks) (new_elements i (Acked s d) [] by props items) ≡ true
new-within s d i by props [] ks = refl
new-within s d i by props (b ∷ bs) ks = rw (own-least s, new-within s d (i + 1) by props bs ks) refl

removal-within : (s d : ℕ) (ks : List ℕ) (e : ListElement) → is_within s ks e ≡ true → is_within s ks (with_removal s d e) ≡ true
removal-within s d ks e h =
    let p = parts s ks e h in
    rw (p.0, all-append (is_numbered s) e.dels (Acked s d ∷ []) p.1 (rw (own-least s) refl), p.2, p.3) refl

-- a sequenced edit
pub within-sequenced : (n s d r m : ℕ) (by : Option Stamp) (edit : StageEdit) (ks : List ℕ) (xs : List ListElement) → n ≤ s → list_all (is_within n ks) xs ≡ true
    → list_all (is_within s ks) (after_sequenced s d r m by edit xs) ≡ true
within-sequenced n s d r m by edit ks xs l h = steps edit (subst (λ js. list_all (is_within s js) xs ≡ true) (append-nil ks) (within-more n s ks [] xs l h))
  where
    steps : (edit : StageEdit) → list_all (is_within s ks) xs ≡ true → list_all (is_within s ks) (after_sequenced s d r m by edit xs) ≡ true
    steps (PutIn p props items) g = all-put (is_within s ks) (seen_by r d) is_pending p (new_elements m (Acked s d) [] by props items) xs (new-within s d m by props items ks) g
    steps (TakenOut ranges) g = all-ranges (is_within s ks) (seen_by r d) (with_removal s d) (removal-within s d ks) ranges xs g
    steps (Annotated ranges changes) g = all-ranges (is_within s ks) (seen_by r d) (with_annotation changes) (λ e f. f) ranges xs g

last-among : (ks : List ℕ) (k : ℕ) → is_among (ks ++ (k ∷ [])) k ≡ true
last-among ks k = list_any-append (nat_eq k) ks (k ∷ []) ∙ rw (same_itself k) (or-true (list_any (nat_eq k) ks))
  where
    same_itself : (n : ℕ) → nat_eq n n ≡ true
    same_itself n = grind (arith, nat_tests)

own-new-within : (n k i : ℕ) (ks : List ℕ) (props : PropertyList) (items : List ElementContent)
    → list_all (is_within n (ks ++ (k ∷ []))) (new_elements i (Local k) [] None props items) ≡ true
own-new-within n k i ks props [] = refl
own-new-within n k i ks props (b ∷ bs) = rw (last-among ks k, own-new-within n k (i + 1) ks props bs) refl

own-removal-within : (n k : ℕ) (ks : List ℕ) (e : ListElement) → is_within n (ks ++ (k ∷ [])) e ≡ true → is_within n (ks ++ (k ∷ [])) (with_pending_removal k e) ≡ true
own-removal-within n k ks e h =
    let p = parts n (ks ++ (k ∷ [])) e h in
    rw (p.0, p.1, last-among ks k, p.3) refl

own-annotation-within : (n k : ℕ) (ks : List ℕ) (changes : Changes) (e : ListElement) → is_within n (ks ++ (k ∷ [])) e ≡ true
    → is_within n (ks ++ (k ∷ [])) (with_pending_annotation k changes e) ≡ true
own-annotation-within n k ks changes e h =
    let p = parts n (ks ++ (k ∷ [])) e h in
    rw (p.0, p.1, p.2, all-append (λ q. is_among (ks ++ (k ∷ [])) q.0) e.pending ((k, changes) ∷ []) p.3 (rw (last-among ks k) refl)) refl

-- an edit of the client's own
pub within-own : (n k : ℕ) (edit : StageEdit) (ks : List ℕ) (xs : List ListElement) → list_all (is_within n ks) xs ≡ true
    → list_all (is_within n (ks ++ (suc k ∷ []))) (after_own k edit xs) ≡ true
within-own n k edit ks xs h = steps edit (within-more n n ks (suc k ∷ []) xs (omega arith) h)
  where
    steps : (edit : StageEdit) → list_all (is_within n (ks ++ (suc k ∷ []))) xs ≡ true → list_all (is_within n (ks ++ (suc k ∷ []))) (after_own k edit xs) ≡ true
    steps (PutIn p props items) g = all-put (is_within n (ks ++ (suc k ∷ []))) (seen k) no_run p (new_elements 0 (Local (suc k)) [] None props items) xs
        (own-new-within n (suc k) 0 ks props items) g
    steps (TakenOut ranges) g = all-ranges (is_within n (ks ++ (suc k ∷ []))) (seen k) (with_pending_removal (suc k)) (own-removal-within n (suc k) ks) ranges xs g
    steps (Annotated ranges changes) g = all-ranges (is_within n (ks ++ (suc k ∷ []))) (seen k) (with_pending_annotation (suc k) changes)
        (own-annotation-within n (suc k) ks changes) ranges xs g

acked-stamp-within : (n s d k : ℕ) (ks : List ℕ) (t : Stamp) → n ≤ s → stamp_within n (k ∷ ks) t ≡ true → stamp_within s ks (acked_stamp k s d t) ≡ true
acked-stamp-within n s d k ks (Acked i c) l h = more-number n s l i h
acked-stamp-within n s d k ks (Local j) l h = either (nat_eq j k) refl h
  where
    either : (b : Bool) → nat_eq j k ≡ b → b || is_among ks j ≡ true → stamp_within s ks (cond b (Acked s d) (Local j)) ≡ true
    either true e g = own-least s
    either false e g = g

acked-removal-within : (s d k : ℕ) (m : Option ℕ) → list_all (is_numbered s) (acked_removal k s d m) ≡ true
acked-removal-within s d k None = refl
acked-removal-within s d k (Some j) = either (nat_eq j k)
  where
    either : (b : Bool) → list_all (is_numbered s) (cond b (Acked s d ∷ []) []) ≡ true
    either true = rw (own-least s) refl
    either false = refl

remaining-within : (k : ℕ) (ks : List ℕ) (m : Option ℕ) → mark_within (k ∷ ks) m ≡ true → mark_within ks (remaining_removal k m) ≡ true
remaining-within k ks None h = refl
remaining-within k ks (Some j) h = either (nat_eq j k) h
  where
    either : (b : Bool) → b || is_among ks j ≡ true → mark_within ks (cond b None (Some j)) ≡ true
    either true g = refl
    either false g = g

filtered-within : (k : ℕ) (ks : List ℕ) (pending : List (ℕ × Changes)) → list_all (λ p. is_among (k ∷ ks) p.0) pending ≡ true
    → list_all (λ p. is_among ks p.0) (filter (λ p. not (nat_eq p.0 k)) pending) ≡ true
filtered-within k ks [] h = refl
filtered-within k ks (p ∷ pending) h = grind (arith, filtered-within k ks pending)

acked-element-within : (n s d k m : ℕ) (ks : List ℕ) → n ≤ s → (e : ListElement) → is_within n (k ∷ ks) e ≡ true → is_within s ks (acked_element k m s d e) ≡ true
acked-element-within n s d k m ks l e h =
    let p = parts n (k ∷ ks) e h in
    rw (
      acked-stamp-within n s d k ks e.ins l p.0,
      all-append (is_numbered s) e.dels (acked_removal k s d e.removal_stage) (all-weaker (is_numbered n) (is_numbered s) (more-removal n s l) e.dels p.1)
          (acked-removal-within s d k e.removal_stage),
      remaining-within k ks e.removal_stage p.2,
      filtered-within k ks e.pending p.3,
    ) refl

-- an acknowledgement
pub within-acked : (n s d k m : ℕ) (ks : List ℕ) (xs : List ListElement) → n ≤ s → list_all (is_within n (k ∷ ks)) xs ≡ true
    → list_all (is_within s ks) (map (acked_element k m s d) xs) ≡ true
within-acked n s d k m ks xs l h = all-map (is_within n (k ∷ ks)) (is_within s ks) (acked_element k m s d) (acked-element-within n s d k m ks l) xs h
