-- The acknowledgement of a pending insertion is the insertion's effect on the list of the messages alone.
use Rattle.std.proofs.Common.{◌≡◌, ℕ, zero, suc, ◌+◌, Bool, true, false, cond, not, ◌&&◌, ◌||◌, List, [], ◌∷◌, ◌++◌, Option, Some, None, refl, sym, ◌∙◌, ap, arith, append-nil, nat_le, nat_lt, nat_eq, map, filter, add-zero}
use Rattle.std.specs.List.{list_any, list_all}
use Rattle.std.proofs.lemmas.List.{map-append}
use Rattle.std.proofs.lemmas.Bool.Decides.{nat_tests}
use Rattle.ft_base.specs.declared.stamps.Stamp.{Stamp}
use Rattle.ft_base.specs.declared.stamps.Stamp.TheVariants.{Acked, Local}
use Rattle.ft_props.specs.declared.properties.Changes.{Changes}
use Rattle.ft_base.specs.Scan.{retain_map, no_run, put_past, put}
use Rattle.ft_base.proofs.Booleans.{all_three, both}
use Rattle.ft_base.proofs.ScanLaws.{put_past-no_run}
use Rattle.ft_base.specs.Visibility.{has_occurred, has_occurred_at_stage, is_acked, is_of_stage}
use Rattle.ft_props.specs.Properties.{PropertyList, change}
use Rattle.ft_props.specs.Element.{ListElement, ElementContent, Character, MarkerOf, GridUnit, seen_by, is_sequenced, is_pending, without_pending, sequenced_elements, new_elements}
use Rattle.ft_props.specs.Steps.{acked_element, acked_stamp, acked_props, acked_removal, remaining_removal, author}

-- a mark, or the changes, of a stage at most k
abbrev pub removal_up_to : ℕ → Option ℕ → Option ℕ
removal_up_to k None = None
removal_up_to k (Some j) = cond (nat_le j k) (Some j) None

abbrev pub element_up_to : ℕ → ListElement → ListElement
element_up_to k e = record e { removal_stage = removal_up_to k e.removal_stage; pending = filter (λ p. nat_le p.0 k) e.pending }

-- the list up to stage k
abbrev pub list_up_to : ℕ → List ListElement → List ListElement
list_up_to k xs = retain_map (λ e. has_occurred_at_stage k e.ins) (element_up_to k) xs

-- nothing of a stage below k is pending on it
abbrev pub from_stamp : ℕ → Stamp → Bool
from_stamp k (Acked s c) = true
from_stamp k (Local j) = nat_le k j

abbrev pub from_mark : ℕ → Option ℕ → Bool
from_mark k None = true
from_mark k (Some j) = nat_le k j

abbrev pub is_from : ℕ → ListElement → Bool
is_from k e = from_stamp k e.ins && from_mark k e.removal_stage && list_all (λ p. nat_le k p.0) e.pending

abbrev pub is_text : ElementContent → Bool
is_text GridUnit = false
is_text _ = true

-- how the message of stage k will see an element: by its perspective, and by the lower stages
abbrev pub below_stamp : ℕ → Stamp → Bool
below_stamp k (Acked s c) = false
below_stamp k (Local j) = nat_lt j k

abbrev pub below_mark : ℕ → Option ℕ → Bool
below_mark k None = false
below_mark k (Some j) = nat_lt j k

abbrev pub expects : ℕ → ℕ → ℕ → ListElement → Bool
expects r c k e = (has_occurred r c e.ins || below_stamp k e.ins) && not (list_any (has_occurred r c) e.dels || below_mark k e.removal_stage)

pub map-choice : {A B : Type 0} (f : A → B) (b : Bool) (xs ys : List A) → cond b (map f xs) (map f ys) ≡ map f (cond b xs ys)
map-choice f true xs ys = refl
map-choice f false xs ys = refl

-- at or above k: at most k is k itself
pub at_most : (j k : ℕ) → nat_le k j ≡ true → nat_eq j k ≡ nat_le j k
at_most j k h = grind (arith, nat_tests)

pub acked_if : (b : Bool) (s c j : ℕ) → is_acked (cond b (Acked s c) (Local j)) ≡ b
acked_if true s c j = refl
acked_if false s c j = refl

pub above_or : (j k : ℕ) → nat_le j k ≡ false → nat_eq j k ≡ false
above_or j k h = grind (arith, nat_tests)

module _ (k n s c : ℕ) where
  pub same_test : (j : ℕ) → nat_le k j ≡ true → is_acked (acked_stamp k s c (Local j)) ≡ nat_le j k
  same_test j h = acked_if (nat_eq j k) s c j ∙ at_most j k h

  pub reached : (t : Stamp) → from_stamp k t ≡ true → is_acked (acked_stamp k s c t) ≡ has_occurred_at_stage k t
  reached (Acked r d) h = refl
  reached (Local j) h = same_test j h

  pub element_up_to-removal : (m : Option ℕ) → acked_removal k s c (removal_up_to k m) ≡ acked_removal k s c m
  element_up_to-removal None = refl
  element_up_to-removal (Some j) = grind (arith, above_or j k)

  pub element_up_to-left : (m : Option ℕ) → from_mark k m ≡ true → remaining_removal k (removal_up_to k m) ≡ None
  element_up_to-left None h = refl
  element_up_to-left (Some j) h = grind (arith, at_most j k h)

  pub element_up_to-props : (props : PropertyList) (pending : List (ℕ × Changes))
      → acked_props k props (filter (λ p. nat_le p.0 k) pending) ≡ acked_props k props pending
  element_up_to-props props [] = refl
  element_up_to-props props ((j, ch) ∷ pending) = grind (arith, element_up_to-props props pending, element_up_to-props (change props ch) pending, above_or j k)

  pub element_up_to-pending : (pending : List (ℕ × Changes)) → list_all (λ p. nat_le k p.0) pending ≡ true
      → filter (λ p. not (nat_eq p.0 k)) (filter (λ p. nat_le p.0 k) pending) ≡ []
  element_up_to-pending [] h = refl
  element_up_to-pending ((j, ch) ∷ pending) h = grind (arith, element_up_to-pending pending, at_most j k)

  pub acked-element_up_to : (e : ListElement) → is_from k e ≡ true → without_pending (acked_element k n s c e) ≡ acked_element k n s c (element_up_to k e)
  acked-element_up_to e h =
      let left : remaining_removal k (removal_up_to k e.removal_stage) ≡ None = element_up_to-left e.removal_stage (all_three (from_stamp k e.ins) (from_mark k e.removal_stage) (list_all (λ p. nat_le k p.0) e.pending) h).1 in
      let none : filter (λ p. not (nat_eq p.0 k)) (filter (λ p. nat_le p.0 k) e.pending) ≡ [] = element_up_to-pending e.pending (all_three (from_stamp k e.ins) (from_mark k e.removal_stage) (list_all (λ p. nat_le k p.0) e.pending) h).2 in
      rw (element_up_to-removal e.removal_stage, element_up_to-props e.props e.pending, left, none) refl

  -- after the acknowledgement the sequenced list is the list up to the stage, acknowledged
  pub sequenced_elements-acked : (xs : List ListElement) → list_all (is_from k) xs ≡ true
      → sequenced_elements (map (acked_element k n s c) xs) ≡ map (acked_element k n s c) (list_up_to k xs)
  sequenced_elements-acked [] h = refl
  sequenced_elements-acked (e ∷ xs) h =
      let here = both (is_from k e) (list_all (is_from k) xs) h in
      let ins : is_acked (acked_stamp k s c e.ins) ≡ has_occurred_at_stage k e.ins =
      reached e.ins (all_three (from_stamp k e.ins) (from_mark k e.removal_stage) (list_all (λ p. nat_le k p.0) e.pending)
      here.0).0 in
      rw (ins, acked-element_up_to e here.0, sequenced_elements-acked xs here.1)
      (map-choice (acked_element k n s c) (has_occurred_at_stage k e.ins) (element_up_to k e ∷ list_up_to k xs) (list_up_to k xs))

pub none_past : {A : Type 0} (keep past : A → Bool) (g : A → A) → ((x : A) → keep x ≡ true → past (g x) ≡ false) → (new xs : List A)
    → put_past past new (retain_map keep g xs) ≡ new ++ retain_map keep g xs
none_past keep past g q new [] = sym (append-nil new)
none_past keep past g q new (x ∷ xs) = grind (arith, none_past keep past g q new xs, q x)

pub map-fixed : {A : Type 0} (keep : A → Bool) (g f : A → A) → ((x : A) → keep x ≡ true → f (g x) ≡ g x) → (xs : List A)
    → map f (retain_map keep g xs) ≡ retain_map keep g xs
map-fixed keep g f h [] = refl
map-fixed keep g f h (x ∷ xs) = grind (arith, map-fixed keep g f h xs, h x)

-- f of an insertion into a list whose elements f leaves alone
pub map-put : {A : Type 0} (keep seen : A → Bool) (g f : A → A) → ((x : A) → keep x ≡ true → f (g x) ≡ g x) → (p : ℕ) (new xs : List A)
    → map f (put seen no_run p new (retain_map keep g xs)) ≡ put seen no_run p (map f new) (retain_map keep g xs)
map-put keep seen g f h zero new xs =
    ap (map f) (put_past-no_run new (retain_map keep g xs)) ∙ map-append f new (retain_map keep g xs)
    ∙ ap (λ ys. map f new ++ ys) (map-fixed keep g f h xs) ∙ sym (put_past-no_run (map f new) (retain_map keep g xs))
map-put keep seen g f h (suc p) new [] = refl
map-put keep seen g f h (suc p) new (x ∷ xs) = grind (arith, map-put keep seen g f h p new xs, map-put keep seen g f h (suc p) new xs, h x)

-- both tests that agree on the elements of a list, where none is gone past
pub put-agree : {A : Type 0} (keep seen seen' past : A → Bool) (g : A → A) → ((x : A) → keep x ≡ true → seen (g x) ≡ seen' (g x))
    → ((x : A) → keep x ≡ true → past (g x) ≡ false)
    → (p : ℕ) (new xs : List A) → put seen no_run p new (retain_map keep g xs) ≡ put seen' past p new (retain_map keep g xs)
put-agree keep seen seen' past g h q zero new xs = put_past-no_run new (retain_map keep g xs) ∙ sym (none_past keep past g q new xs)
put-agree keep seen seen' past g h q (suc p) new [] = refl
put-agree keep seen seen' past g h q (suc p) new (x ∷ xs) = grind (arith, put-agree keep seen seen' past g h q p new xs, put-agree keep seen seen' past g h q (suc p) new xs, h x, q x)

pub same_nat : (k : ℕ) → nat_eq k k ≡ true
same_nat k = grind (arith, nat_tests)

pub author-text : (s c : ℕ) (i : ElementContent) → is_text i ≡ true → author s c i ≡ Some (Acked s c)
author-text s c (Character x) h = refl
author-text s c (MarkerOf x) h = refl
author-text s c GridUnit h = (cc)

pub not_local : (k : ℕ) (t : Stamp) → is_acked t ≡ true → is_of_stage k t ≡ false
not_local k (Acked s c) h = refl
not_local k (Local j) h = (cc)

pub not_below : (k : ℕ) (t : Stamp) → is_acked t ≡ true → below_stamp k t ≡ false
not_below k (Acked s c) h = refl
not_below k (Local j) h = (cc)

pub or_false : (b : Bool) → b || false ≡ b
or_false true = refl
or_false false = refl

-- the new elements of a message are those of the stage with their stamps, numbers and author
pub new-acked : (k n s c i : ℕ) (props : PropertyList) (items : List ElementContent) → list_all is_text items ≡ true
    → map (acked_element k n s c) (new_elements i (Local k) [] None props items) ≡ new_elements (n + i) (Acked s c) [] (Some (Acked s c)) props items
new-acked k n s c i props [] h = refl
new-acked k n s c i props (b ∷ bs) h =
    let t = both (is_text b) (list_all is_text bs) h in
    let stage : nat_eq k k ≡ true = same_nat k in
    let next : n + (i + 1) ≡ n + i + 1 = omega arith in
    rw (stage, author-text s c b t.0, new-acked k n s c (i + 1) props bs t.1, next) refl

-- an acknowledgement leaves sequenced elements alone
pub acked-fixed : (k n s c : ℕ) (e : ListElement) → is_sequenced e ≡ true → acked_element k n s c (without_pending e) ≡ without_pending e
acked-fixed k n s c e h = rw (not_local k e.ins h, append-nil e.dels) refl

-- a sequenced element is expected where it is seen
pub expects-seen : (r c k : ℕ) (e : ListElement) → is_sequenced e ≡ true → expects r c k (without_pending e) ≡ seen_by r c (without_pending e)
expects-seen r c k e h = rw (not_below k e.ins h, or_false (has_occurred r c e.ins), or_false (list_any (has_occurred r c) e.dels), append-nil e.dels) refl

-- the acknowledgement of an insertion at stage k under number s of connection c
pub ack-insert : (k n s c r p : ℕ) (props : PropertyList) (items : List ElementContent) (xs : List ListElement)
    → list_all is_text items ≡ true → list_all (is_from k) xs ≡ true
    → list_up_to k xs ≡ put (expects r c k) no_run p (new_elements 0 (Local k) [] None props items) (sequenced_elements xs)
    → sequenced_elements (map (acked_element k n s c) xs) ≡ put (seen_by r c) is_pending p (new_elements n (Acked s c) [] (Some (Acked s c)) props items) (sequenced_elements xs)
ack-insert k n s c r p props items xs text lowest at =
    sequenced_elements-acked k n s c xs lowest
    ∙ ap (map (acked_element k n s c)) at
    ∙ map-put is_sequenced (expects r c k) without_pending (acked_element k n s c) (acked-fixed k n s c) p (new_elements 0 (Local k) [] None props items) xs
    ∙ ap (λ new. put (expects r c k) no_run p new (sequenced_elements xs)) (rw add-zero at (new-acked k n s c 0 props items text))
    ∙ put-agree is_sequenced (expects r c k) (seen_by r c) is_pending without_pending (expects-seen r c k) (λ e h. ap not h) p
    (new_elements n (Acked s c) [] (Some (Acked s c)) props items) xs
