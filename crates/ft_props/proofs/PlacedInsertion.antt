-- What is known of a pending insertion, and that a message of another client keeps it.
use Rattle.std.proofs.Common.{filter, Some, None, ◌≡◌, ℕ, zero, suc, ◌+◌, ◌≤◌, ◌<◌, Bool, true, false, cond, not, ◌&&◌, ◌||◌, List, [], ◌∷◌, ◌++◌, Option, refl, sym, ◌∙◌, ap, subst, arith, append-nil, nat_le, nat_eq}
use Rattle.std.specs.List.{list_any, list_all}
use Rattle.std.proofs.lemmas.List.Folds.{list_any-append}
use Rattle.std.proofs.lemmas.Bool.Decides.{nat_tests}
use Rattle.ft_base.specs.declared.stamps.Stamp.{Stamp}
use Rattle.ft_base.specs.declared.stamps.Stamp.TheVariants.{Acked, Local}
use Rattle.ft_base.specs.Scan.{retain_map, one_more_if, len, no_run, put, put_past}
use Rattle.ft_base.specs.Visibility.{has_occurred, has_occurred_at_stage, is_acked}
use Rattle.ft_base.proofs.Booleans.{all_four, both}
use Rattle.ft_base.proofs.ScanLaws.{Keeping, len-retain_map, put-retain_map}
use Rattle.ft_base.proofs.TwoInsertions.{swap}
use Rattle.ft_props.specs.declared.properties.Changes.{Changes}
use Rattle.ft_props.specs.Properties.{PropertyList}
use Rattle.ft_props.specs.Element.{ElementContent, ListElement, is_pending, new_elements, removal_stamp, seen, seen_by}
use Rattle.ft_props.proofs.SequencedElements.{any-has_occurred, has_occurred-pending}
use Rattle.ft_props.proofs.AcknowledgedInsertion.{below_stamp, below_mark, element_up_to, removal_up_to, list_up_to, expects}

abbrev pub is_upto : ℕ → ListElement → Bool
is_upto k e = has_occurred_at_stage k e.ins

-- a stamp that isn't of a stage up to k is pending
pub beyond : (k : ℕ) (t : Stamp) → has_occurred_at_stage k t ≡ false → is_acked t ≡ false
beyond k (Acked s c) h = (cc)
beyond k (Local j) h = refl

-- a perspective sees the list up to a stage as it sees the whole list
pub sees-list_up_to : (r c k : ℕ) → Keeping (is_upto k) (seen_by r c) (element_up_to k) (seen_by r c)
sees-list_up_to r c k = record {
  kept = λ e h. ap (λ b. b && not (list_any (has_occurred r c) (e.dels ++ removal_stamp e.removal_stage))) (has_occurred-pending r c e.ins (beyond k e.ins h));
  same = λ e h. ap (λ b. has_occurred r c e.ins && not b) (any-has_occurred r c e.dels (removal_up_to k e.removal_stage) ∙ sym (any-has_occurred r c e.dels e.removal_stage));
}

-- the elements of a message are of no stage
pub new-list_up_to : (k n s c : ℕ) (by : Option Stamp) (props : PropertyList) (items : List ElementContent) → list_up_to k (new_elements n (Acked s c) [] by props items) ≡ new_elements n (Acked s c) [] by props items
new-list_up_to k n s c by props [] = refl
new-list_up_to k n s c by props (b ∷ bs) = rw (new-list_up_to k (n + 1) s c by props bs)

-- a message of another client goes into the list up to a stage as into the whole list
pub put-list_up_to : (r c k q : ℕ) (other xs : List ListElement) → list_up_to k other ≡ other
    → list_up_to k (put (seen_by r c) is_pending q other xs) ≡ put (seen_by r c) is_pending q other (list_up_to k xs)
put-list_up_to r c k q other xs h =
    put-retain_map (is_upto k) (seen_by r c) (element_up_to k) (seen_by r c) (sees-list_up_to r c k) is_pending is_pending
    (λ e h. ap not (beyond k e.ins h)) (λ e h. refl) q other xs
    ∙ ap (λ ys. put (seen_by r c) is_pending q ys (list_up_to k xs)) h

-- elements that aren't seen add nothing to the length
pub len-append : {A : Type 0} (test : A → Bool) (new xs : List A) → list_any test new ≡ false → len test (new ++ xs) ≡ len test xs
len-append test [] xs h = refl
len-append test (y ∷ ys) xs h = grind (arith, len-append test ys xs)

pub len-past : {A : Type 0} (test past : A → Bool) (new xs : List A) → list_any test new ≡ false → len test (put_past past new xs) ≡ len test xs
len-past test past new [] h = rw append-nil at (len-append test new [] h)
len-past test past new (x ∷ xs) h = grind (arith, len-past test past new xs, len-append test new (x ∷ xs) h)

pub len-put : {A : Type 0} (test place past : A → Bool) (q : ℕ) (new xs : List A) → list_any test new ≡ false → len test (put place past q new xs) ≡ len test xs
len-put test place past zero new xs h = len-past test past new xs h
len-put test place past (suc q) new [] h = rw append-nil at (len-append test new [] h)
len-put test place past (suc q) new (x ∷ xs) h = ap (one_more_if (test x)) (len-put test place past (cond (place x) q (suc q)) new xs h)

-- a message above the reference number, by another connection, isn't what the edit had seen
pub unknown : (r c s d : ℕ) → r < s → nat_eq d c ≡ false → nat_le s r || nat_eq d c ≡ false
unknown r c s d l h = grind (arith, nat_tests)

pub new-unexpected : (r c k n s d : ℕ) (by : Option Stamp) (props : PropertyList) (items : List ElementContent) → r < s → nat_eq d c ≡ false
    → list_any (expects r c k) (new_elements n (Acked s d) [] by props items) ≡ false
new-unexpected r c k n s d by props [] l h = refl
new-unexpected r c k n s d by props (b ∷ bs) l h = rw (unknown r c s d l h) (new-unexpected r c k (n + 1) s d by props bs l h)

-- what is known of the insertion of stage k + 1 by an edit that had seen the numbers up to r, sent by connection c
pub record IsPlaced (k p r c : ℕ) (block xs : List ListElement) : Type 0 where
  pub inside : p ≤ len (expects r c (suc k)) (list_up_to k xs)
  pub placed : list_up_to (suc k) xs ≡ put (expects r c (suc k)) no_run p block (list_up_to k xs)

-- a message of another client that inserts keeps it
pub after_foreign_message-keeps : (k p r c : ℕ) (block xs : List ListElement) (n s q e d : ℕ) (by : Option Stamp) (props : PropertyList) (items : List ElementContent)
    → IsPlaced k p r c block xs → r < s → nat_eq d c ≡ false → q ≤ len (seen_by e d) xs
    → list_any (seen_by e d) block ≡ false → list_all is_pending block ≡ true
    → IsPlaced k p r c block (put (seen_by e d) is_pending q (new_elements n (Acked s d) [] by props items) xs)
after_foreign_message-keeps k p r c block xs n s q e d by props items at above others here unseen pending =
    let new = new_elements n (Acked s d) [] by props items in
    let mine = expects r c (suc k) in
    let theirs = seen_by e d in
    let unexpected = new-unexpected r c (suc k) n s d by props items above others in
    let lower = put-list_up_to e d k q new xs (new-list_up_to k n s d by props items) in
    record {
      inside = subst (λ ys. p ≤ len mine ys) (sym lower) (subst (λ i. p ≤ i) (sym (len-put mine theirs is_pending q new (list_up_to k xs) unexpected)) at.inside);
      placed =
          put-list_up_to e d (suc k) q new xs (new-list_up_to (suc k) n s d by props items)
          ∙ ap (put theirs is_pending q new) at.placed
          ∙ sym (swap mine theirs is_pending block new unexpected unseen pending p q (list_up_to k xs) at.inside
          (subst (λ i. q ≤ i) (sym (len-retain_map (is_upto k) theirs (element_up_to k) theirs (sees-list_up_to e d k) xs)) here))
          ∙ ap (put mine no_run p block) (sym lower);
    }

-- every pending mark on it is of a stage up to k, and every sequenced one is known
abbrev pub mark_upto : ℕ → Option ℕ → Bool
mark_upto k None = true
mark_upto k (Some j) = nat_le j k

abbrev pub stamp_known : ℕ → ℕ → ℕ → Stamp → Bool
stamp_known r c k (Acked s d) = nat_le s r || nat_eq d c
stamp_known r c k (Local j) = nat_le j k

abbrev pub is_current : ℕ → ℕ → ℕ → ListElement → Bool
is_current r c k e = stamp_known r c k e.ins && list_all (has_occurred r c) e.dels && mark_upto k e.removal_stage && list_all (λ p. nat_le p.0 k) e.pending

pub ins-expected : (r c k : ℕ) (t : Stamp) → stamp_known r c k t ≡ true → has_occurred r c t || below_stamp (suc k) t ≡ has_occurred_at_stage k t
ins-expected r c k (Acked s d) h = rw h refl
ins-expected r c k (Local j) h = grind (arith, nat_tests)

pub dels-expected : (r c k : ℕ) (dels : List Stamp) → list_all (has_occurred r c) dels ≡ true
    → list_any (has_occurred r c) dels ≡ list_any (has_occurred_at_stage k) dels
dels-expected r c k [] h = refl
dels-expected r c k (Acked s d ∷ dels) h = grind (arith, dels-expected r c k dels)
dels-expected r c k (Local j ∷ dels) h = (cc)

pub mark-expected : (k : ℕ) (m : Option ℕ) → mark_upto k m ≡ true → below_mark (suc k) m ≡ list_any (has_occurred_at_stage k) (removal_stamp m)
mark-expected k None h = refl
mark-expected k (Some j) h = grind (arith, nat_tests)

-- at the edit itself the message will see just what the client sees
pub expected-now : (r c k : ℕ) (e : ListElement) → is_current r c k e ≡ true → expects r c (suc k) e ≡ seen k e
expected-now r c k e h =
    let p = all_four (stamp_known r c k e.ins) (list_all (has_occurred r c) e.dels) (mark_upto k e.removal_stage) (list_all (λ q. nat_le q.0 k) e.pending) h in
    rw (ins-expected r c k e.ins p.0, dels-expected r c k e.dels p.1, mark-expected k e.removal_stage p.2, list_any-append (has_occurred_at_stage k) e.dels (removal_stamp e.removal_stage)) refl

pub reached-now : (r c k : ℕ) (t : Stamp) → stamp_known r c k t ≡ true → has_occurred_at_stage k t ≡ true
reached-now r c k (Acked s d) h = refl
reached-now r c k (Local j) h = h

pub element_up_to-mark-now : (k : ℕ) (m : Option ℕ) → mark_upto k m ≡ true → removal_up_to k m ≡ m
element_up_to-mark-now k None h = refl
element_up_to-mark-now k (Some j) h = rw h refl

pub filter-now : (k : ℕ) (pending : List (ℕ × Changes)) → list_all (λ q. nat_le q.0 k) pending ≡ true → filter (λ q. nat_le q.0 k) pending ≡ pending
filter-now k [] h = refl
filter-now k (x ∷ pending) h = grind (arith, filter-now k pending)

pub element_up_to-now : (r c k : ℕ) (e : ListElement) → is_current r c k e ≡ true → element_up_to k e ≡ e
element_up_to-now r c k e h =
    let p = all_four (stamp_known r c k e.ins) (list_all (has_occurred r c) e.dels) (mark_upto k e.removal_stage) (list_all (λ q. nat_le q.0 k) e.pending) h in
    rw (element_up_to-mark-now k e.removal_stage p.2, filter-now k e.pending p.3) refl

-- a list in which all is current is the list up to its last stage
pub list_up_to-now : (r c k : ℕ) (xs : List ListElement) → list_all (is_current r c k) xs ≡ true → list_up_to k xs ≡ xs
list_up_to-now r c k [] h = refl
list_up_to-now r c k (e ∷ xs) h =
    let p = both (is_current r c k e) (list_all (is_current r c k) xs) h in
    let stamp = reached-now r c k e.ins (all_four (stamp_known r c k e.ins) (list_all (has_occurred r c) e.dels) (mark_upto k e.removal_stage) (list_all (λ q. nat_le q.0 k) e.pending) p.0).0 in
    rw (stamp, element_up_to-now r c k e p.0, list_up_to-now r c k xs p.1) refl

pub put-agree-now : (r c k p : ℕ) (new xs : List ListElement) → list_all (is_current r c k) xs ≡ true
    → put (seen k) no_run p new xs ≡ put (expects r c (suc k)) no_run p new xs
put-agree-now r c k zero new xs h = refl
put-agree-now r c k (suc p) new [] h = refl
put-agree-now r c k (suc p) new (e ∷ xs) h =
    let q = both (is_current r c k e) (list_all (is_current r c k) xs) h in
    rw (expected-now r c k e q.0) (ap (λ ys. e ∷ ys) (put-agree-now r c k (cond (seen k e) p (suc p)) new xs q.1))

pub len-agree-now : (r c k : ℕ) (xs : List ListElement) → list_all (is_current r c k) xs ≡ true → len (expects r c (suc k)) xs ≡ len (seen k) xs
len-agree-now r c k [] h = refl
len-agree-now r c k (e ∷ xs) h =
    let q = both (is_current r c k e) (list_all (is_current r c k) xs) h in
    rw (expected-now r c k e q.0) (ap (one_more_if (seen k e)) (len-agree-now r c k xs q.1))

-- elements that are left out leave no trace where they were put
pub drop-append : {A : Type 0} (keep : A → Bool) (f : A → A) (new xs : List A) → list_any keep new ≡ false
    → retain_map keep f (new ++ xs) ≡ retain_map keep f xs
drop-append keep f [] xs h = refl
drop-append keep f (y ∷ ys) xs h = grind (arith, drop-append keep f ys xs)

pub drop-put : {A : Type 0} (keep test : A → Bool) (f : A → A) (p : ℕ) (new xs : List A) → list_any keep new ≡ false
    → retain_map keep f (put test no_run p new xs) ≡ retain_map keep f xs
drop-put keep test f zero new [] h = rw append-nil at (drop-append keep f new [] h)
drop-put keep test f zero new (x ∷ xs) h = drop-append keep f new (x ∷ xs) h
drop-put keep test f (suc p) new [] h = rw append-nil at (drop-append keep f new [] h)
drop-put keep test f (suc p) new (x ∷ xs) h = grind (arith, drop-put keep test f p new xs, drop-put keep test f (suc p) new xs)

pub all-put : {A : Type 0} (is test : A → Bool) (p : ℕ) (new xs : List A) → list_all is new ≡ true → list_all is xs ≡ true
    → list_all is (put test no_run p new xs) ≡ true
all-put is test zero new [] g h = g
all-put is test zero new (x ∷ xs) g h = all-both new g
  where
    all-both : (ys : List _) → list_all is ys ≡ true → list_all is (ys ++ (x ∷ xs)) ≡ true
    all-both [] g = h
    all-both (y ∷ ys) g = grind (arith, all-both ys)
all-put is test (suc p) new [] g h = g
all-put is test (suc p) new (x ∷ xs) g h = grind (arith, all-put is test p new xs, all-put is test (suc p) new xs)

pub more-stamp : (r c k : ℕ) (t : Stamp) → stamp_known r c k t ≡ true → stamp_known r c (suc k) t ≡ true
more-stamp r c k (Acked s d) h = h
more-stamp r c k (Local j) h = grind (arith, nat_tests)

pub more-mark : (k : ℕ) (m : Option ℕ) → mark_upto k m ≡ true → mark_upto (suc k) m ≡ true
more-mark k None h = refl
more-mark k (Some j) h = grind (arith, nat_tests)

pub more-pending : (k : ℕ) (pending : List (ℕ × Changes)) → list_all (λ q. nat_le q.0 k) pending ≡ true → list_all (λ q. nat_le q.0 (suc k)) pending ≡ true
more-pending k [] h = refl
more-pending k ((j, ch) ∷ pending) h =
    let p = both (nat_le j k) (list_all (λ q. nat_le q.0 k) pending) h in
    rw (more-mark k (Some j) p.0, more-pending k pending p.1) refl

pub more-current : (r c k : ℕ) (xs : List ListElement) → list_all (is_current r c k) xs ≡ true → list_all (is_current r c (suc k)) xs ≡ true
more-current r c k [] h = refl
more-current r c k (e ∷ xs) h =
    let p = both (is_current r c k e) (list_all (is_current r c k) xs) h in
    let q = all_four (stamp_known r c k e.ins) (list_all (has_occurred r c) e.dels) (mark_upto k e.removal_stage) (list_all (λ i. nat_le i.0 k) e.pending) p.0 in
    rw (more-stamp r c k e.ins q.0, q.1, more-mark k e.removal_stage q.2, more-pending k e.pending q.3, more-current r c k xs p.1) refl

pub own-stage : (k : ℕ) → nat_le (suc k) (suc k) ≡ true
own-stage k = grind (arith, nat_tests)

pub own-later : (k : ℕ) → nat_le (suc k) k ≡ false
own-later k = grind (arith, nat_tests)

pub after_local_insertion-current : (r c k i : ℕ) (props : PropertyList) (items : List ElementContent)
    → list_all (is_current r c (suc k)) (new_elements i (Local (suc k)) [] None props items) ≡ true
after_local_insertion-current r c k i props [] = refl
after_local_insertion-current r c k i props (b ∷ bs) = rw (own-stage k, after_local_insertion-current r c k (i + 1) props bs) refl

pub after_local_insertion-later : (k i : ℕ) (props : PropertyList) (items : List ElementContent)
    → list_any (is_upto k) (new_elements i (Local (suc k)) [] None props items) ≡ false
after_local_insertion-later k i props [] = refl
after_local_insertion-later k i props (b ∷ bs) = rw (own-later k) (after_local_insertion-later k (i + 1) props bs)

-- an edit of the client's own makes it true of its stage
pub edit-places : (k p r c : ℕ) (props : PropertyList) (items : List ElementContent) (xs : List ListElement)
    → list_all (is_current r c k) xs ≡ true → p ≤ len (seen k) xs
    → IsPlaced k p r c (new_elements 0 (Local (suc k)) [] None props items) (put (seen k) no_run p (new_elements 0 (Local (suc k)) [] None props items) xs)
edit-places k p r c props items xs current here =
    let block = new_elements 0 (Local (suc k)) [] None props items in
    let lower : list_up_to k (put (seen k) no_run p block xs) ≡ xs =
    drop-put (is_upto k) (seen k) (element_up_to k) p block xs (after_local_insertion-later k 0 props items) ∙ list_up_to-now r c k xs current in
    record {
      inside = subst (λ ys. p ≤ len (expects r c (suc k)) ys) (sym lower) (subst (λ i. p ≤ i) (sym (len-agree-now r c k xs current)) here);
      placed =
          list_up_to-now r c (suc k) (put (seen k) no_run p block xs)
          (all-put (is_current r c (suc k)) (seen k) p block xs (after_local_insertion-current r c k 0 props items) (more-current r c k xs current))
          ∙ put-agree-now r c k p block xs current
          ∙ ap (put (expects r c (suc k)) no_run p block) (sym lower);
    }
