-- The intervals of the document that well-formed messages make: they stand by rising label and id, their values are ones that
-- a summary may have, and their ends stand in order.
use Rattle.std.proofs.Common.{◌≡◌, inl, inr, ◌⊎◌, Bool, true, false, cond, not, ◌&&◌, ◌||◌, bytes_eq, List, [], ◌∷◌, map, filter, find, Option, Some, None, refl, sym, ◌∙◌, ap, subst}
use Rattle.std.specs.List.{list_all}
use Rattle.std.specs.Option.{option_map, option_or}
use Rattle.std.specs.Ordering.{is_lt, ordering_then}
use Rattle.std.specs.declared.cmp.Ordering.{Ordering}
use Rattle.std.specs.declared.cmp.Ordering.TheVariants.{Less, Equal, Greater}
use Rattle.std.proofs.lemmas.Slice.Eq.{bytes_eq-Decides}
use Rattle.ft_base.proofs.Booleans.{all_four, both}
use Rattle.ft_base.specs.Scan.{settled_after}
use Rattle.ft_base.specs.Visibility.{is_acked}
use Rattle.ft_props.specs.Properties.{apply, put_rising, text_cmp}
use Rattle.ft_props.proofs.RisingKeys.{same_from_text_cmp, text_cmp-trans, text_cmp-turned}
use Rattle.ft_props.specs.Element.{ElementId, ListElement, has_id, id, is_sequenced, is_unremoved, seen}
use Rattle.ft_props.specs.Slide.{settle, slide}
use Rattle.ft_op.specs.declared.operations.Ends.{Ends}
use Rattle.ft_op.specs.declared.operations.TextOp.{TextOp}
use Rattle.ft_op.specs.declared.operations.TextOp.TheVariants.{One, Group, IntervalAdd, IntervalChange, IntervalDelete}
use Rattle.ft_op.specs.Intervals.{Interval, NamedElements, after_interval_operation, has_interval, interval_cmp, is_interval, slide_ends, slide_interval, with_ends}
use Rattle.ft_op.specs.WellFormed.{IsWellFormedText}
use Rattle.ft_sumdoc.specs.Forms.{is_before_first, rises}
use Rattle.ft_sumdoc.specs.Intervals.{is_name_before}
use Rattle.ft_sumdoc.specs.Valid.{HasValues}
use Rattle.ft_laws_agreement.specs.Sequencing.{Each, are_ends_in}
use Rattle.ft_laws_agreement.specs.Trimming.{are_distinct_elements}
use Rattle.ft_laws_agreement.proofs.NamedByPlace.{names-not_renamed}
use Rattle.ft_laws_summaries.proofs.FormedClients.{ends-carried, order-carried, settled-there}
use Rattle.ft_laws_summaries.proofs.Lists.{each-filtered, each-mapped, each-weaker}
use Rattle.ft_laws_summaries.proofs.OrderedEnds.{AreInOrder, Carries}
use Rattle.ft_laws_summaries.proofs.SummaryIntervals.{plain-seen}
use Rattle.ft_laws_summaries.proofs.SummaryLists.{is_authored, is_empty, is_none, is_of_text, is_plain, is_settled}
use Rattle.ft_laws_summaries.proofs.ValidValues.{apply-values}

-- ---- rising lists

module _ {A : Type 0} (before : A → A → Bool) (trans : (x y z : A) → before x y ≡ true → before y z ≡ true → before x z ≡ true) where
  first-earlier : (x y : A) (xs : List A) → before x y ≡ true → is_before_first before y xs ≡ true → is_before_first before x xs ≡ true
  first-earlier x y [] h g = refl
  first-earlier x y (z ∷ xs) h g = trans x y z h g

  first-filter : (keep : A → Bool) (x : A) (xs : List A) → is_before_first before x xs ≡ true → rises before xs ≡ true → is_before_first before x (filter keep xs) ≡ true
  first-filter keep x [] h g = refl
  first-filter keep x (y ∷ xs) h g =
      let p = both (is_before_first before y xs) (rises before xs) g in
      by (keep y) (first-filter keep x xs (first-earlier x y xs h p.0) p.1)
    where
      by : (b : Bool) → is_before_first before x (filter keep xs) ≡ true → is_before_first before x (cond b (y ∷ filter keep xs) (filter keep xs)) ≡ true
      by true ih = h
      by false ih = ih

  rises-filter : (keep : A → Bool) (xs : List A) → rises before xs ≡ true → rises before (filter keep xs) ≡ true
  rises-filter keep [] h = refl
  rises-filter keep (x ∷ xs) h =
      let p = both (is_before_first before x xs) (rises before xs) h in
      by (keep x) (first-filter keep x xs p.0 p.1) (rises-filter keep xs p.1)
    where
      by : (b : Bool) → is_before_first before x (filter keep xs) ≡ true → rises before (filter keep xs) ≡ true
          → rises before (cond b (x ∷ filter keep xs) (filter keep xs)) ≡ true
      by true f ih = rw (f, ih) refl
      by false f ih = ih

-- elements that change, but not for the order
pub rises-map : {A B : Type 0} (f : A → B) (before : A → A → Bool) (after : B → B → Bool) → ((x y : A) → after (f x) (f y) ≡ before x y) → (xs : List A)
    → rises after (map f xs) ≡ rises before xs
rises-map f before after h [] = refl
rises-map f before after h (x ∷ []) = refl
rises-map f before after h (x ∷ y ∷ xs) = ap (λ b. b && rises after (map f (y ∷ xs))) (h x y) ∙ ap (λ b. before x y && b) (rises-map f before after h (y ∷ xs))

-- ---- the order of intervals

-- whether the first interval stands before the second
abbrev pub is_before : Interval → Interval → Bool
is_before i j = is_name_before i.label i.id j.label j.id

-- the same as a fact
abbrev Precedes : Interval → Interval → Type 0
Precedes i j = (text_cmp i.label j.label ≡ Less) ⊎ ((i.label ≡ j.label) × (text_cmp i.id j.id ≡ Less))

less-of : (o : Ordering) → is_lt o ≡ true → o ≡ Less
less-of Less h = refl
less-of Equal h = (cc)
less-of Greater h = (cc)

precedes : (i j : Interval) → is_before i j ≡ true → Precedes i j
precedes i j h = by (is_lt (text_cmp i.label j.label)) refl h
  where
    by : (b : Bool) → is_lt (text_cmp i.label j.label) ≡ b → b || (bytes_eq i.label j.label && is_lt (text_cmp i.id j.id)) ≡ true → Precedes i j
    by true e g = inl (less-of (text_cmp i.label j.label) e)
    by false e g =
        let p = both (bytes_eq i.label j.label) (is_lt (text_cmp i.id j.id)) g in
        inr ((bytes_eq-Decides i.label j.label).0 p.0, less-of (text_cmp i.id j.id) p.1)

tells-before : (i j : Interval) → Precedes i j → is_before i j ≡ true
tells-before i j (inl h) = ap (λ o. is_lt o || (bytes_eq i.label j.label && is_lt (text_cmp i.id j.id))) h
tells-before i j (inr h) =
    by (is_lt (text_cmp i.label j.label)) (rw ((bytes_eq-Decides i.label j.label).1 h.0, h.1) refl)
  where
    by : (b : Bool) → bytes_eq i.label j.label && is_lt (text_cmp i.id j.id) ≡ true → b || (bytes_eq i.label j.label && is_lt (text_cmp i.id j.id)) ≡ true
    by true e = refl
    by false e = e

before-then : (i j k : Interval) → is_before i j ≡ true → is_before j k ≡ true → is_before i k ≡ true
before-then i j k h g = tells-before i k (by (precedes i j h) (precedes j k g))
  where
    by : Precedes i j → Precedes j k → Precedes i k
    by (inl a) (inl b) = inl (text_cmp-trans i.label j.label k.label a b)
    by (inl a) (inr b) = inl (subst (λ l. text_cmp i.label l ≡ Less) b.0 a)
    by (inr a) (inl b) = inl (subst (λ l. text_cmp l k.label ≡ Less) (sym a.0) b)
    by (inr a) (inr b) = inr (a.0 ∙ b.0, text_cmp-trans i.id j.id k.id a.1 b.1)

-- what the comparison of two intervals says
lesser-before : (i j : Interval) → interval_cmp i j ≡ Less → is_before i j ≡ true
lesser-before i j h = tells-before i j (by (text_cmp i.label j.label) refl h)
  where
    by : (o : Ordering) → text_cmp i.label j.label ≡ o → ordering_then o (text_cmp i.id j.id) ≡ Less → Precedes i j
    by Less e g = inl e
    by Equal e g = inr (same_from_text_cmp i.label j.label e, g)
    by Greater e g = (cc)

greater-behind : (i j : Interval) → interval_cmp i j ≡ Greater → is_before j i ≡ true
greater-behind i j h = tells-before j i (by (text_cmp i.label j.label) refl h)
  where
    by : (o : Ordering) → text_cmp i.label j.label ≡ o → ordering_then o (text_cmp i.id j.id) ≡ Greater → Precedes j i
    by Less e g = (cc)
    by Equal e g = inr (sym (same_from_text_cmp i.label j.label e), text_cmp-turned i.id j.id g)
    by Greater e g = inl (text_cmp-turned i.label j.label e)

equal-named : (i j : Interval) → interval_cmp i j ≡ Equal → (i.label ≡ j.label) × (i.id ≡ j.id)
equal-named i j h = by (text_cmp i.label j.label) refl h
  where
    by : (o : Ordering) → text_cmp i.label j.label ≡ o → ordering_then o (text_cmp i.id j.id) ≡ Equal → (i.label ≡ j.label) × (i.id ≡ j.id)
    by Less e g = (cc)
    by Equal e g = (same_from_text_cmp i.label j.label e, same_from_text_cmp i.id j.id g)
    by Greater e g = (cc)

-- a new interval in its place
first-put : (z x : Interval) (is : List Interval) → is_before z x ≡ true → is_before_first is_before z is ≡ true
    → is_before_first is_before z (put_rising interval_cmp x is) ≡ true
first-put z x [] h g = h
first-put z x (i ∷ is) h g = by (interval_cmp x i)
  where
    by : (o : Ordering) → is_before_first is_before z (elim o [ Less ↦ x ∷ i ∷ is | Equal ↦ x ∷ is | Greater ↦ i ∷ put_rising interval_cmp x is ]) ≡ true
    by Less = h
    by Equal = h
    by Greater = g

rises-put : (x : Interval) (is : List Interval) → rises is_before is ≡ true → rises is_before (put_rising interval_cmp x is) ≡ true
rises-put x [] h = refl
rises-put x (i ∷ is) h =
    let p = both (is_before_first is_before i is) (rises is_before is) h in
    by (interval_cmp x i) refl p.0 p.1 (rises-put x is p.1)
  where
    renamed : (js : List Interval) → (x.label ≡ i.label) × (x.id ≡ i.id) → is_before_first is_before i js ≡ true → is_before_first is_before x js ≡ true
    renamed [] e f = refl
    renamed (j ∷ js) e f = ap (λ l. is_name_before l x.id j.label j.id) e.0 ∙ (ap (λ n. is_name_before i.label n j.label j.id) e.1 ∙ f)

    by : (o : Ordering) → interval_cmp x i ≡ o → is_before_first is_before i is ≡ true → rises is_before is ≡ true
        → rises is_before (put_rising interval_cmp x is) ≡ true
        → rises is_before (elim o [ Less ↦ x ∷ i ∷ is | Equal ↦ x ∷ is | Greater ↦ i ∷ put_rising interval_cmp x is ]) ≡ true
    by Less e f g ih = rw (lesser-before x i e, f, g) refl
    by Equal e f g ih = rw (renamed is (equal-named x i e) f, g) refl
    by Greater e f g ih = rw (first-put i x is (greater-behind x i e) f, ih) refl

-- a changed interval keeps its label and id
given-before : (ends : Option Ends) (names : NamedElements) (i j : Interval)
    → (is_before (with_ends ends names i) j ≡ is_before i j) × (is_before j (with_ends ends names i) ≡ is_before j i)
given-before None names i j = (refl, refl)
given-before (Some ends) names i j = (refl, refl)

pub operation-rises : (op : TextOp) (names : NamedElements) (is : List Interval) → rises is_before is ≡ true → rises is_before (after_interval_operation op names is) ≡ true
operation-rises (One op) names is h = h
operation-rises (Group ops) names is h = h
operation-rises (IntervalAdd label name ends props) names is h = by (has_interval label name is)
  where
    by : (b : Bool)
        → rises is_before (cond b is (put_rising interval_cmp (record { label = label; id = name; start = names.first; end = names.second; props = apply [] props }) is)) ≡ true
    by true = h
    by false = rises-put (record { label = label; id = name; start = names.first; end = names.second; props = apply [] props }) is h
operation-rises (IntervalChange label name ends props) names is h =
    rises-map (λ i. cond (is_interval label name i) (let j = with_ends ends names i in record j { props = apply j.props props }) i) is_before is_before
    (λ i j. by i j (is_interval label name i) (is_interval label name j)) is ∙ h
  where
    by : (i j : Interval) (b c : Bool)
        → is_before (cond b (let j = with_ends ends names i in record j { props = apply j.props props }) i)
        (cond c (let k = with_ends ends names j in record k { props = apply k.props props }) j) ≡ is_before i j
    by i j true true = (given-before ends names i (with_ends ends names j)).0 ∙ (given-before ends names j i).1
    by i j true false = (given-before ends names i j).0
    by i j false true = (given-before ends names j i).1
    by i j false false = refl
operation-rises (IntervalDelete label name) names is h = rises-filter is_before before-then (λ i. not (is_interval label name i)) is h

pub slide-rises : (xs : List ListElement) (is : List Interval) → rises is_before is ≡ true → rises is_before (slide_ends xs is) ≡ true
slide-rises xs is h = rises-map (slide_interval xs) is_before is_before (λ i j. refl) is ∙ h

-- ---- their ends and values

-- both ends are on elements of the list, in order, or neither; and the values are ones that a summary may have
pub record IsValidInterval (xs : List ListElement) (i : Interval) : Type 0 where
  pub there : are_ends_in xs i.start i.end ≡ true
  pub order : AreInOrder xs i.start i.end
  pub props : HasValues i.props

-- in a list of elements as messages make them an end slides as it settles
plain-acked : (e : ListElement) → is_plain e ≡ true → is_sequenced e ≡ true
plain-acked e h =
    let p = both (is_settled e) (is_authored e.by && is_of_text e.content) h in
    (all_four (is_acked e.ins) (list_all is_acked e.dels) (is_none e.removal_stage) (is_empty e.pending) p.0).0

find-plain : (xs : List ListElement) → list_all is_plain xs ≡ true → find is_unremoved xs ≡ find (seen 0) xs
find-plain [] h = refl
find-plain (e ∷ xs) h =
    let p = both (is_plain e) (list_all is_plain xs) h in
    ap (λ b. cond b (Some e) (find is_unremoved xs)) (sym (plain-seen e p.0)) ∙ ap (λ o. cond (seen 0 e) (Some e) o) (find-plain xs p.1)

settled-plain : (x : ElementId) (last : Option ListElement) (xs : List ListElement) → list_all is_plain xs ≡ true
    → settled_after (λ e. is_sequenced e && has_id x e) is_unremoved last xs ≡ settled_after (has_id x) (seen 0) last xs
settled-plain x last [] h = refl
settled-plain x last (e ∷ xs) h =
    let p = both (is_plain e) (list_all is_plain xs) h in
    ap (λ b. cond (b && has_id x e) (option_or (find is_unremoved (e ∷ xs)) last)
    (settled_after (λ e. is_sequenced e && has_id x e) is_unremoved (cond (is_unremoved e) (Some e) last) xs)) (plain-acked e p.0)
    ∙ (ap (λ o. cond (has_id x e) (option_or o last)
    (settled_after (λ e. is_sequenced e && has_id x e) is_unremoved (cond (is_unremoved e) (Some e) last) xs)) (find-plain (e ∷ xs) h)
    ∙ ap (λ o. cond (has_id x e) (option_or (find (seen 0) (e ∷ xs)) last) o)
    (settled-plain x (cond (is_unremoved e) (Some e) last) xs p.1
    ∙ ap (λ b. settled_after (has_id x) (seen 0) (cond b (Some e) last) xs) (sym (plain-seen e p.0))))

slide-settles : (xs : List ListElement) (o : Option ElementId) → list_all is_plain xs ≡ true → slide xs o ≡ settle xs 0 o
slide-settles xs None h = refl
slide-settles xs (Some x) h = ap (option_map id) (settled-plain x None xs h)

-- both ends of an interval
abbrev ends : Interval → NamedElements
ends i = record { first = i.start; second = i.end }

interval-slides : (xs : List ListElement) (i : Interval) → list_all is_plain xs ≡ true → are_distinct_elements xs ≡ true → IsValidInterval xs i
    → IsValidInterval xs (slide_interval xs i)
interval-slides xs i h d v =
    let r = settled-there 0 xs xs refl d d (ends i) v.there v.order in
    let a = sym (slide-settles xs i.start h) in
    let b = sym (slide-settles xs i.end h) in
    record {
      there = ap (λ o. are_ends_in xs o (slide xs i.end)) (slide-settles xs i.start h)
          ∙ (ap (λ o. are_ends_in xs (settle xs 0 i.start) o) (slide-settles xs i.end h) ∙ r.0);
      order = subst (λ o. AreInOrder xs o (slide xs i.end)) a (subst (λ o. AreInOrder xs (settle xs 0 i.start) o) b r.1);
      props = v.props;
    }

pub slides-valid : (xs : List ListElement) (is : List Interval) → list_all is_plain xs ≡ true → are_distinct_elements xs ≡ true → Each (IsValidInterval xs) is
    → Each (IsValidInterval xs) (slide_ends xs is)
slides-valid xs is h d v = each-mapped (IsValidInterval xs) (IsValidInterval xs) (slide_interval xs) (λ i g. interval-slides xs i h d g) is v

-- the text carries what it had
pub intervals-carried : (xs ys : List ListElement) (is : List Interval) → Carries (λ a. a) xs ys → are_distinct_elements ys ≡ true → Each (IsValidInterval xs) is
    → Each (IsValidInterval ys) is
intervals-carried xs ys is c d v =
    each-weaker (IsValidInterval xs) (IsValidInterval ys) (λ i g. record {
      there = subst (λ (n : NamedElements). are_ends_in ys n.first n.second ≡ true) (names-not_renamed (ends i)) (ends-carried (λ a. a) xs ys (ends i) c g.there);
      order = subst (λ (n : NamedElements). AreInOrder ys n.first n.second) (names-not_renamed (ends i)) (order-carried (λ a. a) xs ys (ends i) c d g.there g.order);
      props = g.props;
    }) is v

put-valid : (xs : List ListElement) (x : Interval) (is : List Interval) → IsValidInterval xs x → Each (IsValidInterval xs) is
    → Each (IsValidInterval xs) (put_rising interval_cmp x is)
put-valid xs x [] h v = (h, tt)
put-valid xs x (i ∷ is) h v = by (put-valid xs x is h v.1) (interval_cmp x i)
  where
    by : Each (IsValidInterval xs) (put_rising interval_cmp x is) → (o : Ordering)
        → Each (IsValidInterval xs) (elim o [ Less ↦ x ∷ i ∷ is | Equal ↦ x ∷ is | Greater ↦ i ∷ put_rising interval_cmp x is ])
    by ih Less = (h, v)
    by ih Equal = (h, v.1)
    by ih Greater = (v.0, ih)

given-valid : (xs : List ListElement) (given : Option Ends) (names : NamedElements) (i : Interval) → are_ends_in xs names.first names.second ≡ true
    → AreInOrder xs names.first names.second → IsValidInterval xs i → IsValidInterval xs (with_ends given names i)
given-valid xs None names i t o v = v
given-valid xs (Some e) names i t o v = record { there = t; order = o; props = v.props }

-- an operation that names elements in order
pub operation-valid : (xs : List ListElement) (op : TextOp) (names : NamedElements) (is : List Interval) → IsWellFormedText op
    → are_ends_in xs names.first names.second ≡ true → AreInOrder xs names.first names.second → Each (IsValidInterval xs) is
    → Each (IsValidInterval xs) (after_interval_operation op names is)
operation-valid xs (One op) names is f t o v = v
operation-valid xs (Group ops) names is f t o v = v
operation-valid xs (IntervalAdd label name given props) names is f t o v = by (has_interval label name is)
  where
    by : (b : Bool) → Each (IsValidInterval xs)
        (cond b is (put_rising interval_cmp (record { label = label; id = name; start = names.first; end = names.second; props = apply [] props }) is))
    by true = v
    by false =
        put-valid xs (record { label = label; id = name; start = names.first; end = names.second; props = apply [] props }) is
        (record { there = t; order = o; props = apply-values [] props f.1 tt }) v
operation-valid xs (IntervalChange label name given props) names is f t o v =
    each-mapped (IsValidInterval xs) (IsValidInterval xs)
    (λ i. cond (is_interval label name i) (let j = with_ends given names i in record j { props = apply j.props props }) i)
    (λ i g. by i (is_interval label name i) g) is v
  where
    by : (i : Interval) (b : Bool) → IsValidInterval xs i
        → IsValidInterval xs (cond b (let j = with_ends given names i in record j { props = apply j.props props }) i)
    by i true g =
        let h = given-valid xs given names i t o g in
        record { there = h.there; order = h.order; props = apply-values (with_ends given names i).props props f.1 h.props }
    by i false g = g
operation-valid xs (IntervalDelete label name) names is f t o v = each-filtered (IsValidInterval xs) (λ i. not (is_interval label name i)) is v
