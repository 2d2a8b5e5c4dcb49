-- All intervals with their ends on leaves, beside the same intervals with places in the whole list.
use Rattle.std.proofs.Common.{
  ◌≡◌,
  ℕ,
  ◌+◌,
  ◌<◌,
  Bool,
  true,
  false,
  cond,
  is_some,
  List,
  [],
  ◌∷◌,
  ◌++◌,
  drop,
  get_or,
  length,
  map,
  take,
  All,
  Option,
  Some,
  None,
  refl,
  sym,
  ◌∙◌,
  ap,
  subst,
  arith,
}
use Rattle.std.specs.Global.{Vec}
use Rattle.std.specs.List.{AllZip}
use Rattle.std.specs.declared.cmp.Ordering.{Ordering}
use Rattle.std.specs.declared.cmp.Ordering.TheVariants.{Less, Equal, Greater}
use Rattle.std.proofs.lemmas.List.{drop_more, length-map, map-append, take_more}
use Rattle.std.proofs.lemmas.List.Elements.{All-cons, All-nil}
use Rattle.ft_tree_leaves.specs.Elements.{TreeElement}
use Rattle.ft_op.specs.declared.operations.Ends.{Ends}
use Rattle.ft_op.specs.declared.operations.TextOp.{TextOp}
use Rattle.ft_op.specs.declared.operations.TextOp.TheVariants.{One, Group, IntervalAdd, IntervalChange, IntervalDelete}
use Rattle.ft_tree_leaves.specs.declared.text.TextContent.{TextContent}
use Rattle.ft_props.specs.Element.{ElementContent}
use Rattle.ft_props.specs.Keys.{put_rising}
use Rattle.ft_refs.specs.declared.numbers.Place.{Place}
use Rattle.ft_tree.specs.State.{TreeState}
use Rattle.ft_props.specs.Properties.{PropertySet, apply}
use Rattle.ft_interval_store.specs.declared.intervals.EndPair.{EndPair}
use Rattle.ft_interval_store.specs.declared.intervals.Interval.{Interval}
use Rattle.ft_interval_store.specs.declared.pending.Operation.{Operation}
use Rattle.ft_interval_store.specs.Ends.{References, map_ends, places_of_ends}
use Rattle.ft_interval_store.specs.Intervals.{IsBeforeNames, Name, NamesRise, after_operation, changed_interval, interval_cmp, interval_of, name_cmp, name_of, with_changed, without_name}
use Rattle.ft_interval_store.specs.Pages.{from_pages}
use Rattle.ft_interval_store.specs.Shown.{carried, carried_interval, last, number_at, settled_end, shown_from, shown_record}
use Rattle.ft_interval_store.specs.Standing.{HasPlaces, IsCarriedInterval, ShowsAll, ShowsInterval, StandAt, record_at}
use Rattle.ft_interval_store.specs.State.{placed_operations, text_elements}
use Rattle.ft_interval_store.proofs.PageLists.{length-zip, next-page, zip-append}

-- two lists of intervals side by side, with one name at each place
module _ {S T : Type 0} (R : Interval S → Interval T → Type 0) (same : (i : Interval S) (j : Interval T) → R i j → name_of j ≡ name_of i) where
  before-alike : (n : Name) (is : List (Interval S)) (js : List (Interval T)) → AllZip R is js → IsBeforeNames n is → IsBeforeNames n js
  before-alike n [] [] h b = tt
  before-alike n [] (j ∷ js) h b = absurd h
  before-alike n (i ∷ is) [] h b = absurd h
  before-alike n (i ∷ is) (j ∷ js) h b = (ap (λ m. name_cmp n m) (same i j h.0) ∙ b.0, before-alike n is js h.1 b.1)

  pub rise-alike : (is : List (Interval S)) (js : List (Interval T)) → AllZip R is js → NamesRise is → NamesRise js
  rise-alike [] [] h r = tt
  rise-alike [] (j ∷ js) h r = absurd h
  rise-alike (i ∷ is) [] h r = absurd h
  rise-alike (i ∷ is) (j ∷ js) h r =
      (subst (λ n. IsBeforeNames n js) (sym (same i j h.0)) (before-alike (name_of i) is js h.1 r.0), rise-alike is js h.1 r.1)

module _ (tree : TreeState TextContent) (k : ℕ) where
  same-name : (i : Interval ℕ) (j : Interval Place) → ShowsInterval tree k i j → name_of j ≡ name_of i
  same-name i j h = (let a = h.label in let b = h.id in λ t. (a t, b t))

  same-order : (n : Name) (i : Interval ℕ) (j : Interval Place) → ShowsInterval tree k i j → name_cmp n (name_of j) ≡ name_cmp n (name_of i)
  same-order n i j h = ap (λ m. name_cmp n m) (same-name i j h)

  pub rise-shown : (is : List (Interval ℕ)) (js : List (Interval Place)) → ShowsAll tree k is js → NamesRise is → NamesRise js
  rise-shown is js h r = rise-alike (ShowsInterval tree k) same-name is js h r

  pub push-shown : (is : List (Interval ℕ)) (js : List (Interval Place)) (i : Interval ℕ) (j : Interval Place) → ShowsAll tree k is js
      → ShowsInterval tree k i j → ShowsAll tree k (is ++ i ∷ []) (js ++ j ∷ [])
  push-shown [] [] i j h s = (s, tt)
  push-shown [] (y ∷ js) i j h s = absurd h
  push-shown (x ∷ is) [] i j h s = absurd h
  push-shown (x ∷ is) (y ∷ js) i j h s = (h.0, push-shown is js i j h.1 s)

  -- one more
  pub next-shown : (f g : Interval ℕ → Interval ℕ) (is : List (Interval ℕ)) (js : List (Interval Place)) (n : ℕ) (i : Interval ℕ) (j : Interval Place)
      → n < length is → i ≡ get_or is n i
      → ShowsAll tree k (map f (map g (take n is))) js → ShowsInterval tree k (f (g i)) j → ShowsAll tree k (map f (map g (take (n + 1) is))) (js ++ j ∷ [])
  next-shown f g is js n i j within at h s =
      let front : take (n + 1) is ≡ take n is ++ i ∷ [] = take_more is n i within ∙ ap (λ x. take n is ++ x ∷ []) (sym at) in
      let all = ap (λ us. map f (map g us)) front ∙ ap (λ us. map f us) (map-append g (take n is) (i ∷ [])) ∙ map-append f (map g (take n is)) (g i ∷ []) in
      subst (λ us. ShowsAll tree k us (js ++ j ∷ [])) (sym all) (push-shown (map f (map g (take n is))) js (f (g i)) j h s)

  -- one page more
  pub page-shown : (f g : Interval ℕ → Interval ℕ) (ps : List (Vec (Interval ℕ))) (n : ℕ) (p : Vec (Interval ℕ)) (js us : List (Interval Place))
      → n < length ps → p ≡ get_or ps n p
      → ShowsAll tree k (map f (map g (from_pages (take n ps)))) js → ShowsAll tree k (map f (map g p.items)) us
      → ShowsAll tree k (map f (map g (from_pages (take (n + 1) ps)))) (js ++ us)
  page-shown f g ps n p js us within at h s =
      let front = from_pages (take n ps) in
      let all = ap (λ is. map f (map g is)) (next-page n ps p within at) ∙ ap (λ is. map f is) (map-append g front p.items)
      ∙ map-append f (map g front) (map g p.items) in
      subst (λ is. ShowsAll tree k is (js ++ us)) (sym all) (zip-append (ShowsInterval tree k) (map f (map g front)) js (map f (map g p.items)) us h s)

  -- a page shows as many
  pub filled-shown : (f g : Interval ℕ → Interval ℕ) (is : List (Interval ℕ)) (js : List (Interval Place))
      → ShowsAll tree k (map f (map g is)) js → 0 < length is → 0 < length js
  filled-shown f g is js h some =
      omega (arith, length-map is g, length-map (map g is) f, length-zip (ShowsInterval tree k) (map f (map g is)) js h, some)

  pub places-shown : (is : List (Interval ℕ)) (js : List (Interval Place)) → ShowsAll tree k is js → All (HasPlaces tree) js
  places-shown [] [] h = All-nil (HasPlaces tree)
  places-shown [] (j ∷ js) h = absurd h
  places-shown (i ∷ is) [] h = absurd h
  places-shown (i ∷ is) (j ∷ js) h = All-cons (HasPlaces tree) j js (h.0.ends.start.on_leaf, h.0.ends.end.on_leaf) (places-shown is js h.1)

  -- ---- an operation

  pub there-shown : (n : Name) (is : List (Interval ℕ)) (js : List (Interval Place)) → ShowsAll tree k is js
      → is_some (interval_of n js) ≡ is_some (interval_of n is)
  there-shown n [] [] h = refl
  there-shown n [] (j ∷ js) h = absurd h
  there-shown n (i ∷ is) [] h = absurd h
  there-shown n (i ∷ is) (j ∷ js) h =
      ap (λ (o : Ordering). is_some (elim o as (λ _. Option (Interval Place)) [ Less ↦ None | Equal ↦ Some j | Greater ↦ interval_of n js ])) (same-order n i j h.0)
      ∙ by (name_cmp n (name_of i)) (there-shown n is js h.1)
    where
      by : (o : Ordering) → is_some (interval_of n js) ≡ is_some (interval_of n is)
          → is_some (elim o as (λ _. Option (Interval Place)) [ Less ↦ None | Equal ↦ Some j | Greater ↦ interval_of n js ])
          ≡ is_some (elim o as (λ _. Option (Interval ℕ)) [ Less ↦ None | Equal ↦ Some i | Greater ↦ interval_of n is ])
      by Less e = refl
      by Equal e = refl
      by Greater e = e

  -- what is made at the place of a name, by the order there
  abbrev made : {T : Type 0} → Ordering → List (Interval T) → List (Interval T) → List (Interval T) → List (Interval T)
  made {T} o a b c = elim o as (λ _. List (Interval T)) [ Less ↦ a | Equal ↦ b | Greater ↦ c ]

  made-shown : (o p : Ordering) (a b c : List (Interval ℕ)) (d e f : List (Interval Place)) → p ≡ o → ShowsAll tree k a d
      → ShowsAll tree k b e → ShowsAll tree k c f
      → ShowsAll tree k (made o a b c) (made p d e f)
  made-shown o p a b c d e f same x y z = subst (λ q. ShowsAll tree k (made o a b c) (made q d e f)) (sym same) (by o)
    where
      by : (q : Ordering) → ShowsAll tree k (made q a b c) (made q d e f)
      by Less = x
      by Equal = y
      by Greater = z

  pub put-shown : (x : Interval ℕ) (y : Interval Place) (is : List (Interval ℕ)) (js : List (Interval Place)) → ShowsInterval tree k x y → ShowsAll tree k is js
      → ShowsAll tree k (put_rising interval_cmp x is) (put_rising interval_cmp y js)
  put-shown x y [] [] s h = (s, tt)
  put-shown x y [] (j ∷ js) s h = absurd h
  put-shown x y (i ∷ is) [] s h = absurd h
  put-shown x y (i ∷ is) (j ∷ js) s h =
      made-shown (name_cmp (name_of x) (name_of i)) (name_cmp (name_of y) (name_of j)) (x ∷ i ∷ is) (x ∷ is) (i ∷ put_rising interval_cmp x is)
      (y ∷ j ∷ js) (y ∷ js) (j ∷ put_rising interval_cmp y js)
      (ap (λ n. name_cmp n (name_of j)) (same-name x y s) ∙ same-order (name_of x) i j h.0)
      (s, h) (s, h.1) (h.0, put-shown x y is js s h.1)

  changed-shown : (n : Name) (f : Interval ℕ → Interval ℕ) (g : Interval Place → Interval Place)
      → ((i : Interval ℕ) (j : Interval Place) → ShowsInterval tree k i j → ShowsInterval tree k (f i) (g j))
      → (is : List (Interval ℕ)) (js : List (Interval Place)) → ShowsAll tree k is js → ShowsAll tree k (with_changed n f is) (with_changed n g js)
  changed-shown n f g s [] [] h = tt
  changed-shown n f g s [] (j ∷ js) h = absurd h
  changed-shown n f g s (i ∷ is) [] h = absurd h
  changed-shown n f g s (i ∷ is) (j ∷ js) h =
      made-shown (name_cmp n (name_of i)) (name_cmp n (name_of j)) (i ∷ is) (f i ∷ is) (i ∷ with_changed n f is)
      (j ∷ js) (g j ∷ js) (j ∷ with_changed n g js) (same-order n i j h.0)
      h (s i j h.0, h.1) (h.0, changed-shown n f g s is js h.1)

  without-shown : (n : Name) (is : List (Interval ℕ)) (js : List (Interval Place)) → ShowsAll tree k is js
      → ShowsAll tree k (without_name n is) (without_name n js)
  without-shown n [] [] h = tt
  without-shown n [] (j ∷ js) h = absurd h
  without-shown n (i ∷ is) [] h = absurd h
  without-shown n (i ∷ is) (j ∷ js) h =
      made-shown (name_cmp n (name_of i)) (name_cmp n (name_of j)) (i ∷ is) is (i ∷ without_name n is)
      (j ∷ js) js (j ∷ without_name n js) (same-order n i j h.0)
      h h.1 (h.0, without-shown n is js h.1)

  given-shown : (given : Option Ends) (e : EndPair ℕ) (d : EndPair Place) (props : PropertySet) → StandAt tree k e d → (i : Interval ℕ) (j : Interval Place)
      → ShowsInterval tree k i j
      → ShowsInterval tree k (changed_interval given e props i) (changed_interval given d props j)
  given-shown None e d props n i j s = record { label = s.label; id = s.id; props = ap (λ p. apply p props) s.props; ends = s.ends }
  given-shown (Some g) e d props n i j s = record { label = s.label; id = s.id; props = ap (λ p. apply p props) s.props; ends = n }

  -- the same operation keeps them side by side
  pub after-shown : (op : TextOp) (e : EndPair ℕ) (d : EndPair Place) → StandAt tree k e d
      → (is : List (Interval ℕ)) (js : List (Interval Place)) → ShowsAll tree k is js
      → ShowsAll tree k (after_operation op e is) (after_operation op d js)
  after-shown (One o) e d n is js h = h
  after-shown (Group o) e d n is js h = h
  after-shown (IntervalAdd label id given props) e d n is js h =
      let x : Interval ℕ = record { label = label; id = id; ends = e; props = apply [] props } in
      let y : Interval Place = record { label = label; id = id; ends = d; props = apply [] props } in
      let s : ShowsInterval tree k x y = record { label = refl; id = refl; props = refl; ends = n } in
      subst (λ b. ShowsAll tree k (cond (is_some (interval_of (label, id) is)) is (put_rising interval_cmp x is)) (cond b js (put_rising interval_cmp y js)))
      (sym (there-shown (label, id) is js h))
      (either (is_some (interval_of (label, id) is)) (put_rising interval_cmp x is) (put_rising interval_cmp y js) (put-shown x y is js s h))
    where
      either : (b : Bool) (us : List (Interval ℕ)) (vs : List (Interval Place)) → ShowsAll tree k us vs → ShowsAll tree k (cond b is us) (cond b js vs)
      either true us vs s = h
      either false us vs s = s
  after-shown (IntervalChange label id given props) e d n is js h =
      changed-shown (label, id) (changed_interval given e props) (changed_interval given d props) (given-shown given e d props n) is js h
  after-shown (IntervalDelete label id) e d n is js h = without-shown (label, id) is js h

module _ (tree : TreeState TextContent) where
  -- what is shown at the last stage
  pub record-shown : (i : Interval ℕ) (j : Interval Place) → ShowsInterval tree last i j → record_at tree j ≡ shown_record (text_elements tree) i
  record-shown i j h =
      let xs = text_elements tree in
      let label = h.label in
      let id = h.id in
      let props = h.props in
      let first = ap (number_at xs last) h.ends.start.is in
      let second = ap (number_at xs last) h.ends.end.is in
      λ t. record { label = label t; id = id t; ends = record { start = first t; end = second t }; props = props t }

  pub records-shown : (is : List (Interval ℕ)) (js : List (Interval Place)) → ShowsAll tree last is js
      → map (record_at tree) js ≡ map (shown_record (text_elements tree)) is
  records-shown [] [] h = refl
  records-shown [] (j ∷ js) h = absurd h
  records-shown (i ∷ is) [] h = absurd h
  records-shown (i ∷ is) (j ∷ js) h =
      let first = record-shown i j h.0 in
      let rest = records-shown is js h.1 in
      λ t. first t ∷ rest t

-- ---- from stage to stage

module _ (tree : TreeState TextContent) (k m : ℕ) where
  abbrev elements_of : List (TreeElement ElementContent)
  elements_of = text_elements tree

  carried-name : (i j : Interval Place) → IsCarriedInterval tree k m i j → name_of j ≡ name_of i
  carried-name i j h = (let a = h.label in let b = h.id in λ t. (a t, b t))

  pub rise-carried : (is js : List (Interval Place)) → AllZip (IsCarriedInterval tree k m) is js → NamesRise is → NamesRise js
  rise-carried is js h r = rise-alike (IsCarriedInterval tree k m) carried-name is js h r

  pub carried-one : (i : Interval ℕ) (j x : Interval Place) → ShowsInterval tree k i j → IsCarriedInterval tree k m j x
      → ShowsInterval tree m (carried_interval elements_of k m i) x
  carried-one i j x s c = record {
    label = c.label ∙ s.label;
    id = c.id ∙ s.id;
    props = c.props ∙ s.props;
    ends = record { start = c.start i.ends.start s.ends.start; end = c.end i.ends.end s.ends.end };
  }

  -- the numbers of all, carried on, show all carried on
  pub carried-all : (is : List (Interval ℕ)) (js us : List (Interval Place)) → ShowsAll tree k is js → AllZip (IsCarriedInterval tree k m) js us
      → ShowsAll tree m (carried elements_of k m is) us
  carried-all [] [] [] h c = tt
  carried-all [] [] (u ∷ us) h c = absurd c
  carried-all [] (j ∷ js) us h c = absurd h
  carried-all (i ∷ is) [] us h c = absurd h
  carried-all (i ∷ is) (j ∷ js) [] h c = absurd c
  carried-all (i ∷ is) (j ∷ js) (u ∷ us) h c = (carried-one i j u h.0 c.0, carried-all is js us h.1 c.1)

module _ {U : Type 0} (xs : List (TreeElement U)) (refs : References) (k i : ℕ) (ts : List Operation) (is all : List (Interval ℕ))
    (shows : shown_from xs k (placed_operations refs (drop i ts)) is ≡ all) where
  -- one operation on
  pub next-all : (t : Operation) → i < length ts → t ≡ get_or ts i t
      → shown_from xs t.stage (placed_operations refs (drop (i + 1) ts))
      (after_operation t.op (map_ends (settled_end xs t.stage) (places_of_ends refs t.ends)) (carried xs k t.stage is)) ≡ all
  next-all t within at =
      sym (ap (λ us. shown_from xs k (placed_operations refs us) is) (drop_more ts i t within ∙ ap (λ u. u ∷ drop (i + 1) ts) (sym at))) ∙ shows

  -- behind the last one
  pub last-all : drop i ts ≡ [] → carried xs k last is ≡ all
  last-all none = sym (ap (λ us. shown_from xs k (placed_operations refs us) is) none) ∙ shows
