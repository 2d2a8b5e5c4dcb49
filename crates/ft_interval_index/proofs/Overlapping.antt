-- The gathered intervals answer what all do, and no more keys are read than there are answers and pending operations.
use Rattle.std.proofs.Common.{◌≡◌, ℕ, suc, ℤ, pos, ◌+◌, ◌*◌, ◌≤◌, Bool, true, false, cond, ◌||◌, List, [], ◌∷◌, All, Option, Some, None, is_some, filter, length, map, refl, ◌∙◌, ap, subst, inl, inr, arith}
use Rattle.std.specs.Prelude.{◌⊎◌, IfSome}
use Rattle.std.specs.Ordering.{is_eq}
use Rattle.ft_props.specs.Keys.{Characters, text_cmp}
use Rattle.ft_sumdoc.specs.declared.summary.IntervalRec.{IntervalRec}
use Rattle.ft_sumdoc.specs.Meeting.{meets}
use Rattle.ft_tree_leaves.specs.declared.text.TextContent.{TextContent}
use Rattle.ft_tree_leaves.specs.Elements.{TreeElement}
use Rattle.ft_tree.specs.State.{TreeState}
use Rattle.ft_props.specs.Element.{ElementContent}
use Rattle.ft_overlap.specs.declared.items.Item.{Item}
use Rattle.ft_interval_store.specs.declared.intervals.EndPair.{EndPair}
use Rattle.ft_interval_store.specs.declared.intervals.Interval.{Interval}
use Rattle.ft_interval_store.specs.declared.pending.Operation.{Operation}
use Rattle.ft_interval_store.specs.Ends.{References, places_of_ends}
use Rattle.ft_interval_store.specs.Gathered.{IsPartOf, is_on_any}
use Rattle.ft_interval_store.specs.Intervals.{Name, NamesRise, has_label, interval_of}
use Rattle.ft_interval_store.specs.Shown.{last, settled_interval, shown_from, shown_intervals, shown_place, shown_record}
use Rattle.ft_interval_store.specs.State.{CollectionsState, IsInOrder, ends_of_name, placed_intervals, placed_operations, text_elements, with_mapped_ends}
use Rattle.ft_interval_store.proofs.Gathered.{gathered-shown, on-placed}
use Rattle.ft_interval_store.proofs.OneInterval.{NamesRise-map}
use Rattle.ft_interval_store.proofs.RisingLists.{found-name, interval_of-filter, kept, rise-filter}
use Rattle.ft_interval_store.proofs.SettledOperation.{placed-rise}
use Rattle.ft_interval_index.specs.Indexes.{LabelIndex, IsItemOf, IsListed, is_met, keys_meeting, list_in}
use Rattle.ft_interval_index.proofs.CountedItems.{few-counted, few-keys}
use Rattle.ft_interval_index.proofs.FoundItems.{text-self, unwanted}
use Rattle.ft_interval_index.proofs.StartsOnce.{HasStart, has-start}
use Rattle.ft_interval_index.proofs.GatheringSteps.{count-placed, few-reads, fits-placed, none-read}

first-false : (p q : Bool) → p || q ≡ false → p ≡ false
first-false false q h = refl
first-false true q h = (cc)

module _ (tree : TreeState TextContent) (c : CollectionsState) (label : Characters) (a b : ℕ) (x : Option LabelIndex) (names : NamesRise c.acked) (order : IsInOrder c)
    (own : IfSome x (λ (y : LabelIndex). is_eq (text_cmp label y.label) ≡ true))
    (l : (let xs = text_elements tree in IsListed (length xs) tree.refs (λ id. ends_of_name (label, id) c.acked) x)) where
  abbrev xs : List (TreeElement ElementContent)
  xs = text_elements tree

  abbrev from : List (Interval ℕ)
  from = map (settled_interval xs 0) (placed_intervals tree.refs c.acked)

  abbrev ts : List Operation
  ts = placed_operations tree.refs c.pending

  abbrev place : ℕ → ℤ
  place = shown_place xs tree.refs

  abbrev AreFitting : Type 0
  AreFitting = All (λ (t : Operation). t.stage ≤ last) c.pending

  abbrev answers : List IntervalRec
  answers = filter (meets label a b) (map (shown_record xs) (shown_intervals xs (placed_intervals tree.refs c.acked) ts))

  of-label : (y : LabelIndex) → x ≡ Some y → is_eq (text_cmp label y.label) ≡ true
  of-label y e = subst (λ (o : Option LabelIndex). IfSome o (λ (z : LabelIndex). is_eq (text_cmp label z.label) ≡ true)) e own

  -- what is gathered answers all that meet the range
  found-own : AreFitting → (is : List (Interval ℕ)) → IsPartOf from is (λ n. is_on_any n c.pending || is_met place a b n x)
      → filter (meets label a b) (map (shown_record xs) (shown_from xs 0 ts is)) ≡ answers
  found-own fits is p =
      gathered-shown xs ts from is (λ n. is_on_any n c.pending || is_met place a b n x) p
      (NamesRise-map (settled_interval xs 0) (placed_intervals tree.refs c.acked) (λ i. refl)
      (NamesRise-map (with_mapped_ends (places_of_ends tree.refs)) c.acked (λ i. refl) names))
      (λ n h. on-placed tree.refs n c.pending ∙ first-false (is_on_any n c.pending) (is_met place a b n x) h) (meets label a b)
      (λ m h. unwanted xs (length xs) tree.refs c.acked ts label a b x names (placed-rise tree.refs 0 c.pending order.rising) (fits-placed tree.refs c.pending fits) of-label l m
      (ap (λ (o : Bool). o || is_met place a b m x) (on-placed tree.refs m c.pending) ∙ h))

  pub found-all : (y : Option LabelIndex) → y ≡ x → AreFitting → (is : List (Interval ℕ))
      → IsPartOf from is (λ n. is_on_any n c.pending || is_met place a b n y)
      → filter (meets label a b) (map (shown_record xs) (shown_from xs 0 ts is)) ≡ answers
  found-all y at fits is p = found-own fits is (subst (λ (o : Option LabelIndex). IsPartOf from is (λ n. is_on_any n c.pending || is_met place a b n o)) at p)

  keys-few : AreFitting → length (keys_meeting place a b (list_in x).items) ≤ length answers + length c.pending
  keys-few fits =
      let most = few-keys xs tree.refs c.acked ts label a b x names (placed-rise tree.refs 0 c.pending order.rising) (fits-placed tree.refs c.pending fits) l in
      subst (λ (m : ℕ). length (keys_meeting place a b (list_in x).items) ≤ length answers + m) (count-placed tree.refs c.pending) most

  abbrev Reads : ℕ → ℕ → Option LabelIndex → Type 0
  Reads new old o = (new ≡ old) ⊎ (AreFitting × (new ≤ old + 9 * ((list_in o).depth + 1) * (length (keys_meeting place a b (list_in o).items) + 1)))

  few-own : (new old : ℕ) → Reads new old x → new ≤ old + 9 * ((list_in x).depth + 1) * (length answers + length c.pending + 1)
  few-own new old h = elim h [
    | inl e ↦ none-read new old (9 * ((list_in x).depth + 1) * (length answers + length c.pending + 1)) e
    | inr k ↦ few-reads new old (list_in x).depth (length (keys_meeting place a b (list_in x).items)) (length answers) (length c.pending) k.1 (keys-few k.0)
  ]

  -- and few nodes are read for it
  pub few-steps : (y : Option LabelIndex) → y ≡ x → (new old : ℕ) → Reads new old y
      → new ≤ old + 9 * ((list_in x).depth + 1) * (length answers + length c.pending + 1)
  few-steps y at new old h = few-own new old (subst (Reads new old) at h)

-- ---- no more items than intervals

every-key : (ys : List Item) → length (keys_meeting (λ k. pos 0) 0 0 ys) ≡ length ys
every-key [] = refl
every-key (y ∷ ys) = ap suc (every-key ys)

module _ (n : ℕ) (refs : References) (acked : List (Interval ℕ)) (label : Characters) (x : Option LabelIndex) (names : NamesRise acked)
    (l : IsListed n refs (λ id. ends_of_name (label, id) acked) x) where
  has-interval : (y : Item) (o : IsItemOf (λ id. ends_of_name (label, id) acked) x y.key y) → HasStart acked (label, o.id) y.key
  has-interval y o = has-start acked (label, o.id) y.key (ap (λ (p : EndPair ℕ). p.start) o.ends)

  no-more : (is : List (Interval ℕ)) → NamesRise is
      → ((y : Item) (o : IsItemOf (λ id. ends_of_name (label, id) acked) x y.key y) → is_some (interval_of (label, o.id) is) ≡ true)
      → length (list_in x).items ≤ length is
  no-more is rise named =
      let most = few-counted n refs acked label (λ k. pos 0) 0 0 x l is [] (λ y o own m. inl (named y o)) rise in
      let all = every-key (list_in x).items in
      omega (arith, most, all)

  pub few-items : length (list_in x).items ≤ length acked
  few-items = no-more acked names (λ y o. ap (λ u. is_some u) (has-interval y o).there)

  -- than those of its label even
  pub few-labelled : length (list_in x).items ≤ length (filter (has_label label) acked)
  few-labelled = no-more (filter (has_label label) acked) (rise-filter (has_label label) acked names) named
    where
      named : (y : Item) (o : IsItemOf (λ id. ends_of_name (label, id) acked) x y.key y) → is_some (interval_of (label, o.id) (filter (has_label label) acked)) ≡ true
      named y o =
          let w = has-interval y o in
          let own : has_label label w.interval ≡ true =
          ap (λ (m : Name). is_eq (text_cmp label m.0)) (found-name (label, o.id) acked w.interval w.there) ∙ text-self label
          in
          ap (λ u. is_some u) (interval_of-filter (has_label label) (label, o.id) acked names ∙ ap (kept (has_label label)) w.there
          ∙ ap (λ c. cond c (Some w.interval) None) own)
