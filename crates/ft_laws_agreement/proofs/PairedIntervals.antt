-- Intervals of a client beside those of the log: equal but for the names of their ends, which are pairs.
use Rattle.std.proofs.Common.{◌≡◌, ℕ, Bool, true, false, cond, not, List, [], ◌∷◌, Some, None, refl, ap, filter, map}
use Rattle.std.specs.declared.cmp.Ordering.{Ordering}
use Rattle.std.specs.declared.cmp.Ordering.TheVariants.{Less, Equal, Greater}
use Rattle.ft_op.specs.declared.operations.TextOp.{TextOp}
use Rattle.ft_op.specs.declared.operations.TextOp.TheVariants.{One, Group, IntervalAdd, IntervalChange, IntervalDelete}
use Rattle.ft_props.specs.Properties.{Characters, apply, put_rising}
use Rattle.ft_props.specs.Element.{ElementId, ListElement, is_sequenced, is_unremoved, seen}
use Rattle.ft_op.specs.Intervals.{Interval, NamedElements, after_interval_operation, has_interval, interval_cmp, is_interval, settle_ends, slide_ends, with_changed_interval}
use Rattle.ft_op.specs.Pieces.{interval_piece}
use Rattle.ft_msg.specs.Content.{interval_record}
use Rattle.ft_laws_agreement.specs.Trimming.{are_distinct_elements}
use Rattle.ft_laws_agreement.proofs.RunsOfMarks.{Each}
use Rattle.ft_laws_agreement.proofs.PairedLists.{IsEndPair, Pair, end-changed, has_pair, lefts, number-pair, rights, settled-pair}

pub record IsIntervalPair (ps : List Pair) (i d : Interval) : Type 0 where
  pub label : d.label ≡ i.label
  pub id : d.id ≡ i.id
  pub props : d.props ≡ i.props
  pub start : IsEndPair ps i.start d.start
  pub end : IsEndPair ps i.end d.end

abbrev pub IntervalPairs : List Pair → List Interval → List Interval → Type 0
IntervalPairs ps [] [] = Unit {0}
IntervalPairs ps (i ∷ is) (d ∷ ds) = IsIntervalPair ps i d × IntervalPairs ps is ds
IntervalPairs ps _ _ = false ≡ true

-- both named elements are pairs
pub record AreNamedPairs (ps : List Pair) (names other : NamedElements) : Type 0 where
  pub first : IsEndPair ps names.first other.first
  pub second : IsEndPair ps names.second other.second

-- pairs that stay leave intervals pairs
pub pairs-stay : (ps qs : List Pair) → ((x y : ElementId) → has_pair ps x y ≡ true → has_pair qs x y ≡ true) → (is ds : List Interval) → IntervalPairs ps is ds
    → IntervalPairs qs is ds
pairs-stay ps qs f [] [] h = tt
pairs-stay ps qs f (i ∷ is) (d ∷ ds) h = (
  record {
    label = h.0.label;
    id = h.0.id;
    props = h.0.props;
    start = end-changed ps qs f i.start d.start h.0.start;
    end = end-changed ps qs f i.end d.end
        h.0.end;
  },
  pairs-stay ps qs f is ds h.1,
)
pairs-stay ps qs f [] (d ∷ ds) h = h
pairs-stay ps qs f (i ∷ is) [] h = h

module _ (k : ℕ) (ps : List Pair) (d : are_distinct_elements (lefts ps) ≡ true) (f : are_distinct_elements (rights ps) ≡ true) where
  -- ends settle on one side as they slide on the other
  pub pairs-settled : Each (λ p. is_unremoved p.1 ≡ seen k p.0) ps → Each (λ p. is_sequenced p.1 ≡ true) ps → (is ds : List Interval) → IntervalPairs ps is ds
      → IntervalPairs ps (settle_ends (lefts ps) k is) (slide_ends (rights ps) ds)
  pairs-settled u s [] [] h = tt
  pairs-settled u s (i ∷ is) (j ∷ ds) h = (
    record {
      label = h.0.label;
      id = h.0.id;
      props = h.0.props;
      start = settled-pair k ps d f u s i.start j.start h.0.start;
      end = settled-pair k ps d f u s i.end j.end h.0.end;
    },
    pairs-settled u s is ds h.1,
  )
  pairs-settled u s [] (j ∷ ds) h = h
  pairs-settled u s (i ∷ is) [] h = h

  -- and are shown alike
  pub pairs-shown : Each (λ p. seen 0 p.1 ≡ seen k p.0) ps → (is ds : List Interval) → IntervalPairs ps is ds → map (interval_record 0 (rights ps)) ds
      ≡ map (interval_record k (lefts ps)) is
  pairs-shown u [] [] h = refl
  pairs-shown u (i ∷ is) (j ∷ ds) h =
      rw (h.0.label, h.0.id, h.0.props, number-pair k ps d f u i.start j.start h.0.start, number-pair k ps d f u i.end j.end h.0.end, pairs-shown u is ds h.1) refl
  pairs-shown u [] (j ∷ ds) h = (cc)
  pairs-shown u (i ∷ is) [] h = (cc)

-- ---- an interval operation on both sides

module _ (ps : List Pair) where
  has-same : (label name : Characters) (is ds : List Interval) → IntervalPairs ps is ds → has_interval label name ds ≡ has_interval label name is
  has-same label name [] [] h = refl
  has-same label name (i ∷ is) (d ∷ ds) h = rw (h.0.label, h.0.id, has-same label name is ds h.1) refl
  has-same label name [] (d ∷ ds) h = (cc)
  has-same label name (i ∷ is) [] h = (cc)

  rising-pairs : (x y : Interval) → IsIntervalPair ps x y → (is ds : List Interval) → IntervalPairs ps is ds
      → IntervalPairs ps (put_rising interval_cmp x is) (put_rising interval_cmp y ds)
  rising-pairs x y e [] [] h = (e, tt)
  rising-pairs x y e (i ∷ is) (d ∷ ds) h =
      let same : interval_cmp y d ≡ interval_cmp x i = rw (e.label, e.id, h.0.label, h.0.id) refl in
      step (interval_cmp x i) (interval_cmp y d) same (rising-pairs x y e is ds h.1)
    where
      step : (o u : Ordering) → u ≡ o → IntervalPairs ps (put_rising interval_cmp x is) (put_rising interval_cmp y ds)
          → IntervalPairs ps (elim o [ Less ↦ x ∷ i ∷ is | Equal ↦ x ∷ is | Greater ↦ i ∷ put_rising interval_cmp x is ])
          (elim u [ Less ↦ y ∷ d ∷ ds | Equal ↦ y ∷ ds | Greater ↦ d ∷ put_rising interval_cmp y ds ])
      step Less Less q g = (e, h)
      step Equal Equal q g = (e, h.1)
      step Greater Greater q g = (h.0, g)
      step Less Equal q g = absurd cc
      step Less Greater q g = absurd cc
      step Equal Less q g = absurd cc
      step Equal Greater q g = absurd cc
      step Greater Less q g = absurd cc
      step Greater Equal q g = absurd cc
  rising-pairs x y e [] (d ∷ ds) h = absurd cc
  rising-pairs x y e (i ∷ is) [] h = absurd cc

  chosen-pair : (b c : Bool) (i j d e : Interval) → c ≡ b → IsIntervalPair ps i d → IsIntervalPair ps j e → IsIntervalPair ps (cond b i j) (cond c d e)
  chosen-pair true true i j d e q h k = h
  chosen-pair false false i j d e q h k = k
  chosen-pair true false i j d e q h k = absurd cc
  chosen-pair false true i j d e q h k = absurd cc

  changed-pairs : (label name : Characters) (f g : Interval → Interval) → ((i d : Interval) → IsIntervalPair ps i d → IsIntervalPair ps (f i) (g d))
      → (is ds : List Interval) → IntervalPairs ps is ds
      → IntervalPairs ps (with_changed_interval label name f is) (with_changed_interval label name g ds)
  changed-pairs label name f g k [] [] h = tt
  changed-pairs label name f g k (i ∷ is) (d ∷ ds) h =
      (chosen-pair (is_interval label name i) (is_interval label name d) (f i) i (g d) d (rw (h.0.label, h.0.id) refl) (k i d h.0) h.0, changed-pairs label name f g k is ds h.1)
  changed-pairs label name f g k [] (d ∷ ds) h = h
  changed-pairs label name f g k (i ∷ is) [] h = h

  deleted-pairs : (label name : Characters) (is ds : List Interval) → IntervalPairs ps is ds
      → IntervalPairs ps (filter (λ i. not (is_interval label name i)) is) (filter (λ i. not (is_interval label name i)) ds)
  deleted-pairs label name [] [] h = tt
  deleted-pairs label name (i ∷ is) (d ∷ ds) h =
      let same : is_interval label name d ≡ is_interval label name i = rw (h.0.label, h.0.id) refl in
      step (is_interval label name i) (is_interval label name d) same (deleted-pairs label name is ds h.1)
    where
      step : (b c : Bool) → c ≡ b → IntervalPairs ps (filter (λ i. not (is_interval label name i)) is) (filter (λ i. not (is_interval label name i)) ds)
          → IntervalPairs ps (cond (not b) (i ∷ filter (λ i. not (is_interval label name i)) is) (filter (λ i. not (is_interval label name i)) is))
          (cond (not c) (d ∷ filter (λ i. not (is_interval label name i)) ds) (filter (λ i. not (is_interval label name i)) ds))
      step true true q g = g
      step false false q g = (h.0, g)
      step true false q g = absurd cc
      step false true q g = absurd cc
  deleted-pairs label name [] (d ∷ ds) h = absurd cc
  deleted-pairs label name (i ∷ is) [] h = absurd cc

  pairs-choice : (b c : Bool) (is js ds es : List Interval) → c ≡ b → IntervalPairs ps is ds → IntervalPairs ps js es → IntervalPairs ps (cond b is js) (cond c ds es)
  pairs-choice true true is js ds es q h k = h
  pairs-choice false false is js ds es q h k = k
  pairs-choice true false is js ds es q h k = absurd cc
  pairs-choice false true is js ds es q h k = absurd cc

  -- the operation of a stage, and its piece, which may give other numbers
  pub operation-pairs : (k : ℕ) (xs : List ListElement) (settled : NamedElements) (op : TextOp) (names other : NamedElements) → AreNamedPairs ps names other
      → (is ds : List Interval) → IntervalPairs ps is ds
      → IntervalPairs ps (after_interval_operation op names is) (after_interval_operation (interval_piece k xs settled op) other ds)
  operation-pairs k xs settled (One op) names other n is ds h = h
  operation-pairs k xs settled (Group ops) names other n is ds h = h
  operation-pairs k xs settled (IntervalDelete label name) names other n is ds h = deleted-pairs label name is ds h
  operation-pairs k xs settled (IntervalAdd label name ends props) names other n is ds h =
      pairs-choice (has_interval label name is) (has_interval label name ds) is _ ds _ (has-same label name is ds h) h
      (rising-pairs (record { label = label; id = name; start = names.first; end = names.second; props = apply [] props })
      (record { label = label; id = name; start = other.first; end = other.second; props = apply [] props })
      (record { label = refl; id = refl; props = refl; start = n.first; end = n.second }) is ds h)
  operation-pairs k xs settled (IntervalChange label name None props) names other n is ds h =
      changed-pairs label name (λ i. record i { props = apply i.props props }) (λ i. record i { props = apply i.props props })
      (λ i d g. record { label = g.label; id = g.id; props = ap (λ p. apply p props) g.props; start = g.start; end = g.end }) is ds h
  operation-pairs k xs settled (IntervalChange label name (Some ends) props) names other n is ds h =
      changed-pairs label name (λ i. record i { start = names.first; end = names.second; props = apply i.props props })
      (λ i. record i { start = other.first; end = other.second; props = apply i.props props })
      (λ i d g. record { label = g.label; id = g.id; props = ap (λ p. apply p props) g.props; start = n.first; end = n.second }) is ds h
