-- Intervals by rising label and id, each with its ends: references where they are kept, places where a view is worked out.
-- What an operation makes of them doesn't depend on that.
use Rattle.std.specs.Prelude.{◌≡◌, ◌<◌, ◌≤◌, ℕ, Bool, true, false, cond, get_or, is_some, length, List, [], ◌∷◌, Option, Some, None, Result, Ok, Err, ⊤}
use Rattle.std.specs.Global.{Vec}
use Rattle.std.specs.Ordering.{is_eq, is_le, ordering_then}
use Rattle.std.specs.declared.cmp.Ordering.{Ordering}
use Rattle.std.specs.declared.cmp.Ordering.TheVariants.{Less, Equal, Greater}
use Rattle.ft_op.specs.declared.operations.Ends.{Ends}
use Rattle.ft_op.specs.declared.operations.TextOp.{TextOp}
use Rattle.ft_op.specs.declared.operations.TextOp.TheVariants.{IntervalAdd, IntervalChange, IntervalDelete}
use Rattle.ft_props.specs.Keys.{Characters, next_place, text_cmp, put_rising}
use Rattle.ft_props.specs.Properties.{PropertySet, apply}
use Rattle.ft_interval_store.specs.declared.intervals.EndPair.{EndPair}
use Rattle.ft_interval_store.specs.declared.intervals.Interval.{Interval}

-- the name of an interval: its label, and its id in that
abbrev pub Name : Type 0
Name = Characters × Characters

-- the order of names: by label, then by id
abbrev pub name_cmp : Name → Name → Ordering
name_cmp a b = ordering_then (text_cmp a.0 b.0) (text_cmp a.1 b.1)

-- the name that an operation is about; it is empty where the operation isn't about an interval
abbrev pub name_in : TextOp → Name
name_in (IntervalAdd label id ends props) = (label, id)
name_in (IntervalChange label id ends props) = (label, id)
name_in (IntervalDelete label id) = (label, id)
name_in _ = ([], [])

-- whether the operation is on the interval of that name
abbrev pub is_on : Name → TextOp → Bool
is_on n (IntervalAdd label id ends props) = is_eq (name_cmp n (label, id))
is_on n (IntervalChange label id ends props) = is_eq (name_cmp n (label, id))
is_on n (IntervalDelete label id) = is_eq (name_cmp n (label, id))
is_on n _ = false

-- whether an operation leaves the interval that it is on there, where that follows from the operation alone
abbrev pub there_after : TextOp → Option Bool
there_after (IntervalAdd label id ends props) = Some true
there_after (IntervalDelete label id) = Some false
there_after _ = None

-- the same of the interval of that name
abbrev pub told_there : Name → TextOp → Option Bool
told_there n op = cond (is_on n op) (there_after op) None

module _ {T : Type 0} where
  -- the name of an interval
  abbrev pub name_of : Interval T → Name
  name_of i = (i.label, i.id)

  -- whether the interval is of that label
  abbrev pub has_label : Characters → Interval T → Bool
  has_label label i = is_eq (text_cmp label i.label)

  -- all are of the label
  abbrev pub AreOfLabel : Characters → List (Interval T) → Type 0
  AreOfLabel label [] = ⊤
  AreOfLabel label (i ∷ is) = (i.label ≡ label) × AreOfLabel label is

  -- the order of intervals
  abbrev pub interval_cmp : Interval T → Interval T → Ordering
  interval_cmp a b = name_cmp (name_of a) (name_of b)

  -- the name comes before that of each interval
  abbrev pub IsBeforeNames : Name → List (Interval T) → Type 0
  IsBeforeNames n [] = ⊤
  IsBeforeNames n (i ∷ is) = (name_cmp n (name_of i) ≡ Less) × IsBeforeNames n is

  -- each name comes before those behind it
  abbrev pub NamesRise : List (Interval T) → Type 0
  NamesRise [] = ⊤
  NamesRise (i ∷ is) = IsBeforeNames (name_of i) is × NamesRise is

  -- the place of the name among rising names, or else, as an error, the place where it would stand
  abbrev pub place_of_name : Name → List (Interval T) → Result ℕ ℕ
  place_of_name n [] = Err 0
  place_of_name n (i ∷ is) = elim (name_cmp n (name_of i)) [ Less ↦ Err 0 | Equal ↦ Ok 0 | Greater ↦ next_place (place_of_name n is) ]

  -- the place of the name that an operation is on, in the same way; 0 where the operation isn't about an interval
  abbrev pub place_of_operation : TextOp → List (Interval T) → Result ℕ ℕ
  place_of_operation (IntervalAdd label id ends props) is = place_of_name (label, id) is
  place_of_operation (IntervalChange label id ends props) is = place_of_name (label, id) is
  place_of_operation (IntervalDelete label id) is = place_of_name (label, id) is
  place_of_operation _ is = Err 0

  -- the interval of that name, if it is there
  abbrev pub interval_of : Name → List (Interval T) → Option (Interval T)
  interval_of n [] = None
  interval_of n (i ∷ is) = elim (name_cmp n (name_of i)) [ Less ↦ None | Equal ↦ Some i | Greater ↦ interval_of n is ]

  -- the intervals with f of the one of that name
  abbrev pub with_changed : Name → (Interval T → Interval T) → List (Interval T) → List (Interval T)
  with_changed n f [] = []
  with_changed n f (i ∷ is) = elim (name_cmp n (name_of i)) [ Less ↦ i ∷ is | Equal ↦ f i ∷ is | Greater ↦ i ∷ with_changed n f is ]

  -- the intervals without the one of that name
  abbrev pub without_name : Name → List (Interval T) → List (Interval T)
  without_name n [] = []
  without_name n (i ∷ is) = elim (name_cmp n (name_of i)) [ Less ↦ i ∷ is | Equal ↦ is | Greater ↦ i ∷ without_name n is ]

  -- the interval with these ends, if an operation gives some, and the set applied to its properties
  abbrev pub changed_interval : Option Ends → EndPair T → PropertySet → Interval T → Interval T
  changed_interval given ends props i = record i { ends = cond (is_some given) ends i.ends; props = apply i.props props }

  -- the interval that an operation adds
  abbrev pub added_interval : Characters → Characters → EndPair T → PropertySet → Interval T
  added_interval label id ends props = record { label = label; id = id; ends = ends; props = apply [] props }

  -- the intervals after an operation with these ends: an add does nothing where the name is there, a change and a delete
  -- nothing where it isn't
  abbrev pub after_operation : TextOp → EndPair T → List (Interval T) → List (Interval T)
  after_operation (IntervalAdd label id given props) ends is =
      cond (is_some (interval_of (label, id) is)) is
      (put_rising interval_cmp (added_interval label id ends props) is)
  after_operation (IntervalChange label id given props) ends is = with_changed (label, id) (changed_interval given ends props) is
  after_operation (IntervalDelete label id) ends is = without_name (label, id) is
  after_operation _ ends is = is

  -- what an operation on an interval makes of the one that is there, if one is
  abbrev pub after_own : TextOp → EndPair T → Option (Interval T) → Option (Interval T)
  after_own (IntervalAdd label id given props) ends None = Some (record { label = label; id = id; ends = ends; props = apply [] props })
  after_own (IntervalChange label id given props) ends (Some i) = Some (changed_interval given ends props i)
  after_own (IntervalDelete label id) ends i = None
  after_own _ ends i = i

  -- what any operation makes of the interval of that name, if it is there
  abbrev pub one_after : Name → TextOp → EndPair T → Option (Interval T) → Option (Interval T)
  one_after n op ends i = cond (is_on n op) (after_own op ends i) i

  -- whether the first interval doesn't stand behind the name
  abbrev pub begins_by : Name → List (Interval T) → Bool
  begins_by n [] = false
  begins_by n (i ∷ is) = is_le (name_cmp (name_of i) n)

  -- of the pages those before place k don't begin behind the name, and the others do
  pub record IsCutBy (n : Name) (ps : List (Vec (Interval T))) (k : ℕ) : Type 0 where
    pub within : k ≤ length ps
    pub by : (i : ℕ) (p : Vec (Interval T)) → i < k → begins_by n (get_or ps i p).items ≡ true
    pub behind : (i : ℕ) (p : Vec (Interval T)) → k ≤ i → i < length ps → begins_by n (get_or ps i p).items ≡ false
