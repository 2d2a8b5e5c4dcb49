-- The intervals of a summary: their form and their order.
use Rattle.std.specs.Prelude.{ℕ, pos, negsuc, Bool, ◌&&◌, ◌||◌, int_le, int_lt, bytes_eq, List, [], ◌∷◌, Option, None}
use Rattle.std.specs.Ordering.{int_eq, is_lt}
use Rattle.serde_json.specs.Data.{Data}
use Rattle.ft_json.specs.Reading.{items}
use Rattle.ft_props.specs.Properties.{Characters, text_cmp}
use Rattle.ft_sumdoc.specs.declared.summary.Ends2.{Ends2}
use Rattle.ft_sumdoc.specs.Forms.{◌>>=◌, GivenProps, characters, each_of, place_number, props_form, rises, where_true}

-- an interval as an array gives it, its values not yet read
pub record GivenInterval : Type 0 where
  pub label : Characters
  pub id : Characters
  pub ends : Ends2
  pub props : GivenProps

-- whether the ends are both -1, or in order on so many elements
abbrev pub are_shown_ends : ℕ → Ends2 → Bool
are_shown_ends n e = (int_eq e.start (negsuc 0) && int_eq e.end (negsuc 0)) || (int_le (pos 0) e.start && int_le e.start e.end && int_lt e.end (pos n))

-- whether the first label and id stand before the second
abbrev pub is_name_before : Characters → Characters → Characters → Characters → Bool
is_name_before label id other_label other_id =
    is_lt (text_cmp label other_label) || (bytes_eq label other_label && is_lt (text_cmp id other_id))

abbrev pub is_given_interval_before : GivenInterval → GivenInterval → Bool
is_given_interval_before i j = is_name_before i.label i.id j.label j.id

-- the interval of these ends, if they are allowed on so many elements
abbrev pub interval_with : ℕ → Characters → Characters → Ends2 → GivenProps → Option GivenInterval
interval_with n label id ends props = where_true (are_shown_ends n ends) (record { label = label; id = id; ends = ends; props = props })

-- the interval of this label, this id and the values behind them: start, end, properties
abbrev pub interval_behind : ℕ → Characters → Characters → Data → Data → Data → Option GivenInterval
interval_behind n label id s e p = do
  start ← place_number s
  end ← place_number e
  props ← props_form p
  interval_with n label id (record { start = start; end = end }) props

-- the interval of five values: label, id, start, end, properties
abbrev pub interval_of_five : ℕ → List Data → Option GivenInterval
interval_of_five n (l ∷ i ∷ s ∷ e ∷ p ∷ []) = do
  label ← characters l
  id ← characters i
  start ← place_number s
  end ← place_number e
  props ← props_form p
  interval_with n label id (record { start = start; end = end }) props
interval_of_five n _ = None

-- the interval that a value is, on so many elements
abbrev pub interval_form : ℕ → Data → Option GivenInterval
interval_form n d = items d >>= interval_of_five n

-- the intervals that an array is, rising by label and id
abbrev pub intervals_form : ℕ → Data → Option (List GivenInterval)
intervals_form n d = do
  ds ← items d
  is ← each_of (interval_form n) ds
  where_true (rises is_given_interval_before is) is
