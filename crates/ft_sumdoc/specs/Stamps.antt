-- The stamps of segments and runs: their form, and which are in range and in order.
use Rattle.std.specs.Prelude.{ℕ, suc, Bool, true, not, ◌&&◌, is_none, nat_eq, nat_le, nat_lt, List, [], ◌∷◌, Option, Some, None, Result, Ok, Err, unwrap_or, if◌then◌else◌}
use Rattle.std.specs.List.{list_all, list_any}
use Rattle.serde_json.specs.Data.{Data}
use Rattle.ft_json.specs.declared.fields.Field.TheVariants.{Inserter, Insertion, Removals}
use Rattle.ft_json.specs.Reading.{count, field, items}
use Rattle.ft_sumdoc.specs.declared.summary.Mark.{Mark}
use Rattle.ft_sumdoc.specs.declared.summary.SumFault.{SumFault}
use Rattle.ft_sumdoc.specs.declared.summary.SumFault.TheVariants.{BadStamp}
use Rattle.ft_sumdoc.specs.Forms.{◌>>=◌, each_of, optional}

-- ---- form

-- the stamps that a segment or a run gives: its author, its insertion, its removals
pub record GivenStamps : Type 0 where
  pub author : Option Mark
  pub insertion : Option Mark
  pub removals : List Mark

-- the stamp of two counts
abbrev pub stamp_of_counts : List Data → Option Mark
stamp_of_counts (a ∷ b ∷ []) = do
  seq ← count a
  conn ← count b
  Some (record { seq = seq; conn = conn })
stamp_of_counts _ = None

-- the stamp that a value is: an array of two counts
abbrev pub stamp_form : Data → Option Mark
stamp_form d = items d >>= stamp_of_counts

-- the stamps that an array gives
abbrev pub stamps_form : Data → Option (List Mark)
stamps_form d = items d >>= each_of stamp_form

-- the author that an object gives, in a summary of version 2
abbrev pub author_form : ℕ → Data → Option (Option Mark)
author_form version d = if nat_eq version 2 then optional stamp_form (field d Inserter) else Some None

-- the stamps that an object gives, beside this author
abbrev pub stamps_with : Option Mark → Data → Option GivenStamps
stamps_with author d = do
  insertion ← optional stamp_form (field d Insertion)
  removals ← optional stamps_form (field d Removals)
  Some (record { author = author; insertion = insertion; removals = unwrap_or removals [] })

-- ---- range and order

-- the stamp that stands for one at or below the minimum, and for an author that isn't known
abbrev pub universal : Mark
universal = record { seq = 0; conn = 0 }

-- whether two stamps are equal
abbrev pub same_mark : Mark → Mark → Bool
same_mark a b = nat_eq a.seq b.seq && nat_eq a.conn b.conn

-- whether it is that stamp
abbrev pub is_universal : Mark → Bool
is_universal m = same_mark m universal

-- the stamp, unless it is that one
abbrev pub unless_universal : Mark → Option Mark
unless_universal m = if is_universal m then None else Some m

-- what stamps are tested with: the minimum sequence number, the sequence number, and how many connections have names
pub record Bounds : Type 0 where
  pub min : ℕ
  pub seq : ℕ
  pub conns : ℕ

-- whether its number is above low and at most high, and its connection has a name
abbrev pub is_within_bounds : ℕ → ℕ → Bounds → Mark → Bool
is_within_bounds low high b m = nat_lt low m.seq && nat_le m.seq high && nat_lt 0 m.conn && nat_le m.conn b.conns

-- whether it may be the stamp of an insertion or a removal: it is above the minimum
abbrev pub is_recent : Bounds → Mark → Bool
is_recent b m = is_within_bounds b.min b.seq b m

-- whether it may be the author of an insertion at or below the minimum
abbrev pub is_old : Bounds → Mark → Bool
is_old b m = is_within_bounds 0 b.min b m

-- whether the numbers rise from low on, and no connection stands twice
abbrev pub removals_rise : ℕ → List Mark → Bool
removals_rise low [] = true
removals_rise low (m ∷ ms) = nat_le low m.seq && not (list_any (λ n. nat_eq m.conn n.conn) ms) && removals_rise (suc m.seq) ms

-- whether these may be the removals of what was inserted with this number
abbrev pub are_removals : Bounds → ℕ → List Mark → Bool
are_removals b low ms = list_all (is_recent b) ms && removals_rise low ms

-- whether the author that is given is allowed: no insertion is given beside it
abbrev pub is_good_author : Bounds → Option Mark → Option Mark → Bool
is_good_author b None insertion = true
is_good_author b (Some m) insertion = is_none insertion && is_old b m

-- whether the insertion that is given is allowed
abbrev pub is_good_insertion : Bounds → Option Mark → Bool
is_good_insertion b None = true
is_good_insertion b (Some m) = is_recent b m

-- the insertion that is given, or the universal one
abbrev pub given_insertion : GivenStamps → Mark
given_insertion s = unwrap_or s.insertion universal

-- the author that is given, or that of the insertion
abbrev pub given_author : GivenStamps → Mark
given_author s = unwrap_or s.author (given_insertion s)

-- whether the stamps of a segment or a run are in range and in order
abbrev pub are_good_stamps : Bounds → GivenStamps → Bool
are_good_stamps b s = is_good_author b s.author s.insertion && is_good_insertion b s.insertion && are_removals b (given_insertion s).seq s.removals

-- the place behind these stamps, the first of which have place n; or the first place with bad ones
abbrev pub places_behind : Bounds → ℕ → List GivenStamps → Result ℕ SumFault
places_behind b n [] = Ok n
places_behind b n (s ∷ ss) = if are_good_stamps b s then places_behind b (suc n) ss else Err (BadStamp n)
