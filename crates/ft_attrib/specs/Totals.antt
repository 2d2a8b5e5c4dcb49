-- How many origins of a list each connection has.
use Rattle.std.specs.Prelude.{◌≡◌, ◌<◌, ◌≤◌, ⊤, ℕ, suc, ◌+◌, Bool, false, cond, nat_eq, nat_lt, List, [], ◌∷◌}
use Rattle.ft_attrib.specs.declared.attribution.Origin.{Origin}
use Rattle.ft_attrib.specs.declared.attribution.Origin.TheVariants.{Known}
use Rattle.ft_attrib.specs.declared.attribution.Total.{Total}
use Rattle.ft_attrib.specs.Runs.{how_many}

-- whether the origin is of that connection
abbrev pub is_by : ℕ → Origin → Bool
is_by conn (Known s c) = nat_eq conn c
is_by conn _ = false

-- the totals with n more of a connection at the first one, which has its number or a higher one
abbrev pub with_count_first : ℕ → ℕ → Total → List Total → List Total
with_count_first conn n t ts = cond (nat_eq t.conn conn) (record t { count = t.count + n } ∷ ts) (record { conn = conn; count = n } ∷ t ∷ ts)

-- the totals with n more of a connection
abbrev pub with_count : ℕ → ℕ → List Total → List Total
with_count conn n [] = record { conn = conn; count = n } ∷ []
with_count conn n (t ∷ ts) = cond (nat_lt t.conn conn) (t ∷ with_count conn n ts) (with_count_first conn n t ts)

-- the totals with n more of an origin, if its connection is known
abbrev pub with_origin : Origin → ℕ → List Total → List Total
with_origin (Known s c) n ts = with_count c n ts
with_origin _ n ts = ts

-- the totals with each origin of the list counted
abbrev pub counted_all : List Total → List Origin → List Total
counted_all ts [] = ts
counted_all ts (o ∷ os) = counted_all (with_origin o 1 ts) os

-- how many origins each connection has, by rising connection, those that have none left out
abbrev pub totals : List Origin → List Total
totals os = counted_all [] os

-- how many the totals count of the connection
abbrev pub count_of : ℕ → List Total → ℕ
count_of conn [] = 0
count_of conn (t ∷ ts) = cond (nat_eq conn t.conn) t.count (count_of conn ts)

-- the connection comes before the first total
abbrev pub IsBeforeTotal : ℕ → List Total → Type 0
IsBeforeTotal conn [] = ⊤
IsBeforeTotal conn (t ∷ ts) = conn < t.conn

-- connections rise, and no count is 0
abbrev pub TotalsRise : List Total → Type 0
TotalsRise [] = ⊤
TotalsRise (t ∷ ts) = (1 ≤ t.count) × IsBeforeTotal t.conn ts × TotalsRise ts

-- the totals rise, and count for each connection how many origins are of it
pub record AreTotals (os : List Origin) (ts : List Total) : Type 0 where
  pub rise : TotalsRise ts
  pub counts : (conn : ℕ) → count_of conn ts ≡ how_many (is_by conn) os

-- how many they count in all
abbrev pub summed : List Total → ℕ
summed [] = 0
summed (t ∷ ts) = t.count + summed ts

-- the place of the connection's total, or where it would stand
abbrev pub place_of_total : ℕ → List Total → ℕ
place_of_total conn [] = 0
place_of_total conn (t ∷ ts) = cond (nat_lt t.conn conn) (suc (place_of_total conn ts)) 0
