-- The maximal runs of a list of origins, and how many of its origins pass a test.
use Rattle.std.specs.Prelude.{ℕ, ◌+◌, Bool, true, false, cond, ◌&&◌, nat_eq, List, [], ◌∷◌, length}
use Rattle.std.specs.List.{filter}
use Rattle.ft_attrib.specs.declared.attribution.Origin.{Origin}
use Rattle.ft_attrib.specs.declared.attribution.Origin.TheVariants.{Known, Unknown, Pending}
use Rattle.ft_attrib.specs.declared.attribution.AttrRun.{AttrRun}

-- whether two origins are equal
abbrev pub same_origin : Origin → Origin → Bool
same_origin (Known s c) (Known t d) = nat_eq s t && nat_eq c d
same_origin Unknown Unknown = true
same_origin Pending Pending = true
same_origin _ _ = false

-- runs with an origin at place i before them
abbrev pub extended_origins : ℕ → Origin → List AttrRun → List AttrRun
extended_origins i o [] = record { start = i; end = i + 1; who = o } ∷ []
extended_origins i o (run ∷ runs) = cond (same_origin o run.who) (record run { start = i } ∷ runs) (record { start = i; end = i + 1; who = o } ∷ run ∷ runs)

-- the maximal runs of equal origins, the first of them at place i
abbrev pub origin_runs : ℕ → List Origin → List AttrRun
origin_runs i [] = []
origin_runs i (o ∷ os) = extended_origins i o (origin_runs (i + 1) os)

-- how many origins pass the test
abbrev pub how_many : (Origin → Bool) → List Origin → ℕ
how_many test os = length (filter test os)
