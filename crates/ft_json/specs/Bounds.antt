-- The limits of what is read and kept.
use Rattle.std.specs.Prelude.{ℕ, ◌^◌}

-- counts, and the sizes of the numbers of fields, are below it
abbrev pub number_limit : ℕ
number_limit = 2 ^ 53

-- the most levels of a value that is kept
abbrev pub kept_levels : ℕ
kept_levels = 100

-- the most levels of a value that is read
abbrev pub read_levels : ℕ
read_levels = 127
