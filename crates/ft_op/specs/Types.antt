-- The numbers of the types of operations, and the limit of a splice.
use Rattle.std.specs.Prelude.{ℕ}

-- an insertion of the text
abbrev pub insertion_type : ℕ
insertion_type = 0

-- a removal of the text
abbrev pub removal_type : ℕ
removal_type = 1

-- an annotation of the text
abbrev pub annotation_type : ℕ
annotation_type = 2

-- a group, of the text or of the grid
abbrev pub group_type : ℕ
group_type = 3

-- a splice that puts units in
abbrev pub splice_in_type : ℕ
splice_in_type = 0

-- a splice that takes units out
abbrev pub splice_out_type : ℕ
splice_out_type = 1

-- the most units that a splice puts in
abbrev pub splice_limit : ℕ
splice_limit = 1000000
