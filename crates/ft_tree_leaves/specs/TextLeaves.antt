-- What a leaf of text holds: which parts a cut leaves, and what may be joined.
use Rattle.std.specs.Prelude.{ℕ, ◌+◌, Bool, true, false, ◌&&◌, nat_le, List, [], ◌∷◌, ◌++◌, Option, Some, None, length, map, take, drop}
use Rattle.ft_base.specs.declared.stamps.Stamp.{Stamp}
use Rattle.ft_base.specs.declared.stamps.Stamp.TheVariants.{Acked}
use Rattle.ft_partial.specs.SameStamps.{same_stamp}
use Rattle.ft_props.specs.Element.{ElementContent, Character, MarkerOf}
use Rattle.ft_tree_leaves.specs.declared.text.TextPiece.{TextPiece}
use Rattle.ft_tree_leaves.specs.declared.text.TextPiece.TheVariants.{Run, Marker}
use Rattle.ft_tree_leaves.specs.declared.text.TextContent.{TextContent}
use Rattle.ft_tree_leaves.specs.TextRuns.{longest_run}

-- whether the authors of two insertions are the same, or both insertions are pending
abbrev pub same_author : Option Stamp → Option Stamp → Bool
same_author None None = true
same_author (Some x) (Some y) = same_stamp x y
same_author _ _ = false

-- the elements of a run or of a marker
abbrev pub piece_units : TextPiece → List ElementContent
piece_units (Run text) = map Character text
piece_units (Marker r) = MarkerOf r ∷ []

-- the first elements; a marker isn't cut
abbrev pub front_piece : ℕ → TextPiece → TextPiece
front_piece at (Run text) = Run (take at text)
front_piece at (Marker r) = Marker r

-- the elements behind the first ones
abbrev pub rear_piece : ℕ → TextPiece → TextPiece
rear_piece at (Run text) = Run (drop at text)
rear_piece at (Marker r) = Marker r

-- whether both are runs that make one run
abbrev pub make_one_run : TextPiece → TextPiece → Bool
make_one_run (Run mine) (Run theirs) = nat_le (length mine + length theirs) longest_run
make_one_run _ _ = false

-- one run of both
abbrev pub joined_piece : TextPiece → TextPiece → TextPiece
joined_piece (Run mine) (Run theirs) = Run (mine ++ theirs)
joined_piece x y = x

-- the elements of a text's leaf
abbrev pub text_units : TextContent → List ElementContent
text_units x = piece_units x.piece

-- a leaf of a pending insertion
abbrev pub new_text : TextPiece → TextContent
new_text x = record { piece = x; by = None }

-- the characters of a run
abbrev pub piece_text : TextPiece → Option (List ℕ)
piece_text (Run text) = Some text
piece_text (Marker r) = None

-- the reference type of a marker
abbrev pub piece_ref_type : TextPiece → Option ℕ
piece_ref_type (Run text) = None
piece_ref_type (Marker r) = Some r

-- the characters of a leaf, None for a marker
abbrev pub text_of : TextContent → Option (List ℕ)
text_of x = piece_text x.piece

-- the reference type of a leaf's marker, None for a run
abbrev pub ref_type_of : TextContent → Option ℕ
ref_type_of x = piece_ref_type x.piece

-- the leaf's first elements
abbrev pub front_text : TextContent → ℕ → TextContent
front_text x at = record x { piece = front_piece at x.piece }

-- the leaf's elements behind the first ones
abbrev pub rear_text : TextContent → ℕ → TextContent
rear_text x at = record x { piece = rear_piece at x.piece }

-- whether both leaves are of one author, and runs that make one run
abbrev pub texts_join : TextContent → TextContent → Bool
texts_join x y = make_one_run x.piece y.piece && same_author x.by y.by

-- one leaf of both
abbrev pub joined_text : TextContent → TextContent → TextContent
joined_text x y = record x { piece = joined_piece x.piece y.piece }

-- the author of an insertion that was sequenced under number s of connection c
abbrev pub text_author : ℕ → ℕ → Option Stamp
text_author s c = Some (Acked s c)

-- the leaf after its insertion was sequenced so
abbrev pub stamped_text : TextContent → ℕ → ℕ → TextContent
stamped_text x s c = record x { by = text_author s c }
