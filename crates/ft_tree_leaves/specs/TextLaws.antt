-- The parts of a leaf of text hold its elements in order, and a joined leaf those of both.
use Rattle.std.proofs.Common.{◌≡◌, ℕ, ◌<◌, ◌≤◌, true, IsTrue, ◌++◌, Option, Some, None, length, take, drop, refl, sym, arith}
use Rattle.std.proofs.lemmas.Bool.Decides.{nat_tests}
use Rattle.std.proofs.lemmas.List.{drop-map, map-append, take-map}
use Rattle.ft_base.specs.declared.stamps.Stamp.{Stamp}
use Rattle.ft_base.specs.declared.stamps.Stamp.TheVariants.{Acked, Local}
use Rattle.ft_props.specs.Element.{Character}
use Rattle.ft_tree_leaves.specs.declared.text.TextPiece.{TextPiece}
use Rattle.ft_tree_leaves.specs.declared.text.TextPiece.TheVariants.{Run, Marker}
use Rattle.ft_tree_leaves.specs.declared.text.TextContent.{TextContent}
use Rattle.ft_tree_leaves.specs.TextLeaves.{front_piece, front_text, joined_piece, joined_text, make_one_run, piece_units, rear_piece, rear_text, same_author, text_units, texts_join}

-- of a run or a marker
front_piece_units : (at : ℕ) (x : TextPiece) → 1 ≤ at → at < length (piece_units x) → piece_units (front_piece at x) ≡ take at (piece_units x)
front_piece_units at (Run text) low high = sym (take-map Character at text)
front_piece_units at (Marker r) low high = absurd (omega arith)

rear_piece_units : (at : ℕ) (x : TextPiece) → 1 ≤ at → at < length (piece_units x) → piece_units (rear_piece at x) ≡ drop at (piece_units x)
rear_piece_units at (Run text) low high = sym (drop-map Character at text)
rear_piece_units at (Marker r) low high = absurd (omega arith)

joined_piece_units : (x y : TextPiece) → make_one_run x y ≡ true → piece_units (joined_piece x y) ≡ piece_units x ++ piece_units y
joined_piece_units (Run mine) (Run theirs) can = map-append Character mine theirs
joined_piece_units (Run mine) (Marker r) can = cc
joined_piece_units (Marker r) y can = cc

-- the test tells which authors are equal
same_author-is : (x y : Option Stamp) → same_author x y ≡ true → y ≡ x
same_author-is None None same = refl
same_author-is None (Some y) same = cc
same_author-is (Some x) None same = cc
same_author-is (Some (Acked s c)) (Some (Acked t d)) same = grind (arith, nat_tests)
same_author-is (Some (Acked s c)) (Some (Local k)) same = cc
same_author-is (Some (Local k)) (Some (Acked s c)) same = cc
same_author-is (Some (Local j)) (Some (Local k)) same = grind (arith, nat_tests)

-- of a leaf
pub front_text_units : (x : TextContent) (at : ℕ) → 1 ≤ at → at < length (text_units x) → text_units (front_text x at) ≡ take at (text_units x)
front_text_units x at low high = front_piece_units at x.piece low high

pub rear_text_units : (x : TextContent) (at : ℕ) → 1 ≤ at → at < length (text_units x) → text_units (rear_text x at) ≡ drop at (text_units x)
rear_text_units x at low high = rear_piece_units at x.piece low high

pub joined_text_units : (x y : TextContent) → IsTrue (texts_join x y) → text_units (joined_text x y) ≡ text_units x ++ text_units y
joined_text_units x y can = joined_piece_units x.piece y.piece (grind (arith, can))

-- leaves that join have one author
pub joined_text_by : (x y : TextContent) → IsTrue (texts_join x y) → y.by ≡ x.by
joined_text_by x y can = same_author-is x.by y.by (grind (arith, can))
