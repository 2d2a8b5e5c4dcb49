-- The characters and the marker of a leaf's content.
use Rattle.std.proofs.Common.{◌≡◌, ℕ, ◌+◌, List, [], ◌∷◌, ◌++◌, Some, None, refl, sym, ◌∙◌, ap, map, append-nil}
use Rattle.ft_tree_leaves.specs.declared.text.TextPiece.{TextPiece}
use Rattle.ft_tree_leaves.specs.declared.text.TextPiece.TheVariants.{Marker, Run}
use Rattle.ft_tree_leaves.specs.TextLeaves.{piece_ref_type, piece_text, piece_units}
use Rattle.ft_msg.specs.declared.views.Spot.{Spot}
use Rattle.ft_props.specs.Element.{Character}
use Rattle.ft_text.specs.Shows.{characters_of, markers_of}

no-markers : (i : ℕ) (cs : List ℕ) → markers_of i (map Character cs) ≡ []
no-markers i [] = refl
no-markers i (c ∷ cs) = no-markers (i + 1) cs

-- a run has no marker
pub none-marked : (p : TextPiece) (i : ℕ) (ms : List Spot) → piece_ref_type p ≡ None → ms ≡ ms ++ markers_of i (piece_units p)
none-marked (Run text) i ms h = sym (append-nil ms) ∙ ap (λ ns. ms ++ ns) (sym (no-markers i text))
none-marked (Marker r) i ms h = (cc)

characters-same : (cs : List ℕ) → characters_of (map Character cs) ≡ cs
characters-same [] = refl
characters-same (c ∷ cs) = ap (λ ds. c ∷ ds) (characters-same cs)

-- the characters of a run
pub run-characters : (p : TextPiece) (cs : List ℕ) → Some cs ≡ piece_text p → characters_of (piece_units p) ≡ cs
run-characters (Run text) cs h = let same : text ≡ cs = (cc) in characters-same text ∙ same
run-characters (Marker r) cs h = (cc)
