-- A list of origins as its maximal pieces, each with its end. The first begins at a given place, each other one where the one before it ends.
use Rattle.std.specs.Prelude.{◌≡◌, ◌≢◌, ℕ, ◌-◌, ◌<◌, cond, nat_lt, min, List, [], ◌∷◌, ◌++◌, length, drop, replicate, slice_index_or, ⊤, Option, Some, None}
use Rattle.ft_attrib.specs.declared.attribution.Origin.{Origin}
use Rattle.ft_attrib.specs.declared.attribution.AttrRun.{AttrRun}
use Rattle.ft_attrib.specs.declared.pieces.OriginPiece.{OriginPiece}

-- the origins that the pieces stand for
abbrev pub spread : ℕ → List OriginPiece → List Origin
spread from [] = []
spread from (x ∷ xs) = replicate (x.end - from) x.who ++ spread x.end xs

-- the origin isn't that of the first piece
abbrev pub IsOther : Origin → List OriginPiece → Type 0
IsOther o [] = ⊤
IsOther o (x ∷ xs) = o ≢ x.who

-- no piece is empty, and neighbours differ
abbrev pub IsCut : ℕ → List OriginPiece → Type 0
IsCut from [] = ⊤
IsCut from (x ∷ xs) = (from < x.end) × IsOther x.who xs × IsCut x.end xs

-- the new pieces are maximal too, and have origins o more at the end, up to before the given place
pub record AddsCharacters (old new : List OriginPiece) (end : ℕ) (o : Origin) : Type 0 where
  pub cut : IsCut 0 new
  pub origins : spread 0 new ≡ spread 0 old ++ replicate (end - length (spread 0 old)) o

-- the i-th piece
abbrev pub IsPieceAt : List OriginPiece → ℕ → OriginPiece → Type 0
IsPieceAt xs i x = (d : OriginPiece) → x ≡ slice_index_or xs i d

-- the pieces from place p on are these
pub record IsRestFrom (p : ℕ) (rest all : List OriginPiece) : Type 0 where
  pub cut : IsCut p rest
  pub origins : spread p rest ≡ drop p (spread 0 all)

-- the runs of the pieces, up to before q
abbrev pub clipped : ℕ → ℕ → List OriginPiece → List AttrRun
clipped q from [] = []
clipped q from (x ∷ xs) = cond (nat_lt from q) (record { start = from; end = min x.end q; who = x.who } ∷ clipped q x.end xs) []

-- the origin of the character at p, where p is before the end of a piece
abbrev pub origin_in : ℕ → List OriginPiece → Option Origin
origin_in p [] = None
origin_in p (x ∷ xs) = cond (nat_lt p x.end) (Some x.who) (origin_in p xs)
