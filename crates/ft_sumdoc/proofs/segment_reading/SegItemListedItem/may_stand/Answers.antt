use Rattle.std.proofs.Common.{◌≡◌, ◌∙◌, List, [], ◌∷◌, eqb, length, map, not, refl, ap, arith}
use Rattle.std.proofs.lemmas.Bool.{ne_eqb}
use Rattle.ft_sumdoc.specs.Items.{segment_of}
use Rattle.ft_sumdoc.specs.Segments.{has_some}
use Rattle.ft_sumdoc.proofs.segment_reading.SegItemListedItem.may_stand.Goals as goal

some_left : {A B : Type 0} (f : A → B) (xs : List A) → not (eqb (length xs) 0) ≡ has_some (map f xs)
some_left f [] = refl
some_left f (x ∷ xs) = ap not (ne_eqb (length (x ∷ xs)) 0 (λ e. absurd (omega arith)))

pub returns : goal.returns
returns c = ap not c.is_empty.ensures ∙ some_left segment_of c.args.items.now
