-- Lists of items compared by the sums of lengths that they have for each element's stamps.
--     length_of e items      the lengths of the items whose stamps are e
--     SameByStamps xs ys      for all stamps the items with these stamps have the same sum of lengths
use Rattle.std.specs.Prelude.{◌≡◌, ℕ, Bool, true, false, ◌&&◌, nat_eq, List, [], ◌∷◌}
use Rattle.ft_base.specs.declared.stamps.Stamp.{Stamp}
use Rattle.ft_base.specs.declared.stamps.Stamp.TheVariants.{Acked, Local}
use Rattle.ft_base.specs.declared.elements.Element.{Element}
use Rattle.ft_partial.specs.Items.{Item, item_of, length_where}

-- the stamps are equal
abbrev pub same_stamp : Stamp → Stamp → Bool
same_stamp (Acked s c) (Acked t d) = nat_eq s t && nat_eq c d
same_stamp (Acked s c) (Local k) = false
same_stamp (Local k) (Acked s c) = false
same_stamp (Local j) (Local k) = nat_eq j k

-- the lists have equal stamps in the same order
abbrev pub have_same_stamps : List Stamp → List Stamp → Bool
have_same_stamps [] [] = true
have_same_stamps [] (y ∷ ys) = false
have_same_stamps (x ∷ xs) [] = false
have_same_stamps (x ∷ xs) (y ∷ ys) = same_stamp x y && have_same_stamps xs ys

-- the elements have equal stamps
abbrev pub same_element : Element → Element → Bool
same_element e f = same_stamp e.ins f.ins && have_same_stamps e.dels f.dels

-- the lengths of the items whose stamps are e
abbrev pub length_of : Element → List Item → ℕ
length_of e xs = length_where (same_element e) xs

-- for all stamps the items with these stamps have the same sum of lengths
abbrev pub SameByStamps : List Item → List Item → Type 0
SameByStamps xs ys = (e : Element) → length_of e xs ≡ length_of e ys

-- ys are xs with a length m of stamps f in the place of a length n of stamps e
abbrev pub ExchangesItem : List Item → List Item → Element → ℕ → Element → ℕ → Type 0
ExchangesItem xs ys e n f m = SameByStamps (item_of e n ∷ ys) (item_of f m ∷ xs)
