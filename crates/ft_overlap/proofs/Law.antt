-- Places under which ends keep their order keep an index in order.
use Rattle.std.proofs.Common.{ℕ, ℤ, ◌≤ℤ◌, List, [], ◌∷◌, All, Contains, refl, inl, inr, arith}
use Rattle.std.proofs.lemmas.List.Elements.{All-nil, All-cons, All-head, All-tail, All-weaker, Contains-append_right}
use Rattle.ft_overlap.specs.declared.items.Item.{Item}
use Rattle.ft_overlap.specs.Items.{Below, ItemList, IsInOrder, IsRising, IsGreatest, NamesGreatest, KeepsOrder, IsEndIn}

-- a list with each of its elements
pub each_in : {X : Type 0} (xs : List X) → All (Contains xs) xs
each_in [] = All-nil (Contains [])
each_in (x ∷ xs) = All-cons (Contains (x ∷ xs)) x xs (0, omega arith, refl)
    (All-weaker (Contains xs) (Contains (x ∷ xs)) (λ y h. Contains-append_right (x ∷ []) xs y h) xs (each_in xs))

-- the items of the block, and the one that it names, are among all
abbrev pub IsPart : List Item → Below → Type 0
IsPart all b = Contains all b.named × All (Contains all) b.items

module _ (p q : ℕ → ℤ) (all : List Item) (keeps : KeepsOrder p q all) where
  start_in : (x : Item) → Contains all x → IsEndIn all x.start
  start_in x h = (x, h, inl refl)

  end_in : (x : Item) → Contains all x → IsEndIn all x.end
  end_in x h = (x, h, inr refl)

  behind_kept : (x : Item) (ys : List Item) → Contains all x → All (Contains all) ys → All (λ y. p x.start ≤ℤ p y.start) ys
      → All (λ y. q x.start ≤ℤ q y.start) ys
  behind_kept x [] m h l = All-nil (λ y. q x.start ≤ℤ q y.start)
  behind_kept x (y ∷ ys) m h l = All-cons (λ y. q x.start ≤ℤ q y.start) y ys
      (keeps x.start y.start (start_in x m) (start_in y (All-head (Contains all) y ys h)) (All-head (λ y. p x.start ≤ℤ p y.start) y ys l))
      (behind_kept x ys m (All-tail (Contains all) y ys h) (All-tail (λ y. p x.start ≤ℤ p y.start) y ys l))

  pub rising_kept : (xs : List Item) → All (Contains all) xs → IsRising p xs → IsRising q xs
  rising_kept [] h r = tt
  rising_kept (x ∷ xs) h r =
      (behind_kept x xs (All-head (Contains all) x xs h) (All-tail (Contains all) x xs h) r.0, rising_kept xs (All-tail (Contains all) x xs h) r.1)

  pub greatest_kept : (v : Item) (ys : List Item) → Contains all v → All (Contains all) ys → IsGreatest p v ys → IsGreatest q v ys
  greatest_kept v [] m h l = All-nil (λ y. q y.end ≤ℤ q v.end)
  greatest_kept v (y ∷ ys) m h l = All-cons (λ y. q y.end ≤ℤ q v.end) y ys
      (keeps y.end v.end (end_in y (All-head (Contains all) y ys h)) (end_in v m) (All-head (λ y. p y.end ≤ℤ p v.end) y ys l))
      (greatest_kept v ys m (All-tail (Contains all) y ys h) (All-tail (λ y. p y.end ≤ℤ p v.end) y ys l))

  blocks_kept : (bs : List Below) → All (IsPart all) bs → All (NamesGreatest p) bs → All (NamesGreatest q) bs
  blocks_kept [] h g = All-nil (NamesGreatest q)
  blocks_kept (b ∷ bs) h g =
      let part = All-head (IsPart all) b bs h in
      All-cons (NamesGreatest q) b bs (greatest_kept b.named b.items part.0 part.1 (All-head (NamesGreatest p) b bs g))
      (blocks_kept bs (All-tail (IsPart all) b bs h) (All-tail (NamesGreatest p) b bs g))

pub order_kept : (p q : ℕ → ℤ) (x : ItemList) → KeepsOrder p q x.items → All (IsPart x.items) x.blocks → IsInOrder p x → IsInOrder q x
order_kept p q x keeps parts o =
    record { rising = rising_kept p q x.items keeps x.items (each_in x.items) o.rising; greatest = blocks_kept p q x.items keeps x.blocks parts o.greatest }
