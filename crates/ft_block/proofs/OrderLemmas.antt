-- Which of two numbers of a list stands first, along the list and level by level.
use Rattle.std.proofs.Common.{◌≡◌, ◌≢◌, ℕ, ◌+◌, ◌-◌, ◌<◌, ◌≤◌, List, [], ◌∷◌, length, Bool, true, false, nat_lt, Some, None, IsSome, refl, sym, ap, subst, ◌∙◌, inl, inr, arith}
use Rattle.std.proofs.lemmas.Bool.{cases_eq, cases_lt, lt-ltb, le-ltb}
use Rattle.std.proofs.lemmas.List.{length-append}
use Rattle.std.specs.List.{flat_map}
use Rattle.ft_arena.specs.Ids.{times, points}
use Rattle.ft_arena.specs.Forest.{Forest, entry, kids_of, parent_of, block_value}
use Rattle.ft_arena.proofs.IdLemmas.{same_other}
use Rattle.ft_shape.specs.declared.headed.Headed.{Headed}
use Rattle.ft_shape.specs.Tree.{total, numbers_before, IsTree, height_of, below}
use Rattle.ft_shape.proofs.Levels.{block_from_height, points_at}
use Rattle.ft_shape.proofs.LevelLemmas.{below-below}
use Rattle.ft_shape.proofs.EditLemmas.{some_of}
use Rattle.ft_shape.proofs.KindLemmas.{block_live}
use Rattle.ft_shape.proofs.FitLemmas.{on_level}
use Rattle.ft_block.specs.declared.summaries.Summary.{Summary}
use Rattle.ft_block.proofs.PositionLemmas.{before_here, before_later, before-flat_map}

-- whether the first number stands before the second
abbrev pub comes_before : List ℕ → ℕ → ℕ → Bool
comes_before xs x y = nat_lt (length (numbers_before xs x)) (length (numbers_before xs y))

pub before_second : (xs : List ℕ) (x y : ℕ) → comes_before (y ∷ xs) x y ≡ false
before_second xs x y = le-ltb (length (numbers_before (y ∷ xs) x)) (length (numbers_before (y ∷ xs) y)) (omega (arith, ap length (before_here y xs)))

pub before_first : (xs : List ℕ) (x y : ℕ) → x ≢ y → comes_before (x ∷ xs) x y ≡ true
before_first xs x y d =
    lt-ltb (length (numbers_before (x ∷ xs) x)) (length (numbers_before (x ∷ xs) y))
    (omega (arith, ap length (before_here x xs), ap length (before_later x xs y d)))

pub before_rest : (z : ℕ) (xs : List ℕ) (x y : ℕ) → z ≢ x → z ≢ y → comes_before (z ∷ xs) x y ≡ comes_before xs x y
before_rest z xs x y d e =
    let a : length (numbers_before (z ∷ xs) x) ≡ length (numbers_before xs x) + 1 = omega (arith, ap length (before_later z xs x d)) in
    let b : length (numbers_before (z ∷ xs) y) ≡ length (numbers_before xs y) + 1 = omega (arith, ap length (before_later z xs y e)) in
    elim (cases_lt (length (numbers_before xs x)) (length (numbers_before xs y))) [
      | inl l ↦ lt-ltb (length (numbers_before (z ∷ xs) x)) (length (numbers_before (z ∷ xs) y)) (omega (arith, a, b, l))
          ∙ sym (lt-ltb (length (numbers_before xs x)) (length (numbers_before xs y)) l)
      | inr l ↦ le-ltb (length (numbers_before (z ∷ xs) x)) (length (numbers_before (z ∷ xs) y)) (omega (arith, a, b, l))
          ∙ sym (le-ltb (length (numbers_before xs x)) (length (numbers_before xs y)) l)
    ]

-- fewer numbers than all stand before one of them
pub length-before : (xs : List ℕ) (x : ℕ) → 1 ≤ times xs x → length (numbers_before xs x) < length xs
length-before [] x m = absurd (omega arith)
length-before (z ∷ zs) x m = elim (cases_eq z x) [
  | inl e ↦ subst (λ (w : ℕ). length (numbers_before (z ∷ zs) w) < length (z ∷ zs)) e (omega (arith, ap length (before_here z zs)))
  | inr d ↦ omega (arith, ap length (before_later z zs x d), length-before zs x (omega (arith, m, same_other z x d)))
]

-- numbers that as many stand before are one
pub before_alike : (xs : List ℕ) (x y : ℕ) → 1 ≤ times xs x → 1 ≤ times xs y → length (numbers_before xs x) ≡ length (numbers_before xs y) → x ≡ y
before_alike [] x y m n h = absurd (omega arith)
before_alike (z ∷ zs) x y m n h = elim (cases_eq z x) [
  | inl e ↦ elim (cases_eq z y) [
    | inl f ↦ sym e ∙ f
    | inr f ↦
        let none : length (numbers_before (z ∷ zs) x) ≡ 0 = subst (λ (w : ℕ). length (numbers_before (z ∷ zs) w) ≡ 0) e (ap length (before_here z zs)) in
        absurd (omega (arith, h, none, ap length (before_later z zs y f)))
  ]
  | inr d ↦ elim (cases_eq z y) [
    | inl f ↦
        let none : length (numbers_before (z ∷ zs) y) ≡ 0 = subst (λ (w : ℕ). length (numbers_before (z ∷ zs) w) ≡ 0) f (ap length (before_here z zs)) in
        absurd (omega (arith, h, none, ap length (before_later z zs x d)))
    | inr f ↦
        before_alike zs x y (omega (arith, m, same_other z x d)) (omega (arith, n, same_other z y f))
        (omega (arith, h, ap length (before_later z zs x d), ap length (before_later z zs y f)))
  ]
]

-- what stands before the later one is at least what stands before the earlier one, and that one
pub total-before_more : (f : ℕ → ℕ) (xs : List ℕ) (x y : ℕ) → 1 ≤ times xs x → length (numbers_before xs x) < length (numbers_before xs y)
    → total f (numbers_before xs x) + f x ≤ total f (numbers_before xs y)
total-before_more f [] x y m h = absurd (omega arith)
total-before_more f (z ∷ zs) x y m h = elim (cases_eq z y) [
  | inl e ↦
      let none : length (numbers_before (z ∷ zs) y) ≡ 0 = subst (λ (w : ℕ). length (numbers_before (z ∷ zs) w) ≡ 0) e (ap length (before_here z zs)) in
      absurd (omega (arith, h, none))
  | inr d ↦ elim (cases_eq z x) [
    | inl e ↦
        let none : numbers_before (z ∷ zs) x ≡ [] = subst (λ (w : ℕ). numbers_before (z ∷ zs) w ≡ []) e (before_here z zs) in
        omega (arith, ap (total f) none, ap (total f) (before_later z zs y d), ap f e)
    | inr e ↦
        omega (
          arith,
          ap (total f) (before_later z zs x e),
          ap (total f) (before_later z zs y d),
          total-before_more f zs x y (omega (arith, m, same_other z x e))
              (omega (arith, h, ap length (before_later z zs x e), ap length (before_later z zs y d))),
        )
  ]
]

length-flat_map : (k : ℕ → List ℕ) (xs : List ℕ) → length (flat_map k xs) ≡ total (λ b. length (k b)) xs
length-flat_map k [] = refl
length-flat_map k (x ∷ xs) = omega (arith, length-append (k x) (flat_map k xs), length-flat_map k xs)

-- one list by its parts: where two numbers are of different parts, the parts decide
before_parts : (k : ℕ → List ℕ) (xs : List ℕ) (p q x y : ℕ) → 1 ≤ times xs p → 1 ≤ times (k p) x → length (numbers_before xs p) < length (numbers_before xs q)
    → length (numbers_before (flat_map k xs) x) ≡ length (flat_map k (numbers_before xs p)) + length (numbers_before (k p) x)
    → length (numbers_before (flat_map k xs) y) ≡ length (flat_map k (numbers_before xs q)) + length (numbers_before (k q) y)
    → length (numbers_before (flat_map k xs) x) < length (numbers_before (flat_map k xs) y)
before_parts k xs p q x y m n h a b =
    omega (
      arith,
      a,
      b,
      length-flat_map k (numbers_before xs p),
      length-flat_map k (numbers_before xs q),
      total-before_more (λ b. length (k b)) xs p q m h,
      length-before (k p) x n,
    )

-- the nodes of this height
abbrev pub level : {L : Type 0} → Forest L (Headed Summary) → ℕ → ℕ → List ℕ
level s root h = below s (height_of s root - h) (root ∷ [])

module _ {L : Type 0} (s : Forest L (Headed Summary)) (root : ℕ) (t : IsTree s root) where
  pub up_high : (at p : ℕ) → parent_of s at ≡ Some p → height_of s p ≡ height_of s at + 1
  up_high at p up = t.shape.heights at p up

  pub up_block : (at p : ℕ) → parent_of s at ≡ Some p → IsSome (block_value s p)
  up_block at p up = block_from_height (entry s p) (omega (arith, up_high at p up))

  pub up_live : (at p : ℕ) → parent_of s at ≡ Some p → IsSome (entry s p)
  up_live at p up = block_live (entry s p) (up_block at p up)

  pub up_child : (at p : ℕ) → parent_of s at ≡ Some p → 1 ≤ times (kids_of s p) at
  up_child at p up = omega (arith, t.shape.forest.child_once p at, points_at (parent_of s at) p up)

  up_elsewhere : (at p y : ℕ) → parent_of s at ≡ Some p → y ≢ p → times (kids_of s y) at ≡ 0
  up_elsewhere at p y up d = t.shape.forest.child_once y at ∙ ap (λ o. points o y) up ∙ same_other p y (λ e. d (sym e))

  up_there : (at p h : ℕ) → parent_of s at ≡ Some p → height_of s at ≡ h → 1 ≤ times (level s root (h + 1)) p
  up_there at p h up e =
      on_level s root None t.shape (height_of s root - (h + 1)) p (up_live at p up) (λ y k e. cc e)
      (omega (arith, e, up_high at p up, t.shape.low p (up_live at p up)))

  level_up : (at p h : ℕ) → parent_of s at ≡ Some p → height_of s at ≡ h → level s root h ≡ flat_map (kids_of s) (level s root (h + 1))
  level_up at p h up e =
      let n : height_of s root - h ≡ height_of s root - (h + 1) + 1 = omega (arith, e, up_high at p up, t.shape.low p (up_live at p up)) in
      ap (λ (n : ℕ). below s n (root ∷ [])) n ∙ sym (below-below s 1 (height_of s root - (h + 1)) (root ∷ []))

  count_up : (at p h : ℕ) → parent_of s at ≡ Some p → height_of s at ≡ h
      → length (numbers_before (flat_map (kids_of s) (level s root (h + 1))) at)
      ≡ length (flat_map (kids_of s) (numbers_before (level s root (h + 1)) p)) + length (numbers_before (kids_of s p) at)
  count_up at p h up e =
      ap length (before-flat_map (kids_of s) (level s root (h + 1)) p at (up_there at p h up e) (up_child at p up) (λ y d. up_elsewhere at p y up d))
      ∙ length-append (flat_map (kids_of s) (numbers_before (level s root (h + 1)) p)) (numbers_before (kids_of s p) at)

  -- two nodes of one level stand as their blocks do, if these are two
  pub before_above : (x y p q h : ℕ) → parent_of s x ≡ Some p → parent_of s y ≡ Some q → height_of s x ≡ h → height_of s y ≡ h → p ≢ q
      → comes_before (level s root (h + 1)) p q ≡ comes_before (level s root h) x y
  before_above x y p q h up on e f d =
      let here : comes_before (level s root h) x y ≡ comes_before (flat_map (kids_of s) (level s root (h + 1))) x y =
      ap (λ zs. comes_before zs x y) (level_up x p h up e) in
      elim (cases_lt (length (numbers_before (level s root (h + 1)) p)) (length (numbers_before (level s root (h + 1)) q))) [
        | inl l ↦
            let r = before_parts (kids_of s) (level s root (h + 1)) p q x y (up_there x p h up e) (up_child x p up) l (count_up x p h up e) (count_up y q h on f) in
            lt-ltb _ _ l ∙ sym (lt-ltb _ _ r) ∙ sym here
        | inr l ↦
            let other : length (numbers_before (level s root (h + 1)) p) ≢ length (numbers_before (level s root (h + 1)) q) =
            λ a. d (before_alike (level s root (h + 1)) p q (up_there x p h up e) (up_there y q h on f) a) in
            let r = before_parts (kids_of s) (level s root (h + 1)) q p y x (up_there y q h on f) (up_child y q on) (omega (arith, l, other))
            (count_up y q h on f) (count_up x p h up e) in
            le-ltb _ _ l ∙ sym (le-ltb _ _ (omega (arith, r))) ∙ sym here
      ]

  -- two children of a block stand on their level as they do in the block
  pub before_in_block : (x y p h : ℕ) → parent_of s x ≡ Some p → parent_of s y ≡ Some p → height_of s x ≡ h → height_of s y ≡ h
      → comes_before (kids_of s p) x y ≡ comes_before (level s root h) x y
  before_in_block x y p h up on e f =
      let here : comes_before (level s root h) x y ≡ comes_before (flat_map (kids_of s) (level s root (h + 1))) x y =
      ap (λ zs. comes_before zs x y) (level_up x p h up e) in
      let a = count_up x p h up e in
      let b = count_up y p h on f in
      elim (cases_lt (length (numbers_before (kids_of s p) x)) (length (numbers_before (kids_of s p) y))) [
        | inl l ↦ lt-ltb _ _ l ∙ sym (lt-ltb _ _ (omega (arith, a, b, l))) ∙ sym here
        | inr l ↦ le-ltb _ _ l ∙ sym (le-ltb _ _ (omega (arith, a, b, l))) ∙ sym here
      ]

  -- a live node without a parent is the root
  pub top_is_root : (x : ℕ) → IsSome (entry s x) → parent_of s x ≡ None → x ≡ root
  top_is_root x live top = elim (cases_eq x root) [
    | inl e ↦ e
    | inr d ↦ absurd (let b = some_of (parent_of s x) (t.shape.one_top x live d (λ e. cc e)) in cc (b.1, top))
  ]

  -- a live node as high as the root is the root
  pub high_is_root : (x : ℕ) → IsSome (entry s x) → height_of s x ≡ height_of s root → x ≡ root
  high_is_root x live e = elim (cases_eq x root) [
    | inl q ↦ q
    | inr d ↦
        let b = some_of (parent_of s x) (t.shape.one_top x live d (λ e. cc e)) in
        absurd (omega (arith, e, up_high x b.0 b.1, t.shape.low b.0 (up_live x b.0 b.1)))
  ]
