-- How a search goes from child to child of a block.
use Rattle.std.proofs.Common.{◌≡◌, ℕ, zero, suc, ℤ, ◌<ℤ◌, ◌≤ℤ◌, ◌≤◌, ◌+◌, ◌*◌, true, false, not, ◌&&◌, List, [], ◌∷◌, ◌++◌, length, Contains, append_assoc, refl, sym, ap, subst, ◌∙◌, arith}
use Rattle.std.proofs.lemmas.List.{append-nil, length-append}
use Rattle.ft_overlap.specs.declared.items.Item.{Item}
use Rattle.ft_overlap.specs.Items.{starts_by, ends_from, key_if, keys_within, IsRising, IsGreatest}
use Rattle.ft_overlap.specs.Search.{keys_from, Collects, IsCheap}
use Rattle.ft_overlap.proofs.Keys.{lt_true, lt_false, within-append, from-append, none_within, none_from, none_past, one_reaches, rising_rest, nothing_right}

-- of all items below a block, whose children head h levels, the rest is still to be searched; i children are done
pub record Collecting (place : ℕ → ℤ) (a b : ℤ) (all rest : List Item) (h i : ℕ) (old now : List ℕ) (start steps : ℕ) : Type 0 where
  pub keys : now ++ keys_within place a b rest ≡ old ++ keys_within place a b all
  pub whole : keys_within place a b rest ≡ keys_from place a rest → keys_within place a b all ≡ keys_from place a all
  pub suffix : (ys : List Item) → IsRising place (all ++ ys) → IsRising place (rest ++ ys)
  pub cost : steps + 9 * h * length (keys_within place a b rest) ≤ start + i + 9 * h * length (keys_within place a b all)

cost_step : (h i x y k s1 s2 start : ℕ) → s1 + 9 * h * (x + y) ≤ start + i + 9 * h * k → s2 ≤ s1 + 1 + 9 * h * x → s2 + 9 * h * y ≤ start + (i + 1) + 9 * h * k
cost_step h i x y k s1 s2 start p q = omega (arith, p, q)

-- a child's reads, whether it is a leaf or a block
pub any_cost : (h k before after : ℕ) → IsCheap h k before after → after ≤ before + 1 + 9 * h * (k + 1)
any_cost zero k before after c = omega (arith, c.leaf refl)
any_cost (suc h) k before after c = omega (arith, c.block (omega arith))

cost_stop : (h i x y k s1 s2 before : ℕ) → s1 + 9 * h * (x + y) ≤ before + 1 + i + 9 * h * k → i ≤ 7 → s2 ≤ s1 + 1 + 9 * h * (x + 1)
    → s2 ≤ before + 9 * (h + 1) * (k + 1)
cost_stop h i x y k s1 s2 before p few q = omega (arith, p, few, q)

cost_end : (h i k s before : ℕ) → s + 9 * h * 0 ≤ before + 1 + i + 9 * h * k → i ≤ 8 → 1 ≤ k → s ≤ before + 1 + 9 * (h + 1) * k
cost_end h i k s before p few some = omega (arith, p, few, some)

cost_end_any : (h i k s before : ℕ) → s + 9 * h * 0 ≤ before + 1 + i + 9 * h * k → i ≤ 8 → s ≤ before + 9 * (h + 1) * (k + 1)
cost_end_any h i k s before p few = omega (arith, p, few)

cost_one : (h k before : ℕ) → 1 ≤ h → before + 1 ≤ before + 9 * h * (k + 1)
cost_one h k before l = omega (arith, l)

module _ (place : ℕ → ℤ) (a b : ℤ) where
  pub collecting_init : (all : List Item) (h : ℕ) (old : List ℕ) (start : ℕ) → Collecting place a b all all h 0 old old start start
  collecting_init all h old start = record { keys = refl; whole = λ e. e; suffix = λ ys r. r; cost = omega arith }

  module _ (all kid rest : List Item) (h i : ℕ) (old now next : List ℕ) (start s1 s2 : ℕ)
      (c : Collecting place a b all (kid ++ rest) h i old now start s1) where
    parts : length (keys_within place a b (kid ++ rest)) ≡ length (keys_within place a b kid) + length (keys_within place a b rest)
    parts = ap length (within-append place a b kid rest) ∙ length-append (keys_within place a b kid) (keys_within place a b rest)

    cost_here : s1 + 9 * h * (length (keys_within place a b kid) + length (keys_within place a b rest)) ≤ start + i + 9 * h * length (keys_within place a b all)
    cost_here = subst (λ (n : ℕ). s1 + 9 * h * n ≤ start + i + 9 * h * length (keys_within place a b all)) parts c.cost

    joined : next ≡ now ++ keys_within place a b kid → next ++ keys_within place a b rest ≡ old ++ keys_within place a b all
    joined e =
        ap (λ ks. ks ++ keys_within place a b rest) e ∙ append_assoc now (keys_within place a b kid) (keys_within place a b rest)
        ∙ ap (λ ks. now ++ ks) (sym (within-append place a b kid rest)) ∙ c.keys

    pub collecting_step : Collects place a b kid h now next s1 s2 true → Collecting place a b all rest h (i + 1) old next start s2
    collecting_step k =
        record {
          keys = joined k.keys;
          whole = λ e. c.whole (within-append place a b kid rest ∙ ap (λ ks. ks ++ keys_within place a b rest) (k.whole refl) ∙ ap (λ ks. keys_from place a kid ++ ks) e
              ∙ sym (from-append place a b kid rest));
          suffix = λ ys r. rising_rest place kid (rest ++ ys) (subst (IsRising place) (append_assoc kid rest ys) (c.suffix ys r));
          cost = cost_step h i (length (keys_within place a b kid)) (length (keys_within place a b rest)) (length (keys_within place a b all)) s1 s2 start cost_here (k.cost refl);
        }

    pub collecting_stop : IsRising place all → Collects place a b kid h now next s1 s2 false → (before after : ℕ)
        → Collects place a b all (suc h) old next before after false
    collecting_stop r k before after =
        let rising : IsRising place (kid ++ rest) =
        subst (IsRising place) (append-nil (kid ++ rest)) (c.suffix [] (subst (IsRising place) (sym (append-nil all)) r)) in
        let none : keys_within place a b rest ≡ [] = k.past refl rest rising in
        record {
          keys = sym (append-nil next) ∙ ap (λ ks. next ++ ks) (sym none) ∙ joined k.keys;
          whole = λ e. cc;
          past = λ e ys q. nothing_right (keys_within place a b rest) (keys_within place a b ys) (sym (within-append place a b rest ys)
              ∙ k.past refl (rest ++ ys) (subst (IsRising place) (append_assoc kid rest ys) (c.suffix ys q)));
          cost = λ e. cc;
        }

    pub collecting_cheap : (before : ℕ) → start ≡ before + 1 → i ≤ 7 → IsCheap h (length (keys_within place a b kid)) s1 s2
        → IsCheap (suc h) (length (keys_within place a b all)) before s2
    collecting_cheap before e few k =
        let here = subst (λ (n : ℕ). s1 + 9 * h * (length (keys_within place a b kid) + length (keys_within place a b rest)) ≤ n + i + 9
        * h * length (keys_within place a b all)) e cost_here in
        let n : h + 1 ≡ suc h = omega arith in
        record {
          leaf = λ q. absurd (omega (arith, q));
          block = λ _. subst (λ (m : ℕ). s2 ≤ before + 9 * m * (length (keys_within place a b all) + 1)) n
              (cost_stop h i (length (keys_within place a b kid)) (length (keys_within place a b rest)) (length (keys_within place a b all)) s1 s2 before here few
              (any_cost h (length (keys_within place a b kid)) s1 s2 k));
        }

  module _ (all : List Item) (named : Item) (h i : ℕ) (old now : List ℕ) (before s : ℕ)
      (c : Collecting place a b all [] h i old now (before + 1) s) (few : i ≤ 8) where
    pub collecting_end : Contains all named → a ≤ℤ place named.end → Collects place a b all (suc h) old now before s true
    collecting_end there reaches =
        let same : keys_within place a b all ≡ keys_from place a all = c.whole refl in
        let n : h + 1 ≡ suc h = omega arith in
        record {
          keys = sym (append-nil now) ∙ c.keys;
          whole = λ e. same;
          past = λ e. cc;
          cost = λ e. subst (λ (m : ℕ). s ≤ before + 1 + 9 * m * length (keys_within place a b all)) n
              (cost_end h i (length (keys_within place a b all)) s before c.cost few (omega (arith, ap length same, one_reaches place a b named all there reaches)));
        }

    pub collecting_end_cheap : IsCheap (suc h) (length (keys_within place a b all)) before s
    collecting_end_cheap =
        let n : h + 1 ≡ suc h = omega arith in
        record {
          leaf = λ q. absurd (omega (arith, q));
          block = λ _. subst (λ (m : ℕ). s ≤ before + 9 * m * (length (keys_within place a b all) + 1)) n
              (cost_end_any h i (length (keys_within place a b all)) s before c.cost few);
        }

  -- a block that isn't searched
  pub passed_over : (named : Item) (xs : List Item) (h : ℕ) (old : List ℕ) (before : ℕ) → IsGreatest place named xs → place named.end <ℤ a
      → Collects place a b xs h old old before (before + 1) true
  passed_over named xs h old before g l =
      let none = none_within place a b named xs g l in
      record {
        keys = sym (append-nil old) ∙ ap (λ ks. old ++ ks) (sym none);
        whole = λ e. none ∙ sym (none_from place a b named xs g l);
        past = λ e. cc;
        cost = λ e. omega arith;
      }

  -- one read of any node
  pub read_cheap : (h k before : ℕ) → IsCheap h k before (before + 1)
  read_cheap h k before = record { leaf = λ e. omega arith; block = λ l. cost_one h k before l }

  pub item_stop : (x : Item) (old : List ℕ) (steps : ℕ) → b <ℤ place x.start → Collects place a b (x ∷ []) 0 old old steps (steps + 1) false
  item_stop x old steps l =
      let e : starts_by place b x ≡ false = ap not (lt_true b (place x.start) l) in
      record {
        keys = sym (append-nil old) ∙ ap (λ ks. old ++ ks) (sym (ap (λ t. key_if (t && ends_from place a x) x.key []) e));
        whole = λ e. cc;
        past = λ e ys r. none_past place a b x ys l r;
        cost = λ e. cc;
      }

  pub item_out : (x : Item) (old : List ℕ) (steps : ℕ) → place x.start ≤ℤ b → place x.end <ℤ a → Collects place a b (x ∷ []) 0 old old steps (steps + 1) true
  item_out x old steps l m =
      let s : starts_by place b x ≡ true = ap not (lt_false b (place x.start) l) in
      let e : ends_from place a x ≡ false = ap not (lt_true (place x.end) a m) in
      let keys : keys_within place a b (x ∷ []) ≡ [] = ap (λ t. key_if (t && ends_from place a x) x.key []) s ∙ ap (λ t. key_if t x.key []) e in
      record {
        keys = sym (append-nil old) ∙ ap (λ ks. old ++ ks) (sym keys);
        whole = λ q. keys ∙ sym (ap (λ t. key_if t x.key []) e);
        past = λ q. cc;
        cost = λ q. omega arith;
      }

  pub item_in : (x : Item) (old : List ℕ) (steps : ℕ) → place x.start ≤ℤ b → a ≤ℤ place x.end
      → Collects place a b (x ∷ []) 0 old (old ++ x.key ∷ []) steps (steps + 1) true
  item_in x old steps l m =
      let s : starts_by place b x ≡ true = ap not (lt_false b (place x.start) l) in
      let e : ends_from place a x ≡ true = ap not (lt_false (place x.end) a m) in
      let keys : keys_within place a b (x ∷ []) ≡ x.key ∷ [] = ap (λ t. key_if (t && ends_from place a x) x.key []) s ∙ ap (λ t. key_if t x.key []) e in
      record {
        keys = ap (λ ks. old ++ ks) (sym keys);
        whole = λ q. keys ∙ sym (ap (λ t. key_if t x.key []) e);
        past = λ q. cc;
        cost = λ q. omega arith;
      }
