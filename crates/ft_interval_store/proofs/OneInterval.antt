-- The interval of one name, where others are put, changed or taken out beside it.
use Rattle.std.proofs.Common.{◌≡◌, ℕ, Bool, true, false, cond, is_some, List, [], ◌∷◌, map, Option, Some, None, option_map, refl, sym, ◌∙◌, ap, subst, arith}
use Rattle.std.specs.Ordering.{is_eq}
use Rattle.std.specs.declared.cmp.Ordering.TheVariants.{Less, Equal}
use Rattle.ft_op.specs.declared.operations.Ends.{Ends}
use Rattle.ft_op.specs.declared.operations.TextOp.{TextOp}
use Rattle.ft_op.specs.declared.operations.TextOp.TheVariants.{One, Group, IntervalAdd, IntervalChange, IntervalDelete}
use Rattle.ft_props.specs.Keys.{put_rising}
use Rattle.ft_props.specs.Properties.{PropertySet, apply}
use Rattle.ft_interval_store.specs.declared.intervals.EndPair.{EndPair}
use Rattle.ft_interval_store.specs.declared.intervals.Interval.{Interval}
use Rattle.ft_interval_store.specs.Intervals.{Name, IsBeforeNames, NamesRise, after_operation, after_own, changed_interval, interval_cmp, interval_of, name_cmp, name_of, one_after, with_changed, without_name}
use Rattle.ft_interval_store.proofs.RisingNames.{IsBeforeNames-trans, NamesRise-changed, NamesRise-put, NamesRise-without, by_order, name_cmp-trans, name_cmp-turned, same_from_name_cmp}

-- equal names stand alike to a third
alike : (m n k : Name) → name_cmp m n ≡ Equal → name_cmp k m ≡ name_cmp k n
alike m n k e = ap (λ x. name_cmp k x) (same_from_name_cmp m n e)

pub same_name : (n m : Name) → is_eq (name_cmp n m) ≡ true → n ≡ m
same_name n m h = by_order (name_cmp n m) (λ e. (let no : is_eq (name_cmp n m) ≡ false = ap is_eq e in absurd cc)) (λ e. same_from_name_cmp n m e)
    (λ e. (let no : is_eq (name_cmp n m) ≡ false = ap is_eq e in absurd cc))

module _ {T : Type 0} where
  interval_of-before : (n : Name) (ys : List (Interval T)) → IsBeforeNames n ys → interval_of n ys ≡ None
  interval_of-before n [] b = refl
  interval_of-before n (y ∷ ys) b = grind (arith, b.0)

  pub interval_of-put : (n : Name) (x : Interval T) (ys : List (Interval T))
      → interval_of n (put_rising interval_cmp x ys) ≡ cond (is_eq (name_cmp n (name_of x))) (Some x) (interval_of n ys)
  interval_of-put n x [] = by_order (name_cmp n (name_of x)) (λ e. grind arith) (λ e. grind arith) (λ e. grind arith)
  interval_of-put n x (y ∷ ys) =
      by_order (name_cmp (name_of x) (name_of y))
      (λ l. by_order (name_cmp n (name_of x)) (λ e. grind (arith, name_cmp-trans n (name_of x) (name_of y) e l)) (λ e. grind arith) (λ e. grind arith))
      (λ l. (let same = alike (name_of x) (name_of y) n l in
      by_order (name_cmp n (name_of x)) (λ e. grind (arith, same)) (λ e. grind (arith, same)) (λ e. grind (arith, same))))
      (λ l. (let back = name_cmp-turned (name_of x) (name_of y) l in
      by_order (name_cmp n (name_of y))
      (λ e. grind (arith, name_cmp-trans n (name_of y) (name_of x) e back))
      (λ e. (let below : name_cmp n (name_of x) ≡ Less = subst (λ m. name_cmp m (name_of x) ≡ Less) (sym (same_from_name_cmp n (name_of y) e)) back in grind (arith, below)))
      (λ e. grind (arith, interval_of-put n x ys))))

  interval_of-changed : (n m : Name) (f : Interval T → Interval T) (ys : List (Interval T)) → ((i : Interval T) → name_of (f i) ≡ name_of i)
      → interval_of n (with_changed m f ys) ≡ cond (is_eq (name_cmp n m)) (option_map f (interval_of n ys)) (interval_of n ys)
  interval_of-changed n m f [] k = by_order (name_cmp n m) (λ e. grind arith) (λ e. grind arith) (λ e. grind arith)
  interval_of-changed n m f (y ∷ ys) k =
      by_order (name_cmp m (name_of y))
      (λ l. by_order (name_cmp n m) (λ e. grind arith)
      (λ e. (let below : name_cmp n (name_of y) ≡ Less = subst (λ x. name_cmp x (name_of y) ≡ Less) (sym (same_from_name_cmp n m e)) l in grind (arith, below)))
      (λ e. grind arith))
      (λ l. (let same = alike m (name_of y) n l in
      let named : name_cmp n (name_of (f y)) ≡ name_cmp n (name_of y) = ap (λ x. name_cmp n x) (k y) in
      by_order (name_cmp n m) (λ e. grind (arith, same, named)) (λ e. grind (arith, same, named)) (λ e. grind (arith, same, named))))
      (λ l. (let back = name_cmp-turned m (name_of y) l in
      by_order (name_cmp n (name_of y))
      (λ e. by_order (name_cmp n m) (λ d. grind arith) (λ d. grind arith) (λ d. grind arith))
      (λ e. (let below : name_cmp n m ≡ Less = subst (λ x. name_cmp x m ≡ Less) (sym (same_from_name_cmp n (name_of y) e)) back in grind (arith, below)))
      (λ e. grind (arith, interval_of-changed n m f ys k))))

  pub interval_of-without : (n m : Name) (ys : List (Interval T)) → NamesRise ys
      → interval_of n (without_name m ys) ≡ cond (is_eq (name_cmp n m)) None (interval_of n ys)
  interval_of-without n m [] r = by_order (name_cmp n m) (λ e. grind arith) (λ e. grind arith) (λ e. grind arith)
  interval_of-without n m (y ∷ ys) r =
      by_order (name_cmp m (name_of y))
      (λ l. by_order (name_cmp n m) (λ e. grind arith)
      (λ e. (let below : name_cmp n (name_of y) ≡ Less = subst (λ x. name_cmp x (name_of y) ≡ Less) (sym (same_from_name_cmp n m e)) l in grind (arith, below)))
      (λ e. grind arith))
      (λ l. (let same = alike m (name_of y) n l in
      by_order (name_cmp n m)
      (λ e. (let below : name_cmp n (name_of y) ≡ Less = sym same ∙ e in
      grind (arith, below, interval_of-before n ys (IsBeforeNames-trans n (name_of y) ys below r.0))))
      (λ e. (let at : n ≡ name_of y = same_from_name_cmp n m e ∙ same_from_name_cmp m (name_of y) l in
      grind (arith, interval_of-before n ys (subst (λ x. IsBeforeNames x ys) (sym at) r.0))))
      (λ e. grind (arith, same))))
      (λ l. (let back = name_cmp-turned m (name_of y) l in
      by_order (name_cmp n (name_of y))
      (λ e. by_order (name_cmp n m) (λ d. grind arith) (λ d. grind arith) (λ d. grind arith))
      (λ e. (let below : name_cmp n m ≡ Less = subst (λ x. name_cmp x m ≡ Less) (sym (same_from_name_cmp n (name_of y) e)) back in grind (arith, below)))
      (λ e. grind (arith, interval_of-without n m ys r.1))))

  -- a change that keeps names goes on to the one of each name
  pub interval_of-map : (n : Name) (f : Interval T → Interval T) (ys : List (Interval T)) → ((i : Interval T) → name_of (f i) ≡ name_of i)
      → interval_of n (map f ys) ≡ option_map f (interval_of n ys)
  interval_of-map n f [] k = refl
  interval_of-map n f (y ∷ ys) k =
      let named : name_cmp n (name_of (f y)) ≡ name_cmp n (name_of y) = ap (λ x. name_cmp n x) (k y) in
      by_order (name_cmp n (name_of y)) (λ e. grind (arith, named)) (λ e. grind (arith, named)) (λ e. grind (arith, named, interval_of-map n f ys k))

  IsBeforeNames-map : (a : Name) (f : Interval T → Interval T) (ys : List (Interval T)) → ((i : Interval T) → name_of (f i) ≡ name_of i)
      → IsBeforeNames a ys → IsBeforeNames a (map f ys)
  IsBeforeNames-map a f [] k b = tt
  IsBeforeNames-map a f (y ∷ ys) k b = (subst (λ m. name_cmp a m ≡ Less) (sym (k y)) b.0, IsBeforeNames-map a f ys k b.1)

  pub NamesRise-map : (f : Interval T → Interval T) (ys : List (Interval T)) → ((i : Interval T) → name_of (f i) ≡ name_of i)
      → NamesRise ys → NamesRise (map f ys)
  NamesRise-map f [] k r = tt
  NamesRise-map f (y ∷ ys) k r =
      (subst (λ m. IsBeforeNames m (map f ys)) (sym (k y)) (IsBeforeNames-map (name_of y) f ys k r.0), NamesRise-map f ys k r.1)

  -- ---- an operation

  -- an addition, where e tells whether n is its name m, whose interval is i, and o is that of n
  added : (e : Bool) (label id : List ℕ) (ends : EndPair T) (given : Ends) (props : PropertySet) (o i : Option (Interval T)) → (e ≡ true → i ≡ o)
      → (let x : Interval T = record { label = label; id = id; ends = ends; props = apply [] props } in
      cond (is_some i) o (cond e (Some x) o) ≡ cond e (after_own (IntervalAdd label id given props) ends o) o)
  added true label id ends given props None i same = let none = same refl in rw none refl
  added true label id ends given props (Some y) i same = let some = same refl in rw some refl
  added false label id ends given props o None same = refl
  added false label id ends given props o (Some y) same = refl

  changed_own : (op_ends : EndPair T) (given : Option Ends) (props : PropertySet) (n : Name) (i : Option (Interval T))
      → option_map (changed_interval given op_ends props) i ≡ after_own (IntervalChange n.0 n.1 given props) op_ends i
  changed_own e g p n None = refl
  changed_own e g p n (Some i) = refl

  choose : (b : Bool) (n : Name) (ys zs : List (Interval T)) → interval_of n (cond b ys zs) ≡ cond b (interval_of n ys) (interval_of n zs)
  choose true n ys zs = refl
  choose false n ys zs = refl

  pub interval_of-after : (n : Name) (op : TextOp) (ends : EndPair T) (ys : List (Interval T)) → NamesRise ys
      → interval_of n (after_operation op ends ys) ≡ one_after n op ends (interval_of n ys)
  interval_of-after n (One o) ends ys r = refl
  interval_of-after n (Group o) ends ys r = refl
  interval_of-after n (IntervalAdd label id given props) ends ys r =
      let m : Name = (label, id) in
      let x : Interval T = record { label = label; id = id; ends = ends; props = apply [] props } in
      choose (is_some (interval_of m ys)) n ys (put_rising interval_cmp x ys)
      ∙ ap (λ o. cond (is_some (interval_of m ys)) (interval_of n ys) o) (interval_of-put n x ys)
      ∙ added (is_eq (name_cmp n m)) label id ends given props (interval_of n ys) (interval_of m ys) (λ e. ap (λ k. interval_of k ys) (sym (same_name n m e)))
  interval_of-after n (IntervalChange label id given props) ends ys r =
      interval_of-changed n (label, id) (changed_interval given ends props) ys (λ i. refl)
      ∙ ap (λ o. cond (is_eq (name_cmp n (label, id))) o (interval_of n ys)) (changed_own ends given props (label, id) (interval_of n ys))
  interval_of-after n (IntervalDelete label id) ends ys r = interval_of-without n (label, id) ys r

  -- the names still rise
  pub NamesRise-after : (op : TextOp) (ends : EndPair T) (ys : List (Interval T)) → NamesRise ys → NamesRise (after_operation op ends ys)
  NamesRise-after (One o) ends ys r = r
  NamesRise-after (Group o) ends ys r = r
  NamesRise-after (IntervalAdd label id given props) ends ys r =
      let x : Interval T = record { label = label; id = id; ends = ends; props = apply [] props } in
      by (is_some (interval_of (label, id) ys)) (put_rising interval_cmp x ys) (NamesRise-put x ys r)
    where
      by : (b : Bool) (zs : List (Interval T)) → NamesRise zs → NamesRise (cond b ys zs)
      by true zs s = r
      by false zs s = s
  NamesRise-after (IntervalChange label id given props) ends ys r = NamesRise-changed (label, id) (changed_interval given ends props) ys (λ i. refl) r
  NamesRise-after (IntervalDelete label id) ends ys r = NamesRise-without (label, id) ys r
