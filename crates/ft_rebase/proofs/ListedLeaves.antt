-- The leaves that pass a test, one after another as a list of their nodes gives them.
use Rattle.std.proofs.Common.{◌≡◌, ℕ, ◌+◌, ◌<◌, ◌≤◌, Bool, true, false, cond, ◌||◌, nat_eq, List, [], ◌∷◌, ◌++◌, Option, Some, None, drop, filter, get_or, length, map, take, refl, sym, ◌∙◌, ap, arith, append_assoc}
use Rattle.std.specs.List.{slice_get}
use Rattle.std.specs.Option.{option_map}
use Rattle.std.proofs.lemmas.Bool.{ne_eqb}
use Rattle.std.proofs.lemmas.Bool.Decides.{nat_tests}
use Rattle.std.proofs.lemmas.List.{drop_all, drop_more, get_or-map, length-map, take-append-drop}
use Rattle.ft_block.specs.Leaves.{IsLeafIn, ids, times_leaf, value_at}
use Rattle.ft_tree_leaves.specs.declared.leaves.TreeLeaf.{TreeLeaf}
use Rattle.ft_tree_leaves.specs.Edits.{is_touched_by}
use Rattle.ft_props.proofs.RebuiltList.{filter-twice}
use Rattle.ft_rebase.specs.Moves.{leaf_stamps}
use Rattle.ft_rebase.specs.StageLists.{inserted_by}
use Rattle.ft_rebase.proofs.MovedBlocks.{own-node}

-- what is read of a value
pub mapped_value : {A B : Type 0} (f : A → B) (o : Option A) (a : A) (b : B) → o ≡ Some a → option_map f o ≡ Some b → f a ≡ b
mapped_value f None a b e g = absurd cc
mapped_value f (Some x) a b e g = let same : x ≡ a = cc in let value : f x ≡ b = cc in sym (ap f same) ∙ value

module _ {L : Type 0} where
  pub value-live : (xs : List (ℕ × L)) (id : ℕ) (v : L) → value_at xs id ≡ Some v → 1 ≤ times_leaf xs id
  value-live [] id v e = absurd cc
  value-live (x ∷ xs) id v e = step (nat_eq x.0 id) e (value-live xs id v)
    where
      step : (c : Bool) → cond c (Some x.1) (value_at xs id) ≡ Some v → (value_at xs id ≡ Some v → 1 ≤ times_leaf xs id)
          → 1 ≤ cond c 1 0 + times_leaf xs id
      step true e ih = omega arith
      step false e ih = omega (arith, ih e)

  -- a leaf among those that pass a test has its value in the whole list
  pub value-filtered : (t : ℕ × L → Bool) (xs fs gs : List (ℕ × L)) (b : ℕ) (v : L) → ((i : ℕ) → times_leaf xs i ≤ 1) → filter t xs
      ≡ fs ++ (b, v) ∷ gs → value_at xs b ≡ Some v
  value-filtered t [] [] gs b v once e = absurd cc
  value-filtered t [] (f ∷ fs) gs b v once e = absurd cc
  value-filtered t (x ∷ xs) fs gs b v once e = step (t x) fs e (λ hs g. value-filtered t xs hs gs b v (λ i. omega (arith, once i)) g)
    where
      later : value_at xs b ≡ Some v → cond (nat_eq x.0 b) (Some x.1) (value_at xs b) ≡ Some v
      later found =
          let live = value-live xs b v found in
          let own : cond (nat_eq x.0 x.0) 1 0 ≡ 1 = ap {B = ℕ} (λ c. cond c 1 0) (own-node x) in
          let other : nat_eq x.0 b ≡ false = ne_eqb x.0 b (λ w. (let n = ap (times_leaf xs) w in omega (arith, once x.0, n, live, own))) in
          ap (λ c. cond c (Some x.1) (value_at xs b)) other ∙ found

      step : (c : Bool) (fs : List (ℕ × L)) → cond c (x ∷ filter t xs) (filter t xs) ≡ fs ++ (b, v) ∷ gs
          → ((hs : List (ℕ × L)) → filter t xs ≡ hs ++ (b, v) ∷ gs → value_at xs b ≡ Some v)
          → cond (nat_eq x.0 b) (Some x.1) (value_at xs b) ≡ Some v
      step false fs e ih = later (ih fs e)
      step true (f ∷ fs) e ih = later (ih fs (cc))
      step true [] e ih =
          let here : x ≡ (b, v) = cc in
          let node : x.0 ≡ b = ap (λ (y : ℕ × L). y.0) here in
          let value : x.1 ≡ v = ap (λ (y : ℕ × L). y.1) here in
          let test : nat_eq x.0 b ≡ true = grind (arith, nat_tests) in
          ap (λ c. cond c (Some x.1) (value_at xs b)) test ∙ ap Some value

  -- and passes the test
  passes-filtered : (t : ℕ × L → Bool) (xs fs gs : List (ℕ × L)) (y : ℕ × L) → filter t xs ≡ fs ++ y ∷ gs → t y ≡ true
  passes-filtered t [] [] gs y e = absurd cc
  passes-filtered t [] (f ∷ fs) gs y e = absurd cc
  passes-filtered t (x ∷ xs) fs gs y e = step (t x) fs refl e (λ hs g. passes-filtered t xs hs gs y g)
    where
      step : (c : Bool) (fs : List (ℕ × L)) → t x ≡ c → cond c (x ∷ filter t xs) (filter t xs) ≡ fs ++ y ∷ gs
          → ((hs : List (ℕ × L)) → filter t xs ≡ hs ++ y ∷ gs → t y ≡ true) → t y ≡ true
      step false fs h e ih = ih fs e
      step true (f ∷ fs) h e ih = ih fs (cc)
      step true [] h e ih = let same : x ≡ y = cc in sym (ap t same) ∙ h

  ids-map : (xs : List (ℕ × L)) → ids xs ≡ map (λ x. x.0) xs
  ids-map [] = refl
  ids-map (x ∷ xs) = ap (λ ns. x.0 ∷ ns) (ids-map xs)

  -- the i-th of the leaves that pass a test
  pub record ListedAt (t : ℕ × L → Bool) (xs : List (ℕ × L)) (i id : ℕ) : Type 0 where
    pub value : L
    pub is : value_at xs id ≡ Some value
    pub live : IsLeafIn xs id
    pub passes : t (id, value) ≡ true
    pub rest : drop i (filter t xs) ≡ (id, value) ∷ drop (i + 1) (filter t xs)

  listed_in : (t : ℕ × L → Bool) (xs : List (ℕ × L)) (i id : ℕ) (d : ℕ × L) → ((i : ℕ) → times_leaf xs i ≤ 1) → i < length (filter t xs)
      → id ≡ (get_or (filter t xs) i d).0 → ListedAt t xs i id
  listed_in t xs i id d once low e =
      let ys = filter t xs in
      let v = (get_or ys i d).1 in
      let rest : drop i ys ≡ (id, v) ∷ drop (i + 1) ys = drop_more ys i d low ∙ ap (λ (n : ℕ). (n, v) ∷ drop (i + 1) ys) (sym e) in
      let split : ys ≡ take i ys ++ (id, v) ∷ drop (i + 1) ys = sym (take-append-drop i ys) ∙ ap (λ zs. take i ys ++ zs) rest in
      let is = value-filtered t xs (take i ys) (drop (i + 1) ys) id v once split in
      record {
        value = v;
        is = is;
        live = value-live xs id v is;
        passes = passes-filtered t xs (take i ys) (drop (i + 1) ys) (id, v) split;
        rest = rest;
      }

  -- it is the leaf of the i-th node
  pub listed_at : (t : ℕ × L → Bool) (xs : List (ℕ × L)) (nodes : List ℕ) (i id : ℕ) → ((i : ℕ) → times_leaf xs i ≤ 1)
      → nodes ≡ ids (filter t xs) → i < length nodes → id ≡ get_or nodes i id → ListedAt t xs i id
  listed_at t xs nodes i id once e low is =
      let ys = filter t xs in
      let all : nodes ≡ map (λ x. x.0) ys = e ∙ ids-map ys in
      let short : i < length ys = omega (arith, low, ap length all, length-map ys (λ (x : ℕ × L). x.0)) in
      let d = some_of ys short in
      listed_in t xs i id d once short (is ∙ ap (λ ns. get_or ns i id) all ∙ get_or-map (λ (x : ℕ × L). x.0) ys i d id short)
    where
      some_of : (ys : List (ℕ × L)) → i < length ys → ℕ × L
      some_of [] low = absurd (omega arith)
      some_of (y ∷ ys) low = y

  -- none is left behind the last node
  pub drop_listed : (t : ℕ × L → Bool) (xs : List (ℕ × L)) (nodes : List ℕ) (i : ℕ) → nodes ≡ ids (filter t xs) → length nodes ≤ i
      → drop i (filter t xs) ≡ []
  drop_listed t xs nodes i e high =
      let ys = filter t xs in
      drop_all i ys (omega (arith, high, ap length (e ∙ ids-map ys), length-map ys (λ (x : ℕ × L). x.0)))

  -- the nodes of the leaves that pass another test too: one more, or as before
  module _ (u t : ℕ × L → Bool) (xs : List (ℕ × L)) (i id : ℕ) (s : ListedAt t xs i id) (old now : List ℕ) where
    pub more_filtered : u (id, s.value) ≡ true → now ≡ old ++ id ∷ []
        → now ++ ids (filter u (drop (i + 1) (filter t xs))) ≡ old ++ ids (filter u (drop i (filter t xs)))
    more_filtered e made =
        let rest = drop (i + 1) (filter t xs) in
        ap (λ ns. ns ++ ids (filter u rest)) made
        ∙ append_assoc old (id ∷ []) (ids (filter u rest))
        ∙ sym (ap (λ ys. old ++ ids (filter u ys)) s.rest
        ∙ ap (λ b. old ++ ids (cond b ((id, s.value) ∷ filter u rest) (filter u rest))) e)

    pub none_filtered : u (id, s.value) ≡ false → now ≡ old
        → now ++ ids (filter u (drop (i + 1) (filter t xs))) ≡ old ++ ids (filter u (drop i (filter t xs)))
    none_filtered e made =
        let rest = drop (i + 1) (filter t xs) in
        ap (λ ns. ns ++ ids (filter u rest)) made
        ∙ sym (ap (λ ys. old ++ ids (filter u ys)) s.rest
        ∙ ap (λ b. old ++ ids (cond b ((id, s.value) ∷ filter u rest) (filter u rest))) e)

-- the leaves that a stage inserted are among those that it touched
pub inserted-touched : {C : Type 0} (k : ℕ) (xs : List (ℕ × TreeLeaf C))
    → filter (inserted_by leaf_stamps k) (filter (λ x. is_touched_by k x.1) xs) ≡ filter (inserted_by leaf_stamps k) xs
inserted-touched {C} k xs = filter-twice (inserted_by leaf_stamps k) (λ x. is_touched_by k x.1) none xs
  where
    first_or : (a b : Bool) → (a || b) ≡ false → a ≡ false
    first_or true b h = absurd cc
    first_or false b h = refl

    none : (x : ℕ × TreeLeaf C) → is_touched_by k x.1 ≡ false → inserted_by leaf_stamps k x ≡ false
    none x h = first_or _ _ h

-- the first of some nodes, or none
pub first_listed : (ns : List ℕ) (id : ℕ) → Some id ≡ slice_get ns 0 → (more : List ℕ) × (ns ≡ id ∷ more)
first_listed [] id e = absurd cc
first_listed (n ∷ ns) id e = let same : n ≡ id = cc in (ns, ap (λ m. m ∷ ns) same)

pub none_listed : (ns : List ℕ) → None ≡ slice_get ns 0 → ns ≡ []
none_listed [] e = refl
none_listed (n ∷ ns) e = absurd cc
