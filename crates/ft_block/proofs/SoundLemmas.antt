-- That blocks stay sound where a leaf is put in, cut or changed.
use Rattle.std.proofs.Common.{◌≡◌, ◌≢◌, ℕ, ◌+◌, ◌^◌, ◌<◌, List, ◌∷◌, Option, Some, None, IsSome, IsSomeAnd, IfOk, OnOk, Result, Ok, Err, refl, sym, ap, ◌∙◌, arith, ◌≤◌, inl, inr}
use Rattle.std.proofs.lemmas.Bool.{cases_eq}
use Rattle.ft_base.specs.declared.elements.Element.{Element}
use Rattle.ft_arena.specs.Ids.{times, insert_after, put_after, without}
use Rattle.ft_arena.specs.Forest.{Forest, IsForest, IsPlace, entry, leaf_value, leaf_of_entry, count_some, with_leaf}
use Rattle.ft_shape.specs.declared.headed.Headed.{Headed}
use Rattle.ft_block.specs.declared.summaries.Summary.{Summary}
use Rattle.ft_block.specs.declared.leaves.View.{View}
use Rattle.ft_block.specs.declared.leaves.View.TheVariants.{Of, Removed}
use Rattle.ft_block.specs.declared.leaves.LenView.TheVariants.{At, Stage, All}
use Rattle.ft_shape.specs.Tree.{Measure, IsBare, IsTree, total, length_of}
use Rattle.ft_block.specs.Tree.{SumsKeptBut, AreFromFloor, KeepsLengths, by_view, by_size}
use Rattle.ft_shape.specs.Steps.{InsertsLeaf, SplitsLeaf, ChangesLeaf, TakesLeaf, MovesLeaf}
use Rattle.ft_block.specs.Inside.{IsRooted, IsSound}
use Rattle.ft_arena.proofs.IdLemmas.{times-without_same, times-without_other}
use Rattle.ft_shape.proofs.WithoutLemmas.{total-without_le}
use Rattle.ft_shape.proofs.EditLemmas.{some_of, total_same, total_change, after_is_edit}
use Rattle.ft_shape.proofs.FitLemmas.{leaves_live, leaf_length}
use Rattle.ft_shape.proofs.InsertLemmas.{changed_tree, changed_sums_same, changed_total, changed_value, changed_others}
use Rattle.ft_block.proofs.Floors.{changed_floors}
use Rattle.ft_block.proofs.ViewLemmas.{seen_same}

-- what holds of a value that is there says that there is one
pub is_some_by : {X : Type 0} (o : Option X) (P : X → Type 0) → IsSomeAnd o P → IsSome o
is_some_by None P h = absurd h
is_some_by (Some x) P h = refl

module _ {L : Type 0} where
  pub rooted_forest : (s : Forest L (Headed Summary)) (root : Option ℕ) → IsRooted s root → IsForest s
  rooted_forest s None t = t.forest
  rooted_forest s (Some root) t = t.shape.forest

  -- a leaf is there only under a root
  pub rooted_root : (s : Forest L (Headed Summary)) (root : Option ℕ) (x : ℕ) (v : L) → IsRooted s root → leaf_value s x ≡ Some v → root ≢ None
  rooted_root s None x v t e = λ q. let n : leaf_value s x ≡ None = ap leaf_of_entry (t.nodes x) in cc (n, e)
  rooted_root s (Some root) x v t e = λ q. cc

  pub leaf_rooted : (s : Forest L (Headed Summary)) (root : Option ℕ) (x : ℕ) → IsRooted s root → IsSome (leaf_value s x) → root ≢ None
  leaf_rooted s root x t live = let v = some_of (leaf_value s x) live in rooted_root s root x v.0 t v.1

  -- in a list without leaves there is no place but the first
  pub bare_place : (s : Forest L (Headed Summary)) (at : Option ℕ) → IsBare s → IsPlace s at → at ≡ None
  bare_place s None b p = refl
  bare_place s (Some x) b p = let v = some_of (leaf_value s x) p in absurd (rooted_root s None x v.0 b v.1 refl)

  -- two nodes with the same leaf value have the same length
  leaf_same : (measure : Measure L Summary) (old new : Forest L (Headed Summary)) (x : ℕ) → IsSome (leaf_value old x) → leaf_value new x ≡ leaf_value old x
      → length_of measure new x ≡ length_of measure old x
  leaf_same measure old new x live e =
      let v = some_of (leaf_value old x) live in
      leaf_length measure (entry new x) v.0 (e ∙ v.1) ∙ sym (leaf_length measure (entry old x) v.0 v.1)

  -- who has no leaf value stands not among the leaves
  no_leaf : (s : Forest L (Headed Summary)) (x : ℕ) → IsForest s → leaf_value s x ≡ None → times s.leaves x ≡ 0
  no_leaf s x f e = f.leaf_once x ∙ ap count_some e

  one_leaf : (s : Forest L (Headed Summary)) (x : ℕ) (v : L) → IsForest s → leaf_value s x ≡ Some v → times s.leaves x ≡ 1
  one_leaf s x v f e = f.leaf_once x ∙ ap count_some e

  -- all leaves together are as much longer as the new one is long
  pub inserts_total : (measure : Measure L Summary) (old new : Forest L (Headed Summary)) (id : ℕ) (leaf : L) (e : List ℕ → List ℕ)
      → IsForest old → InsertsLeaf old new id leaf e
      → total (length_of measure new) (e old.leaves) ≡ total (length_of measure new) old.leaves + length_of measure new id
      → total (length_of measure new) new.leaves ≡ total (length_of measure old) old.leaves + measure.leaf leaf
  inserts_total measure old new id leaf e f i longer =
      let none : times old.leaves id ≡ 0 = no_leaf old id f i.fresh in
      let same_rest : total (length_of measure new) old.leaves ≡ total (length_of measure old) old.leaves =
      total_same (length_of measure old) (length_of measure new) old.leaves
      (λ x m. leaf_same measure old new x (leaves_live old f x m) (i.others x (λ q. omega (arith, m, none, ap (times old.leaves) q)))) in
      omega (arith, ap (total (length_of measure new)) i.leaves, longer, same_rest, leaf_length measure (entry new id) leaf i.value)

  pub put_after_longer : (f : ℕ → ℕ) (s : Forest L (Headed Summary)) (at : Option ℕ) (id : ℕ) → IsForest s → IsPlace s at
      → total f (put_after s.leaves at id) ≡ total f s.leaves + f id
  put_after_longer f s None id g p = omega arith
  put_after_longer f s (Some at) id g p =
      let v = some_of (leaf_value s at) p in
      (after_is_edit at id).totals f s.leaves (one_leaf s at v.0 g v.1)

  -- the two parts of a leaf together are as long as the leaf was
  pub splits_total : (measure : Measure L Summary) (front rear : L → L) (old new : Forest L (Headed Summary)) (leaf id : ℕ) → IsForest old
      → (i : SplitsLeaf front rear old new leaf id)
      → measure.leaf (front i.whole) + measure.leaf (rear i.whole) ≡ measure.leaf i.whole
      → total (length_of measure new) new.leaves ≡ total (length_of measure old) old.leaves
  splits_total measure front rear old new leaf id f i parts =
      let none : times old.leaves id ≡ 0 = no_leaf old id f i.fresh in
      let one : times old.leaves leaf ≡ 1 = one_leaf old leaf i.whole f i.was in
      let put : total (length_of measure new) (insert_after old.leaves leaf id) ≡ total (length_of measure new) old.leaves + length_of measure new id =
      (after_is_edit leaf id).totals (length_of measure new) old.leaves one in
      let g : ℕ → ℕ = λ x. length_of measure new x in
      let change = total_change (length_of measure old) (length_of measure new) old.leaves leaf one
      (λ x m d. leaf_same measure old new x (leaves_live old f x m) (i.others x d (λ q. omega (arith, m, none, ap (times old.leaves) q)))) in
      omega (
        arith,
        ap (total (length_of measure new)) i.leaves,
        put,
        change,
        leaf_length measure (entry old leaf) i.whole i.was,
        leaf_length measure (entry new leaf)
            (front i.whole) i.now,
        leaf_length measure (entry new id) (rear i.whole) i.value,
        parts,
      )

  pub changes_total : (measure : Measure L Summary) (f : L → L) (old new : Forest L (Headed Summary)) (leaf : ℕ) → IsForest old
      → (i : ChangesLeaf f old new leaf)
      → total (length_of measure new) new.leaves + measure.leaf i.was ≡ total (length_of measure old) old.leaves + measure.leaf (f i.was)
  changes_total measure f old new leaf g i =
      let one : times old.leaves leaf ≡ 1 = one_leaf old leaf i.was g i.old_value in
      let change = total_change (length_of measure old) (length_of measure new) old.leaves leaf one (λ x m d. leaf_same measure old new x (leaves_live old g x m) (i.others x d)) in
      omega (
        arith,
        ap (total (length_of measure new)) i.leaves,
        change,
        leaf_length measure (entry old leaf) i.was i.old_value,
        leaf_length measure (entry new leaf)
            (f i.was) i.new_value,
      )

module _ {L : Type 0} (size : L → ℕ) (element : L → Element) (floor : ℕ) where
  -- a leaf with another value of the same size and the same stamps
  pub changed_sound : (s : Forest L (Headed Summary)) (root : Option ℕ) (at : ℕ) (v w : L) → IsSound size element floor s root
      → leaf_value s at ≡ Some v → element w ≡ element v
      → size w ≡ size v → IsSound size element floor (with_leaf s at w) root
  changed_sound s None at v w f found e n = absurd (rooted_root s None at v f.rooted found refl)
  changed_sound s (Some root) at v w f found e n =
      record {
        rooted = changed_tree s root at v w f.rooted found;
        sums = λ view k. changed_sums_same s root at v w f.rooted found (by_view size element view) (f.sums view k) (seen_same size element view v w e n);
        floors = changed_floors s root at v w f.rooted found floor f.floors;
        filled = λ x u q. elim (cases_eq x at) [
          | inl c ↦ let is : w ≡ u = cc (changed_value s root at v w f.rooted found, ap (leaf_value (with_leaf s at w)) c, q) in omega (arith, ap size is, n, f.filled at v found)
          | inr d ↦ f.filled x u (sym (changed_others s root at v w f.rooted found x d) ∙ q)
        ];
        fits = omega (arith, changed_total s root at v w f.rooted found (by_size size), n, f.fits);
      }

  -- a tree with one more leaf
  pub inserts_sound : (old new : Forest L (Headed Summary)) (root : Option ℕ) (top id : ℕ) (leaf : L) (e : List ℕ → List ℕ)
      → IsSound size element floor old root → 1 ≤ size leaf
      → total (length_of (by_size size) old) old.leaves + size leaf < 2 ^ 64
      → ((f : ℕ → ℕ) → total f (e old.leaves) ≡ total f old.leaves + f id) → IsTree new top
      → SumsKeptBut size element floor new None → AreFromFloor floor new → InsertsLeaf old new id leaf e → IsSound size element floor new (Some top)
  inserts_sound old new root top id leaf e f some fits longer tree sums floors i =
      record {
        rooted = tree;
        sums = sums;
        floors = floors;
        filled = λ x u q. elim (cases_eq x id) [
          | inl c ↦ let is : leaf ≡ u = cc (i.value, ap (leaf_value new) c, q) in omega (arith, ap size is, some)
          | inr d ↦ f.filled x u (sym (i.others x d) ∙ q)
        ];
        fits = omega (arith, inserts_total (by_size size) old new id leaf e (rooted_forest old root f.rooted) i (longer (length_of (by_size size) new)), fits);
      }

  -- a tree in which a leaf was cut in two
  pub splits_sound : (front rear : L → L) (old new : Forest L (Headed Summary)) (root : Option ℕ) (top leaf id : ℕ) → IsSound size element floor old root
      → ((v : L) → leaf_value old leaf ≡ Some v → (size (front v) + size (rear v) ≡ size v) × (1 ≤ size (front v)) × (1 ≤ size (rear v))) → IsTree new top
      → SumsKeptBut size element floor new None → AreFromFloor floor new → SplitsLeaf front rear old new leaf id → IsSound size element floor new (Some top)
  splits_sound front rear old new root top leaf id f parts tree sums floors i =
      record {
        rooted = tree;
        sums = sums;
        floors = floors;
        filled = λ x u q. elim (cases_eq x leaf) [
          | inl c ↦ let is : front i.whole ≡ u = cc (i.now, ap (leaf_value new) c, q) in let p = parts i.whole i.was in omega (arith, ap size is, p.1)
          | inr d ↦ elim (cases_eq x id) [
            | inl c ↦ let is : rear i.whole ≡ u = cc (i.value, ap (leaf_value new) c, q) in let p = parts i.whole i.was in omega (arith, ap size is, p.2)
            | inr n ↦ f.filled x u (sym (i.others x d n) ∙ q)
          ]
        ];
        fits = omega (arith, splits_total (by_size size) front rear old new leaf id (rooted_forest old root f.rooted) i ((parts i.whole i.was).0), f.fits);
      }

  -- a tree in which a leaf has another value
  pub changes_sound : (f : L → L) (old new : Forest L (Headed Summary)) (root : ℕ) (leaf : ℕ) → IsSound size element floor old (Some root)
      → ((v : L) → leaf_value old leaf ≡ Some v → (1 ≤ size (f v)) × (total (length_of (by_size size) old) old.leaves + size (f v) < 2 ^ 64
      + size v)) → IsTree new root
      → SumsKeptBut size element floor new None → AreFromFloor floor new → ChangesLeaf f old new leaf → IsSound size element floor new (Some root)
  changes_sound g old new root leaf f sized tree sums floors i =
      record {
        rooted = tree;
        sums = sums;
        floors = floors;
        filled = λ x u q. elim (cases_eq x leaf) [
          | inl c ↦ let is : g i.was ≡ u = cc (i.new_value, ap (leaf_value new) c, q) in omega (arith, ap size is, (sized i.was i.old_value).0)
          | inr d ↦ f.filled x u (sym (i.others x d) ∙ q)
        ];
        fits = omega (arith, changes_total (by_size size) g old new leaf f.rooted.shape.forest i, (sized i.was i.old_value).1);
      }

-- four facts on what a call answers give a fifth
pub if_ok_four : {T E : Type 0} (r : Result T E) (P I S : T → Type 0) (Q R : Type 0) → ((x : T) → P x → Q → R → I x → S x) → IfOk r P
    → OnOk r Q → OnOk r R → IfOk r I → IfOk r S
if_ok_four (Ok x) P I S Q R f p q r i = f x p q r i
if_ok_four (Err e) P I S Q R f p q r i = tt

pub on_ok_four : {T E : Type 0} (r : Result T E) (P Q R I S : Type 0) → (P → Q → R → I → S) → OnOk r P → OnOk r Q → OnOk r R → OnOk r I → OnOk r S
on_ok_four (Ok x) P Q R I S f p q r i = f p q r i
on_ok_four (Err e) P Q R I S f p q r i = tt

-- a leaf that is put first, or after another
pub front_longer : (f : ℕ → ℕ) (xs : List ℕ) (id : ℕ) → total f (id ∷ xs) ≡ total f xs + f id
front_longer f xs id = omega arith

pub after_longer : {L : Type 0} (f : ℕ → ℕ) (s : Forest L (Headed Summary)) (at id : ℕ) → IsForest s → IsSome (leaf_value s at)
    → total f (insert_after s.leaves at id) ≡ total f s.leaves + f id
after_longer f s at id g p = put_after_longer f s (Some at) id g p

module _ {L : Type 0} (size : L → ℕ) (element : L → Element) (floor : ℕ) where
  -- a tree without one of its leaves
  pub takes_sound : (old new : Forest L (Headed Summary)) (root top : Option ℕ) (leaf : ℕ) (value : L)
      → IsSound size element floor old root → leaf_value new leaf ≡ None
      → IsRooted new top → SumsKeptBut size element floor new None → AreFromFloor floor new → TakesLeaf old new leaf value → IsSound size element floor new top
  takes_sound old new root top leaf value f gone rooted sums floors i =
      let g = rooted_forest old root f.rooted in
      let h = rooted_forest new top rooted in
      let less : total (length_of (by_size size) new) (without old.leaves leaf) ≡ total (length_of (by_size size) old) (without old.leaves leaf) =
      total_same (length_of (by_size size) old) (length_of (by_size size) new) (without old.leaves leaf) (λ x m.
      let d : x ≢ leaf = (λ e. omega (arith, m, ap (times (without old.leaves leaf)) e, times-without_same old.leaves leaf)) in
      leaf_same (by_size size) old new x (leaves_live old g x (omega (arith, m, times-without_other old.leaves leaf x d))) (i.others x d)) in
      record {
        rooted = rooted;
        sums = sums;
        floors = floors;
        filled = λ x u q. elim (cases_eq x leaf) [
          | inl c ↦ let n : leaf_value new x ≡ None = ap (leaf_value new) c ∙ gone in cc (n, q)
          | inr d ↦ f.filled x u (sym (i.others x d) ∙ q)
        ];
        fits = omega (arith, ap (total (length_of (by_size size) new)) i.leaves, less, total-without_le (length_of (by_size size) old) old.leaves leaf, f.fits);
      }

  -- a tree in which a leaf stands elsewhere
  pub moves_sound : (old new : Forest L (Headed Summary)) (root : Option ℕ) (top leaf : ℕ) (at : Option ℕ)
      → IsSound size element floor old root → IsSome (leaf_value old leaf)
      → ((f : ℕ → ℕ) → total f new.leaves ≡ total f old.leaves) → IsTree new top → SumsKeptBut size element floor new None → AreFromFloor floor new
      → MovesLeaf old new leaf at → IsSound size element floor new (Some top)
  moves_sound old new root top leaf at f live longer tree sums floors i =
      let g = rooted_forest old root f.rooted in
      record {
        rooted = tree;
        sums = sums;
        floors = floors;
        filled = λ x u q. f.filled x u (sym (i.values x) ∙ q);
        fits = omega (
          arith,
          longer (length_of (by_size size) new),
          total_same (length_of (by_size size) old) (length_of (by_size size) new) old.leaves
              (λ x m. leaf_same (by_size size) old new x (leaves_live old g x m) (i.values x)),
          f.fits,
        );
      }

  -- a higher floor asks for fewer views
  pub raised_sound : (higher : ℕ) (s : Forest L (Headed Summary)) (root : Option ℕ) → floor ≤ higher → IsSound size element floor s root
      → IsSound size element higher s root
  raised_sound higher s root h f =
      record {
        rooted = f.rooted;
        sums = λ view k. f.sums view (kept_lower view k);
        floors = λ x v e. omega (arith, f.floors x v e, h);
        filled = f.filled;
        fits = f.fits;
      }
    where
      kept_lower : (view : View) → KeepsLengths higher view → KeepsLengths floor view
      kept_lower (Of (At at)) k = (omega (arith, k.0, h), k.1, k.2)
      kept_lower (Of (Stage k)) e = e
      kept_lower (Of All) e = e
      kept_lower Removed e = e
