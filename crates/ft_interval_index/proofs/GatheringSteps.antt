-- Steps that gather intervals, one after another; and what the pending operations are with places as their ends.
use Rattle.std.proofs.Common.{◌≡◌, ℕ, ◌+◌, ◌*◌, ◌<◌, ◌≤◌, Bool, true, false, ◌&&◌, ◌||◌, List, [], ◌∷◌, All, Option, Some, None, length, take, get_or, refl, sym, ◌∙◌, ap, arith}
use Rattle.std.specs.List.{list_any}
use Rattle.std.proofs.Math.Nat.{mul-le-mul_left}
use Rattle.std.specs.Ordering.{is_eq, ordering_then}
use Rattle.std.specs.declared.cmp.Ordering.{Ordering}
use Rattle.std.specs.declared.cmp.Ordering.TheVariants.{Less, Equal, Greater}
use Rattle.std.proofs.lemmas.List.{length-map, take_more}
use Rattle.std.proofs.lemmas.List.Elements.{All-cons, All-head, All-nil, All-tail}
use Rattle.ft_props.specs.Keys.{Characters, text_cmp}
use Rattle.ft_refs.specs.declared.numbers.Place.{Place}
use Rattle.ft_tree_leaves.specs.declared.text.TextContent.{TextContent}
use Rattle.ft_tree.specs.State.{TreeState}
use Rattle.ft_interval_store.specs.declared.intervals.Interval.{Interval}
use Rattle.ft_interval_store.specs.declared.pending.Operation.{Operation}
use Rattle.ft_interval_store.specs.Ends.{References, places_of_ends}
use Rattle.ft_interval_store.specs.Gathered.{Gathers}
use Rattle.ft_interval_store.specs.Intervals.{Name, name_cmp}
use Rattle.ft_interval_store.specs.Shown.{last}
use Rattle.ft_interval_store.specs.State.{placed_operations, with_mapped_names}
use Rattle.ft_interval_store.proofs.Gathered.{any-append, part-less}
use Rattle.ft_interval_index.specs.Indexes.{LabelIndex, id_in, is_found, is_id}

or-more : (a b c : Bool) → (b ≡ true → c ≡ true) → a || b ≡ true → a || c ≡ true
or-more true b c h e = refl
or-more false b c h e = h e

or-none : (a b : Bool) → b ≡ false → a || b ≡ true → a ≡ true
or-none true b h e = refl
or-none false b h e = (let never : true ≡ false = sym e ∙ h in cc never)

or-group : (a b c : Bool) → a || (b || c) ≡ true → (a || b) || c ≡ true
or-group true b c e = refl
or-group false b c e = e

module _ (tree : TreeState TextContent) (from : List (Interval ℕ)) where
  -- what gathers more gathers less
  pub gathers-less : (more less : Name → Bool) (old new : List (Interval Place)) → ((n : Name) → less n ≡ true → more n ≡ true)
      → Gathers tree from more old new → Gathers tree from less old new
  gathers-less more less old new h g is before s p =
      let r = g is before s p in
      (r.0, r.1, part-less from r.0 (λ n. before n || more n) (λ n. before n || less n) (λ n e. or-more (before n) (less n) (more n) (h n) e) r.2)

  -- nothing is gathered
  pub gathers-none : (wanted : Name → Bool) (all : List (Interval Place)) → ((n : Name) → wanted n ≡ false) → Gathers tree from wanted all all
  gathers-none wanted all none is before s p = (is, s, part-less from is before (λ n. before n || wanted n) (λ n e. or-none (before n) (wanted n) (none n) e) p)

  -- one gathering behind another
  pub gathers-then : (first second : Name → Bool) (old mid new : List (Interval Place)) → Gathers tree from first old mid → Gathers tree from second mid new
      → Gathers tree from (λ n. first n || second n) old new
  gathers-then first second old mid new g h is before s p =
      let r = g is before s p in
      let q = h r.0 (λ n. before n || first n) r.1 r.2 in
      (q.0, q.1, part-less from q.0 (λ n. (before n || first n) || second n) (λ n. before n || (first n || second n)) (λ n e. or-group (before n) (first n) (second n) e) q.2)

-- ---- names

then-equal : (o p : Ordering) → is_eq (ordering_then o p) ≡ is_eq o && is_eq p
then-equal Less p = refl
then-equal Equal p = refl
then-equal Greater p = refl

-- names are the same where labels and ids are
pub name-parts : (n : Name) (label id : Characters) → is_eq (name_cmp n (label, id)) ≡ is_eq (text_cmp n.0 label) && is_eq (text_cmp n.1 id)
name-parts n label id = then-equal (text_cmp n.0 label) (text_cmp n.1 id)

and-false : (a : Bool) → a && false ≡ false
and-false true = refl
and-false false = refl

pub none-found : (n : Name) (x : LabelIndex) → is_found n x [] ≡ false
none-found n x = and-false (is_eq (text_cmp n.0 x.label))

pub no-id : (n : Name) (x : LabelIndex) (o : Option Characters) → o ≡ None → is_eq (text_cmp n.0 x.label) && is_id n.1 o ≡ false
no-id n x o e = ap (λ i. is_eq (text_cmp n.0 x.label) && is_id n.1 i) e ∙ and-false (is_eq (text_cmp n.0 x.label))

spread : (c p q : Bool) → c && (p || q) ≡ (c && p) || (c && q)
spread true p q = refl
spread false p q = refl

-- one key more
pub found-more : (n : Name) (x : LabelIndex) (keys : List ℕ) (i : ℕ) → i < length keys
    → is_found n x (take (i + 1) keys) ≡ is_found n x (take i keys) || (is_eq (text_cmp n.0 x.label) && is_id n.1 (id_in (Some x) (get_or keys i 0)))
found-more n x keys i within =
    ap (λ (ks : List ℕ). is_found n x ks) (take_more keys i 0 within)
    ∙ ap (λ b. is_eq (text_cmp n.0 x.label) && b) (any-append (λ j. is_id n.1 (id_in (Some x) j)) (take i keys) (get_or keys i 0))
    ∙ spread (is_eq (text_cmp n.0 x.label)) (list_any (λ j. is_id n.1 (id_in (Some x) j)) (take i keys)) (is_id n.1 (id_in (Some x) (get_or keys i 0)))

-- ---- pending operations with places

pub fits-placed : (refs : References) (ts : List Operation) → All (λ (t : Operation). t.stage ≤ last) ts
    → All (λ (t : Operation). t.stage ≤ last) (placed_operations refs ts)
fits-placed refs [] h = All-nil (λ (t : Operation). t.stage ≤ last)
fits-placed refs (t ∷ ts) h =
    let P : Operation → Type 0 = λ u. u.stage ≤ last in
    All-cons P (with_mapped_names (places_of_ends refs) t) (placed_operations refs ts) (All-head P t ts h) (fits-placed refs ts (All-tail P t ts h))

pub count-placed : (refs : References) (ts : List Operation) → length (placed_operations refs ts) ≡ length ts
count-placed refs ts = length-map ts (with_mapped_names (places_of_ends refs))

-- no more reads than for so many keys
pub few-reads : (new old d k m j : ℕ) → new ≤ old + 9 * (d + 1) * (k + 1) → k ≤ m + j → new ≤ old + 9 * (d + 1) * (m + j + 1)
few-reads new old d k m j h l =
    let more : k + 1 ≤ m + j + 1 = omega (arith, l) in
    let times : 9 * (d + 1) * (k + 1) ≤ 9 * (d + 1) * (m + j + 1) = mul-le-mul_left (9 * (d + 1)) more in
    omega (arith, h, times)

pub none-read : (new old n : ℕ) → new ≡ old → new ≤ old + n
none-read new old n e = omega (arith, e)
