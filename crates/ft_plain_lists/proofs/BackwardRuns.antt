-- The runs of equal properties as a loop makes them that goes through the elements from the last to the first.
use Rattle.std.proofs.Common.{◌≡◌, ℕ, zero, suc, ◌+◌, Bool, true, false, cond, ◌&&◌, nat_eq, List, []}
use Rattle.std.proofs.Common.{◌∷◌, ◌++◌, IsTrue, ◌↔◌, OnOk, Result, Ok, Err, length, reverse, slice_index_or, slice_set, refl, sym, ◌∙◌, ap, arith}
use Rattle.std.proofs.lemmas.List.{reverse-append}
use Rattle.ft_msg.specs.declared.views.Run.{Run}
use Rattle.ft_msg.specs.Content.{extended_property_runs, property_runs_from}
use Rattle.ft_marks.proofs.SameStamps.{same_props-Decides}
use Rattle.ft_sumdoc.specs.WellFormed.{same_props}
use Rattle.ft_props.specs.Element.{ListElement}
use Rattle.ft_props.specs.Properties.{PropertyList, shown_props}
use Rattle.std.proofs.lemmas.Bool.Decides.{same_from_decides}
use Rattle.ft_plain_lists.specs.PropertyRuns.{Extends, all_shown_props, one_run, runs_before}

-- what a comparison of properties answers is that test
pub same_props-is : (r : Bool) (ps qs : PropertyList) → IsTrue r ↔ (ps ≡ qs) → same_props ps qs ≡ r
same_props-is r ps qs h =
    same_from_decides (same_props ps qs) r (same_props-Decides ps qs) h

extended-first : (i : ℕ) (props : PropertyList) (run : Run) (runs : List Run) → (props ≡ [] → ⊥)
    → extended_property_runs i props (run ∷ runs) ≡ cond (nat_eq run.start (i + 1) && same_props run.props props) (record run { start = i } ∷ runs) (one_run i props ∷ run ∷ runs)
extended-first i [] run runs h = absurd (h refl)
extended-first i (p ∷ ps) run runs h = refl

reverse-push : (runs : List Run) (run : Run) → reverse (runs ++ run ∷ []) ≡ run ∷ reverse runs
reverse-push runs run = reverse-append runs (run ∷ [])

-- an element that the first run goes on with
run-joined : (i : ℕ) (props : PropertyList) (rest old new : List Run) (first : Run) → (props ≡ [] → ⊥) → old ≡ rest ++ first ∷ []
    → (nat_eq first.start (i + 1) && same_props first.props props) ≡ true → new ≡ rest ++ record first { start = i } ∷ [] → reverse new ≡ extended_property_runs i
    props (reverse old)
run-joined i props rest old new first filled before joins made =
    ap reverse made ∙ reverse-push rest (record first { start = i })
    ∙ sym (ap (λ b. cond b (record first { start = i } ∷ reverse rest) (one_run i props ∷ first ∷ reverse rest)) joins)
    ∙ sym (extended-first i props first (reverse rest) filled)
    ∙ ap (extended_property_runs i props) (sym (ap reverse before ∙ reverse-push rest first))

-- an element that begins a run of its own
run-apart : (i : ℕ) (props : PropertyList) (rest old : List Run) (first : Run) → (props ≡ [] → ⊥) → old ≡ rest ++ first ∷ []
    → (nat_eq first.start (i + 1) && same_props first.props props) ≡ false
    → reverse (old ++ one_run i props ∷ []) ≡ extended_property_runs i props (reverse old)
run-apart i props rest old first filled before joins =
    reverse-push old (one_run i props) ∙ ap (λ runs. one_run i props ∷ reverse runs) before
    ∙ ap (λ runs. one_run i props ∷ runs) (reverse-push rest first)
    ∙ sym (ap (λ b. cond b (record first { start = i } ∷ reverse rest) (one_run i props ∷ first ∷ reverse rest)) joins)
    ∙ sym (extended-first i props first (reverse rest) filled)
    ∙ ap (extended_property_runs i props) (sym (ap reverse before ∙ reverse-push rest first))

-- the last one of a list, and what the list is where another one is written in its place
record EndsWith {A : Type 0} (xs : List A) (n : ℕ) (x : A) : Type 0 where
  front : List A
  is : xs ≡ front ++ x ∷ []
  written : (y : A) → slice_set xs n y ≡ front ++ y ∷ []

ends-with : {A : Type 0} (xs : List A) (n : ℕ) (x : A) → n + 1 ≡ length xs → x ≡ slice_index_or xs n x → EndsWith xs n x
ends-with [] n x e h = absurd (omega (arith, e))
ends-with (w ∷ []) zero x e h = record { front = []; is = ap (λ v. v ∷ []) (sym h); written = λ y. refl }
ends-with (w ∷ []) (suc n) x e h = absurd (omega (arith, e))
ends-with (w ∷ v ∷ xs) zero x e h = absurd (omega (arith, e))
ends-with (w ∷ v ∷ xs) (suc n) x e h =
    let rest = ends-with (v ∷ xs) n x (omega (arith, e)) h in
    record { front = w ∷ rest.front; is = ap (λ us. w ∷ us) rest.is; written = λ y. ap (λ us. w ∷ us) (rest.written y) }

-- an element without properties wants no run
pub Extends-none : (i : ℕ) (props : PropertyList) (old : List Run) → props ≡ [] → Extends i props old old true
Extends-none i props old none = ap (λ ps. extended_property_runs i ps (reverse old)) (sym none)

module _ (i : ℕ) (props : PropertyList) (filled : props ≡ [] → ⊥) (old : List Run) (n : ℕ) (first : Run)
    (e : n + 1 ≡ length old) (h : first ≡ slice_index_or old n first) where
  pub Extends-joined : (nat_eq first.start (i + 1) && same_props first.props props) ≡ true
      → Extends i props old (slice_set old n (record first { start = i })) true
  Extends-joined joins =
      let end = ends-with old n first e h in
      let begun = record first { start = i } in
      run-joined i props end.front old (slice_set old n begun) first filled end.is joins (end.written begun)

  pub Extends-apart : (nat_eq first.start (i + 1) && same_props first.props props) ≡ false → Extends i props old (slice_set old n first) false
  Extends-apart joins =
      let end = ends-with old n first e h in
      (end.written first ∙ sym end.is, run-apart i props end.front old first filled end.is joins)

-- the element is in the runs, or a run of its own is added
pub Extends-pushed : {A E : Type 0} (is_in : Bool) (done : Result A E) (i : ℕ) (props : PropertyList) (old between new : List Run)
    → Extends i props old between is_in → OnOk done (new ≡ cond is_in between (between ++ one_run i props ∷ [])) → OnOk done (reverse new ≡ extended_property_runs i props (reverse old))
Extends-pushed is_in (Err fault) i props old between new extends made = tt
Extends-pushed true (Ok x) i props old between new extends made = ap reverse made ∙ extends
Extends-pushed false (Ok x) i props old between new extends made =
    ap reverse made ∙ ap (λ runs. reverse (runs ++ one_run i props ∷ [])) extends.0 ∙ extends.1

later : (i n : ℕ) → i + suc n ≡ i + 1 + n
later i n = omega arith

-- the last element goes before the runs first
pub runs_before-push : (i : ℕ) (xs : List PropertyList) (props : PropertyList) (runs : List Run)
    → runs_before i (xs ++ props ∷ []) runs ≡ runs_before i xs (extended_property_runs (i + length xs) props runs)
runs_before-push i [] props runs = ap (λ n. extended_property_runs n props runs) (omega arith)
runs_before-push i (x ∷ xs) props runs =
    ap (extended_property_runs i x)
    (runs_before-push (i + 1) xs props runs ∙ ap (λ n. runs_before (i + 1) xs (extended_property_runs n props runs)) (sym (later i (length xs))))

-- the runs of elements are those of their properties
pub runs-of_props : (i : ℕ) (xs : List ListElement) → property_runs_from i xs ≡ runs_before i (all_shown_props xs) []
runs-of_props i [] = refl
runs-of_props i (x ∷ xs) = ap (extended_property_runs i (shown_props x.props x.pending)) (runs-of_props (i + 1) xs)
