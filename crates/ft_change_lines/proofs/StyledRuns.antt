-- Elements without properties that get those of their runs are the elements.
use Rattle.std.proofs.Common.{◌≡◌, ℕ, zero, suc, ◌+◌, ◌-◌, ◌≤◌, Bool, true, false, cond, ◌&&◌, nat_eq, List, [], ◌∷◌, map, refl, sym, ◌∙◌, ap, arith}
use Rattle.std.proofs.lemmas.Bool.Decides.{nat_tests}
use Rattle.ft_base.proofs.Booleans.{both}
use Rattle.ft_props.specs.Element.{ElementContent}
use Rattle.ft_props.specs.Properties.{PropertyList}
use Rattle.ft_sumdoc.specs.WellFormed.{same_props}
use Rattle.ft_msg.specs.declared.views.Run.{Run}
use Rattle.ft_msg.specs.Content.{extended_property_runs}
use Rattle.ft_changes.specs.Shown.{ShownElement, after_changes, restyled, shown_runs}
use Rattle.ft_changes.specs.ShownRuns.{change_at, change_first}
use Rattle.ft_changes.proofs.SameShown.{same_props-decides}
use Rattle.ft_change_lines.specs.FromNothing.{style_of}
use Rattle.ft_change_lines.proofs.PutElements.{bare, shows}

-- the elements from place i on with the properties of runs
abbrev styled_from : ℕ → List Run → List ShownElement → List ShownElement
styled_from i [] xs = xs
styled_from i (run ∷ runs) xs = styled_from i runs (change_at (run.start - i) (run.end - run.start) (restyled run.props) xs)

-- the runs stand at place i or behind it
abbrev StandFrom : ℕ → List Run → Type 0
StandFrom i [] = Unit {0}
StandFrom i (run ∷ runs) = (i ≤ run.start) × (run.start ≤ run.end) × StandFrom i runs

stand-before : (i j : ℕ) (runs : List Run) → i ≤ j → StandFrom j runs → StandFrom i runs
stand-before i j [] l h = tt
stand-before i j (run ∷ runs) l (start, end, rest) = (omega (arith, l, start), end, stand-before i j runs l rest)

runs-stand : (i : ℕ) (es : List ShownElement) → StandFrom i (shown_runs i es)
runs-stand i [] = tt
runs-stand i (e ∷ es) = by e.props (shown_runs (i + 1) es) (runs-stand (i + 1) es)
  where
    by : (props : PropertyList) (runs : List Run) → StandFrom (i + 1) runs → StandFrom i (extended_property_runs i props runs)
    by [] runs h = stand-before i (i + 1) runs (omega arith) h
    by (p ∷ ps) [] h = (omega arith, omega arith, tt)
    by (p ∷ ps) (run ∷ runs) (start, end, rest) = joined (nat_eq run.start (i + 1) && same_props run.props (p ∷ ps))
      where
        joined : (b : Bool) → StandFrom i (cond b (record run { start = i } ∷ runs) (record { start = i; end = i + 1; props = p ∷ ps } ∷ run ∷ runs))
        joined true = (omega arith, omega (arith, start, end), stand-before i (i + 1) runs (omega arith) rest)
        joined false = (omega arith, omega arith, stand-before i (i + 1) (run ∷ runs) (omega arith) (start, end, rest))

-- runs behind an element leave it
styled-behind : (i : ℕ) (runs : List Run) (x : ShownElement) (xs : List ShownElement) → StandFrom (i + 1) runs
    → styled_from i runs (x ∷ xs) ≡ x ∷ styled_from (i + 1) runs xs
styled-behind i [] x xs h = refl
styled-behind i (run ∷ runs) x xs (start, end, rest) =
    let next : run.start - i ≡ suc (run.start - (i + 1)) = omega (arith, start) in
    ap (λ k. styled_from i runs (change_at k (run.end - run.start) (restyled run.props) (x ∷ xs))) next
    ∙ styled-behind i runs x (change_at (run.start - (i + 1)) (run.end - run.start) (restyled run.props) xs) rest

runs-style : (i : ℕ) (es : List ShownElement) → styled_from i (shown_runs i es) (bare es) ≡ es
runs-style i [] = refl
runs-style i (e ∷ es) = by e.content e.props (shown_runs (i + 1) es) (runs-stand (i + 1) es) (runs-style (i + 1) es)
  where
    by : (c : ElementContent) (props : PropertyList) (runs : List Run) → StandFrom (i + 1) runs → styled_from (i + 1) runs (bare es) ≡ es
        → styled_from i (extended_property_runs i props runs) (record { content = c; props = [] } ∷ bare es) ≡ record { content = c; props = props } ∷ es
    by c [] runs h rest = styled-behind i runs (record { content = c; props = [] }) (bare es) h ∙ ap (λ ys. record { content = c; props = [] } ∷ ys) rest
    by c (p ∷ ps) [] h rest =
        let none : i - i ≡ zero = omega arith in
        let one : i + 1 - i ≡ suc zero = omega arith in
        ap (λ k. change_at k (i + 1 - i) (restyled (p ∷ ps)) (record { content = c; props = [] } ∷ bare es)) none
        ∙ ap (λ n. change_first n (restyled (p ∷ ps)) (record { content = c; props = [] } ∷ bare es)) one
        ∙ ap (λ ys. record { content = c; props = p ∷ ps } ∷ ys) rest
    by c (p ∷ ps) (run ∷ runs) (start, end, later) rest = joined (nat_eq run.start (i + 1) && same_props run.props (p ∷ ps)) refl
      where
        none : i - i ≡ zero
        none = omega arith

        first : (props : PropertyList) → ShownElement
        first props = record { content = c; props = props }

        joined : (b : Bool) → nat_eq run.start (i + 1) && same_props run.props (p ∷ ps) ≡ b
            → styled_from i (cond b (record run { start = i } ∷ runs) (record { start = i; end = i + 1; props = p ∷ ps } ∷ run ∷ runs)) (first [] ∷ bare es) ≡ first (p ∷ ps) ∷ es
        joined true e =
            let t = both (nat_eq run.start (i + 1)) (same_props run.props (p ∷ ps)) e in
            let at : run.start ≡ i + 1 = grind (arith, nat_tests, t.0) in
            let here : run.start - (i + 1) ≡ zero = omega (arith, at) in
            let more : run.end - i ≡ suc (run.end - run.start) = omega (arith, at, end) in
            ap (λ k. styled_from i runs (change_at k (run.end - i) (restyled run.props) (first [] ∷ bare es))) none
            ∙ ap (λ n. styled_from i runs (change_first n (restyled run.props) (first [] ∷ bare es))) more
            ∙ styled-behind i runs (first run.props) (change_first (run.end - run.start) (restyled run.props) (bare es)) later
            ∙ ap (λ k. first run.props ∷ styled_from (i + 1) runs (change_at k (run.end - run.start) (restyled run.props) (bare es))) (sym here)
            ∙ ap (λ ys. first run.props ∷ ys) rest ∙ ap (λ props. first props ∷ es) (same_props-decides run.props (p ∷ ps) t.1)
        joined false e =
            let one : i + 1 - i ≡ suc zero = omega arith in
            ap (λ k. styled_from i (run ∷ runs) (change_at k (i + 1 - i) (restyled (p ∷ ps)) (first [] ∷ bare es))) none
            ∙ ap (λ n. styled_from i (run ∷ runs) (change_first n (restyled (p ∷ ps)) (first [] ∷ bare es))) one
            ∙ styled-behind i (run ∷ runs) (first (p ∷ ps)) (bare es) (start, end, later)
            ∙ ap (λ ys. first (p ∷ ps) ∷ ys) rest

changes-style : (runs : List Run) (xs : List ShownElement) → after_changes (shows xs) (map style_of runs) ≡ shows (styled_from 0 runs xs)
changes-style [] xs = refl
changes-style (run ∷ runs) xs =
    let same : run.start ≡ run.start - 0 = omega arith in
    ap (λ k. after_changes (shows (change_at k (run.end - run.start) (restyled run.props) xs)) (map style_of runs)) same
    ∙ changes-style runs (change_at (run.start - 0) (run.end - run.start) (restyled run.props) xs)

pub runs-lead : (es : List ShownElement) → after_changes (shows (bare es)) (map style_of (shown_runs 0 es)) ≡ shows es
runs-lead es = changes-style (shown_runs 0 es) (bare es) ∙ ap shows (runs-style 0 es)
