-- Runs with other properties, where properties are equal lists.
use Rattle.std.proofs.Common.{◌≡◌, ℕ, Bool, true, false, List, [], ◌∷◌, refl, sym, ◌∙◌}
use Rattle.ft_props.specs.Properties.{PropertyList}
use Rattle.ft_sumdoc.specs.WellFormed.{same_props}
use Rattle.ft_marks.proofs.SameStamps.{same_props-Decides}
use Rattle.ft_changes.specs.ShownRuns.{ChangedRun, changed_runs}
use Rattle.ft_changes.proofs.RunsInOrder.{changed_places, changed_runs-placed, with_all_changed}

pub same_props-decides : (a b : PropertyList) → same_props a b ≡ true → a ≡ b
same_props-decides a b h = (same_props-Decides a b).0 h

same_props-symmetric : (a b : PropertyList) → same_props a b ≡ same_props b a
same_props-symmetric a b = by (same_props a b) refl (same_props b a) refl
  where
    by : (s : Bool) → same_props a b ≡ s → (t : Bool) → same_props b a ≡ t → s ≡ t
    by true h true k = refl
    by false h false k = refl
    by true h false k = sym ((same_props-Decides b a).1 (sym (same_props-decides a b h))) ∙ k
    by false h true k = sym h ∙ (same_props-Decides a b).1 (sym (same_props-decides b a k))

-- the runs are those that the places make one after another
pub shown_runs-placed : {A : Type 0} (props : A → PropertyList) (f : A → A) (seen shown : A → Bool) (p q : ℕ) (xs : List A)
    → changed_runs same_props props f seen shown p q xs ≡ with_all_changed same_props [] (changed_places same_props props f 0 0 seen shown p q xs)
shown_runs-placed props f seen shown p q xs = changed_runs-placed same_props same_props-decides same_props-symmetric props f seen shown p q 0 0 xs

-- a walk from the front on that has come to the end found all of them
pub all_found : {A : Type 0} (props : A → PropertyList) (f : A → A) (seen shown : A → Bool) (p q : ℕ) (xs rest : List A) (n i : ℕ) (runs : List (ChangedRun PropertyList))
    → with_all_changed same_props runs (changed_places same_props props f n i seen shown p q rest)
    ≡ with_all_changed same_props [] (changed_places same_props props f 0 0 seen shown p q xs)
    → rest ≡ [] → runs ≡ changed_runs same_props props f seen shown p q xs
all_found props f seen shown p q xs [] n i runs all ended = all ∙ sym (shown_runs-placed props f seen shown p q xs)
all_found props f seen shown p q xs (x ∷ rest) n i runs all ended = (cc)
