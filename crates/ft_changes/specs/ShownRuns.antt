-- What a change of a list makes of the elements that are shown of it: where they go in, in which runs they go away, and in which
-- runs they have other properties. A list has two tests: which elements the sender of the change saw, and which are shown here.
use Rattle.std.specs.Prelude.{ℕ, zero, suc, Bool, true, false, cond, not, ◌&&◌, nat_eq, List, [], ◌∷◌, ◌++◌}
use Rattle.ft_base.specs.Scan.{one_more_if, within}

-- ---- changes of a list at a place

-- new in front of the element at place p, or at the end
abbrev pub put_in : {A : Type 0} → ℕ → List A → List A → List A
put_in zero new xs = new ++ xs
put_in (suc p) new [] = new
put_in (suc p) new (x ∷ xs) = x ∷ put_in p new xs

-- without the first n
abbrev pub without_first : {A : Type 0} → ℕ → List A → List A
without_first zero xs = xs
without_first (suc n) [] = []
without_first (suc n) (x ∷ xs) = without_first n xs

-- without n from place p on
abbrev pub take_out : {A : Type 0} → ℕ → ℕ → List A → List A
take_out zero n xs = without_first n xs
take_out (suc p) n [] = []
take_out (suc p) n (x ∷ xs) = x ∷ take_out p n xs

-- f of the first n
abbrev pub change_first : {A : Type 0} → ℕ → (A → A) → List A → List A
change_first zero f xs = xs
change_first (suc n) f [] = []
change_first (suc n) f (x ∷ xs) = f x ∷ change_first n f xs

-- f of n from place p on
abbrev pub change_at : {A : Type 0} → ℕ → ℕ → (A → A) → List A → List A
change_at zero n f xs = change_first n f xs
change_at (suc p) n f [] = []
change_at (suc p) n f (x ∷ xs) = x ∷ change_at p n f xs

-- ---- where an insertion is shown

-- how many of the run at the front that passes the test are shown
abbrev pub shown_in_run : {A : Type 0} → (A → Bool) → (A → Bool) → List A → ℕ
shown_in_run past shown [] = 0
shown_in_run past shown (x ∷ xs) = cond (past x) (one_more_if (shown x) (shown_in_run past shown xs)) 0

-- how many shown elements stand before what goes in after the p-th seen one and past the run there
abbrev pub place_of_insertion : {A : Type 0} → (A → Bool) → (A → Bool) → (A → Bool) → ℕ → List A → ℕ
place_of_insertion seen past shown zero xs = shown_in_run past shown xs
place_of_insertion seen past shown (suc p) [] = 0
place_of_insertion seen past shown (suc p) (x ∷ xs) = one_more_if (shown x) (place_of_insertion seen past shown (cond (seen x) p (suc p)) xs)

-- ---- in which runs elements go away

-- a run of shown elements that go away, where those before it are gone already
pub record GoneRun : Type 0 where
  pub place : ℕ
  pub count : ℕ

-- the runs behind it with one at place i before them, if it goes: it joins the first run where that begins at the same place
abbrev pub with_gone : Bool → ℕ → List GoneRun → List GoneRun
with_gone false i runs = runs
with_gone true i [] = record { place = i; count = 1 } ∷ []
with_gone true i (run ∷ runs) =
    cond (nat_eq run.place i) (record { place = i; count = suc run.count } ∷ runs) (record { place = i; count = 1 } ∷ run ∷ runs)

-- the maximal runs of shown elements among the seen ones from the p-th up to before the q-th, where n are seen and i are left
-- shown before the list
abbrev pub gone_runs_from : {A : Type 0} → ℕ → ℕ → (A → Bool) → (A → Bool) → ℕ → ℕ → List A → List GoneRun
gone_runs_from n i seen shown p q [] = []
gone_runs_from n i seen shown p q (x ∷ xs) =
    let goes = seen x && within p q n in
    with_gone (shown x && goes) i (gone_runs_from (one_more_if (seen x) n) (one_more_if (shown x && not goes) i) seen shown p q xs)

-- the same of a whole list
abbrev pub gone_runs : {A : Type 0} → (A → Bool) → (A → Bool) → ℕ → ℕ → List A → List GoneRun
gone_runs seen shown p q xs = gone_runs_from 0 0 seen shown p q xs

-- the list without the runs, one after another
abbrev pub without_runs : {A : Type 0} → List GoneRun → List A → List A
without_runs [] xs = xs
without_runs (run ∷ runs) xs = without_runs runs (take_out run.place run.count xs)

-- ---- in which runs elements change

-- a run of shown elements that have these properties now
pub record ChangedRun (P : Type 0) : Type 0 where
  pub place : ℕ
  pub count : ℕ
  pub props : P

-- the runs behind it with one at place i before them, if it changed: it joins the first run where that begins next to it with the
-- same properties
abbrev pub with_changed_run : {P : Type 0} → (P → P → Bool) → Bool → ℕ → P → List (ChangedRun P) → List (ChangedRun P)
with_changed_run same false i props runs = runs
with_changed_run same true i props [] = record { place = i; count = 1; props = props } ∷ []
with_changed_run same true i props (run ∷ runs) =
    cond (nat_eq run.place (suc i) && same run.props props) (record { place = i; count = suc run.count; props = props } ∷ runs)
    (record { place = i; count = 1; props = props } ∷ run ∷ runs)

-- the maximal runs of shown elements among the seen ones from the p-th up to before the q-th that f gives other properties,
-- equal ones in a run, where n are seen and i are shown before the list
abbrev pub changed_runs_from :
    {A P : Type 0} → (P → P → Bool) → (A → P) → (A → A) → ℕ → ℕ → (A → Bool) → (A → Bool) → ℕ → ℕ → List A → List (ChangedRun P)
changed_runs_from same props f n i seen shown p q [] = []
changed_runs_from same props f n i seen shown p q (x ∷ xs) =
    with_changed_run same (shown x && (seen x && within p q n) && not (same (props x) (props (f x)))) i (props (f x))
    (changed_runs_from same props f (one_more_if (seen x) n) (one_more_if (shown x) i) seen shown p q xs)

-- the same of a whole list
abbrev pub changed_runs : {A P : Type 0} → (P → P → Bool) → (A → P) → (A → A) → (A → Bool) → (A → Bool) → ℕ → ℕ → List A → List (ChangedRun P)
changed_runs same props f seen shown p q xs = changed_runs_from same props f 0 0 seen shown p q xs

-- the list with the runs changed, one after another, where `with` puts the properties on an element
abbrev pub with_runs : {P A : Type 0} → (P → A → A) → List (ChangedRun P) → List A → List A
with_runs with [] xs = xs
with_runs with (run ∷ runs) xs = with_runs with runs (change_at run.place run.count (with run.props) xs)
