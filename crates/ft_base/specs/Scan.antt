-- Scans of a list from the front, where a test says which elements are seen. They know nothing of stamps: the view of a
-- perspective, of a pending stage, of unremoved elements and of what is kept are all these scans with another test, and
-- each law on them stands once.
use Rattle.std.specs.Prelude.{ℕ, zero, suc, Bool, true, false, cond, ◌&&◌, nat_le, nat_lt, List, [], ◌∷◌, ◌++◌, Option, Some, None, find}
use Rattle.std.specs.Option.{option_or}

-- one more where the test passes
abbrev pub one_more_if : Bool → ℕ → ℕ
one_more_if true n = suc n
one_more_if false n = n

-- f of the elements that are kept, in order
abbrev pub retain_map : {A B : Type 0} → (A → Bool) → (A → B) → List A → List B
retain_map keep f [] = []
retain_map keep f (x ∷ xs) = cond (keep x) (f x ∷ retain_map keep f xs) (retain_map keep f xs)

-- how many elements are seen
abbrev pub len : {A : Type 0} → (A → Bool) → List A → ℕ
len seen [] = 0
len seen (x ∷ xs) = one_more_if (seen x) (len seen xs)

-- the seen element with i seen ones before it
abbrev pub at : {A : Type 0} → (A → Bool) → ℕ → List A → Option A
at seen i [] = None
at seen zero (x ∷ xs) = cond (seen x) (Some x) (at seen zero xs)
at seen (suc i) (x ∷ xs) = at seen (cond (seen x) i (suc i)) xs

-- the test of an insertion that goes past no run
abbrev pub no_run : {A : Type 0} → A → Bool
no_run x = false

-- new behind the run of elements at the front that pass the test
abbrev pub put_past : {A : Type 0} → (A → Bool) → List A → List A → List A
put_past past new [] = new
put_past past new (x ∷ xs) = cond (past x) (x ∷ put_past past new xs) (new ++ (x ∷ xs))

-- new directly after the p-th seen element, or at the head for 0, but past the run that stands there; at the end where
-- fewer are seen
abbrev pub put : {A : Type 0} → (A → Bool) → (A → Bool) → ℕ → List A → List A → List A
put seen past zero new xs = put_past past new xs
put seen past (suc p) new [] = new
put seen past (suc p) new (x ∷ xs) = x ∷ put seen past (cond (seen x) p (suc p)) new xs

-- the number of elements up to the p-th seen one; all of them where fewer are seen
abbrev pub place : {A : Type 0} → (A → Bool) → ℕ → List A → ℕ
place seen zero xs = 0
place seen (suc p) [] = 0
place seen (suc p) (x ∷ xs) = suc (place seen (cond (seen x) p (suc p)) xs)

-- whether i is from p up to before q
abbrev pub within : ℕ → ℕ → ℕ → Bool
within p q i = nat_le p i && nat_lt i q

-- f of each seen element from the p-th up to before the q-th, where i are seen before the list
abbrev pub change_range_from : {A : Type 0} → ℕ → (A → Bool) → ℕ → ℕ → (A → A) → List A → List A
change_range_from i seen p q f [] = []
change_range_from i seen p q f (x ∷ xs) = cond (seen x && within p q i) (f x) x ∷ change_range_from (one_more_if (seen x) i) seen p q f xs

-- f of each seen element from the p-th up to before the q-th, counted from 0; the others as they are
abbrev pub change_range : {A : Type 0} → (A → Bool) → ℕ → ℕ → (A → A) → List A → List A
change_range seen p q f xs = change_range_from 0 seen p q f xs

-- as `settled`, where `last` is the last element before the list that is ok
abbrev pub settled_after : {A : Type 0} → (A → Bool) → (A → Bool) → Option A → List A → Option A
settled_after is ok last [] = None
settled_after is ok last (x ∷ xs) =
    cond (is x) (option_or (find ok (x ∷ xs)) last) (settled_after is ok (cond (ok x) (Some x) last) xs)

-- the element that is meant if it is ok, else the next one that is ok, else the last one before it that is, else none
abbrev pub settled : {A : Type 0} → (A → Bool) → (A → Bool) → List A → Option A
settled is ok xs = settled_after is ok None xs

-- how many seen elements stand left of the first one that is meant
abbrev pub rank : {A : Type 0} → (A → Bool) → (A → Bool) → List A → ℕ
rank is seen [] = 0
rank is seen (x ∷ xs) = cond (is x) 0 (one_more_if (seen x) (rank is seen xs))
