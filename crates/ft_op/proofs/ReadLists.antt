-- Reading a list item by item: what was read so far, then what is read of the rest, is what is read of all.
use Rattle.std.proofs.Common.{◌≡◌, List, [], ◌∷◌, ◌++◌, Result, Ok, Err, refl, sym, ap, append_assoc}
use Rattle.std.specs.List.{AllByRecursion}
use Rattle.ft_op.specs.Reading.{◌>>=◌, read_each}

-- what was read, with what is read of the rest behind it
abbrev pub joined : {B F : Type 0} → List B → Result (List B) F → Result (List B) F
joined done (Ok rest) = Ok (done ++ rest)
joined done (Err fault) = Err fault

pub nothing_joined : {B F : Type 0} (r : Result (List B) F) → joined [] r ≡ r
nothing_joined (Ok rest) = refl
nothing_joined (Err fault) = refl

one_more : {B F : Type 0} (done : List B) (y : B) (r : Result (List B) F) → joined done (r >>= λ ys. Ok (y ∷ ys)) ≡ joined (done ++ y ∷ []) r
one_more done y (Ok rest) = ap (λ ys. Ok ys) (sym (append_assoc done (y ∷ []) rest))
one_more done y (Err fault) = refl

pub next_read : {A B F : Type 0} (reads : A → Result B F) (done : List B) (x : A) (y : B) (xs : List A) → reads x ≡ Ok y → joined done (read_each reads (x ∷ xs)) ≡ joined (done ++ y ∷ []) (read_each reads xs)
next_read reads done x y xs e = rw e (one_more done y (read_each reads xs))

pub next_refused : {A B F : Type 0} (reads : A → Result B F) (done : List B) (x : A) (fault : F) (xs : List A) → reads x ≡ Err fault → joined done (read_each reads (x ∷ xs)) ≡ Err fault
next_refused reads done x fault xs e = rw e refl

-- where it holds of all and of one more, it holds with that at the end
pub all_and_last : {A : Type 0} (P : A → Type 0) (xs : List A) (y : A) → AllByRecursion P xs → P y → AllByRecursion P (xs ++ y ∷ [])
all_and_last P [] y h k = (k, tt)
all_and_last P (x ∷ xs) y h k = (h.0, all_and_last P xs y h.1 k)
