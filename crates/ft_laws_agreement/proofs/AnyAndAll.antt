-- Whether some or all of a list pass a test.
use Rattle.std.proofs.Common.{◌≡◌, Bool, true, List, [], ◌∷◌, refl, arith, ◌++◌}
use Rattle.std.specs.List.{list_all, list_any}
use Rattle.ft_props.specs.Element.{ListElement}

pub all_true : (xs : List ListElement) → list_all (λ e. true) xs ≡ true
all_true [] = refl
all_true (e ∷ xs) = all_true xs

pub all-append : {A : Type 0} (is : A → Bool) (xs ys : List A) → list_all is xs ≡ true → list_all is ys ≡ true → list_all is (xs ++ ys) ≡ true
all-append is [] ys h g = g
all-append is (x ∷ xs) ys h g = grind (arith, all-append is xs ys)

pub any-append : {A : Type 0} (is : A → Bool) (xs ys : List A) → list_any is xs ≡ true → list_any is (xs ++ ys) ≡ true
any-append is [] ys h = (cc)
any-append is (x ∷ xs) ys h = grind (arith, any-append is xs ys)

pub any-behind : {A : Type 0} (is : A → Bool) (xs ys : List A) → list_any is ys ≡ true → list_any is (xs ++ ys) ≡ true
any-behind is [] ys h = h
any-behind is (x ∷ xs) ys h = grind (arith, any-behind is xs ys)
