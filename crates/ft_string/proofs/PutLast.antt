-- What is put among rising ones that are all before it stands at their end.
use Rattle.std.proofs.Common.{◌≡◌, ℕ, zero, suc, ◌<◌, List, [], ◌∷◌, ◌++◌, refl, sym, ◌∙◌, ap, subst, arith, length, get_or, map}
use Rattle.std.specs.declared.cmp.Ordering.{Ordering}
use Rattle.std.specs.declared.cmp.Ordering.TheVariants.{Greater}
use Rattle.ft_laws_agreement.specs.Sequencing.{Each}
use Rattle.ft_props.specs.Keys.{put_rising}

module _ {A : Type 0} (cmp : A → A → Ordering) (x : A) where
  put-behind : (y : A) (ys : List A) → cmp x y ≡ Greater → put_rising cmp x (y ∷ ys) ≡ y ∷ put_rising cmp x ys
  put-behind y ys h = grind arith

  pub put-last : (ys : List A) → Each (λ y. cmp x y ≡ Greater) ys → put_rising cmp x ys ≡ ys ++ x ∷ []
  put-last [] h = refl
  put-last (y ∷ ys) h = put-behind y ys h.0 ∙ ap (λ zs. y ∷ zs) (put-last ys h.1)

-- facts of what f makes of each
pub each-map : {A B : Type 0} (f : A → B) (P : B → Type 0) (xs : List A) → Each (λ x. P (f x)) xs → Each P (map f xs)
each-map f P [] h = tt
each-map f P (x ∷ xs) h = (h.0, each-map f P xs h.1)

-- the fact of the one at a place
pub each-at : {A : Type 0} (P : A → Type 0) (xs : List A) (i : ℕ) (x : A) → i < length xs → x ≡ get_or xs i x → Each P xs → P x
each-at P xs i x l e h = subst P (sym e) (here xs i x l h)
  where
    here : (ys : List _) (k : ℕ) (d : _) → k < length ys → Each P ys → P (get_or ys k d)
    here [] k d l h = absurd (omega arith)
    here (y ∷ ys) zero d l h = h.0
    here (y ∷ ys) (suc k) d l h = here ys k d (omega arith) h.1
