-- What is left of a list at a place in it.
use Rattle.std.proofs.Common.{◌≡◌, ◌<◌, ℕ, ◌+◌, List, ◌∷◌, drop, get_or, length, sym, ◌∙◌, ap}
use Rattle.std.proofs.lemmas.List.{drop_more}

pub rest-at : {A : Type 0} (es : List A) (i : ℕ) (e : A) → i < length es → e ≡ get_or es i e → drop i es ≡ e ∷ drop (i + 1) es
rest-at es i e l h = drop_more es i e l ∙ ap (λ x. x ∷ drop (i + 1) es) (sym h)
