-- What items write, for items that are put behind others.
use Rattle.std.proofs.Common.{◌≡◌, List, [], ◌∷◌, ◌++◌, refl, sym, ◌∙◌, ap, append_assoc}
use Rattle.ft_seqr.specs.Walk.{Step, Progress, after_item, after_items, written_by_item, written_by_items}

pub after_items-append : {S A : Type 0} (step : S → A → Step S) (at : Progress S) (xs ys : List A)
    → after_items step at (xs ++ ys) ≡ after_items step (after_items step at xs) ys
after_items-append step at [] ys = refl
after_items-append step at (x ∷ xs) ys = after_items-append step (after_item step at x) xs ys

pub written_by_items-append : {S A : Type 0} (step : S → A → Step S) (at : Progress S) (xs ys : List A)
    → written_by_items step at (xs ++ ys) ≡ written_by_items step at xs ++ written_by_items step (after_items step at xs) ys
written_by_items-append step at [] ys = refl
written_by_items-append step at (x ∷ xs) ys =
    ap (λ later. written_by_item step at x ++ later) (written_by_items-append step (after_item step at x) xs ys)
    ∙ sym (append_assoc (written_by_item step at x) (written_by_items step (after_item step at x) xs) (written_by_items step (after_items step (after_item step at x) xs) ys))
