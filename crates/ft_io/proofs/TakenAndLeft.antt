-- What several calls do to the bytes that a source has left and that a sink has taken, where those are told.
use Rattle.std.proofs.Common.{ℕ, List, [], ◌++◌, Option, Some, None, IfSome, refl, sym, ◌∙◌, ap, subst, append_assoc, append-nil}
use Rattle.std.specs.Io.KnownBytes.{Appends, Consumes, Keeps, IsAtEnd}

pub Consumes-nil : (left : Option (List ℕ)) → Consumes left left []
Consumes-nil None = tt
Consumes-nil (Some bytes) = refl

pub Consumes-append : (first next left : Option (List ℕ)) (xs ys : List ℕ) → Consumes first next xs → Consumes next left ys → Consumes first left (xs ++ ys)
Consumes-append None next left xs ys a b = tt
Consumes-append (Some bs) None left xs ys a b = absurd a
Consumes-append (Some bs) (Some cs) None xs ys a b = absurd b
Consumes-append (Some bs) (Some cs) (Some ds) xs ys a b = a ∙ ap (λ rest. xs ++ rest) b ∙ sym (append_assoc xs ys ds)

pub Consumes-keeps : (first next left : Option (List ℕ)) (xs : List ℕ) → Consumes first next xs → Keeps next left → Consumes first left xs
Consumes-keeps None next left xs a b = tt
Consumes-keeps (Some bs) None left xs a b = absurd a
Consumes-keeps (Some bs) (Some cs) None xs a b = absurd b
Consumes-keeps (Some bs) (Some cs) (Some ds) xs a b = a ∙ ap (λ rest. xs ++ rest) (sym b)

-- at its end a source has given all that it had
pub IfSome-consumed : (P : List ℕ → Type 0) (first left : Option (List ℕ)) (given : List ℕ) → Consumes first left given → IsAtEnd left → P given → IfSome first P
IfSome-consumed P None left given a end p = tt
IfSome-consumed P (Some bs) None given a end p = absurd a
IfSome-consumed P (Some bs) (Some cs) given a end p = subst P (sym (a ∙ ap (λ rest. given ++ rest) end ∙ append-nil given)) p

pub Appends-nil : (held : Option (List ℕ)) → Appends held held []
Appends-nil None = tt
Appends-nil (Some bytes) = sym (append-nil bytes)

pub Appends-append : (first next last : Option (List ℕ)) (xs ys : List ℕ) → Appends first next xs → Appends next last ys → Appends first last (xs ++ ys)
Appends-append None next last xs ys a b = tt
Appends-append (Some bs) None last xs ys a b = absurd a
Appends-append (Some bs) (Some cs) None xs ys a b = absurd b
Appends-append (Some bs) (Some cs) (Some ds) xs ys a b = b ∙ ap (λ front. front ++ ys) a ∙ append_assoc bs xs ys
