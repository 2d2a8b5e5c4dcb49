-- A part of what waits is read.
use Rattle.std.proofs.Common.{◌≡◌, ℕ, ◌+◌, List, ◌++◌, take, drop, length, sym, ◌∙◌, ap, arith}
use Rattle.std.proofs.lemmas.List.{drop-drop, take-append-drop, take-append-le, take_all}

-- what was copied to the front of a room, and what waits behind it, is what waited
pub read-on : (n taken : ℕ) (items copied rest : List ℕ) → copied ≡ take n (drop taken items) → length copied ≡ n
    → take n (copied ++ rest) ++ drop (taken + n) items ≡ drop taken items
read-on n taken items copied rest is long =
    ap (λ read. read ++ drop (taken + n) items) (take-append-le n copied rest (omega arith) ∙ take_all n copied (omega arith) ∙ is)
    ∙ ap (λ later. take n (drop taken items) ++ later) (sym (drop-drop n taken items))
    ∙ take-append-drop n (drop taken items)
