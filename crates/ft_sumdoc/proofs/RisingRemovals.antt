-- Removals are in order where their numbers rise and their connections differ.
use Rattle.std.proofs.Common.{◌≡◌, ◌∙◌, ℕ, suc, ◌+◌, ◌<◌, Bool, true, false, not, ◌&&◌, List, [], ◌∷◌, ◌++◌, length, drop, take, get_or, nat_eq, nat_le, refl, sym, ap}
use Rattle.std.specs.List.{list_any}
use Rattle.std.proofs.lemmas.List.{drop_more, take-append-drop}
use Rattle.ft_sumdoc.specs.declared.summary.Mark.{Mark}
use Rattle.ft_sumdoc.specs.Rising.{conns_differ, numbers_rise}
use Rattle.ft_sumdoc.specs.Stamps.{removals_rise}

in_turn : (a b c d : Bool) → (a && b && (c && d)) ≡ (a && c && (b && d))
in_turn true true c d = refl
in_turn true false true d = refl
in_turn true false false d = refl
in_turn false b c d = refl

pub apart : (low : ℕ) (ms : List Mark) → removals_rise low ms ≡ (numbers_rise low ms && conns_differ ms)
apart low [] = refl
apart low (m ∷ ms) =
    let differs = not (list_any (λ (n : Mark). nat_eq m.conn n.conn) ms) in
    ap (λ b. nat_le low m.seq && differs && b) (apart (suc m.seq) ms) ∙ in_turn (nat_le low m.seq) differs (numbers_rise (suc m.seq) ms) (conns_differ ms)

none_of : (b : Bool) → (b && false) ≡ false
none_of true = refl
none_of false = refl

twice_behind : (xs ys : List Mark) → conns_differ ys ≡ false → conns_differ (xs ++ ys) ≡ false
twice_behind [] ys h = h
twice_behind (x ∷ xs) ys h =
    ap (λ b. not (list_any (λ (n : Mark). nat_eq x.conn n.conn) (xs ++ ys)) && b) (twice_behind xs ys h) ∙ none_of (not (list_any (λ (n : Mark). nat_eq x.conn n.conn) (xs ++ ys)))

-- one whose connection stands again behind it
pub stands_twice : (before : List Mark) (m : Mark) (later : List Mark) → list_any (λ (n : Mark). nat_eq m.conn n.conn) later ≡ true → conns_differ (before ++ m ∷ later) ≡ false
stands_twice before m later h = twice_behind before (m ∷ later) (ap (λ b. not b && conns_differ later) h)

-- one whose connection doesn't
pub stands_once : (m : Mark) (later : List Mark) → list_any (λ (n : Mark). nat_eq m.conn n.conn) later ≡ false → conns_differ later ≡ true → conns_differ (m ∷ later) ≡ true
stands_once m later h k = ap (λ b. not b && conns_differ later) h ∙ k

-- one at a place whose connection stands again behind it
pub stands_again : (marks : List Mark) (i k : ℕ) (d : Mark) → i < length marks → i + 1 ≡ k → list_any (λ (n : Mark). nat_eq (get_or marks i d).conn n.conn) (drop k marks) ≡ true → conns_differ marks ≡ false
stands_again marks i k d within next h =
    let m = get_or marks i d in
    ap conns_differ (sym (take-append-drop i marks) ∙ ap (λ xs. take i marks ++ xs) (drop_more marks i d within ∙ ap (λ j. m ∷ drop j marks) next))
    ∙ stands_twice (take i marks) m (drop k marks) h
