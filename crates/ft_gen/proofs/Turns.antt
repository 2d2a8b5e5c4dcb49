-- Turns of clients: what is still to come of them, and their numbers.
use Rattle.std.proofs.Common.{◌≡◌, ℕ, zero, suc, ◌+◌, ◌-◌, ◌<◌, ◌≤◌, Bool, min, nat_eq, List, [], ◌∷◌, ◌++◌, sym, ap, ◌∙◌, refl, arith, append_assoc}
use Rattle.ft_gen.specs.declared.kinds.Kind.{Kind}
use Rattle.ft_gen.specs.declared.kinds.Kind.TheVariants.{Insertion, Removal, Annotation, CellWrite, NewInterval}
use Rattle.ft_gen.specs.declared.progress.Progress.{Progress}
use Rattle.ft_gen.specs.declared.progress.Roles.{Roles}
use Rattle.ft_gen.specs.Draws.{draw}
use Rattle.ft_gen.specs.Edits.{drawn_edit, edit_of}
use Rattle.ft_gen.specs.Rounds.{after_edits, after_turn, after_turns, edits, exchange, from, share, turn, with_growth, with_length, with_share}
use Rattle.ft_gen.specs.Course.{IsBeforeTurn, IsEditing, edits_on, rounds_on, some_edits_on, turns_on}
use Rattle.ft_gen.proofs.Numbering.{from-more, from-none}

-- ---- how many edits are left

left-edit : (kind : Kind) (p : Progress) → (edit_of kind p).after.left ≡ p.left
left-edit Insertion p = refl
left-edit Removal p = refl
left-edit Annotation p = refl
left-edit CellWrite p = refl
left-edit NewInterval p = refl

left-edits : (n : ℕ) (removes : Bool) (p : Progress) → (after_edits n removes p).left ≡ p.left
left-edits zero removes p = refl
left-edits (suc n) removes p = left-edits n removes (drawn_edit removes p).after ∙ left-edit _ _

pub left-turn : (r : Roles) (agreed i : ℕ) (p : Progress) → (after_turn r agreed i p).left ≡ p.left - share p
left-turn r agreed i p = left-edits (share p) (nat_eq i r.remover) (with_length agreed (with_share p))

pub left-turns : (r : Roles) (agreed : ℕ) (is : List ℕ) (p : Progress) → (after_turns r agreed is p).left ≤ p.left
left-turns r agreed [] p = omega arith
left-turns r agreed (i ∷ is) p = omega (arith, left-turns r agreed is (after_turn r agreed i p), left-turn r agreed i p)

min-some : (left n : ℕ) → 1 ≤ left → 1 ≤ min left (n + 1)
min-some left n h = omega arith

min-all : (left n : ℕ) → min left (n + 1) ≤ left
min-all left n = omega arith

min-none : (left n : ℕ) → min left (n + 1) ≡ 0 → left ≡ 0
min-none left n h = omega arith

pub share-some : (p : Progress) → 1 ≤ p.left → 1 ≤ share p
share-some p h = min-some p.left (draw 3 p.state) h

pub share-all : (p : Progress) → share p ≤ p.left
share-all p = min-all p.left (draw 3 p.state)

-- ---- what is still to come

first-turn : (count round : ℕ) (r : Roles) (agreed i : ℕ) (is : List ℕ) (p : Progress)
    → turns_on count round r agreed (i ∷ is) p ≡ turn r agreed i p ++ turns_on count round r agreed is (after_turn r agreed i p)
first-turn count round r agreed i is p = append_assoc (turn r agreed i p) _ _

-- a client makes edits
pub turn-begins : (count round : ℕ) (r : Roles) (agreed i n : ℕ) (p q : Progress) → i ≤ count → n ≡ share p → q ≡ with_share p
    → turns_on count round r agreed (from count i) p ≡ edits_on count round (record { client = i; edits = n; agreed = agreed; before = q.length; roles = r }) (with_length agreed q)
turn-begins count round r agreed i n p q h e f =
    ap (λ is. turns_on count round r agreed is p) (from-more count i h) ∙ first-turn count round r agreed i (from count (i + 1)) p
    ∙ ap (λ k. some_edits_on count round (record { client = i; edits = k; agreed = agreed; before = p.length; roles = r }) k (with_length agreed (with_share p))) (sym e)
    ∙ ap (λ k. edits_on count round (record { client = i; edits = n; agreed = agreed; before = k.length; roles = r }) (with_length agreed k)) (sym f)

after-idle : (r : Roles) (agreed i : ℕ) (p : Progress) → share p ≡ 0 → after_turn r agreed i p ≡ with_share p
after-idle r agreed i p e =
    let same : p.length + agreed - agreed ≡ p.length = omega arith in
    ap (λ n. with_growth p.length agreed (after_edits n (nat_eq i r.remover) (with_length agreed (with_share p)))) e
    ∙ ap (λ n. with_length n (with_share p)) same

-- a client makes none
pub turn-idle : (count round : ℕ) (r : Roles) (agreed i : ℕ) (p : Progress) → i ≤ count → share p ≡ 0
    → turns_on count round r agreed (from count i) p ≡ turns_on count round r agreed (from count (i + 1)) (with_share p)
turn-idle count round r agreed i p h e =
    ap (λ is. turns_on count round r agreed is p) (from-more count i h) ∙ first-turn count round r agreed i (from count (i + 1)) p
    ∙ ap (λ n. edits n i (nat_eq i r.remover) (with_length agreed (with_share p)) ++ turns_on count round r agreed (from count (i + 1)) (after_turn r agreed i p)) e
    ∙ ap (turns_on count round r agreed (from count (i + 1))) (after-idle r agreed i p e)

-- all clients had their turns
pub turns-over : (count round : ℕ) (r : Roles) (agreed i : ℕ) (p : Progress) → count < i
    → turns_on count round r agreed (from count i) p ≡ exchange count round r.dropped ++ rounds_on count (round + 1) p
turns-over count round r agreed i p h = ap (λ is. turns_on count round r agreed is p) (from-none count i h)

-- ---- numbers

pub begins-sound : (count round : ℕ) (r : Roles) (agreed i n : ℕ) (p q : Progress) → IsBeforeTurn round r agreed i p → i ≤ count → 1 ≤ n → n ≡ share p → q ≡ with_share p
    → IsEditing count round (record { client = i; edits = n; agreed = agreed; before = q.length; roles = r }) (with_length agreed q)
begins-sound count round r agreed i n p q s h some e f =
    let all = share-all p in
    let length : q.length ≡ p.length = ap (λ k. k.length) f in
    let intervals : q.intervals ≡ p.intervals = ap (λ k. k.intervals) f in
    let left : q.left ≡ p.left - share p = ap (λ k. k.left) f in
    record {
      client = h;
      rounds = omega arith;
      intervals = omega arith;
      length = omega arith;
      agreed = s.within;
      before = λ k. omega (arith, s.grown k);
      below = λ k. omega arith;
      above = λ k. omega arith;
    }

pub idle-sound : (round : ℕ) (r : Roles) (agreed i : ℕ) (p q : Progress) → IsBeforeTurn round r agreed i p → share p ≡ 0 → q ≡ with_share p → IsBeforeTurn round r agreed (i + 1) q
idle-sound round r agreed i p q s e f =
    let none : p.left ≡ 0 = min-none p.left (draw 3 p.state) e in
    let length : q.length ≡ p.length = ap (λ k. k.length) f in
    let intervals : q.intervals ≡ p.intervals = ap (λ k. k.intervals) f in
    let left : q.left ≡ p.left - share p = ap (λ k. k.left) f in
    record {
      begun = s.begun;
      rounds = omega arith;
      later = λ _. omega arith;
      intervals = omega arith;
      length = omega arith;
      within = s.within;
      grown = λ k. omega (arith, s.grown (omega arith));
    }
