-- Rounds: each makes an edit, so that as many as edits are left are enough.
use Rattle.std.proofs.Common.{◌≡◌, ℕ, zero, suc, ◌+◌, ◌-◌, ◌<◌, ◌≤◌, Bool, true, false, nat_eq, List, [], ◌++◌, sym, ap, ◌∙◌, refl, arith, append_assoc}
use Rattle.std.proofs.lemmas.Bool.Decides.{nat_tests}
use Rattle.ft_seqr.specs.declared.events.Event.{Event}
use Rattle.ft_gen.specs.declared.progress.Progress.{Progress}
use Rattle.ft_gen.specs.declared.progress.Roles.{Roles}
use Rattle.ft_gen.specs.Rounds.{after_round, after_turn, after_turns, clients, each, exchange, from, loss, round_events, round_roles, rounds, turns, with_roles}
use Rattle.ft_gen.specs.Generated.{shows}
use Rattle.ft_gen.specs.Course.{IsAtRound, IsBeforeTurn, rounds_on, turns_on}
use Rattle.ft_gen.proofs.Numbering.{from-more}
use Rattle.ft_gen.proofs.Turns.{left-turn, left-turns, share-all, share-some}

-- a round lowers the edits that are left
after-first : (count : ℕ) (r : Roles) (agreed : ℕ) (p : Progress) → 1 ≤ count → 1 ≤ p.left → (after_turns r agreed (from count 1) p).left < p.left
after-first count r agreed p h some =
    let first = ap (λ is. (after_turns r agreed is p).left) (from-more count 1 h) in
    omega (arith, first, left-turns r agreed (from count (1 + 1)) (after_turn r agreed 1 p), left-turn r agreed 1 p, share-some p some, share-all p)

lowers : (count round : ℕ) (p : Progress) → 1 ≤ count → 1 ≤ p.left → (after_round count round p).left < p.left
lowers count round p h some = after-first count (round_roles count round p) p.length (with_roles round p) h some

-- ---- the rounds, if no edit is left, and if one is

rounds-test : (most count round : ℕ) (p : Progress) (b : Bool) → nat_eq p.left 0 ≡ b
    → rounds (suc most) count round p ≡ elim b [ true ↦ [] | false ↦ round_events count round p ++ rounds most count (round + 1) (after_round count round p) ]
rounds-test most count round p b e =
    ap (λ (t : Bool). elim t as (λ _. List Event) [ true ↦ [] | false ↦ round_events count round p ++ rounds most count (round + 1) (after_round count round p) ]) e

rounds-none : (most count round : ℕ) (p : Progress) → p.left ≡ 0 → rounds most count round p ≡ []
rounds-none zero count round p none = refl
rounds-none (suc most) count round p none = rounds-test most count round p true (grind (arith, nat_tests))

rounds-some : (most count round : ℕ) (p : Progress) → 1 ≤ p.left
    → rounds (suc most) count round p ≡ round_events count round p ++ rounds most count (round + 1) (after_round count round p)
rounds-some most count round p some = rounds-test most count round p false (grind (arith, nat_tests))

-- any two numbers that are enough say the same
rounds-enough : (f g count round : ℕ) (p : Progress) (none : Bool) → nat_eq p.left 0 ≡ none → 1 ≤ count → p.left ≤ f → p.left ≤ g → rounds f count round p ≡ rounds g count round p
rounds-enough f g count round p true e h a b =
    let none : p.left ≡ 0 = grind (arith, nat_tests) in
    rounds-none f count round p none ∙ sym (rounds-none g count round p none)
rounds-enough zero g count round p false e h a b = absurd (grind (arith, nat_tests))
rounds-enough (suc f) zero count round p false e h a b = absurd (grind (arith, nat_tests))
rounds-enough (suc f) (suc g) count round p false e h a b =
    let some : 1 ≤ p.left = grind (arith, nat_tests) in
    let q = after_round count round p in
    let less : q.left < p.left = lowers count round p h some in
    rounds-some f count round p some
    ∙ ap (λ es. round_events count round p ++ es) (rounds-enough f g count (round + 1) q (nat_eq q.left 0) refl h (omega arith) (omega arith))
    ∙ sym (rounds-some g count round p some)

exact : (left count round : ℕ) (p : Progress) → p.left ≡ suc left → 1 ≤ count → 1 ≤ p.left
    → rounds p.left count round p ≡ round_events count round p ++ rounds (after_round count round p).left count (round + 1) (after_round count round p)
exact left count round p e h some =
    let q = after_round count round p in
    let less : q.left < p.left = lowers count round p h some in
    ap (λ n. rounds n count round p) e ∙ (rounds-some left count round p some
    ∙ ap (λ es. round_events count round p ++ es) (rounds-enough left q.left count (round + 1) q (nat_eq q.left 0) refl h (omega arith) (omega arith)))

-- and if one is
pub rounds-begin : (count round : ℕ) (p : Progress) → 1 ≤ count → 1 ≤ p.left
    → rounds_on count round p ≡ loss (round_roles count round p).dropped ++ turns_on count round (round_roles count round p) p.length (clients count) (with_roles round p)
rounds-begin count round p h some =
    let r = round_roles count round p in
    let q = after_round count round p in
    let lost = loss r.dropped in
    let edited = turns r p.length (clients count) (with_roles round p) in
    let told = exchange count round r.dropped in
    let later = rounds q.left count (round + 1) q in
    let shown = each shows (clients count) in
    ap (λ es. es ++ shown) (exact (p.left - 1) count round p (omega arith) h some)
    ∙ (append_assoc (lost ++ (edited ++ told)) later shown
    ∙ (append_assoc lost (edited ++ told) (later ++ shown)
    ∙ ap (λ es. lost ++ es) (append_assoc edited told (later ++ shown))))

-- ---- numbers

pub begun-sound : (round : ℕ) (r : Roles) (p : Progress) → IsAtRound round p → 1 ≤ p.left → IsBeforeTurn round r p.length 1 p
begun-sound round r p s some = record {
  begun = omega arith;
  rounds = s.rounds;
  later = λ h. absurd (omega arith);
  intervals = s.intervals;
  length = s.length;
  within = omega arith;
  grown = λ _. omega arith;
}
