-- The example client is ready for its pending edit to be sequenced.
use Rattle.std.proofs.Common.{◌≡◌, ℕ, suc, Bool, true, false, ◌&&◌, ◌||◌, refl, sym, subst, arith, nat_eq}
use Rattle.std.proofs.lemmas.Bool.Decides.{nat_tests}
use Rattle.ft_msg.specs.Client.{stages_of}
use Rattle.ft_laws_agreement.specs.Examples.{client_after}
use Rattle.ft_laws_agreement.specs.Reconnecting.{StandSideBySide, inserts_text, is_stage_of}
use Rattle.ft_laws_agreement.specs.Sequencing.{IsReady}

inserting : (k : ℕ) → is_stage_of inserts_text (stages_of client_after) (suc k) ≡ true → StandSideBySide k client_after.doc.text.items
inserting k h = step (nat_eq 1 (suc k)) (nat_eq 3 (suc k)) refl refl h
  where
    none : (b : Bool) → b && false ≡ false
    none true = refl
    none false = refl

    step : (a b : Bool) → nat_eq 1 (suc k) ≡ a → nat_eq 3 (suc k) ≡ b → (nat_eq 1 (suc k) && true)
        || ((nat_eq 2 (suc k) && false) || ((nat_eq 3 (suc k) && true) || false)) ≡ true → StandSideBySide k client_after.doc.text.items
    step true b p q h = let e : k ≡ 0 = grind (arith, nat_tests) in subst (λ i. StandSideBySide i client_after.doc.text.items) (sym e) refl
    step false true p q h = let e : k ≡ 2 = grind (arith, nat_tests) in subst (λ i. StandSideBySide i client_after.doc.text.items) (sym e) refl
    step false false p q h = absurd (cc (subst (λ c. (c && true) || ((nat_eq 2 (suc k) && false) || ((nat_eq 3 (suc k) && true) || false)) ≡ true) p h, none (nat_eq 2 (suc k)), q))

pub example-ready : IsReady client_after
example-ready = record {
  stages = (omega arith, (omega arith, (omega arith, omega arith)));
  text = record { place = record { marks = refl; side_by_side = inserting; distinct = refl }; later = refl; changes = refl; rising = (tt, (tt, (tt, tt))); known = refl };
  rows = record { place = record { marks = refl; side_by_side = λ k h. refl; distinct = refl }; later = refl; changes = refl; rising = tt; known = refl };
  cols = record { place = record { marks = refl; side_by_side = λ k h. refl; distinct = refl }; later = refl; changes = refl; rising = tt; known = refl };
  ends = refl;
  typed = ((refl, refl, tt), (tt, ((refl, refl, tt), tt)));
  writes = refl;
  cells = refl;
  edits = refl;
}
