-- Pending operations that are given one after another, as a loop does it.
use Rattle.std.proofs.Common.{◌≡◌, ℕ, Bool, true, false, cond, nat_lt, List, [], ◌∷◌, ◌++◌, refl, sym, ◌∙◌, ap, filter, flat_map, append-nil, append_assoc, length, arith, ◌<◌, Result, Ok, Err}
use Rattle.std.specs.Prelude.{IfOk, IsOkAnd, OnOk}
use Rattle.ft_op.specs.declared.operations.BaseOp.{BaseOp}
use Rattle.ft_text.specs.Texts.{TextElements}
use Rattle.ft_string.specs.Rejoins.{GivesOps, again_of, due, has_piece, left_over}
use Rattle.ft_string.specs.declared.pending.PendingOp.{PendingOp}

-- what was given, and then what is due of the rest, is all
pub record GivesSoFar (xs : TextElements) (end : ℕ) (all left before kept : List PendingOp) (sent : List BaseOp) : Type 0 where
  pub sends : sent ++ flat_map (again_of xs) (due end left) ≡ flat_map (again_of xs) (due end all)
  pub rest : left_over end left ≡ left_over end all
  pub keeps : kept ++ filter (has_piece xs) (due end left) ≡ before ++ filter (has_piece xs) (due end all)

pub gives-begin : (xs : TextElements) (end : ℕ) (all kept : List PendingOp) (sent : List BaseOp) → sent ≡ [] → GivesSoFar xs end all all kept kept sent
gives-begin xs end all kept sent none = record { sends = ap (λ os. os ++ flat_map (again_of xs) (due end all)) none; rest = refl; keeps = refl }

-- the first one is given, and goes on where something of it is sent
pub gives-next : {E : Type 0} (xs : TextElements) (end : ℕ) (all left rest before kept more : List PendingOp) (sent now : List BaseOp)
    (op : PendingOp) (some : Result Bool E)
    → GivesSoFar xs end all left before kept sent → left ≡ op ∷ rest → nat_lt op.stage end ≡ true → OnOk some (now ≡ sent ++ again_of xs op)
    → IfOk some (λ b. b ≡ has_piece xs op) → IsOkAnd some (λ b. more ≡ kept ++ cond b (op ∷ []) []) → GivesSoFar xs end all rest before more now
gives-next xs end all left rest before kept more sent now op (Err f) h e t sends goes keeps = absurd keeps
gives-next xs end all left rest before kept more sent now op (Ok b) h e t sends goes keeps =
    let front : due end left ≡ op ∷ due end rest = ap (due end) e ∙ ap (λ c. cond c (op ∷ due end rest) []) t in
    let behind : left_over end left ≡ left_over end rest = ap (left_over end) e ∙ ap (λ c. cond c (left_over end rest) (op ∷ rest)) t in
    record {
      sends = ap (λ os. os ++ flat_map (again_of xs) (due end rest)) sends ∙ append_assoc sent (again_of xs op) (flat_map (again_of xs) (due end rest))
          ∙ ap (λ os. sent ++ flat_map (again_of xs) os) (sym front) ∙ h.sends;
      rest = sym behind ∙ h.rest;
      keeps = ap (λ os. os ++ filter (has_piece xs) (due end rest)) (keeps ∙ ap (λ c. kept ++ cond c (op ∷ []) []) goes)
          ∙ append_assoc kept (cond (has_piece xs op) (op ∷ []) []) (filter (has_piece xs) (due end rest))
          ∙ ap (λ os. kept ++ os) (chosen (has_piece xs op)) ∙ ap (λ os. kept ++ filter (has_piece xs) os) (sym front) ∙ h.keeps;
    }
  where
    chosen : (c : Bool) → cond c (op ∷ []) [] ++ filter (has_piece xs) (due end rest) ≡ cond c (op ∷ filter (has_piece xs) (due end rest)) (filter (has_piece xs) (due end rest))
    chosen true = refl
    chosen false = refl

pub shorter : (left rest : List PendingOp) (op : PendingOp) → left ≡ op ∷ rest → length rest < length left
shorter left rest op e = let same = ap length e in omega arith

-- nothing is due any more
pub gives-done : (xs : TextElements) (end : ℕ) (all left before kept : List PendingOp) (sent : List BaseOp)
    → GivesSoFar xs end all left before kept sent → due end left ≡ []
    → GivesOps xs end all left before kept sent
gives-done xs end all left before kept sent h none = record {
  sends = sym (append-nil sent) ∙ sym (ap (λ os. sent ++ flat_map (again_of xs) os) none) ∙ h.sends;
  rest_is = sym (whole left none) ∙ h.rest;
  keeps = sym (append-nil kept) ∙ sym (ap (λ os. kept ++ filter (has_piece xs) os) none) ∙ h.keeps;
}
  where
    whole : (os : List PendingOp) → due end os ≡ [] → left_over end os ≡ os
    whole [] e = refl
    whole (o ∷ os) e = step (nat_lt o.stage end) e
      where
        step : (b : Bool) → cond b (o ∷ due end os) [] ≡ [] → cond b (left_over end os) (o ∷ os) ≡ o ∷ os
        step true g = (cc)
        step false g = refl
