-- A text cut behind so many of its characters.
use Rattle.std.proofs.Common.{◌≡◌, ℕ, zero, suc, ◌+◌, ◌-◌, ◌<◌, ◌≤◌, true, List, [], ◌∷◌, ◌++◌, Option, Some, None, length, take, drop, chars, refl, ap, sym, subst, ◌∙◌, arith, length-append, length-drop}
use Rattle.std.proofs.lemmas.List.{drop-drop, take-append-drop}
use Rattle.std.proofs.lemmas.Str.{chars-encodes, cons_from_encodes, encodes-append, encodes-chars, length-le-encodes, scalars-chars, IsCharBoundary-at_seam}
use Rattle.std.proofs.Math.Seq.{take-append_seam, drop-append_seam}
use Rattle.std.proofs.Math.Utf8.{encode, encodes, scalars}
use Rattle.std.specs.Option.{MatchOption}
use Rattle.std.specs.Str.{IsCharBoundary, IsUtf8}

-- the bytes of the first characters, and of those behind them, are the text
parts : (bs : List ℕ) (n : ℕ) → IsUtf8 bs → encodes (take n (chars bs)) ++ encodes (drop n (chars bs)) ≡ bs
parts bs n text =
    sym (encodes-append (take n (chars bs)) (drop n (chars bs)))
    ∙ ap encodes (take-append-drop n (chars bs))
    ∙ encodes-chars bs text

-- the first characters are characters, and so are those behind them
scalars-take : (n : ℕ) (cs : List ℕ) → scalars cs ≡ true → scalars (take n cs) ≡ true
scalars-take zero cs h = refl
scalars-take (suc n) [] h = refl
scalars-take (suc n) (c ∷ cs) h = grind (arith, scalars-take n cs)

scalars-drop : (n : ℕ) (cs : List ℕ) → scalars cs ≡ true → scalars (drop n cs) ≡ true
scalars-drop zero cs h = h
scalars-drop (suc n) [] h = refl
scalars-drop (suc n) (c ∷ cs) h = grind (arith, scalars-drop n cs)

-- what is left behind one more character
left_behind : (cs : List ℕ) (i : ℕ) (rest left : List ℕ) (c : ℕ) → encodes (drop i cs) ≡ rest → rest ≡ encode c ++ left → encodes (drop (i + 1) cs) ≡ left
left_behind cs i rest left c so_far step =
    let cut = cons_from_encodes (drop i cs) left c (so_far ∙ step) in
    ap encodes (sym (drop-drop 1 i cs) ∙ ap (drop 1) cut.1) ∙ cut.2

-- a character is left where fewer were passed than there are
some_left : (cs : List ℕ) (i : ℕ) (rest : List ℕ) → i < length cs → encodes (drop i cs) ≡ rest → 0 < length rest
some_left cs i rest low so_far = omega (arith, length-drop i cs, length-le-encodes (drop i cs), ap length so_far)

-- what is left after a call of `next`, where fewer characters were passed than there are
pub left_after_next : (X : Type 0) (cs : List ℕ) (i : ℕ) (rest left : List ℕ) (r : Option ℕ) → i < length cs → encodes (drop i cs) ≡ rest
    → MatchOption r ((length rest ≡ 0) × X) (λ c. rest ≡ encode c ++ left) → encodes (drop (i + 1) cs) ≡ left
left_after_next X cs i rest left None low so_far step = let some = some_left cs i rest low so_far in absurd (omega (arith, step.0))
left_after_next X cs i rest left (Some c) low so_far step = left_behind cs i rest left c so_far step

-- the text cut at this place has these characters
pub record IsCutBehind (bs : List ℕ) (n place : ℕ) : Type 0 where
  pub boundary : IsCharBoundary bs place
  pub front : chars (take place bs) ≡ take n (chars bs)
  pub rear : chars (drop place bs) ≡ drop n (chars bs)

-- the text cut where the bytes of its first characters end
cut_at_seam : (bs front rear : List ℕ) (n : ℕ) → scalars front ≡ true → scalars rear ≡ true → front ≡ take n (chars bs)
    → rear ≡ drop n (chars bs) → encodes front ++ encodes rear ≡ bs → IsCutBehind bs n (length (encodes front))
cut_at_seam bs front rear n of_front of_rear is_front is_rear whole =
    record {
      boundary = IsCharBoundary-at_seam bs (encodes front) (encodes rear) (sym whole) (rear, (of_rear, refl));
      front = ap (λ xs. chars (take (length (encodes front)) xs)) (sym whole) ∙ ap chars (take-append_seam (encodes front) (encodes rear))
          ∙ chars-encodes front of_front ∙ is_front;
      rear = ap (λ xs. chars (drop (length (encodes front)) xs)) (sym whole) ∙ ap chars (drop-append_seam (encodes front) (encodes rear)) ∙ chars-encodes rear of_rear ∙ is_rear;
    }

-- cut where the bytes of the rest begin
pub cut_behind : (bs rest : List ℕ) (n place : ℕ) → IsUtf8 bs → encodes (drop n (chars bs)) ≡ rest → place ≡ length bs - length rest → IsCutBehind bs n place
cut_behind bs rest n place text is_rest is_place =
    let cs = chars bs in
    let all = scalars-chars bs text in
    let whole = parts bs n text in
    let sum = length-append (encodes (take n cs)) (encodes (drop n cs)) in
    let e : length (encodes (take n cs)) ≡ place = omega (arith, sum, ap length whole, ap length is_rest) in
    subst (IsCutBehind bs n) e (cut_at_seam bs (take n cs) (drop n cs) n (scalars-take n cs all) (scalars-drop n cs all) refl refl whole)

-- what is left is no longer than the text
pub left_within : (bs rest : List ℕ) (n : ℕ) → IsUtf8 bs → encodes (drop n (chars bs)) ≡ rest → length rest ≤ length bs
left_within bs rest n text is_rest =
    let cs = chars bs in
    let whole = parts bs n text in
    omega (arith, length-append (encodes (take n cs)) (encodes (drop n cs)), ap length whole, ap length is_rest)
