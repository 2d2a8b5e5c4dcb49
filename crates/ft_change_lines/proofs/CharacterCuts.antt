-- A text cut behind so many of its characters, or at its end, where it has no more.
use Rattle.std.proofs.Common.{◌≡◌, ◌+◌, ◌-◌, ◌≤◌, ℕ, zero, suc, true, List, [], ◌∷◌, ◌++◌, Option, Some, None, length, take, drop, chars, false, ◌==◌, refl, ap, sym, subst, ◌∙◌, arith, length-append, length-drop}
use Rattle.std.proofs.lemmas.Bool.{eqb-true}
use Rattle.std.proofs.lemmas.List.{drop-drop, take-append-drop}
use Rattle.std.proofs.lemmas.Str.{chars-encodes, chars-nil, cons_from_encodes, encodes-append, encodes-chars, length-le-encodes, scalars-chars, IsCharBoundary-at_seam}
use Rattle.std.proofs.Math.ListN.{drop_of_length-le}
use Rattle.std.proofs.Math.Seq.{take-append_seam, drop-append_seam}
use Rattle.std.proofs.Math.Utf8.{encode, encodes, scalars}
use Rattle.std.specs.Option.{MatchOption}
use Rattle.std.specs.Str.{IsCharBoundary, IsUtf8}
use Rattle.std.specs.Str.Iter.{chars_rest}
use Rattle.std.specs.declared.str.Chars.{Chars}
use Rattle.ft_op.specs.declared.operations.Seg.TheVariants as seg
use Rattle.ft_changes.specs.declared.changes.ViewChange.TheVariants.{Put}
use Rattle.ft_change_lines.specs.FromNothing.{put_text}

-- what is left after a call of `next`, which may be at the end
pub left_after : (cs : List ℕ) (i : ℕ) (s t : Chars) (r : Option ℕ) → encodes (drop i cs) ≡ chars_rest s
    → MatchOption r ((length (chars_rest s) ≡ 0) × (t ≡ s)) (λ c. chars_rest s ≡ encode c ++ chars_rest t) → encodes (drop (i + 1) cs) ≡ chars_rest t
left_after cs i s t None so_far step =
    let none : (k : ℕ) → length cs ≤ k → encodes (drop k cs) ≡ [] = λ k within. ap encodes (drop_of_length-le cs within) in
    let ended : length cs ≤ i = omega (arith, length-le-encodes (drop i cs), length-drop i cs, ap length so_far, step.0) in
    none (i + 1) (omega (arith, ended)) ∙ sym (none i ended) ∙ so_far ∙ sym (ap chars_rest step.1)
left_after cs i s t (Some c) so_far step =
    let cut = cons_from_encodes (drop i cs) (chars_rest t) c (so_far ∙ step) in
    ap encodes (sym (drop-drop 1 i cs) ∙ ap (drop 1) cut.1) ∙ cut.2

scalars-take : (n : ℕ) (cs : List ℕ) → scalars cs ≡ true → scalars (take n cs) ≡ true
scalars-take zero cs h = refl
scalars-take (suc n) [] h = refl
scalars-take (suc n) (c ∷ cs) h = grind (arith, scalars-take n cs)

scalars-drop : (n : ℕ) (cs : List ℕ) → scalars cs ≡ true → scalars (drop n cs) ≡ true
scalars-drop zero cs h = h
scalars-drop (suc n) [] h = refl
scalars-drop (suc n) (c ∷ cs) h = grind (arith, scalars-drop n cs)

-- the text cut at this place has these characters
pub record IsCutBehind (bs : List ℕ) (n place : ℕ) : Type 0 where
  pub boundary : IsCharBoundary bs place
  pub front : chars (take place bs) ≡ take n (chars bs)
  pub rear : chars (drop place bs) ≡ drop n (chars bs)

-- the bytes of the first characters and of the rest are the text
parts : (bs : List ℕ) (n : ℕ) → IsUtf8 bs → encodes (take n (chars bs)) ++ encodes (drop n (chars bs)) ≡ bs
parts bs n text = sym (encodes-append (take n (chars bs)) (drop n (chars bs))) ∙ ap encodes (take-append-drop n (chars bs)) ∙ encodes-chars bs text

-- cut where the bytes of the rest begin
pub cut-behind : (bs rest : List ℕ) (n place : ℕ) → IsUtf8 bs → encodes (drop n (chars bs)) ≡ rest → place ≡ length bs - length rest → IsCutBehind bs n place
cut-behind bs rest n place text is_rest is_place =
    let front = take n (chars bs) in
    let rear = drop n (chars bs) in
    let of_front = scalars-take n (chars bs) (scalars-chars bs text) in
    let of_rear = scalars-drop n (chars bs) (scalars-chars bs text) in
    let whole = parts bs n text in
    let e : length (encodes front) ≡ place = omega (arith, length-append (encodes front) (encodes rear), ap length whole, ap length is_rest, is_place) in
    subst (IsCutBehind bs n) e (record {
      boundary = IsCharBoundary-at_seam bs (encodes front) (encodes rear) (sym whole) (rear, (of_rear, refl));
      front = ap (λ xs. chars (take (length (encodes front)) xs)) (sym whole) ∙ ap chars (take-append_seam (encodes front) (encodes rear)) ∙ chars-encodes front of_front;
      rear = ap (λ xs. chars (drop (length (encodes front)) xs)) (sym whole) ∙ ap chars (drop-append_seam (encodes front) (encodes rear)) ∙ chars-encodes rear of_rear;
    })

pub left-within : (bs rest : List ℕ) (n : ℕ) → IsUtf8 bs → encodes (drop n (chars bs)) ≡ rest → length rest ≤ length bs
left-within bs rest n text is_rest =
    omega (arith, length-append (encodes (take n (chars bs))) (encodes (drop n (chars bs))), ap length (parts bs n text), ap length is_rest)

-- ---- what is put of a text

-- an empty one isn't put
pub put-none : (place : ℕ) (bs : List ℕ) → (length bs == 0) ≡ true → put_text place (chars bs) ≡ []
put-none place [] e = ap (put_text place) chars-nil
put-none place (b ∷ bs) e = let none = eqb-true (length (b ∷ bs)) 0 e in absurd (omega (arith, none))

-- another one is one change
pub put-some : (place : ℕ) (bs : List ℕ) → IsUtf8 bs → (length bs == 0) ≡ false → put_text place (chars bs) ≡ Put place (seg.Chars (chars bs)) [] ∷ []
put-some place [] text e = absurd (cc)
put-some place (b ∷ bs) text e = by (chars (b ∷ bs)) (encodes-chars (b ∷ bs) text)
  where
    by : (cs : List ℕ) → encodes cs ≡ b ∷ bs → put_text place cs ≡ Put place (seg.Chars cs) [] ∷ []
    by [] is = absurd (cc)
    by (c ∷ cs) is = refl
