-- Texts are in one order by their characters and by their UTF-8 bytes.
use Rattle.std.proofs.Common.{◌≡◌, ℕ, ◌+◌, ◌/◌, ◌<◌, ◌≤◌, List, [], ◌∷◌, ◌++◌, Less, Greater, inl, inr, refl, sym, ap, ◌∙◌, arith, lt-ltb, le-ltb, eq-eqb, ne_eqb, encode_utf8_all, nat_cmp}
use Rattle.std.proofs.lemmas.Bool.{cases_lt, cases_eq}
use Rattle.std.proofs.lemmas.Str.{encode_ascii}
use Rattle.std.proofs.lemmas.Cmp.{nat_list_cmp_total}
use Rattle.std.proofs.Math.Utf8.{encode, next}
use Rattle.std.specs.Cmp.Lexicographic.{slice_cmp}
use Rattle.std.specs.Ordering.{ordering_reverse}

one : (c : ℕ) → c < 128 → encode c ≡ c ∷ []
one c h = encode_ascii c h

two : (c : ℕ) → 128 ≤ c → c < 2048 → encode c ≡ (192 + c / 64) ∷ next c ∷ []
unfolding encode
two c l h = rw (le-ltb c 128 l, lt-ltb c 2048 h)

three : (c : ℕ) → 2048 ≤ c → c < 65536 → encode c ≡ (224 + c / 4096) ∷ next (c / 64) ∷ next c ∷ []
unfolding encode
three c l h = rw (le-ltb c 128 (omega arith), le-ltb c 2048 l, lt-ltb c 65536 h)

four : (c : ℕ) → 65536 ≤ c → encode c ≡ (240 + c / 262144) ∷ next (c / 4096) ∷ next (c / 64) ∷ next c ∷ []
unfolding encode
four c l = rw (le-ltb c 128 (omega arith), le-ltb c 2048 (omega arith), le-ltb c 65536 l)

-- the first lists are in order, wherever they go on
record ComesBefore (xs ys : List ℕ) : Type 0 where
  less : (r t : List ℕ) → slice_cmp nat_cmp (xs ++ r) (ys ++ t) ≡ Less

first_less : (x y : ℕ) (xs ys : List ℕ) → x < y → ComesBefore (x ∷ xs) (y ∷ ys)
first_less x y xs ys h = record { less = λ r t. rw (lt-ltb x y h) refl }

same_first : (x y : ℕ) (xs ys : List ℕ) → x ≡ y → ComesBefore xs ys → ComesBefore (x ∷ xs) (y ∷ ys)
same_first x y xs ys e h = record { less = λ r t. rw (e, le-ltb y y (omega arith), eq-eqb y y refl) (h.less r t) }

two_bytes : (c d : ℕ) → c < d → ComesBefore ((192 + c / 64) ∷ next c ∷ []) ((192 + d / 64) ∷ next d ∷ [])
two_bytes c d h =
    elim (cases_lt (c / 64) (d / 64)) [
      | inl less ↦ first_less _ _ _ _ (omega arith)
      | inr same ↦ same_first _ _ _ _ (omega arith) (first_less _ _ _ _ (omega arith))
    ]

three_bytes : (c d : ℕ) → c < d → ComesBefore ((224 + c / 4096) ∷ next (c / 64) ∷ next c ∷ []) ((224 + d / 4096) ∷ next (d / 64) ∷ next d ∷ [])
three_bytes c d h =
    elim (cases_lt (c / 4096) (d / 4096)) [
      | inl less ↦ first_less _ _ _ _ (omega arith)
      | inr same ↦ same_first _ _ _ _ (omega arith) (elim (cases_lt (c / 64) (d / 64)) [
        | inl less ↦ first_less _ _ _ _ (omega arith)
        | inr alike ↦ same_first _ _ _ _ (omega arith) (first_less _ _ _ _ (omega arith))
      ])
    ]

four_bytes : (c d : ℕ) → c < d
    → ComesBefore ((240 + c / 262144) ∷ next (c / 4096) ∷ next (c / 64) ∷ next c ∷ []) ((240 + d / 262144) ∷ next (d / 4096) ∷ next (d / 64) ∷ next d ∷ [])
four_bytes c d h =
    elim (cases_lt (c / 262144) (d / 262144)) [
      | inl less ↦ first_less _ _ _ _ (omega arith)
      | inr same ↦ same_first _ _ _ _ (omega arith) (elim (cases_lt (c / 4096) (d / 4096)) [
        | inl less ↦ first_less _ _ _ _ (omega arith)
        | inr alike ↦ same_first _ _ _ _ (omega arith) (elim (cases_lt (c / 64) (d / 64)) [
          | inl less ↦ first_less _ _ _ _ (omega arith)
          | inr even ↦ same_first _ _ _ _ (omega arith) (first_less _ _ _ _ (omega arith))
        ])
      ])
    ]

-- a lesser character comes before a greater one
encode_before : (c d : ℕ) → c < d → ComesBefore (encode c) (encode d)
encode_before c d h =
    elim (cases_lt d 128) [
      | inl d1 ↦ rw (one c (omega arith), one d d1) (first_less _ _ _ _ h)
      | inr d1 ↦ elim (cases_lt d 2048) [
        | inl d2 ↦ rw (two d d1 d2) (elim (cases_lt c 128) [
          | inl c1 ↦ rw (one c c1) (first_less _ _ _ _ (omega arith))
          | inr c1 ↦ rw (two c c1 (omega arith)) (two_bytes c d h)
        ])
        | inr d2 ↦ elim (cases_lt d 65536) [
          | inl d3 ↦ rw (three d d2 d3) (elim (cases_lt c 128) [
            | inl c1 ↦ rw (one c c1) (first_less _ _ _ _ (omega arith))
            | inr c1 ↦ elim (cases_lt c 2048) [
              | inl c2 ↦ rw (two c c1 c2) (first_less _ _ _ _ (omega arith))
              | inr c2 ↦ rw (three c c2 (omega arith)) (three_bytes c d h)
            ]
          ])
          | inr d3 ↦ rw (four d d3) (elim (cases_lt c 128) [
            | inl c1 ↦ rw (one c c1) (first_less _ _ _ _ (omega arith))
            | inr c1 ↦ elim (cases_lt c 2048) [
              | inl c2 ↦ rw (two c c1 c2) (first_less _ _ _ _ (omega arith))
              | inr c2 ↦ elim (cases_lt c 65536) [
                | inl c3 ↦ rw (three c c2 c3) (first_less _ _ _ _ (omega arith))
                | inr c3 ↦ rw (four c c3) (four_bytes c d h)
              ]
            ]
          ])
        ]
      ]
    ]

same_front : (front xs ys : List ℕ) → slice_cmp nat_cmp (front ++ xs) (front ++ ys) ≡ slice_cmp nat_cmp xs ys
same_front [] xs ys = refl
same_front (x ∷ front) xs ys = rw (le-ltb x x (omega arith), eq-eqb x x refl) (same_front front xs ys)

some_byte : (c : ℕ) → (x : ℕ) × (xs : List ℕ) × (encode c ≡ x ∷ xs)
some_byte c =
    elim (cases_lt c 128) [
      | inl c1 ↦ (_, _, one c c1)
      | inr c1 ↦ elim (cases_lt c 2048) [
        | inl c2 ↦ (_, _, two c c1 c2)
        | inr c2 ↦ elim (cases_lt c 65536) [ inl c3 ↦ (_, _, three c c2 c3) | inr c3 ↦ (_, _, four c c3) ]
      ]
    ]

nothing_first : (c : ℕ) (rest : List ℕ) → slice_cmp nat_cmp [] (encode c ++ rest) ≡ Less
nothing_first c rest = ap (λ l. slice_cmp nat_cmp [] (l ++ rest)) (some_byte c).2

nothing_last : (c : ℕ) (rest : List ℕ) → slice_cmp nat_cmp (encode c ++ rest) [] ≡ Greater
nothing_last c rest = ap (λ l. slice_cmp nat_cmp (l ++ rest) []) (some_byte c).2

pub slice_cmp-encodes : (cs ds : List ℕ) → slice_cmp nat_cmp (encode_utf8_all cs) (encode_utf8_all ds) ≡ slice_cmp nat_cmp cs ds
slice_cmp-encodes [] [] = refl
slice_cmp-encodes [] (d ∷ ds) = nothing_first d (encode_utf8_all ds)
slice_cmp-encodes (c ∷ cs) [] = nothing_last c (encode_utf8_all cs)
slice_cmp-encodes (c ∷ cs) (d ∷ ds) =
    elim (cases_lt c d) [
      | inl less ↦ (encode_before c d less).less (encode_utf8_all cs) (encode_utf8_all ds) ∙ sym (rw (lt-ltb c d less) refl)
      | inr most ↦ elim (cases_eq c d) [
        | inl same ↦ rw (same, le-ltb d d (omega arith), eq-eqb d d refl) (same_front (encode d) (encode_utf8_all cs) (encode_utf8_all ds) ∙ slice_cmp-encodes cs ds)
        | inr other ↦
            nat_list_cmp_total.antisymm (encode c ++ encode_utf8_all cs) (encode d ++ encode_utf8_all ds)
            ∙ ap ordering_reverse ((encode_before d c (omega arith)).less (encode_utf8_all ds) (encode_utf8_all cs))
            ∙ sym (rw (le-ltb c d (omega arith), ne_eqb c d other) refl)
      ]
    ]
