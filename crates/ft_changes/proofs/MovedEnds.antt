-- Where an end of an interval stands after changes of the elements: of an element that is meant and shown, by its number among those that are.
use Rattle.std.proofs.Common.{◌≡◌, ℕ, zero, suc, ◌+◌, ◌-◌, ◌≤◌, ◌<◌, Bool, true, false, cond, not, ◌&&◌, nat_eq, nat_le, nat_lt, List, [], ◌∷◌, ◌++◌, refl, sym, ◌∙◌, ap, arith, length, ℤ, pos, negsuc}
use Rattle.std.specs.List.{list_any}
use Rattle.std.proofs.lemmas.Bool.{eqb-true}
use Rattle.std.proofs.lemmas.Bool.Decides.{nat_tests}
use Rattle.ft_base.specs.Scan.{change_range_from, len, one_more_if, put, put_past, rank, retain_map, within}
use Rattle.ft_changes.specs.ShownRuns.{GoneRun, gone_runs_from, place_of_insertion, shown_in_run, take_out, with_gone, without_first}
use Rattle.ft_changes.specs.Shown.{end_after_take, last_place}
use Rattle.ft_changes.proofs.AckedLists.{neither}
use Rattle.ft_changes.proofs.RunLaws.{next-front, take_out-none, take_out-one}

le-suc : (m n : ℕ) → nat_le (suc m) (suc n) ≡ nat_le m n
le-suc m n = by (nat_le m n) refl
  where
    by : (b : Bool) → nat_le m n ≡ b → nat_le (suc m) (suc n) ≡ b
    by true e = grind (arith, nat_tests)
    by false e = grind (arith, nat_tests)

-- a number after n went in at place p
abbrev moved : ℕ → ℕ → ℕ → ℕ
moved n p i = cond (nat_le p i) (i + n) i

moved-suc : (n p i : ℕ) → suc (moved n p i) ≡ moved n (suc p) (suc i)
moved-suc n p i = by (nat_le p i) ∙ ap (λ b. cond b (suc i + n) (suc i)) (sym (le-suc p i))
  where
    by : (b : Bool) → suc (cond b (i + n) i) ≡ cond b (suc i + n) (suc i)
    by true = omega arith
    by false = refl

moved-first : (n p : ℕ) → 0 ≡ moved n (suc p) 0
moved-first n p = let test : nat_le (suc p) 0 ≡ false = grind (arith, nat_tests) in ap (λ b. cond b (0 + n) 0) (sym test)

moved-all : (n i : ℕ) → i + n ≡ moved n 0 i
moved-all n i = let test : nat_le 0 i ≡ true = grind (arith, nat_tests) in ap (λ b. cond b (i + n) i) (sym test)

module _ {A : Type 0} (is shown : A → Bool) where
  -- whether one is meant, the first of which is shown
  abbrev pub is_shown_one : List A → Bool
  is_shown_one [] = false
  is_shown_one (x ∷ xs) = cond (is x) (shown x) (is_shown_one xs)

  rank-append : (ys xs : List A) → list_any is ys ≡ false → rank is shown (ys ++ xs) ≡ rank is shown xs + len shown ys
  rank-append [] xs h = omega arith
  rank-append (y ∷ ys) xs h =
      let p = neither (is y) (list_any is ys) h in
      ap (λ b. cond b 0 (one_more_if (shown y) (rank is shown (ys ++ xs)))) p.0
      ∙ ap (one_more_if (shown y)) (rank-append ys xs p.1) ∙ more (shown y)
    where
      more : (b : Bool) → one_more_if b (rank is shown xs + len shown ys) ≡ rank is shown xs + one_more_if b (len shown ys)
      more true = omega arith
      more false = refl

  module _ (new : List A) (none : list_any is new ≡ false) where
    -- behind one element
    step : (i s rest : Bool) (place r after : ℕ) → cond i s rest ≡ true → (rest ≡ true → after ≡ moved (len shown new) place r)
        → cond i 0 (one_more_if s after) ≡ moved (len shown new) (one_more_if s place) (cond i 0 (one_more_if s r))
    step true true rest place r after h ih = moved-first (len shown new) place
    step true false rest place r after h ih = absurd (cc)
    step false true rest place r after h ih = ap suc (ih h) ∙ moved-suc (len shown new) place r
    step false false rest place r after h ih = ih h

    rank-past : (past : A → Bool) (xs : List A) → is_shown_one xs ≡ true → rank is shown (put_past past new xs)
        ≡ moved (len shown new) (shown_in_run past shown xs) (rank is shown xs)
    rank-past past [] h = absurd (cc)
    rank-past past (x ∷ xs) h = by (past x) (λ g. rank-past past xs g)
      where
        by : (b : Bool) → (is_shown_one xs ≡ true → rank is shown (put_past past new xs) ≡ moved (len shown new) (shown_in_run past shown xs) (rank
            is shown xs))
            → rank is shown (cond b (x ∷ put_past past new xs) (new ++ (x ∷ xs)))
            ≡ moved (len shown new) (cond b (one_more_if (shown x) (shown_in_run past shown xs)) 0) (rank is shown (x ∷ xs))
        by true ih = step (is x) (shown x) (is_shown_one xs) (shown_in_run past shown xs) (rank is shown xs) (rank is shown (put_past past new xs)) h
            ih
        by false ih = rank-append new (x ∷ xs) none ∙ moved-all (len shown new) (rank is shown (x ∷ xs))

    pub rank-put : (seen past : A → Bool) (p : ℕ) (xs : List A) → is_shown_one xs ≡ true
        → rank is shown (put seen past p new xs) ≡ moved (len shown new) (place_of_insertion seen past shown p xs) (rank is shown xs)
    rank-put seen past zero xs h = rank-past past xs h
    rank-put seen past (suc p) [] h = absurd (cc)
    rank-put seen past (suc p) (x ∷ xs) h =
        let q = cond (seen x) p (suc p) in
        step (is x) (shown x) (is_shown_one xs) (place_of_insertion seen past shown q xs) (rank is shown xs) (rank is shown (put seen past q new xs))
        h
        (λ g. rank-put seen past q xs g)

-- ---- elements that go away

-- an end at place i of n, or where there is no such, at the last place
abbrev pub float : ℕ → ℕ → ℤ
float i n = cond (nat_lt i n) (pos i) (last_place n)

-- the end after the runs went away from these elements, one after another
abbrev pub after_runs : {A : Type 0} → List GoneRun → List A → ℤ → ℤ
after_runs [] es e = e
after_runs (run ∷ runs) es e = let left = take_out run.place run.count es in after_runs runs left (end_after_take run.place run.count (length left) e)

-- ---- a run as its elements, one after another

none-first : {A : Type 0} (n : ℕ) → without_first {A = A} n [] ≡ []
none-first zero = refl
none-first (suc n) = refl

first-twice : {A : Type 0} (n : ℕ) (es : List A) → without_first (suc n) es ≡ without_first n (without_first 1 es)
first-twice n [] = sym (none-first n)
first-twice n (x ∷ es) = refl

take-twice : {A : Type 0} (p n : ℕ) (es : List A) → take_out p (suc n) es ≡ take_out p n (take_out p 1 es)
take-twice zero n es = first-twice n es
take-twice (suc p) n [] = refl
take-twice (suc p) n (x ∷ es) = ap (λ xs. x ∷ xs) (take-twice p n es)

-- behind the end nothing goes away
take-beyond : {A : Type 0} (p n : ℕ) (es : List A) → length es ≤ p → length (take_out p n es) ≡ length es
take-beyond zero n [] l = ap length (none-first n)
take-beyond zero n (x ∷ es) l = absurd (omega arith)
take-beyond (suc p) n [] l = refl
take-beyond (suc p) n (x ∷ es) l = ap suc (take-beyond p n es (omega arith))

end-before : (p n left k : ℕ) → k < p → end_after_take p n left (pos k) ≡ pos k
end-before p n left k l =
    let test : nat_lt k p ≡ true = grind (arith, nat_tests) in
    ap (λ b. cond b (pos k) (cond (nat_le (p + n) k) (pos (k - n)) (float p left))) test

end-in : (p n left k : ℕ) → p ≤ k → k < p + n → end_after_take p n left (pos k) ≡ float p left
end-in p n left k l m =
    let first : nat_lt k p ≡ false = grind (arith, nat_tests) in
    let second : nat_le (p + n) k ≡ false = grind (arith, nat_tests) in
    ap (λ b. cond b (pos k) (cond (nat_le (p + n) k) (pos (k - n)) (float p left))) first ∙ ap (λ b. cond b (pos (k - n)) (float p left)) second

end-behind : (p n left k j : ℕ) → p + n ≤ k → k ≡ j + n → end_after_take p n left (pos k) ≡ pos j
end-behind p n left k j l e =
    let first : nat_lt k p ≡ false = grind (arith, nat_tests) in
    let second : nat_le (p + n) k ≡ true = grind (arith, nat_tests) in
    let less : k - n ≡ j = omega arith in
    ap (λ b. cond b (pos k) (cond (nat_le (p + n) k) (pos (k - n)) (float p left))) first ∙ ap (λ b. cond b (pos (k - n)) (float p left)) second
    ∙ ap pos less

pub float-there : (i n : ℕ) → i < n → float i n ≡ pos i
float-there i n l = let test : nat_lt i n ≡ true = grind (arith, nat_tests) in ap (λ b. cond b (pos i) (last_place n)) test

pub float-last : (i n : ℕ) → n ≤ i → float i n ≡ last_place n
float-last i n l = let test : nat_lt i n ≡ false = grind (arith, nat_tests) in ap (λ b. cond b (pos i) (last_place n)) test

-- where m are left once the first went away, and `left` once the others did
end-twice : (p n m left : ℕ) → (m ≤ p → left ≡ m) → (n ≡ 0 → left ≡ m) → (e : ℤ) → end_after_take p (suc n) left e
    ≡ end_after_take p n left (end_after_take p 1 m e)
end-twice p n m left beyond none (negsuc k) = refl
end-twice p n m left beyond none (pos k) = before (nat_lt k p) refl
  where
    left_of : nat_lt k p ≡ true → end_after_take p (suc n) left (pos k) ≡ end_after_take p n left (end_after_take p 1 m (pos k))
    left_of e =
        let l : k < p = grind (arith, nat_tests) in
        end-before p (suc n) left k l ∙ sym (end-before p n left k l) ∙ ap (end_after_take p n left) (sym (end-before p 1 m k l))

    last : (i : ℕ) → i ≤ p → last_place i ≡ end_after_take p n left (last_place i)
    last zero l = refl
    last (suc i) l = sym (end-before p n left i (omega arith))

    floats : (b : Bool) → nat_lt p m ≡ b → (d : Bool) → nat_eq n 0 ≡ d → float p left ≡ end_after_take p n left (float p m)
    floats false e d f =
        let l : m ≤ p = grind (arith, nat_tests) in
        ap (float p) (beyond l) ∙ float-last p m l ∙ last m l ∙ ap (end_after_take p n left) (sym (float-last p m l))
    floats true e true f =
        let l : p < m = grind (arith, nat_tests) in
        let z = eqb-true n 0 f in
        ap (float p) (none z) ∙ float-there p m l ∙ sym (end-behind p n left p p (omega arith) (omega arith))
        ∙ ap (end_after_take p n left) (sym (float-there p m l))
    floats true e false f =
        let l : p < m = grind (arith, nat_tests) in
        let more : 1 ≤ n = grind (arith, nat_tests) in
        sym (end-in p n left p (omega arith) (omega arith)) ∙ ap (end_after_take p n left) (sym (float-there p m l))

    behind : (b : Bool) → nat_le (p + suc n) k ≡ b → p + 1 ≤ k → end_after_take p (suc n) left (pos k)
        ≡ end_after_take p n left (end_after_take p 1 m (pos k))
    behind true e l =
        let far : p + suc n ≤ k = grind (arith, nat_tests) in
        end-behind p (suc n) left k (k - suc n) far (omega arith) ∙ sym (end-behind p n left (k - 1) (k - suc n) (omega arith) (omega arith))
        ∙ ap (end_after_take p n left) (sym (end-behind p 1 m k (k - 1) l (omega arith)))
    behind false e l =
        let near : k < p + suc n = grind (arith, nat_tests) in
        end-in p (suc n) left k (omega arith) near ∙ sym (end-in p n left (k - 1) (omega arith) (omega arith))
        ∙ ap (end_after_take p n left) (sym (end-behind p 1 m k (k - 1) l (omega arith)))

    at_place : (b : Bool) → nat_eq k p ≡ b → nat_lt k p ≡ false → end_after_take p (suc n) left (pos k)
        ≡ end_after_take p n left (end_after_take p 1 m (pos k))
    at_place true e f =
        let same = eqb-true k p e in
        end-in p (suc n) left k (omega arith) (omega arith) ∙ floats (nat_lt p m) refl (nat_eq n 0) refl
        ∙ ap (end_after_take p n left) (sym (end-in p 1 m k (omega arith) (omega arith)))
    at_place false e f = let more : p + 1 ≤ k = grind (arith, nat_tests) in behind (nat_le (p + suc n) k) refl more

    before : (b : Bool) → nat_lt k p ≡ b → end_after_take p (suc n) left (pos k) ≡ end_after_take p n left (end_after_take p 1 m (pos k))
    before true e = left_of e
    before false e = at_place (nat_eq k p) refl e

module _ {A : Type 0} where
  -- the end after the element at place p went away
  abbrev one_gone : ℕ → List A → ℤ → ℤ
  one_gone p es e = end_after_take p 1 (length (take_out p 1 es)) e

  -- a run with one element before it
  gone-first : (p : ℕ) (runs : List GoneRun) (es : List A) (e : ℤ) → after_runs (with_gone true p runs) es e
      ≡ after_runs runs (take_out p 1 es) (one_gone p es e)
  gone-first p [] es e = refl
  gone-first p (run ∷ runs) es e = by (nat_eq run.place p) refl
    where
      by : (b : Bool) → nat_eq run.place p ≡ b
          → after_runs (cond b (record { place = p; count = suc run.count } ∷ runs) (record { place = p; count = 1 } ∷ run ∷ runs)) es e
          ≡ after_runs (run ∷ runs) (take_out p 1 es) (one_gone p es e)
      by false f = refl
      by true f =
          let n = run.count in
          let first = take_out p 1 es in
          let rest = take_out p n first in
          let twice : take_out p (suc n) es ≡ rest = take-twice p n es in
          let same : p ≡ run.place = sym (eqb-true run.place p f) in
          let none : n ≡ 0 → length rest ≡ length first = λ z. ap (λ m. length (take_out p m first)) z ∙ ap (length {A = A}) (take_out-none p first) in
          ap (λ left. after_runs runs left (end_after_take p (suc n) (length left) e)) twice
          ∙ ap (after_runs runs rest) (end-twice p n (length first) (length rest) (take-beyond p n first) none e)
          ∙ ap (λ i. after_runs (record { place = i; count = n } ∷ runs) first (one_gone p es e)) same

-- ---- ends on elements that go away, and on others

length-front : {A : Type 0} (front es : List A) → length (front ++ es) ≡ length front + length es
length-front [] es = omega arith
length-front (y ∷ front) es = let rest = length-front front es in omega arith

module _ {A B : Type 0} (is seen shown : A → Bool) (f : A → B) (p q : ℕ) (g : A → A) (hides : (x : A) → shown (g x) ≡ false) (means : (x : A)
    → is (g x) ≡ is x) where
  abbrev runs_of : ℕ → ℕ → List A → List GoneRun
  runs_of n i xs = gone_runs_from n i seen shown p q xs

  abbrev left_of : ℕ → List A → List A
  left_of n xs = change_range_from n seen p q g xs

  abbrev shown_of : List A → List B
  shown_of xs = retain_map shown f xs

  -- an end before them stays
  front-stays : (n i k : ℕ) (es : List B) (xs : List A) → k < i → after_runs (runs_of n i xs) es (pos k) ≡ pos k
  front-stays n i k es [] l = refl
  front-stays n i k es (x ∷ xs) l = by (shown x) (seen x && within p q n) (λ j us d. front-stays m j k us xs d)
    where
      m : ℕ
      m = one_more_if (seen x) n

      by : (b goes : Bool) → ((j : ℕ) (us : List B) → k < j → after_runs (runs_of m j xs) us (pos k) ≡ pos k)
          → after_runs (with_gone (b && goes) i (runs_of m (one_more_if (b && not goes) i) xs)) es (pos k) ≡ pos k
      by true true ih =
          gone-first i (runs_of m i xs) es (pos k) ∙ ap (after_runs (runs_of m i xs) (take_out i 1 es)) (end-before i 1 (length (take_out i 1 es)) k
          l) ∙ ih i (take_out i 1 es) l
      by true false ih = ih (suc i) es (omega arith)
      by false goes ih = ih i es l

  hidden : (x : A) (goes : Bool) → shown x ≡ false → shown (cond goes (g x) x) ≡ false
  hidden x true e = hides x
  hidden x false e = e

  -- one that floats behind the front, since its element went away, goes to the next that stays
  floats-on : (n : ℕ) (front : List B) (xs : List A)
      → after_runs (runs_of n (length front) xs) (front ++ shown_of xs) (float (length front) (length (front ++ shown_of xs)))
      ≡ float (length front) (length front + len shown (left_of n xs))
  floats-on n front [] = ap (float (length front)) (length-front front [])
  floats-on n front (x ∷ xs) = by (shown x) (seen x && within p q n) refl (floats-on m front xs)
    where
      m : ℕ
      m = one_more_if (seen x) n

      i : ℕ
      i = length front

      after : ℕ
      after = len shown (left_of m xs)

      rest : List B
      rest = shown_of xs

      there : length front < length (front ++ f x ∷ rest)
      there = let e = length-front front (f x ∷ rest) in omega arith

      by : (b goes : Bool) → shown x ≡ b
          → after_runs (runs_of m (length front) xs) (front ++ rest) (float (length front) (length (front ++ rest)))
          ≡ float (length front) (length front + after)
          → after_runs (with_gone (b && goes) (length front) (runs_of m (one_more_if (b && not goes) (length front)) xs)) (front ++ cond b (f x ∷
          rest) rest)
          (float (length front) (length (front ++ cond b (f x ∷ rest) rest)))
          ≡ float (length front) (length front + one_more_if (shown (cond goes (g x) x)) after)
      by true true e ih =
          let es = front ++ f x ∷ rest in
          let runs = runs_of m (length front) xs in
          gone-first (length front) runs es (float (length front) (length es))
          ∙ ap (λ us. after_runs runs us (end_after_take (length front) 1 (length us) (float (length front) (length es)))) (take_out-one (f x) front
          rest)
          ∙ ap (λ d. after_runs runs (front ++ rest) (end_after_take (length front) 1 (length (front ++ rest)) d)) (float-there (length front)
          (length es) there)
          ∙ ap (after_runs runs (front ++ rest)) (end-in (length front) 1 (length (front ++ rest)) (length front) (omega arith) (omega arith))
          ∙ ih ∙ ap (λ b. float (length front) (length front + one_more_if b after)) (sym (hides x))
      by true false e ih =
          let es = front ++ f x ∷ rest in
          ap (after_runs (runs_of m (suc (length front)) xs) es) (float-there (length front) (length es) there)
          ∙ front-stays m (suc (length front)) (length front) es xs (omega arith)
          ∙ sym (float-there (length front) (length front + suc after) (omega arith)) ∙ ap (λ b. float (length front) (length front + one_more_if b
          after)) (sym e)
      by false goes e ih = ih ∙ ap (λ b. float (length front) (length front + one_more_if b after)) (sym (hidden x goes e))

  meant : (x : A) (goes : Bool) → is (cond goes (g x) x) ≡ is x
  meant x true = means x
  meant x false = refl

  end-gone : (n : ℕ) (front : List B) (xs : List A) → is_shown_one is shown xs ≡ true
      → after_runs (runs_of n (length front) xs) (front ++ shown_of xs) (pos (length front + rank is shown xs))
      ≡ float (length front + rank is shown (left_of n xs)) (length front + len shown (left_of n xs))
  end-gone n front [] h = absurd (cc)
  end-gone n front (x ∷ xs) h =
      by (is x) (shown x) (seen x && within p q n) refl refl h (λ d. end-gone m front xs d) (λ d. end-gone m (front ++ f x ∷ []) xs d)
    where
      m : ℕ
      m = one_more_if (seen x) n

      old : ℕ
      old = rank is shown xs

      new : ℕ
      new = rank is shown (left_of m xs)

      after : ℕ
      after = len shown (left_of m xs)

      rest : List B
      rest = shown_of xs

      -- what is left, with what is known of its first element
      with-first : (y : A) (i s : Bool) → is y ≡ i → shown y ≡ s
          → float (length front + cond i 0 (one_more_if s new)) (length front + one_more_if s after)
          ≡ float (length front + cond (is y) 0 (one_more_if (shown y) new)) (length front + one_more_if (shown y) after)
      with-first y i s e d =
          ap (λ b. float (length front + cond b 0 (one_more_if s new)) (length front + one_more_if s after)) (sym e)
          ∙ ap (λ b. float (length front + cond (is y) 0 (one_more_if b new)) (length front + one_more_if b after)) (sym d)

      by : (i s goes : Bool) → is x ≡ i → shown x ≡ s → cond i s (is_shown_one is shown xs) ≡ true
          → (is_shown_one is shown xs ≡ true → after_runs (runs_of m (length front) xs) (front ++ rest) (pos (length front + old))
          ≡ float (length front + new) (length front + after))
          → (is_shown_one is shown xs ≡ true → after_runs (runs_of m (length (front ++ f x ∷ [])) xs) ((front ++ f x ∷ []) ++ rest) (pos (length
          (front ++ f x ∷ []) + old))
          ≡ float (length (front ++ f x ∷ []) + new) (length (front ++ f x ∷ []) + after))
          → after_runs (with_gone (s && goes) (length front) (runs_of m (one_more_if (s && not goes) (length front)) xs)) (front ++ cond s (f x ∷
          rest) rest)
          (pos (length front + cond i 0 (one_more_if s old)))
          ≡ float (length front + cond (is (cond goes (g x) x)) 0 (one_more_if (shown (cond goes (g x) x)) new)) (length front + one_more_if (shown
          (cond goes (g x) x)) after)
      by true false goes e d h here next = absurd (cc)
      by true true true e d h here next =
          let es = front ++ f x ∷ rest in
          let runs = runs_of m (length front) xs in
          let end : ℤ = pos (length front + 0) in
          gone-first (length front) runs es end
          ∙ ap (λ us. after_runs runs us (end_after_take (length front) 1 (length us) end)) (take_out-one (f x) front rest)
          ∙ ap (after_runs runs (front ++ rest)) (end-in (length front) 1 (length (front ++ rest)) (length front + 0) (omega arith) (omega arith))
          ∙ floats-on m front xs
          ∙ (let same : length front ≡ length front + 0 = omega arith in ap (λ j. float j (length front + after)) same)
          ∙ with-first (g x) true false (means x ∙ e) (hides x)
      by true true false e d h here next =
          let es = front ++ f x ∷ rest in
          front-stays m (suc (length front)) (length front + 0) es xs (omega arith)
          ∙ sym (float-there (length front + 0) (length front + suc after) (omega arith)) ∙ with-first x true true e d
      by false true true e d h here next =
          let es = front ++ f x ∷ rest in
          let runs = runs_of m (length front) xs in
          let end : ℤ = pos (length front + suc old) in
          gone-first (length front) runs es end
          ∙ ap (λ us. after_runs runs us (end_after_take (length front) 1 (length us) end)) (take_out-one (f x) front rest)
          ∙ ap (after_runs runs (front ++ rest)) (end-behind (length front) 1 (length (front ++ rest)) (length front + suc old) (length front + old)
          (omega arith) (omega arith))
          ∙ here h ∙ with-first (g x) false false (means x ∙ e) (hides x)
      by false true false e d h here next =
          let more = front ++ f x ∷ [] in
          let one : length more ≡ suc (length front) = length-front front (f x ∷ []) ∙ omega arith in
          let at_new : length more + new ≡ length front + suc new = omega arith in
          let at_after : length more + after ≡ length front + suc after = omega arith in
          let at_old : length front + suc old ≡ length more + old = omega arith in
          ap (λ j. after_runs (runs_of m j xs) (front ++ f x ∷ rest) (pos (length front + suc old))) (sym one)
          ∙ ap (λ us. after_runs (runs_of m (length more) xs) us (pos (length front + suc old))) (sym (next-front (f x) front rest))
          ∙ ap (λ j. after_runs (runs_of m (length more) xs) (more ++ rest) (pos j)) at_old
          ∙ next h
          ∙ ap (λ j. float j (length more + after)) at_new ∙ ap (float (length front + suc new)) at_after ∙ with-first x false true e d
      by false false goes e d h here next = here h ∙ with-first (cond goes (g x) x) false false (meant x goes ∙ e) (hidden x goes d)

  pub ends-gone : (xs : List A) → is_shown_one is shown xs ≡ true
      → after_runs (gone_runs_from 0 0 seen shown p q xs) (retain_map shown f xs) (pos (rank is shown xs))
      ≡ float (rank is shown (change_range_from 0 seen p q g xs)) (len shown (change_range_from 0 seen p q g xs))
  ends-gone xs h =
      let old : rank is shown xs ≡ 0 + rank is shown xs = omega arith in
      let new : 0 + rank is shown (left_of 0 xs) ≡ rank is shown (left_of 0 xs) = omega arith in
      let after : 0 + len shown (left_of 0 xs) ≡ len shown (left_of 0 xs) = omega arith in
      ap (λ j. after_runs (runs_of 0 0 xs) (shown_of xs) (pos j)) old ∙ end-gone 0 [] xs h
      ∙ ap (λ j. float j (0 + len shown (left_of 0 xs))) new ∙ ap (float (rank is shown (left_of 0 xs))) after
