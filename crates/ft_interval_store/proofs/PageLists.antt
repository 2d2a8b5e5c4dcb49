-- Lists on pages: what a change of one page makes of the list.
use Rattle.std.proofs.Common.{◌≡◌, ℕ, zero, suc, ◌+◌, ◌-◌, ◌<◌, ◌≤◌, List, [], ◌∷◌, ◌++◌, All, append_assoc, drop, get_or, length, length-append, length-set, set, take, Result, Ok, Err, refl, sym, ◌∙◌, ap, subst, arith}
use Rattle.std.specs.Prelude.{OnErr, OnOk}
use Rattle.std.specs.List.{AllZip, insert, remove}
use Rattle.std.specs.Global.{Vec}
use Rattle.std.proofs.lemmas.List.{flat_map_more, get_or-append_right, get_or_append_left, set-append_left, set-append_right, take-append-drop, take_more}
use Rattle.std.proofs.lemmas.List.Edits.{insert-append_left, insert-append_right, remove-append_left, remove-append_right}
use Rattle.std.proofs.lemmas.List.Elements.{All-cons, All-head, All-nil, All-set, All-tail}
use Rattle.ft_interval_store.specs.Pages.{AreFilled, ArePages, count_before, from_pages}

-- a fact that doesn't ask how a call ends
pub on-any : {A E P : Type 0} (r : Result A E) → P → OnErr r P
on-any (Ok x) p = tt
on-any (Err e) p = p

-- what is one list where a call ends well, and another one where it doesn't
pub on-either : {A E X : Type 0} (P : X → Type 0) (r : Result A E) (new a b : X) → OnOk r (new ≡ a) → OnErr r (new ≡ b) → P a → P b → P new
on-either P (Ok x) new a b e f p q = subst P (sym e) p
on-either P (Err x) new a b e f p q = subst P (sym f) q

module _ {A B : Type 0} (R : A → B → Type 0) where
  pub zip-append : (xs : List A) (ys : List B) (us : List A) (vs : List B) → AllZip R xs ys → AllZip R us vs → AllZip R (xs ++ us) (ys ++ vs)
  zip-append [] [] us vs h k = k
  zip-append [] (y ∷ ys) us vs h k = absurd h
  zip-append (x ∷ xs) [] us vs h k = absurd h
  zip-append (x ∷ xs) (y ∷ ys) us vs h k = (h.0, zip-append xs ys us vs h.1 k)

  pub length-zip : (xs : List A) (ys : List B) → AllZip R xs ys → length xs ≡ length ys
  length-zip [] [] h = refl
  length-zip [] (y ∷ ys) h = absurd h
  length-zip (x ∷ xs) [] h = absurd h
  length-zip (x ∷ xs) (y ∷ ys) h = ap suc (length-zip xs ys h.1)

module _ {T : Type 0} where
  abbrev IsFilled : Vec T → Type 0
  IsFilled c = 0 < length c.items

  -- the elements in front of the page of that place, and those behind it
  abbrev front : ℕ → List (Vec T) → List T
  front zero ps = []
  front (suc k) [] = []
  front (suc k) (c ∷ ps) = c.items ++ front k ps

  abbrev back : ℕ → List (Vec T) → List T
  back k [] = []
  back zero (c ∷ ps) = from_pages ps
  back (suc k) (c ∷ ps) = back k ps

  length-front : (k : ℕ) (ps : List (Vec T)) → length (front k ps) ≡ count_before k ps
  length-front zero ps = refl
  length-front (suc k) [] = refl
  length-front (suc k) (c ∷ ps) = length-append c.items (front k ps) ∙ ap (λ n. length c.items + n) (length-front k ps)

  -- the list is what stands in front, the page, and what stands behind
  parts : (k : ℕ) (ps : List (Vec T)) (d : Vec T) → k < length ps → from_pages ps ≡ front k ps ++ ((get_or ps k d).items ++ back k ps)
  parts k [] d l = absurd (omega arith)
  parts zero (c ∷ ps) d l = refl
  parts (suc k) (c ∷ ps) d l = ap (λ xs. c.items ++ xs) (parts k ps d (omega arith)) ∙ sym (append_assoc c.items (front k ps) ((get_or ps k d).items ++ back k ps))

  -- with another page
  other : (k : ℕ) (ps : List (Vec T)) (c : Vec T) → k < length ps → from_pages (set ps k c) ≡ front k ps ++ (c.items ++ back k ps)
  other k [] c l = absurd (omega arith)
  other zero (x ∷ ps) c l = refl
  other (suc k) (x ∷ ps) c l = ap (λ xs. x.items ++ xs) (other k ps c (omega arith)) ∙ sym (append_assoc x.items (front k ps) (c.items ++ back k ps))

  -- without the page
  without : (k : ℕ) (ps : List (Vec T)) → k < length ps → from_pages (remove ps k) ≡ front k ps ++ back k ps
  without k [] l = absurd (omega arith)
  without zero (x ∷ ps) l = refl
  without (suc k) (x ∷ ps) l = ap (λ xs. x.items ++ xs) (without k ps (omega arith)) ∙ sym (append_assoc x.items (front k ps) (back k ps))

  -- with two pages instead
  two : (k : ℕ) (ps : List (Vec T)) (c e : Vec T) → k < length ps
      → from_pages (insert (set ps k c) (suc k) e) ≡ front k ps ++ (c.items ++ (e.items ++ back k ps))
  two k [] c e l = absurd (omega arith)
  two zero (x ∷ ps) c e l = refl
  two (suc k) (x ∷ ps) c e l = ap (λ xs. x.items ++ xs) (two k ps c e (omega arith)) ∙ sym (append_assoc x.items (front k ps) (c.items ++ (e.items ++ back k ps)))

  -- how many stand before the next page, and before the end
  pub next-count : (k : ℕ) (ps : List (Vec T)) (d : Vec T) → k < length ps → count_before (suc k) ps ≡ count_before k ps + length (get_or ps k d).items
  next-count k [] d l = absurd (omega arith)
  next-count zero (c ∷ ps) d l = omega arith
  next-count (suc k) (c ∷ ps) d l = omega (arith, next-count k ps d (omega arith))

  pub count-all : (k : ℕ) (ps : List (Vec T)) → length ps ≤ k → count_before k ps ≡ length (from_pages ps)
  count-all zero [] l = refl
  count-all zero (c ∷ ps) l = absurd (omega arith)
  count-all (suc k) [] l = refl
  count-all (suc k) (c ∷ ps) l = ap (λ n. length c.items + n) (count-all k ps (omega arith)) ∙ sym (length-append c.items (from_pages ps))

  -- the elements up to the end of a page are elements of the list
  pub up-to : (k : ℕ) (ps : List (Vec T)) (d : Vec T) → k < length ps → count_before k ps + length (get_or ps k d).items ≤ length (from_pages ps)
  up-to k [] d l = absurd (omega arith)
  up-to zero (c ∷ ps) d l = omega (arith, length-append c.items (from_pages ps))
  up-to (suc k) (c ∷ ps) d l = omega (arith, length-append c.items (from_pages ps), up-to k ps d (omega arith))

  -- one page on
  pub next-place : (k o place n : ℕ) (ps : List (Vec T)) (d : Vec T) → k < length ps → n ≡ length (get_or ps k d).items → n ≤ o → count_before k ps + o ≡ place
      → count_before (k + 1) ps + (o - n) ≡ place
  next-place k o place n ps d l is le e =
      let next : k + 1 ≡ suc k = omega arith in
      omega (arith, ap (λ m. count_before m ps) next, next-count k ps d l, is, le, e)

  -- ---- what a change at a place of a page makes of the list

  module _ (k o place : ℕ) (ps : List (Vec T)) (d : Vec T) (l : k < length ps) (sum : count_before k ps + o ≡ place) where
    abbrev page : List T
    page = (get_or ps k d).items

    abbrev rest : List T
    rest = page ++ back k ps

    far : count_before k ps ≤ place
    far = omega (arith, sum)

    offset-is : place - count_before k ps ≡ o
    offset-is = omega (arith, sum)

    pub at-place : (x : T) → o < length page → get_or (from_pages ps) place x ≡ get_or page o x
    at-place x lt =
        ap (λ xs. get_or xs place x) (parts k ps d l) ∙ get_or-append_right (front k ps) rest (count_before k ps) place x (length-front k ps) far
        ∙ ap (λ n. get_or rest n x) offset-is ∙ get_or_append_left page (back k ps) x o lt

    pub inserted : (c : Vec T) (x : T) → o ≤ length page → c.items ≡ insert page o x → from_pages (set ps k c) ≡ insert (from_pages ps) place x
    inserted c x le e =
        other k ps c l ∙ ap (λ ys. front k ps ++ (ys ++ back k ps)) e ∙ ap (λ ys. front k ps ++ ys) (sym (insert-append_left page (back k ps) o x le))
        ∙ sym (ap (λ xs. insert xs place x) (parts k ps d l) ∙ insert-append_right (front k ps) rest (count_before k ps) place x (length-front k ps) far
        ∙ ap (λ n. front k ps ++ insert rest n x) offset-is)

    pub removed : (c : Vec T) → o < length page → c.items ≡ remove page o → from_pages (set ps k c) ≡ remove (from_pages ps) place
    removed c lt e =
        other k ps c l ∙ ap (λ ys. front k ps ++ (ys ++ back k ps)) e ∙ ap (λ ys. front k ps ++ ys) (sym (remove-append_left page (back k ps) o lt))
        ∙ sym (ap (λ xs. remove xs place) (parts k ps d l) ∙ remove-append_right (front k ps) rest (count_before k ps) place (length-front k ps) far
        ∙ ap (λ n. front k ps ++ remove rest n) offset-is)

    pub replaced : (c : Vec T) (x : T) → o < length page → c.items ≡ set page o x → from_pages (set ps k c) ≡ set (from_pages ps) place x
    replaced c x lt e =
        other k ps c l ∙ ap (λ ys. front k ps ++ (ys ++ back k ps)) e ∙ ap (λ ys. front k ps ++ ys) (sym (set-append_left page (back k ps) o x lt))
        ∙ sym (ap (λ xs. set xs place x) (parts k ps d l) ∙ set-append_right (front k ps) rest (count_before k ps) place x (length-front k ps) far
        ∙ ap (λ n. front k ps ++ set rest n x) offset-is)

    -- a page of which one element is written
    pub written : (c : Vec T) (x : T) (n : ℕ) → o < length page → c.items ≡ set page o x → ArePages ps n → ArePages (set ps k c) n
    written c x n lt e are =
        let long : length c.items ≡ length page = ap length e ∙ length-set page o x in
        let list : length (from_pages (set ps k c)) ≡ length (from_pages ps) = ap length (replaced c x lt e) ∙ length-set (from_pages ps) place x in
        record {
          filled = All-set IsFilled ps k c (omega (arith, long, lt)) are.filled;
          count = are.count ∙ sym list;
        }

  -- a page with the same elements, one that is left out, and one that is cut in two
  pub same-page : (k : ℕ) (ps : List (Vec T)) (c d : Vec T) → k < length ps → c.items ≡ (get_or ps k d).items → from_pages (set ps k c) ≡ from_pages ps
  same-page k ps c d l e = other k ps c l ∙ ap (λ ys. front k ps ++ (ys ++ back k ps)) e ∙ sym (parts k ps d l)

  set-over : (k : ℕ) (ps : List (Vec T)) (c : Vec T) → k < length ps → remove (set ps k c) k ≡ remove ps k
  set-over k [] c l = absurd (omega arith)
  set-over zero (x ∷ ps) c l = refl
  set-over (suc k) (x ∷ ps) c l = ap (λ ys. x ∷ ys) (set-over k ps c (omega arith))

  pub emptied : (k : ℕ) (ps : List (Vec T)) (c : Vec T) → k < length ps → c.items ≡ [] → from_pages (remove (set ps k c) k) ≡ from_pages (set ps k c)
  emptied k ps c l e =
      ap from_pages (set-over k ps c l) ∙ without k ps l ∙ sym (other k ps c l ∙ ap (λ ys. front k ps ++ (ys ++ back k ps)) e)

  pub cut : (k : ℕ) (ps : List (Vec T)) (c e d : Vec T) (n : ℕ) → k < length ps → c.items ≡ take n (get_or ps k d).items
      → e.items ≡ drop n (get_or ps k d).items
      → from_pages (insert (set ps k c) (k + 1) e) ≡ from_pages ps
  cut k ps c e d n l t b =
      let page = (get_or ps k d).items in
      let next : k + 1 ≡ suc k = omega arith in
      ap (λ m. from_pages (insert (set ps k c) m e)) next ∙ two k ps c e l ∙ ap (λ ys. front k ps ++ ys) (sym (append_assoc c.items e.items (back k ps))
      ∙ ap (λ ys. ys ++ back k ps) (ap (λ ys. ys ++ e.items) t ∙ ap (λ ys. take n page ++ ys) b ∙ take-append-drop n page))
      ∙ sym (parts k ps d l)

  -- ---- no page is empty

  pub filled-insert : (k : ℕ) (ps : List (Vec T)) (e : Vec T) → k ≤ length ps → 0 < length e.items → AreFilled ps → AreFilled (insert ps k e)
  filled-insert zero ps e l f all = All-cons IsFilled e ps f all
  filled-insert (suc k) [] e l f all = absurd (omega arith)
  filled-insert (suc k) (c ∷ ps) e l f all = All-cons IsFilled c (insert ps k e) (All-head IsFilled c ps all) (filled-insert k ps e (omega arith) f (All-tail IsFilled c ps all))

  pub filled-remove : (k : ℕ) (ps : List (Vec T)) → k < length ps → AreFilled ps → AreFilled (remove ps k)
  filled-remove k [] l all = absurd (omega arith)
  filled-remove zero (c ∷ ps) l all = All-tail IsFilled c ps all
  filled-remove (suc k) (c ∷ ps) l all = All-cons IsFilled c (remove ps k) (All-head IsFilled c ps all) (filled-remove k ps (omega arith) (All-tail IsFilled c ps all))

  pub filled-cut : (k : ℕ) (ps : List (Vec T)) (c e : Vec T) → k < length ps → 0 < length c.items → 0 < length e.items → AreFilled ps
      → AreFilled (insert (set ps k c) (k + 1) e)
  filled-cut k ps c e l f h all = filled-insert (k + 1) (set ps k c) e (omega (arith, length-set ps k c)) h (All-set IsFilled ps k c f all)

  -- ---- all elements, page by page

  pub next-page : (k : ℕ) (ps : List (Vec T)) (p : Vec T) → k < length ps → p ≡ get_or ps k p → from_pages (take (k + 1) ps) ≡ from_pages (take k ps) ++ p.items
  next-page k ps p l at =
      ap from_pages (take_more ps k p l ∙ ap (λ x. take k ps ++ x ∷ []) (sym at)) ∙ sym (flat_map_more (λ c. c.items) [] (take k ps) p)

  pub all-left : (P : T → Type 0) (xs ys : List T) → All P (xs ++ ys) → All P xs
  all-left P [] ys all = All-nil P
  all-left P (x ∷ xs) ys all = All-cons P x xs (All-head P x (xs ++ ys) all) (all-left P xs ys (All-tail P x (xs ++ ys) all))

  pub all-right : (P : T → Type 0) (xs ys : List T) → All P (xs ++ ys) → All P ys
  all-right P [] ys all = all
  all-right P (x ∷ xs) ys all = all-right P xs ys (All-tail P x (xs ++ ys) all)

  pub all-on_page : (P : T → Type 0) (k : ℕ) (ps : List (Vec T)) (d : Vec T) → k < length ps → All P (from_pages ps) → All P (get_or ps k d).items
  all-on_page P k [] d l all = absurd (omega arith)
  all-on_page P zero (c ∷ ps) d l all = all-left P c.items (from_pages ps) all
  all-on_page P (suc k) (c ∷ ps) d l all = all-on_page P k ps d (omega arith) (all-right P c.items (from_pages ps) all)

  -- ---- lists on pages side by side

  module _ (R : T → T → Type 0) where
    abbrev pub AreAlike : Vec T → Vec T → Type 0
    AreAlike c e = AllZip R c.items e.items

    pub zip-pages : (ps qs : List (Vec T)) → AllZip AreAlike ps qs → AllZip R (from_pages ps) (from_pages qs)
    zip-pages [] [] z = tt
    zip-pages [] (e ∷ qs) z = absurd z
    zip-pages (c ∷ ps) [] z = absurd z
    zip-pages (c ∷ ps) (e ∷ qs) z = zip-append R c.items e.items (from_pages ps) (from_pages qs) z.0 (zip-pages ps qs z.1)

    zip-filled : (ps qs : List (Vec T)) → AllZip AreAlike ps qs → AreFilled ps → AreFilled qs
    zip-filled [] [] z all = all
    zip-filled [] (e ∷ qs) z all = absurd z
    zip-filled (c ∷ ps) [] z all = absurd z
    zip-filled (c ∷ ps) (e ∷ qs) z all =
        All-cons IsFilled e qs (omega (arith, length-zip R c.items e.items z.0, All-head IsFilled c ps all)) (zip-filled ps qs z.1 (All-tail IsFilled c ps all))

    pub zip-are : (ps qs : List (Vec T)) (n : ℕ) → AllZip AreAlike ps qs → ArePages ps n → ArePages qs n
    zip-are ps qs n z are = record {
      filled = zip-filled ps qs z are.filled;
      count = are.count ∙ length-zip R (from_pages ps) (from_pages qs) (zip-pages ps qs z);
    }
