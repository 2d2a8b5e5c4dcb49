-- A list of parts, each of one or more elements with the stamps of the part: what is scanned of the elements is told by
-- scans of the parts.
use Rattle.std.proofs.Common.{◌≡◌, ℕ, zero, suc, ◌+◌, ◌<◌, ◌≤◌, Bool, true, false, cond, not, ◌||◌, All, List, [], ◌∷◌, ◌++◌, map, length, refl, sym, ◌∙◌, ap, subst, arith, filter}
use Rattle.std.specs.List.{flat_map, list_any}
use Rattle.std.proofs.lemmas.Grind.{flat_map-append}
use Rattle.std.proofs.lemmas.List.Elements.{All-append, All-cons, All-filter, All-head, All-tail}
use Rattle.ft_base.specs.declared.elements.Element.{Element as ElementStamps}
use Rattle.ft_base.proofs.ScanLaws.{put_past-no_run}
use Rattle.ft_base.specs.Scan.{len, no_run, one_more_if, put, rank}
use Rattle.ft_base.specs.Visibility.{is_of_stage, seen_at}
use Rattle.ft_rebase.specs.Moves as sizes
use Rattle.ft_rebase.specs.StageLists.{StandSideBySide, inserted_by, is_one_run, is_run_at_front, next_position, seen_by, with_stages}
use Rattle.ft_rebase.proofs.StageListLemmas.{view-stages}

pub rank-len : {A : Type 0} (is seen : A → Bool) (xs : List A) → rank is seen xs ≤ len seen xs
rank-len is seen [] = omega arith
rank-len is seen (x ∷ xs) = step (is x) (seen x) (rank-len is seen xs)
  where
    step : (a b : Bool) → rank is seen xs ≤ len seen xs → cond a 0 (one_more_if b (rank is seen xs)) ≤ one_more_if b (len seen xs)
    step true b h = omega arith
    step false true h = omega arith
    step false false h = h

pub len-filter : {A : Type 0} (test : A → Bool) (xs : List A) → length (filter test xs) ≡ len test xs
len-filter test [] = refl
len-filter test (x ∷ xs) = step (test x) (len-filter test xs)
  where
    step : (b : Bool) → length (filter test xs) ≡ len test xs → length (cond b (x ∷ filter test xs) (filter test xs))
        ≡ one_more_if b (len test xs)
    step true h = ap (λ n. suc n) h
    step false h = h

-- ---- elements side by side that are all alike

module _ {B U : Type 0} (test : B → Bool) (f : U → B) where
  filter-alike : (b : Bool) → ((u : U) → test (f u) ≡ b) → (us : List U) (ys : List B) → filter test (map f us ++ ys)
      ≡ cond b (map f us) [] ++ filter test ys
  filter-alike true h [] ys = refl
  filter-alike false h [] ys = refl
  filter-alike true h (u ∷ us) ys = grind (arith, filter-alike true h us ys, h u)
  filter-alike false h (u ∷ us) ys = grind (arith, filter-alike false h us ys, h u)

  pub any-none : ((u : U) → test (f u) ≡ false) → (us : List U) (ys : List B) → list_any test (map f us ++ ys) ≡ list_any test ys
  any-none h [] ys = refl
  any-none h (u ∷ us) ys = grind (arith, any-none h us ys, h u)

  pub any-some : ((u : U) → test (f u) ≡ true) → (us : List U) (ys : List B) → 1 ≤ length us → list_any test (map f us ++ ys) ≡ true
  any-some h [] ys some = absurd (omega arith)
  any-some h (u ∷ us) ys some = grind (arith, h u)

  front-true : ((u : U) → test (f u) ≡ true) → (us : List U) (ys : List B) → is_run_at_front test (map f us ++ ys) ≡ is_run_at_front test ys
  front-true h [] ys = refl
  front-true h (u ∷ us) ys = grind (arith, front-true h us ys, h u)

  front-false : ((u : U) → test (f u) ≡ false) → (us : List U) (ys : List B) → 1 ≤ length us → is_run_at_front test (map f us ++ ys)
      ≡ not (list_any test ys)
  front-false h [] ys some = absurd (omega arith)
  front-false h (u ∷ us) ys some = grind (arith, any-none h us ys, h u)

  one-true : ((u : U) → test (f u) ≡ true) → (us : List U) (ys : List B) → 1 ≤ length us → is_one_run test (map f us ++ ys)
      ≡ is_run_at_front test ys
  one-true h [] ys some = absurd (omega arith)
  one-true h (u ∷ us) ys some = grind (arith, front-true h us ys, h u)

  one-false : ((u : U) → test (f u) ≡ false) → (us : List U) (ys : List B) → is_one_run test (map f us ++ ys) ≡ is_one_run test ys
  one-false h [] ys = refl
  one-false h (u ∷ us) ys = grind (arith, one-false h us ys, h u)

module _ {B U : Type 0} (is seen : B → Bool) (f : U → B) where
  pub rank-here : ((u : U) → is (f u) ≡ true) → (us : List U) (ys : List B) → 1 ≤ length us → rank is seen (map f us ++ ys) ≡ 0
  rank-here h [] ys some = absurd (omega arith)
  rank-here h (u ∷ us) ys some = grind (arith, h u)

  pub rank-seen : ((u : U) → is (f u) ≡ false) → ((u : U) → seen (f u) ≡ true) → (us : List U) (ys : List B)
      → rank is seen (map f us ++ ys) ≡ length us + rank is seen ys
  rank-seen h g [] ys = omega arith
  rank-seen h g (u ∷ us) ys =
      ap (λ b. cond b 0 (one_more_if (seen (f u)) (rank is seen (map f us ++ ys)))) (h u)
      ∙ ap (λ b. one_more_if b (rank is seen (map f us ++ ys))) (g u)
      ∙ omega (arith, rank-seen h g us ys)

  pub rank-unseen : ((u : U) → is (f u) ≡ false) → ((u : U) → seen (f u) ≡ false) → (us : List U) (ys : List B)
      → rank is seen (map f us ++ ys) ≡ rank is seen ys
  rank-unseen h g [] ys = refl
  rank-unseen h g (u ∷ us) ys = grind (arith, rank-unseen h g us ys, h u, g u)

module _ {B U : Type 0} (seen : B → Bool) (f : U → B) (new : List B) where
  one-less : (n p : ℕ) → suc n + p ≡ suc (n + p)
  one-less n p = omega arith

  put-seen : ((u : U) → seen (f u) ≡ true) → (us : List U) (p : ℕ) (ys : List B) → put seen no_run (length us + p) new (map f us ++ ys)
      ≡ map f us ++ put seen no_run p new ys
  put-seen h [] p ys = ap (λ n. put seen no_run n new ys) (omega arith)
  put-seen h (u ∷ us) p ys =
      ap (λ n. put seen no_run n new (f u ∷ (map f us ++ ys))) (one-less (length us) p)
      ∙ ap (λ b. f u ∷ put seen no_run (cond b (length us + p) (suc (length us + p))) new (map f us ++ ys)) (h u)
      ∙ ap (λ zs. f u ∷ zs) (put-seen h us p ys)

  put-unseen : ((u : U) → seen (f u) ≡ false) → (us : List U) (p : ℕ) (ys : List B) → 1 ≤ p → put seen no_run p new (map f us ++ ys)
      ≡ map f us ++ put seen no_run p new ys
  put-unseen h us zero ys some = absurd (omega arith)
  put-unseen h [] (suc p) ys some = refl
  put-unseen h (u ∷ us) (suc p) ys some =
      ap (λ b. f u ∷ put seen no_run (cond b p (suc p)) new (map f us ++ ys)) (h u)
      ∙ ap (λ zs. f u ∷ zs) (put-unseen h us (suc p) ys some)

-- ---- parts

module _ {A B U : Type 0} (sa : A → ElementStamps) (sb : B → ElementStamps) (us : A → List U) (f : A → U → B)
    (same : (x : A) (u : U) → sb (f x u) ≡ sa x) where
  -- the elements of the parts
  abbrev pub items : List A → List B
  items xs = flat_map (λ x. map (f x) (us x)) xs

  -- each part has an element
  abbrev pub Filled : List A → Type 0
  Filled xs = All (λ x. 1 ≤ length (us x)) xs

  -- how many elements are in the first q seen parts
  abbrev amount : (A → Bool) → ℕ → List A → ℕ
  amount seen q xs = sizes.amount (λ x. length (us x)) seen q xs

  -- it is the same among the seen ones alone
  amount-seen : (seen : A → Bool) (q : ℕ) (xs : List A) → amount seen q (filter seen xs) ≡ amount seen q xs
  amount-seen seen zero xs = refl
  amount-seen seen (suc q) [] = refl
  amount-seen seen (suc q) (x ∷ xs) = step (seen x) refl (amount-seen seen q xs) (amount-seen seen (suc q) xs)
    where
      step : (b : Bool) → seen x ≡ b → amount seen q (filter seen xs) ≡ amount seen q xs → amount seen (suc q) (filter seen xs)
          ≡ amount seen (suc q) xs
          → amount seen (suc q) (cond b (x ∷ filter seen xs) (filter seen xs))
          ≡ cond b (length (us x) + amount seen q xs) (amount seen (suc q) xs)
      step true e g h = ap (λ c. cond c (length (us x) + amount seen q (filter seen xs)) (amount seen (suc q) (filter seen xs))) e
          ∙ ap (λ n. length (us x) + n) g
      step false e g h = h

  amount-unseen : (seen : A → Bool) (q : ℕ) (x : A) (xs : List A) → seen x ≡ false → amount seen q (x ∷ xs) ≡ amount seen q xs
  amount-unseen seen zero x xs e = refl
  amount-unseen seen (suc q) x xs e = ap (λ c. cond c (length (us x) + amount seen q xs) (amount seen (suc q) xs)) e

  module _ (test : ElementStamps → Bool) where
    alike : (x : A) (b : Bool) → test (sa x) ≡ b → (u : U) → test (sb (f x u)) ≡ b
    alike x b e u = ap test (same x u) ∙ e

    pub filter-items : (xs : List A) → filter (λ e. test (sb e)) (items xs) ≡ items (filter (λ x. test (sa x)) xs)
    filter-items [] = refl
    filter-items (x ∷ xs) =
        filter-alike (λ e. test (sb e)) (f x) (test (sa x)) (alike x (test (sa x)) refl) (us x) (items xs)
        ∙ ap (λ ys. cond (test (sa x)) (map (f x) (us x)) [] ++ ys) (filter-items xs)
        ∙ step (test (sa x))
      where
        step : (b : Bool) → cond b (map (f x) (us x)) [] ++ items (filter (λ x. test (sa x)) xs)
            ≡ items (cond b (x ∷ filter (λ x. test (sa x)) xs) (filter (λ x. test (sa x)) xs))
        step true = refl
        step false = refl

    pub any-items : (xs : List A) → Filled xs → list_any (λ e. test (sb e)) (items xs) ≡ list_any (λ x. test (sa x)) xs
    any-items [] some = refl
    any-items (x ∷ xs) some = step (test (sa x)) refl (any-items xs (All-tail (λ x. 1 ≤ length (us x)) x xs some))
      where
        step : (b : Bool) → test (sa x) ≡ b → list_any (λ e. test (sb e)) (items xs) ≡ list_any (λ x. test (sa x)) xs
            → list_any (λ e. test (sb e)) (map (f x) (us x) ++ items xs) ≡ (b || list_any (λ x. test (sa x)) xs)
        step true e ih = any-some (λ e. test (sb e)) (f x) (alike x true e) (us x) (items xs) (All-head (λ x. 1 ≤ length (us x)) x xs some)
        step false e ih = any-none (λ e. test (sb e)) (f x) (alike x false e) (us x) (items xs) ∙ ih

    front-items : (xs : List A) → Filled xs → is_run_at_front (λ e. test (sb e)) (items xs) ≡ is_run_at_front (λ x. test (sa x)) xs
    front-items [] some = refl
    front-items (x ∷ xs) some = step (test (sa x)) refl (front-items xs (All-tail (λ x. 1 ≤ length (us x)) x xs some))
      where
        some' : Filled xs
        some' = All-tail (λ x. 1 ≤ length (us x)) x xs some

        step : (b : Bool) → test (sa x) ≡ b → is_run_at_front (λ e. test (sb e)) (items xs) ≡ is_run_at_front (λ x. test (sa x)) xs
            → is_run_at_front (λ e. test (sb e)) (map (f x) (us x) ++ items xs)
            ≡ cond b (is_run_at_front (λ x. test (sa x)) xs) (not (list_any (λ x. test (sa x)) xs))
        step true e ih = front-true (λ e. test (sb e)) (f x) (alike x true e) (us x) (items xs) ∙ ih
        step false e ih = front-false (λ e. test (sb e)) (f x) (alike x false e) (us x) (items xs)
            (All-head (λ x. 1 ≤ length (us x)) x xs some) ∙ ap not (any-items xs some')

    pub one_run-items : (xs : List A) → Filled xs → is_one_run (λ e. test (sb e)) (items xs) ≡ is_one_run (λ x. test (sa x)) xs
    one_run-items [] some = refl
    one_run-items (x ∷ xs) some = step (test (sa x)) refl (one_run-items xs (All-tail (λ x. 1 ≤ length (us x)) x xs some))
      where
        some' : Filled xs
        some' = All-tail (λ x. 1 ≤ length (us x)) x xs some

        step : (b : Bool) → test (sa x) ≡ b → is_one_run (λ e. test (sb e)) (items xs) ≡ is_one_run (λ x. test (sa x)) xs
            → is_one_run (λ e. test (sb e)) (map (f x) (us x) ++ items xs)
            ≡ cond b (is_run_at_front (λ x. test (sa x)) xs) (is_one_run (λ x. test (sa x)) xs)
        step true e ih = one-true (λ e. test (sb e)) (f x) (alike x true e) (us x) (items xs)
            (All-head (λ x. 1 ≤ length (us x)) x xs some) ∙ front-items xs some'
        step false e ih = one-false (λ e. test (sb e)) (f x) (alike x false e) (us x) (items xs) ∙ ih

  module _ (is seen : ElementStamps → Bool) where
    -- the rank among the elements
    pub rank-items : (xs : List A) → Filled xs → rank (λ e. is (sb e)) (λ e. seen (sb e)) (items xs)
        ≡ amount (λ x. seen (sa x)) (rank (λ x. is (sa x)) (λ x. seen (sa x)) xs) xs
    rank-items [] some = refl
    rank-items (x ∷ xs) some = step (is (sa x)) (seen (sa x)) refl refl (rank-items xs (All-tail (λ x. 1 ≤ length (us x)) x xs some))
      where
        rest : ℕ
        rest = rank (λ x. is (sa x)) (λ x. seen (sa x)) xs

        step : (a b : Bool) → is (sa x) ≡ a → seen (sa x) ≡ b
            → rank (λ e. is (sb e)) (λ e. seen (sb e)) (items xs) ≡ amount (λ x. seen (sa x))
            (rank (λ x. is (sa x)) (λ x. seen (sa x)) xs) xs
            → rank (λ e. is (sb e)) (λ e. seen (sb e)) (map (f x) (us x) ++ items xs)
            ≡ amount (λ x. seen (sa x)) (cond a 0 (one_more_if b (rank (λ x. is (sa x)) (λ x. seen (sa x)) xs))) (x ∷ xs)
        step true b e g ih = rank-here (λ e. is (sb e)) (λ e. seen (sb e)) (f x) (alike is x true e) (us x) (items xs)
            (All-head (λ x. 1 ≤ length (us x)) x xs some)
        step false true e g ih =
            rank-seen (λ e. is (sb e)) (λ e. seen (sb e)) (f x) (alike is x false e) (alike seen x true g) (us x) (items xs)
            ∙ ap (λ n. length (us x) + n) ih
            ∙ sym (ap (λ c. cond c (length (us x) + amount (λ x. seen (sa x)) rest xs) (amount (λ x. seen (sa x)) (suc rest) xs)) g)
        step false false e g ih =
            rank-unseen (λ e. is (sb e)) (λ e. seen (sb e)) (f x) (alike is x false e) (alike seen x false g) (us x) (items xs)
            ∙ ih ∙ sym (amount-unseen (λ x. seen (sa x)) rest x xs g)

  -- elements put in behind the first q seen parts are put in behind the elements of these
  module _ (seen : ElementStamps → Bool) where
    some-amount : (q : ℕ) (xs : List A) → Filled xs → suc q ≤ len (λ x. seen (sa x)) xs → 1 ≤ amount (λ x. seen (sa x)) (suc q) xs
    some-amount q [] some h = absurd (omega arith)
    some-amount q (x ∷ xs) some h = step (seen (sa x)) h (some-amount q xs (All-tail (λ x. 1 ≤ length (us x)) x xs some))
      where
        first : 1 ≤ length (us x)
        first = All-head (λ x. 1 ≤ length (us x)) x xs some

        step : (b : Bool) → suc q ≤ one_more_if b (len (λ x. seen (sa x)) xs)
            → (suc q ≤ len (λ x. seen (sa x)) xs → 1 ≤ amount (λ x. seen (sa x)) (suc q) xs)
            → 1 ≤ cond b (length (us x) + amount (λ x. seen (sa x)) q xs) (amount (λ x. seen (sa x)) (suc q) xs)
        step true h ih = omega (arith, first)
        step false h ih = ih h

    pub put-items : (q : ℕ) (new xs : List A) → Filled xs → q ≤ len (λ x. seen (sa x)) xs
        → put (λ e. seen (sb e)) no_run (amount (λ x. seen (sa x)) q xs) (items new) (items xs)
        ≡ items (put (λ x. seen (sa x)) no_run q new xs)
    put-items zero new xs some h =
        put_past-no_run (items new) (items xs) ∙ sym (flat_map-append (λ x. map (f x) (us x)) new xs)
        ∙ ap items (sym (put_past-no_run new xs))
    put-items (suc q) new [] some h = absurd (omega arith)
    put-items (suc q) new (x ∷ xs) some h =
        let tail = All-tail (λ x. 1 ≤ length (us x)) x xs some in
        step (seen (sa x)) refl h (put-items q new xs tail) (put-items (suc q) new xs tail) (some-amount q xs tail)
      where
        see : A → Bool
        see x = seen (sa x)

        step : (b : Bool) → seen (sa x) ≡ b → suc q ≤ one_more_if b (len (λ x. seen (sa x)) xs)
            → (q ≤ len (λ x. seen (sa x)) xs → put (λ e. seen (sb e)) no_run (amount (λ x. seen (sa x)) q xs) (items new) (items xs)
            ≡ items (put (λ x. seen (sa x)) no_run q new xs))
            → (suc q ≤ len (λ x. seen (sa x)) xs
            → put (λ e. seen (sb e)) no_run (amount (λ x. seen (sa x)) (suc q) xs) (items new) (items xs)
            ≡ items (put (λ x. seen (sa x)) no_run (suc q) new xs))
            → (suc q ≤ len (λ x. seen (sa x)) xs → 1 ≤ amount (λ x. seen (sa x)) (suc q) xs)
            → put (λ e. seen (sb e)) no_run (cond b (length (us x) + amount (λ x. seen (sa x)) q xs)
            (amount (λ x. seen (sa x)) (suc q) xs)) (items new) (map (f x) (us x) ++ items xs)
            ≡ map (f x) (us x) ++ items (put (λ x. seen (sa x)) no_run (cond b q (suc q)) new xs)
        step true e h first rest many =
            put-seen (λ e. seen (sb e)) (f x) (items new) (alike seen x true e) (us x) (amount (λ x. seen (sa x)) q xs) (items xs)
            ∙ ap (λ zs. map (f x) (us x) ++ zs) (first (omega arith))
        step false e h first rest many =
            put-unseen (λ e. seen (sb e)) (f x) (items new) (alike seen x false e) (us x) (amount (λ x. seen (sa x)) (suc q) xs)
            (items xs) (many h)
            ∙ ap (λ zs. map (f x) (us x) ++ zs) (rest h)

  -- ---- all stages

  filled-put : (test : A → Bool) (q : ℕ) (new xs : List A) → Filled new → Filled xs → Filled (put test no_run q new xs)
  filled-put test zero new xs g h = subst Filled (sym (put_past-no_run new xs)) (All-append (λ x. 1 ≤ length (us x)) new xs g h)
  filled-put test (suc q) new [] g h = g
  filled-put test (suc q) new (x ∷ xs) g h =
      All-cons (λ x. 1 ≤ length (us x)) x (put test no_run (cond (test x) q (suc q)) new xs) (All-head (λ x. 1 ≤ length (us x)) x xs h)
      (filled_by (test x) (filled-put test q new xs g (All-tail (λ x. 1 ≤ length (us x)) x xs h))
      (filled-put test (suc q) new xs g (All-tail (λ x. 1 ≤ length (us x)) x xs h)))
    where
      filled_by : (b : Bool) → Filled (put test no_run q new xs) → Filled (put test no_run (suc q) new xs)
          → Filled (put test no_run (cond b q (suc q)) new xs)
      filled_by true f g = f
      filled_by false f g = g

  pub filled-stages : (xs ys : List A) → Filled xs → Filled ys → (k : ℕ) → Filled (with_stages sa xs ys k)
  filled-stages xs ys g h zero = h
  filled-stages xs ys g h (suc k) =
      filled-put (seen_by sa k) (next_position sa k xs) (filter (inserted_by sa (suc k)) xs) (with_stages sa xs ys k)
      (All-filter (inserted_by sa (suc k)) (λ x. 1 ≤ length (us x)) xs g) (filled-stages xs ys g h k)

  -- parts whose elements stand side by side stand so
  pub side-items : (xs : List A) → Filled xs → StandSideBySide sb (items xs) → StandSideBySide sa xs
  side-items xs some side k =
      let wide : ElementStamps → Bool = λ s. seen_at s k || is_of_stage (suc k) s.ins in
      let is : ElementStamps → Bool = λ s. is_of_stage (suc k) s.ins in
      sym (one_run-items is (filter (λ x. wide (sa x)) xs) (All-filter (λ x. wide (sa x)) (λ x. 1 ≤ length (us x)) xs some))
      ∙ ap (is_one_run (λ e. is (sb e))) (sym (filter-items wide xs))
      ∙ side k

  -- the elements of the parts that are put in afresh are those of all that are put in afresh
  pub stages-items : (xs ys : List A) → Filled xs → Filled ys → StandSideBySide sa xs → filter (seen_by sa 0) ys ≡ filter (seen_by sa 0) xs
      → ((j : ℕ) → 0 < j → list_any (inserted_by sa j) ys ≡ false) → (k : ℕ) → items (with_stages sa xs ys k)
      ≡ with_stages sb (items xs) (items ys) k
  stages-items xs ys g h side base bare zero = refl
  stages-items xs ys g h side base bare (suc k) =
      let see : ElementStamps → Bool = λ s. seen_at s k in
      let is : ElementStamps → Bool = λ s. is_of_stage (suc k) s.ins in
      let now = with_stages sa xs ys k in
      let q = next_position sa k xs in
      let block = filter (inserted_by sa (suc k)) xs in
      let views : filter (seen_by sa k) now ≡ filter (seen_by sa k) xs = view-stages sa xs ys side base bare k in
      let many : q ≤ len (seen_by sa k) now =
      omega (
        arith,
        rank-len (inserted_by sa (suc k)) (seen_by sa k) xs,
        len-filter (seen_by sa k) xs,
        len-filter (seen_by sa k) now,
        ap
            length views,
      ) in
      let position : amount (seen_by sa k) q now ≡ next_position sb k (items xs) =
      sym (amount-seen (seen_by sa k) q now) ∙ ap (amount (seen_by sa k) q) views ∙ amount-seen (seen_by sa k) q xs
      ∙ sym (rank-items is see xs g) in
      sym (put-items see q block now (filled-stages xs ys g h k) many)
      ∙ ap (λ p. put (seen_by sb k) no_run p (items block) (items now)) position
      ∙ ap (λ es. put (seen_by sb k) no_run (next_position sb k (items xs)) es (items now)) (sym (filter-items is xs))
      ∙ ap (put (seen_by sb k) no_run (next_position sb k (items xs)) (filter (inserted_by sb (suc k)) (items xs)))
      (stages-items xs ys g h side base bare k)
