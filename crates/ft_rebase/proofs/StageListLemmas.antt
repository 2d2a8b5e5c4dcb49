-- The views of a list whose pending insertions are put in afresh, and how one stage after another is moved there.
use Rattle.std.proofs.Common.{◌≡◌, ◌≢◌, ℕ, zero, suc, ◌<◌, Bool, true, false, cond, not, ◌&&◌, ◌||◌, List, [], ◌∷◌, ◌++◌, refl, sym, ◌∙◌, ap, arith, filter}
use Rattle.std.specs.List.{list_all, list_any}
use Rattle.std.proofs.lemmas.Bool.Decides.{nat_tests}
use Rattle.ft_base.specs.declared.stamps.Stamp.{Stamp}
use Rattle.ft_base.specs.declared.stamps.Stamp.TheVariants.{Acked, Local}
use Rattle.ft_base.specs.declared.elements.Element.{Element as ElementStamps}
use Rattle.ft_base.proofs.ScanLaws.{put_past-no_run}
use Rattle.ft_base.specs.Scan.{no_run, put, rank}
use Rattle.ft_base.specs.Visibility.{has_occurred_at_stage, is_of_stage}
use Rattle.ft_props.proofs.RebuiltList.{any-filter, any-more, any-put, filter-all, filter-append, filter-or, filter-twice, has_occurred_at_stage-next, or_left, or_right, put-filter}
use Rattle.ft_rebase.specs.Moves.{moved_stage}
use Rattle.ft_rebase.specs.StageLists.{StandSideBySide, inserted_by, inserted_up_to, is_one_run, is_run_at_front, next_position, seen_by, seen_or_next, with_stages}

-- ---- a run among seen elements is put in after those that stand left of it

module _ {A : Type 0} (is test : A → Bool) where
  -- it passes just one of the two tests
  abbrev pub either_one : A → Bool
  either_one x = cond (is x) (not (test x)) (test x)

  all-seen : (xs : List A) → list_all either_one xs ≡ true → list_any is xs ≡ false → filter test xs ≡ xs
  all-seen [] h g = refl
  all-seen (x ∷ xs) h g = grind (arith, all-seen xs)

  pub none-is : (xs : List A) → list_any is xs ≡ false → filter is xs ≡ []
  none-is [] h = refl
  none-is (x ∷ xs) h = grind (arith, none-is xs)

  pub none-filtered : (xs : List A) → filter is xs ≡ [] → list_any is xs ≡ false
  none-filtered [] h = refl
  none-filtered (x ∷ xs) h = grind (arith, none-filtered xs)

  run-split : (xs : List A) → list_all either_one xs ≡ true → is_run_at_front is xs ≡ true → filter is xs ++ filter test xs ≡ xs
  run-split [] h g = refl
  run-split (x ∷ xs) h g = grind (arith, run-split xs, all-seen xs, none-is xs)

  pub one_run-put : (xs : List A) → list_all either_one xs ≡ true → is_one_run is xs ≡ true
      → put test no_run (rank is test xs) (filter is xs) (filter test xs) ≡ xs
  one_run-put [] h g = refl
  one_run-put (x ∷ xs) h g = grind (arith, one_run-put xs, run-split xs, put_past-no_run (filter is (x ∷ xs)) (filter test xs))

  -- elements that pass neither test may be left out
  pub rank-filter : (wide : A → Bool) → ((x : A) → wide x ≡ false → is x ≡ false) → ((x : A) → wide x ≡ false → test x ≡ false)
      → (xs : List A)
      → rank is test (filter wide xs) ≡ rank is test xs
  rank-filter wide h g [] = refl
  rank-filter wide h g (x ∷ xs) = grind (arith, rank-filter wide h g xs, h x, g x)

-- two tests that agree
pub filter-same : {A : Type 0} (f g : A → Bool) → ((x : A) → f x ≡ g x) → (xs : List A) → filter f xs ≡ filter g xs
filter-same f g h [] = refl
filter-same f g h (x ∷ xs) = grind (arith, filter-same f g h xs, h x)

-- a test that passes none of the new elements
pub filter-put_none : {A : Type 0} (is test : A → Bool) (p : ℕ) (new xs : List A) → list_any is new ≡ false
    → filter is (put test no_run p new xs) ≡ filter is xs
filter-put_none is test zero new xs h = ap (filter is) (put_past-no_run new xs) ∙ filter-append is new xs
    ∙ ap (λ us. us ++ filter is xs) (none-is is test new h)
filter-put_none is test (suc p) new [] h = none-is is test new h
filter-put_none is test (suc p) new (x ∷ xs) h = grind (arith, filter-put_none is test p new xs, filter-put_none is test (suc p) new xs)

-- nothing put in
pub put-nothing : {A : Type 0} (test : A → Bool) (p : ℕ) (xs : List A) → put test no_run p [] xs ≡ xs
put-nothing test zero xs = put_past-no_run [] xs
put-nothing test (suc p) [] = refl
put-nothing test (suc p) (x ∷ xs) = grind (arith, put-nothing test p xs, put-nothing test (suc p) xs)

-- ---- stamps and stages

module _ (k : ℕ) where
  up_to-next : (t : Stamp) → (has_occurred_at_stage (suc k) t && not (is_of_stage (suc k) t)) ≡ has_occurred_at_stage k t
  up_to-next (Acked s c) = refl
  up_to-next (Local j) = grind (arith, nat_tests)

  up_to-either : (t : Stamp) → has_occurred_at_stage (suc k) t ≡ (has_occurred_at_stage k t || is_of_stage (suc k) t)
  up_to-either (Acked s c) = refl
  up_to-either (Local j) = grind (arith, nat_tests)

  is-up_to : (t : Stamp) → is_of_stage (suc k) t ≡ true → has_occurred_at_stage (suc k) t ≡ true
  is-up_to (Acked s c) h = cc
  is-up_to (Local j) h = grind (arith, nat_tests)

  not-yet : (t : Stamp) → is_of_stage (suc k) t ≡ true → has_occurred_at_stage k t ≡ false
  not-yet (Acked s c) h = cc
  not-yet (Local j) h = grind (arith, nat_tests)

  up_to-more : (t : Stamp) → has_occurred_at_stage k t ≡ true → has_occurred_at_stage (suc k) t ≡ true
  up_to-more (Acked s c) h = refl
  up_to-more (Local j) h = grind (arith, nat_tests)

other-stage : (j k : ℕ) (t : Stamp) → k ≢ j → is_of_stage k t ≡ true → is_of_stage j t ≡ false
other-stage j k (Acked s c) d h = cc
other-stage j k (Local i) d h = grind (arith, nat_tests)

-- ---- the views

module _ {A : Type 0} (stamps : A → ElementStamps) where
  narrow : (k : ℕ) (x : A) → seen_or_next stamps k x ≡ false → seen_by stamps (suc k) x ≡ false
  narrow k x h = grind (arith, has_occurred_at_stage-next k (stamps x).ins, any-more k (stamps x).dels)

  pub unseen : (k : ℕ) (x : A) → inserted_by stamps (suc k) x ≡ true → seen_by stamps k x ≡ false
  unseen k x h = ap (λ b. b && not (list_any (has_occurred_at_stage k) (stamps x).dels)) (not-yet k (stamps x).ins h)

  none-of : (k : ℕ) (x : A) → seen_by stamps k x ≡ true → inserted_by stamps (suc k) x ≡ false
  none-of k x h = grind (arith, unseen k x)

  apart : (k : ℕ) (xs : List A) → list_all (either_one (inserted_by stamps (suc k)) (seen_by stamps k))
      (filter (seen_or_next stamps k) xs) ≡ true
  apart k [] = refl
  apart k (x ∷ xs) = grind (arith, apart k xs, unseen k x, none-of k x)

  module _ (xs ys : List A) (side : StandSideBySide stamps xs) where
    -- the view of a stage is the one before it with the elements of the stage put in
    pub placed : (k : ℕ) → filter (seen_or_next stamps k) xs
        ≡ put (seen_by stamps k) no_run (next_position stamps k xs) (filter (inserted_by stamps (suc k)) xs) (filter (seen_by stamps k) xs)
    placed k =
        let is = inserted_by stamps (suc k) in
        let see = seen_by stamps k in
        let wide = seen_or_next stamps k in
        let left : (x : A) → wide x ≡ false → see x ≡ false = λ x h. or_left (see x) (is x) h in
        let right : (x : A) → wide x ≡ false → is x ≡ false = λ x h. or_second (see x) (is x) h in
        sym (one_run-put is see (filter wide xs) (apart k xs) (side k))
        ∙ ap (λ p. put see no_run p (filter is (filter wide xs)) (filter see (filter wide xs))) (rank-filter is see wide right left xs)
        ∙ ap (λ us. put see no_run (next_position stamps k xs) us (filter see (filter wide xs))) (filter-twice is wide right xs)
        ∙ ap (put see no_run (next_position stamps k xs) (filter is xs)) (filter-twice see wide left xs)
      where
        or_second : (a b : Bool) → (a || b) ≡ false → b ≡ false
        or_second true b h = absurd cc
        or_second false b h = h

    module _ (base : filter (seen_by stamps 0) ys ≡ filter (seen_by stamps 0) xs)
        (bare : (j : ℕ) → 0 < j → list_any (inserted_by stamps j) ys ≡ false) where
      -- nothing of a later stage is in the list yet
      pub later : (k j : ℕ) → k < j → list_any (inserted_by stamps j) (with_stages stamps xs ys k) ≡ false
      later zero j h = bare j h
      later (suc k) j h =
          any-put (inserted_by stamps j) (seen_by stamps k) (next_position stamps k xs) (filter (inserted_by stamps (suc k)) xs)
          (with_stages stamps xs ys k)
          (any-filter (inserted_by stamps j) (inserted_by stamps (suc k)) (λ x e. other-stage j (suc k) (stamps x).ins (omega arith) e)
          xs) (later k j (omega arith))

      -- what is seen at each stage is the same before and after
      pub view-stages : (k : ℕ) → filter (seen_by stamps k) (with_stages stamps xs ys k) ≡ filter (seen_by stamps k) xs
      view-stages zero = base
      view-stages (suc k) =
          let is = inserted_by stamps (suc k) in
          let see = seen_by stamps k in
          let wide = seen_or_next stamps k in
          let block = filter is xs in
          let p = next_position stamps k xs in
          let before = with_stages stamps xs ys k in
          sym (filter-twice (seen_by stamps (suc k)) wide (narrow k) (put see no_run p block before))
          ∙ ap (filter (seen_by stamps (suc k)))
          (put-filter wide see (λ x h. or_left (see x) (is x) h) p block before
          ∙ ap (λ us. put see no_run p us (filter wide before)) (filter-all wide is (λ x h. or_right (see x) (is x) h) xs)
          ∙ ap (put see no_run p block) (filter-or see is before (later k (suc k) (omega arith)) ∙ view-stages k)
          ∙ sym (placed k))
          ∙ filter-twice (seen_by stamps (suc k)) wide (narrow k) xs

  -- ---- in place: the elements of one stage are taken out and put in behind q seen ones

  -- the elements up to stage k stand as the stages up to k were put in; those of later stages are as before, wherever they stand
  pub record MovedUpTo (xs ys now : List A) (k : ℕ) : Type 0 where
    pub stages : filter (inserted_up_to stamps k) now ≡ with_stages stamps xs ys k
    pub later : (j : ℕ) → k < j → filter (inserted_by stamps j) now ≡ filter (inserted_by stamps j) xs

  up_to-unseen : (k : ℕ) (x : A) → inserted_up_to stamps (suc k) x ≡ false → seen_by stamps k x ≡ false
  up_to-unseen k x h = grind (arith, up_to-more k (stamps x).ins)

  both-filters : (f g : A → Bool) (xs : List A) → filter f (filter g xs) ≡ filter (λ x. f x && g x) xs
  both-filters f g [] = refl
  both-filters f g (x ∷ xs) = grind (arith, both-filters f g xs)

  pub moves_next : (xs ys old now : List A) (k : ℕ) → MovedUpTo xs ys old k → now ≡ moved_stage stamps k (next_position stamps k xs) old
      → MovedUpTo xs ys now (suc k)
  moves_next xs ys old now k m e =
      let is = inserted_by stamps (suc k) in
      let see = seen_by stamps k in
      let low = inserted_up_to stamps (suc k) in
      let block = filter is old in
      let others = filter (λ x. not (is x)) old in
      let q = next_position stamps k xs in
      let same : block ≡ filter is xs = m.later (suc k) (omega arith) in
      let rest : filter low others ≡ filter (inserted_up_to stamps k) old =
      both-filters low (λ x. not (is x)) old ∙ filter-same (λ x. low x && not (is x)) (inserted_up_to stamps k)
      (λ x. up_to-next k (stamps x).ins) old in
      record {
        stages =
            ap (filter low) e
            ∙ put-filter low see (up_to-unseen k) q block others
            ∙ ap (λ us. put see no_run q us (filter low others)) (filter-all low is (λ x h. is-up_to k (stamps x).ins h) old ∙ same)
            ∙ ap (put see no_run q (filter is xs)) (rest ∙ m.stages);
        later = λ j h.
            let other : (x : A) → is x ≡ true → inserted_by stamps j x ≡ false = λ x g. other-stage j (suc k) (stamps x).ins
            (omega arith) g in
            ap (filter (inserted_by stamps j)) e
            ∙ filter-put_none (inserted_by stamps j) see q block others (any-filter (inserted_by stamps j) is other old)
            ∙ filter-twice (inserted_by stamps j) (λ x. not (is x)) (λ x g. other x (unnot (is x) g)) old
            ∙ m.later j (omega arith);
      }
    where
      unnot : (b : Bool) → not b ≡ false → b ≡ true
      unnot true h = refl
      unnot false h = cc

  -- a stage of which there is nothing
  pub moves_none : (xs ys now : List A) (k : ℕ) → MovedUpTo xs ys now k → list_any (inserted_by stamps (suc k)) xs ≡ false
      → MovedUpTo xs ys now (suc k)
  moves_none xs ys now k m none =
      let is = inserted_by stamps (suc k) in
      let gone : filter is now ≡ [] = m.later (suc k) (omega arith) ∙ none-is is is xs none in
      record {
        stages =
            filter-same (inserted_up_to stamps (suc k)) (λ x. inserted_up_to stamps k x || is x) (λ x. up_to-either k (stamps x).ins) now
            ∙ filter-or (inserted_up_to stamps k) is now (none-filtered is is now gone)
            ∙ m.stages
            ∙ sym (ap (λ us. put (seen_by stamps k) no_run (next_position stamps k xs) us (with_stages stamps xs ys k))
            (none-is is is xs none)
            ∙ put-nothing (seen_by stamps k) (next_position stamps k xs) (with_stages stamps xs ys k));
        later = λ j h. m.later j (omega arith);
      }

-- ---- from first to last

pub filter-whole : {A : Type 0} (test : A → Bool) (xs : List A) → list_all test xs ≡ true → filter test xs ≡ xs
filter-whole test [] h = refl
filter-whole test (x ∷ xs) h = grind (arith, filter-whole test xs)

module _ {A : Type 0} (stamps : A → ElementStamps) (xs : List A) where
  pub none-later : (j : ℕ) → 0 < j → list_any (inserted_by stamps j) (filter (inserted_up_to stamps 0) xs) ≡ false
  none-later j h = any-filter (inserted_by stamps j) (inserted_up_to stamps 0) (λ x g. zero-other j (stamps x).ins h g) xs
    where
      zero-other : (j : ℕ) (t : Stamp) → 0 < j → has_occurred_at_stage 0 t ≡ true → is_of_stage j t ≡ false
      zero-other j (Acked s c) h g = refl
      zero-other j (Local i) h g = grind (arith, nat_tests)

  -- after the stages up to k the view of stage k is that of before
  pub view-moved : (now : List A) (k : ℕ) → StandSideBySide stamps xs → MovedUpTo stamps xs (filter (inserted_up_to stamps 0) xs) now k
      → filter (seen_by stamps k) now ≡ filter (seen_by stamps k) xs
  view-moved now k side m =
      let ys = filter (inserted_up_to stamps 0) xs in
      sym (filter-twice (seen_by stamps k) (inserted_up_to stamps k) (λ x h. hidden (inserted_up_to stamps k x) _ h) now)
      ∙ ap (filter (seen_by stamps k)) m.stages
      ∙ view-stages stamps xs ys side (filter-twice (seen_by stamps 0) (inserted_up_to stamps 0)
      (λ x h. hidden (inserted_up_to stamps 0 x) _ h) xs) none-later k
    where
      hidden : (a b : Bool) → a ≡ false → (a && b) ≡ false
      hidden true b h = cc
      hidden false b h = refl

  -- after the last stage all stand there
  pub moved_all : (now : List A) (k : ℕ) → MovedUpTo stamps xs (filter (inserted_up_to stamps 0) xs) now k
      → list_all (inserted_up_to stamps k) now ≡ true
      → now ≡ with_stages stamps xs (filter (inserted_up_to stamps 0) xs) k
  moved_all now k m all = sym (filter-whole (inserted_up_to stamps k) now all) ∙ m.stages
