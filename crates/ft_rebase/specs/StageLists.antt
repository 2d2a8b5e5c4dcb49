-- Lists in which the elements of each pending insertion are put in afresh, stage by stage. The elements of a tree and its
-- leaves are such lists: of each a definition needs only its stamps.
use Rattle.std.specs.Prelude.{◌≡◌, ℕ, ◌<◌, zero, suc, Bool, true, false, cond, not, ◌||◌, List, [], ◌∷◌, filter}
use Rattle.std.specs.List.{list_any}
use Rattle.ft_base.specs.declared.elements.Element.{Element as ElementStamps}
use Rattle.ft_base.specs.Scan.{no_run, put, rank}
use Rattle.ft_base.specs.Visibility.{has_occurred_at_stage, is_acked, is_of_stage, seen_at}

module _ {A : Type 0} (is : A → Bool) where
  -- elements that pass at the front, and none behind them
  abbrev pub is_run_at_front : List A → Bool
  is_run_at_front [] = true
  is_run_at_front (x ∷ xs) = cond (is x) (is_run_at_front xs) (not (list_any is xs))

  -- the elements that pass stand side by side
  abbrev pub is_one_run : List A → Bool
  is_one_run [] = true
  is_one_run (x ∷ xs) = cond (is x) (is_run_at_front xs) (is_one_run xs)

module _ {A : Type 0} (stamps : A → ElementStamps) where
  -- whether stage k inserted the element
  abbrev pub inserted_by : ℕ → A → Bool
  inserted_by k x = is_of_stage k (stamps x).ins

  -- whether the element is seen at stage k
  abbrev pub seen_by : ℕ → A → Bool
  seen_by k x = seen_at (stamps x) k

  -- whether its insertion is sequenced
  abbrev pub sequenced : A → Bool
  sequenced x = is_acked (stamps x).ins

  -- whether its insertion is sequenced or of a stage up to k
  abbrev pub inserted_up_to : ℕ → A → Bool
  inserted_up_to k x = has_occurred_at_stage k (stamps x).ins

  -- whether it is seen at stage k, or inserted by the next one
  abbrev pub seen_or_next : ℕ → A → Bool
  seen_or_next k x = seen_by k x || inserted_by (suc k) x

  -- the elements of each pending insertion stand side by side in its view, which has them and those that the stage before sees
  abbrev pub StandSideBySide : List A → Type 0
  StandSideBySide xs = (k : ℕ) → is_one_run (inserted_by (suc k)) (filter (seen_or_next k) xs) ≡ true

  -- how many elements seen at stage k stand left of the first one of the next stage
  abbrev pub next_position : ℕ → List A → ℕ
  next_position k xs = rank (inserted_by (suc k)) (seen_by k) xs

  -- the elements of xs of the stages 1 to k, put into ys one stage after another: each behind as many elements that the
  -- stage before sees as stand left of them in xs
  abbrev pub with_stages : List A → List A → ℕ → List A
  with_stages xs ys zero = ys
  with_stages xs ys (suc k) = put (seen_by k) no_run (next_position k xs) (filter (inserted_by (suc k)) xs) (with_stages xs ys k)

  -- each pending insertion is of a stage from 1 to last
  pub record StagesUpTo (last : ℕ) (xs : List A) : Type 0 where
    pub first : list_any (inserted_by 0) xs ≡ false
    pub above : (k : ℕ) → last < k → list_any (inserted_by k) xs ≡ false
