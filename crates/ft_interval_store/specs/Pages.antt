-- Lists on pages.
use Rattle.std.specs.Prelude.{◌≡◌, ℕ, zero, suc, ◌+◌, ◌<◌, ◌≤◌, List, [], ◌∷◌, All, flat_map, length, get_or}
use Rattle.std.specs.Global.{Vec}
use Rattle.ft_interval_store.specs.declared.pages.PagePlace.{PagePlace}

module _ {T : Type 0} where
  -- the list
  abbrev pub from_pages : List (Vec T) → List T
  from_pages ps = flat_map (λ p. p.items) ps

  -- no page is empty
  abbrev pub AreFilled : List (Vec T) → Type 0
  AreFilled ps = All (λ p. 0 < length p.items) ps

  -- how many elements stand before the page of that place
  abbrev pub count_before : ℕ → List (Vec T) → ℕ
  count_before zero ps = 0
  count_before (suc k) [] = 0
  count_before (suc k) (p ∷ ps) = length p.items + count_before k ps

  -- the element at that place of the list stands there
  pub record IsPagePlace (place : ℕ) (ps : List (Vec T)) (s : PagePlace) : Type 0 where
    pub page : s.page < length ps
    pub offset : (d : Vec T) → s.offset < length (get_or ps s.page d).items
    pub sum : count_before s.page ps + s.offset ≡ place

  -- so many elements of the list stand before that gap between elements of a page
  pub record IsPageGap (place : ℕ) (ps : List (Vec T)) (s : PagePlace) : Type 0 where
    pub page : s.page < length ps
    pub offset : (d : Vec T) → s.offset ≤ length (get_or ps s.page d).items
    pub sum : count_before s.page ps + s.offset ≡ place

  -- no page is empty, and so many elements are in all of them
  pub record ArePages (ps : List (Vec T)) (n : ℕ) : Type 0 where
    pub filled : AreFilled ps
    pub count : n ≡ length (from_pages ps)
