-- Ends as numbers among the elements that a stage sees, as the tree answers them.
use Rattle.std.specs.Prelude.{◌≡◌, ℕ, cond, nat_le, List, Option, Some, None, option_map, min, ℤ, pos, negsuc}
use Rattle.ft_block.specs.declared.leaves.LenView.TheVariants.{Stage}
use Rattle.ft_tree_leaves.specs.Elements.{TreeElement, seen_in}
use Rattle.ft_tree_leaves.specs.Places.{seen_before}
use Rattle.ft_interval_store.specs.declared.intervals.EndPair.{EndPair}
use Rattle.ft_interval_store.specs.Shown.{settled_end}

-- the number, if it isn't above m
abbrev pub until : ℕ → Option ℕ → Option ℕ
until m None = None
until m (Some k) = cond (nat_le k m) (Some k) None

-- a number of an end, -1 where there is none; no list is so long that its numbers don't fit
abbrev pub number_or_none : Option ℕ → ℤ
number_or_none None = negsuc 0
number_or_none (Some p) = pos (min p 9223372036854775807)

module _ {U : Type 0} (xs : List (TreeElement U)) where
  -- how many elements stage k sees before a place
  abbrev pub number_of : ℕ → Option ℕ → Option ℕ
  number_of k end = option_map (seen_before (seen_in (Stage k)) xs) end

  -- a place that stage k sees, or none, with its number
  pub record IsNumber (k : ℕ) (end number : Option ℕ) : Type 0 where
    pub seen : settled_end xs k end ≡ end
    pub is : number ≡ number_of k end

  -- the same of both ends
  pub record AreNumbers (k : ℕ) (ends numbers : EndPair ℕ) : Type 0 where
    pub start : IsNumber k ends.start numbers.start
    pub end : IsNumber k ends.end numbers.end
