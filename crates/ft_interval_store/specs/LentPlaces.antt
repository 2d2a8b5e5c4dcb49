-- What a list on pages ends as, where a `&mut` to an element is returned.
use Rattle.std.specs.Prelude.{ℕ, List, slice_set}
use Rattle.std.specs.Borrow.{Lends, Fml, RattleType, MutBor}
use Rattle.ft_interval_store.specs.contracts.pages.Pages as pages

-- the place has the last value written
abbrev pub lends_place : (T : RattleType) → MutBor (List T.Denot) → ℕ → MutBor T.Denot → Fml
lends_place T s place r = Lends (pages.the_row T) T s r (slice_set s.now place)
