use Rattle.std.proofs.Common.{◌≡◌}
use Rattle.ft_interval_store.specs.Pages.{count_before}
use Rattle.ft_interval_store.proofs.pages.count_before.Given as goal

abbrev pub invariant-loop-k : goal.invariant-loop-k
invariant-loop-k g l = l.count ≡ count_before l.k l.pages
