use Rattle.std.proofs.Common.{List, ap, subst, sym, rules}
use Rattle.ft_string.specs.State.{TextState}
use Rattle.ft_tests_string.specs.declared.sharing.Span.{Span}
use Rattle.ft_tests_string.specs.Sharing.{Plays}
use Rattle.ft_tests_string.proofs.SharingLaws.{begins-shared}
use Rattle.ft_tests_string.proofs.shared.play_shared.Goals as goal

pub play_all-requires : goal.play_all-requires
play_all-requires c =
    let made = c.new-text.ensures.value in
    subst (λ (qs : List Span). Plays c.new-text.result 1 1 qs) (sym c.new-spans.ensures.items)
    (begins-shared c.new-text.result c.new-text.ensures.holds (ap (λ (s : TextState). s.given) made) (ap (λ (s : TextState). s.floor) made) (search rules))
