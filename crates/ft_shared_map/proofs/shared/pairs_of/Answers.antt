use Rattle.std.proofs.Common.{◌≡◌, ◌++◌, [], drop, sym, ◌∙◌, ap, append-nil}
use Rattle.std.proofs.Math.ListN.{drop_of_length-le}
use Rattle.ft_shared_map.specs.Maps.{FiniteMap, pairs_of}
use Rattle.ft_shared_map.proofs.MapLaws.{rising-pairs}
use Rattle.ft_shared_map.proofs.shared.pairs_of.Goals as goal

pub returns-clause-shown : goal.returns-clause-shown
returns-clause-shown c =
    let items = c.as_slice-key-items.result.now in
    let pairs = c.loop-key.pairs.items in
    let done : drop c.loop-key.key-index items ≡ [] = drop_of_length-le items c.loop-key-test.false in
    sym (append-nil pairs) ∙ ap (λ (m : FiniteMap). pairs ++ pairs_of m) (sym done) ∙ c.loop-key.invariant ∙ ap pairs_of c.as_slice-key-items.ensures.value

pub returns-clause-rising : goal.returns-clause-rising
returns-clause-rising c = rising-pairs c.args.map.now c.loop-key.pairs.items (returns-clause-shown c) c.as_slice-key-items.ensures.rising
