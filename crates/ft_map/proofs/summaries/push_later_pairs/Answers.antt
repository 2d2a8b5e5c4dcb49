-- A comma and a pair come behind those that are done.
use Rattle.std.proofs.Common.{◌+◌, ◌++◌, ◌∷◌, drop, string_bytes, sym, ◌∙◌, ap, subst, arith}
use Rattle.std.specs.List.{AllByRecursion}
use Rattle.std.proofs.lemmas.List.{drop_more}
use Rattle.ft_map.specs.MapWorlds.{IsWritable}
use Rattle.ft_map.proofs.CanonicalSummary.{later-added}
use Rattle.ft_map.proofs.summaries.push_later_pairs.Goals as goal

pub loop-pair-preserved : goal.loop-pair-preserved
loop-pair-preserved c =
    let pairs = c.args.pairs.now in
    let i = c.loop-pair.pair-index in
    let pair = c.pair-item.result in
    let before = string_bytes c.loop-pair.text in
    let rest = drop_more pairs i pair c.loop-pair-test.true ∙ ap (λ p. p ∷ drop (i + 1) pairs) (sym c.pair-item.is) in
    record {
      text = later-added (drop i pairs) (drop (i + 1) pairs) pair before _ _ _ rest c.loop-pair.invariant.text
          (c.in_ok-push.ensures.bytes ∙ ap (λ b. before ++ b) (c.in_ok-push.ensures.ascii (omega arith))) c.in_ok-push_pair.ensures.text;
      writable = λ later. c.loop-pair.invariant.writable (subst (AllByRecursion IsWritable) (sym rest) (c.in_ok-push_pair.ensures.writable, later));
    }
