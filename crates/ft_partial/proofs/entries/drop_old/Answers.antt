use Rattle.std.proofs.Common.{rules, ◌∙◌}
use Rattle.std.proofs.lemmas.Fn.{filter_same}
use Rattle.ft_partial.proofs.EntryLemmas.{is_above, drops_old}
use Rattle.ft_partial.proofs.entries.drop_old.Goals as goal

pub returns : goal.returns
returns c =
    drops_old c.args.entries.now.items _ c.args.floor c.requires
    (c.shrink_to.ensures.items ∙ filter_same _ (is_above c.args.floor) _ (λ x b f' k. search rules) c.args.entries.now.items _ c.retain.ensures.filtered)
