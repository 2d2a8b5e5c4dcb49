use Rattle.std.proofs.Common.{◌≡◌, ◌<◌, SFits, w64, ap, subst, sym, ◌∙◌, true, rules}
use Rattle.std.proofs.lemmas.Int.{to_z-of_z}
use Rattle.ft_base.specs.Scan.{len}
use Rattle.ft_op.specs.Document.{given_ends_fit}
use Rattle.ft_tree_leaves.specs.Elements.{seen_in}
use Rattle.ft_interval_store.specs.State.{text_elements}
use Rattle.ft_interval_store.proofs.FittingEnds.{end-fits, start-fits}
use Rattle.ft_interval_store.proofs.ends.add_ends.Goals as goal

pub add_end-requires-clause-there : goal.add_end-requires-clause-there
add_end-requires-clause-there c = λ p at.
    let count = len (seen_in c.args.view) (text_elements c.args.tree.now) in
    let fits : SFits w64 c.in-Some.ends.start = search rules in
    start-fits count c.in-Some.ends.start c.in-Some.ends.end p (subst (λ g. given_ends_fit count g ≡ true) c.in-Some.is c.requires.fit)
    (sym (to_z-of_z w64 c.in-Some.ends.start fits) ∙ at)

pub add_end-requires-2-clause-there : goal.add_end-requires-2-clause-there
add_end-requires-2-clause-there c = λ p at.
    let seen = seen_in c.args.view in
    let count = len seen (text_elements c.args.tree.now) in
    let fits : SFits w64 c.in-Some.ends.end = search rules in
    subst (λ xs. p < len seen xs) (sym (ap text_elements c.in_ok-add_end.ensures.rest))
    (end-fits count c.in-Some.ends.start c.in-Some.ends.end p (subst (λ g. given_ends_fit count g ≡ true) c.in-Some.is c.requires.fit)
    (sym (to_z-of_z w64 c.in-Some.ends.end fits) ∙ at))
