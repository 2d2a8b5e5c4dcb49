use Rattle.std.proofs.Common.{◌∙◌, ◌++◌, IsTrue, ap, flat_map, option_to_list, subst, sym}
use Rattle.ft_tree_leaves.specs.TextLeaves.{text_units}
use Rattle.ft_msg.specs.Summary.{segment_bodies}
use Rattle.ft_string.proofs.Appended.{with-last, without-last}
use Rattle.ft_string.proofs.summaries.append.Goals as goal

pub append_content-requires : goal.append_content-requires
append_content-requires c = subst (λ b. IsTrue b) (sym c.in_ok-append_contents.ensures.rest.usable) c.requires

pub returns-in-Some : goal.returns-in-Some
returns-in-Some c =
    let before = c.in_ok-before.field-0.before.items in
    with-last c.append_content.result c.args.seg.now (segment_bodies c.args.seg.now.body) before c.in-Some.content c.args.tree.now
    c.append_contents.new.tree c.append_content.new.tree
    (ap (λ o. flat_map text_units (before ++ option_to_list o)) (sym c.in-Some.is) ∙ c.in_ok-before.ensures) c.in_ok-append_contents.ensures c.append_content.ensures

pub returns-in-None : goal.returns-in-None
returns-in-None c =
    let before = c.in_ok-before.field-0.before.items in
    without-last c.args.seg.now (segment_bodies c.args.seg.now.body) before c.args.tree.now c.append_contents.new.tree
    (ap (λ o. flat_map text_units (before ++ option_to_list o)) (sym c.in-None.is) ∙ c.in_ok-before.ensures) c.in_ok-append_contents.ensures
