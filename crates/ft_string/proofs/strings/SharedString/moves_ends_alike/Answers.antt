use Rattle.std.proofs.Common.{rules, ◌≡◌, true, ◌∙◌, ap, subst, sym}
use Rattle.ft_changes.specs.Beside.{body_moves_ends_alike}
use Rattle.ft_msg.specs.declared.messages.Body.TheVariants.{Op}
use Rattle.ft_op.specs.declared.operations.ChannelOp.TheVariants.{Text}
use Rattle.ft_interval_store.specs.State.{is_interval_operation, text_elements}
use Rattle.ft_named.proofs.Bares.{from-bare}
use Rattle.ft_named.proofs.Changed.{beside-all, is_up_to}
use Rattle.ft_string.specs.Bare.{text_content}
use Rattle.ft_string.specs.Holds.{HoldsText}
use Rattle.ft_string.proofs.AlikeNeighbours.{intervals-alike, passes-alike}
use Rattle.ft_string.proofs.Standing.{sound-up_to}
use Rattle.ft_string.proofs.strings.SharedString.moves_ends_alike.Goals as goal

pub returns-in-One : goal.returns-in-One
returns-in-One c last doc stages sound holds said =
    let here = subst (λ s. HoldsText s doc stages) (sym c.self.view_is) holds in
    ap (λ o. body_moves_ends_alike doc c.args.at.c c.args.at.r (Op (Text o))) c.in-One.is
    ∙ sym (passes-alike last c.args.at c.in-One.op doc (beside-all (is_up_to last) (sound-up_to last doc stages sound)
    (from-bare text_content (text_elements c.self.inside.tree) doc.text.items here.elements)))
    ∙ c.passes_beside.ensures said

pub returns-in-IntervalAdd : goal.returns-in-IntervalAdd
returns-in-IntervalAdd c last doc stages sound holds said =
    let kind : is_interval_operation c.args.op.now ≡ true = search rules in
    intervals-alike doc c.args.at.c c.args.at.r c.args.op.now kind
