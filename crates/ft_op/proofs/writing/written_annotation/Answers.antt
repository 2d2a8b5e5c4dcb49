use Rattle.std.proofs.Common.{◌≡◌, ◌∙◌, Option, Some, None, ap, ap₂, codes, refl}
use Rattle.serde_json.specs.Data.{Data, object, no_members, member, put}
use Rattle.serde_json.proofs.Views.{view-Object}
use Rattle.ft_op.specs.Types.{annotation_type}
use Rattle.ft_op.specs.Written.{given_adjust, put_given, with_given, written_count, written_set}
use Rattle.ft_op.proofs.writing.written_annotation.Goals as goal

annotation_fields : (adjust : Option Data) (p q kind props : Data)
    → put_given (codes "adjust") adjust (put (codes "props") props (put (codes "type") kind (put (codes "pos2") q (put (codes "pos1") p no_members))))
    ≡ with_given (codes "adjust") adjust (member (codes "pos1") p
    (member (codes "pos2") q (member (codes "props") props (member (codes "type") kind no_members))))
annotation_fields None p q kind props = refl
annotation_fields (Some adjust) p q kind props = refl

pub returns-clause-value : goal.returns-clause-value
returns-clause-value c =
    let changes = c.args.changes.now in
    let p = ap₂ (put (codes "props")) c.in_ok-written_set.ensures.value c.in_ok-members.ensures in
    let a = ap₂ (put_given (codes "adjust")) c.in_ok-adjust.ensures.value (c.in_ok-put.ensures.ok ∙ p) in
    view-Object c.put_given.new.members
    ∙ ap object (
    c.in_ok-put_given.ensures ∙ a
    ∙ annotation_fields (given_adjust changes.adjust) (written_count c.args.pos1) (written_count c.args.pos2) (written_count annotation_type)
    (written_set changes.props)
    )

pub returns-clause-props : goal.returns-clause-props
returns-clause-props c = c.in_ok-written_set.ensures.keyed

pub returns-clause-adjust : goal.returns-clause-adjust
returns-clause-adjust c = c.in_ok-adjust.ensures.keyed
