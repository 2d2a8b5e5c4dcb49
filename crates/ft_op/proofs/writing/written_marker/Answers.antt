use Rattle.std.proofs.Common.{◌≡◌, ◌∙◌, Option, Some, None, ap, ap₂, codes, refl}
use Rattle.serde_json.specs.Data.{Data, object, no_members, member, put}
use Rattle.serde_json.specs.View.{members_view}
use Rattle.serde_json.proofs.Views.{view-Object}
use Rattle.ft_op.specs.Written.{given_set, put_given, with_given, written_marker}
use Rattle.ft_op.proofs.writing.written_marker.Goals as goal

marker_fields : (marker : Data) (props : Option Data) → put_given (codes "props") props (member (codes "marker") marker no_members)
    ≡ member (codes "marker") marker (with_given (codes "props") props no_members)
marker_fields marker None = refl
marker_fields marker (Some props) = refl

pub returns-clause-value : goal.returns-clause-value
returns-clause-value c =
    let marker = view-Object c.in_ok-marker.marker ∙ ap object c.in_ok-marker.ensures in
    let m = ap₂ (put (codes "marker")) marker (ap members_view c.new-members.ensures.empty) in
    let p = ap (put_given (codes "props") (given_set c.args.props.now)) (c.in_ok-put.ensures.ok ∙ m) in
    view-Object c.put_given_set.new.members ∙ ap object (c.in_ok-put_given_set.ensures.value ∙ p
    ∙ marker_fields (written_marker c.args.ref_type) (given_set c.args.props.now))

pub returns-clause-keyed : goal.returns-clause-keyed
returns-clause-keyed c = c.in_ok-put_given_set.ensures.keyed
