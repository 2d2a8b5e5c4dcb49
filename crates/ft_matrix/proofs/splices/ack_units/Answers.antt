use Rattle.std.proofs.Common.{refl, sym, subst}
use Rattle.ft_perm.specs.contracts.vectors.Vector.{the_view}
use Rattle.ft_matrix.specs.Sound.{IsSoundVector}
use Rattle.ft_matrix.specs.Splices.{AcksUnits}
use Rattle.ft_matrix.proofs.SoundVectors.{lowest-units, ok-with, on-ok, vector-acked, vector-acks}
use Rattle.ft_matrix.proofs.splices.ack_units.Goals as goal

pub ack-requires-clause-usable : goal.ack-requires-clause-usable
ack-requires-clause-usable g = (subst IsSoundVector (sym g.units.view_is) g.requires.sound).usable

pub ack-requires-clause-lowest : goal.ack-requires-clause-lowest
ack-requires-clause-lowest g = lowest-units g.args.stage (the_view g.units.inside) (subst IsSoundVector (sym g.units.view_is) g.requires.sound)

pub returns-clause-sound : goal.returns-clause-sound
returns-clause-sound g =
    let s = subst IsSoundVector (sym g.units.view_is) g.requires.sound in
    ok-with _ g.ack.result g.ack.ensures.elements (λ e. ok-with _ g.ack.result g.ack.ensures.refs (λ r. ok-with _ g.ack.result g.ack.ensures.rest (λ k. ok-with _ g.ack.result g.ack.ensures.made (λ m.
    on-ok g.ack.result (vector-acked g.args.stage g.args.seq g.args.conn (the_view g.units.inside) _ s _ refl e r k m)))))

pub returns-clause-acks : goal.returns-clause-acks
returns-clause-acks g =
    let s = subst IsSoundVector (sym g.units.view_is) g.requires.sound in
    ok-with _ g.ack.result g.ack.ensures.elements (λ e. ok-with _ g.ack.result g.ack.ensures.refs (λ r. ok-with _ g.ack.result g.ack.ensures.rest (λ k. ok-with _ g.ack.result g.ack.ensures.made (λ m.
    on-ok g.ack.result (subst (λ v. AcksUnits g.args.stage g.args.seq g.args.conn v (record (the_view g.units.inside) { tree = g.ack.new.self })) g.units.view_is
    (vector-acks g.args.stage g.args.seq g.args.conn (the_view g.units.inside) _ s _ refl e r k m))))))
