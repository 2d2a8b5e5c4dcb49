use Rattle.std.proofs.Common.{◌≤◌, ◌++◌, List, length, map, ap, subst, sym, ◌∙◌}
use Rattle.std.specs.Prelude.{flat_map}
use Rattle.ft_op.specs.Document.{Document}
use Rattle.ft_op.specs.Stages.{Stage}
use Rattle.ft_msg.specs.Reconnection.{carried_stage, rebuilt_document}
use Rattle.ft_replica.specs.Own.{held_by, resent}
use Rattle.ft_plain.specs.Cut.{cut, cut_length}
use Rattle.ft_plain.specs.Own.{HoldsExactly, PlainState}
use Rattle.ft_plain.proofs.PlainSteps.{edits-cut, rejoin-held}
use Rattle.ft_plain.proofs.own.PlainOwnOwnDocument.rejoin.Goals as goal

pub resend-requires : goal.resend-requires
resend-requires c =
    let i = c.self.inside in
    let known = c.requires.known in
    subst (λ (ss : List Stage). cut_length c.args.counts.now ≤ length ss) (sym c.as_slice-2.ensures)
    (edits-cut (record { doc = i.doc; stages = i.stages }) known.low known.client c.args.counts.now
    (subst (λ (d : PlainState). HoldsExactly d (held_by known.low known.client)) (sym c.self.view_is) known.document) known.fits.1)

pub returns : goal.returns
returns c = λ held edits named e n h.
    let i = c.self.inside in
    let entry = c.args.entry.now in
    let counts = c.args.counts.now in
    let old : PlainState = record { doc = i.doc; stages = i.stages } in
    let new : PlainState = record { doc = c.rebuild.new.self; stages = c.resend.new.carried } in
    let again = c.in_ok-again.again.items in
    let numbered = c.set_numbers.ensures in
    let sent = c.in_ok-again.ensures.again
    ∙ ap (λ (ss : List Stage). map (resent c.set_numbers.new.self) (cut counts ss)) c.as_slice-2.ensures
    ∙ ap (λ (d : Document). map (resent d) (cut counts i.stages)) numbered in
    let doc = c.in_ok-rebuild.ensures
    ∙ ap (λ ns. rebuilt_document ns c.set_numbers.new.self) (c.as_slice-3.ensures.value ∙ c.in_ok-numbers.ensures ∙ ap (map (λ (t : Stage). t.stage)) c.as_slice.ensures)
    ∙ ap (rebuilt_document (map (λ (t : Stage). t.stage) i.stages)) numbered in
    let going : Document → List Stage → List Stage = λ d ss. flat_map (λ ts. flat_map (carried_stage d) ts) (cut counts ss) in
    let stages = c.in_ok-again.ensures.carried
    ∙ ap (λ (first : List Stage). first ++ going c.set_numbers.new.self c.as_slice-2.result.now) c.new-carried.ensures
    ∙ ap (going c.set_numbers.new.self) c.as_slice-2.ensures
    ∙ ap (λ d. going d i.stages) numbered in
    rejoin-held old new entry counts again sent doc stages held edits e n (subst (λ (d : PlainState). HoldsExactly d held) (sym c.self.view_is) h)
