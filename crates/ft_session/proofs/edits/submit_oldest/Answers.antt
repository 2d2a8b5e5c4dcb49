-- One message, and then the others.
use Rattle.std.proofs.Common.{◌∙◌, drop, take, ap, arith}
use Rattle.std.proofs.lemmas.List.{drop-drop}
use Rattle.ft_msg.specs.Answers.{ReplicaState, with_queue}
use Rattle.ft_seqr.specs.World.{submit_all}
use Rattle.ft_session.proofs.Submissions.{one-more}
use Rattle.ft_session.proofs.edits.submit_oldest.Goals as goal

pub submit_next-requires : goal.submit_next-requires
submit_next-requires g c =
    let queue = (g.R.Replica.state c.args.replica.now).client.queue in
    let (w, s, h) = c.loop.invariant.service c.requires.world c.requires.after c.requires.service c.requires.submits in
    let (u, a, b) = one-more c.args.count c.loop.counter c.args.conn queue w c.requires.after c.loop-test.true h in
    record { world = w; service = s; after = u; submits = ap (λ (r : ReplicaState). submit_all w c.args.conn (take 1 r.client.queue)) c.loop.invariant.replica ∙ a }

pub loop-preserved : goal.loop-preserved
loop-preserved g c =
    let queue = (g.R.Replica.state c.args.replica.now).client.queue in
    record {
      within = let h = c.loop-test.true in omega (arith, h);
      replica = c.in_ok-submit_next.ensures.replica
          ∙ (ap (λ (r : ReplicaState). with_queue (drop 1 r.client.queue) r) c.loop.invariant.replica
          ∙ ap (λ ds. with_queue ds (g.R.Replica.state c.args.replica.now)) (drop-drop 1 c.loop.counter queue));
      service = λ w v e k.
          let (u, s, h) = c.loop.invariant.service w v e k in
          let (x, a, b) = one-more c.args.count c.loop.counter c.args.conn queue u v c.loop-test.true h in
          (x, c.in_ok-submit_next.ensures.service u x s (ap (λ (r : ReplicaState). submit_all u c.args.conn (take 1 r.client.queue)) c.loop.invariant.replica ∙ a), b);
    }
