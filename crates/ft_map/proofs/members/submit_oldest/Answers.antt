use Rattle.std.proofs.Common.{◌≡◌, drop, take, sym, ◌∙◌, ap, arith}
use Rattle.std.proofs.lemmas.List.{drop-drop}
use Rattle.ft_map.specs.MapClient.{MapClient}
use Rattle.ft_map.specs.MapSession.{submit_all}
use Rattle.ft_map.proofs.Submitting.{next-taken, nothing-more, one-more, with_queue}
use Rattle.ft_map.proofs.members.submit_oldest.Goals as goal

pub submit_next-requires : goal.submit_next-requires
submit_next-requires c =
    let queue = c.args.client.now.queue in
    next-taken c.args.count c.loop.counter c.args.conn queue c.loop.client.queue c.args.service.now c.loop.service c.loop-test.true (ap (λ (x : MapClient). x.queue) c.loop.invariant.client) c.requires
    c.loop.invariant.service

pub loop-preserved : goal.loop-preserved
loop-preserved c =
    let queue = c.args.client.now.queue in
    let k = c.loop.counter in
    record {
      within = let h = c.loop-test.true in omega (arith, h);
      client = c.in_ok-submit_next.ensures.client ∙ ap (λ (x : MapClient). with_queue (drop 1 x.queue) x) c.loop.invariant.client
          ∙ ap (λ ds. with_queue ds c.args.client.now) (drop-drop 1 k queue);
      service = c.loop.invariant.service
          ∙ one-more c.args.count k c.args.conn queue c.loop.service c.submit_next.new.service c.loop-test.true
          (ap (λ (x : MapClient). submit_all c.loop.service c.args.conn (take 1 x.queue)) (sym c.loop.invariant.client) ∙ c.in_ok-submit_next.ensures.service);
    }

pub returns-clause-service : goal.returns-clause-service
returns-clause-service c = c.loop.invariant.service ∙ nothing-more c.args.count c.loop.counter c.args.conn c.args.client.now.queue c.loop.service c.loop-test.false

pub returns-clause-client : goal.returns-clause-client
returns-clause-client c =
    let h = c.loop-test.false in
    let l = c.loop.invariant.within in
    c.loop.invariant.client ∙ ap (λ n. with_queue (drop n c.args.client.now.queue) c.args.client.now) (let e : c.loop.counter ≡ c.args.count = omega (arith, h, l) in e)
