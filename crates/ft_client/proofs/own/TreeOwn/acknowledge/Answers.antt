use Rattle.std.proofs.Common.{◌∙◌, ◌≤◌, Global, ap, drop, length, refl, subst, sym, take}
use Rattle.std.specs.declared.collections.VecDeque.{VecDeque}
use Rattle.ft_client.specs.declared.stages.OwnStage.{OwnStage}
use Rattle.ft_client.proofs.AckedParts.{enough, front-grid, oldest-text, one-part, own-acked}
use Rattle.ft_client.proofs.own.TreeOwn.acknowledge.Goals as goal

pub ack_front-requires-clause-enough : goal.ack_front-requires-clause-enough
ack_front-requires-clause-enough c =
    subst (λ (q : VecDeque OwnStage Global). c.args.count ≤ length q.items) (sym c.replace-stages.ensures.value)
    (enough c.args.self.now c.args.entry.now c.args.count c.requires.known)

pub ack_front-requires-clause-front : goal.ack_front-requires-clause-front
ack_front-requires-clause-front c =
    let s = c.args.self.now in
    let own = take c.args.count c.replace-stages.result.items in
    let last = c.requires.known.client.last_stage in
    let is = ap (λ (q : VecDeque OwnStage Global). take c.args.count q.items) c.replace-stages.ensures.value in
    record {
      of_one = one-part s c.args.entry.now c.args.count c.requires.known own is;
      of_text = λ h. (last, oldest-text s c.args.entry.now c.args.count c.requires.known own is h);
      of_grid = λ h. (last, front-grid s c.args.entry.now c.args.count c.requires.known own is);
    }

pub returns : goal.returns
returns c = λ held mine rest named parts counted h.
    let s = c.args.self.now in
    let stages = ap (λ (q : VecDeque OwnStage Global). q.items) c.replace-stages.ensures.value in
    own-acked s c.args.entry.now c.args.count c.requires.known (take c.args.count c.replace-stages.result.items)
    (record s { stages = c.replace-stages.new.dest }) c.ack_front.new.self
    (record c.ack_front.new.self { stages = c.drop_front.new.stages; numbers = c.take.new.self }) refl (ap (take c.args.count) stages)
    (c.drop_front.ensures ∙ ap (drop c.args.count) (c.ack_front.ensures.stages ∙ stages)) c.in_ok-ack_front.ensures.acks refl c.take.ensures held mine rest named parts counted h
