-- the messages before are gone, and the rest makes of what orders them what all made of that at first
use Rattle.std.proofs.Common.{◌≡◌, ◌≤◌, ◌-◌, drop, take, Ok}
use Rattle.ft_msg.specs.Answers.{with_queue}
use Rattle.ft_seqr.specs.World.{NaiveWorld, submit_all}
use Rattle.ft_session.specs.Worlds.{service_of}
use Rattle.ft_session.proofs.edits.submit_oldest.Given as goal

abbrev pub invariant-loop : goal.invariant-loop
invariant-loop g l =
    let queue = (g.R.Replica.state l.initial.replica).client.queue in
    record {
      within : l.counter ≤ l.count;
      replica : g.R.Replica.state l.replica ≡ with_queue (drop l.counter queue) (g.R.Replica.state l.initial.replica);
      service : (w v : NaiveWorld) → l.initial.service ≡ service_of w → submit_all w l.conn (take l.count queue) ≡ Ok v
          → (u : NaiveWorld) × (l.service ≡ service_of u) × (submit_all u l.conn (take (l.count - l.counter) (drop l.counter queue)) ≡ Ok v);
    }
