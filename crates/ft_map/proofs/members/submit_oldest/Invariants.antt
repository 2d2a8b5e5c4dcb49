-- the messages before are gone, and the rest makes of what orders them what all made of that at first
use Rattle.std.proofs.Common.{◌≡◌, ◌≤◌, ◌-◌, drop, take}
use Rattle.ft_map.specs.MapSession.{submit_all}
use Rattle.ft_map.proofs.Submitting.{with_queue}
use Rattle.ft_map.proofs.members.submit_oldest.Given as goal

abbrev pub invariant-loop : goal.invariant-loop
invariant-loop l = record {
  within : l.counter ≤ l.count;
  client : l.client ≡ with_queue (drop l.counter l.initial.client.queue) l.initial.client;
  service : submit_all l.initial.service l.conn (take l.count l.initial.client.queue)
      ≡ submit_all l.service l.conn (take (l.count - l.counter) (drop l.counter l.initial.client.queue));
}
