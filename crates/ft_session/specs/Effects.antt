-- What an event makes of what the replicas of a session keep, beside that each stands for its client.
use Rattle.std.specs.Prelude.{◌≡◌, Bool, find, length, [], ◌∷◌, ◌++◌, IsTrue, Some, None, ⊤}
use Rattle.ft_props.specs.Properties.{Characters}
use Rattle.ft_op.specs.Document.{Document}
use Rattle.ft_msg.specs.Answers.{HeldCounts, IsFullyCompacted, ReplicaState, numbers_of}
use Rattle.ft_msg.specs.Indexed.{indexed}
use Rattle.ft_msg.specs.Summary.{trim}
use Rattle.ft_seqr.specs.declared.events.Event.{Event}
use Rattle.ft_seqr.specs.declared.events.Event.TheVariants as event
use Rattle.ft_seqr.specs.World.{NamedClient, NaiveWorld, is_client}
use Rattle.ft_laws_sessions.specs.MadeWorlds.{IsMade}
use Rattle.ft_session.specs.declared.outputs.Out.{Out}
use Rattle.ft_session.specs.declared.outputs.Out.TheVariants as out
use Rattle.ft_session.specs.Entrances.{new_member}
use Rattle.ft_session.specs.Worlds.{MemberState, SessionState, SessionStands, has_name}

-- how many elements are in each list of a document
abbrev pub elements_in : Document → HeldCounts
elements_in doc = record { text = length doc.text.items; rows = length doc.rows.items; cols = length doc.cols.items }

-- the replica keeps, as indexed, what a summary keeps of the document, and it held no other elements
pub record KeepsTrimmed (r : ReplicaState) (whole : Document) : Type 0 where
  pub doc : r.client.doc ≡ indexed (trim whole)
  pub held : r.held ≡ elements_in (trim whole)

-- ---- of one replica

-- the view has the numbers of the replica, all seven of them
abbrev pub ShowsNumbers : MemberState → Out → Type 0
ShowsNumbers m (out.View name view) = view.numbers ≡ numbers_of m.replica
ShowsNumbers m _ = ⊥

-- what the event of a client makes of its replica, which may compact fully: a view has the numbers of the replica, and a compaction
-- takes away everything that nobody can see any more
abbrev pub MemberEffect : Bool → Event → MemberState → Out → Type 0
MemberEffect compacts (event.Show name) m out = ShowsNumbers m out
MemberEffect compacts (event.Compact name) m out = IsTrue compacts → IsFullyCompacted m.replica.client
MemberEffect compacts _ m out = ⊤

-- ---- of a session

-- the same of the replica of that name
pub record NamedEffect (compacts : Bool) (e : Event) (name : Characters) (s : SessionState) (out : Out) : Type 0 where
  pub member : MemberState
  pub found : find (has_name name) s.members ≡ Some member
  pub effect : MemberEffect compacts e member out

-- the last replica has this name, and keeps what a summary keeps of the document of the client of the other name
pub record StartsTrimmed (name from : Characters) (old new : SessionState) : Type 0 where
  pub replica : ReplicaState
  pub members : new.members ≡ old.members ++ (new_member name replica ∷ [])
  pub keeps : (w : NaiveWorld) → IsMade w → SessionStands old w → (c : NamedClient) → find (is_client from) w.clients ≡ Some c → KeepsTrimmed replica c.client.doc

-- what an event makes of the replicas of a session, which may compact fully
abbrev pub SessionEffect : Bool → Event → SessionState → SessionState → Out → Type 0
SessionEffect compacts (event.Start name (Some from)) old new out = StartsTrimmed name from old new
SessionEffect compacts (event.Start name None) old new out = ⊤
SessionEffect compacts (event.Show name) old new out = NamedEffect compacts (event.Show name) name new out
SessionEffect compacts (event.Compact name) old new out = NamedEffect compacts (event.Compact name) name new out
SessionEffect compacts _ old new out = ⊤
