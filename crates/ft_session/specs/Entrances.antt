-- How clients and guests come into a session.
use Rattle.std.specs.Prelude.{◌≡◌, [], find, length, Option, Some, None, Result, Ok, Err}
use Rattle.ft_props.specs.Properties.{Characters}
use Rattle.ft_op.specs.Document.{Document}
use Rattle.ft_sumdoc.specs.declared.summary.SumDoc.{SumDoc}
use Rattle.ft_msg.specs.Answers.{ReplicaState, RunsFor, StartsOver}
use Rattle.ft_msg.specs.Client.{client_over}
use Rattle.ft_msg.specs.Reached.{IsReached}
use Rattle.ft_msg.specs.Summary.{GivesDocument, doc_of}
use Rattle.ft_seqr.specs.declared.refusals.Refusal.{Refusal}
use Rattle.ft_seqr.specs.World.{NaiveWorld, NamedClient, is_client}
use Rattle.ft_seqr.specs.RefusalKinds.{Refused, refusal_kind}
use Rattle.ft_session.specs.Worlds.{MemberStands, MemberState}

-- the answer to whether a name can be given
abbrev pub AnswersName : Option Refusal → Result (Unit {0}) Refusal → Type 0
AnswersName fault (Ok _) = fault ≡ None
AnswersName fault (Err why) = (fault ≡ Some why) × (refusal_kind why ≡ Refused)

-- a replica that starts under a name
abbrev pub new_member : Characters → ReplicaState → MemberState
new_member name r = record { name = name; replica = r; connects = 0 }

-- the replica stands for a new client of this name over the document of the client of that name, which has nothing pending
pub record IsCopyOf (w : NaiveWorld) (name from : Characters) (r : ReplicaState) : Type 0 where
  pub client : NamedClient
  pub found : find (is_client from) w.clients ≡ Some client
  pub idle : client.client.pending ≡ []
  pub stands : MemberStands w.log (new_member name r) (record { name = name; connects = 0; client = client_over client.client.doc })

-- the replica starts over the document of the summary, and stands for a client over each document whose summary it is
pub record StartsFrom (sum : SumDoc) (r : ReplicaState) : Type 0 where
  pub over : StartsOver r (doc_of sum) (length sum.conns)
  pub stands : (whole : Document) → IsReached (client_over whole) → GivesDocument sum whole → RunsFor r (client_over whole)
