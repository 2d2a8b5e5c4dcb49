-- What refusals say of replicas, and of sessions.
use Rattle.std.proofs.Common.{◌≡◌, ℕ, Option, Some, None, sym, ◌∙◌}
use Rattle.std.specs.Prelude.{⊤}
use Rattle.ft_msg.specs.declared.faults.Cause.{Cause}
use Rattle.ft_msg.specs.declared.faults.Cause.TheVariants as causes
use Rattle.ft_msg.specs.declared.faults.EditFault.{EditFault}
use Rattle.ft_msg.specs.declared.faults.EditFault.TheVariants as edit
use Rattle.ft_msg.specs.declared.faults.LinkFault.{LinkFault}
use Rattle.ft_msg.specs.declared.faults.LinkFault.TheVariants as link
use Rattle.ft_msg.specs.declared.faults.ViewFault.{ViewFault}
use Rattle.ft_msg.specs.declared.faults.ViewFault.TheVariants as viewing
use Rattle.ft_msg.specs.Answers.{AnswersFault, FaultKind, MeansRefusal, Refusal as Refuses, ReplicaState, StoppedBefore, WantOfMemory, edit_fault_kind, link_fault_kind, view_fault_kind}
use Rattle.ft_seqr.specs.Refusals.{refusal_of_cause, refusal_of_edit, refusal_of_link, refusal_of_view}
use Rattle.ft_seqr.specs.RefusalKinds.{HadStopped, MeansOf, RefusalKind, Refused, WantsMemory, refusal_kind}

-- a replica's fault says what the refusal says
abbrev pub SayAlike : FaultKind → RefusalKind → Type 0
SayAlike WantOfMemory WantsMemory = ⊤
SayAlike (StoppedBefore seq) HadStopped = ⊤
SayAlike Refuses Refused = ⊤
SayAlike _ _ = ⊥

pub edit-alike : (fault : EditFault) → SayAlike (edit_fault_kind fault) (refusal_kind (refusal_of_edit fault))
edit-alike edit.OutOfMemory = tt
edit-alike (edit.Stopped seq) = tt
edit-alike edit.IdInUse = tt
edit-alike edit.NoSuchInterval = tt
edit-alike (edit.OutOfRange length) = tt

pub link-alike : (fault : LinkFault) → SayAlike (link_fault_kind fault) (refusal_kind (refusal_of_link fault))
link-alike link.OutOfMemory = tt
link-alike (link.Stopped seq) = tt
link-alike link.AlreadyConnected = tt
link-alike link.NotConnected = tt

pub view-alike : (fault : ViewFault) → SayAlike (view_fault_kind fault) (refusal_kind (refusal_of_view fault))
view-alike viewing.OutOfMemory = tt
view-alike (viewing.Stopped seq) = tt

pub some-none : {A : Type 0} (stop : Option ℕ) (seq : ℕ) → stop ≡ None → stop ≡ Some seq → A
some-none stop seq h k = let e : None ≡ Some seq = sym h ∙ k in (cc)

-- so a running replica's fault is its client's refusal, and changes nothing, or is OutOfMemory
pub fault-means : (R : Type 0) (old new : ReplicaState) (k : FaultKind) (l : RefusalKind) → SayAlike k l → old.stop ≡ None → AnswersFault old new k → MeansRefusal k R
    → MeansOf l ⊤ ((new ≡ old) × R)
fault-means R old new WantOfMemory WantsMemory s h a m = tt
fault-means R old new WantOfMemory HadStopped s h a m = absurd s
fault-means R old new WantOfMemory Refused s h a m = absurd s
fault-means R old new (StoppedBefore seq) WantsMemory s h a m = absurd s
fault-means R old new (StoppedBefore seq) HadStopped s h a m = some-none old.stop seq h a.0
fault-means R old new (StoppedBefore seq) Refused s h a m = absurd s
fault-means R old new Refuses WantsMemory s h a m = absurd s
fault-means R old new Refuses HadStopped s h a m = absurd s
fault-means R old new Refuses Refused s h a m = (a.1, m)

-- the refusal of a text that has no reading is one of the naive session
pub cause-means : {B : Type 0} (cause : Cause) → B → MeansOf (refusal_kind (refusal_of_cause cause)) ⊤ B
cause-means causes.CountLimit b = b
cause-means _ b = b
