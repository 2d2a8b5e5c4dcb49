-- What is known of the steps of a client that take no message.
use Rattle.std.proofs.Common.{ℕ, refl, ap}
use Rattle.ft_op.specs.declared.operations.ChannelOp.{ChannelOp}
use Rattle.ft_msg.specs.Answers.{edit_fault_kind, link_fault_kind}
use Rattle.ft_msg.specs.Client.{connect, drop_link, local_edit, noop}
use Rattle.ft_msg.specs.ClientSteps.{Connects, Drops, Edits, Idles, unless_refused}
use Rattle.ft_msg.proofs.ReachedSteps.{reached-after, reached-connect, reached-drop, reached-noop}
use Rattle.ft_laws_compaction.proofs.AllSteps.{reached-sound}
use Rattle.ft_laws_compaction.proofs.FloorSteps.{floor-step}
use Rattle.ft_laws_compaction.proofs.KeptSteps.{connects-alike, drops-alike, edits-answer, idles-alike}
use Rattle.ft_laws_names.proofs.OneAnswersAll.{one-connect-answers-all, one-drop-answers-all, one-edit-answers-all, one-idle-answers-all}
use Rattle.ft_laws_summaries.proofs.FormedRuns.{formed-connect, formed-drop, formed-edit, formed-noop}
use Rattle.ft_replica.proofs.Replicas.{IsKnownStep}

pub edit-known : (op : ChannelOp) → IsKnownStep edit_fault_kind (λ x. local_edit x op)
edit-known op = record {
  alike = λ x kept r k. edits-answer r.steps x kept op (reached-sound x r) k;
  reached = λ x y r h. reached-after x y (Edits op) r (ap unless_refused h) refl;
  floors = λ x y r h. floor-step r.steps (Edits op) x y (reached-sound x r) (ap unless_refused h) refl;
  formed = λ n x y f h. formed-edit n x y op f h;
  serves = λ start before after result p named e d. one-edit-answers-all start before after op result p named e d;
}

pub connect-known : (conn : ℕ) → IsKnownStep link_fault_kind (λ x. connect x conn)
connect-known conn = record {
  alike = λ x kept r k. connects-alike x kept conn k;
  reached = λ x y r h. reached-connect x y conn r h;
  floors = λ x y r h. floor-step r.steps (Connects conn) x y (reached-sound x r) (ap unless_refused h) refl;
  formed = λ n x y f h. formed-connect n x y conn f h;
  serves = λ start before after result p named e d. one-connect-answers-all start before after conn result p named e d;
}

pub drop-known : IsKnownStep link_fault_kind drop_link
drop-known = record {
  alike = λ x kept r k. drops-alike x kept k;
  reached = λ x y r h. reached-drop x y r h;
  floors = λ x y r h. floor-step r.steps Drops x y (reached-sound x r) (ap unless_refused h) refl;
  formed = λ n x y f h. formed-drop n x y f h;
  serves = λ start before after result p named e d. one-drop-answers-all start before after result p named e d;
}

pub noop-known : IsKnownStep link_fault_kind noop
noop-known = record {
  alike = λ x kept r k. idles-alike x kept k;
  reached = λ x y r h. reached-noop x y r h;
  floors = λ x y r h. floor-step r.steps Idles x y (reached-sound x r) (ap unless_refused h) refl;
  formed = λ n x y f h. formed-noop n x y f h;
  serves = λ start before after result p named e d. one-idle-answers-all start before after result p named e d;
}
