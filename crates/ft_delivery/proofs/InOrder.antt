-- A replica processes entries in order.
use Rattle.std.proofs.Common.{◌≡◌, ℕ, max, List, [], ◌∷◌, fold, Result, Ok, Err, refl, sym, ◌∙◌, ap, subst}
use Rattle.std.proofs.lemmas.Option.{none-some}
use Rattle.ft_laws_agreement.specs.Sequencing.{Each}
use Rattle.ft_msg.specs.declared.faults.ProcessFault.{ProcessFault}
use Rattle.ft_msg.specs.declared.faults.ProcessFault.TheVariants as processing
use Rattle.ft_msg.specs.declared.messages.Entry.{Entry}
use Rattle.ft_msg.specs.Answers.{Answers, ReplicaState, RunsFor, process_fault_kind}
use Rattle.ft_msg.specs.Client.{NaiveClient}
use Rattle.ft_msg.specs.Compacted.{StandsFor}
use Rattle.ft_msg.specs.Process.{process}
use Rattle.ft_msg.specs.WellFormed.{IsWellFormedMessage}
use Rattle.ft_msg.proofs.ReachedSteps.{reached-process}
use Rattle.ft_seqr.specs.declared.refusals.Refusal.{Refusal}
use Rattle.ft_seqr.specs.declared.refusals.Refusal.TheVariants.{OutOfMemory}
use Rattle.ft_seqr.specs.Refusals.{refusal_of_process}
use Rattle.ft_seqr.specs.World.{processed}
use Rattle.ft_delivery.specs.Deliveries.{CanProcess, HasProcessed, Processes}

-- one entry, and then the others
pub processed-first : (x y : NaiveClient) (entry : Entry) (entries : List Entry) → processed x (entry ∷ entries) ≡ Ok y
    → (z : NaiveClient) × (process x entry ≡ Ok z) × (processed z entries ≡ Ok y)
processed-first x y entry entries h = by (process x entry) h
  where
    by : (r : Result NaiveClient ProcessFault)
        → elim r as (λ _. Result NaiveClient Refusal) [ Err fault ↦ Err (refusal_of_process entry.msg.seq fault) | Ok z ↦ processed z entries ]
        ≡ Ok y → (z : NaiveClient) × (r ≡ Ok z) × (processed z entries ≡ Ok y)
    by (Err fault) g = (cc)
    by (Ok z) g = (z, refl, g)

-- ---- a replica

-- one message
module _ (entry : Entry) (old new : ReplicaState) where
  first-ok : (x y : NaiveClient) → processed x (entry ∷ []) ≡ Ok y → process x entry ≡ Ok y
  first-ok x y h =
      let (z, e, f) = processed-first x y entry [] h in
      let k : z ≡ y = same-ok z y (Ok z) refl f in
      e ∙ ap Ok k
    where
      same-ok : (z y : NaiveClient) (r : Result NaiveClient Refusal) → r ≡ Ok z → r ≡ Ok y → z ≡ y
      same-ok z y r h k = (cc)

  process-same : (r : Result NaiveClient ProcessFault) (z y : NaiveClient) → r ≡ Ok z → r ≡ Ok y → z ≡ y
  process-same r z y h k = (cc)

  never-faults : {A : Type 0} (r : Result NaiveClient ProcessFault) (y : NaiveClient) (fault : ProcessFault) → r ≡ Ok y → r ≡ Err fault → A
  never-faults r y fault h k = (cc)

  pub one-processed : Answers process_fault_kind entry.origin (λ x. process x entry) old new (Ok tt) → (x y : NaiveClient)
      → Processes old (entry ∷ []) x y → HasProcessed old new (entry ∷ []) y
  one-processed a x y p =
      let (z, e, f) = a.client x p.reached p.runs.client in
      let k : z ≡ y = process-same (process x entry) z y e (first-ok x y p.takes) in
      record { runs = record { running = a.state.runs; client = subst (StandsFor new.client) k f.client }; origin = a.state.origin }

  -- its client takes it, so the replica is out of memory where it doesn't
  pub one-wanting : CanProcess old (entry ∷ []) → (fault : ProcessFault)
      → Answers process_fault_kind entry.origin (λ x. process x entry) old new (Err fault) → (n : ℕ) → refusal_of_process n fault ≡ OutOfMemory
  one-wanting can processing.OutOfMemory a n = refl
  one-wanting can (processing.Stopped seq) a n = absurd (none-some seq (sym can.processes.runs.running ∙ a.state.0))
  one-wanting can (processing.OutOfOrder expected got) a n =
      never-faults (process can.before entry) can.after (processing.OutOfOrder expected got) (first-ok can.before can.after can.processes.takes)
      (a.client can.before can.processes.reached can.processes.runs.client)
  one-wanting can (processing.BadNumbers field kept got) a n =
      never-faults (process can.before entry) can.after (processing.BadNumbers field kept got) (first-ok can.before can.after can.processes.takes)
      (a.client can.before can.processes.reached can.processes.runs.client)
  one-wanting can processing.NotSent a n =
      never-faults (process can.before entry) can.after processing.NotSent (first-ok can.before can.after can.processes.takes)
      (a.client can.before can.processes.reached can.processes.runs.client)

abbrev one_processed : Entry → Result NaiveClient ProcessFault → Result NaiveClient Refusal
one_processed entry o = elim o as (λ _. Result NaiveClient Refusal) [ Err fault ↦ Err (refusal_of_process entry.msg.seq fault) | Ok z ↦ Ok z ]

-- one message, and then the others
pub processes-next : (r : ReplicaState) (entry : Entry) (entries : List Entry) (x y : NaiveClient) → IsWellFormedMessage entry.msg
    → Processes r (entry ∷ entries) x y
    → (z : NaiveClient) × (Processes r (entry ∷ []) x z × ((new : ReplicaState) → RunsFor new z → Processes new entries z y))
processes-next r entry entries x y formed p =
    let (z, e, f) = processed-first x y entry entries p.takes in (
      z,
      (
        record { reached = p.reached; runs = p.runs; takes = ap (one_processed entry) e },
        λ new runs. record { reached = reached-process x z entry formed p.reached e; runs = runs; takes = f },
      ),
    )

-- the loop over entries: what is known before one of them
pub record StillProcesses (old now : ReplicaState) (entries rest : List Entry) : Type 0 where
  pub client : (x y : NaiveClient) → Processes old entries x y → (z : NaiveClient) × Processes now rest z y
  pub origin : fold (λ n (e : Entry). max n e.origin) now.origin rest ≡ fold (λ n (e : Entry). max n e.origin) old.origin entries
  pub formed : Each (λ (e : Entry). IsWellFormedMessage e.msg) rest

module _ (old now : ReplicaState) (entries : List Entry) (entry : Entry) (rest : List Entry)
    (s : StillProcesses old now entries (entry ∷ rest)) where
  pub still-can : CanProcess old entries → CanProcess now (entry ∷ [])
  still-can can =
      let (z, p) = s.client can.before can.after can.processes in
      let (v, q) = processes-next now entry rest z can.after s.formed.0 p in
      record { before = z; after = v; processes = q.0; formed = (s.formed.0, tt) }

  pub still-processes : (new : ReplicaState) → ((x y : NaiveClient) → Processes now (entry ∷ []) x y → HasProcessed now new (entry ∷ []) y)
      → CanProcess old entries → StillProcesses old new entries rest
  still-processes new f can = record {
    client = λ x y p.
        let (z, q) = s.client x y p in
        let (v, k) = processes-next now entry rest z y s.formed.0 q in
        (v, k.1 new (f z v k.0).runs);
    origin =
        let (z, q) = s.client can.before can.after can.processes in
        let (v, k) = processes-next now entry rest z can.after s.formed.0 q in
        ap (λ n. fold (λ n (e : Entry). max n e.origin) n rest) (f z v k.0).origin ∙ s.origin;
    formed = s.formed.1;
  }

pub all-processed : (old now : ReplicaState) (entries : List Entry) → StillProcesses old now entries [] → (x y : NaiveClient)
    → Processes old entries x y → HasProcessed old now entries y
all-processed old now entries s x y p =
    let (z, q) = s.client x y p in
    let k : z ≡ y = same-client z y (Ok z) refl q.takes in
    record { runs = subst (RunsFor now) k q.runs; origin = s.origin }
  where
    same-client : (z y : NaiveClient) (r : Result NaiveClient Refusal) → r ≡ Ok z → r ≡ Ok y → z ≡ y
    same-client z y r h k = (cc)
