-- What a client over its own document tells, the replica tells for every client for which it stands.
use Rattle.std.proofs.Common.{◌≡◌, ◌||◌, Bool, List, None, Result, Ok, Err, refl, sym, ◌∙◌, ap}
use Rattle.std.specs.Prelude.{OnOk}
use Rattle.ft_op.specs.declared.operations.ChannelOp.{ChannelOp}
use Rattle.ft_msg.specs.declared.faults.EditFault.{EditFault}
use Rattle.ft_msg.specs.declared.faults.ProcessFault.{ProcessFault}
use Rattle.ft_msg.specs.declared.messages.Entry.{Entry}
use Rattle.ft_msg.specs.Answers.{Answers, edit_fault_kind, process_fault_kind}
use Rattle.ft_msg.specs.Client.{NaiveClient, local_edit}
use Rattle.ft_msg.specs.Compacted.{StandsFor}
use Rattle.ft_msg.specs.Process.{process}
use Rattle.ft_msg.specs.Reached.{IsReached}
use Rattle.ft_msg.specs.WellFormed.{IsWellFormedMessage}
use Rattle.ft_msg.proofs.ReachedSteps.{reached-process, well-formed-fits}
use Rattle.ft_laws_compaction.specs.Keeping.{AnswersAlike, refused, taken}
use Rattle.ft_laws_compaction.proofs.AllSteps.{reached-sound}
use Rattle.ft_laws_compaction.proofs.Compacting.{compacts-further}
use Rattle.ft_laws_compaction.proofs.Runs.{run-facts}
use Rattle.ft_laws_compaction.proofs.SameContent.{show-alike}
use Rattle.ft_changes.specs.declared.changes.ViewChange.{ViewChange}
use Rattle.ft_changes.specs.Shown.{after_changes, shown_content}
use Rattle.ft_changes.specs.Telling.{TellsChanges}
use Rattle.ft_changes.specs.Told.{told_of_edit, told_of_entry}
use Rattle.ft_changes.proofs.KeptTells.{kept-tells, kept-tells-edits}
use Rattle.ft_changes.proofs.NamelessClients.{nameless-is-shown}
use Rattle.ft_replica.specs.Kept.{Holds, is_of_nobody, state_of}
use Rattle.ft_replica.specs.Own.{HeldDocument, ShownDocument, Shows}
use Rattle.ft_replica.specs.Stopping.{AnswersEntry, AnswersOwn, StoppingState}
use Rattle.ft_replica.specs.Telling.{AddsTold, AddsToldFewer}
use Rattle.ft_replica.proofs.KnownSteps.{edit-known}
use Rattle.ft_replica.proofs.ReplicaEntries.{entry-served}
use Rattle.ft_replica.proofs.Replicas.{own-served, shows-all, shows-kept}
use Rattle.ft_replica.proofs.ToldSteps.{edit-told, kept-shows}

-- two answers that are one client
same-client : {E : Type 0} (x y : NaiveClient) (r : Result NaiveClient E) → r ≡ Ok x → r ≡ Ok y → x ≡ y
same-client x y r h k = ap (λ (s : Result NaiveClient _). elim s as (λ _. NaiveClient) [ Ok z ↦ z | Err fault ↦ x ]) (sym h ∙ k)

-- where the whole client takes a step, one that keeps it takes it too
kept-takes : {E : Type 0} {r s : Result NaiveClient E} (y : NaiveClient) → AnswersAlike E r s → s ≡ Ok y → (z : NaiveClient) × (r ≡ Ok z)
kept-takes y (refused fault) e = absurd (cc)
kept-takes y (taken kept x k) e = (kept, refl)

module _ {D : Type 0} (holds : D → HeldDocument → Type 0) (shown : D → ShownDocument) (shows : (d : D) (held : HeldDocument) → holds d held → Shows (shown d) held) where
  -- each client for which it stands shows what the one shows that it keeps
  pub shown-as-kept : (s : StoppingState D) (nameless : Bool) (h : Holds holds s nameless) (runs : s.stop ≡ None) (x : NaiveClient) → IsReached x → StandsFor (state_of shown s).client x
      → shown_content x ≡ shown_content (h runs).kept
  shown-as-kept s nameless h runs x reached stands =
      let p = (h runs).kept in
      let alike = show-alike stands.kept x (run-facts reached.steps x (reached-sound x reached)) stands.keeps in
      let all = shows-all holds shown shows s nameless h runs x reached stands in
      sym (kept-shows stands.kept x reached stands.keeps)
      ∙ nameless-is-shown stands.kept p (stands.shows ∙ sym (shows-kept holds shown shows s nameless h runs)) (alike.content ∙ sym all.content)

  pub stands-for : (s : StoppingState D) (nameless : Bool) (h : Holds holds s nameless) (runs : s.stop ≡ None) → StandsFor (state_of shown s).client (h runs).whole
  stands-for s nameless h runs = record { kept = (h runs).kept; shows = shows-kept holds shown shows s nameless h runs; keeps = (h runs).keeps }

  module _ (old new : StoppingState D) (was : Bool) (before after : List ViewChange) where
    module _ (entry : Entry) (formed : IsWellFormedMessage entry.msg) where
      entry-tells : (u : Unit {0}) (is : Bool) (h : Holds holds old was) → Holds holds new is → old.stop ≡ None → new.stop ≡ None
          → Answers process_fault_kind entry.origin (λ x. process x entry) (state_of shown old) (state_of shown new) (Ok u)
          → AddsToldFewer holds (λ p. told_of_entry p entry) old.client before after
          → TellsChanges (λ x. process x entry) (λ x. told_of_entry x entry) (state_of shown old) before after
      entry-tells u is h g ran runs answers told =
          let k = h ran in
          let t = told k.reached.start k.low k.kept (record { whole = k.whole; reached = k.reached; starts = refl; keeps = k.keeps }) k.linked in
          let fewer = t.0 in
          let keeps = compacts-further k.whole k.kept fewer k.keeps t.1 in
          let stands = stands-for old was h ran in
          let a = answers.client k.whole k.reached stands in
          let next : (x y : NaiveClient) → IsReached x → StandsFor (state_of shown old).client x → process x entry ≡ Ok y → shown_content y ≡ shown_content (g runs).kept = λ x y reached s e.
          let b = answers.client x reached s in
          let same = same-client y b.0 (process x entry) e b.1 in
          ap shown_content same ∙ shown-as-kept new is g runs b.0 (reached-process x b.0 entry formed reached b.1) b.2.client in
          record {
            changes = told_of_entry fewer entry;
            added = t.2;
            least = record { whole = k.whole; reached = k.reached; stands = stands; kept = fewer; keeps = keeps; told_is = refl };
            leads = λ x y reached s e.
                ap (λ c. after_changes c (told_of_entry fewer entry)) (shown-as-kept old was h ran x reached s ∙ sym (shown-as-kept old was h ran k.whole k.reached stands))
                ∙ kept-tells fewer k.whole a.0 entry k.reached keeps (well-formed-fits entry formed) a.1
                ∙ next k.whole a.0 k.reached stands a.1 ∙ sym (next x y reached s e);
          }

      pub entry-told : (result : Result (Unit {0}) ProcessFault) → Holds holds old was → AnswersEntry holds shown entry old new result
          → OnOk result (AddsToldFewer holds (λ p. told_of_entry p entry) old.client before after)
          → OnOk result (TellsChanges (λ x. process x entry) (λ x. told_of_entry x entry) (state_of shown old) before after)
      entry-told (Err fault) h a told = tt
      entry-told (Ok u) h a told =
          let served = entry-served holds shown shows old new was entry formed (Ok u) h a (is_of_nobody entry || was) refl in
          entry-tells u (is_of_nobody entry || was) h served.keeps a.0 a.1 served.answers told

    module _ (op : ChannelOp) where
      edit-tells : (u : Unit {0}) (h : Holds holds old was) → Holds holds new was → old.stop ≡ None → new.stop ≡ None
          → Answers edit_fault_kind 0 (λ x. local_edit x op) (state_of shown old) (state_of shown new) (Ok u)
          → AddsTold holds (λ p. told_of_edit p op) old.client before after
          → TellsChanges (λ x. local_edit x op) (λ x. told_of_edit x op) (state_of shown old) before after
      edit-tells u h g ran runs answers told =
          let k = h ran in
          let known = edit-known op in
          let stands = stands-for old was h ran in
          let a = answers.client k.whole k.reached stands in
          let taken = kept-takes a.0 (known.alike k.whole k.kept k.reached k.keeps) a.1 in
          let next : (x y : NaiveClient) → IsReached x → StandsFor (state_of shown old).client x → local_edit x op ≡ Ok y → shown_content y ≡ shown_content (g runs).kept = λ x y reached s e.
          let b = answers.client x reached s in
          let same = same-client y b.0 (local_edit x op) e b.1 in
          ap shown_content same ∙ shown-as-kept new was g runs b.0 (known.reached x b.0 reached b.1) b.2.client in
          record {
            changes = told_of_edit k.kept op;
            added = told k.reached.start k.low k.kept (record { whole = k.whole; reached = k.reached; starts = refl; keeps = k.keeps }) k.linked;
            least = record { whole = k.whole; reached = k.reached; stands = stands; kept = k.kept; keeps = k.keeps; told_is = refl };
            leads = λ x y reached s e.
                ap (λ c. after_changes c (told_of_edit k.kept op)) (shown-as-kept old was h ran x reached s ∙ sym (shown-as-kept old was h ran k.whole k.reached stands))
                ∙ ap (after_changes (shown_content k.whole)) (edit-told k.kept taken.0 op taken.1)
                ∙ kept-tells-edits k.kept k.whole a.0 taken.0 op k.reached k.keeps a.1 taken.1
                ∙ next k.whole a.0 k.reached stands a.1 ∙ sym (next x y reached s e);
          }

      pub edit-tells-on : (result : Result (Unit {0}) EditFault) → Holds holds old was → AnswersOwn holds shown edit_fault_kind (λ p. local_edit p op) old new result
          → OnOk result (AddsTold holds (λ p. told_of_edit p op) old.client before after)
          → OnOk result (TellsChanges (λ x. local_edit x op) (λ x. told_of_edit x op) (state_of shown old) before after)
      edit-tells-on (Err fault) h a told = tt
      edit-tells-on (Ok u) h a told =
          let served = own-served holds shown shows edit_fault_kind (λ x. local_edit x op) old new was (Ok u) (edit-known op) h a in
          edit-tells u h served.keeps a.0 a.1 served.answers told
