-- What is told of an entry leads to the lists that are shown after it.
use Rattle.std.proofs.Common.{ℕ, Bool, true, false, cond, ◌&&◌, List, [], refl, sym, arith}
use Rattle.ft_msg.specs.declared.messages.Body.{Body}
use Rattle.ft_msg.specs.declared.messages.Body.TheVariants.{Nothing, Op, Elsewhere}
use Rattle.ft_msg.specs.declared.messages.Entry.{Entry}
use Rattle.ft_op.specs.Document.{Document}
use Rattle.ft_op.specs.Operation.{sub_operations}
use Rattle.ft_msg.specs.Agreed.{body_effect, reference_number}
use Rattle.ft_msg.specs.Client.{NaiveClient}
use Rattle.ft_msg.specs.Process.{after_entry, after_foreign_message, come_online, is_op, is_own, is_own_join}
use Rattle.ft_msg.specs.Acknowledgement.{after_own_message}
use Rattle.ft_msg.specs.Reached.{IsReached}
use Rattle.ft_laws_agreement.specs.Starts.{IsRunFrom}
use Rattle.ft_laws_agreement.proofs.EveryClientReady.{client-ready-from}
use Rattle.ft_laws_agreement.proofs.ReconnectedClient.{reconnection-keeps-views-from}
use Rattle.ft_laws_agreement.proofs.SummaryStarts.{reached-run}
use Rattle.ft_changes.specs.declared.changes.ViewChange.{ViewChange}
use Rattle.ft_changes.specs.Shown.{ShownContent, after_changes, shown_content}
use Rattle.ft_changes.specs.Told.{told_body, told_lists}
use Rattle.ft_changes.proofs.ForeignSteps.{ShowsLists, sub_operations-step}
use Rattle.ft_changes.proofs.OwnSteps.{own-message-lists, same-views-lists}

pub body-step : (k n c r : ℕ) (t : ShownContent) (doc : Document) (body : Body) → ShowsLists k t doc → ShowsLists k (after_changes t (told_body k doc n c r body)) (body_effect doc n c r body)
body-step k n c r t doc (Op op) h = sub_operations-step k n c r t doc (sub_operations op) h
body-step k n c r t doc Nothing h = h
body-step k n c r t doc (Elsewhere address) h = record { elements = h.elements; rows = h.rows; cols = h.cols }

pub after-lists : (x : NaiveClient) (entry : Entry) → IsReached x → ShowsLists x.last_stage (after_changes (shown_content x) (told_lists x entry)) (after_entry x entry).doc
after-lists x entry reached = by (is_own_join x.link entry.msg.kind entry.origin) (is_op entry.msg.body && is_own x entry)
  where
    foreign : List ViewChange
    foreign = told_body x.last_stage x.doc entry.msg.seq entry.origin (reference_number entry.msg.ref_seq) entry.msg.body

    run : IsRunFrom reached.start reached.steps x
    run = reached-run x reached

    by : (join own : Bool)
        → ShowsLists x.last_stage (after_changes (shown_content x) (cond join [] (cond own [] foreign)))
        (cond join (come_online x entry) (cond own (after_own_message x entry) (after_foreign_message x entry))).doc
    by true own =
        let v = reconnection-keeps-views-from reached.start reached.steps x entry x.last_stage run (omega arith) in
        let h = same-views-lists x.last_stage x.doc (come_online x entry).doc (record { text = v.text; rows = v.rows; cols = v.cols }) in
        record { elements = sym h.elements; rows = sym h.rows; cols = sym h.cols }
    by false true =
        let h = own-message-lists x entry (client-ready-from reached.start reached.steps x run) in
        record { elements = sym h.elements; rows = sym h.rows; cols = sym h.cols }
    by false false =
        let h = body-step x.last_stage entry.msg.seq entry.origin (reference_number entry.msg.ref_seq) (shown_content x) x.doc entry.msg.body (record { elements = refl; rows = refl; cols = refl }) in
        record { elements = h.elements; rows = h.rows; cols = h.cols }
