-- What a compacted client tells leads on the editor of the whole one.
use Rattle.std.proofs.Common.{◌≡◌, true, ◌&&◌, [], Result, Ok, Err, refl, sym, ◌∙◌, ap, subst}
use Rattle.ft_op.specs.declared.operations.ChannelOp.{ChannelOp}
use Rattle.ft_op.specs.Document.{Document}
use Rattle.ft_op.specs.Intervals.{interval_cmp}
use Rattle.ft_msg.specs.declared.faults.EditFault.{EditFault}
use Rattle.ft_msg.specs.declared.messages.Entry.{Entry}
use Rattle.ft_msg.specs.Client.{NaiveClient, local_edit}
use Rattle.ft_msg.specs.ClientSteps.{Edits, Takes, has_fitting_body, unless_refused}
use Rattle.ft_msg.specs.Compacted.{IsCompacted}
use Rattle.ft_msg.specs.Process.{is_op, is_own, is_own_join, process}
use Rattle.ft_msg.specs.Reached.{IsReached}
use Rattle.ft_msg.proofs.ReachedSteps.{reached-after}
use Rattle.ft_laws_compaction.specs.Keeping.{AnswersAlike, ShowAlike, refused, taken}
use Rattle.ft_laws_compaction.proofs.AllSteps.{reached-sound}
use Rattle.ft_laws_compaction.proofs.KeptReady.{kept-ready}
use Rattle.ft_laws_compaction.proofs.KeptSteps.{edits-answer, entries-answer}
use Rattle.ft_laws_compaction.proofs.Runs.{run-facts}
use Rattle.ft_laws_compaction.proofs.SameContent.{show-alike}
use Rattle.ft_changes.specs.Laws.{ShowsInPlaceOf}
use Rattle.ft_changes.specs.Shown.{after_changes, shown_content}
use Rattle.ft_changes.specs.Told.{told_edit, told_of_entry}
use Rattle.ft_changes.proofs.KeptClients.{kept-is-shown, told-by-stand-in}
use Rattle.ft_changes.proofs.LocalLaw.{told-edit-leads}
use Rattle.ft_changes.proofs.NothingTold.{ack-in-place, join-in-place}
use Rattle.ft_changes.proofs.OrderedIntervals.{reached-rise}
use Rattle.ft_changes.proofs.ToldItems.{Rise}
use Rattle.ft_changes.proofs.ToldLaw.{processed}

-- where the whole client takes a step, the other takes it and keeps it
pub alike-taken : {E : Type 0} {a b : Result NaiveClient E} (y : NaiveClient) → AnswersAlike E a b → b ≡ Ok y → (z : NaiveClient) × ((a
    ≡ Ok z) × IsCompacted z y)
alike-taken y (refused fault) e = absurd (cc)
alike-taken {E} y (taken kept x k) e =
    (kept, (refl, subst (IsCompacted kept) (ap (λ (r : Result NaiveClient E). elim r as (λ _. NaiveClient) [ Ok u ↦ u | Err f ↦ x ]) e) k))

shows-alike : (kept x : NaiveClient) → IsReached x → IsCompacted kept x → ShowAlike kept x
shows-alike kept x reached k = show-alike kept x (run-facts reached.steps x (reached-sound x reached)) k

shown-alike : (kept x : NaiveClient) → IsReached x → IsCompacted kept x → shown_content kept ≡ shown_content x
shown-alike kept x reached k = kept-is-shown kept x k (shows-alike kept x reached k).content

-- it shows the same before the entry and after it
pub in-place-of : (kept x y : NaiveClient) (entry : Entry) → IsReached x → IsCompacted kept x → has_fitting_body entry ≡ true → process x entry
    ≡ Ok y → ShowsInPlaceOf kept x entry
in-place-of kept x y entry reached k fits e =
    let answer = alike-taken y (entries-answer reached.steps x kept entry (reached-sound x reached) k fits) e in
    let z = answer.0 in
    let next : IsReached y = reached-after x y (Takes entry) reached (ap unless_refused e) (rw fits refl) in
    let alike = shows-alike kept x reached k in
    record {
      shown = shown-alike kept x reached k;
      after = ap shown_content (processed kept z entry answer.1.0) ∙ shown-alike z y next answer.1.1 ∙ ap shown_content (sym (processed x y entry e));
      link = alike.link;
      conns = alike.conns;
    }

pub kept-tells : (kept x y : NaiveClient) (entry : Entry) → IsReached x → IsCompacted kept x → has_fitting_body entry ≡ true → process x entry ≡ Ok y
    → after_changes (shown_content x) (told_of_entry kept entry) ≡ shown_content y
kept-tells kept x y entry reached k fits e = told-by-stand-in kept x y entry reached (in-place-of kept x y entry reached k fits e) e

-- it tells nothing of its own join, and of its own message as that comes back
pub kept-join-tells-nothing : (kept x y : NaiveClient) (entry : Entry) → IsReached x → IsCompacted kept x → has_fitting_body entry ≡ true
    → process x entry ≡ Ok y
    → is_own_join kept.link entry.msg.kind entry.origin ≡ true → told_of_entry kept entry ≡ []
kept-join-tells-nothing kept x y entry reached k fits e own = join-in-place kept x entry reached (in-place-of kept x y entry reached k fits e) own

pub kept-ack-tells-nothing : (kept x y : NaiveClient) (entry : Entry) → IsReached x → IsCompacted kept x → has_fitting_body entry ≡ true
    → process x entry ≡ Ok y
    → is_op entry.msg.body && is_own kept entry ≡ true → told_of_entry kept entry ≡ []
kept-ack-tells-nothing kept x y entry reached k fits e own = ack-in-place kept x entry reached (in-place-of kept x y entry reached k fits e) y fits e
    own

pub kept-tells-edits : (kept x y z : NaiveClient) (op : ChannelOp) → IsReached x → IsCompacted kept x → local_edit x op ≡ Ok y → local_edit kept op
    ≡ Ok z
    → after_changes (shown_content x) (told_edit kept z op) ≡ shown_content y
kept-tells-edits kept x y z op reached k e d =
    let answer = alike-taken y (edits-answer reached.steps x kept op (reached-sound x reached) k) e in
    let w = answer.0 in
    let same : w ≡ z = ap (λ (r : Result NaiveClient EditFault). elim r as (λ _. NaiveClient) [ Ok u ↦ u | Err f ↦ w ]) (sym answer.1.0 ∙ d) in
    let next : IsReached y = reached-after x y (Edits op) reached (ap unless_refused e) refl in
    let rise : Rise interval_cmp kept.doc.intervals = subst (Rise interval_cmp) (sym (ap (λ (doc : Document). doc.intervals) k.doc.rest))
    (reached-rise x reached) in
    ap (λ s. after_changes s (told_edit kept z op)) (sym (shown-alike kept x reached k))
    ∙ told-edit-leads kept z op (kept-ready reached.steps x kept (reached-sound x reached) k) rise d
    ∙ ap shown_content (sym same) ∙ shown-alike w y next answer.1.1
