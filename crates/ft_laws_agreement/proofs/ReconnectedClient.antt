-- A client that comes online sees at each stage what it saw before, and agrees as before.
use Rattle.std.proofs.Common.{◌≡◌, ℕ, ◌≤◌, true, List, Some, map, sym, ◌∙◌, ap, subst}
use Rattle.std.specs.List.{list_all}
use Rattle.ft_msg.specs.declared.messages.Entry.{Entry}
use Rattle.ft_op.specs.Document.{Document, empty, sequenced_part}
use Rattle.ft_msg.specs.Agreed.{agreed, take_entries, with_numbers}
use Rattle.ft_msg.specs.Client.{NaiveClient, client_over, stages_of}
use Rattle.ft_msg.specs.Process.{come_online}
use Rattle.ft_msg.specs.Reconnection.{rebuilt_document}
use Rattle.ft_msg.specs.ClientSteps.{ClientStep, after_steps, has_fitting_body, taken_entries}
use Rattle.ft_laws_agreement.proofs.ToldStages.{ToldStage}
use Rattle.ft_laws_agreement.proofs.ClientHolds.{ClientHolds, flat, holds-counted}
use Rattle.ft_laws_agreement.specs.Starts.{IsRunFrom}
use Rattle.ft_laws_agreement.proofs.ClientsAgree.{all-stepped-from, clients-agree-from, run-from-empty}
use Rattle.ft_laws_agreement.proofs.RebuiltDocument.{client-numbers, rebuilt-sequenced}
use Rattle.ft_laws_agreement.proofs.SideBySideStages.{SameViews, document-views}

online-views : (bound c k : ℕ) (gss : List (List ToldStage)) (x : NaiveClient) (entry : Entry) → ClientHolds bound c gss x → k ≤ x.last_stage
    → SameViews k x.doc (come_online x entry).doc
online-views bound c k gss x entry h l =
    let doc = with_numbers entry x.doc in
    let numbered = holds-counted c x.doc.number x.doc.number x.last_stage x.doc.skipped x.doc.other entry.msg.seq entry.msg.min (flat gss) x.doc h.doc in
    let views = document-views c x.doc.number x.doc.number x.last_stage k (flat gss) doc l numbered in
    let same : SameViews k doc (rebuilt_document (map (λ t. t.stage) (stages_of x)) doc) = subst (λ ks. SameViews k doc (rebuilt_document ks doc))
    (sym (client-numbers bound c gss x h)) views in
    record { text = same.text; rows = same.rows; cols = same.cols }

-- where a client comes online, what each of its stages sees stays
pub reconnection-keeps-views-from : (start : Document) (steps : List ClientStep) (x : NaiveClient) (entry : Entry) (k : ℕ) → IsRunFrom start steps x
    → k ≤ x.last_stage → SameViews k x.doc (come_online x entry).doc
reconnection-keeps-views-from start steps x entry k run l =
    let s = all-stepped-from start steps x run in
    online-views _ s.c k s.gss x entry s.client l

-- and it agrees with the numbers of the entry
pub reconnection-agrees-from : (start : Document) (steps : List ClientStep) (x : NaiveClient) (entry : Entry) → IsRunFrom start steps x
    → sequenced_part (come_online x entry).doc ≡ with_numbers entry (take_entries start (taken_entries steps))
reconnection-agrees-from start steps x entry run =
    rebuilt-sequenced (map (λ t. t.stage) (stages_of x)) (with_numbers entry x.doc) ∙ ap (with_numbers entry) (clients-agree-from start steps x run)

-- from the empty document on
pub reconnection-keeps-views : (steps : List ClientStep) (x : NaiveClient) (entry : Entry) (k : ℕ) → after_steps (Some (client_over empty)) steps ≡ Some x
    → list_all has_fitting_body (taken_entries steps) ≡ true
    → k ≤ x.last_stage → SameViews k x.doc (come_online x entry).doc
reconnection-keeps-views steps x entry k h fits l = reconnection-keeps-views-from empty steps x entry k (run-from-empty steps x h fits) l

pub reconnection-agrees : (steps : List ClientStep) (x : NaiveClient) (entry : Entry) → after_steps (Some (client_over empty)) steps ≡ Some x
    → list_all has_fitting_body (taken_entries steps) ≡ true
    → sequenced_part (come_online x entry).doc ≡ with_numbers entry (agreed (taken_entries steps))
reconnection-agrees steps x entry h fits = reconnection-agrees-from empty steps x entry (run-from-empty steps x h fits)
