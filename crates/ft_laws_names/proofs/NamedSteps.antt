-- Steps of well named clients, and of each client that its steps made.
use Rattle.std.proofs.Common.{◌≡◌, ℕ, Bool, true, false, cond, List, [], ◌∷◌, Option, Some, None, Result, Ok, Err, drop, refl, ap, subst, arith}
use Rattle.ft_op.specs.declared.operations.ChannelOp.{ChannelOp}
use Rattle.ft_msg.specs.declared.faults.EditFault.{EditFault}
use Rattle.ft_msg.specs.declared.faults.LinkFault.{LinkFault}
use Rattle.ft_msg.specs.declared.faults.ProcessFault.{ProcessFault}
use Rattle.ft_msg.specs.declared.messages.Entry.{Entry}
use Rattle.ft_base.specs.Scan.{len}
use Rattle.ft_props.specs.Steps.{Sequence, is_inserted_by}
use Rattle.ft_op.specs.Document.{Document}
use Rattle.ft_msg.specs.Client.{NaiveClient, PendingEdit, client_over, connect, drop_link, local_edit, noop}
use Rattle.ft_msg.specs.Process.{process}
use Rattle.ft_msg.specs.Reached.{IsReached}
use Rattle.ft_msg.specs.Indexed.{IndexedClient, IndexedDocument, indexed_client}
use Rattle.ft_laws_agreement.specs.Starts.{IsRunFrom}
use Rattle.ft_laws_agreement.proofs.SummaryStarts.{reached-run}
use Rattle.ft_laws_names.proofs.NamedStarts.{start-named}
use Rattle.ft_msg.specs.ClientSteps.{ClientStep, Edits, Connects, Drops, Idles, Sends, Restarts, Takes, after_step, after_steps, is_none_pending, is_without_edits, unless_refused}
use Rattle.ft_laws_names.specs.WellNamed.{HasItsStages, IsWellNamed, IsWellNumbered}
use Rattle.ft_laws_names.specs.Renaming.{AnswersUpToNames, DifferInNames, ShowTheSame, refused, taken}
use Rattle.ft_laws_names.proofs.ClientsAlike.{AnswersTwice, ClientsAlike, both_refuse, both_take, connects-alike, drops-alike, edits-alike, entries-alike, idles-alike, sends-alike}
use Rattle.ft_laws_names.proofs.Indexing.{alike-itself, client-indexed, indexed-alike, well-named}
use Rattle.ft_laws_names.proofs.RejoinAlike.{stages_in}
use Rattle.ft_laws_names.proofs.ViewsAlike.{blame-alike, content-alike, drafts-alike, overlap-alike}

-- ---- one step

pub alike-of : (p q : NaiveClient) → DifferInNames p q → ClientsAlike p q
alike-of p q h = indexed-alike p q h.left h.right h.same

module _ (E : Type 0) where
  -- a step of a well named client beside itself says that it stays so
  pub named-after : {r s : Result NaiveClient E} (y : NaiveClient) → AnswersTwice E r s → r ≡ Ok y → IsWellNamed y
  named-after y (both_refuse fault) e = (cc)
  named-after y (both_take x z c) e =
      let same : x ≡ y = (cc) in
      subst IsWellNamed same (well-named x z c)

  pub answers-of : {r s : Result NaiveClient E} → AnswersTwice E r r → AnswersTwice E s s → AnswersTwice E r s → AnswersUpToNames E r s
  answers-of a b (both_refuse fault) = refused fault
  answers-of a b (both_take x y c) = taken x y (record { left = named-after x a refl; right = named-after y b refl; same = client-indexed x y c })

pub sends-of : (p q : NaiveClient) → DifferInNames p q → DifferInNames (record p { queue = drop 1 p.queue }) (record q { queue = drop 1 q.queue })
sends-of p q h = record {
  left = well-named _ _ (sends-alike p p (alike-itself p h.left));
  right = well-named _ _ (sends-alike q q (alike-itself q h.right));
  same = client-indexed _ _ (sends-alike p q (alike-of p q h));
}

-- a client without edits has no pending element
restarted-list : (last : ℕ) (list : Sequence) → IsWellNumbered last list → ((k : ℕ) → len (is_inserted_by k) list.items ≡ 0) → IsWellNumbered 0 list
restarted-list last list h none = record { once = h.once; below = h.below; counted = h.counted; stages = λ k l. none k; removals = h.removals }

restarted : (x : NaiveClient) (es : List PendingEdit) → is_none_pending es ≡ true → IsWellNamed x → HasItsStages (stages_in es) x.doc → IsWellNamed (client_over x.doc)
restarted x [] e h own = record {
  text = restarted-list x.last_stage x.doc.text h.text (λ k. own.text k refl);
  rows = restarted-list x.last_stage x.doc.rows h.rows (λ k. own.rows k refl);
  cols = restarted-list x.last_stage x.doc.cols h.cols (λ k. own.cols k refl);
  intervals = h.intervals;
  cells = h.cells;
  stages = tt;
  own = own;
  rise = omega arith;
}
restarted x (i ∷ es) e h own = (cc)

pub restart-named : (x : NaiveClient) → IsWellNamed x → is_without_edits x ≡ true → IsWellNamed (client_over x.doc)
restart-named x h e = restarted x x.pending e h h.own

pub restarts-of : (p q : NaiveClient) → DifferInNames p q → is_without_edits p ≡ true → DifferInNames (client_over p.doc) (client_over q.doc)
restarts-of p q h e = record {
  left = restart-named p h.left e;
  right = restart-named q h.right (same-edits p.pending q.pending (ap (λ (c : IndexedClient). c.pending) h.same) e);
  same = ap (λ (d : IndexedDocument). record (indexed_client (client_over p.doc)) { doc = d }) (ap (λ (c : IndexedClient). c.doc) h.same);
}
  where
    same-edits : (es fs : List PendingEdit) → (indexed_client (record p { pending = es })).pending ≡ (indexed_client (record q { pending = fs })).pending
        → is_none_pending es ≡ true → is_none_pending fs ≡ true
    same-edits [] [] g n = refl
    same-edits [] (f ∷ fs) g n = (cc)
    same-edits (e ∷ es) fs g n = (cc)

pub views-of : (p q : NaiveClient) → DifferInNames p q → ShowTheSame p q
views-of p q h =
    let c = alike-of p q h in
    record { content = content-alike p q c; overlap = λ label a b. overlap-alike p q c label a b; blame = blame-alike p q c; regenerated = drafts-alike p q c }

-- ---- all steps

ok-step : {E : Type 0} {r : Result NaiveClient E} (y : NaiveClient) → unless_refused r ≡ Some y → r ≡ Ok y
ok-step {r = Ok x} y e = (cc)
ok-step {r = Err fault} y e = (cc)

pub step-named : (x y : NaiveClient) (step : ClientStep) → IsWellNamed x → after_step x step ≡ Some y → IsWellNamed y
step-named x y (Edits op) h e = named-after _ y (edits-alike x x (alike-itself x h) op) (ok-step y e)
step-named x y (Connects conn) h e = named-after _ y (connects-alike x x (alike-itself x h) conn) (ok-step y e)
step-named x y Drops h e = named-after _ y (drops-alike x x (alike-itself x h)) (ok-step y e)
step-named x y Idles h e = named-after _ y (idles-alike x x (alike-itself x h)) (ok-step y e)
step-named x y Sends h e =
    let same : record x { queue = drop 1 x.queue } ≡ y = (cc) in
    subst IsWellNamed same (well-named _ _ (sends-alike x x (alike-itself x h)))
step-named x y Restarts h e = step (is_without_edits x) refl e
  where
    step : (b : Bool) → is_without_edits x ≡ b → cond b (Some (client_over x.doc)) None ≡ Some y → IsWellNamed y
    step true f g =
        let same : client_over x.doc ≡ y = (cc) in
        subst IsWellNamed same (restart-named x h f)
    step false f g = (cc)
step-named x y (Takes entry) h e = named-after _ y (entries-alike x x (alike-itself x h) entry) (ok-step y e)

steps-named : (steps : List ClientStep) (o : Option NaiveClient) (x : NaiveClient) → ((z : NaiveClient) → o ≡ Some z → IsWellNamed z) → after_steps o steps ≡ Some x → IsWellNamed x
steps-named steps None x f e = (cc)
steps-named [] (Some z) x f e =
    let same : z ≡ x = (cc) in
    subst IsWellNamed same (f z refl)
steps-named (step ∷ steps) (Some z) x f e = steps-named steps (after_step z step) x (λ y g. step-named z y step (f z refl) g) e

pub run-named : (start : Document) (steps : List ClientStep) (x : NaiveClient) → IsRunFrom start steps x → IsWellNamed x
run-named start steps x run = steps-named steps (Some (client_over start)) x (λ z e. from z e) run.made
  where
    from : (z : NaiveClient) → Some (client_over start) ≡ Some z → IsWellNamed z
    from z e =
        let same : client_over start ≡ z = (cc) in
        subst IsWellNamed same (start-named start run.sound)

-- each client of which promises speak is
pub reached-named : (x : NaiveClient) (r : IsReached x) → IsWellNamed x
reached-named x r = run-named r.start r.steps x (reached-run x r)

-- ---- both answers

pub edits-of : (p q : NaiveClient) (op : ChannelOp) → DifferInNames p q → AnswersUpToNames EditFault (local_edit p op) (local_edit q op)
edits-of p q op h = answers-of _ (edits-alike p p (alike-itself p h.left) op) (edits-alike q q (alike-itself q h.right) op) (edits-alike p q (alike-of p q h) op)

pub entries-of : (p q : NaiveClient) (entry : Entry) → DifferInNames p q → AnswersUpToNames ProcessFault (process p entry) (process q entry)
entries-of p q entry h = answers-of _ (entries-alike p p (alike-itself p h.left) entry) (entries-alike q q (alike-itself q h.right) entry)
    (entries-alike p q (alike-of p q h) entry)

pub connects-of : (p q : NaiveClient) (conn : ℕ) → DifferInNames p q → AnswersUpToNames LinkFault (connect p conn) (connect q conn)
connects-of p q conn h = answers-of _ (connects-alike p p (alike-itself p h.left) conn) (connects-alike q q (alike-itself q h.right) conn)
    (connects-alike p q (alike-of p q h) conn)

pub drops-of : (p q : NaiveClient) → DifferInNames p q → AnswersUpToNames LinkFault (drop_link p) (drop_link q)
drops-of p q h = answers-of _ (drops-alike p p (alike-itself p h.left)) (drops-alike q q (alike-itself q h.right)) (drops-alike p q (alike-of p q h))

pub idles-of : (p q : NaiveClient) → DifferInNames p q → AnswersUpToNames LinkFault (noop p) (noop q)
idles-of p q h = answers-of _ (idles-alike p p (alike-itself p h.left)) (idles-alike q q (alike-itself q h.right)) (idles-alike p q (alike-of p q h))
