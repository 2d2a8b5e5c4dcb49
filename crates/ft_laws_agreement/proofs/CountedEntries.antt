-- A client's number is that of the entries which it took.
use Rattle.std.proofs.Common.{◌≡◌, ℕ, suc, ◌+◌, ◌-◌, Bool, true, false, cond, not, ◌&&◌, nat_eq, nat_le, List, [], ◌∷◌, ◌++◌, Option, Some, None, Result, Ok, Err, drop, length, take, refl, sym, ◌∙◌, ap, arith}
use Rattle.ft_base.specs.Scan.{at, len}
use Rattle.ft_op.specs.declared.operations.BaseOp.{BaseOp}
use Rattle.ft_op.specs.declared.operations.BaseOp.TheVariants.{Insert, Remove, Annotate}
use Rattle.ft_op.specs.declared.operations.CellOp.{CellOp}
use Rattle.ft_op.specs.declared.operations.CellOp.TheVariants.{SpliceIn, SpliceOut, Set}
use Rattle.ft_op.specs.declared.operations.ChannelOp.{ChannelOp}
use Rattle.ft_op.specs.declared.operations.Target.TheVariants.{Rows, Cols}
use Rattle.ft_op.specs.declared.operations.TextOp.{TextOp}
use Rattle.ft_msg.specs.declared.faults.EditFault.{EditFault}
use Rattle.ft_msg.specs.declared.faults.EditFault.TheVariants.{OutOfRange}
use Rattle.ft_msg.specs.declared.faults.ProcessFault.{ProcessFault}
use Rattle.ft_msg.specs.declared.messages.Body.TheVariants.{Nothing}
use Rattle.ft_msg.specs.declared.messages.Entry.{Entry}
use Rattle.ft_msg.specs.declared.views.Link.{Link}
use Rattle.ft_msg.specs.declared.views.Link.TheVariants.{Offline, Joining, Online}
use Rattle.ft_props.specs.Element.{ListElement, id, seen}
use Rattle.ft_op.specs.Operation.{OnGrid, OnIntervals, OnText, SubOperation, sub_operations}
use Rattle.ft_op.specs.Intervals.{NamedElements, no_elements}
use Rattle.ft_op.specs.Document.{Document, elements_at_given_ends, empty, ends_of, given_ends_fit}
use Rattle.ft_op.specs.Stages.{Stage, shown_intervals}
use Rattle.ft_msg.specs.Client.{EditResult, NaiveClient, PendingEdit, after_edit, client_over, connect, drop_link, id_fault, if_in_range, local_edit, local_grid, local_interval, local_set, local_sub_operation, local_sub_operations, local_text, noop, sent_as, stages_of, unless_fault}
use Rattle.ft_msg.specs.Acknowledgement.{after_own_message}
use Rattle.ft_msg.specs.Process.{after_entry, after_foreign_message, come_online, is_op, is_own, is_own_join, process, process_fault}
use Rattle.ft_msg.specs.ClientSteps.{ClientStep, Edits, Connects, Drops, Idles, Sends, Restarts, Takes, after_step, after_steps, is_without_edits, taken_entries}
use Rattle.ft_laws_agreement.proofs.ClientHolds.{draft-doc}
use Rattle.ft_laws_agreement.proofs.ClientsAgree.{refused-ok}
use Rattle.ft_laws_agreement.proofs.OwnSubOperations.{ok-choice}
use Rattle.ft_laws_agreement.proofs.NumberTests.{same_number}

-- ---- an edit of the client's own keeps the number

range-number : (p n : ℕ) (doc after : Document) (taken : Document × NamedElements) → after.number ≡ doc.number → if_in_range p n after ≡ Ok taken → taken.0.number ≡ doc.number
range-number p n doc after taken e h =
    let c = ok-choice (nat_le p n) (after, no_elements) taken (OutOfRange n) h in
    ap (λ (z : Document × NamedElements). z.0.number) (sym c.1) ∙ e

text-number : (doc : Document) (k : ℕ) (op : BaseOp) (taken : Document × NamedElements) → local_text doc k op ≡ Ok taken → taken.0.number ≡ doc.number
text-number doc k (Insert p seg props) taken h = range-number p (len (seen (k - 1)) doc.text.items) doc _ taken refl h
text-number doc k (Remove p q) taken h = range-number q (len (seen (k - 1)) doc.text.items) doc _ taken refl h
text-number doc k (Annotate p q changes) taken h = range-number q (len (seen (k - 1)) doc.text.items) doc _ taken refl h

unless-number : (fault : Option EditFault) (r : EditResult) (taken : Document × NamedElements) → unless_fault fault r ≡ Ok taken → r ≡ Ok taken
unless-number None r taken h = h
unless-number (Some fault) r taken h = (cc)

interval-number : (doc : Document) (stages : List Stage) (k : ℕ) (op : TextOp) (taken : Document × NamedElements) → local_interval doc stages k op ≡ Ok taken
    → taken.0.number ≡ doc.number
interval-number doc stages k op taken h =
    let n = len (seen (k - 1)) doc.text.items in
    let names = elements_at_given_ends (seen (k - 1)) doc.text.items (ends_of op) in
    let answer : EditResult = cond (given_ends_fit n (ends_of op)) (Ok (doc, names)) (Err (OutOfRange n)) in
    let c = ok-choice (given_ends_fit n (ends_of op)) (doc, names) taken (OutOfRange n)
    (unless-number (id_fault (shown_intervals doc.text.items doc.intervals stages) op) answer taken h) in
    ap (λ (z : Document × NamedElements). z.0.number) (sym c.1)

set-number : (doc : Document) (k : ℕ) (row col : Option ListElement) (taken : Document × NamedElements) → local_set doc k row col ≡ Ok taken → taken.0.number ≡ doc.number
set-number doc k (Some row) (Some col) taken h =
    let names : NamedElements = record { first = Some (id row); second = Some (id col) } in
    let same : (doc, names) ≡ taken = (cc) in
    ap (λ (z : Document × NamedElements). z.0.number) (sym same)
set-number doc k None col taken h = (cc)
set-number doc k (Some row) None taken h = (cc)

grid-number : (doc : Document) (k : ℕ) (op : CellOp) (taken : Document × NamedElements) → local_grid doc k op ≡ Ok taken → taken.0.number ≡ doc.number
grid-number doc k (SpliceIn Rows p count) taken h = range-number p (len (seen (k - 1)) doc.rows.items) doc _ taken refl h
grid-number doc k (SpliceIn Cols p count) taken h = range-number p (len (seen (k - 1)) doc.cols.items) doc _ taken refl h
grid-number doc k (SpliceOut Rows p q) taken h = range-number q (len (seen (k - 1)) doc.rows.items) doc _ taken refl h
grid-number doc k (SpliceOut Cols p q) taken h = range-number q (len (seen (k - 1)) doc.cols.items) doc _ taken refl h
grid-number doc k (Set i j value) taken h = set-number doc k (at (seen (k - 1)) i doc.rows.items) (at (seen (k - 1)) j doc.cols.items) taken h

one-number : (doc : Document) (stages : List Stage) (k : ℕ) (o : SubOperation) (taken : Document × NamedElements) → local_sub_operation doc stages k o
    ≡ Ok taken → taken.0.number ≡ doc.number
one-number doc stages k (OnText op) taken h = text-number doc k op taken h
one-number doc stages k (OnIntervals op) taken h = interval-number doc stages k op taken h
one-number doc stages k (OnGrid op) taken h = grid-number doc k op taken h

abbrev pub with_first : Stage → Result (Document × List Stage) EditFault → Result (Document × List Stage) EditFault
with_first here (Err fault) = Err fault
with_first here (Ok rest) = Ok (rest.0, here ∷ rest.1)

rest-number : (n : ℕ) (here : Stage) (r : Result (Document × List Stage) EditFault) (taken : Document × List Stage)
    → ((rest : Document × List Stage) → r ≡ Ok rest → rest.0.number ≡ n) → with_first here r ≡ Ok taken → taken.0.number ≡ n
rest-number n here (Err fault) taken f h = (cc)
rest-number n here (Ok rest) taken f h =
    let same : (rest.0, here ∷ rest.1) ≡ taken = (cc) in
    ap (λ (z : Document × List Stage). z.0.number) (sym same) ∙ f rest refl

abbrev pub after_first : List Stage → ℕ → SubOperation → List SubOperation → EditResult → Result (Document × List Stage) EditFault
after_first stages k o os (Err fault) = Err fault
after_first stages k o os (Ok taken) =
    with_first (record { stage = k; sub_operation = o; names = taken.1 }) (local_sub_operations taken.0
    (stages ++ (record { stage = k; sub_operation = o; names = taken.1 } ∷ [])) (k + 1) os)

all-number : (os : List SubOperation) (doc : Document) (stages : List Stage) (k : ℕ) (taken : Document × List Stage) → local_sub_operations doc stages k os
    ≡ Ok taken → taken.0.number ≡ doc.number
all-number [] doc stages k taken h =
    let bare : List Stage = [] in
    let same : (doc, bare) ≡ taken = (cc) in
    ap (λ (z : Document × List Stage). z.0.number) (sym same)
all-number (o ∷ os) doc stages k taken h =
    first (λ d ss rest. all-number os d ss (k + 1) rest) (local_sub_operation doc stages k o) refl h
  where
    first : ((d : Document) (ss : List Stage) (rest : Document × List Stage) → local_sub_operations d ss (k + 1) os ≡ Ok rest → rest.0.number ≡ d.number)
        → (r : EditResult) → local_sub_operation doc stages k o ≡ r
        → after_first stages k o os r ≡ Ok taken → taken.0.number ≡ doc.number
    first ih (Err fault) e g = (cc)
    first ih (Ok one) e g =
        let here : Stage = record { stage = k; sub_operation = o; names = one.1 } in
        rest-number doc.number here (local_sub_operations one.0 (stages ++ (here ∷ [])) (k + 1) os) taken
        (λ rest f. ih one.0 (stages ++ (here ∷ [])) rest f ∙ one-number doc stages k o one e) g

abbrev pub edited : NaiveClient → ChannelOp → Result (Document × List Stage) EditFault → Result NaiveClient EditFault
edited x op (Err fault) = Err fault
edited x op (Ok taken) = Ok (after_edit op taken.0 taken.1 x)

edit-number : (x z : NaiveClient) (op : ChannelOp) (r : Result (Document × List Stage) EditFault)
    → local_sub_operations x.doc (stages_of x) (x.last_stage + 1) (sub_operations op) ≡ r → edited x op r ≡ Ok z → z.doc.number ≡ x.doc.number
edit-number x z op (Err fault) e h = (cc)
edit-number x z op (Ok taken) e h =
    let same : after_edit op taken.0 taken.1 x ≡ z = (cc) in
    ap (λ (y : NaiveClient). y.doc.number) (sym same)
    ∙ ap (λ (d : Document). d.number) (draft-doc (sent_as x.link x.next_client_seq op) x.doc.number _)
    ∙ all-number (sub_operations op) x.doc (stages_of x) (x.last_stage + 1) taken e

-- ---- links

connect-number : (x z : NaiveClient) (conn : ℕ) (link : Link) → connect (record x { link = link }) conn ≡ Ok z → z.doc.number ≡ x.doc.number
connect-number x z conn Offline h = ap (λ (y : NaiveClient). y.doc.number) (sym same)
  where
    same : record x { link = Joining conn; conns = x.conns ++ (conn ∷ []); next_client_seq = 1 } ≡ z
    same = (cc)
connect-number x z conn (Joining d) h = (cc)
connect-number x z conn (Online d) h = (cc)

dropped-number : (x z : NaiveClient) → record x { link = Offline; queue = [] } ≡ z → z.doc.number ≡ x.doc.number
dropped-number x z same = ap (λ (y : NaiveClient). y.doc.number) (sym same)

drop-number : (x z : NaiveClient) (link : Link) → drop_link (record x { link = link }) ≡ Ok z → z.doc.number ≡ x.doc.number
drop-number x z Offline h = (cc)
drop-number x z (Joining d) h = dropped-number x z (cc)
drop-number x z (Online d) h = dropped-number x z (cc)

noop-number : (x z : NaiveClient) (link : Link) → noop (record x { link = link }) ≡ Ok z → z.doc.number ≡ x.doc.number
noop-number x z Offline h = (cc)
noop-number x z (Joining d) h = (cc)
noop-number x z (Online d) h = ap (λ (y : NaiveClient). y.doc.number) (sym same)
  where
    same : record x {
      link = Online d;
      next_client_seq = x.next_client_seq + 1;
      queue = x.queue ++
          (record { client_seq = x.next_client_seq; ref_seq = x.doc.number; body = Nothing } ∷ []);
    } ≡ z
    same = (cc)

-- ---- an entry

entry-number : (x : NaiveClient) (entry : Entry) (b o : Bool) → (cond b (come_online x entry)
    (cond o (after_own_message x entry) (after_foreign_message x entry))).doc.number ≡ entry.msg.seq
entry-number x entry true o = refl
entry-number x entry false true = own x.pending
  where
    own : (edits : List PendingEdit) → (after_own_message (record x { pending = edits }) entry).doc.number ≡ entry.msg.seq
    own [] = refl
    own (edit ∷ edits) = refl
entry-number x entry false false = refl

next-one : (b : Bool) (fault : ProcessFault) (later : Option ProcessFault) → cond (not b) (Some fault) later ≡ None → b ≡ true
next-one true fault later h = refl
next-one false fault later h = (cc)

abbrev processed : NaiveClient → Entry → Option ProcessFault → Result NaiveClient ProcessFault
processed x entry (Some fault) = Err fault
processed x entry None = Ok (after_entry x entry)

process-number : (x z : NaiveClient) (entry : Entry) (fault : Option ProcessFault) → process_fault x entry ≡ fault → processed x entry fault ≡ Ok z
    → z.doc.number ≡ x.doc.number + 1
process-number x z entry (Some fault) e h = (cc)
process-number x z entry None e h =
    let same : after_entry x entry ≡ z = (cc) in
    ap (λ (y : NaiveClient). y.doc.number) (sym same)
    ∙ entry-number x entry (is_own_join x.link entry.msg.kind entry.origin) (is_op entry.msg.body && is_own x entry)
    ∙ same_number entry.msg.seq (x.doc.number + 1) (next-one (nat_eq entry.msg.seq (x.doc.number + 1)) _ _ e)

-- ---- all steps

restart-number : (x z : NaiveClient) (b : Bool) → cond b (Some (client_over x.doc)) None ≡ Some z → z.doc.number ≡ x.doc.number
restart-number x z true h = ap (λ (y : NaiveClient). y.doc.number) (sym same)
  where
    same : client_over x.doc ≡ z
    same = (cc)
restart-number x z false h = (cc)

then-counted : (n m : ℕ) (steps : List ClientStep) (y : NaiveClient) (o : Option NaiveClient) → ((z : NaiveClient) → o ≡ Some z → z.doc.number ≡ n)
    → ((z : NaiveClient) → after_steps (Some z) steps ≡ Some y → y.doc.number ≡ z.doc.number + m) → after_steps o steps ≡ Some y → y.doc.number ≡ n + m
then-counted n m steps y None f g h = (cc)
then-counted n m steps y (Some z) f g h = g z h ∙ ap (λ i. i + m) (f z refl)

one-more : (n m : ℕ) → n + 1 + m ≡ n + suc m
one-more n m = omega arith

pub steps-counted : (steps : List ClientStep) (x y : NaiveClient) → after_steps (Some x) steps ≡ Some y → y.doc.number ≡ x.doc.number + length (taken_entries steps)
steps-counted [] x y h =
    let same : x ≡ y = (cc) in
    let number : y.doc.number ≡ x.doc.number = ap (λ (z : NaiveClient). z.doc.number) (sym same) in
    omega arith
steps-counted (Edits op ∷ steps) x y h =
    then-counted x.doc.number (length (taken_entries steps)) steps y (after_step x (Edits op))
    (λ z e. edit-number x z op (local_sub_operations x.doc (stages_of x) (x.last_stage + 1) (sub_operations op)) refl (refused-ok (local_edit x op) z e))
    (λ z g. steps-counted steps z y g) h
steps-counted (Connects conn ∷ steps) x y h =
    then-counted x.doc.number (length (taken_entries steps)) steps y (after_step x (Connects conn))
    (λ z e. connect-number x z conn x.link (refused-ok (connect x conn) z e)) (λ z g. steps-counted steps z y g) h
steps-counted (Drops ∷ steps) x y h =
    then-counted x.doc.number (length (taken_entries steps)) steps y (after_step x Drops) (λ z e. drop-number x z x.link (refused-ok (drop_link x) z e))
    (λ z g. steps-counted steps z y g) h
steps-counted (Idles ∷ steps) x y h =
    then-counted x.doc.number (length (taken_entries steps)) steps y (after_step x Idles) (λ z e. noop-number x z x.link (refused-ok (noop x) z e))
    (λ z g. steps-counted steps z y g) h
steps-counted (Sends ∷ steps) x y h = steps-counted steps (record x { queue = drop 1 x.queue }) y h
steps-counted (Restarts ∷ steps) x y h =
    then-counted x.doc.number (length (taken_entries steps)) steps y (after_step x Restarts) (λ z e. restart-number x z (is_without_edits x) e) (λ z g. steps-counted steps z y g) h
steps-counted (Takes entry ∷ steps) x y h =
    then-counted (x.doc.number + 1) (length (taken_entries steps)) steps y (after_step x (Takes entry))
    (λ z e. process-number x z entry (process_fault x entry) refl (refused-ok (process x entry) z e)) (λ z g. steps-counted steps z y g) h
    ∙ one-more x.doc.number (length (taken_entries steps))

-- from the empty document on
pub entries-counted : (steps : List ClientStep) (y : NaiveClient) → after_steps (Some (client_over empty)) steps ≡ Some y → y.doc.number ≡ length (taken_entries steps)
entries-counted steps y h = let e = steps-counted steps (client_over empty) y h in omega arith

-- so the entries are the first ones of each log that begins with them
pub first-taken : {A : Type 0} (xs ys : List A) → take (length xs) (xs ++ ys) ≡ xs
first-taken [] ys = refl
first-taken (x ∷ xs) ys = ap (λ zs. x ∷ zs) (first-taken xs ys)
