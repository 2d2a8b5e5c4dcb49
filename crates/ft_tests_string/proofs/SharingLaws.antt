-- A shared text holds the document of a client after each call.
use Rattle.std.proofs.Common.{◌≡◌, ◌≢◌, ℕ, ◌≤◌, ◌<◌, ◌+◌, ◌-◌, Bool, true, false, cond, not, ◌||◌, ◌&&◌, nat_eq, nat_le, nat_lt, List, [], ◌∷◌, ◌++◌, All, None, Some, Option, map, append-nil, append_assoc, length, pos, refl, sym, ◌∙◌, ap, subst, arith}
use Rattle.std.specs.List.{list_all, list_any, flat_map}
use Rattle.std.specs.Prelude.{Result, Ok, Err, IsTrue, OnOk, ◌^◌, ⊤}
use Rattle.std.proofs.lemmas.Bool.Decides.{nat_tests}
use Rattle.std.proofs.lemmas.Grind.{flat_map-append}
use Rattle.std.proofs.lemmas.List.Elements.{All-append, All-cons, All-head, All-nil, All-tail, All-weaker}
use Rattle.ft_base.proofs.Booleans.{both}
use Rattle.ft_base.specs.Scan.{len}
use Rattle.std.specs.Option.{option_map}
use Rattle.std.proofs.lemmas.Bool.{or_right}
use Rattle.ft_interval_store.proofs.Gathered.{any-append}
use Rattle.ft_named.proofs.Lists.{all-append, map-append}
use Rattle.ft_op.proofs.SameOperations.{same_int-Decides, same_op-Decides}
use Rattle.ft_op.specs.Same.{same_int}
use Rattle.ft_op.specs.declared.operations.BaseOp.{BaseOp}
use Rattle.ft_op.specs.declared.operations.BaseOp.TheVariants.{Annotate, Insert, Remove}
use Rattle.ft_op.specs.declared.operations.ChannelOp.{ChannelOp}
use Rattle.ft_op.specs.declared.operations.ChannelOp.TheVariants.{Text}
use Rattle.ft_op.specs.declared.operations.TextOp.{TextOp}
use Rattle.ft_op.specs.declared.operations.TextOp.TheVariants.{One, Group, IntervalAdd, IntervalChange, IntervalDelete}
use Rattle.ft_op.specs.Document.{Document, effects, elements_at_given_ends, empty, ends_of, given_ends_fit}
use Rattle.ft_op.specs.Intervals.{NamedElements, no_elements, settle_elements}
use Rattle.ft_op.specs.Operation.{OnGrid, OnIntervals, OnText, SubOperation, text_sub_operations}
use Rattle.ft_op.specs.Stages.{Stage, shown_intervals}
use Rattle.ft_props.specs.Element.{ElementId, seen}
use Rattle.ft_laws_agreement.proofs.CountedEntries.{after_first, with_first}
use Rattle.ft_laws_agreement.proofs.OwnSubOperations.{ok-choice}
use Rattle.ft_laws_compaction.specs.Keeping.{IsMadeOrKept}
use Rattle.ft_laws_compaction.proofs.FloorSteps.{kept-next, references-kept}
use Rattle.ft_msg.specs.declared.faults.EditFault.{EditFault}
use Rattle.ft_msg.specs.declared.faults.EditFault.TheVariants.{OutOfRange}
use Rattle.ft_msg.specs.Acknowledgement.{ack_stages, renamed_edit, renamed_stage}
use Rattle.ft_msg.specs.Client.{EditResult, NaiveClient, PendingEdit, SentAs, after_edit, client_over, id_fault, if_in_range, local_interval, local_sub_operation, local_sub_operations, local_text, stages_of, unless_fault}
use Rattle.ft_msg.specs.ClientSteps.{Connects, Drops, Edits, Takes, after_step, after_steps, unless_refused}
use Rattle.ft_msg.specs.Reached.{from_nothing}
use Rattle.ft_msg.specs.Reconnection.{carried_stage, rebuilt, rebuilt_document, regenerated_edit, resubmitted_edit, resubmitted_edits}
use Rattle.ft_msg.proofs.ReplicaStarts.{keeps-itself}
use Rattle.ft_msg.specs.declared.faults.ProcessFault.{ProcessFault}
use Rattle.ft_msg.specs.declared.faults.ProcessFault.TheVariants.{OutOfOrder}
use Rattle.ft_msg.specs.Acknowledgement.{after_own_message}
use Rattle.ft_msg.specs.Process.{after_entry, after_foreign_message, is_oldest, process_fault}
use Rattle.ft_op.specs.Pieces.{grid_pieces, op_of, pieces}
use Rattle.ft_op.specs.declared.operations.CellOp.{CellOp}
use Rattle.ft_op.specs.declared.operations.CellOp.TheVariants.{Set, SpliceIn, SpliceOut}
use Rattle.ft_op.specs.declared.operations.Target.TheVariants.{Cols, Rows}
use Rattle.ft_string.specs.Calls.{AnswersEdit, AreBelow, AreFrom, AreNext, AreOldest, AreWithin, HoldsAcked, HoldsAllGiven, HoldsGiven, HoldsOldest, HoldsRejoined, HoldsSomeGiven, IsApplied, is_interval_at, is_one_edit}
use Rattle.ft_string.specs.Holds.{HoldsSome, HoldsText, IsTextSound, is_on_elements, is_on_text}
use Rattle.ft_string.specs.State.{KeepsRest, TextState}
use Rattle.ft_string.proofs.SoundTexts.{client-sound}
use Rattle.ft_tests_string.specs.declared.sharing.Span.{Span}
use Rattle.ft_msg.specs.declared.messages.Body.{Body}
use Rattle.ft_msg.specs.declared.messages.Body.TheVariants.{Nothing, Op}
use Rattle.ft_msg.specs.declared.messages.Draft.{Draft}
use Rattle.ft_msg.specs.declared.messages.Entry.{Entry}
use Rattle.ft_msg.specs.declared.messages.MsgKind.{MsgKind}
use Rattle.ft_msg.specs.declared.messages.MsgKind.TheVariants as kinds
use Rattle.ft_msg.specs.declared.views.Link.TheVariants.{Joining, Offline, Online}
use Rattle.ft_tests_string.specs.Sharing.{AreSpans, IsSpan, Plays, Rejoins, linked, span_of, stages_in}

-- ---- the stages of an edit, and the numbers of the document

-- stages are those of sub-operations from stage k on
abbrev AreOf : ℕ → List SubOperation → List Stage → Type 0
AreOf k [] [] = ⊤
AreOf k (o ∷ os) (t ∷ ts) = (t.stage ≡ k) × (t.sub_operation ≡ o) × AreOf (k + 1) os ts
AreOf k _ _ = ⊥

record SameNumbers (d e : Document) : Type 0 where
  number : d.number ≡ e.number
  minimum : d.minimum ≡ e.minimum

range-numbers : (p n : ℕ) (doc after : Document) (taken : Document × NamedElements) → SameNumbers after doc → if_in_range p n after ≡ Ok taken
    → SameNumbers taken.0 doc
range-numbers p n doc after taken s h =
    let c = ok-choice (nat_le p n) (after, no_elements) taken (OutOfRange n) h in
    subst (λ (z : Document × NamedElements). SameNumbers z.0 doc) c.1 s

text-numbers : (doc : Document) (k : ℕ) (op : BaseOp) (taken : Document × NamedElements) → local_text doc k op ≡ Ok taken → SameNumbers taken.0 doc
text-numbers doc k (Insert p seg props) taken h =
    range-numbers p (len (seen (k - 1)) doc.text.items) doc _ taken (record { number = refl; minimum = refl }) h
text-numbers doc k (Remove p q) taken h =
    range-numbers q (len (seen (k - 1)) doc.text.items) doc _ taken (record { number = refl; minimum = refl }) h
text-numbers doc k (Annotate p q changes) taken h =
    range-numbers q (len (seen (k - 1)) doc.text.items) doc _ taken (record { number = refl; minimum = refl }) h

unless-taken : (fault : Option EditFault) (r : EditResult) (taken : Document × NamedElements) → unless_fault fault r ≡ Ok taken → r ≡ Ok taken
unless-taken None r taken h = h
unless-taken (Some fault) r taken h = (cc)

interval-numbers : (doc : Document) (stages : List Stage) (k : ℕ) (op : TextOp) (taken : Document × NamedElements) → local_interval doc stages k op ≡ Ok taken
    → SameNumbers taken.0 doc
interval-numbers doc stages k op taken h =
    let n = len (seen (k - 1)) doc.text.items in
    let names = elements_at_given_ends (seen (k - 1)) doc.text.items (ends_of op) in
    let answer : EditResult = cond (given_ends_fit n (ends_of op)) (Ok (doc, names)) (Err (OutOfRange n)) in
    let c = ok-choice (given_ends_fit n (ends_of op)) (doc, names) taken (OutOfRange n)
    (unless-taken (id_fault (shown_intervals doc.text.items doc.intervals stages) op) answer taken h) in
    subst (λ (z : Document × NamedElements). SameNumbers z.0 doc) c.1 (record { number = refl; minimum = refl })

one-numbers : (doc : Document) (stages : List Stage) (k : ℕ) (o : SubOperation) (taken : Document × NamedElements) → is_on_text o ≡ true
    → local_sub_operation doc stages k o ≡ Ok taken → SameNumbers taken.0 doc
one-numbers doc stages k (OnText op) taken on h = text-numbers doc k op taken h
one-numbers doc stages k (OnIntervals op) taken on h = interval-numbers doc stages k op taken h
one-numbers doc stages k (OnGrid op) taken on h = (cc)

-- what an edit of the text makes
record Makes (k : ℕ) (os : List SubOperation) (doc : Document) (taken : Document × List Stage) : Type 0 where
  numbers : SameNumbers taken.0 doc
  stages : AreOf k os taken.1

first-made : (doc d : Document) (k : ℕ) (o : SubOperation) (names : NamedElements) (os : List SubOperation)
    (r : Result (Document × List Stage) EditFault) (taken : Document × List Stage) → SameNumbers d doc
    → ((rest : Document × List Stage) → r ≡ Ok rest → Makes (k + 1) os d rest)
    → with_first (record { stage = k; sub_operation = o; names = names }) r ≡ Ok taken → Makes k (o ∷ os) doc taken
first-made doc d k o names os (Err fault) taken s f h = (cc)
first-made doc d k o names os (Ok rest) taken s f h =
    let here : Stage = record { stage = k; sub_operation = o; names = names } in
    let same : (rest.0, here ∷ rest.1) ≡ taken = (cc) in
    let m = f rest refl in
    subst (Makes k (o ∷ os) doc) same (record {
      numbers = record { number = m.numbers.number ∙ s.number; minimum = m.numbers.minimum ∙ s.minimum };
      stages = (refl, refl, m.stages);
    })

all-made : (os : List SubOperation) (doc : Document) (stages : List Stage) (k : ℕ) (taken : Document × List Stage) → list_all is_on_text os ≡ true
    → local_sub_operations doc stages k os ≡ Ok taken → Makes k os doc taken
all-made [] doc stages k taken on h =
    let bare : List Stage = [] in
    let same : (doc, bare) ≡ taken = (cc) in
    subst (Makes k [] doc) same (record { numbers = record { number = refl; minimum = refl }; stages = tt })
all-made (o ∷ os) doc stages k taken on h =
    let p = both (is_on_text o) (list_all is_on_text os) on in
    first (λ d ss rest. all-made os d ss (k + 1) rest p.1) (local_sub_operation doc stages k o) refl h
  where
    first : ((d : Document) (ss : List Stage) (rest : Document × List Stage) → local_sub_operations d ss (k + 1) os ≡ Ok rest → Makes (k + 1) os d rest)
        → (r : EditResult) → local_sub_operation doc stages k o ≡ r → after_first stages k o os r ≡ Ok taken → Makes k (o ∷ os) doc taken
    first ih (Err fault) e g = (cc)
    first ih (Ok one) e g =
        let here : Stage = record { stage = k; sub_operation = o; names = one.1 } in
        let p = both (is_on_text o) (list_all is_on_text os) on in
        first-made doc one.0 k o one.1 os (local_sub_operations one.0 (stages ++ (here ∷ [])) (k + 1) os) taken (one-numbers doc stages k o one p.0 e)
        (λ rest f. ih one.0 (stages ++ (here ∷ [])) rest f) g

-- they are of these stages
within-all : (k low end : ℕ) (os : List SubOperation) (ts : List Stage) → low ≤ k → k + length ts ≤ end → list_all is_on_text os ≡ true
    → AreOf k os ts → AreWithin low end ts
within-all k low end [] [] l m on h = All-nil (λ (t : Stage). (low ≤ t.stage) × (t.stage < end) × (is_on_text t.sub_operation ≡ true))
within-all k low end [] (t ∷ ts) l m on h = absurd h
within-all k low end (o ∷ os) [] l m on h = absurd h
within-all k low end (o ∷ os) (t ∷ ts) l m on h =
    let p = both (is_on_text o) (list_all is_on_text os) on in
    let e = h.0 in
    All-cons (λ (u : Stage). (low ≤ u.stage) × (u.stage < end) × (is_on_text u.sub_operation ≡ true)) t ts
    (omega (arith, l, e), omega (arith, m, e), ap is_on_text h.1 ∙ p.0)
    (within-all (k + 1) low end os ts (omega (arith, l)) (omega (arith, m)) p.1 h.2)

elements-all : (k : ℕ) (ops : List BaseOp) (ts : List Stage) → AreOf k (map (λ op. OnText op) ops) ts
    → list_all (λ t. is_on_elements t.sub_operation) ts ≡ true
elements-all k [] [] h = refl
elements-all k [] (t ∷ ts) h = absurd h
elements-all k (op ∷ ops) [] h = absurd h
elements-all k (op ∷ ops) (t ∷ ts) h = rw (h.1, elements-all (k + 1) ops ts h.2) refl

same-number : (k : ℕ) → nat_eq k k ≡ true
same-number k = grind (arith, nat_tests)

interval-one : (k : ℕ) (op : TextOp) (ts : List Stage) → AreOf k (OnIntervals op ∷ []) ts → is_one_edit k ts ≡ true
interval-one k op [] h = absurd h
interval-one k op (t ∷ []) h = rw (h.0, h.1, same-number k) refl
interval-one k op (t ∷ u ∷ ts) h = absurd h.2

one-edit : (k : ℕ) (op : TextOp) (ts : List Stage) → AreOf k (text_sub_operations op) ts → is_one_edit k ts ≡ true
one-edit k (One op) ts h = ap (λ b. b || is_interval_at k ts) (elements-all k (op ∷ []) ts h)
one-edit k (Group ops) ts h = ap (λ b. b || is_interval_at k ts) (elements-all k ops ts h)
one-edit k (IntervalAdd label id ends props) ts h = interval-one k (IntervalAdd label id ends props) ts h
one-edit k (IntervalChange label id ends props) ts h = interval-one k (IntervalChange label id ends props) ts h
one-edit k (IntervalDelete label id) ts h = interval-one k (IntervalDelete label id) ts h

texts-all : (ops : List BaseOp) → list_all is_on_text (map (λ op. OnText op) ops) ≡ true
texts-all [] = refl
texts-all (op ∷ ops) = texts-all ops

on-text : (op : TextOp) → list_all is_on_text (text_sub_operations op) ≡ true
on-text (One op) = refl
on-text (Group ops) = texts-all ops
on-text (IntervalAdd label id ends props) = refl
on-text (IntervalChange label id ends props) = refl
on-text (IntervalDelete label id) = refl

-- ---- spans

spans-low : (low end : ℕ) (qs : List Span) (es : List PendingEdit) → AreSpans low end qs es → low ≤ end
spans-low low end [] [] h = h
spans-low low end [] (e ∷ es) h = absurd h
spans-low low end (q ∷ qs) [] h = absurd h
spans-low low end (q ∷ qs) (e ∷ es) h =
    let a = h.0.above in
    let l = spans-low (q.first + q.count) end qs es h.1 in
    omega (arith, a, l)

spans-snoc : (low end : ℕ) (qs : List Span) (es : List PendingEdit) (q : Span) (e : PendingEdit) → AreSpans low end qs es → IsSpan end q e
    → AreSpans low (q.first + q.count) (qs ++ q ∷ []) (es ++ e ∷ [])
spans-snoc low end [] [] q e h i =
    let a = i.above in
    (record { above = omega (arith, a, h); within = i.within; one = i.one; sent = i.sent }, omega arith)
spans-snoc low end [] (f ∷ es) q e h i = absurd h
spans-snoc low end (p ∷ qs) [] q e h i = absurd h
spans-snoc low end (p ∷ qs) (f ∷ es) q e h i = (h.0, spans-snoc (p.first + p.count) end qs es q e h.1 i)

spans-from : (low end : ℕ) (qs : List Span) (es : List PendingEdit) → AreSpans low end qs es → AreFrom low (stages_in es)
spans-from low end [] [] h = All-nil (λ (t : Stage). low ≤ t.stage)
spans-from low end [] (e ∷ es) h = absurd h
spans-from low end (q ∷ qs) [] h = absurd h
spans-from low end (q ∷ qs) (e ∷ es) h =
    let a = h.0.above in
    All-append (λ (t : Stage). low ≤ t.stage) e.stages (stages_in es)
    (All-weaker (λ (t : Stage). (q.first ≤ t.stage) × (t.stage < q.first + q.count) × (is_on_text t.sub_operation ≡ true)) (λ t. low ≤ t.stage)
    (λ t w. let l = w.0 in omega (arith, a, l)) e.stages h.0.within)
    (All-weaker (λ (t : Stage). q.first + q.count ≤ t.stage) (λ t. low ≤ t.stage) (λ t w. omega (arith, a, w)) (stages_in es)
    (spans-from (q.first + q.count) end qs es h.1))

flat-snoc : (es : List PendingEdit) (e : PendingEdit) → stages_in (es ++ e ∷ []) ≡ stages_in es ++ e.stages
flat-snoc es e = flat_map-append (λ (x : PendingEdit). x.stages) es (e ∷ []) ∙ ap (λ ts. stages_in es ++ ts) (append-nil e.stages)

-- ---- the calls

-- what the calls ask is known of each client
pub sound-of : (s : TextState) (number next : ℕ) (qs : List Span) → (h : Plays s number next qs) → next < 2 ^ 64 → IsTextSound h.last h.doc (stages_in h.pending)
sound-of s number next qs h fits =
    let e = h.next in
    client-sound empty (linked (Online 1) h.doc h.conns h.last h.seq h.queue h.pending) h.made (omega (arith, e, fits))

pub sound-before : (s : TextState) (number next : ℕ) (qs : List Span) → (h : Plays s number next qs) → next < 2 ^ 64
    → IsTextSound (next - 1) h.doc (stages_in h.pending)
sound-before s number next qs h fits =
    let e = h.next in
    let same : h.last ≡ next - 1 = omega (arith, e) in
    subst (λ n. IsTextSound n h.doc (stages_in h.pending)) same (sound-of s number next qs h fits)

pub held-of : (s : TextState) (number next : ℕ) (qs : List Span) → Plays s number next qs → next < 2 ^ 64 → HoldsSome (next - 1) s
held-of s number next qs h fits =
    let e = h.next in
    let same : h.last ≡ next - 1 = omega (arith, e) in
    record {
      doc = h.doc;
      stages = stages_in h.pending;
      sound = subst (λ n. IsTextSound n h.doc (stages_in h.pending)) same (sound-of s number next qs h fits);
      holds = h.holds;
    }

edited-client : (p : NaiveClient) (op : TextOp) (first : ℕ) (d : Document) (more : List Stage) → first ≡ p.last_stage + 1
    → local_sub_operations p.doc (stages_of p) first (text_sub_operations op) ≡ Ok (d, more)
    → after_step p (Edits (Text op)) ≡ Some (after_edit (Text op) d more p)
edited-client p op first d more e h =
    let same : local_sub_operations p.doc (stages_of p) (p.last_stage + 1) (text_sub_operations op) ≡ Ok (d, more)
    = subst (λ k. local_sub_operations p.doc (stages_of p) k (text_sub_operations op) ≡ Ok (d, more)) e h in
    ap (λ r. unless_refused (elim r as (λ _. Result NaiveClient EditFault) [ Err fault ↦ Err fault | Ok taken ↦ Ok (after_edit (Text op) taken.0 taken.1 p) ])) same

pub edited : (s new : TextState) (number first count : ℕ) (qs : List Span) (op : TextOp) → (h : Plays s number first qs)
    → AnswersEdit new (stages_in h.pending) (local_sub_operations h.doc (stages_in h.pending) first (text_sub_operations op)) (Ok count)
    → KeepsRest s new → first + count < 2 ^ 64 → Plays new number (first + count) (qs ++ record { first = first; count = count } ∷ [])
edited s new number first count qs op h a rest fits =
    let p = linked (Online 1) h.doc h.conns h.last h.seq h.queue h.pending in
    let sent : SentAs = record { conn = 1; client_seq = h.seq; op = Text op } in
    let e : PendingEdit = record { stages = a.more; ref_seq = h.doc.number; sent = Some sent } in
    let made = all-made (text_sub_operations op) h.doc (stages_in h.pending) first (a.after, a.more) (on-text op) a.is in
    let counted = a.counted in
    let after = h.next in
    let low = spans-low 1 first qs h.pending h.spans in
    record {
      doc = a.after;
      conns = h.conns;
      last = h.last + length a.more;
      seq = h.seq + 1;
      queue = _;
      pending = h.pending ++ e ∷ [];
      made = kept-next empty p (after_edit (Text op) a.after a.more p) (Edits (Text op)) h.made (edited-client p op first a.after a.more h.next a.is) refl;
      holds = subst (HoldsText new a.after) (sym (flat-snoc h.pending e)) a.holds;
      usable = subst IsTrue (sym rest.usable) h.usable;
      given = rest.given ∙ h.given;
      floor = rest.floor ∙ h.floor;
      own = h.own;
      number = made.numbers.number ∙ h.number;
      minimum = made.numbers.minimum ∙ h.minimum;
      next = omega (arith, counted, after);
      fits = fits;
      spans = spans-snoc 1 first qs h.pending (record { first = first; count = count }) e h.spans (record {
        above = omega arith;
        within = within-all first first (first + count) (text_sub_operations op) a.more (omega arith) (omega (arith, counted)) (on-text op) made.stages;
        one = one-edit first op a.more made.stages;
        sent = (sent, refl, refl);
      });
    }

-- ---- messages

abbrev entry_of : ℕ → ℕ → ℕ → ℕ → MsgKind → Body → Entry
entry_of seq n r c kind body = record {
  msg = record { client_id = None; seq = seq; min = 0; client_seq = pos n; ref_seq = pos r; kind = kind; body = body };
  origin = c;
}

numbers-held : (s : TextState) (doc : Document) (stages : List Stage) (n m : ℕ) → HoldsText s doc stages
    → HoldsText s (record doc { number = n; minimum = m }) stages
numbers-held s doc stages n m h = record { elements = h.elements; made = h.made; intervals = h.intervals; ops = h.ops; interval_ops = h.interval_ops }

not-below : (a b : ℕ) → b ≤ a → nat_lt a b ≡ false
not-below a b l = grind (arith, nat_tests)

other-number : (a b : ℕ) → a ≢ b → nat_eq a b ≡ false
other-number a b h = step (nat_eq a b) refl
  where
    step : (t : Bool) → nat_eq a b ≡ t → nat_eq a b ≡ false
    step true e = absurd (h (grind (arith, nat_tests, e)))
    step false e = e

-- none of the reasons to refuse it
none-refuses : (a b c d e g : Bool) (f0 f1 f2 f3 f4 f5 : ProcessFault) → a ≡ true → b ≡ false → c ≡ false → d ≡ false → e ≡ false → g ≡ false
    → cond (not a) (Some f0) (elim (cond b (Some f1) (cond c (Some f2) (cond d (Some f3) (cond e (Some f4) None)))) as (λ _. Option ProcessFault) [
      | Some fault ↦ Some fault
      | None ↦ cond g (Some f5) None
    ]) ≡ None
none-refuses a b c d e g f0 f1 f2 f3 f4 f5 ea eb ec ed ee eg = rw (ea, eb, ec, ed, ee, eg) refl

takes : (p : NaiveClient) (entry : Entry) → process_fault p entry ≡ None → after_step p (Takes entry) ≡ Some (after_entry p entry)
takes p entry e =
    ap (λ o. unless_refused (elim o as (λ _. Result NaiveClient ProcessFault) [ Some fault ↦ Err fault | None ↦ Ok (after_entry p entry) ])) e

-- an operation of another connection
op-taken : (doc : Document) (conns : List ℕ) (last seq : ℕ) (queue : List Draft) (pending : List PendingEdit) (op : TextOp) (r c : ℕ)
    → doc.minimum ≡ 0 → r ≤ doc.number → list_any (nat_eq c) conns ≡ false
    → after_step (linked (Online 1) doc conns last seq queue pending) (Takes (entry_of (doc.number + 1) 1 r c kinds.Op (Op (Text op))))
    ≡ Some (linked (Online 1) (record (effects doc (doc.number + 1) c r (text_sub_operations op)) { number = doc.number + 1; minimum = 0 }) conns last seq queue pending)
op-taken doc conns last seq queue pending op r c m l own =
    let p = linked (Online 1) doc conns last seq queue pending in
    let entry = entry_of (doc.number + 1) 1 r c kinds.Op (Op (Text op)) in
    takes p entry (none-refuses (nat_eq (doc.number + 1) (doc.number + 1)) (nat_lt r doc.minimum) (nat_lt doc.number r) (nat_lt 0 doc.minimum) (nat_lt (doc.number + 1) 0)
    (list_any (nat_eq c) conns && not (is_oldest entry pending)) _ _ _ _ _ _ (same-number (doc.number + 1)) (not-below r doc.minimum (omega (arith, m)))
    (not-below doc.number r l) (not-below 0 doc.minimum (omega (arith, m))) (not-below (doc.number + 1) 0 (omega arith))
    (ap (λ b. b && not (is_oldest entry pending)) own))
    ∙ ap (λ b. Some (cond b (after_own_message p entry) (after_foreign_message p entry))) own

nothing-taken : (doc : Document) (conns : List ℕ) (last seq : ℕ) (queue : List Draft) (pending : List PendingEdit) → doc.minimum ≡ 0
    → after_step (linked (Online 1) doc conns last seq queue pending) (Takes (entry_of (doc.number + 1) 1 0 0 kinds.Noop Nothing))
    ≡ Some (linked (Online 1) (record doc { number = doc.number + 1; minimum = 0 }) conns last seq queue pending)
nothing-taken doc conns last seq queue pending m =
    takes (linked (Online 1) doc conns last seq queue pending) (entry_of (doc.number + 1) 1 0 0 kinds.Noop Nothing)
    (none-refuses (nat_eq (doc.number + 1) (doc.number + 1)) false false (nat_lt 0 doc.minimum) (nat_lt (doc.number + 1) 0) false _ (OutOfOrder 0 0) (OutOfOrder 0 0) _ _ (OutOfOrder 0 0)
    (same-number (doc.number + 1)) refl refl (not-below 0 doc.minimum (omega (arith, m))) (not-below (doc.number + 1) 0 (omega arith)) refl)

pub passed : (s : TextState) (number next seq : ℕ) (qs : List Span) → seq ≡ number + 1 → Plays s number next qs → Plays s seq next qs
passed s number next seq qs e h =
    let p = linked (Online 1) h.doc h.conns h.last h.seq h.queue h.pending in
    let n = h.number in
    record {
      doc = record h.doc { number = h.doc.number + 1; minimum = 0 };
      conns = h.conns;
      last = h.last;
      seq = h.seq;
      queue = h.queue;
      pending = h.pending;
      made = kept-next empty p _ (Takes (entry_of (h.doc.number + 1) 1 0 0 kinds.Noop Nothing)) h.made
          (nothing-taken h.doc h.conns h.last h.seq h.queue h.pending h.minimum) refl;
      holds = numbers-held s h.doc (stages_in h.pending) (h.doc.number + 1) 0 h.holds;
      usable = h.usable;
      given = h.given;
      floor = h.floor;
      own = h.own;
      number = omega (arith, n, e);
      minimum = refl;
      next = h.next;
      fits = h.fits;
      spans = h.spans;
    }

pub heard-shared : (s new : TextState) (number next seq r c skipped : ℕ) (qs : List Span) (op : TextOp) → seq ≡ number + 1 → r ≤ number → c ≢ 1
    → (h : Plays s number next qs) → IsApplied new h.doc (effects h.doc seq c r (text_sub_operations op)) (stages_in h.pending) skipped
    → KeepsRest s new → Plays new seq next qs
heard-shared s new number next seq r c skipped qs op e l other h a rest =
    let p = linked (Online 1) h.doc h.conns h.last h.seq h.queue h.pending in
    let n = h.number in
    let same : seq ≡ h.doc.number + 1 = omega (arith, n, e) in
    let after = effects h.doc (h.doc.number + 1) c r (text_sub_operations op) in
    record {
      doc = record after { number = h.doc.number + 1; minimum = 0 };
      conns = h.conns;
      last = h.last;
      seq = h.seq;
      queue = h.queue;
      pending = h.pending;
      made = kept-next empty p _ (Takes (entry_of (h.doc.number + 1) 1 r c kinds.Op (Op (Text op)))) h.made
          (op-taken h.doc h.conns h.last h.seq h.queue h.pending op r c h.minimum (omega (arith, n, l)) (h.own c ∙ other-number c 1 other)) refl;
      holds = numbers-held new after (stages_in h.pending) (h.doc.number + 1) 0
          (subst (λ k. HoldsText new (effects h.doc k c r (text_sub_operations op)) (stages_in h.pending)) same a.holds);
      usable = subst IsTrue (sym rest.usable) h.usable;
      given = rest.given ∙ h.given;
      floor = rest.floor ∙ h.floor;
      own = h.own;
      number = omega (arith, n, e);
      minimum = refl;
      next = h.next;
      fits = h.fits;
      spans = h.spans;
    }

-- ---- acknowledgements

-- what its stages are is kept by a renaming
renamed-within : (f : ElementId → ElementId) (low end : ℕ) (ts : List Stage) → AreWithin low end ts → AreWithin low end (map (renamed_stage f) ts)
renamed-within f low end [] h = All-nil (λ (t : Stage). (low ≤ t.stage) × (t.stage < end) × (is_on_text t.sub_operation ≡ true))
renamed-within f low end (t ∷ ts) h =
    All-cons (λ (u : Stage). (low ≤ u.stage) × (u.stage < end) × (is_on_text u.sub_operation ≡ true)) (renamed_stage f t) (map (renamed_stage f) ts)
    (All-head (λ (u : Stage). (low ≤ u.stage) × (u.stage < end) × (is_on_text u.sub_operation ≡ true)) t ts h)
    (renamed-within f low end ts (All-tail (λ (u : Stage). (low ≤ u.stage) × (u.stage < end) × (is_on_text u.sub_operation ≡ true)) t ts h))

renamed-elements : (f : ElementId → ElementId) (ts : List Stage)
    → list_all (λ t. is_on_elements t.sub_operation) (map (renamed_stage f) ts) ≡ list_all (λ t. is_on_elements t.sub_operation) ts
renamed-elements f [] = refl
renamed-elements f (t ∷ ts) = ap (λ b. is_on_elements t.sub_operation && b) (renamed-elements f ts)

renamed-interval : (f : ElementId → ElementId) (k : ℕ) (ts : List Stage) → is_interval_at k (map (renamed_stage f) ts) ≡ is_interval_at k ts
renamed-interval f k [] = refl
renamed-interval f k (t ∷ []) = refl
renamed-interval f k (t ∷ u ∷ ts) = refl

renamed-one : (f : ElementId → ElementId) (k : ℕ) (ts : List Stage) → is_one_edit k ts ≡ true → is_one_edit k (map (renamed_stage f) ts) ≡ true
renamed-one f k ts h = rw (renamed-elements f ts, renamed-interval f k ts) h

renamed-spans : (f : ElementId → ElementId) (low end : ℕ) (qs : List Span) (es : List PendingEdit) → AreSpans low end qs es
    → AreSpans low end qs (map (renamed_edit f) es)
renamed-spans f low end [] [] h = h
renamed-spans f low end [] (e ∷ es) h = absurd h
renamed-spans f low end (q ∷ qs) [] h = absurd h
renamed-spans f low end (q ∷ qs) (e ∷ es) h = (
  record {
    above = h.0.above;
    within = renamed-within f q.first (q.first + q.count) e.stages h.0.within;
    one = renamed-one f q.first e.stages h.0.one;
    sent = h.0.sent;
  },
  renamed-spans f (q.first + q.count) end qs es h.1,
)

renamed-stages : (f : ElementId → ElementId) (es : List PendingEdit) → stages_in (map (renamed_edit f) es) ≡ map (renamed_stage f) (stages_in es)
renamed-stages f [] = refl
renamed-stages f (e ∷ es) = ap (λ ts. map (renamed_stage f) e.stages ++ ts) (renamed-stages f es) ∙ sym (map-append (renamed_stage f) e.stages (stages_in es))

lower-spans : (low more end : ℕ) (qs : List Span) (es : List PendingEdit) → low ≤ more → AreSpans more end qs es → AreSpans low end qs es
lower-spans low more end [] [] l h = omega (arith, l, h)
lower-spans low more end [] (e ∷ es) l h = absurd h
lower-spans low more end (q ∷ qs) [] l h = absurd h
lower-spans low more end (q ∷ qs) (e ∷ es) l h =
    let a = h.0.above in
    (record { above = omega (arith, l, a); within = h.0.within; one = h.0.one; sent = h.0.sent }, h.1)

-- the first edit with its span
record FirstEdit {s : TextState} {number next : ℕ} (q : Span) (qs : List Span) (h : Plays s number next (q ∷ qs)) : Type 0 where
  edit : PendingEdit
  edits : List PendingEdit
  is : h.pending ≡ edit ∷ edits
  span : IsSpan 1 q edit
  spans : AreSpans (q.first + q.count) next qs edits

first-edit : (s : TextState) (number next : ℕ) (q : Span) (qs : List Span) → (h : Plays s number next (q ∷ qs)) → FirstEdit q qs h
first-edit s number next q qs h = step h.pending refl h.spans
  where
    step : (es : List PendingEdit) → h.pending ≡ es → AreSpans 1 next (q ∷ qs) es → FirstEdit q qs h
    step [] e a = absurd a
    step (edit ∷ edits) e a = record { edit = edit; edits = edits; is = e; span = a.0; spans = a.1 }

pub oldest-of : (s : TextState) (number next : ℕ) (q : Span) (qs : List Span) → Plays s number next (q ∷ qs) → next < 2 ^ 64
    → (last : ℕ) × HoldsOldest last q.first (q.first + q.count) s
oldest-of s number next q qs h fits =
    let f = first-edit s number next q qs h in
    let same : stages_in h.pending ≡ f.edit.stages ++ stages_in f.edits = ap stages_in f.is in (
      h.last,
      record {
        doc = h.doc;
        mine = f.edit.stages;
        rest = stages_in f.edits;
        oldest = record { within = f.span.within; behind = spans-from (q.first + q.count) next qs f.edits f.spans };
        sound = subst (IsTextSound h.last h.doc) same (sound-of s number next (q ∷ qs) h fits);
        holds = subst (HoldsText s h.doc) same h.holds;
      },
    )

pub span-ends : (s : TextState) (number next : ℕ) (q : Span) (qs : List Span) → Plays s number next (q ∷ qs) → q.first + q.count ≤ next
span-ends s number next q qs h = let f = first-edit s number next q qs h in spans-low (q.first + q.count) next qs f.edits f.spans

same-count : (n : ℕ) → same_int (pos n) (pos n) ≡ true
same-count n = (same_int-Decides (pos n) (pos n)).1 refl

-- its own message
own-taken : (doc : Document) (conns : List ℕ) (last seq : ℕ) (queue : List Draft) (e : PendingEdit) (es : List PendingEdit) (x : SentAs)
    → doc.minimum ≡ 0 → e.sent ≡ Some x → x.conn ≡ 1 → e.ref_seq ≤ doc.number → list_any (nat_eq 1) conns ≡ true
    → (let acked = ack_stages (doc.number + 1) 1 (λ i. i) e.stages doc in
    after_step (linked (Online 1) doc conns last seq queue (e ∷ es)) (Takes (entry_of (doc.number + 1) x.client_seq e.ref_seq 1 kinds.Op (Op x.op)))
    ≡ Some (linked (Online 1) (record acked.0 { number = doc.number + 1; minimum = 0 }) conns last seq queue (map (renamed_edit acked.1) es)))
own-taken doc conns last seq queue e es x m sent conn l own =
    let p = linked (Online 1) doc conns last seq queue (e ∷ es) in
    let entry = entry_of (doc.number + 1) x.client_seq e.ref_seq 1 kinds.Op (Op x.op) in
    let oldest : is_oldest entry (e ∷ es) ≡ true
    = rw sent (rw (conn, same-number 1, same-count x.client_seq, same-count e.ref_seq, (same_op-Decides x.op x.op).1 refl) refl) in
    takes p entry (none-refuses (nat_eq (doc.number + 1) (doc.number + 1)) (nat_lt e.ref_seq doc.minimum) (nat_lt doc.number e.ref_seq) (nat_lt 0 doc.minimum)
    (nat_lt (doc.number + 1) 0) (list_any (nat_eq 1) conns && not (is_oldest entry (e ∷ es))) _ _ _ _ _ _ (same-number (doc.number + 1))
    (not-below e.ref_seq doc.minimum (omega (arith, m))) (not-below doc.number e.ref_seq l) (not-below 0 doc.minimum (omega (arith, m)))
    (not-below (doc.number + 1) 0 (omega arith)) (rw (own, oldest) refl))
    ∙ ap (λ b. Some (cond b (after_own_message p entry) (after_foreign_message p entry))) own

pub acked-shared : (s new : TextState) (number next seq : ℕ) (q : Span) (qs : List Span) → seq ≡ number + 1 → next < 2 ^ 64
    → Plays s number next (q ∷ qs)
    → ((last : ℕ) → (doc : Document) → (mine : List Stage) → (rest : List Stage) → AreOldest q.first (q.first + q.count) mine rest
    → IsTextSound last doc (mine ++ rest) → HoldsText s doc (mine ++ rest) → HoldsAcked new seq 1 mine rest doc)
    → KeepsRest s new → Plays new seq next qs
unfolding first-edit oldest-of
acked-shared s new number next seq q qs e fits h acks rest =
    let f = first-edit s number next q qs h in
    let o = (oldest-of s number next q qs h fits).1 in
    let n = h.number in
    let same : seq ≡ h.doc.number + 1 = omega (arith, n, e) in
    let acked = ack_stages (h.doc.number + 1) 1 (λ i. i) f.edit.stages h.doc in
    let made : IsMadeOrKept empty (linked (Online 1) h.doc h.conns h.last h.seq h.queue (f.edit ∷ f.edits))
    = subst (λ es. IsMadeOrKept empty (linked (Online 1) h.doc h.conns h.last h.seq h.queue es)) f.is h.made in
    let refs = references-kept empty (linked (Online 1) h.doc h.conns h.last h.seq h.queue (f.edit ∷ f.edits)) made in
    let holds = subst (λ k. HoldsAcked new k 1 f.edit.stages (stages_in f.edits) h.doc) same
    (acks h.last h.doc f.edit.stages (stages_in f.edits) o.oldest o.sound o.holds) in
    let first = f.span.above in
    record {
      doc = record acked.0 { number = h.doc.number + 1; minimum = 0 };
      conns = h.conns;
      last = h.last;
      seq = h.seq;
      queue = h.queue;
      pending = map (renamed_edit acked.1) f.edits;
      made = kept-next empty (linked (Online 1) h.doc h.conns h.last h.seq h.queue (f.edit ∷ f.edits)) _
          (Takes (entry_of (h.doc.number + 1) f.span.sent.0.client_seq f.edit.ref_seq 1 kinds.Op (Op f.span.sent.0.op))) made
          (own-taken h.doc h.conns h.last h.seq h.queue f.edit f.edits f.span.sent.0 h.minimum f.span.sent.1 f.span.sent.2 refs.last.0 (h.own 1)) refl;
      holds = subst (HoldsText new (record acked.0 { number = h.doc.number + 1; minimum = 0 })) (sym (renamed-stages acked.1 f.edits))
          (numbers-held new acked.0 (map (renamed_stage acked.1) (stages_in f.edits)) (h.doc.number + 1) 0 holds);
      usable = subst IsTrue (sym rest.usable) h.usable;
      given = rest.given ∙ h.given;
      floor = rest.floor ∙ h.floor;
      own = h.own;
      number = omega (arith, n, e);
      minimum = refl;
      next = h.next;
      fits = h.fits;
      spans = renamed-spans acked.1 1 next qs f.edits (lower-spans 1 (q.first + q.count) next qs f.edits (omega (arith, first)) f.spans);
    }

-- ---- its own join

-- what goes on of a stage has its number and its operation
carried-each : (P : Stage → Type 0) → ((t u : Stage) → u.stage ≡ t.stage → u.sub_operation ≡ t.sub_operation → P t → P u)
    → (doc : Document) (t : Stage) → P t → All P (carried_stage doc t)
carried-each P f doc t h = step t.sub_operation t.names (λ u e g. f t u e g h)
  where
    either : (u : Stage) (ps : List SubOperation) → P u → All P (elim ps as (λ _. List Stage) [ [] ↦ [] | _ ∷ _ ↦ u ∷ [] ])
    either u [] p = All-nil P
    either u (_ ∷ _) p = All-cons P u [] p (All-nil P)

    step : (o : SubOperation) (names : NamedElements) → ((u : Stage) → u.stage ≡ t.stage → u.sub_operation ≡ o → P u)
        → All P (carried_stage doc (record { stage = t.stage; sub_operation = o; names = names }))
    step (OnText op) names g =
        let u : Stage = record { stage = t.stage; sub_operation = OnText op; names = names } in either u (pieces doc u) (g u refl refl)
    step (OnGrid op) names g =
        let u : Stage = record { stage = t.stage; sub_operation = OnGrid op; names = names } in either u (pieces doc u) (g u refl refl)
    step (OnIntervals op) names g =
        let u : Stage = record { stage = t.stage; sub_operation = OnIntervals op; names = settle_elements doc.text.items t.stage names } in
        All-cons P u [] (g u refl refl) (All-nil P)

carried-all : (P : Stage → Type 0) → ((t u : Stage) → u.stage ≡ t.stage → u.sub_operation ≡ t.sub_operation → P t → P u)
    → (doc : Document) (ts : List Stage) → All P ts → All P (flat_map (carried_stage doc) ts)
carried-all P f doc [] h = All-nil P
carried-all P f doc (t ∷ ts) h =
    All-append P (carried_stage doc t) (flat_map (carried_stage doc) ts) (carried-each P f doc t (All-head P t ts h))
    (carried-all P f doc ts (All-tail P t ts h))

carried-within : (low end : ℕ) (doc : Document) (ts : List Stage) → AreWithin low end ts → AreWithin low end (flat_map (carried_stage doc) ts)
carried-within low end doc ts h =
    carried-all (λ (t : Stage). (low ≤ t.stage) × (t.stage < end) × (is_on_text t.sub_operation ≡ true))
    (λ t u e g p. let a = p.0 in let b = p.1 in (omega (arith, a, e), omega (arith, b, e), ap is_on_text g ∙ p.2)) doc ts h

carried-text : (doc : Document) (t : Stage) → is_on_elements t.sub_operation ≡ true → list_all (λ u. is_on_elements u.sub_operation) (carried_stage doc t) ≡ true
carried-text doc t h = step t.sub_operation t.names h
  where
    either : (u : Stage) (ps : List SubOperation) → is_on_elements u.sub_operation ≡ true
        → list_all (λ u. is_on_elements u.sub_operation) (elim ps as (λ _. List Stage) [ [] ↦ [] | _ ∷ _ ↦ u ∷ [] ]) ≡ true
    either u [] g = refl
    either u (_ ∷ _) g = rw g refl

    step : (o : SubOperation) (names : NamedElements) → is_on_elements o ≡ true
        → list_all (λ u. is_on_elements u.sub_operation) (carried_stage doc (record { stage = t.stage; sub_operation = o; names = names })) ≡ true
    step (OnText op) names g =
        let u : Stage = record { stage = t.stage; sub_operation = OnText op; names = names } in either u (pieces doc u) refl
    step (OnGrid op) names g = (cc)
    step (OnIntervals op) names g = (cc)

carried-texts : (doc : Document) (ts : List Stage) → list_all (λ t. is_on_elements t.sub_operation) ts ≡ true
    → list_all (λ t. is_on_elements t.sub_operation) (flat_map (carried_stage doc) ts) ≡ true
carried-texts doc [] h = refl
carried-texts doc (t ∷ ts) h =
    let p = both (is_on_elements t.sub_operation) (list_all (λ (u : Stage). is_on_elements u.sub_operation) ts) h in
    all-append (λ (u : Stage). is_on_elements u.sub_operation) (carried_stage doc t) (flat_map (carried_stage doc) ts) (carried-text doc t p.0)
    (carried-texts doc ts p.1)

carried-interval : (doc : Document) (k : ℕ) (ts : List Stage) → is_interval_at k ts ≡ true → is_interval_at k (flat_map (carried_stage doc) ts) ≡ true
carried-interval doc k [] h = (cc)
carried-interval doc k (t ∷ u ∷ ts) h = (cc)
carried-interval doc k (t ∷ []) h = step t.sub_operation t.names h
  where
    step : (o : SubOperation) (names : NamedElements) → is_interval_at k (record { stage = t.stage; sub_operation = o; names = names } ∷ []) ≡ true
        → is_interval_at k (carried_stage doc (record { stage = t.stage; sub_operation = o; names = names }) ++ []) ≡ true
    step (OnIntervals op) names g = g
    step (OnText op) names g = let p = both (nat_eq t.stage k) false g in let never : false ≡ true = p.1 in (cc)
    step (OnGrid op) names g = let p = both (nat_eq t.stage k) false g in let never : false ≡ true = p.1 in (cc)

carried-one : (doc : Document) (k : ℕ) (ts : List Stage) → is_one_edit k ts ≡ true → is_one_edit k (flat_map (carried_stage doc) ts) ≡ true
carried-one doc k ts h =
    step (list_all (λ (t : Stage). is_on_elements t.sub_operation) ts) (is_interval_at k ts) refl refl h
  where
    step : (a b : Bool) → list_all (λ (t : Stage). is_on_elements t.sub_operation) ts ≡ a → is_interval_at k ts ≡ b → a || b ≡ true
        → is_one_edit k (flat_map (carried_stage doc) ts) ≡ true
    step true b e f g = rw (carried-texts doc ts e) refl
    step false true e f g = rw (carried-interval doc k ts f) (or_right (list_all (λ (t : Stage). is_on_elements t.sub_operation) (flat_map (carried_stage doc) ts)) true refl)
    step false false e f g = (cc)

-- an edit behind the others as it is sent again
abbrev one-again : Document → ℕ → ℕ → PendingEdit → Option ChannelOp → List PendingEdit
one-again doc conn n e None = []
one-again doc conn n e (Some op) = resubmitted_edit doc conn n e op ∷ []

abbrev again_on : Document → ℕ → ℕ → PendingEdit → List PendingEdit → Option ChannelOp → List PendingEdit
again_on doc conn n f es None = resubmitted_edits doc conn n es
again_on doc conn n f es (Some op) = resubmitted_edit doc conn n f op ∷ resubmitted_edits doc conn (n + 1) es

again-snoc : (doc : Document) (conn n : ℕ) (es : List PendingEdit) (e : PendingEdit)
    → (m : ℕ) × (resubmitted_edits doc conn n (es ++ e ∷ []) ≡ resubmitted_edits doc conn n es ++ one-again doc conn m e (regenerated_edit doc e))
again-snoc doc conn n [] e = step (regenerated_edit doc e)
  where
    step : (o : Option ChannelOp) → (m : ℕ) × (elim o as (λ _. List PendingEdit) [ None ↦ [] | Some op ↦ resubmitted_edit doc conn n e op ∷ [] ] ≡ one-again doc conn m e o)
    step None = (n, refl)
    step (Some op) = (n, refl)
again-snoc doc conn n (f ∷ es) e = step (regenerated_edit doc f) (again-snoc doc conn n es e) (again-snoc doc conn (n + 1) es e)
  where
    step : (o : Option ChannelOp)
        → (m : ℕ) × (resubmitted_edits doc conn n (es ++ e ∷ []) ≡ resubmitted_edits doc conn n es ++ one-again doc conn m e (regenerated_edit doc e))
        → (m : ℕ) × (resubmitted_edits doc conn (n + 1) (es ++ e ∷ []) ≡ resubmitted_edits doc conn (n + 1) es ++ one-again doc conn m e (regenerated_edit doc e))
        → (m : ℕ) × (again_on doc conn n f (es ++ e ∷ []) o ≡ again_on doc conn n f es o ++ one-again doc conn m e (regenerated_edit doc e))
    step None a b = a
    step (Some op) a b = (b.0, ap (λ fs. resubmitted_edit doc conn n f op ∷ fs) b.1)

no-op : (ps : List SubOperation) → op_of ps ≡ None → ps ≡ []
no-op [] g = refl
no-op (OnText op ∷ []) g = (cc)
no-op (OnText op ∷ x ∷ ps) g = (cc)
no-op (OnIntervals op ∷ ps) g = (cc)
no-op (OnGrid op ∷ []) g = (cc)
no-op (OnGrid op ∷ x ∷ ps) g = (cc)

nil-append : {A : Type 0} (xs ys : List A) → xs ++ ys ≡ [] → (xs ≡ []) × (ys ≡ [])
nil-append [] ys g = (refl, g)
nil-append (x ∷ xs) ys g = (cc)

-- all that goes on is in the edits that are sent again
none-carried : (doc : Document) (ts : List Stage) → flat_map (pieces doc) ts ≡ [] → flat_map (carried_stage doc) ts ≡ []
none-carried doc [] h = refl
none-carried doc (t ∷ ts) h =
    let p = nil-append (pieces doc t) (flat_map (pieces doc) ts) h in rw (none-of t.sub_operation t.names p.0, none-carried doc ts p.1) refl
  where
    either : (u : Stage) (ps : List SubOperation) → ps ≡ [] → (elim ps as (λ _. List Stage) [ [] ↦ [] | _ ∷ _ ↦ u ∷ [] ]) ≡ []
    either u [] g = refl
    either u (_ ∷ _) g = (cc)

    none-of : (o : SubOperation) (names : NamedElements) → pieces doc (record { stage = t.stage; sub_operation = o; names = names }) ≡ []
        → carried_stage doc (record { stage = t.stage; sub_operation = o; names = names }) ≡ []
    none-of (OnText op) names g =
        let u : Stage = record { stage = t.stage; sub_operation = OnText op; names = names } in either u (pieces doc u) g
    none-of (OnGrid op) names g =
        let u : Stage = record { stage = t.stage; sub_operation = OnGrid op; names = names } in either u (pieces doc u) g
    none-of (OnIntervals op) names g = (cc)

again-stages : (doc : Document) (conn n : ℕ) (es : List PendingEdit)
    → stages_in (resubmitted_edits doc conn n es) ≡ flat_map (carried_stage doc) (stages_in es)
again-stages doc conn n [] = refl
again-stages doc conn n (e ∷ es) = step (regenerated_edit doc e) refl (again-stages doc conn n es) (again-stages doc conn (n + 1) es)
  where
    step : (o : Option ChannelOp) → regenerated_edit doc e ≡ o → stages_in (resubmitted_edits doc conn n es) ≡ flat_map (carried_stage doc) (stages_in es)
        → stages_in (resubmitted_edits doc conn (n + 1) es) ≡ flat_map (carried_stage doc) (stages_in es)
        → stages_in (elim o as (λ _. List PendingEdit) [ None ↦ resubmitted_edits doc conn n es | Some op ↦ resubmitted_edit doc conn n e op ∷ resubmitted_edits doc conn (n + 1) es ])
        ≡ flat_map (carried_stage doc) (e.stages ++ stages_in es)
    step None g a b = a ∙ sym (flat_map-append (carried_stage doc) e.stages (stages_in es)
        ∙ ap (λ ts. ts ++ flat_map (carried_stage doc) (stages_in es)) (none-carried doc e.stages (no-op (flat_map (pieces doc) e.stages) g)))
    step (Some op) g a b = ap (λ ts. flat_map (carried_stage doc) e.stages ++ ts) b ∙ sym (flat_map-append (carried_stage doc) e.stages (stages_in es))

-- numbers say nothing of what goes on
grid-numbered : (d : Document) (n : ℕ) (k : ℕ) (names : NamedElements) (op : CellOp)
    → grid_pieces k (record d { number = n; minimum = 0 }) names op ≡ grid_pieces k d names op
grid-numbered d n k names (SpliceIn Rows p count) = refl
grid-numbered d n k names (SpliceIn Cols p count) = refl
grid-numbered d n k names (SpliceOut Rows p q) = refl
grid-numbered d n k names (SpliceOut Cols p q) = refl
grid-numbered d n k names (Set i j value) = refl

pieces-numbered : (d : Document) (n : ℕ) (t : Stage) → pieces (record d { number = n; minimum = 0 }) t ≡ pieces d t
pieces-numbered d n t = step t.sub_operation t.names
  where
    step : (o : SubOperation) (names : NamedElements)
        → (let u : Stage = record { stage = t.stage; sub_operation = o; names = names } in pieces (record d { number = n; minimum = 0 }) u ≡ pieces d u)
    step (OnText op) names = refl
    step (OnIntervals op) names = refl
    step (OnGrid op) names = grid-numbered d n t.stage names op

all-pieces-numbered : (d : Document) (n : ℕ) (ts : List Stage) → flat_map (pieces (record d { number = n; minimum = 0 })) ts ≡ flat_map (pieces d) ts
all-pieces-numbered d n [] = refl
all-pieces-numbered d n (t ∷ ts) =
    ap (λ ps. ps ++ flat_map (pieces (record d { number = n; minimum = 0 })) ts) (pieces-numbered d n t)
    ∙ ap (λ ps. pieces d t ++ ps) (all-pieces-numbered d n ts)

carried-numbered : (d : Document) (n : ℕ) (t : Stage) → carried_stage (record d { number = n; minimum = 0 }) t ≡ carried_stage d t
carried-numbered d n t = step t.sub_operation t.names
  where
    step : (o : SubOperation) (names : NamedElements)
        → (let u : Stage = record { stage = t.stage; sub_operation = o; names = names } in carried_stage (record d { number = n; minimum = 0 }) u ≡ carried_stage d u)
    step (OnText op) names = refl
    step (OnIntervals op) names = refl
    step (OnGrid op) names =
        let u : Stage = record { stage = t.stage; sub_operation = OnGrid op; names = names } in
        ap (λ ps. elim ps as (λ _. List Stage) [ [] ↦ [] | _ ∷ _ ↦ u ∷ [] ]) (grid-numbered d n t.stage names op)

all-carried-numbered : (d : Document) (n : ℕ) (ts : List Stage)
    → flat_map (carried_stage (record d { number = n; minimum = 0 })) ts ≡ flat_map (carried_stage d) ts
all-carried-numbered d n [] = refl
all-carried-numbered d n (t ∷ ts) =
    ap (λ us. us ++ flat_map (carried_stage (record d { number = n; minimum = 0 })) ts) (carried-numbered d n t)
    ∙ ap (λ us. carried_stage d t ++ us) (all-carried-numbered d n ts)

-- ---- the join, step by step

any-one-more : (c : ℕ) (conns : List ℕ) → list_any (nat_eq c) conns ≡ nat_eq c 1 → list_any (nat_eq c) (conns ++ 1 ∷ []) ≡ nat_eq c 1
any-one-more c conns h = any-append (nat_eq c) conns 1 ∙ rw h (or-same (nat_eq c 1))
  where
    or-same : (b : Bool) → b || b ≡ b
    or-same true = refl
    or-same false = refl

pub joining : (s : TextState) (number next seq : ℕ) (qs : List Span) → seq ≡ number + 1 → Plays s number next qs → Rejoins s seq next 1 [] qs
joining s number next seq qs e h =
    let p = linked (Online 1) h.doc h.conns h.last h.seq h.queue h.pending in
    let off = kept-next empty p _ Drops h.made refl refl in
    let n = h.number in
    let given = h.given in
    record {
      doc = h.doc;
      conns = h.conns ++ 1 ∷ [];
      last = h.last;
      seq = 1;
      front = [];
      behind = h.pending;
      made = kept-next empty (record p { link = Offline; queue = [] }) _ (Connects 1) off refl refl;
      holds = h.holds;
      usable = h.usable;
      floor = h.floor;
      given = omega (arith, given);
      before = All-nil (λ (t : Stage). t.stage < s.given + 1);
      own = λ c. any-one-more c h.conns (h.own c);
      number = omega (arith, n, e);
      minimum = h.minimum;
      next = h.next;
      fits = h.fits;
      given_spans = omega arith;
      spans = h.spans;
    }

wider-spans : (low end more : ℕ) (qs : List Span) (es : List PendingEdit) → end ≤ more → AreSpans low end qs es → AreSpans low more qs es
wider-spans low end more [] [] l h = omega (arith, l, h)
wider-spans low end more [] (e ∷ es) l h = absurd h
wider-spans low end more (q ∷ qs) [] l h = absurd h
wider-spans low end more (q ∷ qs) (e ∷ es) l h = (h.0, wider-spans (q.first + q.count) end more qs es l h.1)

-- the next span is that of the next edit
record NextEdit {s : TextState} {n k low : ℕ} {kept : List Span} (q : Span) (qs : List Span) (h : Rejoins s n k low kept (q ∷ qs)) : Type 0 where
  edit : PendingEdit
  edits : List PendingEdit
  is : h.behind ≡ edit ∷ edits
  span : IsSpan low q edit
  spans : AreSpans (q.first + q.count) k qs edits

next-edit : (s : TextState) (n k low : ℕ) (kept : List Span) (q : Span) (qs : List Span) → (h : Rejoins s n k low kept (q ∷ qs)) → NextEdit q qs h
next-edit s n k low kept q qs h = step h.behind refl h.spans
  where
    step : (es : List PendingEdit) → h.behind ≡ es → AreSpans low k (q ∷ qs) es → NextEdit q qs h
    step [] e a = absurd a
    step (edit ∷ edits) e a = record { edit = edit; edits = edits; is = e; span = a.0; spans = a.1 }

pub next-of : (s : TextState) (n k low : ℕ) (kept : List Span) (q : Span) (qs : List Span) → Rejoins s n k low kept (q ∷ qs) → k < 2 ^ 64
    → (last : ℕ) × HoldsSomeGiven last q.first (q.first + q.count) s
next-of s n k low kept q qs h fits =
    let f = next-edit s n k low kept q qs h in
    let after = h.next in
    let sound = client-sound empty (linked (Joining 1) h.doc h.conns h.last h.seq [] (h.front ++ h.behind)) h.made (omega (arith, after, fits)) in (
      h.last,
      record {
        doc = h.doc;
        front = stages_in h.front;
        mine = f.edit.stages;
        rest = stages_in f.edits;
        next = record {
          before = h.before;
          within = f.span.within;
          one = f.span.one;
          behind = spans-from (q.first + q.count) k qs f.edits f.spans;
        };
        sound = subst (IsTextSound h.last h.doc) (flat_map-append (λ (x : PendingEdit). x.stages) h.front h.behind
            ∙ ap (λ es. stages_in h.front ++ stages_in es) f.is) sound;
        holds = subst (λ es. HoldsGiven s h.doc (stages_in h.front) (stages_in es)) f.is h.holds;
      },
    )

pub next-order : (s : TextState) (n k low : ℕ) (kept : List Span) (q : Span) (qs : List Span) → Rejoins s n k low kept (q ∷ qs)
    → (s.given < q.first) × (q.first + q.count ≤ k)
next-order s n k low kept q qs h =
    let f = next-edit s n k low kept q qs h in
    let a = f.span.above in
    let g = h.given in
    (omega (arith, a, g), spans-low (q.first + q.count) k qs f.edits f.spans)

-- how the greatest stage that was given rises
record Rises (given first count more : ℕ) : Type 0 where
  below : more < first + count
  stays : given ≤ more
  covers : (t : ℕ) → first ≤ t → t < first + count → t < more + 1

rises : (given first count more : ℕ) → given < first → more ≡ cond (nat_eq count 0) given (first + count - 1) → Rises given first count more
rises given first count more l e = step (nat_eq count 0) refl e
  where
    step : (b : Bool) → nat_eq count 0 ≡ b → more ≡ cond b given (first + count - 1) → Rises given first count more
    step true f g =
        let none : count ≡ 0 = grind (arith, nat_tests, f) in
        record { below = omega (arith, l, g); stays = omega (arith, g); covers = λ t a b. omega (arith, a, b, none) }
    step false f g =
        let some : 1 ≤ count = grind (arith, nat_tests, f) in
        record { below = omega (arith, g, some); stays = omega (arith, l, g, some); covers = λ t a b. omega (arith, b, g, some) }

-- the spans of what was given, with one more
kept-one : (doc : Document) (low n : ℕ) (kept : List Span) (front : List PendingEdit) (q : Span) (e : PendingEdit) (o : Option TextOp)
    → AreSpans 1 low kept (resubmitted_edits doc 1 1 front) → IsSpan low q e → regenerated_edit doc e ≡ option_map Text o
    → AreSpans 1 (q.first + q.count) (kept ++ span_of q o) (resubmitted_edits doc 1 1 (front ++ e ∷ []))
kept-one doc low n kept front q e None h i g =
    let a = again-snoc doc 1 1 front e in
    let above = i.above in
    let same : resubmitted_edits doc 1 1 (front ++ e ∷ []) ≡ resubmitted_edits doc 1 1 front
    = a.1 ∙ ap (λ o. resubmitted_edits doc 1 1 front ++ one-again doc 1 a.0 e o) g ∙ append-nil (resubmitted_edits doc 1 1 front) in
    subst (λ qs. AreSpans 1 (q.first + q.count) qs (resubmitted_edits doc 1 1 (front ++ e ∷ []))) (sym (append-nil kept))
    (subst (AreSpans 1 (q.first + q.count) kept) (sym same) (wider-spans 1 low (q.first + q.count) kept (resubmitted_edits doc 1 1 front) (omega (arith, above)) h))
kept-one doc low n kept front q e (Some op) h i g =
    let a = again-snoc doc 1 1 front e in
    let again = resubmitted_edit doc 1 a.0 e (Text op) in
    let same : resubmitted_edits doc 1 1 (front ++ e ∷ []) ≡ resubmitted_edits doc 1 1 front ++ again ∷ []
    = a.1 ∙ ap (λ o. resubmitted_edits doc 1 1 front ++ one-again doc 1 a.0 e o) g in
    subst (AreSpans 1 (q.first + q.count) (kept ++ q ∷ [])) (sym same) (spans-snoc 1 low kept (resubmitted_edits doc 1 1 front) q again h (record {
      above = i.above;
      within = carried-within q.first (q.first + q.count) doc e.stages i.within;
      one = carried-one doc q.first e.stages i.one;
      sent = (record { conn = 1; client_seq = a.0; op = Text op }, refl, refl);
    }))

pub gave : (s new : TextState) (n k low : ℕ) (kept : List Span) (q : Span) (qs : List Span) (o : Option TextOp) → k < 2 ^ 64
    → Rejoins s n k low kept (q ∷ qs)
    → ((last : ℕ) → (doc : Document) → (front : List Stage) → (mine : List Stage) → (behind : List Stage)
    → AreNext s.given q.first (q.first + q.count) front mine behind → IsTextSound last doc (front ++ (mine ++ behind))
    → HoldsGiven s doc front (mine ++ behind) → option_map Text o ≡ op_of (flat_map (pieces doc) mine))
    → ((last : ℕ) → (doc : Document) → (front : List Stage) → (mine : List Stage) → (behind : List Stage)
    → AreNext s.given q.first (q.first + q.count) front mine behind → IsTextSound last doc (front ++ (mine ++ behind))
    → HoldsGiven s doc front (mine ++ behind) → HoldsGiven new doc (front ++ mine) behind)
    → new.given ≡ cond (nat_eq q.count 0) s.given (q.first + q.count - 1) → new.floor ≡ s.floor → IsTrue new.usable
    → Rejoins new n k (q.first + q.count) (kept ++ span_of q o) qs
unfolding next-of next-edit
gave s new n k low kept q qs o fits h sends holds given floor usable =
    let f = next-edit s n k low kept q qs h in
    let x = (next-of s n k low kept q qs h fits).1 in
    let order = next-order s n k low kept q qs h in
    let r = rises s.given q.first q.count new.given order.0 given in
    let stays = r.stays in
    record {
      doc = h.doc;
      conns = h.conns;
      last = h.last;
      seq = h.seq;
      front = h.front ++ f.edit ∷ [];
      behind = f.edits;
      made = subst (λ es. IsMadeOrKept empty (linked (Joining 1) h.doc h.conns h.last h.seq [] es))
          (ap (λ es. h.front ++ es) f.is ∙ sym (append_assoc h.front (f.edit ∷ []) f.edits)) h.made;
      holds = subst (λ ts. HoldsGiven new h.doc ts (stages_in f.edits)) (sym (flat-snoc h.front f.edit))
          (holds h.last h.doc (stages_in h.front) f.edit.stages (stages_in f.edits) x.next x.sound x.holds);
      usable = usable;
      floor = floor ∙ h.floor;
      given = r.below;
      before = subst (AreBelow (new.given + 1)) (sym (flat-snoc h.front f.edit))
          (All-append (λ (t : Stage). t.stage < new.given + 1) (stages_in h.front) f.edit.stages
          (All-weaker (λ (t : Stage). t.stage < s.given + 1) (λ t. t.stage < new.given + 1) (λ t l. omega (arith, l, stays)) (stages_in h.front) h.before)
          (All-weaker (λ (t : Stage). (q.first ≤ t.stage) × (t.stage < q.first + q.count) × (is_on_text t.sub_operation ≡ true)) (λ t. t.stage < new.given + 1)
          (λ t l. r.covers t.stage l.0 l.1) f.edit.stages f.span.within));
      own = h.own;
      number = h.number;
      minimum = h.minimum;
      next = h.next;
      fits = h.fits;
      given_spans = kept-one (record h.doc { number = n; minimum = 0 }) low n kept h.front q f.edit o h.given_spans f.span
          (ap op_of (all-pieces-numbered h.doc n f.edit.stages)
          ∙ sym (sends h.last h.doc (stages_in h.front) f.edit.stages (stages_in f.edits) x.next x.sound x.holds));
      spans = f.spans;
    }

-- all were given
none-behind : (low end : ℕ) (es : List PendingEdit) → AreSpans low end [] es → es ≡ []
none-behind low end [] h = refl
none-behind low end (e ∷ es) h = absurd h

abbrev join_of : ℕ → Entry
join_of seq = record { msg = record { client_id = None; seq = seq; min = 0; client_seq = pos 1; ref_seq = pos 0; kind = kinds.Join; body = Nothing }; origin = 1 }

join-taken : (doc : Document) (conns : List ℕ) (last seq : ℕ) (pending : List PendingEdit) → doc.minimum ≡ 0
    → after_step (linked (Joining 1) doc conns last seq [] pending) (Takes (join_of (doc.number + 1)))
    ≡ Some (rebuilt 1 (linked (Joining 1) (record doc { number = doc.number + 1; minimum = 0 }) conns last seq [] pending))
join-taken doc conns last seq pending m =
    takes (linked (Joining 1) doc conns last seq [] pending) (join_of (doc.number + 1))
    (none-refuses (nat_eq (doc.number + 1) (doc.number + 1)) false false (nat_lt 0 doc.minimum) (nat_lt (doc.number + 1) 0) false _ (OutOfOrder 0 0) (OutOfOrder 0 0) _ _ (OutOfOrder 0 0)
    (same-number (doc.number + 1)) refl refl (not-below 0 doc.minimum (omega (arith, m))) (not-below (doc.number + 1) 0 (omega arith)) refl)

pub all-given : (s : TextState) (n k low : ℕ) (kept : List Span) → Rejoins s n k low kept [] → k < 2 ^ 64 → (last : ℕ) × HoldsAllGiven last s
all-given s n k low kept h fits =
    let after = h.next in
    let none = none-behind low k h.behind h.spans in
    let sound = client-sound empty (linked (Joining 1) h.doc h.conns h.last h.seq [] (h.front ++ h.behind)) h.made (omega (arith, after, fits)) in (
      h.last,
      record {
        doc = h.doc;
        stages = stages_in h.front;
        sound = subst (λ es. IsTextSound h.last h.doc (stages_in es)) (ap (λ es. h.front ++ es) none ∙ append-nil h.front) sound;
        holds = subst (λ es. HoldsGiven s h.doc (stages_in h.front) (stages_in es)) none h.holds;
      },
    )

pub given-sound : (s : TextState) (n k low : ℕ) (kept : List Span) → (h : Rejoins s n k low kept []) → k < 2 ^ 64 → IsTextSound h.last h.doc (stages_in h.front)
given-sound s n k low kept h fits =
    let after = h.next in
    let none = none-behind low k h.behind h.spans in
    let sound = client-sound empty (linked (Joining 1) h.doc h.conns h.last h.seq [] (h.front ++ h.behind)) h.made (omega (arith, after, fits)) in
    subst (λ es. IsTextSound h.last h.doc (stages_in es)) (ap (λ es. h.front ++ es) none ∙ append-nil h.front) sound

pub given-holds : (s : TextState) (n k low : ℕ) (kept : List Span) → (h : Rejoins s n k low kept []) → HoldsGiven s h.doc (stages_in h.front) []
given-holds s n k low kept h = subst (λ es. HoldsGiven s h.doc (stages_in h.front) (stages_in es)) (none-behind low k h.behind h.spans) h.holds

pub on-ok : {T E : Type 0} (r : Result T E) (P : Type 0) → P → OnOk r P
on-ok (Ok x) P p = p
on-ok (Err e) P p = tt

pub joined : (s new : TextState) (n k low : ℕ) (kept : List Span) → (h : Rejoins s n k low kept []) → k < 2 ^ 64
    → HoldsRejoined new h.doc (stages_in h.front) → new.given ≡ 0 → new.floor ≡ s.floor → IsTrue new.usable → Plays new n k kept
joined s new n k low kept h fits holds given floor usable =
    let none = none-behind low k h.behind h.spans in
    let number = h.number in
    let doc : Document = record h.doc { number = h.doc.number + 1; minimum = 0 } in
    let made : IsMadeOrKept empty (linked (Joining 1) h.doc h.conns h.last h.seq [] h.front)
    = subst (λ es. IsMadeOrKept empty (linked (Joining 1) h.doc h.conns h.last h.seq [] es)) (ap (λ es. h.front ++ es) none ∙ append-nil h.front) h.made in
    let edits = resubmitted_edits doc 1 1 h.front in
    let low-k : low ≤ k = spans-end low k h.behind h.spans in
    record {
      doc = rebuilt_document (map (λ t. t.stage) (stages_in h.front)) doc;
      conns = h.conns;
      last = h.last;
      seq = length edits + 1;
      queue = _;
      pending = edits;
      made = kept-next empty (linked (Joining 1) h.doc h.conns h.last h.seq [] h.front) _ (Takes (join_of (h.doc.number + 1))) made
          (join-taken h.doc h.conns h.last h.seq h.front h.minimum) refl;
      holds = subst (HoldsText new (rebuilt_document (map (λ t. t.stage) (stages_in h.front)) doc)) (sym (again-stages doc 1 1 h.front ∙ all-carried-numbered h.doc (h.doc.number + 1) (stages_in h.front)))
          (numbers-held new (rebuilt_document (map (λ t. t.stage) (stages_in h.front)) h.doc) (flat_map (carried_stage h.doc) (stages_in h.front))
          (h.doc.number + 1) 0 holds);
      usable = usable;
      given = given;
      floor = floor ∙ h.floor;
      own = h.own;
      number = number;
      minimum = refl;
      next = h.next;
      fits = h.fits;
      spans = wider-spans 1 low k kept edits low-k
          (subst (λ i. AreSpans 1 low kept (resubmitted_edits (record h.doc { number = i; minimum = 0 }) 1 1 h.front)) (sym number) h.given_spans);
    }
  where
    spans-end : (low end : ℕ) (es : List PendingEdit) → AreSpans low end [] es → low ≤ end
    spans-end low end es a = spans-low low end [] es a

-- ---- the beginning

pub begins-shared : (s : TextState) → HoldsText s empty [] → s.given ≡ 0 → s.floor ≡ 0 → IsTrue s.usable → Plays s 1 1 []
begins-shared s h given floor usable =
    let joins : (after_steps (Some (client_over empty)) (Connects 1 ∷ Takes (join_of 1) ∷ [])
    ≡ Some (linked (Online 1) (record empty { number = 1; minimum = 0 }) (1 ∷ []) 0 1 [] [])) = refl in
    record {
      doc = record empty { number = 1; minimum = 0 };
      conns = 1 ∷ [];
      last = 0;
      seq = 1;
      queue = [];
      pending = [];
      made = record {
        whole = linked (Online 1) (record empty { number = 1; minimum = 0 }) (1 ∷ []) 0 1 [] [];
        reached = record { start = empty; starts = from_nothing; steps = Connects 1 ∷ Takes (join_of 1) ∷ []; made = joins; bodies = refl };
        starts = refl;
        keeps = keeps-itself (linked (Online 1) (record empty { number = 1; minimum = 0 }) (1 ∷ []) 0 1 [] []);
      };
      holds = numbers-held s empty [] 1 0 h;
      usable = usable;
      given = given;
      floor = floor;
      own = λ c. or-false (nat_eq c 1);
      number = refl;
      minimum = refl;
      next = refl;
      fits = omega arith;
      spans = omega arith;
    }
  where
    or-false : (b : Bool) → b || false ≡ b
    or-false true = refl
    or-false false = refl
