-- A client's document without what is pending is the agreed document of the entries that it took.
use Rattle.std.proofs.Common.{◌≡◌, ℕ, suc, ◌+◌, ◌≤◌, ◌<◌, Bool, true, false, cond, not, ◌&&◌, nat_eq, List, [], ◌∷◌, Option, Some, None, Result, Ok, Err, append-nil, length, map, filter, drop, pos, refl, sym, ◌∙◌, ap, subst, arith}
use Rattle.std.specs.List.{list_all, list_any}
use Rattle.std.proofs.lemmas.Bool.Decides.{nat_tests}
use Rattle.ft_base.proofs.Booleans.{all_four, both}
use Rattle.ft_base.specs.declared.stamps.Stamp.{Stamp}
use Rattle.ft_base.specs.declared.stamps.Stamp.TheVariants.{Acked, Local}
use Rattle.ft_base.specs.Scan.{rank}
use Rattle.ft_base.specs.Visibility.{has_occurred_at_stage}
use Rattle.ft_base.proofs.Options.{some-same}
use Rattle.ft_msg.specs.declared.messages.Entry.{Entry}
use Rattle.ft_msg.specs.declared.messages.Body.{Body}
use Rattle.ft_msg.specs.declared.messages.Body.TheVariants.{Nothing, Op, Elsewhere}
use Rattle.ft_msg.specs.declared.messages.MsgKind.{MsgKind}
use Rattle.ft_msg.specs.declared.messages.MsgKind.TheVariants as kind
use Rattle.ft_msg.specs.declared.views.Link.{Link}
use Rattle.ft_msg.specs.declared.views.Link.TheVariants.{Offline, Joining, Online}
use Rattle.ft_msg.specs.declared.faults.ProcessFault.{ProcessFault}
use Rattle.ft_msg.specs.declared.faults.ProcessFault.TheVariants.{OutOfOrder, NotSent}
use Rattle.ft_props.specs.Element.{ListElement, ElementId, has_id, seen}
use Rattle.ft_props.specs.Slide.{end_number}
use Rattle.ft_sumdoc.specs.declared.summary.IntervalRec.{IntervalRec}
use Rattle.ft_op.specs.Intervals.{Interval}
use Rattle.ft_msg.specs.Content.{ViewContent, all_cells, content, interval_record, markers_from, property_runs_from, shown, stage_view, text_characters}
use Rattle.ft_op.specs.Document.{Document, empty, sequenced_part}
use Rattle.ft_msg.specs.Agreed.{agreed, body_effect, reference_number, take_entries, take_entry, with_numbers}
use Rattle.ft_msg.specs.Client.{NaiveClient, PendingEdit, client_over, local_edit, connect, drop_link, noop, stages_of}
use Rattle.ft_msg.specs.WellFormed.{has_body}
use Rattle.ft_msg.specs.Process.{after_entry, after_foreign_message, come_online, is_oldest, is_op, is_op_kind, is_own, is_own_join, numbers_fault, process, process_fault}
use Rattle.ft_msg.specs.Acknowledgement.{after_own_message}
use Rattle.ft_msg.specs.Reconnection.{rebuilt_document}
use Rattle.ft_laws_agreement.specs.Starts.{IsRunFrom, IsSoundStart}
use Rattle.ft_laws_agreement.proofs.Booleans.{hidden}
use Rattle.ft_laws_agreement.proofs.BareLists.{bare-mark, document-bare}
use Rattle.ft_laws_agreement.proofs.SoundStarts.{empty-sound, start-holds}
use Rattle.ft_msg.specs.ClientSteps.{ClientStep, Edits, Connects, Drops, Idles, Sends, Restarts, Takes, after_step, after_steps, has_fitting_body, is_none_pending, is_without_edits, taken_entries, unless_refused}
use Rattle.ft_laws_agreement.proofs.WithinStages.{is_among, is_numbered, is_within, mark_within, stamp_within}
use Rattle.ft_laws_agreement.proofs.ToldStages.{Holds, ToldStage, stage_numbers}
use Rattle.ft_laws_agreement.proofs.DocumentAgain.{holds-again}
use Rattle.ft_laws_agreement.proofs.EditsAgain.{edits-told_again, edits_again, flat-again}
use Rattle.ft_laws_agreement.proofs.RebuiltDocument.{client-numbers, rebuilt-sequenced}
use Rattle.ft_laws_agreement.proofs.HoldsAfterForeign.{holds-more}
use Rattle.ft_laws_agreement.proofs.ClientHolds.{ClientHolds, LinkIs, Stepped, connect-holds, drop_link-holds, flat, foreign-message, holds-counted, local_edit-holds, noop-holds, own-message, send-holds}
use Rattle.ft_laws_agreement.proofs.NumberTests.{below-other}

-- ---- the client's own join

other-connection : (conns : List ℕ) (conn o : ℕ) → list_any (nat_eq conn) conns ≡ true → list_any (nat_eq o) conns ≡ false → nat_eq o conn ≡ false
other-connection conns conn o h g = either (nat_eq o conn) refl
  where
    same : nat_eq o conn ≡ true → o ≡ conn
    same e = grind (arith, nat_tests)

    either : (b : Bool) → nat_eq o conn ≡ b → b ≡ false
    either true e = sym h ∙ ap (λ i. list_any (nat_eq i) conns) (sym (same e)) ∙ g
    either false e = refl

-- a client that comes online sends its pending edits again
own-join : (bound c : ℕ) (gss : List (List ToldStage)) (x : NaiveClient) (entry : Entry) → ClientHolds bound c gss x → x.doc.number < entry.msg.seq
    → list_any (nat_eq entry.origin) x.conns ≡ true
    → has_body entry.msg.body ≡ false → Stepped bound (take_entry (sequenced_part x.doc) entry) (come_online x entry)
own-join bound c gss x entry h l used body =
    let s = entry.msg.seq in
    let doc = with_numbers entry x.doc in
    let ks = map (λ t. t.stage) (stages_of x) in
    let numbered : Holds c s s x.last_stage (flat gss) doc =
    holds-counted c s s x.last_stage x.doc.skipped x.doc.other s entry.msg.min (flat gss) x.doc
    (holds-more c x.doc.number s x.doc.number s x.last_stage (flat gss) x.doc (omega arith) (omega arith) h.doc) in
    let told : Holds entry.origin s s x.last_stage (flat (edits_again doc s gss x.pending)) (rebuilt_document (stage_numbers (flat gss)) doc) =
    subst (λ ts. Holds entry.origin s s x.last_stage ts (rebuilt_document (stage_numbers (flat gss)) doc)) (sym (flat-again doc s c gss x.pending h.edits))
    (holds-again c s s x.last_stage entry.origin (flat gss) doc numbered) in
    let holds : Holds entry.origin s s x.last_stage (flat (edits_again doc s gss x.pending)) (rebuilt_document ks doc) =
    subst (λ js. Holds entry.origin s s x.last_stage (flat (edits_again doc s gss x.pending)) (rebuilt_document js doc)) (sym (client-numbers bound c gss x h)) told in
    record {
      c = entry.origin;
      gss = edits_again doc s gss x.pending;
      client = record {
        doc = holds;
        edits = edits-told_again doc s c entry.origin 1 gss x.pending refl h.edits;
        link = refl;
        conn = λ o k g. other-connection
            x.conns entry.origin o used g;
      };
      agrees = rebuilt-sequenced ks doc ∙ ap (with_numbers entry) (sym (empty-body (sequenced_part x.doc) s entry.origin (reference_number entry.msg.ref_seq) entry.msg.body body));
    }
  where
    empty-body : (doc : Document) (s d r : ℕ) (body : Body) → has_body body ≡ false → body_effect doc s d r body ≡ doc
    empty-body doc s d r Nothing g = refl
    empty-body doc s d r (Op op) g = (cc)
    empty-body doc s d r (Elsewhere address) g = (cc)

-- ---- what an entry that isn't refused says

-- the number is the next one; and a client's own operation is its oldest pending edit
pub record Accepted (x : NaiveClient) (entry : Entry) : Type 0 where
  pub next : x.doc.number < entry.msg.seq
  pub oldest : is_op_kind entry.msg.kind && is_own x entry ≡ true → is_oldest entry x.pending ≡ true

next-number : (m n : ℕ) → nat_eq n (m + 1) ≡ true → m < n
next-number m n h = grind (arith, nat_tests)

not-sent : (a b c : Bool) → cond (a && b && not c) (Some NotSent) None ≡ None → a && b ≡ true → c ≡ true
not-sent true true true h g = refl
not-sent true true false h g = (cc)
not-sent true false c h g = (cc)
not-sent false b c h g = (cc)

fault-first : (b : Bool) (fault : ProcessFault) (later : Option ProcessFault) → cond (not b) (Some fault) later ≡ None → (b ≡ true) × (later ≡ None)
fault-first true fault later h = (refl, h)
fault-first false fault later h = (cc)

abbrev sent_fault : NaiveClient → Entry → Option ProcessFault → Option ProcessFault
sent_fault x entry (Some fault) = Some fault
sent_fault x entry None = cond (is_op_kind entry.msg.kind && is_own x entry && not (is_oldest entry x.pending)) (Some NotSent) None

no-numbers-fault : (x : NaiveClient) (entry : Entry) (o : Option ProcessFault) → sent_fault x entry o ≡ None
    → cond (is_op_kind entry.msg.kind && is_own x entry && not (is_oldest entry x.pending)) (Some NotSent) None ≡ None
no-numbers-fault x entry None h = h
no-numbers-fault x entry (Some fault) h = (cc)

pub accepted : (x : NaiveClient) (entry : Entry) → process_fault x entry ≡ None → Accepted x entry
accepted x entry h =
    let f = fault-first (nat_eq entry.msg.seq (x.doc.number + 1)) (OutOfOrder (x.doc.number + 1) entry.msg.seq) (sent_fault x entry (numbers_fault x entry)) h in
    record {
      next = next-number x.doc.number entry.msg.seq f.0;
      oldest = not-sent (is_op_kind entry.msg.kind) (is_own x entry) (is_oldest entry x.pending) (no-numbers-fault x entry (numbers_fault x entry) f.1);
    }

abbrev process_from : NaiveClient → Entry → Option ProcessFault → Result NaiveClient ProcessFault
process_from x entry (Some fault) = Err fault
process_from x entry None = Ok (after_entry x entry)

processed : (x y : NaiveClient) (entry : Entry) (o : Option ProcessFault) → process_fault x entry ≡ o → process_from x entry o ≡ Ok y → Accepted x entry × (after_entry x entry ≡ y)
processed x y entry None e h = (accepted x entry e, (cc))
processed x y entry (Some fault) e h = (cc)

-- ---- the three ways of an entry

own-join-origin : (link : Link) (k : MsgKind) (origin : ℕ) (c : ℕ) (conns : List ℕ) → LinkIs c conns link → is_own_join link k origin ≡ true
    → (list_any (nat_eq origin) conns ≡ true) × (is_op_kind k ≡ false)
own-join-origin (Joining conn) kind.Join origin c conns h g = (ap (λ i. list_any (nat_eq i) conns) (sym (same g)) ∙ h, refl)
  where
    same : nat_eq conn origin ≡ true → conn ≡ origin
    same e = grind (arith, nat_tests)
own-join-origin (Joining conn) kind.Op origin c conns h g = (cc)
own-join-origin (Joining conn) kind.Leave origin c conns h g = (cc)
own-join-origin (Joining conn) kind.Noop origin c conns h g = (cc)
own-join-origin (Joining conn) (kind.Other word) origin c conns h g = (cc)
own-join-origin Offline k origin c conns h g = (cc)
own-join-origin (Online conn) k origin c conns h g = (cc)

fitting-empty : (a b : Bool) → cond a b (not b) ≡ true → a ≡ false → b ≡ false
fitting-empty true b h g = (cc)
fitting-empty false b h g = hidden b h

pub op-kind : (a : Bool) (body : Body) → cond a (has_body body) (not (has_body body)) ≡ true → is_op body ≡ true → a ≡ true
op-kind true body h g = refl
op-kind false Nothing h g = (cc)
op-kind false (Op op) h g = (cc)
op-kind false (Elsewhere address) h g = (cc)

not-both : (a b : Bool) → a && b ≡ false → a ≡ true → b ≡ false
not-both true b h g = h
not-both false b h g = (cc)

entry-holds : (bound c : ℕ) (gss : List (List ToldStage)) (x : NaiveClient) (entry : Entry) → ClientHolds bound c gss x → Accepted x entry
    → entry.origin < bound → has_fitting_body entry ≡ true
    → (b : Bool) → is_own_join x.link entry.msg.kind entry.origin ≡ b → (o : Bool) → is_op entry.msg.body && is_own x entry ≡ o
    → Stepped bound (take_entry (sequenced_part x.doc) entry) (cond b (come_online x entry) (cond o (after_own_message x entry) (after_foreign_message x entry)))
entry-holds bound c gss x entry h a below fits true e o f =
    let own = own-join-origin x.link entry.msg.kind entry.origin c x.conns h.link e in
    own-join bound c gss x entry h a.next own.0 (fitting-empty (is_op_kind entry.msg.kind) (has_body entry.msg.body) fits own.1)
entry-holds bound c gss x entry h a below fits false e true f =
    let p = both (is_op entry.msg.body) (is_own x entry) f in
    let op = op-kind (is_op_kind entry.msg.kind) entry.msg.body fits p.0 in
    own-message bound c gss x entry h a.next (a.oldest (rw (op, p.1) refl))
entry-holds bound c gss x entry h a below fits false e false f =
    foreign-message bound c gss x entry h a.next (λ op. h.conn entry.origin below (not-both (is_op entry.msg.body) (is_own x entry) f op))

pub process-holds : (bound c : ℕ) (gss : List (List ToldStage)) (x y : NaiveClient) (entry : Entry) → ClientHolds bound c gss x → entry.origin < bound
    → has_fitting_body entry ≡ true
    → process x entry ≡ Ok y → Stepped bound (take_entry (sequenced_part x.doc) entry) y
process-holds bound c gss x y entry h below fits e =
    let p = processed x y entry (process_fault x entry) refl e in
    subst (λ z. Stepped bound (take_entry (sequenced_part x.doc) entry) z) p.1
    (entry-holds bound c gss x entry h p.0 below fits (is_own_join x.link entry.msg.kind entry.origin) refl (is_op entry.msg.body && is_own x entry) refl)

-- ---- all steps

-- the connections of all entries are below the bound
abbrev pub AreBelow : ℕ → List Entry → Type 0
AreBelow bound [] = Unit {0}
AreBelow bound (entry ∷ entries) = (entry.origin < bound) × AreBelow bound entries

pub bound_of : List Entry → ℕ
bound_of [] = 0
bound_of (entry ∷ entries) = suc entry.origin + bound_of entries

below-more : (m n : ℕ) (entries : List Entry) → m ≤ n → AreBelow m entries → AreBelow n entries
below-more m n [] l h = tt
below-more m n (entry ∷ entries) l h =
    let here : entry.origin < m = h.0 in
    let more : entry.origin < n = omega arith in
    (more, below-more m n entries l h.1)

are-below : (entries : List Entry) → AreBelow (bound_of entries) entries
unfolding bound_of
are-below [] = tt
are-below (entry ∷ entries) = (omega arith, below-more (bound_of entries) (suc entry.origin + bound_of entries) entries (omega arith) (are-below entries))

pub refused-ok : {A E : Type 0} (r : Result A E) (y : A) → unless_refused r ≡ Some y → r ≡ Ok y
refused-ok (Ok x) y h = ap Ok (some-same x y h)
refused-ok (Err fault) y h = (cc)

agreeing : (bound : ℕ) (A B : Document) (y : NaiveClient) → A ≡ B → Stepped bound A y → Stepped bound B y
agreeing bound A B y e s = subst (λ d. Stepped bound d y) e s

then-holds : (bound : ℕ) (steps : List ClientStep) (A B : Document) (y : NaiveClient)
    → ((z : NaiveClient) → Stepped bound A z → after_steps (Some z) steps ≡ Some y → Stepped bound B y)
    → (o : Option NaiveClient) → ((z : NaiveClient) → o ≡ Some z → Stepped bound A z) → after_steps o steps ≡ Some y → Stepped bound B y
then-holds bound steps A B y ih None f h = (cc)
then-holds bound steps A B y ih (Some z) f h = ih z (f z refl) h

-- a new client over the document of one with nothing pending
restarted : (bound c : ℕ) (gss : List (List ToldStage)) (x : NaiveClient) (edits : List PendingEdit) → ClientHolds bound c gss (record x { pending = edits })
    → is_none_pending edits ≡ true → Stepped bound (sequenced_part x.doc) (client_over x.doc)
restarted bound c [] x [] h none = record {
  c = bound;
  gss = [];
  client = record {
    doc = record {
      told = tt;
      rising = omega arith;
      text = h.doc.text;
      rows = h.doc.rows;
      cols = h.doc.cols;
      text_order = h.doc.text_order;
      rows_order =
          h.doc.rows_order;
      cols_order = h.doc.cols_order;
      stand = tt;
      sound = h.doc.sound;
    };
    edits = tt;
    link = tt;
    conn = λ o l g. below-other o bound l;
  };
  agrees = refl;
}
restarted bound c (gs ∷ gss) x [] h none = absurd h.edits
restarted bound c gss x (edit ∷ edits) h none = (cc)

restarts : (bound c : ℕ) (gss : List (List ToldStage)) (x z : NaiveClient) (edits : List PendingEdit) → ClientHolds bound c gss (record x { pending = edits })
    → (b : Bool) → is_none_pending edits ≡ b
    → cond b (Some (client_over x.doc)) None ≡ Some z → Stepped bound (sequenced_part x.doc) z
restarts bound c gss x z edits h true e f =
    let same : client_over x.doc ≡ z = (cc) in
    subst (λ w. Stepped bound (sequenced_part x.doc) w) same (restarted bound c gss x edits h e)
restarts bound c gss x z edits h false e f = (cc)

-- all steps of a client keep what is known of it
pub steps-hold : (bound : ℕ) (steps : List ClientStep) (A : Document) (x y : NaiveClient) → Stepped bound A x → AreBelow bound (taken_entries steps)
    → list_all has_fitting_body (taken_entries steps) ≡ true
    → after_steps (Some x) steps ≡ Some y → Stepped bound (take_entries A (taken_entries steps)) y
steps-hold bound [] A x y s below fits h =
    let same : x ≡ y = (cc) in
    subst (λ z. Stepped bound A z) same s
steps-hold bound (Edits op ∷ steps) A x y s below fits h =
    then-holds bound steps A (take_entries A (taken_entries steps)) y (λ z t g. steps-hold bound steps A z y t below fits g) (after_step x (Edits op))
    (λ z e. agreeing bound (sequenced_part x.doc) A z s.agrees (local_edit-holds bound s.c s.gss x z op s.client (refused-ok (local_edit x op) z e))) h
steps-hold bound (Connects conn ∷ steps) A x y s below fits h =
    then-holds bound steps A (take_entries A (taken_entries steps)) y (λ z t g. steps-hold bound steps A z y t below fits g) (after_step x (Connects conn))
    (λ z e. agreeing bound (sequenced_part x.doc) A z s.agrees (connect-holds bound s.c s.gss x z conn s.client (refused-ok (connect x conn) z e))) h
steps-hold bound (Drops ∷ steps) A x y s below fits h =
    then-holds bound steps A (take_entries A (taken_entries steps)) y (λ z t g. steps-hold bound steps A z y t below fits g) (after_step x Drops)
    (λ z e. agreeing bound (sequenced_part x.doc) A z s.agrees (drop_link-holds bound s.c s.gss x z s.client (refused-ok (drop_link x) z e))) h
steps-hold bound (Idles ∷ steps) A x y s below fits h =
    then-holds bound steps A (take_entries A (taken_entries steps)) y (λ z t g. steps-hold bound steps A z y t below fits g) (after_step x Idles)
    (λ z e. agreeing bound (sequenced_part x.doc) A z s.agrees (noop-holds bound s.c s.gss x z s.client (refused-ok (noop x) z e))) h
steps-hold bound (Sends ∷ steps) A x y s below fits h =
    steps-hold bound steps A (record x { queue = drop 1 x.queue }) y (agreeing bound (sequenced_part x.doc) A (record x { queue = drop 1 x.queue }) s.agrees
    (send-holds bound s.c s.gss x s.client)) below fits h
steps-hold bound (Restarts ∷ steps) A x y s below fits h =
    then-holds bound steps A (take_entries A (taken_entries steps)) y (λ z t g. steps-hold bound steps A z y t below fits g) (after_step x Restarts)
    (λ z e. agreeing bound (sequenced_part x.doc) A z s.agrees (restarts bound s.c s.gss x z x.pending s.client (is_none_pending x.pending) refl e)) h
steps-hold bound (Takes entry ∷ steps) A x y s below fits h =
    let f = both (has_fitting_body entry) (list_all has_fitting_body (taken_entries steps)) fits in
    then-holds bound steps (take_entry A entry) (take_entries (take_entry A entry) (taken_entries steps)) y
    (λ z t g. steps-hold bound steps (take_entry A entry) z y t below.1 f.1 g) (after_step x (Takes entry))
    (λ z e. agreeing bound (take_entry (sequenced_part x.doc) entry) (take_entry A entry) z (ap (λ d. take_entry d entry) s.agrees)
    (process-holds bound s.c s.gss x z entry s.client below.0 f.0 (refused-ok (process x entry) z e))) h

-- ---- from a sound start on

pub stepped-start : (bound : ℕ) (start : Document) → IsSoundStart start → Stepped bound start (client_over start)
stepped-start bound start sound =
    let h = start-holds bound start sound in
    record { c = bound; gss = []; client = h; agrees = document-bare bound start.number start.number 0 start h.doc }

pub all-stepped-from : (start : Document) (steps : List ClientStep) (y : NaiveClient) → IsRunFrom start steps y
    → Stepped (bound_of (taken_entries steps)) (take_entries start (taken_entries steps)) y
all-stepped-from start steps y run =
    let bound = bound_of (taken_entries steps) in
    steps-hold bound steps start (client_over start) y (stepped-start bound start run.sound) (are-below (taken_entries steps)) run.bodies run.made

-- without what is pending a client's document is the start with the entries that it took
pub clients-agree-from : (start : Document) (steps : List ClientStep) (y : NaiveClient) → IsRunFrom start steps y → sequenced_part y.doc ≡ take_entries start (taken_entries steps)
clients-agree-from start steps y run = (all-stepped-from start steps y run).agrees

bare-client : (bound c : ℕ) (gss : List (List ToldStage)) (x : NaiveClient) (edits : List PendingEdit) → ClientHolds bound c gss (record x { pending = edits })
    → is_none_pending edits ≡ true → sequenced_part x.doc ≡ x.doc
bare-client bound c [] x [] h none = document-bare c x.doc.number x.doc.number x.last_stage x.doc h.doc
bare-client bound c (gs ∷ gss) x [] h none = absurd h.edits
bare-client bound c gss x (edit ∷ edits) h none = (cc)

-- a client with nothing pending has just that document
pub idle-clients-agree-from : (start : Document) (steps : List ClientStep) (y : NaiveClient) → IsRunFrom start steps y → is_without_edits y ≡ true → y.doc
    ≡ take_entries start (taken_entries steps)
idle-clients-agree-from start steps y run none =
    let s = all-stepped-from start steps y run in
    sym (bare-client (bound_of (taken_entries steps)) s.c s.gss y y.pending s.client none) ∙ s.agrees

-- ---- from the empty document on

pub run-from-empty : (steps : List ClientStep) (y : NaiveClient) → after_steps (Some (client_over empty)) steps ≡ Some y
    → list_all has_fitting_body (taken_entries steps) ≡ true → IsRunFrom empty steps y
run-from-empty steps y h fits = record { sound = empty-sound; made = h; bodies = fits }

pub all-stepped : (steps : List ClientStep) (y : NaiveClient) → after_steps (Some (client_over empty)) steps ≡ Some y → list_all has_fitting_body (taken_entries steps) ≡ true
    → Stepped (bound_of (taken_entries steps)) (agreed (taken_entries steps)) y
all-stepped steps y h fits = all-stepped-from empty steps y (run-from-empty steps y h fits)

-- without what is pending a client's document is the agreed one
pub clients-agree : (steps : List ClientStep) (y : NaiveClient) → after_steps (Some (client_over empty)) steps ≡ Some y → list_all has_fitting_body (taken_entries steps) ≡ true
    → sequenced_part y.doc ≡ agreed (taken_entries steps)
clients-agree steps y h fits = clients-agree-from empty steps y (run-from-empty steps y h fits)

-- a client with nothing pending has the agreed document
pub idle-clients-agree : (steps : List ClientStep) (y : NaiveClient) → after_steps (Some (client_over empty)) steps ≡ Some y
    → list_all has_fitting_body (taken_entries steps) ≡ true
    → is_without_edits y ≡ true → y.doc ≡ agreed (taken_entries steps)
idle-clients-agree steps y h fits none = idle-clients-agree-from empty steps y (run-from-empty steps y h fits) none

-- ---- what is shown

filter-agree : (is test test' : ListElement → Bool) → ((e : ListElement) → is e ≡ true → test e ≡ test' e) → (xs : List ListElement) → list_all is xs ≡ true
    → filter test xs ≡ filter test' xs
filter-agree is test test' same [] h = refl
filter-agree is test test' same (e ∷ xs) h = grind (arith, filter-agree is test test' same xs, same e)

rank-agree : (is meant test test' : ListElement → Bool) → ((e : ListElement) → is e ≡ true → test e ≡ test' e) → (xs : List ListElement) → list_all is xs
    ≡ true → rank meant test xs ≡ rank meant test' xs
rank-agree is meant test test' same [] h = refl
rank-agree is meant test test' same (e ∷ xs) h = grind (arith, rank-agree is meant test test' same xs, same e)

reached-bare : (n k : ℕ) (t : Stamp) → stamp_within n [] t ≡ true → has_occurred_at_stage k t ≡ true
reached-bare n k (Acked s c) h = refl
reached-bare n k (Local j) h = (cc)

removed-bare : (n k : ℕ) (dels : List Stamp) → list_all (is_numbered n) dels ≡ true → list_any (has_occurred_at_stage k) dels ≡ list_any (has_occurred_at_stage 0) dels
removed-bare n k [] h = refl
removed-bare n k (Acked s c ∷ dels) h = refl
removed-bare n k (Local j ∷ dels) h = (cc)

-- each stage shows the same where nothing is pending
seen-bare : (n k : ℕ) (e : ListElement) → is_within n [] e ≡ true → seen k e ≡ seen 0 e
seen-bare n k e h =
    let p = all_four (stamp_within n [] e.ins) (list_all (is_numbered n) e.dels) (mark_within [] e.removal_stage) (list_all (λ p. is_among [] p.0) e.pending) h in
    let none = bare-mark e.removal_stage p.2 in
    rw (none, append-nil e.dels, reached-bare n k e.ins p.0, reached-bare n 0 e.ins p.0, removed-bare n k e.dels p.1) refl

end-bare : (n k : ℕ) (xs : List ListElement) (o : Option ElementId) → list_all (is_within n []) xs ≡ true → end_number k xs o ≡ end_number 0 xs o
end-bare n k xs None h = refl
end-bare n k xs (Some x) h = ap pos (rank-agree (is_within n []) (has_id x) (seen k) (seen 0) (seen-bare n k) xs h)

intervals-bare : (n k : ℕ) (xs : List ListElement) (is : List Interval) → list_all (is_within n []) xs ≡ true → map (interval_record k xs) is ≡ map (interval_record 0 xs) is
intervals-bare n k xs [] h = refl
intervals-bare n k xs (i ∷ is) h = rw (end-bare n k xs i.start h, end-bare n k xs i.end h, intervals-bare n k xs is h) refl

-- what is shown of these views
abbrev shown_of : Document → List ListElement → List ListElement → List ListElement → List IntervalRec → ViewContent
shown_of doc text rows cols intervals = record {
  text = text_characters text;
  markers = markers_from 0 text;
  runs = property_runs_from 0 text;
  intervals = intervals;
  rows = length rows;
  cols = length cols;
  cells = all_cells doc.cells [] cols 0 rows;
}

shows-bare : (c m n last : ℕ) (x : NaiveClient) → Holds c m n last [] x.doc → content (record x { pending = [] }) ≡ shown x.doc
shows-bare c m n last x h =
    let k = x.last_stage in
    let doc = x.doc in
    ap (λ text. shown_of doc text (filter (seen k) doc.rows.items) (filter (seen k) doc.cols.items) (map (interval_record k doc.text.items) doc.intervals))
    (filter-agree (is_within n []) (seen k) (seen 0) (seen-bare n k) doc.text.items h.text)
    ∙ ap (λ rows. shown_of doc (filter (seen 0) doc.text.items) rows (filter (seen k) doc.cols.items) (map (interval_record k doc.text.items) doc.intervals))
    (filter-agree (is_within n []) (seen k) (seen 0) (seen-bare n k) doc.rows.items h.rows)
    ∙ ap (λ cols. shown_of doc (filter (seen 0) doc.text.items) (filter (seen 0) doc.rows.items) cols (map (interval_record k doc.text.items) doc.intervals))
    (filter-agree (is_within n []) (seen k) (seen 0) (seen-bare n k) doc.cols.items h.cols)
    ∙ ap (λ is. shown_of doc (filter (seen 0) doc.text.items) (filter (seen 0) doc.rows.items) (filter (seen 0) doc.cols.items) is)
    (intervals-bare n k doc.text.items doc.intervals h.text)

shows-idle : (bound c : ℕ) (gss : List (List ToldStage)) (x : NaiveClient) (edits : List PendingEdit) → ClientHolds bound c gss (record x { pending = edits })
    → is_none_pending edits ≡ true → content (record x { pending = edits }) ≡ shown x.doc
shows-idle bound c [] x [] h none = shows-bare c x.doc.number x.doc.number x.last_stage x h.doc
shows-idle bound c (gs ∷ gss) x [] h none = absurd h.edits
shows-idle bound c gss x (edit ∷ edits) h none = (cc)

-- a client with nothing pending shows the start with the entries that it took
pub idle-clients-show-from : (start : Document) (steps : List ClientStep) (y : NaiveClient) → IsRunFrom start steps y → is_without_edits y ≡ true → content y
    ≡ shown (take_entries start (taken_entries steps))
idle-clients-show-from start steps y run none =
    let s = all-stepped-from start steps y run in
    shows-idle (bound_of (taken_entries steps)) s.c s.gss y y.pending s.client none ∙ ap shown (idle-clients-agree-from start steps y run none)

-- from the empty document on it shows the agreed document
pub idle-clients-show : (steps : List ClientStep) (y : NaiveClient) → after_steps (Some (client_over empty)) steps ≡ Some y → list_all has_fitting_body (taken_entries steps) ≡ true
    → is_without_edits y ≡ true → content y ≡ shown (agreed (taken_entries steps))
idle-clients-show steps y h fits none = idle-clients-show-from empty steps y (run-from-empty steps y h fits) none

views-idle : (bound c k : ℕ) (gss : List (List ToldStage)) (x : NaiveClient) (edits : List PendingEdit)
    → ClientHolds bound c gss (record x { pending = edits }) → is_none_pending edits ≡ true
    → stage_view k x.doc.text.items ≡ stage_view 0 x.doc.text.items
views-idle bound c k [] x [] h none = filter-agree (is_within x.doc.number []) (seen k) (seen 0) (seen-bare x.doc.number k) x.doc.text.items h.doc.text
views-idle bound c k (gs ∷ gss) x [] h none = absurd h.edits
views-idle bound c k gss x (edit ∷ edits) h none = (cc)

-- and sees the elements of the text that this document has, at each stage
pub idle-views : (steps : List ClientStep) (y : NaiveClient) (k : ℕ) → after_steps (Some (client_over empty)) steps ≡ Some y
    → list_all has_fitting_body (taken_entries steps) ≡ true
    → is_without_edits y ≡ true → stage_view k y.doc.text.items ≡ stage_view 0 (agreed (taken_entries steps)).text.items
idle-views steps y k h fits none =
    let s = all-stepped steps y h fits in
    views-idle (bound_of (taken_entries steps)) s.c k s.gss y y.pending s.client none ∙ ap (λ (d : Document). stage_view 0 d.text.items) (idle-clients-agree steps y h fits none)
