-- What is known of a client, and that its steps keep it.
use Rattle.std.proofs.Common.{◌≡◌, ◌⊎◌, inl, inr, ℕ, suc, ◌+◌, ◌<◌, Bool, true, false, ◌||◌, nat_eq, List, [], ◌∷◌, ◌++◌, Option, Some, None, Result, Ok, Err, append-nil, append_assoc, add-one, length, map, drop, pos, refl, sym, ◌∙◌, ap, subst, arith}
use Rattle.std.specs.List.{list_all, list_any, flat_map}
use Rattle.std.proofs.lemmas.List.{map-append}
use Rattle.std.proofs.lemmas.List.Folds.{list_any-append}
use Rattle.std.proofs.lemmas.Bool.Decides.{nat_tests}
use Rattle.ft_base.proofs.Booleans.{all_four}
use Rattle.ft_op.specs.declared.operations.ChannelOp.{ChannelOp}
use Rattle.ft_op.specs.declared.operations.ChannelOp.TheVariants.{Text, Grid}
use Rattle.ft_op.specs.declared.operations.BaseOp.{BaseOp}
use Rattle.ft_op.specs.declared.operations.CellOp.{CellOp}
use Rattle.ft_op.specs.declared.operations.GridOp.TheVariants as grid
use Rattle.ft_op.specs.declared.operations.TextOp.{TextOp}
use Rattle.ft_op.specs.declared.operations.TextOp.TheVariants.{One, Group, IntervalAdd, IntervalChange, IntervalDelete}
use Rattle.ft_msg.specs.declared.messages.Entry.{Entry}
use Rattle.ft_msg.specs.declared.messages.Body.{Body}
use Rattle.ft_msg.specs.declared.messages.Body.TheVariants.{Nothing, Op, Elsewhere}
use Rattle.ft_msg.specs.declared.views.Link.{Link}
use Rattle.ft_msg.specs.declared.views.Link.TheVariants.{Offline, Joining, Online}
use Rattle.ft_msg.specs.declared.faults.EditFault.{EditFault}
use Rattle.ft_props.specs.Element.{ElementId}
use Rattle.ft_op.specs.Operation.{OnGrid, OnIntervals, OnText, SubOperation, sub_operations}
use Rattle.ft_op.specs.Same.{same_int}
use Rattle.ft_op.specs.Document.{Document, effects, sequenced_part}
use Rattle.ft_op.specs.Stages.{Stage}
use Rattle.ft_msg.specs.Agreed.{body_effect, reference_number, take_entry, with_numbers}
use Rattle.ft_msg.specs.Client.{NaiveClient, PendingEdit, SentAs, after_edit, connect, drop_link, local_edit, local_sub_operations, noop, sent_as, stages_of, with_draft}
use Rattle.ft_msg.specs.Acknowledgement.{ack_stages, after_own_message, renamed_edit, renamed_stage}
use Rattle.ft_msg.specs.Process.{after_foreign_message, is_body, is_oldest, is_op, is_sent_as}
use Rattle.ft_msg.proofs.ForeignMessage.{take_entry-sequenced}
use Rattle.ft_laws_agreement.proofs.SentStages.{told_as}
use Rattle.ft_laws_agreement.proofs.NamedByPlace.{names-not_renamed}
use Rattle.ft_laws_agreement.proofs.ToldStages.{AllStand, Holds, ToldStage, renamed_told}
use Rattle.ft_laws_agreement.proofs.AcknowledgedEdit.{AllRef, edit-acked}
use Rattle.ft_laws_agreement.proofs.HoldsAfterForeign.{effects-hold, holds-more}
use Rattle.ft_laws_agreement.proofs.OwnSubOperations.{OwnEdit, refs-typed, stages-typed, sub_operations-own, told_as-told_of, typed_stages}
use Rattle.ft_op.proofs.SameOperations.{same_int-Decides, same_op-Decides}
use Rattle.ft_laws_agreement.proofs.Booleans.{or-true}
use Rattle.ft_props.proofs.AcknowledgedInsertion.{same_nat}

-- the stages of all edits
abbrev pub flat : List (List ToldStage) → List ToldStage
flat [] = []
flat (gs ∷ gss) = gs ++ flat gss

-- an edit that was sent went out under connection c, with the sub-operations of its stages
abbrev pub SentTold : ℕ → List ToldStage → Option SentAs → Type 0
SentTold c gs None = Unit {0}
SentTold c gs (Some sent) = (sent.conn ≡ c) × (sub_operations sent.op ≡ flat_map (λ g. told_as g.sent) gs)

abbrev pub is_on_text : SubOperation → Bool
is_on_text (OnText op) = true
is_on_text (OnIntervals op) = false
is_on_text (OnGrid op) = false

abbrev pub is_on_grid : SubOperation → Bool
is_on_grid (OnText op) = false
is_on_grid (OnIntervals op) = false
is_on_grid (OnGrid op) = true

abbrev pub is_interval_operation : TextOp → Bool
is_interval_operation (One op) = false
is_interval_operation (Group ops) = false
is_interval_operation (IntervalAdd label id ends props) = true
is_interval_operation (IntervalChange label id ends props) = true
is_interval_operation (IntervalDelete label id) = true

abbrev pub is_on_intervals : SubOperation → Bool
is_on_intervals (OnText op) = false
is_on_intervals (OnIntervals op) = is_interval_operation op
is_on_intervals (OnGrid op) = false

-- one interval operation alone
abbrev pub is_one_interval : List SubOperation → Bool
is_one_interval [] = false
is_one_interval (o ∷ []) = is_on_intervals o
is_one_interval (o ∷ p ∷ os) = false

-- the sub-operations of an edit are all of the text, all of the grid, or one interval operation
abbrev pub AreOfOneKind : List SubOperation → Type 0
AreOfOneKind os = (list_all is_on_text os ≡ true) ⊎ ((list_all is_on_grid os ≡ true) ⊎ (is_one_interval os ≡ true))

pub record EditTold (c : ℕ) (gs : List ToldStage) (edit : PendingEdit) : Type 0 where
  pub stages : edit.stages ≡ map (λ g. g.stage) gs
  pub refs : AllRef edit.ref_seq gs
  pub kind : AreOfOneKind (map (λ g. g.stage.sub_operation) gs)
  pub sent : SentTold c gs edit.sent

abbrev pub EditsTold : ℕ → List (List ToldStage) → List PendingEdit → Type 0
EditsTold c [] [] = Unit {0}
EditsTold c [] (edit ∷ edits) = ⊥
EditsTold c (gs ∷ gss) [] = ⊥
EditsTold c (gs ∷ gss) (edit ∷ edits) = EditTold c gs edit × EditsTold c gss edits

-- an online client sends under connection c, and one that joins has used its new connection
abbrev pub LinkIs : ℕ → List ℕ → Link → Type 0
LinkIs c conns Offline = Unit {0}
LinkIs c conns (Joining conn) = list_any (nat_eq conn) conns ≡ true
LinkIs c conns (Online conn) = conn ≡ c

-- the stages stand in its document, its edits are told, c is the connection under which it was online last, and no other
-- client with a connection number below the bound has it
pub record ClientHolds (bound c : ℕ) (gss : List (List ToldStage)) (x : NaiveClient) : Type 0 where
  pub doc : Holds c x.doc.number x.doc.number x.last_stage (flat gss) x.doc
  pub edits : EditsTold c gss x.pending
  pub link : LinkIs c x.conns x.link
  pub conn : (o : ℕ) → o < bound → list_any (nat_eq o) x.conns ≡ false → nat_eq o c ≡ false

-- ---- counts and numbers

abbrev counted : ℕ → ℕ → ℕ → ℕ → Document → Document
counted skipped other number minimum doc = record doc { skipped = skipped; other = other; number = number; minimum = minimum }

stand-counted : (c a b i m : ℕ) (ts : List ToldStage) (doc : Document) → AllStand c doc ts → AllStand c (counted a b i m doc) ts
stand-counted c a b i m [] doc h = tt
stand-counted c a b i m (t ∷ ts) doc h = (record { text = h.0.text; rows = h.0.rows; cols = h.0.cols; named = h.0.named }, stand-counted c a b i m ts doc h.1)

pub holds-counted : (c m n last a b i j : ℕ) (ts : List ToldStage) (doc : Document) → Holds c m n last ts doc → Holds c m n last ts (counted a b i j doc)
holds-counted c m n last a b i j ts doc h = record {
  told = h.told;
  rising = h.rising;
  text = h.text;
  rows = h.rows;
  cols = h.cols;
  text_order = h.text_order;
  rows_order = h.rows_order;
  cols_order = h.cols_order;
  stand = stand-counted c a b i j ts doc h.stand;
  sound = record { named = h.sound.named; ends = h.sound.ends; rows = h.sound.rows; cols = h.sound.cols };
}

-- ---- an edit of the client's own

flat-append : (gss : List (List ToldStage)) (gs : List ToldStage) → flat (gss ++ (gs ∷ [])) ≡ flat gss ++ gs
flat-append [] gs = append-nil gs
flat-append (hs ∷ gss) gs = ap (λ ts. hs ++ ts) (flat-append gss gs) ∙ sym (append_assoc hs (flat gss) gs)

edits-append : (c : ℕ) (gss : List (List ToldStage)) (edits : List PendingEdit) (gs : List ToldStage) (edit : PendingEdit) → EditsTold c gss edits
    → EditTold c gs edit → EditsTold c (gss ++ (gs ∷ [])) (edits ++ (edit ∷ []))
edits-append c [] [] gs edit h k = (k, tt)
edits-append c [] (e ∷ edits) gs edit h k = absurd h
edits-append c (hs ∷ gss) [] gs edit h k = absurd h
edits-append c (hs ∷ gss) (e ∷ edits) gs edit h k = (h.0, edits-append c gss edits gs edit h.1 k)

sent-told : (c m : ℕ) (conns : List ℕ) (link : Link) (op : ChannelOp) (gs : List ToldStage) → LinkIs c conns link → sub_operations op
    ≡ flat_map (λ g. told_as g.sent) gs → SentTold c gs (sent_as link m op)
sent-told c m conns Offline op gs h e = tt
sent-told c m conns (Joining conn) op gs h e = tt
sent-told c m conns (Online conn) op gs h e = (h, e)

draft-holds : (bound c : ℕ) (gss : List (List ToldStage)) (sent : Option SentAs) (ref : ℕ) (x : NaiveClient) → ClientHolds bound c gss x
    → ClientHolds bound c gss (with_draft sent ref x)
draft-holds bound c gss None ref x h = h
draft-holds bound c gss (Some sent) ref x h = record { doc = h.doc; edits = h.edits; link = h.link; conn = h.conn }

pub draft-doc : (sent : Option SentAs) (ref : ℕ) (x : NaiveClient) → (with_draft sent ref x).doc ≡ x.doc
draft-doc None ref x = refl
draft-doc (Some sent) ref x = refl

-- what a step makes, where the document of the messages alone becomes that
pub record Stepped (bound : ℕ) (agreed_doc : Document) (y : NaiveClient) : Type 0 where
  pub c : ℕ
  pub gss : List (List ToldStage)
  pub client : ClientHolds bound c gss y
  pub agrees : sequenced_part y.doc ≡ agreed_doc

all-text : (ops : List BaseOp) → list_all is_on_text (map (λ op. OnText op) ops) ≡ true
all-text [] = refl
all-text (op ∷ ops) = all-text ops

all-grid : (ops : List CellOp) → list_all is_on_grid (map (λ op. OnGrid op) ops) ≡ true
all-grid [] = refl
all-grid (op ∷ ops) = all-grid ops

one-kind : (op : ChannelOp) → AreOfOneKind (sub_operations op)
one-kind (Text (One op)) = inl refl
one-kind (Text (Group ops)) = inl (all-text ops)
one-kind (Text (IntervalAdd label id ends props)) = inr (inr refl)
one-kind (Text (IntervalChange label id ends props)) = inr (inr refl)
one-kind (Text (IntervalDelete label id)) = inr (inr refl)
one-kind (Grid (grid.One op)) = inr (inl refl)
one-kind (Grid (grid.Group ops)) = inr (inl (all-grid ops))

kinds-typed : (n k : ℕ) (stages : List Stage) → map (λ g. g.stage.sub_operation) (typed_stages n k stages) ≡ flat_map (λ g. told_as g.sent) (typed_stages n k stages)
kinds-typed n k [] = refl
kinds-typed n k (t ∷ stages) =
    ap (λ os. t.sub_operation ∷ os) (kinds-typed n (suc k) stages) ∙ ap (λ os. os ++ flat_map (λ g. told_as g.sent) (typed_stages n (suc k) stages))
    (sym (told_as-told_of t.sub_operation))

edited-holds : (bound c : ℕ) (gss : List (List ToldStage)) (x : NaiveClient) (op : ChannelOp) (taken : Document × List Stage) → ClientHolds bound c gss x
    → OwnEdit c x.doc.number x.last_stage (flat gss) x.doc (sub_operations op) taken → Stepped bound (sequenced_part x.doc) (after_edit op taken.0 taken.1 x)
edited-holds bound c gss x op taken h own =
    let gs = typed_stages x.doc.number x.last_stage taken.1 in
    let sent = sent_as x.link x.next_client_seq op in
    let edit : PendingEdit = record { stages = taken.1; ref_seq = x.doc.number; sent = sent } in
    let y : NaiveClient = record x { doc = taken.0; last_stage = x.last_stage + length taken.1; pending = x.pending ++ (edit ∷ []) } in
    let number : taken.0.number ≡ x.doc.number = ap (λ d. d.number) own.agrees in
    let doc : Holds c taken.0.number taken.0.number y.last_stage (flat (gss ++ (gs ∷ []))) taken.0 =
    subst (λ n. Holds c n n y.last_stage (flat (gss ++ (gs ∷ []))) taken.0) (sym number)
    (subst (λ ts. Holds c x.doc.number x.doc.number y.last_stage ts taken.0) (sym (flat-append gss gs)) own.holds) in
    let told : EditTold c gs edit = record {
      stages = sym (stages-typed x.doc.number x.last_stage taken.1);
      refs = refs-typed x.doc.number x.last_stage
          taken.1;
      kind = subst AreOfOneKind (sym (kinds-typed x.doc.number x.last_stage taken.1 ∙ own.told)) (one-kind op);
      sent = sent-told c
          x.next_client_seq x.conns x.link op gs h.link (sym own.told);
    } in
    record {
      c = c;
      gss = gss ++ (gs ∷ []);
      client = draft-holds bound c (gss ++ (gs ∷ [])) sent x.doc.number y (record
          { doc = doc; edits = edits-append c gss x.pending gs edit h.edits told; link = h.link; conn = h.conn });
      agrees = ap sequenced_part (draft-doc sent x.doc.number y) ∙ own.agrees;
    }

abbrev edit_from : NaiveClient → ChannelOp → Result (Document × List Stage) EditFault → Result NaiveClient EditFault
edit_from x op (Err fault) = Err fault
edit_from x op (Ok taken) = Ok (after_edit op taken.0 taken.1 x)

edit-result : (bound c : ℕ) (gss : List (List ToldStage)) (x y : NaiveClient) (op : ChannelOp) → ClientHolds bound c gss x → (r : Result (Document × List Stage) EditFault)
    → local_sub_operations x.doc (stages_of x) (x.last_stage + 1) (sub_operations op) ≡ r → edit_from x op r ≡ Ok y → Stepped bound (sequenced_part x.doc) y
edit-result bound c gss x y op h (Err fault) e f = (cc)
edit-result bound c gss x y op h (Ok taken) e f =
    let same : after_edit op taken.0 taken.1 x ≡ y = (cc) in
    let next : x.last_stage + 1 ≡ suc x.last_stage = add-one x.last_stage in
    subst (λ z. Stepped bound (sequenced_part x.doc) z) same
    (edited-holds bound c gss x op taken h
    (sub_operations-own c x.doc.number (sub_operations op) x.last_stage (flat gss) x.doc (stages_of x) taken
    (ap (λ i. local_sub_operations x.doc (stages_of x) i (sub_operations op)) (sym next) ∙ e) h.doc))

pub local_edit-holds : (bound c : ℕ) (gss : List (List ToldStage)) (x y : NaiveClient) (op : ChannelOp) → ClientHolds bound c gss x → local_edit x op ≡ Ok y
    → Stepped bound (sequenced_part x.doc) y
local_edit-holds bound c gss x y op h e = edit-result bound c gss x y op h (local_sub_operations x.doc (stages_of x) (x.last_stage + 1) (sub_operations op)) refl e

-- ---- links and drafts

any-left : (o : ℕ) (conns : List ℕ) (conn : ℕ) → list_any (nat_eq o) (conns ++ (conn ∷ [])) ≡ false → list_any (nat_eq o) conns ≡ false
any-left o conns conn h = left (list_any (nat_eq o) conns) (list_any (nat_eq o) (conn ∷ [])) (sym (list_any-append (nat_eq o) conns (conn ∷ [])) ∙ h)
  where
    left : (a b : Bool) → a || b ≡ false → a ≡ false
    left false b g = refl
    left true b g = (cc)

any-last : (conns : List ℕ) (conn : ℕ) → list_any (nat_eq conn) (conns ++ (conn ∷ [])) ≡ true
any-last conns conn = list_any-append (nat_eq conn) conns (conn ∷ []) ∙ rw (same_nat conn) (or-true (list_any (nat_eq conn) conns))

connect-result : (bound c : ℕ) (gss : List (List ToldStage)) (x y : NaiveClient) (conn : ℕ) → ClientHolds bound c gss x → (link : Link) → x.link ≡ link
    → connect (record x { link = link }) conn ≡ Ok y → Stepped bound (sequenced_part x.doc) y
connect-result bound c gss x y conn h Offline e f =
    let same : record x { link = Joining conn; conns = x.conns ++ (conn ∷ []); next_client_seq = 1 } ≡ y = (cc) in
    subst (λ z. Stepped bound (sequenced_part x.doc) z) same
    (record {
      c = c;
      gss = gss;
      client = record {
        doc = h.doc;
        edits = h.edits;
        link = any-last x.conns conn;
        conn = λ o l g. h.conn o l
            (any-left o x.conns conn g);
      };
      agrees = refl;
    })
connect-result bound c gss x y conn h (Joining d) e f = (cc)
connect-result bound c gss x y conn h (Online d) e f = (cc)

pub connect-holds : (bound c : ℕ) (gss : List (List ToldStage)) (x y : NaiveClient) (conn : ℕ) → ClientHolds bound c gss x → connect x conn ≡ Ok y
    → Stepped bound (sequenced_part x.doc) y
connect-holds bound c gss x y conn h e = connect-result bound c gss x y conn h x.link refl e

dropped : (bound c : ℕ) (gss : List (List ToldStage)) (x y : NaiveClient) → ClientHolds bound c gss x → record x { link = Offline; queue = [] } ≡ y
    → Stepped bound (sequenced_part x.doc) y
dropped bound c gss x y h same =
    subst (λ z. Stepped bound (sequenced_part x.doc) z) same (record {
      c = c;
      gss = gss;
      client = record
          { doc = h.doc; edits = h.edits; link = tt; conn = h.conn };
      agrees = refl;
    })

drop-result : (bound c : ℕ) (gss : List (List ToldStage)) (x y : NaiveClient) → ClientHolds bound c gss x → (link : Link)
    → drop_link (record x { link = link }) ≡ Ok y → Stepped bound (sequenced_part x.doc) y
drop-result bound c gss x y h Offline f = (cc)
drop-result bound c gss x y h (Joining d) f = dropped bound c gss x y h (cc)
drop-result bound c gss x y h (Online d) f = dropped bound c gss x y h (cc)

pub drop_link-holds : (bound c : ℕ) (gss : List (List ToldStage)) (x y : NaiveClient) → ClientHolds bound c gss x → drop_link x ≡ Ok y → Stepped bound (sequenced_part x.doc) y
drop_link-holds bound c gss x y h e = drop-result bound c gss x y h x.link e

noop-result : (bound c : ℕ) (gss : List (List ToldStage)) (x y : NaiveClient) → ClientHolds bound c gss x → (link : Link) → x.link ≡ link
    → noop (record x { link = link }) ≡ Ok y → Stepped bound (sequenced_part x.doc) y
noop-result bound c gss x y h Offline e f = (cc)
noop-result bound c gss x y h (Joining d) e f = (cc)
noop-result bound c gss x y h (Online d) e f =
    let same : record x {
      link = Online d;
      next_client_seq = x.next_client_seq + 1;
      queue = x.queue ++
          (record { client_seq = x.next_client_seq; ref_seq = x.doc.number; body = Nothing } ∷ []);
    } ≡ y = (cc) in
    subst (λ z. Stepped bound (sequenced_part x.doc) z) same (record {
      c = c;
      gss = gss;
      client = record
          { doc = h.doc; edits = h.edits; link = subst (LinkIs c x.conns) e h.link; conn = h.conn };
      agrees = refl;
    })

pub noop-holds : (bound c : ℕ) (gss : List (List ToldStage)) (x y : NaiveClient) → ClientHolds bound c gss x → noop x ≡ Ok y → Stepped bound (sequenced_part x.doc) y
noop-holds bound c gss x y h e = noop-result bound c gss x y h x.link refl e

pub send-holds : (bound c : ℕ) (gss : List (List ToldStage)) (x : NaiveClient) → ClientHolds bound c gss x
    → Stepped bound (sequenced_part x.doc) (record x { queue = drop 1 x.queue })
send-holds bound c gss x h = record { c = c; gss = gss; client = record { doc = h.doc; edits = h.edits; link = h.link; conn = h.conn }; agrees = refl }

-- ---- a message of another client

body-holds : (c n s e d last : ℕ) (ts : List ToldStage) (doc : Document) (body : Body) → (is_op body ≡ true → nat_eq d c ≡ false) → n < s
    → Holds c n n last ts doc → Holds c s s last ts (body_effect doc s d e body)
body-holds c n s e d last ts doc Nothing others l h = holds-more c n s n s last ts doc (omega arith) (omega arith) h
body-holds c n s e d last ts doc (Op op) others l h =
    holds-more c n s s s last ts (effects doc s d e (sub_operations op)) (omega arith) (omega arith)
    (effects-hold s d e c n last ts doc (sub_operations op) (others refl) l (holds-more c n n n s last ts doc (omega arith) (omega arith) h))
body-holds c n s e d last ts doc (Elsewhere address) others l h =
    holds-counted c s s last doc.skipped (doc.other + 1) doc.number doc.minimum ts doc (holds-more c n s n s last ts doc (omega arith) (omega arith) h)

numbered-holds : (c last : ℕ) (ts : List ToldStage) (entry : Entry) (doc : Document) → Holds c entry.msg.seq entry.msg.seq last ts doc
    → Holds c entry.msg.seq entry.msg.seq last ts (with_numbers entry doc)
numbered-holds c last ts entry doc h = holds-counted c entry.msg.seq entry.msg.seq last doc.skipped doc.other entry.msg.seq entry.msg.min ts doc h

pub foreign-message : (bound c : ℕ) (gss : List (List ToldStage)) (x : NaiveClient) (entry : Entry) → ClientHolds bound c gss x → x.doc.number < entry.msg.seq
    → (is_op entry.msg.body ≡ true → nat_eq entry.origin c ≡ false)
    → Stepped bound (take_entry (sequenced_part x.doc) entry) (after_foreign_message x entry)
foreign-message bound c gss x entry h l others =
    let r = reference_number entry.msg.ref_seq in
    record {
      c = c;
      gss = gss;
      client = record {
        doc = numbered-holds c x.last_stage (flat gss) entry (body_effect x.doc entry.msg.seq entry.origin r entry.msg.body)
            (body-holds c x.doc.number entry.msg.seq r entry.origin x.last_stage (flat gss) x.doc entry.msg.body others l h.doc);
        edits = h.edits;
        link = h.link;
        conn = h.conn;
      };
      agrees = take_entry-sequenced x.doc entry;
    }

-- ---- the client's own message

-- what a message says that is an edit as it was sent
pub record SentFacts (c : ℕ) (gs : List ToldStage) (ref : ℕ) (entry : Entry) : Type 0 where
  pub origin : entry.origin ≡ c
  pub ref_seq : reference_number entry.msg.ref_seq ≡ ref
  pub body : (doc : Document) (s d r : ℕ) → effects doc s d r (flat_map (λ g. told_as g.sent) gs) ≡ body_effect doc s d r entry.msg.body

same-body : (op : ChannelOp) (body : Body) (doc : Document) (s d r : ℕ) → is_body op body ≡ true → effects doc s d r (sub_operations op) ≡ body_effect doc s d r body
same-body op Nothing doc s d r h = (cc)
same-body op (Op other) doc s d r h = ap (λ o. effects doc s d r (sub_operations o)) ((same_op-Decides op other).0 h)
same-body op (Elsewhere address) doc s d r h = (cc)

same-number : (m n : ℕ) → nat_eq m n ≡ true → n ≡ m
same-number m n h = grind (arith, nat_tests)

pub sent-facts : (c : ℕ) (gs : List ToldStage) (stages : List Stage) (ref : ℕ) (entry : Entry) (sent : Option SentAs) → SentTold c gs sent
    → is_sent_as entry (record { stages = stages; ref_seq = ref; sent = sent }) ≡ true → SentFacts c gs ref entry
sent-facts c gs stages ref entry None told h = (cc)
sent-facts c gs stages ref entry (Some sent) told h =
    let p = all_four (nat_eq sent.conn entry.origin) (same_int (pos sent.client_seq) entry.msg.client_seq) (same_int (pos ref) entry.msg.ref_seq)
    (is_body sent.op entry.msg.body) h in
    record {
      origin = same-number sent.conn entry.origin p.0 ∙ told.0;
      ref_seq = ap reference_number (sym ((same_int-Decides (pos ref) entry.msg.ref_seq).0 p.2));
      body = λ doc s d r. ap (effects doc s d r) (sym told.1) ∙ same-body sent.op entry.msg.body doc s d r p.3;
    }

flat-renamed : (f : ElementId → ElementId) (gss : List (List ToldStage)) → map (renamed_told f) (flat gss) ≡ flat (map (map (renamed_told f)) gss)
flat-renamed f [] = refl
flat-renamed f (gs ∷ gss) = map-append (renamed_told f) gs (flat gss) ∙ ap (λ ts. map (renamed_told f) gs ++ ts) (flat-renamed f gss)

stages-renamed : (f : ElementId → ElementId) (gs : List ToldStage) → map (renamed_stage f) (map (λ g. g.stage) gs) ≡ map (λ g. g.stage) (map (renamed_told f) gs)
stages-renamed f [] = refl
stages-renamed f (g ∷ gs) = ap (λ ts. renamed_stage f g.stage ∷ ts) (stages-renamed f gs)

refs-renamed : (f : ElementId → ElementId) (r : ℕ) (gs : List ToldStage) → AllRef r gs → AllRef r (map (renamed_told f) gs)
refs-renamed f r [] h = tt
refs-renamed f r (g ∷ gs) h = (h.0, refs-renamed f r gs h.1)

told-renamed : (f : ElementId → ElementId) (gs : List ToldStage) → flat_map (λ g. told_as g.sent) (map (renamed_told f) gs) ≡ flat_map (λ g. told_as g.sent) gs
told-renamed f [] = refl
told-renamed f (g ∷ gs) = ap (λ os. told_as g.sent ++ os) (told-renamed f gs)

sent-renamed : (c : ℕ) (f : ElementId → ElementId) (gs : List ToldStage) (sent : Option SentAs) → SentTold c gs sent → SentTold c (map (renamed_told f) gs) sent
sent-renamed c f gs None h = tt
sent-renamed c f gs (Some sent) h = (h.0, h.1 ∙ sym (told-renamed f gs))

kinds-renamed : (f : ElementId → ElementId) (gs : List ToldStage) → map (λ g. g.stage.sub_operation) (map (renamed_told f) gs) ≡ map (λ g. g.stage.sub_operation) gs
kinds-renamed f [] = refl
kinds-renamed f (g ∷ gs) = ap (λ os. g.stage.sub_operation ∷ os) (kinds-renamed f gs)

edits-renamed : (c : ℕ) (f : ElementId → ElementId) (gss : List (List ToldStage)) (edits : List PendingEdit) → EditsTold c gss edits
    → EditsTold c (map (map (renamed_told f)) gss) (map (renamed_edit f) edits)
edits-renamed c f [] [] h = tt
edits-renamed c f [] (edit ∷ edits) h = absurd h
edits-renamed c f (gs ∷ gss) [] h = absurd h
edits-renamed c f (gs ∷ gss) (edit ∷ edits) h = (
  record {
    stages = ap (map (renamed_stage f)) h.0.stages ∙ stages-renamed f gs;
    refs = refs-renamed f edit.ref_seq gs h.0.refs;
    kind = subst AreOfOneKind
        (sym (kinds-renamed f gs)) h.0.kind;
    sent = sent-renamed c f gs edit.sent h.0.sent;
  },
  edits-renamed c f gss edits h.1,
)

pub told-unrenamed : (ts : List ToldStage) → map (renamed_told (λ x. x)) ts ≡ ts
told-unrenamed [] = refl
told-unrenamed (t ∷ ts) =
    ap (λ names. record t { stage = record t.stage { names = names } } ∷ map (renamed_told (λ x. x)) ts) (names-not_renamed t.stage.names) ∙ ap (λ us. t ∷ us) (told-unrenamed ts)

abbrev acked_client : Entry → List PendingEdit → NaiveClient → Document × (ElementId → ElementId) → NaiveClient
acked_client entry edits x out = record x { doc = with_numbers entry out.0; pending = map (renamed_edit out.1) edits }

own-step : (bound c : ℕ) (gs : List ToldStage) (gss : List (List ToldStage)) (x : NaiveClient) (entry : Entry) (edit : PendingEdit) (edits : List PendingEdit)
    → ClientHolds bound c (gs ∷ gss) (record x { pending = edit ∷ edits }) → x.doc.number < entry.msg.seq → is_sent_as entry edit ≡ true
    → Stepped bound (take_entry (sequenced_part x.doc) entry) (after_own_message (record x { pending = edit ∷ edits }) entry)
own-step bound c gs gss x entry edit edits h l sent =
    let s = entry.msg.seq in
    let n = x.doc.number in
    let told = h.edits.0 in
    let facts = sent-facts c gs edit.stages edit.ref_seq entry edit.sent told.sent sent in
    let out = ack_stages s c (λ i. i) (map (λ g. g.stage) gs) x.doc in
    let start : Holds c n s x.last_stage (map (renamed_told (λ i. i)) (gs ++ flat gss)) x.doc =
    subst (λ ts. Holds c n s x.last_stage ts x.doc) (sym (told-unrenamed (gs ++ flat gss)))
    (holds-more c n n n s x.last_stage (gs ++ flat gss) x.doc (omega arith) (omega arith) h.doc) in
    let e = edit-acked c n s x.last_stage edit.ref_seq gs (flat gss) (λ i. i) x.doc told.refs start in
    let rest : Holds c s s x.last_stage (flat (map (map (renamed_told out.1)) gss)) out.0 =
    subst (λ ts. Holds c s s x.last_stage ts out.0) (flat-renamed out.1 gss)
    (holds-more c n s s s x.last_stage (map (renamed_told out.1) (flat gss)) out.0 (omega arith) (omega arith) e.holds) in
    let A = sequenced_part x.doc in
    let same : out ≡ ack_stages s entry.origin (λ i. i) edit.stages x.doc =
    ap (λ d. ack_stages s d (λ i. i) (map (λ g. g.stage) gs) x.doc) (sym facts.origin) ∙ ap (λ ts. ack_stages s entry.origin (λ i. i) ts x.doc) (sym told.stages) in
    let stepped : Stepped bound (take_entry A entry) (acked_client entry edits x out) = record {
      c = c;
      gss = map (map (renamed_told out.1)) gss;
      client = record {
        doc = numbered-holds c x.last_stage (flat (map (map (renamed_told out.1)) gss)) entry out.0 rest;
        edits = edits-renamed c out.1 gss edits h.edits.1;
        link = h.link;
        conn = h.conn;
      };
      agrees = ap (with_numbers entry)
          (e.agrees ∙ facts.body A s c edit.ref_seq
          ∙ ap (λ d. body_effect A s d edit.ref_seq entry.msg.body) (sym facts.origin)
          ∙ ap (λ r. body_effect A s entry.origin r entry.msg.body) (sym facts.ref_seq));
    } in
    subst (λ o. Stepped bound (take_entry A entry) (acked_client entry edits x o)) same stepped

own-edits : (bound c : ℕ) (gss : List (List ToldStage)) (x : NaiveClient) (entry : Entry) (edits : List PendingEdit)
    → ClientHolds bound c gss (record x { pending = edits }) → x.doc.number < entry.msg.seq → is_oldest entry edits ≡ true
    → Stepped bound (take_entry (sequenced_part x.doc) entry) (after_own_message (record x { pending = edits }) entry)
own-edits bound c gss x entry [] h l oldest = (cc)
own-edits bound c [] x entry (edit ∷ edits) h l oldest = absurd h.edits
own-edits bound c (gs ∷ gss) x entry (edit ∷ edits) h l oldest = own-step bound c gs gss x entry edit edits h l oldest

pub own-message : (bound c : ℕ) (gss : List (List ToldStage)) (x : NaiveClient) (entry : Entry) → ClientHolds bound c gss x → x.doc.number < entry.msg.seq
    → is_oldest entry x.pending ≡ true
    → Stepped bound (take_entry (sequenced_part x.doc) entry) (after_own_message x entry)
own-message bound c gss x entry h l oldest = own-edits bound c gss x entry x.pending h l oldest
