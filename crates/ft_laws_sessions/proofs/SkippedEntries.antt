-- How many sub-operations are skipped: none of a client's own message, and of another one no more than it has.
use Rattle.std.proofs.Common.{◌≡◌, ℕ, zero, suc, take, ◌+◌, ◌≤◌, Bool, true, false, cond, ◌&&◌, nat_eq, nat_le, List, [], ◌∷◌, ◌++◌, length, Option, Some, None, refl, sym, ◌∙◌, ap, subst, append-nil, arith}
use Rattle.std.specs.List.{list_any}
use Rattle.ft_base.specs.Scan.{at, len}
use Rattle.ft_props.specs.Properties.{Characters}
use Rattle.ft_props.specs.Element.{ElementId, ListElement, seen_by}
use Rattle.ft_props.specs.Steps.{acked_id}
use Rattle.ft_op.specs.declared.operations.BaseOp.TheVariants.{Insert, Remove, Annotate}
use Rattle.ft_op.specs.declared.operations.CellOp.TheVariants.{SpliceIn, SpliceOut, Set}
use Rattle.ft_op.specs.declared.operations.ChannelOp.{ChannelOp}
use Rattle.ft_op.specs.declared.operations.Target.TheVariants.{Rows, Cols}
use Rattle.ft_op.specs.Document.{Document, cell_effect, effect, effects, empty, ends_of, given_ends_fit, with_skip}
use Rattle.ft_op.specs.Operation.{OnGrid, OnIntervals, OnText, SubOperation, sub_operations}
use Rattle.ft_op.specs.Stages.{Stage}
use Rattle.ft_msg.specs.declared.messages.Body.{Body}
use Rattle.ft_msg.specs.declared.messages.Body.TheVariants.{Nothing, Op, Elsewhere}
use Rattle.ft_msg.specs.declared.messages.Entry.{Entry}
use Rattle.ft_msg.specs.declared.messages.MsgKind.{MsgKind}
use Rattle.ft_msg.specs.declared.messages.MsgKind.TheVariants as kind
use Rattle.ft_msg.specs.declared.views.Link.{Link}
use Rattle.ft_msg.specs.declared.views.Link.TheVariants.{Offline, Joining, Online}
use Rattle.ft_msg.specs.Acknowledgement.{ack_stage, ack_stages, after_own_message, made_before}
use Rattle.ft_msg.specs.Agreed.{agreed, body_effect, reference_number, take_entries, take_entry}
use Rattle.ft_msg.specs.Client.{NaiveClient, PendingEdit}
use Rattle.ft_msg.specs.ClientSteps.{has_fitting_body, taken_entries}
use Rattle.ft_msg.specs.Process.{after_entry, after_foreign_message, come_online, is_op, is_op_kind, is_own, is_own_join}
use Rattle.ft_seqr.specs.Sequencer.{NaiveSequencer}
use Rattle.ft_laws_agreement.proofs.ClientsAgree.{clients-agree}
use Rattle.ft_laws_sessions.proofs.Owing.{body_count}
use Rattle.ft_laws_sessions.proofs.Served.{IsServed, fitting-op, served-takes}

-- ---- of any message

skip-choice : (n : ℕ) (b : Bool) (p q : Document) → p.skipped ≤ n → q.skipped ≤ n → (cond b p q).skipped ≤ n
skip-choice n true p q f g = f
skip-choice n false p q f g = g

module _ (s c r : ℕ) where
  effect-skips : (doc : Document) (o : SubOperation) → (effect doc s c r o).skipped ≤ doc.skipped + 1
  effect-skips doc (OnText (Insert p seg props)) = skip-choice _ (nat_le p (len (seen_by r c) doc.text.items)) _ (with_skip doc) (omega arith) (omega arith)
  effect-skips doc (OnText (Remove p q)) = skip-choice _ (nat_le q (len (seen_by r c) doc.text.items)) _ (with_skip doc) (omega arith) (omega arith)
  effect-skips doc (OnText (Annotate p q changes)) = skip-choice _ (nat_le q (len (seen_by r c) doc.text.items)) _ (with_skip doc) (omega arith) (omega arith)
  effect-skips doc (OnIntervals op) = skip-choice _ (given_ends_fit (len (seen_by r c) doc.text.items) (ends_of op)) _ (with_skip doc) (omega arith) (omega arith)
  effect-skips doc (OnGrid (SpliceIn Rows p count)) = skip-choice _ (nat_le p (len (seen_by r c) doc.rows.items)) _ (with_skip doc) (omega arith) (omega arith)
  effect-skips doc (OnGrid (SpliceIn Cols p count)) = skip-choice _ (nat_le p (len (seen_by r c) doc.cols.items)) _ (with_skip doc) (omega arith) (omega arith)
  effect-skips doc (OnGrid (SpliceOut Rows p q)) = skip-choice _ (nat_le q (len (seen_by r c) doc.rows.items)) _ (with_skip doc) (omega arith) (omega arith)
  effect-skips doc (OnGrid (SpliceOut Cols p q)) = skip-choice _ (nat_le q (len (seen_by r c) doc.cols.items)) _ (with_skip doc) (omega arith) (omega arith)
  effect-skips doc (OnGrid (Set i j value)) = by (at (seen_by r c) i doc.rows.items) (at (seen_by r c) j doc.cols.items)
    where
      by : (o p : Option ListElement) → (cell_effect doc o p value).skipped ≤ doc.skipped + 1
      by (Some x) (Some y) = omega arith
      by (Some x) None = omega arith
      by None p = omega arith

  effects-skip : (os : List SubOperation) (doc : Document) → (effects doc s c r os).skipped ≤ doc.skipped + length os
  effects-skip [] doc = omega arith
  effects-skip (o ∷ os) doc =
      let here = effect-skips doc o in
      let later = effects-skip os (effect doc s c r o) in
      omega (arith, here, later)

-- and the count never falls
rise-choice : (n : ℕ) (b : Bool) (p q : Document) → n ≤ p.skipped → n ≤ q.skipped → n ≤ (cond b p q).skipped
rise-choice n true p q f g = f
rise-choice n false p q f g = g

module _ (s c r : ℕ) where
  effect-rises : (doc : Document) (o : SubOperation) → doc.skipped ≤ (effect doc s c r o).skipped
  effect-rises doc (OnText (Insert p seg props)) = rise-choice _ (nat_le p (len (seen_by r c) doc.text.items)) _ (with_skip doc) (omega arith) (omega arith)
  effect-rises doc (OnText (Remove p q)) = rise-choice _ (nat_le q (len (seen_by r c) doc.text.items)) _ (with_skip doc) (omega arith) (omega arith)
  effect-rises doc (OnText (Annotate p q changes)) = rise-choice _ (nat_le q (len (seen_by r c) doc.text.items)) _ (with_skip doc) (omega arith) (omega arith)
  effect-rises doc (OnIntervals op) = rise-choice _ (given_ends_fit (len (seen_by r c) doc.text.items) (ends_of op)) _ (with_skip doc) (omega arith) (omega arith)
  effect-rises doc (OnGrid (SpliceIn Rows p count)) = rise-choice _ (nat_le p (len (seen_by r c) doc.rows.items)) _ (with_skip doc) (omega arith) (omega arith)
  effect-rises doc (OnGrid (SpliceIn Cols p count)) = rise-choice _ (nat_le p (len (seen_by r c) doc.cols.items)) _ (with_skip doc) (omega arith) (omega arith)
  effect-rises doc (OnGrid (SpliceOut Rows p q)) = rise-choice _ (nat_le q (len (seen_by r c) doc.rows.items)) _ (with_skip doc) (omega arith) (omega arith)
  effect-rises doc (OnGrid (SpliceOut Cols p q)) = rise-choice _ (nat_le q (len (seen_by r c) doc.cols.items)) _ (with_skip doc) (omega arith) (omega arith)
  effect-rises doc (OnGrid (Set i j value)) = by (at (seen_by r c) i doc.rows.items) (at (seen_by r c) j doc.cols.items)
    where
      by : (o p : Option ListElement) → doc.skipped ≤ (cell_effect doc o p value).skipped
      by (Some x) (Some y) = omega arith
      by (Some x) None = omega arith
      by None p = omega arith

  effects-rise : (os : List SubOperation) (doc : Document) → doc.skipped ≤ (effects doc s c r os).skipped
  effects-rise [] doc = omega arith
  effects-rise (o ∷ os) doc =
      let here = effect-rises doc o in
      let later = effects-rise os (effect doc s c r o) in
      omega (arith, here, later)

  body-rises : (b : Body) (doc : Document) → doc.skipped ≤ (body_effect doc s c r b).skipped
  body-rises Nothing doc = omega arith
  body-rises (Op op) doc = effects-rise (sub_operations op) doc
  body-rises (Elsewhere address) doc = omega arith

entries-rise : (es : List Entry) (doc : Document) → doc.skipped ≤ (take_entries doc es).skipped
entries-rise [] doc = omega arith
entries-rise (e ∷ es) doc =
    let here = body-rises e.msg.seq e.origin (reference_number e.msg.ref_seq) e.msg.body doc in
    let later = entries-rise es (take_entry doc e) in
    omega (arith, here, later)

-- the first messages skip no more than all
pub first-skip : (n : ℕ) (es : List Entry) (doc : Document) → (take_entries doc (take n es)).skipped ≤ (take_entries doc es).skipped
first-skip zero es doc = entries-rise es doc
first-skip (suc n) [] doc = omega arith
first-skip (suc n) (e ∷ es) doc = first-skip n es (take_entry doc e)

body-skips : (s c r : ℕ) (b : Body) (doc : Document) → (body_effect doc s c r b).skipped ≤ doc.skipped + body_count b
body-skips s c r Nothing doc = omega arith
body-skips s c r (Op op) doc = effects-skip s c r (sub_operations op) doc
body-skips s c r (Elsewhere address) doc = omega arith

taken-behind : (es : List Entry) (e : Entry) (doc : Document) → take_entries doc (es ++ (e ∷ [])) ≡ take_entry (take_entries doc es) e
taken-behind [] e doc = refl
taken-behind (x ∷ es) e doc = taken-behind es e (take_entry doc x)

pub entry-skips : (log : List Entry) (e : Entry) → (agreed (log ++ (e ∷ []))).skipped ≤ (agreed log).skipped + body_count e.msg.body
entry-skips log e =
    let same : (agreed (log ++ (e ∷ []))).skipped ≡ (take_entry (agreed log) e).skipped = ap (λ (d : Document). d.skipped) (taken-behind log e empty) in
    let body = body-skips e.msg.seq e.origin (reference_number e.msg.ref_seq) e.msg.body (agreed log) in
    omega (arith, same, body)

-- ---- of a client's own

acks-skip : (s c : ℕ) (rename : ElementId → ElementId) (stages : List Stage) (doc : Document) → (ack_stages s c rename stages doc).0.skipped ≡ doc.skipped
acks-skip s c rename [] doc = refl
acks-skip s c rename (t ∷ stages) doc = acks-skip s c (λ x. acked_id t.stage (made_before doc t.sub_operation) (rename x)) stages (ack_stage s c rename t doc)

own-skips : (x : NaiveClient) (e : Entry) (edits : List PendingEdit) → (after_own_message (record x { pending = edits }) e).doc.skipped ≡ x.doc.skipped
own-skips x e [] = refl
own-skips x e (edit ∷ edits) = acks-skip e.msg.seq e.origin (λ i. i) edit.stages x.doc

not-join : (link : Link) (k : MsgKind) (origin : ℕ) → is_op_kind k ≡ true → is_own_join link k origin ≡ false
not-join Offline k origin h = refl
not-join (Online conn) k origin h = refl
not-join (Joining conn) kind.Op origin h = refl
not-join (Joining conn) kind.Join origin h = (cc)
not-join (Joining conn) kind.Leave origin h = refl
not-join (Joining conn) kind.Noop origin h = refl
not-join (Joining conn) (kind.Other word) origin h = refl

-- an operation of its own leaves the count
own-counted : (x : NaiveClient) (e : Entry) (op : ChannelOp) → e.msg.body ≡ Op op → has_fitting_body e ≡ true → is_own x e ≡ true → (after_entry x e).doc.skipped ≡ x.doc.skipped
own-counted x e op b f o =
    let is : is_op e.msg.body ≡ true = ap is_op b in
    let k = fitting-op e.msg.kind e.msg.body f is in
    ap (λ j. (cond j (come_online x e) (cond (is_op e.msg.body && is_own x e) (after_own_message x e) (after_foreign_message x e))).doc.skipped)
    (not-join x.link e.msg.kind e.origin k)
    ∙ (ap (λ t. (cond (t && is_own x e) (after_own_message x e) (after_foreign_message x e)).doc.skipped) is
    ∙ (ap (λ t. (cond t (after_own_message x e) (after_foreign_message x e)).doc.skipped) o ∙ own-skips x e x.pending))

-- a client that took the log but for this entry
record IsAhead (owner : ℕ → Option Characters) (count : ℕ) (q : NaiveSequencer) (log : List Entry) (name : Characters) (conns : List ℕ) (e : Entry) : Type 0 where
  y : NaiveClient
  served : IsServed owner count q log name (e ∷ []) y
  same : y.conns ≡ conns

takes-all : (owner : ℕ → Option Characters) (count : ℕ) (q : NaiveSequencer) (log : List Entry) (name : Characters) (rest : List Entry) (x : NaiveClient) (e : Entry)
    → IsServed owner count q log name (rest ++ (e ∷ [])) x → IsAhead owner count q log name x.conns e
takes-all owner count q log name [] x e s = record { y = x; served = s; same = refl }
takes-all owner count q log name (first ∷ rest) x e s =
    let t = served-takes owner count q log name (rest ++ (e ∷ [])) x first s in
    subst (λ conns. IsAhead owner count q log name conns e) t.conns (takes-all owner count q log name rest t.y e t.served)

same-front : (xs ys : List Entry) (e : Entry) → xs ++ (e ∷ []) ≡ ys ++ (e ∷ []) → xs ≡ ys
same-front [] [] e h = refl
same-front [] (y ∷ []) e h = (cc)
same-front [] (y ∷ z ∷ ys) e h = (cc)
same-front (x ∷ []) [] e h = (cc)
same-front (x ∷ z ∷ xs) [] e h = (cc)
same-front (x ∷ xs) (y ∷ ys) e h =
    let head : x ≡ y = (cc) in
    let later : xs ++ (e ∷ []) ≡ ys ++ (e ∷ []) = (cc) in
    ap (λ (z : Entry). z ∷ xs) head ∙ ap (λ zs. y ∷ zs) (same-front xs ys e later)

-- what a client's count is
served-counted : (owner : ℕ → Option Characters) (count : ℕ) (q : NaiveSequencer) (log es : List Entry) (name : Characters) (rest : List Entry) (x : NaiveClient)
    → (s : IsServed owner count q log name rest x) → taken_entries s.steps ≡ es → x.doc.skipped ≡ (agreed es).skipped
served-counted owner count q log es name rest x s t = ap (λ (d : Document). d.skipped) (clients-agree s.steps x s.run.made s.run.bodies ∙ ap agreed t)

-- the last entry of the log is a client's own
pub own-entry-skips : (owner : ℕ → Option Characters) (count : ℕ) (q : NaiveSequencer) (log : List Entry) (name : Characters) (rest : List Entry) (x : NaiveClient) (e : Entry)
    → list_any (nat_eq e.origin) x.conns ≡ true → IsServed owner count q (log ++ (e ∷ [])) name (rest ++ (e ∷ [])) x
    → (agreed (log ++ (e ∷ []))).skipped ≤ (agreed log).skipped
own-entry-skips owner count q log name rest x e own s = by e.msg.body refl
  where
    less : (m n : ℕ) → m ≡ n → m ≤ n
    less m n h = omega (arith, h)

    by : (b : Body) → e.msg.body ≡ b → (agreed (log ++ (e ∷ []))).skipped ≤ (agreed log).skipped
    by Nothing h = let k = entry-skips log e in let none : body_count e.msg.body ≡ 0 = ap body_count h in omega (arith, k, none)
    by (Elsewhere address) h = let k = entry-skips log e in let none : body_count e.msg.body ≡ 0 = ap body_count h in omega (arith, k, none)
    by (Op op) h =
        let a = takes-all owner count q (log ++ (e ∷ [])) name rest x e s in
        let t = served-takes owner count q (log ++ (e ∷ [])) name [] a.y e a.served in
        let before = served-counted owner count q (log ++ (e ∷ [])) log name (e ∷ []) a.y a.served (same-front (taken_entries a.served.steps) log e a.served.entries) in
        let after = served-counted owner count q (log ++ (e ∷ [])) (log ++ (e ∷ [])) name [] t.y t.served
        (sym (append-nil (taken_entries t.served.steps)) ∙ t.served.entries) in
        let mine : is_own a.y e ≡ true = ap (λ cs. list_any (nat_eq e.origin) cs) a.same ∙ own in
        let here : t.y.doc.skipped ≡ a.y.doc.skipped =
        ap (λ (z : NaiveClient). z.doc.skipped) t.is ∙ own-counted a.y e op h a.served.order.0.body mine in
        less (agreed (log ++ (e ∷ []))).skipped (agreed log).skipped (sym after ∙ (here ∙ before))
