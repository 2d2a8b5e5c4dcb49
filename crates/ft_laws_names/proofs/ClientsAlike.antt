-- Two clients that differ in the names of their elements alone answer every step alike, and differ in names alone afterwards.
use Rattle.std.proofs.Common.{◌≡◌, ℕ, suc, ◌+◌, Bool, true, false, cond, not, ◌&&◌, nat_eq, List, [], ◌∷◌, ◌++◌, Option, Some, None, Result, Ok, Err, drop, refl, sym, ◌∙◌, ap, subst, length, map, arith, append-nil, append_assoc, pos}
use Rattle.std.specs.List.{flat_map}
use Rattle.ft_op.specs.declared.operations.ChannelOp.{ChannelOp}
use Rattle.ft_msg.specs.declared.faults.EditFault.{EditFault}
use Rattle.ft_msg.specs.declared.faults.LinkFault.{LinkFault}
use Rattle.ft_msg.specs.declared.faults.LinkFault.TheVariants.{AlreadyConnected, NotConnected}
use Rattle.ft_msg.specs.declared.faults.ProcessFault.{ProcessFault}
use Rattle.ft_msg.specs.declared.faults.ProcessFault.TheVariants.{OutOfOrder, NotSent}
use Rattle.ft_msg.specs.declared.messages.Body.TheVariants.{Nothing, Op}
use Rattle.ft_msg.specs.declared.messages.Draft.{Draft}
use Rattle.ft_msg.specs.declared.messages.Entry.{Entry}
use Rattle.ft_msg.specs.declared.views.Link.{Link}
use Rattle.ft_msg.specs.declared.views.Link.TheVariants.{Offline, Joining, Online}
use Rattle.ft_props.specs.Element.{ElementId}
use Rattle.ft_op.specs.Operation.{sub_operations}
use Rattle.ft_op.specs.Same.{same_int}
use Rattle.ft_op.specs.Document.{Document}
use Rattle.ft_op.specs.Stages.{Stage}
use Rattle.ft_msg.specs.Acknowledgement.{ack_stages, acknowledge, renamed, renamed_edit, renamed_stage}
use Rattle.ft_msg.specs.Agreed.{take_entry, with_numbers}
use Rattle.ft_msg.specs.Client.{NaiveClient, PendingEdit, SentAs, after_edit, connect, drop_link, local_edit, noop, sent_as, stages_of, with_draft}
use Rattle.ft_msg.specs.Process.{after_entry, after_foreign_message, come_online, is_body, is_oldest, is_op, is_op_kind, is_own, is_own_join, is_sent_as, numbers_fault, process, process_fault}
use Rattle.ft_msg.specs.Reconnection.{sent_draft, rebuilt_document, resubmitted_edits}
use Rattle.ft_laws_names.specs.WellNamed.{HasItsStages, RiseTo, puts_text_in}
use Rattle.ft_laws_names.proofs.Beside.{beside-append, beside-length, beside-more, ends, next, same-flat}
use Rattle.ft_laws_names.proofs.DocumentsAlike.{DocsAlike, DocsStep, NamesStay}
use Rattle.ft_laws_names.proofs.ForeignAlike.{entry-alike, numbers-taken}
use Rattle.ft_laws_names.proofs.LocalAlike.{StagesBeside, SubsAlike, stages-stay, subs-alike, turned_down, went}
use Rattle.ft_laws_names.proofs.OwnAlike.{edit-alike, none-own, put-in-renamed, rise-renamed}
use Rattle.ft_laws_names.proofs.RejoinAlike.{EditAlike, EditsBeside, document-alike, resubmitted-alike, resubmitted-own, resubmitted-rise, same-numbers, stages_in}
use Rattle.ft_laws_names.proofs.StageCounts.{entry-stages, has-stages}

-- two clients that differ in names alone
pub record ClientsAlike (x y : NaiveClient) : Type 0 where
  pub rest : y ≡ record x { doc = y.doc; pending = y.pending }
  pub doc : DocsAlike x.last_stage x.doc y.doc
  pub pending : EditsBeside x.doc y.doc x.pending y.pending
  pub own : HasItsStages (stages_of x) x.doc
  pub rise : RiseTo 0 x.last_stage (stages_of x)

-- two answers to one step: the same refusal, or two clients that differ in names alone
pub data AnswersTwice (E : Type 0) : Result NaiveClient E → Result NaiveClient E → Type 0 where
  both_refuse : (fault : E) → AnswersTwice E (Err fault) (Err fault)
  both_take : (x y : NaiveClient) → ClientsAlike x y → AnswersTwice E (Ok x) (Ok y)

-- ---- edits

pub stages-flat : (p q : Document) {es fs : List PendingEdit} → EditsBeside p q es fs → StagesBeside p q (stages_in es) (stages_in fs)
stages-flat p q ends = ends
stages-flat p q (next r rs) = beside-append r.stages (stages-flat p q rs)

edits-stay : (p q d e : Document) → NamesStay p q d e → {es fs : List PendingEdit} → EditsBeside p q es fs → EditsBeside d e es fs
edits-stay p q d e s h = beside-more (λ i j r. record { stages = stages-stay p q d e s r.stages; ref_seq = r.ref_seq; sent = r.sent }) h

flat-behind : (es : List PendingEdit) (e : PendingEdit) → stages_in (es ++ (e ∷ [])) ≡ stages_in es ++ e.stages
flat-behind [] e = append-nil e.stages
flat-behind (i ∷ es) e = ap (λ ts. i.stages ++ ts) (flat-behind es e) ∙ sym (append_assoc i.stages (stages_in es) e.stages)

draft-alike : (sent : Option SentAs) (ref : ℕ) (x y : NaiveClient) → ClientsAlike x y → ClientsAlike (with_draft sent ref x) (with_draft sent ref y)
draft-alike None ref x y h = h
draft-alike (Some sent) ref x y h = record {
  rest = ap (λ (w : NaiveClient). record w {
    next_client_seq = w.next_client_seq + 1;
    queue = w.queue ++
        (record { client_seq = sent.client_seq; ref_seq = ref; body = Op sent.op } ∷ []);
  }) h.rest;
  doc = h.doc;
  pending = h.pending;
  own = h.own;
  rise = h.rise;
}

module _ (x : NaiveClient) (d : Document) (es : List PendingEdit) (h : DocsAlike x.last_stage x.doc d) (b : EditsBeside x.doc d x.pending es)
    (own : HasItsStages (stages_of x) x.doc) (rise : RiseTo 0 x.last_stage (stages_of x)) where
  abbrev other : NaiveClient
  other = record x { doc = d; pending = es }

  -- an edit of its own
  edit-of : (op : ChannelOp) → AnswersTwice EditFault (local_edit x op) (local_edit (record x { doc = d; pending = es }) op)
  edit-of op = answer (subs-alike x.last_stage (stages_of x) (stages_in es) x.doc d h (stages-flat x.doc d b) own rise (sub_operations op))
    where
      edit : List Stage → PendingEdit
      edit ts = record { stages = ts; ref_seq = x.doc.number; sent = sent_as x.link x.next_client_seq op }

      made : (p q : Document) (ts us : List Stage) → DocsStep x.last_stage (x.last_stage + length ts) x.doc d p q → StagesBeside p q ts us
          → HasItsStages (stages_of x ++ ts) p → RiseTo 0 (x.last_stage + length ts) (stages_of x ++ ts)
          → ClientsAlike (record x {
            doc = p;
            last_stage = x.last_stage + length ts;
            pending = x.pending ++
                (record { stages = ts; ref_seq = x.doc.number; sent = sent_as x.link x.next_client_seq op } ∷ []);
          })
          (record x {
            doc = q;
            last_stage = x.last_stage + length ts;
            pending = es ++
                (record { stages = us; ref_seq = x.doc.number; sent = sent_as x.link x.next_client_seq op } ∷ []);
          })
      made p q ts us step s o r = record {
        rest = refl;
        doc = step.alike;
        pending = beside-append (edits-stay x.doc d p q step.names b) (next (record { stages = s; ref_seq = refl; sent = refl }) ends);
        own = subst (λ ss. HasItsStages ss p) (sym (flat-behind x.pending (record { stages = ts; ref_seq = x.doc.number; sent = sent_as x.link x.next_client_seq op }))) o;
        rise = subst (λ ss. RiseTo 0 (x.last_stage + length ts) ss) (sym (flat-behind x.pending
            (record { stages = ts; ref_seq = x.doc.number; sent = sent_as x.link x.next_client_seq op }))) r;
      }

      answer : {r1 r2 : Result (Document × List Stage) EditFault} → SubsAlike x.last_stage (stages_of x) x.doc d r1 r2
          → AnswersTwice EditFault (elim r1 [ Err fault ↦ Err fault | Ok taken ↦ Ok (after_edit op taken.0 taken.1 x) ])
          (elim r2 [ Err fault ↦ Err fault | Ok taken ↦ Ok (after_edit op taken.0 taken.1 (record x { doc = d; pending = es })) ])
      answer (turned_down fault) = both_refuse fault
      answer (went {d = p} {e = q} {ts = ts} {us = us} step s o r) =
          both_take _ _
          (subst (λ n. ClientsAlike (after_edit op p ts x) (with_draft (sent_as x.link x.next_client_seq op) n
          (record x {
            doc = q;
            last_stage = x.last_stage + length us;
            pending = es ++
                (record { stages = us; ref_seq = n; sent = sent_as x.link x.next_client_seq op } ∷ []);
          }))) h.parts.number
          (subst (λ n. ClientsAlike (after_edit op p ts x) (with_draft (sent_as x.link x.next_client_seq op) x.doc.number
          (record x {
            doc = q;
            last_stage = x.last_stage + n;
            pending = es ++ (record
                { stages = us; ref_seq = x.doc.number; sent = sent_as x.link x.next_client_seq op } ∷ []);
          }))) (beside-length s)
          (draft-alike (sent_as x.link x.next_client_seq op) x.doc.number _ _ (made p q ts us step s o r))))

  -- ---- an entry

  -- why an entry is refused, by the numbers of the document and whether the oldest edit fits
  abbrev fault_by : Entry → ℕ → ℕ → Bool → Option ProcessFault
  fault_by entry number minimum oldest =
      cond (not (nat_eq entry.msg.seq (number + 1))) (Some (OutOfOrder (number + 1) entry.msg.seq))
      (elim (numbers_fault (record x { doc = record x.doc { number = number; minimum = minimum } }) entry) [
        | Some fault ↦ Some fault
        | None ↦ cond (is_op_kind entry.msg.kind && is_own x entry && not oldest) (Some NotSent) None
      ])

  sent_as-alike : (entry : Entry) (e f : PendingEdit) → EditAlike x.doc d e f → is_sent_as entry e ≡ is_sent_as entry f
  sent_as-alike entry e f r =
      ap (λ (s : Option SentAs). elim s [
        | None ↦ false
        | Some sent ↦ nat_eq sent.conn entry.origin && same_int (pos sent.client_seq) entry.msg.client_seq
            && same_int (pos e.ref_seq) entry.msg.ref_seq && is_body sent.op entry.msg.body
      ]) r.sent
      ∙ ap (λ n. elim f.sent [
        | None ↦ false
        | Some sent ↦ nat_eq sent.conn entry.origin && same_int (pos sent.client_seq) entry.msg.client_seq
            && same_int (pos n) entry.msg.ref_seq && is_body sent.op entry.msg.body
      ]) r.ref_seq

  oldest-alike : (entry : Entry) {is js : List PendingEdit} → EditsBeside x.doc d is js → is_oldest entry is ≡ is_oldest entry js
  oldest-alike entry ends = refl
  oldest-alike entry (next {x = e} {y = f} r rs) = sent_as-alike entry e f r

  fault-alike : (entry : Entry) → process_fault x entry ≡ process_fault (record x { doc = d; pending = es }) entry
  fault-alike entry =
      ap (λ n. fault_by entry n x.doc.minimum (is_oldest entry x.pending)) h.parts.number
      ∙ ap (λ n. fault_by entry d.number n (is_oldest entry x.pending)) h.parts.minimum ∙ ap (λ b. fault_by entry d.number d.minimum b) (oldest-alike entry b)

  foreign-of : (entry : Entry) → ClientsAlike (after_foreign_message x entry) (after_foreign_message (record x { doc = d; pending = es }) entry)
  foreign-of entry =
      let step = entry-alike x.last_stage entry x.doc d h in
      record {
        rest = refl;
        doc = step.alike;
        pending = edits-stay x.doc d _ _ step.names b;
        own = has-stages (stages_of x) x.doc (take_entry x.doc entry)
            (entry-stages x.doc entry) own;
        rise = rise;
      }

  join-of : (entry : Entry) → ClientsAlike (come_online x entry) (come_online (record x { doc = d; pending = es }) entry)
  join-of entry =
      let p = with_numbers entry x.doc in
      let q = with_numbers entry d in
      let taken = numbers-taken x.last_stage entry x.doc d h in
      let own1 : HasItsStages (stages_of x) (with_numbers entry x.doc) = record { text = λ k g. own.text k g; rows = λ k g. own.rows k g; cols = λ k g. own.cols k g } in
      let edits = edits-stay x.doc d p q (record { text = λ i j s. s; rows = λ i j s. s; cols = λ i j s. s }) b in
      let rebuilds = document-alike x.last_stage (stages_of x) rise p q taken own1 in
      let none = none-own puts_text_in p.text.items 0 x.last_stage (stages_of x) rise (λ k l g. own.text k g) in
      let again = resubmitted-alike x.last_stage p q taken _ _ rebuilds.names entry.origin 1 edits none in
      let same = same-numbers x.doc d (stages-flat x.doc d b) in
      subst (λ ks. ClientsAlike (come_online x entry) (online entry ks (resubmitted_edits q entry.origin 1 es))) same
      (record {
        rest = alike entry again;
        doc = rebuilds.alike;
        pending = again;
        own = resubmitted-own x.last_stage entry.origin 1 x.pending p q taken rise own1;
        rise = resubmitted-rise p x.last_stage entry.origin 1 x.pending 0 rise;
      })
    where
      online : Entry → List ℕ → List PendingEdit → NaiveClient
      online entry ks edits = record x {
        doc = rebuilt_document ks (with_numbers entry d);
        link = Online entry.origin;
        next_client_seq = length edits + 1;
        queue = flat_map (sent_draft entry.msg.seq) edits;
        pending = edits;
      }

      alike : (entry : Entry) {p q : Document} → EditsBeside p q (resubmitted_edits (with_numbers entry x.doc) entry.origin 1 x.pending)
          (resubmitted_edits (with_numbers entry d) entry.origin 1 es)
          → online entry (map (λ (t : Stage). t.stage) (stages_of x)) (resubmitted_edits (with_numbers entry d) entry.origin 1 es)
          ≡ record (come_online x entry) {
            doc = rebuilt_document (map (λ (t : Stage). t.stage) (stages_of x)) (with_numbers entry d);
            pending =
                resubmitted_edits (with_numbers entry d) entry.origin 1 es;
          }
      alike entry r =
          rw (
            sym (beside-length r),
            sym (same-flat (sent_draft entry.msg.seq) (sent_draft entry.msg.seq)
                (λ e f s. ap (λ (o : Option SentAs). sent_draft entry.msg.seq (record { stages = []; ref_seq = 0; sent = o })) s.sent) r),
          ) refl

-- ---- its own message

stage-unrenamed : (t : Stage) → renamed_stage (λ i. i) t ≡ t
stage-unrenamed t = ap (λ o. record t { names = record { first = o; second = renamed (λ i. i) t.names.second } }) (same t.names.first)
    ∙ ap (λ o. record t { names = record { first = t.names.first; second = o } }) (same t.names.second)
  where
    same : (o : Option ElementId) → renamed (λ i. i) o ≡ o
    same None = refl
    same (Some a) = refl

stages-unrenamed : (ts : List Stage) → map (renamed_stage (λ i. i)) ts ≡ ts
stages-unrenamed [] = refl
stages-unrenamed (t ∷ ts) = ap (λ u. u ∷ map (renamed_stage (λ i. i)) ts) (stage-unrenamed t) ∙ ap (λ us. t ∷ us) (stages-unrenamed ts)

map-append : {A B : Type 0} (f : A → B) (xs ys : List A) → map f (xs ++ ys) ≡ map f xs ++ map f ys
map-append f [] ys = refl
map-append f (x ∷ xs) ys = ap (λ zs. f x ∷ zs) (map-append f xs ys)

map-length : {A B : Type 0} (f : A → B) (xs : List A) → length (map f xs) ≡ length xs
map-length f [] = refl
map-length f (x ∷ xs) = ap suc (map-length f xs)

flat-renamed : (f : ElementId → ElementId) (es : List PendingEdit) → stages_in (map (renamed_edit f) es) ≡ map (renamed_stage f) (stages_in es)
flat-renamed f [] = refl
flat-renamed f (e ∷ es) = ap (λ ts. map (renamed_stage f) e.stages ++ ts) (flat-renamed f es) ∙ sym (map-append (renamed_stage f) e.stages (stages_in es))

split : (p q : Document) (ts us : List Stage) {vs ws : List Stage} → length ts ≡ length us → StagesBeside p q (ts ++ vs) (us ++ ws) → StagesBeside p q ts us
    × StagesBeside p q vs ws
split p q [] [] l h = (ends, h)
split p q [] (u ∷ us) l h = absurd (omega arith)
split p q (t ∷ ts) [] l h = absurd (omega arith)
split p q (t ∷ ts) (u ∷ us) l (next r rs) = let s = split p q ts us (omega arith) rs in (next r s.0, s.1)

edits-renamed : (p q d e : Document) (f g : ElementId → ElementId) {es fs : List PendingEdit} → EditsBeside p q es fs
    → StagesBeside d e (map (renamed_stage f) (stages_in es)) (map (renamed_stage g) (stages_in fs))
    → EditsBeside d e (map (renamed_edit f) es) (map (renamed_edit g) fs)
edits-renamed p q d e f g ends h = ends
edits-renamed p q d e f g (next {x = i} {y = j} {xs = es} {ys = fs} r rs) h =
    let s = split d e (map (renamed_stage f) i.stages) (map (renamed_stage g) j.stages)
    (map-length (renamed_stage f) i.stages ∙ beside-length r.stages ∙ sym (map-length (renamed_stage g) j.stages))
    (subst (λ us. StagesBeside d e (map (renamed_stage f) i.stages ++ map (renamed_stage f) (stages_in es)) us) (map-append (renamed_stage g) j.stages (stages_in fs))
    (subst (λ us. StagesBeside d e us (map (renamed_stage g) (j.stages ++ stages_in fs))) (map-append (renamed_stage f) i.stages (stages_in es)) h)) in
    next (record { stages = s.0; ref_seq = r.ref_seq; sent = r.sent }) (edits-renamed p q d e f g rs s.1)

own-of : (s c : ℕ) (x : NaiveClient) (d : Document) (is es : List PendingEdit) → DocsAlike x.last_stage x.doc d → EditsBeside x.doc d is es
    → HasItsStages (stages_in is) x.doc → RiseTo 0 x.last_stage (stages_in is)
    → ClientsAlike (acknowledge s c (record x { pending = is })) (acknowledge s c (record x { doc = d; pending = es }))
own-of s c x d [] [] h ends own rise = record { rest = refl; doc = h; pending = ends; own = own; rise = rise }
own-of s c x d (i ∷ is) (j ∷ js) h (next r rs) own rise =
    let a = edit-alike x.last_stage s c 0 (stages_in is) (stages_in js) (λ n. n) (λ n. n) i.stages j.stages x.doc d (beside-length r.stages) h
    (subst (λ us. StagesBeside x.doc d (map (renamed_stage (λ n. n)) (i.stages ++ stages_in is)) us) (sym (stages-unrenamed (j.stages ++ stages_in js)))
    (subst (λ us. StagesBeside x.doc d us (j.stages ++ stages_in js)) (sym (stages-unrenamed (i.stages ++ stages_in is)))
    (beside-append r.stages (stages-flat x.doc d rs)))) own rise in
    let m = ack_stages s c (λ n. n) i.stages x.doc in
    let n = ack_stages s c (λ n. n) j.stages d in
    record {
      rest = refl;
      doc = a.alike;
      pending = edits-renamed x.doc d m.0 n.0 m.1 n.1 rs a.stages;
      own = subst (λ ts. HasItsStages ts m.0) (sym (flat-renamed m.1 is)) (put-in-renamed m.1 (stages_in is) m.0 a.own);
      rise = subst (λ ts. RiseTo 0 x.last_stage ts) (sym (flat-renamed m.1 is)) (rise-renamed m.1 0 x.last_stage (stages_in is) a.rise);
    }
own-of s c x d [] (j ∷ js) h r own rise = elim r [ ]
own-of s c x d (i ∷ is) [] h r own rise = elim r [ ]

numbered-alike : (entry : Entry) (x y : NaiveClient) → ClientsAlike x y → ClientsAlike (record x { doc = with_numbers entry x.doc }) (record y { doc = with_numbers entry y.doc })
numbered-alike entry x y h = record {
  rest = ap (λ (w : NaiveClient). record w { doc = with_numbers entry y.doc }) h.rest;
  doc = numbers-taken x.last_stage entry x.doc y.doc h.doc;
  pending = edits-stay x.doc y.doc _ _ (record { text = λ i j s. s; rows = λ i j s. s; cols = λ i j s. s }) h.pending;
  own = record { text = λ k g. h.own.text k g; rows = λ k g. h.own.rows k g; cols = λ k g. h.own.cols k g };
  rise = h.rise;
}

-- ---- steps

-- it is enough to look at a client with another document and other edits
module _ (x y : NaiveClient) (h : ClientsAlike x y) where
  abbrev twin : NaiveClient
  twin = record x { doc = y.doc; pending = y.pending }

  pub edits-alike : (op : ChannelOp) → AnswersTwice EditFault (local_edit x op) (local_edit y op)
  edits-alike op = subst (λ z. AnswersTwice EditFault (local_edit x op) (local_edit z op)) (sym h.rest) (edit-of x y.doc y.pending h.doc h.pending h.own h.rise op)

  choice : (b : Bool) (p q r s : NaiveClient) → ClientsAlike p q → ClientsAlike r s → ClientsAlike (cond b p r) (cond b q s)
  choice true p q r s f g = f
  choice false p q r s f g = g

  entry-of : (entry : Entry) → ClientsAlike (after_entry x entry) (after_entry (record x { doc = y.doc; pending = y.pending }) entry)
  entry-of entry =
      choice (is_own_join x.link entry.msg.kind entry.origin) _ _ _ _ (join-of x y.doc y.pending h.doc h.pending h.own h.rise entry)
      (choice (is_op entry.msg.body && is_own x entry) _ _ _ _ (numbered-alike entry _ _
      (own-of entry.msg.seq entry.origin x y.doc x.pending y.pending h.doc h.pending h.own h.rise)) (foreign-of x y.doc y.pending h.doc h.pending h.own h.rise entry))

  process-of : (entry : Entry) (o p : Option ProcessFault) → o ≡ p
      → AnswersTwice ProcessFault (elim o [ Some fault ↦ Err fault | None ↦ Ok (after_entry x entry) ])
      (elim p [ Some fault ↦ Err fault | None ↦ Ok (after_entry (record x { doc = y.doc; pending = y.pending }) entry) ])
  process-of entry None None e = both_take _ _ (entry-of entry)
  process-of entry (Some f) (Some g) e =
      let same : f ≡ g = (cc) in
      subst (λ i. AnswersTwice ProcessFault (Err f) (Err i)) same (both_refuse f)
  process-of entry None (Some g) e = (cc)
  process-of entry (Some f) None e = (cc)

  pub entries-alike : (entry : Entry) → AnswersTwice ProcessFault (process x entry) (process y entry)
  entries-alike entry =
      subst (λ z. AnswersTwice ProcessFault (process x entry) (process z entry)) (sym h.rest)
      (process-of entry (process_fault x entry) (process_fault (record x { doc = y.doc; pending = y.pending }) entry)
      (fault-alike x y.doc y.pending h.doc h.pending h.own h.rise entry))

  relinked : (link : Link) (conns : List ℕ) (n : ℕ) (queue : List Draft)
      → ClientsAlike (record x { link = link; conns = conns; next_client_seq = n; queue = queue })
      (record x { doc = y.doc; pending = y.pending; link = link; conns = conns; next_client_seq = n; queue = queue })
  relinked link conns n queue = record { rest = refl; doc = h.doc; pending = h.pending; own = h.own; rise = h.rise }

  pub connects-alike : (conn : ℕ) → AnswersTwice LinkFault (connect x conn) (connect y conn)
  connects-alike conn = subst (λ z. AnswersTwice LinkFault (connect x conn) (connect z conn)) (sym h.rest) (step x.link)
    where
      step : (l : Link) → AnswersTwice LinkFault (elim l [
        | Offline ↦ Ok (record x { link = Joining conn; conns = x.conns ++ (conn ∷ []); next_client_seq = 1 })
        | _ ↦ Err AlreadyConnected
      ])
          (elim l [
            | Offline ↦ Ok (record x { doc = y.doc; pending = y.pending; link = Joining conn; conns = x.conns ++ (conn ∷ []); next_client_seq = 1 })
            | _
                ↦ Err AlreadyConnected
          ])
      step Offline = both_take _ _ (relinked (Joining conn) (x.conns ++ (conn ∷ [])) 1 x.queue)
      step (Joining c) = both_refuse AlreadyConnected
      step (Online c) = both_refuse AlreadyConnected

  pub drops-alike : AnswersTwice LinkFault (drop_link x) (drop_link y)
  drops-alike = subst (λ z. AnswersTwice LinkFault (drop_link x) (drop_link z)) (sym h.rest) (step x.link)
    where
      step : (l : Link) → AnswersTwice LinkFault (elim l [ Offline ↦ Err NotConnected | _ ↦ Ok (record x { link = Offline; queue = [] }) ])
          (elim l [ Offline ↦ Err NotConnected | _ ↦ Ok (record x { doc = y.doc; pending = y.pending; link = Offline; queue = [] }) ])
      step Offline = both_refuse NotConnected
      step (Joining c) = both_take _ _ (relinked Offline x.conns x.next_client_seq [])
      step (Online c) = both_take _ _ (relinked Offline x.conns x.next_client_seq [])

  pub idles-alike : AnswersTwice LinkFault (noop x) (noop y)
  idles-alike =
      subst (λ z. AnswersTwice LinkFault (noop x) (noop z)) (sym h.rest)
      (subst (λ n. AnswersTwice LinkFault (noop x) (elim x.link [ Online conn ↦ Ok (noop_client n) | _ ↦ Err NotConnected ])) h.doc.parts.number (step x.link))
    where
      noop_client : ℕ → NaiveClient
      noop_client n = record x {
        doc = y.doc;
        pending = y.pending;
        next_client_seq = x.next_client_seq + 1;
        queue = x.queue ++
            (record { client_seq = x.next_client_seq; ref_seq = n; body = Nothing } ∷ []);
      }

      step : (l : Link) → AnswersTwice LinkFault (elim l [
        | Online conn ↦ Ok (record x {
          next_client_seq = x.next_client_seq + 1;
          queue = x.queue ++ (record { client_seq = x.next_client_seq; ref_seq = x.doc.number; body = Nothing } ∷
              []);
        })
        | _ ↦ Err NotConnected
      ])
          (elim l [ Online conn ↦ Ok (noop_client x.doc.number) | _ ↦ Err NotConnected ])
      step Offline = both_refuse NotConnected
      step (Joining c) = both_refuse NotConnected
      step (Online c) = both_take _ _ (relinked x.link x.conns (x.next_client_seq + 1)
          (x.queue ++ (record { client_seq = x.next_client_seq; ref_seq = x.doc.number; body = Nothing } ∷ [])))

  -- its first draft goes to the sequencer
  pub sends-alike : ClientsAlike (record x { queue = drop 1 x.queue }) (record y { queue = drop 1 y.queue })
  sends-alike = subst (λ (z : NaiveClient). ClientsAlike (record x { queue = drop 1 x.queue }) (record z { queue = drop 1 z.queue })) (sym h.rest)
      (relinked x.link x.conns x.next_client_seq (drop 1 x.queue))
