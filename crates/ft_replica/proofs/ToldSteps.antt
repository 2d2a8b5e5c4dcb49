-- What a client over its own document tells of a step.
use Rattle.std.proofs.Common.{◌≡◌, ℕ, ◌+◌, ◌&&◌, ◌||◌, Bool, true, false, cond, List, [], ◌∷◌, ◌++◌, None, Result, Ok, Err, is_err, length, take, refl, sym, ◌∙◌, ap}
use Rattle.std.specs.Prelude.{OnOk, nat_eq}
use Rattle.std.specs.List.{list_any}
use Rattle.ft_op.specs.declared.operations.ChannelOp.{ChannelOp}
use Rattle.ft_op.specs.Document.{Document}
use Rattle.ft_op.specs.Operation.{sub_operations}
use Rattle.ft_op.specs.Stages.{Stage}
use Rattle.ft_msg.specs.declared.faults.EditFault.{EditFault}
use Rattle.ft_msg.specs.declared.messages.Body.{Body}
use Rattle.ft_msg.specs.declared.messages.Body.TheVariants.{Elsewhere, Nothing, Op}
use Rattle.ft_msg.specs.declared.messages.Entry.{Entry}
use Rattle.ft_msg.specs.Agreed.{body_effect, reference_number, with_numbers}
use Rattle.ft_msg.specs.Client.{NaiveClient, local_edit, stages_of}
use Rattle.ft_msg.specs.Compacted.{IsCompacted}
use Rattle.ft_msg.specs.Process.{after_entry, after_foreign_message, is_op, is_own, is_own_join, process_fault}
use Rattle.ft_msg.specs.Reached.{IsReached}
use Rattle.ft_msg.specs.WellFormed.{IsWellFormedMessage}
use Rattle.ft_msg.proofs.ReachedSteps.{well-formed-fits}
use Rattle.ft_laws_compaction.specs.Keeping.{IsMadeOrKept}
use Rattle.ft_laws_compaction.proofs.AllSteps.{reached-sound}
use Rattle.ft_laws_compaction.proofs.KeptSteps.{entries-answer}
use Rattle.ft_laws_compaction.proofs.Runs.{run-facts}
use Rattle.ft_laws_compaction.proofs.SameContent.{show-alike}
use Rattle.ft_changes.specs.declared.changes.ViewChange.{ViewChange}
use Rattle.ft_changes.specs.Laws.{after_edit_lists}
use Rattle.ft_changes.specs.Shown.{ShownContent, after_changes, shown_content}
use Rattle.ft_changes.specs.Told.{told_body, told_edit, told_edit_lists, told_lists, told_locals, told_of_edit, told_of_entry, told_rest}
use Rattle.ft_changes.proofs.KeptClients.{kept-is-shown}
use Rattle.ft_changes.proofs.KeptTells.{kept-ack-tells-nothing, kept-join-tells-nothing}
use Rattle.ft_changes.proofs.NothingTold.{rest-same}
use Rattle.ft_replica.specs.Linked.{LinkedState, linked_as}
use Rattle.ft_replica.specs.Telling.{IsEnough, TakesOther}
use Rattle.ft_replica.specs.Comparing.{compared_part}
use Rattle.ft_replica.specs.declared.comparing.Compared.{Compared}
use Rattle.ft_replica.proofs.MadeSteps.{after-other, after-taken}
use Rattle.ft_replica.proofs.Replicas.{taken-alike}

-- what holds anyway holds after an answer
pub on-any-ok : {A E P : Type 0} (r : Result A E) → P → OnOk r P
on-any-ok (Ok a) h = h
on-any-ok (Err e) h = tt

-- what holds after an answer that isn't an error
pub went-well : {A E P : Type 0} (r : Result A E) → is_err r ≡ false → OnOk r P → P
went-well (Ok a) e h = h
went-well (Err fault) e h = absurd (cc)

-- what was there before is all that is left of it and what was added
pub taken-back : {A : Type 0} (xs ys : List A) → take (length xs) (xs ++ ys) ≡ xs
taken-back [] ys = refl
taken-back (x ∷ xs) ys = ap (λ zs. x ∷ zs) (taken-back xs ys)

-- ---- a client that keeps another shows what that shows

pub kept-shows : (kept x : NaiveClient) → IsReached x → IsCompacted kept x → shown_content kept ≡ shown_content x
kept-shows kept x reached k = kept-is-shown kept x k (show-alike kept x (run-facts reached.steps x (reached-sound x reached)) k).content

-- ---- of its own join and its own message a client tells nothing

abbrev pub is_from_itself : NaiveClient → Entry → Bool
is_from_itself p entry = is_own_join p.link entry.msg.kind entry.origin || (is_op entry.msg.body && is_own p entry)

pub own-tells-nothing : (start : Document) (p : NaiveClient) (entry : Entry) → IsWellFormedMessage entry.msg → IsMadeOrKept start p → process_fault p entry ≡ None
    → is_from_itself p entry ≡ true → told_of_entry p entry ≡ []
own-tells-nothing start p entry formed m e own =
    let x = m.whole in
    let fits = well-formed-fits entry formed in
    let a = taken-alike (after_entry p entry) (entries-answer m.reached.steps x p entry (reached-sound x m.reached) m.keeps fits) (after-taken p entry e) in
    by (is_own_join p.link entry.msg.kind entry.origin) (is_op entry.msg.body && is_own p entry)
    (kept-join-tells-nothing p x a.0 entry m.reached m.keeps fits a.1.0) (kept-ack-tells-nothing p x a.0 entry m.reached m.keeps fits a.1.0) own
  where
    by : (join mine : Bool) → (join ≡ true → told_of_entry p entry ≡ []) → (mine ≡ true → told_of_entry p entry ≡ []) → join || mine ≡ true → told_of_entry p entry ≡ []
    by true mine f g h = f refl
    by false mine f g h = g h

-- ---- what comes from another client

pub neither : (a b : Bool) → a || b ≡ false → (a ≡ false) × (b ≡ false)
neither true b h = absurd (cc)
neither false b h = (refl, h)

module _ {D : Type 0} (entry : Entry) (s : LinkedState D) (p : NaiveClient) (rest : s ≡ linked_as p s.document) where
  -- whose it is of the client for which it stands
  pub whose : is_own_join s.link entry.msg.kind entry.origin || (is_op entry.msg.body && list_any (nat_eq entry.origin) s.conns) ≡ is_from_itself p entry
  whose = ap (λ (t : LinkedState D). is_own_join t.link entry.msg.kind entry.origin || (is_op entry.msg.body && list_any (nat_eq entry.origin) t.conns)) rest

  pub other-client : process_fault p entry ≡ None
      → is_own_join s.link entry.msg.kind entry.origin || (is_op entry.msg.body && list_any (nat_eq entry.origin) s.conns) ≡ false → TakesOther entry s.last_stage p
  other-client taken h =
      let none = neither (is_own_join p.link entry.msg.kind entry.origin) (is_op entry.msg.body && is_own p entry) (sym whose ∙ h) in
      record { last_is = sym (ap (λ (t : LinkedState D). t.last_stage) rest); taken = taken; join = none.0; own = none.1 }

-- the lists change by the body alone
pub other-lists : (entry : Entry) (last : ℕ) (p : NaiveClient) → TakesOther entry last p
    → told_body last p.doc entry.msg.seq entry.origin (reference_number entry.msg.ref_seq) entry.msg.body ≡ told_lists p entry
other-lists entry last p t =
    let body : ℕ → List ViewChange = λ k. told_body k p.doc entry.msg.seq entry.origin (reference_number entry.msg.ref_seq) entry.msg.body in
    ap body (sym t.last_is)
    ∙ sym (
    ap (λ b. cond b [] (cond (is_op entry.msg.body && is_own p entry) [] (body p.last_stage))) t.join
    ∙ ap (λ b. cond b [] (body p.last_stage)) t.own
    )

-- without an operation nothing is told: the lists and all that is shown are what they were
module _ (k : ℕ) (p : NaiveClient) (entry : Entry) (s c r : ℕ) where
  idle-lists : (body : Body) → is_op body ≡ false → told_body k p.doc s c r body ≡ []
  idle-lists (Op op) h = absurd (cc)
  idle-lists Nothing h = refl
  idle-lists (Elsewhere address) h = refl

  idle-shows : (body : Body) → is_op body ≡ false → shown_content (record p { doc = with_numbers entry (body_effect p.doc s c r body) }) ≡ shown_content p
  idle-shows (Op op) h = absurd (cc)
  idle-shows Nothing h = refl
  idle-shows (Elsewhere address) h = refl

pub idle-tells-nothing : (entry : Entry) (last : ℕ) (p : NaiveClient) → TakesOther entry last p → is_op entry.msg.body ≡ false → told_of_entry p entry ≡ []
idle-tells-nothing entry last p t h =
    let s = entry.msg.seq in
    let c = entry.origin in
    let r = reference_number entry.msg.ref_seq in
    let lists : told_lists p entry ≡ [] = sym (other-lists entry last p t) ∙ idle-lists last p entry s c r entry.msg.body h in
    let shows : shown_content (after_entry p entry) ≡ shown_content p =
    ap shown_content (after-other entry last p t) ∙ idle-shows last p entry s c r entry.msg.body h in
    ap (λ cs. cs ++ told_rest (after_changes (shown_content p) cs) (shown_content (after_entry p entry))) lists
    ∙ ap (told_rest (shown_content p)) shows ∙ rest-same (shown_content p)

pub other-told : (entry : Entry) (last : ℕ) (p : NaiveClient) (compared : Compared) (op : ChannelOp) (lists all : List ViewChange) → TakesOther entry last p
    → IsEnough compared op entry p
    → lists ≡ told_body last p.doc entry.msg.seq entry.origin (reference_number entry.msg.ref_seq) entry.msg.body
    → all ≡ lists ++ told_rest (compared_part compared op (stages_of p) (after_changes (shown_content p) lists))
    (compared_part compared op (stages_of p) (shown_content (after_foreign_message p entry)))
    → all ≡ told_of_entry p entry
other-told entry last p compared op lists all t enough told is =
    let part : ShownContent → ShownContent = λ s. compared_part compared op (stages_of p) s in
    let rest : List ViewChange → NaiveClient → List ViewChange =
    λ cs y. told_rest (part (after_changes (shown_content p) cs)) (part (shown_content y)) in
    is
    ∙ ap (λ cs. cs ++ rest cs (after_foreign_message p entry)) (told ∙ other-lists entry last p t)
    ∙ ap (λ y. told_lists p entry ++ rest (told_lists p entry) y) (sym (after-other entry last p t))
    ∙ ap (λ cs. told_lists p entry ++ cs) enough

-- ---- an edit

pub edit-told : (p y : NaiveClient) (op : ChannelOp) → local_edit p op ≡ Ok y → told_of_edit p op ≡ told_edit p y op
edit-told p y op e = ap (λ (r : Result NaiveClient EditFault). elim r as (λ _. List ViewChange) [ Err fault ↦ [] | Ok z ↦ told_edit p z op ]) e

pub edited-told : (p y : NaiveClient) (op : ChannelOp) (last : ℕ) (compared : Compared) (stages : List Stage) (lists all : List ViewChange)
    → p.last_stage ≡ last
    → local_edit p op ≡ Ok y
    → told_rest (compared_part compared op stages (after_edit_lists p op)) (compared_part compared op stages (shown_content y))
    ≡ told_rest (after_edit_lists p op) (shown_content y)
    → lists ≡ told_locals p.doc (stages_of p) (last + 1) (sub_operations op)
    → all ≡ lists ++ told_rest (compared_part compared op stages (after_changes (shown_content p) lists)) (compared_part compared op stages (shown_content y))
    → all ≡ told_of_edit p op
edited-told p y op last compared stages lists all is taken enough told made =
    let part : ShownContent → ShownContent = λ s. compared_part compared op stages s in
    made
    ∙ ap (λ cs. cs ++ told_rest (part (after_changes (shown_content p) cs)) (part (shown_content y)))
    (told ∙ ap (λ n. told_locals p.doc (stages_of p) (n + 1) (sub_operations op)) (sym is))
    ∙ ap (λ cs. told_edit_lists p op ++ cs) enough ∙ sym (edit-told p y op taken)
