-- What holds of every client that its steps made, and of the one after a further step.
use Rattle.std.proofs.Common.{◌≡◌, ℕ, ◌+◌, ◌≤◌, Bool, true, false, cond, not, ◌&&◌, nat_eq, nat_le, nat_lt, List, [], ◌∷◌, ◌++◌, Option, Some, None, Result, Ok, Err, drop, refl, sym, ◌∙◌, ap, subst, arith, pos, int_lt, ℤ, negsuc}
use Rattle.std.specs.List.{list_all}
use Rattle.std.proofs.lemmas.Bool.Decides.{nat_tests}
use Rattle.ft_base.proofs.Booleans.{both}
use Rattle.ft_msg.specs.declared.faults.ProcessFault.{ProcessFault}
use Rattle.ft_msg.specs.declared.faults.ProcessFault.TheVariants.{OutOfOrder, NotSent}
use Rattle.ft_msg.specs.declared.messages.Entry.{Entry}
use Rattle.ft_op.specs.Document.{Document, sequenced_part}
use Rattle.ft_msg.specs.Agreed.{reference_number, take_entries, take_entry}
use Rattle.ft_msg.specs.Client.{NaiveClient, client_over}
use Rattle.ft_msg.specs.Process.{after_entry, is_oldest, is_op_kind, is_own, numbers_fault, process, process_fault}
use Rattle.ft_laws_agreement.specs.Starts.{IsRunFrom, IsSoundRun}
use Rattle.ft_msg.specs.ClientSteps.{ClientStep, Edits, Connects, Drops, Idles, Sends, Restarts, Takes, after_step, after_steps, has_fitting_body, taken_entries}
use Rattle.ft_laws_agreement.proofs.ClientsAgree.{all-stepped-from, clients-agree-from, refused-ok}
use Rattle.ft_laws_agreement.proofs.EveryClientReady.{client-ready-from}
use Rattle.ft_msg.proofs.ReachedSteps.{after-one, bodies-one}
use Rattle.ft_laws_compaction.proofs.ClientFacts.{ClientFacts, client-facts}
use Rattle.ft_laws_compaction.proofs.RemovedUnits.{StayRemoved, removed-stay}

-- ---- one more step

pub taken-append : (ss ts : List ClientStep) → taken_entries (ss ++ ts) ≡ taken_entries ss ++ taken_entries ts
taken-append [] ts = refl
taken-append (Takes entry ∷ ss) ts = ap (λ es. entry ∷ es) (taken-append ss ts)
taken-append (Edits op ∷ ss) ts = taken-append ss ts
taken-append (Connects conn ∷ ss) ts = taken-append ss ts
taken-append (Drops ∷ ss) ts = taken-append ss ts
taken-append (Idles ∷ ss) ts = taken-append ss ts
taken-append (Sends ∷ ss) ts = taken-append ss ts
taken-append (Restarts ∷ ss) ts = taken-append ss ts

entries-append : (doc : Document) (es fs : List Entry) → take_entries doc (es ++ fs) ≡ take_entries (take_entries doc es) fs
entries-append doc [] fs = refl
entries-append doc (e ∷ es) fs = entries-append (take_entry doc e) es fs

pub run-next : (steps : List ClientStep) (step : ClientStep) (x z : NaiveClient) (h : IsSoundRun steps x) → after_step x step ≡ Some z
    → list_all has_fitting_body (taken_entries (step ∷ [])) ≡ true → IsRunFrom h.start (steps ++ (step ∷ [])) z
run-next steps step x z h e fits = record {
  sound = h.run.sound;
  made = after-one steps (Some (client_over h.start)) step x z h.run.made e;
  bodies = bodies-one
      steps step h.run.bodies fits;
}

-- ---- what holds of the client

pub facts-from : (start : Document) (steps : List ClientStep) (x : NaiveClient) → IsRunFrom start steps x → ClientFacts x
facts-from start steps x run = let s = all-stepped-from start steps x run in client-facts _ s.c s.gss x s.client (client-ready-from start steps x run)

pub run-facts : (steps : List ClientStep) (x : NaiveClient) → IsSoundRun steps x → ClientFacts x
run-facts steps x h = facts-from h.start steps x h.run

-- without what is pending its document goes on by the entries that it takes
pub run-sequenced : (steps : List ClientStep) (step : ClientStep) (x z : NaiveClient) (h : IsSoundRun steps x) → IsRunFrom h.start (steps ++ (step ∷ [])) z
    → sequenced_part z.doc ≡ take_entries (sequenced_part x.doc) (taken_entries (step ∷ []))
run-sequenced steps step x z h g =
    clients-agree-from h.start (steps ++ (step ∷ [])) z g ∙ ap (take_entries h.start) (taken-append steps (step ∷ []))
    ∙ entries-append h.start (taken_entries steps) (taken_entries (step ∷ []))
    ∙ ap (λ d. take_entries d (taken_entries (step ∷ []))) (sym (clients-agree-from h.start steps x h.run))

-- what was removed stays removed
pub run-removed : (steps : List ClientStep) (step : ClientStep) (x z : NaiveClient) (h : IsSoundRun steps x) → IsRunFrom h.start (steps ++ (step ∷ [])) z → StayRemoved x.doc z.doc
run-removed steps step x z h g =
    let f = run-facts steps x h in
    let k = facts-from h.start (steps ++ (step ∷ [])) z g in
    removed-stay x.doc z.doc (taken_entries (step ∷ [])) f.ready.rows.later f.ready.cols.later k.ready.rows.later k.ready.cols.later (run-sequenced steps step x z h g)

-- ---- the numbers of entries

-- what an entry that isn't refused says of its numbers
pub record NumbersFit (x : NaiveClient) (entry : Entry) : Type 0 where
  pub ref : is_op_kind entry.msg.kind ≡ true → x.doc.minimum ≤ reference_number entry.msg.ref_seq
  pub rises : x.doc.minimum ≤ entry.msg.min
  pub below : entry.msg.min ≤ entry.msg.seq

first-passed : (a : Bool) (fault : ProcessFault) (later : Option ProcessFault) → cond a (Some fault) later ≡ None → (a ≡ false) × (later ≡ None)
first-passed true fault later h = (cc)
first-passed false fault later h = (refl, h)

at_least : (m n : ℕ) → nat_lt n m ≡ false → m ≤ n
at_least m n h = grind (arith, nat_tests)

ref-above : (m : ℕ) (z : ℤ) → int_lt z (pos m) ≡ false → m ≤ reference_number z
ref-above m (pos n) h = grind (arith, nat_tests)
ref-above m (negsuc n) h = (cc)

not-first : (a b : Bool) → a && b ≡ false → a ≡ true → b ≡ false
not-first true b h g = h
not-first false b h g = (cc)

numbers-fit : (x : NaiveClient) (entry : Entry) → numbers_fault x entry ≡ None → NumbersFit x entry
numbers-fit x entry h =
    let m = entry.msg in
    let a = first-passed (is_op_kind m.kind && int_lt m.ref_seq (pos x.doc.minimum)) _ _ h in
    let b = first-passed (is_op_kind m.kind && int_lt (pos x.doc.number) m.ref_seq) _ _ a.1 in
    let c = first-passed (nat_lt m.min x.doc.minimum) _ _ b.1 in
    let d = first-passed (nat_lt m.seq m.min) _ _ c.1 in
    record {
      ref = λ op. ref-above x.doc.minimum m.ref_seq (not-first (is_op_kind m.kind) (int_lt m.ref_seq (pos x.doc.minimum)) a.0 op);
      rises = at_least x.doc.minimum m.min c.0;
      below = at_least m.min m.seq d.0;
    }

abbrev sent_fault : NaiveClient → Entry → Option ProcessFault → Option ProcessFault
sent_fault x entry (Some fault) = Some fault
sent_fault x entry None = cond (is_op_kind entry.msg.kind && is_own x entry && not (is_oldest entry x.pending)) (Some NotSent) None

pub entry-numbers : (x : NaiveClient) (entry : Entry) → process_fault x entry ≡ None → NumbersFit x entry
entry-numbers x entry h =
    let f = first-passed (not (nat_eq entry.msg.seq (x.doc.number + 1))) (OutOfOrder (x.doc.number + 1) entry.msg.seq) (sent_fault x entry (numbers_fault x entry)) h in
    numbers-fit x entry (none-before (numbers_fault x entry) f.1)
  where
    none-before : (o : Option ProcessFault) → sent_fault x entry o ≡ None → o ≡ None
    none-before None g = refl
    none-before (Some fault) g = (cc)

abbrev pub process_from : NaiveClient → Entry → Option ProcessFault → Result NaiveClient ProcessFault
process_from x entry (Some fault) = Err fault
process_from x entry None = Ok (after_entry x entry)

-- whether the minimum of an entry is at most its number
abbrev has_numbers : Entry → Bool
has_numbers entry = nat_le entry.msg.min entry.msg.seq

then-numbers : (entries : List Entry) (steps : List ClientStep) (y : NaiveClient) (o : Option NaiveClient)
    → ((z : NaiveClient) → o ≡ Some z → after_steps (Some z) steps ≡ Some y → list_all has_numbers entries ≡ true) → after_steps o steps ≡ Some y
    → list_all has_numbers entries ≡ true
then-numbers entries steps y None f h = (cc)
then-numbers entries steps y (Some z) f h = f z refl h

taken-numbers : (steps : List ClientStep) (x y : NaiveClient) → after_steps (Some x) steps ≡ Some y → list_all has_numbers (taken_entries steps) ≡ true
taken-numbers [] x y h = refl
taken-numbers (Edits op ∷ steps) x y h = then-numbers (taken_entries steps) steps y (after_step x (Edits op)) (λ z e g. taken-numbers steps z y g) h
taken-numbers (Connects conn ∷ steps) x y h = then-numbers (taken_entries steps) steps y (after_step x (Connects conn)) (λ z e g. taken-numbers steps z y g) h
taken-numbers (Drops ∷ steps) x y h = then-numbers (taken_entries steps) steps y (after_step x Drops) (λ z e g. taken-numbers steps z y g) h
taken-numbers (Idles ∷ steps) x y h = then-numbers (taken_entries steps) steps y (after_step x Idles) (λ z e g. taken-numbers steps z y g) h
taken-numbers (Sends ∷ steps) x y h = taken-numbers steps (record x { queue = drop 1 x.queue }) y h
taken-numbers (Restarts ∷ steps) x y h = then-numbers (taken_entries steps) steps y (after_step x Restarts) (λ z e g. taken-numbers steps z y g) h
taken-numbers (Takes entry ∷ steps) x y h =
    then-numbers (entry ∷ taken_entries steps) steps y (after_step x (Takes entry))
    (λ z e g. rw (here (process_fault x entry) refl (refused-ok (process x entry) z e), taken-numbers steps z y g) refl) h
  where
    test : (m n : ℕ) → m ≤ n → nat_le m n ≡ true
    test m n l = grind (arith, nat_tests)

    here : {z : NaiveClient} (o : Option ProcessFault) → process_fault x entry ≡ o → process_from x entry o ≡ Ok z → has_numbers entry ≡ true
    here None e g = test entry.msg.min entry.msg.seq (entry-numbers x entry e).below
    here (Some fault) e g = (cc)

agreed-numbers : (entries : List Entry) (doc : Document) → doc.minimum ≤ doc.number → list_all has_numbers entries ≡ true
    → (take_entries doc entries).minimum ≤ (take_entries doc entries).number
agreed-numbers [] doc l h = l
agreed-numbers (entry ∷ entries) doc l h =
    let p = both (has_numbers entry) (list_all has_numbers entries) h in
    agreed-numbers entries (take_entry doc entry) (test entry.msg.min entry.msg.seq p.0) p.1
  where
    test : (m n : ℕ) → nat_le m n ≡ true → m ≤ n
    test m n g = grind (arith, nat_tests)

-- in every client the minimum is at most the number
pub run-numbers : (steps : List ClientStep) (x : NaiveClient) → IsSoundRun steps x → x.doc.minimum ≤ x.doc.number
run-numbers steps x h =
    subst (λ (d : Document). d.minimum ≤ d.number) (sym (clients-agree-from h.start steps x h.run))
    (agreed-numbers (taken_entries steps) h.start h.run.sound.numbers (taken-numbers steps (client_over h.start) x h.run.made))
