-- The floor doesn't fall at a step of a client, nor at any number of steps and compactions, and what the client takes then is above it.
use Rattle.std.proofs.Common.{◌≡◌, ℕ, ◌≤◌, true, List, [], ◌∷◌, ◌++◌, Option, Some, None, Ok, fold, min, refl, sym, ◌∙◌, ap, subst, arith}
use Rattle.std.proofs.Math.Nat.{le-min, min-le_left}
use Rattle.std.specs.List.{list_all}
use Rattle.ft_base.proofs.Booleans.{both}
use Rattle.std.proofs.lemmas.List.Folds.{list_all-append}
use Rattle.ft_msg.specs.declared.faults.ProcessFault.{ProcessFault}
use Rattle.ft_msg.specs.declared.messages.Entry.{Entry}
use Rattle.ft_op.specs.Document.{Document}
use Rattle.ft_msg.specs.Agreed.{reference_number}
use Rattle.ft_msg.specs.Client.{NaiveClient, PendingEdit, client_over, floor}
use Rattle.ft_msg.specs.ClientSteps.{ClientStep, Edits, Connects, Drops, Idles, Sends, Restarts, Takes, after_step, has_fitting_body, taken_entries}
use Rattle.ft_msg.specs.Compacted.{IsCompacted}
use Rattle.ft_msg.specs.Process.{is_op_kind, process, process_fault}
use Rattle.ft_msg.proofs.ReachedSteps.{after-one, bodies-one}
use Rattle.ft_laws_agreement.specs.Sequencing.{Each}
use Rattle.ft_laws_agreement.specs.Starts.{IsRunFrom, IsSoundRun}
use Rattle.ft_laws_agreement.proofs.ClientsAgree.{refused-ok}
use Rattle.ft_laws_compaction.specs.Floors.{HasRisingReferences, least_with_oldest, references}
use Rattle.ft_laws_compaction.specs.Keeping.{CompactingSteps, IsMadeOrKept, compacts, ends, steps_on}
use Rattle.ft_laws_compaction.proofs.AllSteps.{reached-sound, step-alike, taken-alike}
use Rattle.ft_laws_compaction.proofs.Compacting.{compacts-further, floor-kept}
use Rattle.ft_laws_compaction.proofs.Floors.{min-more}
use Rattle.ft_laws_compaction.proofs.FreeTombstones.{least-first, least_ref}
use Rattle.ft_laws_compaction.proofs.PendingReferences.{NextReferences, all_again, as_before, number-next, oldest-least, one_less, one_more, references-next, steps-rising}
use Rattle.ft_laws_compaction.proofs.Runs.{entry-numbers, process_from, run-next, run-numbers, run-sequenced, taken-append}

-- ---- the least of numbers

abbrev least : ℕ → List ℕ → ℕ
least n ms = fold min n ms

least-references : (n : ℕ) (edits : List PendingEdit) → least_ref n edits ≡ least n (references edits)
least-references n [] = refl
least-references n (e ∷ edits) = least-references (min n e.ref_seq) edits

least-start : (ms : List ℕ) (n : ℕ) → least n ms ≤ n
least-start [] n = omega arith
least-start (m ∷ ms) n = let l = least-start ms (min n m) in omega arith

least-rises : (ms : List ℕ) (a b : ℕ) → a ≤ b → least a ms ≤ least b ms
least-rises [] a b l = l
least-rises (m ∷ ms) a b l = least-rises ms (min a m) (min b m) (min-more a b m l)

least-last : (low n : ℕ) (ms : List ℕ) (b : ℕ) → low ≤ n → low ≤ least b ms → low ≤ least b (ms ++ (n ∷ []))
least-last low n [] b l h = le-min {k = low} {a = b} {b = n} h l
least-last low n (m ∷ ms) b l h = least-last low n ms (min b m) l h

least-equal : (low m : ℕ) → low ≤ m → (ns : List ℕ) (b : ℕ) → low ≤ b → Each (λ k. k ≡ m) ns → low ≤ least b ns
least-equal low m l [] b h e = h
least-equal low m l (n ∷ ns) b h e =
    least-equal low m l ns (min b n) (le-min {k = low} {a = b} {b = n} h (let same = e.0 in omega arith)) e.1

-- a step makes it no less, where the first number rises and was at most the client's number
least-next : (n m a b : ℕ) {ms ns : List ℕ} → NextReferences n m ms ns → a ≤ b → a ≤ n → n ≤ m → least a ms ≤ least b ns
least-next n m a b (as_before {ms = ms}) l h k = least-rises ms a b l
least-next n m a b (one_more {ms = ms}) l h k =
    least-last (least a ms) n ms b (let s = least-start ms a in omega arith) (least-rises ms a b l)
least-next n m a b (one_less {k = i} {ms = ms}) l h k = least-rises ms (min a i) b (let s = min-le_left a i in omega arith)
least-next n m a b (all_again {ms = ms} {ns = ns} e) l h k =
    let s = least-start ms a in
    least-equal (least a ms) m (omega arith) ns b (omega arith) e

-- ---- one step

same-minimum : (m n : ℕ) → n ≡ m → m ≤ n
same-minimum m n e = omega arith

passed : {z : NaiveClient} (x : NaiveClient) (entry : Entry) (fault : Option ProcessFault) → process_fault x entry ≡ fault → process_from x entry fault ≡ Ok z → process_fault x entry ≡ None
passed x entry None e h = e
passed x entry (Some fault) e h = (cc)

minimum-next : (steps : List ClientStep) (step : ClientStep) (x z : NaiveClient) (run : IsSoundRun steps x) → after_step x step ≡ Some z
    → IsRunFrom run.start (steps ++ (step ∷ [])) z → x.doc.minimum ≤ z.doc.minimum
minimum-next steps (Edits op) x z run h next = same-minimum x.doc.minimum z.doc.minimum (ap (λ (d : Document). d.minimum) (run-sequenced steps (Edits op) x z run next))
minimum-next steps (Connects conn) x z run h next = same-minimum x.doc.minimum z.doc.minimum (ap (λ (d : Document). d.minimum) (run-sequenced steps (Connects conn) x z run next))
minimum-next steps Drops x z run h next = same-minimum x.doc.minimum z.doc.minimum (ap (λ (d : Document). d.minimum) (run-sequenced steps Drops x z run next))
minimum-next steps Idles x z run h next = same-minimum x.doc.minimum z.doc.minimum (ap (λ (d : Document). d.minimum) (run-sequenced steps Idles x z run next))
minimum-next steps Sends x z run h next = same-minimum x.doc.minimum z.doc.minimum (ap (λ (d : Document). d.minimum) (run-sequenced steps Sends x z run next))
minimum-next steps Restarts x z run h next = same-minimum x.doc.minimum z.doc.minimum (ap (λ (d : Document). d.minimum) (run-sequenced steps Restarts x z run next))
minimum-next steps (Takes entry) x z run h next =
    let same : z.doc.minimum ≡ entry.msg.min = ap (λ (d : Document). d.minimum) (run-sequenced steps (Takes entry) x z run next) in
    let rises = (entry-numbers x entry (passed x entry (process_fault x entry) refl (refused-ok (process x entry) z h))).rises in
    omega arith

pub floor-step : (steps : List ClientStep) (step : ClientStep) (x z : NaiveClient) → IsSoundRun steps x → after_step x step ≡ Some z
    → list_all has_fitting_body (taken_entries (step ∷ [])) ≡ true → floor x ≤ floor z
floor-step steps step x z run h fits =
    let l = minimum-next steps step x z run h (run-next steps step x z run h fits) in
    let a = least-references x.doc.minimum x.pending in
    let b = least-references z.doc.minimum z.pending in
    let c = least-next x.doc.number z.doc.number x.doc.minimum z.doc.minimum (references-next x z step h) l (run-numbers steps x run) (number-next x z step h) in
    subst (λ n. floor x ≤ n) (sym b) (subst (λ n. n ≤ least z.doc.minimum (references z.pending)) (sym a) c)

-- ---- clients that are made or kept

-- a step of one leads to one
pub kept-next : (start : Document) (kept after : NaiveClient) (step : ClientStep) → IsMadeOrKept start kept → after_step kept step ≡ Some after
    → list_all has_fitting_body (taken_entries (step ∷ [])) ≡ true → IsMadeOrKept start after
kept-next start kept after step h e fits =
    let r = h.reached in
    let t = taken-alike after (step-alike r.steps h.whole kept step (reached-sound h.whole r) h.keeps fits) e in
    record {
      whole = t.0;
      reached = record {
        start = r.start;
        starts = r.starts;
        steps = r.steps ++ (step ∷ []);
        made = after-one r.steps (Some (client_over r.start)) step h.whole t.0 r.made t.1.0;
        bodies = bodies-one r.steps step r.bodies fits;
      };
      starts = h.starts;
      keeps = t.1.1;
    }

-- and so does a compaction
pub kept-compacted : (start : Document) (kept fewer : NaiveClient) → IsMadeOrKept start kept → IsCompacted fewer kept → IsMadeOrKept start fewer
kept-compacted start kept fewer h k = record { whole = h.whole; reached = h.reached; starts = h.starts; keeps = compacts-further h.whole kept fewer h.keeps k }

pub floor-stays : (start : Document) (kept after : NaiveClient) (step : ClientStep) → IsMadeOrKept start kept → after_step kept step ≡ Some after
    → list_all has_fitting_body (taken_entries (step ∷ [])) ≡ true → floor kept ≤ floor after
floor-stays start kept after step h e fits =
    let r = h.reached in
    let t = taken-alike after (step-alike r.steps h.whole kept step (reached-sound h.whole r) h.keeps fits) e in
    subst (λ n. n ≤ floor after) (sym (floor-kept h.whole kept h.keeps))
    (subst (λ n. floor h.whole ≤ n) (sym (floor-kept t.0 after t.1.1)) (floor-step r.steps step h.whole t.0 (reached-sound h.whole r) t.1.0 fits))

pub floor-never-falls : (start : Document) {kept after : NaiveClient} {steps : List ClientStep} → IsMadeOrKept start kept → CompactingSteps kept steps after
    → list_all has_fitting_body (taken_entries steps) ≡ true → floor kept ≤ floor after
floor-never-falls start {kept = kept} h ends fits = omega arith
floor-never-falls start {kept = kept} {after = after} h (compacts {y = y} c rest) fits =
    subst (λ n. n ≤ floor after) (floor-kept kept y c) (floor-never-falls start (kept-compacted start kept y h c) rest fits)
floor-never-falls start {kept = kept} {after = after} h (steps_on {y = y} {step = step} {steps = steps} e rest) fits =
    let f = both (list_all has_fitting_body (taken_entries (step ∷ []))) (list_all has_fitting_body (taken_entries steps))
    (sym (list_all-append has_fitting_body (taken_entries (step ∷ [])) (taken_entries steps)) ∙ ap (list_all has_fitting_body) (sym (taken-append (step ∷ []) steps)) ∙ fits) in
    let first = floor-stays start kept y step h e f.0 in
    let later = floor-never-falls start (kept-next start kept y step h e f.0) rest f.1 in
    omega arith

-- what it takes
pub entry-above : (x : NaiveClient) (entry : Entry) → process_fault x entry ≡ None → is_op_kind entry.msg.kind ≡ true → floor x ≤ reference_number entry.msg.ref_seq
entry-above x entry e op =
    let l = least-first x.pending x.doc.minimum in
    let m = (entry-numbers x entry e).ref op in
    omega arith

-- ---- reference numbers of a client that is made or kept

pub references-kept : (start : Document) (kept : NaiveClient) → IsMadeOrKept start kept → HasRisingReferences kept
references-kept start kept h =
    let r = steps-rising h.reached.steps (client_over h.reached.start) h.whole (record { rise = tt; last = tt }) h.reached.made in
    subst HasRisingReferences (sym h.keeps.rest)
    (record { rise = r.rise; last = subst (λ (d : Document). Each (λ n. n ≤ d.number) (references h.whole.pending)) (sym h.keeps.doc.rest) r.last })

pub oldest-has-least : (start : Document) (kept : NaiveClient) → IsMadeOrKept start kept → floor kept ≡ least_with_oldest kept.doc.minimum kept.pending
oldest-has-least start kept h = oldest-least kept.doc.minimum kept.pending (references-kept start kept h).rise
