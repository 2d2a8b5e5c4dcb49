-- What edits on elements make of a whole shared text.
use Rattle.std.proofs.Common.{◌≡◌, ◌≢◌, ℕ, ◌+◌, ◌-◌, ◌≤◌, ◌<◌, All, Bool, true, false, cond, nat_le, nat_lt, List, [], ◌∷◌, ◌++◌, Result, Ok, Err, refl, sym, ◌∙◌, ap, subst, arith, map, length, is_ok}
use Rattle.std.specs.List.{AllByRecursion, list_all}
use Rattle.std.proofs.lemmas.Bool.Decides.{nat_tests}
use Rattle.std.proofs.lemmas.List.Elements.{All-append, All-cons, All-nil}
use Rattle.ft_base.specs.Scan.{len, one_more_if}
use Rattle.ft_base.specs.Visibility.{seen_at}
use Rattle.ft_base.proofs.Booleans.{both}
use Rattle.ft_block.specs.Leaves.{last_stage}
use Rattle.ft_interval_store.specs.State.{CollectionsState, text_elements}
use Rattle.ft_tree_leaves.specs.declared.text.TextContent.{TextContent}
use Rattle.ft_tree_leaves.specs.Edits.{with_place}
use Rattle.ft_tree_leaves.specs.Elements.{IsAboveChanges, TreeElement, seen_in}
use Rattle.ft_msg.specs.declared.faults.EditFault.{EditFault}
use Rattle.ft_msg.specs.declared.faults.EditFault.TheVariants.{IdInUse, NoSuchInterval, OutOfMemory, OutOfRange, Stopped}
use Rattle.ft_msg.specs.Client.{local_sub_operations}
use Rattle.ft_op.specs.declared.operations.BaseOp.{BaseOp}
use Rattle.ft_op.specs.declared.operations.BaseOp.TheVariants.{Insert, Remove, Annotate}
use Rattle.ft_op.specs.Document.{Document}
use Rattle.ft_op.specs.Operation.{OnText}
use Rattle.ft_op.specs.Stages.{Stage}
use Rattle.ft_op.specs.WellFormed.{IsWellFormedBase, is_count}
use Rattle.ft_props.specs.Element.{ElementContent, ListElement, NamelessElement, seen}
use Rattle.ft_tree.specs.State.{TreeState}
use Rattle.ft_named.specs.Bare.{bare}
use Rattle.ft_text.specs.Lengths.{count_after, count_after_all, end_of}
use Rattle.ft_text.specs.Texts.{TextElements}
use Rattle.ft_string.specs.Bare.{text_content}
use Rattle.ft_string.specs.Calls.{AnswersEdit, Leaves, TakesEdit}
use Rattle.ft_string.specs.Edits.{seen_count}
use Rattle.ft_string.specs.Holds.{HoldsSome, HoldsText, IsTextSound}
use Rattle.ft_string.specs.Parts.{AreSound, TakesOps, noted, state_of, taken_place}
use Rattle.ft_string.specs.State.{TextState}
use Rattle.ft_string.specs.declared.pending.PendingOp.{PendingOp}
use Rattle.ft_string.proofs.Above.{HaveBelow, are-above}
use Rattle.ft_string.proofs.Applied.{Holds}
use Rattle.ft_named.proofs.Bares.{AreElements, from-bare}
use Rattle.ft_named.proofs.Changed.{is_up_to, up_to-parts}
use Rattle.ft_string.proofs.Documents.{sound-named, sound-step}
use Rattle.ft_string.proofs.Standing.{sound-up_to}
use Rattle.ft_named.proofs.Lists.{all-weaker}
use Rattle.ft_named.proofs.OwnSteps.{AreUpTo, same-count}
use Rattle.ft_string.proofs.Taken.{AreOrdered, IsOrdered, refuses-ops, takes-ops}
use Rattle.ft_string.proofs.Wholes.{holds-any}
use Rattle.ft_laws_names.proofs.Beside.{ends, next}

-- ---- the seen elements

count-bare : (xs : TextElements) → len (λ e. seen_at e.stamps 18446744073709551615) (map (bare text_content) xs) ≡ len (seen_in last_stage) xs
count-bare [] = refl
count-bare (x ∷ xs) = ap (one_more_if (seen_in last_stage x)) (count-bare xs)

pub count-is : (tree : TreeState TextContent) (c : CollectionsState) (ops : List PendingOp) (given : ℕ) (usable : Bool)
    → seen_count (state_of tree c ops given usable) ≡ len (seen_in last_stage) (text_elements tree)
count-is tree c ops given usable = count-bare (text_elements tree)

pub count-held : (last : ℕ) → last < 18446744073709551616 → (tree : TreeState TextContent) (c : CollectionsState) (ops : List PendingOp)
    (given : ℕ) (usable : Bool) (doc : Document)
    (stages : List Stage) → AreUpTo last doc.text.items → HoldsText (state_of tree c ops given usable) doc stages
    → seen_count (state_of tree c ops given usable) ≡ len (seen last) doc.text.items
count-held last fits tree c ops given usable doc stages up holds =
    count-is tree c ops given usable ∙ same-count text_content last fits up (from-bare text_content (text_elements tree) doc.text.items holds.elements)

-- ---- the pending changes are below the next stage

lt-next : (m n : ℕ) → nat_le n m ≡ true → nat_lt n (m + 1) ≡ true
lt-next m n h = grind (arith, nat_tests)

below-of : (last : ℕ) {xs : TextElements} {es : List ListElement} → AreElements text_content xs es → AreUpTo last es → HaveBelow (last + 1) xs
below-of last ends h = refl
below-of last (next {x = x} {y = y} {xs = xs} {ys = ys} q qs) h =
    let p = both (is_up_to last y) (list_all (is_up_to last) ys) h in
    let changes = (up_to-parts last y p.0).changes in
    let here = all-weaker (λ c. nat_le c.0 last) (λ c. nat_lt c.0 (last + 1)) (λ c g. lt-next last c.0 g) y.pending changes in
    let mine = subst (λ cs. list_all (λ c. nat_lt c.0 (last + 1)) cs ≡ true) (sym (ap (λ (n : NamelessElement). n.pending) q)) here in
    rw (mine, below-of last qs p.1) refl

pub edit-above : (first : ℕ) → 1 ≤ first → (tree : TreeState TextContent) (c : CollectionsState) (ops : List PendingOp) (given : ℕ) (usable : Bool)
    → HoldsSome (first - 1) (state_of tree c ops given usable) → All (λ e. IsAboveChanges first e.overlay) (text_elements tree)
edit-above first l tree c ops given usable h =
    subst (λ k. All (λ (e : TreeElement ElementContent). IsAboveChanges k e.overlay) (text_elements tree)) (back first l)
    (are-above (first - 1 + 1) (text_elements tree)
    (below-of (first - 1) (from-bare text_content (text_elements tree) h.doc.text.items h.holds.elements) (sound-up_to (first - 1) h.doc h.stages h.sound)))
  where
    back : (k : ℕ) → 1 ≤ k → k - 1 + 1 ≡ k
    back k l = omega arith

-- ---- positions in order

le-of : (p q : ℕ) → nat_le p q ≡ true → p ≤ q
le-of p q h = grind (arith, nat_tests)

ordered : (op : BaseOp) → IsWellFormedBase op → IsOrdered op
ordered (Insert p seg props) h = tt
ordered (Remove p q) h = le-of p q (both (nat_le p q) (is_count q) h).0
ordered (Annotate p q changes) h = le-of p q (both (nat_le p q) (is_count q) h.0).0

pub all-ordered : (os : List BaseOp) → AllByRecursion IsWellFormedBase os → AreOrdered os
all-ordered [] h = tt
all-ordered (op ∷ os) h = (ordered op h.0, all-ordered os h.1)

-- ---- the parts

pub took-sound : (k : ℕ) (os : List BaseOp) (tree new : TreeState TextContent) (c : CollectionsState) → TakesOps k os tree new
    → AreSound tree c → AreSound new c
took-sound k [] tree new c t h = subst (λ x. AreSound x c) (sym t) h
took-sound k (op ∷ os) tree new c t h =
    took-sound (k + 1) os t.0 new c t.1.1
    (sound-step (with_place (taken_place op (text_elements tree))) (λ x. refl) tree t.0 c t.1.0.refs t.1.0.rest.usable h)

pub took-floor : (k : ℕ) (os : List BaseOp) (tree new : TreeState TextContent) → TakesOps k os tree new → new.floor ≡ tree.floor
took-floor k [] tree new t = ap (λ (x : TreeState TextContent). x.floor) t
took-floor k (op ∷ os) tree new t = took-floor (k + 1) os t.0 new t.1.1 ∙ t.1.0.rest.floor

noted-ahead : (k : ℕ) → 1 ≤ k → (os : List BaseOp) → All (λ (t : PendingOp). 0 < t.stage) (noted k os)
noted-ahead k l [] = All-nil (λ (t : PendingOp). 0 < t.stage)
noted-ahead k l (op ∷ os) =
    All-cons (λ (t : PendingOp). 0 < t.stage) (record { stage = k; op = op }) (noted (k + 1) os) (omega arith) (noted-ahead (k + 1) (omega arith) os)

pub took-ahead : (given k : ℕ) → given ≡ 0 → 1 ≤ k → (os : List BaseOp) (ops new : List PendingOp) → new ≡ ops ++ noted k os
    → All (λ (t : PendingOp). given < t.stage) ops → All (λ (t : PendingOp). given < t.stage) new
took-ahead given k z l os ops new e h =
    subst (λ ps. All (λ (t : PendingOp). given < t.stage) ps) (sym e) (All-append (λ (t : PendingOp). given < t.stage) ops (noted k os) h
    (subst (λ g. All (λ (t : PendingOp). g < t.stage) (noted k os)) (sym z) (noted-ahead k l os)))

-- ---- the whole

refused : (new : TextState) (stages : List Stage) (step : Result (Document × List Stage) EditFault) (fault : EditFault)
    → (fault ≢ OutOfMemory → step ≡ Err fault) → AnswersEdit new stages step (Err fault)
refused new stages step IdInUse h = h (λ e. (cc))
refused new stages step NoSuchInterval h = h (λ e. (cc))
refused new stages step (OutOfRange l) h = h (λ e. (cc))
refused new stages step (Stopped s) h = h (λ e. (cc))
refused new stages step OutOfMemory h = tt

pub edit-refused : (first : ℕ) → 1 ≤ first → (os : List BaseOp) → AllByRecursion IsWellFormedBase os
    → (tree : TreeState TextContent) (c : CollectionsState) (ops : List PendingOp)
    (given : ℕ) (usable : Bool) (new : TextState) (fault : EditFault)
    → (fault ≢ OutOfMemory → count_after_all (seen_count (state_of tree c ops given usable)) os ≡ Err fault)
    → (doc : Document) (stages : List Stage) → IsTextSound (first - 1) doc stages → HoldsText (state_of tree c ops given usable) doc stages
    → AnswersEdit new stages (local_sub_operations doc stages first (map (λ op. OnText op) os)) (Err fault)
edit-refused first l os formed tree c ops given usable new fault h doc stages sound holds =
    refused new stages (local_sub_operations doc stages first (map (λ op. OnText op) os)) fault (λ some.
    let up = sound-up_to (first - 1) doc stages sound in
    subst (λ k. local_sub_operations doc stages k (map (λ op. OnText op) os) ≡ Err fault) (back first l)
    (refuses-ops stages (first - 1) os doc fault up (all-ordered os formed)
    (ap (λ n. count_after_all n os) (sym (count-held (first - 1) sound.fits tree c ops given usable doc stages up holds)) ∙ h some)))
  where
    back : (k : ℕ) → 1 ≤ k → k - 1 + 1 ≡ k
    back k l = omega arith

never-stopped : (b : Bool) (r : Result ℕ EditFault) (n : ℕ) (s : ℕ) → r ≢ Err (Stopped s) → cond b r (Err (OutOfRange n)) ≢ Err (Stopped s)
never-stopped true r n s h e = h e
never-stopped false r n s h e = (cc)

count-stops : (n : ℕ) (os : List BaseOp) (s : ℕ) → count_after_all n os ≢ Err (Stopped s)
count-stops n [] s e = (cc)
count-stops n (op ∷ os) s e =
    never-stopped (nat_le (end_of op) n) (count_after_all (count_after n op) os) n s (count-stops (count_after n op) os s) e

pub refused-leaves : (s : TextState) (n : ℕ) (os : List BaseOp) (fault : EditFault) → (fault ≢ OutOfMemory → count_after_all n os ≡ Err fault)
    → fault ≢ OutOfMemory → Leaves s s fault
refused-leaves s n os IdInUse h some = refl
refused-leaves s n os NoSuchInterval h some = refl
refused-leaves s n os (OutOfRange l) h some = refl
refused-leaves s n os (Stopped k) h some = count-stops n os k (h some)
refused-leaves s n os OutOfMemory h some = absurd (some refl)

pub edit-whole : (first : ℕ) → 1 ≤ first → (os : List BaseOp) → AllByRecursion IsWellFormedBase os → first + length os < 18446744073709551616
    → (tree new : TreeState TextContent) (c : CollectionsState) (ops after : List PendingOp) (given : ℕ) (usable : Bool) → AreSound tree c
    → after ≡ ops ++ noted first os
    → is_ok (count_after_all (seen_count (state_of tree c ops given usable)) os) ≡ true → TakesOps first os tree new
    → (doc : Document) (stages : List Stage) → IsTextSound (first - 1) doc stages → HoldsText (state_of tree c ops given usable) doc stages
    → TakesEdit (state_of new c after given true) stages (local_sub_operations doc stages first (map (λ op. OnText op) os)) (length os)
edit-whole first l os formed short tree new c ops after given usable parts e fits t doc stages sound holds =
    let m = first - 1 in
    let up = sound-up_to m doc stages sound in
    let whole : Holds tree c ops given usable m doc stages = record { named = sound-named m doc stages sound; sound = parts; holds = holds } in
    let count = count-held m sound.fits tree c ops given usable doc stages up holds in
    let took = takes-ops c ops given usable stages m os (omega arith) tree new doc whole up (all-ordered os formed)
    (subst (λ n. is_ok (count_after_all n os) ≡ true) count fits) (subst (λ k. TakesOps k os tree new) (sym (back first l)) t) in
    record {
      after = took.after;
      more = took.more;
      is = subst (λ k. local_sub_operations doc stages k (map (λ op. OnText op) os) ≡ Ok (took.after, took.more)) (back first l) took.is;
      holds = holds-any new c after given given usable true took.after (stages ++ took.more)
          (subst (λ ps. HoldsText (state_of new c ps given usable) took.after (stages ++ took.more))
          (ap (λ k. ops ++ noted k os) (back first l) ∙ sym e) took.holds.holds);
      counted = took.counted;
    }
  where
    back : (k : ℕ) → 1 ≤ k → k - 1 + 1 ≡ k
    back k l = omega arith
