-- Where nothing is pending, a message without an interval operation tells no interval.
use Rattle.std.proofs.Common.{◌≡◌, Bool, true, false, cond, filter, not, ◌||◌, List, [], ◌∷◌, Ok, refl, sym, ◌∙◌, ap, map}
use Rattle.std.specs.List.{list_any}
use Rattle.ft_op.specs.Operation.{OnGrid, OnIntervals, OnText, SubOperation, sub_operations}
use Rattle.ft_op.specs.Stages.{Stage}
use Rattle.ft_sumdoc.specs.declared.summary.IntervalRec.{IntervalRec}
use Rattle.ft_msg.specs.declared.messages.Body.{Body}
use Rattle.ft_msg.specs.declared.messages.Body.TheVariants.{Elsewhere, Nothing, Op}
use Rattle.ft_msg.specs.declared.messages.Entry.{Entry}
use Rattle.ft_msg.specs.Agreed.{reference_number}
use Rattle.ft_msg.specs.Client.{NaiveClient, stages_of}
use Rattle.ft_msg.specs.ClientSteps.{has_fitting_body}
use Rattle.ft_msg.specs.Compacted.{IsCompacted}
use Rattle.ft_msg.specs.Process.{after_entry, process}
use Rattle.ft_msg.specs.Reached.{IsReached}
use Rattle.ft_changes.specs.Beside.{body_moves_ends_alike, body_sub_operations, changes_interval, entry_moves_ends_alike, is_changed_around, is_changed_by}
use Rattle.ft_changes.specs.Laws.{after_lists, changes_intervals, has_sub_operation}
use Rattle.ft_changes.specs.Shown.{shown_content}
use Rattle.ft_changes.specs.Told.{told_intervals}
use Rattle.ft_changes.proofs.AckedLists.{neither}
use Rattle.ft_changes.proofs.MessageIntervals.{messages-tell-their-intervals}
use Rattle.ft_changes.proofs.KeptTold.{kept-shows-as}

filter-none : {A : Type 0} (test : A → Bool) → ((x : A) → test x ≡ false) → (xs : List A) → filter test xs ≡ []
filter-none test h [] = refl
filter-none test h (x ∷ xs) = ap (λ b. cond b (x ∷ filter test xs) (filter test xs)) (h x) ∙ filter-none test h xs

-- an operation that isn't of the intervals changes none
one-unchanged : (i : IntervalRec) (o : SubOperation) → changes_intervals o ≡ false → changes_interval i o ≡ false
one-unchanged i (OnText op) h = refl
one-unchanged i (OnIntervals op) h = absurd (cc)
one-unchanged i (OnGrid op) h = refl

unchanged : (i : IntervalRec) (os : List SubOperation) → list_any changes_intervals os ≡ false → is_changed_by os i ≡ false
unchanged i [] h = refl
unchanged i (o ∷ os) h =
    let p = neither (changes_intervals o) (list_any changes_intervals os) h in
    ap (λ b. b || is_changed_by os i) (one-unchanged i o p.0) ∙ unchanged i os p.1

body-unchanged : (i : IntervalRec) (body : Body) → has_sub_operation changes_intervals body ≡ false
    → is_changed_by (body_sub_operations body) i ≡ false
body-unchanged i Nothing h = refl
body-unchanged i (Op op) h = unchanged i (sub_operations op) h
body-unchanged i (Elsewhere address) h = refl

pub quiet-intervals : (x y : NaiveClient) (entry : Entry) → IsReached x → has_fitting_body entry ≡ true → process x entry ≡ Ok y → stages_of x ≡ []
    → has_sub_operation changes_intervals entry.msg.body ≡ false → told_intervals (after_lists x entry).intervals (shown_content y).intervals ≡ []
quiet-intervals x y entry reached fits e none quiet =
    let body = entry.msg.body in
    let test = is_changed_around x entry in
    let alike : entry_moves_ends_alike x entry ≡ true =
    ap (λ ts. not (list_any (λ (t : Stage). true) ts) || body_moves_ends_alike x.doc entry.origin (reference_number entry.msg.ref_seq) body) none in
    let other : (i : IntervalRec) → is_changed_around x entry i ≡ false =
    λ i. ap (λ b. b || is_changed_by (map (λ (t : Stage). t.sub_operation) (stages_of x)) i) (body-unchanged i body quiet)
    ∙ ap (λ ts. is_changed_by (map (λ (t : Stage). t.sub_operation) ts) i) none in
    messages-tell-their-intervals x y entry reached fits e alike
    ∙ ap (λ is. told_intervals is (filter test (shown_content y).intervals)) (filter-none test other (after_lists x entry).intervals)
    ∙ ap (told_intervals []) (filter-none test other (shown_content y).intervals)

pub kept-quiet-intervals : (kept x y : NaiveClient) (entry : Entry) → IsReached x → IsCompacted kept x → has_fitting_body entry ≡ true
    → process x entry ≡ Ok y
    → stages_of kept ≡ [] → has_sub_operation changes_intervals entry.msg.body ≡ false
    → told_intervals (after_lists kept entry).intervals (shown_content (after_entry kept entry)).intervals ≡ []
kept-quiet-intervals kept x y entry reached is fits e none quiet =
    let same : stages_of kept ≡ stages_of x = ap stages_of is.rest in
    kept-shows-as kept x y entry reached is fits e (λ t u. told_intervals t.intervals u.intervals ≡ [])
    (quiet-intervals x y entry reached fits e (sym same ∙ none) quiet)
