-- What a client shows of its text are characters and markers.
use Rattle.std.proofs.Common.{◌≡◌, ℕ, zero, suc, ◌+◌, Bool, true, false, cond, ◌&&◌, List, [], ◌∷◌, ◌++◌, Option, Some, None, Result, Ok, Err, drop, length, map, refl, sym, ◌∙◌, ap, subst, arith}
use Rattle.std.specs.List.{list_all}
use Rattle.ft_base.proofs.Booleans.{both}
use Rattle.ft_props.specs.Element.{Character, ListElement, seen}
use Rattle.ft_props.specs.Properties.{PropertyList}
use Rattle.ft_op.specs.declared.operations.ChannelOp.{ChannelOp}
use Rattle.ft_op.specs.declared.operations.Seg.{Seg}
use Rattle.ft_op.specs.declared.operations.Seg.TheVariants.{Chars, Marker}
use Rattle.ft_op.specs.declared.operations.Target.{Target}
use Rattle.ft_op.specs.declared.operations.Target.TheVariants.{Rows, Cols}
use Rattle.ft_op.specs.Document.{Document}
use Rattle.ft_op.specs.Operation.{segment_contents}
use Rattle.ft_sumdoc.specs.declared.summary.CellRec.{CellRec}
use Rattle.ft_msg.specs.declared.faults.EditFault.{EditFault}
use Rattle.ft_msg.specs.declared.faults.LinkFault.{LinkFault}
use Rattle.ft_msg.specs.declared.faults.LinkFault.TheVariants.{AlreadyConnected, NotConnected}
use Rattle.ft_msg.specs.declared.faults.ProcessFault.{ProcessFault}
use Rattle.ft_msg.specs.declared.messages.Body.TheVariants.{Nothing}
use Rattle.ft_msg.specs.declared.messages.Entry.{Entry}
use Rattle.ft_msg.specs.declared.views.Link.{Link}
use Rattle.ft_msg.specs.declared.views.Link.TheVariants.{Joining, Offline, Online}
use Rattle.ft_msg.specs.Agreed.{reference_number, take_entries, take_entry}
use Rattle.ft_msg.specs.Client.{NaiveClient, client_over, local_edit}
use Rattle.ft_msg.specs.ClientSteps.{ClientStep, Connects, Drops, Edits, Idles, Restarts, Sends, Takes, after_step, after_steps, has_fitting_body, is_without_edits, taken_entries, unless_refused}
use Rattle.ft_msg.specs.Process.{process}
use Rattle.ft_msg.specs.Reached.{IsReached, IsStart, from_nothing, from_summary}
use Rattle.ft_msg.proofs.ReachedSteps.{reached-after}
use Rattle.ft_laws_agreement.proofs.ClientsAgree.{idle-clients-agree-from}
use Rattle.ft_laws_agreement.proofs.SummaryStarts.{reached-run}
use Rattle.ft_laws_summaries.specs.Runs.{from_nothing as nothing_within, from_summary as summary_within}
use Rattle.ft_laws_summaries.proofs.SummaryDocuments.{starts-made}
use Rattle.ft_laws_summaries.proofs.SummaryLists.{IsPlain, body-plain, is_of_text, is_plain, is_settled, is_authored}
use Rattle.ft_changes.specs.declared.changes.ViewChange.{ViewChange}
use Rattle.ft_changes.specs.declared.changes.ViewChange.TheVariants.{Put, Take, Style, PutUnits, TakeUnits, SetCell, ClearCell, SetInterval, DropInterval}
use Rattle.ft_changes.specs.Shown.{ShownContent, ShownElement, after_change, after_changes, restyled, shown_content, shown_element, shown_elements, styled_elements, with_moved_units}
use Rattle.ft_changes.specs.ShownRuns.{change_at, change_first, put_in, take_out, without_first}
use Rattle.ft_changes.specs.Told.{told_edit, told_of_entry}
use Rattle.ft_changes.proofs.LocalLaw.{told-edit-leads-on}
use Rattle.ft_changes.proofs.ToldLaw.{told-leads-on}
use Rattle.ft_change_lines.proofs.PutElements.{are_text_elements, is_text_element}

-- ---- changes

and-both : (a b : Bool) → a ≡ true → b ≡ true → a && b ≡ true
and-both a b h k = rw (h, k) refl

segment-of-text : (props : PropertyList) (seg : Seg) → are_text_elements (styled_elements props (segment_contents seg)) ≡ true
segment-of-text props (Chars text) = all text
  where
    all : (cs : List ℕ) → are_text_elements (styled_elements props (map (λ c. Character c) cs)) ≡ true
    all [] = refl
    all (c ∷ cs) = all cs
segment-of-text props (Marker r) = refl

all-more : (new xs : List ShownElement) → are_text_elements new ≡ true → are_text_elements xs ≡ true → are_text_elements (new ++ xs) ≡ true
all-more [] xs n h = h
all-more (y ∷ new) xs n h =
    let b = both (is_text_element y) (are_text_elements new) n in
    and-both (is_text_element y) (are_text_elements (new ++ xs)) b.0 (all-more new xs b.1 h)

all-put : (p : ℕ) (new xs : List ShownElement) → are_text_elements new ≡ true → are_text_elements xs ≡ true → are_text_elements (put_in p new xs) ≡ true
all-put zero new xs n h = all-more new xs n h
all-put (suc p) new [] n h = n
all-put (suc p) new (x ∷ xs) n h =
    let b = both (is_text_element x) (are_text_elements xs) h in
    and-both (is_text_element x) (are_text_elements (put_in p new xs)) b.0 (all-put p new xs n b.1)

all-without : (n : ℕ) (xs : List ShownElement) → are_text_elements xs ≡ true → are_text_elements (without_first n xs) ≡ true
all-without zero xs h = h
all-without (suc n) [] h = refl
all-without (suc n) (x ∷ xs) h = all-without n xs (both (is_text_element x) (are_text_elements xs) h).1

all-taken : (p n : ℕ) (xs : List ShownElement) → are_text_elements xs ≡ true → are_text_elements (take_out p n xs) ≡ true
all-taken zero n xs h = all-without n xs h
all-taken (suc p) n [] h = refl
all-taken (suc p) n (x ∷ xs) h =
    let b = both (is_text_element x) (are_text_elements xs) h in
    and-both (is_text_element x) (are_text_elements (take_out p n xs)) b.0 (all-taken p n xs b.1)

all-first : (n : ℕ) (props : PropertyList) (xs : List ShownElement) → are_text_elements xs ≡ true → are_text_elements (change_first n (restyled props) xs) ≡ true
all-first zero props xs h = h
all-first (suc n) props [] h = refl
all-first (suc n) props (x ∷ xs) h =
    let b = both (is_text_element x) (are_text_elements xs) h in
    and-both (is_text_element x) (are_text_elements (change_first n (restyled props) xs)) b.0 (all-first n props xs b.1)

all-styled : (p n : ℕ) (props : PropertyList) (xs : List ShownElement) → are_text_elements xs ≡ true → are_text_elements (change_at p n (restyled props) xs) ≡ true
all-styled zero n props xs h = all-first n props xs h
all-styled (suc p) n props [] h = refl
all-styled (suc p) n props (x ∷ xs) h =
    let b = both (is_text_element x) (are_text_elements xs) h in
    and-both (is_text_element x) (are_text_elements (change_at p n (restyled props) xs)) b.0 (all-styled p n props xs b.1)

all-moved : (target : Target) (f : ℕ → ℕ) (cells : List CellRec) (s : ShownContent) → are_text_elements s.elements ≡ true
    → are_text_elements (with_moved_units target f cells s).elements ≡ true
all-moved Rows f cells s h = h
all-moved Cols f cells s h = h

change-text : (s : ShownContent) (c : ViewChange) → are_text_elements s.elements ≡ true → are_text_elements (after_change s c).elements ≡ true
change-text s (Put p seg props) h = all-put p (styled_elements props (segment_contents seg)) s.elements (segment-of-text props seg) h
change-text s (Take p n) h = all-taken p n s.elements h
change-text s (Style p n props) h = all-styled p n props s.elements h
change-text s (PutUnits target p n) h = all-moved target _ _ s h
change-text s (TakeUnits target p n) h = all-moved target _ _ s h
change-text s (SetCell i j value) h = h
change-text s (ClearCell i j) h = h
change-text s (SetInterval interval) h = h
change-text s (DropInterval label id) h = h

changes-text : (s : ShownContent) (cs : List ViewChange) → are_text_elements s.elements ≡ true → are_text_elements (after_changes s cs).elements ≡ true
changes-text s [] h = h
changes-text s (c ∷ cs) h = changes-text (after_change s c) cs (change-text s c h)

-- ---- documents as messages make them

plain-shown : (k : ℕ) (xs : List ListElement) → list_all is_plain xs ≡ true → are_text_elements (shown_elements k xs) ≡ true
plain-shown k [] h = refl
plain-shown k (e ∷ xs) h = by (seen k e) (plain-shown k xs (both (is_plain e) (list_all is_plain xs) h).1)
  where
    here : is_of_text e.content ≡ true
    here = (both (is_authored e.by) (is_of_text e.content) (both (is_settled e) (is_authored e.by && is_of_text e.content) (both (is_plain e) (list_all is_plain xs) h).0).1).1

    by : (b : Bool) → are_text_elements (shown_elements k xs) ≡ true → are_text_elements (cond b (shown_element e ∷ shown_elements k xs) (shown_elements k xs)) ≡ true
    by true rest = and-both (is_of_text e.content) (are_text_elements (shown_elements k xs)) here rest
    by false rest = rest

entries-plain : (es : List Entry) (doc : Document) → IsPlain doc → IsPlain (take_entries doc es)
entries-plain [] doc h = h
entries-plain (e ∷ es) doc h =
    let b = body-plain e.msg.seq e.origin (reference_number e.msg.ref_seq) e.msg.body doc h in
    entries-plain es (take_entry doc e) (record { text = b.text; rows = b.rows; cols = b.cols })

start-plain : (doc : Document) → IsStart doc → IsPlain doc
start-plain _ from_nothing = (starts-made 0 _ nothing_within).plain
start-plain _ (from_summary {sum} valid) = (starts-made (length sum.conns) _ (summary_within valid (omega arith))).plain

-- ---- steps

abbrev ShowsText : NaiveClient → Type 0
ShowsText x = are_text_elements (shown_content x).elements ≡ true

edit-text : (x y : NaiveClient) (op : ChannelOp) → IsReached x → ShowsText x → unless_refused (local_edit x op) ≡ Some y → ShowsText y
edit-text x y op r h e = by (local_edit x op) refl e
  where
    by : (a : Result NaiveClient EditFault) → local_edit x op ≡ a → unless_refused a ≡ Some y → ShowsText y
    by (Ok z) is d =
        let same : z ≡ y = (cc) in
        subst (λ (s : ShownContent). are_text_elements s.elements ≡ true) (told-edit-leads-on x y op r (is ∙ ap Ok same))
        (changes-text (shown_content x) (told_edit x y op) h)
    by (Err fault) is d = absurd (cc)

entry-text : (x y : NaiveClient) (entry : Entry) → IsReached x → ShowsText x → unless_refused (process x entry) ≡ Some y → ShowsText y
entry-text x y entry r h e = by (process x entry) refl e
  where
    by : (a : Result NaiveClient ProcessFault) → process x entry ≡ a → unless_refused a ≡ Some y → ShowsText y
    by (Ok z) is d =
        let same : z ≡ y = (cc) in
        subst (λ (s : ShownContent). are_text_elements s.elements ≡ true) (told-leads-on x y entry r (is ∙ ap Ok same))
        (changes-text (shown_content x) (told_of_entry x entry) h)
    by (Err fault) is d = absurd (cc)

-- the client after a step of its link
link-text : (y z : NaiveClient) → ShowsText z → Some z ≡ Some y → ShowsText y
link-text y z h e = let same : z ≡ y = (cc) in subst ShowsText same h

step-text : (x y : NaiveClient) (step : ClientStep) → IsReached x → ShowsText x → after_step x step ≡ Some y → ShowsText y
step-text x y (Edits op) r h e = edit-text x y op r h e
step-text x y (Connects conn) r h e = by x.link e
  where
    by : (link : Link) → unless_refused (elim link as (λ _. Result NaiveClient LinkFault) [
      | Offline ↦ Ok (record x { link = Joining conn; conns = x.conns ++ (conn ∷ []); next_client_seq = 1 })
      | _ ↦ Err AlreadyConnected
    ]) ≡ Some y → ShowsText y
    by Offline d = link-text y (record x { link = Joining conn; conns = x.conns ++ (conn ∷ []); next_client_seq = 1 }) h d
    by (Joining n) d = absurd (cc)
    by (Online n) d = absurd (cc)
step-text x y Drops r h e = by x.link e
  where
    by : (link : Link) → unless_refused (elim link as (λ _. Result NaiveClient LinkFault) [ Offline ↦ Err NotConnected | _ ↦ Ok (record x { link = Offline; queue = [] }) ]) ≡ Some y
        → ShowsText y
    by Offline d = absurd (cc)
    by (Joining n) d = link-text y (record x { link = Offline; queue = [] }) h d
    by (Online n) d = link-text y (record x { link = Offline; queue = [] }) h d
step-text x y Idles r h e = by x.link e
  where
    with_noop : NaiveClient
    with_noop = record x {
      next_client_seq = x.next_client_seq + 1;
      queue = x.queue ++ (record { client_seq = x.next_client_seq; ref_seq = x.doc.number; body = Nothing } ∷ []);
    }

    by : (link : Link) → unless_refused (elim link as (λ _. Result NaiveClient LinkFault) [ Online conn ↦ Ok with_noop | _ ↦ Err NotConnected ]) ≡ Some y → ShowsText y
    by Offline d = absurd (cc)
    by (Joining n) d = absurd (cc)
    by (Online n) d = link-text y with_noop h d
step-text x y Sends r h e = let same : record x { queue = drop 1 x.queue } ≡ y = (cc) in subst ShowsText same h
step-text x y Restarts r h e = by (is_without_edits x) refl e
  where
    by : (b : Bool) → is_without_edits x ≡ b → cond b (Some (client_over x.doc)) None ≡ Some y → ShowsText y
    by true none d =
        let agreed = idle-clients-agree-from r.start r.steps x (reached-run x r) none in
        let plain = subst IsPlain (sym agreed) (entries-plain (taken_entries r.steps) r.start (start-plain r.start r.starts)) in
        let same : client_over x.doc ≡ y = (cc) in
        subst ShowsText same (plain-shown 0 x.doc.text.items plain.text)
    by false none d = absurd (cc)
step-text x y (Takes entry) r h e = entry-text x y entry r h e

-- the first step has a fitting body, and so have those behind
abbrev fits : List ClientStep → Bool
fits steps = list_all has_fitting_body (taken_entries steps)

fits-each : (step : ClientStep) (steps : List ClientStep) → fits (step ∷ steps) ≡ true → (fits (step ∷ []) ≡ true) × (fits steps ≡ true)
fits-each (Takes entry) steps h =
    let b = both (has_fitting_body entry) (fits steps) h in
    (and-both (has_fitting_body entry) true b.0 refl, b.1)
fits-each (Edits op) steps h = (refl, h)
fits-each (Connects conn) steps h = (refl, h)
fits-each Drops steps h = (refl, h)
fits-each Idles steps h = (refl, h)
fits-each Sends steps h = (refl, h)
fits-each Restarts steps h = (refl, h)

steps-text : (steps : List ClientStep) (x y : NaiveClient) → IsReached x → ShowsText x → after_steps (Some x) steps ≡ Some y → fits steps ≡ true → ShowsText y
steps-text [] x y r h e f = let same : x ≡ y = (cc) in subst ShowsText same h
steps-text (step ∷ steps) x y r h e f =
    let b = fits-each step steps f in
    by (after_step x step) refl e (λ z is d. steps-text steps z y (reached-after x z step r is b.0) (step-text x z step r h is) d b.1)
  where
    by : (o : Option NaiveClient) → after_step x step ≡ o → after_steps o steps ≡ Some y
        → ((z : NaiveClient) → after_step x step ≡ Some z → after_steps (Some z) steps ≡ Some y → ShowsText y) → ShowsText y
    by (Some z) is d rest = rest z is d
    by None is d rest = absurd (stopped steps d)
      where
        stopped : (ss : List ClientStep) → after_steps None ss ≡ Some y → ⊥
        stopped [] d = (cc)
        stopped (s ∷ ss) d = (cc)

pub shows-text : (x : NaiveClient) → IsReached x → ShowsText x
shows-text x r =
    let first : IsReached (client_over r.start) = record { start = r.start; starts = r.starts; steps = []; made = refl; bodies = refl } in
    steps-text r.steps (client_over r.start) x first (plain-shown 0 r.start.text.items (start-plain r.start r.starts).text) r.made r.bodies
