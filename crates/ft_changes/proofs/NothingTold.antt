-- Where the same is shown as before, nothing is told: so it is at a client's own join, and as its own message comes back.
use Rattle.std.proofs.Common.{◌≡◌, ℕ, Bool, true, false, cond, ◌&&◌, List, [], ◌∷◌, ◌++◌, Ok, refl, sym, ◌∙◌, ap, subst}
use Rattle.std.proofs.lemmas.Bool.Decides.{Decides-int_eq}
use Rattle.std.proofs.lemmas.Slice.Eq.{bytes_eq-Decides}
use Rattle.std.specs.Ordering.{int_eq}
use Rattle.std.specs.declared.cmp.Ordering.{Ordering}
use Rattle.std.specs.declared.cmp.Ordering.TheVariants.{Less, Equal, Greater}
use Rattle.ft_sumdoc.specs.declared.summary.CellRec.{CellRec}
use Rattle.ft_sumdoc.specs.declared.summary.IntervalRec.{IntervalRec}
use Rattle.ft_sumdoc.specs.WellFormed.{same_props}
use Rattle.ft_marks.proofs.SameStamps.{same_props-Decides}
use Rattle.ft_msg.specs.declared.messages.Entry.{Entry}
use Rattle.ft_msg.specs.Agreed.{reference_number}
use Rattle.ft_msg.specs.Client.{NaiveClient}
use Rattle.ft_msg.specs.Content.{ViewContent, content}
use Rattle.ft_msg.specs.Acknowledgement.{after_own_message}
use Rattle.ft_msg.specs.ClientSteps.{has_fitting_body}
use Rattle.ft_msg.specs.Process.{after_entry, after_foreign_message, come_online, is_op, is_own, is_own_join, process}
use Rattle.ft_msg.specs.Reached.{IsReached}
use Rattle.ft_laws_agreement.proofs.EveryClientReady.{join-changes_nothing-from}
use Rattle.ft_laws_agreement.proofs.SummaryStarts.{reached-run}
use Rattle.ft_laws_names.proofs.NamedSteps.{reached-named}
use Rattle.ft_changes.specs.declared.changes.ViewChange.{ViewChange}
use Rattle.ft_changes.specs.declared.changes.ViewChange.TheVariants.{SetCell, ClearCell, SetInterval, DropInterval}
use Rattle.ft_changes.specs.Laws.{ShowsInPlaceOf, after_lists}
use Rattle.ft_changes.specs.Shown.{ShownContent, ShownElement, after_changes, cell_order, interval_order, shown_content}
use Rattle.ft_changes.specs.Told.{behind_set, dropped_before, not_before, same_cell_value, same_interval, set_unless_same, told_body, told_cells, told_intervals, told_items, told_lists, told_of_entry, told_rest}
use Rattle.ft_changes.proofs.AckedCells.{own-cells}
use Rattle.ft_changes.proofs.AckedClient.{ack-moves-none}
use Rattle.ft_changes.proofs.KeptClients.{HasLists, own-lists, sent-lists}
use Rattle.ft_changes.proofs.Orders.{cell_order-is, interval_order-is}
use Rattle.ft_changes.proofs.ToldItems.{IsKeyOrder}
use Rattle.ft_changes.proofs.ToldLaw.{processed}

module _ {A : Type 0} (order : A → A → Ordering) (same : A → A → Bool) (set drop : A → ViewChange) (is : IsKeyOrder order) (own : (x : A)
    → same x x ≡ true) where
  items-same : (xs : List A) → told_items order same set drop xs xs ≡ []
  items-same [] = refl
  items-same (x ∷ xs) = by (order x x) (is.same x) (items-same xs)
    where
      first : (o : Ordering) → o ≡ Equal → elim o as (λ _. List ViewChange) [ Equal ↦ cond (same x x) [] (set x ∷ []) | _ ↦ set x ∷ [] ] ≡ []
      first Less e = absurd (cc)
      first Greater e = absurd (cc)
      first Equal e = ap (λ b. cond b [] (set x ∷ [])) (own x)

      rest : (o : Ordering) → o ≡ Equal → elim o as (λ _. List A) [ Equal ↦ xs | _ ↦ x ∷ xs ] ≡ xs
      rest Less e = absurd (cc)
      rest Greater e = absurd (cc)
      rest Equal e = refl

      by : (o : Ordering) → o ≡ Equal → told_items order same set drop xs xs ≡ []
          → elim o as (λ _. List ViewChange) [ Greater ↦ drop x ∷ dropped_before order drop x xs | _ ↦ [] ]
          ++ set_unless_same order same set x (elim o as (λ _. List A) [ Greater ↦ not_before order x xs | _ ↦ x ∷ xs ])
          ++ told_items order same set drop (behind_set order x (elim o as (λ _. List A) [ Greater ↦ not_before order x xs | _ ↦ x ∷ xs ])) xs
          ≡ []
      by Less e later = absurd (cc)
      by Greater e later = absurd (cc)
      by Equal e later =
          ap (λ cs. cs ++ told_items order same set drop (behind_set order x (x ∷ xs)) xs) (first (order x x) (is.same x))
          ∙ ap (λ ys. told_items order same set drop ys xs) (rest (order x x) (is.same x)) ∙ later

pub own-cell : (c : CellRec) → same_cell_value c c ≡ true
own-cell c = (bytes_eq-Decides c.value c.value).1 refl

pub own-interval : (i : IntervalRec) → same_interval i i ≡ true
own-interval i =
    ap (λ b. b && int_eq i.ends.end i.ends.end && same_props i.props i.props) ((Decides-int_eq i.ends.start i.ends.start).1 refl)
    ∙ ap (λ b. b && same_props i.props i.props) ((Decides-int_eq i.ends.end i.ends.end).1 refl) ∙ (same_props-Decides i.props i.props).1 refl

pub cells-same-none : (cells : List CellRec) → told_cells cells cells ≡ []
cells-same-none cells = items-same cell_order same_cell_value (λ c. SetCell c.row c.col c.value) (λ c. ClearCell c.row c.col) cell_order-is own-cell
    cells

pub intervals-same-none : (is : List IntervalRec) → told_intervals is is ≡ []
intervals-same-none is = items-same interval_order same_interval SetInterval (λ i. DropInterval i.label i.id) interval_order-is own-interval is

-- of what is shown as before nothing is left to tell
pub rest-same : (s : ShownContent) → told_rest s s ≡ []
rest-same s = ap (λ cs. cs ++ told_intervals s.intervals s.intervals) (cells-same-none s.cells) ∙ intervals-same-none s.intervals

-- two clients show the same if they do so of each part
shown-same : (x y : NaiveClient) → HasLists (shown_content x) (shown_content y) → (content y).intervals ≡ (content x).intervals → (content y).cells
    ≡ (content x).cells
    → shown_content y ≡ shown_content x
shown-same x y lists intervals cells =
    let s = shown_content x in
    let w = content y in
    let made : List ShownElement → List IntervalRec → ℕ → ℕ → List CellRec → ShownContent =
    λ es i a b c. record { elements = es; intervals = i; rows = a; cols = b; cells = c } in
    ap (λ es. made es w.intervals (shown_content y).rows (shown_content y).cols w.cells) (sym lists.elements)
    ∙ ap (λ a. made s.elements w.intervals a (shown_content y).cols w.cells) (sym lists.rows)
    ∙ ap (λ b. made s.elements w.intervals s.rows b w.cells) (sym lists.cols)
    ∙ ap (λ i. made s.elements i s.rows s.cols w.cells) intervals
    ∙ ap (λ c. made s.elements s.intervals s.rows s.cols c) cells

module _ (x : NaiveClient) (entry : Entry) where
  -- what is told of the lists by another client's message
  abbrev pub foreign : List ViewChange
  foreign = told_body x.last_stage x.doc entry.msg.seq entry.origin (reference_number entry.msg.ref_seq) entry.msg.body

  join-lists : is_own_join x.link entry.msg.kind entry.origin ≡ true → told_lists x entry ≡ []
  join-lists e = ap (λ b. cond b [] (cond (is_op entry.msg.body && is_own x entry) [] foreign)) e

  sent-none : is_op entry.msg.body && is_own x entry ≡ true → told_lists x entry ≡ []
  sent-none e = ap (λ b. cond (is_own_join x.link entry.msg.kind entry.origin) [] (cond b [] foreign)) e
      ∙ either (is_own_join x.link entry.msg.kind entry.origin) []
    where
      either : (b : Bool) (cs : List ViewChange) → cond b cs cs ≡ cs
      either true cs = refl
      either false cs = refl

  none-told : told_lists x entry ≡ [] → shown_content (after_entry x entry) ≡ shown_content x → told_of_entry x entry ≡ []
  none-told none shown =
      let s = shown_content x in
      let z = shown_content (after_entry x entry) in
      ap (λ cs. cs ++ told_rest (after_changes s cs) z) none ∙ ap (told_rest s) shown ∙ rest-same s

  join-shows : IsReached x → is_own_join x.link entry.msg.kind entry.origin ≡ true → shown_content (after_entry x entry) ≡ shown_content x
  join-shows reached e =
      let y = after_entry x entry in
      let online : y ≡ come_online x entry = ap (λ b. cond b (come_online x entry) (cond (is_op entry.msg.body && is_own x entry) (after_own_message
      x entry) (after_foreign_message x entry))) e in
      let same : content y ≡ content x = ap content online ∙ join-changes_nothing-from reached.start reached.steps x entry (reached-run x reached) in
      shown-same x y (own-lists x entry reached e) (ap (λ (v : ViewContent). v.intervals) same) (ap (λ (v : ViewContent). v.cells) same)

  sent-shows : (y : NaiveClient) → IsReached x → has_fitting_body entry ≡ true → process x entry ≡ Ok y → is_op entry.msg.body && is_own x entry
      ≡ true
      → shown_content (after_entry x entry) ≡ shown_content x
  sent-shows y reached fits p own = by (is_own_join x.link entry.msg.kind entry.origin) refl
    where
      by : (b : Bool) → is_own_join x.link entry.msg.kind entry.origin ≡ b → shown_content (after_entry x entry) ≡ shown_content x
      by true e = join-shows reached e
      by false e =
          let z = after_entry x entry in
          let after : z ≡ after_own_message x entry =
          ap (λ b. cond b (come_online x entry) (cond (is_op entry.msg.body && is_own x entry) (after_own_message x entry) (after_foreign_message x
          entry))) e
          ∙ ap (λ b. cond b (after_own_message x entry) (after_foreign_message x entry)) own in
          shown-same x z (sent-lists x entry reached e own)
          (ap (λ (w : NaiveClient). (content w).intervals) (processed x y entry p) ∙ ack-moves-none x y entry reached fits p own)
          (ap (λ (w : NaiveClient). (content w).cells) after ∙ own-cells x entry (reached-named x reached))

-- where it tells nothing of what is its own, it is enough to look at messages of others
module _ (x y : NaiveClient) (entry : Entry) (reached : IsReached x) (fits : has_fitting_body entry ≡ true) (p : process x entry
    ≡ Ok y) (P : ShownContent → ShownContent → Type 0)
    (same : (s : ShownContent) → P s s) where
  pub own-or-foreign : (y ≡ after_foreign_message x entry → P (after_changes (shown_content x) (foreign x entry)) (shown_content
      (after_foreign_message x entry)))
      → P (after_lists x entry) (shown_content y)
  own-or-foreign other =
      subst (λ z. P (after_lists x entry) (shown_content z)) (processed x y entry p)
      (by (is_own_join x.link entry.msg.kind entry.origin) refl (is_op entry.msg.body && is_own x entry) refl)
    where
      Same : Type 0
      Same = P (after_lists x entry) (shown_content (after_entry x entry))

      as-before : told_lists x entry ≡ [] → shown_content (after_entry x entry) ≡ shown_content x → Same
      as-before none shown =
          subst (λ cs. P (after_changes (shown_content x) cs) (shown_content (after_entry x entry))) (sym none) (subst (P (shown_content x)) (sym
          shown) (same (shown_content x)))

      by : (join : Bool) → is_own_join x.link entry.msg.kind entry.origin ≡ join → (own : Bool) → is_op entry.msg.body && is_own x entry ≡ own → Same
      by true e own d = as-before (join-lists x entry e) (join-shows x entry reached e)
      by false e true d = as-before (sent-none x entry d) (sent-shows x entry y reached fits p d)
      by false e false d =
          let lists : told_lists x entry ≡ foreign x entry =
          ap (λ b. cond b [] (cond (is_op entry.msg.body && is_own x entry) [] (foreign x entry))) e ∙ ap (λ b. cond b [] (foreign x entry)) d in
          let after : after_entry x entry ≡ after_foreign_message x entry =
          ap (λ b. cond b (come_online x entry) (cond (is_op entry.msg.body && is_own x entry) (after_own_message x entry) (after_foreign_message x
          entry))) e
          ∙ ap (λ b. cond b (after_own_message x entry) (after_foreign_message x entry)) d in
          subst (λ cs. P (after_changes (shown_content x) cs) (shown_content (after_entry x entry))) (sym lists)
          (subst (λ z. P (after_changes (shown_content x) (foreign x entry)) (shown_content z)) (sym after) (other (sym (processed x y entry p)
          ∙ after)))

-- a client tells nothing of its own join
pub own-join-tells-nothing : (x : NaiveClient) (entry : Entry) → IsReached x → is_own_join x.link entry.msg.kind entry.origin ≡ true
    → told_of_entry x entry ≡ []
own-join-tells-nothing x entry reached e = none-told x entry (join-lists x entry e) (join-shows x entry reached e)

-- nor of its own message
pub ack-tells-nothing : (x y : NaiveClient) (entry : Entry) → IsReached x → has_fitting_body entry ≡ true → process x entry ≡ Ok y
    → is_op entry.msg.body && is_own x entry ≡ true → told_of_entry x entry ≡ []
ack-tells-nothing x y entry reached fits p own = none-told x entry (sent-none x entry own) (sent-shows x entry y reached fits p own)

-- so it is with one that shows the same before and after the entry
module _ (kept x : NaiveClient) (entry : Entry) (reached : IsReached x) (h : ShowsInPlaceOf kept x entry) where
  pub join-in-place : is_own_join kept.link entry.msg.kind entry.origin ≡ true → told_of_entry kept entry ≡ []
  join-in-place e =
      let own = ap (λ l. is_own_join l entry.msg.kind entry.origin) (sym h.link) ∙ e in
      none-told kept entry (join-lists kept entry e) (h.after ∙ join-shows x entry reached own ∙ sym h.shown)

  pub ack-in-place : (y : NaiveClient) → has_fitting_body entry ≡ true → process x entry ≡ Ok y → is_op entry.msg.body && is_own kept entry ≡ true
      → told_of_entry kept entry ≡ []
  ack-in-place y fits p own =
      let mine = ap (λ conns. is_op entry.msg.body && is_own (record x { conns = conns }) entry) (sym h.conns) ∙ own in
      none-told kept entry (sent-none kept entry own) (h.after ∙ sent-shows x entry y reached fits p mine ∙ sym h.shown)

  -- so it is enough to look at messages of others
  pub foreign-in-place : (y : NaiveClient) → has_fitting_body entry ≡ true → process x entry ≡ Ok y → (P : ShownContent → ShownContent → Type 0)
      → ((s : ShownContent) → P s s)
      → (after_entry kept entry ≡ after_foreign_message kept entry
      → P (after_changes (shown_content kept) (foreign kept entry)) (shown_content (after_foreign_message kept entry)))
      → P (after_lists kept entry) (shown_content (after_entry kept entry))
  foreign-in-place y fits p P same other =
      by (is_own_join kept.link entry.msg.kind entry.origin) refl (is_op entry.msg.body && is_own kept entry) refl
    where
      Same : Type 0
      Same = P (after_lists kept entry) (shown_content (after_entry kept entry))

      as-before : told_lists kept entry ≡ [] → shown_content (after_entry x entry) ≡ shown_content x → Same
      as-before none shown =
          subst (λ cs. P (after_changes (shown_content kept) cs) (shown_content (after_entry kept entry))) (sym none)
          (subst (P (shown_content kept)) (sym (h.after ∙ shown ∙ sym h.shown)) (same (shown_content kept)))

      by : (join : Bool) → is_own_join kept.link entry.msg.kind entry.origin ≡ join → (own : Bool) → is_op entry.msg.body && is_own kept entry ≡ own
          → Same
      by true e own d =
          as-before (join-lists kept entry e)
          (join-shows x entry reached (ap (λ l. is_own_join l entry.msg.kind entry.origin) (sym h.link) ∙ e))
      by false e true d =
          as-before (sent-none kept entry d)
          (sent-shows x entry y reached fits p (ap (λ conns. is_op entry.msg.body && is_own (record x { conns = conns }) entry) (sym h.conns) ∙ d))
      by false e false d =
          let lists : told_lists kept entry ≡ foreign kept entry =
          ap (λ b. cond b [] (cond (is_op entry.msg.body && is_own kept entry) [] (foreign kept entry))) e
          ∙ ap (λ b. cond b [] (foreign kept entry)) d in
          let after : after_entry kept entry ≡ after_foreign_message kept entry =
          ap (λ b. cond b (come_online kept entry) (cond (is_op entry.msg.body && is_own kept entry) (after_own_message kept entry)
          (after_foreign_message kept entry))) e
          ∙ ap (λ b. cond b (after_own_message kept entry) (after_foreign_message kept entry)) d in
          subst (λ cs. P (after_changes (shown_content kept) cs) (shown_content (after_entry kept entry))) (sym lists)
          (subst (λ z. P (after_changes (shown_content kept) (foreign kept entry)) (shown_content z)) (sym after) (other after))
