-- What a client tells that keeps another one leads that one's editor on.
use Rattle.std.proofs.Common.{◌≡◌, ℕ, Bool, true, false, cond, not, ◌&&◌, List, [], ◌∷◌, ◌++◌, Ok, refl, sym, ◌∙◌, ap, subst}
use Rattle.std.specs.List.{list_any}
use Rattle.ft_base.specs.declared.stamps.Stamp.{Stamp}
use Rattle.ft_base.specs.declared.stamps.Stamp.TheVariants.{Acked, Local}
use Rattle.ft_base.specs.Scan.{len, one_more_if}
use Rattle.ft_base.specs.Visibility.{has_occurred_at_stage}
use Rattle.ft_props.specs.Compaction.{Keeps, collected, has_collectable_removal, is_collectable, is_insertion_at_or_below, none, same, universal, with_universal_insertion}
use Rattle.ft_props.specs.Element.{ElementId, ListElement, is_sequenced, removal_stamp, seen}
use Rattle.ft_sumdoc.specs.declared.summary.CellRec.{CellRec}
use Rattle.ft_sumdoc.specs.declared.summary.IntervalRec.{IntervalRec}
use Rattle.ft_msg.specs.declared.messages.Entry.{Entry}
use Rattle.ft_msg.specs.Acknowledgement.{after_own_message}
use Rattle.ft_msg.specs.Agreed.{reference_number}
use Rattle.ft_msg.specs.Client.{NaiveClient}
use Rattle.ft_msg.specs.Compacted.{IsCompacted}
use Rattle.ft_msg.specs.Content.{ViewContent, content}
use Rattle.ft_msg.specs.Process.{after_entry, after_foreign_message, come_online, is_op, is_own, is_own_join, process}
use Rattle.ft_msg.specs.Reached.{IsReached}
use Rattle.ft_changes.specs.declared.changes.ViewChange.{ViewChange}
use Rattle.ft_changes.specs.Laws.{ShowsInPlaceOf}
use Rattle.ft_changes.specs.Shown.{ShownContent, ShownElement, after_changes, shown_content, shown_element, shown_elements}
use Rattle.ft_changes.specs.Told.{told_body, told_lists, told_of_entry, told_rest}
use Rattle.ft_changes.proofs.ForeignSteps.{ShowsLists, after-append}
use Rattle.ft_changes.proofs.ListsLead.{after-lists, body-step}
use Rattle.ft_changes.proofs.LocalLaw.{rest-leads}
use Rattle.ft_changes.proofs.OrderedIntervals.{content-rises, entry-rise, reached-rise}
use Rattle.ft_changes.proofs.Rising.{Rises, changes-rise}
use Rattle.ft_changes.proofs.ToldLaw.{processed, same-stage}

-- ---- what is kept is shown

both : (a b : Bool) → a && b ≡ true → (a ≡ true) × (b ≡ true)
both true b h = (refl, h)
both false b h = absurd (cc)

universal-seen : (k n : ℕ) (e : ListElement) → is_insertion_at_or_below n e.ins ≡ true → seen k (with_universal_insertion e) ≡ seen k e
universal-seen k n e h = by e.ins h
  where
    by : (t : Stamp) → is_insertion_at_or_below n t ≡ true
        → true && not (list_any (has_occurred_at_stage k) (e.dels ++ removal_stamp e.removal_stage)) ≡ has_occurred_at_stage k t && not (list_any (has_occurred_at_stage k) (e.dels ++ removal_stamp e.removal_stage))
    by (Acked s c) g = refl
    by (Local i) g = absurd (cc)

collected-removed : (k n : ℕ) (dels more : List Stamp) → has_collectable_removal n dels ≡ true → list_any (has_occurred_at_stage k) (dels ++ more) ≡ true
collected-removed k n [] more h = absurd (cc)
collected-removed k n (Acked s c ∷ dels) more h = refl
collected-removed k n (Local i ∷ dels) more h = absurd (cc)

collected-unseen : (k n : ℕ) (e : ListElement) → is_collectable n e ≡ true → seen k e ≡ false
collected-unseen k n e h =
    let p = both (is_sequenced e) (has_collectable_removal n e.dels) h in
    ap (λ b. has_occurred_at_stage k e.ins && not b) (collected-removed k n e.dels (removal_stamp e.removal_stage) p.1) ∙ none-left (has_occurred_at_stage k e.ins)
  where
    none-left : (b : Bool) → b && false ≡ false
    none-left true = refl
    none-left false = refl

kept-elements : (k n : ℕ) (held : ElementId → Bool) (ks xs : List ListElement) → Keeps n held ks xs → shown_elements k ks ≡ shown_elements k xs
kept-elements k n held _ _ none = refl
kept-elements k n held _ _ (same {e} {ks} {xs} h) = ap (λ es. cond (seen k e) (shown_element e ∷ es) es) (kept-elements k n held ks xs h)
kept-elements k n held _ _ (universal {e} {ks} {xs} u h) =
    ap (λ b. cond b (shown_element e ∷ shown_elements k ks) (shown_elements k ks)) (universal-seen k n e u)
    ∙ ap (λ es. cond (seen k e) (shown_element e ∷ es) es) (kept-elements k n held ks xs h)
kept-elements k n held _ _ (collected {e} {ks} {xs} c free before h) =
    kept-elements k n held ks xs h ∙ ap (λ b. cond b (shown_element e ∷ shown_elements k xs) (shown_elements k xs)) (sym (collected-unseen k n e c))

kept-count : (k n : ℕ) (held : ElementId → Bool) (ks xs : List ListElement) → Keeps n held ks xs → len (seen k) ks ≡ len (seen k) xs
kept-count k n held _ _ none = refl
kept-count k n held _ _ (same {e} {ks} {xs} h) = ap (one_more_if (seen k e)) (kept-count k n held ks xs h)
kept-count k n held _ _ (universal {e} {ks} {xs} u h) =
    ap (λ b. one_more_if b (len (seen k) ks)) (universal-seen k n e u) ∙ ap (one_more_if (seen k e)) (kept-count k n held ks xs h)
kept-count k n held _ _ (collected {e} {ks} {xs} c free before h) =
    kept-count k n held ks xs h ∙ ap (λ b. one_more_if b (len (seen k) xs)) (sym (collected-unseen k n e c))

pub kept-is-shown : (kept x : NaiveClient) → IsCompacted kept x → content kept ≡ content x → shown_content kept ≡ shown_content x
kept-is-shown kept x is e =
    let last : kept.last_stage ≡ x.last_stage = ap (λ (z : NaiveClient). z.last_stage) is.rest in
    let made : List ShownElement → List IntervalRec → ℕ → ℕ → List CellRec → ShownContent =
    λ es i a b c. record { elements = es; intervals = i; rows = a; cols = b; cells = c } in
    let k = x.last_stage in
    let v = content kept in
    let w = content x in
    ap (λ j. made (shown_elements j kept.doc.text.items) v.intervals (len (seen j) kept.doc.rows.items) (len (seen j) kept.doc.cols.items) v.cells) last
    ∙ ap (λ es. made es v.intervals (len (seen k) kept.doc.rows.items) (len (seen k) kept.doc.cols.items) v.cells) (kept-elements k _ _ kept.doc.text.items x.doc.text.items is.doc.text.items)
    ∙ ap (λ a. made (shown_elements k x.doc.text.items) v.intervals a (len (seen k) kept.doc.cols.items) v.cells) (kept-count k _ _ kept.doc.rows.items x.doc.rows.items is.doc.rows.items)
    ∙ ap (λ b. made (shown_elements k x.doc.text.items) v.intervals (len (seen k) x.doc.rows.items) b v.cells) (kept-count k _ _ kept.doc.cols.items x.doc.cols.items is.doc.cols.items)
    ∙ ap (λ (u : ViewContent). made (shown_elements k x.doc.text.items) u.intervals (len (seen k) x.doc.rows.items) (len (seen k) x.doc.cols.items) u.cells) e

-- ---- what it tells

-- the lists after the changes of them
pub record HasLists (t z : ShownContent) : Type 0 where
  pub elements : t.elements ≡ z.elements
  pub rows : t.rows ≡ z.rows
  pub cols : t.cols ≡ z.cols

from-shows : (k : ℕ) (t : ShownContent) (y : NaiveClient) → ShowsLists k t y.doc → y.last_stage ≡ k → HasLists t (shown_content y)
from-shows k t y h e = record {
  elements = h.elements ∙ ap (λ i. shown_elements i y.doc.text.items) (sym e);
  rows = h.rows ∙ ap (λ i. len (seen i) y.doc.rows.items) (sym e);
  cols = h.cols ∙ ap (λ i. len (seen i) y.doc.cols.items) (sym e);
}

-- an own join or an own operation changes no list
pub own-lists : (x : NaiveClient) (entry : Entry) → IsReached x → is_own_join x.link entry.msg.kind entry.origin ≡ true → HasLists (shown_content x) (shown_content (after_entry x entry))
own-lists x entry reached e =
    let foreign = told_body x.last_stage x.doc entry.msg.seq entry.origin (reference_number entry.msg.ref_seq) entry.msg.body in
    let lists : told_lists x entry ≡ [] = ap (λ b. cond b [] (cond (is_op entry.msg.body && is_own x entry) [] foreign)) e in
    subst (λ cs. HasLists (after_changes (shown_content x) cs) (shown_content (after_entry x entry))) lists
    (from-shows x.last_stage _ (after_entry x entry) (after-lists x entry reached) (same-stage x entry))

pub sent-lists : (x : NaiveClient) (entry : Entry) → IsReached x → is_own_join x.link entry.msg.kind entry.origin ≡ false → is_op entry.msg.body && is_own x entry ≡ true
    → HasLists (shown_content x) (shown_content (after_entry x entry))
sent-lists x entry reached e d =
    let foreign = told_body x.last_stage x.doc entry.msg.seq entry.origin (reference_number entry.msg.ref_seq) entry.msg.body in
    let lists : told_lists x entry ≡ [] = ap (λ b. cond b [] (cond (is_op entry.msg.body && is_own x entry) [] foreign)) e ∙ ap (λ b. cond b [] foreign) d in
    subst (λ cs. HasLists (after_changes (shown_content x) cs) (shown_content (after_entry x entry))) lists
    (from-shows x.last_stage _ (after_entry x entry) (after-lists x entry reached) (same-stage x entry))

module _ (kept x : NaiveClient) (entry : Entry) (reached : IsReached x) (h : ShowsInPlaceOf kept x entry) where
  same-join : is_own_join x.link entry.msg.kind entry.origin ≡ is_own_join kept.link entry.msg.kind entry.origin
  same-join = ap (λ l. is_own_join l entry.msg.kind entry.origin) (sym h.link)

  same-own : is_op entry.msg.body && is_own x entry ≡ is_op entry.msg.body && is_own kept entry
  same-own = ap (λ conns. is_op entry.msg.body && is_own (record x { conns = conns }) entry) (sym h.conns)

  moved-lists : HasLists (shown_content x) (shown_content (after_entry x entry)) → HasLists (shown_content kept) (shown_content (after_entry kept entry))
  moved-lists g = subst (λ s. HasLists s (shown_content (after_entry kept entry))) (sym h.shown) (subst (HasLists (shown_content x)) (sym h.after) g)

  kept-lists : HasLists (after_changes (shown_content kept) (told_lists kept entry)) (shown_content (after_entry kept entry))
  kept-lists = by (is_own_join kept.link entry.msg.kind entry.origin) (is_op entry.msg.body && is_own kept entry) refl refl
    where
      foreign : List ViewChange
      foreign = told_body kept.last_stage kept.doc entry.msg.seq entry.origin (reference_number entry.msg.ref_seq) entry.msg.body

      by : (join own : Bool) → is_own_join kept.link entry.msg.kind entry.origin ≡ join → is_op entry.msg.body && is_own kept entry ≡ own
          → HasLists (after_changes (shown_content kept) (cond join [] (cond own [] foreign))) (shown_content (after_entry kept entry))
      by true own e d = moved-lists (own-lists x entry reached (same-join ∙ e))
      by false true e d = moved-lists (sent-lists x entry reached (same-join ∙ e) (same-own ∙ d))
      by false false e d =
          let after : after_entry kept entry ≡ after_foreign_message kept entry =
          ap (λ b. cond b (come_online kept entry) (cond (is_op entry.msg.body && is_own kept entry) (after_own_message kept entry) (after_foreign_message kept entry))) e
          ∙ ap (λ b. cond b (after_own_message kept entry) (after_foreign_message kept entry)) d in
          let t = after_changes (shown_content kept) foreign in
          let s = body-step kept.last_stage entry.msg.seq entry.origin (reference_number entry.msg.ref_seq) (shown_content kept) kept.doc entry.msg.body (record { elements = refl; rows = refl; cols = refl }) in
          subst (λ y. HasLists t (shown_content y)) (sym after)
          (from-shows kept.last_stage t (after_foreign_message kept entry) (record { elements = s.elements; rows = s.rows; cols = s.cols }) refl)

  stand-in-leads : after_changes (shown_content x) (told_of_entry kept entry) ≡ shown_content (after_entry x entry)
  stand-in-leads =
      let s = shown_content kept in
      let z = shown_content (after_entry kept entry) in
      let lists = told_lists kept entry in
      let rise = reached-rise x reached in
      let before : Rises s = subst Rises (sym h.shown) (content-rises x rise) in
      let after : Rises z = subst Rises (sym h.after) (content-rises (after_entry x entry) (entry-rise x entry rise)) in
      let a = kept-lists in
      ap (λ t. after_changes t (told_of_entry kept entry)) (sym h.shown)
      ∙ after-append s lists (told_rest (after_changes s lists) z)
      ∙ rest-leads (after_changes s lists) z (changes-rise s lists before) after a.elements a.rows a.cols
      ∙ h.after

pub told-by-stand-in : (kept x y : NaiveClient) (entry : Entry) → IsReached x → ShowsInPlaceOf kept x entry → process x entry ≡ Ok y → after_changes (shown_content x) (told_of_entry kept entry) ≡ shown_content y
told-by-stand-in kept x y entry reached h e = stand-in-leads kept x entry reached h ∙ ap shown_content (processed x y entry e)
