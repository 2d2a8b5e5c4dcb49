-- The indexes of labels, where they stand in a map by the texts of the labels.
use Rattle.std.proofs.Common.{◌≡◌, ◌≤◌, ℕ, ℤ, Bool, true, false, cond, List, [], ◌∷◌, length, Option, Some, None, refl, sym, ◌∙◌, ap, subst, arith, chars}
use Rattle.std.specs.Prelude.{IfSome, String, string_bytes}
use Rattle.std.specs.declared.alloc.Global.{Global}
use Rattle.std.specs.declared.cmp.Ordering.{Ordering}
use Rattle.std.specs.declared.cmp.Ordering.TheVariants.{Less, Equal, Greater}
use Rattle.std.specs.BTreeMap.{insert_entry, is_at}
use Rattle.std.specs.Map.{lookup, remove_entry, set_value}
use Rattle.std.specs.Ordering.{is_eq, match_ordering, nat_cmp}
use Rattle.std.specs.Cmp.Lexicographic.{slice_cmp}
use Rattle.std.specs.Str.{IsUtf8}
use Rattle.std.proofs.lemmas.Str.{IsUtf8-string_bytes}
use Rattle.ft_overlap.specs.declared.items.Item.{Item}
use Rattle.ft_overlap.specs.Items.{ItemList, no_items, put_item, starts_by}
use Rattle.ft_props.specs.Keys.{Characters, text_cmp}
use Rattle.ft_props.proofs.Utf8Order.{utf8-cmp}
use Rattle.ft_interval_index.specs.Indexes.{HasItems, IsSameIndex, KeepsOtherLabels, LabelIndex, PutsItem, id_in, index_of, item_for, labelled, labelled_if, list_in}
use Rattle.ft_interval_index.specs.Order.{list_place}
use Rattle.ft_interval_store.specs.Ends.{References}
use Rattle.ft_interval_index.specs.ByLabel.{labelled_by}
use Rattle.ft_interval_index.proofs.FoundItems.{text-is}

-- what a text says
abbrev pub label_of : String Global → Characters
label_of k = chars (string_bytes k)

-- the test is whether a text is that of the label
abbrev pub Finds : Characters → (String Global → Bool) → Type 0
Finds label test = (k : String Global) → test k ≡ is_eq (text_cmp label (label_of k))

-- a query by the label's bytes
pub finds-text : (label : Characters) (bytes : List ℕ) → IsUtf8 bytes → chars bytes ≡ label
    → Finds label (is_at (λ (k : String Global). slice_cmp nat_cmp bytes (string_bytes k)))
finds-text label bytes u is k =
    ap is_eq (utf8-cmp bytes (string_bytes k) u (IsUtf8-string_bytes k) ∙ ap (λ l. text_cmp l (label_of k)) is)

abbrev pub Entries : Type 0
Entries = List (String Global × ItemList)

module _ (label : Characters) (test : String Global → Bool) (finds : Finds label test) where
  pub found-index : (es : Entries) → labelled_if label (lookup test es) ≡ index_of label (labelled_by es)
  found-index [] = refl
  found-index (e ∷ es) = step (test e.0) (sym (finds e.0)) (found-index es)
    where
      step : (b : Bool) → is_eq (text_cmp label (label_of e.0)) ≡ b → labelled_if label (lookup test es) ≡ index_of label (labelled_by es)
          → labelled_if label (cond b (Some e.1) (lookup test es))
          ≡ cond (is_eq (text_cmp label (label_of e.0))) (Some (labelled (label_of e.0) e.1)) (index_of label (labelled_by es))
      step true t h = ap (λ l. Some (labelled l e.1)) (text-is label (label_of e.0) t)
          ∙ sym (ap (λ b. cond b (Some (labelled (label_of e.0) e.1)) (index_of label (labelled_by es))) t)
      step false t h = h ∙ sym (ap (λ b. cond b (Some (labelled (label_of e.0) e.1)) (index_of label (labelled_by es))) t)

  pub found-some : (es : Entries) (x : ItemList) → lookup test es ≡ Some x → index_of label (labelled_by es) ≡ Some (labelled label x)
  found-some es x e = sym (found-index es) ∙ ap (labelled_if label) e

  pub found-none : (es : Entries) → lookup test es ≡ None → index_of label (labelled_by es) ≡ None
  found-none es e = sym (found-index es) ∙ ap (labelled_if label) e

  -- an index of the label isn't that of another one
  passed : (l : Characters) → is_eq (text_cmp l label) ≡ false → (k : String Global) → test k ≡ true → is_eq (text_cmp l (label_of k)) ≡ false
  passed l d k t = ap (λ c. is_eq (text_cmp l c)) (sym (text-is label (label_of k) (sym (finds k) ∙ t))) ∙ d

  pub others-set : (w : ItemList) (es : Entries) → KeepsOtherLabels label (labelled_by es) (labelled_by (set_value test es w))
  others-set w [] = λ l d. refl
  others-set w (e ∷ es) = λ l d. step l d (test e.0) refl (others-set w es l d)
    where
      step : (l : Characters) → is_eq (text_cmp l label) ≡ false → (b : Bool) → test e.0 ≡ b
          → index_of l (labelled_by (set_value test es w)) ≡ index_of l (labelled_by es)
          → index_of l (labelled_by (cond b ((e.0, w) ∷ es) (e ∷ set_value test es w))) ≡ index_of l (labelled_by (e ∷ es))
      step l d true t h =
          ap (λ b. cond b (Some (labelled (label_of e.0) w)) (index_of l (labelled_by es))) (passed l d e.0 t)
          ∙ sym (ap (λ b. cond b (Some (labelled (label_of e.0) e.1)) (index_of l (labelled_by es))) (passed l d e.0 t))
      step l d false t h = ap (λ o. cond (is_eq (text_cmp l (label_of e.0))) (Some (labelled (label_of e.0) e.1)) o) h

  pub others-removed : (es : Entries) → KeepsOtherLabels label (labelled_by es) (labelled_by (remove_entry test es))
  others-removed [] = λ l d. refl
  others-removed (e ∷ es) = λ l d. step l d (test e.0) refl (others-removed es l d)
    where
      step : (l : Characters) → is_eq (text_cmp l label) ≡ false → (b : Bool) → test e.0 ≡ b
          → index_of l (labelled_by (remove_entry test es)) ≡ index_of l (labelled_by es)
          → index_of l (labelled_by (cond b es (e ∷ remove_entry test es))) ≡ index_of l (labelled_by (e ∷ es))
      step l d true t h = sym (ap (λ b. cond b (Some (labelled (label_of e.0) e.1)) (index_of l (labelled_by es))) (passed l d e.0 t))
      step l d false t h = ap (λ o. cond (is_eq (text_cmp l (label_of e.0))) (Some (labelled (label_of e.0) e.1)) o) h

pub others-inserted : (label : Characters) (compare : String Global → String Global → Ordering) (k : String Global) → label_of k ≡ label
    → Finds label (is_at (compare k)) → (w : ItemList) (es : Entries)
    → KeepsOtherLabels label (labelled_by es) (labelled_by (insert_entry compare es k w))
others-inserted label compare k is finds w [] = λ l d. ap (λ b. cond b (Some (labelled (label_of k) w)) None) (ap (λ c. is_eq (text_cmp l c)) is ∙ d)
others-inserted label compare k is finds w (e ∷ es) = λ l d. step l d (compare k e.0) refl (others-inserted label compare k is finds w es l d)
  where
    step : (l : Characters) → is_eq (text_cmp l label) ≡ false → (o : Ordering) → compare k e.0 ≡ o
        → index_of l (labelled_by (insert_entry compare es k w)) ≡ index_of l (labelled_by es)
        → index_of l (labelled_by (match_ordering o ((k, w) ∷ e ∷ es) ((e.0, w) ∷ es) (e ∷ insert_entry compare es k w))) ≡ index_of l (labelled_by
        (e ∷ es))
    step l d Less t h =
        ap (λ b. cond b (Some (labelled (label_of k) w)) (index_of l (labelled_by (e ∷ es)))) (ap (λ c. is_eq (text_cmp l c)) is ∙ d)
    step l d Equal t h =
        let p = passed label (is_at (compare k)) finds l d e.0 (ap is_eq t) in
        ap (λ b. cond b (Some (labelled (label_of e.0) w)) (index_of l (labelled_by es))) p
        ∙ sym (ap (λ b. cond b (Some (labelled (label_of e.0) e.1)) (index_of l (labelled_by es))) p)
    step l d Greater t h = ap (λ o. cond (is_eq (text_cmp l (label_of e.0))) (Some (labelled (label_of e.0) e.1)) o) h

-- where the index of a label is gone, and had nothing
pub nothing-gone : (label : Characters) (old new : Option LabelIndex) → old ≡ Some (labelled label no_items) → new ≡ None → IsSameIndex old new
nothing-gone label old new was gone = record {
  list = ap list_in gone ∙ sym (ap list_in was);
  ids = λ k. ap (λ x. id_in x k) gone ∙ sym (ap (λ x. id_in x k) was);
}

-- an index that an item was put into has items
pub items-put : (refs : References) (id : Characters) (s e : ℕ) (old new : Option LabelIndex) → PutsItem refs id s e old new → HasItems new
items-put refs id s e old None p = tt
items-put refs id s e old (Some x) p =
    subst (λ (xs : List Item). 1 ≤ length xs) (sym p.items) (some-put (list_place refs) (item_for s e) (list_in old).items)
  where
    some-put : (place : ℕ → ℤ) (new : Item) (xs : List Item) → 1 ≤ length (put_item place new xs)
    some-put place new [] = omega arith
    some-put place new (y ∷ ys) = by (starts_by place (place new.start) y)
      where
        by : (b : Bool) → 1 ≤ length (cond b (y ∷ put_item place new ys) (new ∷ y ∷ ys))
        by true = omega arith
        by false = omega arith

-- the index of a label is of that label
pub found-own : (label : Characters) (xs : List LabelIndex) → IfSome (index_of label xs) (λ (x : LabelIndex). is_eq (text_cmp label x.label) ≡ true)
found-own label [] = tt
found-own label (x ∷ xs) = step (is_eq (text_cmp label x.label)) refl (found-own label xs)
  where
    step : (b : Bool) → is_eq (text_cmp label x.label) ≡ b → IfSome (index_of label xs) (λ (y : LabelIndex). is_eq (text_cmp label y.label) ≡ true)
        → IfSome (cond b (Some x) (index_of label xs)) (λ (y : LabelIndex). is_eq (text_cmp label y.label) ≡ true)
    step true e rest = e
    step false e rest = rest
