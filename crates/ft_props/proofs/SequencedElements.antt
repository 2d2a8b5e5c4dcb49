-- A perspective sees no pending insertion and counts no pending removal: what it does to a client's list it does to the
-- list without pending elements, marks and changes.
use Rattle.std.proofs.Common.{◌≡◌, ℕ, ◌+◌, length, Bool, true, false, not, ◌&&◌, ◌||◌, List, [], ◌∷◌, ◌++◌, Option, Some, None, refl, sym, ◌∙◌, ap}
use Rattle.std.specs.List.{list_any}
use Rattle.std.specs.Option.{option_map}
use Rattle.ft_base.specs.declared.stamps.Stamp.{Stamp}
use Rattle.ft_base.specs.declared.stamps.Stamp.TheVariants.{Acked, Local}
use Rattle.ft_base.proofs.ScanLaws.{Keeping, len-retain_map, put-retain_map, range-retain_map, at-retain_map, settled-retain_map}
use Rattle.ft_base.specs.Scan.{len, at, put, change_range, settled}
use Rattle.ft_base.specs.Visibility.{has_occurred, is_acked}
use Rattle.ft_props.specs.Properties.{PropertyList}
use Rattle.ft_props.specs.Element.{ListElement, ElementContent, ElementId, id, removal_stamp, seen_by, is_sequenced, is_pending, without_pending, sequenced_elements, is_unremoved, has_id, new_elements, with_removal}
use Rattle.ft_props.specs.Steps.{Sequence, after_insertion, after_removal, sequenced_list}
use Rattle.ft_props.specs.Slide.{slide}

-- the perspective knows no pending stamp
pub has_occurred-pending : (r c : ℕ) (t : Stamp) → is_acked t ≡ false → has_occurred r c t ≡ false
has_occurred-pending r c (Acked s d) h = (cc)
has_occurred-pending r c (Local k) h = refl

-- a pending removal counts for no perspective
pub any-has_occurred : (r c : ℕ) (dels : List Stamp) (removal_stage : Option ℕ)
    → list_any (has_occurred r c) (dels ++ removal_stamp removal_stage) ≡ list_any (has_occurred r c) dels
any-has_occurred r c [] None = refl
any-has_occurred r c [] (Some k) = refl
any-has_occurred r c (t ∷ dels) removal_stage = ap (λ b. has_occurred r c t || b) (any-has_occurred r c dels removal_stage)

pub any-acked : (dels : List Stamp) (removal_stage : Option ℕ) → list_any is_acked (dels ++ removal_stamp removal_stage) ≡ list_any is_acked dels
any-acked [] None = refl
any-acked [] (Some k) = refl
any-acked (t ∷ dels) removal_stage = ap (λ b. is_acked t || b) (any-acked dels removal_stage)

pub sees-sequenced : (r c : ℕ) → Keeping is_sequenced (seen_by r c) without_pending (seen_by r c)
sees-sequenced r c = record {
  kept = λ e h. ap (λ b. b && not (list_any (has_occurred r c) (e.dels ++ removal_stamp e.removal_stage))) (has_occurred-pending r c e.ins h);
  same = λ e h. ap (λ b. has_occurred r c e.ins && not b) (any-has_occurred r c e.dels None ∙ sym (any-has_occurred r c e.dels e.removal_stage));
}

pub len-sequenced : (r c : ℕ) (xs : List ListElement) → len (seen_by r c) (sequenced_elements xs) ≡ len (seen_by r c) xs
len-sequenced r c xs = len-retain_map is_sequenced (seen_by r c) without_pending (seen_by r c) (sees-sequenced r c) xs

pub at-sequenced : (r c i : ℕ) (xs : List ListElement) → at (seen_by r c) i (sequenced_elements xs) ≡ option_map without_pending (at (seen_by r c) i xs)
at-sequenced r c i xs = at-retain_map is_sequenced (seen_by r c) without_pending (seen_by r c) (sees-sequenced r c) i xs

pub with_removal-sequenced : (r c s d p q : ℕ) (xs : List ListElement)
    → sequenced_elements (change_range (seen_by r c) p q (with_removal s d) xs) ≡ change_range (seen_by r c) p q (with_removal s d) (sequenced_elements xs)
with_removal-sequenced r c s d p q xs =
    range-retain_map is_sequenced (seen_by r c) without_pending (seen_by r c) (sees-sequenced r c) (with_removal s d) (with_removal s d) (λ e. refl) (λ e. refl) 0 p q xs

pub new_elements-sequenced : (n s c : ℕ) (by : Option Stamp) (props : PropertyList) (bs : List ElementContent)
    → sequenced_elements (new_elements n (Acked s c) [] by props bs) ≡ new_elements n (Acked s c) [] by props bs
new_elements-sequenced n s c by props [] = refl
new_elements-sequenced n s c by props (b ∷ bs) = rw (new_elements-sequenced (n + 1) s c by props bs)

pub after_insertion-sequenced : (s c r p : ℕ) (by : Option Stamp) (props : PropertyList) (bs : List ElementContent) (list : Sequence)
    → sequenced_list (after_insertion s c r p by props bs list) ≡ after_insertion s c r p by props bs (sequenced_list list)
after_insertion-sequenced s c r p by props bs list =
    ap (λ xs. record { items = xs; made = list.made + length bs })
    (put-retain_map is_sequenced (seen_by r c) without_pending (seen_by r c) (sees-sequenced r c) is_pending is_pending (λ e h. ap not h) (λ e h. refl) p (new_elements list.made (Acked s c) [] by props bs) list.items
    ∙ ap (λ new. put (seen_by r c) is_pending p new (sequenced_elements list.items)) (new_elements-sequenced list.made s c by props bs))

pub is_unremoved-sequenced : Keeping is_sequenced is_unremoved without_pending is_unremoved
is_unremoved-sequenced = record {
  kept = λ e h. ap (λ b. b && not (list_any is_acked (e.dels ++ removal_stamp e.removal_stage))) h;
  same = λ e h. ap (λ b. is_acked e.ins && not b) (any-acked e.dels None ∙ sym (any-acked e.dels e.removal_stage));
}

pub has_id-sequenced : (x : ElementId) → Keeping is_sequenced (λ e. is_sequenced e && has_id x e) without_pending (λ e. is_sequenced e && has_id x e)
has_id-sequenced x = record { kept = λ e h. ap (λ b. b && has_id x e) h; same = λ e h. refl }

-- an element keeps its name
pub map-id : (o : Option ListElement) → option_map id (option_map without_pending o) ≡ option_map id o
map-id None = refl
map-id (Some e) = refl

pub slide-sequenced : (xs : List ListElement) (x : Option ElementId) → slide (sequenced_elements xs) x ≡ slide xs x
slide-sequenced xs None = refl
slide-sequenced xs (Some x) =
    ap (option_map id) (settled-retain_map is_sequenced (λ e. is_sequenced e && has_id x e) is_unremoved without_pending
    (λ e. is_sequenced e && has_id x e) is_unremoved (has_id-sequenced x) is_unremoved-sequenced None xs)
    ∙ map-id (settled (λ e. is_sequenced e && has_id x e) is_unremoved xs)

-- a removal of another client
pub after_removal-sequenced : (s c r p q : ℕ) (list : Sequence) → sequenced_list (after_removal s c r p q list) ≡ after_removal s c r p q (sequenced_list list)
after_removal-sequenced s c r p q list = ap (λ xs. record list { items = xs }) (with_removal-sequenced r c s c p q list.items)
