-- Elements that stand, and those that each stage sees.
use Rattle.std.proofs.Common.{◌≡◌, ℕ, Bool, true, false, cond, not, ◌&&◌, ◌||◌, List, [], ◌∷◌, ◌++◌, Option, Some, None, refl, filter}
use Rattle.std.specs.List.{list_all, list_any}
use Rattle.ft_base.specs.declared.stamps.Stamp.{Stamp}
use Rattle.ft_base.specs.declared.stamps.Stamp.TheVariants.{Acked, Local}
use Rattle.ft_base.specs.Visibility.{has_occurred_at_stage, is_acked}
use Rattle.ft_base.proofs.Booleans.{both}
use Rattle.ft_props.specs.Element.{ListElement, is_sequenced, is_unremoved, removal_stamp, seen}
use Rattle.ft_changes.specs.Beside.{first_passes, is_always_seen, is_standing, pass_beside_marked, passes_beside_marked}

any-front : {A : Type 0} (test other : A → Bool) → ((x : A) → test x ≡ true → other x ≡ true) → (xs ys : List A) → list_any test xs ≡ true
    → list_any other (xs ++ ys) ≡ true
any-front test other h [] ys e = absurd (cc)
any-front test other h (x ∷ xs) ys e = by (test x) (other x) (h x) e (any-front test other h xs ys)
  where
    by : (b d : Bool) → (b ≡ true → d ≡ true) → b || list_any test xs ≡ true → (list_any test xs ≡ true → list_any other (xs ++ ys) ≡ true)
        → d || list_any other (xs ++ ys) ≡ true
    by b true g f ih = refl
    by true false g f ih = let d = g refl in absurd (cc)
    by false false g f ih = ih f

acked-occurs : (m : ℕ) (t : Stamp) → is_acked t ≡ true → has_occurred_at_stage m t ≡ true
acked-occurs m (Acked s c) h = refl
acked-occurs m (Local j) h = absurd (cc)

present-stands : (occurred : Stamp → Bool) → ((t : Stamp) → is_acked t ≡ true → occurred t ≡ true) → (e : ListElement)
    → occurred e.ins && not (list_any occurred (e.dels ++ removal_stamp e.removal_stage)) ≡ true → is_standing e ≡ true
present-stands occurred f e h = by (list_any is_acked e.dels) refl
  where
    by : (b : Bool) → list_any is_acked e.dels ≡ b → not b ≡ true
    by false d = refl
    by true d =
        let there = any-front is_acked occurred f e.dels (removal_stamp e.removal_stage) d in
        let none = (both (occurred e.ins) (not (list_any occurred (e.dels ++ removal_stamp e.removal_stage))) h).1 in
        absurd (cc)

pub seen-stands : (m : ℕ) (e : ListElement) → seen m e ≡ true → is_standing e ≡ true
seen-stands m e h = present-stands (has_occurred_at_stage m) (acked-occurs m) e h

pub unremoved-stands : (e : ListElement) → is_unremoved e ≡ true → is_standing e ≡ true
unremoved-stands e h = present-stands is_acked (λ t d. d) e h

pub unremoved-sequenced : (e : ListElement) → is_unremoved e ≡ true → is_sequenced e ≡ true
unremoved-sequenced e h = (both (is_sequenced e) (not (list_any is_acked (e.dels ++ removal_stamp e.removal_stage))) h).0

-- whether its removals are sequenced ones, but for a pending one
abbrev pub has_acked_removals : ListElement → Bool
has_acked_removals e = list_all is_acked e.dels

bare-seen : (m : ℕ) (ins : Stamp) (dels : List Stamp) (mark : Option ℕ)
    → is_acked ins && not (list_any is_acked (dels ++ removal_stamp mark)) ≡ true → not (list_any (λ (t : Stamp). true) (removal_stamp mark)) ≡ true
    → list_all is_acked dels ≡ true → has_occurred_at_stage m ins && not (list_any (has_occurred_at_stage m) (dels ++ removal_stamp mark)) ≡ true
bare-seen m (Local k) dels mark h g d = absurd (cc)
bare-seen m (Acked s c) dels (Some j) h g d = absurd (cc)
bare-seen m (Acked s c) [] None h g d = refl
bare-seen m (Acked s c) (Acked r b ∷ dels) None h g d = absurd (cc)
bare-seen m (Acked s c) (Local j ∷ dels) None h g d = absurd (cc)

pub always-seen : (m : ℕ) (e : ListElement) → has_acked_removals e ≡ true → is_always_seen e ≡ true → seen m e ≡ true
always-seen m e d h =
    let p = both (is_unremoved e) (not (list_any (λ (t : Stamp). true) (removal_stamp e.removal_stage))) h in
    bare-seen m e.ins e.dels e.removal_stage p.0 p.1 d

-- ---- weaker tests

module _ {A : Type 0} (P test ok : A → Bool) (weaker : (x : A) → P x ≡ true → test x ≡ true → ok x ≡ true) where
  pub first-weaker : (stands : A → Bool) (xs : List A) → list_all P xs ≡ true → first_passes stands test xs ≡ true
      → first_passes stands ok xs ≡ true
  first-weaker stands [] h f = refl
  first-weaker stands (x ∷ xs) h f =
      let p = both (P x) (list_all P xs) h in
      by (stands x) f (weaker x p.0) (first-weaker stands xs p.1)
    where
      by : (b : Bool) → cond b (test x) (first_passes stands test xs) ≡ true → (test x ≡ true → ok x ≡ true)
          → (first_passes stands test xs ≡ true → first_passes stands ok xs ≡ true) → cond b (ok x) (first_passes stands ok xs) ≡ true
      by true g one ih = one g
      by false g one ih = ih g

  side-weaker : (a b : Bool × A) → P a.1 ≡ true → P b.1 ≡ true → passes_beside_marked test a b ≡ true → passes_beside_marked ok a b ≡ true
  side-weaker a b h g f = by a.0 b.0 f
    where
      by : (x y : Bool) → cond x (y || test b.1) (not y || test a.1) ≡ true → cond x (y || ok b.1) (not y || ok a.1) ≡ true
      by true true e = refl
      by true false e = weaker b.1 g e
      by false true e = weaker a.1 h e
      by false false e = refl

  pub beside-weaker : (zs : List (Bool × A)) → list_all (λ m. P m.1) zs ≡ true → pass_beside_marked test zs ≡ true
      → pass_beside_marked ok zs ≡ true
  beside-weaker [] h f = refl
  beside-weaker (a ∷ []) h f = refl
  beside-weaker (a ∷ b ∷ zs) h f =
      let p = both (P a.1) (list_all (λ m. P m.1) (b ∷ zs)) h in
      let q = both (P b.1) (list_all (λ m. P m.1) zs) p.1 in
      let g = both (passes_beside_marked test a b) (pass_beside_marked test (b ∷ zs)) f in
      rw (side-weaker a b p.0 q.0 g.0, beside-weaker (b ∷ zs) p.1 g.1) refl

pub all-filter : {A : Type 0} (P keep : A → Bool) (xs : List A) → list_all P xs ≡ true → list_all P (filter keep xs) ≡ true
all-filter P keep [] h = refl
all-filter P keep (x ∷ xs) h = let p = both (P x) (list_all P xs) h in by (keep x) p.0 (all-filter P keep xs p.1)
  where
    by : (b : Bool) → P x ≡ true → list_all P (filter keep xs) ≡ true → list_all P (cond b (x ∷ filter keep xs) (filter keep xs)) ≡ true
    by true e ih = rw (e, ih) refl
    by false e ih = ih
