-- An index stays that of its label's intervals where one comes, one goes, or all ends move in order.
use Rattle.std.proofs.Common.{◌≡◌, ℕ, ◌≤◌, IsTrue, Bool, true, false, cond, nat_eq, Option, Some, None, is_some, refl, sym, ap, subst, ◌∙◌, inl, inr, arith}
use Rattle.std.specs.Prelude.{◌⊎◌}
use Rattle.std.proofs.lemmas.Bool.{cases_eq, eq-eqb, ne_eqb}
use Rattle.ft_props.specs.Keys.{Characters}
use Rattle.ft_base.specs.Scan.{one_more_if}
use Rattle.ft_overlap.specs.declared.items.Item.{Item}
use Rattle.ft_overlap.specs.Items.{AreKnown, IsEndIn, KeepsOrder, has_key, item_at, put_item}
use Rattle.ft_tree_leaves.specs.declared.text.TextContent.{TextContent}
use Rattle.ft_tree_leaves.specs.References.{IsReferenceIn, reference_place}
use Rattle.ft_tree.specs.State.{TreeState}
use Rattle.ft_interval_store.specs.declared.intervals.EndPair.{EndPair}
use Rattle.ft_interval_store.specs.Ends.{AreLiveEnds, References, no_ends}
use Rattle.ft_interval_index.specs.Indexes.{LabelIndex, AreAttached, IsItemOf, IsListed, PutsItem, TakesItem, attached_both, attached_ends, attached_start, id_in, item_for, list_in}
use Rattle.ft_interval_index.specs.Order.{IsAtMost, IsLiveIn, IsPlaced, IsWithin, KeepsEndOrder, list_place}
use Rattle.ft_interval_index.proofs.ItemLookups.{all-found, at-none, has-none, out-at, out-times, own, put-at, put-times, times}
use Rattle.ft_interval_index.proofs.PlaceOrder.{most-number, number-most, within-more}

-- ---- ends

pub some-is : {A : Type 0} {x y : A} → Some x ≡ Some y → x ≡ y
some-is h = (cc)

none-some : {A : Type 0} {x : A} → None ≡ Some x → ⊥
none-some h = (cc)

pub equal : (a b : ℕ) → nat_eq a b ≡ true → a ≡ b
equal a b h = elim (cases_eq a b) [
  | inl e ↦ e
  | inr d ↦ absurd (let n : true ≡ false = sym h ∙ ne_eqb a b d in cc n)
]

ends-are : (p : EndPair ℕ) (s e : ℕ) → p.start ≡ Some s → p.end ≡ Some e → p ≡ record { start = Some s; end = Some e }
ends-are p s e a b = λ i. record { start = a i; end = b i }

pub to-attached : (refs : References) (ends : EndPair ℕ) (s e : ℕ) → AreAttached refs ends s e → attached_ends refs ends ≡ Some (s, e)
to-attached refs ends s e a =
    ap (λ o. attached_both refs o ends.end) a.start ∙ ap (attached_start refs s) a.end
    ∙ ap (λ b. cond b (cond (is_some (reference_place refs e)) (Some (s, e)) None) None) a.first ∙ ap (λ b. cond b (Some (s, e)) None) a.second

pub from-attached : (refs : References) (ends : EndPair ℕ) (s e : ℕ) → attached_ends refs ends ≡ Some (s, e) → AreAttached refs ends s e
from-attached refs ends s e h = by ends.start ends.end refl refl h
  where
    by : (a b : Option ℕ) → ends.start ≡ a → ends.end ≡ b → attached_both refs a b ≡ Some (s, e) → AreAttached refs ends s e
    by None b p q g = absurd (none-some g)
    by (Some x) None p q g = absurd (none-some g)
    by (Some x) (Some y) p q g = step (is_some (reference_place refs x)) (is_some (reference_place refs y)) refl refl g
      where
        step : (i j : Bool) → is_some (reference_place refs x) ≡ i → is_some (reference_place refs y) ≡ j
            → cond {A = Option (ℕ × ℕ)} i (cond {A = Option (ℕ × ℕ)} j (Some (x, y)) None) None ≡ Some (s, e)
            → AreAttached refs ends s e
        step true true i j k =
            let same = some-is k in
            let left : x ≡ s = ap (λ (z : ℕ × ℕ). z.0) same in
            let right : y ≡ e = ap (λ (z : ℕ × ℕ). z.1) same in
            record {
              start = p ∙ ap (λ (z : ℕ). Some z) left;
              end = q ∙ ap (λ (z : ℕ). Some z) right;
              first = ap (λ z. is_some (reference_place refs z)) (sym left) ∙ i;
              second = ap (λ z. is_some (reference_place refs z)) (sym right) ∙ j;
            }
        step true false i j k = absurd (none-some k)
        step false j i l k = absurd (none-some k)

-- ---- other intervals of the same ends

module _ (n : ℕ) (refs : References) (x : Option LabelIndex) (has now : Characters → EndPair ℕ) where
  pub listed-same : ((id : Characters) → now id ≡ has id) → IsListed n refs has x → IsListed n refs now x
  listed-same same l = record {
    listed = λ id s e h. l.listed id s e (ap (attached_ends refs) (sym (same id)) ∙ h);
    only = λ k y h. (let o = l.only k y h in record { id = o.id; id_is = o.id_is; item = o.item; ends = same o.id ∙ o.ends });
    once = l.once;
    order = l.order;
    law = l.law;
    within = l.within;
    together = l.together;
  }

-- no two intervals start at one reference
abbrev pub StartOnce : (Characters → EndPair ℕ) → Type 0
StartOnce has = (i j : Characters) (s : ℕ) → (has i).start ≡ Some s → (has j).start ≡ Some s → i ≡ j

-- these two have the same ends for each other id than this one, by a test of ids
pub record DifferAt (id : Characters) (is : Characters → Bool) (has now : Characters → EndPair ℕ) : Type 0 where
  pub here : is id ≡ true
  pub same : (j : Characters) → is j ≡ true → j ≡ id
  pub others : (j : Characters) → is j ≡ false → now j ≡ has j

true-false : {b : Bool} → b ≡ true → b ≡ false → ⊥
true-false p q = (let n : true ≡ false = sym p ∙ q in cc n)

module _ (n : ℕ) (refs : References) (id : Characters) (is : Characters → Bool) (has now : Characters → EndPair ℕ) (d : DifferAt id is has now) where
  -- ---- one goes

  module _ (x y : Option LabelIndex) (s : ℕ) (l : IsListed n refs has x) (once : StartOnce has) (start : (has id).start ≡ Some s) (gone : now id ≡ no_ends)
      (t : TakesItem refs s x y) where
    left : (k : ℕ) (i : Item) → item_at k (list_in y).items ≡ Some i → (nat_eq s k ≡ false) × (item_at k (list_in x).items ≡ Some i)
    left k i h = step (nat_eq s k) refl (sym (out-at s k (list_in x).items (l.once s)) ∙ sym (ap (item_at k) t.items) ∙ h)
      where
        step : (b : Bool) → nat_eq s k ≡ b → cond b None (item_at k (list_in x).items) ≡ Some i → (nat_eq s k ≡ false) × (item_at k (list_in x).items ≡ Some i)
        step true e g = absurd (none-some g)
        step false e g = (e, g)

    pub taken-listed : IsListed n refs now y
    taken-listed = record {
      listed = λ j k e h. kept j k e h (is j) refl;
      only = λ k i h. (let p = left k i h in let o = l.only k i p.1 in record {
        id = o.id;
        id_is = t.ids k ∙ ap (λ b. cond b None (id_in x k)) p.0 ∙ o.id_is;
        item = o.item;
        ends = d.others o.id (apart k i p.0 o (is o.id) refl) ∙ o.ends;
      });
      once = λ k. subst (λ is. times k is ≤ 1) (sym t.items) (let few = out-times s k (list_in x).items in let most = l.once k in omega (arith, few, most));
      order = t.order;
      law = t.law;
      within = λ k i h. l.within k i (left k i h).1;
      together = λ k i h. l.together k i (left k i h).1;
    }
      where
        apart : (k : ℕ) (i : Item) → nat_eq s k ≡ false → (o : IsItemOf has x k i) → (b : Bool) → is o.id ≡ b → is o.id ≡ false
        apart k i f o false e = e
        apart k i f o true e =
            let start_k : (has id).start ≡ Some k = ap (λ j. (has j).start) (sym (d.same o.id e)) ∙ ap (λ (p : EndPair ℕ). p.start) o.ends in
            let same : s ≡ k = some-is (sym start ∙ start_k) in
            absurd (true-false (eq-eqb s k same) f)

        kept : (j : Characters) (k e : ℕ) → attached_ends refs (now j) ≡ Some (k, e) → (b : Bool) → is j ≡ b
            → (item_at k (list_in y).items ≡ Some (item_for k e)) × (id_in y k ≡ Some j)
        kept j k e h true f =
            absurd (none-some (sym (ap (attached_ends refs) (ap now (d.same j f) ∙ gone)) ∙ h))
        kept j k e h false f =
            let was : attached_ends refs (has j) ≡ Some (k, e) = ap (attached_ends refs) (sym (d.others j f)) ∙ h in
            let found = l.listed j k e was in
            let other : nat_eq s k ≡ false = ne_eqb s k (λ g. true-false (ap is (once j id s ((from-attached refs (has j) k e was).start ∙ ap (λ z. Some z) (sym g)) start) ∙ d.here) f) in (
              ap (item_at k) t.items ∙ out-at s k (list_in x).items (l.once s) ∙ ap (λ b. cond b None (item_at k (list_in x).items)) other ∙ found.0,
              t.ids k ∙ ap (λ b. cond b None (id_in x k)) other ∙ found.1,
            )

  -- one that had no start goes
  pub absent-listed : (x : Option LabelIndex) → IsListed n refs has x → (has id).start ≡ None → now id ≡ no_ends → IsListed n refs now x
  absent-listed x l none gone = record {
    listed = λ j k e h. kept j k e h (is j) refl;
    only = λ k i h. (let o = l.only k i h in record { id = o.id; id_is = o.id_is; item = o.item; ends = d.others o.id (apart k i o (is o.id) refl) ∙ o.ends });
    once = l.once;
    order = l.order;
    law = l.law;
    within = l.within;
    together = l.together;
  }
    where
      apart : (k : ℕ) (i : Item) (o : IsItemOf has x k i) → (b : Bool) → is o.id ≡ b → is o.id ≡ false
      apart k i o false e = e
      apart k i o true e = absurd (none-some (sym none ∙ ap (λ j. (has j).start) (sym (d.same o.id e)) ∙ ap (λ (p : EndPair ℕ). p.start) o.ends))

      kept : (j : Characters) (k e : ℕ) → attached_ends refs (now j) ≡ Some (k, e) → (b : Bool) → is j ≡ b
          → (item_at k (list_in x).items ≡ Some (item_for k e)) × (id_in x k ≡ Some j)
      kept j k e h true f = absurd (none-some (sym (ap (attached_ends refs) (ap now (d.same j f) ∙ gone)) ∙ h))
      kept j k e h false f = l.listed j k e (ap (attached_ends refs) (sym (d.others j f)) ∙ h)

  -- ---- one comes

  module _ (x : Option LabelIndex) (l : IsListed n refs has x) (once : StartOnce now) (gone : has id ≡ no_ends) where
    -- where it isn't attached
    pub unattached-listed : attached_ends refs (now id) ≡ None → IsListed n refs now x
    unattached-listed none = record {
      listed = λ j k e h. kept j k e h (is j) refl;
      only = λ k i h. (let o = l.only k i h in record { id = o.id; id_is = o.id_is; item = o.item; ends = d.others o.id (apart k i o (is o.id) refl) ∙ o.ends });
      once = l.once;
      order = l.order;
      law = l.law;
      within = l.within;
      together = l.together;
    }
      where
        apart : (k : ℕ) (i : Item) (o : IsItemOf has x k i) → (b : Bool) → is o.id ≡ b → is o.id ≡ false
        apart k i o false e = e
        apart k i o true e =
            absurd (none-some (sym (ap (λ (p : EndPair ℕ). p.start) (ap has (d.same o.id e) ∙ gone)) ∙ ap (λ (p : EndPair ℕ). p.start) o.ends))

        kept : (j : Characters) (k e : ℕ) → attached_ends refs (now j) ≡ Some (k, e) → (b : Bool) → is j ≡ b
            → (item_at k (list_in x).items ≡ Some (item_for k e)) × (id_in x k ≡ Some j)
        kept j k e h true f = absurd (none-some (sym none ∙ ap (λ i. attached_ends refs (now i)) (sym (d.same j f)) ∙ h))
        kept j k e h false f = l.listed j k e (ap (attached_ends refs) (sym (d.others j f)) ∙ h)

    module _ (s e : ℕ) (a : AreAttached refs (now id) s e) where
      -- no item has its key yet
      pub key-none : item_at s (list_in x).items ≡ None
      key-none = by (item_at s (list_in x).items) refl
        where
          by : (o : Option Item) → item_at s (list_in x).items ≡ o → o ≡ None
          by None h = refl
          by (Some i) h = absurd (
              let o = l.only s i h in
              let other : is o.id ≡ false = apart o (is o.id) refl in
              let start : (now o.id).start ≡ Some s = ap (λ (p : EndPair ℕ). p.start) (d.others o.id other ∙ o.ends) in
              true-false (ap is (once o.id id s start a.start) ∙ d.here) other)
            where
              apart : (o : IsItemOf has x s i) → (b : Bool) → is o.id ≡ b → is o.id ≡ false
              apart o false f = f
              apart o true f =
                  absurd (none-some (sym (ap (λ (p : EndPair ℕ). p.start) (ap has (d.same o.id f) ∙ gone)) ∙ ap (λ (p : EndPair ℕ). p.start) o.ends))

      pub key-fresh : has_key s (list_in x).items ≡ false
      key-fresh = has-none s (list_in x).items key-none

      module _ (y : Option LabelIndex) (within : IsWithin n (reference_place refs s) × IsWithin n (reference_place refs e)) (p : PutsItem refs id s e x y) where
        -- the item at a key is the new one, or one that was there
        found : (k : ℕ) → item_at k (list_in y).items ≡ cond (nat_eq s k) (Some (item_for s e)) (item_at k (list_in x).items)
        found k = ap (item_at k) p.items ∙ put-at (list_place refs) (item_for s e) k (list_in x).items key-none

        either : (P : Item → Type 0) → P (item_for s e) → ((k : ℕ) (i : Item) → item_at k (list_in x).items ≡ Some i → P i)
            → (k : ℕ) (i : Item) → item_at k (list_in y).items ≡ Some i → P i
        either P new old k i h = step (nat_eq s k) (sym (found k) ∙ h)
          where
            step : (b : Bool) → cond b (Some (item_for s e)) (item_at k (list_in x).items) ≡ Some i → P i
            step true g = subst P (some-is g) new
            step false g = old k i g

        pub put-listed : IsListed n refs now y
        put-listed = record {
          listed = λ j k f h. kept j k f h (is j) refl;
          only = λ k i h. owner k i (nat_eq s k) refl (sym (found k) ∙ h);
          once = λ k. subst (λ is. times k is ≤ 1) (sym p.items) (one k (nat_eq s k) refl);
          order = p.order;
          law = p.law;
          within = either (λ i. IsWithin n (reference_place refs i.start) × IsWithin n (reference_place refs i.end)) within l.within;
          together = either (λ i. is_some (reference_place refs i.start) ≡ is_some (reference_place refs i.end)) (a.first ∙ sym a.second) l.together;
        }
          where
            one : (k : ℕ) → (b : Bool) → nat_eq s k ≡ b → times k (put_item (list_place refs) (item_for s e) (list_in x).items) ≤ 1
            one k true f =
                let t = put-times (list_place refs) (item_for s e) k (list_in x).items in
                let same : s ≡ k = equal s k f in
                let none : times k (list_in x).items ≡ 0 = subst (λ m. times m (list_in x).items ≡ 0) same (at-none s (list_in x).items key-none) in
                let more : one_more_if (nat_eq s k) (times k (list_in x).items) ≡ 1 = ap (λ m. one_more_if (nat_eq s k) m) none ∙ ap (λ b. one_more_if b 0) f in
                omega (arith, t, more)
            one k false f =
                let t = put-times (list_place refs) (item_for s e) k (list_in x).items in
                let same : one_more_if (nat_eq s k) (times k (list_in x).items) ≡ times k (list_in x).items = ap (λ b. one_more_if b (times k (list_in x).items)) f in
                let most = l.once k in
                omega (arith, t, same, most)

            owner : (k : ℕ) (i : Item) → (b : Bool) → nat_eq s k ≡ b → cond b (Some (item_for s e)) (item_at k (list_in x).items) ≡ Some i → IsItemOf now y k i
            owner k i true f g =
                let same : s ≡ k = equal s k f in
                let is_new : item_for s e ≡ i = some-is g in
                let last : e ≡ i.end = ap (λ (z : Item). z.end) is_new in
                record {
                  id = id;
                  id_is = p.ids k ∙ ap (λ b. cond b (Some id) (id_in x k)) f;
                  item = sym is_new ∙ ap (λ (z : ℕ). item_for z e) same ∙ ap (λ (z : ℕ). item_for k z) last;
                  ends = ends-are (now id) k i.end (a.start ∙ ap (λ z. Some z) same) (a.end ∙ ap (λ z. Some z) last);
                }
            owner k i false f g =
                let o = l.only k i g in
                let other = apart o (is o.id) refl in
                record {
                  id = o.id;
                  id_is = p.ids k ∙ ap (λ b. cond b (Some id) (id_in x k)) f ∙ o.id_is;
                  item = o.item;
                  ends = d.others o.id other ∙ o.ends;
                }
              where
                apart : (o : IsItemOf has x k i) → (b : Bool) → is o.id ≡ b → is o.id ≡ false
                apart o false f = f
                apart o true f =
                    absurd (none-some (sym (ap (λ (q : EndPair ℕ). q.start) (ap has (d.same o.id f) ∙ gone)) ∙ ap (λ (q : EndPair ℕ). q.start) o.ends))

            kept : (j : Characters) (k f : ℕ) → attached_ends refs (now j) ≡ Some (k, f) → (b : Bool) → is j ≡ b
                → (item_at k (list_in y).items ≡ Some (item_for k f)) × (id_in y k ≡ Some j)
            kept j k f h true g =
                let here = from-attached refs (now j) k f h in
                let name = d.same j g in
                let left : s ≡ k = some-is (sym a.start ∙ ap (λ i. (now i).start) (sym name) ∙ here.start) in
                let right : e ≡ f = some-is (sym a.end ∙ ap (λ i. (now i).end) (sym name) ∙ here.end) in (
                  found k ∙ ap (λ b. cond b (Some (item_for s e)) (item_at k (list_in x).items)) (eq-eqb s k left)
                      ∙ ap (λ (z : ℕ). Some (item_for z e)) left ∙ ap (λ (z : ℕ). Some (item_for k z)) right,
                  p.ids k ∙ ap (λ b. cond b (Some id) (id_in x k)) (eq-eqb s k left) ∙ ap (λ i. Some i) (sym name),
                )
            kept j k f h false g =
                let here = from-attached refs (now j) k f h in
                let old = l.listed j k f (ap (attached_ends refs) (sym (d.others j g)) ∙ h) in
                let other : nat_eq s k ≡ false = ne_eqb s k (λ q. true-false (ap is (once j id s (here.start ∙ ap (λ z. Some z) (sym q)) a.start) ∙ d.here) g) in (
                  found k ∙ ap (λ b. cond b (Some (item_for s e)) (item_at k (list_in x).items)) other ∙ old.0,
                  p.ids k ∙ ap (λ b. cond b (Some id) (id_in x k)) other ∙ old.1,
                )

-- ---- all ends move

module _ (n m : ℕ) (refs after : References) (has : Characters → EndPair ℕ) (x : Option LabelIndex) (E : ℕ → Type 0)
    (known : (id : Characters) (r : ℕ) → ((has id).start ≡ Some r) ⊎ ((has id).end ≡ Some r) → E r)
    (rises : (r s : ℕ) → E r → E s → IsWithin n (reference_place refs s) → IsAtMost (reference_place refs r) (reference_place refs s)
    → IsAtMost (reference_place after r) (reference_place after s))
    (inside : (r : ℕ) → E r → IsWithin n (reference_place refs r) → IsWithin m (reference_place after r))
    (together : (r s : ℕ) → E r → E s → IsWithin n (reference_place refs r) → IsWithin n (reference_place refs s)
    → is_some (reference_place refs r) ≡ is_some (reference_place refs s) → is_some (reference_place after r) ≡ is_some (reference_place after s))
    (gone : (r : ℕ) → E r → reference_place refs r ≡ None → reference_place after r ≡ None)
    (l : IsListed n refs has x) where
  -- what is known of an end of an item
  record IsKnownEnd (r : ℕ) : Type 0 where
    fact : E r
    within : IsWithin n (reference_place refs r)

  both-known : (k : ℕ) (y : Item) → item_at k (list_in x).items ≡ Some y → IsKnownEnd y.start × IsKnownEnd y.end
  both-known k y h =
      let w = l.only k y h in
      let start : y.start ≡ k = ap (λ (z : Item). z.start) w.item in
      let places = l.within k y h in (
        record { fact = known w.id y.start (inl (ap (λ (z : EndPair ℕ). z.start) w.ends ∙ ap (λ z. Some z) (sym start))); within = places.0 },
        record { fact = known w.id y.end (inr (ap (λ (z : EndPair ℕ). z.end) w.ends)); within = places.1 },
      )

  end-known : (r : ℕ) → IsEndIn (list_in x).items r → IsKnownEnd r
  end-known r e =
      let y = e.0 in
      let b = both-known y.key y (own (list_in x).items l.once y e.1) in
      elim e.2 [
        | inl p ↦ subst IsKnownEnd p b.0
        | inr p ↦ subst IsKnownEnd p b.1
      ]

  keeps : KeepsOrder (list_place refs) (list_place after) (list_in x).items
  keeps r s p q h =
      let a = end-known r p in
      let b = end-known s q in
      most-number (reference_place after r) (reference_place after s) (rises r s a.fact b.fact b.within (number-most (reference_place refs r) (reference_place refs s) h))

  was : (r : ℕ) → E r → is_some (reference_place after r) ≡ true → is_some (reference_place refs r) ≡ true
  was r e h = by (reference_place refs r) refl
    where
      by : (u : Option ℕ) → reference_place refs r ≡ u → is_some u ≡ true
      by (Some i) p = refl
      by None p = absurd (let never : false ≡ true = sym (ap (λ u. is_some u) (gone r e p)) ∙ h in cc never)

  -- where the ends keep their order, the index is that of the same intervals
  pub kept-listed : IsListed m after has x
  kept-listed = record {
    listed = λ id s e h. (let a = from-attached after (has id) s e h in l.listed id s e (to-attached refs (has id) s e (record {
      start = a.start;
      end = a.end;
      first = was s (known id s (inl a.start)) a.first;
      second = was e (known id e (inr a.end)) a.second;
    })));
    only = l.only;
    once = l.once;
    order = l.law (list_place refs) (list_place after) keeps l.order;
    law = l.law;
    within = λ k y h. (let b = both-known k y h in (inside y.start b.0.fact b.0.within, inside y.end b.1.fact b.1.within));
    together = λ k y h. (let b = both-known k y h in together y.start y.end b.0.fact b.1.fact b.0.within b.1.within (l.together k y h));
  }

-- the same where all places change by f
pub moved-listed : (n m : ℕ) (f : Option ℕ → Option ℕ) → KeepsEndOrder n m f → (refs after : References) (has : Characters → EndPair ℕ) (x : Option LabelIndex)
    → ((id : Characters) (r : ℕ) → ((has id).start ≡ Some r) ⊎ ((has id).end ≡ Some r) → reference_place after r
    ≡ f (reference_place refs r)) → IsListed n refs has x → IsListed m after has x
moved-listed n m f o refs after has x moved l =
    kept-listed n m refs after has x (λ r. reference_place after r ≡ f (reference_place refs r)) moved
    (λ r s e g w h. subst (λ u. IsAtMost u (reference_place after s)) (sym e)
    (subst (λ u. IsAtMost (f (reference_place refs r)) u) (sym g) (o.rises (reference_place refs r) (reference_place refs s) w h)))
    (λ r e w. subst (IsWithin m) (sym e) (o.within (reference_place refs r) w))
    (λ r s e g w v h. ap (λ u. is_some u) e ∙ o.together (reference_place refs r) (reference_place refs s) w v h ∙ sym (ap (λ u. is_some u) g))
    (λ r e h. e ∙ ap f h ∙ o.detached) l

-- ---- what an index asks of places

module _ (tree : TreeState TextContent) (n : ℕ) (has : Characters → EndPair ℕ) (x : Option LabelIndex) (usable : IsTrue tree.usable)
    (live : (id : Characters) → AreLiveEnds tree.refs (has id)) (l : IsListed n tree.refs has x) where
  live-both : (k : ℕ) (y : Item) → item_at k (list_in x).items ≡ Some y → IsReferenceIn tree.refs y.start × IsReferenceIn tree.refs y.end
  live-both k y h =
      let w = l.only k y h in
      let start : y.start ≡ k = ap (λ (z : Item). z.start) w.item in
      let both = subst (AreLiveEnds tree.refs) w.ends (live w.id) in
      (subst (IsReferenceIn tree.refs) (sym start) both.0, both.1)

  pub items-placed : n ≤ 9223372036854775808 → AreKnown (IsPlaced tree) (list_in x).items
  items-placed few = all-found (λ y. IsPlaced tree y.start × IsPlaced tree y.end) (list_in x).items l.once (λ k y h.
      (let a = live-both k y h in let b = l.within k y h in
      ((usable, a.0, within-more n 9223372036854775808 (reference_place tree.refs y.start) few b.0), (usable, a.1, within-more n 9223372036854775808 (reference_place tree.refs y.end) few b.1))))

  pub items-live : AreKnown (IsLiveIn tree) (list_in x).items
  items-live = all-found (λ y. IsLiveIn tree y.start × IsLiveIn tree y.end) (list_in x).items l.once (λ k y h. (let a = live-both k y h in ((usable, a.0), (usable, a.1))))

-- the ends of all items are within
pub ends-inside : (n : ℕ) (refs : References) (has : Characters → EndPair ℕ) (x : Option LabelIndex) → IsListed n refs has x
    → (r : ℕ) → IsEndIn (list_in x).items r → IsWithin n (reference_place refs r)
ends-inside n refs has x l r e =
    let w = l.within e.0.key e.0 (own (list_in x).items l.once e.0 e.1) in
    elim e.2 [
      | inl p ↦ subst (λ s. IsWithin n (reference_place refs s)) p w.0
      | inr p ↦ subst (λ s. IsWithin n (reference_place refs s)) p w.1
    ]
