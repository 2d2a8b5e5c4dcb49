-- References of an owner that go to another place one after another: those that are acknowledged.
use Rattle.std.proofs.Common.{◌≡◌, ◌≢◌, ℕ, suc, ◌+◌, ◌<◌, ◌≤◌, Bool, true, false, cond, ◌&&◌, nat_eq, List, [], ◌∷◌, ◌++◌, length, get_or, Option, Some, None, IsSome, option_map, subst, refl, sym, ◌∙◌, ap, inl, inr, arith, append-nil, append_assoc}
use Rattle.std.specs.Option.{ForSome}
use Rattle.std.proofs.lemmas.Bool.{cases_eq, eq-eqb, ne_eqb}
use Rattle.std.proofs.lemmas.Grind.{common_steps}
use Rattle.ft_arena.specs.Ids.{first, points, same, times}
use Rattle.ft_arena.proofs.IdLemmas.{same_other, same_refl}
use Rattle.ft_refs.specs.declared.numbers.Place.{Place}
use Rattle.ft_refs.specs.RefLists.{AllBelow, AreOn, ChangesOne, IsRefs, RefLists, entry, ids, next_of, owner_of_place, place_of_entry, place_of_reference, references_of, without_reference}
use Rattle.ft_refs.proofs.LoopLemmas.{Standing, count_from, live_at, next_behind, standing, taken}
use Rattle.ft_tree_blocks.specs.Anchors.{sent_place}

-- the entry of a reference that goes, if it is acknowledged and of this owner
abbrev pub sent : List Bool → ℕ → Option Place → ℕ → Option (Option Place) → Option (Option Place)
sent acked from to r q = option_map (sent_place (get_or acked r false) from to) q

-- none of these references is acknowledged
abbrev pub ArePending : List Bool → List (ℕ × ℕ) → Type 0
ArePending acked [] = Unit {0}
ArePending acked (x ∷ xs) = (get_or acked x.0 false ≡ false) × ArePending acked xs

-- so far those that are done are pending, the others went over, and the rest stands ahead
pub record Sends (acked : List Bool) (from : ℕ) (to : Option Place) (old v : RefLists) (ahead : Option ℕ) : Type 0 where
  pub done : List (ℕ × ℕ)
  pub rest : List (ℕ × ℕ)
  pub list : references_of v from ≡ done ++ rest
  pub starts : first (ids rest) ≡ ahead
  pub pending : ArePending acked done
  pub same_held : length v.lists ≡ length old.lists
  pub live : (r : ℕ) → IsSome (entry v r) → IsSome (entry old r)
  pub places : (r : ℕ) → sent acked from to r (entry v r) ≡ sent acked from to r (entry old r)
  pub sound : IsRefs v

pending-append : (acked : List Bool) (xs ys : List (ℕ × ℕ)) → ArePending acked xs → ArePending acked ys → ArePending acked (xs ++ ys)
pending-append acked [] ys h k = k
pending-append acked (x ∷ xs) ys h k = (h.0, pending-append acked xs ys h.1 k)

sent_by : (flag : Bool) (from : ℕ) (to : Option Place) (p : Place) → flag ≡ true → p.owner ≡ from → sent_place flag from to (Some p) ≡ to
sent_by flag from to p f e = ap (λ b. cond (b && nat_eq p.owner from) to (Some p)) f ∙ ap (λ b. cond b to (Some p)) (eq-eqb p.owner from e)

kept_other : (b : Bool) (from : ℕ) (to : Option Place) (p : Place) → nat_eq p.owner from ≡ false → cond (b && nat_eq p.owner from) to (Some p) ≡ Some p
kept_other true from to p e = ap (λ b. cond b to (Some p)) e
kept_other false from to p e = refl

-- what went over stays there
stays_there : (flag : Bool) (from : ℕ) (to : Option Place) → ForSome to (λ p. p.owner ≢ from) → sent_place flag from to to ≡ to
stays_there flag from None d = refl
stays_there flag from (Some p) d = kept_other flag from (Some p) p (ne_eqb p.owner from (d p refl))

kept_by : (flag : Bool) (from : ℕ) (to : Option Place) (q : Option (Option Place)) → ((p : Place) → q ≡ Some (Some p) → p.owner ≡ from → flag ≡ false)
    → option_map (sent_place flag from to) q ≡ q
kept_by flag from to None h = refl
kept_by flag from to (Some None) h = refl
kept_by flag from to (Some (Some p)) h = elim (cases_eq p.owner from) [
  | inl e ↦ ap (λ b. Some (cond (b && nat_eq p.owner from) to (Some p))) (h p refl e)
  | inr d ↦ ap Some (kept_other flag from to p (ne_eqb p.owner from d))
]

count_none : (xs : List (ℕ × ℕ)) → count_from None xs ≡ 0
count_none [] = refl
count_none (x ∷ xs) = refl

count_at : (done behind : List (ℕ × ℕ)) (r off : ℕ) → times (ids done) r ≡ 0 → count_from (Some r) (done ++ (r, off) ∷ behind) ≡ suc (length behind)
count_at [] behind r off h = grind (arith, common_steps)
count_at (x ∷ xs) behind r off h = elim (cases_eq x.0 r) [
  | inl e ↦ absurd (omega (arith, same_refl x.0, ap (same x.0) e))
  | inr n ↦ grind (arith, common_steps, count_at xs behind r off)
]

empty : (xs : List (ℕ × ℕ)) → first (ids xs) ≡ None → xs ≡ []
empty [] h = refl
empty (x ∷ xs) h = (cc)

module _ (acked : List Bool) (from : ℕ) (to : Option Place) (old : RefLists) where
  pub count_is : (v : RefLists) (ahead : Option ℕ) (k : Sends acked from to old v ahead) → count_from ahead (references_of v from) ≡ length k.rest
  count_is v None k = count_none (references_of v from) ∙ sym (ap length (empty k.rest k.starts))
  count_is v (Some r) k =
      let s = standing v from r k.done k.rest k.sound k.list k.starts in
      ap (count_from (Some r)) (k.list ∙ ap (λ zs. k.done ++ zs) s.1.is) ∙ count_at k.done s.1.behind r s.0 s.1.not_done ∙ sym (ap length s.1.is)

  pub ahead_live : (v : RefLists) (r : ℕ) → Sends acked from to old v (Some r) → IsSome (entry v r)
  ahead_live v r k = live_at v from r k.done k.rest k.sound k.list k.starts

  module _ (v : RefLists) (r : ℕ) (k : Sends acked from to old v (Some r)) (ahead : Option ℕ) (a : ahead ≡ next_of v r) where
    at : (offset : ℕ) × Standing v from r offset k.done k.rest
    at = standing v from r k.done k.rest k.sound k.list k.starts

    next_is : next_of v r ≡ first (ids at.1.behind)
    next_is = next_behind v from r at.0 k.done k.rest k.sound k.list at.1

    -- a pending reference stays
    pub sends_past : get_or acked r false ≡ false → Sends acked from to old v ahead
    sends_past f = record {
      done = k.done ++ (r, at.0) ∷ [];
      rest = at.1.behind;
      list = k.list ∙ ap (λ zs. k.done ++ zs) at.1.is ∙ sym (append_assoc k.done ((r, at.0) ∷ []) at.1.behind);
      starts = sym (a ∙ next_is);
      pending = pending-append acked k.done ((r, at.0) ∷ []) k.pending (f, tt);
      same_held = k.same_held;
      live = k.live;
      places = k.places;
      sound = k.sound;
    }

    pub past_shorter : get_or acked r false ≡ false → count_from ahead (references_of v from) < count_from (Some r) (references_of v from)
    unfolding sends_past
    past_shorter f =
        let e : length k.rest ≡ length ((r, at.0) ∷ at.1.behind) = ap length at.1.is in
        omega (arith, count_is v (Some r) k, count_is v ahead (sends_past f), e)

    -- an acknowledged one goes over
    module _ (new : RefLists) (f : get_or acked r false ≡ true) (differ : ForSome to (λ p. p.owner ≢ from)) (sound : IsRefs new)
        (others : (o : ℕ) → ForSome to (λ p. p.owner ≢ o) → references_of new o ≡ without_reference (references_of v o) r)
        (changes : ChangesOne v new r (Some to)) (same_held : length new.lists ≡ length v.lists) where
      went : (x : ℕ) → sent acked from to x (entry new x) ≡ sent acked from to x (entry v x)
      went x = elim (cases_eq x r) [
        | inl e ↦
            let here : sent acked from to r (entry new r) ≡ sent acked from to r (entry v r) =
            ap (sent acked from to r) changes.changed ∙ ap Some (stays_there (get_or acked r false) from to differ)
            ∙ sym (ap (sent acked from to r) at.1.stands ∙ ap Some (sent_by (get_or acked r false) from to (record { owner = from; offset = at.0 }) f refl)) in
            subst (λ (z : ℕ). sent acked from to z (entry new z) ≡ sent acked from to z (entry v z)) (sym e) here
        | inr d ↦ ap (sent acked from to x) (changes.others x d)
      ]

      live_before : (x : ℕ) → IsSome (entry new x) → IsSome (entry v x)
      live_before x h = elim (cases_eq x r) [
        | inl e ↦ subst (λ (z : ℕ). IsSome (entry v z)) (sym e) (ahead_live v r k)
        | inr d ↦ subst IsSome (changes.others x d) h
      ]

      pub sends_one : Sends acked from to old new ahead
      sends_one = record {
        done = k.done;
        rest = at.1.behind;
        list = others from differ ∙ taken v from r at.0 k.done k.rest k.sound k.list at.1;
        starts = sym (a ∙ next_is);
        pending = k.pending;
        same_held = same_held ∙ k.same_held;
        live = λ x h. k.live x (live_before x h);
        places = λ x. went x ∙ k.places x;
        sound = sound;
      }

      pub sent_shorter : count_from ahead (references_of new from) < count_from (Some r) (references_of v from)
      unfolding sends_one
      sent_shorter =
          let e : length k.rest ≡ length ((r, at.0) ∷ at.1.behind) = ap length at.1.is in
          omega (arith, count_is v (Some r) k, count_is new ahead sends_one, e)

  pending_in : (xs : List (ℕ × ℕ)) (r : ℕ) → ArePending acked xs → 1 ≤ times (ids xs) r → get_or acked r false ≡ false
  pending_in [] r h i = absurd (omega arith)
  pending_in (x ∷ xs) r h i = elim (cases_eq x.0 r) [
    | inl e ↦ sym (ap (λ z. get_or acked z false) e) ∙ h.0
    | inr d ↦ pending_in xs r h.1 (omega (arith, same_other x.0 r d))
  ]

  -- at the end all that are left on it are pending
  pub sends_all : (v : RefLists) → Sends acked from to old v None → (r : ℕ) → entry v r ≡ sent acked from to r (entry old r)
  sends_all v k r =
      let whole : references_of v from ≡ k.done = k.list ∙ ap (λ zs. k.done ++ zs) (empty k.rest k.starts) ∙ append-nil k.done in
      sym (kept_by (get_or acked r false) from to (entry v r) (λ p q e. pending_in k.done r k.pending (omega (
        arith,
        ap (λ zs. times (ids zs) r) whole,
        k.sound.once from r,
        ap (λ w. points (owner_of_place (place_of_entry w)) from) q,
        ap (λ w. points (Some w) from) e,
        same_refl from,
      ))))
      ∙ k.places r

-- each reference of an owner has its offset below a bound, once raised
pub all_below : (s : RefLists) (owner add bound : ℕ) (xs : List (ℕ × ℕ)) → AreOn s owner xs
    → ((r offset : ℕ) → place_of_reference s r ≡ Some record { owner = owner; offset = offset } → offset + add < bound) → AllBelow add bound xs
all_below s owner add bound [] on h = tt
all_below s owner add bound (x ∷ xs) on h = (h x.0 x.1 (ap place_of_entry on.0), all_below s owner add bound xs on.1 h)
