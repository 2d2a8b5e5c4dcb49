-- Lemmas on how the leaves of an arena lead to one another.
use Rattle.std.proofs.Common.{◌≡◌, ◌≢◌, ◌⊎◌, ℕ, zero, suc, ◌≤◌, List, [], ◌∷◌, length, Option, Some, None, refl, sym, ap, subst, ◌∙◌, inl, inr, arith}
use Rattle.std.proofs.lemmas.Bool.{cases_eq}
use Rattle.std.proofs.lemmas.Grind.{common_steps}
use Rattle.ft_arena.specs.Ids.{same, times, insert_after, without, first, after}
use Rattle.ft_arena.specs.Links.{walk, IsWalk, IsRing}
use Rattle.ft_arena.proofs.IdLemmas.{same_refl, same_other, insert_after_none}

pub same_place : (p q : Option ℕ) → (p ≡ q) ⊎ (p ≢ q)
same_place None None = inl refl
same_place None (Some y) = inr (λ e. cc)
same_place (Some x) None = inr (λ e. cc)
same_place (Some x) (Some y) = elim (cases_eq x y) [ inl e ↦ inl (ap Some e) | inr d ↦ inr (λ e. d (cc)) ]

pub insert_after_here : (ys : List ℕ) (at new : ℕ) → times (at ∷ ys) at ≡ 1 → insert_after (at ∷ ys) at new ≡ at ∷ new ∷ ys
insert_after_here ys at new h = grind (arith, common_steps, insert_after_none ys at new, same_refl at)

pub insert_after_later : (y : ℕ) (ys : List ℕ) (at new : ℕ) → y ≢ at → insert_after (y ∷ ys) at new ≡ y ∷ insert_after ys at new
insert_after_later y ys at new d = grind (arith, common_steps)

pub without_here : (ys : List ℕ) (x : ℕ) → without (x ∷ ys) x ≡ without ys x
without_here ys x = grind (arith, common_steps)

pub without_later : (y : ℕ) (ys : List ℕ) (x : ℕ) → y ≢ x → without (y ∷ ys) x ≡ y ∷ without ys x
without_later y ys x d = grind (arith, common_steps)

pub walk_is : (next : Option ℕ → Option ℕ) (n : ℕ) (at : Option ℕ) (xs : List ℕ) → IsWalk next at xs → length xs ≤ n → walk n next at ≡ xs
walk_is next zero at [] w h = refl
walk_is next zero at (x ∷ xs) w h = absurd (omega arith)
walk_is next (suc n) at [] w h = rw w refl
walk_is next (suc n) at (x ∷ xs) w h = rw w.0 (ap (λ t. x ∷ t) (walk_is next n (next (Some x)) xs w.1 (omega arith)))

pub IsWalk-first : (next : Option ℕ → Option ℕ) (at : Option ℕ) (xs : List ℕ) → IsWalk next at xs → at ≡ first xs
IsWalk-first next at [] w = w
IsWalk-first next at (x ∷ xs) w = w.0

pub IsWalk-after : (next : Option ℕ → Option ℕ) (at : Option ℕ) (xs : List ℕ) (x : ℕ) → IsWalk next at xs → 1 ≤ times xs x → next (Some x) ≡ after xs x
IsWalk-after next at [] x w h = absurd (omega arith)
IsWalk-after next at (y ∷ ys) x w h = elim (cases_eq y x) [
  | inl e ↦ let f = IsWalk-first next (next (Some y)) ys w.1 in grind (arith, common_steps, f)
  | inr d ↦ grind (arith, common_steps, same_other y x d, IsWalk-after next (next (Some y)) ys x w.1)
]

pub after_self : (xs : List ℕ) (x : ℕ) → times xs x ≤ 1 → after xs x ≢ Some x
after_self [] x h = λ e. cc
after_self (y ∷ ys) x h = elim (cases_eq y x) [
  | inl e ↦
      let one : same y x ≡ 1 = subst (λ (z : ℕ). same y z ≡ 1) e (same_refl y) in
      let a : after (y ∷ ys) x ≡ first ys = grind (arith, common_steps) in
      λ q. head ys (sym a ∙ q) (omega arith)
  | inr d ↦
      let a : after (y ∷ ys) x ≡ after ys x = grind (arith, common_steps) in
      λ q. after_self ys x (omega arith) (sym a ∙ q)
]
  where
    head : (ys : List ℕ) → first ys ≡ Some x → times ys x ≡ 0 → ⊥
    head [] e h = cc
    head (z ∷ zs) e h = let q : z ≡ x = cc in omega (arith, same_refl z, ap (same z) q)

pub IsWalk-other : (next next' : Option ℕ → Option ℕ) (at : Option ℕ) (xs : List ℕ)
    → ((x : ℕ) → 1 ≤ times xs x → next' (Some x) ≡ next (Some x)) → IsWalk next at xs
    → IsWalk next' at xs
IsWalk-other next next' at [] h w = w
IsWalk-other next next' at (y ∷ ys) h w =
    let here : next' (Some y) ≡ next (Some y) = h y (omega (arith, same_refl y)) in (
      w.0,
      subst (λ (q : Option ℕ). IsWalk next' q ys) (sym here) (IsWalk-other next next' (next (Some y)) ys (λ x p. h x (omega arith)) w.1),
    )

pub IsWalk-insert : (next next' : Option ℕ → Option ℕ) (at : Option ℕ) (xs : List ℕ) (a id : ℕ) → next' (Some a) ≡ Some id → next' (Some id) ≡ next (Some a)
    → ((x : ℕ) → x ≢ a → x ≢ id → next' (Some x) ≡ next (Some x)) → times xs a ≡ 1 → times xs id ≡ 0 → IsWalk next at xs
    → IsWalk next' at (insert_after xs a id)
IsWalk-insert next next' at [] a id ha hi ho once none w = w
IsWalk-insert next next' at (y ∷ ys) a id ha hi ho once none w = elim (cases_eq y a) [
  | inl e ↦
      let once_a : times (a ∷ ys) a ≡ 1 = subst (λ (z : ℕ). times (z ∷ ys) a ≡ 1) e once in
      let none_a : times (a ∷ ys) id ≡ 0 = subst (λ (z : ℕ). times (z ∷ ys) id ≡ 0) e none in
      let rest : IsWalk next' (next (Some a)) ys =
      IsWalk-other next next' (next (Some a)) ys (λ x p. ho x (λ e'. let q : 1 ≤ times ys a = subst (λ (z : ℕ). 1 ≤ times ys z) e' p in
      omega (arith, same_refl a)) (λ e'. let q : 1 ≤ times ys id = subst (λ (z : ℕ). 1 ≤ times ys z) e' p in omega arith))
      (subst (λ (z : ℕ). IsWalk next (next (Some z)) ys) e w.1) in
      let done : IsWalk next' at (a ∷ id ∷ ys) = (w.0 ∙ ap Some e, (ha, subst (λ (q : Option ℕ). IsWalk next' q ys) (sym hi) rest)) in
      subst (λ (z : ℕ). IsWalk next' at (insert_after (z ∷ ys) a id)) (sym e) (subst (λ (zs : List ℕ). IsWalk next' at zs) (sym (insert_after_here ys a id once_a)) done)
  | inr d ↦
      let not_id : y ≢ id = (λ e. omega (arith, same_refl y, ap (same y) e)) in
      let rest = IsWalk-insert next next' (next (Some y)) ys a id ha hi ho (omega (arith, same_other y a d)) (omega arith) w.1 in
      let done : IsWalk next' at (y ∷ insert_after ys a id) = (w.0, subst (λ (q : Option ℕ). IsWalk next' q (insert_after ys a id)) (sym (ho y d not_id)) rest) in
      subst (λ (zs : List ℕ). IsWalk next' at zs) (sym (insert_after_later y ys a id d)) done
]

pub IsWalk-without : (next next' : Option ℕ → Option ℕ) (at at' : Option ℕ) (xs : List ℕ) (id : ℕ)
    → ((x : ℕ) → 1 ≤ times xs x → x ≢ id → next (Some x) ≡ Some id → next' (Some x) ≡ next (Some id))
    → ((x : ℕ) → 1 ≤ times xs x → x ≢ id → next (Some x) ≢ Some id → next' (Some x) ≡ next (Some x))
    → (at ≡ Some id → at' ≡ next (Some id)) → (at ≢ Some id → at' ≡ at)
    → times xs id ≤ 1 → IsWalk next at xs → IsWalk next' at' (without xs id)
IsWalk-without next next' at at' [] id hs ho am ao once w = ao (λ e. cc) ∙ w
IsWalk-without next next' at at' (y ∷ ys) id hs ho am ao once w = elim (cases_eq y id) [
  | inl e ↦
      let rest : IsWalk next (next (Some id)) ys = subst (λ (z : ℕ). IsWalk next (next (Some z)) ys) e w.1 in
      let one : same y id ≡ 1 = subst (λ (z : ℕ). same y z ≡ 1) e (same_refl y) in
      let none : times ys id ≡ 0 = omega arith in
      let start : next (Some id) ≢ Some id = starts next (next (Some id)) ys id none rest in
      let here : at' ≡ next (Some id) = am (w.0 ∙ ap Some e) in
      let done : IsWalk next' at' (without ys id) =
      IsWalk-without next next' (next (Some id)) at' ys id (λ x p. hs x (omega arith)) (λ x p. ho x (omega arith)) (λ q. absurd (start q)) (λ _. here)
      (omega arith) rest in
      let eq : without (y ∷ ys) id ≡ without ys id = subst (λ (z : ℕ). without (z ∷ ys) id ≡ without ys id) (sym e) (without_here ys id) in
      subst (λ (zs : List ℕ). IsWalk next' at' zs) (sym eq) done
  | inr d ↦
      let rest : IsWalk next' (next' (Some y)) (without ys id) =
      IsWalk-without next next' (next (Some y)) (next' (Some y)) ys id (λ x p. hs x (omega arith)) (λ x p. ho x (omega arith))
      (hs y (omega (arith, same_refl y)) d) (ho y (omega (arith, same_refl y)) d) (omega arith) w.1 in
      let not : at ≢ Some id = (λ q. d (cc (w.0, q))) in
      let done : IsWalk next' at' (y ∷ without ys id) = (ao not ∙ w.0, rest) in
      subst (λ (zs : List ℕ). IsWalk next' at' zs) (sym (without_later y ys id d)) done
]
  where
    starts : (next : Option ℕ → Option ℕ) (at : Option ℕ) (ys : List ℕ) (id : ℕ) → times ys id ≡ 0 → IsWalk next at ys → at ≢ Some id
    starts next at [] id none w = λ e. cc
    starts next at (z ∷ zs) id none w = λ e. let q : z ≡ id = cc (w.0, e) in omega (arith, same_refl z, ap (same z) q)

pub IsRing-insert : (live : Option ℕ → ℕ) (next prev : Option ℕ → Option ℕ) (live' : Option ℕ → ℕ) (next' prev' : Option ℕ → Option ℕ) (at new : Option ℕ)
    → IsRing live next prev → live at ≡ 1 → live new ≡ 0 → live' new ≡ 1 → ((p : Option ℕ) → p ≢ new → live' p ≡ live p) → next' at ≡ new → next' new ≡ next at
    → ((p : Option ℕ) → p ≢ at → p ≢ new → next' p ≡ next p) → prev' (next at) ≡ new → prev' new ≡ at
    → ((p : Option ℕ) → p ≢ next at → p ≢ new → prev' p ≡ prev p)
    → IsRing live' next' prev'
IsRing-insert live next prev live' next' prev' at new r here fresh l lo n nn nr p pn po =
    record {
      next_live = λ q h. elim (same_place q new) [
        | inl e ↦ grind (arith, e, nn, r.next_live at here, lo (next at), fresh)
        | inr d ↦ elim (same_place q at) [
          | inl e ↦ grind (arith, e, n, l)
          | inr a ↦ grind (arith, nr q a d, r.next_live q, lo q d, lo (next q), fresh)
        ]
      ];
      prev_live = λ q h. elim (same_place q new) [
        | inl e ↦ grind (arith, e, pn, here, lo at, fresh)
        | inr d ↦ elim (same_place q (next at)) [
          | inl e ↦ grind (arith, e, p, l)
          | inr a ↦ grind (arith, po q a d, r.prev_live q, lo q d, lo (prev q), fresh)
        ]
      ];
      back = λ q h. elim (same_place q new) [
        | inl e ↦ cc
        | inr d ↦ elim (same_place q at) [
          | inl e ↦ cc
          | inr a ↦
              let lq : live q ≡ 1 = sym (lo q d) ∙ h in
              let far : next q ≢ next at = (λ e. a (sym (r.back q lq) ∙ ap prev e ∙ r.back at here)) in
              let old : next q ≢ new = (λ e. omega (arith, r.next_live q lq, fresh, ap live e)) in
              ap prev' (nr q a d) ∙ po (next q) far old ∙ r.back q lq
        ]
      ];
      forth = λ q h. elim (same_place q new) [
        | inl e ↦ cc
        | inr d ↦ elim (same_place q (next at)) [
          | inl e ↦ cc
          | inr a ↦
              let lq : live q ≡ 1 = sym (lo q d) ∙ h in
              let far : prev q ≢ at = (λ e. a (sym (r.forth q lq) ∙ ap next e)) in
              let old : prev q ≢ new = (λ e. omega (arith, r.prev_live q lq, fresh, ap live e)) in
              ap next' (po q a d) ∙ nr (prev q) far old ∙ r.forth q lq
        ]
      ];
    }

pub IsRing-without : (live : Option ℕ → ℕ) (next prev : Option ℕ → Option ℕ) (live' : Option ℕ → ℕ) (next' prev' : Option ℕ → Option ℕ) (gone : Option ℕ)
    → IsRing live next prev → live gone ≡ 1 → next gone ≢ gone → live' gone ≡ 0 → ((p : Option ℕ) → p ≢ gone → live' p ≡ live p) → next' (prev gone) ≡ next gone
    → ((p : Option ℕ) → p ≢ prev gone → p ≢ gone → next' p ≡ next p) → prev' (next gone) ≡ prev gone
    → ((p : Option ℕ) → p ≢ next gone → p ≢ gone → prev' p ≡ prev p)
    → IsRing live' next' prev'
IsRing-without live next prev live' next' prev' gone r here apart dead lo n nr p po =
    let apart' : prev gone ≢ gone = (λ e. apart (ap next (sym e) ∙ r.forth gone here)) in
    record {
      next_live = λ q h. elim (same_place q gone) [
        | inl e ↦ absurd (omega (arith, ap live' e, dead))
        | inr d ↦
            let lq : live q ≡ 1 = sym (lo q d) ∙ h in
            elim (same_place q (prev gone)) [
              | inl e ↦ ap (λ z. live' (next' z)) e ∙ ap live' n ∙ lo (next gone) apart ∙ r.next_live gone here
              | inr a ↦
                  let far : next q ≢ gone = (λ e. a (sym (r.back q lq) ∙ ap prev e)) in
                  ap live' (nr q a d) ∙ lo (next q) far ∙ r.next_live q lq
            ]
      ];
      prev_live = λ q h. elim (same_place q gone) [
        | inl e ↦ absurd (omega (arith, ap live' e, dead))
        | inr d ↦
            let lq : live q ≡ 1 = sym (lo q d) ∙ h in
            elim (same_place q (next gone)) [
              | inl e ↦ ap (λ z. live' (prev' z)) e ∙ ap live' p ∙ lo (prev gone) apart' ∙ r.prev_live gone here
              | inr a ↦
                  let far : prev q ≢ gone = (λ e. a (sym (r.forth q lq) ∙ ap next e)) in
                  ap live' (po q a d) ∙ lo (prev q) far ∙ r.prev_live q lq
            ]
      ];
      back = λ q h. elim (same_place q gone) [
        | inl e ↦ absurd (omega (arith, ap live' e, dead))
        | inr d ↦
            let lq : live q ≡ 1 = sym (lo q d) ∙ h in
            elim (same_place q (prev gone)) [
              | inl e ↦ ap (λ z. prev' (next' z)) e ∙ ap prev' n ∙ p ∙ sym e
              | inr a ↦
                  let far : next q ≢ gone = (λ e. a (sym (r.back q lq) ∙ ap prev e)) in
                  let farther : next q ≢ next gone = (λ e. d (sym (r.back q lq) ∙ ap prev e ∙ r.back gone here)) in
                  ap prev' (nr q a d) ∙ po (next q) farther far ∙ r.back q lq
            ]
      ];
      forth = λ q h. elim (same_place q gone) [
        | inl e ↦ absurd (omega (arith, ap live' e, dead))
        | inr d ↦
            let lq : live q ≡ 1 = sym (lo q d) ∙ h in
            elim (same_place q (next gone)) [
              | inl e ↦ ap (λ z. next' (prev' z)) e ∙ ap next' p ∙ n ∙ sym e
              | inr a ↦
                  let far : prev q ≢ gone = (λ e. a (sym (r.forth q lq) ∙ ap next e)) in
                  let farther : prev q ≢ prev gone = (λ e. d (sym (r.forth q lq) ∙ ap next e ∙ r.forth gone here)) in
                  ap next' (po q a d) ∙ nr (prev q) farther far ∙ r.forth q lq
            ]
      ];
    }
