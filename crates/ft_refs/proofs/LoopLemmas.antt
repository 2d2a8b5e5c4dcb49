-- Lemmas on references that go to another owner one after another.
use Rattle.std.proofs.Common.{◌≡◌, ◌≢◌, ℕ, suc, ◌+◌, ◌-◌, ◌<◌, ◌≤◌, ◌^◌, ◌++◌, cond, nat_eq, List, [], ◌∷◌, length, Option, Some, None, IsSome, refl, sym, ap, subst, ◌∙◌, inl, inr, arith}
use Rattle.std.proofs.lemmas.Bool.{cases_eq}
use Rattle.std.proofs.lemmas.Grind.{common_steps}
use Rattle.std.proofs.lemmas.List.{append_assoc, append-nil}
use Rattle.std.specs.Option.{option_map, option_and_then}
use Rattle.ft_arena.specs.Ids.{same, times, points, first, after}
use Rattle.ft_arena.proofs.IdLemmas.{same_refl, same_other}
use Rattle.ft_refs.specs.declared.numbers.Place.{Place}
use Rattle.ft_refs.specs.RefLists.{RefLists, entry, references_of, ids, ids_of, place_of_entry, owner_of_place, owner_of, offset_of, next_of, without_reference, AreOn, IsRefs, ChangesOne, below, from_on, raised, split_place, raised_place, AllBelow}
use Rattle.ft_refs.proofs.ListLemmas.{without_absent}

pub times-ids : (xs ys : List (ℕ × ℕ)) (r : ℕ) → times (ids (xs ++ ys)) r ≡ times (ids xs) r + times (ids ys) r
times-ids [] ys r = omega arith
times-ids (x ∷ xs) ys r = omega (arith, times-ids xs ys r)

on_rest : (v : RefLists) (o : ℕ) (done rest : List (ℕ × ℕ)) → AreOn v o (done ++ rest) → AreOn v o rest
on_rest v o [] rest h = h
on_rest v o (x ∷ xs) rest h = on_rest v o xs rest h.1

-- what is ahead begins with this reference
pub record Standing (v : RefLists) (from r off : ℕ) (done rest : List (ℕ × ℕ)) : Type 0 where
  pub behind : List (ℕ × ℕ)
  pub is : rest ≡ (r, off) ∷ behind
  pub stands : entry v r ≡ Some (Some record { owner = from; offset = off })
  pub not_done : times (ids done) r ≡ 0
  pub not_behind : times (ids behind) r ≡ 0

pub standing : (v : RefLists) (from r : ℕ) (done rest : List (ℕ × ℕ)) → IsRefs v → references_of v from ≡ done ++ rest
    → first (ids rest) ≡ Some r → (off : ℕ) × Standing v from r off done rest
standing v from r done [] f l h = cc
standing v from r done (x ∷ xs) f l h =
    let e : x.0 ≡ r = cc in
    let on : AreOn v from (x ∷ xs) = on_rest v from done (x ∷ xs) (subst (λ (zs : List (ℕ × ℕ)). AreOn v from zs) l (f.on from)) in
    let here : entry v r ≡ Some (Some record { owner = from; offset = x.1 }) = subst (λ (z : ℕ). entry v z ≡ Some (Some record { owner = from; offset = x.1 })) e on.0 in
    let one : times (ids (done ++ x ∷ xs)) r ≡ 1 = ap (λ zs. times (ids zs) r) (sym l) ∙ f.once from r
    ∙ ap (λ q. points (owner_of_place (place_of_entry q)) from) here ∙ same_refl from in
    let s : same x.0 r ≡ 1 = subst (λ (z : ℕ). same z r ≡ 1) (sym e) (same_refl r) in (
      x.1,
      record { behind = xs; is = ap (λ z. (z, x.1) ∷ xs) e; stands = here; not_done = omega (arith, times-ids done (x ∷ xs) r, one, s); not_behind = omega (arith, times-ids done (x ∷ xs) r, one, s) },
    )

pub offset_some : (v : RefLists) (from r : ℕ) (done rest : List (ℕ × ℕ)) → IsRefs v → references_of v from ≡ done ++ rest
    → first (ids rest) ≡ Some r → IsSome (offset_of v r)
offset_some v from r done rest f l h = let s = standing v from r done rest f l h in rw s.1.stands refl

pub live_at : (v : RefLists) (from r : ℕ) (done rest : List (ℕ × ℕ)) → IsRefs v → references_of v from ≡ done ++ rest
    → first (ids rest) ≡ Some r → IsSome (entry v r)
live_at v from r done rest f l h = let s = standing v from r done rest f l h in rw s.1.stands refl

-- the same with the offset that was read
pub standing_at : (v : RefLists) (from r off : ℕ) (done rest : List (ℕ × ℕ)) → IsRefs v → references_of v from ≡ done ++ rest
    → first (ids rest) ≡ Some r → offset_of v r ≡ Some off → Standing v from r off done rest
standing_at v from r off done rest f l h o =
    let s = standing v from r done rest f l h in
    let q : Some s.0 ≡ Some off = sym (rw s.1.stands refl) ∙ o in
    let e : s.0 ≡ off = cc in
    subst (λ (z : ℕ). Standing v from r z done rest) e s.1

without-append : (done behind : List (ℕ × ℕ)) (r off : ℕ) → times (ids done) r ≡ 0 → times (ids behind) r ≡ 0
    → without_reference (done ++ (r, off) ∷ behind) r ≡ done ++ behind
without-append [] behind r off d b = grind (arith, common_steps, without_absent behind r b)
without-append (x ∷ xs) behind r off d b = elim (cases_eq x.0 r) [
  | inl e ↦ absurd (omega (arith, same_refl x.0, ap (same x.0) e))
  | inr n ↦ grind (arith, common_steps, without-append xs behind r off)
]

after-append : (done behind : List (ℕ × ℕ)) (r off : ℕ) → times (ids done) r ≡ 0 → after (ids (done ++ (r, off) ∷ behind)) r ≡ first (ids behind)
after-append [] behind r off d = grind (arith, common_steps)
after-append (x ∷ xs) behind r off d = elim (cases_eq x.0 r) [
  | inl e ↦ absurd (omega (arith, same_refl x.0, ap (same x.0) e))
  | inr n ↦ grind (arith, common_steps, after-append xs behind r off)
]

module _ (v : RefLists) (from r off : ℕ) (done rest : List (ℕ × ℕ)) (f : IsRefs v) (l : references_of v from ≡ done ++ rest)
    (s : Standing v from r off done rest) where
  whole : references_of v from ≡ done ++ (r, off) ∷ s.behind
  whole = l ∙ ap (λ zs. done ++ zs) s.is

  pub taken : without_reference (references_of v from) r ≡ done ++ s.behind
  taken = ap (λ zs. without_reference zs r) whole ∙ without-append done s.behind r off s.not_done s.not_behind

  pub elsewhere : (o : ℕ) → o ≢ from → without_reference (references_of v o) r ≡ references_of v o
  elsewhere o d = without_absent (references_of v o) r (f.once o r ∙ ap (λ q. points (owner_of_place (place_of_entry q)) o) s.stands ∙ same_other from o (λ e. d (sym e)))

  pub next_behind : next_of v r ≡ first (ids s.behind)
  next_behind = ap (λ q. option_and_then (λ o. after (ids_of v o) r) (owner_of_place (place_of_entry q))) s.stands
      ∙ ap (λ zs. after (ids zs) r) whole ∙ after-append done s.behind r off s.not_done

-- a change of each place
abbrev pub each_place : (Place → Place) → Option (Option Place) → Option (Option Place)
each_place g q = option_map (option_map g) q

-- one reference went to another owner, where the change no more moves it
pub refs_step : (g : Place → Place) (old v new : RefLists) (r : ℕ) (p q : Place) → entry v r ≡ Some (Some p)
    → ChangesOne v new r (Some (Some q)) → g p ≡ q → g q ≡ q → ((x : ℕ) → each_place g (entry v x) ≡ each_place g (entry old x)) → (x : ℕ)
    → each_place g (entry new x) ≡ each_place g (entry old x)
refs_step g old v new r p q was c gp gq h x = elim (cases_eq x r) [
  | inl e ↦
      let k : each_place g (entry new r) ≡ each_place g (entry v r) = ap (each_place g) c.changed ∙ ap (λ z. Some (Some z)) (gq ∙ sym gp) ∙ sym (ap (each_place g) was) in
      subst (λ (z : ℕ). each_place g (entry new z) ≡ each_place g (entry old z)) (sym e) (k ∙ h r)
  | inr d ↦ ap (each_place g) (c.others x d) ∙ h x
]

pub raised_from : (from to add off : ℕ) → raised_place from to add record { owner = from; offset = off } ≡ record { owner = to; offset = off + add }
raised_from from to add off = grind (arith, common_steps)

pub raised_to : (from to add off : ℕ) → to ≢ from → raised_place from to add record { owner = to; offset = off } ≡ record { owner = to; offset = off }
raised_to from to add off d = grind (arith, common_steps)

pub split_from : (from at to off : ℕ) → at ≤ off → split_place from at to record { owner = from; offset = off } ≡ record { owner = to; offset = off - at }
split_from from at to off h = grind (arith, common_steps)

pub split_to : (from at to off : ℕ) → to ≢ from → split_place from at to record { owner = to; offset = off } ≡ record { owner = to; offset = off }
split_to from at to off d = grind (arith, common_steps)

-- so far some references went over, and the rest stands ahead
pub record Splices (old v : RefLists) (from to add : ℕ) : Type 0 where
  pub same_held : length v.lists ≡ length old.lists
  pub lists : references_of v to ++ raised add (references_of v from) ≡ references_of old to ++ raised add (references_of old from)
  pub others : (o : ℕ) → o ≢ from → o ≢ to → references_of v o ≡ references_of old o
  pub refs : (r : ℕ) → each_place (raised_place from to add) (entry v r) ≡ each_place (raised_place from to add) (entry old r)
  pub fits : AllBelow add (2 ^ 64) (references_of v from)

module _ (old v new : RefLists) (from to add r off : ℕ) (f : IsRefs v) (h : first (ids_of v from) ≡ Some r) (o : offset_of v r ≡ Some off)
    (differ : to ≢ from) (k : Splices old v from to add) where
  s : Standing v from r off [] (references_of v from)
  s = standing_at v from r off [] (references_of v from) f refl h o

  pub splice_fits : off + add < 2 ^ 64
  splice_fits = (subst (λ (zs : List (ℕ × ℕ)). AllBelow add (2 ^ 64) zs) s.is k.fits).0

  module _ (list : references_of new to ≡ without_reference (references_of v to) r ++ (r, off + add) ∷ [])
      (others : (o : ℕ) → o ≢ to → references_of new o ≡ without_reference (references_of v o) r)
      (changes : ChangesOne v new r (Some (Some record { owner = to; offset = off + add })))
      (same_held : length new.lists ≡ length v.lists) where
    from_new : references_of new from ≡ s.behind
    from_new = others from (λ e. differ (sym e)) ∙ taken v from r off [] (references_of v from) f refl s

    pub splice_shorter : length (references_of new from) < length (references_of v from)
    splice_shorter = let a : length (references_of v from) ≡ length ((r, off) ∷ s.behind) = ap length s.is in
        let b : length (references_of new from) ≡ length s.behind = ap length from_new in omega (arith, a, b)

    pub splice_step : Splices old new from to add
    splice_step =
        record {
          same_held = same_held ∙ k.same_held;
          lists =
              ap (λ zs. zs ++ raised add (references_of new from)) list ∙ ap (λ zs. (without_reference (references_of v to) r ++ (r, off + add) ∷ []) ++ raised add zs) from_new
              ∙ append_assoc (without_reference (references_of v to) r) ((r, off + add) ∷ []) (raised add s.behind)
              ∙ ap (λ zs. zs ++ raised add ((r, off) ∷ s.behind)) (elsewhere v from r off [] (references_of v from) f refl s to differ)
              ∙ ap (λ zs. references_of v to ++ raised add zs) (sym s.is) ∙ k.lists;
          others = λ o a b. others o b ∙ elsewhere v from r off [] (references_of v from) f refl s o a ∙ k.others o a b;
          refs = refs_step (raised_place from to add) old v new r _ _ s.stands changes (raised_from from to add off) (raised_to from to add (off + add) differ) k.refs;
          fits = subst (λ (zs : List (ℕ × ℕ)). AllBelow add (2 ^ 64) zs) (sym from_new) (subst (λ (zs : List (ℕ × ℕ)). AllBelow add (2 ^ 64) zs) s.is k.fits).1;
        }

empty : (xs : List (ℕ × ℕ)) → ((r : ℕ) → first (ids xs) ≢ Some r) → xs ≡ []
empty [] h = refl
empty (x ∷ xs) h = absurd (h x.0 refl)

not_on : (v : RefLists) (from r : ℕ) → IsRefs v → references_of v from ≡ [] → owner_of v r ≢ Some from
not_on v from r f l h = omega (arith, ap (λ zs. times (ids zs) r) l, f.once from r, ap (λ q. points q from) h, same_refl from)

raised_stays : (from to add : ℕ) (q : Option (Option Place)) → owner_of_place (place_of_entry q) ≢ Some from → each_place (raised_place from to add) q ≡ q
raised_stays from to add None h = refl
raised_stays from to add (Some None) h = refl
raised_stays from to add (Some (Some p)) h = elim (cases_eq p.owner from) [
  | inl e ↦ absurd (h (ap Some e))
  | inr d ↦ grind (arith, common_steps)
]

module _ (old v : RefLists) (from to add : ℕ) (f : IsRefs v) (h : (r : ℕ) → first (ids_of v from) ≢ Some r) (k : Splices old v from to add) where
  pub splice_from : references_of v from ≡ []
  splice_from = empty (references_of v from) h

  pub splice_to : references_of v to ≡ references_of old to ++ raised add (references_of old from)
  splice_to = sym (append-nil (references_of v to)) ∙ ap (λ zs. references_of v to ++ raised add zs) (sym splice_from) ∙ k.lists

  pub splice_refs : (r : ℕ) → entry v r ≡ each_place (raised_place from to add) (entry old r)
  splice_refs r = sym (raised_stays from to add (entry v r) (not_on v from r f splice_from)) ∙ k.refs r

-- each offset of the list is below this one
abbrev pub AllLow : ℕ → List (ℕ × ℕ) → Type 0
AllLow at [] = Unit {0}
AllLow at (x ∷ xs) = (x.1 < at) × AllLow at xs

-- so far the references that are done stay, some went over, and the rest stands ahead
pub record Splits (old v : RefLists) (from at to : ℕ) (ahead : Option ℕ) : Type 0 where
  pub done : List (ℕ × ℕ)
  pub rest : List (ℕ × ℕ)
  pub list : references_of v from ≡ done ++ rest
  pub starts : first (ids rest) ≡ ahead
  pub low : AllLow at done
  pub same_held : length v.lists ≡ length old.lists
  pub kept : done ++ below at rest ≡ below at (references_of old from)
  pub moved : references_of v to ++ from_on at rest ≡ references_of old to ++ from_on at (references_of old from)
  pub others : (o : ℕ) → o ≢ from → o ≢ to → references_of v o ≡ references_of old o
  pub refs : (r : ℕ) → each_place (split_place from at to) (entry v r) ≡ each_place (split_place from at to) (entry old r)
  pub sound : IsRefs v

low-append : (at : ℕ) (xs ys : List (ℕ × ℕ)) → AllLow at xs → AllLow at ys → AllLow at (xs ++ ys)
low-append at [] ys h k = k
low-append at (x ∷ xs) ys h k = (h.0, low-append at xs ys h.1 k)

below_low : (at r off : ℕ) (xs : List (ℕ × ℕ)) → off < at → below at ((r, off) ∷ xs) ≡ (r, off) ∷ below at xs
below_low at r off xs h = grind (arith, common_steps)

below_high : (at r off : ℕ) (xs : List (ℕ × ℕ)) → at ≤ off → below at ((r, off) ∷ xs) ≡ below at xs
below_high at r off xs h = grind (arith, common_steps)

from_low : (at r off : ℕ) (xs : List (ℕ × ℕ)) → off < at → from_on at ((r, off) ∷ xs) ≡ from_on at xs
from_low at r off xs h = grind (arith, common_steps)

from_high : (at r off : ℕ) (xs : List (ℕ × ℕ)) → at ≤ off → from_on at ((r, off) ∷ xs) ≡ (r, off - at) ∷ from_on at xs
from_high at r off xs h = grind (arith, common_steps)

-- how many references stand from this one on
abbrev pub count_from : Option ℕ → List (ℕ × ℕ) → ℕ
count_from ahead [] = 0
count_from None (x ∷ xs) = 0
count_from (Some r) (x ∷ xs) = cond (nat_eq x.0 r) (suc (length xs)) (count_from (Some r) xs)

count_none : (xs : List (ℕ × ℕ)) → count_from None xs ≡ 0
count_none [] = refl
count_none (x ∷ xs) = refl

count_at : (done behind : List (ℕ × ℕ)) (r off : ℕ) → times (ids done) r ≡ 0 → count_from (Some r) (done ++ (r, off) ∷ behind) ≡ suc (length behind)
count_at [] behind r off h = grind (arith, common_steps)
count_at (x ∷ xs) behind r off h = elim (cases_eq x.0 r) [
  | inl e ↦ absurd (omega (arith, same_refl x.0, ap (same x.0) e))
  | inr n ↦ grind (arith, common_steps, count_at xs behind r off)
]

-- that is the rest
pub count_is : (old v : RefLists) (from at to : ℕ) (ahead : Option ℕ) (k : Splits old v from at to ahead)
    → count_from ahead (references_of v from) ≡ length k.rest
count_is old v from at to None k =
    let e : k.rest ≡ [] = empty k.rest (λ r q. let z : None ≡ Some r = sym k.starts ∙ q in cc) in
    count_none (references_of v from) ∙ sym (ap length e)
count_is old v from at to (Some r) k =
    let s = standing v from r k.done k.rest k.sound k.list k.starts in
    ap (count_from (Some r)) (k.list ∙ ap (λ zs. k.done ++ zs) s.1.is) ∙ count_at k.done s.1.behind r s.0 s.1.not_done ∙ sym (ap length s.1.is)

module _ (old v : RefLists) (from at to r off : ℕ) (o : offset_of v r ≡ Some off) (k : Splits old v from at to (Some r)) (ahead : Option ℕ)
    (a : ahead ≡ next_of v r) where
  t : Standing v from r off k.done k.rest
  t = standing_at v from r off k.done k.rest k.sound k.list k.starts o

  next_is : next_of v r ≡ first (ids t.behind)
  next_is = next_behind v from r off k.done k.rest k.sound k.list t

  -- a reference below the offset stays
  pub split_stays : off < at → Splits old v from at to ahead
  split_stays h =
      record {
        done = k.done ++ (r, off) ∷ [];
        rest = t.behind;
        list = k.list ∙ ap (λ zs. k.done ++ zs) t.is ∙ sym (append_assoc k.done ((r, off) ∷ []) t.behind);
        starts = sym (a ∙ next_is);
        low = low-append at k.done ((r, off) ∷ []) k.low (h, tt);
        same_held = k.same_held;
        kept = append_assoc k.done ((r, off) ∷ []) (below at t.behind) ∙ ap (λ zs. k.done ++ zs) (sym (below_low at r off t.behind h) ∙ ap (below at) (sym t.is)) ∙ k.kept;
        moved = ap (λ zs. references_of v to ++ zs) (sym (from_low at r off t.behind h) ∙ ap (from_on at) (sym t.is)) ∙ k.moved;
        others = k.others;
        refs = k.refs;
        sound = k.sound;
      }

  pub stays_shorter : off < at → count_from ahead (references_of v from) < count_from (Some r) (references_of v from)
  unfolding split_stays
  stays_shorter h = let e : length k.rest ≡ length ((r, off) ∷ t.behind) = ap length t.is in omega (arith, count_is old v from at to (Some r) k, count_is old v from at to ahead (split_stays h), e)

  -- one at or above it goes over
  module _ (new : RefLists) (differ : to ≢ from) (h : at ≤ off) (f : IsRefs new) (list : references_of new to ≡ without_reference (references_of v to) r ++ (r, off - at) ∷ []) (others : (o : ℕ) → o ≢ to → references_of new o ≡ without_reference (references_of v o) r) (changes : ChangesOne v new r (Some (Some record { owner = to; offset = off - at }))) (same_held : length new.lists ≡ length v.lists) where
    pub split_goes : Splits old new from at to ahead
    split_goes =
        record {
          done = k.done;
          rest = t.behind;
          list = others from (λ e. differ (sym e)) ∙ taken v from r off k.done k.rest k.sound k.list t;
          starts = sym (a ∙ next_is);
          low = k.low;
          same_held = same_held ∙ k.same_held;
          kept = ap (λ zs. k.done ++ zs) (sym (below_high at r off t.behind h) ∙ ap (below at) (sym t.is)) ∙ k.kept;
          moved =
              ap (λ zs. zs ++ from_on at t.behind) list ∙ append_assoc (without_reference (references_of v to) r) ((r, off - at) ∷ []) (from_on at t.behind)
              ∙ ap (λ zs. zs ++ (r, off - at) ∷ from_on at t.behind) (elsewhere v from r off k.done k.rest k.sound k.list t to differ)
              ∙ ap (λ zs. references_of v to ++ zs) (sym (from_high at r off t.behind h) ∙ ap (from_on at) (sym t.is)) ∙ k.moved;
          others = λ o a b. others o b ∙ elsewhere v from r off k.done k.rest k.sound k.list t o a ∙ k.others o a b;
          refs = refs_step (split_place from at to) old v new r _ _ t.stands changes (split_from from at to off h) (split_to from at to (off - at) differ) k.refs;
          sound = f;
        }

    pub goes_shorter : count_from ahead (references_of new from) < count_from (Some r) (references_of v from)
    unfolding split_goes
    goes_shorter = let e : length k.rest ≡ length ((r, off) ∷ t.behind) = ap length t.is in omega (arith, count_is old v from at to (Some r) k, count_is old new from at to ahead split_goes, e)

abbrev offset_in : Option (Option Place) → ℕ
offset_in None = 0
offset_in (Some None) = 0
offset_in (Some (Some p)) = p.offset

low_in : (v : RefLists) (from at r : ℕ) (p : Place) (xs : List (ℕ × ℕ)) → AreOn v from xs → AllLow at xs → 1 ≤ times (ids xs) r
    → entry v r ≡ Some (Some p) → p.offset < at
low_in v from at r p [] on low i h = absurd (omega arith)
low_in v from at r p (x ∷ xs) on low i h = elim (cases_eq x.0 r) [
  | inl e ↦
      let q : Some (Some record { owner = from; offset = x.1 }) ≡ Some (Some p) = sym on.0 ∙ ap (entry v) e ∙ h in
      let z : x.1 ≡ p.offset = ap (λ w. offset_in w) q in
      omega (arith, z, low.0)
  | inr d ↦ low_in v from at r p xs on.1 low.1 (omega (arith, same_other x.0 r d)) h
]

split_keeps : (from at to : ℕ) (q : Option (Option Place)) → ((p : Place) → q ≡ Some (Some p) → p.owner ≡ from → p.offset < at)
    → each_place (split_place from at to) q ≡ q
split_keeps from at to None h = refl
split_keeps from at to (Some None) h = refl
split_keeps from at to (Some (Some p)) h = elim (cases_eq p.owner from) [
  | inl e ↦ let l : p.offset < at = h p refl e in grind (arith, common_steps)
  | inr d ↦ grind (arith, common_steps)
]

module _ (old v : RefLists) (from at to : ℕ) (k : Splits old v from at to None) where
  nothing : k.rest ≡ []
  nothing = empty k.rest (λ r q. let z : None ≡ Some r = sym k.starts ∙ q in cc)

  whole_done : references_of v from ≡ k.done
  whole_done = k.list ∙ ap (λ zs. k.done ++ zs) nothing ∙ append-nil k.done

  pub split_from_list : references_of v from ≡ below at (references_of old from)
  split_from_list = k.list ∙ ap (λ zs. k.done ++ zs) (nothing ∙ sym (ap (below at) nothing)) ∙ k.kept

  pub split_to_list : references_of v to ≡ references_of old to ++ from_on at (references_of old from)
  split_to_list = sym (append-nil (references_of v to)) ∙ ap (λ zs. references_of v to ++ zs) (sym (ap (from_on at) nothing)) ∙ k.moved

  pub split_refs : (r : ℕ) → entry v r ≡ each_place (split_place from at to) (entry old r)
  split_refs r =
      sym (split_keeps from at to (entry v r) (λ p q e. low_in v from at r p k.done (subst (λ (zs : List (ℕ × ℕ)). AreOn v from zs) whole_done (k.sound.on from)) k.low (let z : times (ids k.done) r ≡ 1 = ap (λ zs. times (ids zs) r) (sym whole_done) ∙ k.sound.once from r ∙ ap (λ w. points (owner_of_place (place_of_entry w)) from) q ∙ ap (λ w. points (Some w) from) e ∙ same_refl from in omega (arith, z)) q))
      ∙ k.refs r

pub is_none : (o : Option ℕ) → ((r : ℕ) → o ≢ Some r) → o ≡ None
is_none None h = refl
is_none (Some r) h = absurd (h r refl)
