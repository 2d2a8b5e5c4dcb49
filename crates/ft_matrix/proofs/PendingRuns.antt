-- Pending units of one stage stand together, whatever comes between or goes.
use Rattle.std.proofs.Common.{◌≡◌, ℕ, zero, suc, ◌≤◌, ◌<◌, Bool, true, false, cond, not, ◌&&◌, ◌||◌, nat_eq, nat_le, List, [], ◌∷◌, ◌++◌, Option, Some, None, append-nil, refl, sym, ◌∙◌, ap, subst, filter, map, arith}
use Rattle.std.specs.List.{AllByRecursion, list_any}
use Rattle.std.proofs.lemmas.Bool.Decides.{nat_tests}
use Rattle.ft_base.specs.declared.stamps.Stamp.{Stamp}
use Rattle.ft_base.specs.declared.stamps.Stamp.TheVariants.{Acked, Local}
use Rattle.ft_base.specs.Scan.{no_run, put, put_past}
use Rattle.ft_base.specs.Visibility.{has_occurred_at_stage, is_acked, is_of_stage}
use Rattle.ft_laws_names.specs.GridFacts.{is_stamp_below}
use Rattle.ft_props.specs.Steps.{acked_stamp}
use Rattle.ft_rebase.specs.StageLists.{StandSideBySide, inserted_by, is_one_run, is_run_at_front, seen_or_next}
use Rattle.ft_named.proofs.RebuiltSteps.{stamps_in}
use Rattle.ft_tree_leaves.specs.Elements.{TreeElement, acked_element, is_pending}
use Rattle.ft_zamboni.specs.Scours.{staying}
use Rattle.ft_matrix.specs.Sound.{GoesOn, StandTogether, goes_on, is_from}
use Rattle.ft_matrix.proofs.SoundVectors.{all-append, all-put, all-weaker}

-- ---- one unit

-- the stage of a pending insertion
abbrev pub stage_in : Stamp → Option ℕ
stage_in (Acked s c) = None
stage_in (Local k) = Some k

abbrev pub pend : TreeElement ℕ → Option ℕ
pend e = stage_in e.stamps.ins

abbrev pub of : ℕ → TreeElement ℕ → Bool
of k e = is_of_stage k e.stamps.ins

same-some : {i j : ℕ} → Some i ≡ Some j → i ≡ j
same-some h = (cc)

from-some : (k j : ℕ) (t : Stamp) → stage_in t ≡ Some j → k ≤ j → is_from k t ≡ true
from-some k j (Acked s c) h l = (cc)
from-some k j (Local i) h l = (let same : i ≡ j = same-some h in grind (arith, nat_tests, same, l))

other-some : (k j : ℕ) (t : Stamp) → stage_in t ≡ Some j → k < j → is_of_stage k t ≡ false
other-some k j (Acked s c) h l = refl
other-some k j (Local i) h l = (let same : i ≡ j = same-some h in grind (arith, nat_tests, same, l))

none-of : (k : ℕ) (t : Stamp) → stage_in t ≡ None → is_of_stage k t ≡ false
none-of k (Acked s c) h = refl
none-of k (Local i) h = (cc)

below-other : (k : ℕ) (t : Stamp) → is_stamp_below k t ≡ true → is_of_stage k t ≡ false
below-other k (Acked s c) h = refl
below-other k (Local j) h = grind (arith, nat_tests)

below-less : (k j : ℕ) (t : Stamp) → stage_in t ≡ Some j → is_stamp_below k t ≡ true → j < k
below-less k j (Acked s c) e h = (cc)
below-less k j (Local i) e h = (let same : i ≡ j = same-some e in let low : i < k = grind (arith, nat_tests) in omega (arith, same, low))

of-alike : (k : ℕ) (a b : Stamp) → stage_in a ≡ stage_in b → is_of_stage k a ≡ is_of_stage k b
of-alike k (Acked s c) (Acked r d) h = refl
of-alike k (Acked s c) (Local j) h = (cc)
of-alike k (Local i) (Acked s c) h = (cc)
of-alike k (Local i) (Local j) h = ap (λ n. nat_eq n k) (same-some h)

from-alike : (k : ℕ) (a b : Stamp) → stage_in a ≡ stage_in b → is_from k a ≡ is_from k b
from-alike k (Acked s c) (Acked r d) h = refl
from-alike k (Acked s c) (Local j) h = (cc)
from-alike k (Local i) (Acked s c) h = (cc)
from-alike k (Local i) (Local j) h = ap (nat_le k) (same-some h)

-- ---- lists

or-rest : (a b : Bool) → a || b ≡ false → b ≡ false
or-rest true b h = (cc)
or-rest false b h = h

or-first : (a b : Bool) → a || b ≡ false → a ≡ false
or-first true b h = h
or-first false b h = refl

un-not : (b : Bool) → not b ≡ true → b ≡ false
un-not true h = (cc)
un-not false h = refl

none-all : (k : ℕ) (es : List (TreeElement ℕ)) → list_any (of k) es ≡ false → AllByRecursion (λ e. of k e ≡ false) es
none-all k [] h = tt
none-all k (e ∷ es) h = (or-first (of k e) (list_any (of k) es) h, none-all k es (or-rest (of k e) (list_any (of k) es) h))

all-none : (k : ℕ) (es : List (TreeElement ℕ)) → AllByRecursion (λ e. of k e ≡ false) es → list_any (of k) es ≡ false
all-none k [] a = refl
all-none k (e ∷ es) a = rw a.0 (all-none k es a.1)

none-goes-on : (k : ℕ) (es : List (TreeElement ℕ)) → list_any (of k) es ≡ false → goes_on k es ≡ true
none-goes-on k [] h = refl
none-goes-on k (e ∷ es) h = step (is_from k e.stamps.ins) (none-goes-on k es rest)
  where
    rest : list_any (of k) es ≡ false
    rest = or-rest (of k e) (list_any (of k) es) h

    step : (b : Bool) → goes_on k es ≡ true → cond b (goes_on k es) (not (list_any (of k) es)) ≡ true
    step true g = g
    step false g = ap not rest

-- behind one more unit
cons-goes : (k : ℕ) (e : TreeElement ℕ) (old new : List (TreeElement ℕ)) → (goes_on k old ≡ true → goes_on k new ≡ true)
    → (list_any (of k) old ≡ false → list_any (of k) new ≡ false) → goes_on k (e ∷ old) ≡ true → goes_on k (e ∷ new) ≡ true
cons-goes k e old new f g h = step (is_from k e.stamps.ins) h
  where
    step : (b : Bool) → cond b (goes_on k old) (not (list_any (of k) old)) ≡ true → cond b (goes_on k new) (not (list_any (of k) new)) ≡ true
    step true d = f d
    step false d = ap not (g (un-not (list_any (of k) old) d))

cons-together : (e : TreeElement ℕ) (old new : List (TreeElement ℕ)) → ((k : ℕ) → pend e ≡ Some k → goes_on k old ≡ true → goes_on k new ≡ true)
    → (StandTogether old → StandTogether new) → StandTogether (e ∷ old) → StandTogether (e ∷ new)
cons-together e old new f g h = (first e.stamps.ins refl h.0, g h.1)
  where
    first : (t : Stamp) → e.stamps.ins ≡ t → GoesOn t old → GoesOn t new
    first (Acked s c) same d = tt
    first (Local k) same d = f k (ap stage_in same) d

-- ---- alike lists

any-alike : (k : ℕ) (xs ys : List (TreeElement ℕ)) → map pend xs ≡ map pend ys → list_any (of k) xs ≡ list_any (of k) ys
any-alike k [] [] h = refl
any-alike k [] (y ∷ ys) h = (cc)
any-alike k (x ∷ xs) [] h = (cc)
any-alike k (x ∷ xs) (y ∷ ys) h =
    let here : pend x ≡ pend y = (cc) in
    let rest : map pend xs ≡ map pend ys = (cc) in
    rw (of-alike k x.stamps.ins y.stamps.ins here, any-alike k xs ys rest) refl

goes-alike : (k : ℕ) (xs ys : List (TreeElement ℕ)) → map pend xs ≡ map pend ys → goes_on k xs ≡ goes_on k ys
goes-alike k [] [] h = refl
goes-alike k [] (y ∷ ys) h = (cc)
goes-alike k (x ∷ xs) [] h = (cc)
goes-alike k (x ∷ xs) (y ∷ ys) h =
    let here : pend x ≡ pend y = (cc) in
    let rest : map pend xs ≡ map pend ys = (cc) in
    rw (from-alike k x.stamps.ins y.stamps.ins here, goes-alike k xs ys rest, any-alike k xs ys rest) refl

pub together-alike : (xs ys : List (TreeElement ℕ)) → map pend xs ≡ map pend ys → StandTogether xs → StandTogether ys
together-alike [] [] h t = tt
together-alike [] (y ∷ ys) h t = (cc)
together-alike (x ∷ xs) [] h t = (cc)
together-alike (x ∷ xs) (y ∷ ys) h t =
    let here : pend x ≡ pend y = (cc) in
    let rest : map pend xs ≡ map pend ys = (cc) in
    (first x.stamps.ins y.stamps.ins here rest t.0, together-alike xs ys rest t.1)
  where
    first : (a b : Stamp) → stage_in a ≡ stage_in b → map pend xs ≡ map pend ys → GoesOn a xs → GoesOn b ys
    first a (Acked s c) e r g = tt
    first (Acked s c) (Local j) e r g = (cc)
    first (Local i) (Local j) e r g =
        let same : i ≡ j = same-some e in
        sym (goes-alike j xs ys r) ∙ subst (λ n. goes_on n xs ≡ true) same g

-- ---- units of a stage above all that is pending

module _ (top : ℕ) where
  abbrev AreNew : List (TreeElement ℕ) → Type 0
  AreNew es = AllByRecursion (λ (e : TreeElement ℕ). pend e ≡ Some top) es

  abbrev AreLower : List (TreeElement ℕ) → Type 0
  AreLower es = AllByRecursion (λ (e : TreeElement ℕ). is_stamp_below top e.stamps.ins ≡ true) es

  front-goes : (k : ℕ) → k ≤ top → (new ys : List (TreeElement ℕ)) → AreNew new → goes_on k ys ≡ true → goes_on k (new ++ ys) ≡ true
  front-goes k l [] ys a g = g
  front-goes k l (e ∷ new) ys a g =
      ap (λ b. cond b (goes_on k (new ++ ys)) (not (list_any (of k) (new ++ ys)))) (from-some k top e.stamps.ins a.0 l) ∙ front-goes k l new ys a.1 g

  front-together : (new ys : List (TreeElement ℕ)) → AreNew new → AreLower ys → StandTogether ys → StandTogether (new ++ ys)
  front-together [] ys a b t = t
  front-together (e ∷ new) ys a b t = (first e.stamps.ins a.0, front-together new ys a.1 b t)
    where
      none : list_any (of top) ys ≡ false
      none = all-none top ys (all-weaker (λ (d : TreeElement ℕ). is_stamp_below top d.stamps.ins ≡ true) (λ d. of top d ≡ false)
          (λ d h. below-other top d.stamps.ins h) ys b)

      first : (u : Stamp) → stage_in u ≡ Some top → GoesOn u (new ++ ys)
      first (Acked s c) h = tt
      first (Local j) h =
          let same : j ≡ top = same-some h in
          front-goes j (omega (arith, same)) new ys a.1 (subst (λ n. goes_on n ys ≡ true) (sym same) (none-goes-on top ys none))

  module _ (new : List (TreeElement ℕ)) (a : AreNew new) (seen : TreeElement ℕ → Bool) where
    put-none : (k p : ℕ) → k < top → (xs : List (TreeElement ℕ)) → list_any (of k) xs ≡ false → list_any (of k) (put seen no_run p new xs) ≡ false
    put-none k p l xs h = all-none k (put seen no_run p new xs) (all-put (λ e. of k e ≡ false) no_run new
        (all-weaker (λ (e : TreeElement ℕ). pend e ≡ Some top) (λ e. of k e ≡ false) (λ e g. other-some k top e.stamps.ins g l) new a) seen p xs (none-all k xs h))

    only-goes : (k : ℕ) → k < top → goes_on k new ≡ true
    only-goes k l = subst (λ es. goes_on k es ≡ true) (append-nil new) (front-goes k (omega (arith, l)) new [] a refl)

    put-goes : (k p : ℕ) → k < top → (xs : List (TreeElement ℕ)) → goes_on k xs ≡ true → goes_on k (put seen no_run p new xs) ≡ true
    put-goes k zero l [] g = only-goes k l
    put-goes k zero l (x ∷ xs) g = front-goes k (omega (arith, l)) new (x ∷ xs) a g
    put-goes k (suc p) l [] g = only-goes k l
    put-goes k (suc p) l (x ∷ xs) g =
        let q = cond (seen x) p (suc p) in
        cons-goes k x xs (put seen no_run q new xs) (put-goes k q l xs) (put-none k q l xs) g

    only-together : StandTogether new
    only-together = subst StandTogether (append-nil new) (front-together new [] a tt tt)

    pub put-together : (p : ℕ) (xs : List (TreeElement ℕ)) → AreLower xs → StandTogether xs → StandTogether (put seen no_run p new xs)
    put-together zero [] b t = only-together
    put-together zero (x ∷ xs) b t = front-together new (x ∷ xs) a b t
    put-together (suc p) [] b t = only-together
    put-together (suc p) (x ∷ xs) b t =
        let q = cond (seen x) p (suc p) in
        cons-together x xs (put seen no_run q new xs) (λ k e g. put-goes k q (below-less top k x.stamps.ins e b.0) xs g) (put-together q xs b.1) t

-- ---- sequenced units, past a run of pending ones

module _ (new : List (TreeElement ℕ)) (a : AllByRecursion (λ (e : TreeElement ℕ). pend e ≡ None) new) where
  new-none : (k : ℕ) → AllByRecursion (λ e. of k e ≡ false) new
  new-none k = all-weaker (λ (e : TreeElement ℕ). pend e ≡ None) (λ e. of k e ≡ false) (λ e h. none-of k e.stamps.ins h) new a

  acked-front : (es ys : List (TreeElement ℕ)) → AllByRecursion (λ (e : TreeElement ℕ). pend e ≡ None) es → StandTogether ys → StandTogether (es ++ ys)
  acked-front [] ys b t = t
  acked-front (e ∷ es) ys b t = (first e.stamps.ins b.0, acked-front es ys b.1 t)
    where
      first : (u : Stamp) → stage_in u ≡ None → GoesOn u (es ++ ys)
      first (Acked s c) h = tt
      first (Local k) h = (cc)

  acked-of : (t : Stamp) → not (is_acked t) ≡ false → stage_in t ≡ None
  acked-of (Acked s c) h = refl
  acked-of (Local k) h = (cc)

  -- behind a sequenced unit none of the stage stands
  stop-none : (k : ℕ) (t : Stamp) (xs : List (TreeElement ℕ)) → stage_in t ≡ None → cond (is_from k t) (goes_on k xs) (not (list_any (of k) xs)) ≡ true
      → is_of_stage k t || list_any (of k) xs ≡ false
  stop-none k (Acked s c) xs e h = un-not (list_any (of k) xs) h
  stop-none k (Local j) xs e h = (cc)

  module _ (seen : TreeElement ℕ → Bool) where
    pass-none : (k p : ℕ) (xs : List (TreeElement ℕ)) → list_any (of k) xs ≡ false → list_any (of k) (put seen is_pending p new xs) ≡ false
    pass-none k p xs h = all-none k (put seen is_pending p new xs) (all-put (λ e. of k e ≡ false) is_pending new (new-none k) seen p xs (none-all k xs h))

    past-goes : (k : ℕ) (xs : List (TreeElement ℕ)) → goes_on k xs ≡ true → goes_on k (put_past is_pending new xs) ≡ true
    past-goes k [] g = none-goes-on k new (all-none k new (new-none k))
    past-goes k (x ∷ xs) g = step (is_pending x) refl (past-goes k xs)
      where
        step : (b : Bool) → is_pending x ≡ b → (goes_on k xs ≡ true → goes_on k (put_past is_pending new xs) ≡ true)
            → goes_on k (cond b (x ∷ put_past is_pending new xs) (new ++ (x ∷ xs))) ≡ true
        step true e ih = cons-goes k x xs (put_past is_pending new xs) ih (pass-none k zero xs) g
        step false e ih = none-goes-on k (new ++ (x ∷ xs)) (all-none k (new ++ (x ∷ xs)) (all-append (λ d. of k d ≡ false) new (x ∷ xs) (new-none k)
            (none-all k (x ∷ xs) (stop-none k x.stamps.ins xs (acked-of x.stamps.ins e) g))))

    pass-goes : (k p : ℕ) (xs : List (TreeElement ℕ)) → goes_on k xs ≡ true → goes_on k (put seen is_pending p new xs) ≡ true
    pass-goes k zero xs g = past-goes k xs g
    pass-goes k (suc p) [] g = none-goes-on k new (all-none k new (new-none k))
    pass-goes k (suc p) (x ∷ xs) g =
        let q = cond (seen x) p (suc p) in
        cons-goes k x xs (put seen is_pending q new xs) (pass-goes k q xs) (pass-none k q xs) g

    only-acked : StandTogether new
    only-acked = subst StandTogether (append-nil new) (acked-front new [] a tt)

    past-together : (xs : List (TreeElement ℕ)) → StandTogether xs → StandTogether (put_past is_pending new xs)
    past-together [] t = only-acked
    past-together (x ∷ xs) t = step (is_pending x) (past-together xs)
      where
        step : (b : Bool) → (StandTogether xs → StandTogether (put_past is_pending new xs))
            → StandTogether (cond b (x ∷ put_past is_pending new xs) (new ++ (x ∷ xs)))
        step true ih = cons-together x xs (put_past is_pending new xs) (λ k e g. past-goes k xs g) ih t
        step false ih = acked-front new (x ∷ xs) a t

    pub pass-together : (p : ℕ) (xs : List (TreeElement ℕ)) → StandTogether xs → StandTogether (put seen is_pending p new xs)
    pass-together zero xs t = past-together xs t
    pass-together (suc p) [] t = only-acked
    pass-together (suc p) (x ∷ xs) t =
        let q = cond (seen x) p (suc p) in
        cons-together x xs (put seen is_pending q new xs) (λ k e g. pass-goes k q xs g) (pass-together q xs) t

pub acked-together : (es : List (TreeElement ℕ)) → AllByRecursion (λ (e : TreeElement ℕ). pend e ≡ None) es → StandTogether es
acked-together es a = only-acked es a (λ e. true)

-- ---- units that go

left-none : (k : ℕ) (ms : List (Bool × TreeElement ℕ)) → list_any (of k) (map (λ m. m.1) ms) ≡ false → list_any (of k) (staying ms) ≡ false
left-none k [] h = refl
left-none k (m ∷ ms) h = step m.0 (left-none k ms rest)
  where
    rest : list_any (of k) (map (λ n. n.1) ms) ≡ false
    rest = or-rest (of k m.1) (list_any (of k) (map (λ n. n.1) ms)) h

    step : (b : Bool) → list_any (of k) (staying ms) ≡ false → list_any (of k) (cond (not b) (m.1 ∷ staying ms) (staying ms)) ≡ false
    step true g = g
    step false g = rw (or-first (of k m.1) (list_any (of k) (map (λ n. n.1) ms)) h) g

left-goes : (k : ℕ) (ms : List (Bool × TreeElement ℕ)) → goes_on k (map (λ m. m.1) ms) ≡ true → goes_on k (staying ms) ≡ true
left-goes k [] g = refl
left-goes k (m ∷ ms) g = step m.0 (left-goes k ms)
  where
    gone : (b : Bool) → cond b (goes_on k (map (λ n. n.1) ms)) (not (list_any (of k) (map (λ n. n.1) ms))) ≡ true
        → (goes_on k (map (λ n. n.1) ms) ≡ true → goes_on k (staying ms) ≡ true) → goes_on k (staying ms) ≡ true
    gone true h ih = ih h
    gone false h ih = none-goes-on k (staying ms) (left-none k ms (un-not (list_any (of k) (map (λ n. n.1) ms)) h))

    step : (b : Bool) → (goes_on k (map (λ n. n.1) ms) ≡ true → goes_on k (staying ms) ≡ true) → goes_on k (cond (not b) (m.1 ∷ staying ms) (staying ms)) ≡ true
    step true ih = gone (is_from k m.1.stamps.ins) g ih
    step false ih = cons-goes k m.1 (map (λ n. n.1) ms) (staying ms) ih (left-none k ms) g

pub left-together : (ms : List (Bool × TreeElement ℕ)) → StandTogether (map (λ m. m.1) ms) → StandTogether (staying ms)
left-together [] t = tt
left-together (m ∷ ms) t = step m.0 (left-together ms)
  where
    step : (b : Bool) → (StandTogether (map (λ n. n.1) ms) → StandTogether (staying ms)) → StandTogether (cond (not b) (m.1 ∷ staying ms) (staying ms))
    step true ih = ih t.1
    step false ih = cons-together m.1 (map (λ n. n.1) ms) (staying ms) (λ k e g. left-goes k ms g) ih t

-- ---- the lowest stage is sequenced

module _ (low s c : ℕ) where
  of-acked : (k : ℕ) (t : Stamp) → low < k → is_of_stage k (acked_stamp low s c t) ≡ is_of_stage k t
  of-acked k (Acked r d) l = refl
  of-acked k (Local j) l = by (nat_eq j low) refl
    where
      by : (b : Bool) → nat_eq j low ≡ b → is_of_stage k (cond b (Acked s c) (Local j)) ≡ nat_eq j k
      by true e = grind (arith, nat_tests)
      by false e = refl

  from-acked : (k : ℕ) (t : Stamp) → low < k → is_from k (acked_stamp low s c t) ≡ is_from k t
  from-acked k (Acked r d) l = refl
  from-acked k (Local j) l = by (nat_eq j low) refl
    where
      by : (b : Bool) → nat_eq j low ≡ b → is_from k (cond b (Acked s c) (Local j)) ≡ nat_le k j
      by true e = grind (arith, nat_tests)
      by false e = refl

  any-acked : (k : ℕ) (es : List (TreeElement ℕ)) → low < k → list_any (of k) (map (acked_element low s c None) es) ≡ list_any (of k) es
  any-acked k [] l = refl
  any-acked k (e ∷ es) l = rw (of-acked k e.stamps.ins l, any-acked k es l) refl

  goes-acked : (k : ℕ) (es : List (TreeElement ℕ)) → low < k → goes_on k (map (acked_element low s c None) es) ≡ goes_on k es
  goes-acked k [] l = refl
  goes-acked k (e ∷ es) l = rw (from-acked k e.stamps.ins l, goes-acked k es l, any-acked k es l) refl

  pub now-together : (es : List (TreeElement ℕ)) → AllByRecursion (λ (e : TreeElement ℕ). (j : ℕ) → pend e ≡ Some j → low ≤ j) es → StandTogether es
      → StandTogether (map (acked_element low s c None) es)
  now-together [] a t = tt
  now-together (e ∷ es) a t = (first e.stamps.ins a.0 t.0, now-together es a.1 t.1)
    where
      first : (u : Stamp) → ((j : ℕ) → stage_in u ≡ Some j → low ≤ j) → GoesOn u es → GoesOn (acked_stamp low s c u) (map (acked_element low s c None) es)
      first (Acked r d) f g = tt
      first (Local j) f g = by (nat_eq j low) refl
        where
          by : (b : Bool) → nat_eq j low ≡ b → GoesOn (cond b (Acked s c) (Local j)) (map (acked_element low s c None) es)
          by true e = tt
          by false e =
              let at_least : low ≤ j = f j refl in
              let above : low < j = grind (arith, nat_tests) in
              goes-acked j es above ∙ g

-- ---- side by side

module _ (k : ℕ) where
  abbrev next : TreeElement ℕ → Bool
  next e = inserted_by stamps_in (suc k) e

  abbrev keep : TreeElement ℕ → Bool
  keep e = seen_or_next stamps_in k e

  kept-none : (es : List (TreeElement ℕ)) → list_any (of (suc k)) es ≡ false → list_any next (filter keep es) ≡ false
  kept-none [] h = refl
  kept-none (e ∷ es) h = step (keep e) (kept-none es (or-rest (of (suc k) e) (list_any (of (suc k)) es) h))
    where
      step : (b : Bool) → list_any next (filter keep es) ≡ false → list_any next (cond b (e ∷ filter keep es) (filter keep es)) ≡ false
      step true g = rw (or-first (of (suc k) e) (list_any (of (suc k)) es) h) g
      step false g = g

  none-front : (es : List (TreeElement ℕ)) → list_any next es ≡ false → is_run_at_front next es ≡ true
  none-front [] h = refl
  none-front (e ∷ es) h =
      ap (λ b. cond b (is_run_at_front next es) (not (list_any next es))) (or-first (next e) (list_any next es) h) ∙ ap not (or-rest (next e) (list_any next es) h)

  -- what the stage sees isn't of a later one
  seen-before : (t : Stamp) (b : Bool) → has_occurred_at_stage k t && b || is_of_stage (suc k) t ≡ true → is_of_stage (suc k) t ≡ false → is_from (suc k) t ≡ false
  seen-before (Acked s c) b h o = refl
  seen-before (Local j) b h o = by (nat_le j k) refl h
    where
      by : (a : Bool) → nat_le j k ≡ a → a && b || nat_eq j (suc k) ≡ true → nat_le (suc k) j ≡ false
      by true e g = grind (arith, nat_tests)
      by false e g = absurd (cc (g, o))

  of-from : (t : Stamp) → is_of_stage (suc k) t ≡ true → is_from (suc k) t ≡ true
  of-from (Acked s c) h = (cc)
  of-from (Local j) h = grind (arith, nat_tests)

  run-front : (es : List (TreeElement ℕ)) → goes_on (suc k) es ≡ true → is_run_at_front next (filter keep es) ≡ true
  run-front [] g = refl
  run-front (e ∷ es) g = step (keep e) refl (run-front es)
    where
      gone : (b : Bool) → cond b (goes_on (suc k) es) (not (list_any (of (suc k)) es)) ≡ true → (goes_on (suc k) es ≡ true → is_run_at_front next (filter keep es) ≡ true)
          → is_run_at_front next (filter keep es) ≡ true
      gone true h ih = ih h
      gone false h ih = none-front (filter keep es) (kept-none es (un-not (list_any (of (suc k)) es) h))

      kept : (b : Bool) → next e ≡ b → keep e ≡ true → (goes_on (suc k) es ≡ true → is_run_at_front next (filter keep es) ≡ true)
          → cond b (is_run_at_front next (filter keep es)) (not (list_any next (filter keep es))) ≡ true
      kept true o h ih = ih (sym (ap (λ b. cond b (goes_on (suc k) es) (not (list_any (of (suc k)) es))) (of-from e.stamps.ins o)) ∙ g)
      kept false o h ih =
          let stop = seen-before e.stamps.ins (not (list_any (has_occurred_at_stage k) e.stamps.dels)) h o in
          ap not (kept-none es (un-not (list_any (of (suc k)) es) (sym (ap (λ b. cond b (goes_on (suc k) es) (not (list_any (of (suc k)) es))) stop) ∙ g)))

      step : (b : Bool) → keep e ≡ b → (goes_on (suc k) es ≡ true → is_run_at_front next (filter keep es) ≡ true)
          → is_run_at_front next (cond b (e ∷ filter keep es) (filter keep es)) ≡ true
      step true h ih = kept (next e) refl h ih
      step false h ih = gone (is_from (suc k) e.stamps.ins) g ih

  one-run : (es : List (TreeElement ℕ)) → StandTogether es → is_one_run next (filter keep es) ≡ true
  one-run [] t = refl
  one-run (e ∷ es) t = step (keep e) (one-run es t.1)
    where
      here : (u : Stamp) → is_of_stage (suc k) u ≡ true → GoesOn u es → goes_on (suc k) es ≡ true
      here (Acked s c) o g = (cc)
      here (Local j) o g = (let same : j ≡ suc k = grind (arith, nat_tests) in subst (λ n. goes_on n es ≡ true) same g)

      first : (b : Bool) → next e ≡ b → is_one_run next (filter keep es) ≡ true → cond b (is_run_at_front next (filter keep es)) (is_one_run next (filter keep es)) ≡ true
      first true o ih = run-front es (here e.stamps.ins o t.0)
      first false o ih = ih

      step : (b : Bool) → is_one_run next (filter keep es) ≡ true → is_one_run next (cond b (e ∷ filter keep es) (filter keep es)) ≡ true
      step true ih = first (next e) refl ih
      step false ih = ih

pub side-by-side : (es : List (TreeElement ℕ)) → StandTogether es → StandSideBySide stamps_in es
side-by-side es t k = one-run k es t
