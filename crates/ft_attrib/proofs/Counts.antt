-- The totals of a list rise, and count what each connection has.
use Rattle.std.proofs.Common.{◌≡◌, ◌∙◌, ℕ, ◌+◌, ◌<◌, ◌≤◌, Bool, true, false, cond, List, [], ◌∷◌, refl, zero-add, arith}
use Rattle.std.specs.Prelude.{nat_eq, nat_lt}
use Rattle.std.proofs.lemmas.Bool.Decides.{nat_tests}
use Rattle.ft_attrib.specs.declared.attribution.Origin.{Origin}
use Rattle.ft_attrib.specs.declared.attribution.Origin.TheVariants.{Known, Unknown, Pending}
use Rattle.ft_attrib.specs.declared.attribution.Total.{Total}
use Rattle.ft_attrib.specs.Runs.{how_many}
use Rattle.ft_attrib.specs.Totals.{AreTotals, IsBeforeTotal, TotalsRise, count_of, with_count, counted_all, with_count_first, is_by, totals}

either : (P : List Total → Type 0) (b : Bool) (xs ys : List Total) → P xs → P ys → P (cond b xs ys)
either P true xs ys p q = p
either P false xs ys p q = q

before-counted : (b c n : ℕ) (ts : List Total) → IsBeforeTotal b ts → b < c → IsBeforeTotal b (with_count c n ts)
before-counted b c n [] h k = k
before-counted b c n (t ∷ ts) h k =
    let other : Total = record { conn = c; count = n } in
    let raised : Total = record t { count = t.count + n } in
    either (IsBeforeTotal b) (nat_lt t.conn c) (t ∷ with_count c n ts) (with_count_first c n t ts) h
    (either (IsBeforeTotal b) (nat_eq t.conn c) (raised ∷ ts) (other ∷ t ∷ ts) h k)

rise-split : (c n : ℕ) (t : Total) (ts : List Total) (b d : Bool) → nat_lt t.conn c ≡ b → nat_eq t.conn c ≡ d → 1 ≤ n → TotalsRise (t ∷ ts) → TotalsRise (with_count c n ts)
    → TotalsRise (cond b (t ∷ with_count c n ts) (cond d (record t { count = t.count + n } ∷ ts) (record { conn = c; count = n } ∷ t ∷ ts)))
rise-split c n t ts true d e f h r rest = (r.0, before-counted t.conn c n ts r.1 (grind (arith, nat_tests)), rest)
rise-split c n t ts false true e f h r rest = (omega arith, r.1, r.2)
rise-split c n t ts false false e f h r rest = (h, grind (arith, nat_tests), r)

rise-counted : (c n : ℕ) (ts : List Total) → 1 ≤ n → TotalsRise ts → TotalsRise (with_count c n ts)
rise-counted c n [] h r = (h, tt, tt)
rise-counted c n (t ∷ ts) h r = rise-split c n t ts (nat_lt t.conn c) (nat_eq t.conn c) refl refl h r (rise-counted c n ts h r.2)

absent : (k : ℕ) (t : Total) (ts : List Total) → TotalsRise (t ∷ ts) → k < t.conn → count_of k (t ∷ ts) ≡ 0
absent k t [] r h = grind (arith, nat_tests)
absent k t (u ∷ us) r h =
    let next : t.conn < u.conn = r.1 in
    let later : count_of k (u ∷ us) ≡ 0 = absent k u us r.2 (omega arith) in
    not_first k t (u ∷ us) (omega arith) ∙ later
  where
    not_first : (k : ℕ) (t : Total) (ts : List Total) → k < t.conn → count_of k (t ∷ ts) ≡ count_of k ts
    not_first k t ts h = grind (arith, nat_tests)

-- n more of a connection
count_of-counted : (k c n : ℕ) (ts : List Total) → TotalsRise ts → count_of k (with_count c n ts) ≡ count_of k ts + cond (nat_eq k c) n 0
count_of-counted k c n [] r = grind (arith, nat_tests)
count_of-counted k c n (t ∷ ts) r =
    grind (arith, nat_tests, count_of-counted k c n ts r.2, absent k t ts r)

rise-all : (os : List Origin) (ts : List Total) → TotalsRise ts → TotalsRise (counted_all ts os)
rise-all [] ts r = r
rise-all (Known s c ∷ os) ts r = rise-all os (with_count c 1 ts) (rise-counted c 1 ts (omega arith) r)
rise-all (Unknown ∷ os) ts r = rise-all os ts r
rise-all (Pending ∷ os) ts r = rise-all os ts r

how_many-known : (k s c : ℕ) (os : List Origin) → how_many (is_by k) (Known s c ∷ os) ≡ cond (nat_eq k c) 1 0 + how_many (is_by k) os
how_many-known k s c os = grind (arith, nat_tests)

count_of-all : (k : ℕ) (os : List Origin) (ts : List Total) → TotalsRise ts → count_of k (counted_all ts os) ≡ count_of k ts + how_many (is_by k) os
count_of-all k [] ts r = omega arith
count_of-all k (Known s c ∷ os) ts r =
    omega (arith, count_of-all k os (with_count c 1 ts) (rise-counted c 1 ts (omega arith) r), count_of-counted k c 1 ts r, how_many-known k s c os)
count_of-all k (Unknown ∷ os) ts r = count_of-all k os ts r
count_of-all k (Pending ∷ os) ts r = count_of-all k os ts r

pub are_totals : (os : List Origin) → AreTotals os (totals os)
are_totals os = record { rise = rise-all os [] tt; counts = λ k. count_of-all k os [] tt ∙ zero-add (how_many (is_by k) os) }
