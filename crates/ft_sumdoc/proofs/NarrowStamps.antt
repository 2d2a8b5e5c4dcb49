-- A stamp whose connection's number is kept in 32 bits passes the same tests, and one that passes them is as it was, where
-- fewer than 2^32 connections have names.
use Rattle.std.proofs.Common.{◌≡◌, ◌∙◌, ℕ, suc, ◌<◌, ◌^◌, nat_le, nat_lt, Bool, true, false, ◌&&◌, cond, List, [], ◌∷◌, map, Option, Some, None, Result, Err, refl, sym, ap, ap₂, arith, lt-ltb, leb-true}
use Rattle.std.specs.Prelude.{is_none, option_map, unwrap_or}
use Rattle.std.specs.List.{list_all}
use Rattle.std.proofs.lemmas.Bool.Decides.{nat_tests}
use Rattle.ft_base.proofs.Booleans.{all_four, all_three, both}
use Rattle.ft_sumdoc.specs.declared.summary.Mark.{Mark}
use Rattle.ft_sumdoc.specs.declared.summary.SumFault.{SumFault}
use Rattle.ft_sumdoc.specs.declared.summary.SumFault.TheVariants.{BadStamp}
use Rattle.ft_sumdoc.specs.Narrow.{narrow, narrow_conn}
use Rattle.ft_sumdoc.specs.Stamps.{Bounds, GivenStamps, are_good_stamps, are_removals, given_insertion, is_good_author, is_good_insertion, is_old, is_recent, is_within_bounds, places_behind, removals_rise, universal}
use Rattle.ft_sumdoc.proofs.ReadStamps.{AreGood}

-- ---- one stamp

narrow_conn-same : (c : ℕ) → c < 2 ^ 32 → narrow_conn c ≡ c
narrow_conn-same c h = rw (lt-ltb c (2 ^ 32) h)

pub narrow-same : (m : Mark) → m.conn < 2 ^ 32 → narrow m ≡ m
narrow-same m h = rw (narrow_conn-same m.conn h)

too_great : (c conns : ℕ) → nat_lt c (2 ^ 32) ≡ false → conns < 2 ^ 32 → nat_le c conns ≡ false
too_great c conns h small = grind (arith, nat_tests)

none_of : (x y : Bool) → (x && false && y) ≡ false
none_of true y = refl
none_of false y = refl

none_at_end : (x y : Bool) → (x && y && false) ≡ false
none_at_end true true = refl
none_at_end true false = refl
none_at_end false y = refl

within_if : (front u : Bool) (c conns : ℕ) → nat_lt c (2 ^ 32) ≡ u → conns < 2 ^ 32
    → (front && nat_lt 0 (cond u c 0) && nat_le (cond u c 0) conns) ≡ (front && nat_lt 0 c && nat_le c conns)
within_if front true c conns h small = refl
within_if front false c conns h small = none_of front (nat_le 0 conns) ∙ sym (ap (λ x. front && nat_lt 0 c && x) (too_great c conns h small) ∙ none_at_end front (nat_lt 0 c))

within-narrow : (low high : ℕ) (b : Bounds) (m : Mark) → b.conns < 2 ^ 32 → is_within_bounds low high b (narrow m) ≡ is_within_bounds low high b m
within-narrow low high b m small = within_if (nat_lt low m.seq && nat_le m.seq high) (nat_lt m.conn (2 ^ 32)) m.conn b.conns refl small

within-same : (low high : ℕ) (b : Bounds) (m : Mark) → b.conns < 2 ^ 32 → is_within_bounds low high b m ≡ true → narrow m ≡ m
within-same low high b m small h =
    let parts = all_four (nat_lt low m.seq) (nat_le m.seq high) (nat_lt 0 m.conn) (nat_le m.conn b.conns) h in
    narrow-same m (omega (arith, leb-true m.conn b.conns parts.3))

-- ---- removals

all-narrow : (b : Bounds) (ms : List Mark) → b.conns < 2 ^ 32 → list_all (is_recent b) (map narrow ms) ≡ list_all (is_recent b) ms
all-narrow b [] small = refl
all-narrow b (m ∷ ms) small = ap₂ (λ (x y : Bool). x && y) (within-narrow b.min b.seq b m small) (all-narrow b ms small)

all-same : (b : Bounds) (ms : List Mark) → b.conns < 2 ^ 32 → list_all (is_recent b) ms ≡ true → map narrow ms ≡ ms
all-same b [] small h = refl
all-same b (m ∷ ms) small h =
    let parts = both (is_recent b m) (list_all (is_recent b) ms) h in
    ap₂ (λ (x : Mark) (xs : List Mark). x ∷ xs) (within-same b.min b.seq b m small parts.0) (all-same b ms small parts.1)

removals_if : (b : Bounds) (low : ℕ) (ms : List Mark) (u : Bool) → b.conns < 2 ^ 32 → list_all (is_recent b) ms ≡ u
    → are_removals b low (map narrow ms) ≡ are_removals b low ms
removals_if b low ms true small h = ap (are_removals b low) (all-same b ms small h)
removals_if b low ms false small h =
    ap (λ x. x && removals_rise low (map narrow ms)) (all-narrow b ms small ∙ h) ∙ sym (ap (λ x. x && removals_rise low ms) h)

removals-narrow : (b : Bounds) (low : ℕ) (ms : List Mark) → b.conns < 2 ^ 32 → are_removals b low (map narrow ms) ≡ are_removals b low ms
removals-narrow b low ms small = removals_if b low ms (list_all (is_recent b) ms) small refl

-- ---- stamps of a segment or a run

abbrev pub narrow_given : GivenStamps → GivenStamps
narrow_given s = record { author = option_map narrow s.author; insertion = option_map narrow s.insertion; removals = map narrow s.removals }

author-narrow : (b : Bounds) (a i : Option Mark) → b.conns < 2 ^ 32 → is_good_author b (option_map narrow a) (option_map narrow i) ≡ is_good_author b a i
author-narrow b None i small = refl
author-narrow b (Some m) None small = within-narrow 0 b.min b m small
author-narrow b (Some m) (Some n) small = refl

insertion-narrow : (b : Bounds) (i : Option Mark) → b.conns < 2 ^ 32 → is_good_insertion b (option_map narrow i) ≡ is_good_insertion b i
insertion-narrow b None small = refl
insertion-narrow b (Some m) small = within-narrow b.min b.seq b m small

pub insertion_of-narrow : (i : Option Mark) → unwrap_or (option_map narrow i) universal ≡ narrow (unwrap_or i universal)
insertion_of-narrow None = refl
insertion_of-narrow (Some m) = refl

good-narrow : (b : Bounds) (s : GivenStamps) → b.conns < 2 ^ 32 → are_good_stamps b (narrow_given s) ≡ are_good_stamps b s
good-narrow b s small =
    ap₂ (λ (x y : Bool). x && y)
    (ap₂ (λ (x y : Bool). x && y) (author-narrow b s.author s.insertion small) (insertion-narrow b s.insertion small))
    (ap (λ (m : Mark). are_removals b m.seq (map narrow s.removals)) (insertion_of-narrow s.insertion) ∙ removals-narrow b (given_insertion s).seq s.removals small)

author-same : (b : Bounds) (a i : Option Mark) → b.conns < 2 ^ 32 → is_good_author b a i ≡ true → option_map narrow a ≡ a
author-same b None i small h = refl
author-same b (Some m) i small h = ap (λ x. Some x) (within-same 0 b.min b m small (both (is_none i) (is_old b m) h).1)

insertion-same : (b : Bounds) (i : Option Mark) → b.conns < 2 ^ 32 → is_good_insertion b i ≡ true → option_map narrow i ≡ i
insertion-same b None small h = refl
insertion-same b (Some m) small h = ap (λ x. Some x) (within-same b.min b.seq b m small h)

pub good-same : (b : Bounds) (s : GivenStamps) → b.conns < 2 ^ 32 → are_good_stamps b s ≡ true → narrow_given s ≡ s
good-same b s small h =
    let parts = all_three (is_good_author b s.author s.insertion) (is_good_insertion b s.insertion) (are_removals b (given_insertion s).seq s.removals) h in
    let recent = both (list_all (is_recent b) s.removals) (removals_rise (given_insertion s).seq s.removals) parts.2 in
    rw (author-same b s.author s.insertion small parts.0, insertion-same b s.insertion small parts.1, all-same b s.removals small recent.0)

pub all_good-same : (b : Bounds) (ss : List GivenStamps) → b.conns < 2 ^ 32 → AreGood b ss → map narrow_given ss ≡ ss
all_good-same b [] small h = refl
all_good-same b (s ∷ ss) small h = ap₂ (λ (x : GivenStamps) (xs : List GivenStamps). x ∷ xs) (good-same b s small h.0) (all_good-same b ss small h.1)

-- ---- places

pub places-narrow : (b : Bounds) (n : ℕ) (ss : List GivenStamps) → b.conns < 2 ^ 32 → places_behind b n (map narrow_given ss) ≡ places_behind b n ss
places-narrow b n [] small = refl
places-narrow b n (s ∷ ss) small =
    let rest : Result ℕ SumFault = places_behind b (suc n) (map narrow_given ss) in
    ap (λ x. cond x rest (Err (BadStamp n))) (good-narrow b s small)
    ∙ ap (λ (r : Result ℕ SumFault). cond (are_good_stamps b s) r (Err (BadStamp n))) (places-narrow b (suc n) ss small)
