-- The rebuilt list has the same views: what is seen at each stage stays, element by element.
use Rattle.std.proofs.Common.{◌≡◌, ℕ, zero, suc, ◌-◌, ◌<◌, Bool, true, false, cond, ◌||◌, List, [], ◌∷◌, ◌++◌, refl, sym, ◌∙◌, ap, arith, append-nil, filter}
use Rattle.std.specs.List.{list_any}
use Rattle.std.proofs.lemmas.Bool.Decides.{nat_tests}
use Rattle.ft_base.specs.declared.stamps.Stamp.{Stamp}
use Rattle.ft_base.specs.declared.stamps.Stamp.TheVariants.{Acked, Local}
use Rattle.ft_base.specs.Scan.{retain_map, no_run, put_past, put}
use Rattle.ft_base.proofs.ScanLaws.{put_past-no_run}
use Rattle.ft_base.specs.Visibility.{has_occurred_at_stage, is_acked, is_of_stage}
use Rattle.ft_props.specs.Element.{ListElement, seen, is_sequenced, without_pending, removal_stamp}
use Rattle.ft_props.specs.Steps.{is_inserted_by, stage_position, put_stage, carried_element}

-- the stages up to k put in, one after another
abbrev pub stage_list : List ListElement → ℕ → List ListElement
stage_list xs zero = retain_map is_sequenced carried_element xs
stage_list xs (suc k) = put_stage xs (stage_list xs k) (suc k)

pub filter-append : {A : Type 0} (test : A → Bool) (xs ys : List A) → filter test (xs ++ ys) ≡ filter test xs ++ filter test ys
filter-append test [] ys = refl
filter-append test (x ∷ xs) ys = grind (arith, filter-append test xs ys)

-- a test that passes wherever the place looks goes through an insertion
pub put-filter : {A : Type 0} (test place : A → Bool) → ((x : A) → test x ≡ false → place x ≡ false) → (p : ℕ) (new xs : List A)
    → filter test (put place no_run p new xs) ≡ put place no_run p (filter test new) (filter test xs)
put-filter test place h zero new xs = ap (filter test) (put_past-no_run new xs) ∙ filter-append test new xs ∙ sym (put_past-no_run (filter test new) (filter test xs))
put-filter test place h (suc p) new [] = refl
put-filter test place h (suc p) new (x ∷ xs) = grind (arith, put-filter test place h p new xs, put-filter test place h (suc p) new xs, h x)

-- a narrower test after a wider one
pub filter-twice : {A : Type 0} (narrow wide : A → Bool) → ((x : A) → wide x ≡ false → narrow x ≡ false) → (xs : List A)
    → filter narrow (filter wide xs) ≡ filter narrow xs
filter-twice narrow wide h [] = refl
filter-twice narrow wide h (x ∷ xs) = grind (arith, filter-twice narrow wide h xs, h x)

pub filter-all : {A : Type 0} (test is : A → Bool) → ((x : A) → is x ≡ true → test x ≡ true) → (xs : List A) → filter test (filter is xs) ≡ filter is xs
filter-all test is h [] = refl
filter-all test is h (x ∷ xs) = grind (arith, filter-all test is h xs, h x)

-- two tests that differ only by a third that passes nowhere in the list
pub filter-or : {A : Type 0} (test other : A → Bool) (xs : List A) → list_any other xs ≡ false → filter (λ x. test x || other x) xs ≡ filter test xs
filter-or test other [] h = refl
filter-or test other (x ∷ xs) h = grind (arith, filter-or test other xs)

pub any-both : {A : Type 0} (is : A → Bool) (ys zs : List A) → list_any is ys ≡ false → list_any is zs ≡ false → list_any is (ys ++ zs) ≡ false
any-both is [] zs g h = h
any-both is (y ∷ ys) zs g h = grind (arith, any-both is ys zs)

pub any-put : {A : Type 0} (is test : A → Bool) (p : ℕ) (new xs : List A) → list_any is new ≡ false → list_any is xs ≡ false
    → list_any is (put test no_run p new xs) ≡ false
any-put is test zero new xs g h = ap (list_any is) (put_past-no_run new xs) ∙ any-both is new xs g h
any-put is test (suc p) new [] g h = g
any-put is test (suc p) new (x ∷ xs) g h = grind (arith, any-put is test p new xs, any-put is test (suc p) new xs)

pub any-filter : {A : Type 0} (is test : A → Bool) → ((x : A) → test x ≡ true → is x ≡ false) → (xs : List A) → list_any is (filter test xs) ≡ false
any-filter is test h [] = refl
any-filter is test h (x ∷ xs) = grind (arith, any-filter is test h xs, h x)

pub any-retain_map : {A : Type 0} (is keep : A → Bool) (f : A → A) → ((x : A) → keep x ≡ true → is (f x) ≡ false) → (xs : List A)
    → list_any is (retain_map keep f xs) ≡ false
any-retain_map is keep f h [] = refl
any-retain_map is keep f h (x ∷ xs) = grind (arith, any-retain_map is keep f h xs, h x)

abbrev pub wide : ℕ → ListElement → Bool
wide k e = seen k e || is_inserted_by (suc k) e

pub has_occurred_at_stage-more : (k : ℕ) (t : Stamp) → has_occurred_at_stage k t ≡ true → has_occurred_at_stage (suc k) t ≡ true
has_occurred_at_stage-more k (Acked s c) h = refl
has_occurred_at_stage-more k (Local j) h = grind (arith, nat_tests)

pub any-more : (k : ℕ) (ts : List Stamp) → list_any (has_occurred_at_stage k) ts ≡ true → list_any (has_occurred_at_stage (suc k)) ts ≡ true
any-more k [] h = (cc)
any-more k (t ∷ ts) h = grind (arith, any-more k ts, has_occurred_at_stage-more k t)

pub has_occurred_at_stage-next : (k : ℕ) (t : Stamp) → is_of_stage (suc k) t ≡ false → has_occurred_at_stage (suc k) t ≡ has_occurred_at_stage k t
has_occurred_at_stage-next k (Acked s c) h = refl
has_occurred_at_stage-next k (Local j) h = grind (arith, nat_tests)

pub narrow : (k : ℕ) (e : ListElement) → wide k e ≡ false → seen (suc k) e ≡ false
narrow k e h = grind (arith, has_occurred_at_stage-next k e.ins, any-more k (e.dels ++ removal_stamp e.removal_stage))

pub pred_suc : (k : ℕ) → suc k - 1 ≡ k
pred_suc k = omega arith

-- nothing of a later stage is in the list yet
pub not-after_insertion : (j k : ℕ) (e : ListElement) → k < j → is_of_stage k e.ins ≡ true → is_of_stage j e.ins ≡ false
not-after_insertion j k e l h = stamps e.ins h
  where
    stamps : (t : Stamp) → is_of_stage k t ≡ true → is_of_stage j t ≡ false
    stamps (Acked s c) h = refl
    stamps (Local i) h = grind (arith, nat_tests)

pub acked-not-local : (j : ℕ) (t : Stamp) → is_acked t ≡ true → is_of_stage j t ≡ false
acked-not-local j (Acked s c) h = refl
acked-not-local j (Local i) h = (cc)

pub carried_element-ins : (e : ListElement) → (carried_element e).ins ≡ e.ins
carried_element-ins e = either (list_any is_acked e.dels)
  where
    either : (b : Bool) → (cond b (without_pending e) e).ins ≡ e.ins
    either true = refl
    either false = refl

pub later : (xs : List ListElement) (k j : ℕ) → k < j → list_any (is_inserted_by j) (stage_list xs k) ≡ false
later xs zero j l = any-retain_map (is_inserted_by j) is_sequenced carried_element (λ e h. ap (is_of_stage j) (carried_element-ins e) ∙ acked-not-local j e.ins h) xs
later xs (suc k) j l =
    any-put (is_inserted_by j) (seen (suc k - 1)) (stage_position (suc k) xs) (filter (is_inserted_by (suc k)) xs) (stage_list xs k)
    (any-filter (is_inserted_by j) (is_inserted_by (suc k)) (λ e h. not-after_insertion j (suc k) e l h) xs) (later xs k j (omega arith))

-- the elements of each pending insertion stand side by side in the view of the stage before
abbrev pub SideBySide : List ListElement → Type 0
SideBySide xs = (k : ℕ) → filter (wide k) xs ≡ put (seen k) no_run (stage_position (suc k) xs) (filter (is_inserted_by (suc k)) xs) (filter (seen k) xs)

pub or_left : (a b : Bool) → a || b ≡ false → a ≡ false
or_left false b h = refl
or_left true b h = (cc)

pub or_right : (a b : Bool) → b ≡ true → a || b ≡ true
or_right true b h = refl
or_right false b h = h

-- what is seen at each stage is the same before and after
pub stage_view-rebuilt : (xs : List ListElement) → SideBySide xs → filter (seen 0) (stage_list xs 0) ≡ filter (seen 0) xs → (k : ℕ)
    → filter (seen k) (stage_list xs k) ≡ filter (seen k) xs
stage_view-rebuilt xs side base zero = base
stage_view-rebuilt xs side base (suc k) =
    let block = filter (is_inserted_by (suc k)) xs in
    let p = stage_position (suc k) xs in
    ap (λ i. filter (seen (suc k)) (put (seen i) no_run p block (stage_list xs k))) (pred_suc k)
    ∙ sym (filter-twice (seen (suc k)) (wide k) (narrow k) (put (seen k) no_run p block (stage_list xs k)))
    ∙ ap (filter (seen (suc k)))
    (put-filter (wide k) (seen k) (λ e h. or_left (seen k e) (is_inserted_by (suc k) e) h) p block (stage_list xs k)
    ∙ ap (λ ys. put (seen k) no_run p ys (filter (wide k) (stage_list xs k))) (filter-all (wide k) (is_inserted_by (suc k))
    (λ e h. or_right (seen k e) (is_inserted_by (suc k) e) h) xs)
    ∙ ap (put (seen k) no_run p block) (filter-or (seen k) (is_inserted_by (suc k)) (stage_list xs k) (later xs k (suc k) (omega arith)) ∙ stage_view-rebuilt xs side base k)
    ∙ sym (side k))
    ∙ filter-twice (seen (suc k)) (wide k) (narrow k) xs
