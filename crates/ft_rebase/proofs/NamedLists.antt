-- The rebuilt list of a document's elements, which have names: that of the stages 1 to last is that of the stages of which
-- there is something, and an element stands in it where its place tells that it had before.
use Rattle.std.proofs.Common.{◌≡◌, ℕ, zero, suc, ◌-◌, ◌<◌, ◌≤◌, Bool, true, false, cond, not, ◌&&◌, ◌||◌, List, [], ◌∷◌, ◌++◌, map, filter, refl, sym, ◌∙◌, ap, arith}
use Rattle.std.specs.List.{list_any}
use Rattle.ft_base.specs.declared.stamps.Stamp.{Stamp}
use Rattle.ft_base.specs.declared.stamps.Stamp.TheVariants.{Acked, Local}
use Rattle.ft_base.specs.declared.elements.Element.{Element as ElementStamps}
use Rattle.ft_base.specs.Scan.{len, no_run, put, rank, retain_map}
use Rattle.ft_base.specs.Visibility.{has_occurred_at_stage, is_acked}
use Rattle.ft_props.specs.Element.{ElementId, ListElement, has_id, is_sequenced, removal_stamp, seen, stamps_of, without_pending}
use Rattle.ft_props.specs.Steps.{Sequence, carried_element, is_inserted_by, put_stage, put_stages, rebuilt_list}
use Rattle.ft_rebase.specs.RebuiltPlaces.{rebuilt_place}
use Rattle.ft_rebase.specs.StageLists.{inserted_by, seen_by, with_stages}
use Rattle.ft_rebase.proofs.AllStages.{stages_gap}
use Rattle.ft_rebase.proofs.KeptPlaces.{place-carried, place-rebuilt, rebuilt_place-image}

-- the stages rise, from above k up to last, and there is nothing of any other stage in between
abbrev pub AreStagesOf : ℕ → ℕ → List ListElement → List ℕ → Type 0
AreStagesOf k last xs [] = (j : ℕ) → k < j → j ≤ last → list_any (is_inserted_by j) xs ≡ false
AreStagesOf k last xs (m ∷ ms) =
    (k < m) × (m ≤ last) × ((j : ℕ) → k < j → j < m → list_any (is_inserted_by j) xs ≡ false) × AreStagesOf m last xs ms

-- one stage after those up to k
next-put : (xs ys : List ListElement) (k m : ℕ) → k < m → ((j : ℕ) → k < j → j < m → list_any (is_inserted_by j) xs ≡ false)
    → put_stage xs (with_stages stamps_of xs ys k) m ≡ with_stages stamps_of xs ys m
next-put xs ys k zero l none = absurd (omega arith)
next-put xs ys k (suc n) l none =
    let before : suc n - 1 ≡ n = omega arith in
    let is = is_inserted_by (suc n) in
    ap (λ i. put (seen i) no_run (rank is (seen i) xs) (filter is xs) (with_stages stamps_of xs ys k)) before
    ∙ ap (put (seen n) no_run (rank is (seen n) xs) (filter is xs))
    (sym (stages_gap stamps_of xs ys (n - k) k n (omega (arith, l)) (λ j h g. none j h (omega (arith, g)))))

pub listed-stages : (xs ys : List ListElement) (k last : ℕ) (ms : List ℕ) → k ≤ last → AreStagesOf k last xs ms
    → put_stages xs (with_stages stamps_of xs ys k) ms ≡ with_stages stamps_of xs ys last
listed-stages xs ys k last [] l h = sym (stages_gap stamps_of xs ys (last - k) k last (omega (arith, l)) h)
listed-stages xs ys k last (m ∷ ms) l h =
    ap (λ zs. put_stages xs zs ms) (next-put xs ys k m h.0 h.2) ∙ listed-stages xs ys m last ms h.1 h.3

-- an element that goes through a reconnection is seen as before, under its name
any-acked : (k : ℕ) (ts us : List Stamp) → list_any is_acked ts ≡ true → list_any (has_occurred_at_stage k) (ts ++ us) ≡ true
any-acked k [] us h = absurd cc
any-acked k (Acked s c ∷ ts) us h = refl
any-acked k (Local j ∷ ts) us h =
    ap (λ b. has_occurred_at_stage k (Local j) || b) (any-acked k ts us h) ∙ either (has_occurred_at_stage k (Local j))
  where
    either : (b : Bool) → (b || true) ≡ true
    either true = refl
    either false = refl

seen-carried : (k : ℕ) (e : ListElement) → seen_by stamps_of k (carried_element e) ≡ seen_by stamps_of k e
seen-carried k e = step (list_any is_acked e.dels) refl
  where
    step : (b : Bool) → list_any is_acked e.dels ≡ b → seen_by stamps_of k (cond b (without_pending e) e) ≡ seen_by stamps_of k e
    step true h =
        ap (λ b. has_occurred_at_stage k e.ins && not b) (any-acked k e.dels [] h ∙ sym (any-acked k e.dels (removal_stamp e.removal_stage) h))
    step false h = refl

named-carried : (x : ElementId) (e : ListElement) → has_id x (carried_element e) ≡ has_id x e
named-carried x e = step (list_any is_acked e.dels)
  where
    step : (b : Bool) → has_id x (cond b (without_pending e) e) ≡ has_id x e
    step true = refl
    step false = refl

-- where an element of this name stands in the rebuilt list, told by what has the same stamps at each place
module _ {B : Type 0} (sb : B → ElementStamps) (f : ListElement → B) (same : (e : ListElement) → sb (f e) ≡ stamps_of e) where
  pub named-place : (list : Sequence) (ms : List ℕ) (last : ℕ) (x : ElementId) → AreStagesOf 0 last list.items ms
      → len (has_id x) list.items ≡ 1
      → rank (has_id x) (λ e. true) (rebuilt_list ms list).items
      ≡ rebuilt_place sb last (map f list.items) (rank (has_id x) (λ e. true) list.items)
  named-place list ms last x stages one =
      let xs = list.items in
      let there : List ListElement → ℕ = λ ys. rank (has_id x) (λ e. true) ys in
      ap there (listed-stages xs (retain_map is_sequenced carried_element xs) 0 last ms (omega arith) stages)
      ∙ place-carried stamps_of carried_element seen-carried (has_id x) (named-carried x) last xs
      ∙ place-rebuilt stamps_of (has_id x) last xs one
      ∙ sym (rebuilt_place-image stamps_of sb f (λ k e. ap (λ (s : ElementStamps). inserted_by (λ (t : ElementStamps). t) k s) (same e))
      (λ k e. ap (λ (s : ElementStamps). seen_by (λ (t : ElementStamps). t) k s) (same e))
      (λ e. ap (λ (s : ElementStamps). is_acked s.ins) (same e)) last xs (rank (has_id x) (λ e. true) xs))
