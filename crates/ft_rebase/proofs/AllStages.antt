-- All pending insertion stages are moved, one after another.
use Rattle.std.proofs.Common.{◌≡◌, ℕ, Option, Some, zero, suc, ◌+◌, ◌-◌, ◌<◌, ◌≤◌, Bool, true, false, cond, ◌||◌, ◌&&◌, nat_le, nat_eq, All, List, [], ◌∷◌, filter, length, map, drop, get_or, drop-cons, add-one, refl, sym, ◌∙◌, ap, subst, arith}
use Rattle.std.specs.List.{flat_map, list_all, list_any}
use Rattle.std.proofs.lemmas.Bool.Decides.{nat_tests}
use Rattle.std.proofs.lemmas.List.Elements.{All-filter, All-weaker}
use Rattle.ft_base.specs.declared.stamps.Stamp.{Stamp}
use Rattle.ft_base.specs.declared.stamps.Stamp.TheVariants.{Acked, Local}
use Rattle.ft_base.specs.declared.elements.Element.{Element as ElementStamps}
use Rattle.ft_base.specs.Scan.{no_run, put, rank}
use Rattle.ft_base.specs.Visibility.{has_occurred_at_stage, is_acked, is_of_stage}
use Rattle.ft_block.specs.Leaves.{times_leaf}
use Rattle.ft_tree_leaves.specs.declared.leaves.TreeLeaf.{TreeLeaf}
use Rattle.ft_tree_leaves.specs.Elements.{TreeElement, element_with}
use Rattle.ft_tree_leaves.specs.LeafLists.{elements}
use Rattle.ft_props.proofs.RebuiltList.{any-filter, filter-twice}
use Rattle.ft_rebase.specs.declared.moves.StageMove.{StageMove}
use Rattle.ft_rebase.specs.Moves.{AreMoves, EndsLeaf, amount, leaf_stamps, moved_stage}
use Rattle.ft_rebase.specs.RebuiltPlaces.{rebuilt_place}
use Rattle.ft_rebase.specs.Spots.{spot_at}
use Rattle.ft_rebase.specs.StageLists.{StagesUpTo, StandSideBySide, inserted_by, inserted_up_to, next_position, seen_by, sequenced, with_stages}
use Rattle.ft_rebase.proofs.Expanded.{any-items, filter-items, len-filter, rank-len, side-items, stages-items}
use Rattle.ft_rebase.proofs.KeptPlaces.{place-rebuilt, rebuilt_place-image}
use Rattle.ft_rebase.proofs.SpotPlaces.{Spotted, is_at_spot, length-enumerate, own, own-elements, spot-stands, spot_units, spots, spotted}
use Rattle.ft_rebase.proofs.StageListLemmas.{MovedUpTo, filter-put_none, moved_all, moves_next, moves_none, none-filtered, none-is, none-later, put-nothing, view-moved}

amount-seen : {A : Type 0} (size : A → ℕ) (see : A → Bool) (q : ℕ) (xs : List A) → amount size see q (filter see xs) ≡ amount size see q xs
amount-seen size see zero xs = refl
amount-seen size see (suc q) [] = refl
amount-seen size see (suc q) (x ∷ xs) = step (see x) refl (amount-seen size see q xs) (amount-seen size see (suc q) xs)
  where
    step : (b : Bool) → see x ≡ b → amount size see q (filter see xs) ≡ amount size see q xs → amount size see (suc q) (filter see xs)
        ≡ amount size see (suc q) xs
        → amount size see (suc q) (cond b (x ∷ filter see xs) (filter see xs))
        ≡ cond b (size x + amount size see q xs) (amount size see (suc q) xs)
    step true e g h = ap (λ c. cond c (size x + amount size see q (filter see xs)) (amount size see (suc q) (filter see xs))) e
        ∙ ap (λ n. size x + n) g
    step false e g h = h

module _ {A : Type 0} (stamps : A → ElementStamps) where
  -- stages of which there is nothing
  pub moved_gap : (xs ys now : List A) (n a b : ℕ) → b ≡ a + n → MovedUpTo stamps xs ys now a
      → ((j : ℕ) → a < j → j ≤ b → list_any (inserted_by stamps j) xs ≡ false)
      → MovedUpTo stamps xs ys now b
  moved_gap xs ys now zero a b e m none = subst (MovedUpTo stamps xs ys now) (omega (arith, e)) m
  moved_gap xs ys now (suc n) a b e m none =
      moved_gap xs ys now n (suc a) b (omega (arith, e)) (moves_none stamps xs ys now a m
      (none (suc a) (omega arith) (omega (arith, e)))) (λ j h g. none j (omega (arith, h)) g)

  pub stages_gap : (xs ys : List A) (n a b : ℕ) → b ≡ a + n → ((j : ℕ) → a < j → j ≤ b → list_any (inserted_by stamps j) xs ≡ false)
      → with_stages stamps xs ys b ≡ with_stages stamps xs ys a
  stages_gap xs ys zero a b e none = ap (with_stages stamps xs ys) (omega (arith, e))
  stages_gap xs ys (suc n) a b e none =
      stages_gap xs ys n (suc a) b (omega (arith, e)) (λ j h g. none j (omega (arith, h)) g)
      ∙ nothing
    where
      nothing : with_stages stamps xs ys (suc a) ≡ with_stages stamps xs ys a
      nothing =
          let gone = none-is (inserted_by stamps (suc a)) (inserted_by stamps (suc a)) xs (none (suc a) (omega arith) (omega (arith, e))) in
          ap (λ us. put (seen_by stamps a) no_run (next_position stamps a xs) us (with_stages stamps xs ys a)) gone
          ∙ put-nothing (seen_by stamps a) (next_position stamps a xs) (with_stages stamps xs ys a)

  -- two last stages, above both of which there is nothing
  pub stages_same : (xs ys : List A) (a b : ℕ) → ((j : ℕ) → a < j → list_any (inserted_by stamps j) xs ≡ false)
      → ((j : ℕ) → b < j → list_any (inserted_by stamps j) xs ≡ false)
      → with_stages stamps xs ys a ≡ with_stages stamps xs ys b
  stages_same xs ys a b f g = step (nat_le a b) refl
    where
      step : (c : Bool) → nat_le a b ≡ c → with_stages stamps xs ys a ≡ with_stages stamps xs ys b
      step true e = let le : a ≤ b = grind (arith, nat_tests) in sym (stages_gap xs ys (b - a) a b (omega (arith, le)) (λ j h l. f j h))
      step false e = let lt : b < a = grind (arith, nat_tests) in stages_gap xs ys (a - b) b a (omega (arith, lt)) (λ j h l. g j h)

  pub all_up_to : (k : ℕ) (xs : List A) → ((j : ℕ) → k < j → list_any (inserted_by stamps j) xs ≡ false)
      → list_all (inserted_up_to stamps k) xs ≡ true
  all_up_to k [] h = refl
  all_up_to k (x ∷ xs) h = both (stamp (stamps x).ins (λ j l. or_first _ _ (h j l))) (all_up_to k xs (λ j l. or_second _ _ (h j l)))
    where
      or_first : (a b : Bool) → (a || b) ≡ false → a ≡ false
      or_first true b e = cc
      or_first false b e = refl

      or_second : (a b : Bool) → (a || b) ≡ false → b ≡ false
      or_second true b e = absurd cc
      or_second false b e = e

      stamp : (t : Stamp) → ((j : ℕ) → k < j → is_of_stage j t ≡ false) → has_occurred_at_stage k t ≡ true
      stamp (Acked s c) f = refl
      stamp (Local i) f = test (nat_le i k) refl
        where
          test : (b : Bool) → nat_le i k ≡ b → b ≡ true
          test true e = refl
          test false e =
              let above : k < i = grind (arith, nat_tests) in
              let no : nat_eq i i ≡ false = f i above in
              absurd (let yes : nat_eq i i ≡ true = grind (arith, nat_tests) in cc)

      both : {a b : Bool} → a ≡ true → b ≡ true → (a && b) ≡ true
      both e g = rw (e, g) refl

  -- where nothing is of stage 0, what is inserted up to it is sequenced
  pub sequenced-first : (xs : List A) → list_any (inserted_by stamps 0) xs ≡ false → filter (inserted_up_to stamps 0) xs
      ≡ filter (sequenced stamps) xs
  sequenced-first [] h = refl
  sequenced-first (x ∷ xs) h = step (stamps x).ins h (sequenced-first xs)
    where
      later : (i : ℕ) (b : Bool) → nat_le i 0 ≡ b → (nat_eq i 0 || list_any (inserted_by stamps 0) xs) ≡ false
          → (list_any (inserted_by stamps 0) xs ≡ false → filter (inserted_up_to stamps 0) xs ≡ filter (sequenced stamps) xs)
          → cond b (x ∷ filter (inserted_up_to stamps 0) xs) (filter (inserted_up_to stamps 0) xs) ≡ filter (sequenced stamps) xs
      later i true e g ih = absurd (let yes : nat_eq i 0 ≡ true = grind (arith, nat_tests) in cc)
      later i false e g ih = ih (or_second (nat_eq i 0) (list_any (inserted_by stamps 0) xs) g)
        where
          or_second : (a b : Bool) → (a || b) ≡ false → b ≡ false
          or_second true b e = absurd cc
          or_second false b e = e

      step : (t : Stamp) → (is_of_stage 0 t || list_any (inserted_by stamps 0) xs) ≡ false
          → (list_any (inserted_by stamps 0) xs ≡ false → filter (inserted_up_to stamps 0) xs ≡ filter (sequenced stamps) xs)
          → cond (has_occurred_at_stage 0 t) (x ∷ filter (inserted_up_to stamps 0) xs) (filter (inserted_up_to stamps 0) xs)
          ≡ cond (is_acked t) (x ∷ filter (sequenced stamps) xs) (filter (sequenced stamps) xs)
      step (Acked s c) g ih = ap (λ ys. x ∷ ys) (ih g)
      step (Local i) g ih = later i (nat_le i 0) refl g ih

  sequenced-stages : (xs ys : List A) (k : ℕ) → filter (sequenced stamps) (with_stages stamps xs ys k) ≡ filter (sequenced stamps) ys
  sequenced-stages xs ys zero = refl
  sequenced-stages xs ys (suc k) =
      filter-put_none (sequenced stamps) (seen_by stamps k) (next_position stamps k xs) (filter (inserted_by stamps (suc k)) xs)
      (with_stages stamps xs ys k)
      (any-filter (sequenced stamps) (inserted_by stamps (suc k)) (λ x e. pending (stamps x).ins e) xs)
      ∙ sequenced-stages xs ys k
    where
      pending : (t : Stamp) → is_of_stage (suc k) t ≡ true → is_acked t ≡ false
      pending (Acked s c) e = cc
      pending (Local i) e = refl

  up_to-acked : (t : Stamp) → has_occurred_at_stage 0 t ≡ false → is_acked t ≡ false
  up_to-acked (Acked s c) e = cc
  up_to-acked (Local i) e = refl

  pub sequenced-kept : (xs : List A) (k : ℕ) → filter (sequenced stamps) (with_stages stamps xs (filter (inserted_up_to stamps 0) xs) k)
      ≡ filter (sequenced stamps) xs
  sequenced-kept xs k =
      sequenced-stages xs (filter (inserted_up_to stamps 0) xs) k
      ∙ filter-twice (sequenced stamps) (inserted_up_to stamps 0) (λ x e. up_to-acked (stamps x).ins e) xs

-- ---- the leaves of a tree

module _ {C U : Type 0} (units : C → List U) (xs : List (ℕ × TreeLeaf C)) where
  -- before any move
  abbrev unmoved : List (ℕ × TreeLeaf C)
  unmoved = filter (inserted_up_to leaf_stamps 0) xs

  -- the stages up to this one were moved, and these moves are left
  pub record MovesLeft (ms : List StageMove) (now : List (ℕ × TreeLeaf C)) : Type 0 where
    pub stage : ℕ
    pub moved : MovedUpTo leaf_stamps xs unmoved now stage
    pub rest : AreMoves units stage ms xs

  -- what the next move makes
  pub record MoveNext (m : StageMove) (rest : List StageMove) (now : List (ℕ × TreeLeaf C)) : Type 0 where
    pub some : 1 ≤ m.stage
    pub ends : EndsLeaf units m.position (m.stage - 1) now
    pub after : (new : List (ℕ × TreeLeaf C)) → new ≡ moved_stage leaf_stamps (m.stage - 1) ends.count now → MovesLeft rest new

  module _ (side : StandSideBySide leaf_stamps xs) where
    pub move_next : (m : StageMove) (rest : List StageMove) (now : List (ℕ × TreeLeaf C)) → MovesLeft (m ∷ rest) now → MoveNext m rest now
    move_next m rest now l =
        let k = m.stage - 1 in
        let q = next_position leaf_stamps k xs in
        let low : l.stage < m.stage = l.rest.0 in
        let here : suc k ≡ m.stage = omega (arith, low) in
        let gap : MovedUpTo leaf_stamps xs unmoved now k =
        moved_gap leaf_stamps xs unmoved now (k - l.stage) l.stage k (omega (arith, low)) l.moved
        (λ j a b. l.rest.1 j a (omega (arith, b, low))) in
        let views : filter (seen_by leaf_stamps k) now ≡ filter (seen_by leaf_stamps k) xs = view-moved leaf_stamps xs now k side gap in
        let size : ℕ × TreeLeaf C → ℕ = λ x. length (units x.1.content) in
        record {
          some = omega (arith, low);
          ends = record {
            count = q;
            fits = omega (
              arith,
              rank-len (inserted_by leaf_stamps (suc k)) (seen_by leaf_stamps k) xs,
              len-filter (seen_by leaf_stamps k) xs,
              len-filter (seen_by leaf_stamps k) now,
              ap length views,
            );
            is =
                l.rest.2
                ∙ sym (amount-seen size (seen_by leaf_stamps k) q xs)
                ∙ ap (amount size (seen_by leaf_stamps k) q) (sym views)
                ∙ amount-seen size (seen_by leaf_stamps k) q now;
          };
          after = λ new e. record {
            stage = m.stage;
            moved = subst (MovedUpTo leaf_stamps xs unmoved new) here (moves_next leaf_stamps xs unmoved now new k gap e);
            rest = l.rest.3;
          };
        }

  -- after the last move
  module _ (now : List (ℕ × TreeLeaf C)) (l : MovesLeft [] now) where
    none-now : (j : ℕ) → l.stage < j → list_any (inserted_by leaf_stamps j) now ≡ false
    none-now j h =
        none-filtered (inserted_by leaf_stamps j) (inserted_by leaf_stamps j) now
        (l.moved.later j h ∙ none-is (inserted_by leaf_stamps j) (inserted_by leaf_stamps j) xs (l.rest j h))

    pub moved_last : now ≡ with_stages leaf_stamps xs unmoved l.stage
    moved_last = moved_all leaf_stamps xs now l.stage l.moved (all_up_to leaf_stamps l.stage now none-now)

    -- sequenced leaves stay as they are, in their order
    pub nodes_kept : filter (sequenced leaf_stamps) now ≡ filter (sequenced leaf_stamps) xs
    nodes_kept = ap (filter (sequenced leaf_stamps)) moved_last ∙ sequenced-kept leaf_stamps xs l.stage

    module _ {B V : Type 0} (sb : B → ElementStamps) (us : ℕ × TreeLeaf C → List V) (f : ℕ × TreeLeaf C → V → B)
        (same : (x : ℕ × TreeLeaf C) (u : V) → sb (f x u) ≡ leaf_stamps x) (some : All (λ x. 1 ≤ length (us x)) xs)
        (side : StandSideBySide leaf_stamps xs) where
      -- what is made of each leaf, one or more things with its stamps, is put in afresh
      pub items_moved : (last : ℕ) → StagesUpTo leaf_stamps last xs → flat_map (λ x. map (f x) (us x)) now
          ≡ with_stages sb (flat_map (λ x. map (f x) (us x)) xs) (filter (sequenced sb) (flat_map (λ x. map (f x) (us x)) xs)) last
      items_moved last h =
          let list = flat_map (λ x. map (f x) (us x)) xs in
          let zero_test : ElementStamps → Bool = λ s. has_occurred_at_stage 0 s.ins in
          let some_unmoved = All-filter (inserted_up_to leaf_stamps 0) (λ x. 1 ≤ length (us x)) xs some in
          let base : filter (seen_by leaf_stamps 0) unmoved ≡ filter (seen_by leaf_stamps 0) xs =
          filter-twice (seen_by leaf_stamps 0) (inserted_up_to leaf_stamps 0) (λ x e. hidden (inserted_up_to leaf_stamps 0 x) _ e) xs in
          let any : (j : ℕ) → list_any (inserted_by sb j) list ≡ list_any (inserted_by leaf_stamps j) xs =
          λ j. any-items leaf_stamps sb us f same (λ s. is_of_stage j s.ins) xs some in
          ap (λ ys. flat_map (λ x. map (f x) (us x)) ys) moved_last
          ∙ stages-items leaf_stamps sb us f same xs unmoved some some_unmoved side base (none-later leaf_stamps xs) l.stage
          ∙ ap (λ ys. with_stages sb list ys l.stage) (sym (filter-items leaf_stamps sb us f same zero_test xs)
          ∙ sequenced-first sb list (any 0 ∙ h.first))
          ∙ stages_same sb list (filter (sequenced sb) list) l.stage last (λ j a. any j ∙ l.rest j a) (λ j a. any j ∙ h.above j a)
        where
          hidden : (a b : Bool) → a ≡ false → (a && b) ≡ false
          hidden true b h = cc
          hidden false b h = refl

    module _ (by : C → Option Stamp) (some : All (λ x. 1 ≤ length (units x.1.content)) xs) (side : StandSideBySide leaf_stamps xs) where
      abbrev stamps_of : TreeElement U → ElementStamps
      stamps_of e = e.stamps

      abbrev element_of : ℕ × TreeLeaf C → U → TreeElement U
      element_of x u = element_with x.1.stamps (by x.1.content) x.1.overlay u

      -- the stages of the leaves are those of their elements
      stages-leaves : (last : ℕ) → StagesUpTo stamps_of last (elements units by xs) → StagesUpTo leaf_stamps last xs
      stages-leaves last h =
          let any : (j : ℕ) → list_any (inserted_by stamps_of j) (elements units by xs) ≡ list_any (inserted_by leaf_stamps j) xs =
          λ j. any-items leaf_stamps stamps_of (λ x. units x.1.content) element_of (λ x u. refl) (λ s. is_of_stage j s.ins) xs some in
          record { first = sym (any 0) ∙ h.first; above = λ k a. sym (any k) ∙ h.above k a }

      -- the elements are those that are put in afresh
      pub elements_moved : (last : ℕ) → StagesUpTo (λ (e : TreeElement U). e.stamps) last (elements units by xs)
          → elements units by now ≡ with_stages (λ e. e.stamps) (elements units by xs)
          (filter (sequenced (λ e. e.stamps)) (elements units by xs)) last
      elements_moved last h = items_moved stamps_of (λ x. units x.1.content) element_of (λ x u. refl) some side last (stages-leaves last h)

      -- where an element stands that has kept its spot
      module _ (once : (i : ℕ) → times_leaf xs i ≤ 1) (once_now : (i : ℕ) → times_leaf now i ≤ 1) (last : ℕ)
          (h : StagesUpTo (λ (e : TreeElement U). e.stamps) last (elements units by xs)) (i j : ℕ) (s : ℕ × ℕ) where
        pub spot_moved : spot_at units xs i ≡ Some s → spot_at units now j ≡ Some s → j ≡ rebuilt_place stamps_of last (elements units by xs) i
        spot_moved before after =
            let sb : Spotted units by → ElementStamps = λ y. y.1.stamps in
            let list = spots units by xs in
            let is = is_at_spot units by s in
            let then = spot-stands units by s xs i once before in
            let there = spot-stands units by s now j once_now after in
            sym there.place
            ∙ ap (λ ys. rank is (λ y. true) ys) (items_moved sb (spot_units units by) (spotted units by) (λ x u. refl) filled side last (stages-leaves last h))
            ∙ place-rebuilt sb is last list then.once
            ∙ ap (rebuilt_place sb last list) then.place
            ∙ sym (rebuilt_place-image sb stamps_of (own units by) (λ k y. refl) (λ k y. refl) (λ y. refl) last list i)
            ∙ ap (λ es. rebuilt_place stamps_of last es i) (own-elements units by xs)
          where
            filled : All (λ x. 1 ≤ length (spot_units units by x)) xs
            filled = All-weaker (λ x. 1 ≤ length (units x.1.content)) (λ x. 1 ≤ length (spot_units units by x)) (λ x g. omega (arith, length-enumerate 0 (units x.1.content), g)) xs some

-- leaves whose elements stand side by side stand so
pub leaves_side : {C U : Type 0} (units : C → List U) (by : C → Option Stamp) (xs : List (ℕ × TreeLeaf C))
    → All (λ x. 1 ≤ length (units x.1.content)) xs
    → StandSideBySide (λ (e : TreeElement U). e.stamps) (elements units by xs) → StandSideBySide leaf_stamps xs
leaves_side {C} {U} units by xs some side =
    let f : ℕ × TreeLeaf C → U → TreeElement U = λ x u. element_with x.1.stamps (by x.1.content) x.1.overlay u in
    side-items leaf_stamps (λ e. e.stamps) (λ x. units x.1.content) f (λ x u. refl) xs some side

-- the next of the moves
pub next_move : (ms : List StageMove) (i : ℕ) (m : StageMove) → i < length ms → drop i ms ≡ get_or ms i m ∷ drop (i + 1) ms
next_move ms i m h = drop-cons ms i m h ∙ ap (λ n. get_or ms i m ∷ drop n ms) (sym (add-one i))
