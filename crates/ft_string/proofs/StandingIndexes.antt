-- The indexes of intervals stand on the tree after each step of it, since the ends of acknowledged intervals keep their order.
use Rattle.std.proofs.Common.{◌≡◌, ℕ, zero, suc, ◌+◌, Bool, true, false, IsSome, List, [], ◌∷◌, ◌++◌, Option, Some, None, length, map, is_some, option_and_then, option_map, refl, sym, ◌∙◌, ap, subst, inl, inr, cond, arith}
use Rattle.std.specs.Prelude.{◌⊎◌}
use Rattle.std.specs.declared.cmp.Ordering.{Ordering}
use Rattle.std.specs.declared.cmp.Ordering.TheVariants.{Less, Equal, Greater}
use Rattle.std.proofs.lemmas.List.{length-append, length-map}
use Rattle.ft_base.specs.Scan.{change_range_from, no_run, one_more_if, put, put_past}
use Rattle.ft_base.specs.declared.elements.Perspective.{Perspective}
use Rattle.ft_base.specs.declared.stamps.Stamp.TheVariants.{Acked, Local}
use Rattle.ft_block.specs.Leaves.{last_stage}
use Rattle.ft_block.specs.declared.leaves.LenView.TheVariants.{At}
use Rattle.ft_op.specs.declared.operations.BaseOp.{BaseOp}
use Rattle.ft_op.specs.declared.operations.BaseOp.TheVariants.{Annotate, Insert, Remove}
use Rattle.ft_op.specs.Operation.{segment_contents}
use Rattle.ft_props.specs.Properties.{apply}
use Rattle.ft_tree_leaves.specs.declared.references.Reference.{Reference}
use Rattle.ft_tree_leaves.specs.declared.text.TextContent.{TextContent}
use Rattle.ft_tree_leaves.specs.Edits.{with_place}
use Rattle.ft_tree_leaves.specs.Elements.{acked_element, is_pending, is_unremoved, new_elements, seen_in}
use Rattle.ft_tree_leaves.specs.Places.{put_place, shifted_place}
use Rattle.ft_tree_leaves.specs.References.{ChangesReferences, reference_place, reference_at, slid_reference}
use Rattle.ft_tree_leaves.specs.TextLeaves.{text_author}
use Rattle.ft_tree.specs.State.{TreeState}
use Rattle.ft_interval_store.specs.declared.intervals.EndPair.{EndPair}
use Rattle.ft_interval_store.specs.declared.intervals.Interval.{Interval}
use Rattle.ft_interval_store.specs.Ends.{References, place_of_end, slid_end}
use Rattle.ft_interval_store.specs.Intervals.{Name, interval_of, name_cmp, name_of}
use Rattle.ft_interval_store.specs.State.{CollectionsState, IsLive, IsMarked, ends_of_name, is_acknowledged, text_elements}
use Rattle.ft_interval_index.specs.Indexes.{index_of}
use Rattle.ft_interval.specs.State.{IndexedState, StandsOn}
use Rattle.ft_interval_index.specs.Order.{IsAtMost, IsWithin, KeepsEndOrder}
use Rattle.ft_interval_index.proofs.Listed.{moved-listed}
use Rattle.ft_interval.proofs.ListedEffects.{has-end}
use Rattle.ft_interval_index.proofs.ShownOrder.{settle-order, shifted-order}
use Rattle.ft_text.specs.Texts.{TextElements}
use Rattle.ft_string.specs.Acks.{AcksStage}
use Rattle.ft_string.specs.Parts.{AppliesOp, AreSound, TakesOps, TriesOp, TriesOps, taken_elements, taken_place}
use Rattle.ft_string.specs.declared.pending.PendingOp.{PendingOp}
use Rattle.ft_string.proofs.Applied.{slid-acked}
use Rattle.ft_string.proofs.Documents.{acked-mapped, some-mapped}
use Rattle.ft_string.proofs.Ends.{HaveEnds, IsMarkedEnd, end-moved, end-slid, ends-marked}
use Rattle.ft_string.proofs.Wholes.{try-sound}

-- ---- the ends of intervals

have-named : (P : Option ℕ → Type 0) (is : List (Interval ℕ)) (n : Name) (i : Interval ℕ) → HaveEnds P is → interval_of n is ≡ Some i
    → P i.ends.start × P i.ends.end
have-named P [] n i h e = (cc)
have-named P (x ∷ is) n i h e = step (name_cmp n (name_of x)) e (λ k. have-named P is n i h.1 k)
  where
    step : (o : Ordering) → elim o as (λ _. Option (Interval ℕ)) [ Less ↦ None | Equal ↦ Some x | Greater ↦ interval_of n is ] ≡ Some i
        → (interval_of n is ≡ Some i → P i.ends.start × P i.ends.end) → P i.ends.start × P i.ends.end
    step Less k f = (cc)
    step Equal k f = let same : x ≡ i = (cc) in subst (λ (y : Interval ℕ). P y.ends.start × P y.ends.end) same h.0
    step Greater k f = f k

-- what is known of all ends is known of those of a name
pub named-end : (P : Option ℕ → Type 0) (is : List (Interval ℕ)) → HaveEnds P is → (m : Name) (r : ℕ)
    → ((ends_of_name m is).start ≡ Some r) ⊎ ((ends_of_name m is).end ≡ Some r) → P (Some r)
named-end P is h m r e = elim e [
  | inl g ↦ let w = has-end (λ (p : EndPair ℕ). p.start) refl is m r g in subst P w.end (have-named P is m w.interval h w.there).0
  | inr g ↦ let w = has-end (λ (p : EndPair ℕ). p.end) refl is m r g in subst P w.end (have-named P is m w.interval h w.there).1
]

always : (P : Option ℕ → Type 0) → ((e : Option ℕ) → P e) → (is : List (Interval ℕ)) → HaveEnds P is
always P f [] = tt
always P f (i ∷ is) = ((f i.ends.start, f i.ends.end), always P f is)

have-more : (P Q : Option ℕ → Type 0) → ((e : Option ℕ) → P e → Q e) → (is : List (Interval ℕ)) → HaveEnds P is → HaveEnds Q is
have-more P Q f [] h = tt
have-more P Q f (i ∷ is) h = ((f i.ends.start h.0.0, f i.ends.end h.0.1), have-more P Q f is h.1)

pub live-changed : (g : Reference → Reference) (refs after : References) → ChangesReferences g refs after → (c : CollectionsState)
    → IsLive refs c → IsLive after c
live-changed g refs after changes c live r k = subst (λ o. IsSome o) (sym (changes r)) (some-mapped g (reference_at refs r) (live r k))

module _ (tree new : TreeState TextContent) (c : IndexedState) (live : IsLive new.refs c.state) (s : StandsOn tree c) where
  pub stands-moved : (f : Option ℕ → Option ℕ) → KeepsEndOrder (length (text_elements tree)) (length (text_elements new)) f
      → HaveEnds (λ e. place_of_end new.refs e ≡ f (place_of_end tree.refs e)) c.state.acked → StandsOn new c
  stands-moved f o h = record {
    live = live;
    listed = λ l. moved-listed (length (text_elements tree)) (length (text_elements new)) f o tree.refs new.refs (λ j. ends_of_name (l, j) c.state.acked) (index_of l c.indexes)
        (λ j r e. named-end (λ p. place_of_end new.refs p ≡ f (place_of_end tree.refs p)) c.state.acked h (l, j) r e) (s.listed l);
  }

-- ---- lengths

module _ {A : Type 0} where
  length-past : (past : A → Bool) (new xs : List A) → length (put_past past new xs) ≡ length xs + length new
  length-past past new [] = omega arith
  length-past past new (x ∷ xs) = step (past x) (length-past past new xs)
    where
      step : (b : Bool) → length (put_past past new xs) ≡ length xs + length new
          → length (cond b (x ∷ put_past past new xs) (new ++ (x ∷ xs))) ≡ length (x ∷ xs) + length new
      step true e = omega (arith, e)
      step false e = omega (arith, length-append new (x ∷ xs))

  length-put : (seen past : A → Bool) (p : ℕ) (new xs : List A) → length (put seen past p new xs) ≡ length xs + length new
  length-put seen past zero new xs = length-past past new xs
  length-put seen past (suc p) new [] = omega arith
  length-put seen past (suc p) new (x ∷ xs) = step (seen x) (length-put seen past p new xs) (length-put seen past (suc p) new xs)
    where
      step : (b : Bool) → length (put seen past p new xs) ≡ length xs + length new → length (put seen past (suc p) new xs) ≡ length xs + length new
          → length (x ∷ put seen past (cond b p (suc p)) new xs) ≡ length (x ∷ xs) + length new
      step true e f = omega (arith, e)
      step false e f = omega (arith, f)

  length-range : (i : ℕ) (seen : A → Bool) (p q : ℕ) (f : A → A) (xs : List A) → length (change_range_from i seen p q f xs) ≡ length xs
  length-range i seen p q f [] = refl
  length-range i seen p q f (x ∷ xs) = ap suc (length-range (one_more_if (seen x) i) seen p q f xs)

-- ---- places that stay, and those that make room

map-same : {A : Type 0} (o : Option A) → option_map (λ x. x) o ≡ o
map-same None = refl
map-same (Some x) = refl

kept-order : (n m : ℕ) → m ≡ n → KeepsEndOrder n m (option_map (λ i. i))
kept-order n m e = subst (λ k. KeepsEndOrder n k (option_map (λ i. i))) (sym e) (record {
  rises = λ a b w h. subst (λ u. IsAtMost u (option_map (λ i. i) b)) (sym (map-same a)) (subst (λ u. IsAtMost a u) (sym (map-same b)) h);
  within = λ a w. subst (λ u. IsWithin n u) (sym (map-same a)) w;
  together = λ a b w v h. ap (λ u. is_some u) (map-same a) ∙ h ∙ sym (ap (λ u. is_some u) (map-same b));
  detached = refl;
})

room-order : (i k n m : ℕ) → m ≡ n + k → KeepsEndOrder n m (option_map (shifted_place i k))
room-order i k n m e = subst (λ j. KeepsEndOrder n j (option_map (shifted_place i k))) (sym e) (shifted-order i k n)

-- ---- an operation of the client's own

took-order : (k : ℕ) (op : BaseOp) (xs ys : TextElements) → ys ≡ taken_elements k op xs → KeepsEndOrder (length xs) (length ys) (option_map (taken_place op xs))
took-order k (Insert p seg props) xs ys e =
    let new = new_elements (Local k) None (apply [] props) (segment_contents seg) in
    room-order (put_place (seen_in last_stage) no_run p xs) (length (segment_contents seg)) (length xs) (length ys)
    (ap (λ zs. length zs) e ∙ length-put (seen_in last_stage) no_run p new xs ∙ ap (λ n. length xs + n) (length-map (segment_contents seg) _))
took-order k (Remove p q) xs ys e = kept-order (length xs) (length ys) (ap (λ zs. length zs) e ∙ length-range 0 (seen_in last_stage) p q _ xs)
took-order k (Annotate p q changes) xs ys e = kept-order (length xs) (length ys) (ap (λ zs. length zs) e ∙ length-range 0 (seen_in last_stage) p q _ xs)

pub took-stands : (k : ℕ) (os : List BaseOp) (tree new : TreeState TextContent) (c : IndexedState) → TakesOps k os tree new → StandsOn tree c → StandsOn new c
took-stands k [] tree new c t s = subst (λ x. StandsOn x c) (sym t) s
took-stands k (op ∷ os) tree new c t s =
    let a = t.1.0 in
    let f = taken_place op (text_elements tree) in
    took-stands (k + 1) os t.0 new c t.1.1 (stands-moved tree t.0 c (live-changed (with_place f) tree.refs t.0.refs a.refs c.state s.live) s (option_map f)
    (took-order k op (text_elements tree) (text_elements t.0) a.elements)
    (always (λ e. place_of_end t.0.refs e ≡ option_map f (place_of_end tree.refs e)) (λ e. end-moved f tree.refs t.0.refs a.refs e) c.state.acked))

-- ---- ends that slide

pub slid-stands : (tree new : TreeState TextContent) (c : IndexedState) → length (text_elements new) ≡ length (text_elements tree)
    → ChangesReferences (slid_reference (text_elements new)) tree.refs new.refs → IsMarked tree.refs c.state → StandsOn tree c → StandsOn new c
slid-stands tree new c same slides marked s =
    let xs = text_elements new in
    stands-moved tree new c (live-changed (slid_reference xs) tree.refs new.refs slides c.state s.live) s (slid_end xs)
    (subst (λ n. KeepsEndOrder n (length xs) (slid_end xs)) same (settle-order is_unremoved xs))
    (have-more (IsMarkedEnd true tree.refs) (λ e. place_of_end new.refs e ≡ slid_end xs (place_of_end tree.refs e)) (λ e m. end-slid xs tree.refs new.refs slides e m) c.state.acked
    (ends-marked true tree.refs c.state.acked marked.acked))

-- ---- a message of another client

applied-stands : (s : ℕ) (at : Perspective) (op : BaseOp) (tree new : TreeState TextContent) (c : IndexedState)
    → AppliesOp s at op tree new → IsMarked tree.refs c.state
    → StandsOn tree c → StandsOn new c
applied-stands s at (Insert p seg props) tree new c a marked st =
    let xs = text_elements tree in
    let f = shifted_place (put_place (seen_in (At at)) is_pending p xs) (length (segment_contents seg)) in
    let more = new_elements (Acked s at.c) (text_author s at.c) (apply [] props) (segment_contents seg) in
    stands-moved tree new c (live-changed (with_place f) tree.refs new.refs a.refs c.state st.live) st (option_map f)
    (room-order (put_place (seen_in (At at)) is_pending p xs) (length (segment_contents seg)) (length xs) (length (text_elements new))
    (ap (λ zs. length zs) a.elements ∙ length-put (seen_in (At at)) is_pending p more xs ∙ ap (λ n. length xs + n) (length-map (segment_contents seg) _)))
    (always (λ e. place_of_end new.refs e ≡ option_map f (place_of_end tree.refs e)) (λ e. end-moved f tree.refs new.refs a.refs e) c.state.acked)
applied-stands s at (Remove p q) tree new c a marked st =
    slid-stands tree new c (ap (λ zs. length zs) a.elements ∙ length-range 0 (seen_in (At at)) p q _ (text_elements tree))
    (subst (λ es. ChangesReferences (slid_reference es) tree.refs new.refs) (sym a.elements) a.refs) marked st
applied-stands s at (Annotate p q changes) tree new c a marked st =
    stands-moved tree new c (live-changed (λ x. x) tree.refs new.refs a.refs c.state st.live) st (option_map (λ i. i))
    (kept-order (length (text_elements tree)) (length (text_elements new)) (ap (λ zs. length zs) a.elements ∙ length-range 0 (seen_in (At at)) p q _ (text_elements tree)))
    (always (λ e. place_of_end new.refs e ≡ option_map (λ i. i) (place_of_end tree.refs e)) stay c.state.acked)
  where
    stay : (e : Option ℕ) → place_of_end new.refs e ≡ option_map (λ i. i) (place_of_end tree.refs e)
    stay None = refl
    stay (Some r) = ap (λ o. option_and_then (λ (x : Reference). x.place) o) (a.refs r ∙ map-same (reference_at tree.refs r)) ∙ sym (map-same (reference_place tree.refs r))

pub tried-stands : (s : ℕ) (at : Perspective) (os : List BaseOp) (n : ℕ) (tree new : TreeState TextContent) (c : IndexedState) → TriesOps s at os n tree new
    → AreSound tree c.state → StandsOn tree c → StandsOn new c
tried-stands s at [] n tree new c t h st = subst (λ x. StandsOn x c) (sym t.1) st
tried-stands s at (op ∷ os) n tree new c t h st =
    tried-stands s at os t.2 t.0 new c t.3.1 (try-sound s at op t.1 tree t.0 c.state t.3.0 h) (first t.1 t.3.0)
  where
    first : (m : ℕ) → TriesOp s at op m tree t.0 → StandsOn t.0 c
    first zero a = applied-stands s at op tree t.0 c a.1 h.marked st
    first (suc m) a = subst (λ x. StandsOn x c) (sym a.2) st

-- ---- a stage that is acknowledged

pub acked-stands : (k s conn : ℕ) (tree mid : TreeState TextContent) (c : IndexedState)
    → text_elements mid ≡ map (acked_element k s conn (text_author s conn)) (text_elements tree)
    → ChangesReferences (slid_reference (text_elements mid)) tree.refs mid.refs
    → IsMarked tree.refs c.state → StandsOn tree c → StandsOn mid c
acked-stands k s conn tree mid c elements slides marked st =
    slid-stands tree mid c (ap (λ zs. length zs) elements ∙ length-map (text_elements tree) (acked_element k s conn (text_author s conn))) slides marked st

pub acked-marked : (k s conn : ℕ) (tree new : TreeState TextContent) (c d : CollectionsState) (ops rest : List PendingOp)
    → AcksStage k s conn tree new c d ops rest
    → IsMarked tree.refs c → IsMarked new.refs d
acked-marked k s conn tree new c d ops rest a m = a.refs.marked (record { acked = λ r e. same r ∙ m.acked r e; pending = λ r e. same r ∙ m.pending r e })
  where
    same : (r : ℕ) → is_acknowledged a.mid.refs r ≡ is_acknowledged tree.refs r
    same r =
        ap (λ o. option_map (λ (x : Reference). x.acked) o) (a.slides r)
        ∙ acked-mapped (slid_reference (text_elements a.mid)) (λ x. slid-acked (text_elements a.mid) x) (reference_at tree.refs r)
