-- Stages of a text one after another, as a loop acknowledges them.
use Rattle.std.proofs.Common.{◌≡◌, ℕ, ◌+◌, ◌≤◌, ◌<◌, All, Bool, true, false, cond, not, ◌||◌, nat_eq, nat_lt, min, IsTrue, List, [], ◌∷◌, Option, Some, None, refl, sym, ◌∙◌, ap, subst, arith, length, drop, map, filter}
use Rattle.std.specs.List.{list_all}
use Rattle.std.proofs.lemmas.Bool.Decides.{nat_tests}
use Rattle.std.proofs.lemmas.List.Elements.{All-cons, All-nil}
use Rattle.ft_base.proofs.Booleans.{both}
use Rattle.ft_interval_store.specs.declared.pending.Operation.{Operation}
use Rattle.ft_interval_store.specs.declared.intervals.EndPair.{EndPair}
use Rattle.ft_interval_store.specs.declared.intervals.Interval.{Interval}
use Rattle.ft_interval_store.specs.Ends.{References, map_ends, slid_end}
use Rattle.ft_interval_store.specs.State.{CollectionsState, IsLive, first_stage, is_first, placed, placed_operations, text_elements, with_first_acked}
use Rattle.std.proofs.lemmas.List.{length-map}
use Rattle.ft_laws_agreement.proofs.NumberTests.{same_number}
use Rattle.ft_tree_leaves.specs.declared.text.TextContent.{TextContent}
use Rattle.ft_tree_leaves.specs.Elements.{IsLowestChange, TreeElement, acked_element}
use Rattle.ft_tree_leaves.specs.TextLeaves.{text_author}
use Rattle.ft_props.specs.declared.properties.Changes.{Changes}
use Rattle.ft_props.specs.Element.{ElementContent}
use Rattle.ft_props.specs.Overlay.{without_stage}
use Rattle.ft_tree.specs.State.{TreeState}
use Rattle.ft_text.specs.Texts.{TextElements}
use Rattle.ft_string.specs.Acks.{AcksStage, AcksStages, AreNoted, OpsRise, first_op, if_below, is_noted, least_of, next, next_below, none}
use Rattle.ft_string.specs.declared.pending.PendingOp.{PendingOp}

-- ---- changes that are noted

-- a noted change is of no stage below the first
noted-above : (low : ℕ) (ops : List PendingOp) → OpsRise low ops → (q : ℕ × Changes) → is_noted ops q ≡ true → low < q.0
noted-above low [] r q h = (cc)
noted-above low (t ∷ ts) r q h = step (nat_eq t.stage q.0) refl h (λ g. noted-above t.stage ts r.1 q g)
  where
    step : (b : Bool) → nat_eq t.stage q.0 ≡ b → b || is_noted ts q ≡ true → (is_noted ts q ≡ true → t.stage < q.0) → low < q.0
    step true e g rest = let same = same_number t.stage q.0 e in let up = r.0 in omega arith
    step false e g rest = let up = r.0 in let far = rest g in omega arith

noted-from : (k : ℕ) (t : PendingOp) (ts : List PendingOp) → k ≤ t.stage → OpsRise t.stage ts → (q : ℕ × Changes) → is_noted (t ∷ ts) q ≡ true → k ≤ q.0
noted-from k t ts l r q h = step (nat_eq t.stage q.0) refl h (λ g. noted-above t.stage ts r q g)
  where
    step : (b : Bool) → nat_eq t.stage q.0 ≡ b → b || is_noted ts q ≡ true → (is_noted ts q ≡ true → t.stage < q.0) → k ≤ q.0
    step true e g rest = let same = same_number t.stage q.0 e in omega arith
    step false e g rest = let far = rest g in omega arith

-- each lowest stage is below them
changes-from : (k : ℕ) (ops : List PendingOp) → ((q : ℕ × Changes) → is_noted ops q ≡ true → k ≤ q.0) → (qs : List (ℕ × Changes))
    → list_all (is_noted ops) qs ≡ true
    → All (λ q. k ≤ q.0) qs
changes-from k ops f [] h = All-nil (λ (q : ℕ × Changes). k ≤ q.0)
changes-from k ops f (q ∷ qs) h =
    let p = both (is_noted ops q) (list_all (is_noted ops) qs) h in All-cons (λ (q : ℕ × Changes). k ≤ q.0) q qs (f q p.0) (changes-from k ops f qs p.1)

all-from : (k : ℕ) (ops : List PendingOp) → ((q : ℕ × Changes) → is_noted ops q ≡ true → k ≤ q.0) → (xs : TextElements) → AreNoted ops xs
    → All (λ e. IsLowestChange k e.overlay) xs
all-from k ops f [] h = All-nil (λ (e : TreeElement ElementContent). IsLowestChange k e.overlay)
all-from k ops f (e ∷ xs) h =
    let p = both (list_all (is_noted ops) e.overlay.pending) (list_all (λ e. list_all (is_noted ops) e.overlay.pending) xs) h in
    All-cons (λ (e : TreeElement ElementContent). IsLowestChange k e.overlay) e xs (changes-from k ops f e.overlay.pending p.0) (all-from k ops f xs p.1)

pub some-same : {a b : ℕ} → Some a ≡ Some b → a ≡ b
some-same e = (cc)

pub below-is : (end : ℕ) (o : Option ℕ) (k : ℕ) → if_below end o ≡ Some k → o ≡ Some k
below-is end None k h = (cc)
below-is end (Some j) k h = step (nat_lt j end) h
  where
    step : (b : Bool) → cond b (Some j) None ≡ Some k → Some j ≡ Some k
    step true g = g
    step false g = (cc)

least-first : (a k : ℕ) (o : Option ℕ) → least_of (Some a) o ≡ Some k → k ≤ a
least-first a k None h = let same : a ≡ k = some-same h in omega arith
least-first a k (Some b) h = let same : min a b ≡ k = some-same h in omega arith

pub lowest : (end k : ℕ) (c : CollectionsState) (ops : List PendingOp) (xs : TextElements) → next_below end c ops ≡ Some k → OpsRise 0 ops → AreNoted ops xs
    → All (λ e. IsLowestChange k e.overlay) xs
lowest end k c ops xs h r n = all-from k ops (from ops r (below-is end (least_of (first_op ops) (first_stage c.pending)) k h)) xs n
  where
    from : (ops : List PendingOp) → OpsRise 0 ops → least_of (first_op ops) (first_stage c.pending) ≡ Some k → (q : ℕ × Changes)
        → is_noted ops q ≡ true → k ≤ q.0
    from [] r g q f = (cc)
    from (t ∷ ts) r g q f = noted-from k t ts (least-first t.stage k (first_stage c.pending) g) r.1 q f

-- ---- after a stage

all-filtered : {A : Type 0} (test keep : A → Bool) (xs : List A) → list_all test xs ≡ true → list_all test (filter keep xs) ≡ true
all-filtered test keep [] h = refl
all-filtered test keep (x ∷ xs) h = let p = both (test x) (list_all test xs) h in step (keep x) p.0 (all-filtered test keep xs p.1)
  where
    step : (b : Bool) → test x ≡ true → list_all test (filter keep xs) ≡ true → list_all test (cond b (x ∷ filter keep xs) (filter keep xs)) ≡ true
    step true t rest = rw (t, rest) refl
    step false t rest = rest

kept-noted : (k s c : ℕ) (ops : List PendingOp) (xs : TextElements) → AreNoted ops xs → AreNoted ops (map (acked_element k s c (text_author s c)) xs)
kept-noted k s c ops [] h = refl
kept-noted k s c ops (e ∷ xs) h =
    let p = both (list_all (is_noted ops) e.overlay.pending) (list_all (λ e. list_all (is_noted ops) e.overlay.pending) xs) h in
    rw (all-filtered (is_noted ops) (λ q. not (nat_eq q.0 k)) e.overlay.pending p.0, kept-noted k s c ops xs p.1) refl

eq-back : (m n k : ℕ) → m ≡ k → nat_eq m n ≡ nat_eq n k
eq-back m n k e = grind (arith, nat_tests)

others-noted : (k : ℕ) (t : PendingOp) (ts : List PendingOp) → t.stage ≡ k → (qs : List (ℕ × Changes)) → list_all (is_noted (t ∷ ts)) qs ≡ true
    → list_all (is_noted ts) (without_stage k qs) ≡ true
others-noted k t ts e [] h = refl
others-noted k t ts e (q ∷ qs) h =
    let p = both (is_noted (t ∷ ts) q) (list_all (is_noted (t ∷ ts)) qs) h in
    step (nat_eq q.0 k) (subst (λ b. b || is_noted ts q ≡ true) (eq-back t.stage q.0 k e) p.0) (others-noted k t ts e qs p.1)
  where
    step : (b : Bool) → b || is_noted ts q ≡ true → list_all (is_noted ts) (without_stage k qs) ≡ true
        → list_all (is_noted ts) (cond (not b) (q ∷ without_stage k qs) (without_stage k qs)) ≡ true
    step true g rest = rest
    step false g rest = rw (g, rest) refl

dropped-noted : (k s c : ℕ) (t : PendingOp) (ts : List PendingOp) → t.stage ≡ k → (xs : TextElements) → AreNoted (t ∷ ts) xs
    → AreNoted ts (map (acked_element k s c (text_author s c)) xs)
dropped-noted k s c t ts e [] h = refl
dropped-noted k s c t ts e (x ∷ xs) h =
    let p = both (list_all (is_noted (t ∷ ts)) x.overlay.pending) (list_all (λ e. list_all (is_noted (t ∷ ts)) e.overlay.pending) xs) h in
    rw (others-noted k t ts e x.overlay.pending p.0, dropped-noted k s c t ts e xs p.1) refl

-- the lowest stage that isn't the first on intervals is the first on elements
lesser : (a b k : ℕ) → min a b ≡ k → nat_eq b k ≡ false → a ≡ k
lesser a b k h e = step (nat_eq a k) refl
  where
    step : (d : Bool) → nat_eq a k ≡ d → a ≡ k
    step true g = same_number a k g
    step false g = grind (arith, nat_tests)

first-element : (k : ℕ) (t : PendingOp) (us : List Operation) → least_of (Some t.stage) (first_stage us) ≡ Some k → is_first k us ≡ false → t.stage ≡ k
first-element k t [] h e = some-same h
first-element k t (u ∷ us) h e = lesser t.stage u.stage k (some-same h) e

rise-tail : (low : ℕ) (t : PendingOp) (ts : List PendingOp) → OpsRise low (t ∷ ts) → OpsRise low ts
rise-tail low t [] r = tt
rise-tail low t (u ∷ us) r = (let a = r.0 in let b = r.1.0 in omega arith, r.1.1)

-- ---- the loop

-- how many operations are pending
abbrev pub pending_count : CollectionsState → List PendingOp → ℕ
pending_count c ops = length ops + length c.pending

pub record AcksSoFar (end s c : ℕ) (first now : TreeState TextContent) (before given : CollectionsState) (ops rest : List PendingOp) : Type 0 where
  pub whole : (new : TreeState TextContent) (after : CollectionsState) (more : List PendingOp) → AcksStages end s c now new given after rest more
      → AcksStages end s c first new before after ops more
  pub usable : IsTrue now.usable
  pub live : IsLive now.refs given
  pub rise : OpsRise 0 rest
  pub noted : AreNoted rest (text_elements now)

-- what stays of the operations, by whether the stage is the first on intervals
rest-rise : (b : Bool) (ops : List PendingOp) → OpsRise 0 ops → OpsRise 0 (cond b ops (drop 1 ops))
rest-rise true ops r = r
rest-rise false [] r = r
rest-rise false (t ∷ ts) r = rise-tail 0 t ts r

rest-noted : (k s c : ℕ) (ops : List PendingOp) (us : List Operation) (xs : TextElements)
    → least_of (first_op ops) (first_stage us) ≡ Some k → AreNoted ops xs → (b : Bool)
    → is_first k us ≡ b → AreNoted (cond b ops (drop 1 ops)) (map (acked_element k s c (text_author s c)) xs)
rest-noted k s c ops us xs l n true e = kept-noted k s c ops xs n
rest-noted k s c [] us xs l n false e = kept-noted k s c [] xs n
rest-noted k s c (t ∷ ts) us xs l n false e = dropped-noted k s c t ts (first-element k t us l e) xs n

-- a first stage on intervals is pending no more
first-gone : (k : ℕ) (refs : References) (f : EndPair ℕ → EndPair ℕ) (acked : List (Interval ℕ)) (us : List Operation) → is_first k us ≡ true
    → length (with_first_acked f (placed refs (record { acked = acked; pending = us }))).pending + 1 ≡ length us
first-gone k refs f acked [] h = (cc)
first-gone k refs f acked (u ∷ us) h = let same : length (placed_operations refs us) ≡ length us = length-map us _ in omega arith

-- and where there is none, there is one on elements
some-op : (k : ℕ) (ops : List PendingOp) (us : List Operation) → least_of (first_op ops) (first_stage us) ≡ Some k → is_first k us ≡ false
    → length (drop 1 ops) < length ops
some-op k [] [] h e = (cc)
some-op k [] (u ∷ us) h e = let same : u.stage ≡ k = some-same h in absurd (grind (arith, nat_tests))
some-op k (t ∷ ts) us h e = omega arith

module _ (end k s c : ℕ) (now mid : TreeState TextContent) (given between : CollectionsState) (rest more : List PendingOp) (h : next_below end given rest ≡ Some k)
    (a : AcksStage k s c now mid given between rest more) where
  found : least_of (first_op rest) (first_stage given.pending) ≡ Some k
  found = below-is end (least_of (first_op rest) (first_stage given.pending)) k h

  pub acks-next : (first : TreeState TextContent) (before : CollectionsState) (ops : List PendingOp) → AcksSoFar end s c first now before given ops rest
      → AcksSoFar end s c first mid before between ops more
  acks-next first before ops g = record {
    whole = λ new after last t. g.whole new after last (next h a t);
    usable = subst (λ b. IsTrue b) (sym (ap (λ (x : TreeState TextContent). x.usable) a.leaves ∙ a.goes.usable)) g.usable;
    live = a.refs.live;
    rise = subst (λ os. OpsRise 0 os) (sym a.ops_are) (rest-rise (is_first k given.pending) rest g.rise);
    noted = subst (λ os. AreNoted os (text_elements mid)) (sym a.ops_are)
        (subst (λ xs. AreNoted (cond (is_first k given.pending) rest (drop 1 rest)) xs) (sym (ap (λ x. text_elements x) a.leaves ∙ a.elements))
        (rest-noted k s c rest given.pending (text_elements now) found g.noted (is_first k given.pending) refl));
  }

  -- and less is pending
  pub acks-fewer : pending_count between more < pending_count given rest
  acks-fewer = step (is_first k given.pending) refl
    where
      step : (b : Bool) → is_first k given.pending ≡ b → pending_count between more < pending_count given rest
      step true e =
          let left : length between.pending ≡ length (with_first_acked (map_ends (slid_end (text_elements a.mid))) (placed a.mid.refs given)).pending =
          sym (length-map between.pending _) ∙ ap (λ (x : CollectionsState). length x.pending)
          (a.intervals ∙ ap (λ c. cond c (with_first_acked (map_ends (slid_end (text_elements a.mid))) (placed a.mid.refs given)) (placed a.mid.refs given)) e) in
          let gone = first-gone k a.mid.refs (map_ends (slid_end (text_elements a.mid))) given.acked given.pending e in
          let ops = ap length (a.ops_are ∙ ap (λ c. cond c rest (drop 1 rest)) e) in
          omega arith
      step false e =
          let left : length between.pending ≡ length given.pending =
          sym (length-map between.pending _) ∙ ap (λ (x : CollectionsState). length x.pending)
          (a.intervals ∙ ap (λ c. cond c (with_first_acked (map_ends (slid_end (text_elements a.mid))) (placed a.mid.refs given)) (placed a.mid.refs given)) e)
          ∙ length-map given.pending _ in
          let ops = ap length (a.ops_are ∙ ap (λ c. cond c rest (drop 1 rest)) e) in
          let some = some-op k rest given.pending found e in
          omega arith

pub acks-done : (end s c : ℕ) (first now : TreeState TextContent) (before given : CollectionsState) (ops rest : List PendingOp)
    → AcksSoFar end s c first now before given ops rest
    → next_below end given rest ≡ None → AcksStages end s c first now before given ops rest
acks-done end s c first now before given ops rest g h = g.whole now given rest (none h)
