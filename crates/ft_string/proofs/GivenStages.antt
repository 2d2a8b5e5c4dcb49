-- What is given of a shared text in a reconnection, edit by edit: the pending operations of one edit beside its stages.
use Rattle.std.proofs.Common.{◌≡◌, ℕ, ◌≤◌, ◌<◌, All, Bool, true, false, cond, nat_lt, List, [], ◌∷◌, ◌++◌, Some, refl, sym, ◌∙◌, ap, subst, arith, map, filter, flat_map, append_assoc}
use Rattle.std.specs.List.{list_all}
use Rattle.std.specs.Option.{option_map}
use Rattle.std.proofs.lemmas.Bool.Decides.{nat_tests}
use Rattle.std.proofs.lemmas.List.Elements.{All-head, All-tail}
use Rattle.ft_base.proofs.Booleans.{both}
use Rattle.ft_msg.specs.Indexed.{IndexedStage, indexed_stage}
use Rattle.ft_msg.specs.Reconnection.{carried_stage}
use Rattle.ft_op.specs.declared.operations.BaseOp.{BaseOp}
use Rattle.ft_op.specs.declared.operations.ChannelOp.TheVariants.{Text}
use Rattle.ft_op.specs.declared.operations.TextOp.TheVariants.{Group}
use Rattle.ft_op.specs.Document.{Document}
use Rattle.ft_op.specs.Intervals.{NamedElements}
use Rattle.ft_op.specs.Operation.{OnGrid, OnIntervals, OnText, SubOperation}
use Rattle.ft_op.specs.Pieces.{base_op_of, op_of, pieces}
use Rattle.ft_op.specs.Stages.{Stage}
use Rattle.ft_laws_agreement.specs.Sequencing.{Each}
use Rattle.ft_rebase.specs.Pieces.{pieces as tree_pieces}
use Rattle.ft_named.proofs.Bares.{AreElements}
use Rattle.ft_named.proofs.Lists.{map-append}
use Rattle.ft_text.specs.Texts.{TextElements}
use Rattle.ft_string.specs.Bare.{text_content}
use Rattle.ft_string.specs.Holds.{IsTextSound, is_on_elements}
use Rattle.ft_string.specs.Rejoins.{again_of, due, has_any, has_piece, left_over, one_of, piece_op}
use Rattle.ft_string.specs.State.{element_stage}
use Rattle.ft_string.specs.declared.pending.PendingOp.{PendingOp}
use Rattle.ft_string.proofs.SentPieces.{pieces-alike}

-- ---- lists

pub each-of : {A : Type 0} (P : A → Type 0) (xs : List A) → All P xs → Each P xs
each-of P [] h = tt
each-of P (x ∷ xs) h = (All-head P x xs h, each-of P xs (All-tail P x xs h))

-- ---- operations beside stages

module _ (doc : Document) where
  -- the operations are these stages
  abbrev pub AreOps : List PendingOp → List Stage → Type 0
  AreOps os us = map element_stage os ≡ map (indexed_stage doc) us

  ops-head : (o : PendingOp) (os : List PendingOp) (u : Stage) (us : List Stage) → AreOps (o ∷ os) (u ∷ us)
      → (element_stage o ≡ indexed_stage doc u) × AreOps os us
  ops-head o os u us e = ((cc), (cc))

  -- those up to a number, and those above it
  pub ops-split : (g : ℕ) (front back : List PendingOp) (us vs : List Stage) → All (λ t. t.stage ≤ g) front → All (λ t. g < t.stage) back
      → Each (λ t. t.stage ≤ g) us → Each (λ t. g < t.stage) vs → AreOps (front ++ back) (us ++ vs) → AreOps front us × AreOps back vs
  ops-split g [] back [] vs a b c d e = (refl, e)
  ops-split g [] [] (u ∷ us) vs a b c d e = (cc)
  ops-split g [] (o ∷ back) (u ∷ us) vs a b c d e =
      let h = ops-head o back u (us ++ vs) e in
      let same : o.stage ≡ u.stage = ap (λ (x : IndexedStage). x.stage) h.0 in
      let up = All-head (λ (t : PendingOp). g < t.stage) o back b in let low = c.0 in absurd (omega arith)
  ops-split g (o ∷ front) back [] [] a b c d e = (cc)
  ops-split g (o ∷ front) back [] (v ∷ vs) a b c d e =
      let h = ops-head o (front ++ back) v vs e in
      let same : o.stage ≡ v.stage = ap (λ (x : IndexedStage). x.stage) h.0 in
      let low = All-head (λ (t : PendingOp). t.stage ≤ g) o front a in let up = d.0 in absurd (omega arith)
  ops-split g (o ∷ front) back (u ∷ us) vs a b c d e =
      let h = ops-head o (front ++ back) u (us ++ vs) e in
      let rest = ops-split g front back us vs (All-tail (λ (t : PendingOp). t.stage ≤ g) o front a) b c.1 d h.1 in
      (ap (λ x. x ∷ map element_stage front) h.0 ∙ ap (λ xs. indexed_stage doc u ∷ xs) rest.0, rest.1)

  -- those below the end, and those behind
  pub ops-due : (end : ℕ) (os : List PendingOp) (us vs : List Stage) → Each (λ t. t.stage < end) us → Each (λ t. end ≤ t.stage) vs → AreOps os (us ++ vs)
      → AreOps (due end os) us × AreOps (left_over end os) vs
  ops-due end [] [] [] a b e = (refl, refl)
  ops-due end [] [] (v ∷ vs) a b e = (cc)
  ops-due end [] (u ∷ us) vs a b e = (cc)
  ops-due end (o ∷ os) [] [] a b e = (cc)
  ops-due end (o ∷ os) [] (v ∷ vs) a b e =
      let h = ops-head o os v vs e in
      let same : o.stage ≡ v.stage = ap (λ (x : IndexedStage). x.stage) h.0 in
      let no = not-below o.stage end (let up = b.0 in omega arith) in
      rw no (refl, e)
    where
      not-below : (n m : ℕ) → m ≤ n → nat_lt n m ≡ false
      not-below n m l = grind (arith, nat_tests)
  ops-due end (o ∷ os) (u ∷ us) vs a b e =
      let h = ops-head o os u (us ++ vs) e in
      let same : o.stage ≡ u.stage = ap (λ (x : IndexedStage). x.stage) h.0 in
      let yes = is-below o.stage end (let low = a.0 in omega arith) in
      let rest = ops-due end os us vs a.1 b h.1 in
      rw yes (ap (λ x. x ∷ map element_stage (due end os)) h.0 ∙ ap (λ xs. indexed_stage doc u ∷ xs) rest.0, rest.1)
    where
      is-below : (n m : ℕ) → n < m → nat_lt n m ≡ true
      is-below n m l = grind (arith, nat_tests)

-- ---- what is sent

sends-some : (os : List BaseOp) → flat_map base_op_of (map (λ o. OnText o) os) ≡ os
sends-some [] = refl
sends-some (o ∷ os) = ap (λ ps. o ∷ ps) (sends-some os)

pub sends-one : (os : List BaseOp) → option_map Text (one_of os) ≡ op_of (map (λ o. OnText o) os)
sends-one [] = refl
sends-one (o ∷ []) = refl
sends-one (o ∷ p ∷ os) = ap (λ ps. Some (Text (Group (o ∷ p ∷ ps)))) (sym (sends-some os))

has-mapped : {A B : Type 0} (f : A → B) (xs : List A) → has_any (map f xs) ≡ has_any xs
has-mapped f [] = refl
has-mapped f (x ∷ xs) = refl

module _ (last : ℕ) (doc : Document) (stages : List Stage) (text : IsTextSound last doc stages) (behind : List Stage) {xs : TextElements}
    (b : AreElements text_content xs doc.text.items) where
  -- one stage on elements beside its operation
  pieces-of : (front : List Stage) (o : PendingOp) (k : ℕ) (s : SubOperation) (names : NamedElements) (rest : List Stage) → is_on_elements s ≡ true
      → element_stage o ≡ indexed_stage doc (record { stage = k; sub_operation = s; names = names })
      → stages ≡ front ++ (record { stage = k; sub_operation = s; names = names } ∷ rest)
      → map (λ p. OnText p) (again_of xs o) ≡ pieces doc (record { stage = k; sub_operation = s; names = names })
  pieces-of front o k (OnText op) names rest h e same =
      let stage : o.stage ≡ k = ap (λ (x : IndexedStage). x.stage) e in
      let sub : OnText o.op ≡ OnText op = ap (λ (x : IndexedStage). x.sub_operation) e in
      let op_is : o.op ≡ op = (cc) in
      ap (λ j. map (λ p. OnText p) (map (piece_op o.op) (tree_pieces j xs))) stage ∙ ap (λ p. map (λ q. OnText q) (map (piece_op p) (tree_pieces k xs))) op_is
      ∙ pieces-alike last doc stages text b front rest k names op same
  pieces-of front o k (OnIntervals op) names rest h e same = (cc)
  pieces-of front o k (OnGrid op) names rest h e same = (cc)

  goes-on : (t : Stage) → is_on_elements t.sub_operation ≡ true → carried_stage doc t ≡ cond (has_any (pieces doc t)) (t ∷ []) []
  goes-on t h = step t.sub_operation h refl
    where
      choose : (t : Stage) (ps : List SubOperation) → elim ps as (λ _. List Stage) [ [] ↦ [] | _ ∷ _ ↦ t ∷ [] ] ≡ cond (has_any ps) (t ∷ []) []
      choose t [] = refl
      choose t (p ∷ ps) = refl

      step : (s : SubOperation) → is_on_elements s ≡ true → t.sub_operation ≡ s → carried_stage doc t ≡ cond (has_any (pieces doc t)) (t ∷ []) []
      step (OnText op) g e = subst (λ s. carried_stage doc (record t { sub_operation = s }) ≡ cond (has_any (pieces doc (record t { sub_operation = s }))) (record t { sub_operation = s } ∷ []) []) (sym e)
          (choose (record t { sub_operation = OnText op }) (pieces doc (record t { sub_operation = OnText op })))
      step (OnIntervals op) g e = (cc)
      step (OnGrid op) g e = (cc)

  -- all stages of the edit
  pub sent-all : (front us : List Stage) (os : List PendingOp) → list_all (λ t. is_on_elements t.sub_operation) us ≡ true
      → AreOps doc os us → stages ≡ front ++ (us ++ behind)
      → (map (λ p. OnText p) (flat_map (again_of xs) os) ≡ flat_map (pieces doc) us) × AreOps doc (filter (has_piece xs) os) (flat_map (carried_stage doc) us)
  sent-all front [] [] h e same = (refl, refl)
  sent-all front [] (o ∷ os) h e same = (cc)
  sent-all front (u ∷ us) [] h e same = (cc)
  sent-all front (u ∷ us) (o ∷ os) h e same =
      let p = both (is_on_elements u.sub_operation) (list_all (λ t. is_on_elements t.sub_operation) us) h in
      let f = ops-head doc o os u us e in
      let here = pieces-of front o u.stage u.sub_operation u.names (us ++ behind) p.0 f.0 same in
      let rest = sent-all (front ++ (u ∷ [])) us os p.1 f.1 (same ∙ sym (append_assoc front (u ∷ []) (us ++ behind))) in
      let some : has_piece xs o ≡ has_any (pieces doc u) = sym (has-mapped (piece_op o.op) (tree_pieces o.stage xs))
      ∙ sym (has-mapped (λ q. OnText q) (again_of xs o)) ∙ ap has_any here in (
        map-append (λ q. OnText q) (again_of xs o) (flat_map (again_of xs) os) ∙ ap (λ qs. qs ++ map (λ q. OnText q) (flat_map (again_of xs) os)) here
            ∙ ap (λ qs. pieces doc u ++ qs) rest.0,
        kept (has_piece xs o) (has_any (pieces doc u)) some f.0 rest.1 ∙ ap (λ vs. map (indexed_stage doc) (vs ++ flat_map (carried_stage doc) us)) (sym (goes-on u p.0)),
      )
    where
      kept : (a c : Bool) → a ≡ c → element_stage o ≡ indexed_stage doc u → AreOps doc (filter (has_piece xs) os) (flat_map (carried_stage doc) us)
          → AreOps doc (cond a (o ∷ filter (has_piece xs) os) (filter (has_piece xs) os)) (cond c (u ∷ []) [] ++ flat_map (carried_stage doc) us)
      kept true true g f r = ap (λ x. x ∷ map element_stage (filter (has_piece xs) os)) f ∙ ap (λ ys. indexed_stage doc u ∷ ys) r
      kept false false g f r = r
      kept true false g f r = (cc)
      kept false true g f r = (cc)
