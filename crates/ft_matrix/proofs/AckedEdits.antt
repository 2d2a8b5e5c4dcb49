-- The stages of an edit acknowledged one after another: names go on to fit, and each renaming comes after those before.
use Rattle.std.proofs.Common.{◌≡◌, ℕ, zero, suc, ◌+◌, ◌≤◌, ◌<◌, All, true, false, nat_eq, List, [], ◌∷◌, ◌++◌, refl, sym, ◌∙◌, ap, subst, map, drop, arith, append-nil}
use Rattle.std.proofs.lemmas.Bool.Decides.{nat_tests}
use Rattle.std.proofs.lemmas.List.Elements.{recursion_from_All}
use Rattle.ft_base.specs.Scan.{len}
use Rattle.ft_op.specs.declared.operations.CellOp.TheVariants.{SpliceIn, SpliceOut, Set}
use Rattle.ft_op.specs.declared.operations.Target.TheVariants.{Rows, Cols}
use Rattle.std.specs.List.{AllByRecursion}
use Rattle.ft_props.specs.Element.{ElementId}
use Rattle.ft_props.specs.Steps.{Sequence, acked_id, acked_list, is_inserted_by}
use Rattle.ft_op.specs.Operation.{OnGrid, OnIntervals, OnText, SubOperation}
use Rattle.ft_perm.specs.Handles.{numbers_from}
use Rattle.ft_op.specs.Document.{Document}
use Rattle.ft_op.specs.Stages.{Stage}
use Rattle.ft_msg.specs.Acknowledgement.{ack_stage, ack_stages, made_before, renamed_names, renamed_stage}
use Rattle.ft_laws_names.specs.WellNamed.{HasItsStages, IsWellNumbered, RiseTo, AreWellNamed}
use Rattle.ft_laws_names.proofs.AckedLists.{stage-count}
use Rattle.ft_laws_names.proofs.Beside.{ends, next}
use Rattle.ft_laws_names.proofs.ClientsAlike.{ClientsAlike}
use Rattle.ft_laws_names.proofs.OwnAlike.{AckedEdits, edit-alike, put-in-back, put-in-renamed, rise-renamed, stages-twice}
use Rattle.ft_laws_names.specs.GridFacts.{AreCounted, IsCounted}
use Rattle.ft_laws_agreement.proofs.NamedByPlace.{names-not_renamed}
use Rattle.ft_matrix.specs.declared.grid.Grid.{Grid}
use Rattle.ft_matrix.specs.declared.stages.GridStage.{GridStage}
use Rattle.ft_matrix.specs.Acked.{AcksSome, AcksStage}
use Rattle.ft_matrix.specs.Applied.{Holds}
use Rattle.ft_matrix.specs.GridStates.{grid_state}
use Rattle.ft_matrix.specs.HoldsGrid.{HoldsGrid}
use Rattle.ft_matrix.specs.Sound.{IsSound}
use Rattle.ft_matrix.proofs.AckedStages.{acked-held}
use Rattle.ft_matrix.proofs.Effects.{first-stages}
use Rattle.ft_matrix.proofs.HeldGrids.{alike-self, client_of, self-alike}

-- ---- renamed stages

pub stages-itself : (ts : List Stage) → map (renamed_stage (λ i. i)) ts ≡ ts
stages-itself [] = refl
stages-itself (t ∷ ts) =
    ap (λ n. record t { names = n } ∷ map (renamed_stage (λ i. i)) ts) (names-not_renamed t.names) ∙ ap (λ us. t ∷ us) (stages-itself ts)

pub rise-back : (f : ElementId → ElementId) (low last : ℕ) (ts : List Stage) → RiseTo low last (map (renamed_stage f) ts) → RiseTo low last ts
rise-back f low last [] h = h
rise-back f low last (t ∷ ts) h = (h.0, rise-back f t.stage last ts h.1)

-- ---- one stage

module _ (last s c : ℕ) (f : ElementId → ElementId) (t : Stage) (ts : List Stage) (doc : Document) where
  abbrev later-name : ElementId → ElementId
  later-name x = acked_id t.stage (made_before doc t.sub_operation) (f x)

  pub acked-named : AreWellNamed last doc (map (renamed_stage f) (t ∷ ts)) → AreWellNamed last (ack_stage s c f t doc) (map (renamed_stage (λ x. later-name x)) ts)
  acked-named h = self-alike last (ack_stage s c f t doc) (map (renamed_stage (λ x. later-name x)) ts) (record {
    rest = refl;
    doc = e.alike;
    pending = next (record { stages = e.stages; ref_seq = refl; sent = refl }) ends;
    own = subst (λ us. HasItsStages us (ack_stage s c f t doc)) (sym (append-nil (map (renamed_stage (λ x. later-name x)) ts)))
        (put-in-renamed (λ x. later-name x) ts (ack_stage s c f t doc) e.own);
    rise = subst (λ us. RiseTo 0 last us) (sym (append-nil (map (renamed_stage (λ x. later-name x)) ts))) (rise-renamed (λ x. later-name x) 0 last ts e.rise);
  })
    where
      a : ClientsAlike (client_of last doc (map (renamed_stage f) (t ∷ ts))) (client_of last doc (map (renamed_stage f) (t ∷ ts)))
      a = alike-self last doc (map (renamed_stage f) (t ∷ ts)) h

      e : AckedEdits last 0 ts ts (ack_stages s c f (t ∷ []) doc) (ack_stages s c f (t ∷ []) doc)
      e = edit-alike last s c 0 ts ts f f (t ∷ []) (t ∷ []) doc doc refl a.doc (first-stages a.pending) (put-in-back f (t ∷ ts) doc h.own) (rise-back f 0 last (t ∷ ts) h.rise)

  pub one-acked : (old new : Grid) → IsSound old → AllByRecursion (λ (u : GridStage). t.stage ≤ u.stage) old.stages.items
      → Holds last old doc (map (renamed_stage f) (t ∷ ts))
      → IsCounted doc t.stage t.sub_operation → AcksStage t.stage s c old new
      → Holds last new (ack_stage s c f t doc) (map (renamed_stage (λ x. later-name x)) ts)
  one-acked old new sound lowest h counted acks = record {
    named = acked-named h.named;
    holds = subst (λ us. HoldsGrid (grid_state new 0 true) (ack_stage s c f t doc) us) (stages-twice f (acked_id t.stage (made_before doc t.sub_operation)) ts)
        (acked-held last s c old new doc t.stage t.sub_operation (renamed_names f t.names) (map (renamed_stage f) ts) sound lowest h counted acks);
  }

-- ---- the stages of an edit

same-count : (k last s c : ℕ) (list : Sequence) (j : ℕ) → IsWellNumbered last list → k < j
    → len (is_inserted_by j) (acked_list k s c list).items ≡ len (is_inserted_by j) list.items
same-count k last s c list j w l = stage-count last k s c list w j false (apart j l)
  where
    apart : (j : ℕ) → k < j → nat_eq j k ≡ false
    apart j l = grind (arith, nat_tests)

one-counted : (last s c : ℕ) (f : ElementId → ElementId) (t : Stage) (doc : Document) (j : ℕ) (o : SubOperation)
    → IsWellNumbered last doc.rows → IsWellNumbered last doc.cols → t.stage < j
    → IsCounted doc j o → IsCounted (ack_stage s c f t doc) j o
one-counted last s c f t doc j (OnText op) w v l g = tt
one-counted last s c f t doc j (OnIntervals op) w v l g = tt
one-counted last s c f t doc j (OnGrid (SpliceIn Rows i count)) w v l g = same-count t.stage last s c doc.rows j w l ∙ g
one-counted last s c f t doc j (OnGrid (SpliceIn Cols i count)) w v l g = same-count t.stage last s c doc.cols j v l ∙ g
one-counted last s c f t doc j (OnGrid (SpliceOut target i n)) w v l g = tt
one-counted last s c f t doc j (OnGrid (Set i n value)) w v l g = tt

pub later-counted : (last s c : ℕ) (f : ElementId → ElementId) (t : Stage) (doc : Document) (low : ℕ) (ts rest : List Stage)
    → IsWellNumbered last doc.rows → IsWellNumbered last doc.cols
    → t.stage ≤ low → RiseTo low last (ts ++ rest) → AllByRecursion (λ (u : Stage). IsCounted doc u.stage u.sub_operation) ts
    → AllByRecursion (λ (u : Stage). IsCounted (ack_stage s c f t doc) u.stage u.sub_operation) ts
later-counted last s c f t doc low [] rest w v l r a = tt
later-counted last s c f t doc low (u ∷ ts) rest w v l r a =
    (one-counted last s c f t doc u.stage u.sub_operation w v (omega arith) a.0, later-counted last s c f t doc u.stage ts rest w v (omega arith) r.1 a.1)

-- the stage that comes next
record NextStage (acked : List Stage) (i k : ℕ) : Type 0 where
  stage : Stage
  left : List Stage
  is : drop i acked ≡ stage ∷ left
  number : stage.stage ≡ k
  after : drop (i + 1) acked ≡ left

next-of : (acked : List Stage) (first count i : ℕ) → map (λ (t : Stage). t.stage) acked ≡ numbers_from first count → i < count → NextStage acked i (first + i)
next-of acked first zero i e l = absurd (omega arith)
next-of [] first (suc count) i e l = (cc)
next-of (t ∷ acked) first (suc count) zero e l =
    let number : t.stage ≡ first = (cc) in
    record { stage = t; left = acked; is = refl; number = number ∙ plus first; after = refl }
  where
    plus : (n : ℕ) → n ≡ n + 0
    plus n = omega arith
next-of (t ∷ acked) first (suc count) (suc i) e l =
    let rest : map (λ (u : Stage). u.stage) acked ≡ numbers_from (first + 1) count = (cc) in
    let n = next-of acked (first + 1) count i rest (omega arith) in
    record { stage = n.stage; left = n.left; is = n.is; number = n.number ∙ turn first i; after = ap (λ m. drop m (t ∷ acked)) (up i) ∙ n.after }
  where
    turn : (n m : ℕ) → n + 1 + m ≡ n + suc m
    turn n m = omega arith

    up : (m : ℕ) → suc m + 1 ≡ suc (m + 1)
    up m = omega arith

none-left : (acked : List Stage) (first count i : ℕ) → map (λ (t : Stage). t.stage) acked ≡ numbers_from first count → count ≤ i → drop i acked ≡ []
none-left [] first count zero e l = refl
none-left [] first count (suc i) e l = refl
none-left (t ∷ acked) first zero i e l = (cc)
none-left (t ∷ acked) first (suc count) zero e l = absurd (omega arith)
none-left (t ∷ acked) first (suc count) (suc i) e l =
    let rest : map (λ (u : Stage). u.stage) acked ≡ numbers_from (first + 1) count = (cc) in
    none-left acked (first + 1) count i rest (omega arith)

module _ (last s c : ℕ) (doc : Document) (acked rest : List Stage) where
  unfoldable pub none-acked-yet : (g : Grid) → Holds last g doc (acked ++ rest) → AreCounted doc acked → AcksSome last s c g doc acked (drop 0 acked) rest
  none-acked-yet g h n = record {
    between = doc;
    rename = λ i. i;
    now = subst (λ ts. Holds last g doc ts) (sym (stages-itself (acked ++ rest))) h;
    same = refl;
    counted = recursion_from_All (λ (t : Stage). IsCounted doc t.stage t.sub_operation) acked n;
  }

  unfoldable pub with-next : (k : ℕ) (old new : Grid) (left : List Stage) (t : Stage) (ts : List Stage) → left ≡ t ∷ ts → t.stage ≡ k → IsSound old
      → AllByRecursion (λ (u : GridStage). k ≤ u.stage) old.stages.items
      → AcksStage k s c old new → AcksSome last s c old doc acked left rest → AcksSome last s c new doc acked ts rest
  with-next k old new left t ts e m sound lowest acks p =
      let now = subst (λ us. Holds last old p.between (map (renamed_stage p.rename) (us ++ rest))) e p.now in
      let counted = subst (AllByRecursion (λ (u : Stage). IsCounted p.between u.stage u.sub_operation)) e p.counted in
      record {
        between = ack_stage s c p.rename t p.between;
        rename = λ x. acked_id t.stage (made_before p.between t.sub_operation) (p.rename x);
        now = one-acked last s c p.rename t (ts ++ rest) p.between old new sound
            (subst (λ i. AllByRecursion (λ (u : GridStage). i ≤ u.stage) old.stages.items) (sym m) lowest) now counted.0
            (subst (λ i. AcksStage i s c old new) (sym m) acks);
        same = ap (λ us. ack_stages s c p.rename us p.between) (sym e) ∙ p.same;
        counted = later-counted last s c p.rename t p.between t.stage ts rest now.named.rows now.named.cols (omega arith)
            (rise-back p.rename t.stage last (ts ++ rest) now.named.rise.1) counted.1;
      }

  pub one-more-acked : (first count i k : ℕ) (old new : Grid) → k ≡ first + i → i < count → IsSound old
      → All (λ (u : GridStage). k ≤ u.stage) old.stages.items → AcksStage k s c old new
      → map (λ (t : Stage). t.stage) acked ≡ numbers_from first count → AcksSome last s c old doc acked (drop i acked) rest
      → AcksSome last s c new doc acked (drop (i + 1) acked) rest
  one-more-acked first count i k old new e l sound lowest acks numbers p =
      let n = next-of acked first count i numbers l in
      subst (λ us. AcksSome last s c new doc acked us rest) (sym n.after)
      (with-next k old new (drop i acked) n.stage n.left n.is (n.number ∙ sym e) sound (recursion_from_All (λ (u : GridStage). k ≤ u.stage) old.stages.items lowest) acks p)

  pub all-acked : (first count i : ℕ) (g : Grid) → count ≤ i → map (λ (t : Stage). t.stage) acked ≡ numbers_from first count
      → AcksSome last s c g doc acked (drop i acked) rest
      → HoldsGrid (grid_state g 0 true) (ack_stages s c (λ i. i) acked doc).0 (map (renamed_stage (ack_stages s c (λ i. i) acked doc).1) rest)
  all-acked first count i g l numbers p =
      let none = none-left acked first count i numbers l in
      let now = subst (λ us. Holds last g p.between (map (renamed_stage p.rename) (us ++ rest))) none p.now in
      let same : (p.between, p.rename) ≡ ack_stages s c (λ i. i) acked doc = ap (λ us. ack_stages s c p.rename us p.between) (sym none) ∙ p.same in
      subst (λ r. HoldsGrid (grid_state g 0 true) r.0 (map (renamed_stage r.1) rest)) same now.holds
