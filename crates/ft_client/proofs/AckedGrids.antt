-- The stages of an edit of the table acknowledged one after another: names go on to fit, and each renaming comes after those before.
use Rattle.std.proofs.Common.{◌≡◌, ℕ, zero, suc, ◌+◌, ◌-◌, ◌≤◌, ◌<◌, All, Bool, true, false, cond, List, [], ◌∷◌, ◌++◌, Some, None, refl, sym, ◌∙◌, ap, subst, map, length, drop, get_or, slice_get, arith}
use Rattle.std.proofs.Math.Seq.{drop-cons}
use Rattle.std.specs.List.{AllByRecursion}
use Rattle.std.proofs.lemmas.List.Elements.{All-from_recursion, recursion_from_All}
use Rattle.ft_op.specs.Document.{Document}
use Rattle.ft_op.specs.Stages.{Stage}
use Rattle.ft_props.specs.Steps.{acked_id}
use Rattle.ft_msg.specs.Acknowledgement.{ack_stage, ack_stages, made_before, renamed_names, renamed_stage}
use Rattle.ft_msg.specs.Indexed.{IndexedStage, indexed_stage}
use Rattle.ft_laws_agreement.specs.Sequencing.{is_grid_stage}
use Rattle.ft_laws_agreement.proofs.NamedByPlace.{names-not_renamed}
use Rattle.ft_laws_names.specs.GridFacts.{AreCounted, IsCounted, grid_stages}
use Rattle.ft_laws_names.specs.WellNamed.{AreWellNamed, RiseTo}
use Rattle.ft_laws_names.proofs.OwnAlike.{stages-twice}
use Rattle.ft_matrix.specs.GridStates.{GridState}
use Rattle.ft_matrix.specs.HoldsGrid.{HoldsGrid}
use Rattle.ft_matrix.proofs.AckedEdits.{acked-named, later-counted, rise-back, stages-itself}
use Rattle.ft_client.specs.declared.stages.OwnStage.{OwnStage}
use Rattle.ft_perm.specs.Handles.{numbers_from}
use Rattle.ft_client.specs.Acks.{AcksSome, HoldsAckedGrid, last_from}
use Rattle.ft_client.specs.Parts.{own_stage}

-- the stages of the grid rise with all
lowest-stages : (doc : Document) (k low last : ℕ) (ts : List Stage) → k ≤ low → RiseTo low last ts → AllByRecursion (λ u. k ≤ u.stage) (grid_stages doc ts)
lowest-stages doc k low last [] l r = tt
lowest-stages doc k low last (t ∷ ts) l r =
    let m = r.0 in
    step (is_grid_stage t) (omega (arith, l, m)) (lowest-stages doc k t.stage last ts (omega (arith, l, m)) r.1)
  where
    step : (b : Bool) → k ≤ t.stage → AllByRecursion (λ u. k ≤ u.stage) (grid_stages doc ts)
        → AllByRecursion (λ u. k ≤ u.stage) (cond b (indexed_stage doc t ∷ grid_stages doc ts) (grid_stages doc ts))
    step true g a = (g, a)
    step false g a = a

module _ (last s c : ℕ) (doc : Document) (mine rest : List Stage) where
  pub none-acked-yet : (g : GridState) → AreWellNamed last doc (mine ++ rest) → HoldsGrid g doc (mine ++ rest) → AreCounted doc mine
      → AcksSome last s c g doc mine mine rest
  none-acked-yet g w h n = record {
    between = doc;
    rename = λ i. i;
    named = subst (λ ts. AreWellNamed last doc ts) (sym (stages-itself (mine ++ rest))) w;
    holds = subst (λ ts. HoldsGrid g doc ts) (sym (stages-itself (mine ++ rest))) h;
    same = refl;
    counted = recursion_from_All (λ (t : Stage). IsCounted doc t.stage t.sub_operation) mine n;
  }

  module _ (t : Stage) (ts : List Stage) (old : GridState) (p : AcksSome last s c old doc mine (t ∷ ts) rest) where
    -- the next stage is the lowest
    pub next-lowest : All (λ u. t.stage ≤ u.stage) old.stages
    next-lowest =
        let r = p.named.rise in
        subst (λ us. All (λ (u : IndexedStage). t.stage ≤ u.stage) us) p.holds.stages
        (All-from_recursion (λ (u : IndexedStage). t.stage ≤ u.stage) (grid_stages p.between (map (renamed_stage p.rename) (t ∷ (ts ++ rest))))
        (first-lowest (is_grid_stage t) (lowest-stages p.between t.stage t.stage last (map (renamed_stage p.rename) (ts ++ rest)) (omega arith) r.1)))
      where
        first-lowest : (b : Bool) → AllByRecursion (λ u. t.stage ≤ u.stage) (grid_stages p.between (map (renamed_stage p.rename) (ts ++ rest)))
            → AllByRecursion (λ u. t.stage ≤ u.stage) (cond b (indexed_stage p.between (renamed_stage p.rename t) ∷ grid_stages p.between (map (renamed_stage p.rename) (ts ++ rest)))
            (grid_stages p.between (map (renamed_stage p.rename) (ts ++ rest))))
        first-lowest true a = (omega arith, a)
        first-lowest false a = a

    pub next-counted : AreCounted p.between (renamed_stage p.rename t ∷ [])
    next-counted = All-from_recursion (λ (u : Stage). IsCounted p.between u.stage u.sub_operation) (renamed_stage p.rename t ∷ []) (p.counted.0, tt)

    pub one-more-acked : (new : GridState) → HoldsAckedGrid new s c (renamed_stage p.rename t ∷ []) (map (renamed_stage p.rename) (ts ++ rest)) p.between
        → AcksSome last s c new doc mine ts rest
    one-more-acked new g =
        let later = ack_stage s c p.rename t p.between in
        let k = made_before p.between t.sub_operation in
        let same : ack_stage s c (λ i. i) (renamed_stage p.rename t) p.between ≡ later
        = same-stage in
        record {
          between = later;
          rename = λ x. acked_id t.stage k (p.rename x);
          named = acked-named last s c p.rename t (ts ++ rest) p.between p.named;
          holds = subst (λ us. HoldsGrid new later us) (stages-twice p.rename (acked_id t.stage k) (ts ++ rest))
              (subst (λ d. HoldsGrid new d (map (renamed_stage (acked_id t.stage k)) (map (renamed_stage p.rename) (ts ++ rest)))) same g);
          same = p.same;
          counted = later-counted last s c p.rename t p.between t.stage ts rest p.named.rows p.named.cols (omega arith)
              (rise-back p.rename t.stage last (ts ++ rest) p.named.rise.1) p.counted.1;
        }
      where
        same-stage : ack_stage s c (λ i. i) (renamed_stage p.rename t) p.between ≡ ack_stage s c p.rename t p.between
        same-stage = rw (names-not_renamed (renamed_names p.rename t.names)) refl

  pub all-acked : (g : GridState) → AcksSome last s c g doc mine [] rest → HoldsAckedGrid g s c mine rest doc
  all-acked g p =
      let same : (p.between, p.rename) ≡ ack_stages s c (λ i. i) mine doc = p.same in
      subst (λ r. HoldsGrid g r.0 (map (renamed_stage r.1) rest)) same p.holds

-- the stage at a place
pub record IsNextStage (mine : List Stage) (i : ℕ) (x : OwnStage) : Type 0 where
  pub stage : Stage
  pub left : List Stage
  pub is : drop i mine ≡ stage ∷ left
  pub after : drop (i + 1) mine ≡ left
  pub number : stage.stage ≡ x.stage

pub next-stage : (mine : List Stage) (own : List OwnStage) (i : ℕ) (x : OwnStage) (more : List OwnStage) → map own_stage mine ≡ own
    → drop i own ≡ x ∷ more → IsNextStage mine i x
next-stage [] own i x more e d = absurd (none i (ap (drop i) e ∙ d))
  where
    none : (i : ℕ) → drop i [] ≡ x ∷ more → ⊥
    none zero g = (cc)
    none (suc i) g = (cc)
next-stage (t ∷ mine) own zero x more e d =
    let first : own_stage t ≡ x = (cc) in
    record { stage = t; left = mine; is = refl; after = refl; number = ap (λ (o : OwnStage). o.stage) first }
next-stage (t ∷ mine) own (suc i) x more e d =
    let n = next-stage mine (map own_stage mine) i x more refl (ap (drop (suc i)) e ∙ d) in
    record { stage = n.stage; left = n.left; is = n.is; after = ap (λ m. drop m (t ∷ mine)) (up i) ∙ n.after; number = n.number }
  where
    up : (m : ℕ) → suc m + 1 ≡ suc (m + 1)
    up m = omega arith

ahead : (own : List OwnStage) (i : ℕ) (x d : OwnStage) → i < length own → x ≡ get_or own i d → drop i own ≡ x ∷ drop (i + 1) own
ahead own i x d l e =
    let up : suc i ≡ i + 1 = omega arith in
    drop-cons own i d l ∙ ap (λ y. y ∷ drop (suc i) own) (sym e) ∙ ap (λ n. x ∷ drop n own) up

module _ (last s c : ℕ) (doc : Document) (mine rest : List Stage) (own : List OwnStage) (i : ℕ) (x d : OwnStage) (old : GridState) (n : map own_stage mine ≡ own)
    (l : i < length own) (e : x ≡ get_or own i d) where
  at-place : IsNextStage mine i x
  at-place = next-stage mine own i x (drop (i + 1) own) n (ahead own i x d l e)

  -- the stage at that place is the lowest
  pub item-lowest : AcksSome last s c old doc mine (drop i mine) rest → All (λ u. x.stage ≤ u.stage) old.stages
  item-lowest p =
      subst (λ k. All (λ (u : IndexedStage). k ≤ u.stage) old.stages) at-place.number
      (next-lowest last s c doc mine rest at-place.stage at-place.left old (subst (λ ts. AcksSome last s c old doc mine ts rest) at-place.is p))

  abbrev pub AcksNext : GridState → Type 0
  AcksNext new = (last : ℕ) (doc : Document) (t : Stage) (rest : List Stage) → t.stage ≡ x.stage → AreWellNamed last doc (t ∷ rest) → AreCounted doc (t ∷ [])
      → HoldsGrid old doc (t ∷ rest) → HoldsAckedGrid new s c (t ∷ []) rest doc

  pub acked-next : (new : GridState) → AcksNext new → AcksSome last s c old doc mine (drop i mine) rest
      → AcksSome last s c new doc mine (drop (i + 1) mine) rest
  acked-next new f p =
      let q = subst (λ ts. AcksSome last s c old doc mine ts rest) at-place.is p in
      subst (λ ts. AcksSome last s c new doc mine ts rest) (sym at-place.after)
      (one-more-acked last s c doc mine rest at-place.stage at-place.left old q new
      (f last q.between (renamed_stage q.rename at-place.stage) (map (renamed_stage q.rename) (at-place.left ++ rest)) at-place.number q.named
      (next-counted last s c doc mine rest at-place.stage at-place.left old q) q.holds))

none-behind : (mine : List Stage) (own : List OwnStage) (i : ℕ) → map own_stage mine ≡ own → drop i own ≡ [] → drop i mine ≡ []
none-behind [] own zero e d = refl
none-behind [] own (suc i) e d = refl
none-behind (t ∷ mine) own zero e d =
    let never : own_stage t ∷ map own_stage mine ≡ [] = e ∙ d in
    (cc)
none-behind (t ∷ mine) own (suc i) e d = none-behind mine (map own_stage mine) i refl (ap (drop (suc i)) e ∙ d)

pub acked-last : (last s c : ℕ) (doc : Document) (mine rest : List Stage) (own : List OwnStage) (i : ℕ) (g : GridState)
    → map own_stage mine ≡ own → drop i own ≡ []
    → AcksSome last s c g doc mine (drop i mine) rest → HoldsAckedGrid g s c mine rest doc
acked-last last s c doc mine rest own i g e d p = all-acked last s c doc mine rest g (subst (λ ts. AcksSome last s c g doc mine ts rest) (none-behind mine own i e d) p)

-- ---- stages whose numbers follow one another

-- the last number is as much higher as there are stages, or more
no-fewer : (k last : ℕ) (mine rest : List Stage) → RiseTo k last (mine ++ rest) → k + length mine ≤ last_from k (map own_stage mine)
no-fewer k last [] rest r = omega arith
no-fewer k last (t ∷ mine) rest r =
    let l = r.0 in
    let m = no-fewer t.stage last mine rest r.1 in
    omega (arith, l, m)

in-a-row : (k last : ℕ) (mine rest : List Stage) → RiseTo k last (mine ++ rest) → last_from k (map own_stage mine) ≤ k + length mine
    → map (λ t. t.stage) mine ≡ numbers_from (k + 1) (length mine)
in-a-row k last [] rest r h = refl
in-a-row k last (t ∷ mine) rest r h =
    let l = r.0 in
    let m = no-fewer t.stage last mine rest r.1 in
    let next : t.stage ≡ k + 1 = omega (arith, l, m, h) in
    let more : last_from t.stage (map own_stage mine) ≤ t.stage + length mine = omega (arith, h, next) in
    ap (λ ns. t.stage ∷ ns) (in-a-row t.stage last mine rest r.1 more) ∙ ap (λ i. i ∷ numbers_from (i + 1) (length mine)) next

stage-length : (ts : List Stage) → length (map own_stage ts) ≡ length ts
stage-length [] = refl
stage-length (t ∷ ts) = ap suc (stage-length ts)

pub row-numbers : (last : ℕ) (mine rest : List Stage) (own : List OwnStage) (first : OwnStage) → map own_stage mine ≡ own
    → slice_get own 0 ≡ Some first → RiseTo 0 last (mine ++ rest)
    → last_from 0 own - first.stage < length own → map (λ t. t.stage) mine ≡ numbers_from first.stage (length own)
row-numbers last [] rest own first n e r h =
    let never : None ≡ Some first = ap (λ xs. slice_get xs 0) n ∙ e in
    (cc)
row-numbers last (t ∷ mine) rest own first n e r h =
    let first_is : Some (own_stage t) ≡ Some first = ap (λ xs. slice_get xs 0) n ∙ e in
    let same : own_stage t ≡ first = (cc) in
    let number : t.stage ≡ first.stage = ap (λ (x : OwnStage). x.stage) same in
    let long : length own ≡ suc (length mine) = sym (ap length n) ∙ ap suc (stage-length mine) in
    let top : last_from 0 own ≡ last_from t.stage (map own_stage mine) = sym (ap (last_from 0) n) in
    let up = no-fewer t.stage last mine rest r.1 in
    let row = in-a-row t.stage last mine rest r.1 (under (last_from 0 own) (last_from t.stage (map own_stage mine)) (length own) top number long h up) in
    ap (λ ns. t.stage ∷ ns) row ∙ ap (λ i. i ∷ numbers_from (i + 1) (length mine)) number ∙ ap (numbers_from first.stage) (sym long)
  where
    under : (a b n : ℕ) → a ≡ b → t.stage ≡ first.stage → n ≡ suc (length mine) → a - first.stage < n → t.stage + length mine ≤ b → b ≤ t.stage + length mine
    under a b n e f g h k = omega (arith, e, f, g, h, k)

-- the first is the lowest
pub row-lowest : (last s c : ℕ) (doc : Document) (mine rest : List Stage) (own : List OwnStage) (first : OwnStage) (g : GridState)
    → map own_stage mine ≡ own → slice_get own 0 ≡ Some first
    → AreWellNamed last doc (mine ++ rest) → HoldsGrid g doc (mine ++ rest) → AreCounted doc mine → All (λ u. first.stage ≤ u.stage) g.stages
row-lowest last s c doc [] rest own first g n e w h a =
    let never : None ≡ Some first = ap (λ xs. slice_get xs 0) n ∙ e in
    (cc)
row-lowest last s c doc (t ∷ mine) rest own first g n e w h a =
    let first_is : Some (own_stage t) ≡ Some first = ap (λ xs. slice_get xs 0) n ∙ e in
    let same : own_stage t ≡ first = (cc) in
    subst (λ k. All (λ (u : IndexedStage). k ≤ u.stage) g.stages) (ap (λ (x : OwnStage). x.stage) same)
    (next-lowest last s c doc (t ∷ mine) rest t mine g (none-acked-yet last s c doc (t ∷ mine) rest g w h a))
