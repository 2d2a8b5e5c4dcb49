-- A part of a client is given its next stage.
use Rattle.std.proofs.Common.{◌≡◌, ◌≤◌, ◌<◌, ℕ, suc, ◌+◌, ◌-◌, Bool, true, false, cond, not, List, [], ◌∷◌, ◌++◌, Option, append-nil, length, refl, sym, ◌∙◌, ap, subst, map, arith}
use Rattle.std.specs.List.{flat_map, list_all}
use Rattle.std.specs.Option.{is_some, option_map}
use Rattle.ft_op.specs.declared.operations.ChannelOp.{ChannelOp}
use Rattle.ft_op.specs.declared.operations.ChannelOp.TheVariants.{Grid, Text}
use Rattle.ft_op.specs.declared.operations.GridOp.{GridOp}
use Rattle.ft_op.specs.declared.operations.TextOp.{TextOp}
use Rattle.ft_op.specs.Document.{Document}
use Rattle.ft_op.specs.Operation.{OnGrid, OnIntervals, OnText, SubOperation}
use Rattle.ft_op.specs.Pieces.{op_of, pieces}
use Rattle.ft_op.specs.Stages.{Stage}
use Rattle.ft_msg.specs.Reconnection.{carried_stage}
use Rattle.ft_laws_agreement.specs.Sequencing.{is_grid_stage}
use Rattle.ft_laws_names.specs.WellNamed.{AreWellNamed}
use Rattle.ft_string.specs.Calls.{AreNext, HoldsGiven, HoldsSomeGiven}
use Rattle.ft_string.specs.Holds.{IsTextSound, is_on_text}
use Rattle.ft_string.specs.State.{TextState}
use Rattle.ft_perm.specs.Handles.{numbers_from}
use Rattle.ft_matrix.specs.GridStates.{GridState}
use Rattle.ft_matrix.specs.HoldsGrid.{HoldsGrid}
use Rattle.ft_client.specs.declared.own.TreeOwn.{TreeOwn}
use Rattle.ft_client.specs.declared.stages.OwnStage.{OwnStage}
use Rattle.ft_client.specs.Parts.{is_text_part, own_stage, part_of}
use Rattle.ft_client.specs.Rejoins.{GivesFirst, GivesGrid, GivesPart, GivesSome, GivesStage, GivesText, GivesTree, carried, gives_grid, gives_text, text_only}
use Rattle.ft_client.proofs.GridCarried.{some_carried}
use Rattle.ft_client.proofs.GivesStep.{grid-given, grid-holds, grid-named, grid-off, text-given, text-holds, text-next, text-sound, turned}

part-on : (o : SubOperation) → is_text_part (part_of o) ≡ is_on_text o
part-on (OnText op) = refl
part-on (OnIntervals op) = refl
part-on (OnGrid op) = refl

-- ---- what the parts are called with
module _ (s : TreeOwn) (stage : OwnStage) (f : GivesFirst s stage) where
  number : f.t.stage ≡ stage.stage
  number = ap (λ (x : OwnStage). x.stage) f.is

  text-as : s.text ≡ f.before.text
  text-as = ap (λ (x : TreeOwn). x.text) f.same

  table-as : s.table ≡ f.before.table
  table-as = ap (λ (x : TreeOwn). x.table) f.same

  pub table-usable : s.table.usable ≡ true
  table-usable = ap (λ (x : GridState). x.usable) table-as ∙ f.gives.table_usable

  pub text-some : is_text_part stage.part ≡ true → (last : ℕ) × HoldsSomeGiven last stage.stage (stage.stage + 1) s.text
  text-some h =
      let on : is_on_text f.t.sub_operation ≡ true = sym (part-on f.t.sub_operation) ∙ ap (λ (x : OwnStage). is_text_part x.part) f.is ∙ h in
      let held : HoldsSomeGiven f.last f.t.stage (f.t.stage + 1) f.before.text = record {
        doc = f.doc;
        front = text_only f.front;
        mine = f.t ∷ [];
        rest = text_only f.rest;
        next = text-next f.before f.before f.low f.last f.doc f.front f.rest f.t f.gives on (f.t.stage + 1) refl;
        sound = text-sound f.before f.before f.low f.last f.doc f.front f.rest f.t f.gives on;
        holds = text-holds f.before f.before f.low f.last f.doc f.front f.rest f.t f.gives on;
      } in
      (f.last, subst (λ n. HoldsSomeGiven f.last n (n + 1) s.text) number (subst (λ (x : TextState). HoldsSomeGiven f.last f.t.stage (f.t.stage + 1) x) (sym text-as) held))

  -- ---- and what they answer
  module _ (op : Option TextOp) (new : TextState) where
    pub gives-text : ((last : ℕ) → (doc : Document) → (front : List Stage) → (mine : List Stage) → (behind : List Stage)
        → AreNext s.text.given stage.stage (stage.stage + 1) front mine behind
        → IsTextSound last doc (front ++ (mine ++ behind)) → HoldsGiven s.text doc front (mine ++ behind)
        → option_map Text op ≡ op_of (flat_map (pieces doc) mine))
        → ((last : ℕ) → (doc : Document) → (front : List Stage) → (mine : List Stage) → (behind : List Stage)
        → AreNext s.text.given stage.stage (stage.stage + 1) front mine behind
        → IsTextSound last doc (front ++ (mine ++ behind)) → HoldsGiven s.text doc front (mine ++ behind) → HoldsGiven new doc (front ++ mine) behind)
        → new.given ≡ stage.stage + 1 - 1 → new.floor ≡ s.text.floor → new.usable ≡ true → GivesText stage (option_map Text op) s.text new
    gives-text a b given floor usable =
        let e : stage.stage + 1 - 1 ≡ stage.stage = omega arith in
        record {
          holds = λ last doc front rest t n i g. (a last doc front (t ∷ []) rest n i g ∙ ap op_of (append-nil (pieces doc t)), b last doc front (t ∷ []) rest n i g);
          given = given ∙ e;
          floor = floor;
          usable = usable;
        }

  module _ (op : Option GridOp) (new : GridState) where
    pub gives-grid : ((last : ℕ) (doc : Document) (before mine rest : List Stage) → AreWellNamed last doc (before ++ (mine ++ rest))
        → HoldsGrid s.table doc (before ++ (mine ++ rest))
        → map (λ t. t.stage) mine ≡ numbers_from stage.stage 1 → list_all is_grid_stage mine ≡ true → option_map Grid op ≡ op_of (flat_map (pieces doc) mine))
        → ((last : ℕ) (doc : Document) (before mine rest : List Stage) → AreWellNamed last doc (before ++ (mine ++ rest))
        → HoldsGrid s.table doc (before ++ (mine ++ rest))
        → map (λ t. t.stage) mine ≡ numbers_from stage.stage 1 → HoldsGrid new doc (before ++ (flat_map (carried_stage doc) mine ++ rest)))
        → (1 ≤ 1 → new.given ≡ stage.stage + (1 - 1)) → new.floor ≡ s.table.floor → new.usable ≡ s.table.usable
        → GivesGrid stage (option_map Grid op) s.table new
    gives-grid a b given floor usable =
        let e : stage.stage + (1 - 1) ≡ stage.stage = omega arith in
        record {
          holds = λ last doc front rest t n g w h.
              (a last doc front (t ∷ []) rest w h (ap (λ k. k ∷ []) n) (alone t g) ∙ ap op_of (append-nil (pieces doc t)), b last doc front (t ∷ []) rest w h (ap (λ k. k ∷ []) n));
          given = given (omega arith) ∙ e;
          floor = floor;
          usable = usable ∙ table-usable;
        }
      where
        alone : (t : Stage) → is_grid_stage t ≡ true → list_all is_grid_stage (t ∷ []) ≡ true
        alone t g = rw g refl

-- ---- the next stage is taken off
first-same : (x y : OwnStage) (xs ys : List OwnStage) → x ∷ xs ≡ y ∷ ys → x ≡ y
first-same x y xs ys h = (cc)

-- there is one
pub some-left : (s : TreeOwn) → GivesSome s 1 → 0 < length s.stages.items
some-left s k = step k.mine k.counted k.gives
  where
    above : (n : ℕ) → 0 < suc n
    above n = omega arith

    step : (mine : List Stage) → length mine ≡ 1 → GivesTree s k.low k.last k.doc k.front (mine ++ k.rest) → 0 < length s.stages.items
    step [] n g = absurd (omega (arith, n))
    step (t ∷ ts) n g = subst (λ (xs : List OwnStage). 0 < length xs) (sym g.stages) (above (length (map own_stage (ts ++ k.rest) ++ map own_stage (carried k.doc k.front))))

pub first-of : (s mid : TreeOwn) (stage : OwnStage) → GivesSome s 1 → s.stages.items ≡ stage ∷ mid.stages.items
    → GivesFirst (record s { stages = mid.stages }) stage
first-of s mid stage k e = step k.mine k.counted k.gives
  where
    step : (mine : List Stage) → length mine ≡ 1 → GivesTree s k.low k.last k.doc k.front (mine ++ k.rest) → GivesFirst (record s { stages = mid.stages }) stage
    step [] n g = absurd (omega (arith, n))
    step (t ∷ u ∷ us) n g = absurd (omega (arith, n))
    step (t ∷ []) n g =
        let same : stage ∷ mid.stages.items ≡ own_stage t ∷ (map own_stage k.rest ++ map own_stage (carried k.doc k.front)) = sym e ∙ g.stages in
        record { low = k.low; last = k.last; doc = k.doc; front = k.front; t = t; rest = k.rest; is = sym (first-same stage (own_stage t) mid.stages.items _ same); before = s; gives = g; same = refl }

-- ---- and given
module _ (s mid given end : TreeOwn) (stage : OwnStage) (op : Option ChannelOp) (p : GivesPart stage op (record s { stages = mid.stages }) given)
    (off : s.stages.items ≡ stage ∷ mid.stages.items) (put : end.stages.items ≡ cond (is_some op) (given.stages.items ++ stage ∷ []) given.stages.items)
    (low last : ℕ) (doc : Document) (front : List Stage) (t : Stage) (rest : List Stage) (h : GivesTree s low last doc front (t ∷ rest)) where
  items : stage ∷ mid.stages.items ≡ own_stage t ∷ (map own_stage rest ++ map own_stage (carried doc front))
  items = sym off ∙ h.stages

  is-stage : (x y : OwnStage) (xs ys : List OwnStage) → x ∷ xs ≡ y ∷ ys → y ≡ x
  is-stage x y xs ys e = (cc)

  is-left : (x y : OwnStage) (xs ys : List OwnStage) → x ∷ xs ≡ y ∷ ys → xs ≡ ys
  is-left x y xs ys e = (cc)

  own-is : own_stage t ≡ stage
  own-is = is-stage stage (own_stage t) mid.stages.items _ items

  left-is : mid.stages.items ≡ map own_stage rest ++ map own_stage (carried doc front)
  left-is = is-left stage (own_stage t) mid.stages.items _ items

  behind-is : given.stages.items ≡ mid.stages.items → op ≡ op_of (pieces doc t)
      → end.stages.items ≡ map own_stage rest ++ map own_stage (carried doc (front ++ t ∷ []))
  behind-is g o =
      put ∙ ap (λ (xs : List OwnStage). cond (is_some op) (xs ++ stage ∷ []) xs) g ∙ ap (λ u. cond (is_some op) (mid.stages.items ++ u ∷ []) mid.stages.items) (sym own-is)
      ∙ turned doc front rest t mid.stages.items op left-is o

  at-number : t.stage ≡ stage.stage
  at-number = ap (λ (x : OwnStage). x.stage) own-is

  of-text : is_text_part stage.part ≡ is_on_text t.sub_operation
  of-text = sym (ap (λ (x : OwnStage). is_text_part x.part) own-is) ∙ part-on t.sub_operation

  by-part : GivesPart stage op (record s { stages = mid.stages }) given → GivesStage (record given { stages = end.stages }) low last doc front t rest op
  by-part (gives_text e g same) =
      let new = record given { stages = end.stages } in
      let on : is_on_text t.sub_operation ≡ true = sym of-text ∙ e in
      let next : AreNext s.text.given stage.stage (stage.stage + 1) (text_only front) (t ∷ []) (text_only rest)
      = subst (λ n. AreNext s.text.given n (n + 1) (text_only front) (t ∷ []) (text_only rest)) at-number (text-next s s low last doc front rest t h on (t.stage + 1) refl) in
      let r = g.holds last doc (text_only front) (text_only rest) t next (text-sound s s low last doc front rest t h on) (text-holds s s low last doc front rest t h on) in
      record {
        tree = text-given s new low last doc front rest t h on op r.0 r.1 (g.given ∙ sym at-number) g.floor g.usable
            (ap (λ (x : TreeOwn). x.table) same) (ap (λ (x : TreeOwn). x.numbers) same)
            (behind-is (ap (λ (x : TreeOwn). x.stages.items) same) r.0);
        sent = r.0;
      }
  by-part (gives_grid e g same) =
      let new = record given { stages = end.stages } in
      let not_on : is_on_text t.sub_operation ≡ false = sym of-text ∙ e in
      let grid : is_grid_stage t ≡ true = off-text (is_on_text t.sub_operation) (grid-off t) not_on in
      let r = g.holds last doc (some_carried doc front) rest t at-number grid (grid-named s s low last doc front rest t h not_on)
      (grid-holds s s low last doc front rest t h not_on) in
      record {
        tree = grid-given s new low last doc front rest t h not_on op r.0 r.1 (g.given ∙ sym at-number) g.floor g.usable
            (ap (λ (x : TreeOwn). x.text) same) (ap (λ (x : TreeOwn). x.numbers) same)
            (behind-is (ap (λ (x : TreeOwn). x.stages.items) same) r.0);
        sent = r.0;
      }
    where
      off-text : (b : Bool) → is_grid_stage t ≡ not b → b ≡ false → is_grid_stage t ≡ true
      off-text true g f = (cc)
      off-text false g f = g

  pub given-stage : GivesStage (record given { stages = end.stages }) low last doc front t rest op
  given-stage = by-part p
