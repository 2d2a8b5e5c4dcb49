-- One stage is given for a reconnection: the other part stays as it is.
use Rattle.std.proofs.Common.{◌≡◌, ◌≤◌, ◌<◌, ℕ, ◌+◌, All, Bool, true, false, cond, not, nat_eq, List, [], ◌∷◌, ◌++◌, Option, append-nil, append_assoc, refl, sym, ◌∙◌, ap, subst, map, arith}
use Rattle.std.specs.List.{AllByRecursion}
use Rattle.std.specs.Option.{is_some}
use Rattle.std.proofs.lemmas.Bool.Decides.{nat_tests}
use Rattle.std.proofs.lemmas.List.Elements.{All-from_recursion, recursion_from_All}
use Rattle.ft_base.proofs.ScanLaws.{retain_map-append}
use Rattle.ft_op.specs.declared.operations.ChannelOp.{ChannelOp}
use Rattle.ft_op.specs.Document.{Document}
use Rattle.ft_op.specs.Intervals.{NamedElements}
use Rattle.ft_op.specs.Operation.{OnGrid, OnIntervals, OnText, SubOperation}
use Rattle.ft_op.specs.Pieces.{op_of, pieces}
use Rattle.ft_op.specs.Stages.{Stage}
use Rattle.ft_msg.specs.Indexed.{indexed_stage}
use Rattle.ft_msg.specs.Reconnection.{carried_stage}
use Rattle.ft_laws_agreement.specs.Sequencing.{is_grid_stage}
use Rattle.ft_laws_names.specs.GridFacts.{grid_stages}
use Rattle.ft_laws_names.specs.WellNamed.{AreWellNamed, RiseTo}
use Rattle.ft_string.specs.Calls.{AreFrom, AreNext, AreWithin, HoldsGiven, is_one_edit}
use Rattle.ft_string.specs.Holds.{HoldsText, IsTextSound, is_on_text}
use Rattle.ft_string.specs.State.{TextState}
use Rattle.ft_matrix.specs.GridStates.{GridState}
use Rattle.ft_matrix.specs.HoldsGrid.{HoldsGrid}
use Rattle.ft_named.proofs.Lists.{map-append}
use Rattle.ft_client.specs.declared.own.TreeOwn.{TreeOwn}
use Rattle.ft_client.specs.declared.stages.OwnStage.{OwnStage}
use Rattle.ft_client.specs.Numbers.{HasNumbers}
use Rattle.ft_client.specs.Parts.{own_stage}
use Rattle.ft_client.specs.Rejoins.{GivesTree, IsRejoining, carried, text_only}
use Rattle.ft_client.proofs.GridCarried.{carried-left, grid-behind, names-left, some_carried}
use Rattle.ft_client.proofs.Parts.{grid-same}
use Rattle.ft_client.proofs.TextOnly.{only-carried, only-more, only-twice, rise-only, sound-only, text-part}

-- ---- pieces

-- whether there is one
abbrev pub has_piece : List SubOperation → Bool
has_piece [] = false
has_piece (p ∷ ps) = true

pub some-op : (ps : List SubOperation) → is_some (op_of ps) ≡ has_piece ps
some-op [] = refl
some-op (OnText op ∷ []) = refl
some-op (OnText op ∷ p ∷ ps) = refl
some-op (OnIntervals op ∷ ps) = refl
some-op (OnGrid op ∷ []) = refl
some-op (OnGrid op ∷ p ∷ ps) = refl

-- a stage goes on exactly where it has a piece
pub goes-on : (doc : Document) (t : Stage) → map own_stage (carried_stage doc t) ≡ cond (has_piece (pieces doc t)) (own_stage t ∷ []) []
goes-on doc t = step t.stage t.sub_operation t.names
  where
    kept : (u : Stage) (ps : List SubOperation) → map own_stage (elim ps as (λ _. List Stage) [ [] ↦ [] | _ ∷ _ ↦ u ∷ [] ]) ≡ cond (has_piece ps) (own_stage u ∷ []) []
    kept u [] = refl
    kept u (p ∷ ps) = refl

    step : (k : ℕ) (o : SubOperation) (names : NamedElements)
        → (let u : Stage = record { stage = k; sub_operation = o; names = names } in map own_stage (carried_stage doc u) ≡ cond (has_piece (pieces doc u)) (own_stage u ∷ []) [])
    step k (OnText op) names = let u : Stage = record { stage = k; sub_operation = OnText op; names = names } in kept u (pieces doc u)
    step k (OnIntervals op) names = refl
    step k (OnGrid op) names = let u : Stage = record { stage = k; sub_operation = OnGrid op; names = names } in kept u (pieces doc u)

pub carried-more : (doc : Document) (ts us : List Stage) → carried doc (ts ++ us) ≡ carried doc ts ++ carried doc us
carried-more doc [] us = refl
carried-more doc (t ∷ ts) us = ap (λ vs. carried_stage doc t ++ vs) (carried-more doc ts us) ∙ sym (append_assoc (carried_stage doc t) (carried doc ts) (carried doc us))

-- the numbers of the stages, once the first one is taken off, and put behind the others where it goes on
pub turned : (doc : Document) (front rest : List Stage) (t : Stage) (items : List OwnStage) (op : Option ChannelOp)
    → items ≡ map own_stage rest ++ map own_stage (carried doc front)
    → op ≡ op_of (pieces doc t) → cond (is_some op) (items ++ own_stage t ∷ []) items ≡ map own_stage rest ++ map own_stage (carried doc (front ++ t ∷ []))
turned doc front rest t items op e o =
    behind (has_piece (pieces doc t)) (ap is_some o ∙ some-op (pieces doc t)) (goes-on doc t)
  where
    last-one : map own_stage (carried doc (front ++ t ∷ [])) ≡ map own_stage (carried doc front) ++ map own_stage (carried_stage doc t)
    last-one = ap (map own_stage) (carried-more doc front (t ∷ []) ∙ ap (λ us. carried doc front ++ us) (append-nil (carried_stage doc t)))
        ∙ map-append own_stage (carried doc front) (carried_stage doc t)

    behind : (b : Bool) → is_some op ≡ b → map own_stage (carried_stage doc t) ≡ cond b (own_stage t ∷ []) []
        → cond (is_some op) (items ++ own_stage t ∷ []) items ≡ map own_stage rest ++ map own_stage (carried doc (front ++ t ∷ []))
    behind true f g = rw f
        (ap (λ xs. xs ++ own_stage t ∷ []) e ∙ append_assoc (map own_stage rest) (map own_stage (carried doc front)) (own_stage t ∷ [])
        ∙ ap (λ xs. map own_stage rest ++ xs) (sym (last-one ∙ ap (λ xs. map own_stage (carried doc front) ++ xs) g)))
    behind false f g = rw f
        (e ∙ ap (λ xs. map own_stage rest ++ xs) (sym (last-one ∙ ap (λ xs. map own_stage (carried doc front) ++ xs) g ∙ append-nil (map own_stage (carried doc front)))))

-- ---- what rises

rise-after : (low last : ℕ) (xs : List Stage) (t : Stage) (ys : List Stage) → RiseTo low last (xs ++ (t ∷ ys)) → RiseTo t.stage last ys
rise-after low last [] t ys r = r.1
rise-after low last (x ∷ xs) t ys r = rise-after x.stage last xs t ys r.1

above-each : (k low last : ℕ) (ts : List Stage) → k ≤ low → RiseTo low last ts → AllByRecursion (λ t. k + 1 ≤ t.stage) ts
above-each k low last [] l r = tt
above-each k low last (t ∷ ts) l r =
    let m = r.0 in
    (omega (arith, l, m), above-each k t.stage last ts (omega (arith, l, m)) r.1)

pub later-each : (k low last : ℕ) (ts : List Stage) → k ≤ low → RiseTo low last ts → AllByRecursion (λ t. k < t.stage) ts
later-each k low last [] l r = tt
later-each k low last (t ∷ ts) l r =
    let m = r.0 in
    (omega (arith, l, m), later-each k t.stage last ts (omega (arith, l, m)) r.1)

all-tail : (P : Stage → Type 0) (t : Stage) (ts : List Stage) → All P (t ∷ ts) → All P ts
all-tail P t ts h = All-from_recursion P ts (recursion_from_All P (t ∷ ts) h).1

pub all-head : (P : Stage → Type 0) (t : Stage) (ts : List Stage) → All P (t ∷ ts) → P t
all-head P t ts h = (recursion_from_All P (t ∷ ts) h).0

-- ---- of the text, and of the grid

only-one : (t : Stage) (ts : List Stage) → is_on_text t.sub_operation ≡ true → text_only (t ∷ ts) ≡ t ∷ text_only ts
only-one t ts e = rw e refl

only-none : (t : Stage) (ts : List Stage) → is_on_text t.sub_operation ≡ false → text_only (t ∷ ts) ≡ text_only ts
only-none t ts e = rw e refl

pub grid-off : (t : Stage) → is_grid_stage t ≡ not (is_on_text t.sub_operation)
grid-off t = step t.sub_operation t.names
  where
    step : (o : SubOperation) (names : NamedElements) → is_grid_stage (record { stage = t.stage; sub_operation = o; names = names }) ≡ not (is_on_text o)
    step (OnText op) names = refl
    step (OnIntervals op) names = refl
    step (OnGrid op) names = refl

-- the stages of the text among all of a reconnection
only-all : (doc : Document) (ts us : List Stage) → text_only (carried doc ts ++ us) ≡ carried doc (text_only ts) ++ text_only us
only-all doc ts us = only-more (carried doc ts) us ∙ ap (λ vs. vs ++ text_only us) (only-carried doc ts)

module _ (s new : TreeOwn) (low last : ℕ) (doc : Document) (front rest : List Stage) (t : Stage) (h : GivesTree s low last doc front (t ∷ rest)) where
  rises : RiseTo t.stage last rest
  rises = rise-after 0 last front t rest h.known.named.rise

  known-on : IsRejoining last doc ((front ++ t ∷ []) ++ rest)
  known-on = subst (IsRejoining last doc) (sym (append_assoc front (t ∷ []) rest)) h.known

  next-given : (n : ℕ) → n ≡ t.stage → All (λ u. n < u.stage) rest
  next-given n e = subst (λ k. All (λ u. k < u.stage) rest) (sym e) (All-from_recursion (λ u. t.stage < u.stage) rest (later-each t.stage t.stage last rest (omega arith) rises))

  -- ---- the text
  module _ (on : is_on_text t.sub_operation ≡ true) where
    pub text-next : (end : ℕ) → end ≡ t.stage + 1 → AreNext s.text.given t.stage end (text_only front) (t ∷ []) (text_only rest)
    text-next end e = record {
      before = All-from_recursion (λ u. u.stage < s.text.given + 1) (text_only front)
          (under (text_only front) (recursion_from_All (λ u. u.stage ≤ s.text.given) (text_only front) h.text_below));
      within = subst (λ n. AreWithin t.stage n (t ∷ [])) (sym e)
          (All-from_recursion (λ u. (t.stage ≤ u.stage) × (u.stage < t.stage + 1) × (is_on_text u.sub_operation ≡ true)) (t ∷ []) ((omega arith, omega arith, on), tt));
      one = one-edit t.sub_operation t.names on;
      behind = subst (λ n. AreFrom n (text_only rest)) (sym e)
          (All-from_recursion (λ u. t.stage + 1 ≤ u.stage) (text_only rest) (above-each t.stage t.stage last (text_only rest) (omega arith) (rise-only t.stage last rest rises)));
    }
      where
        under : (ts : List Stage) → AllByRecursion (λ u. u.stage ≤ s.text.given) ts → AllByRecursion (λ u. u.stage < s.text.given + 1) ts
        under [] g = tt
        under (u ∷ ts) g =
            let l = g.0 in
            (omega (arith, l), under ts g.1)

        same : (k : ℕ) → nat_eq k k ≡ true
        same k = grind (arith, nat_tests)

        one-edit : (o : SubOperation) (names : NamedElements) → is_on_text o ≡ true
            → is_one_edit t.stage (record { stage = t.stage; sub_operation = o; names = names } ∷ []) ≡ true
        one-edit (OnText op) names g = refl
        one-edit (OnIntervals op) names g = rw (same t.stage) refl
        one-edit (OnGrid op) names g = (cc)

    split : text_only (front ++ (t ∷ rest)) ≡ text_only front ++ (t ∷ text_only rest)
    split = only-more front (t ∷ rest) ∙ ap (λ us. text_only front ++ us) (only-one t rest on)

    pub text-sound : IsTextSound last doc (text_only front ++ (t ∷ text_only rest))
    text-sound = subst (λ us. IsTextSound last doc us) split (sound-only last doc (front ++ (t ∷ rest)) h.known.sound)

    pub text-holds : HoldsGiven s.text doc (text_only front) (t ∷ text_only rest)
    text-holds = text-part s.text doc (carried doc front ++ (t ∷ rest)) (carried doc (text_only front) ++ (t ∷ text_only rest))
        (only-all doc (text_only front) (t ∷ text_only rest)
        ∙ ap (λ us. carried doc us ++ text_only (t ∷ text_only rest)) (only-twice front)
        ∙ ap (λ us. carried doc (text_only front) ++ us) (only-one t (text_only rest) on ∙ ap (λ us. t ∷ us) (only-twice rest))
        ∙ sym (only-all doc front (t ∷ rest) ∙ ap (λ us. carried doc (text_only front) ++ us) (only-one t rest on))) h.text

    pub text-given : (op : Option ChannelOp) → op ≡ op_of (pieces doc t)
        → HoldsGiven new.text doc (text_only front ++ t ∷ []) (text_only rest) → new.text.given ≡ t.stage
        → new.text.floor ≡ s.text.floor → new.text.usable ≡ true → new.table ≡ s.table → new.numbers ≡ s.numbers
        → new.stages.items ≡ map own_stage rest ++ map own_stage (carried doc (front ++ t ∷ [])) → GivesTree new low last doc (front ++ t ∷ []) rest
    text-given op o g given floor usable table numbers stages =
        let only : text_only (front ++ t ∷ []) ≡ text_only front ++ t ∷ [] = only-more front (t ∷ []) ∙ ap (λ us. text_only front ++ us) (only-one t [] on) in
        let twice : text_only (text_only front ++ t ∷ []) ≡ text_only front ++ t ∷ []
        = only-more (text_only front) (t ∷ []) ∙ ap (λ us. us ++ text_only (t ∷ [])) (only-twice front) ∙ ap (λ us. text_only front ++ us) (only-one t [] on) in
        record {
          known = known-on;
          text = text-part new.text doc (carried doc (text_only front ++ t ∷ []) ++ text_only rest) (carried doc (front ++ t ∷ []) ++ rest)
              (only-all doc (front ++ t ∷ []) rest ∙ ap (λ us. carried doc us ++ text_only rest) only
              ∙ sym (only-all doc (text_only front ++ t ∷ []) (text_only rest) ∙ ap (λ us. carried doc us ++ text_only (text_only rest)) twice
              ∙ ap (λ us. carried doc (text_only front ++ t ∷ []) ++ us) (only-twice rest))) g;
          table = subst (λ x. HoldsGrid x doc (carried doc (front ++ t ∷ []) ++ rest)) (sym table)
              (grid-same doc doc s.table (carried doc front ++ (t ∷ rest)) (carried doc (front ++ t ∷ []) ++ rest) refl refl refl grid-stays h.table);
          stages = stages;
          numbers = subst (λ n. HasNumbers n doc last) (sym numbers) h.numbers;
          text_usable = usable;
          table_usable = ap (λ (x : GridState). x.usable) table ∙ h.table_usable;
          text_given = next-given new.text.given given;
          table_given = subst (λ (x : GridState). All (λ u. x.given < u.stage) rest) (sym table) (all-tail (λ u. s.table.given < u.stage) t rest h.table_given);
          text_below = subst (λ us. All (λ u. u.stage ≤ new.text.given) us) (sym only)
              (All-from_recursion (λ u. u.stage ≤ new.text.given) (text_only front ++ t ∷ [])
              (all-below (text_only front) (recursion_from_All (λ u. u.stage ≤ s.text.given) (text_only front) h.text_below)));
          text_floor = subst (λ n. n ≤ low) (sym floor) h.text_floor;
          table_floor = subst (λ (x : GridState). x.floor ≤ low) (sym table) h.table_floor;
        }
      where
        before : s.text.given < t.stage
        before = all-head (λ u. s.text.given < u.stage) t rest h.text_given

        less : (a b c d : ℕ) → a ≤ b → b < c → d ≡ c → a ≤ d
        less a b c d l m e = omega (arith, l, m, e)

        reached : (c d : ℕ) → d ≡ c → c ≤ d
        reached c d e = omega (arith, e)

        all-below : (ts : List Stage) → AllByRecursion (λ u. u.stage ≤ s.text.given) ts → AllByRecursion (λ u. u.stage ≤ new.text.given) (ts ++ t ∷ [])
        all-below [] a = (reached t.stage new.text.given given, tt)
        all-below (u ∷ ts) a = (less u.stage s.text.given t.stage new.text.given a.0 before given, all-below ts a.1)

        off : is_grid_stage t ≡ false
        off = grid-off t ∙ ap not on

        none-carried : grid_stages doc (carried_stage doc t) ≡ []
        none-carried = gone-on t.stage t.sub_operation t.names off
          where
            kept : (u : Stage) (ps : List SubOperation) → is_grid_stage u ≡ false → grid_stages doc (elim ps as (λ _. List Stage) [ [] ↦ [] | _ ∷ _ ↦ u ∷ [] ]) ≡ []
            kept u [] e = refl
            kept u (p ∷ ps) e = rw e refl

            gone-on : (k : ℕ) (o : SubOperation) (names : NamedElements)
                → (let u : Stage = record { stage = k; sub_operation = o; names = names } in is_grid_stage u ≡ false → grid_stages doc (carried_stage doc u) ≡ [])
            gone-on k (OnText op) names e = let u : Stage = record { stage = k; sub_operation = OnText op; names = names } in kept u (pieces doc u) e
            gone-on k (OnIntervals op) names e = refl
            gone-on k (OnGrid op) names e = (cc)

        front-grid : grid_stages doc (carried doc (front ++ t ∷ [])) ≡ grid_stages doc (carried doc front)
        front-grid =
            ap (grid_stages doc) (carried-more doc front (t ∷ []) ∙ ap (λ us. carried doc front ++ us) (append-nil (carried_stage doc t)))
            ∙ retain_map-append is_grid_stage (indexed_stage doc) (carried doc front) (carried_stage doc t)
            ∙ ap (λ us. grid_stages doc (carried doc front) ++ us) none-carried ∙ append-nil (grid_stages doc (carried doc front))

        behind-grid : grid_stages doc (t ∷ rest) ≡ grid_stages doc rest
        behind-grid = rw off refl

        grid-stays : grid_stages doc (carried doc (front ++ t ∷ []) ++ rest) ≡ grid_stages doc (carried doc front ++ (t ∷ rest))
        grid-stays =
            retain_map-append is_grid_stage (indexed_stage doc) (carried doc (front ++ t ∷ [])) rest ∙ ap (λ us. us ++ grid_stages doc rest) front-grid
            ∙ sym (retain_map-append is_grid_stage (indexed_stage doc) (carried doc front) (t ∷ rest) ∙ ap (λ us. grid_stages doc (carried doc front) ++ us) behind-grid)

  -- ---- the table
  module _ (off : is_on_text t.sub_operation ≡ false) where
    pub grid-named : AreWellNamed last doc (some_carried doc front ++ (t ∷ rest))
    grid-named = names-left last doc (carried-left doc front (t ∷ rest)) h.known.named

    pub grid-holds : HoldsGrid s.table doc (some_carried doc front ++ (t ∷ rest))
    grid-holds = grid-same doc doc s.table (carried doc front ++ (t ∷ rest)) (some_carried doc front ++ (t ∷ rest)) refl refl refl (grid-behind doc doc front (t ∷ rest)) h.table

    pub grid-given : (op : Option ChannelOp) → op ≡ op_of (pieces doc t)
        → HoldsGrid new.table doc (some_carried doc front ++ (carried doc (t ∷ []) ++ rest)) → new.table.given ≡ t.stage
        → new.table.floor ≡ s.table.floor → new.table.usable ≡ true → new.text ≡ s.text → new.numbers ≡ s.numbers
        → new.stages.items ≡ map own_stage rest ++ map own_stage (carried doc (front ++ t ∷ [])) → GivesTree new low last doc (front ++ t ∷ []) rest
    grid-given op o g given floor usable text numbers stages =
        let only : text_only (front ++ t ∷ []) ≡ text_only front = only-more front (t ∷ [])
        ∙ ap (λ us. text_only front ++ us) (only-none t [] off) ∙ append-nil (text_only front) in
        record {
          known = known-on;
          text = subst (λ x. HoldsText x doc (carried doc (front ++ t ∷ []) ++ rest)) (sym text)
              (text-part s.text doc (carried doc front ++ (t ∷ rest)) (carried doc (front ++ t ∷ []) ++ rest)
              (only-all doc (front ++ t ∷ []) rest ∙ ap (λ us. carried doc us ++ text_only rest) only
              ∙ sym (only-all doc front (t ∷ rest) ∙ ap (λ us. carried doc (text_only front) ++ us) (only-none t rest off))) h.text);
          table = grid-same doc doc new.table (some_carried doc front ++ (carried doc (t ∷ []) ++ rest)) (carried doc (front ++ t ∷ []) ++ rest) refl refl refl
              (ap (grid_stages doc) (ap (λ us. us ++ rest) (carried-more doc front (t ∷ [])) ∙ append_assoc (carried doc front) (carried doc (t ∷ [])) rest)
              ∙ sym (grid-behind doc doc front (carried doc (t ∷ []) ++ rest))) g;
          stages = stages;
          numbers = subst (λ n. HasNumbers n doc last) (sym numbers) h.numbers;
          text_usable = ap (λ (x : TextState). x.usable) text ∙ h.text_usable;
          table_usable = usable;
          text_given = subst (λ (x : TextState). All (λ u. x.given < u.stage) rest) (sym text) (all-tail (λ u. s.text.given < u.stage) t rest h.text_given);
          table_given = next-given new.table.given given;
          text_below = subst (λ us. All (λ u. u.stage ≤ new.text.given) us) (sym only)
              (subst (λ (x : TextState). All (λ u. u.stage ≤ x.given) (text_only front)) (sym text) h.text_below);
          text_floor = subst (λ (x : TextState). x.floor ≤ low) (sym text) h.text_floor;
          table_floor = subst (λ n. n ≤ low) (sym floor) h.table_floor;
        }
