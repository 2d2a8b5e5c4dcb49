-- A client's own join, before and after its stages are given.
use Rattle.std.proofs.Common.{◌≡◌, ◌≤◌, ◌<◌, ℕ, ◌+◌, ◌-◌, All, Bool, true, false, cond, ◌&&◌, ◌||◌, nat_eq, nat_le, List, [], ◌∷◌, ◌++◌, None, append-nil, length, refl, sym, ◌∙◌, ap, subst, filter, map, arith}
use Rattle.std.specs.List.{flat_map, list_all, list_any}
use Rattle.std.proofs.lemmas.Bool.Decides.{nat_tests}
use Rattle.std.proofs.lemmas.List.Elements.{All-from_recursion}
use Rattle.ft_base.specs.Scan.{len, no_run, one_more_if, put}
use Rattle.ft_op.specs.declared.operations.CellOp.TheVariants.{Set, SpliceIn, SpliceOut}
use Rattle.ft_op.specs.declared.operations.Target.TheVariants.{Cols, Rows}
use Rattle.ft_op.specs.Document.{Document}
use Rattle.ft_op.specs.Intervals.{NamedElements}
use Rattle.ft_op.specs.Operation.{OnGrid, OnIntervals, OnText, SubOperation}
use Rattle.ft_op.specs.Pieces.{op_of, pieces}
use Rattle.ft_op.specs.Stages.{Stage}
use Rattle.ft_props.specs.Element.{ListElement, seen}
use Rattle.ft_props.specs.Steps.{Sequence, is_inserted_by, put_stage, put_stages, rebuilt_list, stage_position}
use Rattle.ft_msg.specs.declared.messages.Entry.{Entry}
use Rattle.ft_msg.specs.Agreed.{with_numbers}
use Rattle.ft_msg.specs.Answers.{count_held}
use Rattle.ft_msg.specs.Client.{NaiveClient, PendingEdit}
use Rattle.ft_msg.specs.Process.{process_fault}
use Rattle.ft_msg.specs.Reconnection.{carried_stage, rebuilt_document}
use Rattle.ft_laws_names.specs.GridFacts.{grid_stages}
use Rattle.ft_laws_names.specs.WellNamed.{ArePutIn, AreWellNamed, IsWellNumbered, RiseTo, inserts_cols, inserts_rows, puts_text_in}
use Rattle.ft_laws_names.proofs.RebuiltLists.{Rises}
use Rattle.ft_named.proofs.PutTwice.{put-nothing}
use Rattle.ft_named.proofs.RebuiltSteps.{none-from-len, rebuilt-pending, stages-of}
use Rattle.ft_replica.specs.declared.document.Resent.{Resent}
use Rattle.ft_replica.specs.Own.{HeldDocument, HoldsOne, NamesFit, held_by, rejoined, resent}
use Rattle.ft_string.specs.Calls.{HoldsAllGiven, HoldsGiven, HoldsRejoined}
use Rattle.ft_string.specs.Holds.{HoldsText, IsTextSound, is_on_text}
use Rattle.ft_string.specs.State.{TextState}
use Rattle.ft_matrix.specs.Conditions.{AreItsStages, NumbersRise}
use Rattle.ft_matrix.specs.GridStates.{GridState}
use Rattle.ft_matrix.specs.HoldsGrid.{HoldsGrid}
use Rattle.ft_client.specs.declared.own.TreeOwn.{TreeOwn}
use Rattle.ft_client.specs.Holds.{HoldsTree}
use Rattle.ft_client.specs.Parts.{are_of_one_edit, own_stage}
use Rattle.ft_client.specs.Rejoins.{GivesEdits, GivesTree, carried, text_only}
use Rattle.ft_client.proofs.GivenEdits.{flat}
use Rattle.ft_client.proofs.GivesStep.{later-each}
use Rattle.ft_client.proofs.GridCarried.{carried-left, grid-behind, names-left, some_carried}
use Rattle.ft_client.proofs.Known.{client-sound, held-sound, is-named, is-ready}
use Rattle.ft_client.proofs.OneEdits.{each-alike, each-of-one}
use Rattle.ft_client.proofs.Parts.{grid-same, text-same}
use Rattle.ft_client.proofs.TextOnly.{only-carried, only-twice, sound-only, text-part}

-- ---- numbers of stages

other-kind : (kind : SubOperation → Bool) (j : ℕ) (ts : List Stage) → list_any (nat_eq j) (map (λ t. t.stage) ts) ≡ false
    → list_any (λ t. nat_eq j t.stage && kind t.sub_operation) ts ≡ false
other-kind kind j [] h = refl
other-kind kind j (t ∷ ts) h = step (nat_eq j t.stage) (list_any (nat_eq j) (map (λ t. t.stage) ts)) h refl (λ g. other-kind kind j ts g)
  where
    step : (b c : Bool) → b || c ≡ false → nat_eq j t.stage ≡ b → (c ≡ false → list_any (λ t. nat_eq j t.stage && kind t.sub_operation) ts ≡ false)
        → (nat_eq j t.stage && kind t.sub_operation) || list_any (λ t. nat_eq j t.stage && kind t.sub_operation) ts ≡ false
    step true c g e f = (cc)
    step false c g e f = rw (e, f g) refl

-- none at or below the lowest
below-kind : (kind : SubOperation → Bool) (k low last : ℕ) (ts : List Stage) → k ≤ low → RiseTo low last ts
    → list_any (λ t. nat_eq k t.stage && kind t.sub_operation) ts ≡ false
below-kind kind k low last [] l r = refl
below-kind kind k low last (t ∷ ts) l r =
    let m = r.0 in
    rw (apart t.stage (omega (arith, l, m)), below-kind kind k t.stage last ts (omega (arith, l, m)) r.1) refl
  where
    apart : (m : ℕ) → k < m → nat_eq k m ≡ false
    apart m l = grind (arith, nat_tests)

rises-of : (low last : ℕ) (ts : List Stage) → RiseTo low last ts → Rises low (map (λ t. t.stage) ts)
rises-of low last [] h = tt
rises-of low last (t ∷ ts) h = (h.0, rises-of t.stage last ts h.1)

numbers-rise : (low last : ℕ) (ts : List Stage) → RiseTo low last ts → NumbersRise low last (map (λ t. t.stage) ts)
numbers-rise low last [] h = h
numbers-rise low last (t ∷ ts) h = (h.0, numbers-rise t.stage last ts h.1)

most-of : (low last : ℕ) (ts : List Stage) → RiseTo low last ts → (low ≤ last) × (list_all (λ m. nat_le m last) (map (λ t. t.stage) ts) ≡ true)
most-of low last [] h = (h, refl)
most-of low last (t ∷ ts) h =
    let rest = most-of t.stage last ts h.1 in
    (let up = h.0 in let more = rest.0 in omega arith, rw (le-is t.stage last rest.0, rest.1) refl)
  where
    le-is : (m n : ℕ) → m ≤ n → nat_le m n ≡ true
    le-is m n l = grind (arith, nat_tests)

-- ---- stages that put nothing in the text

filter-none : {A : Type 0} (f : A → Bool) (xs : List A) → len f xs ≡ 0 → filter f xs ≡ []
filter-none f [] h = refl
filter-none f (x ∷ xs) h = step (f x) (len f xs) h (λ g. filter-none f xs g)
  where
    step : (b : Bool) (n : ℕ) → one_more_if b n ≡ 0 → (n ≡ 0 → filter f xs ≡ []) → cond b (x ∷ filter f xs) (filter f xs) ≡ []
    step true n g r = absurd (omega (arith, g))
    step false n g r = r g

put-none : (xs ys : List ListElement) (k : ℕ) → len (is_inserted_by k) xs ≡ 0 → put_stage xs ys k ≡ ys
put-none xs ys k h =
    ap (λ zs. put (seen (k - 1)) no_run (stage_position k xs) zs ys) (filter-none (is_inserted_by k) xs h) ∙ put-nothing (seen (k - 1)) no_run (stage_position k xs) ys

puts-on : (o : SubOperation) → is_on_text o ≡ false → puts_text_in o ≡ false
puts-on (OnText op) e = (cc)
puts-on (OnIntervals op) e = refl
puts-on (OnGrid op) e = refl

abbrev PutsAbove : List ListElement → ℕ → List Stage → Type 0
PutsAbove xs low ts = (k : ℕ) → low < k → list_any (λ t. nat_eq k t.stage && puts_text_in t.sub_operation) ts ≡ false → len (is_inserted_by k) xs ≡ 0

same-put : (xs ys : List ListElement) (low last : ℕ) (ts : List Stage) → RiseTo low last ts → PutsAbove xs low ts
    → put_stages xs ys (map (λ t. t.stage) ts) ≡ put_stages xs ys (map (λ t. t.stage) (text_only ts))
same-put xs ys low last [] r h = refl
same-put xs ys low last (t ∷ ts) r h =
    step (is_on_text t.sub_operation) refl (λ zs. same-put xs zs t.stage last ts r.1 rest)
  where
    apart : (k m : ℕ) → m < k → nat_eq k m ≡ false
    apart k m l = grind (arith, nat_tests)

    both-less : (k : ℕ) → t.stage < k → low < k
    both-less k l =
        let m = r.0 in
        omega (arith, l, m)

    rest : PutsAbove xs t.stage ts
    rest k l e = h k (both-less k l) (rw (apart k t.stage l, e) refl)

    falls : (b : Bool) → (b && false) || false ≡ false
    falls true = refl
    falls false = refl

    none : (b : Bool) → nat_eq t.stage t.stage ≡ b → is_on_text t.sub_operation ≡ false → len (is_inserted_by t.stage) xs ≡ 0
    none b s e =
        h t.stage r.0 (rw (s, puts-on t.sub_operation e, below-kind puts_text_in t.stage t.stage last ts (omega arith) r.1) (falls b))

    step : (b : Bool) → is_on_text t.sub_operation ≡ b
        → ((zs : List ListElement) → put_stages xs zs (map (λ t. t.stage) ts) ≡ put_stages xs zs (map (λ t. t.stage) (text_only ts)))
        → put_stages xs (put_stage xs ys t.stage) (map (λ t. t.stage) ts) ≡ put_stages xs ys (map (λ t. t.stage) (cond b (t ∷ text_only ts) (text_only ts)))
    step true e f = f (put_stage xs ys t.stage)
    step false e f = ap (λ zs. put_stages xs zs (map (λ t. t.stage) ts)) (put-none xs ys t.stage (none _ refl e)) ∙ f ys

-- ---- the numbers of a document

pieces-numbers : (entry : Entry) (doc : Document) (t : Stage) → pieces (with_numbers entry doc) t ≡ pieces doc t
pieces-numbers entry doc t = step t.stage t.sub_operation t.names
  where
    step : (k : ℕ) (o : SubOperation) (names : NamedElements)
        → (let u : Stage = record { stage = k; sub_operation = o; names = names } in pieces (with_numbers entry doc) u ≡ pieces doc u)
    step k (OnText op) names = refl
    step k (OnIntervals op) names = refl
    step k (OnGrid (SpliceIn Rows p count)) names = refl
    step k (OnGrid (SpliceIn Cols p count)) names = refl
    step k (OnGrid (SpliceOut Rows p q)) names = refl
    step k (OnGrid (SpliceOut Cols p q)) names = refl
    step k (OnGrid (Set i j value)) names = refl

stage-numbers : (entry : Entry) (doc : Document) (t : Stage) → carried_stage (with_numbers entry doc) t ≡ carried_stage doc t
stage-numbers entry doc t = step t.stage t.sub_operation t.names
  where
    kept : (u : Stage) → elim (pieces (with_numbers entry doc) u) as (λ _. List Stage) [ [] ↦ [] | _ ∷ _ ↦ u ∷ [] ] ≡ elim (pieces doc u) as (λ _. List Stage) [ [] ↦ [] | _ ∷ _ ↦ u ∷ [] ]
    kept u = ap (λ ps. elim ps as (λ _. List Stage) [ [] ↦ [] | _ ∷ _ ↦ u ∷ [] ]) (pieces-numbers entry doc u)

    step : (k : ℕ) (o : SubOperation) (names : NamedElements)
        → (let u : Stage = record { stage = k; sub_operation = o; names = names } in carried_stage (with_numbers entry doc) u ≡ carried_stage doc u)
    step k (OnText op) names = kept (record { stage = k; sub_operation = OnText op; names = names })
    step k (OnIntervals op) names = refl
    step k (OnGrid op) names = kept (record { stage = k; sub_operation = OnGrid op; names = names })

flat-same : {A B : Type 0} (f g : A → List B) → ((x : A) → f x ≡ g x) → (xs : List A) → flat_map f xs ≡ flat_map g xs
flat-same f g h [] = refl
flat-same f g h (x ∷ xs) = ap (λ ys. ys ++ flat_map f xs) (h x) ∙ ap (λ ys. g x ++ ys) (flat-same f g h xs)

map-same : {A B : Type 0} (f g : A → B) → ((x : A) → f x ≡ g x) → (xs : List A) → map f xs ≡ map g xs
map-same f g h [] = refl
map-same f g h (x ∷ xs) = ap (λ y. y ∷ map f xs) (h x) ∙ ap (λ ys. g x ∷ ys) (map-same f g h xs)

carried-numbers : (entry : Entry) (doc : Document) (ts : List Stage) → carried (with_numbers entry doc) ts ≡ carried doc ts
carried-numbers entry doc ts = flat-same (carried_stage (with_numbers entry doc)) (carried_stage doc) (stage-numbers entry doc) ts

resent-numbers : (entry : Entry) (doc : Document) (ts : List Stage) → resent (with_numbers entry doc) ts ≡ resent doc ts
resent-numbers entry doc ts =
    ap {B = Resent} (λ ps. record { op = op_of ps; stages = length (carried (with_numbers entry doc) ts) })
    (flat-same (pieces (with_numbers entry doc)) (pieces doc) (pieces-numbers entry doc) ts)
    ∙ ap {B = Resent} (λ us. record { op = op_of (flat_map (pieces doc) ts); stages = length us }) (carried-numbers entry doc ts)

-- ---- a document with all its stages
module _ (last : ℕ) (doc : Document) (ts : List Stage) (w : AreWellNamed last doc ts) where
  abbrev ms : List ℕ
  ms = map (λ t. t.stage) ts

  pub its-stages : AreItsStages last ms doc
  its-stages = record {
    rise = numbers-rise 0 last ts w.rise;
    rows = λ k h. w.own.rows k (other-kind inserts_rows k ts h);
    cols = λ k h. w.own.cols k (other-kind inserts_cols k ts h);
  }

  kept-count : (kind : SubOperation → Bool) (list : Sequence) → IsWellNumbered last list → ArePutIn kind ts list.items
      → count_held (rebuilt_list ms list) ≡ count_held list
  kept-count kind list n p =
      ap (λ m. list.made + m)
      (rebuilt-pending last ms list
      (stages-of 0 last list.items ms (rises-of 0 last ts w.rise) (λ j l h. none-from-len j list.items (p j (other-kind kind j ts h))) (most-of 0 last ts w.rise).1)
      n.stages (p 0 (below-kind kind 0 0 last ts (omega arith) w.rise)))

  pub kept-rows : count_held (rebuilt_list ms doc.rows) ≡ count_held doc.rows
  kept-rows = kept-count inserts_rows doc.rows w.rows w.own.rows

  pub kept-cols : count_held (rebuilt_list ms doc.cols) ≡ count_held doc.cols
  kept-cols = kept-count inserts_cols doc.cols w.cols w.own.cols

  same-text : rebuilt_list ms doc.text ≡ rebuilt_list (map (λ t. t.stage) (text_only ts)) doc.text
  same-text = ap (λ xs. record doc.text { items = xs }) (same-put doc.text.items _ 0 last ts w.rise (λ k l h. w.own.text k h))

  pub text-again : (entry : Entry) (s : TextState) → HoldsRejoined s doc (text_only ts)
      → HoldsText s (rebuilt_document ms (with_numbers entry doc)) (carried (with_numbers entry doc) ts)
  text-again entry s h =
      let p = rebuilt_document (map (λ t. t.stage) (text_only ts)) doc in
      let q = rebuilt_document ms (with_numbers entry doc) in
      subst (λ us. HoldsText s q us) (sym (carried-numbers entry doc ts))
      (text-same p q s (carried doc ts) (carried doc ts) same-text refl refl refl
      (text-part s p (carried doc (text_only ts)) (carried doc ts) (only-carried doc ts ∙ sym (only-carried doc (text_only ts) ∙ ap (carried doc) (only-twice ts))) h))

  pub table-again : (entry : Entry) (g : GridState) → HoldsGrid g (rebuilt_document ms doc) (some_carried doc ts ++ [])
      → HoldsGrid g (rebuilt_document ms (with_numbers entry doc)) (carried (with_numbers entry doc) ts)
  table-again entry g h =
      let p = rebuilt_document ms doc in
      let q = rebuilt_document ms (with_numbers entry doc) in
      subst (λ us. HoldsGrid g q us) (sym (carried-numbers entry doc ts))
      (grid-same p q g (some_carried doc ts ++ []) (carried doc ts) refl refl refl (ap (grid_stages p) (sym (append-nil (carried doc ts))) ∙ sym (grid-behind p doc ts [])) h)

-- ---- before and after the stages are given
pub begins : (s : TreeOwn) (held : HeldDocument) → NamesFit held → IsTextSound held.last held.doc held.stages → HoldsTree s held
    → GivesTree s held.low held.last held.doc [] held.stages
begins s held named sound h = record {
  known = record { named = named; sound = sound };
  text = h.text;
  table = h.table;
  stages = h.stages ∙ sym (append-nil (map own_stage held.stages));
  numbers = h.numbers;
  text_usable = h.settled.text;
  table_usable = h.settled.table;
  text_given = given s.text.given h.settled.text_given;
  table_given = given s.table.given h.settled.table_given;
  text_below = All-from_recursion (λ t. t.stage ≤ s.text.given) [] tt;
  text_floor = h.settled.text_floor;
  table_floor = h.settled.table_floor;
}
  where
    given : (n : ℕ) → n ≡ 0 → All (λ t. n < t.stage) held.stages
    given n e = subst (λ k. All (λ t. k < t.stage) held.stages) (sym e)
        (All-from_recursion (λ t. 0 < t.stage) held.stages (later-each 0 0 held.last held.stages (omega arith) named.rise))

module _ (s : TreeOwn) (low last : ℕ) (doc : Document) (ts : List Stage) (h : GivesTree s low last doc ts []) where
  named-all : AreWellNamed last doc ts
  named-all = subst (AreWellNamed last doc) (append-nil ts) h.known.named

  sound-all : IsTextSound last doc ts
  sound-all = subst (λ us. IsTextSound last doc us) (append-nil ts) h.known.sound

  pub text-all : HoldsGiven s.text doc (text_only ts) []
  text-all = text-part s.text doc (carried doc ts ++ []) (carried doc (text_only ts) ++ [])
      (ap text_only (append-nil (carried doc (text_only ts))) ∙ only-carried doc (text_only ts) ∙ ap (carried doc) (only-twice ts)
      ∙ sym (ap text_only (append-nil (carried doc ts)) ∙ only-carried doc ts)) h.text

  pub text-sound-all : IsTextSound last doc (text_only ts)
  text-sound-all = sound-only last doc ts sound-all

  pub all-held : HoldsAllGiven last s.text
  all-held = record { doc = doc; stages = text_only ts; sound = text-sound-all; holds = text-all }

  pub table-named : AreWellNamed last doc (some_carried doc ts ++ [])
  table-named = names-left last doc (carried-left doc ts []) h.known.named

  pub table-all : HoldsGrid s.table doc (some_carried doc ts ++ [])
  table-all = grid-same doc doc s.table (carried doc ts ++ []) (some_carried doc ts ++ []) refl refl refl (grid-behind doc doc ts []) h.table

  -- ---- and after the join
  module _ (entry : Entry) (new : TreeOwn) (text : HoldsRejoined new.text doc (text_only ts)) (table : HoldsGrid new.table (rebuilt_document (map (λ t. t.stage) ts) doc) (some_carried doc ts ++ []))
      (text_given : new.text.given ≡ 0) (table_given : new.table.given ≡ 0) (text_floor : new.text.floor ≡ s.text.floor) (table_floor : new.table.floor ≡ s.table.floor)
      (text_usable : new.text.usable ≡ true) (table_usable : new.table.usable ≡ s.table.usable) (stages : new.stages.items ≡ s.stages.items)
      (numbers : new.numbers ≡ record s.numbers { number = entry.msg.seq; minimum = entry.msg.min }) where
    pub rejoined-tree : HoldsTree new (rejoined entry (record { doc = doc; stages = ts; last = last; low = low }))
    rejoined-tree = record {
      text = text-again last doc ts named-all entry new.text text;
      table = table-again last doc ts named-all entry new.table table;
      stages = stages ∙ h.stages ∙ ap (map own_stage) (sym (carried-numbers entry doc ts));
      numbers = record {
        number = rw numbers refl;
        minimum = rw numbers refl;
        skipped = rw numbers h.numbers.skipped;
        other = rw numbers h.numbers.other;
        rows = rw numbers (h.numbers.rows ∙ sym (kept-rows last doc ts named-all));
        cols = rw numbers (h.numbers.cols ∙ sym (kept-cols last doc ts named-all));
        last = rw numbers h.numbers.last;
        fits = h.numbers.fits;
      };
      settled = record {
        text = text_usable;
        table = table_usable ∙ h.table_usable;
        text_given = text_given;
        table_given = table_given;
        text_floor = subst (λ n. n ≤ low) (sym text_floor) h.text_floor;
        table_floor = subst (λ n. n ≤ low) (sym table_floor) h.table_floor;
      };
    }

-- ---- the client
flat-edits : (edits : List PendingEdit) → flat (map (λ e. e.stages) edits) ≡ flat_map (λ e. e.stages) edits
flat-edits [] = refl
flat-edits (e ∷ edits) = ap (λ ts. e.stages ++ ts) (flat-edits edits)

count-edits : (edits : List PendingEdit) → map (λ stages. length stages) (map (λ e. e.stages) edits) ≡ map (λ e. length e.stages) edits
count-edits [] = refl
count-edits (e ∷ edits) = ap (λ ns. length e.stages ∷ ns) (count-edits edits)

abbrev pub GivesAll : TreeOwn → TreeOwn → List ℕ → List Resent → Type 0
GivesAll s now counts again = (low last : ℕ) (doc : Document) (edits : List (List Stage)) → map (λ stages. length stages) edits ≡ counts
    → list_all (λ stages. are_of_one_edit (map own_stage stages)) edits ≡ true → GivesTree s low last doc [] (flat edits)
    → (again ≡ map (resent doc) edits) × GivesTree now low last doc (flat edits) []

module _ (s : TreeOwn) (entry : Entry) (counts : List ℕ) (k : HoldsOne HoldsTree s (λ p. (process_fault p entry ≡ None) × (map (λ e. length e.stages) p.pending ≡ counts))) where
  abbrev p : NaiveClient
  p = k.client

  abbrev mine : List (List Stage)
  mine = map (λ e. e.stages) p.pending

  client-begins : GivesTree s k.low p.last_stage p.doc [] (flat mine)
  client-begins = subst (λ ts. GivesTree s k.low p.last_stage p.doc [] ts) (sym (flat-edits p.pending))
      (begins s (held_by k.low p) (is-named k.start p k.made) (client-sound k.start p k.made k.document.numbers.fits) k.document)

  each-one : list_all (λ stages. are_of_one_edit (map own_stage stages)) mine ≡ true
  each-one = each-of-one p.pending (is-ready k.start p k.made).edits

  pub edits-of : GivesEdits s counts
  edits-of = record { low = k.low; last = p.last_stage; doc = p.doc; edits = mine; counted = count-edits p.pending ∙ k.fits.1; each = each-one; gives = client-begins }

  module _ (now : TreeOwn) (again : List Resent) (g : GivesAll s now counts again) where
    all-client : GivesTree now k.low p.last_stage p.doc (flat mine) []
    all-client = (g k.low p.last_stage p.doc mine (count-edits p.pending ∙ k.fits.1) each-one client-begins).1

    pub now-text : now.text.usable ≡ true
    now-text = all-client.text_usable

    pub now-table : now.table.usable ≡ true
    now-table = all-client.table_usable

    pub now-held : (last : ℕ) × HoldsAllGiven last now.text
    now-held = (p.last_stage, all-held now k.low p.last_stage p.doc (flat mine) all-client)

    -- ---- each document that it holds
    module _ (held : HeldDocument) (edits : List (List Stage)) (named : NamesFit held) (parts : held.stages ≡ flat edits)
        (counted : map (λ stages. length stages) edits ≡ counts) (h : HoldsTree s held) where
      all-after : (again ≡ map (resent held.doc) edits) × GivesTree now held.low held.last held.doc held.stages []
      all-after =
          let each = each-alike mine edits (count-edits p.pending ∙ k.fits.1 ∙ sym counted)
          (ap (map own_stage) (flat-edits p.pending) ∙ sym k.document.stages ∙ h.stages ∙ ap (map own_stage) parts) each-one in
          let r = g held.low held.last held.doc edits counted each (subst (λ ts. GivesTree s held.low held.last held.doc [] ts) parts
          (begins s held named (held-sound k.start p k.made s k.low k.document held named h) h)) in
          (r.0, subst (λ ts. GivesTree now held.low held.last held.doc ts []) (sym parts) r.1)

      pub sent-again : again ≡ map (resent (with_numbers entry held.doc)) edits
      sent-again = all-after.0 ∙ map-same (resent held.doc) (resent (with_numbers entry held.doc)) (λ ts. sym (resent-numbers entry held.doc ts)) edits

      pub after-given : GivesTree now held.low held.last held.doc held.stages []
      after-given = all-after.1

      pub joined-tree : (new : TreeOwn)
          → ((last : ℕ) → (doc : Document) → (stages : List Stage) → IsTextSound last doc stages → HoldsGiven now.text doc stages []
          → HoldsRejoined new.text doc stages)
          → ((last : ℕ) (doc : Document) (stages : List Stage) (numbers : List ℕ) → AreWellNamed last doc stages
          → HoldsGrid now.table doc stages → AreItsStages last numbers doc
          → HoldsGrid new.table (rebuilt_document numbers doc) stages)
          → new.text.given ≡ 0 → new.table.given ≡ 0 → new.text.floor ≡ now.text.floor → new.table.floor ≡ now.table.floor
          → new.text.usable ≡ true → new.table.usable ≡ now.table.usable
          → new.stages.items ≡ now.stages.items → new.numbers ≡ record now.numbers { number = entry.msg.seq; minimum = entry.msg.min }
          → HoldsTree new (rejoined entry held)
      joined-tree new a b text_given table_given text_floor table_floor text_usable table_usable stages numbers =
          let f = after-given in
          rejoined-tree now held.low held.last held.doc held.stages f entry new
          (a held.last held.doc (text_only held.stages) (text-sound-all now held.low held.last held.doc held.stages f) (text-all now held.low held.last held.doc held.stages f))
          (b held.last held.doc (some_carried held.doc held.stages ++ []) (map (λ t. t.stage) held.stages) (table-named now held.low held.last held.doc held.stages f)
          (table-all now held.low held.last held.doc held.stages f) (its-stages held.last held.doc held.stages named))
          text_given table_given text_floor table_floor text_usable table_usable stages numbers
