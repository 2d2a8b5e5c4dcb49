-- The acknowledgement of stages of one part, for the whole.
use Rattle.std.proofs.Common.{◌≡◌, ◌≤◌, ◌<◌, ℕ, zero, suc, ◌+◌, ◌-◌, Bool, true, false, List, [], ◌∷◌, ◌++◌, Option, Some, None, slice_get, drop, length, refl, sym, ◌∙◌, ap, subst, map, take, arith}
use Rattle.std.specs.List.{AllByRecursion, list_all}
use Rattle.std.proofs.lemmas.List.{drop_at, take_at}
use Rattle.std.proofs.lemmas.List.Elements.{All-from_recursion}
use Rattle.ft_base.proofs.Booleans.{both}
use Rattle.ft_op.specs.declared.operations.CellOp.TheVariants.{SpliceIn, SpliceOut, Set}
use Rattle.ft_op.specs.declared.operations.Target.{Target}
use Rattle.ft_op.specs.declared.operations.Target.TheVariants.{Rows, Cols}
use Rattle.ft_op.specs.Document.{Document}
use Rattle.ft_op.specs.Intervals.{NamedElements, no_elements}
use Rattle.ft_op.specs.Operation.{OnGrid, OnIntervals, OnText, SubOperation}
use Rattle.ft_op.specs.Stages.{Stage}
use Rattle.ft_props.specs.Element.{ElementId, ListElement}
use Rattle.ft_props.specs.Steps.{Sequence}
use Rattle.ft_msg.specs.declared.messages.Entry.{Entry}
use Rattle.ft_msg.specs.Acknowledgement.{ack_stages, renamed, renamed_stage}
use Rattle.ft_msg.specs.Agreed.{with_numbers}
use Rattle.ft_laws_agreement.specs.Reconnecting.{has_marks_of, inserts_text, is_stage_of, removes_text}
use Rattle.ft_laws_agreement.specs.Sequencing.{Each, annotates_text, inserts_in, is_grid_stage, no_kind, removes_in}
use Rattle.ft_laws_names.specs.GridFacts.{grid_stages}
use Rattle.ft_laws_names.specs.WellNamed.{AreStagesNamed, AreThere, RiseTo, StandsIn}
use Rattle.ft_replica.specs.Own.{HeldDocument, NamesFit, acknowledged}
use Rattle.ft_string.specs.Calls.{AreOldest, HoldsAcked}
use Rattle.ft_string.specs.Holds.{HoldsText, IsTextSound, element_stages, interval_stages, is_on_text}
use Rattle.ft_string.specs.State.{KeepsRest as KeepsText, TextState}
use Rattle.ft_matrix.specs.Conditions.{KeepsRest as KeepsGrid}
use Rattle.ft_matrix.specs.GridStates.{GridState}
use Rattle.ft_matrix.specs.HoldsGrid.{HoldsGrid}
use Rattle.ft_named.proofs.Lists.{map-append}
use Rattle.ft_client.specs.declared.own.TreeOwn.{TreeOwn}
use Rattle.ft_client.specs.declared.stages.OwnStage.{OwnStage}
use Rattle.ft_client.specs.Acks.{HoldsAckedGrid, last_from}
use Rattle.ft_client.specs.Holds.{HoldsTree}
use Rattle.ft_client.specs.Numbers.{HasNumbers, NumberState}
use Rattle.ft_client.specs.Parts.{is_grid_part, is_text_part, own_stage, part_of}
use Rattle.ft_client.proofs.Acked.{cells-stay, cols-stay, ends-stand, named-stays, own-unmarked, rest-stays, rows-stay, text-stays}
use Rattle.ft_client.proofs.Parts.{elements-front, grid-front, grid-same, intervals-front, text-same}

-- ---- which stages are of one part

pub text-parts : (ts : List Stage) → list_all (λ t. is_text_part t.part) (map own_stage ts) ≡ true → list_all (λ t. is_on_text t.sub_operation) ts ≡ true
text-parts [] h = refl
text-parts (t ∷ ts) h =
    let p = both (is_text_part (part_of t.sub_operation)) (list_all (λ (t : OwnStage). is_text_part t.part) (map own_stage ts)) h in
    rw (one t.sub_operation p.0, text-parts ts p.1) refl
  where
    one : (o : SubOperation) → is_text_part (part_of o) ≡ true → is_on_text o ≡ true
    one (OnText op) g = refl
    one (OnIntervals op) g = refl
    one (OnGrid op) g = (cc)

pub grid-parts : (ts : List Stage) → list_all (λ t. is_grid_part t.part) (map own_stage ts) ≡ true → list_all is_grid_stage ts ≡ true
grid-parts [] h = refl
grid-parts (t ∷ ts) h =
    let p = both (is_grid_part (part_of t.sub_operation)) (list_all (λ (t : OwnStage). is_grid_part t.part) (map own_stage ts)) h in
    rw (one t.sub_operation t.names p.0, grid-parts ts p.1) refl
  where
    one : (o : SubOperation) (names : NamedElements) → is_grid_part (part_of o) ≡ true
        → is_grid_stage (record { stage = t.stage; sub_operation = o; names = names }) ≡ true
    one (OnGrid op) names g = refl
    one (OnText op) names g = (cc)
    one (OnIntervals op) names g = (cc)

-- the kinds that leave a list
abbrev LeavesKinds : (SubOperation → Bool) → (SubOperation → Bool) → (SubOperation → Bool) → Stage → Type 0
LeavesKinds i r a t = (i t.sub_operation ≡ false) × (r t.sub_operation ≡ false) × (a t.sub_operation ≡ false)

text-kinds : (target : Target) (ts : List Stage) → list_all (λ t. is_on_text t.sub_operation) ts ≡ true
    → Each (LeavesKinds (inserts_in target) (removes_in target) no_kind) ts
text-kinds target [] h = tt
text-kinds target (t ∷ ts) h =
    let p = both (is_on_text t.sub_operation) (list_all (λ (t : Stage). is_on_text t.sub_operation) ts) h in
    (one t.sub_operation p.0, text-kinds target ts p.1)
  where
    one : (o : SubOperation) → is_on_text o ≡ true → (inserts_in target o ≡ false) × (removes_in target o ≡ false) × (no_kind o ≡ false)
    one (OnText op) g = (refl, refl, refl)
    one (OnIntervals op) g = (refl, refl, refl)
    one (OnGrid op) g = (cc)

grid-kinds : (ts : List Stage) → list_all is_grid_stage ts ≡ true → Each (LeavesKinds inserts_text removes_text annotates_text) ts
grid-kinds [] h = tt
grid-kinds (t ∷ ts) h =
    let p = both (is_grid_stage t) (list_all is_grid_stage ts) h in
    (one t.sub_operation t.names p.0, grid-kinds ts p.1)
  where
    one : (o : SubOperation) (names : NamedElements) → is_grid_stage (record { stage = t.stage; sub_operation = o; names = names }) ≡ true
        → (inserts_text o ≡ false) × (removes_text o ≡ false) × (annotates_text o ≡ false)
    one (OnGrid op) names g = (refl, refl, refl)
    one (OnText op) names g = (cc)
    one (OnIntervals op) names g = (cc)

-- ---- the others renamed

named-behind : (doc : Document) (ts us : List Stage) → AreStagesNamed doc (ts ++ us) → AreStagesNamed doc us
named-behind doc [] us h = h
named-behind doc (t ∷ ts) us h = named-behind doc ts us h.1

module _ (f : ElementId → ElementId) (doc : Document) where
  first-none : (names : NamedElements) → names ≡ no_elements → renamed f names.first ≡ names.first
  first-none names e = ap (λ (n : NamedElements). renamed f n.first) e ∙ sym (ap (λ (n : NamedElements). n.first) e)

  second-none : (names : NamedElements) → names ≡ no_elements → renamed f names.second ≡ names.second
  second-none names e = ap (λ (n : NamedElements). renamed f n.second) e ∙ sym (ap (λ (n : NamedElements). n.second) e)

  abbrev pub KeepsNames : Sequence → Type 0
  KeepsNames list = (o : Option ElementId) → StandsIn list.items o → renamed f o ≡ o

  pub grid-renamed : KeepsNames doc.rows → KeepsNames doc.cols → (ts : List Stage) → AreStagesNamed doc ts
      → grid_stages doc (map (renamed_stage f) ts) ≡ grid_stages doc ts
  grid-renamed rows cols [] h = refl
  grid-renamed rows cols (t ∷ ts) h = step t.sub_operation t.names h.0.0 (grid-renamed rows cols ts h.1)
    where
      step : (o : SubOperation) (names : NamedElements) → AreThere doc o names → grid_stages doc (map (renamed_stage f) ts) ≡ grid_stages doc ts
          → (let u : Stage = record { stage = t.stage; sub_operation = o; names = names } in grid_stages doc (map (renamed_stage f) (u ∷ ts)) ≡ grid_stages doc (u ∷ ts))
      step (OnText op) names n ih = ih
      step (OnIntervals op) names n ih = ih
      step (OnGrid (SpliceIn target p count)) names n ih = rw (first-none names n, second-none names n, ih) refl
      step (OnGrid (SpliceOut target p q)) names n ih = rw (first-none names n, second-none names n, ih) refl
      step (OnGrid (Set i j value)) names n ih = rw (rows names.first n.0, cols names.second n.1, ih) refl

  pub elements-renamed : (ts : List Stage) → AreStagesNamed doc ts → element_stages (map (renamed_stage f) ts) ≡ element_stages ts
  elements-renamed [] h = refl
  elements-renamed (t ∷ ts) h = step t.sub_operation t.names h.0.0 (elements-renamed ts h.1)
    where
      step : (o : SubOperation) (names : NamedElements) → AreThere doc o names → element_stages (map (renamed_stage f) ts) ≡ element_stages ts
          → (let u : Stage = record { stage = t.stage; sub_operation = o; names = names } in element_stages (map (renamed_stage f) (u ∷ ts)) ≡ element_stages (u ∷ ts))
      step (OnText op) names n ih = rw (first-none names n, second-none names n, ih) refl
      step (OnIntervals op) names n ih = ih
      step (OnGrid op) names n ih = ih

  pub intervals-renamed : KeepsNames doc.text → (ts : List Stage) → AreStagesNamed doc ts → interval_stages (map (renamed_stage f) ts) ≡ interval_stages ts
  intervals-renamed text [] h = refl
  intervals-renamed text (t ∷ ts) h = step t.sub_operation t.names h.0.0 (intervals-renamed text ts h.1)
    where
      step : (o : SubOperation) (names : NamedElements) → AreThere doc o names → interval_stages (map (renamed_stage f) ts) ≡ interval_stages ts
          → (let u : Stage = record { stage = t.stage; sub_operation = o; names = names } in interval_stages (map (renamed_stage f) (u ∷ ts)) ≡ interval_stages (u ∷ ts))
      step (OnText op) names n ih = ih
      step (OnIntervals op) names n ih = rw (text names.first n.0, text names.second n.1, ih) refl
      step (OnGrid op) names n ih = ih

own-renamed : (f : ElementId → ElementId) (ts : List Stage) → map own_stage (map (renamed_stage f) ts) ≡ map own_stage ts
own-renamed f [] = refl
own-renamed f (t ∷ ts) = ap (λ us. own_stage t ∷ us) (own-renamed f ts)

-- ---- the whole

-- the numbers after an acknowledgement
acked-numbers : (old new : NumberState) (doc : Document) (last s c : ℕ) (entry : Entry) (own : List Stage) → HasNumbers old doc last
    → new ≡ record old { number = entry.msg.seq; minimum = entry.msg.min } → HasNumbers new (with_numbers entry (ack_stages s c (λ i. i) own doc).0) last
acked-numbers old new doc last s c entry own h e =
    let stays = rest-stays s c own (λ i. i) doc in
    record {
      number = ap (λ (n : NumberState). n.number) e;
      minimum = ap (λ (n : NumberState). n.minimum) e;
      skipped = ap (λ (n : NumberState). n.skipped) e ∙ h.skipped ∙ sym stays.skipped;
      other = ap (λ (n : NumberState). n.other) e ∙ h.other ∙ sym stays.other;
      rows = ap (λ (n : NumberState). n.rows) e ∙ h.rows ∙ sym stays.rows;
      cols = ap (λ (n : NumberState). n.cols) e ∙ h.cols ∙ sym stays.cols;
      last = ap (λ (n : NumberState). n.last) e ∙ h.last;
      fits = h.fits;
    }

-- what is known of the rows, or of the columns
pub record ListFacts (inserts removes annotates : SubOperation → Bool) (stages : List Stage) (xs : List ListElement) : Type 0 where
  pub marks : list_all (has_marks_of inserts removes stages) xs ≡ true
  pub changes : list_all (λ e. list_all (λ q. is_stage_of annotates stages q.0) e.pending) xs ≡ true

module _ (old new : TreeOwn) (held : HeldDocument) (named : NamesFit held) (h : HoldsTree old held) (entry : Entry) (own rest : List Stage) (parts : held.stages ≡ own ++ rest)
    (ahead : new.stages.items ≡ map own_stage rest) (numbers : new.numbers ≡ record old.numbers { number = entry.msg.seq; minimum = entry.msg.min }) where
  abbrev acked : Document × (ElementId → ElementId)
  acked = ack_stages entry.msg.seq entry.origin (λ i. i) own held.doc

  names : AreStagesNamed held.doc rest
  names = named-behind held.doc own rest (subst (AreStagesNamed held.doc) parts named.stages)

  pub text-acked : list_all (λ t. is_on_text t.sub_operation) own ≡ true → ListFacts (inserts_in Rows) (removes_in Rows) no_kind held.stages held.doc.rows.items
      → ListFacts (inserts_in Cols) (removes_in Cols) no_kind held.stages held.doc.cols.items
      → HoldsAcked new.text entry.msg.seq entry.origin own rest held.doc → KeepsText old.text new.text → new.table ≡ old.table
      → HoldsTree new (acknowledged entry own rest held)
  text-acked on r c t keeps table =
      let rows = own-unmarked (inserts_in Rows) (removes_in Rows) no_kind held.stages held.doc.rows.items r.marks r.changes 0 held.last own
      rest parts named.rise (text-kinds Rows own on) in
      let cols = own-unmarked (inserts_in Cols) (removes_in Cols) no_kind held.stages held.doc.cols.items c.marks c.changes 0 held.last own
      rest parts named.rise (text-kinds Cols own on) in
      let after = with_numbers entry acked.0 in
      let stages = map (renamed_stage acked.1) rest in
      record {
        text = text-same acked.0 after new.text stages stages refl refl refl refl t;
        table = subst (λ g. HoldsGrid g after stages) (sym table)
            (grid-same held.doc after old.table held.stages stages (rows-stay entry.msg.seq entry.origin own (λ i. i) held.doc rows)
            (cols-stay entry.msg.seq entry.origin own (λ i. i) held.doc cols) (cells-stay entry.msg.seq entry.origin own (λ i. i) held.doc on)
            (grid-renamed acked.1 held.doc (λ o s. named-stays entry.msg.seq entry.origin own held.doc held.last held.doc.rows named.rows rows o s)
            (λ o s. named-stays entry.msg.seq entry.origin own held.doc held.last held.doc.cols named.cols cols o s) rest names
            ∙ sym (ap (grid_stages held.doc) parts ∙ grid-front held.doc own rest on)) h.table);
        stages = ahead ∙ sym (own-renamed acked.1 rest);
        numbers = acked-numbers old.numbers new.numbers held.doc held.last entry.msg.seq entry.origin entry own h.numbers numbers;
        settled = record {
          text = keeps.usable ∙ h.settled.text;
          table = ap (λ (g : GridState). g.usable) table ∙ h.settled.table;
          text_given = keeps.given ∙ h.settled.text_given;
          table_given = ap (λ (g : GridState). g.given) table ∙ h.settled.table_given;
          text_floor = subst (λ n. n ≤ held.low) (sym keeps.floor) h.settled.text_floor;
          table_floor = subst (λ (g : GridState). g.floor ≤ held.low) (sym table) h.settled.table_floor;
        };
      }

  pub grid-acked : list_all is_grid_stage own ≡ true → IsTextSound held.last held.doc held.stages
      → HoldsAckedGrid new.table entry.msg.seq entry.origin own rest held.doc
      → KeepsGrid old.table new.table → new.text ≡ old.text → HoldsTree new (acknowledged entry own rest held)
  grid-acked on sound g keeps text =
      let marked = own-unmarked inserts_text removes_text annotates_text held.stages held.doc.text.items sound.place.marks sound.changes 0
      held.last own rest parts named.rise (grid-kinds own on) in
      let stays = text-stays entry.msg.seq entry.origin own (λ i. i) held.doc marked on named.text.once (ends-stand held.doc.text.items held.doc.intervals sound.ends) in
      let after = with_numbers entry acked.0 in
      let stages = map (renamed_stage acked.1) rest in
      record {
        text = subst (λ s. HoldsText s after stages) (sym text)
            (text-same held.doc after old.text held.stages stages stays.text stays.intervals
            (elements-renamed acked.1 held.doc rest names ∙ sym (ap element_stages parts ∙ elements-front own rest on))
            (intervals-renamed acked.1 held.doc (λ o s. named-stays entry.msg.seq entry.origin own held.doc held.last held.doc.text named.text marked o s) rest names
            ∙ sym (ap interval_stages parts ∙ intervals-front own rest on)) h.text);
        table = grid-same acked.0 after new.table stages stages refl refl refl refl g;
        stages = ahead ∙ sym (own-renamed acked.1 rest);
        numbers = acked-numbers old.numbers new.numbers held.doc held.last entry.msg.seq entry.origin entry own h.numbers numbers;
        settled = record {
          text = ap (λ (x : TextState). x.usable) text ∙ h.settled.text;
          table = keeps.usable ∙ h.settled.table;
          text_given = ap (λ (x : TextState). x.given) text ∙ h.settled.text_given;
          table_given = keeps.given ∙ h.settled.table_given;
          text_floor = subst (λ (x : TextState). x.floor ≤ held.low) (sym text) h.settled.text_floor;
          table_floor = subst (λ n. n ≤ held.low) (sym keeps.floor) h.settled.table_floor;
        };
      }

-- ---- the first stages

map-length : {A B : Type 0} (f : A → B) (xs : List A) → length (map f xs) ≡ length xs
map-length f [] = refl
map-length f (x ∷ xs) = ap suc (map-length f xs)

pub taken-are : (items : List OwnStage) (stages own rest : List Stage) (count : ℕ) → items ≡ map own_stage stages → stages ≡ own ++ rest
    → length own ≡ count → take count items ≡ map own_stage own
taken-are items stages own rest count e p n =
    ap (take count) (e ∙ ap (map own_stage) p ∙ map-append own_stage own rest) ∙ take_at (map own_stage own) (map own_stage rest) count (map-length own_stage own ∙ n)

pub left-are : (items : List OwnStage) (stages own rest : List Stage) (count : ℕ) → items ≡ map own_stage stages → stages ≡ own ++ rest
    → length own ≡ count → drop count items ≡ map own_stage rest
left-are items stages own rest count e p n =
    ap (drop count) (e ∙ ap (map own_stage) p ∙ map-append own_stage own rest) ∙ drop_at (map own_stage own) (map own_stage rest) count (map-length own_stage own ∙ n)

-- a list in two
pub record IsCut {A : Type 0} (xs : List A) (count : ℕ) : Type 0 where
  pub front : List A
  pub behind : List A
  pub is : xs ≡ front ++ behind
  pub counted : length front ≡ count

pub cut : {A : Type 0} (xs : List A) (count : ℕ) → count ≤ length xs → IsCut xs count
cut xs zero l = record { front = []; behind = xs; is = refl; counted = refl }
cut [] (suc count) l = absurd (omega arith)
cut (x ∷ xs) (suc count) l =
    let r = cut xs count (omega arith) in
    record { front = x ∷ r.front; behind = r.behind; is = ap (λ ys. x ∷ ys) r.is; counted = ap suc r.counted }

-- ---- they are the oldest

-- the last number is no lower
no-lower : (k last : ℕ) (own rest : List Stage) → RiseTo k last (own ++ rest) → k ≤ last_from k (map own_stage own)
no-lower k last [] rest r = omega arith
no-lower k last (t ∷ own) rest r =
    let l = r.0 in
    let m = no-lower t.stage last own rest r.1 in
    omega (arith, l, m)

own-within : (k last : ℕ) (own rest : List Stage) → RiseTo k last (own ++ rest) → list_all (λ t. is_on_text t.sub_operation) own ≡ true
    → AllByRecursion (λ t. (1 ≤ t.stage) × (t.stage < 1 + last_from k (map own_stage own)) × (is_on_text t.sub_operation ≡ true)) own
own-within k last [] rest r h = tt
own-within k last (t ∷ own) rest r h =
    let p = both (is_on_text t.sub_operation) (list_all (λ (t : Stage). is_on_text t.sub_operation) own) h in
    let l = r.0 in
    let m = no-lower t.stage last own rest r.1 in
    ((omega (arith, l), omega (arith, m), p.0), own-within t.stage last own rest r.1 p.1)

from-next : (k low last : ℕ) (ts : List Stage) → k ≤ low → RiseTo low last ts → AllByRecursion (λ t. 1 + k ≤ t.stage) ts
from-next k low last [] l r = tt
from-next k low last (t ∷ ts) l r =
    let m = r.0 in
    (omega (arith, l, m), from-next k t.stage last ts (omega (arith, l, m)) r.1)

rise-behind : (k last : ℕ) (own rest : List Stage) → RiseTo k last (own ++ rest) → AllByRecursion (λ t. 1 + last_from k (map own_stage own) ≤ t.stage) rest
rise-behind k last [] rest r = from-next k k last rest (omega arith) r
rise-behind k last (t ∷ own) rest r = rise-behind t.stage last own rest r.1

pub are-oldest : (last : ℕ) (own rest : List Stage) → RiseTo 0 last (own ++ rest) → list_all (λ t. is_on_text t.sub_operation) own ≡ true
    → AreOldest 1 (1 + last_from 0 (map own_stage own)) own rest
are-oldest last own rest r h = record {
  within = All-from_recursion (λ t. (1 ≤ t.stage) × (t.stage < 1 + last_from 0 (map own_stage own)) × (is_on_text t.sub_operation ≡ true)) own (own-within 0 last own rest r h);
  behind = All-from_recursion (λ t. 1 + last_from 0 (map own_stage own) ≤ t.stage) rest (rise-behind 0 last own rest r);
}

-- ---- the last number

last-is : (k i : ℕ) (ts : List OwnStage) (t : OwnStage) → suc i ≡ length ts → slice_get ts i ≡ Some t → last_from k ts ≡ t.stage
last-is k i [] t n e = absurd (omega (arith, n))
last-is k zero (u ∷ []) t n e = (let same : u ≡ t = (cc) in ap (λ (x : OwnStage). x.stage) same)
last-is k zero (u ∷ v ∷ ts) t n e = absurd (omega (arith, n))
last-is k (suc i) (u ∷ ts) t n e = last-is u.stage i ts t (omega (arith, n)) e

none-last : (i : ℕ) (ts : List OwnStage) → suc i ≡ length ts → slice_get ts i ≡ None → ⊥
none-last i [] n e = absurd (omega (arith, n))
none-last zero (u ∷ ts) n e = (cc)
none-last (suc i) (u ∷ ts) n e = none-last i ts (omega (arith, n)) e

less-one : (n : ℕ) → suc n - 1 ≡ n
less-one n = omega arith

pub last-of : (ts : List OwnStage) (t : OwnStage) → slice_get ts (length ts - 1) ≡ Some t → last_from 0 ts ≡ t.stage
last-of [] t e = (cc)
last-of (u ∷ us) t e = last-is 0 (length us) (u ∷ us) t refl (sym (ap (slice_get (u ∷ us)) (less-one (length us))) ∙ e)

pub last-none : (ts : List OwnStage) → slice_get ts (length ts - 1) ≡ None → 0 ≡ last_from 0 ts
last-none [] e = refl
last-none (u ∷ us) e = absurd (none-last (length us) (u ∷ us) refl (sym (ap (slice_get (u ∷ us)) (less-one (length us))) ∙ e))

-- the next one dropped too
off-next : (xs : List OwnStage) (i : ℕ) (t : OwnStage) (ys : List OwnStage) → drop i xs ≡ t ∷ ys → drop (suc i) xs ≡ ys
off-next [] zero t ys e = (cc)
off-next [] (suc i) t ys e = (cc)
off-next (x ∷ xs) zero t ys e = let rest : xs ≡ ys = (cc) in rest
off-next (x ∷ xs) (suc i) t ys e = off-next xs i t ys e

pub next-off : (xs : List OwnStage) (i : ℕ) (t : OwnStage) (ys : List OwnStage) → drop i xs ≡ t ∷ ys → drop (i + 1) xs ≡ ys
next-off xs i t ys e =
    let up : i + 1 ≡ suc i = omega arith in
    ap (λ n. drop n xs) up ∙ off-next xs i t ys e
