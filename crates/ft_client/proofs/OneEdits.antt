-- The stages of each pending edit are of one part, by their own numbers and parts too.
use Rattle.std.proofs.Common.{◌≡◌, ℕ, suc, Bool, true, false, not, ◌&&◌, ◌||◌, List, [], ◌∷◌, ◌++◌, length, refl, sym, ◌∙◌, ap, map, arith}
use Rattle.std.specs.List.{flat_map, list_all}
use Rattle.ft_base.proofs.Booleans.{both}
use Rattle.ft_op.specs.Intervals.{NamedElements}
use Rattle.ft_op.specs.Operation.{OnGrid, OnIntervals, OnText, SubOperation}
use Rattle.ft_op.specs.Stages.{Stage}
use Rattle.ft_msg.specs.Client.{PendingEdit}
use Rattle.ft_laws_agreement.specs.Sequencing.{is_grid_stage, is_interval_edit, is_one_operation, is_text_stage}
use Rattle.ft_client.specs.declared.stages.OwnStage.{OwnStage}
use Rattle.ft_client.specs.declared.stages.Part.{Part}
use Rattle.ft_client.specs.declared.stages.Part.TheVariants.{Elements, Grid, Intervals}
use Rattle.ft_client.specs.Parts.{are_of_one_edit, is_alone, is_elements_part, is_grid_part, is_text_part, own_stage, part_of}

-- ---- of an edit of the definitions

elements-of : (t : Stage) → is_text_stage t ≡ true → is_elements_part (part_of t.sub_operation) ≡ true
elements-of t h = step t.stage t.sub_operation t.names h
  where
    step : (k : ℕ) (o : SubOperation) (names : NamedElements)
        → is_text_stage (record { stage = k; sub_operation = o; names = names }) ≡ true → is_elements_part (part_of o) ≡ true
    step k (OnText op) names g = refl
    step k (OnIntervals op) names g = (cc)
    step k (OnGrid op) names g = (cc)

grid-of : (t : Stage) → is_grid_stage t ≡ true → is_grid_part (part_of t.sub_operation) ≡ true
grid-of t h = step t.stage t.sub_operation t.names h
  where
    step : (k : ℕ) (o : SubOperation) (names : NamedElements)
        → is_grid_stage (record { stage = k; sub_operation = o; names = names }) ≡ true → is_grid_part (part_of o) ≡ true
    step k (OnGrid op) names g = refl
    step k (OnText op) names g = (cc)
    step k (OnIntervals op) names g = (cc)

all-of-kind : (test : Stage → Bool) (kind : OwnStage → Bool) → ((t : Stage) → test t ≡ true → kind (own_stage t) ≡ true)
    → (ts : List Stage) → list_all test ts ≡ true
    → list_all kind (map own_stage ts) ≡ true
all-of-kind test kind f [] h = refl
all-of-kind test kind f (t ∷ ts) h =
    let p = both (test t) (list_all test ts) h in
    rw (f t p.0, all-of-kind test kind f ts p.1) refl

alone-of : (ts : List Stage) → is_interval_edit ts ≡ true → is_alone (map own_stage ts) ≡ true
alone-of [] h = (cc)
alone-of (t ∷ []) h = refl
alone-of (t ∷ u ∷ ts) h = (cc)

last-true : (a b : Bool) → a || (b || true) ≡ true
last-true true b = refl
last-true false true = refl
last-true false false = refl

mid-true : (a b : Bool) → a || (true || b) ≡ true
mid-true true b = refl
mid-true false b = refl

pub of-one : (e : PendingEdit) → is_one_operation e ≡ true → are_of_one_edit (map own_stage e.stages) ≡ true
of-one e h = step (list_all is_text_stage e.stages) (list_all is_grid_stage e.stages) (is_interval_edit e.stages) refl refl refl h
  where
    step : (a b c : Bool) → list_all is_text_stage e.stages ≡ a → list_all is_grid_stage e.stages ≡ b → is_interval_edit e.stages ≡ c → a || b || c ≡ true
        → are_of_one_edit (map own_stage e.stages) ≡ true
    step true b c f g i k = rw (all-of-kind is_text_stage (λ (u : OwnStage). is_elements_part u.part) elements-of e.stages f) refl
    step false true c f g i k =
        rw (all-of-kind is_grid_stage (λ (u : OwnStage). is_grid_part u.part) grid-of e.stages g)
        (mid-true (list_all (λ (u : OwnStage). is_elements_part u.part) (map own_stage e.stages)) (is_alone (map own_stage e.stages)))
    step false false true f g i k =
        rw (alone-of e.stages i)
        (last-true (list_all (λ (u : OwnStage). is_elements_part u.part) (map own_stage e.stages)) (list_all (λ (u : OwnStage). is_grid_part u.part) (map own_stage e.stages)))
    step false false false f g i k = (cc)

pub each-of-one : (edits : List PendingEdit) → list_all is_one_operation edits ≡ true
    → list_all (λ stages. are_of_one_edit (map own_stage stages)) (map (λ e. e.stages) edits) ≡ true
each-of-one [] h = refl
each-of-one (e ∷ edits) h =
    let p = both (is_one_operation e) (list_all is_one_operation edits) h in
    rw (of-one e p.0, each-of-one edits p.1) refl

-- ---- of another list of edits with the same parts

-- two lists in two parts, the first of which are as long
parts-same : {A : Type 0} (xs ys us vs : List A) → length xs ≡ length us → xs ++ ys ≡ us ++ vs → (xs ≡ us) × (ys ≡ vs)
parts-same [] ys [] vs n e = (refl, e)
parts-same [] ys (u ∷ us) vs n e = absurd (omega (arith, n))
parts-same (x ∷ xs) ys [] vs n e = absurd (omega (arith, n))
parts-same (x ∷ xs) ys (u ∷ us) vs n e =
    let head : x ≡ u = (cc) in
    let rest : xs ++ ys ≡ us ++ vs = (cc) in
    let r = parts-same xs ys us vs (omega (arith, n)) rest in
    (ap (λ z. z ∷ xs) head ∙ ap (λ zs. u ∷ zs) r.0, r.1)

map-more : (ts us : List Stage) → map own_stage (ts ++ us) ≡ map own_stage ts ++ map own_stage us
map-more [] us = refl
map-more (t ∷ ts) us = ap (λ xs. own_stage t ∷ xs) (map-more ts us)

long : (ts : List Stage) → length (map own_stage ts) ≡ length ts
long [] = refl
long (t ∷ ts) = ap suc (long ts)

pub each-alike : (es fs : List (List Stage)) → map (λ stages. length stages) es ≡ map (λ stages. length stages) fs
    → map own_stage (flat_map (λ stages. stages) es) ≡ map own_stage (flat_map (λ stages. stages) fs)
    → list_all (λ stages. are_of_one_edit (map own_stage stages)) es ≡ true → list_all (λ stages. are_of_one_edit (map own_stage stages)) fs ≡ true
each-alike es [] n e h = refl
each-alike [] (f ∷ fs) n e h = (cc)
each-alike (d ∷ es) (f ∷ fs) n e h =
    let head : length d ≡ length f = (cc) in
    let tail : map (λ (stages : List Stage). length stages) es ≡ map (λ (stages : List Stage). length stages) fs = (cc) in
    let p = parts-same (map own_stage d) (map own_stage (flat_map (λ (stages : List Stage). stages) es)) (map own_stage f)
    (map own_stage (flat_map (λ (stages : List Stage). stages) fs))
    (long d ∙ head ∙ sym (long f))
    (sym (map-more d (flat_map (λ (stages : List Stage). stages) es)) ∙ e ∙ map-more f (flat_map (λ (stages : List Stage). stages) fs)) in
    let q = both (are_of_one_edit (map own_stage d)) (list_all (λ (stages : List Stage). are_of_one_edit (map own_stage stages)) es) h in
    rw (sym (ap are_of_one_edit p.0) ∙ q.0, each-alike es fs tail p.1 q.1) refl

-- ---- stages that are not all of the text

text-kind : (part : Part) → is_elements_part part ≡ true → is_text_part part ≡ true
text-kind Elements h = refl
text-kind Intervals h = (cc)
text-kind Grid h = (cc)

all-text : (ts : List OwnStage) → list_all (λ t. is_elements_part t.part) ts ≡ true → list_all (λ t. is_text_part t.part) ts ≡ true
all-text [] h = refl
all-text (t ∷ ts) h =
    let p = both (is_elements_part t.part) (list_all (λ (u : OwnStage). is_elements_part u.part) ts) h in
    rw (text-kind t.part p.0, all-text ts p.1) refl

alone-grid : (ts : List OwnStage) → is_alone ts ≡ true → list_all (λ t. is_text_part t.part) ts ≡ false → list_all (λ t. is_grid_part t.part) ts ≡ true
alone-grid [] h g = (cc)
alone-grid (t ∷ []) h g = step (is_grid_part t.part) g
  where
    step : (b : Bool) → not b && true ≡ false → b && true ≡ true
    step true e = refl
    step false e = (cc)
alone-grid (t ∷ u ∷ ts) h g = (cc)

pub or-grid : (ts : List OwnStage) → are_of_one_edit ts ≡ true → list_all (λ t. is_text_part t.part) ts ≡ false → list_all (λ t. is_grid_part t.part) ts ≡ true
or-grid ts h none =
    step (list_all (λ (u : OwnStage). is_elements_part u.part) ts) (list_all (λ (u : OwnStage). is_grid_part u.part) ts) (is_alone ts) refl refl refl h
  where
    step : (a b c : Bool) → list_all (λ (u : OwnStage). is_elements_part u.part) ts ≡ a
        → list_all (λ (u : OwnStage). is_grid_part u.part) ts ≡ b → is_alone ts ≡ c
        → a || (b || c) ≡ true → list_all (λ (u : OwnStage). is_grid_part u.part) ts ≡ true
    step true b c e f g k =
        let never : true ≡ false = sym (all-text ts e) ∙ none in
        (cc)
    step false true c e f g k = f
    step false false true e f g k = alone-grid ts g none
    step false false false e f g k = (cc)
