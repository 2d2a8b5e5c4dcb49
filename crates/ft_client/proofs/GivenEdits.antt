-- The stages of edits are given one after another.
use Rattle.std.proofs.Common.{get_or, slice_index_or, ◌≡◌, ◌≤◌, ◌<◌, ◌^◌, ℕ, zero, suc, ◌+◌, Bool, true, false, ◌||◌, List, [], ◌∷◌, ◌++◌, Option, Some, None, append-nil, append_assoc, drop, take, length, refl, sym, ◌∙◌, ap, subst, map, arith}
use Rattle.std.proofs.Math.Seq.{drop-cons}
use Rattle.std.specs.List.{flat_map, list_all}
use Rattle.std.proofs.lemmas.Grind.{flat_map-append}
use Rattle.ft_base.proofs.Booleans.{both}
use Rattle.ft_op.specs.declared.operations.ChannelOp.{ChannelOp}
use Rattle.ft_op.specs.Document.{Document}
use Rattle.ft_op.specs.Stages.{Stage}
use Rattle.ft_replica.specs.declared.document.Resent.{Resent}
use Rattle.ft_replica.specs.Own.{resent}
use Rattle.ft_client.specs.declared.own.TreeOwn.{TreeOwn}
use Rattle.ft_client.specs.Rejoins.{AddsPieces, GivesEdit, GivesEdits, GivesNext, GivesSome, GivesStage, GivesTree, are_of_one_part, carried}
use Rattle.ft_client.specs.declared.stages.OwnStage.{OwnStage}
use Rattle.ft_client.specs.Parts.{are_of_one_edit, is_alone, is_elements_part, is_grid_part, own_stage}
use Rattle.ft_client.proofs.JoinedOps.{carried-few, edit-more, of-one-part, one-kind}

single : (t : Stage) → are_of_one_edit (map own_stage (t ∷ [])) ≡ true
single t = either (list_all (λ (u : OwnStage). is_elements_part u.part) (map own_stage (t ∷ []))) (list_all (λ (u : OwnStage). is_grid_part u.part) (map own_stage (t ∷ [])))
  where
    either : (a b : Bool) → a || (b || true) ≡ true
    either true b = refl
    either false true = refl
    either false false = refl

pub some-of-next : (s : TreeOwn) (again : Resent) → GivesNext s again → GivesSome s 1
some-of-next s again f = record {
  low = f.low;
  last = f.last;
  doc = f.doc;
  front = f.front ++ f.mine;
  mine = f.t ∷ [];
  rest = f.rest;
  counted = refl;
  one = single f.t;
  gives = f.gives.tree;
}

-- what is sent again so far, and the pieces of the next stage, are on one part; and they are few
pub parts-alike : (s new : TreeOwn) (again : Resent) (op : Option ChannelOp) (f : GivesNext s again)
    → GivesStage new f.low f.last f.doc (f.front ++ f.mine) f.t f.rest op
    → (first more : ChannelOp) → again.op ≡ Some first → op ≡ Some more → are_of_one_part first more ≡ true
parts-alike s new again op f g first more e o =
    of-one-part f.doc f.mine f.t first more (one-kind f.mine f.t f.one) (sym (ap (λ (r : Resent). r.op) f.gives.again) ∙ e) (sym g.sent ∙ o)

pub still-few : (s : TreeOwn) (again : Resent) → GivesNext s again → again.stages + 1 < 2 ^ 64
still-few s again f =
    let few = f.few in
    let least = carried-few f.doc f.mine in
    let same : again.stages ≡ length (carried f.doc f.mine) = ap (λ (r : Resent). r.stages) f.gives.again in
    omega (arith, few, least, same)

pub more-given : (s new : TreeOwn) (low last : ℕ) (doc : Document) (front mine : List Stage) (t : Stage) (rest : List Stage)
    (again v : Resent) (op : Option ChannelOp)
    → are_of_one_edit (map own_stage (mine ++ t ∷ [])) ≡ true → GivesEdit s low last doc front mine (t ∷ rest) again
    → GivesStage new low last doc (front ++ mine) t rest op
    → AddsPieces again op v → GivesEdit new low last doc front (mine ++ t ∷ []) rest v
more-given s new low last doc front mine t rest again v op one e g a = record {
  tree = subst (λ us. GivesTree new low last doc us rest) (append_assoc front mine (t ∷ [])) g.tree;
  again = edit-more doc mine t (one-kind mine t one) again v op g.sent e.again a;
}

-- ---- the next place
record IsPlace {A : Type 0} (xs : List A) (i : ℕ) : Type 0 where
  pub x : A
  pub is : drop i xs ≡ x ∷ drop (i + 1) xs
  pub upto : take (i + 1) xs ≡ take i xs ++ x ∷ []

up : (m : ℕ) → suc m + 1 ≡ suc (m + 1)
up m = omega arith

place : {A : Type 0} (xs : List A) (i : ℕ) → i < length xs → IsPlace xs i
place [] i l = absurd (omega (arith, l))
place (x ∷ xs) zero l = record { x = x; is = refl; upto = refl }
place (x ∷ xs) (suc i) l =
    let n = place xs i (omega (arith, l)) in
    record { x = n.x; is = n.is ∙ ap (λ m. n.x ∷ drop m (x ∷ xs)) (sym (up i)); upto = ap (λ m. take m (x ∷ xs)) (up i) ∙ ap (λ ys. x ∷ ys) n.upto }

all-of : {A : Type 0} (xs : List A) (i : ℕ) → length xs ≤ i → (take i xs ≡ xs) × (drop i xs ≡ [])
all-of [] zero l = (refl, refl)
all-of [] (suc i) l = (refl, refl)
all-of (x ∷ xs) zero l = absurd (omega (arith, l))
all-of (x ∷ xs) (suc i) l =
    let r = all-of xs i (omega (arith, l)) in
    (ap (λ ys. x ∷ ys) r.0, r.1)

-- ---- within an edit
abbrev pub GivesUpTo : TreeOwn → TreeOwn → ℕ → ℕ → Resent → Type 0
GivesUpTo s now count i again = (low last : ℕ) (doc : Document) (front mine rest : List Stage) → length mine ≡ count → are_of_one_edit (map own_stage mine) ≡ true
    → GivesTree s low last doc front (mine ++ rest) → GivesEdit now low last doc front (take i mine) (drop i mine ++ rest) again

taken-few : (i : ℕ) (ts : List Stage) → length (take i ts) ≤ i
taken-few zero ts = omega arith
taken-few (suc i) [] = omega arith
taken-few (suc i) (t ∷ ts) =
    let r = taken-few i ts in
    omega (arith, r)

all-taken : (kind : OwnStage → Bool) (i : ℕ) (ts : List Stage) → list_all kind (map own_stage ts) ≡ true → list_all kind (map own_stage (take i ts)) ≡ true
all-taken kind zero ts h = refl
all-taken kind (suc i) [] h = refl
all-taken kind (suc i) (t ∷ ts) h =
    let p = both (kind (own_stage t)) (list_all kind (map own_stage ts)) h in
    rw (p.0, all-taken kind i ts p.1) refl

alone-taken : (i : ℕ) (ts : List Stage) → is_alone (map own_stage ts) ≡ true → are_of_one_edit (map own_stage (take i ts)) ≡ true
alone-taken zero ts h = refl
alone-taken (suc i) [] h = refl
alone-taken (suc zero) (t ∷ []) h = single t
alone-taken (suc (suc i)) (t ∷ []) h = single t
alone-taken (suc i) (t ∷ u ∷ ts) h = (cc)

one-taken : (i : ℕ) (ts : List Stage) → are_of_one_edit (map own_stage ts) ≡ true → are_of_one_edit (map own_stage (take i ts)) ≡ true
one-taken i ts h =
    step (list_all (λ (u : OwnStage). is_elements_part u.part) (map own_stage ts))
    (list_all (λ (u : OwnStage). is_grid_part u.part) (map own_stage ts)) (is_alone (map own_stage ts))
    refl refl refl h
  where
    step : (a b c : Bool) → list_all (λ (u : OwnStage). is_elements_part u.part) (map own_stage ts) ≡ a
        → list_all (λ (u : OwnStage). is_grid_part u.part) (map own_stage ts) ≡ b
        → is_alone (map own_stage ts) ≡ c → a || (b || c) ≡ true → are_of_one_edit (map own_stage (take i ts)) ≡ true
    step true b c e f g k = rw (all-taken (λ (u : OwnStage). is_elements_part u.part) i ts e) refl
    step false true c e f g k =
        rw (all-taken (λ (u : OwnStage). is_grid_part u.part) i ts f) (either (list_all (λ (u : OwnStage). is_elements_part u.part) (map own_stage (take i ts))))
      where
        either : (d : Bool) → d || true ≡ true
        either true = refl
        either false = refl
    step false false true e f g k = alone-taken i ts g
    step false false false e f g k = (cc)

pub none-given : (s : TreeOwn) (count : ℕ) → GivesUpTo s s count 0 (record { op = None; stages = 0 })
none-given s count = λ low last doc front mine rest n one g. record {
  tree = subst (λ us. GivesTree s low last doc us (mine ++ rest)) (sym (append-nil front)) g;
  again = refl;
}

module _ (s now : TreeOwn) (count i : ℕ) (again : Resent) (l : i < count) (u : GivesUpTo s now count i again) where
  pub next-given : count < 2 ^ 64 → GivesSome s count → GivesNext now again
  next-given fits k =
      let p = place k.mine i (subst (λ n. i < n) (sym k.counted) l) in
      record {
        low = k.low;
        last = k.last;
        doc = k.doc;
        front = k.front;
        mine = take i k.mine;
        t = p.x;
        rest = drop (i + 1) k.mine ++ k.rest;
        one = subst (λ ts. are_of_one_edit (map own_stage ts) ≡ true) p.upto (one-taken (i + 1) k.mine k.one);
        few = under (length (take i k.mine)) (taken-few i k.mine);
        gives = subst (λ us. GivesEdit now k.low k.last k.doc k.front (take i k.mine) (us ++ k.rest) again) p.is
            (u k.low k.last k.doc k.front k.mine k.rest k.counted k.one k.gives);
      }
    where
      under : (n : ℕ) → n ≤ i → n + 1 < 2 ^ 64
      under n m = omega (arith, l, fits, m)

  pub up-to-next : (new : TreeOwn) (v : Resent)
      → ((low last : ℕ) (doc : Document) (front mine : List Stage) (t : Stage) (rest : List Stage) → are_of_one_edit (map own_stage (mine ++ t ∷ [])) ≡ true
      → GivesEdit now low last doc front mine (t ∷ rest) again → GivesEdit new low last doc front (mine ++ t ∷ []) rest v) → GivesUpTo s new count (i + 1) v
  up-to-next new v f = λ low last doc front mine rest n one g.
      let p = place mine i (subst (λ m. i < m) (sym n) l) in
      subst (λ us. GivesEdit new low last doc front us (drop (i + 1) mine ++ rest) v) (sym p.upto)
      (f low last doc front (take i mine) p.x (drop (i + 1) mine ++ rest) (subst (λ ts. are_of_one_edit (map own_stage ts) ≡ true) p.upto (one-taken (i + 1) mine one))
      (subst (λ us. GivesEdit now low last doc front (take i mine) (us ++ rest) again) p.is (u low last doc front mine rest n one g)))

pub all-given : (s now : TreeOwn) (count i : ℕ) (again : Resent) → count ≤ i → GivesUpTo s now count i again
    → (low last : ℕ) (doc : Document) (front mine rest : List Stage) → length mine ≡ count → are_of_one_edit (map own_stage mine) ≡ true
    → GivesTree s low last doc front (mine ++ rest)
    → GivesEdit now low last doc front mine rest again
all-given s now count i again l u = λ low last doc front mine rest n one g.
    let a = all-of mine i (subst (λ m. m ≤ i) (sym n) l) in
    subst (λ us. GivesEdit now low last doc front us rest again) a.0
    (subst (λ us. GivesEdit now low last doc front (take i mine) (us ++ rest) again) a.1 (u low last doc front mine rest n one g))

-- ---- edit by edit
abbrev pub flat : List (List Stage) → List Stage
flat edits = flat_map (λ stages. stages) edits

record IsNextEdit (edits : List (List Stage)) (i k : ℕ) : Type 0 where
  pub mine : List Stage
  pub is : drop i edits ≡ mine ∷ drop (i + 1) edits
  pub upto : take (i + 1) edits ≡ take i edits ++ mine ∷ []
  pub counted : length mine ≡ k

next-edit : (edits : List (List Stage)) (i k : ℕ) (ks : List ℕ) → drop i (map (λ stages. length stages) edits) ≡ k ∷ ks → IsNextEdit edits i k
next-edit [] zero k ks d = (cc)
next-edit [] (suc i) k ks d = (cc)
next-edit (t ∷ edits) zero k ks d = record { mine = t; is = refl; upto = refl; counted = same-first (length t) k (map (λ stages. length stages) edits) ks d }
  where
    same-first : (x y : ℕ) (xs ys : List ℕ) → x ∷ xs ≡ y ∷ ys → x ≡ y
    same-first x y xs ys h = (cc)
next-edit (t ∷ edits) (suc i) k ks d =
    let n = next-edit edits i k ks d in
    record { mine = n.mine; is = n.is ∙ ap (λ m. n.mine ∷ drop m (t ∷ edits)) (sym (up i)); upto = ap (λ m. take m (t ∷ edits)) (up i) ∙ ap (λ us. t ∷ us) n.upto; counted = n.counted }

abbrev pub GivesEach : TreeOwn → TreeOwn → List ℕ → ℕ → List Resent → Type 0
GivesEach s now counts i again = (low last : ℕ) (doc : Document) (edits : List (List Stage)) → map (λ stages. length stages) edits ≡ counts
    → list_all (λ stages. are_of_one_edit (map own_stage stages)) edits ≡ true → GivesTree s low last doc [] (flat edits)
    → (again ≡ map (resent doc) (take i edits)) × GivesTree now low last doc (flat (take i edits)) (flat (drop i edits))

one-ahead : (edits : List (List Stage)) (i : ℕ) (mine : List Stage) (rest : List (List Stage))
    → list_all (λ stages. are_of_one_edit (map own_stage stages)) edits ≡ true
    → drop i edits ≡ mine ∷ rest → are_of_one_edit (map own_stage mine) ≡ true
one-ahead [] zero mine rest h d = (cc)
one-ahead [] (suc i) mine rest h d = (cc)
one-ahead (t ∷ edits) zero mine rest h d =
    let same : t ≡ mine = (cc) in
    subst (λ ts. are_of_one_edit (map own_stage ts) ≡ true) same
    (both (are_of_one_edit (map own_stage t)) (list_all (λ (ts : List Stage). are_of_one_edit (map own_stage ts)) edits) h).0
one-ahead (t ∷ edits) (suc i) mine rest h d =
    one-ahead edits i mine rest (both (are_of_one_edit (map own_stage t)) (list_all (λ (ts : List Stage). are_of_one_edit (map own_stage ts)) edits) h).1 d

resent-more : (doc : Document) (es fs : List (List Stage)) → map (resent doc) (es ++ fs) ≡ map (resent doc) es ++ map (resent doc) fs
resent-more doc [] fs = refl
resent-more doc (e ∷ es) fs = ap (λ xs. resent doc e ∷ xs) (resent-more doc es fs)

module _ (s now : TreeOwn) (counts : List ℕ) (i k : ℕ) (ks : List ℕ) (again : List Resent) (d : drop i counts ≡ k ∷ ks)
    (u : GivesEach s now counts i again) where
  pub edit-given : GivesEdits s counts → GivesSome now k
  edit-given g =
      let n = next-edit g.edits i k ks (ap (drop i) g.counted ∙ d) in
      record {
        low = g.low;
        last = g.last;
        doc = g.doc;
        front = flat (take i g.edits);
        mine = n.mine;
        rest = flat (drop (i + 1) g.edits);
        counted = n.counted;
        one = one-ahead g.edits i n.mine (drop (i + 1) g.edits) g.each n.is;
        gives = subst (λ es. GivesTree now g.low g.last g.doc (flat (take i g.edits)) (flat es)) n.is (u g.low g.last g.doc g.edits g.counted g.each g.gives).1;
      }

  pub each-next : (new : TreeOwn) (v : Resent) → ((low last : ℕ) (doc : Document) (front mine rest : List Stage) → length mine ≡ k → are_of_one_edit (map own_stage mine) ≡ true
      → GivesTree now low last doc front (mine ++ rest) → GivesEdit new low last doc front mine rest v) → GivesEach s new counts (i + 1) (again ++ v ∷ [])
  each-next new v f = λ low last doc edits e one g.
      let n = next-edit edits i k ks (ap (drop i) e ∙ d) in
      let h = u low last doc edits e one g in
      let r = f low last doc (flat (take i edits)) n.mine (flat (drop (i + 1) edits)) n.counted (one-ahead edits i n.mine (drop (i + 1) edits) one n.is)
      (subst (λ es. GivesTree now low last doc (flat (take i edits)) (flat es)) n.is h.1) in (
        ap (λ xs. xs ++ v ∷ []) h.0 ∙ ap (λ x. map (resent doc) (take i edits) ++ x ∷ []) r.again
            ∙ sym (ap (map (resent doc)) n.upto ∙ resent-more doc (take i edits) (n.mine ∷ [])),
        subst (λ us. GivesTree new low last doc us (flat (drop (i + 1) edits)))
            (sym (ap flat n.upto ∙ flat_map-append (λ stages. stages) (take i edits) (n.mine ∷ []) ∙ ap (λ us. flat (take i edits) ++ us) (append-nil n.mine))) r.tree,
      )

counted-edits : (edits : List (List Stage)) → length (map (λ stages. length stages) edits) ≡ length edits
counted-edits [] = refl
counted-edits (e ∷ edits) = ap suc (counted-edits edits)

pub edits-given : (s now : TreeOwn) (counts : List ℕ) (i : ℕ) (again : List Resent) → length counts ≤ i → GivesEach s now counts i again
    → (low last : ℕ) (doc : Document) (edits : List (List Stage)) → map (λ stages. length stages) edits ≡ counts
    → list_all (λ stages. are_of_one_edit (map own_stage stages)) edits ≡ true
    → GivesTree s low last doc [] (flat edits) → (again ≡ map (resent doc) edits) × GivesTree now low last doc (flat edits) []
edits-given s now counts i again l u = λ low last doc edits e one g.
    let a = all-of edits i (subst (λ n. n ≤ i) (sym (ap length e) ∙ counted-edits edits) l) in
    let h = u low last doc edits e one g in (
      h.0 ∙ ap (map (resent doc)) a.0,
      subst (λ us. GivesTree now low last doc us []) (ap flat a.0) (subst (λ es. GivesTree now low last doc (flat (take i edits)) (flat es)) a.1 h.1),
    )

pub count-ahead : (counts : List ℕ) (i d : ℕ) → i < length counts → drop i counts ≡ slice_index_or counts i d ∷ drop (i + 1) counts
count-ahead counts i d l =
    let up : suc i ≡ i + 1 = omega arith in
    drop-cons counts i d l ∙ ap (λ n. get_or counts i d ∷ drop n counts) up
