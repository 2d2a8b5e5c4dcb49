-- The stages of the text alone: what is known of the text with all stages is so with these.
use Rattle.std.proofs.Common.{◌≡◌, ◌≤◌, ◌<◌, ℕ, suc, Bool, true, false, cond, ◌&&◌, ◌||◌, nat_eq, List, [], ◌∷◌, ◌++◌, Option, Some, None, refl, sym, ◌∙◌, ap, arith}
use Rattle.std.specs.List.{list_all, list_any}
use Rattle.ft_base.specs.declared.stamps.Stamp.{Stamp}
use Rattle.ft_base.specs.declared.stamps.Stamp.TheVariants.{Acked, Local}
use Rattle.ft_base.specs.Visibility.{is_acked}
use Rattle.ft_base.proofs.Booleans.{both}
use Rattle.ft_op.specs.Document.{Document}
use Rattle.ft_op.specs.Intervals.{NamedElements}
use Rattle.ft_op.specs.Operation.{OnGrid, OnIntervals, OnText, SubOperation}
use Rattle.ft_op.specs.Pieces.{pieces}
use Rattle.ft_op.specs.Stages.{Stage}
use Rattle.ft_props.specs.declared.properties.Changes.{Changes}
use Rattle.ft_props.specs.Element.{ListElement}
use Rattle.ft_msg.specs.Reconnection.{carried_stage}
use Rattle.ft_laws_agreement.specs.Reconnecting.{has_insertion_of, has_marks_of, has_removal_of, inserts_text, is_stage_of, removes_text}
use Rattle.ft_laws_agreement.specs.Sequencing.{Each, IsTyped, annotates_text}
use Rattle.ft_laws_names.specs.WellNamed.{ArePutIn, AreStagesNamed, RiseTo, puts_text_in}
use Rattle.ft_laws_names.proofs.OwnAlike.{rise-lower}
use Rattle.ft_string.specs.Holds.{HoldsText, IsTextSound, element_stages, interval_stages, is_on_text}
use Rattle.ft_string.specs.State.{TextState}
use Rattle.ft_client.specs.Rejoins.{carried, text_only}
use Rattle.ft_client.proofs.Parts.{text-same}

-- ---- tests that only stages of the text pass

any-only : (test : Stage → Bool) → ((t : Stage) → test t ≡ true → is_on_text t.sub_operation ≡ true) → (ts : List Stage)
    → list_any test (text_only ts) ≡ list_any test ts
any-only test f [] = refl
any-only test f (t ∷ ts) = step (is_on_text t.sub_operation) refl (test t) refl (any-only test f ts)
  where
    step : (b : Bool) → is_on_text t.sub_operation ≡ b → (c : Bool) → test t ≡ c → list_any test (text_only ts) ≡ list_any test ts
        → list_any test (cond b (t ∷ text_only ts) (text_only ts)) ≡ test t || list_any test ts
    step true e c g ih = ap (λ d. test t || d) ih
    step false e false g ih = ih ∙ sym (ap (λ d. d || list_any test ts) g)
    step false e true g ih =
        let never : true ≡ false = sym (f t g) ∙ e in
        (cc)

numbered-kind : (kind : SubOperation → Bool) → ((o : SubOperation) → kind o ≡ true → is_on_text o ≡ true) → (b : Bool) → (t : Stage)
    → b && kind t.sub_operation ≡ true → is_on_text t.sub_operation ≡ true
numbered-kind kind f b t h = f t.sub_operation (both b (kind t.sub_operation) h).1

inserts-on : (o : SubOperation) → inserts_text o ≡ true → is_on_text o ≡ true
inserts-on (OnText op) h = refl
inserts-on (OnIntervals op) h = refl
inserts-on (OnGrid op) h = (cc)

removes-on : (o : SubOperation) → removes_text o ≡ true → is_on_text o ≡ true
removes-on (OnText op) h = refl
removes-on (OnIntervals op) h = refl
removes-on (OnGrid op) h = (cc)

annotates-on : (o : SubOperation) → annotates_text o ≡ true → is_on_text o ≡ true
annotates-on (OnText op) h = refl
annotates-on (OnIntervals op) h = refl
annotates-on (OnGrid op) h = (cc)

puts-on : (o : SubOperation) → puts_text_in o ≡ true → is_on_text o ≡ true
puts-on (OnText op) h = refl
puts-on (OnIntervals op) h = refl
puts-on (OnGrid op) h = (cc)

stage-only : (kind : SubOperation → Bool) → ((o : SubOperation) → kind o ≡ true → is_on_text o ≡ true) → (ts : List Stage) (k : ℕ)
    → is_stage_of kind (text_only ts) k ≡ is_stage_of kind ts k
stage-only kind f ts k = any-only (λ (t : Stage). nat_eq t.stage k && kind t.sub_operation) (λ t h. numbered-kind kind f (nat_eq t.stage k) t h) ts

put-only : (ts : List Stage) (xs : List ListElement) → ArePutIn puts_text_in ts xs → ArePutIn puts_text_in (text_only ts) xs
put-only ts xs h k e =
    h k (sym (any-only (λ (t : Stage). nat_eq k t.stage && puts_text_in t.sub_operation) (λ t g. numbered-kind puts_text_in puts-on (nat_eq k t.stage) t g) ts) ∙ e)

-- ---- lists of facts

named-only : (doc : Document) (ts : List Stage) → AreStagesNamed doc ts → AreStagesNamed doc (text_only ts)
named-only doc [] h = tt
named-only doc (t ∷ ts) h = step (is_on_text t.sub_operation) (named-only doc ts h.1)
  where
    step : (b : Bool) → AreStagesNamed doc (text_only ts) → AreStagesNamed doc (cond b (t ∷ text_only ts) (text_only ts))
    step true r = (h.0, r)
    step false r = r

pub rise-only : (low last : ℕ) (ts : List Stage) → RiseTo low last ts → RiseTo low last (text_only ts)
rise-only low last [] h = h
rise-only low last (t ∷ ts) h = step (is_on_text t.sub_operation) (rise-only t.stage last ts h.1)
  where
    less : low < t.stage → low ≤ t.stage
    less l = omega (arith, l)

    step : (b : Bool) → RiseTo t.stage last (text_only ts) → RiseTo low last (cond b (t ∷ text_only ts) (text_only ts))
    step true r = (h.0, r)
    step false r = rise-lower low t.stage last (text_only ts) (less h.0) r

each-only : (P : Stage → Type 0) (ts : List Stage) → Each P ts → Each P (text_only ts)
each-only P [] h = tt
each-only P (t ∷ ts) h = step (is_on_text t.sub_operation) (each-only P ts h.1)
  where
    step : (b : Bool) → Each P (text_only ts) → Each P (cond b (t ∷ text_only ts) (text_only ts))
    step true r = (h.0, r)
    step false r = r

marks-only : (ts : List Stage) (xs : List ListElement) → list_all (has_marks_of inserts_text removes_text ts) xs ≡ true
    → list_all (has_marks_of inserts_text removes_text (text_only ts)) xs ≡ true
marks-only ts [] h = refl
marks-only ts (x ∷ xs) h =
    let p = both (has_marks_of inserts_text removes_text ts x) (list_all (has_marks_of inserts_text removes_text ts) xs) h in
    rw (same ∙ p.0, marks-only ts xs p.1) refl
  where
    insertion : (s : Stamp) → has_insertion_of inserts_text (text_only ts) s ≡ has_insertion_of inserts_text ts s
    insertion (Acked r c) = refl
    insertion (Local k) = stage-only inserts_text inserts-on ts k

    removal : (o : Option ℕ) → has_removal_of removes_text (text_only ts) o ≡ has_removal_of removes_text ts o
    removal None = refl
    removal (Some k) = stage-only removes_text removes-on ts k

    same : has_marks_of inserts_text removes_text (text_only ts) x ≡ has_marks_of inserts_text removes_text ts x
    same = ap (λ i. i && has_removal_of removes_text (text_only ts) x.removal_stage && list_all is_acked x.dels) (insertion x.ins)
        ∙ ap (λ i. has_insertion_of inserts_text ts x.ins && i && list_all is_acked x.dels) (removal x.removal_stage)

noted-only : (ts : List Stage) (qs : List (ℕ × Changes)) → list_all (λ q. is_stage_of annotates_text (text_only ts) q.0) qs ≡ list_all (λ q. is_stage_of annotates_text ts q.0) qs
noted-only ts [] = refl
noted-only ts (q ∷ qs) = rw (stage-only annotates_text annotates-on ts q.0, noted-only ts qs) refl

changes-only : (ts : List Stage) (xs : List ListElement) → list_all (λ e. list_all (λ q. is_stage_of annotates_text ts q.0) e.pending) xs ≡ true
    → list_all (λ e. list_all (λ q. is_stage_of annotates_text (text_only ts) q.0) e.pending) xs ≡ true
changes-only ts [] h = refl
changes-only ts (x ∷ xs) h =
    let p = both (list_all (λ (q : ℕ × Changes). is_stage_of annotates_text ts q.0) x.pending)
    (list_all (λ (e : ListElement). list_all (λ (q : ℕ × Changes). is_stage_of annotates_text ts q.0) e.pending) xs) h in
    rw (noted-only ts x.pending ∙ p.0, changes-only ts xs p.1) refl

pub sound-only : (last : ℕ) (doc : Document) (ts : List Stage) → IsTextSound last doc ts → IsTextSound last doc (text_only ts)
sound-only last doc ts h = record {
  list = h.list;
  intervals = h.intervals;
  names = named-only doc ts h.names;
  own = put-only ts doc.text.items h.own;
  rise = rise-only 0 last ts h.rise;
  fits = h.fits;
  place = record {
    marks = marks-only ts doc.text.items h.place.marks;
    side_by_side = λ k e. h.place.side_by_side k (sym (stage-only inserts_text inserts-on ts (suc k)) ∙ e);
    distinct = h.place.distinct;
  };
  changes = changes-only ts doc.text.items h.changes;
  typed = each-only (λ t. IsTyped t.stage doc t.names t.sub_operation) ts h.typed;
  ends = h.ends;
  later = h.later;
}

-- ---- what is held

elements-only : (ts : List Stage) → element_stages (text_only ts) ≡ element_stages ts
elements-only [] = refl
elements-only (t ∷ ts) = step t.sub_operation t.names (elements-only ts)
  where
    step : (o : SubOperation) (names : NamedElements) → element_stages (text_only ts) ≡ element_stages ts
        → (let u : Stage = record { stage = t.stage; sub_operation = o; names = names } in element_stages (text_only (u ∷ ts)) ≡ element_stages (u ∷ ts))
    step (OnText op) names ih = ap (λ us. (let u : Stage = record { stage = t.stage; sub_operation = OnText op; names = names } in u) ∷ us) ih
    step (OnIntervals op) names ih = ih
    step (OnGrid op) names ih = ih

intervals-only : (ts : List Stage) → interval_stages (text_only ts) ≡ interval_stages ts
intervals-only [] = refl
intervals-only (t ∷ ts) = step t.sub_operation t.names (intervals-only ts)
  where
    step : (o : SubOperation) (names : NamedElements) → interval_stages (text_only ts) ≡ interval_stages ts
        → (let u : Stage = record { stage = t.stage; sub_operation = o; names = names } in interval_stages (text_only (u ∷ ts)) ≡ interval_stages (u ∷ ts))
    step (OnText op) names ih = ih
    step (OnIntervals op) names ih = ap (λ us. (let u : Stage = record { stage = t.stage; sub_operation = OnIntervals op; names = names } in u) ∷ us) ih
    step (OnGrid op) names ih = ih

-- stages with the same ones of the text
pub text-part : (s : TextState) (doc : Document) (ts us : List Stage) → text_only us ≡ text_only ts → HoldsText s doc ts → HoldsText s doc us
text-part s doc ts us e h = text-same doc doc s ts us refl refl (sym (elements-only us) ∙ ap element_stages e ∙ elements-only ts)
    (sym (intervals-only us) ∙ ap interval_stages e ∙ intervals-only ts) h

pub only-more : (ts us : List Stage) → text_only (ts ++ us) ≡ text_only ts ++ text_only us
only-more [] us = refl
only-more (t ∷ ts) us = grind (arith, only-more ts us)

pub only-twice : (ts : List Stage) → text_only (text_only ts) ≡ text_only ts
only-twice [] = refl
only-twice (t ∷ ts) = step (is_on_text t.sub_operation) refl (only-twice ts)
  where
    step : (b : Bool) → is_on_text t.sub_operation ≡ b → text_only (text_only ts) ≡ text_only ts
        → text_only (cond b (t ∷ text_only ts) (text_only ts)) ≡ cond b (t ∷ text_only ts) (text_only ts)
    step true e ih = rw e (ap (λ us. t ∷ us) ih)
    step false e ih = ih

-- a stage goes on as one of its own part
one-carried : (doc : Document) (t : Stage) → text_only (carried_stage doc t) ≡ carried doc (text_only (t ∷ []))
one-carried doc t = step t.stage t.sub_operation t.names
  where
    kept : (u : Stage) (ps : List SubOperation) → is_on_text u.sub_operation ≡ true
        → text_only (elim ps [ [] ↦ [] | _ ∷ _ ↦ u ∷ [] ]) ≡ elim ps as (λ _. List Stage) [ [] ↦ [] | _ ∷ _ ↦ u ∷ [] ] ++ []
    kept u [] e = refl
    kept u (p ∷ ps) e = rw e refl

    gone : (u : Stage) (ps : List SubOperation) → is_on_text u.sub_operation ≡ false → text_only (elim ps [ [] ↦ [] | _ ∷ _ ↦ u ∷ [] ]) ≡ []
    gone u [] e = refl
    gone u (p ∷ ps) e = rw e refl

    step : (k : ℕ) (o : SubOperation) (names : NamedElements)
        → (let u : Stage = record { stage = k; sub_operation = o; names = names } in text_only (carried_stage doc u) ≡ carried doc (text_only (u ∷ [])))
    step k (OnText op) names = let u : Stage = record { stage = k; sub_operation = OnText op; names = names } in kept u (pieces doc u) refl
    step k (OnIntervals op) names = refl
    step k (OnGrid op) names = let u : Stage = record { stage = k; sub_operation = OnGrid op; names = names } in gone u (pieces doc u) refl

pub only-carried : (doc : Document) (ts : List Stage) → text_only (carried doc ts) ≡ carried doc (text_only ts)
only-carried doc [] = refl
only-carried doc (t ∷ ts) =
    only-more (carried_stage doc t) (carried doc ts) ∙ ap (λ us. us ++ text_only (carried doc ts)) (one-carried doc t)
    ∙ ap (λ us. carried doc (text_only (t ∷ [])) ++ us) (only-carried doc ts)
    ∙ step (is_on_text t.sub_operation)
  where
    nil-behind : (us : List Stage) → (us ++ []) ++ carried doc (text_only ts) ≡ us ++ carried doc (text_only ts)
    nil-behind [] = refl
    nil-behind (u ∷ us) = ap (λ vs. u ∷ vs) (nil-behind us)

    step : (b : Bool) → carried doc (cond b (t ∷ []) []) ++ carried doc (text_only ts) ≡ carried doc (cond b (t ∷ text_only ts) (text_only ts))
    step true = nil-behind (carried_stage doc t)
    step false = refl
