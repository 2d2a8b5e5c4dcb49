-- Runs of equal properties, made leaf by leaf: the last one so far may still go on.
use Rattle.std.proofs.Common.{◌≡◌, ℕ, ◌+◌, Bool, true, false, cond, ◌&&◌, nat_eq, List, [], ◌∷◌, ◌++◌, Option, refl, sym, ◌∙◌, ap, arith, length, append_assoc}
use Rattle.std.proofs.lemmas.Bool.Decides.{nat_tests}
use Rattle.ft_base.specs.declared.elements.Element.{Element as ElementStamps}
use Rattle.ft_base.specs.declared.stamps.Stamp.{Stamp}
use Rattle.ft_tree_leaves.specs.Elements.{elements_with}
use Rattle.ft_msg.specs.declared.views.Run.{Run}
use Rattle.ft_msg.specs.Content.{extended_property_runs}
use Rattle.ft_props.specs.Element.{ElementContent}
use Rattle.ft_props.specs.Overlay.{OverlayState, shown_of}
use Rattle.ft_props.specs.Properties.{PropertyList}
use Rattle.ft_sumdoc.specs.WellFormed.{same_props}
use Rattle.ft_base.proofs.Booleans.{both}
use Rattle.ft_text.specs.Texts.{TextElements}
use Rattle.ft_text.specs.Shows.{continued, runs_of, with_properties, with_run}
use Rattle.ft_marks.proofs.SameStamps.{same_props-Decides}

-- ---- a run with those behind it

-- it begins where the run does, and has its properties
pub record BeginsWith (r : Run) (all : List Run) : Type 0 where
  pub first : Run
  pub rest : List Run
  pub is : all ≡ first ∷ rest
  pub start : first.start ≡ r.start
  pub props : first.props ≡ r.props

begins : (r : Run) (more : List Run) → BeginsWith r (with_run r more)
begins r [] = record { first = r; rest = []; is = refl; start = refl; props = refl }
begins r (s ∷ runs) = step (nat_eq s.start r.end && same_props s.props r.props) refl
  where
    step : (b : Bool) → (nat_eq s.start r.end && same_props s.props r.props) ≡ b → BeginsWith r (cond b (record s { start = r.start } ∷ runs) (r ∷ s ∷ runs))
    step true h =
        let same = (both (nat_eq s.start r.end) (same_props s.props r.props) h).1 in
        record { first = record s { start = r.start }; rest = runs; is = refl; start = refl; props = (same_props-Decides s.props r.props).0 same }
    step false h = record { first = r; rest = s ∷ runs; is = refl; start = refl; props = refl }

self-number : (n : ℕ) → nat_eq n n ≡ true
self-number n = grind (arith, nat_tests)

itself : (n : ℕ) (ps : PropertyList) → (nat_eq n n && same_props ps ps) ≡ true
itself n ps = rw (self-number n, (same_props-Decides ps ps).1 refl) refl

-- two runs side by side with the same properties are one
pub joined : (a b c : ℕ) (ps : PropertyList) (more : List Run)
    → with_run (record { start = a; end = b; props = ps }) (with_run (record { start = b; end = c; props = ps }) more)
    ≡ with_run (record { start = a; end = c; props = ps }) more
joined a b c ps [] = ap (λ t. cond t (record { start = a; end = c; props = ps } ∷ []) (record { start = a; end = b; props = ps } ∷ record { start = b; end = c; props = ps } ∷ [])) (itself b ps)
joined a b c ps (s ∷ runs) = step (nat_eq s.start c && same_props s.props ps) refl
  where
    step : (t : Bool) → (nat_eq s.start c && same_props s.props ps) ≡ t
        → with_run (record { start = a; end = b; props = ps }) (cond t (record s { start = b } ∷ runs) (record { start = b; end = c; props = ps } ∷ s ∷ runs))
        ≡ cond t (record s { start = a } ∷ runs) (record { start = a; end = c; props = ps } ∷ s ∷ runs)
    step true h =
        let same = (both (nat_eq s.start c) (same_props s.props ps) h).1 in
        ap (λ t. cond t (record s { start = a } ∷ runs) (record { start = a; end = b; props = ps } ∷ record s { start = b } ∷ runs))
        (ap (λ t. t && same_props s.props ps) (self-number b) ∙ same)
    step false h =
        ap (λ t. cond t (record { start = a; end = c; props = ps } ∷ s ∷ runs) (record { start = a; end = b; props = ps } ∷ record { start = b; end = c; props = ps } ∷ s ∷ runs)) (itself b ps)

-- two that don't touch, or have other properties, aren't
pub apart : (l r : Run) (more : List Run) → (nat_eq r.start l.end && same_props r.props l.props) ≡ false → with_run l (with_run r more) ≡ l ∷ with_run r more
apart l r more h =
    let b = begins r more in
    ap (with_run l) b.is
    ∙ ap (λ t. cond t (record b.first { start = l.start } ∷ b.rest) (l ∷ b.first ∷ b.rest))
    (ap (λ n. nat_eq n l.end && same_props b.first.props l.props) b.start ∙ ap (λ ps. nat_eq r.start l.end && same_props ps l.props) b.props ∙ h)
    ∙ ap (λ rs. l ∷ rs) (sym b.is)

-- ---- runs so far

pub continued-last : (runs : List Run) (last : Run) (more : List Run) → continued (runs ++ last ∷ []) more ≡ runs ++ with_run last more
continued-last [] last more = refl
continued-last (r ∷ []) last more = refl
continued-last (r ∷ s ∷ runs) last more = ap (λ rs. r ∷ rs) (continued-last (s ∷ runs) last more)

pub continued-end : (runs : List Run) → continued runs [] ≡ runs
continued-end [] = refl
continued-end (r ∷ []) = refl
continued-end (r ∷ s ∷ runs) = ap (λ rs. r ∷ rs) (continued-end (s ∷ runs))

filled-run : (start end : ℕ) (props : PropertyList) (more : List Run) → (props ≡ [] → ⊥)
    → with_properties start end props more ≡ with_run (record { start = start; end = end; props = props }) more
filled-run start end [] more h = absurd (h refl)
filled-run start end (p ∷ ps) more h = refl

module _ (start end : ℕ) (props : PropertyList) (old new : List Run) (filled : props ≡ [] → ⊥) where
  abbrev run : Run
  run = record { start = start; end = end; props = props }

  -- a run with which the last one goes on
  pub run-joined : (rest : List Run) (last : Run) → old ≡ rest ++ last ∷ [] → last.end ≡ start → last.props ≡ props
      → new ≡ rest ++ record last { end = end } ∷ [] → (more : List Run) → continued new more ≡ continued old (with_properties start end props more)
  run-joined rest last before meets same made more =
      ap (λ rs. continued rs more) made ∙ continued-last rest (record last { end = end }) more
      ∙ ap (λ rs. rest ++ rs) (sym (ap (λ ps. with_run last (with_run (record { start = start; end = end; props = ps }) more)) (sym same)
      ∙ ap (λ n. with_run last (with_run (record { start = n; end = end; props = last.props }) more)) (sym meets)
      ∙ joined last.start last.end end last.props more))
      ∙ sym (continued-last rest last (with_run run more))
      ∙ ap (λ rs. continued rs (with_run run more)) (sym before)
      ∙ ap (continued old) (sym (filled-run start end props more filled))

  -- a run of its own
  pub run-apart : (rest : List Run) (last : Run) → old ≡ rest ++ last ∷ [] → (nat_eq start last.end && same_props props last.props) ≡ false
      → new ≡ (rest ++ last ∷ []) ++ run ∷ [] → (more : List Run) → continued new more ≡ continued old (with_properties start end props more)
  run-apart rest last before differs made more =
      ap (λ rs. continued rs more) made ∙ continued-last (rest ++ last ∷ []) run more ∙ append_assoc rest (last ∷ []) (with_run run more)
      ∙ ap (λ rs. rest ++ rs) (sym (apart last run more differs))
      ∙ sym (continued-last rest last (with_run run more))
      ∙ ap (λ rs. continued rs (with_run run more)) (sym before)
      ∙ ap (continued old) (sym (filled-run start end props more filled))

-- ---- the run of a leaf

extended : (i : ℕ) (props : PropertyList) (more : List Run) → extended_property_runs i props more ≡ with_properties i (i + 1) props more
extended i [] more = refl
extended i (p ∷ ps) [] = refl
extended i (p ∷ ps) (r ∷ runs) = refl

joins-more : (a b c : ℕ) (ps : PropertyList) (more : List Run) → with_properties a b ps (with_properties b c ps more) ≡ with_properties a c ps more
joins-more a b c [] more = refl
joins-more a b c (p ∷ ps) more = joined a b c (p ∷ ps) more

module _ (stamps : ElementStamps) (by : Option Stamp) (overlay : OverlayState) (rest : TextElements) where
  -- elements with equal properties are one run
  pub leaf-run : (i : ℕ) (u : ElementContent) (us : List ElementContent)
      → runs_of i (elements_with stamps by overlay (u ∷ us) ++ rest) ≡ with_properties i (i + length (u ∷ us)) (shown_of overlay) (runs_of (i + length (u ∷ us)) rest)
  leaf-run i u [] = extended i (shown_of overlay) (runs_of (i + 1) rest)
  leaf-run i u (v ∷ us) =
      let n : i + 1 + length (v ∷ us) ≡ i + length (u ∷ v ∷ us) = omega arith in
      extended i (shown_of overlay) (runs_of (i + 1) (elements_with stamps by overlay (v ∷ us) ++ rest))
      ∙ ap (with_properties i (i + 1) (shown_of overlay)) (leaf-run (i + 1) v us)
      ∙ joins-more i (i + 1) (i + 1 + length (v ∷ us)) (shown_of overlay) (runs_of (i + 1 + length (v ∷ us)) rest)
      ∙ ap (λ m. with_properties i m (shown_of overlay) (runs_of m rest)) n
