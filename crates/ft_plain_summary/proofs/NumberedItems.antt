-- The elements of segments and runs, as they are added one segment or run after another.
use Rattle.std.proofs.Common.{◌≡◌, ℕ, ◌+◌, List, [], ◌∷◌, ◌++◌, Option, Some, None, length, map, replicate, refl, sym, ◌∙◌, ap, append_assoc, arith, length-append}
use Rattle.std.proofs.Math.Path.{ap₂}
use Rattle.ft_base.specs.declared.stamps.Stamp.{Stamp}
use Rattle.ft_sumdoc.specs.declared.summary.RunRec.{RunRec}
use Rattle.ft_sumdoc.specs.declared.summary.SegRec.{SegRec}
use Rattle.ft_props.specs.Element.{ElementContent, GridUnit, ListElement, new_elements}
use Rattle.ft_props.specs.Properties.{PropertyList}
use Rattle.ft_marks.specs.Marks.{stamp_of}
use Rattle.ft_msg.specs.Summary.{run_items, segment_bodies, segment_items}

-- there is an element for each content
length-new_elements : (n : ℕ) (ins : Stamp) (dels : List Stamp) (by : Option Stamp) (props : PropertyList) (bs : List ElementContent)
    → length (new_elements n ins dels by props bs) ≡ length bs
length-new_elements n ins dels by props [] = refl
length-new_elements n ins dels by props (b ∷ bs) = grind (arith, length-new_elements (n + 1) ins dels by props bs)

-- a list that counts its elements counts them after more were added
pub counted-with : (n : ℕ) (ins : Stamp) (dels : List Stamp) (by : Option Stamp) (props : PropertyList) (bs : List ElementContent) (old new : List ListElement) (made : ℕ)
    → n ≡ length old → new ≡ old ++ new_elements n ins dels by props bs → made ≡ n + length bs → made ≡ length new
counted-with n ins dels by props bs old new made counted added more =
    omega (arith, length-append old (new_elements n ins dels by props bs), length-new_elements n ins dels by props bs, ap length added)

-- the elements of one segment more
pub segment_items-with : (n : ℕ) (seg : SegRec) (segs rest : List SegRec) (old new all : List ListElement) (made : ℕ)
    → rest ≡ seg ∷ segs
    → new ≡ old ++ new_elements n (stamp_of seg.ins) (map stamp_of seg.dels) (Some (stamp_of seg.by)) seg.props (segment_bodies seg.body)
    → made ≡ n + length (segment_bodies seg.body) → old ++ segment_items n rest ≡ all → new ++ segment_items made segs ≡ all
segment_items-with n seg segs rest old new all made front added more so_far =
    ap₂ (λ xs k. xs ++ segment_items k segs) added more
    ∙ append_assoc old (new_elements n (stamp_of seg.ins) (map stamp_of seg.dels) (Some (stamp_of seg.by)) seg.props (segment_bodies seg.body))
    (segment_items (n + length (segment_bodies seg.body)) segs)
    ∙ ap (λ r. old ++ segment_items n r) (sym front) ∙ so_far

-- the units of one run more
pub run_items-with : (n : ℕ) (run : RunRec) (runs rest : List RunRec) (old new all : List ListElement) (made : ℕ)
    → rest ≡ run ∷ runs → new ≡ old ++ new_elements n (stamp_of run.ins) (map stamp_of run.dels) None [] (replicate run.count GridUnit)
    → made ≡ n + run.count → old ++ run_items n rest ≡ all → new ++ run_items made runs ≡ all
run_items-with n run runs rest old new all made front added more so_far =
    ap₂ (λ xs k. xs ++ run_items k runs) added more
    ∙ append_assoc old (new_elements n (stamp_of run.ins) (map stamp_of run.dels) None [] (replicate run.count GridUnit)) (run_items (n + run.count) runs)
    ∙ ap (λ r. old ++ run_items n r) (sym front) ∙ so_far
