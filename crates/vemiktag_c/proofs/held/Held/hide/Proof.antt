-- The fields of a box that is taken apart become those of a handle, and what they own goes with them.
use Rattle.vemiktag_c.proofs.Steps.{[], ◌∷◌, refl, Some, proved, ftrue, Val, ‵, ◌⊛◌, ◌$◌, ◌∵◌, !, qed, done, move, drop, use1, split, join, fjoin, suffices, id⊢, whole, sub, agg, stop, fld, no_more, and_then, of_opd, returns, enter, alloc_all, pass_all, free_all, look_at, get, get_in, sets, yes, RattleType, rawptr_Lawful, plain, nothing, Stays, walk_of, says, stay_dropped, Goes-dropped, ends_at}
use Rattle.std_heap.specs.contracts.Global as Heap
use Rattle.std_heap.specs.contracts.GlobalAllocator.TheImpl.{ghosts}
use Rattle.std_heap.proofs.Global.TheLaws as heap
use Rattle.vemiktag_c.specs.contracts.runs.ClientRun as Run
use Rattle.vemiktag_c.proofs.runs.ClientRun.TheLaws as run
use Rattle.vemiktag_c.specs.contracts.loose.Loose as Loose
use Rattle.vemiktag_c.proofs.loose.Loose.TheLaws as loose
use Rattle.vemiktag_c.specs.contracts.held.Held as Held
use Rattle.vemiktag_c.specs.contracts.held.Held.hide as f
use Rattle.vemiktag_c.proofs.held.Held.hide.Statement.{statement}
use Rattle.vemiktag_c.proofs.held.Held.hide.Code as code

abbrev L : RattleType
L = Loose.the_row Run.the_row Heap.the_row ghosts

abbrev stayed : Stays f.ended.signature.params f.ended.kept
stayed = (stay_dropped (plain (λ _. L)) yes, tt)

-- the machine value of the box
abbrev low : L.Denot → Val
low = loose.lowered Run.the_row Heap.the_row ghosts run.the_row_laws heap.the_row_laws heap.the_told

pub hide_spec : {M : Type 1} → statement M
hide_spec 𝓤 𝓛 𝓜 𝓡 wired =
    let c = f.clauses 𝓛 𝓜.mem 𝓡.returns in let W = walk_of 𝓛 f.ended stayed c in
    let lowers = loose.lowers Run.the_row Heap.the_row ghosts run.the_row_laws heap.the_row_laws heap.the_told in
    let laws = (loose.the_row_laws Run.the_row Heap.the_row ghosts run.the_row_laws heap.the_row_laws).lawful 𝓛 in
    proved 𝓛 f.ended stayed c 𝓜 𝓡 (Goes-dropped 𝓛 0 (plain (λ _. L)) yes (λ κs x w. refl), tt)
    f.Key.name code.function (code.unfolded 𝓤 𝓛.H 𝓜 𝓡 wired)
    (λ κs. ((λ l. low l ∷ []), tt)) (λ κs. (lowers.val_is, tt)) (λ κs qs bounds a _ are.
    let l = a.0 in let w = low l in
    let y : W.Ghost = ((κs, qs, bounds, a, (w ∷ [], tt)), tt) in
    let made : Held.the_row.Denot = record { at = l.at; alloc = l.alloc; run = Some l.value } in
    let ok = laws.typed l (w ∷ []) are.0 in
    qed 𝓛 ((‵ ftrue ⊛ ‵ (L.own_val l (w ∷ [])) ⊛ ‵ ftrue) ∷ ‵ ftrue ∷ []) ∵ split ! $ drop ! $ split ! $ move ! (1 ∷ 2 ∷ []) $ drop ! $ drop ! $
    enter ! _ _ _ _ _ $ alloc_all ! (λ s. pass_all ! refl ok $
    sets ! (of_opd ! (get_in ! (fld ! refl (stop !)) (sub ! 0 refl (whole !)))) refl ((rawptr_Lawful 𝓛).typed l.at _ refl).0 $
    sets ! (of_opd ! (get_in ! (fld ! refl (stop !)) (sub ! 1 refl (whole !)))) refl (tt, ((tt, tt), tt)) $
    sets ! (of_opd ! (get ! refl)) refl ((rawptr_Lawful 𝓛).typed l.at _ refl).0 $
    sets ! (agg ! (and_then ! (get ! refl) (and_then ! (get ! refl) (no_more !)))) refl ok.0 $
    returns ! (look_at ! 0 refl) $ free_all ! refl $ use1 𝓛 (‵ (Held.the_row.own_val made (w ∷ []))) (id⊢ 𝓤 _) $
    suffices ! _ (ends_at 𝓛 f.ended stayed c y w made (tt, tt) (tt, tt)) $ says ! refl $
    nothing ! $ nothing ! $ fjoin ! $ join ! $ nothing ! $ join ! $ done !))
