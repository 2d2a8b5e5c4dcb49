-- The fields of a handle that has a run become those of a box that is taken apart, and what they own goes with them.
use Rattle.vemiktag_c.proofs.Steps.{[], ◌∷◌, refl, Option, IsSome, proved, Fml, ftrue, fact, ‵, raw, ◌⊛◌, ◌$◌, ◌∵◌, !, qed, done, move, drop, use1, split, join, fjoin, rewrite, suffices, id⊢, whole, sub, agg, stop, fld, no_more, and_then, of_opd, returns, enter, alloc_all, pass_all, free_all, look_at, get, get_in, sets, yes, RattleType, rawptr_Lawful, plain, nothing, heard, Stays, walk_of, says, stay_dropped, Goes-dropped, ends_at, some_of}
use Rattle.std_heap.specs.contracts.Global as Heap
use Rattle.std_heap.specs.contracts.GlobalAllocator.TheImpl.{ghosts}
use Rattle.vemiktag_c.specs.contracts.runs.ClientRun as Run
use Rattle.vemiktag_c.specs.contracts.loose.Loose as Loose
use Rattle.vemiktag_c.specs.contracts.held.Held as Held
use Rattle.vemiktag_c.proofs.held.Held.TheLaws as held
use Rattle.vemiktag_c.specs.contracts.held.Held.show as f
use Rattle.vemiktag_c.proofs.held.Held.show.Statement.{statement}
use Rattle.vemiktag_c.proofs.held.Held.show.Code as code

abbrev L : RattleType
L = Loose.the_row Run.the_row Heap.the_row ghosts

abbrev stayed : Stays f.ended.signature.params f.ended.kept
stayed = (stay_dropped (plain (λ _. Held.the_row)) yes, tt)

-- what a handle owns with this run, or with none
abbrev owned : Held.the_row.Denot → Option Run.the_row.Denot → Fml
owned h run = Held.the_row.own_val (record { at = h.at; alloc = h.alloc; run = run }) (held.lowered h ∷ [])

pub show_spec : {M : Type 1} → statement M
show_spec 𝓤 𝓛 𝓜 𝓡 wired =
    let c = f.clauses 𝓛 𝓜.mem 𝓡.returns in let W = walk_of 𝓛 f.ended stayed c in
    proved 𝓛 f.ended stayed c 𝓜 𝓡 (Goes-dropped 𝓛 0 (plain (λ _. Held.the_row)) yes (λ κs x w. refl), tt)
    f.Key.name code.function (code.unfolded 𝓤 𝓛.H 𝓜 𝓡 wired)
    (λ κs. ((λ h. held.lowered h ∷ []), tt)) (λ κs. (held.lowers.val_is, tt)) (λ κs qs bounds a _ are.
    let h = a.0 in let w = held.lowered h in
    let y : W.Ghost = ((κs, qs, bounds, a, (w ∷ [], tt)), tt) in
    let ok = (held.the_row_laws.lawful 𝓛).typed h (w ∷ []) are.0 in
    qed 𝓛 ((‵ ftrue ⊛ ‵ (owned h h.run) ⊛ ‵ ftrue) ∷ raw (fact 𝓤 (IsSome h.run)) ∷ []) ∵ move ! (1 ∷ []) $ heard ! _ (λ present.
    let run = some_of h.run present in
    let made : L.Denot = record { at = h.at; alloc = h.alloc; value = run.0 } in
    split ! $ drop ! $ split ! $ move ! (1 ∷ []) $ drop ! $ rewrite ! 0 (λ (o : Option Run.the_row.Denot). ‵ (owned h o)) run.1 refl $
    enter ! _ _ _ _ _ $ alloc_all ! (λ s. pass_all ! refl ok $
    sets ! (of_opd ! (get_in ! (fld ! refl (stop !)) (sub ! 0 refl (whole !)))) refl ((rawptr_Lawful 𝓛).typed h.at _ refl).0 $
    sets ! (of_opd ! (get_in ! (fld ! refl (stop !)) (sub ! 1 refl (whole !)))) refl (tt, ((tt, tt), tt)) $
    sets ! (of_opd ! (get ! refl)) refl ((rawptr_Lawful 𝓛).typed h.at _ refl).0 $
    sets ! (agg ! (and_then ! (get ! refl) (and_then ! (get ! refl) (no_more !)))) refl ok.0 $
    returns ! (look_at ! 0 refl) $ free_all ! refl $ use1 𝓛 (‵ (L.own_val made (w ∷ []))) (id⊢ 𝓤 _) $
    suffices ! _ (ends_at 𝓛 f.ended stayed c y w made (tt, tt) (tt, tt)) $ says ! run.1 $
    nothing ! $ nothing ! $ fjoin ! $ join ! $ nothing ! $ join ! $ done !)))
