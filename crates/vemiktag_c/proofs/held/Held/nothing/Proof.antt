-- A null pointer and an allocator make a handle that owns no run.
use Rattle.vemiktag_c.proofs.Steps.{[], ◌∷◌, List, refl, None, lit<, w64, proved, ftrue, Val, vint, vstruct, vcons, vnil, ‵, ◌⊛◌, ◌$◌, ◌∵◌, !, qed, done, move, drop, use1, split, join, fjoin, fpack, feq_i, suffices, id⊢, agg, no_more, and_then, lit, returns, enter, alloc_all, pass_all, free_all, look_at, get, sets, yes, Valss, null_ptr, ptr_val, plain, nothing, Stays, walk_of, says, stay_dropped, Goes-dropped, ends_at}
use denote.Struct.Struct.{within}
use denote.Struct.Owning.{fields, shape, to}
use Rattle.std_heap.specs.contracts.Global as Heap
use Rattle.std_heap.proofs.Global.TheLaws as heap
use Rattle.vemiktag_c.specs.contracts.held.Held as Held
use Rattle.vemiktag_c.specs.contracts.held.Held.nothing as f
use Rattle.vemiktag_c.proofs.held.Held.nothing.Statement.{statement}
use Rattle.vemiktag_c.proofs.held.Held.nothing.Code as code

abbrev stayed : Stays f.ended.signature.params f.ended.kept
stayed = (stay_dropped (plain (λ _. Heap.the_row)) yes, tt)

pub nothing_spec : {M : Type 1} → statement M
nothing_spec 𝓤 𝓛 𝓜 𝓡 wired =
    let c = f.clauses 𝓛 𝓜.mem 𝓡.returns in let W = walk_of 𝓛 f.ended stayed c in
    proved 𝓛 f.ended stayed c 𝓜 𝓡 (Goes-dropped 𝓛 0 (plain (λ _. Heap.the_row)) yes (λ κs x w. refl), tt)
    f.Key.name code.function (code.unfolded 𝓤 𝓛.H 𝓜 𝓡 wired)
    (λ κs. ((λ a. heap.the_told.val a ∷ []), tt)) (λ κs. (heap.the_told.tells, tt)) (λ κs qs bounds a _ are.
    let alloc = a.0 in let low = heap.the_told.val alloc in
    let y : W.Ghost = ((κs, qs, bounds, a, (low ∷ [], tt)), tt) in
    let made : Held.the_row.Denot = record { at = null_ptr; alloc = alloc; run = None } in
    let w : Val = vstruct (vcons (vint w64 0) (vcons low vnil)) in
    qed 𝓛 ((‵ ftrue ⊛ ‵ (Heap.the_row.own_val alloc (low ∷ [])) ⊛ ‵ ftrue) ∷ ‵ ftrue ∷ []) ∵ split ! $ drop ! $ split ! $ move ! (2 ∷ []) $ drop ! $
    -- [what the allocator owns; nothing]
    enter ! _ _ _ _ _ $ alloc_all ! (λ s. pass_all ! refl ((tt, ((tt, tt), tt)), tt) $
    sets ! (agg ! (and_then ! (lit ! tt) (and_then ! (get ! refl) (no_more !)))) refl (tt, (record { fits = lit< tt }, (((tt, tt), tt), tt))) $
    returns ! (look_at ! 0 refl) $ free_all ! refl $
    fjoin ! $ feq_i ! (List Val) (ptr_val null_ptr ∷ []) (ptr_val null_ptr ∷ []) refl $ fjoin ! $ feq_i ! (List Val) (w ∷ []) (w ∷ []) refl $ fjoin ! $
    fpack ! (Valss (fields Held.the_type)) (within (shape Held.the_type) (to Held.the_type made) (w ∷ [])) (ptr_val null_ptr ∷ [], (low ∷ [], tt)) $
    nothing ! $ move ! (1 ∷ 0 ∷ []) $ fjoin ! $ use1 𝓛 (‵ (Held.the_row.own_val made (w ∷ []))) (id⊢ 𝓤 _) $
    suffices ! _ (ends_at 𝓛 f.ended stayed c y w made (tt, tt) (tt, tt)) $ says ! refl $
    nothing ! $ nothing ! $ fjoin ! $ join ! $ nothing ! $ join ! $ done !))
