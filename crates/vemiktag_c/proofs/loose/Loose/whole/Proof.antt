-- The parts and what they own are handed to `from_raw`.
use Rattle.vemiktag_c.proofs.Steps.{◌≡◌, List, [], ◌∷◌, ◌++◌, refl, sym, ap, ◌∙◌, subst, proved_at, both, ftrue, fsep, flft, Val, vstruct, fact, tables, ‵, raw, ◌⊛◌, some, later, ◌$◌, ◌∵◌, !, qed, done, move, drop, use1, split, split3, join, fsplit, fjoin, fpick, feq_i, feq_l, pick, await, rewrite, suffices, id⊢, whole, sub, stop, fld, no_more, and_then, of_opd, first, blocks, exec, returns, enter, alloc_all, pass_all, free_all, look_at, get, get_in, sets, lands_last, env, no, RattleType, ptr_val, rawptr_Lawful, plain, nothing, heard, only, calls_at_last, triple_of, Stays, walk_of, says, stay_dropped, ends_at}
use lib.Dec.{T as IsSo}
use mir.Syntax.{Fn, Args, Body, Dict, a_type, dcons, dnil, place, copy, assign, rv_opd, seq, return}
use mir.MapTy.{inst_fn}
use mir.Val.{has_ty, WT, of_list}
use prog.Wp.{WpFn}
use contract.BorrowLft.{◌⊑◌}
use types.Kit.{Item, at_ret, prop, regoal}
use denote.Param.{bounded, param, layout}
use denote.Param.Laws.{Laws, param_laws}
use denote.Triple.Clauses.{Ended}
use denote.Triple.Table.{framed}
use Rattle.core.specs.declared.alloc.Allocator.{Ghosts}
use Rattle.core.proofs.alloc.Calls.{Al, Goes-blank, handle_tells}
use Rattle.std_alloc.specs.contracts.boxed.Box as Box
use Rattle.std_alloc.proofs.boxed.Box.TheLaws as box
use Rattle.std_alloc.specs.contracts.boxed.Box.from_raw as g
use Rattle.std_alloc.proofs.boxed.Box.from_raw.Met as closed
use Rattle.vemiktag_c.specs.contracts.loose.Loose as Loose
use Rattle.vemiktag_c.specs.contracts.loose.Loose.whole as f
use Rattle.vemiktag_c.proofs.loose.Loose.whole.Statement.{statement}
use Rattle.vemiktag_c.proofs.loose.Loose.whole.Code as code

-- what runs behind the call
abbrev rest : Body
rest = seq (assign (place 0 []) (rv_opd (copy (place 4 [])))) return

module _ (X Z : RattleType) (LX : Laws X) (LZ : Laws Z) (frees : Ghosts Z.Denot) (d dd : Dict) where
  abbrev args : Args
  args = bounded (a_type ∷ a_type ∷ []) (X, (Z, tt)) (dcons d (dcons dd dnil))

  abbrev body : Fn
  body = inst_fn args code.function

  abbrev ended : Ended
  ended = f.ended X Z frees d dd

  abbrev B : RattleType
  B = Box.the_row (param 0 X) (param 1 Z) frees

  abbrev L : RattleType
  L = Loose.the_row (param 0 X) (param 1 Z) frees

  abbrev stayed : Stays ended.signature.params ended.kept
  stayed = (stay_dropped (plain (λ _. L)) no, tt)

  -- an allocator, and a box, each as something that is one machine value
  abbrev allocator : Al
  allocator = record { row = Z; laws = LZ; g = frees; d = d; drops = dd }

  abbrev boxed : Al
  boxed = record { row = B; laws = box.the_row_laws (param 0 X) (param 1 Z) frees (param_laws 0 X LX) (param_laws 1 Z LZ); g = record { dealloc_token = λ a τ p. ftrue }; d = d; drops = dd }

pub whole_spec : {M : Type 1} → statement M
whole_spec 𝓤 𝓛 𝓜 𝓡 wired X Z LX LZ frees d dd allocates frees_it =
    let c = f.clauses X Z frees d dd 𝓛 𝓜.mem 𝓡.returns in let 𝓣 = tables 𝓤 𝓛.H 𝓜 𝓡 𝓡.env in
    let T = ended X Z LX LZ frees d dd in let hs = stayed X Z LX LZ frees d dd in let W = walk_of 𝓛 T hs c in
    let fn = body X Z LX LZ frees d dd in
    let G = triple_of 𝓛 (g.signature X Z frees d dd) (g.spec X Z frees d dd 𝓛 𝓜.mem 𝓡.returns) in
    proved_at 𝓛 T hs c 𝓜 𝓡 (Goes-blank 𝓛 2 (plain (λ _. L X Z LX LZ frees d dd)) no (λ κs x w. tt), tt)
    (f.Key.name (args X Z LX LZ frees d dd)) fn (code.unfolded 𝓤 𝓛.H 𝓜 𝓡 wired (X, (Z, tt)) d dd) (λ y are.
    let κs = y.0.0 in let qs = y.0.1 in let l = y.0.3.0 in
    let tokens : Item 𝓤 = ‵ (flft κs.0 qs.0) ⊛ ‵ (flft κs.1.0 qs.1.0) ⊛ ‵ ftrue in
    let alive : Item 𝓤 = raw (fact 𝓤 (κs.0 ⊑ X.lives)) ⊛ raw (fact 𝓤 (κs.1.0 ⊑ Z.lives)) ⊛ ‵ ftrue in
    let R = B X Z LX LZ frees d dd in
    qed 𝓛 ((tokens ⊛ ‵ ((L X Z LX LZ frees d dd).own_val l y.0.4.0) ⊛ ‵ ftrue) ∷ alive ∷ []) ∵ split ! $ move ! (1 ∷ []) $ split ! $ fsplit ! $
    fpick ! (λ vss. fsplit ! $ feq_l ! (λ struct_is. fsplit ! $ feq_l ! (λ at_is. fsplit ! $
    handle_tells (allocator X Z LX LZ frees d dd) ! l.alloc vss.1.0 (λ low alloc_is fit. move ! (1 ∷ 3 ∷ []) $ drop ! $ drop ! $
    -- [the allocator; what the box owned; the tokens; what lives]
    regoal ! (λ (vs : List Val). prop (WpFn 𝓤 𝓛.H 𝓣.C 𝓣.Λ fn (vs ++ []) (W.post y))) (struct_is ∙ (λ j. vstruct (of_list (at_is j ++ (alloc_is j ++ []))) ∷ [])) refl $
    let pointer = ((rawptr_Lawful 𝓛).typed l.at _ refl).0 in
    enter ! _ _ _ _ _ $ alloc_all ! (λ s. pass_all ! refl ((both _ _ pointer.0 (both _ _ fit.0 tt), (pointer.1, (fit.1, tt))), tt) $
    sets ! (of_opd ! (get_in ! (fld ! refl (stop !)) (sub ! 0 refl (whole !)))) refl pointer $
    sets ! (of_opd ! (get_in ! (fld ! refl (stop !)) (sub ! 1 refl (whole !)))) refl fit $
    first ! $ blocks ! $ sets ! (of_opd ! (get ! refl)) refl fit $
    move ! (3 ∷ []) $ split3 ! $ move ! (1 ∷ 4 ∷ []) $ join ! $ move ! (1 ∷ 0 ∷ []) $ join ! $
    -- [what the call requires; nothing; the allocator; the tokens]
    move ! (1 ∷ []) $ feq_i ! (List Val) (ptr_val l.at ∷ []) (ptr_val l.at ∷ []) refl $ fjoin ! $ move ! (2 ∷ 0 ∷ []) $ fjoin ! $
    let z : G.Ghost = ((κs, qs, tt, (l.alloc, (l.at, tt)), (low ∷ [], (ptr_val l.at ∷ [], tt))), l.value) in
    move ! (2 ∷ 0 ∷ []) $ join ! $ join ! $ use1 𝓛 (raw (G.pre z)) (id⊢ 𝓤 _) $
    calls_at_last ! (framed 𝓤 𝓛.H 𝓜 𝓣) G (closed.met 𝓤 𝓛 𝓜 𝓡 (code.calls-std_alloc::boxed::Box::from_raw 𝓡.env wired) X Z LX LZ frees d dd allocates frees_it) z
    (and_then ! (get ! refl) (and_then ! (get ! refl) (no_more !))) (λ u.
    use1 𝓛 (later (some (λ (r : R.Denot). (tokens ⊛ ‵ (R.own_val r (u ∷ []))) ⊛
    some (λ (_ : Unit {0} × (Unit {0} × Unit {0})). ‵ (fsep ftrue (fsep ftrue ftrue)) ⊛ (raw (fact 𝓤 (r.value ≡ l.value)) ⊛ raw (fact 𝓤 (r.alloc ≡ l.alloc))))))) (id⊢ 𝓤 _) $
    await ! tt $ pick ! (λ r. split ! $ move ! (1 ∷ []) $ pick ! (λ _. split3 ! $ drop ! $ heard ! (r.value ≡ l.value) (λ same. drop ! $ split ! $ move ! (1 ∷ []) $
    handle_tells (boxed X Z LX LZ frees d dd) ! r (u ∷ []) (λ w one fits. rewrite ! 0 (λ (vs : List Val). ‵ (R.own_val r vs)) (sym one) refl $
    -- [the box; the tokens]
    let ok : IsSo (has_ty (layout R) u) × WT u = subst (λ (v : Val). IsSo (has_ty (layout R) v) × WT v) (sym (ap only one)) fits in
    lands_last ! refl ok $ exec ! 𝓣.C 𝓣.Λ (env fn.locals s) rest (at_ret (env fn.locals s) (W.post y)) $
    sets ! (of_opd ! (get ! refl)) refl ok $ returns ! (look_at ! 0 refl) $ free_all ! refl $
    suffices ! _ (ends_at 𝓛 T hs c y u r ((tt, (tt, tt)), tt) (tt, tt)) $ says ! same $
    nothing ! $ nothing ! $ fjoin ! $ join ! $ move ! (1 ∷ 0 ∷ []) $ join ! $ done !)))))))))))
