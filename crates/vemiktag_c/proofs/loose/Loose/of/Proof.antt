-- A box is handed to `into_raw_with_allocator`, and the two parts that come back, with what the box owned, are the parts.
use Rattle.vemiktag_c.proofs.Steps.{◌≡◌, List, [], ◌∷◌, ◌++◌, refl, ap, ◌∙◌, proved_at, both, ftrue, fsep, flft, Val, vstruct, vcons, vnil, fact, tables, ‵, raw, ◌⊛◌, some, later, ◌$◌, ◌∵◌, !, qed, done, move, drop, use1, split, split3, join, fsplit, fjoin, fpack, fpick, feq_i, feq_l, pick, await, rewrite, suffices, id⊢, whole, sub, agg, stop, fld, no_more, and_then, of_opd, returns, enter, alloc_all, pass_all, free_all, look_at, get, get_in, sets, lands_as, no, RattleType, Valss, Ptr, RawPtr, ptr_val, rawptr_Lawful, plain, nothing, heard, only, calls_at, triple_of, Stays, walk_of, says, stay_dropped, ends_at}
use mir.Syntax.{Fn, Args, Dict, a_type, dcons, dnil}
use mir.MapTy.{inst_fn}
use mir.Val.{of_list}
use prog.Wp.{WpFn}
use contract.BorrowLft.{◌⊑◌}
use types.Kit.{Item, prop, regoal}
use denote.Param.{bounded, param}
use denote.Param.Laws.{Laws, param_laws}
use denote.Struct.Owning.{fields, shape, to}
use denote.Struct.Struct.{within}
use denote.Struct.Tuple.{Tuple}
use denote.Triple.Clauses.{Ended}
use denote.Triple.Table.{framed}
use Rattle.core.specs.declared.alloc.Allocator.{Ghosts}
use Rattle.core.proofs.alloc.Calls.{Al, Goes-blank, handle_tells}
use Rattle.std_alloc.specs.Box.Ownership.{box_owns}
use Rattle.std_alloc.specs.contracts.boxed.Box as Box
use Rattle.std_alloc.proofs.boxed.Box.TheLaws as box
use Rattle.std_alloc.specs.contracts.boxed.Box.into_raw_with_allocator as g
use Rattle.std_alloc.proofs.boxed.Box.into_raw_with_allocator.Met as opened
use Rattle.vemiktag_c.specs.contracts.loose.Loose as Loose
use Rattle.vemiktag_c.specs.contracts.loose.Loose.of as f
use Rattle.vemiktag_c.proofs.loose.Loose.of.Statement.{statement}
use Rattle.vemiktag_c.proofs.loose.Loose.of.Code as code

module _ (X Z : RattleType) (LX : Laws X) (LZ : Laws Z) (frees : Ghosts Z.Denot) (d dd dx : Dict) where
  abbrev args : Args
  args = bounded (a_type ∷ a_type ∷ []) (X, (Z, tt)) (dcons d (dcons dd (dcons dx dnil)))

  abbrev body : Fn
  body = inst_fn args code.function

  abbrev ended : Ended
  ended = f.ended X Z frees d dd dx

  abbrev B : RattleType
  B = Box.the_row (param 0 X) (param 1 Z) frees

  abbrev L : RattleType
  L = Loose.the_row (param 0 X) (param 1 Z) frees

  abbrev stayed : Stays ended.signature.params ended.kept
  stayed = (stay_dropped (plain (λ _. B)) no, tt)

  -- an allocator, and a box, each as something that is one machine value
  abbrev allocator : Al
  allocator = record { row = Z; laws = LZ; g = frees; d = d; drops = dd }

  abbrev boxed : Al
  boxed = record { row = B; laws = box.the_row_laws (param 0 X) (param 1 Z) frees (param_laws 0 X LX) (param_laws 1 Z LZ); g = record { dealloc_token = λ a τ p. ftrue }; d = d; drops = dd }

pub of_spec : {M : Type 1} → statement M
of_spec 𝓤 𝓛 𝓜 𝓡 wired X Z LX LZ frees d dd dx allocates frees_it drops_it =
    let c = f.clauses X Z frees d dd dx 𝓛 𝓜.mem 𝓡.returns in let 𝓣 = tables 𝓤 𝓛.H 𝓜 𝓡 𝓡.env in
    let T = ended X Z LX LZ frees d dd dx in let hs = stayed X Z LX LZ frees d dd dx in let W = walk_of 𝓛 T hs c in
    let fn = body X Z LX LZ frees d dd dx in
    let G = triple_of 𝓛 (g.signature X Z frees d dd dx) (g.spec X Z frees d dd dx 𝓛 𝓜.mem 𝓡.returns) in
    proved_at 𝓛 T hs c 𝓜 𝓡 (Goes-blank 𝓛 2 (plain (λ _. B X Z LX LZ frees d dd dx)) no (λ κs x w. tt), tt)
    (f.Key.name (args X Z LX LZ frees d dd dx)) fn (code.unfolded 𝓤 𝓛.H 𝓜 𝓡 wired (X, (Z, tt)) d dd dx) (λ y are.
    let κs = y.0.0 in let qs = y.0.1 in let v = y.0.3.0 in
    let tokens : Item 𝓤 = ‵ (flft κs.0 qs.0) ⊛ ‵ (flft κs.1.0 qs.1.0) ⊛ ‵ ftrue in
    let alive : Item 𝓤 = raw (fact 𝓤 (κs.0 ⊑ X.lives)) ⊛ raw (fact 𝓤 (κs.1.0 ⊑ Z.lives)) ⊛ ‵ ftrue in
    let R = B X Z LX LZ frees d dd dx in
    qed 𝓛 ((tokens ⊛ ‵ (R.own_val v y.0.4.0) ⊛ ‵ ftrue) ∷ alive ∷ []) ∵ split ! $ move ! (1 ∷ []) $ split ! $
    -- [the box; nothing; the tokens; what lives]
    handle_tells (boxed X Z LX LZ frees d dd dx) ! v y.0.4.0 (λ w one fits.
    regoal ! (λ (vs : List Val). prop (WpFn 𝓤 𝓛.H 𝓣.C 𝓣.Λ fn (vs ++ []) (W.post y))) one refl $
    enter ! _ _ _ _ _ $ alloc_all ! (λ s. pass_all ! refl (fits, tt) $
    sets ! (of_opd ! (get ! refl)) refl fits $
    let z : G.Ghost = ((κs, qs, tt, (v, tt), (w ∷ [], tt)), tt) in
    join ! $ move ! (1 ∷ 0 ∷ []) $ join ! $ join ! $ use1 𝓛 (raw (G.pre z)) (id⊢ 𝓤 _) $
    calls_at ! (framed 𝓤 𝓛.H 𝓜 𝓣) G (opened.met 𝓤 𝓛 𝓜 𝓡 (code.calls-std_alloc::boxed::Box::into_raw_with_allocator 𝓡.env wired) X Z LX LZ frees d dd dx allocates frees_it drops_it) z
    (and_then ! (get ! refl) (no_more !)) (λ u.
    use1 𝓛 (later (some (λ (r : Ptr × Z.Denot). (tokens ⊛ ‵ ((Tuple (RawPtr ∷ param 1 Z ∷ [])).own_val r (u ∷ []))) ⊛
    some (λ (_ : (Unit {0} × (Unit {0} × Unit {0})) × Unit {0}). ‵ (fsep (fsep ftrue (fsep ftrue ftrue)) ftrue) ⊛ (raw (fact 𝓤 (r.1 ≡ v.alloc)) ⊛ ‵ (box_owns (frees.dealloc_token v.alloc) (param 0 X) r.0 v.value)))))) (id⊢ 𝓤 _) $
    await ! tt $ pick ! (λ r. split ! $ move ! (1 ∷ []) $ pick ! (λ _. split3 ! $ drop ! $ heard ! (r.1 ≡ v.alloc) (λ same.
    move ! (1 ∷ []) $ split ! $ move ! (1 ∷ []) $ fpick ! (λ vss. fsplit ! $ feq_l ! (λ struct_is. fsplit ! $ feq_l ! (λ at_is. fsplit ! $
    rewrite ! 0 (λ (m : Z.Denot). ‵ (Z.own_val m vss.1.0)) same refl $
    handle_tells (allocator X Z LX LZ frees d dd dx) ! v.alloc vss.1.0 (λ low alloc_is fit.
    -- [the allocator; nothing; the tokens; what the box owned]
    let made : (L X Z LX LZ frees d dd dx).Denot = record { at = r.0; alloc = v.alloc; value = v.value } in
    let word : Val = vstruct (vcons (ptr_val r.0) (vcons low vnil)) in
    let pointer = ((rawptr_Lawful 𝓛).typed r.0 _ refl).0 in
    lands_as ! (ap only (struct_is ∙ (λ j. vstruct (of_list (at_is j ++ (alloc_is j ++ []))) ∷ []))) refl (both _ _ pointer.0 (both _ _ fit.0 tt), (pointer.1, (fit.1, tt))) $
    sets ! (of_opd ! (get_in ! (fld ! refl (stop !)) (sub ! 0 refl (whole !)))) refl pointer $
    sets ! (of_opd ! (get_in ! (fld ! refl (stop !)) (sub ! 1 refl (whole !)))) refl fit $
    sets ! (of_opd ! (get ! refl)) refl fit $
    sets ! (agg ! (and_then ! (get ! refl) (and_then ! (get ! refl) (no_more !)))) refl (both _ _ pointer.0 (both _ _ fit.0 tt), (pointer.1, (fit.1, tt))) $
    returns ! (look_at ! 0 refl) $ free_all ! refl $
    let parts = Loose.the_type (param 0 X) (param 1 Z) frees in
    fjoin ! $ feq_i ! (List Val) (ptr_val r.0 ∷ []) (ptr_val r.0 ∷ []) refl $ fjoin ! $ feq_i ! (List Val) (word ∷ []) (word ∷ []) refl $ fjoin ! $
    fpack ! (Valss (fields parts)) (within (shape parts) (to parts made) (word ∷ [])) (ptr_val r.0 ∷ [], (low ∷ [], tt)) $
    -- [the fields; the tokens; what the box owned]
    move ! (0 ∷ 2 ∷ []) $ fjoin ! $ use1 𝓛 (‵ ((L X Z LX LZ frees d dd dx).own_val made (word ∷ []))) (id⊢ 𝓤 _) $
    suffices ! _ (ends_at 𝓛 T hs c y word made ((tt, (tt, tt)), tt) (tt, tt)) $ says ! refl $
    nothing ! $ nothing ! $ fjoin ! $ join ! $ move ! (1 ∷ 0 ∷ []) $ join ! $ done !)))))))))))
