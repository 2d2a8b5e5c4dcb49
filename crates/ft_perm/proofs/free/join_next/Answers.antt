use Rattle.std.proofs.Common.{◌≡◌, ◌+◌, ◌<◌, ◌++◌, Some, true, refl, sym, subst, ◌∙◌, ap, arith, suc, take, drop, length, List, get_or}
use Rattle.std.specs.Prelude.{slice_get, slice_set}
use Rattle.std.proofs.lemmas.Option.{slice_get_read}
use Rattle.ft_base.specs.Scan.{len, one_more_if}
use Rattle.ft_perm.specs.Handles.{HandleRun, in_run, joined_run, meets}
use Rattle.ft_perm.proofs.ApartRuns.{joined_apart, joined_met, joined_none}
use Rattle.ft_perm.proofs.RunCounts.{in_two, len-remove, len-set, next_first}
use Rattle.ft_perm.proofs.free.join_next.Goals.{else-i-len-via-then-i-len+then-i-len-2+else-can_join, else-i-len-via-then-i-len+else-i-len-2, else-i-len-via-else-i-len}
use Rattle.ft_perm.proofs.free.join_next.Goals as goal

pub returns-then-can_join-clause-held : goal.returns-then-can_join-clause-held
returns-then-can_join-clause-held c = λ h.
    let runs = c.args.free.now.items in
    let i = c.args.i in
    let run = c.index_mut.result.now in
    let next = c.remove-next.result in
    let left = c.remove-next.new.self.items in
    let within : i < length runs = omega arith in
    let behind : i + 1 < length runs = omega arith in
    let length_left : i < length left = omega (arith, c.remove-next.ensures.len) in
    let below : get_or left i run ≡ get_or runs i run = c.remove-next.ensures.by_index.0 i run (omega arith) in
    let found : slice_get left i ≡ Some run = slice_get_read left (length left) i run refl length_left c.index_mut.ensures.value in
    let was : slice_get runs i ≡ Some run = slice_get_read runs (length runs) i run refl within (c.index_mut.ensures.value ∙ below) in
    let first : slice_get runs i ≡ Some c.index.result.now = slice_get_read runs (length runs) i c.index.result.now refl within c.index.ensures in
    let taken : slice_get runs (i + 1) ≡ Some next = slice_get_read runs (length runs) (i + 1) next refl behind c.remove-next.ensures.value in
    let second : slice_get runs (i + 1) ≡ Some c.index-then-i-len-2.result.now =
    slice_get_read runs (length runs) (i + 1) c.index-then-i-len-2.result.now refl behind c.index-then-i-len-2.ensures in
    let same : c.index.result.now ≡ run = cc in
    let same_next : c.index-then-i-len-2.result.now ≡ next = cc in
    let met : meets run next ≡ true = sym (c.if-can_join.ensures ∙ ap (λ (r : HandleRun). meets r c.index-then-i-len-2.result.now) same ∙ ap (λ
    (r : HandleRun). meets run r) same_next) in
    let parts = in_two h run.first run.count next.count in
    let there = ap (λ (r : HandleRun). one_more_if (in_run h r) 0) (next_first run next met) in
    let joined = ap (λ (r : HandleRun). one_more_if (in_run h r) 0) c.take_in.ensures in
    let gone = len-remove (in_run h) runs (i + 1) next taken ∙ ap (λ (xs : List HandleRun). len (in_run h) xs + one_more_if (in_run h next) 0)
    (sym c.remove-next.ensures.items) in
    omega (arith, len-set (in_run h) left i run c.take_in.new.self found, gone, parts, there, joined)

pub returns-then-can_join-clause-joined : goal.returns-then-can_join-clause-joined
returns-then-can_join-clause-joined c =
    let runs = c.args.free.now.items in
    let i = c.args.i in
    let run = c.index_mut.result.now in
    let next = c.remove-next.result in
    let left = c.remove-next.new.self.items in
    let within : i < length runs = omega arith in
    let behind : i + 1 < length runs = omega arith in
    let up : i + 1 ≡ suc i = omega arith in
    let below : get_or left i run ≡ get_or runs i run = c.remove-next.ensures.by_index.0 i run (omega arith) in
    let was : slice_get runs i ≡ Some run = slice_get_read runs (length runs) i run refl within (c.index_mut.ensures.value ∙ below) in
    let first : slice_get runs i ≡ Some c.index.result.now = slice_get_read runs (length runs) i c.index.result.now refl within c.index.ensures in
    let taken : slice_get runs (i + 1) ≡ Some next = slice_get_read runs (length runs) (i + 1) next refl behind c.remove-next.ensures.value in
    let second : slice_get runs (i + 1) ≡ Some c.index-then-i-len-2.result.now =
    slice_get_read runs (length runs) (i + 1) c.index-then-i-len-2.result.now refl behind c.index-then-i-len-2.ensures in
    let same : c.index.result.now ≡ run = cc in
    let same_next : c.index-then-i-len-2.result.now ≡ next = cc in
    let met : meets run next ≡ true = sym (c.if-can_join.ensures ∙ ap (λ (r : HandleRun). meets r c.index-then-i-len-2.result.now) same ∙ ap (λ
    (r : HandleRun). meets run r) same_next) in
    let behind_next : slice_get runs (suc i) ≡ Some next = subst (λ k. slice_get runs k ≡ Some next) up taken in
    ap (λ (r : HandleRun). slice_set left i r) c.take_in.ensures
    ∙ ap (λ (xs : List HandleRun). slice_set xs i (joined_run run next)) (c.remove-next.ensures.items ∙ ap (λ k. take k runs ++ drop (suc k) runs) up)
    ∙ sym (joined_met run next runs i was behind_next met)

pub returns-else-i-len-clause-joined : goal.returns-else-i-len-clause-joined
returns-else-i-len-clause-joined c =
    let runs = c.args.free.now.items in
    elim c.else-i-len.branch [
      | else-i-len-via-then-i-len+then-i-len-2+else-can_join w ↦
          let here = slice_get_read runs (length runs) c.args.i w.index.result.now refl (omega arith) w.index.ensures in
          let next = slice_get_read runs (length runs) (c.args.i + 1) w.index-then-i-len-2.result.now refl (omega arith) w.index-then-i-len-2.ensures in
          let up : c.args.i + 1 ≡ suc c.args.i = omega arith in
          sym (joined_apart w.index.result.now w.index-then-i-len-2.result.now runs c.args.i here
          (subst (λ k. slice_get runs k ≡ Some w.index-then-i-len-2.result.now) up next) (sym w.if-can_join.ensures))
      | else-i-len-via-then-i-len+else-i-len-2 w ↦ sym (joined_none runs c.args.i (omega (arith, w.if-i-len-2)))
      | else-i-len-via-else-i-len w ↦ sym (joined_none runs c.args.i (omega (arith, w.if-i-len)))
    ]
