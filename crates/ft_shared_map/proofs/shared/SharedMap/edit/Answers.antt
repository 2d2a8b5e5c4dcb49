use Rattle.std.proofs.Common.{◌≡◌, ◌+◌, [], ◌∷◌, ◌++◌, List, length, deque_len, sym, ◌∙◌, ap, subst, rules}
use Rattle.std.specs.Prelude.{OnOk}
use Rattle.ft_shared_map.specs.Marks.{noted}
use Rattle.ft_shared_map.specs.declared.ops.MapOp.{MapOp}
use Rattle.ft_shared_map.proofs.MarkLaws.{marks-pushed, more-pushed}
use Rattle.ft_shared_map.proofs.shared.SharedMap.edit.Goals as goal

pub invariant_of-self-2 : goal.invariant_of-self-2
invariant_of-self-2 c =
    let s = c.self.inside in
    let own = c.in_ok-own.own in
    let len : deque_len s.pending ≡ length s.pending.items = search rules in
    let number : c.in_ok-number.number ≡ s.first + length s.pending.items = c.in_ok-number.ensures.number ∙ ap (λ i. s.first + i) (c.len.ensures ∙ len) in
    let items : c.push_reserved.new.items.items ≡ s.pending.items ++ own ∷ [] = c.in_ok-push_reserved.ensures.ok ∙ ap (λ (ops : List MapOp). ops ++ own ∷ []) c.reserve.ensures.items in
    let marks =
    subst (λ r. OnOk r (c.note-noted.new.self ≡ noted c.in_ok-number.number c.args.op.now s.marks))
    (sym c.in_ok-push_reserved.ensures.same) c.note-noted.ensures.ok in (
      marks-pushed s.first c.in_ok-number.number s.pending.items _ c.args.op.now own s.marks _ number items c.in_ok-own.ensures marks c.self.invariant.0,
      more-pushed s.first c.in_ok-number.number _ s.pending.items _ own number items c.in_ok-number.ensures.low,
      c.self.invariant.2,
    )
