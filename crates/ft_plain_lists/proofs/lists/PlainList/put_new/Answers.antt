use Rattle.std.proofs.Common.{◌≡◌, ◌+◌, ◌≤◌, ◌++◌, ◌∙◌, ap, drop, length, map, refl, subst, sym, take}
use Rattle.ft_props.specs.Element.{new_elements}
use Rattle.ft_props.specs.Steps.{Sequence}
use Rattle.ft_plain_lists.specs.Contents.{content_of}
use Rattle.ft_plain_lists.proofs.MadeItems.{made-known}
use Rattle.ft_plain_lists.proofs.lists.PlainList.put_new.Goals as goal

pub put_at-requires : goal.put_at-requires
put_at-requires c = subst (λ (list : Sequence). c.args.i ≤ length list.items) (sym c.self.view_is) c.requires

pub returns-clause-ok : goal.returns-clause-ok
returns-clause-ok c =
    let i = c.args.i in
    let old = c.self.inside.items.items in
    let new = new_elements c.self.inside.made c.args.ins c.args.dels.now c.args.by c.args.props.now (map content_of c.args.contents.now) in
    let placed = made-known c.new_elements-new.result (λ v. v.items) new (λ xs. c.put_at.new.items.items ≡ take i old ++ (xs ++ drop i old))
    c.new_elements-new.ensures.elements c.in_ok-put_at.ensures.ok in
    let counted = c.in_ok-made.ensures.sum ∙ ap (λ (list : Sequence). list.made + length c.args.contents.now) (sym c.self.view_is) in
    rw (← c.self.view_is) (rw (placed, counted) refl)
