use Rattle.std.proofs.Common.{◌∙◌, ap, sym, ◌∷◌, ◌+◌, drop, find, option_map}
use Rattle.std.specs.Option.{option_or}
use Rattle.std.proofs.lemmas.List.{drop_all, drop_more, take_rest}
use Rattle.ft_props.specs.Element.{id}
use Rattle.ft_plain_lists.proofs.SettledName.{settled-found, settled_by_name, settled_name_after}
use Rattle.ft_plain_lists.proofs.slides.settled.Goals as goal

pub returns-then-passes : goal.returns-then-passes
returns-then-passes g c =
    let meant = g.M.ElementTest.test c.args.meant in
    let seen = g.T.ElementTest.test c.args.seen in
    let xs = c.args.items.now in
    let i = c.loop-i.i in
    let rest = drop (i + 1) xs in
    let at_front = drop_more xs i c.index-items-i.result c.loop-i-test.true ∙ ap (λ e. e ∷ rest) (sym c.index-items-i.is) in
    let found = settled-found meant seen c.loop-i.last c.index-items-i.result rest (drop i xs) at_front c.if-passes.ensures in
    let first = c.first_seen.ensures ∙ ap (λ ys. option_map id (find seen ys)) (take_rest xs i) in
    c.or.ensures ∙ ap (λ o. option_or o c.loop-i.last) first ∙ sym found ∙ c.loop-i.invariant ∙ sym (settled_by_name meant seen xs)

pub returns : goal.returns
returns g c =
    let meant = g.M.ElementTest.test c.args.meant in
    let seen = g.T.ElementTest.test c.args.seen in
    let xs = c.args.items.now in
    ap (settled_name_after meant seen c.loop-i.last) (sym (drop_all c.loop-i.i xs c.loop-i-test.false)) ∙ c.loop-i.invariant ∙ sym (settled_by_name meant seen xs)
