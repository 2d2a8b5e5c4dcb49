use Rattle.std.proofs.Common.{chars, sym, ◌∙◌, ap, arith}
use Rattle.ft_props.specs.Keys.{key_cmp, key_place, remove_rising}
use Rattle.ft_props.proofs.RisingKeys.{KeysRise-remove, found-in_range, remove_rising-found, remove_rising-missing}
use Rattle.ft_props.proofs.pairs.Pairs.remove.Goals as goal

pub remove-requires : goal.remove-requires
remove-requires g c =
    let key = chars c.args.key.now in
    let place = ap (key_place key) c.self.view_is ∙ sym c.search.ensures ∙ c.in-Ok.is in
    omega (arith, found-in_range key c.in-Ok.i c.self.inside.items.items place)

pub invariant_of-self : goal.invariant_of-self
invariant_of-self g c =
    let key = chars c.args.key.now in
    let place = ap (key_place key) c.self.view_is ∙ sym c.search.ensures ∙ c.in-Ok.is in
    let value = c.remove.result.1 in
    rw (c.remove.ensures.items, ← remove_rising-found key value c.in-Ok.i c.self.inside.items.items place) (KeysRise-remove key value c.self.inside.items.items c.self.invariant)

pub returns-in-Ok : goal.returns-in-Ok
returns-in-Ok g c value =
    let key = chars c.args.key.now in
    let place = ap (key_place key) c.self.view_is ∙ sym c.search.ensures ∙ c.in-Ok.is in
    c.remove.ensures.items ∙ sym (remove_rising-found key value c.in-Ok.i c.self.inside.items.items place) ∙ ap (remove_rising key_cmp (key, value)) c.self.view_is

pub returns-in_default : goal.returns-in_default
returns-in_default g c value = sym (remove_rising-missing (chars c.args.key.now) value c.in_default.field-0 c.args.self.now (sym c.search.ensures ∙ c.in_default.is))
