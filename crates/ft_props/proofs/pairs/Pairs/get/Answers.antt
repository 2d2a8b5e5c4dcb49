use Rattle.std.proofs.Common.{chars, sym, ◌∙◌, ap, Some, arith}
use Rattle.ft_props.specs.Keys.{key_place, value_of}
use Rattle.ft_props.proofs.RisingKeys.{found-in_range, value_of-found, value_of-missing}
use Rattle.ft_props.proofs.pairs.Pairs.get.Goals as goal

pub index-requires : goal.index-requires
index-requires g c =
    omega (arith, found-in_range (chars c.args.key.now) c.in-Ok.i c.self.inside.items.items (ap (key_place (chars c.args.key.now)) c.self.view_is ∙ sym c.search.ensures ∙ c.in-Ok.is))

pub returns-in-Ok : goal.returns-in-Ok
returns-in-Ok g c =
    let found = value_of-found (chars c.args.key.now) c.in-Ok.i c.index.result.now c.self.inside.items.items
    (ap (key_place (chars c.args.key.now)) c.self.view_is ∙ sym c.search.ensures ∙ c.in-Ok.is) in
    ap (λ x. Some x.1) c.index.ensures ∙ sym found ∙ ap (value_of (chars c.args.key.now)) c.self.view_is

pub returns-in-Err : goal.returns-in-Err
returns-in-Err g c =
    sym (value_of-missing (chars c.args.key.now) c.in-Err.field-0 c.args.self.now (rw c.self.view_is at c.self.invariant) (sym c.search.ensures ∙ c.in-Err.is))
