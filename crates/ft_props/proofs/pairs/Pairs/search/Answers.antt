use Rattle.std.proofs.Common.{rules, chars, ◌∙◌, ap}
use Rattle.std.proofs.lemmas.Fn.{always_returns_same}
use Rattle.ft_props.specs.Keys.{key_place, text_cmp}
use Rattle.ft_props.proofs.RisingKeys.{searched}
use Rattle.ft_props.proofs.pairs.Pairs.search.Goals as goal

-- the closure compares a pair's key, and the slice is the list
pub returns : goal.returns
returns g c =
    let facts = c.binary_search_by.ensures in
    let key = chars c.args.key.now in
    let by_key = facts.position (λ x. text_cmp x.0 key) (always_returns_same _ _ _ (λ a r f called. search rules)) in
    searched key c.self.inside.items.items c.binary_search_by.result c.self.invariant (rw c.deref.ensures.value at facts.bound) (rw c.deref.ensures.value at by_key)
    ∙ ap (key_place key) c.self.view_is
