use Rattle.std.proofs.Common.{sym, ◌∙◌, ap, arith, is_some, true≢false}
use Rattle.ft_props.specs.Keys.{key_cmp, key_place, put_rising}
use Rattle.ft_props.proofs.RisingKeys.{KeysRise-put, found-in_range, missing-in_range, put_rising-found, put_rising-missing, value_of-missing}
use Rattle.ft_props.proofs.pairs.Pairs.put.Goals as goal

pub index_mut-requires : goal.index_mut-requires
index_mut-requires g c =
    let place = ap (key_place c.args.key) c.self.view_is ∙ ap (λ k. key_place k c.args.self.now) (sym c.as_str.ensures.characters) ∙ sym c.search.ensures ∙ c.in-Ok.is in
    omega (arith, found-in_range c.args.key c.in-Ok.i c.self.inside.items.items place)

pub invariant_of-self : goal.invariant_of-self
invariant_of-self g c =
    let place = ap (key_place c.args.key) c.self.view_is ∙ ap (λ k. key_place k c.args.self.now) (sym c.as_str.ensures.characters) ∙ sym c.search.ensures ∙ c.in-Ok.is in
    rw (← put_rising-found c.args.key c.args.value c.in-Ok.i c.self.inside.items.items place) (KeysRise-put c.args.key c.args.value c.self.inside.items.items c.self.invariant)

pub insert-requires : goal.insert-requires
insert-requires g c =
    let place = ap (key_place c.args.key) c.self.view_is ∙ ap (λ k. key_place k c.args.self.now) (sym c.as_str.ensures.characters) ∙ sym c.search.ensures ∙ c.in-Err.is in
    omega (arith, missing-in_range c.args.key c.in-Err.i c.self.inside.items.items place)

pub invariant_of-self-in-Err : goal.invariant_of-self-in-Err
invariant_of-self-in-Err g c =
    let place = ap (key_place c.args.key) c.self.view_is ∙ ap (λ k. key_place k c.args.self.now) (sym c.as_str.ensures.characters) ∙ sym c.search.ensures ∙ c.in-Err.is in
    rw (c.in_ok-insert-in-Err.ensures.items, ← put_rising-missing c.args.key c.args.value c.in-Err.i c.self.inside.items.items place)
    (KeysRise-put c.args.key c.args.value c.self.inside.items.items c.self.invariant)

pub returns-in-Ok-clause-ok : goal.returns-in-Ok-clause-ok
returns-in-Ok-clause-ok g c =
    let place = ap (key_place c.args.key) c.self.view_is ∙ ap (λ k. key_place k c.args.self.now) (sym c.as_str.ensures.characters) ∙ sym c.search.ensures ∙ c.in-Ok.is in
    sym (put_rising-found c.args.key c.args.value c.in-Ok.i c.self.inside.items.items place) ∙ ap (put_rising key_cmp (c.args.key, c.args.value)) c.self.view_is

pub returns-in_ok-insert-in-Err-clause-ok : goal.returns-in_ok-insert-in-Err-clause-ok
returns-in_ok-insert-in-Err-clause-ok g c =
    let place = ap (key_place c.args.key) c.self.view_is ∙ ap (λ k. key_place k c.args.self.now) (sym c.as_str.ensures.characters) ∙ sym c.search.ensures ∙ c.in-Err.is in
    c.in_ok-insert-in-Err.ensures.items ∙ sym (put_rising-missing c.args.key c.args.value c.in-Err.i c.self.inside.items.items place)
    ∙ ap (put_rising key_cmp (c.args.key, c.args.value)) c.self.view_is

-- a key that has a value takes no room
pub returns-in_err-insert-in-Err-clause-room : goal.returns-in_err-insert-in-Err-clause-room
returns-in_err-insert-in-Err-clause-room g c =
    let place = ap (λ k. key_place k c.args.self.now) (sym c.as_str.ensures.characters) ∙ sym c.search.ensures ∙ c.in-Err.is in
    let missing = value_of-missing c.args.key c.in-Err.i c.args.self.now (rw c.self.view_is at c.self.invariant) place in
    λ h. absurd (true≢false (sym h ∙ ap is_some missing))
