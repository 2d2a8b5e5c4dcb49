-- One key more, and what is found, or that nothing is.
use Rattle.std.proofs.Common.{◌≡◌, ◌∷◌, ◌+◌, true, false, cond, Some, String, Global, ap, arith, bytes_eq, length, string_bytes, sym, ◌∙◌}
use Rattle.std.proofs.lemmas.Iterator.Adapters.{position_from-zero}
use Rattle.std.specs.List.{position_from}
use Rattle.indexmap.specs.IndexMap.{keys}
use Rattle.ft_delivery.proofs.kept.place_among.Goals as goal

pub loop-key-init : goal.loop-key-init
loop-key-init g c =
    let test = λ (key : String Global). bytes_eq c.args.name.now (string_bytes key) in
    let all = c.into_iter-key-iterator.ensures.into_iter_gives ∙ c.keys-key-items.ensures.rest in
    ((tt, tt), ap (position_from test 0) all, omega (arith, ap length all))

pub loop-key-preserved : goal.loop-key-preserved
loop-key-preserved g c =
    let test = λ (key : String Global). bytes_eq c.args.name.now (string_bytes key) in
    let place = c.loop-key.place in
    let key = c.in-Some.key.now in
    let left = c.next.new.self in
    let no : test key ≡ false = ap (bytes_eq c.args.name.now) (sym c.as_str.ensures.value) ∙ sym c.eq.ensures ∙ c.if-eq.false in
    let here = ap (λ t. cond t (Some place) (position_from test (place + 1) left)) (sym no) in
    let steps = c.in-Some.ensures.steps in
    let counted : place + length (key ∷ left) ≡ length (keys c.args.kept.now) = ap (λ ks. place + length ks) (sym steps) ∙ c.loop-key.invariant.2 in
    ((tt, tt), here ∙ ap (position_from test place) (sym steps) ∙ c.loop-key.invariant.1, omega (arith, counted))

pub overflow_add-place : goal.overflow_add-place
overflow_add-place g c =
    let counted = ap (λ ks. c.loop-key.place + length ks) (sym c.in-Some.ensures.steps) ∙ c.loop-key.invariant.2 in
    let all = sym (ap length c.keys-key-items.ensures.rest) ∙ c.keys-key-items.ensures.len in
    omega (arith, counted, all, c.keys-key-items.ensures.fits)

pub returns-then-eq : goal.returns-then-eq
returns-then-eq g c =
    let test = λ (key : String Global). bytes_eq c.args.name.now (string_bytes key) in
    let place = c.loop-key.place in
    let key = c.in-Some.key.now in
    let left = c.next.new.self in
    let yes : test key ≡ true = ap (bytes_eq c.args.name.now) (sym c.as_str.ensures.value) ∙ sym c.eq.ensures ∙ c.if-eq.true in
    ap (λ t. cond t (Some place) (position_from test (place + 1) left)) (sym yes)
    ∙ ap (position_from test place) (sym c.in-Some.ensures.steps)
    ∙ c.loop-key.invariant.1
    ∙ sym (position_from-zero test (keys c.args.kept.now))

pub returns : goal.returns
returns g c =
    let test = λ (key : String Global). bytes_eq c.args.name.now (string_bytes key) in
    ap (position_from test c.loop-key.place) (sym c.in-None.ensures.steps.0)
    ∙ c.loop-key.invariant.1
    ∙ sym (position_from-zero test (keys c.args.kept.now))
