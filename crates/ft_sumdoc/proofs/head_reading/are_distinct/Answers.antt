use Rattle.std.proofs.Common.{◌≡◌, ◌∙◌, ◌+◌, ◌-◌, ◌<◌, ◌++◌, ◌∷◌, true, false, length, drop, take, bytes_eq, sym, ap, ap₂, arith}
use Rattle.std.specs.Prelude.{is_some}
use Rattle.std.specs.HashMap.{get_by}
use Rattle.std.specs.List.{list_any}
use Rattle.std.proofs.lemmas.List.{drop_more, take-append-drop}
use Rattle.std.proofs.lemmas.Map.Text.{hash_map_updates_str}
use Rattle.ft_props.specs.Properties.{Characters}
use Rattle.ft_sumdoc.specs.Counts.{are_distinct_names}
use Rattle.ft_sumdoc.proofs.DistinctNames.{one_more_known, stands_once, stands_twice}
use Rattle.ft_sumdoc.proofs.head_reading.are_distinct.Goals as goal

pub returns-then-is_some : goal.returns-then-is_some
returns-then-is_some c =
    let names = c.args.names.now in
    let i = c.loop-i.i - 1 in
    let name = c.index-names-i.result in
    let later = drop c.loop-i.i names in
    let bs = c.as_str.result.now in
    let within : i < length names = omega (arith, c.loop-i-test.true, c.loop-i.invariant.place) in
    let next : i + 1 ≡ c.loop-i.i = omega (arith, c.loop-i-test.true) in
    let front : drop i names ≡ name ∷ later = drop_more names i name within ∙ ap₂ (λ (x : Characters) k. x ∷ drop k names) (sym c.index-names-i.is) next in
    let known : list_any (bytes_eq name) later ≡ true =
    sym (c.loop-i.invariant.known name)
    ∙ ap (λ x. is_some (get_by (λ k. bytes_eq x k.now) c.loop-i.later)) (sym c.as_str.ensures.bytes)
    ∙ ap is_some (sym c.in_ok-insert.ensures.old) ∙ sym c.is_some.ensures ∙ c.if-is_some.true in
    sym (ap are_distinct_names (sym (take-append-drop i names) ∙ ap (λ x. take i names ++ x) front) ∙ stands_twice (take i names) name later known)

pub loop-i-preserved : goal.loop-i-preserved
loop-i-preserved c =
    let names = c.args.names.now in
    let i = c.loop-i.i - 1 in
    let name = c.index-names-i.result in
    let later = drop c.loop-i.i names in
    let bs = c.as_str.result.now in
    let within : i < length names = omega (arith, c.loop-i-test.true, c.loop-i.invariant.place) in
    let next : i + 1 ≡ c.loop-i.i = omega (arith, c.loop-i-test.true) in
    let front : drop i names ≡ name ∷ later = drop_more names i name within ∙ ap₂ (λ (x : Characters) k. x ∷ drop k names) (sym c.index-names-i.is) next in
    let unknown : list_any (bytes_eq name) later ≡ false =
    sym (c.loop-i.invariant.known name)
    ∙ ap (λ x. is_some (get_by (λ k. bytes_eq x k.now) c.loop-i.later)) (sym c.as_str.ensures.bytes)
    ∙ ap is_some (sym c.in_ok-insert.ensures.old) ∙ sym c.is_some.ensures ∙ c.if-is_some.false in
    record {
      known = λ q.
          ap is_some (hash_map_updates_str bs c.loop-i.later c.insert.new.self _ c.in_ok-insert.ensures.updates _)
          ∙ one_more_known name q bs _ _ later c.as_str.ensures.bytes (c.loop-i.invariant.known q) ∙ ap (list_any (bytes_eq q)) (sym front);
      distinct = ap are_distinct_names front ∙ stands_once name later unknown c.loop-i.invariant.distinct;
      place = omega (arith, within);
    }
