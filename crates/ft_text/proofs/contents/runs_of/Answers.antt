use Rattle.std.proofs.Common.{◌≡◌, ℕ, ◌≤◌, ◌<◌, List, [], ◌∷◌, ◌++◌, ◌-◌, ap, append-nil, arith, chars, drop, encode_utf8_all, flat_map, length, length-drop, length-take, map, rules, subst, sym, take, ◌∙◌}
use Rattle.std.specs.List.{slice_range}
use Rattle.std.specs.Str.{IsUtf8}
use Rattle.std.proofs.lemmas.List.{take-append-drop}
use Rattle.std.proofs.lemmas.Str.{chars-nil, encodes-chars}
use Rattle.ft_tree_leaves.specs.declared.text.TextContent.{TextContent}
use Rattle.ft_tree_leaves.specs.declared.text.TextPiece.TheVariants.{Run}
use Rattle.ft_tree_leaves.specs.TextLeaves.{new_text, text_units}
use Rattle.ft_tree_leaves.specs.TextRuns.{longest_run}
use Rattle.ft_props.specs.Element.{Character}
use Rattle.ft_text.specs.Contents.{contents_in}
use Rattle.ft_text.proofs.RunsSoFar.{RunsSoFar, next-run}
use Rattle.ft_text.proofs.contents.runs_of.Goals as goal

-- a text that isn't empty has a character, and an empty one has none
some_character : (bs : List ℕ) → IsUtf8 bs → 0 < length bs → 1 ≤ length (chars bs)
some_character bs text some = by (chars bs) (encodes-chars bs text)
  where
    by : (cs : List ℕ) → encode_utf8_all cs ≡ bs → 1 ≤ length cs
    by [] e = absurd (omega (arith, ap length e))
    by (c ∷ cs) e = omega arith

no_character : (bs : List ℕ) → length bs ≡ 0 → chars bs ≡ []
no_character [] none = chars-nil
no_character (b ∷ bs) none = absurd (omega arith)

-- the characters of the slice that ends where the run does
run-characters : (bs run : List ℕ) (at : ℕ) → run ≡ slice_range bs 0 at → chars (take at bs) ≡ take longest_run (chars bs)
    → chars run ≡ take longest_run (chars bs)
run-characters bs run at is_run cut = let whole : at - 0 ≡ at = omega arith in ap chars (is_run ∙ ap (λ n. take n bs) whole) ∙ cut

-- one run more, of the first characters ahead
next-cut : (text cs front rear : List ℕ) (contents new : List TextContent) (x : TextContent) → RunsSoFar text contents cs → 1 ≤ length cs
    → front ≡ take longest_run cs → rear ≡ drop longest_run cs → x ≡ new_text (Run front) → new ≡ contents ++ (x ∷ []) → RunsSoFar text new rear
next-cut text cs front rear contents new x h some is_front is_rear made pushed =
    let parts = sym (take-append-drop longest_run cs) in
    let whole : RunsSoFar text contents (take longest_run cs ++ drop longest_run cs) = subst (RunsSoFar text contents) parts h in
    let size = length-take longest_run cs in
    let behind = length-drop longest_run cs in
    let next = next-run text (take longest_run cs) (drop longest_run cs) contents whole (omega arith) (omega arith) (λ l. omega arith) in
    let run = ap (λ ys. contents ++ (new_text (Run ys) ∷ [])) (sym is_front) ∙ ap (λ y. contents ++ (y ∷ [])) (sym made) ∙ sym pushed in
    subst (RunsSoFar text new) (sym is_rear) (subst (λ us. RunsSoFar text us (drop longest_run cs)) run next)

pub run-requires : goal.run-requires
run-requires c =
    let bs = c.loop-rest.rest.now in
    let some = some_character bs c.loop-rest.invariant.0 (search rules) in
    let front = run-characters bs c.range.result.now c.run_end-at.result c.range.ensures.value c.run_end-at.ensures.front in
    let size = length-take longest_run (chars bs) in
    let same = ap length front in
    (omega arith, omega arith)

pub loop-rest-smaller : goal.loop-rest-smaller
loop-rest-smaller c =
    let bs = c.loop-rest.rest.now in
    let some = some_character bs c.loop-rest.invariant.0 (search rules) in
    let rear : chars c.range_from-rest.result.now ≡ drop longest_run (chars bs) = ap chars c.range_from-rest.ensures.value ∙ c.run_end-at.ensures.rear in
    let size = length-drop longest_run (chars bs) in
    let same = ap length rear in
    let smaller : length (chars c.range_from-rest.result.now) < length (chars bs) = omega arith in
    smaller

pub loop-rest-preserved : goal.loop-rest-preserved
loop-rest-preserved c =
    let bs = c.loop-rest.rest.now in
    let some = some_character bs c.loop-rest.invariant.0 (search rules) in
    let front = run-characters bs c.range.result.now c.run_end-at.result c.range.ensures.value c.run_end-at.ensures.front in
    let rear : chars c.range_from-rest.result.now ≡ drop longest_run (chars bs) = ap chars c.range_from-rest.ensures.value ∙ c.run_end-at.ensures.rear in (
      c.range_from-rest.utf8,
      next-cut (chars c.args.text.now) (chars bs) (chars c.range.result.now) (chars c.range_from-rest.result.now) (contents_in c.loop-rest.contents) (contents_in c.push.new.self)
          c.in_ok-run.field-0 c.loop-rest.invariant.1 some front rear c.in_ok-run.ensures c.in_ok-push.ensures,
    )

pub returns-clause-units : goal.returns-clause-units
returns-clause-units c =
    let none_left : length c.loop-rest.rest.now ≡ 0 = search rules in
    let none = no_character c.loop-rest.rest.now none_left in
    let so_far = flat_map text_units (contents_in c.loop-rest.contents) in
    sym (append-nil so_far) ∙ ap (λ cs. so_far ++ map Character cs) (sym none) ∙ c.loop-rest.invariant.1.units
