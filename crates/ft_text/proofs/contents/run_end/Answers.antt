use Rattle.std.proofs.Common.{◌≡◌, ◌∙◌, ◌+◌, ◌-◌, ◌++◌, ◌≤◌, ℕ, List, [], Option, Some, None, length, chars, drop, sym, ap, subst, arith, encode_utf8, encode_utf8_all, refl, length-drop}
use Rattle.std.proofs.lemmas.List.{drop-drop}
use Rattle.std.proofs.lemmas.Str.{cons_from_encodes, encodes-chars, length-le-encodes}
use Rattle.std.proofs.Math.ListN.{drop_of_length-le}
use Rattle.std.specs.Option.{MatchOption}
use Rattle.std.specs.Str.{IsUtf8}
use Rattle.std.specs.declared.str.Chars.{Chars}
use Rattle.std.specs.Str.Iter.{chars_rest}
use Rattle.ft_tree_leaves.proofs.TextCuts.{cut_behind, left_within}
use Rattle.ft_tree_leaves.specs.TextRuns.{longest_run}
use Rattle.ft_text.proofs.contents.run_end.Goals as goal

-- behind the end of the characters nothing is left
none_left : (cs : List ℕ) (i : ℕ) → length cs ≤ i → encode_utf8_all (drop i cs) ≡ []
none_left cs i within = ap encode_utf8_all (drop_of_length-le cs within)

-- so a text that has no more bytes than a run has characters is a run
all_within : (bs : List ℕ) → IsUtf8 bs → length bs ≤ longest_run → encode_utf8_all (drop longest_run (chars bs)) ≡ []
all_within bs text within = none_left (chars bs) longest_run (omega (arith, length-le-encodes (chars bs), ap length (encodes-chars bs text)))

-- what is left after a call of `next`, which may be at the end
left_after : (cs : List ℕ) (i : ℕ) (s t : Chars) (r : Option ℕ) → encode_utf8_all (drop i cs) ≡ chars_rest s
    → MatchOption r ((length (chars_rest s) ≡ 0) × (t ≡ s)) (λ c. chars_rest s ≡ encode_utf8 c ++ chars_rest t)
    → encode_utf8_all (drop (i + 1) cs) ≡ chars_rest t
left_after cs i s t None so_far step =
    let ended : length cs ≤ i = omega (arith, length-le-encodes (drop i cs), length-drop i cs, ap length so_far, step.0) in
    none_left cs (i + 1) (omega arith) ∙ sym (none_left cs i ended) ∙ so_far ∙ sym (ap chars_rest step.1)
left_after cs i s t (Some c) so_far step =
    let cut = cons_from_encodes (drop i cs) (chars_rest t) c (so_far ∙ step) in
    ap encode_utf8_all (sym (drop-drop 1 i cs) ∙ ap (drop 1) cut.1) ∙ cut.2

pub returns-then-text-le-MAX_RUN : goal.returns-then-text-le-MAX_RUN
returns-then-text-le-MAX_RUN c =
    let bs = c.args.text.now in
    let cut = cut_behind bs [] longest_run (length bs) c.utf8.text (all_within bs c.utf8.text c.if-text-le-MAX_RUN.true) (omega arith) in
    record { boundary = cut.boundary; front = cut.front; rear = cut.rear }

pub loop-init : goal.loop-init
loop-init c = encodes-chars c.args.text.now c.utf8.text ∙ sym c.chars-rest.ensures.rest

pub loop-preserved : goal.loop-preserved
loop-preserved c =
    left_after (chars c.args.text.now) c.loop.counter c.loop.rest c.next.new.self c.next.result c.loop.invariant c.next.ensures.steps.0

pub overflow_sub-result : goal.overflow_sub-result
overflow_sub-result c = left_within c.args.text.now c.as_str.result.now c.loop.counter c.utf8.text (c.loop.invariant ∙ sym c.as_str.ensures)

pub returns : goal.returns
returns c =
    let bs = c.args.text.now in
    let e : c.loop.counter ≡ longest_run = omega arith in
    let behind = subst (λ n. encode_utf8_all (drop n (chars bs)) ≡ c.as_str.result.now) e (c.loop.invariant ∙ sym c.as_str.ensures) in
    let cut = cut_behind bs c.as_str.result.now longest_run (length bs - length c.as_str.result.now) c.utf8.text behind refl in
    record { boundary = cut.boundary; front = cut.front; rear = cut.rear }
