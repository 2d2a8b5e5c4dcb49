use Rattle.std.proofs.Common.{◌≡◌, ◌-◌, false, true, List, [], ◌∷◌, Some, drop, length, subst, refl, sym, ◌∙◌, ap, arith, rules}
use Rattle.std.specs.VecDeque.Iter.{deque_iter_rest}
use Rattle.std.proofs.lemmas.List.{length-drop, take_all}
use Rattle.ft_block.specs.Leaves.{IsLeafIn}
use Rattle.ft_tree_blocks.specs.Wanted.{IsLeastStage, is_wanted_at}
use Rattle.ft_tree_blocks.proofs.AckedNodes.{all-held}
use Rattle.ft_tree_blocks.proofs.StageSearch.{Searches, listed_first, reached, searches-from, searches-on}
use Rattle.ft_tree_blocks.proofs.StepValues.{is_live}
use Rattle.ft_tree_blocks.proofs.next_stages.next_wanted_in.Goals as goal

pub loop-list-init : goal.loop-list-init
loop-list-init g c =
    let xs = c.args.blocks.now.leaves in
    let ss = c.args.touched.now.items in
    let n = c.stage_place.result in
    let len : c.args.touched.now.len ≡ length ss = search rules in
    let rest : deque_iter_rest c.into_iter-list-iterator.result ≡ drop n ss =
    ap deque_iter_rest c.into_iter-list-iterator.ensures.into_iter_gives ∙ c.range-list-items.ensures.rest
    ∙ take_all (c.args.touched.now.len - n) (drop n ss) (omega (arith, len, length-drop n ss)) in
    subst (Searches c.args.wanted c.args.stage xs) (sym rest) (searches-from c.args.wanted c.args.stage n xs ss c.stage_place.ensures.place c.requires.tracks)

pub is_wanted_above-requires : goal.is_wanted_above-requires
is_wanted_above-requires g c =
    let xs = c.args.blocks.now.leaves in
    let s = c.in-Some.list.now in
    let rest = deque_iter_rest c.next.new.self in
    let here = subst (Searches c.args.wanted c.args.stage xs) c.in-Some.ensures.steps c.loop-list.invariant in
    record {
      usable = c.requires.usable;
      live = all-held (IsLeafIn xs) s.nodes (λ z h. is_live xs z (here.live s.stage z (listed_first s rest z h)));
    }

pub returns-then-is_wanted_above : goal.returns-then-is_wanted_above
returns-then-is_wanted_above g c =
    let w = c.args.wanted in
    let k = c.args.stage in
    let xs = c.args.blocks.now.leaves in
    let s = c.in-Some.list.now in
    let rest = deque_iter_rest c.next.new.self in
    let here = subst (Searches w k xs) c.in-Some.ensures.steps c.loop-list.invariant in
    subst (λ m. IsLeastStage k (is_wanted_at w xs) (Some m)) (sym c.stage.ensures)
    (reached w xs k s rest here.covers here.rising.0 (sym c.is_wanted_above.ensures ∙ c.if-is_wanted_above.true))

pub loop-list-preserved : goal.loop-list-preserved
loop-list-preserved g c =
    let xs = c.args.blocks.now.leaves in
    let here = subst (Searches c.args.wanted c.args.stage xs) c.in-Some.ensures.steps c.loop-list.invariant in
    searches-on c.args.wanted c.args.stage xs c.in-Some.list.now (deque_iter_rest c.next.new.self) here
    (sym c.is_wanted_above.ensures ∙ c.if-is_wanted_above.false)

none : {A : Type 0} (xs : List A) → length xs ≡ 0 → xs ≡ []
none [] e = refl
none (x ∷ xs) e = (cc)

true_false : false ≡ true → ⊥
true_false e = (cc)

pub returns : goal.returns
returns g c =
    let xs = c.args.blocks.now.leaves in
    let rest = deque_iter_rest c.loop-list.list-iterator in
    let end = subst (Searches c.args.wanted c.args.stage xs) (none rest c.in-None.ensures.steps.0) c.loop-list.invariant in
    λ j z lt t. true_false (end.covers j z lt t)
