use Rattle.std.proofs.Common.{◌≡◌, ◌≤ℤ◌, ◌<ℤ◌, None, Some, map, refl, sym, ap, subst, ◌∙◌}
use Rattle.ft_arena.specs.Forest.{kids_of, block_value, block_of_entry, block_of_node, leaf_value, leaf_of_entry, leaf_of_node, with_block}
use Rattle.ft_shape.specs.declared.headed.Headed.{Headed}
use Rattle.ft_shape.specs.Steps.{SameShape}
use Rattle.ft_shape.specs.Told.{sum_of, told}
use Rattle.ft_shape.proofs.RefreshLemmas.{refreshed_shape}
use Rattle.ft_shape.proofs.ToldLemmas.{written_tells, written_block}
use Rattle.ft_overlap.specs.declared.items.Span.{Span}
use Rattle.ft_overlap.specs.Inside.{IsSpan, SpansLast, MayRise, either_named, either_start, span_last, span_start}
use Rattle.ft_overlap.proofs.Keys.{true_lt, false_lt}
use Rattle.ft_overlap.proofs.Renamed.{renamed_known}
use Rattle.ft_overlap.proofs.Raised.{settled_last, risen_last}
use Rattle.ft_overlap.proofs.raise.raise.Goals as goal

pub is_before-requires-clause-first : goal.is_before-requires-clause-first
is_before-requires-clause-first g c =
    let s = c.args.arena.now in
    let b = c.args.block in
    let place = g.P.Places.end_place c.args.at.now in
    let v : Span = c.in-Block.value.sum in
    let value : block_value s b ≡ Some c.in-Block.value = ap block_of_entry c.read.ensures.node ∙ ap block_of_node c.in-Block.is in
    let leaf : leaf_value s b ≡ None = ap leaf_of_entry c.read.ensures.node ∙ ap leaf_of_node c.in-Block.is in
    c.requires.known b v.last (ap (λ o. either_named o (span_last (sum_of (block_value s b)))) leaf ∙ ap (λ o. span_last (sum_of o)) value)

pub returns-then-not-is_before-clause-one : goal.returns-then-not-is_before-clause-one
returns-then-not-is_before-clause-one g c =
    let s = c.args.arena.now in
    let b = c.args.block in
    let place = g.P.Places.end_place c.args.at.now in
    let v : Span = c.in-Block.value.sum in
    let value : block_value s b ≡ Some c.in-Block.value = ap block_of_entry c.read.ensures.node ∙ ap block_of_node c.in-Block.is in
    let m : MayRise place c.args.item s b v = c.requires.unraised b v refl (ap sum_of value) in
    let low : place c.args.item.end ≤ℤ place v.last.end = false_lt (place v.last.end) (place c.args.item.end) (sym c.is_before.ensures ∙ c.if-not-is_before.true) in
    record {
      others = λ x d. refl;
      right = λ u e.
          let q : c.in-Block.value ≡ u = cc (sym value ∙ e) in
          subst (λ (z : Headed Span). IsSpan z.sum (map (told s) (kids_of s b))) q record { one = m.one low; start = m.start };
    }

pub returns-then-not-is_before-clause-last : goal.returns-then-not-is_before-clause-last
returns-then-not-is_before-clause-last g c =
    let s = c.args.arena.now in
    let b = c.args.block in
    let place = g.P.Places.end_place c.args.at.now in
    let v : Span = c.in-Block.value.sum in
    let value : block_value s b ≡ Some c.in-Block.value = ap block_of_entry c.read.ensures.node ∙ ap block_of_node c.in-Block.is in
    let m : MayRise place c.args.item s b v = c.requires.unraised b v refl (ap sum_of value) in
    let low : place c.args.item.end ≤ℤ place v.last.end = false_lt (place v.last.end) (place c.args.item.end) (sym c.is_before.ensures ∙ c.if-not-is_before.true) in
    record {
      others = λ x d. refl;
      right = λ u e.
          let q : c.in-Block.value ≡ u = cc (sym value ∙ e) in
          subst (λ (z : Headed Span). SpansLast place z.sum (map (told s) (kids_of s b))) q (settled_last place c.args.item s b v m low);
    }

pub returns-clause-shape : goal.returns-clause-shape
returns-clause-shape g c =
    let s = c.args.arena.now in
    let b = c.args.block in
    let place = g.P.Places.end_place c.args.at.now in
    let v : Span = c.in-Block.value.sum in
    let value : block_value s b ≡ Some c.in-Block.value = ap block_of_entry c.read.ensures.node ∙ ap block_of_node c.in-Block.is in
    let w : Headed Span = record { height = c.in-Block.value.height; sum = record { start = c.in-Block.value.sum.start; last = c.args.item } } in
    let shape : SameShape s (with_block s b w) = refreshed_shape s b c.in-Block.value w value refl c.requires.forest in
    shape

pub returns-clause-one : goal.returns-clause-one
returns-clause-one g c =
    let s = c.args.arena.now in
    let b = c.args.block in
    let place = g.P.Places.end_place c.args.at.now in
    let v : Span = c.in-Block.value.sum in
    let value : block_value s b ≡ Some c.in-Block.value = ap block_of_entry c.read.ensures.node ∙ ap block_of_node c.in-Block.is in
    let m : MayRise place c.args.item s b v = c.requires.unraised b v refl (ap sum_of value) in
    let w : Headed Span = record { height = c.in-Block.value.height; sum = record { start = c.in-Block.value.sum.start; last = c.args.item } } in
    let shape : SameShape s (with_block s b w) = refreshed_shape s b c.in-Block.value w value refl c.requires.forest in
    written_tells IsSpan s b c.in-Block.value w value c.requires.apart (shape.kids b) record { one = m.there; start = m.start }

pub returns-clause-last : goal.returns-clause-last
returns-clause-last g c =
    let s = c.args.arena.now in
    let b = c.args.block in
    let place = g.P.Places.end_place c.args.at.now in
    let v : Span = c.in-Block.value.sum in
    let value : block_value s b ≡ Some c.in-Block.value = ap block_of_entry c.read.ensures.node ∙ ap block_of_node c.in-Block.is in
    let m : MayRise place c.args.item s b v = c.requires.unraised b v refl (ap sum_of value) in
    let less : place v.last.end <ℤ place c.args.item.end = true_lt (place v.last.end) (place c.args.item.end) (sym c.is_before.ensures ∙ c.if-not-is_before.false) in
    let w : Headed Span = record { height = c.in-Block.value.height; sum = record { start = c.in-Block.value.sum.start; last = c.args.item } } in
    let shape : SameShape s (with_block s b w) = refreshed_shape s b c.in-Block.value w value refl c.requires.forest in
    written_tells (SpansLast place) s b c.in-Block.value w value c.requires.apart (shape.kids b) (risen_last place c.args.item s b v m less)

pub returns-clause-known : goal.returns-clause-known
returns-clause-known g c =
    let s = c.args.arena.now in
    let b = c.args.block in
    let place = g.P.Places.end_place c.args.at.now in
    let v : Span = c.in-Block.value.sum in
    let value : block_value s b ≡ Some c.in-Block.value = ap block_of_entry c.read.ensures.node ∙ ap block_of_node c.in-Block.is in
    let leaf : leaf_value s b ≡ None = ap leaf_of_entry c.read.ensures.node ∙ ap leaf_of_node c.in-Block.is in
    let w : Headed Span = record { height = c.in-Block.value.height; sum = record { start = c.in-Block.value.sum.start; last = c.args.item } } in
    let shape : SameShape s (with_block s b w) = refreshed_shape s b c.in-Block.value w value refl c.requires.forest in
    renamed_known (g.P.Places.Knows c.args.at.now) s c.requires.known b c.in-Block.value w value (shape.leaf_values b ∙ leaf) c.requires.item

pub returns-clause-rises : goal.returns-clause-rises
returns-clause-rises g c =
    let s = c.args.arena.now in
    let b = c.args.block in
    let place = g.P.Places.end_place c.args.at.now in
    let v : Span = c.in-Block.value.sum in
    let value : block_value s b ≡ Some c.in-Block.value = ap block_of_entry c.read.ensures.node ∙ ap block_of_node c.in-Block.is in
    let leaf : leaf_value s b ≡ None = ap leaf_of_entry c.read.ensures.node ∙ ap leaf_of_node c.in-Block.is in
    let less : place v.last.end <ℤ place c.args.item.end = true_lt (place v.last.end) (place c.args.item.end) (sym c.is_before.ensures ∙ c.if-not-is_before.false) in
    let w : Headed Span = record { height = c.in-Block.value.height; sum = record { start = c.in-Block.value.sum.start; last = c.args.item } } in
    let shape : SameShape s (with_block s b w) = refreshed_shape s b c.in-Block.value w value refl c.requires.forest in
    λ _. record {
      before = v.last;
      was = ap (λ o. either_named o (span_last (sum_of (block_value s b)))) leaf ∙ ap (λ o. span_last (sum_of o)) value;
      now = ap (λ o. either_named o (span_last (sum_of (block_value (with_block s b w) b)))) (shape.leaf_values b ∙ leaf)
          ∙ ap (λ o. span_last (sum_of o)) (written_block IsSpan s b c.in-Block.value w value);
      start = ap (λ o. either_start o (span_start (sum_of (block_value (with_block s b w) b)))) (shape.leaf_values b ∙ leaf)
          ∙ ap (λ o. span_start (sum_of o)) (written_block IsSpan s b c.in-Block.value w value)
          ∙ sym (ap (λ o. either_start o (span_start (sum_of (block_value s b)))) leaf ∙ ap (λ o. span_start (sum_of o)) value);
      ends = less;
    }
