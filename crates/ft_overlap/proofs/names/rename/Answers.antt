use Rattle.std.proofs.Common.{◌≡◌, ℕ, List, None, Some, map, refl, sym, ap, subst, ◌∙◌}
use Rattle.ft_arena.specs.Forest.{kids_of, kids_of_entry, kids_of_node, block_value, block_of_entry, block_of_node, leaf_value, leaf_of_entry, leaf_of_node, with_block}
use Rattle.ft_shape.specs.declared.headed.Headed.{Headed}
use Rattle.ft_shape.specs.Steps.{SameShape}
use Rattle.ft_shape.specs.Told.{told}
use Rattle.ft_shape.proofs.RefreshLemmas.{refreshed_shape}
use Rattle.ft_shape.proofs.ToldLemmas.{written_tells}
use Rattle.ft_overlap.specs.declared.items.Span.{Span}
use Rattle.ft_overlap.specs.Inside.{IsSpan, SpansLast}
use Rattle.ft_overlap.proofs.Renamed.{one_known, renamed_known}
use Rattle.ft_overlap.proofs.names.rename.Goals as goal

pub returns-clause-shape : goal.returns-clause-shape
returns-clause-shape g c =
    let s = c.args.arena.now in
    let b = c.args.block in
    let w : Headed Span = record { height = c.in-Block.value.height; sum = c.span_over-sum.result } in
    let kids : kids_of s b ≡ c.in-Block.kids = ap kids_of_entry c.read.ensures.node ∙ ap kids_of_node c.in-Block.is in
    let value : block_value s b ≡ Some c.in-Block.value = ap block_of_entry c.read.ensures.node ∙ ap block_of_node c.in-Block.is in
    let shape : SameShape s (with_block s b w) = refreshed_shape s b c.in-Block.value w value refl c.requires.forest in
    shape

pub returns-clause-one : goal.returns-clause-one
returns-clause-one g c =
    let s = c.args.arena.now in
    let b = c.args.block in
    let w : Headed Span = record { height = c.in-Block.value.height; sum = c.span_over-sum.result } in
    let kids : kids_of s b ≡ c.in-Block.kids = ap kids_of_entry c.read.ensures.node ∙ ap kids_of_node c.in-Block.is in
    let value : block_value s b ≡ Some c.in-Block.value = ap block_of_entry c.read.ensures.node ∙ ap block_of_node c.in-Block.is in
    let shape : SameShape s (with_block s b w) = refreshed_shape s b c.in-Block.value w value refl c.requires.forest in
    written_tells IsSpan s b c.in-Block.value w value c.requires.apart (shape.kids b) (subst (λ (ks : List ℕ). IsSpan w.sum (map (told s) ks)) (sym kids)
    record { one = c.span_over-sum.ensures.one; start = c.span_over-sum.ensures.start })

pub returns-clause-last : goal.returns-clause-last
returns-clause-last g c =
    let s = c.args.arena.now in
    let b = c.args.block in
    let w : Headed Span = record { height = c.in-Block.value.height; sum = c.span_over-sum.result } in
    let kids : kids_of s b ≡ c.in-Block.kids = ap kids_of_entry c.read.ensures.node ∙ ap kids_of_node c.in-Block.is in
    let value : block_value s b ≡ Some c.in-Block.value = ap block_of_entry c.read.ensures.node ∙ ap block_of_node c.in-Block.is in
    let shape : SameShape s (with_block s b w) = refreshed_shape s b c.in-Block.value w value refl c.requires.forest in
    written_tells (SpansLast (g.P.Places.end_place c.args.at.now)) s b c.in-Block.value w value c.requires.apart (shape.kids b)
    (subst (λ (ks : List ℕ). SpansLast (g.P.Places.end_place c.args.at.now) w.sum (map (told s) ks)) (sym kids) c.span_over-sum.ensures.last)

pub returns-clause-known : goal.returns-clause-known
returns-clause-known g c =
    let s = c.args.arena.now in
    let b = c.args.block in
    let w : Headed Span = record { height = c.in-Block.value.height; sum = c.span_over-sum.result } in
    let kids : kids_of s b ≡ c.in-Block.kids = ap kids_of_entry c.read.ensures.node ∙ ap kids_of_node c.in-Block.is in
    let value : block_value s b ≡ Some c.in-Block.value = ap block_of_entry c.read.ensures.node ∙ ap block_of_node c.in-Block.is in
    let shape : SameShape s (with_block s b w) = refreshed_shape s b c.in-Block.value w value refl c.requires.forest in
    let leaf : leaf_value s b ≡ None = ap leaf_of_entry c.read.ensures.node ∙ ap leaf_of_node c.in-Block.is in
    renamed_known (g.P.Places.Knows c.args.at.now) s c.requires.known b c.in-Block.value w value (shape.leaf_values b ∙ leaf)
    (one_known (g.P.Places.Knows c.args.at.now) s c.requires.known c.in-Block.kids w.sum.last c.span_over-sum.ensures.one)
