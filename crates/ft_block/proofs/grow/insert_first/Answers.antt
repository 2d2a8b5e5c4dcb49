use Rattle.std.proofs.Common.{refl, ◌≡◌, ℕ, [], None, length, ap, sym, ◌∙◌, ◌∷◌, arith}
use Rattle.ft_arena.specs.Forest.{Forest, entry, leaf_value, leaf_of_entry, parent_of_entry}
use Rattle.ft_shape.specs.declared.headed.Headed.{Headed}
use Rattle.ft_block.specs.declared.summaries.Summary.{Summary}
use Rattle.ft_block.specs.Tree.{by_view}
use Rattle.ft_shape.proofs.EditLemmas.{is_some_from}
use Rattle.ft_shape.proofs.FirstLemmas.{only_tree, only_inserts, only_sums}
use Rattle.ft_shape.proofs.FitLemmas.{leaf_length}
use Rattle.ft_block.proofs.KeptLemmas.{same_floors, added_floors, linked_floors, bare_floors}
use Rattle.ft_block.proofs.RootLemmas.{new_apart, made_block, made_bare, made_live, made_alone, first_block, first_apart, first_fit}
use Rattle.ft_block.proofs.ViewLemmas.{seen_le}
use Rattle.std.proofs.lemmas.Result.{IfOk-from_err}
use Rattle.ft_block.proofs.grow.insert_first.Goals as goal

pub returns-clause-tree : goal.returns-clause-tree
returns-clause-tree g c =
    let at0 : (x : ℕ) → entry c.reserve.new.self x ≡ None = λ x. ap (λ (s : Forest g.row.L.Denot (Headed Summary)). entry s x) c.reserve.ensures.kept ∙ c.requires.bare.nodes x in
    let none : c.reserve.new.self.leaves ≡ [] = ap (λ (s : Forest g.row.L.Denot (Headed Summary)). s.leaves) c.reserve.ensures.kept ∙ c.requires.bare.leaves in
    only_tree c.reserve.new.self c.link_after-id.new.self c.add_block-top.new.self c.put_child.new.self c.rebuild.new.arena c.link_after-id.result c.add_block-top.result
    c.args.leaf _ refl at0 none c.link_after-id.ensures.leaves c.link_after-id.ensures.changes c.add_block-top.ensures.leaves
    c.add_block-top.ensures.fresh c.add_block-top.ensures.changes c.put_child.ensures.leaves c.put_child.ensures.puts c.in_ok-rebuild.ensures.shape

pub returns-clause-sums : goal.returns-clause-sums
returns-clause-sums g c = λ view k.
    let at0 : (x : ℕ) → entry c.reserve.new.self x ≡ None = λ x. ap (λ (s : Forest g.row.L.Denot (Headed Summary)). entry s x) c.reserve.ensures.kept ∙ c.requires.bare.nodes x in
    let none : c.reserve.new.self.leaves ≡ [] = ap (λ (s : Forest g.row.L.Denot (Headed Summary)). s.leaves) c.reserve.ensures.kept ∙ c.requires.bare.leaves in
    only_sums c.reserve.new.self c.link_after-id.new.self c.add_block-top.new.self c.put_child.new.self c.rebuild.new.arena c.link_after-id.result c.add_block-top.result
    c.args.leaf _ refl at0 none c.link_after-id.ensures.leaves c.link_after-id.ensures.changes c.add_block-top.ensures.leaves
    c.add_block-top.ensures.fresh c.add_block-top.ensures.changes c.put_child.ensures.leaves c.put_child.ensures.puts c.in_ok-rebuild.ensures.shape
    (by_view g.L.Leaf.size g.L.Leaf.element view) (c.in_ok-rebuild.ensures.sums view k)

pub returns-clause-inserts : goal.returns-clause-inserts
returns-clause-inserts g c =
    let at0 : (x : ℕ) → entry c.reserve.new.self x ≡ None = λ x. ap (λ (s : Forest g.row.L.Denot (Headed Summary)). entry s x) c.reserve.ensures.kept ∙ c.requires.bare.nodes x in
    let none : c.reserve.new.self.leaves ≡ [] = ap (λ (s : Forest g.row.L.Denot (Headed Summary)). s.leaves) c.reserve.ensures.kept ∙ c.requires.bare.leaves in
    let i = only_inserts c.reserve.new.self c.link_after-id.new.self c.add_block-top.new.self c.put_child.new.self c.rebuild.new.arena c.link_after-id.result
    c.add_block-top.result c.args.leaf _ refl at0 none c.link_after-id.ensures.leaves c.link_after-id.ensures.changes
    c.add_block-top.ensures.leaves c.add_block-top.ensures.fresh c.add_block-top.ensures.changes c.put_child.ensures.leaves c.put_child.ensures.puts
    c.in_ok-rebuild.ensures.shape in
    let e : (x : ℕ) → leaf_value c.reserve.new.self x ≡ leaf_value c.args.arena.now x =
    λ x. ap (λ (s : Forest g.row.L.Denot (Headed Summary)). leaf_value s x) c.reserve.ensures.kept in
    record {
      leaves = i.leaves ∙ ap (λ (s : Forest g.row.L.Denot (Headed Summary)). c.link_after-id.result ∷ s.leaves) c.reserve.ensures.kept;
      fresh = sym (e c.link_after-id.result) ∙ i.fresh;
      value = i.value;
      others = λ x d. i.others x d ∙ e x;
    }

pub rebuild-requires-clause-floors : goal.rebuild-requires-clause-floors
rebuild-requires-clause-floors g c =
    let at0 : (x : ℕ) → entry c.reserve.new.self x ≡ None = λ x. ap (λ (s : Forest g.row.L.Denot (Headed Summary)). entry s x) c.reserve.ensures.kept ∙ c.requires.bare.nodes x in
    same_floors c.args.floor c.add_block-top.new.self c.put_child.new.self c.put_child.ensures.puts.block_values
    (added_floors c.args.floor c.link_after-id.new.self c.add_block-top.new.self c.add_block-top.result _ _ c.add_block-top.ensures.changes
    c.new.ensures.floor (linked_floors c.args.floor c.reserve.new.self c.link_after-id.new.self c.link_after-id.result c.args.leaf _ c.link_after-id.ensures.changes
    (bare_floors c.args.floor c.reserve.new.self at0)))

pub returns-clause-floors : goal.returns-clause-floors
returns-clause-floors g c = c.in_ok-rebuild.ensures.floors

pub link_after-id-requires-clause-room : goal.link_after-id-requires-clause-room
link_after-id-requires-clause-room g c = omega (arith, c.in_ok-reserve.ensures.room)

pub link_after-id-requires-clause-place : goal.link_after-id-requires-clause-place
link_after-id-requires-clause-place g c = tt

pub add_block-top-requires : goal.add_block-top-requires
add_block-top-requires g c = omega (arith, c.in_ok-reserve.ensures.room, c.link_after-id.ensures.spare)

pub put_child-requires-clause-block : goal.put_child-requires-clause-block
put_child-requires-clause-block g c = made_block c.link_after-id.new.self c.add_block-top.new.self c.add_block-top.result _
    c.add_block-top.ensures.fresh c.add_block-top.ensures.changes

pub put_child-requires-clause-child : goal.put_child-requires-clause-child
put_child-requires-clause-child g c = made_live c.link_after-id.new.self c.add_block-top.new.self c.add_block-top.result _
    c.add_block-top.ensures.fresh c.add_block-top.ensures.changes
    c.link_after-id.result (is_some_from (entry c.link_after-id.new.self c.link_after-id.result) _ c.link_after-id.ensures.changes.changed)

pub put_child-requires-clause-at : goal.put_child-requires-clause-at
put_child-requires-clause-at g c = omega arith

pub put_child-requires-clause-room : goal.put_child-requires-clause-room
put_child-requires-clause-room g c = omega (
  arith,
  ap length (made_bare c.link_after-id.new.self c.add_block-top.new.self c.add_block-top.result _ c.add_block-top.ensures.fresh
      c.add_block-top.ensures.changes),
)

pub put_child-requires-clause-alone : goal.put_child-requires-clause-alone
put_child-requires-clause-alone g c = made_alone c.link_after-id.new.self c.add_block-top.new.self c.add_block-top.result _
    c.add_block-top.ensures.fresh c.add_block-top.ensures.changes
    c.link_after-id.result (is_some_from (entry c.link_after-id.new.self c.link_after-id.result) _ c.link_after-id.ensures.changes.changed)
    (ap parent_of_entry c.link_after-id.ensures.changes.changed)

pub put_child-requires-clause-differ : goal.put_child-requires-clause-differ
put_child-requires-clause-differ g c = new_apart c.link_after-id.new.self c.add_block-top.new.self c.add_block-top.result _
    c.add_block-top.ensures.fresh c.add_block-top.ensures.changes
    c.link_after-id.result (is_some_from (entry c.link_after-id.new.self c.link_after-id.result) _ c.link_after-id.ensures.changes.changed)

pub rebuild-requires-clause-block : goal.rebuild-requires-clause-block
rebuild-requires-clause-block g c = first_block c.link_after-id.new.self c.add_block-top.new.self c.add_block-top.result _
    c.add_block-top.ensures.fresh c.add_block-top.ensures.changes
    c.link_after-id.result (is_some_from (entry c.link_after-id.new.self c.link_after-id.result) _ c.link_after-id.ensures.changes.changed)
    c.put_child.new.self c.put_child.ensures.puts

pub rebuild-requires-clause-forest : goal.rebuild-requires-clause-forest
rebuild-requires-clause-forest g c = c.put_child.ensures.sound

pub rebuild-requires-clause-apart : goal.rebuild-requires-clause-apart
rebuild-requires-clause-apart g c = first_apart c.link_after-id.new.self c.add_block-top.new.self c.add_block-top.result _
    c.add_block-top.ensures.fresh c.add_block-top.ensures.changes
    c.link_after-id.result (is_some_from (entry c.link_after-id.new.self c.link_after-id.result) _ c.link_after-id.ensures.changes.changed)
    c.put_child.new.self c.put_child.ensures.puts

pub rebuild-requires-clause-fits : goal.rebuild-requires-clause-fits
rebuild-requires-clause-fits g c = λ view k.
    first_fit c.link_after-id.new.self c.add_block-top.new.self c.add_block-top.result _ c.add_block-top.ensures.fresh c.add_block-top.ensures.changes
    c.link_after-id.result (is_some_from (entry c.link_after-id.new.self c.link_after-id.result) _ c.link_after-id.ensures.changes.changed)
    c.put_child.new.self c.put_child.ensures.puts
    (by_view g.L.Leaf.size g.L.Leaf.element view) (omega (
      arith,
      leaf_length (by_view g.L.Leaf.size g.L.Leaf.element view) (entry c.link_after-id.new.self c.link_after-id.result) c.args.leaf
          (ap leaf_of_entry c.link_after-id.ensures.changes.changed),
      seen_le g.L.Leaf.size g.L.Leaf.element view c.args.leaf,
      c.requires.fits,
    ))

pub returns-in_err-reserve : goal.returns-in_err-reserve
returns-in_err-reserve g c =
    let r = c.from_residual in
    record {
      tree = IfOk-from_err r.result _ r.ensures.0;
      sums = IfOk-from_err r.result _ r.ensures.0;
      floors = IfOk-from_err r.result _ r.ensures.0;
      inserts = IfOk-from_err r.result _ r.ensures.0;
    }

pub returns-in_err-rebuild : goal.returns-in_err-rebuild
returns-in_err-rebuild g c =
    let r = c.from_residual-in_err-rebuild in
    record {
      tree = IfOk-from_err r.result _ r.ensures.0;
      sums = IfOk-from_err r.result _ r.ensures.0;
      floors = IfOk-from_err r.result _ r.ensures.0;
      inserts = IfOk-from_err r.result _ r.ensures.0;
    }
