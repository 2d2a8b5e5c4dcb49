use Rattle.std.proofs.Common.{sym, ◌∙◌, arith}
use Rattle.ft_block.specs.Tree.{by_view}
use Rattle.ft_block.proofs.InsideLemmas.{in_depth, in_found, in_length, in_sound, in_tree, in_kept}
use Rattle.ft_block.proofs.blocks.Blocks.find_in.Goals as goal

pub returns-then-p-eq0-clause-depth : goal.returns-then-p-eq0-clause-depth
returns-then-p-eq0-clause-depth g c = in_depth g.L.Leaf.size g.L.Leaf.element c.self.inside c.args.self.now c.self.view_is c.self.invariant c.requires.usable

pub returns-in-Ok-clause-found : goal.returns-in-Ok-clause-found
returns-in-Ok-clause-found g c = in_found g.L.Leaf.size g.L.Leaf.element c.self.inside c.args.self.now c.self.view_is c.self.invariant c.requires.usable
    (by_view g.L.Leaf.size g.L.Leaf.element c.args.view) c.args.p _ _ (omega (arith, c.if-p-eq0.false)) c.in-Ok.ensures.found

pub returns-in-Ok-clause-depth : goal.returns-in-Ok-clause-depth
returns-in-Ok-clause-depth g c = in_depth g.L.Leaf.size g.L.Leaf.element c.self.inside c.args.self.now c.self.view_is c.self.invariant c.requires.usable

pub returns-in-Err-clause-length : goal.returns-in-Err-clause-length
returns-in-Err-clause-length g c = c.in-Err.ensures.past
    ∙ sym (in_length g.L.Leaf.size g.L.Leaf.element c.self.inside c.args.self.now c.self.view_is c.self.invariant c.requires.usable
    (by_view g.L.Leaf.size g.L.Leaf.element c.args.view))

pub returns-in-Err-clause-depth : goal.returns-in-Err-clause-depth
returns-in-Err-clause-depth g c = in_depth g.L.Leaf.size g.L.Leaf.element c.self.inside c.args.self.now c.self.view_is c.self.invariant c.requires.usable

pub find_from-requires-clause-tree : goal.find_from-requires-clause-tree
find_from-requires-clause-tree g c = in_tree g.L.Leaf.size g.L.Leaf.element c.self.inside c.args.self.now c.self.view_is c.self.invariant c.requires.usable c.in-Some.root
    c.in-Some.is

pub find_from-requires-clause-kept : goal.find_from-requires-clause-kept
find_from-requires-clause-kept g c = in_kept g.L.Leaf.size g.L.Leaf.element c.self.inside c.args.self.now c.self.view_is c.self.invariant c.requires.usable c.args.view
    c.requires.kept

pub find_from-requires-clause-floors : goal.find_from-requires-clause-floors
find_from-requires-clause-floors g c = (in_sound g.L.Leaf.size g.L.Leaf.element c.self.inside c.args.self.now c.self.view_is c.self.invariant c.requires.usable).floors

pub find_from-requires-clause-sums : goal.find_from-requires-clause-sums
find_from-requires-clause-sums g c = (in_sound g.L.Leaf.size g.L.Leaf.element c.self.inside c.args.self.now c.self.view_is c.self.invariant c.requires.usable).sums
    c.args.view (in_kept g.L.Leaf.size g.L.Leaf.element c.self.inside c.args.self.now c.self.view_is c.self.invariant c.requires.usable c.args.view c.requires.kept)
