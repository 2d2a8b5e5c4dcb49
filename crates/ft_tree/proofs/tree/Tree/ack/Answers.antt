use Rattle.std.proofs.Common.{All, length, map, option_map, refl, subst, sym, ◌∙◌, ap}
use Rattle.std.proofs.lemmas.List.{length-map}
use Rattle.ft_block.specs.Leaves.{ids}
use Rattle.ft_tree_leaves.specs.Elements.{IsLowestChange, TreeElement, acked_element}
use Rattle.ft_tree_leaves.specs.LeafLists.{elements}
use Rattle.ft_tree_leaves.specs.References.{reference_at, slid_reference}
use Rattle.ft_tree_leaves.proofs.RangeLeaves.{acks}
use Rattle.ft_tree.specs.State.{TreeState}
use Rattle.ft_tree.specs.declared.tree.Tree.TheInside.{Inside}
use Rattle.ft_tree.proofs.TreeInside.{in_sound, same_sound}
use Rattle.ft_tree.proofs.tree.Tree.ack.Goals as goal

pub ack-requires : goal.ack-requires
ack-requires g c =
    let us = g.C.Content.units in
    let by = g.C.Content.by in
    let sound = in_sound us by c.self.inside c.args.self.now c.self.view_is c.self.invariant c.requires.usable in
    record {
      usable = sound.blocks;
      lowest = subst (λ (s : TreeState g.row.C.Denot). All (λ e. IsLowestChange c.args.stage e.overlay) (elements us by s.leaves)) (sym c.self.view_is) c.requires.lowest;
    }

pub invariant_of-self : goal.invariant_of-self
invariant_of-self g c = λ usable.
    let us = g.C.Content.units in
    let by = g.C.Content.by in
    let laws = g.met.C.Content in
    let sound = in_sound us by c.self.inside c.args.self.now c.self.view_is c.self.invariant c.requires.usable in
    let b : Inside g.row.C.Denot g.row.C-Unit.Denot = record {
      blocks = c.ack.new.self;
      alloc = c.self.inside.alloc;
      sweep = c.self.inside.sweep;
      made = c.self.inside.made;
      usable = c.self.inside.usable;
    } in
    let xs = c.self.inside.blocks.leaves in
    let acked = acks us by g.C.Content.author g.C.Content.stamped laws.stamped_units laws.stamped_by c.args.stage c.args.seq c.args.conn xs
    c.ack.new.self.leaves c.in-Ok.ensures.leaves in
    same_sound us by c.self.inside b sound c.in-Ok.ensures.usable acked.times
    (ap length acked.list
    ∙ length-map (elements us by xs) (acked_element c.args.stage c.args.seq c.args.conn (g.C.Content.author c.args.seq c.args.conn)))
    refl refl

pub returns-in-Ok-clause-elements : goal.returns-in-Ok-clause-elements
returns-in-Ok-clause-elements g c =
    let us = g.C.Content.units in
    let by = g.C.Content.by in
    let laws = g.met.C.Content in
    let f : TreeElement g.row.C-Unit.Denot → TreeElement g.row.C-Unit.Denot =
    λ e. acked_element c.args.stage c.args.seq c.args.conn (g.C.Content.author c.args.seq c.args.conn) e in
    let acked = acks us by g.C.Content.author g.C.Content.stamped laws.stamped_units laws.stamped_by c.args.stage c.args.seq c.args.conn
    c.self.inside.blocks.leaves c.ack.new.self.leaves c.in-Ok.ensures.leaves in
    ap (λ (s : TreeState g.row.C.Denot). elements us by s.leaves) c.slide.ensures.rest ∙ acked.list
    ∙ ap (λ (s : TreeState g.row.C.Denot). map f (elements us by s.leaves)) c.self.view_is

pub returns-in-Ok-clause-nodes : goal.returns-in-Ok-clause-nodes
returns-in-Ok-clause-nodes g c =
    let us = g.C.Content.units in
    let by = g.C.Content.by in
    let laws = g.met.C.Content in
    let acked = acks us by g.C.Content.author g.C.Content.stamped laws.stamped_units laws.stamped_by c.args.stage c.args.seq c.args.conn
    c.self.inside.blocks.leaves c.ack.new.self.leaves c.in-Ok.ensures.leaves in
    ap (λ (s : TreeState g.row.C.Denot). ids s.leaves) c.slide.ensures.rest ∙ acked.nodes
    ∙ ap (λ (s : TreeState g.row.C.Denot). ids s.leaves) c.self.view_is

pub returns-in-Ok-clause-refs : goal.returns-in-Ok-clause-refs
returns-in-Ok-clause-refs g c = λ r.
    let us = g.C.Content.units in
    let by = g.C.Content.by in
    let es = elements us by c.ack.new.self.leaves in
    c.slide.ensures.refs r
    ∙ ap (option_map (slid_reference es)) (c.in-Ok.ensures.refs r ∙ ap (λ (s : TreeState g.row.C.Denot). reference_at s.refs r) c.self.view_is)
    ∙ ap (λ (s : TreeState g.row.C.Denot). option_map (slid_reference (elements us by s.leaves)) (reference_at c.args.self.now.refs r)) (sym c.slide.ensures.rest)
