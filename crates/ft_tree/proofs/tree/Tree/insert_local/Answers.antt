use Rattle.std.proofs.lemmas.Result.{on_ok_weaker}
use Rattle.ft_block.specs.Leaves.{last_stage}
use Rattle.ft_tree_leaves.specs.Elements.{seen_in}
use Rattle.ft_tree.proofs.TreeInside.{held_listed}
use Rattle.ft_tree.proofs.tree.Tree.insert_local.Goals as goal

pub returns-in-Ok-clause-elements : goal.returns-in-Ok-clause-elements
returns-in-Ok-clause-elements g c =
    let us = g.C.Content.units in
    let by = g.C.Content.by in
    let place = held_listed us by c.self.inside c.args.self.now c.self.view_is c.in-Ok.found.leaf c.in-Ok.found.offset
    (seen_in {U = g.row.C-Unit.Denot} last_stage) c.args.p c.list.result.now c.list.ensures c.in-Ok.ensures.place in
    on_ok_weaker c.put.result (λ p. p.list) (c.put.ensures.ok last_stage c.args.p place)

pub returns-in-Ok-clause-refs : goal.returns-in-Ok-clause-refs
returns-in-Ok-clause-refs g c =
    let us = g.C.Content.units in
    let by = g.C.Content.by in
    let place = held_listed us by c.self.inside c.args.self.now c.self.view_is c.in-Ok.found.leaf c.in-Ok.found.offset
    (seen_in {U = g.row.C-Unit.Denot} last_stage) c.args.p c.list.result.now c.list.ensures c.in-Ok.ensures.place in
    on_ok_weaker c.put.result (λ p. p.refs) (c.put.ensures.ok last_stage c.args.p place)

pub returns-in-Ok-clause-nodes : goal.returns-in-Ok-clause-nodes
returns-in-Ok-clause-nodes g c =
    let us = g.C.Content.units in
    let by = g.C.Content.by in
    let place = held_listed us by c.self.inside c.args.self.now c.self.view_is c.in-Ok.found.leaf c.in-Ok.found.offset
    (seen_in {U = g.row.C-Unit.Denot} last_stage) c.args.p c.list.result.now c.list.ensures c.in-Ok.ensures.place in
    on_ok_weaker c.put.result (λ p. p.nodes) (c.put.ensures.ok last_stage c.args.p place)

pub returns-in-Ok-clause-rest : goal.returns-in-Ok-clause-rest
returns-in-Ok-clause-rest g c =
    let us = g.C.Content.units in
    let by = g.C.Content.by in
    let place = held_listed us by c.self.inside c.args.self.now c.self.view_is c.in-Ok.found.leaf c.in-Ok.found.offset
    (seen_in {U = g.row.C-Unit.Denot} last_stage) c.args.p c.list.result.now c.list.ensures c.in-Ok.ensures.place in
    on_ok_weaker c.put.result (λ p. p.rest) (c.put.ensures.ok last_stage c.args.p place)

pub returns-in-Ok-clause-made : goal.returns-in-Ok-clause-made
returns-in-Ok-clause-made g c =
    let us = g.C.Content.units in
    let by = g.C.Content.by in
    let place = held_listed us by c.self.inside c.args.self.now c.self.view_is c.in-Ok.found.leaf c.in-Ok.found.offset
    (seen_in {U = g.row.C-Unit.Denot} last_stage) c.args.p c.list.result.now c.list.ensures c.in-Ok.ensures.place in
    on_ok_weaker c.put.result (λ p. p.made) (c.put.ensures.ok last_stage c.args.p place)
