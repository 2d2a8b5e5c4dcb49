use Rattle.std.proofs.Common.{ap, sym, ◌∙◌}
use Rattle.std.proofs.lemmas.Int.{to_z-of_z}
use Rattle.ft_overlap.specs.Items.{keys_within}
use Rattle.ft_overlap.proofs.InsideLemmas.{in_depth, in_tree, in_known, in_rising, in_greatest, in_none, in_named, in_root_live, in_cost, in_keys}
use Rattle.ft_overlap.proofs.index.Index.query.Goals as goal

pub returns-in-None-clause-keys : goal.returns-in-None-clause-keys
returns-in-None-clause-keys g c = c.new-found.ensures.items ∙ sym (ap (keys_within (g.P.Places.end_place c.args.at.now) c.args.a c.args.b) (in_none (g.P.Places.end_place c.args.at.now) c.self.inside c.args.self.now c.self.view_is c.self.invariant c.in-None.is))

pub returns-in-None-clause-depth : goal.returns-in-None-clause-depth
returns-in-None-clause-depth g c = in_depth (g.P.Places.end_place c.args.at.now) c.self.inside c.args.self.now c.self.view_is c.self.invariant

pub returns-in_err-collect-in-Some-clause-depth : goal.returns-in_err-collect-in-Some-clause-depth
returns-in_err-collect-in-Some-clause-depth g c = in_depth (g.P.Places.end_place c.args.at.now) c.self.inside c.args.self.now c.self.view_is c.self.invariant

pub returns-in_ok-collect-in-Some-clause-depth : goal.returns-in_ok-collect-in-Some-clause-depth
returns-in_ok-collect-in-Some-clause-depth g c = in_depth (g.P.Places.end_place c.args.at.now) c.self.inside c.args.self.now c.self.view_is c.self.invariant

pub collect-requires-clause-tree : goal.collect-requires-clause-tree
collect-requires-clause-tree g c = in_tree (g.P.Places.end_place c.args.at.now) c.self.inside c.args.self.now c.self.view_is c.self.invariant c.in-Some.root c.in-Some.is

pub collect-requires-clause-live : goal.collect-requires-clause-live
collect-requires-clause-live g c = in_root_live (g.P.Places.end_place c.args.at.now) c.self.inside c.args.self.now c.self.view_is c.self.invariant c.in-Some.root c.in-Some.is

pub collect-requires-clause-known : goal.collect-requires-clause-known
collect-requires-clause-known g c = in_known (g.P.Places.end_place c.args.at.now) c.self.inside c.args.self.now c.self.view_is
    c.self.invariant c.in-Some.root c.in-Some.is (g.P.Places.Knows c.args.at.now) c.requires.known

pub collect-requires-clause-rising : goal.collect-requires-clause-rising
collect-requires-clause-rising g c = in_rising (g.P.Places.end_place c.args.at.now) c.self.inside c.args.self.now c.self.view_is
    c.self.invariant c.in-Some.root c.in-Some.is c.requires.order

pub collect-requires-clause-named : goal.collect-requires-clause-named
collect-requires-clause-named g c = in_named (g.P.Places.end_place c.args.at.now) c.self.inside c.args.self.now c.self.view_is c.self.invariant c.in-Some.root c.in-Some.is

pub collect-requires-clause-greatest : goal.collect-requires-clause-greatest
collect-requires-clause-greatest g c = in_greatest (g.P.Places.end_place c.args.at.now) c.self.inside c.args.self.now c.self.view_is
    c.self.invariant c.in-Some.root c.in-Some.is c.requires.order

pub returns-in_err-collect-in-Some-clause-cost : goal.returns-in_err-collect-in-Some-clause-cost
returns-in_err-collect-in-Some-clause-cost g c = in_cost (g.P.Places.end_place c.args.at.now) c.self.inside c.args.self.now c.self.view_is
    c.self.invariant c.in-Some.root c.in-Some.is _ _ c.args.a c.args.b (to_z-of_z _ c.args.a c.ranges.a) (to_z-of_z _ c.args.b c.ranges.b)
    _ _ c.in_err-collect-in-Some.ensures.cheap

pub returns-in_ok-collect-in-Some-clause-cost : goal.returns-in_ok-collect-in-Some-clause-cost
returns-in_ok-collect-in-Some-clause-cost g c = in_cost (g.P.Places.end_place c.args.at.now) c.self.inside c.args.self.now c.self.view_is
    c.self.invariant c.in-Some.root c.in-Some.is _ _ c.args.a c.args.b (to_z-of_z _ c.args.a c.ranges.a) (to_z-of_z _ c.args.b c.ranges.b)
    _ _ c.in_ok-collect-in-Some.ensures.cheap

pub returns-in_ok-collect-in-Some-clause-keys : goal.returns-in_ok-collect-in-Some-clause-keys
returns-in_ok-collect-in-Some-clause-keys g c = in_keys (g.P.Places.end_place c.args.at.now) c.self.inside c.args.self.now c.self.view_is
    c.self.invariant c.in-Some.root c.in-Some.is _ _ c.args.a c.args.b (to_z-of_z _ c.args.a c.ranges.a) (to_z-of_z _ c.args.b c.ranges.b)
    c.new-found.result.items c.collect.new.found.items c.new-found.ensures.items c.in_ok-collect-in-Some.ensures.found.keys
