use Rattle.std.proofs.Common.{◌≡◌, sym, ◌∙◌, ap, Some, None, nat_eq}
use Rattle.std.specs.Prelude.{position}
use Rattle.ft_props.proofs.PendingStages.{StagesRise-filter, without_stage-found, without_stage-missing}
use Rattle.ft_props.proofs.overlay.Ahead.drop_stage.Goals as goal

pub returns-in_ok-self-clause-pending : goal.returns-in_ok-self-clause-pending
returns-in_ok-self-clause-pending c =
    let i = c.in-Some.i in
    let is_stage = λ (p : _). nat_eq p.0 c.args.stage in
    let pending = c.args.self.now.pending.items in
    let place : position is_stage pending ≡ Some i = ap (position is_stage) (sym c.deref.ensures.value) ∙ sym c.place_of_stage.ensures ∙ c.in-Some.is in
    c.remove.ensures.items ∙ sym (without_stage-found c.args.stage i pending c.requires.rising place)

pub returns-in_ok-self-clause-rising : goal.returns-in_ok-self-clause-rising
returns-in_ok-self-clause-rising c =
    rw (returns-in_ok-self-clause-pending c) (StagesRise-filter c.args.stage c.args.self.now.pending.items c.requires.rising)

pub returns-in_default-clause-pending : goal.returns-in_default-clause-pending
returns-in_default-clause-pending c =
    let is_stage = λ (p : _). nat_eq p.0 c.args.stage in
    let pending = c.args.self.now.pending.items in
    let place : position is_stage pending ≡ None = ap (position is_stage) (sym c.deref.ensures.value) ∙ sym c.place_of_stage.ensures ∙ c.in_default.is in
    sym (without_stage-missing c.args.stage pending c.requires.rising place)
