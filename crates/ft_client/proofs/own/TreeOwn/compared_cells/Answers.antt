use Rattle.std.proofs.Common.{◌≡◌, [], cond, subst, sym}
use Rattle.std.specs.Prelude.{IfOk}
use Rattle.ft_msg.specs.Client.{stages_of}
use Rattle.ft_changes.specs.Shown.{shown_content}
use Rattle.ft_client.proofs.Shown.{view-above}
use Rattle.ft_client.proofs.own.TreeOwn.compared_cells.Goals as goal

pub returns-then-asked : goal.returns-then-asked
returns-then-asked c = λ low p named e h.
    subst (λ b. IfOk c.shown_cells.result (λ cells. cells ≡ cond b (shown_content p).cells [])) (sym c.if-asked.true)
    (c.shown_cells.ensures p.last_stage p.doc (stages_of p) h.numbers.fits named h.table (view-above c.args.self.now c.args.last c.requires p.last_stage e))
