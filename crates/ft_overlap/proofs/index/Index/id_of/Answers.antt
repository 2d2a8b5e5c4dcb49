use Rattle.std.proofs.Common.{option_map, ap, sym, ◌∙◌}
use Rattle.ft_overlap.specs.declared.index.Keyed.{Keyed}
use Rattle.ft_overlap.specs.Items.{ItemList, id_at}
use Rattle.ft_overlap.proofs.KeyedLeaves.{ids_in}
use Rattle.ft_overlap.proofs.index.Index.id_of.Goals as goal

pub returns-in-Some : goal.returns-in-Some
returns-in-Some c =
    ap (option_map (λ (v : Keyed). v.id)) c.in-Some.ensures.value ∙ sym (ids_in c.self.inside.by_key c.args.key)
    ∙ ap (λ (w : ItemList). id_at c.args.key w.ids) c.self.view_is

pub returns-in-None : goal.returns-in-None
returns-in-None c =
    ap (option_map (λ (v : Keyed). v.id)) c.in-None.ensures.value ∙ sym (ids_in c.self.inside.by_key c.args.key)
    ∙ ap (λ (w : ItemList). id_at c.args.key w.ids) c.self.view_is
