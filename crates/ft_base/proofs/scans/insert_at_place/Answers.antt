use Rattle.ft_base.specs.Visibility.{sees}
use Rattle.ft_base.specs.Scan.{place}
use Rattle.ft_base.proofs.PlainList.{put-place}
use Rattle.std.proofs.Common.{◌∙◌, ap}
use Rattle.std.specs.Prelude.{insert}
use Rattle.ft_base.proofs.scans.insert_at_place.Goals as goal

pub returns-clause-ok : goal.returns-clause-ok
returns-clause-ok c =
    rw (put-place (λ e. sees e c.args.at.r c.args.at.c) c.args.p c.args.new c.args.items.now.items)
    (c.in_ok-insert.ensures.items ∙ ap (λ i. insert c.args.items.now.items i c.args.new) (c.insertion_place-i.ensures.place ∙ ap (place (λ e. sees e c.args.at.r c.args.at.c) c.args.p) c.as_slice.ensures.value))
