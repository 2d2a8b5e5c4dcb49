use Rattle.ft_replay.proofs.PlayLaws.{content_text-shows, shown_on}
use Rattle.ft_replay.proofs.showing.Showing.add.Goals as goal

pub returns : goal.returns
returns c shown d h is =
    let added = c.add_line-added in
    shown_on c.args.self.now added.new.self c.keep_first.new.first added.result c.keep_first.result shown d c.args.view h (content_text-shows c.args.view d is.shows) c.keep_first.ensures.done
    (added.ensures.lines d is) added.ensures.first added.ensures.all c.keep_first.ensures.first
