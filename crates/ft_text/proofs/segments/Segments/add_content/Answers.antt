use Rattle.std.proofs.Common.{◌∙◌}
use Rattle.std.proofs.lemmas.Result.{on_ok_weaker}
use Rattle.ft_text.proofs.SavedLeaves.{adds-run}
use Rattle.ft_text.proofs.segments.Segments.add_content.Goals as goal

pub returns-in_ok-characters-in-Some : goal.returns-in_ok-characters-in-Some
returns-in_ok-characters-in-Some c =
    on_ok_weaker c.add_characters.result
    (adds-run c.args.head.now c.args.content.now _ _ c.args.self.now c.add_characters.new.self c.in-Some.ensures.value (c.deref.ensures.value ∙ c.in_ok-characters-in-Some.ensures))
    c.add_characters.ensures
