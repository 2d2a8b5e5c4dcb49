use Rattle.std.proofs.Common.{[], ◌++◌, ◌∙◌, ap, subst, sym}
use Rattle.ft_interval_store.specs.State.{text_elements}
use Rattle.ft_msg.specs.SummaryOf.{segments_from}
use Rattle.ft_props.specs.Compaction.{trim_list}
use Rattle.ft_sumdoc.specs.Segments.{text_length}
use Rattle.ft_named.proofs.Bares.{from-bare}
use Rattle.ft_string.specs.Bare.{text_content}
use Rattle.ft_string.specs.Holds.{HoldsText}
use Rattle.ft_string.proofs.SavedTexts.{text-saved}
use Rattle.ft_string.proofs.SavedLengths.{segments-length}
use Rattle.ft_string.proofs.SavedIntervals.{intervals-saved}
use Rattle.ft_string.proofs.strings.SharedString.save.Goals as goal

pub returns-clause-saves : goal.returns-clause-saves
returns-clause-saves c last held sound holds =
    let a = c.self.inside in
    let here = subst (λ s. HoldsText s held []) (sym c.self.view_is) holds in
    record {
      text = ◌∙◌ {c = segments_from 0 (trim_list c.args.doc.now.min held.text).items} (c.assign.ensures ∙ c.in_ok-text.ensures)
          (text-saved c.args.doc.now.min (text_elements a.tree) held.text.items (from-bare text_content (text_elements a.tree) held.text.items here.elements) sound.place.marks);
      intervals = intervals-saved c.args.doc.now.min last a.tree a.intervals.state (a.again.items ++ a.ops.items) a.given a.usable held
          sound here c.first_stage-first.ensures.names (c.made_in-made.ensures.few 18446744073709551615)
          c.assign-2.new.place c.in_ok-intervals.intervals.items (c.assign-2.ensures ∙ c.of.ensures) c.in_ok-intervals.ensures;
      count = ap text_length (c.assign.ensures ∙ c.in_ok-text.ensures)
          ∙ segments-length c.args.doc.now.min a.tree.leaves held.text.items (from-bare text_content (text_elements a.tree) held.text.items here.elements) sound.place.marks;
    }
