use Rattle.std.proofs.Common.{◌++◌, ◌∙◌, ap, subst, sym}
use Rattle.std.proofs.lemmas.Result.{on_ok_weaker}
use Rattle.ft_msg.specs.declared.views.View.{View}
use Rattle.ft_string.specs.Holds.{HoldsText}
use Rattle.ft_string.proofs.CarriedIntervals.{intervals-alike}
use Rattle.ft_string.proofs.ShownTexts.{characters-alike, markers-alike, runs-alike, seen-alike-all}
use Rattle.ft_string.proofs.strings.SharedString.view.Goals as goal

pub returns-clause-shows : goal.returns-clause-shows
returns-clause-shows c last doc stages sound holds =
    let a = c.self.inside in
    let here = subst (λ s. HoldsText s doc stages) (sym c.self.view_is) holds in
    let seen = seen-alike-all a.tree a.intervals.state (a.again.items ++ a.ops.items) a.given last a.usable doc stages sound here in
    let e = c.in_ok-show_elements.ensures in
    let same = c.show_intervals.ensures.others in
    on_ok_weaker c.show_intervals.result (λ shown. record {
      text = ap (λ (v : View). v.text) same ∙ e.text ∙ characters-alike last seen;
      markers = ap (λ (v : View). v.markers) same ∙ e.markers ∙ markers-alike last 0 seen;
      runs = ap (λ (v : View). v.runs) same ∙ e.runs ∙ runs-alike last 0 seen;
      intervals = shown
          ∙ intervals-alike a.tree a.intervals.state (a.again.items ++ a.ops.items) a.given last a.usable doc stages sound here c.first_stage-first.ensures.names
          (c.made_in-made.ensures.few 18446744073709551615);
    }) c.show_intervals.ensures.intervals

pub returns-clause-others : goal.returns-clause-others
returns-clause-others c =
    let e = c.show_elements.ensures.others in
    let same = c.show_intervals.ensures.others in
    record {
      numbers = ap (λ (v : View). v.numbers) same ∙ e.numbers;
      rows = ap (λ (v : View). v.rows) same ∙ e.rows;
      cols = ap (λ (v : View). v.cols) same ∙ e.cols;
      cells = ap (λ (v : View). v.cells) same ∙ e.cells;
    }
