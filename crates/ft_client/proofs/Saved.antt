-- Text and table write their parts of a summary, each for itself: together they are that of the document.
use Rattle.std.proofs.Common.{◌≡◌, ◌≤◌, ◌<◌, ◌^◌, List, [], ◌∷◌, length, refl, sym, ◌∙◌, ap, subst, map}
use Rattle.ft_op.specs.Stages.{Stage}
use Rattle.ft_props.specs.Compaction.{trim_list}
use Rattle.ft_props.specs.Properties.{Characters}
use Rattle.ft_sumdoc.specs.declared.summary.SumDoc.{SumDoc}
use Rattle.ft_sumdoc.specs.Runs.{unit_count}
use Rattle.ft_sumdoc.specs.Segments.{text_length}
use Rattle.ft_msg.specs.Client.{stages_of}
use Rattle.ft_msg.specs.Summary.{trim}
use Rattle.ft_msg.specs.SummaryOf.{summary_of}
use Rattle.ft_replica.specs.Own.{HeldDocument, HoldsOne, NamesFit}
use Rattle.ft_laws_summaries.specs.Summaries.{IsSmall}
use Rattle.ft_laws_summaries.proofs.ValidSegments.{runs-count}
use Rattle.ft_string.specs.Calls.{KeepsSummary, SavesText}
use Rattle.ft_string.specs.Holds.{IsTextSound}
use Rattle.ft_matrix.specs.Shown.{with_units}
use Rattle.ft_client.specs.declared.own.TreeOwn.{TreeOwn}
use Rattle.ft_client.specs.Holds.{HoldsTree}
use Rattle.ft_client.specs.Numbers.{IsShortSummary, bare_summary}
use Rattle.ft_client.specs.Parts.{own_stage}
use Rattle.ft_client.proofs.Known.{held-sound}

-- ---- nothing is pending

no-stages : (ts : List Stage) → map own_stage ts ≡ [] → ts ≡ []
no-stages [] e = refl
no-stages (t ∷ ts) e = (cc)

module _ (s : TreeOwn) (known : HoldsOne HoldsTree s (λ p. p.pending ≡ [])) where
  idle : stages_of known.client ≡ []
  idle = ap (λ es. stages_of (record known.client { pending = es })) known.fits

  pub idle-stages : s.stages.items ≡ []
  idle-stages = known.document.stages ∙ ap (map own_stage) idle

  pub held-idle : (held : HeldDocument) → HoldsTree s held → held.stages ≡ []
  held-idle held h = no-stages held.stages (sym h.stages ∙ idle-stages)

  pub saved-sound : (held : HeldDocument) → NamesFit held → HoldsTree s held → IsTextSound held.last held.doc []
  saved-sound held named h =
      subst (λ ts. IsTextSound held.last held.doc ts) (held-idle held h) (held-sound known.start known.client known.made s known.low known.document held named h)

  pub summed : (conns : List Characters) (held : HeldDocument) (mid new : SumDoc) → HoldsTree s held → SavesText held.doc (bare_summary s.numbers conns) mid
      → KeepsSummary (bare_summary s.numbers conns) mid → new ≡ with_units held.doc mid → new ≡ summary_of conns held.doc
  summed conns held mid new h t keeps e =
      e ∙ ap (with_units held.doc) keeps
      ∙ rw (h.numbers.number, h.numbers.minimum, h.numbers.skipped, h.numbers.other, t.text, t.intervals, h.numbers.minimum) refl

  -- ---- how many elements there are
  pub small : (held : HeldDocument) (conns : List Characters) (mid new : SumDoc) → HoldsTree s held → SavesText held.doc (bare_summary s.numbers conns) mid
      → KeepsSummary (bare_summary s.numbers conns) mid → new ≡ with_units held.doc mid → IsShortSummary new → IsSmall held.doc
  small held conns mid new h t keeps e short =
      let same : new ≡ with_units held.doc (record (bare_summary s.numbers conns) { text = mid.text; intervals = mid.intervals }) = e ∙ ap (with_units held.doc) keeps in
      let long : text_length new.text ≡ length (trim held.doc).text.items =
      ap (λ (d : SumDoc). text_length d.text) same ∙ t.count ∙ ap (λ n. length (trim_list n held.doc.text).items) h.numbers.minimum in
      record {
        number = subst (λ n. n < 2 ^ 53) (ap (λ (d : SumDoc). d.seq) same ∙ h.numbers.number) short.seq;
        skipped = subst (λ n. n < 2 ^ 53) (ap (λ (d : SumDoc). d.skipped) same ∙ h.numbers.skipped) short.skipped;
        other = subst (λ n. n < 2 ^ 53) (ap (λ (d : SumDoc). d.other) same ∙ h.numbers.other) short.other;
        text = subst (λ n. n < 2 ^ 53) long short.text;
        rows = subst (λ n. n ≤ 2 ^ 52) (ap (λ (d : SumDoc). unit_count d.rows) same ∙ runs-count (trim held.doc).rows.items) short.rows;
        cols = subst (λ n. n ≤ 2 ^ 52) (ap (λ (d : SumDoc). unit_count d.cols) same ∙ runs-count (trim held.doc).cols.items) short.cols;
      }
