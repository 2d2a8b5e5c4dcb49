-- Each is computed by the definitions.
use Rattle.std.proofs.Common.{refl}
use Rattle.ft_json.specs.Canonical.{canonical}
use Rattle.ft_json.specs.Fields.{field_name}
use Rattle.ft_json.specs.Reading.{array_field, count, count_field, field, given_field, items, num_field, pairs, read_line, signed_field, str_field, text_field, whole_within}
use Rattle.ft_op.specs.GridGrammar.{cell_op, cell_write, grid_op, group as grid_group, group_item as grid_group_item, is_group, splice, splice_in, splice_out}
use Rattle.ft_op.specs.Reading.{given_properties, kept_value, range, set_value}
use Rattle.ft_op.specs.TextGrammar.{adjustment, adjustment_beside, annotation, base_op, bound, given_adjustments, group, group_item, insertion, interval_add, interval_change, interval_delete, interval_ends, interval_op, new_ends, removal, segment, text_op}
use Rattle.ft_msg.specs.MessageGrammar.{contents_body, draft, draft_of, grid_body, message, message_of, op_body, text_body}
use Rattle.ft_seqr.specs.EventGrammar.{blame_event, event_of_client, client_name_field, counted_event, edit_event, event, event_of, guest_event, offer_event, overlap_event, places, start_event, submit_event}
use Rattle.ft_seqr.specs.Refusals.{refused_line}
use Rattle.ft_seqr.specs.SessionReport.{closing_lines, head_line}
use Rattle.ft_seqr.specs.ViewLines.{content_lines, object_text}
use Rattle.serde_json.specs.Read.{number_of}
use Rattle.json.specs.Json.{items as json_items, members, value}
use Rattle.json.specs.Word.{after_number, word}
use Rattle.json.specs.Text.{code_unit, short_escape, content}
use Rattle.json.specs.Lex.{lex, punctuate}
use Rattle.json.specs.Print.{escape_byte}
use Rattle.std.specs.Str.{chars, is_utf8}
use Rattle.std.specs.Fmt.{digits}
use Rattle.std.specs.Float.Numeral.{scan_numeral}
use lib.Utf8.{encode}
use Rattle.ft_laws_examples.specs.RowsOfReports.{OrdinarySession, GuestNacks, OffersRefused, TrueOfferTaken, GuestGroupHalfSkipped, SummaryKeepsRecentRemoval, SummaryKeepsAuthor, HistoryWritten, ReconnectMovesPendingText, ReconnectSendsOnlyUnsequenced, RemovalRegeneratedInRuns, CompactionKeepsFloor, IntervalRefusals, EditRange, OverlapShown, OverlapReversed, BlameAndAuthors, BlameRange, AdjustOnTop, DeepCellThroughSummary, EndpointSettlesStageByStage, GroupRegenerated, PendingCellOnTop, PendingPropertyOnTop, ReconnectSettlesInterval, RecycledRowIsEmpty, RemoteInsertPassesPendingRun, SummaryKeepsAuthorCompacted, SessionRefusals}
use Rattle.ft_laws_examples.proofs.reports.reports.Goals as goal

-- each session, the report of which is as it stands there
record Computed : Type 0 where
  ordinary_session : OrdinarySession
  guest_nacks : GuestNacks
  offers_refused : OffersRefused
  true_offer_taken : TrueOfferTaken
  guest_group_half_skipped : GuestGroupHalfSkipped
  summary_keeps_recent_removal : SummaryKeepsRecentRemoval
  summary_keeps_author : SummaryKeepsAuthor
  history_written : HistoryWritten
  reconnect_moves_pending_text : ReconnectMovesPendingText
  reconnect_sends_only_unsequenced : ReconnectSendsOnlyUnsequenced
  removal_regenerated_in_runs : RemovalRegeneratedInRuns
  compaction_keeps_floor : CompactionKeepsFloor
  interval_refusals : IntervalRefusals
  edit_range : EditRange
  overlap_shown : OverlapShown
  overlap_reversed : OverlapReversed
  blame_and_authors : BlameAndAuthors
  blame_range : BlameRange
  adjust_on_top : AdjustOnTop
  deep_cell_through_summary : DeepCellThroughSummary
  endpoint_settles_stage_by_stage : EndpointSettlesStageByStage
  group_regenerated : GroupRegenerated
  pending_cell_on_top : PendingCellOnTop
  pending_property_on_top : PendingPropertyOnTop
  reconnect_settles_interval : ReconnectSettlesInterval
  recycled_row_is_empty : RecycledRowIsEmpty
  remote_insert_passes_pending_run : RemoteInsertPassesPendingRun
  summary_keeps_author_compacted : SummaryKeepsAuthorCompacted
  session_refusals : SessionRefusals

computed : Computed
unfolding canonical field_name array_field count count_field field given_field items num_field pairs read_line signed_field str_field text_field
    whole_within cell_op cell_write grid_op grid_group grid_group_item is_group splice splice_in splice_out given_properties kept_value range
    set_value adjustment adjustment_beside annotation base_op bound given_adjustments group group_item insertion interval_add interval_change
    interval_delete interval_ends interval_op new_ends removal segment text_op contents_body draft draft_of grid_body message message_of op_body
    text_body blame_event event_of_client client_name_field counted_event edit_event event event_of guest_event offer_event overlap_event places
    start_event submit_event refused_line closing_lines head_line content_lines object_text number_of json_items members value after_number word
    code_unit short_escape content lex punctuate escape_byte chars is_utf8 digits encode scan_numeral
computed = record {
  ordinary_session = record { shown = refl; applied = refl };
  guest_nacks = record { shown = refl; applied = refl };
  offers_refused = record { shown = refl; applied = refl };
  true_offer_taken = record { shown = refl; applied = refl };
  guest_group_half_skipped = record { shown = refl; applied = refl };
  summary_keeps_recent_removal = record { shown = refl; applied = refl };
  summary_keeps_author = record { shown = refl; applied = refl };
  history_written = record { shown = refl; applied = refl };
  reconnect_moves_pending_text = record { shown = refl; applied = refl };
  reconnect_sends_only_unsequenced = record { shown = refl; applied = refl };
  removal_regenerated_in_runs = record { shown = refl; applied = refl };
  compaction_keeps_floor = record { shown = refl; applied = refl };
  interval_refusals = record { shown = refl; applied = refl };
  edit_range = record { shown = refl; applied = refl };
  overlap_shown = record { shown = refl; applied = refl };
  overlap_reversed = record { shown = refl; applied = refl };
  blame_and_authors = record { shown = refl; applied = refl };
  blame_range = record { shown = refl; applied = refl };
  adjust_on_top = record { shown = refl; applied = refl };
  deep_cell_through_summary = record { shown = refl; applied = refl };
  endpoint_settles_stage_by_stage = record { shown = refl; applied = refl };
  group_regenerated = record { shown = refl; applied = refl };
  pending_cell_on_top = record { shown = refl; applied = refl };
  pending_property_on_top = record { shown = refl; applied = refl };
  reconnect_settles_interval = record { shown = refl; applied = refl };
  recycled_row_is_empty = record { shown = refl; applied = refl };
  remote_insert_passes_pending_run = record { shown = refl; applied = refl };
  summary_keeps_author_compacted = record { shown = refl; applied = refl };
  session_refusals = record { shown = refl; applied = refl };
}

pub returns-clause-ordinary_session : goal.returns-clause-ordinary_session
returns-clause-ordinary_session c = computed.ordinary_session

pub returns-clause-guest_nacks : goal.returns-clause-guest_nacks
returns-clause-guest_nacks c = computed.guest_nacks

pub returns-clause-offers_refused : goal.returns-clause-offers_refused
returns-clause-offers_refused c = computed.offers_refused

pub returns-clause-true_offer_taken : goal.returns-clause-true_offer_taken
returns-clause-true_offer_taken c = computed.true_offer_taken

pub returns-clause-guest_group_half_skipped : goal.returns-clause-guest_group_half_skipped
returns-clause-guest_group_half_skipped c = computed.guest_group_half_skipped

pub returns-clause-summary_keeps_recent_removal : goal.returns-clause-summary_keeps_recent_removal
returns-clause-summary_keeps_recent_removal c = computed.summary_keeps_recent_removal

pub returns-clause-summary_keeps_author : goal.returns-clause-summary_keeps_author
returns-clause-summary_keeps_author c = computed.summary_keeps_author

pub returns-clause-history_written : goal.returns-clause-history_written
returns-clause-history_written c = computed.history_written

pub returns-clause-reconnect_moves_pending_text : goal.returns-clause-reconnect_moves_pending_text
returns-clause-reconnect_moves_pending_text c = computed.reconnect_moves_pending_text

pub returns-clause-reconnect_sends_only_unsequenced : goal.returns-clause-reconnect_sends_only_unsequenced
returns-clause-reconnect_sends_only_unsequenced c = computed.reconnect_sends_only_unsequenced

pub returns-clause-removal_regenerated_in_runs : goal.returns-clause-removal_regenerated_in_runs
returns-clause-removal_regenerated_in_runs c = computed.removal_regenerated_in_runs

pub returns-clause-compaction_keeps_floor : goal.returns-clause-compaction_keeps_floor
returns-clause-compaction_keeps_floor c = computed.compaction_keeps_floor

pub returns-clause-interval_refusals : goal.returns-clause-interval_refusals
returns-clause-interval_refusals c = computed.interval_refusals

pub returns-clause-edit_range : goal.returns-clause-edit_range
returns-clause-edit_range c = computed.edit_range

pub returns-clause-overlap_shown : goal.returns-clause-overlap_shown
returns-clause-overlap_shown c = computed.overlap_shown

pub returns-clause-overlap_reversed : goal.returns-clause-overlap_reversed
returns-clause-overlap_reversed c = computed.overlap_reversed

pub returns-clause-blame_and_authors : goal.returns-clause-blame_and_authors
returns-clause-blame_and_authors c = computed.blame_and_authors

pub returns-clause-blame_range : goal.returns-clause-blame_range
returns-clause-blame_range c = computed.blame_range

pub returns-clause-adjust_on_top : goal.returns-clause-adjust_on_top
returns-clause-adjust_on_top c = computed.adjust_on_top

pub returns-clause-deep_cell_through_summary : goal.returns-clause-deep_cell_through_summary
returns-clause-deep_cell_through_summary c = computed.deep_cell_through_summary

pub returns-clause-endpoint_settles_stage_by_stage : goal.returns-clause-endpoint_settles_stage_by_stage
returns-clause-endpoint_settles_stage_by_stage c = computed.endpoint_settles_stage_by_stage

pub returns-clause-group_regenerated : goal.returns-clause-group_regenerated
returns-clause-group_regenerated c = computed.group_regenerated

pub returns-clause-pending_cell_on_top : goal.returns-clause-pending_cell_on_top
returns-clause-pending_cell_on_top c = computed.pending_cell_on_top

pub returns-clause-pending_property_on_top : goal.returns-clause-pending_property_on_top
returns-clause-pending_property_on_top c = computed.pending_property_on_top

pub returns-clause-reconnect_settles_interval : goal.returns-clause-reconnect_settles_interval
returns-clause-reconnect_settles_interval c = computed.reconnect_settles_interval

pub returns-clause-recycled_row_is_empty : goal.returns-clause-recycled_row_is_empty
returns-clause-recycled_row_is_empty c = computed.recycled_row_is_empty

pub returns-clause-remote_insert_passes_pending_run : goal.returns-clause-remote_insert_passes_pending_run
returns-clause-remote_insert_passes_pending_run c = computed.remote_insert_passes_pending_run

pub returns-clause-summary_keeps_author_compacted : goal.returns-clause-summary_keeps_author_compacted
returns-clause-summary_keeps_author_compacted c = computed.summary_keeps_author_compacted

pub returns-clause-session_refusals : goal.returns-clause-session_refusals
returns-clause-session_refusals c = computed.session_refusals
