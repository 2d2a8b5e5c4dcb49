use Rattle.std.proofs.Common.{◌≡◌, Some, ap, refl, sym, ◌∙◌}
use Rattle.ft_io.specs.Streams.{Rose}
use Rattle.ft_cli.specs.declared.words.Form.TheVariants.{Gen, Load, Log, Map, Play, Session}
use Rattle.ft_cli.specs.Words.{form_of, texts_of}
use Rattle.ft_cli.proofs.WordLaws.{moves_read, moves_unread, moves_usage, sink_kept, source_kept, whole_steady}
use Rattle.ft_cli.proofs.running.run.Goals as goal

pub returns-in-None-clause-moves : goal.returns-in-None-clause-moves
returns-in-None-clause-moves g c =
    moves_usage (form_of (texts_of c.args.words.now.items)) (g.S.Source.remaining c.args.src.now) (g.K.Sink.contents c.args.out.now)
    (Rose (g.S.Source.faults c.args.src.now) (g.S.Source.faults c.args.src.now)) (Rose (g.K.Sink.faults c.args.out.now) (g.K.Sink.faults c.args.out.now))
    (sym c.read_words.ensures.form ∙ c.in-None.is)

pub returns-in-Some-Log-clause-moves : goal.returns-in-Some-Log-clause-moves
returns-in-Some-Log-clause-moves g c =
    moves_read (form_of (texts_of c.args.words.now.items)) Log (sym c.read_words.ensures.form ∙ c.in-Some-Log.is ∙ ap Some c.in-Some-Log.field-0-is) refl
    (g.S.Source.remaining c.args.src.now) (g.S.Source.remaining c.replay_log.new.src) (g.K.Sink.contents c.args.out.now) (g.K.Sink.contents c.replay_log.new.out)
    (Rose (g.S.Source.faults c.args.src.now) (g.S.Source.faults c.replay_log.new.src)) (Rose (g.K.Sink.faults c.args.out.now) (g.K.Sink.faults c.replay_log.new.out))
    c.ended.result c.replay_log.result c.ended.ensures c.replay_log.ensures.run

pub returns-in-Some-Load-clause-moves : goal.returns-in-Some-Load-clause-moves
returns-in-Some-Load-clause-moves g c =
    moves_read (form_of (texts_of c.args.words.now.items)) Load (sym c.read_words.ensures.form ∙ c.in-Some-Load.is ∙ ap Some c.in-Some-Load.field-0-is) refl
    (g.S.Source.remaining c.args.src.now) (g.S.Source.remaining c.replay_load.new.src) (g.K.Sink.contents c.args.out.now) (g.K.Sink.contents c.replay_load.new.out)
    (Rose (g.S.Source.faults c.args.src.now) (g.S.Source.faults c.replay_load.new.src)) (Rose (g.K.Sink.faults c.args.out.now) (g.K.Sink.faults c.replay_load.new.out))
    c.ended-in-Some-Load.result c.replay_load.result c.ended-in-Some-Load.ensures c.replay_load.ensures.run

pub returns-in-Some-Map-clause-moves : goal.returns-in-Some-Map-clause-moves
returns-in-Some-Map-clause-moves g c =
    moves_read (form_of (texts_of c.args.words.now.items)) Map (sym c.read_words.ensures.form ∙ c.in-Some-Map.is ∙ ap Some c.in-Some-Map.field-0-is) refl
    (g.S.Source.remaining c.args.src.now) (g.S.Source.remaining c.replay_map.new.src) (g.K.Sink.contents c.args.out.now) (g.K.Sink.contents c.replay_map.new.out)
    (Rose (g.S.Source.faults c.args.src.now) (g.S.Source.faults c.replay_map.new.src)) (Rose (g.K.Sink.faults c.args.out.now) (g.K.Sink.faults c.replay_map.new.out))
    c.ended-in-Some-Map.result c.replay_map.result c.ended-in-Some-Map.ensures c.replay_map.ensures.run

pub returns-in-Some-Session-clause-moves : goal.returns-in-Some-Session-clause-moves
returns-in-Some-Session-clause-moves g c =
    moves_read (form_of (texts_of c.args.words.now.items)) Session (sym c.read_words.ensures.form ∙ c.in-Some-Session.is ∙ ap Some c.in-Some-Session.field-0-is) refl
    (g.S.Source.remaining c.args.src.now) (g.S.Source.remaining c.replay_session.new.src) (g.K.Sink.contents c.args.out.now) (g.K.Sink.contents c.replay_session.new.out)
    (Rose (g.S.Source.faults c.args.src.now) (g.S.Source.faults c.replay_session.new.src)) (Rose (g.K.Sink.faults c.args.out.now) (g.K.Sink.faults c.replay_session.new.out))
    c.ended-in-Some-Session.result c.replay_session.result c.ended-in-Some-Session.ensures c.replay_session.ensures.run

pub returns-in-Some-Gen-clause-moves : goal.returns-in-Some-Gen-clause-moves
returns-in-Some-Gen-clause-moves g c =
    moves_unread (form_of (texts_of c.args.words.now.items)) (Gen c.in-Some-Gen.settings) (sym c.read_words.ensures.form ∙ c.in-Some-Gen.is ∙ ap Some c.in-Some-Gen.field-0-is) refl
    (g.S.Source.remaining c.args.src.now) (g.K.Sink.contents c.args.out.now) (g.K.Sink.contents c.write_generated.new.out) (Rose (g.S.Source.faults c.args.src.now) (g.S.Source.faults c.args.src.now))
    (g.K.Sink.faults c.args.out.now) (g.K.Sink.faults c.write_generated.new.out) c.ended-in-Some-Gen.result c.write_generated.result c.ended-in-Some-Gen.ensures c.write_generated.ensures.ends
    c.write_generated.ensures.writes

pub returns-in-Some-Play-clause-moves : goal.returns-in-Some-Play-clause-moves
returns-in-Some-Play-clause-moves g c =
    moves_unread (form_of (texts_of c.args.words.now.items)) (Play c.in-Some-Play.settings) (sym c.read_words.ensures.form ∙ c.in-Some-Play.is ∙ ap Some c.in-Some-Play.field-0-is) refl
    (g.S.Source.remaining c.args.src.now) (g.K.Sink.contents c.args.out.now) (g.K.Sink.contents c.write_play.new.out) (Rose (g.S.Source.faults c.args.src.now) (g.S.Source.faults c.args.src.now))
    (g.K.Sink.faults c.args.out.now) (g.K.Sink.faults c.write_play.new.out) c.ended-in-Some-Play.result c.write_play.result c.ended-in-Some-Play.ensures c.write_play.ensures.ends
    c.write_play.ensures.writes

pub returns-in-Some-Gen-clause-steady : goal.returns-in-Some-Gen-clause-steady
returns-in-Some-Gen-clause-steady g c whole =
    (refl, whole_steady (g.K.Sink.faults c.write_generated.new.out ≡ g.K.Sink.faults c.args.out.now) c.write_generated.result c.ended-in-Some-Gen.result c.ended-in-Some-Gen.ensures c.write_generated.ensures.steady whole)

pub returns-in-Some-Play-clause-steady : goal.returns-in-Some-Play-clause-steady
returns-in-Some-Play-clause-steady g c whole =
    (refl, whole_steady (g.K.Sink.faults c.write_play.new.out ≡ g.K.Sink.faults c.args.out.now) c.write_play.result c.ended-in-Some-Play.result c.ended-in-Some-Play.ensures c.write_play.ensures.steady whole)

pub returns-in-Some-Log-clause-source_kept : goal.returns-in-Some-Log-clause-source_kept
returns-in-Some-Log-clause-source_kept g c =
    source_kept (g.S.Source.faults c.replay_log.new.src ≡ g.S.Source.faults c.args.src.now) c.replay_log.result c.ended.result c.ended.ensures c.replay_log.ensures.source_kept

pub returns-in-Some-Log-clause-sink_kept : goal.returns-in-Some-Log-clause-sink_kept
returns-in-Some-Log-clause-sink_kept g c =
    sink_kept (g.K.Sink.faults c.replay_log.new.out ≡ g.K.Sink.faults c.args.out.now) c.replay_log.result c.ended.result c.ended.ensures c.replay_log.ensures.sink_kept

pub returns-in-Some-Load-clause-source_kept : goal.returns-in-Some-Load-clause-source_kept
returns-in-Some-Load-clause-source_kept g c =
    source_kept (g.S.Source.faults c.replay_load.new.src ≡ g.S.Source.faults c.args.src.now) c.replay_load.result c.ended-in-Some-Load.result c.ended-in-Some-Load.ensures c.replay_load.ensures.source_kept

pub returns-in-Some-Load-clause-sink_kept : goal.returns-in-Some-Load-clause-sink_kept
returns-in-Some-Load-clause-sink_kept g c =
    sink_kept (g.K.Sink.faults c.replay_load.new.out ≡ g.K.Sink.faults c.args.out.now) c.replay_load.result c.ended-in-Some-Load.result c.ended-in-Some-Load.ensures c.replay_load.ensures.sink_kept

pub returns-in-Some-Map-clause-source_kept : goal.returns-in-Some-Map-clause-source_kept
returns-in-Some-Map-clause-source_kept g c =
    source_kept (g.S.Source.faults c.replay_map.new.src ≡ g.S.Source.faults c.args.src.now) c.replay_map.result c.ended-in-Some-Map.result c.ended-in-Some-Map.ensures c.replay_map.ensures.source_kept

pub returns-in-Some-Map-clause-sink_kept : goal.returns-in-Some-Map-clause-sink_kept
returns-in-Some-Map-clause-sink_kept g c =
    sink_kept (g.K.Sink.faults c.replay_map.new.out ≡ g.K.Sink.faults c.args.out.now) c.replay_map.result c.ended-in-Some-Map.result c.ended-in-Some-Map.ensures c.replay_map.ensures.sink_kept

pub returns-in-Some-Session-clause-source_kept : goal.returns-in-Some-Session-clause-source_kept
returns-in-Some-Session-clause-source_kept g c =
    source_kept (g.S.Source.faults c.replay_session.new.src ≡ g.S.Source.faults c.args.src.now) c.replay_session.result c.ended-in-Some-Session.result c.ended-in-Some-Session.ensures c.replay_session.ensures.source_kept

pub returns-in-Some-Session-clause-sink_kept : goal.returns-in-Some-Session-clause-sink_kept
returns-in-Some-Session-clause-sink_kept g c =
    sink_kept (g.K.Sink.faults c.replay_session.new.out ≡ g.K.Sink.faults c.args.out.now) c.replay_session.result c.ended-in-Some-Session.result c.ended-in-Some-Session.ensures c.replay_session.ensures.sink_kept

pub returns-in-Some-Gen-clause-sink_kept : goal.returns-in-Some-Gen-clause-sink_kept
returns-in-Some-Gen-clause-sink_kept g c =
    sink_kept (g.K.Sink.faults c.write_generated.new.out ≡ g.K.Sink.faults c.args.out.now) c.write_generated.result c.ended-in-Some-Gen.result c.ended-in-Some-Gen.ensures c.write_generated.ensures.kept

pub returns-in-Some-Play-clause-sink_kept : goal.returns-in-Some-Play-clause-sink_kept
returns-in-Some-Play-clause-sink_kept g c =
    sink_kept (g.K.Sink.faults c.write_play.new.out ≡ g.K.Sink.faults c.args.out.now) c.write_play.result c.ended-in-Some-Play.result c.ended-in-Some-Play.ensures c.write_play.ensures.kept
