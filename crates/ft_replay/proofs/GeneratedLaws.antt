-- How far the lines of a generated session are written, and how each end of that is what is asked.
use Rattle.std.proofs.Common.{◌≡◌, ℕ, ◌≤◌, List, ◌∷◌, ◌++◌, Option, Result, Ok, Err, sym, ◌∙◌, ap, subst, arith, append_assoc, map}
use Rattle.std.specs.Io.KnownBytes.{Appends}
use Rattle.ft_io.specs.Lines.{with_lf}
use Rattle.ft_io.proofs.TakenAndLeft.{Appends-append}
use Rattle.ft_seqr.specs.declared.events.Event.{Event}
use Rattle.ft_replay.specs.declared.endings.Fault.{Fault}
use Rattle.ft_replay.specs.declared.endings.Fault.TheVariants.{Read, Write, OutOfMemory, InputLimit}
use Rattle.ft_replay.specs.Generated.{event_line}
use Rattle.ft_replay.specs.LineForm.{bytes_of}
use Rattle.ft_replay.specs.Writing.{Begins, WritesBytes}
use Rattle.ft_replay.proofs.Written.{begins_append, begins_more}

-- the lines of events were written, and those of these are still to be
pub record IsWriting (all events : List Event) (held holds : Option (List ℕ)) : Type 0 where
  pub written : List ℕ
  pub takes : Appends held holds written
  pub whole : bytes_of (map event_line all) ≡ written ++ bytes_of (map event_line events)

module _ {all events : List Event} {held holds : Option (List ℕ)} (writing : IsWriting all events held holds) {start before : ℕ} (later : start ≤ before) where
  module _ (e : Event) (es : List Event) (is_next : events ≡ e ∷ es) (taken : Option (List ℕ)) (now : ℕ) where
    whole_next : bytes_of (map event_line all) ≡ writing.written ++ (with_lf (event_line e) ++ bytes_of (map event_line es))
    whole_next = writing.whole ∙ ap (λ xs. writing.written ++ bytes_of (map event_line xs)) is_next

    -- one more is written
    pub writing_next : {T : Type 0} (done : T) → WritesBytes holds taken before now (with_lf (event_line e)) (Ok done) → IsWriting all es held taken
    writing_next {T} done writes = record {
      written = writing.written ++ writes.written;
      takes = Appends-append held holds taken writing.written writes.written writing.takes writes.takes;
      whole = whole_next ∙ ap (λ line. writing.written ++ (line ++ bytes_of (map event_line es))) (sym writes.says)
          ∙ sym (append_assoc writing.written writes.written (bytes_of (map event_line es)));
    }

    begins_next : {front : List ℕ} → Begins front (with_lf (event_line e)) → Begins (writing.written ++ front) (bytes_of (map event_line all))
    begins_next {front} b =
        subst (Begins (writing.written ++ front)) (sym whole_next) (begins_append writing.written (begins_more (bytes_of (map event_line es)) b))

    -- it isn't written, or in part
    fails_next : (T U : Type 0) (fault : Fault) → WritesBytes {T = U} holds taken before now (with_lf (event_line e)) (Err fault)
        → WritesBytes {T = T} held taken start now (bytes_of (map event_line all)) (Err fault)
    fails_next T U Read writes = absurd writes.says
    fails_next T U InputLimit writes = absurd writes.says
    fails_next T U Write writes = record {
      written = writing.written ++ writes.written;
      takes = Appends-append held holds taken writing.written writes.written writing.takes writes.takes;
      later = omega (arith, later, writes.later);
      says = (omega (arith, later, writes.says.0), begins_next writes.says.1);
    }
    fails_next T U OutOfMemory writes = record {
      written = writing.written ++ writes.written;
      takes = Appends-append held holds taken writing.written writes.written writing.takes writes.takes;
      later = omega (arith, later, writes.later);
      says = begins_next writes.says;
    }

    pub writing_fails : (T U : Type 0) (fault : Fault) (result : Result T Fault) → result ≡ Err fault
        → WritesBytes {T = U} holds taken before now (with_lf (event_line e)) (Err fault) → WritesBytes {T = T} held taken start now (bytes_of (map event_line all)) result
    writing_fails T U fault result is writes =
        subst (WritesBytes {T = T} held taken start now (bytes_of (map event_line all))) (sym is) (fails_next T U fault writes)
