-- What waits behind what was written before: what a line writes, or no more than the first of it where there was no memory.
use Rattle.std.proofs.Common.{◌≡◌, ℕ, zero, suc, ◌+◌, ◌<◌, ◌≤◌, List, [], ◌∷◌, ◌++◌, Some, None, Ok, Err, refl, sym, ◌∙◌, ap, append_assoc, arith, length}
use Rattle.ft_io.specs.Reader.{input_limit}
use Rattle.ft_msg.specs.declared.replica.Replica.{Ghosts}
use Rattle.ft_replay.specs.declared.endings.Ending.{Ending}
use Rattle.ft_replay.specs.declared.endings.Ending.TheVariants.{Done, SomeRefused}
use Rattle.ft_replay.specs.declared.endings.Fault.{Fault}
use Rattle.ft_replay.specs.declared.endings.Fault.TheVariants.{Read, Write, OutOfMemory, InputLimit}
use Rattle.ft_replay.specs.SessionReplays.{LinesGrow, ReportsEnd, end_bytes, heard_ending, heard_refused, line_bytes, lines_bytes, report_bytes}
use Rattle.ft_replay.specs.Writing.{Begins, SaysOfWritten, WritesBytes}
use Rattle.ft_report.specs.Reports.{ending_number}
use Rattle.ft_door.specs.declared.sessions.HeldSession.{HeldSession}
use Rattle.ft_door.specs.Runs.{Breaks, ClosesSession, HearsLine, IsClosed, Stands, unread_of}

-- a fault says that the first of the bytes were written
begins_of : (T rose : Type 0) (bytes written : List ℕ) (fault : Fault) → SaysOfWritten {T = T} rose bytes written (Err fault) → Begins written bytes
begins_of T rose bytes written Read says = absurd says
begins_of T rose bytes written Write says = says.1
begins_of T rose bytes written OutOfMemory says = says
begins_of T rose bytes written InputLimit says = absurd says

-- bytes were to be written behind those that wait, of a session that was taken out, and there was a fault
pub breaks : {R T : Type 0} {g : Ghosts R} (run : HeldSession R g) (waits bytes more read : List ℕ) (before now : ℕ) (fault : Fault) → run.session ≡ None → read ++ waits ≡ bytes
    → WritesBytes {T = T} (Some waits) (Some (unread_of run)) before now more (Err fault) → Breaks run bytes more read
breaks {R} {T} {g} run waits bytes more read before now fault ended is h = record {
  session = ended;
  written = h.written;
  begins = begins_of T _ more h.written fault h.says;
  report = ap (λ unread. read ++ unread) h.takes ∙ sym (append_assoc read waits h.written) ∙ ap (λ front. front ++ h.written) is;
}

-- .. and so with a line
pub line-broken : {R : Type 0} {g : Ghosts R} (old new : HeldSession R g) (line : List ℕ) → (old.session ≡ None → ⊥)
    → ((heard : List (List ℕ)) → (read : List ℕ) → Stands old heard read → Breaks new (lines_bytes heard) (line_bytes heard line) read) → HearsLine old new line 5
line-broken old new line runs h = record {
  heard = λ heard read small. absurd (omega (arith, small));
  refused = λ heard read small. absurd (omega (arith, small));
  broken = λ heard read is has. h heard read has;
  full = λ heard read is. absurd (cc);
  same = λ large. absurd (omega (arith, large));
  closed = λ is. absurd (cc);
  known = refl;
  after_end = λ none. absurd (runs none);
}

-- .. and with what ends the report
pub end-broken : {R : Type 0} {g : Ghosts R} (old new : HeldSession R g) → (old.session ≡ None → ⊥)
    → ((heard : List (List ℕ)) → (read : List ℕ) → Stands old heard read → Breaks new (lines_bytes heard) (end_bytes heard) read) → ClosesSession old new 5
end-broken old new runs h = record {
  closed = λ heard read small. absurd (omega (arith, small));
  ends = λ heard read small. absurd (omega (arith, small));
  broken = λ heard read is has. h heard read has;
  same = λ is. absurd (cc);
  none = λ is. absurd (cc);
  known = refl;
  after_end = λ none. absurd (runs none);
}

-- bytes were written behind those that wait, and these are those of a line more
pub report-more : {T : Type 0} (waits unread : List ℕ) (heard : List (List ℕ)) (line read : List ℕ) (before now : ℕ) (done : T) → LinesGrow
    → read ++ waits ≡ lines_bytes heard → WritesBytes {T = T} (Some waits) (Some unread) before now (line_bytes heard line) (Ok done)
    → read ++ unread ≡ lines_bytes (heard ++ line ∷ [])
report-more waits unread heard line read before now done grow is h =
    ap (λ later. read ++ later) h.takes
    ∙ sym (append_assoc read waits h.written)
    ∙ ap (λ front. front ++ h.written) is
    ∙ ap (λ later. lines_bytes heard ++ later) h.says
    ∙ sym (grow heard line)

-- the last lines were written behind those that wait, and the report is whole
pub report-whole : {T : Type 0} (waits unread : List ℕ) (heard : List (List ℕ)) (read : List ℕ) (before now : ℕ) (done : T) → ReportsEnd
    → read ++ waits ≡ lines_bytes heard → WritesBytes {T = T} (Some waits) (Some unread) before now (end_bytes heard) (Ok done)
    → read ++ unread ≡ report_bytes heard
report-whole waits unread heard read before now done end is h =
    ap (λ later. read ++ later) h.takes
    ∙ sym (append_assoc read waits h.written)
    ∙ ap (λ front. front ++ h.written) is
    ∙ ap (λ later. lines_bytes heard ++ later) h.says
    ∙ sym (end heard)

-- how many were refused, by the status of a line more
pub refused-more : (before now old new status : ℕ) → before ≡ old → now ≡ new → (old ≤ new) × (new ≤ old + 1)
    → (before ≤ now → now ≤ before + 1 → before + status ≡ now) → new ≡ old + status
refused-more before now old new status was is once sum =
    let low = once.0 in
    let high = once.1 in
    let told = sum (omega (arith, was, is, low)) (omega (arith, was, is, high)) in
    omega (arith, was, is, told)

-- a line was heard
pub line-heard : {R : Type 0} {g : Ghosts R} (old new : HeldSession R g) (line : List ℕ) (status : ℕ) → (old.session ≡ None → ⊥) → status ≤ 1
    → ((heard : List (List ℕ)) → (read : List ℕ) → Stands old heard read → Stands new (heard ++ line ∷ []) read)
    → ((heard : List (List ℕ)) → (read : List ℕ) → Stands old heard read → heard_refused (heard ++ line ∷ []) ≡ heard_refused heard + status) → HearsLine old new line status
line-heard old new line zero runs low h r = record {
  heard = λ heard read small has. h heard read has;
  refused = λ heard read small has. r heard read has;
  broken = λ heard read is. absurd (cc);
  full = λ heard read is. absurd (cc);
  same = λ large. absurd (omega (arith, large));
  closed = λ is. absurd (cc);
  known = refl;
  after_end = λ none. absurd (runs none);
}
line-heard old new line (suc zero) runs low h r = record {
  heard = λ heard read small has. h heard read has;
  refused = λ heard read small has. r heard read has;
  broken = λ heard read is. absurd (cc);
  full = λ heard read is. absurd (cc);
  same = λ large. absurd (omega (arith, large));
  closed = λ is. absurd (cc);
  known = refl;
  after_end = λ none. absurd (runs none);
}
line-heard old new line (suc (suc n)) runs low h r = absurd (omega (arith, low))

-- there were as many lines as there may be, and nothing changed
pub line-full : {R : Type 0} {g : Ghosts R} (old new : HeldSession R g) (line : List ℕ) → (old.session ≡ None → ⊥) → new ≡ old
    → ((heard : List (List ℕ)) → (read : List ℕ) → Stands old heard read → input_limit < length heard) → HearsLine old new line 6
line-full old new line runs same many = record {
  heard = λ heard read small. absurd (omega (arith, small));
  refused = λ heard read small. absurd (omega (arith, small));
  broken = λ heard read is. absurd (cc);
  full = λ heard read six has. many heard read has;
  same = λ large. same;
  closed = λ is. absurd (cc);
  known = refl;
  after_end = λ none. absurd (runs none);
}

-- the session is closed, and its report ends so
pub session-closed : {R : Type 0} {g : Ghosts R} (old new : HeldSession R g) (ending : Ending) → (old.session ≡ None → ⊥)
    → ((heard : List (List ℕ)) → (read : List ℕ) → Stands old heard read → IsClosed new heard read)
    → ((heard : List (List ℕ)) → (read : List ℕ) → Stands old heard read → ending ≡ heard_ending heard) → ClosesSession old new (ending_number ending)
session-closed old new Done runs closed ends = record {
  closed = λ heard read small has. closed heard read has;
  ends = λ heard read small has. ap ending_number (ends heard read has);
  broken = λ heard read is. absurd (cc);
  same = λ is. absurd (cc);
  none = λ is. absurd (cc);
  known = refl;
  after_end = λ none. absurd (runs none);
}
session-closed old new SomeRefused runs closed ends = record {
  closed = λ heard read small has. closed heard read has;
  ends = λ heard read small has. ap ending_number (ends heard read has);
  broken = λ heard read is. absurd (cc);
  same = λ is. absurd (cc);
  none = λ is. absurd (cc);
  known = refl;
  after_end = λ none. absurd (runs none);
}
