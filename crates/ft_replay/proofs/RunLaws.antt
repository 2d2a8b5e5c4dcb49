-- Where a run over the lines of a command stands, how it goes on, and how each of its ends is what the definition of a run says.
use Rattle.std.proofs.Common.{◌≡◌, ℕ, ◌+◌, ◌<◌, ◌≤◌, List, [], ◌∷◌, ◌++◌, Option, Result, Ok, Err, refl, sym, ◌∙◌, ap, subst, arith, append-nil, inl, inr, IfOk, OnOk}
use Rattle.std.specs.Io.KnownBytes.{Appends, IsAtEnd}
use Rattle.std.proofs.lemmas.Grind.{flat_map-append}
use Rattle.std.proofs.lemmas.Bool.Decides.{nat_tests}
use Rattle.ft_io.specs.Lines.{lines, ended_lines, with_lf}
use Rattle.ft_io.specs.Reader.{Reader, Call, Reading, handed_out, input_limit, new_reader, to_come}
use Rattle.ft_io.specs.Streams.{Rose}
use Rattle.ft_io.specs.declared.reader.Line.{Line}
use Rattle.ft_io.specs.declared.reader.Line.TheVariants.{End, Full, TooLong}
use Rattle.ft_io.specs.declared.reader.LineFault.{LineFault}
use Rattle.ft_io.specs.declared.reader.LineFault.TheVariants.{Read, InputLimit, OutOfMemory}
use Rattle.ft_io.proofs.TakenAndLeft.{Appends-nil, Appends-append, Consumes-nil}
use Rattle.ft_io.proofs.ReadingLaws.{reading_start, reading_gives, reading_line, reading_end, reading_read, reading_limit, reading_memory, reading_so_far}
use Rattle.ft_replay.specs.declared.endings.Fault.{Fault}
use Rattle.ft_replay.specs.declared.endings.Fault.TheVariants as fault
use Rattle.ft_replay.specs.declared.endings.Ending.{Ending}
use Rattle.ft_replay.specs.Endings.{fault_of_line}
use Rattle.ft_seqr.specs.Walk.{Progress, after_item, begin, written_by_item, written_by_items}
use Rattle.ft_replay.specs.LineForm.{LineForm, account_by, bytes_of, form_after, form_end, form_lines, form_ending, form_step}
use Rattle.ft_replay.specs.Listening.{IsHandedOut}
use Rattle.ft_replay.specs.Writing.{Begins, WritesBytes}
use Rattle.ft_replay.specs.Run.{AllRead, Moves, Says, SaysOfLines}
use Rattle.ft_replay.proofs.Walking.{after_items-append, written_by_items-append}
use Rattle.ft_replay.proofs.Written.{begins_append, begins_more, begins_nil, begins_trans}

-- a line more
pub after-push : {S : Type 0} (form : LineForm S) (handed : List (List ℕ)) (text : List ℕ)
    → form_after form (handed ++ text ∷ []) ≡ after_item (form_step form) (form_after form handed) text
after-push form handed text = after_items-append (form_step form) (begin form.first) handed (text ∷ [])

pub lines-push : {S : Type 0} (form : LineForm S) (handed : List (List ℕ)) (text : List ℕ)
    → bytes_of (form_lines form (handed ++ text ∷ [])) ≡ bytes_of (form_lines form handed) ++ bytes_of (written_by_item (form_step form) (form_after form handed) text)
lines-push form handed text =
    ap bytes_of (written_by_items-append (form_step form) (begin form.first) handed (text ∷ []))
    ∙ flat_map-append with_lf (form_lines form handed) (written_by_items (form_step form) (form_after form handed) (text ∷ []))
    ∙ ap (λ bytes. bytes_of (form_lines form handed) ++ bytes) (ap bytes_of (append-nil (written_by_item (form_step form) (form_after form handed) text)))

-- what the first lines write is the first of what all of them write
begins_lines : {S : Type 0} (form : LineForm S) (handed later : List (List ℕ)) → Begins (bytes_of (form_lines form handed)) (bytes_of (form_lines form (handed ++ later)))
begins_lines form handed later = record {
  later = bytes_of (written_by_items (form_step form) (form_after form handed) later);
  place = ap bytes_of (written_by_items-append (form_step form) (begin form.first) handed later)
      ∙ flat_map-append with_lf (form_lines form handed) (written_by_items (form_step form) (form_after form handed) later);
}

-- .. and of the report
pub begins_report : {S : Type 0} (form : LineForm S) (given : List ℕ) (handed later : List (List ℕ)) → lines given ≡ handed ++ later
    → Begins (bytes_of (form_lines form handed)) ((account_by form).report given)
begins_report form given handed later is =
    let all = lines given in
    subst (Begins (bytes_of (form_lines form handed))) (sym (flat_map-append with_lf (form_lines form all) (form_end form (form_after form all))))
    (begins_more (bytes_of (form_end form (form_after form all)))
    (subst (λ ls. Begins (bytes_of (form_lines form handed)) (bytes_of (form_lines form ls))) (sym is) (begins_lines form handed later)))

-- .. and of what the ended lines write
pub begins_opened : {S : Type 0} (form : LineForm S) (given : List ℕ) (handed later : List (List ℕ)) → ended_lines given ≡ handed ++ later
    → Begins (bytes_of (form_lines form handed)) ((account_by form).opened given)
begins_opened form given handed later is =
    subst (λ ls. Begins (bytes_of (form_lines form handed)) (bytes_of (form_lines form ls))) (sym is) (begins_lines form handed later)

-- Where a run stands: these lines were handed out, what holds after them is known, and what they write was written.
pub record Stands {S : Type 0} (form : LineForm S) (IsAfter : Progress S → Type 0) (first left : Option (List ℕ)) (reader : Reader) (held holds : Option (List ℕ)) : Type 0 where
  pub given : List ℕ
  pub handed : List (List ℕ)
  pub reading : Reading first left reader given handed
  pub after : IsAfter (form_after form handed)
  pub takes : Appends held holds (bytes_of (form_lines form handed))
  pub near : (form_after form handed).lines + to_come reader ≤ input_limit + 1

-- before the first line
pub stands_start : {S : Type 0} (form : LineForm S) (IsAfter : Progress S → Type 0) (first held : Option (List ℕ)) (limit : ℕ) (reader : Reader) → reader ≡ new_reader limit
    → IsAfter (begin form.first) → Stands form IsAfter first first reader held held
stands_start form IsAfter first held limit reader new_is after = subst (λ r. Stands form IsAfter first first r held held) (sym new_is) (record {
  given = [];
  handed = [];
  reading = reading_start first limit;
  after = after;
  takes = Appends-nil held;
  near = omega arith;
})

-- the reader may get another limit
abbrev pub stands_within : {S : Type 0} {form : LineForm S} {IsAfter : Progress S → Type 0} {first left : Option (List ℕ)} {reader : Reader} {held holds : Option (List ℕ)} (limit : ℕ)
    → Stands form IsAfter first left reader held holds → Stands form IsAfter first left (record reader { limit = limit }) held holds
stands_within limit stands = record {
  given = stands.given;
  handed = stands.handed;
  reading = record {
    gives = stands.reading.gives;
    count = stands.reading.count;
    runs = stands.reading.runs;
    goes_on = stands.reading.goes_on;
    ended = stands.reading.ended;
  };
  after = stands.after;
  takes = stands.takes;
  near = stands.near;
}

-- the same said of the answer that a fault is
pub with_fault : {S T : Type 0} (form : LineForm S) (IsAfter : T → Progress S → Type 0) (first left held holds : Option (List ℕ)) (source_rose sink_rose : Type 0)
    {result : Result T Fault} {why : Fault} → result ≡ Err why → Moves first left held holds (Says (account_by form) (IsAtEnd left) source_rose sink_rose (Err why))
    → Moves first left held holds (SaysOfLines form IsAfter left source_rose sink_rose result)
with_fault form IsAfter first left held holds source_rose sink_rose is moves =
    subst (λ r. Moves first left held holds (SaysOfLines form IsAfter left source_rose sink_rose r)) (sym is) moves

-- nothing was read or written, since it was out of memory
pub moves_nothing : {S : Type 0} (form : LineForm S) (first held : Option (List ℕ)) (source_rose sink_rose : Type 0) (result : Result Ending Fault) → result ≡ Err fault.OutOfMemory
    → Moves first first held held (Says (account_by form) (IsAtEnd first) source_rose sink_rose result)
moves_nothing form first held source_rose sink_rose result is =
    subst (λ r. Moves first first held held (Says (account_by form) (IsAtEnd first) source_rose sink_rose r)) (sym is)
    (record { given = []; gives = Consumes-nil first; written = []; takes = Appends-nil held; says = inl (begins_nil ((account_by form).report [])) })

-- a fault that is handed on says the same
pub moves_on : {S : Type 0} (form : LineForm S) (first left held holds : Option (List ℕ)) (source_rose sink_rose : Type 0) {result : Result Ending Fault} {why : Fault}
    → result ≡ Err why → Moves first left held holds (Says (account_by form) (IsAtEnd left) source_rose sink_rose (Err why))
    → Moves first left held holds (Says (account_by form) (IsAtEnd left) source_rose sink_rose result)
moves_on form first left held holds source_rose sink_rose is moves =
    subst (λ r. Moves first left held holds (Says (account_by form) (IsAtEnd left) source_rose sink_rose r)) (sym is) moves

-- a line was handed out, the bytes given being these
pub record NextLine (first left : Option (List ℕ)) (old new : Reader) (given : List ℕ) (handed : List (List ℕ)) (line : Line) : Type 0 where
  pub text : List ℕ
  pub is_text : line ≡ handed_out old.limit text
  pub reading : Reading first left new given (handed ++ text ∷ [])
  pub nearer : to_come new < to_come old

-- a line that was handed out is no longer than the limit
pub handed-within : (limit : ℕ) (text : List ℕ) (line : Line) → limit ≤ input_limit → line ≡ handed_out limit text → IsHandedOut line
handed-within limit text (Full found) small is = grind (arith, nat_tests)
handed-within limit text TooLong small is = tt
handed-within limit text End small is = grind (arith, nat_tests)

module _ {S : Type 0} {form : LineForm S} {IsAfter : Progress S → Type 0} {first next left held holds : Option (List ℕ)} {old new : Reader}
    (stands : Stands form IsAfter first next old held holds) where
  -- the run ends with the input
  pub moves_end : {before now : ℕ} {line : Line} (IsThen : Progress S → Type 0) → ((at : Progress S) → IsAfter at → IsThen at) → (line_call : Call old new next left before now (Ok line))
      → line ≡ End → Moves first left held holds (AllRead form IsThen left)
  moves_end {before} {now} IsThen weaken line_call is =
      let call = subst (λ l. Call old new next left before now (Ok l)) is line_call in
      let whole = reading_end stands.reading call in
      record {
        given = stands.given ++ call.got;
        gives = reading_gives stands.reading call;
        written = bytes_of (form_lines form stands.handed);
        takes = stands.takes;
        says = record {
          at_end = whole.at_end;
          within = whole.within;
          after = subst (λ ls. IsThen (form_after form ls)) (sym whole.lines) (weaken (form_after form stands.handed) stands.after);
          report = ap (λ ls. bytes_of (form_lines form ls)) (sym whole.lines);
        };
      }

  -- the run ends with a fault of the reader of lines
  pub moves_fault : {before now : ℕ} (reader_fault : LineFault) (call : Call old new next left before now (Err reader_fault)) (start : ℕ) (sink_rose : Type 0) → start ≤ before
      → Moves first left held holds (Says (account_by form) (IsAtEnd left) (Rose start now) sink_rose (Err (fault_of_line reader_fault)))
  moves_fault Read call start sink_rose later =
      let read = reading_read stands.reading call in
      record {
        given = stands.given ++ call.got;
        gives = reading_gives stands.reading call;
        written = bytes_of (form_lines form stands.handed);
        takes = stands.takes;
        says = (omega (arith, call.answers.2, later), read.1, ap (λ ls. bytes_of (form_lines form ls)) (sym read.0));
      }
  moves_fault InputLimit call start sink_rose later =
      let limit = reading_limit stands.reading call in
      record {
        given = stands.given ++ call.got;
        gives = reading_gives stands.reading call;
        written = bytes_of (form_lines form stands.handed);
        takes = stands.takes;
        says = (limit.1, ap (λ ls. bytes_of (form_lines form ls)) (sym limit.0));
      }
  moves_fault OutOfMemory call start sink_rose later =
      let memory = reading_memory stands.reading call in
      record {
        given = stands.given ++ call.got;
        gives = reading_gives stands.reading call;
        written = bytes_of (form_lines form stands.handed);
        takes = stands.takes;
        says = inr (begins_opened form (stands.given ++ call.got) stands.handed memory.0 memory.1);
      }

  pub next_line : {before now : ℕ} {line : Line} (call : Call old new next left before now (Ok line)) → (line ≡ End → ⊥)
      → NextLine first left old new (stands.given ++ call.got) stands.handed line
  next_line call other =
      let found = reading_line stands.reading call other in
      record { text = found.0; is_text = found.1; reading = found.2; nearer = found.3 }

  -- it is early enough for one more line
  pub few_lines : {given : List ℕ} {line : Line} → NextLine first left old new given stands.handed line → (form_after form stands.handed).lines ≤ input_limit
  few_lines next = omega (arith, stands.near, next.nearer)

  module _ {given : List ℕ} {line : Line} (next_is : NextLine first left old new given stands.handed line) (taken : Option (List ℕ)) where
    -- its step is done
    pub stands_next : {T : Type 0} (done : T) (IsThen : Progress S → Type 0) (sink_before sink_now : ℕ)
        → IsThen (after_item (form_step form) (form_after form stands.handed) next_is.text)
        → WritesBytes {T = T} holds taken sink_before sink_now (bytes_of (written_by_item (form_step form) (form_after form stands.handed) next_is.text)) (Ok done)
        → Stands form IsThen first left new held taken
    stands_next done IsThen sink_before sink_now is writes =
        let handed = stands.handed in
        let text = next_is.text in
        let all : bytes_of (form_lines form handed) ++ writes.written ≡ bytes_of (form_lines form (handed ++ text ∷ [])) =
        ap (λ bytes. bytes_of (form_lines form handed) ++ bytes) writes.says ∙ sym (lines-push form handed text) in
        record {
          given = given;
          handed = handed ++ text ∷ [];
          reading = next_is.reading;
          after = subst IsThen (sym (after-push form handed text)) is;
          takes = subst (Appends held taken) all (Appends-append held holds taken (bytes_of (form_lines form handed)) writes.written stands.takes writes.takes);
          near = omega (arith, stands.near, next_is.nearer, ap (λ p. p.lines) (after-push form handed text));
        }

    -- what a step wrote in part is the first of the report
    begins_step : {front : List ℕ} → Begins front (bytes_of (written_by_item (form_step form) (form_after form stands.handed) next_is.text))
        → Begins (bytes_of (form_lines form stands.handed) ++ front) ((account_by form).report given)
    begins_step {front} b =
        let so_far = reading_so_far next_is.reading in
        let text = next_is.text in
        begins_trans
        (subst (Begins (bytes_of (form_lines form stands.handed) ++ front)) (sym (lines-push form stands.handed text)) (begins_append (bytes_of (form_lines form stands.handed)) b))
        (begins_report form given (stands.handed ++ text ∷ []) so_far.0 so_far.1)

    -- the run ends with a fault in its step
    pub moves_step : {T : Type 0} (f : Fault) (sink_start sink_before sink_now : ℕ) (source_rose : Type 0) → sink_start ≤ sink_before
        → WritesBytes {T = T} holds taken sink_before sink_now (bytes_of (written_by_item (form_step form) (form_after form stands.handed) next_is.text)) (Err f)
        → Moves first left held taken (Says (account_by form) (IsAtEnd left) source_rose (Rose sink_start sink_now) (Err f))
    moves_step fault.Read sink_start sink_before sink_now source_rose later writes = absurd writes.says
    moves_step fault.InputLimit sink_start sink_before sink_now source_rose later writes = absurd writes.says
    moves_step fault.Write sink_start sink_before sink_now source_rose later writes = record {
      given = given;
      gives = next_is.reading.gives;
      written = bytes_of (form_lines form stands.handed) ++ writes.written;
      takes = Appends-append held holds taken (bytes_of (form_lines form stands.handed)) writes.written stands.takes writes.takes;
      says = (omega (arith, writes.says.0, later), inl (begins_step writes.says.1));
    }
    moves_step fault.OutOfMemory sink_start sink_before sink_now source_rose later writes = record {
      given = given;
      gives = next_is.reading.gives;
      written = bytes_of (form_lines form stands.handed) ++ writes.written;
      takes = Appends-append held holds taken (bytes_of (form_lines form stands.handed)) writes.written stands.takes writes.takes;
      says = inl (begins_step writes.says);
    }

module _ {S : Type 0} {form : LineForm S} {IsAfter : Progress S → Type 0} {first left held holds : Option (List ℕ)} (taken : Option (List ℕ)) (source_rose : Type 0) (sink_start sink_before sink_now : ℕ)
    (lines_moved : Moves first left held holds (AllRead form IsAfter left)) (later : sink_start ≤ sink_before) where
  -- what was written before, and the whole of what stands behind it, are the report
  written_whole : (written : List ℕ) → written ≡ bytes_of (form_end form (form_after form (lines lines_moved.given))) → lines_moved.written ++ written ≡ (account_by form).report lines_moved.given
  written_whole written is =
      let all = lines lines_moved.given in
      ap (λ bytes. lines_moved.written ++ bytes) is ∙ ap (λ bytes. bytes ++ bytes_of (form_end form (form_after form all))) lines_moved.says.report
      ∙ sym (flat_map-append with_lf (form_lines form all) (form_end form (form_after form all)))

  -- .. and a part of it is the first of the report
  begins_close : {front : List ℕ} → Begins front (bytes_of (form_end form (form_after form (lines lines_moved.given)))) → Begins (lines_moved.written ++ front) ((account_by form).report lines_moved.given)
  begins_close {front} b =
      subst (Begins (lines_moved.written ++ front)) (written_whole (bytes_of (form_end form (form_after form (lines lines_moved.given)))) refl) (begins_append lines_moved.written b)

  -- all lines were read, and what stands behind them was written, or not
  pub moves_close : (result : Result Ending Fault) → IfOk result (λ ending. ending ≡ form_ending form (form_after form (lines lines_moved.given)))
      → WritesBytes {T = Ending} holds taken sink_before sink_now (bytes_of (form_end form (form_after form (lines lines_moved.given)))) result
      → Moves first left held taken (Says (account_by form) (IsAtEnd left) source_rose (Rose sink_start sink_now) result)
  moves_close (Ok ending) ends writes = record {
    given = lines_moved.given;
    gives = lines_moved.gives;
    written = lines_moved.written ++ writes.written;
    takes = Appends-append held holds taken lines_moved.written writes.written lines_moved.takes writes.takes;
    says = record {
      at_end = lines_moved.says.at_end;
      within = lines_moved.says.within;
      report = written_whole writes.written writes.says;
      ends = ends;
    };
  }
  moves_close (Err fault.Read) ends writes = absurd writes.says
  moves_close (Err fault.InputLimit) ends writes = absurd writes.says
  moves_close (Err fault.Write) ends writes = record {
    given = lines_moved.given;
    gives = lines_moved.gives;
    written = lines_moved.written ++ writes.written;
    takes = Appends-append held holds taken lines_moved.written writes.written lines_moved.takes writes.takes;
    says = (omega (arith, writes.says.0, later), inl (begins_close writes.says.1));
  }
  moves_close (Err fault.OutOfMemory) ends writes = record {
    given = lines_moved.given;
    gives = lines_moved.gives;
    written = lines_moved.written ++ writes.written;
    takes = Appends-append held holds taken lines_moved.written writes.written lines_moved.takes writes.takes;
    says = inl (begins_close writes.says);
  }

-- ---- what is written whole was written without a fault

-- the counts are as they were before the lines, and behind them
pub both_steady : (first left before middle now : ℕ) (result : Result Ending Fault) → left ≡ first → middle ≡ before → OnOk result (now ≡ middle)
    → OnOk result ((left ≡ first) × (now ≡ before))
both_steady first left before middle now (Ok s) source sink h = (source, h ∙ sink)
both_steady first left before middle now (Err f) source sink h = tt
