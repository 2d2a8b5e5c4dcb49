-- How a run over the lines of a source goes on and how it ends: one law for each answer of a call.
use Rattle.std.proofs.Common.{◌≡◌, ℕ, ◌+◌, ◌<◌, ◌≤◌, true, false, List, [], ◌∷◌, ◌++◌, Option, Result, Ok, Err, All, length, refl, sym, ◌∙◌, ap, subst, arith, append_assoc, append-nil, length-append, ⊎_elim}
use Rattle.std.specs.List.{flat_map}
use Rattle.std.specs.Io.KnownBytes.{Consumes}
use Rattle.std.proofs.lemmas.Bool.{cases_Bool}
use Rattle.std.proofs.lemmas.Bool.Decides.{nat_tests}
use Rattle.std.proofs.lemmas.Grind.{flat_map-append}
use Rattle.std.proofs.lemmas.List.Elements.{All-nil, All-push}
use Rattle.ft_io.specs.Lines.{lf, IsUnbroken, lines, ended_lines, with_lf}
use Rattle.ft_io.specs.Reader.{Reader, input_limit, new_reader, to_come, handed_out, Call, AnswersLine, HandsOut, HasLf, EndsInput, IsSplit, AreWholeLines, Reading}
use Rattle.ft_io.specs.declared.reader.Line.{Line}
use Rattle.ft_io.specs.declared.reader.Line.TheVariants.{Full, TooLong, End}
use Rattle.ft_io.specs.declared.reader.LineFault.{LineFault}
use Rattle.ft_io.specs.declared.reader.LineFault.TheVariants.{Read, InputLimit, OutOfMemory}
use Rattle.ft_io.proofs.TakenAndLeft.{Consumes-nil, Consumes-append}
use Rattle.ft_io.proofs.LineLaws.{lines-last, lines-flat_map, ended_lines-unbroken, ended_lines-flat_map}
use Rattle.ft_io.proofs.Gathering.{handed_out-not_end}

-- an answer that is not the end hands out a line
hands_out : (old : Reader) (waiting : List ℕ) (left : Option (List ℕ)) (new : Reader) (answer : Line) → AnswersLine old waiting left new answer → (answer ≡ End → ⊥) → HandsOut waiting left new answer
hands_out old waiting left new (Full line) h other = h
hands_out old waiting left new TooLong h other = h
hands_out old waiting left new End h other = absurd (other refl)

-- a line that was handed out whole
full_line : (limit : ℕ) (line bytes : List ℕ) → Full line ≡ handed_out limit bytes → (bytes ≡ line) × (length line ≤ limit)
full_line limit line bytes is = grind (arith, nat_tests)

-- a line that was handed out as too long
too_long_line : (limit : ℕ) (bytes : List ℕ) → TooLong ≡ handed_out limit bytes → limit < length bytes
too_long_line limit bytes is = grind (arith, nat_tests)

-- a run begins
pub reading_start : (first : Option (List ℕ)) (limit : ℕ) → Reading first first (new_reader limit) [] []
reading_start first limit = record {
  gives = Consumes-nil first;
  count = refl;
  runs = refl;
  goes_on = λ _. record { place = refl; unbroken = All-nil IsUnbroken };
  ended = λ e. absurd (cc);
}

-- a line more
split_line : (handed : List (List ℕ)) (line rest : List ℕ) → flat_map with_lf handed ++ (line ++ lf ∷ rest) ≡ flat_map with_lf (handed ++ line ∷ []) ++ rest
split_line handed line rest = rw (flat_map-append with_lf handed (line ∷ [])) (simp append_assoc)

-- the bytes given by now, split at the bytes that waited
split_given : (given got pending : List ℕ) (handed : List (List ℕ)) → IsSplit given handed pending → given ++ got ≡ flat_map with_lf handed ++ (pending ++ got)
split_given given got pending handed split = ap (λ bytes. bytes ++ got) split.place ∙ append_assoc (flat_map with_lf handed) pending got

-- the lines of a split whose rest has these lines
lines-split : (bytes rest : List ℕ) (handed : List (List ℕ)) → bytes ≡ flat_map with_lf handed ++ rest → All IsUnbroken handed → lines bytes ≡ handed ++ lines rest
lines-split bytes rest handed place unbroken = ap lines place ∙ lines-flat_map handed rest unbroken

ended_lines-split : (bytes rest : List ℕ) (handed : List (List ℕ)) → bytes ≡ flat_map with_lf handed ++ rest → All IsUnbroken handed → ended_lines bytes ≡ handed ++ ended_lines rest
ended_lines-split bytes rest handed place unbroken = ap ended_lines place ∙ ended_lines-flat_map handed rest unbroken

module _ {first next left : Option (List ℕ)} {old new : Reader} {before now : ℕ} {given : List ℕ} {handed : List (List ℕ)} (reading : Reading first next old given handed) where
  -- what the source has given by the end of the call
  pub reading_gives : {answer : Result Line LineFault} (call : Call old new next left before now answer) → Consumes first left (given ++ call.got)
  reading_gives call = Consumes-append first next left given call.got reading.gives call.gives

  -- how much it was
  pub reading_count : {answer : Result Line LineFault} (call : Call old new next left before now answer) → new.given ≡ length (given ++ call.got)
  reading_count call = call.given ∙ ap (λ n. n + length call.got) reading.count ∙ sym (length-append given call.got)

  -- at another answer than the end the reader had not come to its end
  goes_on : {answer : Result Line LineFault} → Call old new next left before now answer → (answer ≡ Ok End → ⊥) → old.ended ≡ false
  goes_on call other = ⊎_elim (λ ended. absurd (other (call.after_end ended).0)) (λ open_still. open_still) (cases_Bool old.ended)

  module _ {answer : Line} (call : Call old new next left before now (Ok answer)) (hands : HandsOut (old.pending ++ call.got) left new answer) where
    not_end : ◌≡◌ {A = Result Line LineFault} (Ok answer) (Ok End) → ⊥
    not_end is = handed_out-not_end new.limit hands.line (cc)

    line_more : Reading first left new (given ++ call.got) (handed ++ hands.line ∷ [])
    line_more =
        let split = reading.goes_on (goes_on call not_end) in
        let place = split_given given call.got old.pending handed split in
        let all = All-push IsUnbroken handed hands.line split.unbroken hands.unbroken in
        let count = reading_count call in
        ⊎_elim
        (λ (lf_is : HasLf (old.pending ++ call.got) hands.line new). record {
          gives = reading_gives call;
          count = count;
          runs = hands.runs;
          goes_on = λ _. record {
            place = place ∙ ap (λ rest. flat_map with_lf handed ++ rest) lf_is.place ∙ split_line handed hands.line new.pending;
            unbroken = all;
          };
          ended = λ ended. absurd (cc (lf_is.goes_on, ended));
        })
        (λ (last : EndsInput (old.pending ++ call.got) hands.line left new). record {
          gives = reading_gives call;
          count = count;
          runs = hands.runs;
          goes_on = λ open_still. absurd (cc (last.ended, open_still));
          ended = λ _. record {
            lines = lines-split (given ++ call.got) (old.pending ++ call.got) handed place split.unbroken
                ∙ ap (λ rest. handed ++ lines rest) last.place ∙ ap (λ more. handed ++ more) (lines-last hands.line hands.unbroken last.some);
            at_end = last.at_end;
            within = omega (arith, last.within, count);
          };
        })
        hands.place

    -- fewer bytes are still to come
    nearer : to_come new < to_come old
    nearer =
        let sum = length-append old.pending call.got in
        ⊎_elim
        (λ (lf_is : HasLf (old.pending ++ call.got) hands.line new). omega (arith, call.given, call.within, sum, ap length lf_is.place, length-append hands.line (lf ∷ new.pending)))
        (λ (last : EndsInput (old.pending ++ call.got) hands.line left new). omega (arith, call.given, call.within, sum, ap length last.place, last.some, ap length last.nothing_waits))
        hands.place

  -- a line: how it is handed out, where the run stands then, and that fewer bytes are still to come
  pub reading_line : {answer : Line} (call : Call old new next left before now (Ok answer)) → (answer ≡ End → ⊥)
      → (line : List ℕ) × (answer ≡ handed_out old.limit line) × Reading first left new (given ++ call.got) (handed ++ line ∷ []) × (to_come new < to_come old)
  reading_line {answer} call other =
      let hands = hands_out old (old.pending ++ call.got) left new answer call.answers other in (
        hands.line,
        hands.answers ∙ ap (λ limit. handed_out limit hands.line) call.limit,
        line_more call hands,
        nearer call hands,
      )

  -- a whole line: it is not too long
  pub reading_full : {line : List ℕ} (call : Call old new next left before now (Ok (Full line)))
      → (length line ≤ old.limit) × Reading first left new (given ++ call.got) (handed ++ line ∷ []) × (to_come new < to_come old)
  reading_full {line} call =
      let step = reading_line call (λ e. cc) in
      let is = full_line old.limit line step.0 step.1 in (
        is.1,
        subst (λ bytes. Reading first left new (given ++ call.got) (handed ++ bytes ∷ [])) is.0 step.2,
        step.3,
      )

  -- a line that is too long
  pub reading_too_long : (call : Call old new next left before now (Ok TooLong))
      → (line : List ℕ) × (old.limit < length line) × Reading first left new (given ++ call.got) (handed ++ line ∷ []) × (to_come new < to_come old)
  reading_too_long call =
      let step = reading_line call (λ e. cc) in (step.0, too_long_line old.limit step.0 step.1, step.2, step.3)

  -- the end: the lines handed out are those of the whole input
  pub reading_end : (call : Call old new next left before now (Ok End)) → AreWholeLines (given ++ call.got) handed left
  reading_end call =
      ⊎_elim
      (λ (ended : old.ended ≡ true).
      let after = call.after_end ended in
      let whole = reading.ended ended in
      let same : given ++ call.got ≡ given = ap (λ bytes. given ++ bytes) after.1 ∙ append-nil given in
      subst (λ bytes. AreWholeLines bytes handed left) (sym same) (subst (λ rest. AreWholeLines given handed rest) (sym after.2) whole))
      (λ (open_still : old.ended ≡ false).
      let split = reading.goes_on open_still in
      let end = call.answers.at_end open_still in
      let place = split_given given call.got old.pending handed split in
      record {
        lines = lines-split (given ++ call.got) (old.pending ++ call.got) handed place split.unbroken
            ∙ ap (λ rest. handed ++ lines rest) call.answers.nothing_waits ∙ append-nil handed;
        at_end = end.0;
        within = omega (arith, end.1, reading_count call);
      })
      (cases_Bool old.ended)

  -- at a fault, with what waited unbroken
  all_handed : {fault : LineFault} (call : Call old new next left before now (Err fault)) → IsUnbroken (old.pending ++ call.got) → ended_lines (given ++ call.got) ≡ handed
  all_handed call unbroken =
      let split = reading.goes_on (goes_on call (λ e. cc)) in
      ended_lines-split (given ++ call.got) (old.pending ++ call.got) handed (split_given given call.got old.pending handed split) split.unbroken
      ∙ ap (λ more. handed ++ more) (ended_lines-unbroken (old.pending ++ call.got) unbroken) ∙ append-nil handed

  -- the source failed: every line that was ended by the bytes given was handed out
  pub reading_read : (call : Call old new next left before now (Err Read)) → (ended_lines (given ++ call.got) ≡ handed) × (length (given ++ call.got) ≤ input_limit)
  reading_read call = (all_handed call call.answers.1, omega (arith, call.answers.3, reading_count call))

  -- the source gave a byte too many: every line that was ended by the bytes given was handed out
  pub reading_limit : (call : Call old new next left before now (Err InputLimit)) → (ended_lines (given ++ call.got) ≡ handed) × (length (given ++ call.got) ≡ input_limit + 1)
  reading_limit call = (all_handed call call.answers.1, omega (arith, call.answers.2, reading_count call))

  -- no memory was found: what was handed out are the first of the lines that were ended by the bytes given
  pub reading_memory : (call : Call old new next left before now (Err OutOfMemory)) → (later : List (List ℕ)) × (ended_lines (given ++ call.got) ≡ handed ++ later)
  reading_memory call =
      let split = reading.goes_on (goes_on call (λ e. cc)) in (
        ended_lines (old.pending ++ call.got),
        ended_lines-split (given ++ call.got) (old.pending ++ call.got) handed (split_given given call.got old.pending handed split) split.unbroken,
      )

-- what was handed out so far are the first of the lines of the bytes given
pub reading_so_far : {first left : Option (List ℕ)} {reader : Reader} {given : List ℕ} {handed : List (List ℕ)} → Reading first left reader given handed
    → (later : List (List ℕ)) × (lines given ≡ handed ++ later)
reading_so_far {reader = reader} {given} {handed} reading =
    ⊎_elim
    (λ (ended : reader.ended ≡ true). ([], (reading.ended ended).lines ∙ sym (append-nil handed)))
    (λ (open_still : reader.ended ≡ false).
    let split = reading.goes_on open_still in
    (lines reader.pending, lines-split given reader.pending handed split.place split.unbroken))
    (cases_Bool reader.ended)
