-- What is told of a line that is heard, how far its command is then, and what is written of it.
use Rattle.std.proofs.Common.{◌≡◌, ℕ, ◌+◌, ◌++◌, List, [], ◌∷◌, Bool, true, false, if◌then◌else◌, nat_le, length, Option, Result, Ok, Err, IfOk, sym, ◌∙◌, ap, append-nil}
use Rattle.std.proofs.lemmas.Grind.{flat_map-append}
use Rattle.std.proofs.lemmas.Result.{IfOk-at_ok}
use Rattle.ft_base.specs.declared.memory.OutOfMemory.{OutOfMemory}
use Rattle.ft_io.specs.Lines.{with_lf}
use Rattle.ft_io.specs.Reader.{handed_out}
use Rattle.ft_io.specs.declared.reader.Line.TheVariants.{Full, TooLong}
use Rattle.ft_seqr.specs.declared.refusals.Refusal.{Refusal}
use Rattle.ft_seqr.specs.Refusals.{refused_line}
use Rattle.ft_seqr.specs.Walk.{Progress, Step, progress_after, refusal_lines, refused_after, written_by_step}
use Rattle.ft_replay.specs.declared.endings.Fault.{Fault}
use Rattle.ft_replay.specs.declared.listener.Told.{Told}
use Rattle.ft_replay.specs.declared.listener.Told.TheVariants.{Nothing, Text, Refused}
use Rattle.ft_replay.specs.LineForm.{bytes_of}
use Rattle.ft_replay.specs.Listening.{Follows, IsStep, told_bytes, told_refusal}

-- a line that is handed out whole is the line
pub handed-full : (limit : ℕ) (text found : List ℕ) → Full found ≡ handed_out limit text → found ≡ text
handed-full limit text found is = by (nat_le (length text) limit) is
  where
    by : (b : Bool) → Full found ≡ (if b then Full text else TooLong) → found ≡ text
    by true e = (cc)
    by false e = (cc)

-- a line more was heard: it counts, and so does its refusal
pub follows-on : {S : Type 0} (Old New : S → Type 0) (lines refused : ℕ) (at : Progress S) (step : Step S) (told : Result Told OutOfMemory) (result : Result ℕ Fault)
    → Follows Old lines refused at → IfOk told (λ t. IsStep New t step)
    → IfOk result (λ n. (t : Told) × (told ≡ Ok t) × (n ≡ refused_after refused (told_refusal t)))
    → IfOk result (λ n. Follows New (lines + 1) n (progress_after at step))
follows-on Old New lines refused at step told (Err fault) follows is count = tt
follows-on Old New lines refused at step told (Ok n) follows is (t, was, count) =
    let s = IfOk-at_ok (λ t. IsStep New t step) was is in
    record {
      lines = ap (λ k. k + 1) follows.lines;
      refusals = count ∙ ap (λ k. refused_after k (told_refusal t)) follows.refusals ∙ ap (λ why. refused_after at.refused why) s.refusal;
      holds = s.holds;
    }

-- what is written of a line is what its step writes, and its refusal
pub told-written : {S : Type 0} (Holds : S → Type 0) (lines : ℕ) (at : Progress S) (t : Told) (step : Step S) → lines ≡ at.lines → IsStep Holds t step
    → bytes_of (written_by_step (at.lines + 1) step) ≡ told_bytes (lines + 1) t
told-written Holds lines at t step same is =
    flat_map-append with_lf step.told (refusal_lines (at.lines + 1) step.refusal) ∙ by t is
  where
    by : (t : Told) → IsStep Holds t step → bytes_of step.told ++ bytes_of (refusal_lines (at.lines + 1) step.refusal) ≡ told_bytes (lines + 1) t
    by Nothing s =
        ap (λ (why : Option Refusal). bytes_of step.told ++ bytes_of (refusal_lines (at.lines + 1) why)) (sym s.refusal) ∙ append-nil (bytes_of step.told) ∙ sym s.text
    by (Text text) s =
        ap (λ (why : Option Refusal). bytes_of step.told ++ bytes_of (refusal_lines (at.lines + 1) why)) (sym s.refusal) ∙ append-nil (bytes_of step.told) ∙ sym s.text
    by (Refused refusal) s =
        ap (λ bytes. bytes ++ bytes_of (refusal_lines (at.lines + 1) step.refusal)) (sym s.text)
        ∙ ap (λ (why : Option Refusal). bytes_of (refusal_lines (at.lines + 1) why)) (sym s.refusal)
        ∙ ap (λ n. bytes_of (refused_line (n + 1) refusal ∷ [])) (sym same)

-- what is shown at the end, with the last lines behind it
pub end-lines : (shown last : List (List ℕ)) (text view behind : List ℕ) → text ≡ view ++ behind → view ≡ bytes_of shown → behind ≡ bytes_of last → text ≡ bytes_of (shown ++ last)
end-lines shown last text view behind is front back =
    is ∙ ap (λ bytes. bytes ++ behind) front ∙ ap (λ bytes. bytes_of shown ++ bytes) back ∙ sym (flat_map-append with_lf shown last)
