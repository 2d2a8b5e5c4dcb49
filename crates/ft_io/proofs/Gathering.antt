-- A line on its way: what the loop keeps that puts it together, and how each way out of the loop answers the call.
use Rattle.std.proofs.Common.{◌≡◌, ℕ, ◌+◌, ◌<◌, ◌≤◌, true, false, List, [], ◌∷◌, ◌++◌, Option, Some, None, Ok, Err, length, refl, sym, ◌∙◌, ap, subst, arith, inl, inr, append_assoc, append-nil, length-append, nat_le, if◌then◌else◌}
use Rattle.std.specs.Io.KnownBytes.{Consumes, IsAtEnd, Keeps}
use Rattle.std.proofs.lemmas.List.Folds.{list_any-append}
use Rattle.ft_io.specs.Lines.{lf, is_lf, IsUnbroken}
use Rattle.ft_io.specs.Streams.{Rose}
use Rattle.ft_io.specs.Reader.{Reader, input_limit, handed_out, Call, HandsOut, AnswersLine}
use Rattle.ft_io.specs.LineParts.{answer_at_end}
use Rattle.ft_io.specs.declared.reader.Line.{Line}
use Rattle.ft_io.specs.declared.reader.Line.TheVariants.{Full, TooLong, End}
use Rattle.ft_io.specs.declared.reader.LineFault.{LineFault}
use Rattle.ft_io.specs.declared.reader.LineFault.TheVariants.{Read, InputLimit, OutOfMemory}
use Rattle.ft_io.proofs.TakenAndLeft.{Consumes-nil, Consumes-append, Consumes-keeps}

pub unbroken-append : (xs ys : List ℕ) → IsUnbroken xs → IsUnbroken ys → IsUnbroken (xs ++ ys)
unbroken-append xs ys a b = grind (arith, list_any-append is_lf xs ys)

-- a fault after other calls
pub rose_since : {first before now : ℕ} → first ≤ before → Rose before now → Rose first now
rose_since earlier rose = omega arith

-- a line that is handed out is not the end
pub handed_out-not_end : (limit : ℕ) (line : List ℕ) → End ≡ handed_out limit line → ⊥
handed_out-not_end limit line is =
    elim (nat_le (length line) limit) as (λ fits. End ≡ (if fits then Full line else TooLong) → ⊥) [
      | true ↦ λ e. cc
      | false ↦ λ e. cc
    ] is

pub answers_line : (old : Reader) (waiting : List ℕ) (left : Option (List ℕ)) (new : Reader) (answer : Line) → HandsOut waiting left new answer → AnswersLine old waiting left new answer
answers_line old waiting left new (Full line) h = h
answers_line old waiting left new TooLong h = h
answers_line old waiting left new End h = absurd (handed_out-not_end new.limit h.line h.answers)

-- the input ended behind the line
last_answers : (old : Reader) (waiting : List ℕ) (left : Option (List ℕ)) (new : Reader) (so_far : List ℕ) (answer : Line)
    → answer ≡ answer_at_end new.limit so_far → waiting ≡ so_far → IsUnbroken so_far → IsAtEnd left → new.given ≤ input_limit → new.pending ≡ [] → new.ended ≡ true → new.fault ≡ None
    → AnswersLine old waiting left new answer
last_answers old waiting left new [] answer is place unbroken at_end within nothing ended runs =
    subst (AnswersLine old waiting left new) (sym is) record {
      nothing_waits = place;
      ended = ended;
      runs = runs;
      at_end = λ was. (at_end, within);
    }
last_answers old waiting left new (byte ∷ bytes) answer is place unbroken at_end within nothing ended runs =
    answers_line old waiting left new answer record {
      line = byte ∷ bytes;
      unbroken = unbroken;
      answers = is;
      runs = runs;
      place = inr record {
        place = place;
        some = omega arith;
        nothing_waits = nothing;
        ended = ended;
        at_end = at_end;
        within = within;
      };
    }

-- since the call began the source gave some bytes; of the bytes that waited and these, the line so far comes first and the piece
-- follows it
pub record Gathers (old : Reader) (first : Option (List ℕ)) (before : ℕ) (piece : List ℕ) (given : ℕ) (line : Line) (left : Option (List ℕ)) (now : ℕ) : Type 0 where
  pub so_far : List ℕ
  pub got : List ℕ
  pub place : old.pending ++ got ≡ so_far ++ piece
  pub unbroken : IsUnbroken so_far
  pub is_line : line ≡ handed_out old.limit so_far
  pub gives : Consumes first left got
  pub count : given ≡ old.given + length got
  pub within : given ≤ input_limit + 1
  pub later : before ≤ now

module _ (old : Reader) (first : Option (List ℕ)) (before : ℕ) where
  module _ (piece : List ℕ) (given : ℕ) (line : Line) (left : Option (List ℕ)) (now : ℕ) (h : Gathers old first before piece given line left now) where
    -- the line takes the piece, which no LF is in, and the source gives the next one
    pub gathers_more : (next : List ℕ) (given' : ℕ) (line' : Line) (left' : Option (List ℕ)) (now' : ℕ)
        → IsUnbroken piece → line' ≡ handed_out old.limit (h.so_far ++ piece) → Consumes left left' next → given' ≡ given + length next → given' ≤ input_limit + 1 → now ≤ now'
        → Gathers old first before next given' line' left' now'
    gathers_more next given' line' left' now' unbroken is_line gives count within later = record {
      so_far = h.so_far ++ piece;
      got = h.got ++ next;
      place = sym (append_assoc old.pending h.got next) ∙ ap (λ bytes. bytes ++ next) h.place;
      unbroken = unbroken-append h.so_far piece h.unbroken unbroken;
      is_line = is_line;
      gives = Consumes-append first left left' h.got next h.gives gives;
      count = omega (arith, h.count, count, length-append h.got next);
      within = within;
      later = omega (arith, h.later);
    }

    module _ (new : Reader) (running : old.ended ≡ false) where
      -- the piece has the last of the line, and its LF
      pub call_whole : (front : List ℕ) (answer : Line) → piece ≡ front ++ lf ∷ new.pending → IsUnbroken front → answer ≡ handed_out old.limit (h.so_far ++ front)
          → new.given ≡ given → new.limit ≡ old.limit → new.ended ≡ false → new.fault ≡ None
          → Call old new first left before now (Ok answer)
      call_whole front answer place unbroken is_answer same limit goes_on runs = record {
        got = h.got;
        gives = h.gives;
        given = same ∙ h.count;
        limit = limit;
        within = omega (arith, same, h.within);
        later = h.later;
        after_end = λ ended. absurd (cc);
        answers = answers_line old (old.pending ++ h.got) left new answer record {
          line = h.so_far ++ front;
          unbroken = unbroken-append h.so_far front h.unbroken unbroken;
          answers = is_answer ∙ ap (λ l. handed_out l (h.so_far ++ front)) (sym limit);
          runs = runs;
          place = inl record {
            place = h.place ∙ ap (λ bytes. h.so_far ++ bytes) place ∙ sym (append_assoc h.so_far front (lf ∷ new.pending));
            goes_on = goes_on;
          };
        };
      }

      -- the input ended behind the line
      pub call_last : (answer : Line) → answer ≡ answer_at_end old.limit h.so_far → piece ≡ [] → IsAtEnd left → given ≤ input_limit
          → new.pending ≡ [] → new.given ≡ given → new.limit ≡ old.limit → new.ended ≡ true → new.fault ≡ None
          → Call old new first left before now (Ok answer)
      call_last answer is_answer none at_end within nothing same limit ended runs = record {
        got = h.got;
        gives = h.gives;
        given = same ∙ h.count;
        limit = limit;
        within = omega (arith, same, h.within);
        later = h.later;
        after_end = λ was. absurd (cc);
        answers = last_answers old (old.pending ++ h.got) left new h.so_far answer
            (is_answer ∙ ap (λ l. answer_at_end l h.so_far) (sym limit)) (h.place ∙ ap (λ bytes. h.so_far ++ bytes) none ∙ append-nil h.so_far) h.unbroken
            at_end (omega (arith, same, within)) nothing ended runs;
      }

      -- the reader stops
      module _ (left' : Option (List ℕ)) (now' : ℕ) (keeps : Keeps left left') (later' : now ≤ now') where
        pub call_read : IsUnbroken piece → Rose now now' → given ≤ input_limit → new.given ≡ given → new.limit ≡ old.limit → new.fault ≡ Some Read → Call old new first left' before now' (Err Read)
        call_read unbroken rose within same limit stopped = record {
          got = h.got;
          gives = Consumes-keeps first left left' h.got h.gives keeps;
          given = same ∙ h.count;
          limit = limit;
          within = omega (arith, same, h.within);
          later = omega (arith, h.later);
          after_end = λ ended. absurd (cc);
          answers = (
            stopped,
            subst IsUnbroken (sym h.place) (unbroken-append h.so_far piece h.unbroken unbroken),
            rose_since h.later rose,
            omega (arith, same, within),
          );
        }

        pub call_limit : IsUnbroken piece → given ≡ input_limit + 1 → new.given ≡ given → new.limit ≡ old.limit → new.fault ≡ Some InputLimit → Call old new first left' before now' (Err InputLimit)
        call_limit unbroken too_many same limit stopped = record {
          got = h.got;
          gives = Consumes-keeps first left left' h.got h.gives keeps;
          given = same ∙ h.count;
          limit = limit;
          within = omega (arith, same, h.within);
          later = omega (arith, h.later);
          after_end = λ ended. absurd (cc);
          answers = (
            stopped,
            subst IsUnbroken (sym h.place) (unbroken-append h.so_far piece h.unbroken unbroken),
            same ∙ too_many,
          );
        }

        -- the source failed, or had given too many bytes
        pub call_fault : (fault : LineFault) → IsUnbroken piece → new.given ≡ given → new.limit ≡ old.limit → new.fault ≡ Some fault
            → (fault ≡ Read → Rose now now' × (given ≤ input_limit)) → (fault ≡ InputLimit → input_limit < given) → (fault ≡ OutOfMemory → ⊥)
            → Call old new first left' before now' (Err fault)
        call_fault Read unbroken same limit stopped read many memory = call_read unbroken (read refl).0 (read refl).1 same limit stopped
        call_fault InputLimit unbroken same limit stopped read many memory = call_limit unbroken (omega (arith, many refl, h.within)) same limit stopped
        call_fault OutOfMemory unbroken same limit stopped read many memory = absurd (memory refl)

-- after the end nothing is read, and the answer is the end
pub call_ended : (old : Reader) (left : Option (List ℕ)) (now : ℕ) → old.given ≤ input_limit + 1 → old.ended ≡ true → old.pending ≡ [] → old.fault ≡ None → Call old old left left now now (Ok End)
call_ended old left now within ended nothing runs = record {
  got = [];
  gives = Consumes-nil left;
  given = omega arith;
  limit = refl;
  within = within;
  later = omega arith;
  after_end = λ was. (refl, refl, refl);
  answers = record {
    nothing_waits = append-nil old.pending ∙ nothing;
    ended = ended;
    runs = runs;
    at_end = λ was. absurd (cc);
  };
}
