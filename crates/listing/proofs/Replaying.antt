-- How far a replay has come, message by message.
use Rattle.std.proofs.Common.{◌≡◌, ℕ, ◌+◌, ◌≤◌, true, List, [], ◌∷◌, ◌++◌, length, Ok, Err, IsErr, Option, Result, sym, refl, ap, ◌∙◌, append_assoc, arith}
use Rattle.capture.specs.Answers.{Answer, refused, accepted}
use Rattle.capture.specs.Held.{fresh_held}
use Rattle.lines.specs.Format.{LessonMessage, outside, with_message, says_from}
use Rattle.lines.specs.Ahead.{left, ahead}
use Rattle.lines.specs.Blocks.{Reads}
use Rattle.lines.specs.declared.line_reader.LineReader.{LineReader}
use Rattle.lines.specs.declared.block.MessageBlock.{MessageBlock}
use Rattle.writing.specs.Files.{messages_in, well_formed}
use Rattle.writing.specs.Puts.{Puts, numbers_line}
use Rattle.writing.specs.declared.full.Full.{Full}
use Rattle.writing.specs.declared.line_writer.LineWriter.{LineWriter}
use Rattle.writing.proofs.Appending.{file_in}
use Rattle.writing.proofs.Putting.{puts_as, puts_nothing, puts_stop, puts_then}
use Rattle.listing.specs.Lessons.{lesson_kinds, LessonReader}
use Rattle.listing.specs.Listing.{Interval, answer_text, tallied, fed, listing_from, listing}

-- the lines so far are put, and the rest of the file goes on from the reader as it is
pub record Come (file : List ℕ) (before after : LineWriter) (t : ℕ × ℕ) (h : LessonReader) (lines : LineReader) : Type 0 where
  pub done : List ℕ
  pub rest : List LessonMessage
  pub put : Puts (Ok (tt {0})) before after done
  pub so_far : listing (messages_in file) ≡ done ++ listing_from t h rest
  pub says : ahead outside lines ≡ Ok rest
  pub few : t.0 + t.1 + length (left lines) ≤ length file

pub come_start : (file : List ℕ) (before : LineWriter) (h : LessonReader) (lines : LineReader) → well_formed file ≡ true → left lines ≡ file → lines.count ≡ 0 → h ≡ fresh_held lesson_kinds → Come file before before (0, 0) h lines
unfolding listing
come_start file before h lines formed all none fresh =
    record {
      done = [];
      rest = messages_in file;
      put = puts_nothing before;
      so_far = ap (λ g. listing_from (0, 0) g (messages_in file)) (sym fresh);
      says = ap (λ n. says_from outside n (left lines)) none ∙ ap (says_from outside 0) all ∙ file_in file formed;
      few = omega (arith, ap length all);
    }

-- the message that was read is the first of those that are left
first_left : (m : LessonMessage) (r : Result (List LessonMessage) ℕ) (rest : List LessonMessage) → with_message m r ≡ Ok rest → (more : List LessonMessage) × (rest ≡ m ∷ more) × (r ≡ Ok more)
first_left m (Ok more) rest e = let is : m ∷ more ≡ rest = cc in (more, sym is, refl)
first_left m (Err n) rest e = cc

tallied_more : (a : Answer (Option Interval)) (t : ℕ × ℕ) → (tallied a t).0 + (tallied a t).1 ≡ t.0 + t.1 + 1
tallied_more (refused n) t = omega arith
tallied_more (accepted o) t = omega arith

module _ (file : List ℕ) (before mid after : LineWriter) (t : ℕ × ℕ) (h : LessonReader) (lines : LineReader) (come : Come file before mid t h lines) where
  module _ (lines' : LineReader) (b : MessageBlock) (m : LessonMessage) (read : Reads outside lines lines' b m) (a : Answer (Option Interval)) (told : a ≡ (fed m h).0) where
    left_now : (more : List LessonMessage) × (come.rest ≡ m ∷ more) × (ahead outside lines' ≡ Ok more)
    left_now = first_left m (ahead outside lines') come.rest (sym read.said ∙ come.says)

    listed_now : listing (messages_in file) ≡ (come.done ++ answer_text a) ++ listing_from (tallied a t) (fed m h).1 left_now.0
    listed_now =
        come.so_far
        ∙ ap (λ l. come.done ++ listing_from t h l) left_now.1
        ∙ ap (λ x. come.done ++ (answer_text x ++ listing_from (tallied x t) (fed m h).1 left_now.0)) (sym told)
        ∙ sym (append_assoc come.done (answer_text a) (listing_from (tallied a t) (fed m h).1 left_now.0))

    -- what came of the message was put
    pub come_next : (h' : LessonReader) → h' ≡ (fed m h).1 → Puts (Ok (tt {0})) mid after (answer_text a) → Come file before after (tallied a t) h' lines'
    come_next h' left_so put =
        record {
          done = come.done ++ answer_text a;
          rest = left_now.0;
          put = puts_then (Ok tt) come.put put;
          so_far = listed_now ∙ ap (λ g. (come.done ++ answer_text a) ++ listing_from (tallied a t) g left_now.0) (sym left_so);
          says = left_now.2;
          few = omega (arith, come.few, tallied_more a t, read.on);
        }

    -- it did not fit, and so not the listing
    pub come_over : {e : Full} (r : Result (Unit {0}) Full) → IsErr r → Puts (Err e) mid after (answer_text a) → Puts r before after (listing (messages_in file))
    come_over {e = e} r stops put = puts_as (sym listed_now) (puts_stop r (listing_from (tallied a t) (fed m h).1 left_now.0) stops (puts_then (Err e) come.put put))

  -- no message was left, and the totals were put, or did not fit
  pub come_end : (r : Result (Unit {0}) Full) → ahead outside lines ≡ Ok [] → Puts r mid after (numbers_line 90 (t.0 ∷ t.1 ∷ [])) → Puts r before after (listing (messages_in file))
  come_end r none put =
      let empty : come.rest ≡ [] = cc (sym come.says ∙ none) in
      puts_as (sym (come.so_far ∙ ap (λ l. come.done ++ listing_from t h l) empty)) (puts_then r come.put put)

  -- a malformed line cannot come any more
  pub come_never : (n : ℕ) → ahead outside lines ≡ Err n → ⊥
  come_never n e = cc (sym come.says ∙ e)
