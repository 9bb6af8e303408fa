-- A message behind a file that is well formed.
use Rattle.std.proofs.Common.{◌≡◌, ℕ, ◌+◌, true, false, cond, eqb, List, [], ◌∷◌, ◌++◌, Some, None, Ok, Err, Option, Result, sym, refl, ap, ◌∙◌}
use Rattle.std.proofs.lemmas.List.{append-nil}
use Rattle.lines.specs.Cuts.{split_from}
use Rattle.lines.specs.Said.{Said, line_says}
use Rattle.lines.specs.Format.{LessonMessage, Draft, outside, in_changes, in_statement, Next, goes_on, completes, stops, step, with_message, closes, reads, says_from, file_says}
use Rattle.writing.specs.Writing.{lines_of, Formed}
use Rattle.writing.specs.Puts.{written, Puts}
use Rattle.writing.specs.Files.{messages_of, messages_in, says_so, well_formed}
use Rattle.writing.specs.declared.line_writer.LineWriter.{LineWriter}
use Rattle.writing.proofs.RoundTrip.{file_back}

-- messages before those that follow them
abbrev with_messages : List LessonMessage → Result (List LessonMessage) ℕ → Result (List LessonMessage) ℕ
with_messages [] r = r
with_messages (m ∷ ms) r = with_message m (with_messages ms r)

with_all : (ms ns : List LessonMessage) → with_messages ms (Ok ns) ≡ Ok (ms ++ ns)
with_all [] ns = refl
with_all (m ∷ ms) ns = ap (with_message m) (with_all ms ns)

-- the lines of bytes and of bytes behind them
split_both : (begun xs ys : List ℕ) → split_from begun (xs ++ ys) ≡ ((split_from begun xs).0 ++ (split_from (split_from begun xs).1 ys).0, (split_from (split_from begun xs).1 ys).1)
split_both begun [] ys = refl
split_both begun (b ∷ bs) ys =
    elim (eqb b 10) as (λ v. cond v (begun ∷ (split_from [] (bs ++ ys)).0, (split_from [] (bs ++ ys)).1) (split_from (begun ++ b ∷ []) (bs ++ ys)) ≡ ((cond v (begun ∷ (split_from [] bs).0, (split_from [] bs).1) (split_from (begun ++ b ∷ []) bs)).0 ++ (split_from (cond v (begun ∷ (split_from [] bs).0, (split_from [] bs).1) (split_from (begun ++ b ∷ []) bs)).1 ys).0, (split_from (cond v (begun ∷ (split_from [] bs).0, (split_from [] bs).1) (split_from (begun ++ b ∷ []) bs)).1 ys).1)) [
      | true ↦ ap (λ (p : List (List ℕ) × List ℕ). (begun ∷ p.0, p.1)) (split_both [] bs ys)
      | false ↦ split_both (begun ++ b ∷ []) bs ys
    ]

-- lines that are well formed leave nothing open, so that lines behind them go on by themselves
module _ (more : List (List ℕ)) (v : List ℕ) where
  abbrev On : Result (List LessonMessage) ℕ → List ℕ → List LessonMessage → Type 0
  On r u ms = (u ≡ []) × ((k : ℕ) × (r ≡ with_messages ms (reads outside k more v)))

  closes_on : (d : Draft) (n : ℕ) (u : List ℕ) (ms : List LessonMessage) → closes d n u ≡ Ok ms → On (reads d n more v) u ms
  closes_on outside n [] ms e = let none : [] ≡ ms = cc in (refl, (n, ap (λ l. with_messages l (reads outside n more v)) none))
  closes_on outside n (b ∷ bs) ms e = cc
  closes_on (in_changes cs) n u ms e = cc
  closes_on (in_statement p s) n u ms e = cc

  message_on : (m : LessonMessage) (r s : Result (List LessonMessage) ℕ) (u : List ℕ) (ms : List LessonMessage) → ((ns : List LessonMessage) → r ≡ Ok ns → On s u ns) → with_message m r ≡ Ok ms → On (with_message m s) u ms
  message_on m (Ok ns) s u ms on e = let is : m ∷ ns ≡ ms = cc in let rest = on ns refl in (rest.0, (rest.1.0, ap (with_message m) rest.1.1 ∙ ap (λ l. with_messages l (reads outside rest.1.0 more v)) is))
  message_on m (Err n) s u ms on e = cc

  reads_on : (d : Draft) (n : ℕ) (ls : List (List ℕ)) (u : List ℕ) (ms : List LessonMessage) → reads d n ls u ≡ Ok ms → On (reads d n (ls ++ more) v) u ms
  reads_on d n [] u ms e = closes_on d n u ms e
  reads_on d n (l ∷ ls) u ms e =
      let After : Next → Type 0 = λ y. ◌≡◌ {A = Result (List LessonMessage) ℕ} (elim y [ stops ↦ Err (n + 1) | goes_on e ↦ reads e (n + 1) ls u | completes m ↦ with_message m (reads outside (n + 1) ls u) ]) (Ok ms) → On (elim y [ stops ↦ Err (n + 1) | goes_on e ↦ reads e (n + 1) (ls ++ more) v | completes m ↦ with_message m (reads outside (n + 1) (ls ++ more) v) ]) u ms in
      let next : (y : Next) → After y = λ y. elim y as After [
        | stops ↦ λ h. cc
        | goes_on e ↦ λ h. reads_on e (n + 1) ls u ms h
        | completes m ↦ λ h. message_on m (reads outside (n + 1) ls u) (reads outside (n + 1) (ls ++ more) v) u ms (λ ns k. reads_on outside (n + 1) ls u ns k) h
      ] in
      let Line : Option Said → Type 0 = λ o. ◌≡◌ {A = Result (List LessonMessage) ℕ} (elim o [ None ↦ Err (n + 1) | Some x ↦ elim (step d x) [ stops ↦ Err (n + 1) | goes_on e ↦ reads e (n + 1) ls u | completes m ↦ with_message m (reads outside (n + 1) ls u) ] ]) (Ok ms) → On (elim o [ None ↦ Err (n + 1) | Some x ↦ elim (step d x) [ stops ↦ Err (n + 1) | goes_on e ↦ reads e (n + 1) (ls ++ more) v | completes m ↦ with_message m (reads outside (n + 1) (ls ++ more) v) ] ]) u ms in
      let line : (o : Option Said) → Line o = λ o. elim o as Line [
        | None ↦ λ h. cc
        | Some x ↦ next (step d x)
      ] in
      line (line_says l) e

-- one message more
pub said_more : (bytes : List ℕ) (ms : List LessonMessage) (m : LessonMessage) → file_says bytes ≡ Ok ms → Formed m → file_says (bytes ++ lines_of m) ≡ Ok (ms ++ m ∷ [])
said_more bytes ms m e f =
    let had = split_from [] bytes in
    let new = split_from [] (lines_of m) in
    let on = reads_on new.0 new.1 outside 0 had.0 had.1 ms e in
    let back : says_from outside on.1.0 (lines_of m) ≡ Ok (m ∷ []) = ap (says_from outside on.1.0) (sym (append-nil (lines_of m))) ∙ file_back (m ∷ []) on.1.0 (f, tt) in
    ap (λ (s : List (List ℕ) × List ℕ). reads outside 0 s.0 s.1) (split_both [] bytes (lines_of m))
    ∙ ap (λ u. reads outside 0 (had.0 ++ (split_from u (lines_of m)).0) (split_from u (lines_of m)).1) on.0
    ∙ on.1.1
    ∙ ap (with_messages ms) back
    ∙ with_all ms (m ∷ [])

says_back : (r : Result (List LessonMessage) ℕ) → says_so r ≡ true → r ≡ Ok (messages_of r)
says_back (Ok ms) e = refl
says_back (Err n) e = cc

pub file_in : (bytes : List ℕ) → well_formed bytes ≡ true → file_says bytes ≡ Ok (messages_in bytes)
file_in bytes e = says_back (file_says bytes) e

-- a message was written behind a file
pub posted : {x : Unit {0}} (before after : LineWriter) (m : LessonMessage) → well_formed (written before) ≡ true → Formed m → Puts (Ok x) before after (lines_of m) → file_says (written after) ≡ Ok (messages_in (written before) ++ m ∷ [])
posted before after m w f put = ap file_says put.put.1 ∙ said_more (written before) (messages_in (written before)) m (file_in (written before) w) f
