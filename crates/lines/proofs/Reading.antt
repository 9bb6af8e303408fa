-- How a file goes on behind a line.
use Rattle.std.proofs.Common.{◌≡◌, ℕ, zero, suc, ◌+◌, ◌<◌, min, Bool, ◌&&◌, ltb, leb, List, [], ◌∷◌, ◌++◌, map, length, take, Some, None, Err, sym, refl, ap, ◌∙◌, arith}
use Rattle.std.proofs.lemmas.List.{length-take, length_push, length-map, map_push, take-map}
use Rattle.std.proofs.lemmas.Bool.Decides.{nat_tests}
use Rattle.lines.specs.declared.line.Line.{Line}
use Rattle.lines.specs.Cuts.{cut_at, split_from}
use Rattle.lines.specs.Said.{Said, line_says, line_value}
use Rattle.lines.specs.Format.{LessonMessage, Draft, Next, outside, goes_on, completes, stops, step, with_message, closes, reads, says_from}
use Rattle.lines.specs.Ahead.{left, ahead, follows, HandsOut}
use Rattle.lines.specs.declared.line_reader.LineReader.{LineReader}
use Rattle.lines.proofs.Cutting.{split_at, split_end}

module _ (d : Draft) (n : ℕ) (rest : List ℕ) where
  module _ (line behind : List ℕ) (found : cut_at 10 rest ≡ Some (line, behind)) where
    opened_line : says_from d n rest ≡ reads d n (line ∷ (split_from [] behind).0) (split_from [] behind).1
    opened_line = ap (λ s. reads d n s.0 s.1) (split_at [] rest (line, behind) found)

    -- a line that says nothing
    pub line_malformed : line_says line ≡ None → says_from d n rest ≡ Err (n + 1)
    line_malformed e =
        opened_line ∙ ap (λ o. elim o [ None ↦ Err (n + 1) | Some x ↦ elim (step d x) [ stops ↦ Err (n + 1) | goes_on e ↦ says_from e (n + 1) behind | completes m ↦ with_message m (says_from outside (n + 1) behind) ] ]) e

    module _ (x : Said) (says : line_says line ≡ Some x) where
      said_line : says_from d n rest ≡ elim (step d x) [ stops ↦ Err (n + 1) | goes_on e ↦ says_from e (n + 1) behind | completes m ↦ with_message m (says_from outside (n + 1) behind) ]
      said_line =
          opened_line ∙ ap (λ o. elim o [ None ↦ Err (n + 1) | Some x ↦ elim (step d x) [ stops ↦ Err (n + 1) | goes_on e ↦ says_from e (n + 1) behind | completes m ↦ with_message m (says_from outside (n + 1) behind) ] ]) says

      -- a line with which the message goes on
      pub line_goes_on : (e : Draft) → step d x ≡ goes_on e → says_from d n rest ≡ says_from e (n + 1) behind
      line_goes_on e h = said_line ∙ ap (λ v. elim v [ stops ↦ Err (n + 1) | goes_on e ↦ says_from e (n + 1) behind | completes m ↦ with_message m (says_from outside (n + 1) behind) ]) h

      -- a line that completes a message
      pub line_completes : (m : LessonMessage) → step d x ≡ completes m → says_from d n rest ≡ with_message m (says_from outside (n + 1) behind)
      line_completes m h = said_line ∙ ap (λ v. elim v [ stops ↦ Err (n + 1) | goes_on e ↦ says_from e (n + 1) behind | completes m ↦ with_message m (says_from outside (n + 1) behind) ]) h

  -- no line is left
  pub no_line : cut_at 10 rest ≡ None → says_from d n rest ≡ closes d n rest
  no_line e = ap (λ s. reads d n s.0 s.1) (split_end [] rest e)

-- what a line came to, by the number of lines that the reader handed out
counted : (m : Next) (n : ℕ) (s : LineReader) → s.count ≡ n + 1 → elim m [ stops ↦ Err (n + 1) | goes_on e ↦ says_from e (n + 1) (left s) | completes o ↦ with_message o (says_from outside (n + 1) (left s)) ] ≡ follows m s
counted (goes_on e) n s next = ap (λ k. says_from e k (left s)) (sym next)
counted (completes o) n s next = ap (λ k. with_message o (says_from outside k (left s))) (sym next)
counted stops n s next = ap Err (sym next)

-- a line that says something is not empty
pub said_some : (line : List ℕ) (x : Said) → line_says line ≡ Some x → 0 < length line
said_some [] x e = let z : ◌≡◌ {A = ℕ} 0 1 = cc in absurd (omega arith)
said_some (b ∷ bs) x e = omega arith

-- a reader r that handed out a line and is then s
module _ (d : Draft) (r s : LineReader) (line : List ℕ) (found : cut_at 10 (left r) ≡ Some (line, left s)) (next : s.count ≡ r.count + 1) where
  pub ahead_malformed : line_says line ≡ None → ahead d r ≡ Err s.count
  ahead_malformed e = line_malformed d r.count (left r) line (left s) found e ∙ ap Err (sym next)

  pub ahead_said : (x : Line) → line_says line ≡ Some (line_value x) → ahead d r ≡ follows (step d (line_value x)) s
  ahead_said x says = said_line d r.count (left r) line (left s) found (line_value x) says ∙ counted (step d (line_value x)) r.count s next

-- a line more, with which the message goes on
pub went_on : (first d e : Draft) (before r s : LineReader) (x y : Line) → ahead first before ≡ ahead d r → HandsOut x r s → x ≡ y → step d (line_value y) ≡ goes_on e → ahead first before ≡ ahead e s
went_on first d e before r s x y so_far line is next = so_far ∙ line.said d ∙ ap (λ z. follows (step d (line_value z)) s) is ∙ ap (λ n. follows n s) next

-- what is taken from a front is what is taken from the whole
take_front : {A : Type 0} (n : ℕ) (xs ys : List A) → take n (take n xs ++ ys) ≡ take n (xs ++ ys)
take_front zero xs ys = refl
take_front (suc n) [] ys = refl
take_front (suc n) (x ∷ xs) ys = ap (λ l. x ∷ l) (take_front n xs ys)

-- a list that is kept up to its n-th value takes one value more, and whether it fits goes by whether there was a place
pub pushed : {X A : Type 0} (value : X → A) (n : ℕ) (xs ys : List X) (all : List A) (x : X) (fit room : Bool) → map value xs ≡ take n all → fit ≡ leb (length all) n → room ≡ ltb (length xs) n → ys ≡ take n (xs ++ x ∷ []) → (map value ys ≡ take n (all ++ value x ∷ [])) × ((fit && room) ≡ leb (length (all ++ value x ∷ [])) n)
pushed value n xs ys all x fit room kept fits had after =
    let same : length xs ≡ min n (length all) = sym (length-map xs value) ∙ ap length kept ∙ length-take n all in
    let more : length (all ++ value x ∷ []) ≡ length all + 1 = length_push all (value x) in (
      ap (map value) after ∙ sym (take-map value n (xs ++ x ∷ [])) ∙ ap (take n) (map_push value xs x) ∙ ap (λ l. take n (l ++ value x ∷ [])) kept ∙ take_front n all (value x ∷ []),
      grind (arith, nat_tests),
    )
