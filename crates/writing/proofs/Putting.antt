-- One text put behind the other.
use Rattle.std.proofs.Common.{◌≡◌, ℕ, ◌+◌, ◌<◌, ◌≤◌, List, [], ◌∷◌, ◌++◌, map, length, get_or, take, drop, Ok, Err, IsErr, Result, sym, refl, ap, ◌∙◌, subst, append_assoc, arith}
use Rattle.std.specs.List.{flat_map}
use Rattle.std.specs.Fmt.{signed_decimal}
use Rattle.std.proofs.lemmas.List.{append-nil, flat_map_more, length-append, length-take-le, take-append-drop, take-append-le, take_more, take-take}
use Rattle.std.proofs.lemmas.List.Concat.{flat_map-append}
use Rattle.std.proofs.lemmas.List.Folds.{flat_map-map}
use Rattle.lattice.specs.declared.product.Product.{Product}
use Rattle.timetable.specs.declared.week.Week.{Week}
use Rattle.timetable.specs.declared.lesson.Lesson.{Lesson}
use Rattle.timetable.specs.declared.amount.Amount.{Amount}
use Rattle.timetable.specs.Weeks.{week_value}
use Rattle.timetable.specs.Lessons.{lesson_value, amount_value}
use Rattle.capture.specs.Messages.{changes, statement}
use Rattle.capture.specs.declared.message.Progress.{Progress as StatementView}
use Rattle.writing.specs.Puts.{number_text, change_value, statement_value, change_line, time_line, count_line, lettered_line, written, Puts}
use Rattle.writing.specs.Writing.{number_before, line_of, lines_of}
use Rattle.writing.specs.declared.full.Full.{Full}
use Rattle.writing.specs.declared.line_writer.LineWriter.{LineWriter}

pub puts_as : {r : Result (Unit {0}) Full} {b a : LineWriter} {s t : List ℕ} → s ≡ t → Puts r b a s → Puts r b a t
puts_as {r = r} {b = b} {a = a} e h = subst (λ l. Puts r b a l) e h

pub puts_nothing : (w : LineWriter) → Puts (Ok (tt {0})) w w []
puts_nothing w = record { same_bytes = refl; same_room = refl; put = (omega arith, sym (append-nil (written w))); refused = tt; kept = tt }

-- the first text does not fit, and so not both
pub puts_stop : {b a : LineWriter} {s : List ℕ} {e : Full} (r : Result (Unit {0}) Full) (t : List ℕ) → IsErr r → Puts (Err e) b a s → Puts r b a (s ++ t)
puts_stop (Ok x) t stops h = cc
puts_stop {s = s} (Err f) t stops h = record { same_bytes = h.same_bytes; same_room = h.same_room; put = tt; refused = omega (arith, h.refused, length-append s t); kept = h.kept }

-- the first text is put, and then the second
pub puts_then : {b m a : LineWriter} {s t : List ℕ} {x : Unit {0}} (r : Result (Unit {0}) Full) → Puts (Ok x) b m s → Puts r m a t → Puts r b a (s ++ t)
puts_then {b = b} {s = s} {t = t} (Ok y) h k =
    record {
      same_bytes = k.same_bytes ∙ h.same_bytes;
      same_room = k.same_room ∙ h.same_room;
      put = (omega (arith, h.put.0, k.put.0, length-append s t), k.put.1 ∙ ap (λ l. l ++ t) h.put.1 ∙ append_assoc (written b) s t);
      refused = tt;
      kept = tt;
    }
puts_then {b = b} {m = m} {a = a} {s = s} {t = t} (Err e) h k =
    let low : b.len ≤ m.len = omega (arith, h.put.0) in
    record {
      same_bytes = k.same_bytes ∙ h.same_bytes;
      same_room = k.same_room ∙ h.same_room;
      put = tt;
      refused = omega (arith, h.put.0, h.same_room, k.refused, length-append s t);
      kept = (
        omega (arith, h.put.0, k.kept.0),
        sym (take-take b.len m.len a.bytes.now low) ∙ ap (take b.len) (k.kept.1 ∙ h.put.1) ∙ take-append-le b.len (written b) s (omega (arith, length-take-le b.len b.bytes.now b.inside)) ∙ take-take b.len b.len b.bytes.now (omega arith),
      );
    }

module _ {X : Type 0} (f : X → List ℕ) (xs : List X) (i : ℕ) (d : X) (h : i < length xs) where
  -- the texts of one entry more
  next_joined : flat_map f (take i xs) ++ f (get_or xs i d) ≡ flat_map f (take (i + 1) xs)
  next_joined = flat_map_more f [] (take i xs) (get_or xs i d) ∙ ap (flat_map f) (sym (take_more xs i d h))

  -- the next text does not fit, and so not all of them
  pub puts_no_more : {b m a : LineWriter} {x : Unit {0}} {e : Full} (r : Result (Unit {0}) Full) → IsErr r → Puts (Ok x) b m (flat_map f (take i xs)) → Puts (Err e) m a (f (get_or xs i d)) → Puts r b a (flat_map f xs)
  puts_no_more {e = e} r stops p q =
      puts_as (ap (λ l. l ++ flat_map f (drop (i + 1) xs)) next_joined ∙ sym (flat_map-append f (take (i + 1) xs) (drop (i + 1) xs)) ∙ ap (flat_map f) (take-append-drop (i + 1) xs))
      (puts_stop r (flat_map f (drop (i + 1) xs)) stops (puts_then (Err e) p q))

-- the pieces of a change's line
change_pieces : (letter n₁ n₂ n₃ n₄ n₅ : ℕ) (s : List ℕ) → (letter ∷ []) ++ (flat_map number_text (n₁ ∷ n₂ ∷ n₃ ∷ n₄ ∷ n₅ ∷ []) ++ ((9 ∷ s) ++ 10 ∷ [])) ≡ line_of (letter ∷ number_before n₁ (number_before n₂ (number_before n₃ (number_before n₄ (number_before n₅ (9 ∷ s))))))
change_pieces letter n₁ n₂ n₃ n₄ n₅ s = simp append_assoc

pub change_written : (letter : ℕ) (c : Lesson × Product ℕ Week × Amount) → (letter ∷ []) ++ (flat_map number_text (c.1.outer ∷ week_value c.1.inner ∷ (lesson_value c.0).0 ∷ (lesson_value c.0).1 ∷ (lesson_value c.0).2 ∷ []) ++ ((9 ∷ signed_decimal (amount_value c.2)) ++ 10 ∷ [])) ≡ lettered_line letter c
change_written letter c = change_pieces letter c.1.outer (week_value c.1.inner) (lesson_value c.0).0 (lesson_value c.0).1 (lesson_value c.0).2 (signed_decimal (amount_value c.2))

-- the lists of a message, by what they hold and by what that reads as
pub changes_written : (cs : List (Lesson × Product ℕ Week × Amount)) → line_of (82 ∷ []) ++ (flat_map change_line cs ++ line_of (69 ∷ [])) ≡ lines_of (changes (map change_value cs))
changes_written cs = simp flat_map-map

pub statement_written : (s : StatementView (Product ℕ Week)) → line_of (83 ∷ []) ++ (flat_map (time_line 76) s.lower.now ++ (flat_map (time_line 72) s.upper.now ++ (flat_map count_line s.counts.now ++ line_of (69 ∷ [])))) ≡ lines_of (statement (statement_value s))
statement_written s = simp flat_map-map
