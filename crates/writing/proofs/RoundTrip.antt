-- Messages that are written as lines read back.
use Rattle.std.proofs.Common.{◌≡◌, ℕ, suc, ◌+◌, ◌≤◌, true, false, eqb, List, [], ◌∷◌, ◌++◌, ℤ, pos, negsuc, Some, Ok, decimal, sym, refl, ap, ◌∙◌, append_assoc, arith}
use lib.Signed.{mag}
use Rattle.std.specs.List.{flat_map, AllByRecursion}
use Rattle.std.proofs.ByRecursion.{All-append}
use Rattle.std.specs.Fmt.{signed_decimal}
use Rattle.std.proofs.lemmas.List.{append-nil}
use Rattle.std.proofs.lemmas.Bool.{le-leb, ne_eqb}
use Rattle.std.proofs.lemmas.Bool.Decides.{nat_tests}
use Rattle.timetable.specs.Weeks.{weeks_in, is_week}
use Rattle.timetable.specs.Lessons.{is_lesson, is_amount}
use Rattle.capture.specs.Messages.{changes, statement}
use Rattle.lines.specs.Numbers.{most}
use Rattle.lines.specs.Cuts.{cut_at}
use Rattle.lines.specs.Fields.{time_in, time_then, lesson_then, amount_in}
use Rattle.lines.specs.Said.{Said, opens_changes, opens_statement, a_change, a_lower, an_upper, a_count, ends, line_says}
use Rattle.lines.specs.Format.{LessonChange, LessonMessage, Draft, outside, in_changes, in_statement, no_statement, goes_on, completes, step, with_message, says_from}
use Rattle.writing.specs.Writing.{number_before, time_before, lesson_before, line_of, change_text, time_text, count_text, lines_of, FormedTime, FormedChange, FormedCount, Formed}
use Rattle.lines.specs.declared.part.Part.{Part}
use Rattle.lines.specs.declared.part.Part.TheVariants.{Lower, Upper, Counts}
use Rattle.writing.proofs.Spelling.{Free, cut_free, free_decimal, number_decimal, number_then_decimal, signed_back}
use Rattle.lines.proofs.Reading.{line_goes_on, line_completes}

week_small : (n : ℕ) → is_week n ≡ true → n ≤ 219999
unfolding is_week weeks_in
week_small n e = grind (arith, nat_tests)

lesson_small : (l : ℕ × ℕ × ℕ) → is_lesson l ≡ true → (l.0 ≤ 9999) × (l.1 ≤ 200) × (l.2 ≤ 50)
lesson_small l e = (grind (arith, nat_tests), grind (arith, nat_tests), grind (arith, nat_tests))

amount_small : (z : ℤ) → is_amount z ≡ true → mag z ≤ 1000
amount_small (pos n) e = grind (arith, nat_tests)
amount_small (negsuc n) e = grind (arith, nat_tests)

time_back : (t : ℕ × ℕ) → FormedTime t → time_in (decimal t.0 ++ number_before t.1 []) ≡ Some t
time_back t f = rw (number_then_decimal t.0 (decimal t.1 ++ []) f.0, append-nil (decimal t.1), number_decimal t.1 (omega (arith, week_small t.1 f.1)), f.1)

time_then_back : (t : ℕ × ℕ) (rest : List ℕ) → FormedTime t → time_then (decimal t.0 ++ number_before t.1 (9 ∷ rest)) ≡ Some (t, rest)
time_then_back t rest f = rw (number_then_decimal t.0 (decimal t.1 ++ 9 ∷ rest) f.0, number_then_decimal t.1 rest (omega (arith, week_small t.1 f.1)), f.1)

lesson_then_back : (l : ℕ × ℕ × ℕ) (rest : List ℕ) → is_lesson l ≡ true → lesson_then (decimal l.0 ++ number_before l.1 (number_before l.2 (9 ∷ rest))) ≡ Some (l, rest)
lesson_then_back l rest f =
    let small = lesson_small l f in
    rw (number_then_decimal l.0 (decimal l.1 ++ number_before l.2 (9 ∷ rest)) (omega (arith, small.0)), number_then_decimal l.1 (decimal l.2 ++ 9 ∷ rest) (omega (arith, small.1)), number_then_decimal l.2 rest (omega (arith, small.2)), f)

amount_back : (z : ℤ) → is_amount z ≡ true → amount_in (signed_decimal z) ≡ Some z
amount_back z f = rw (signed_back z (omega (arith, amount_small z f)), f)

-- what each kind of line says when it is written
pub change_says : (c : LessonChange) → FormedChange c → line_says (change_text c) ≡ Some (a_change c)
change_says c f = rw (time_then_back c.time (decimal c.what.0 ++ number_before c.what.1 (number_before c.what.2 (9 ∷ signed_decimal c.amount))) f.0, lesson_then_back c.what (signed_decimal c.amount) f.1, amount_back c.amount f.2)

pub lower_says : (t : ℕ × ℕ) → FormedTime t → line_says (time_text 76 t) ≡ Some (a_lower t)
lower_says t f = rw (time_back t f)

pub upper_says : (t : ℕ × ℕ) → FormedTime t → line_says (time_text 72 t) ≡ Some (an_upper t)
upper_says t f = rw (time_back t f)

pub count_says : (c : (ℕ × ℕ) × ℕ) → FormedCount c → line_says (count_text c) ≡ Some (a_count c)
count_says c f = rw (time_then_back c.0 (decimal c.1 ++ []) f.0, append-nil (decimal c.1), number_decimal c.1 (omega (arith, f.1)), le-leb c.1 4294967295 f.1)

-- no line has byte 10 within
free_number : (n : ℕ) (rest : List ℕ) → n ≤ most → Free 10 rest → Free 10 (number_before n rest)
free_number n rest h f = (ne_eqb 9 10 (λ e. omega arith), All-append (λ b. eqb b 10 ≡ false) (decimal n) rest (free_decimal 10 n (omega arith) (omega arith)) f)

free_time : (t : ℕ × ℕ) (rest : List ℕ) → FormedTime t → Free 10 rest → Free 10 (time_before t rest)
free_time t rest h f = free_number t.0 (number_before t.1 rest) h.0 (free_number t.1 rest (omega (arith, week_small t.1 h.1)) f)

free_signed : (z : ℤ) → mag z ≤ 1000 → Free 10 (signed_decimal z)
free_signed (pos n) h = free_decimal 10 n (omega arith) (omega arith)
free_signed (negsuc n) h = (ne_eqb 45 10 (λ e. omega arith), free_decimal 10 (suc n) (omega arith) (omega arith))

free_change : (c : LessonChange) → FormedChange c → Free 10 (change_text c)
free_change c f =
    let small = lesson_small c.what f.1 in
    let amount : Free 10 (9 ∷ signed_decimal c.amount) = (ne_eqb 9 10 (λ e. omega arith), free_signed c.amount (amount_small c.amount f.2)) in
    (ne_eqb 85 10 (λ e. omega arith), free_time c.time (lesson_before c.what (9 ∷ signed_decimal c.amount)) f.0 (free_number c.what.0 (number_before c.what.1 (number_before c.what.2 (9 ∷ signed_decimal c.amount))) (omega (arith, small.0)) (free_number c.what.1 (number_before c.what.2 (9 ∷ signed_decimal c.amount)) (omega (arith, small.1)) (free_number c.what.2 (9 ∷ signed_decimal c.amount) (omega (arith, small.2)) amount))))

free_count : (c : (ℕ × ℕ) × ℕ) → FormedCount c → Free 10 (count_text c)
free_count c f = (ne_eqb 67 10 (λ e. omega arith), free_time c.0 (number_before c.1 []) f.0 (free_number c.1 [] (omega (arith, f.1)) tt))

found_line : (text rest : List ℕ) → Free 10 text → cut_at 10 (line_of text ++ rest) ≡ Some (text, rest)
found_line text rest f = ap (cut_at 10) (append_assoc text (10 ∷ []) rest) ∙ cut_free 10 text rest f

-- a list of lines, each of which lets the message go on
lines_on : {X : Type 0} (P : X → Type 0) (text : X → List ℕ) (said : X → Said) (at : List X → Draft) → ((x : X) → P x → Free 10 (text x)) → ((x : X) → P x → line_says (text x) ≡ Some (said x)) → ((done : List X) (x : X) → step (at done) (said x) ≡ goes_on (at (done ++ x ∷ []))) → (done xs : List X) (rest : List ℕ) (n : ℕ) → AllByRecursion P xs → (k : ℕ) × (says_from (at done) n (flat_map (λ x. line_of (text x)) xs ++ rest) ≡ says_from (at (done ++ xs)) k rest)
lines_on P text said at free says on done [] rest n f = (n, ap (λ l. says_from (at l) n rest) (sym (append-nil done)))
lines_on P text said at free says on done (x ∷ xs) rest n f =
    let more = lines_on P text said at free says on (done ++ x ∷ []) xs rest (n + 1) f.1 in
    let here = line_goes_on (at done) n (line_of (text x) ++ (flat_map (λ x. line_of (text x)) xs ++ rest)) (text x) (flat_map (λ x. line_of (text x)) xs ++ rest) (found_line (text x) (flat_map (λ x. line_of (text x)) xs ++ rest) (free x f.0)) (said x) (says x f.0) (at (done ++ x ∷ [])) (on done x) in
    (more.0, ap (says_from (at done) n) (append_assoc (line_of (text x)) (flat_map (λ x. line_of (text x)) xs) rest) ∙ here ∙ more.1 ∙ ap (λ l. says_from (at l) more.0 rest) (append_assoc done (x ∷ []) xs))

-- the part of a statement after lines of the part q, if there were any
abbrev after_part : {X : Type 0} → Part → Part → List X → Part
after_part p q [] = p
after_part p q (x ∷ xs) = q

free_letter : (letter : ℕ) (t : ℕ × ℕ) → (letter ≡ 10 → ⊥) → FormedTime t → Free 10 (time_text letter t)
free_letter letter t other f = (ne_eqb letter 10 other, free_time t [] f tt)

upper_on : (lower : List (ℕ × ℕ)) (done : List (ℕ × ℕ)) (t : ℕ × ℕ) → step (in_statement (after_part Lower Upper done) (record { lower = lower; upper = done; counts = [] })) (an_upper t) ≡ goes_on (in_statement (after_part Lower Upper (done ++ t ∷ [])) (record { lower = lower; upper = done ++ t ∷ []; counts = [] }))
upper_on lower [] t = refl
upper_on lower (x ∷ xs) t = refl

count_on : (p : Part) (lower upper : List (ℕ × ℕ)) (done : List ((ℕ × ℕ) × ℕ)) (c : (ℕ × ℕ) × ℕ) → step (in_statement (after_part p Counts done) (record { lower = lower; upper = upper; counts = done })) (a_count c) ≡ goes_on (in_statement (after_part p Counts (done ++ c ∷ [])) (record { lower = lower; upper = upper; counts = done ++ c ∷ [] }))
count_on p lower upper [] c = refl
count_on p lower upper (x ∷ xs) c = refl

free_one : (b : ℕ) → (b ≡ 10 → ⊥) → Free 10 (b ∷ [])
free_one b other = (ne_eqb b 10 other, tt)

-- the line E completes a message
end_back : (d : Draft) (m : LessonMessage) (n : ℕ) (rest : List ℕ) → step d ends ≡ completes m → says_from d n (line_of (69 ∷ []) ++ rest) ≡ with_message m (says_from outside (n + 1) rest)
end_back d m n rest e = line_completes d n (line_of (69 ∷ []) ++ rest) (69 ∷ []) rest (found_line (69 ∷ []) rest (free_one 69 (λ e. omega arith))) ends refl m e

-- a message that is written reads back, whatever follows it
pub message_back : (m : LessonMessage) (rest : List ℕ) (n : ℕ) → Formed m → (k : ℕ) × (says_from outside n (lines_of m ++ rest) ≡ with_message m (says_from outside k rest))
message_back (changes cs) rest n f =
    let E = line_of (69 ∷ []) in
    let J = flat_map (λ c. line_of (change_text c)) cs in
    let opened = line_goes_on outside n (line_of (82 ∷ []) ++ (J ++ (E ++ rest))) (82 ∷ []) (J ++ (E ++ rest)) (found_line (82 ∷ []) (J ++ (E ++ rest)) (free_one 82 (λ e. omega arith))) opens_changes refl (in_changes []) refl in
    let all = lines_on FormedChange change_text a_change in_changes free_change change_says (λ done x. refl) [] cs (E ++ rest) (n + 1) f in
    (all.0 + 1, ap (says_from outside n) (append_assoc (line_of (82 ∷ [])) (J ++ E) rest ∙ ap (λ l. line_of (82 ∷ []) ++ l) (append_assoc J E rest)) ∙ opened ∙ all.1 ∙ end_back (in_changes cs) (changes cs) all.0 rest refl)
message_back (statement s) rest n f =
    let E = line_of (69 ∷ []) in
    let L = flat_map (λ t. line_of (time_text 76 t)) s.lower in
    let H = flat_map (λ t. line_of (time_text 72 t)) s.upper in
    let C = flat_map (λ c. line_of (count_text c)) s.counts in
    let p = after_part Lower Upper s.upper in
    let opened = line_goes_on outside n (line_of (83 ∷ []) ++ (L ++ (H ++ (C ++ (E ++ rest))))) (83 ∷ []) (L ++ (H ++ (C ++ (E ++ rest)))) (found_line (83 ∷ []) (L ++ (H ++ (C ++ (E ++ rest)))) (free_one 83 (λ e. omega arith))) opens_statement refl (in_statement Lower no_statement) refl in
    let lowers = lines_on FormedTime (time_text 76) a_lower (λ done. in_statement Lower (record { lower = done; upper = []; counts = [] })) (λ t g. free_letter 76 t (λ e. omega arith) g) lower_says (λ done t. refl) [] s.lower (H ++ (C ++ (E ++ rest))) (n + 1) f.0 in
    let uppers = lines_on FormedTime (time_text 72) an_upper (λ done. in_statement (after_part Lower Upper done) (record { lower = s.lower; upper = done; counts = [] })) (λ t g. free_letter 72 t (λ e. omega arith) g) upper_says (upper_on s.lower) [] s.upper (C ++ (E ++ rest)) lowers.0 f.1 in
    let counts = lines_on FormedCount count_text a_count (λ done. in_statement (after_part p Counts done) (record { lower = s.lower; upper = s.upper; counts = done })) free_count count_says (count_on p s.lower s.upper) [] s.counts (E ++ rest) uppers.0 f.2 in
    let regrouped : lines_of (statement s) ++ rest ≡ line_of (83 ∷ []) ++ (L ++ (H ++ (C ++ (E ++ rest)))) = simp append_assoc in
    (counts.0 + 1, ap (says_from outside n) regrouped ∙ opened ∙ lowers.1 ∙ uppers.1 ∙ counts.1 ∙ end_back (in_statement (after_part p Counts s.counts) s) (statement s) counts.0 rest refl)

-- a file of messages that are written reads back
pub file_back : (ms : List LessonMessage) (n : ℕ) → AllByRecursion Formed ms → says_from outside n (flat_map lines_of ms) ≡ Ok ms
file_back [] n f = refl
file_back (m ∷ ms) n f = let first = message_back m (flat_map lines_of ms) n f.0 in first.1 ∙ ap (with_message m) (file_back ms first.0 f.1)
