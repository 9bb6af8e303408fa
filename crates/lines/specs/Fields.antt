-- What the fields of a line hold.
use Rattle.std.specs.Prelude.{ℕ, Bool, cond, not, List, [], ◌∷◌, ℤ, pos, neg_ℤ, Some, None, Option, ◌==◌, nat_le}
use Rattle.timetable.specs.Weeks.{is_week}
use Rattle.timetable.specs.Lessons.{is_lesson, is_amount}
use Rattle.capture.specs.Messages.{Change}
use Rattle.lines.specs.Numbers.{number_in}
use Rattle.lines.specs.Cuts.{cut_at}

-- the second reading, of what the first one gave
abbrev pub then : {A B : Type 0} → Option A → (A → Option B) → Option B
then None f = None
then (Some a) f = f a

-- the value, where the test says yes
abbrev pub only : {A : Type 0} → Bool → A → Option A
only b a = cond b (Some a) None

-- what stands behind a tab
abbrev pub behind_tab : List ℕ → Option (List ℕ)
behind_tab [] = None
behind_tab (b ∷ bs) = cond (b == 9) (Some bs) None

-- a number with a tab behind it, and what follows the tab
abbrev pub number_then : List ℕ → Option (ℕ × List ℕ)
number_then bs = then (cut_at 9 bs) (λ p. then (number_in p.0) (λ n. Some (n, p.1)))

-- a number that may have a minus before it; -0 is none
abbrev pub signed_in : List ℕ → Option ℤ
signed_in [] = None
signed_in (b ∷ bs) = cond (b == 45) (then (number_in bs) (λ n. only (not (n == 0)) (neg_ℤ (pos n)))) (then (number_in (b ∷ bs)) (λ n. Some (pos n)))

-- round and week, and no more
abbrev pub time_in : List ℕ → Option (ℕ × ℕ)
time_in bs = then (number_then bs) (λ p. then (number_in p.1) (λ w. only (is_week w) (p.0, w)))

-- round and week, a tab, and what follows
abbrev pub time_then : List ℕ → Option ((ℕ × ℕ) × List ℕ)
time_then bs = then (number_then bs) (λ p. then (number_then p.1) (λ q. only (is_week q.0) ((p.0, q.0), q.1)))

-- class, room and period, a tab, and what follows
abbrev pub lesson_then : List ℕ → Option ((ℕ × ℕ × ℕ) × List ℕ)
lesson_then bs = then (number_then bs) (λ c. then (number_then c.1) (λ r. then (number_then r.1) (λ p. only (is_lesson (c.0, r.0, p.0)) ((c.0, r.0, p.0), p.1))))

-- an amount, and no more
abbrev pub amount_in : List ℕ → Option ℤ
amount_in bs = then (signed_in bs) (λ z. only (is_amount z) z)

-- the fields of a change: its time, its lesson, its amount
abbrev pub change_in : List ℕ → Option (Change (ℕ × ℕ × ℕ) (ℕ × ℕ) ℤ)
change_in bs = then (time_then bs) (λ t. then (lesson_then t.1) (λ l. then (amount_in l.1) (λ a. Some (record { what = l.0; time = t.0; amount = a }))))

-- the fields of a count: its time, and how many
abbrev pub count_in : List ℕ → Option ((ℕ × ℕ) × ℕ)
count_in bs = then (time_then bs) (λ t. then (number_in t.1) (λ n. only (nat_le n 4294967295) (t.0, n)))
