-- What stored values read as has its form.
use Rattle.std.proofs.Common.{◌≡◌, ℕ, ◌≤◌, Bool, true, ◌&&◌, List, map, negsuc, Some, None, Option, refl, arith}
use Rattle.std.specs.Option.{OnSome}
use Rattle.std.specs.List.{AllByRecursion}
use Rattle.std.proofs.ByRecursion.{All-map, All-weaker}
use Rattle.std.proofs.lemmas.Bool.{and_from}
use Rattle.lattice.specs.declared.product.Product.{Product}
use Rattle.timetable.specs.declared.week.Week.{Week}
use Rattle.timetable.specs.declared.lesson.Lesson.{Lesson}
use Rattle.timetable.specs.declared.amount.Amount.{Amount}
use Rattle.timetable.specs.Readings.{reads_as}
use Rattle.timetable.specs.Weeks.{is_week}
use Rattle.timetable.specs.Lessons.{is_class, is_room, is_period, is_amount, lesson_value, amount_value}
use Rattle.capture.specs.Views.{change_of, count_of, message_of}
use Rattle.capture.specs.declared.message.Message.{Message as View}
use Rattle.capture.specs.declared.message.Message.TheVariants.{Updates, Progress}
use Rattle.lines.specs.Numbers.{most}
use Rattle.lines.specs.Values.{time_value}
use Rattle.writing.specs.Writing.{FormedTime, FormedChange, FormedCount, Formed, FitsTypes}

keeps_form : {A : Type 0} (form : A → Bool) (least x : A) → form least ≡ true → form (reads_as form least x) ≡ true
keeps_form form least x e = grind arith

zero_is_week : is_week 0 ≡ true
unfolding is_week
zero_is_week = refl

-- a round that fits 64 bits, and any stored week
pub formed_time : (t : Product ℕ Week) → t.outer ≤ most → FormedTime (time_value t)
formed_time t h = (h, keeps_form is_week 0 t.inner.number zero_is_week)

pub formed_change : (c : Lesson × Product ℕ Week × Amount) → c.1.outer ≤ most → FormedChange (change_of lesson_value time_value amount_value c)
formed_change c h =
    let l = c.0 in
    let class = keeps_form is_class 1 l.class refl in
    let room = keeps_form is_room 1 l.room refl in
    let period = keeps_form is_period 1 l.period refl in
    (formed_time c.1 h, and_from (is_class (lesson_value l).0 && is_room (lesson_value l).1) (is_period (lesson_value l).2) (and_from (is_class (lesson_value l).0) (is_room (lesson_value l).1) class room) period, keeps_form is_amount (negsuc 999) c.2.number refl)

pub formed_count : (c : Product ℕ Week × ℕ) → c.0.outer ≤ most → c.1 ≤ 4294967295 → FormedCount (count_of time_value c)
formed_count c h k = (formed_time c.0 h, k)

all_map : {X Y : Type 0} (f : X → Y) (P : X → Type 0) (Q : Y → Type 0) → ((x : X) → P x → Q (f x)) → (xs : List X) → AllByRecursion P xs → AllByRecursion Q (map f xs)
all_map f P Q g xs h = All-map Q f xs (All-weaker P (λ x. Q (f x)) g xs h)

formed_view : (v : View Lesson (Product ℕ Week) Amount) → FitsTypes v → Formed (message_of lesson_value time_value amount_value v)
formed_view (Updates cs) h = all_map (change_of lesson_value time_value amount_value) (λ c. c.1.outer ≤ most) FormedChange formed_change cs.now h
formed_view (Progress s) h =
    (all_map time_value (λ t. t.outer ≤ most) FormedTime formed_time s.lower.now h.0, all_map time_value (λ t. t.outer ≤ most) FormedTime formed_time s.upper.now h.1, all_map (count_of time_value) (λ c. (c.0.outer ≤ most) × (c.1 ≤ 4294967295)) FormedCount (λ c k. formed_count c k.0 k.1) s.counts.now h.2)

pub formed_views : (vs : List (View Lesson (Product ℕ Week) Amount)) → AllByRecursion FitsTypes vs → AllByRecursion Formed (map (message_of lesson_value time_value amount_value) vs)
formed_views = all_map (message_of lesson_value time_value amount_value) FitsTypes Formed formed_view

-- what is said where there is a value, said of more
pub where_some : {X P Q : Type 0} (o : Option X) → (P → Q) → OnSome o P → OnSome o Q
where_some None f h = h
where_some (Some x) f h = f h
