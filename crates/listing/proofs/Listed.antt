-- The lines of a listing, by what is stored and by what that reads as.
use Rattle.std.proofs.Common.{◌≡◌, ℕ, List, [], ◌∷◌, ◌++◌, map, length}
use Rattle.std.specs.List.{flat_map}
use Rattle.std.proofs.lemmas.List.{length-map}
use Rattle.std.proofs.lemmas.List.Folds.{flat_map-map}
use Rattle.lattice.specs.declared.product.Product.{Product}
use Rattle.timetable.specs.declared.week.Week.{Week}
use Rattle.timetable.specs.declared.lesson.Lesson.{Lesson}
use Rattle.timetable.specs.declared.amount.Amount.{Amount}
use Rattle.lines.specs.Values.{time_value}
use Rattle.writing.specs.Puts.{change_value, time_line, numbers_line, lettered_line}
use Rattle.listing.specs.Listing.{interval_text}

pub interval_written : (cs : List (Lesson × Product ℕ Week × Amount)) (ts : List (Product ℕ Week)) → numbers_line 73 (length cs ∷ length ts ∷ []) ++ (flat_map (lettered_line 80) cs ++ flat_map (time_line 70) ts) ≡ interval_text (map change_value cs, map time_value ts)
interval_written cs ts = simp (length-map, flat_map-map)
