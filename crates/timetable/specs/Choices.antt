-- Option forms: when two are the same.
use Rattle.std.specs.Prelude.{Bool, true, false, ◌&&◌, ◌==◌}
use Rattle.timetable.specs.declared.options.Choice.{Choice}
use Rattle.timetable.specs.declared.options.Choice.TheVariants.{Wants, Reserves, Withdraws}
use Rattle.timetable.specs.declared.options.OptionForm.{OptionForm}

-- two choices are the same when they are of one kind, for the same subject
abbrev pub alike_choices : Choice → Choice → Bool
alike_choices (Wants m) (Wants n) = m == n
alike_choices (Wants m) (Reserves n) = false
alike_choices (Wants m) Withdraws = false
alike_choices (Reserves m) (Wants n) = false
alike_choices (Reserves m) (Reserves n) = m == n
alike_choices (Reserves m) Withdraws = false
alike_choices Withdraws (Wants n) = false
alike_choices Withdraws (Reserves n) = false
alike_choices Withdraws Withdraws = true

-- two forms are the same in pupil and choice
abbrev pub alike_forms : OptionForm → OptionForm → Bool
alike_forms f g = f.pupil == g.pupil && alike_choices f.choice g.choice
