use Rattle.std.proofs.Common.{map}
use Rattle.timetable.specs.Lessons.{lesson_value, amount_value}
use Rattle.capture.specs.Views.{message_of}
use Rattle.lines.specs.Values.{time_value}
use Rattle.writing.proofs.Forming.{formed_views}
use Rattle.writing.proofs.RoundTrip.{file_back}
use Rattle.writing.proofs.round_trip.reads_back.Goals as goal

pub returns : goal.returns
returns c = record { meant = λ ms formed. file_back ms 0 formed; viewed = λ vs fit. file_back (map (message_of lesson_value time_value amount_value) vs) 0 (formed_views vs fit) }
