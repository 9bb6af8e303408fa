-- When the program has something to tell.
use Rattle.std.specs.Prelude.{◌≡◌, ℕ, List, Some, None, Ok, Err}
use Rattle.questions.specs.Questions.{number_of, first_no}
use Rattle.frontiers.specs.declared.fault.Fault.{Fault}
use Rattle.frontiers.specs.declared.fault.Fault.TheVariants.{Malformed, Refused, Memory}
use Rattle.frontiers.specs.Input.{Told, input_says}
use Rattle.frontiers.specs.Comparing.{compare_asks}

-- every line is well formed, and the comparison of the two lists is accepted
abbrev pub Tells : List ℕ → Type 0
Tells bytes = (l : Told) × (input_says bytes ≡ Ok l) × (first_no (compare_asks l.0 l.1) ≡ None)

-- why there is nothing to tell: the first malformed line, or the question that the comparison answers no
abbrev pub Untold : Fault → List ℕ → Type 0
Untold (Malformed n e) bytes = input_says bytes ≡ Err (n, e)
Untold (Refused q) bytes = (l : Told) × (input_says bytes ≡ Ok l) × (first_no (compare_asks l.0 l.1) ≡ Some (number_of q))
Untold Memory bytes = Unit {0}
