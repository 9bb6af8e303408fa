-- The fifteen questions by number, and the first that a call answers no.
use Rattle.std.specs.Prelude.{ℕ, Bool, cond, List, [], ◌∷◌, Some, None, Option}
use Rattle.questions.specs.declared.Refusal.{Refusal}
use Rattle.questions.specs.declared.Refusal.TheVariants.{ShortTable, LongMessage, BehindFrontier, NoAdvance, LargeCount, OutsideStatement, CountedTwice, OtherAmount, ManyChanges, ManyWaiting, ManyCounts, ManyTimes, FullQueue, Malformed, LongListing}

-- the number of the question that a refusal answers no
abbrev pub number_of : Refusal → ℕ
number_of ShortTable = 1
number_of LongMessage = 2
number_of BehindFrontier = 3
number_of NoAdvance = 4
number_of LargeCount = 5
number_of OutsideStatement = 6
number_of CountedTwice = 7
number_of OtherAmount = 8
number_of ManyChanges = 9
number_of ManyWaiting = 10
number_of ManyCounts = 11
number_of ManyTimes = 12
number_of FullQueue = 13
number_of Malformed = 14
number_of LongListing = 15

-- a call's questions in their order, each a test with its number: the number of the first answered no
abbrev pub first_no : List (Bool × ℕ) → Option ℕ
first_no [] = None
first_no (q ∷ qs) = cond q.0 (first_no qs) (Some q.1)
