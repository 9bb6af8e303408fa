-- What a refusal says in words.
use Rattle.std.specs.Prelude.{ℕ, List, codes}
use Rattle.questions.specs.declared.Refusal.{Refusal}
use Rattle.questions.specs.declared.Refusal.TheVariants.{ShortTable, LongMessage, BehindFrontier, NoAdvance, LargeCount, OutsideStatement, CountedTwice, OtherAmount, ManyChanges, ManyWaiting, ManyCounts, ManyTimes, FullQueue, Malformed, LongListing}

-- why the question is answered no, as it is printed
unfoldable pub words_of : Refusal → List ℕ
words_of ShortTable = codes "a table is shorter than its size, or than what is in use of it"
words_of LongMessage = codes "a message has more than 64 changes, 32 lower times, 32 upper times or 256 counts"
words_of BehindFrontier = codes "a recorded time is behind the sender's frontier"
words_of NoAdvance = codes "a close does not move the sender's frontier on"
words_of LargeCount = codes "a count is over 1,000,000"
words_of OutsideStatement = codes "a counted time is not beyond the lower list and behind the upper list"
words_of CountedTwice = codes "a statement counts one time twice"
words_of OtherAmount = codes "a change has the data and time of an earlier one, and another amount"
words_of ManyChanges = codes "more than 2,048 changes would be held or pending"
words_of ManyWaiting = codes "32 statements are waiting already"
words_of ManyCounts = codes "the counts do not fit their table"
words_of ManyTimes = codes "a frontier has more than 32 times"
words_of FullQueue = codes "the queue has 16 messages already"
words_of Malformed = codes "a line is malformed, or a number is out of its range"
words_of LongListing = codes "a file or a listing has more than 65,536 bytes, or the listing does not fit"
