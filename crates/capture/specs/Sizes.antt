-- The sizes that questions 2, 5, 9, 10, 11 and 13 ask for; that of a frontier stands with the frontiers.
use Rattle.std.specs.Prelude.{ℕ, ◌-◌, ◌^◌}

-- a message of changes has at most so many
abbrev pub message_changes : ℕ
message_changes = 64

-- a statement has at most so many lower times, and so many upper ones
abbrev pub statement_times : ℕ
statement_times = 32

-- a statement has at most so many counts
abbrev pub statement_counts : ℕ
statement_counts = 256

-- a count that is announced is at most this
abbrev pub largest_count : ℕ
largest_count = 1000000

-- at most so many changes are held or pending
abbrev pub reader_changes : ℕ
reader_changes = 2048

-- at most so many statements wait
abbrev pub reader_statements : ℕ
reader_statements = 32

-- a reader's counts, and its waiting counts, have at most so many entries
abbrev pub reader_counts : ℕ
reader_counts = 1024

-- a sender's counts have at most so many entries
abbrev pub sender_counts : ℕ
sender_counts = 256

-- a queue has at most so many messages
abbrev pub queue_messages : ℕ
queue_messages = 16

-- the tally of drops stops here
abbrev pub largest_tally : ℕ
largest_tally = 2 ^ 64 - 1
