-- Whether the tables that a call is lent have their sizes.
use Rattle.std.specs.Prelude.{ℕ, Bool, ◌&&◌, nat_le}
use Rattle.frontier.specs.Tables.{frontier_size}
use Rattle.capture.specs.Sizes.{sender_counts, queue_messages}

-- a frontier, counts and a queue, by how long they are
abbrev pub lent_tables : ℕ → ℕ → ℕ → Bool
lent_tables frontier counts queue = nat_le frontier_size frontier && nat_le sender_counts counts && nat_le queue_messages queue
