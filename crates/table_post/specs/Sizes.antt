-- What a post in a table takes.
use Rattle.std.specs.Prelude.{ℕ}

-- it takes at most so many messages
abbrev pub post_messages : ℕ
post_messages = 64
