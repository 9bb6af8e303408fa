-- What a stored value reads as.
use Rattle.std.specs.Prelude.{Bool, cond}

-- itself where it has the form, and else the least value that has it
abbrev pub reads_as : {A : Type 0} → (A → Bool) → A → A → A
reads_as form least x = cond (form x) x least
