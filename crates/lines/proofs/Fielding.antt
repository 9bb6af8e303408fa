-- How the fields of a line are read, one after the other.
use Rattle.std.proofs.Common.{◌≡◌, Some, Option, ap}
use Rattle.lines.specs.Fields.{then}

pub then_some : {A B : Type 0} (o : Option A) (a : A) (f : A → Option B) → o ≡ Some a → then o f ≡ f a
then_some o a f e = ap (λ v. then v f) e
