-- What the proofs ask of the kinds of data, time and amount.
use Rattle.lattice.specs.Orders.{Order, Joins, Starts}
use Rattle.lattice.specs.Sameness.{Exact}
use Rattle.capture.specs.Kinds.{Kinds}

-- times are ordered and joined, and have a start; data, and amounts, that test as the same are equal
pub record Lawful {D A R : Type 0} (k : Kinds D A R) : Type 0 where
  pub order : Order k.time.below
  pub joins : Joins k.time.below k.time.joined
  pub starts : Starts k.time.below k.time.start
  pub data_same : Exact k.same_data
  pub amounts_same : Exact k.same_amount
