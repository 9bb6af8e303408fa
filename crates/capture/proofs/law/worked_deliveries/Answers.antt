use Rattle.std.proofs.Common.{refl}
use Rattle.capture.proofs.law.worked_deliveries.Goals as goal

pub returns : goal.returns
returns c =
    record { in_order = refl; other_way = refl; out_of_order = refl; then_change = refl; pair_missing = refl; pair_there = refl; stated = refl; too_late = refl; no_advance = refl; joins_parts = refl }
