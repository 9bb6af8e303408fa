use Rattle.std.proofs.Common.{true, false, [], ◌∷◌, refl}
use Rattle.capture.specs.Posts.{Pump, Pumped}
use Rattle.capture.specs.Runs.{In, Turned, Step, Run}
use Rattle.capture.specs.Deliveries.{change}
use Rattle.capture.proofs.law.sample_run.Goals as goal

-- each call is made once, and some are refused for a short table first
pub returns : goal.returns
returns c = (
  _,
  _,
  Run.then (Run.then (Run.then (Run.then (Run.then (Run.then (Run.then (Run.then (Run.then (Run.then (Run.then (Run.then (Run.then
      (Run.begun (true ∷ false ∷ []) {a = []} {b = []} refl refl)
      (Step.records false {cs = change 7 0 ∷ []} refl))
      (Step.records true {cs = change 7 0 ∷ []} refl))
      (Step.closes true {l = 1 ∷ []} refl))
      (Step.pumps_changes false (Pump.refuses refl)))
      (Step.pumps_changes true (Pump.pumps refl (Pumped.takes refl refl Pumped.empty))))
      (Step.pumps_statements true (Pump.pumps refl (Pumped.takes refl refl Pumped.empty))))
      (Step.feeds true (In.there In.here) Turned.here))
      (Step.feeds true In.here Turned.here))
      (Step.sifts true {cs = change 7 0 ∷ []} In.here (Turned.there Turned.here)))
      (Step.notes true (In.there In.here) (Turned.there Turned.here)))
      (Step.settles true (Turned.there Turned.here)))
      (Step.heeds true (Turned.there Turned.here)))
      (Step.puts_away true (Turned.there Turned.here)),
  refl,
  refl,
  refl,
  refl,
  refl,
)
