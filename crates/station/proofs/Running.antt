-- One more step of a run.
use Rattle.std.proofs.Common.{◌≡◌, ℕ, ◌+◌, ◌<◌, Err, sym, ap, subst, add-one}
use Rattle.console.specs.Consoles.{Kind}
use Rattle.processor.specs.declared.ending.Ending.{Ending}
use Rattle.processor.specs.declared.ending.Ending.TheVariants.{Halt}
use Rattle.station.specs.declared.attempt.Obstacle.{Obstacle}
use Rattle.station.specs.declared.attempt.Obstacle.TheVariants.{Lacking, Impossible}
use Rattle.station.specs.declared.answer.Stop.TheVariants.{Spent, Wants, Ended}
use Rattle.station.specs.declared.unit.Phase.TheVariants as phase
use Rattle.station.specs.Machines.{Machine, next, Step, Halts, Tries, Steps, one_step, Goes, all_spent, in_want, at_end, at_halt, stop_at}

module _ {kind : Kind} {m m₁ : Machine} {n : ℕ} (steps : Steps kind m n m₁) where
  pub more : (m₂ : Machine) → Step kind (next m₁) m₁ m₂ → Steps kind m (n + 1) m₂
  more m₂ step = rw add-one (one_step steps step)

  pub spent : (granted : ℕ) → n ≡ granted → Goes kind m granted granted Spent m₁
  spent granted is = subst (λ (g : ℕ). Goes kind m g g Spent m₁) is (all_spent steps)

  pub halting : {granted : ℕ} (m₂ : Machine) → n < granted → Halts (next m₁) m₁ m₂ → Goes kind m granted (n + 1) (Ended Halt) m₂
  halting m₂ lt halts = rw add-one (at_halt lt steps halts)

  pub hindered : {granted : ℕ} (obstacle : Obstacle) (m₂ : Machine) → n < granted → Tries kind (next m₁) m₁ (Err obstacle) m₂ → Goes kind m granted n (stop_at obstacle) m₂
  hindered {granted} (Lacking want) m₂ lt (lacks, same) = subst (λ (x : Machine). Goes kind m granted n (Wants want) x) (sym same) (in_want lt steps lacks)
  hindered {granted} (Impossible e) m₂ lt (does, same) = subst (λ (x : Machine). Goes kind m granted n (Ended e) x) (sym same) (at_end lt steps does)

-- an ended phase, by an equal length
pub of_length : (length : ℕ) (e : Ending) (length' : ℕ) → length ≡ length' → phase.Ended length e ≡ phase.Ended length' e
of_length length e length' is = ap (λ n. phase.Ended n e) is
