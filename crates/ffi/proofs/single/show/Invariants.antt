use Rattle.std.proofs.Common.{◌≡◌, ℕ, ◌+◌, ◌*◌, ◌<◌, [], ◌∷◌, get_or}
use Rattle.std.specs.List.{between}
use Rattle.assembler.specs.Texts.{bytes}
use Rattle.ffi.proofs.single.show.Given as goal

abbrev pub invariant-loop-number : goal.invariant-loop-number
invariant-loop-number l = (k : ℕ) → k < l.number → between (4 * k) (4 * k + 4) l.out ≡ bytes (get_or l.station.registers k 0 ∷ [])
