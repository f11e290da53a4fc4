use Rattle.processor.proofs.Soundness.{stays_sound}
use Rattle.processor.proofs.Unused.{unused_bits_ignored}
use Rattle.processor.proofs.registers.Registers.step.Goals as goal

pub returns-clause-sound : goal.returns-clause-sound
returns-clause-sound c = stays_sound

pub returns-clause-unused : goal.returns-clause-unused
returns-clause-unused c = unused_bits_ignored
