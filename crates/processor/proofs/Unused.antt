-- Bits that no operand uses do not matter.
use Rattle.std.proofs.Common.{ap, ◌∙◌}
use Rattle.u5.proofs.Encodings.{reads_as}
use Rattle.processor.specs.Effects.{obeyed, fetched}
use Rattle.processor.specs.Laws.{UnusedBitsIgnored}
use Rattle.processor.proofs.Fetches.{obeys}

pub unused_bits_ignored : UnusedBitsIgnored
unused_bits_ignored p ss i extra can few is = obeys p ss can ∙ ap (λ x. obeyed x p ss) (reads_as i (fetched p) extra few is)
