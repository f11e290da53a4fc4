-- Printed bytes that were pulled, said by the meaning of consoles alone.
use Rattle.std.specs.Prelude.{◌≡◌, ℕ, ◌+◌, ◌*◌, drop}
use Rattle.console.specs.Consoles.{Kind, Console}

-- So many printed bytes were pulled, and nothing else was done.
pub record Drained (kind : Kind) (before : Console) (pulled : ℕ) (after : Console) : Type 0 where
  pub printed_left : after.printed ≡ drop pulled before.printed
  pub paper_after : after.paper ≡ before.paper + pulled * kind.paper_back
  pub waiting_same : after.waiting ≡ before.waiting
  pub slots_same : after.slots ≡ before.slots
