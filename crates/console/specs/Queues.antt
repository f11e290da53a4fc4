-- Bytes that go in and out of a console one after another.
use Rattle.std.specs.Prelude.{◌≡◌, ℕ, zero, ◌≤◌, ◌⊎◌, List, [], ◌∷◌, ◌++◌, length, take}
use Rattle.console.specs.Consoles.{Kind, Console, Offered, Pulled}

-- Bytes offered one after another.
pub data AllOffered (c : Console) : List ℕ → Console → Type 0 where
  none_offered : AllOffered c [] c
  one_offered : {c₁ c₂ : Console} {bs : List ℕ} {b : ℕ} → AllOffered c bs c₁ → Offered c₁ b c₂ → AllOffered c (bs ++ (b ∷ [])) c₂

-- Bytes pulled one after another.
pub data AllPulled (kind : Kind) (c : Console) : List ℕ → Console → Type 0 where
  none_pulled : AllPulled kind c [] c
  one_pulled : {c₁ c₂ : Console} {bs : List ℕ} {b : ℕ} → AllPulled kind c bs c₁ → Pulled kind c₁ b c₂ → AllPulled kind c (bs ++ (b ∷ [])) c₂

-- The bytes of a list are offered until they or the slots run out: how many went.
pub record Feeds (before : Console) (bytes : List ℕ) (went : ℕ) (after : Console) : Type 0 where
  pub offers : AllOffered before (take went bytes) after
  pub among : went ≤ length bytes
  pub until : (went ≡ length bytes) ⊎ (after.slots ≡ zero)

-- Printed bytes are pulled until they or the room run out: those that came.
pub record Collects (kind : Kind) (before : Console) (room : ℕ) (came : List ℕ) (after : Console) : Type 0 where
  pub pulls : AllPulled kind before came after
  pub fits_room : length came ≤ room
  pub until : (length came ≡ room) ⊎ (after.printed ≡ [])
