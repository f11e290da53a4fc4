-- What a console means: the bytes that wait, the slots for more, the printed bytes not yet collected, and the paper for more.
use Rattle.std.specs.Prelude.{◌≡◌, ℕ, zero, suc, ◌+◌, List, [], ◌∷◌, ◌++◌, Some, None, Ok, Err, Option, Result}
use Rattle.console.specs.declared.NoPaper.{NoPaper}
use Rattle.console.specs.declared.NoSlot.{NoSlot}

-- The two fixed figures of a kind: how many slots a taken byte gives back, and how many paper places a pulled one.
pub record Kind : Type 0 where
  pub slot_back : ℕ
  pub paper_back : ℕ

-- What a console holds, and what it has room for.
pub record Console : Type 0 where
  pub waiting : List ℕ
  pub slots : ℕ
  pub printed : List ℕ
  pub paper : ℕ

-- The machine takes the first byte that waits.
pub record Taken (kind : Kind) (before : Console) (byte : ℕ) (after : Console) : Type 0 where
  pub first_waited : before.waiting ≡ byte ∷ after.waiting
  pub slots_after : after.slots ≡ before.slots + kind.slot_back
  pub printed_same : after.printed ≡ before.printed
  pub paper_same : after.paper ≡ before.paper

-- The machine prints a byte.
pub record Put (before : Console) (byte : ℕ) (after : Console) : Type 0 where
  pub printed_last : after.printed ≡ before.printed ++ (byte ∷ [])
  pub paper_used : before.paper ≡ suc after.paper
  pub waiting_same : after.waiting ≡ before.waiting
  pub slots_same : after.slots ≡ before.slots

-- A byte from outside goes in behind those that wait.
pub record Offered (before : Console) (byte : ℕ) (after : Console) : Type 0 where
  pub waits_last : after.waiting ≡ before.waiting ++ (byte ∷ [])
  pub slot_used : before.slots ≡ suc after.slots
  pub printed_same : after.printed ≡ before.printed
  pub paper_same : after.paper ≡ before.paper

-- The first printed byte goes out.
pub record Pulled (kind : Kind) (before : Console) (byte : ℕ) (after : Console) : Type 0 where
  pub first_printed : before.printed ≡ byte ∷ after.printed
  pub paper_after : after.paper ≡ before.paper + kind.paper_back
  pub waiting_same : after.waiting ≡ before.waiting
  pub slots_same : after.slots ≡ before.slots

-- What a take answers, and the console before and after it.
abbrev pub Takes : Kind → Console → Option ℕ → Console → Type 0
Takes kind before (Some byte) after = Taken kind before byte after
Takes kind before None after = (before.waiting ≡ []) × (after ≡ before)

-- The same for a put.
abbrev pub Puts : Console → ℕ → Result (Unit {0}) NoPaper → Console → Type 0
Puts before byte (Ok _) after = Put before byte after
Puts before byte (Err _) after = (before.paper ≡ zero) × (after ≡ before)

-- The same for an offer.
abbrev pub Offers : Console → ℕ → Result (Unit {0}) NoSlot → Console → Type 0
Offers before byte (Ok _) after = Offered before byte after
Offers before byte (Err _) after = (before.slots ≡ zero) × (after ≡ before)

-- The same for a pull.
abbrev pub Pulls : Kind → Console → Option ℕ → Console → Type 0
Pulls kind before (Some byte) after = Pulled kind before byte after
Pulls kind before None after = (before.printed ≡ []) × (after ≡ before)
