-- What each call does with a sitting.
use Rattle.std.specs.Prelude.{◌≡◌, ℕ, ◌+◌, ◌<◌, ◌≤◌, Ok, Err, Result}
use Rattle.sitting.specs.Account.{Account}
use Rattle.sitting.specs.declared.token.Sitting.{Sitting}
use Rattle.sitting.specs.declared.refusal.OpenRefusal.{OpenRefusal}
use Rattle.sitting.specs.declared.refusal.OpenRefusal.TheVariants.{NoCandidate, NoGrant}
use Rattle.sitting.specs.declared.refusal.DrawRefusal.{DrawRefusal}
use Rattle.sitting.specs.declared.refusal.GiveBackRefusal.{GiveBackRefusal}

-- an opened sitting has used nothing
pub record Opened (candidate grant : ℕ) (after : Account) : Type 0 where
  pub some_candidate : 0 < candidate
  pub some_grant : 0 < grant
  pub for_candidate : after.candidate ≡ candidate
  pub granted : after.grant ≡ grant
  pub none_used : after.used ≡ 0
  pub all_left : after.left ≡ grant

-- candidate 0 is refused, and then grant 0
abbrev pub Opens : ℕ → ℕ → Result Sitting OpenRefusal → Type 0
Opens candidate grant (Ok s) = Opened candidate grant s
Opens candidate grant (Err NoCandidate) = candidate ≡ 0
Opens candidate grant (Err NoGrant) = (0 < candidate) × (grant ≡ 0)

-- instructions go from what is left to what is used
pub record Drawn (before : Account) (count : ℕ) (after : Account) : Type 0 where
  pub enough : count ≤ before.left
  pub used_after : after.used ≡ before.used + count
  pub left_after : after.left + count ≡ before.left
  pub grant_same : after.grant ≡ before.grant
  pub candidate_same : after.candidate ≡ before.candidate

abbrev pub Draws : Account → ℕ → Result (Unit {0}) DrawRefusal → Account → Type 0
Draws before count (Ok _) after = Drawn before count after
Draws before count (Err _) after = (before.left < count) × (after ≡ before)

-- and back again
pub record GivenBack (before : Account) (count : ℕ) (after : Account) : Type 0 where
  pub enough : count ≤ before.used
  pub used_after : after.used + count ≡ before.used
  pub left_after : after.left ≡ before.left + count
  pub grant_same : after.grant ≡ before.grant
  pub candidate_same : after.candidate ≡ before.candidate

abbrev pub GivesBack : Account → ℕ → Result (Unit {0}) GiveBackRefusal → Account → Type 0
GivesBack before count (Ok _) after = GivenBack before count after
GivesBack before count (Err _) after = (before.used < count) × (after ≡ before)
