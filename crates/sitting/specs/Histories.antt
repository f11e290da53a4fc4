-- Whole histories of a sitting, and what they add up to.
use Rattle.std.specs.Prelude.{◌≡◌, ℕ, ◌+◌, ◌≤◌, Ok, Err}
use Rattle.sitting.specs.declared.refusal.DrawRefusal.{DrawRefusal}
use Rattle.sitting.specs.declared.refusal.GiveBackRefusal.{GiveBackRefusal}
use Rattle.sitting.specs.Account.{Account}
use Rattle.sitting.specs.Accounts.{Opened, Draws, GivesBack}

-- The calls on a sitting since it was opened, refused ones among them: how much all draws drew, and all give-backs gave.
pub data History : (drawn given : ℕ) → Account → Type 0 where
  begun : {candidate grant : ℕ} {a : Account} → Opened candidate grant a → History 0 0 a
  drew : {drawn given count : ℕ} {a b : Account} → History drawn given a → Draws a count (Ok tt) b → History (drawn + count) given b
  not_drawn : {drawn given count : ℕ} {a b : Account} (e : DrawRefusal) → History drawn given a → Draws a count (Err e) b → History drawn given b
  gave : {drawn given count : ℕ} {a b : Account} → History drawn given a → GivesBack a count (Ok tt) b → History drawn (given + count) b
  not_given : {drawn given count : ℕ} {a b : Account} (e : GiveBackRefusal) → History drawn given a → GivesBack a count (Err e) b → History drawn given b

-- After any history, what is used is all that was drawn less all that was given back, and never more than the grant.
abbrev pub Counts : Account → ℕ → Type 0
Counts a used = (drawn given : ℕ) → History drawn given a → (used + given ≡ drawn) × (used ≤ a.grant)
