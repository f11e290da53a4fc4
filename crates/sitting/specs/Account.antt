-- What a sitting is to those who use it.
use Rattle.std.specs.Prelude.{◌≡◌, ℕ, ◌+◌}
use Rattle.sitting.specs.declared.token.Sitting.TheInside.{Inside}

-- A candidate's instructions: those granted are used, that is drawn and not given back, or left to draw.
pub record Account : Type 0 where
  pub candidate : ℕ
  pub grant : ℕ
  pub used : ℕ
  pub left : ℕ

abbrev pub account : Inside → Account
account s = record { candidate = s.candidate; grant = s.grant; used = s.used; left = s.left }

-- no instruction is lost
abbrev pub Balanced : Inside → Type 0
Balanced s = s.used + s.left ≡ s.grant
