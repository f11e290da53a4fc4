-- What a history of a sitting adds up to.
use Rattle.std.proofs.Common.{◌≡◌, ℕ, ◌+◌, ◌≤◌, sym, subst, arith}
use Rattle.sitting.specs.Account.{Account}
use Rattle.sitting.specs.Histories.{History, begun, drew, not_drawn, gave, not_given}

-- what is used and given back was drawn, and what is used and left was granted
record Balanced (drawn given : ℕ) (a : Account) : Type 0 where
  counted : a.used + given ≡ drawn
  granted : a.used + a.left ≡ a.grant

same : (drawn given : ℕ) (a b : Account) → b ≡ a → Balanced drawn given a → Balanced drawn given b
same drawn given a b e h = subst (Balanced drawn given) (sym e) h

balanced : {drawn given : ℕ} {a : Account} → History drawn given a → Balanced drawn given a
balanced (begun o) = record { counted = omega (arith, o.none_used); granted = omega (arith, o.none_used, o.all_left, o.granted) }
balanced (drew h d) = let b = balanced h in record { counted = omega (arith, b.counted, d.used_after); granted = omega (arith, b.granted, d.used_after, d.left_after, d.grant_same) }
balanced (not_drawn r h (l, e)) = same _ _ _ _ e (balanced h)
balanced (gave h g) = let b = balanced h in record { counted = omega (arith, b.counted, g.used_after); granted = omega (arith, b.granted, g.used_after, g.left_after, g.grant_same) }
balanced (not_given r h (l, e)) = same _ _ _ _ e (balanced h)

pub counts : (a : Account) (drawn given : ℕ) → History drawn given a → (a.used + given ≡ drawn) × (a.used ≤ a.grant)
counts a drawn given h = let b = balanced h in (b.counted, omega (arith, b.granted))
