-- The mark of a register, whose number is read as a number.
use Rattle.std.proofs.Common.{◌≡◌, ℕ, List, Ok, ap, ◌∙◌, arith}
use Rattle.text.specs.Numerals.{number_up_to}
use Rattle.u5.specs.declared.operand.Register.{Register}
use Rattle.u5.specs.Words.{register}
use Rattle.u5.proofs.Encodings.{same_register}
use Rattle.sheet.specs.declared.mark.Mark.TheVariants.{Word}
use Rattle.sheet.specs.Lines.{and_then, next, last_points, word_mark}

pub word_told : (fs fs₁ fs₂ : List (List ℕ)) (n w points : ℕ) (r : Register) → r.number ≡ n → Ok (n, fs₁) ≡ next (number_up_to 63) 2 fs → Ok (w, fs₂) ≡ next (number_up_to 4294967295) 3 fs₁ → Ok points ≡ last_points 4 fs₂ → Ok (Word r w points) ≡ word_mark fs
word_told fs fs₁ fs₂ n w points r is e₁ e₂ e₃ =
    let below = r.below in
    ap (λ x. Ok (Word x w points)) (same_register r n (omega arith))
    ∙ ap (λ z. and_then z (λ p. Ok (Word (register n) w p))) e₃
    ∙ ap (λ y. and_then y (λ y. and_then (last_points 4 y.1) (λ p. Ok (Word (register n) y.0 p)))) e₂
    ∙ ap (λ x. and_then x (λ x. and_then (next (number_up_to 4294967295) 3 x.1) (λ y. and_then (last_points 4 y.1) (λ p. Ok (Word (register x.0) y.0 p))))) e₁
