-- One piece written after another.
use Rattle.std.proofs.Common.{◌≡◌, ℕ, ◌+◌, ◌-◌, ◌/◌, ◌%◌, ◌^◌, ◌<◌, ◌≤◌, List, [], ◌∷◌, ◌++◌, length, take, drop, sym, refl, ap, ◌∙◌, append_assoc, append-nil, arith, length-append}
use Rattle.std.proofs.lemmas.List.{drop-drop}
use Rattle.std.proofs.lemmas.Fmt.{decimal_digit, decimal_step}
use Rattle.text.specs.Numerals.{spelled}
use Rattle.assembler.specs.declared.writer.Writer.{Writer}
use Rattle.assembler.specs.Writes.{Appended, Writes, HasRoom}
use Rattle.text.proofs.Spelling.{spelled_is}

pub then : {out mid last : List ℕ} {at e₁ e₂ : ℕ} {p q : List ℕ} → Appended out at p mid e₁ → Appended mid e₁ q last e₂ → Appended out at (p ++ q) last e₂
then {out} {mid} {last} {at} {e₁} {e₂} {p} {q} a b =
    let more : e₁ + (e₂ - e₁) ≡ e₂ = omega (arith, b.till) in
    record {
      size = b.size ∙ a.size;
      till = omega (arith, a.till, b.till, length-append p q);
      front = b.front ∙ ap (λ l. l ++ q) a.front ∙ append_assoc (take at out) p q;
      rest = b.rest ∙ ap (λ n. drop n mid) (sym more) ∙ sym (drop-drop (e₂ - e₁) e₁ mid) ∙ ap (drop (e₂ - e₁)) a.rest ∙ drop-drop (e₂ - e₁) e₁ out ∙ ap (λ n. drop n out) more;
    }

pub nothing : (w : Writer) → Writes w [] w
nothing w = record { written = record { size = refl; till = omega arith; front = sym (append-nil (take w.end w.out.now)); rest = refl }; lender = refl }

pub writes_then : {w₁ w₂ w₃ : Writer} {p q : List ℕ} → Writes w₁ p w₂ → Writes w₂ q w₃ → Writes w₁ (p ++ q) w₃
writes_then a b = record { written = then a.written b.written; lender = b.lender ∙ a.lender }

-- what the lender of a buffer gets back
pub lent_back : {first last : Writer} {out piece after : List ℕ} {end : ℕ} → first.out.now ≡ out → first.end ≡ 0 → Writes first piece last → after ≡ last.out.now → end ≡ last.end → Appended out 0 piece after end
lent_back {first} {last} {out} {piece} {after} {end} starts front w back place =
    record {
      size = ap length back ∙ w.written.size ∙ ap length starts;
      till = omega (arith, w.written.till);
      front = (λ i. take (place i) (back i)) ∙ w.written.front ∙ (λ i. take (front i) (starts i) ++ piece);
      rest = (λ i. drop (place i) (back i)) ∙ w.written.rest ∙ (λ i. drop (sym place i) (starts i));
    }

pub spelled_digit : (n : ℕ) → n < 10 → spelled n ≡ (48 + n % 10) ∷ []
spelled_digit n h = spelled_is n (omega arith) ∙ decimal_digit n h ∙ ap (λ d. (48 + d) ∷ []) (omega arith)

pub spelled_step : (n : ℕ) → 10 ≤ n → n < 2 ^ 32 → spelled n ≡ spelled (n / 10) ++ ((48 + n % 10) ∷ [])
spelled_step n h l = spelled_is n l ∙ decimal_step n h (omega arith) ∙ ap (λ ds. ds ++ ((48 + n % 10) ∷ [])) (sym (spelled_is (n / 10) (omega arith)))

pub length_step : (n : ℕ) → 10 ≤ n → n < 2 ^ 32 → length (spelled n) ≡ length (spelled (n / 10)) + 1
length_step n h l = ap length (spelled_step n h l) ∙ length-append (spelled (n / 10)) ((48 + n % 10) ∷ [])

-- what is yet to be written has room
pub room_left : {w₁ w₂ : Writer} {p : List ℕ} (t whole : List ℕ) → Writes w₁ p w₂ → p ++ t ≡ whole → HasRoom w₁ (length whole) → HasRoom w₂ (length t)
room_left {w₁} {w₂} {p} t whole a e h = omega (arith, a.written.till, a.written.size, length-append p t, ap length e)
