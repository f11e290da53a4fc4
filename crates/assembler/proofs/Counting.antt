-- The words of a text, counted and written line by line.
use Rattle.std.proofs.Common.{◌≡◌, ℕ, suc, ◌+◌, ◌*◌, ◌/◌, ◌%◌, ◌^◌, ◌<◌, true, false, List, [], ◌∷◌, ◌++◌, length, is_ok, Ok, Err, Result, sym, refl, ap, ◌∙◌, append_assoc, arith, length-append}
use Rattle.std.specs.Result.{IsOk}
use Rattle.text.specs.declared.fault.FieldFault.{FieldFault}
use Rattle.text.specs.declared.fault.Fault.{Fault}
use Rattle.text.specs.Faults.{at_line, on_line}
use Rattle.text.proofs.Placing.{on_line_ok}
use Rattle.assembler.specs.declared.writer.Writer.{Writer}
use Rattle.assembler.specs.Lines.{line_word}
use Rattle.assembler.specs.Texts.{onward, with_line, words_from, counted, words_of, bytes}
use Rattle.assembler.specs.Writes.{Writes, HasRoom}
use Rattle.assembler.proofs.Writing.{writes_then}

-- so many words were counted before
abbrev pub plus : ℕ → Result ℕ Fault → Result ℕ Fault
plus n (Ok m) = Ok (n + m)
plus n (Err fault) = Err fault

pub line_then : (i : ℕ) (p : List ℕ) (ps : List (List ℕ)) → 0 < length ps → words_from i (p ∷ ps) ≡ with_line (on_line (line_word p) i) (words_from (suc i) ps)
line_then i p [] h = absurd (omega arith)
line_then i p (q ∷ ps) h = refl

more_counted : (n w : ℕ) (r : Result (List ℕ) Fault) → plus n (counted (onward w r)) ≡ plus (n + 1) (counted r)
more_counted n w (Ok ws) = ap Ok (omega arith)
more_counted n w (Err fault) = refl

module _ (n : ℕ) (p : List ℕ) (before after : List (List ℕ)) (some : 0 < length after) (cut : before ≡ p ∷ after) where
  on_this_line : (r : Result ℕ FieldFault) → r ≡ line_word p → plus n (counted (words_from (n + 1) before)) ≡ plus n (counted (with_line (on_line r (n + 1)) (words_from (suc (n + 1)) after)))
  on_this_line r e = ap (λ x. plus n (counted x)) (ap (words_from (n + 1)) cut ∙ line_then (n + 1) p after some ∙ ap (λ x. with_line (on_line x (n + 1)) (words_from (suc (n + 1)) after)) (sym e))

  -- one line more
  pub one_line : (w : ℕ) → Ok w ≡ line_word p → plus (n + 1) (counted (words_from (n + 1 + 1) after)) ≡ plus n (counted (words_from (n + 1) before))
  one_line w e =
      let next : suc (n + 1) ≡ n + 1 + 1 = omega arith in
      ap (λ i. plus (n + 1) (counted (words_from i after))) (sym next) ∙ sym (more_counted n w (words_from (suc (n + 1)) after)) ∙ sym (on_this_line (Ok w) e)

  pub bad_line : (f : FieldFault) → Err f ≡ line_word p → Err (at_line (n + 1) f) ≡ plus n (counted (words_from (n + 1) before))
  bad_line f e = sym (on_this_line (Err f) e)

pub none_counted : (r : Result ℕ Fault) → plus 0 r ≡ r
none_counted (Ok m) = ap Ok (omega arith)
none_counted (Err fault) = refl

-- what is written so far, and what the pieces that are left make, are the whole
pub record Written (first : Writer) (whole : List ℕ) (after : Writer) (rest : List (List ℕ)) : Type 0 where
  pub line : ℕ
  pub done : List ℕ
  pub there : Writes first done after
  pub sound : is_ok (words_from line rest) ≡ true
  pub split : done ++ bytes (words_of (words_from line rest)) ≡ whole

onward_ok : (w : ℕ) (r : Result (List ℕ) Fault) → is_ok (onward w r) ≡ true → (is_ok r ≡ true) × (words_of (onward w r) ≡ w ∷ words_of r)
onward_ok w (Ok ws) h = (refl, refl)
onward_ok w (Err fault) h = (h, absurd (let z : ◌≡◌ {A = ℕ} 0 1 = cc in omega arith))

abbrev pub four : ℕ → List ℕ
four w = w / 2 ^ 24 % 256 ∷ w / 2 ^ 16 % 256 ∷ w / 2 ^ 8 % 256 ∷ w % 256 ∷ []

module _ {first after : Writer} {whole : List ℕ} {before : List (List ℕ)} (so_far : Written first whole after before) (p : List ℕ) (rest : List (List ℕ)) (some : 0 < length rest) (cut : before ≡ p ∷ rest) where
  here : (r : Result ℕ FieldFault) → r ≡ line_word p → words_from so_far.line before ≡ with_line (on_line r so_far.line) (words_from (suc so_far.line) rest)
  here r e = ap (words_from so_far.line) cut ∙ line_then so_far.line p rest some ∙ ap (λ x. with_line (on_line x so_far.line) (words_from (suc so_far.line) rest)) (sym e)

  next : (w : ℕ) → Ok w ≡ line_word p → (is_ok (words_from (suc so_far.line) rest) ≡ true) × ((so_far.done ++ four w) ++ bytes (words_of (words_from (suc so_far.line) rest)) ≡ whole)
  next w e =
      let is = here (Ok w) e in
      let o = onward_ok w (words_from (suc so_far.line) rest) (ap is_ok (sym is) ∙ so_far.sound) in
      (o.0, append_assoc so_far.done (four w) (bytes (words_of (words_from (suc so_far.line) rest))) ∙ ap (λ ws. so_far.done ++ bytes ws) (sym (ap words_of is ∙ o.1)) ∙ so_far.split)

  pub word_room : (w : ℕ) → Ok w ≡ line_word p → HasRoom first (length whole) → HasRoom after 4
  word_room w e h =
      let n = next w e in
      omega (arith, so_far.there.written.till, so_far.there.written.size, ap length n.1, length-append (so_far.done ++ four w) (bytes (words_of (words_from (suc so_far.line) rest))), length-append so_far.done (four w))

  pub word_more : (w : ℕ) (after' : Writer) → Ok w ≡ line_word p → Writes after (four w) after' → Written first whole after' rest
  word_more w after' e a =
      let n = next w e in
      record { line = suc so_far.line; done = so_far.done ++ four w; there = writes_then so_far.there a; sound = n.0; split = n.1 }

  no_fault : (f : FieldFault) → Err f ≡ line_word p → ⊥
  no_fault f e = let z : is_ok (words_from so_far.line before) ≡ false = ap is_ok (here (Err f) e) in let y : ◌≡◌ {A = ℕ} 0 1 = cc so_far.sound in omega arith

  pub no_line_faulty : (r : Result ℕ FieldFault) → r ≡ line_word p → IsOk r
  no_line_faulty (Ok w) e = refl
  no_line_faulty (Err f) e = absurd (no_fault f e)

pub length_bytes : (ws : List ℕ) → length (bytes ws) ≡ 4 * length ws
length_bytes [] = refl
length_bytes (w ∷ ws) = omega (arith, length_bytes ws)

pub counted_ok : (r : Result (List ℕ) Fault) (n : ℕ) → Ok n ≡ counted r → (is_ok r ≡ true) × (length (words_of r) ≡ n) × (r ≡ Ok (words_of r))
counted_ok (Ok ws) n e = (refl, (cc), refl)
counted_ok (Err fault) n e = absurd (let z : ◌≡◌ {A = ℕ} 0 1 = cc in omega arith)

-- a line that was read with its number
pub read_on_line : (r : Result ℕ FieldFault) (i w : ℕ) (p : List ℕ) → r ≡ line_word p → on_line r i ≡ Ok w → Ok w ≡ line_word p
read_on_line r i w p is e = sym (on_line_ok r i w e) ∙ is
