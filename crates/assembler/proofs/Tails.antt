-- The operands of a listed line, one after another, and how long such a line can be.
use Rattle.std.proofs.Common.{◌≡◌, ℕ, zero, suc, ◌+◌, ◌/◌, ◌^◌, ◌<◌, ◌≤◌, Bool, true, cond, ◌&&◌, ltb, leb, List, [], ◌∷◌, ◌++◌, length, get_or, drop, sym, refl, ap, ◌∙◌, append_assoc, arith, length-append}
use Rattle.std.proofs.lemmas.Nat.{mod_below}
use Rattle.std.proofs.lemmas.Bool.{and_parts, leb-true, ltb-true, cond_both}
use Rattle.std.proofs.lemmas.Fmt.{length-decimal-le}
use Rattle.text.specs.Numerals.{spelled}
use Rattle.text.proofs.Spelling.{spelled_is}
use Rattle.u5.specs.declared.operation.Kind.{Kind}
use Rattle.u5.specs.declared.operation.Kind.TheVariants.{Register, Number}
use Rattle.u5.specs.declared.operation.Slot.{Slot}
use Rattle.u5.specs.Operations.{largest, every}
use Rattle.u5.specs.Registers.{aliases}
use Rattle.u5.specs.Slots.{part}
use Rattle.u5.proofs.Tables.{each_operation}
use Rattle.assembler.specs.declared.keyword.Keyword.{Keyword}
use Rattle.assembler.specs.declared.keyword.Keyword.TheVariants.{Of}
use Rattle.assembler.specs.Keywords.{spelling, slots}
use Rattle.assembler.specs.Listing.{operand_text, tail}
use Rattle.assembler.specs.declared.writer.Writer.{Writer}
use Rattle.assembler.specs.Writes.{Writes, HasRoom}
use Rattle.assembler.proofs.Writing.{writes_then, room_left}
use Rattle.assembler.proofs.Keywording.{Passes, each_keyword}
use Rattle.assembler.proofs.Slotting.{all_small, small, slot_at, slot_here}

-- one operand more, after a tab
abbrev pub operand_at : List Slot → ℕ → ℕ → List ℕ
operand_at due k word = 9 ∷ operand_text (slot_at due k).kind (part (slot_at due k) word)

tail_here : (due : List Slot) (k word : ℕ) → k < length due → tail (drop k due) word ≡ operand_at due k word ++ tail (drop (k + 1) due) word
tail_here due k word h = ap (λ ss. tail ss word) (slot_here due k h)

module _ {first before : Writer} {p : List ℕ} (due : List Slot) (k word : ℕ) (h : k < length due) (so_far : Writes first p before) (split : p ++ tail (drop k due) word ≡ tail due word) where
  pub operand_room : HasRoom first (length (tail due word)) → HasRoom before (length (operand_at due k word))
  operand_room room = omega (arith, room_left (tail (drop k due) word) (tail due word) so_far split room, ap length (tail_here due k word h), length-append (operand_at due k word) (tail (drop (k + 1) due) word))

  pub operand_more : {after : Writer} → Writes before (operand_at due k word) after → (q : List ℕ) × Writes first q after × (q ++ tail (drop (k + 1) due) word ≡ tail due word)
  operand_more put =
      let t = operand_at due k word in
      (p ++ t, writes_then so_far put, append_assoc p t (tail (drop (k + 1) due) word) ∙ ap (λ l. p ++ l) (sym (tail_here due k word h)) ∙ split)

-- widths

abbrev all_short : List (List ℕ) → Bool
all_short [] = true
all_short (x ∷ xs) = leb (length x) 3 && all_short xs

short_at : (xs : List (List ℕ)) → all_short xs ≡ true → (n : ℕ) → length (get_or xs n []) ≤ 3
short_at [] h n = omega arith
short_at (x ∷ xs) h zero = leb-true (length x) 3 (and_parts (leb (length x) 3) (all_short xs) h).0
short_at (x ∷ xs) h (suc n) = short_at xs (and_parts (leb (length x) 3) (all_short xs) h).1 n

abbrev width : Kind → ℕ
width Register = 3
width (Number limit) = cond (ltb limit 100) 2 (cond (ltb limit 100000) 5 10)

spelled_short : (k n : ℕ) → 0 < k → n < 10 ^ k → n < 2 ^ 32 → length (spelled n) ≤ k
spelled_short k n p h l = rw (spelled_is n l) (length-decimal-le k n p h (omega arith))

text_short : (k : Kind) (n : ℕ) → n ≤ largest k → largest k < 2 ^ 32 → length (operand_text k n) ≤ width k
text_short Register n h l = short_at aliases refl n
text_short (Number limit) n h l =
    cond_both (ltb limit 100) 2 (cond (ltb limit 100000) 5 10) (λ k. length (spelled n) ≤ k)
    (λ e. spelled_short 2 n (omega arith) (omega (arith, ltb-true limit 100 e)) (omega arith))
    (λ _. cond_both (ltb limit 100000) 5 10 (λ k. length (spelled n) ≤ k)
    (λ e. spelled_short 5 n (omega arith) (omega (arith, ltb-true limit 100000 e)) (omega arith))
    (λ _. spelled_short 10 n (omega arith) (omega arith) (omega arith)))

abbrev widths : List Slot → ℕ
widths [] = 0
widths (s ∷ ss) = 1 + (width s.kind + widths ss)

tail_short : (ss : List Slot) (w : ℕ) → all_small ss ≡ true → length (tail ss w) ≤ widths ss
tail_short [] w h = omega arith
tail_short (s ∷ ss) w h =
    let p = and_parts (ltb (largest s.kind) (2 ^ 32)) (all_small ss) h in
    let in_range = mod_below (w / s.weight) (largest s.kind + 1) (omega arith) in
    let here = text_short s.kind (part s w) (omega arith) (ltb-true (largest s.kind) (2 ^ 32) p.0) in
    omega (arith, here, tail_short ss w p.1, length-append (operand_text s.kind (part s w)) (tail ss w))

abbrev narrow : Keyword → Bool
narrow k = leb (length (spelling k) + widths (slots k)) 18

all_narrow : Passes narrow
unfolding every
all_narrow = record { word = refl; operations = each_operation (λ o. narrow (Of o)) refl refl }

-- the longest line, without its newline
pub line_short : (k : Keyword) (w : ℕ) → length (spelling k) + length (tail (slots k) w) ≤ 18
line_short k w = omega (arith, leb-true (length (spelling k) + widths (slots k)) 18 (each_keyword narrow all_narrow k), tail_short (slots k) w (small k))
