-- The places of a keyword's operands, one after another, and the room that they take in a word.
use Rattle.std.proofs.Common.{◌≡◌, ℕ, ◌+◌, ◌*◌, ◌^◌, ◌<◌, ◌≤◌, Bool, true, ◌&&◌, ltb, leb, List, [], ◌∷◌, length, drop, get_or, ap, refl, mul-le-mul_right, arith}
use Rattle.std.proofs.lemmas.Bool.{and_parts, leb-true}
use Rattle.std.proofs.lemmas.List.{drop_more}
use Rattle.u5.specs.declared.operation.Kind.TheVariants.{Register}
use Rattle.u5.specs.declared.operation.Slot.{Slot}
use Rattle.u5.specs.Operations.{largest, every}
use Rattle.u5.proofs.Tables.{each_operation}
use Rattle.assembler.specs.declared.keyword.Keyword.{Keyword}
use Rattle.assembler.specs.declared.keyword.Keyword.TheVariants.{Of}
use Rattle.assembler.specs.Keywords.{base, slots}
use Rattle.assembler.proofs.Keywording.{Passes, each_keyword}

-- at most what these operands add to a word
abbrev pub room : List Slot → ℕ
room [] = 0
room (s ∷ ss) = largest s.kind * s.weight + room ss

-- every number of these operands is below 2 ^ 32
abbrev pub all_small : List Slot → Bool
all_small [] = true
all_small (s ∷ ss) = ltb (largest s.kind) (2 ^ 32) && all_small ss

abbrev pub fitting : Keyword → Bool
fitting k = ltb (base k + room (slots k)) (2 ^ 32) && (all_small (slots k) && leb (length (slots k)) 3)

all_fitting : Passes fitting
unfolding every
all_fitting = record { word = refl; operations = each_operation (λ o. fitting (Of o)) refl refl }

pub small : (k : Keyword) → all_small (slots k) ≡ true
small k = (and_parts (all_small (slots k)) (leb (length (slots k)) 3) (and_parts (ltb (base k + room (slots k)) (2 ^ 32)) _ (each_keyword fitting all_fitting k)).1).0

pub few : (k : Keyword) → length (slots k) ≤ 3
few k = leb-true (length (slots k)) 3 (and_parts (all_small (slots k)) (leb (length (slots k)) 3) (and_parts (ltb (base k + room (slots k)) (2 ^ 32)) _ (each_keyword fitting all_fitting k)).1).1

-- the place of an operand, and those after it
abbrev pub slot_at : List Slot → ℕ → Slot
slot_at due k = get_or due k (record { kind = Register; weight = 0 })

pub slot_here : (due : List Slot) (k : ℕ) → k < length due → drop k due ≡ slot_at due k ∷ drop (k + 1) due
slot_here due k h = drop_more due k (record { kind = Register; weight = 0 }) h

-- one operand more
pub room_more : (w v : ℕ) (due : List Slot) (k : ℕ) → k < length due → w + room (drop k due) < 2 ^ 32 → v ≤ largest (slot_at due k).kind → (w + v * (slot_at due k).weight) + room (drop (k + 1) due) < 2 ^ 32
room_more w v due k h fits le = omega (arith, ap room (slot_here due k h), mul-le-mul_right (slot_at due k).weight le)
