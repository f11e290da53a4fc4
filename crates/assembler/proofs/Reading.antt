-- A line is read as the word that it spells, by its keyword and the numbers of its operands.
use Rattle.std.proofs.Common.{◌≡◌, ℕ, zero, suc, ◌+◌, ◌*◌, ◌^◌, ◌<◌, Bool, true, false, ◌&&◌, eqb, ltb, List, [], ◌∷◌, length, get_or, drop, Some, None, Ok, Err, Option, Result, sym, refl, ap, ◌∙◌, subst, inl, inr, ⊎_elim, arith}
use Rattle.std.proofs.lemmas.Bool.{and_parts, cases_Bool, cases_lt, eqb-true, ltb-true, cond-true, cond-false}
use Rattle.text.specs.declared.fault.Cause.{Cause}
use Rattle.text.specs.declared.fault.Cause.TheVariants.{Spelling}
use Rattle.text.specs.Faults.{in_field}
use Rattle.text.specs.Numerals.{number_up_to, spelled}
use Rattle.text.specs.Pieces.{pieces}
use Rattle.text.proofs.Spelling.{number_reads, number_read}
use Rattle.u5.specs.declared.operation.Kind.{Kind}
use Rattle.u5.specs.declared.operation.Kind.TheVariants.{Register, Number}
use Rattle.u5.specs.declared.operation.Slot.{Slot}
use Rattle.u5.specs.Operations.{largest}
use Rattle.u5.specs.Registers.{alias, numbers, aliased}
use Rattle.u5.specs.Slots.{placed}
use Rattle.u5.proofs.Tables.{aliased_is}
use Rattle.assembler.specs.declared.keyword.Keyword.{Keyword}
use Rattle.assembler.specs.Keywords.{spelling, base, slots, keyword_of}
use Rattle.assembler.specs.Grammar.{Names, NamesEach}
use Rattle.assembler.specs.Lines.{numbered, unless_alias, register_of, read_as, and_then, operands, from_keyword, from_fields, line_word}
use Rattle.assembler.proofs.Keywording.{keyword_spelling, keyword_is}
use Rattle.assembler.proofs.Slotting.{all_small, small, slot_at, slot_here}

apart : {X Y : Type 0} (x : X) (y : Y) → Err x ≡ Ok y → ⊥
apart x y e = let z : ◌≡◌ {A = ℕ} 0 1 = cc in omega arith

-- registers

abbrev ok_is : Result ℕ Cause → ℕ → Bool
ok_is (Ok n) m = eqb n m
ok_is (Err c) m = false

ok_is_lem : (r : Result ℕ Cause) (m : ℕ) → ok_is r m ≡ true → r ≡ Ok m
ok_is_lem (Ok n) m h = ap Ok (eqb-true n m h)
ok_is_lem (Err c) m h = let z : ◌≡◌ {A = ℕ} 0 1 = cc in absurd (omega arith)

abbrev all_below : (ℕ → Bool) → ℕ → Bool
all_below test zero = true
all_below test (suc n) = test n && all_below test n

below : (test : ℕ → Bool) (n : ℕ) → all_below test n ≡ true → (k : ℕ) → k < n → test k ≡ true
below test zero h k l = absurd (omega arith)
below test (suc n) h k l =
    let parts = and_parts (test n) (all_below test n) h in
    ⊎_elim (λ less. below test n parts.1 k less) (λ most. let same : n ≡ k = omega arith in subst (λ m. test m ≡ true) same parts.0) (cases_lt k n)

-- each alias, and each number, by a test at every register
by_alias : (n : ℕ) → n < 64 → register_of (alias n) ≡ Ok n
unfolding numbers
by_alias n h = ok_is_lem _ n (below (λ m. ok_is (register_of (alias m)) m) 64 refl n h)

by_r : (n : ℕ) → n < 64 → register_of (114 ∷ spelled n) ≡ Ok n
unfolding numbers spelled
by_r n h = ok_is_lem _ n (below (λ m. ok_is (register_of (114 ∷ spelled m)) m) 64 refl n h)

numbered_is : (r : Result ℕ Cause) (n : ℕ) → numbered r ≡ Ok n → r ≡ Ok n
numbered_is (Ok m) n e = e
numbered_is (Err c) n e = absurd (apart Spelling n e)

first_rest : (field : List ℕ) → 0 < length field → get_or field 0 0 ≡ 114 → field ≡ 114 ∷ drop 1 field
first_rest [] h e = absurd (omega arith)
first_rest (c ∷ cs) h e = ap (λ x. x ∷ cs) e

register_read : (field : List ℕ) (n : ℕ) (o : Option ℕ) → aliased field ≡ o → unless_alias o field ≡ Ok n → Names Register field n
register_read field n (Some m) p e =
    let is : m ≡ n = cc in
    let known = aliased_is field m p in
    (omega (arith, known.0), inr (known.1 ∙ ap alias is))
register_read field n None p e =
    ⊎_elim
    (λ t.
    let parts = and_parts (ltb 0 (length field)) (eqb (get_or field 0 0) 114) t in
    let r = number_read 63 n (drop 1 field) (omega arith) (numbered_is _ n (sym (cond-true (ltb 0 (length field) && eqb (get_or field 0 0) 114) _ _ t) ∙ e)) in
    (omega (arith, r.small), inl (first_rest field (ltb-true 0 (length field) parts.0) (eqb-true (get_or field 0 0) 114 parts.1) ∙ ap (λ l. 114 ∷ l) r.digits)))
    (λ f. absurd (apart Spelling n (sym (cond-false (ltb 0 (length field) && eqb (get_or field 0 0) 114) _ _ f) ∙ e)))
    (cases_Bool (ltb 0 (length field) && eqb (get_or field 0 0) 114))

-- one operand

pub named_read : (k : Kind) (field : List ℕ) (n : ℕ) → largest k < 2 ^ 32 → read_as k field ≡ Ok n → Names k field n
named_read Register field n h e = register_read field n (aliased field) refl e
named_read (Number limit) field n h e = number_read limit n field h e

pub names_read : (k : Kind) (field : List ℕ) (n : ℕ) → largest k < 2 ^ 32 → Names k field n → read_as k field ≡ Ok n
names_read Register field n h (l, inl e) = ap register_of e ∙ by_r n l
names_read Register field n h (l, inr e) = ap register_of e ∙ by_alias n l
names_read (Number limit) field n h s = ap (number_up_to limit) s.digits ∙ number_reads limit n s.small (omega (arith, s.small))

-- one turn of the loop over a line's operands
pub one_more : (w k : ℕ) (due : List Slot) (fs : List (List ℕ)) → k < length due → (f : List ℕ) (rest : List (List ℕ)) (v : ℕ) → fs ≡ f ∷ rest → read_as (slot_at due k).kind f ≡ Ok v → operands (k + 1 + 2) (w + v * (slot_at due k).weight) (drop (k + 1) due) rest ≡ operands (k + 2) w (drop k due) fs
one_more w k due fs h f rest v cut read =
    let next : k + 1 + 2 ≡ suc (k + 2) = omega arith in
    let s = slot_at due k in
    ap (λ n. operands n (w + v * s.weight) (drop (k + 1) due) rest) next
    ∙ ap (λ x. and_then (in_field x (k + 2)) (λ v. operands (suc (k + 2)) (w + v * s.weight) (drop (k + 1) due) rest)) (sym read)
    ∙ (λ i. operands (k + 2) w (sym (slot_here due k h) i) (sym cut i))

-- the operands of a line

pub operands_read : (i w : ℕ) (ss : List Slot) (fs : List (List ℕ)) (vs : List ℕ) → all_small ss ≡ true → NamesEach ss fs vs → operands i w ss fs ≡ Ok (placed w ss vs)
operands_read i w [] [] [] h o = refl
operands_read i w [] [] (v ∷ vs) h o = absurd o
operands_read i w [] (f ∷ fs) vs h o = absurd o
operands_read i w (s ∷ ss) [] vs h o = absurd o
operands_read i w (s ∷ ss) (f ∷ fs) [] h o = absurd o
operands_read i w (s ∷ ss) (f ∷ fs) (v ∷ vs) h o =
    let parts = and_parts (ltb (largest s.kind) (2 ^ 32)) (all_small ss) h in
    ap (λ r. and_then (in_field r i) (λ v. operands (suc i) (w + v * s.weight) ss fs)) (names_read s.kind f v (ltb-true (largest s.kind) (2 ^ 32) parts.0) o.0)
    ∙ operands_read (suc i) (w + v * s.weight) ss fs vs parts.1 o.1

-- the numbers that the fields name, and the word that they make
abbrev Told : ℕ → ℕ → List Slot → List (List ℕ) → Type 0
Told w n ss fs = (vs : List ℕ) × NamesEach ss fs vs × (placed w ss vs ≡ n)

operand_is : (i w n : ℕ) (s : Slot) (ss : List Slot) (f : List ℕ) (fs : List (List ℕ)) → ((w' : ℕ) → operands (suc i) w' ss fs ≡ Ok n → Told w' n ss fs) → largest s.kind < 2 ^ 32 → (r : Result ℕ Cause) → read_as s.kind f ≡ r → and_then (in_field r i) (λ v. operands (suc i) (w + v * s.weight) ss fs) ≡ Ok n → Told w n (s ∷ ss) (f ∷ fs)
operand_is i w n s ss f fs ih l (Ok v) is e = let r = ih (w + v * s.weight) e in (v ∷ r.0, (named_read s.kind f v l is, r.1), r.2)
operand_is i w n s ss f fs ih l (Err c) is e = absurd (apart _ n e)

operands_are : (i w n : ℕ) (ss : List Slot) (fs : List (List ℕ)) → all_small ss ≡ true → operands i w ss fs ≡ Ok n → Told w n ss fs
operands_are i w n [] [] h e = ([], tt, (cc))
operands_are i w n [] (f ∷ fs) h e = absurd (apart _ n e)
operands_are i w n (s ∷ ss) [] h e = absurd (apart _ n e)
operands_are i w n (s ∷ ss) (f ∷ fs) h e =
    let parts = and_parts (ltb (largest s.kind) (2 ^ 32)) (all_small ss) h in
    operand_is i w n s ss f fs (λ w' e'. operands_are (suc i) w' n ss fs parts.1 e') (ltb-true (largest s.kind) (2 ^ 32) parts.0) (read_as s.kind f) refl e

-- a line spells a word by its keyword and the numbers of its operands
pub record SpellsBy (line : List ℕ) (word : ℕ) : Type 0 where
  pub keyword : Keyword
  pub fields : List (List ℕ)
  pub values : List ℕ
  pub cut : pieces 9 line ≡ spelling keyword ∷ fields
  pub named : NamesEach (slots keyword) fields values
  pub means : placed (base keyword) (slots keyword) values ≡ word

pub spelled_reads : (line : List ℕ) (w : ℕ) → SpellsBy line w → line_word line ≡ Ok w
spelled_reads line w h =
    ap from_fields h.cut ∙ ap (λ r. from_keyword (in_field r 1) h.fields) (keyword_spelling h.keyword)
    ∙ operands_read 2 (base h.keyword) (slots h.keyword) h.fields h.values (small h.keyword) h.named
    ∙ ap Ok h.means

spells_from : (line : List ℕ) (w : ℕ) (f : List ℕ) (fs : List (List ℕ)) (r : Result Keyword Cause) → pieces 9 line ≡ f ∷ fs → keyword_of f ≡ r → from_keyword (in_field r 1) fs ≡ Ok w → SpellsBy line w
spells_from line w f fs (Err c) p n e = absurd (apart _ w e)
spells_from line w f fs (Ok k) p n e =
    let r = operands_are 2 (base k) w (slots k) fs (small k) e in
    record { keyword = k; fields = fs; values = r.0; cut = p ∙ ap (λ x. x ∷ fs) (keyword_is f k n); named = r.1; means = r.2 }

spells_at : (line : List ℕ) (w : ℕ) (ps : List (List ℕ)) → pieces 9 line ≡ ps → from_fields ps ≡ Ok w → SpellsBy line w
spells_at line w [] p e = absurd (apart _ w e)
spells_at line w (f ∷ fs) p e = spells_from line w f fs (keyword_of f) p refl e

pub reads_spelled : (line : List ℕ) (w : ℕ) → line_word line ≡ Ok w → SpellsBy line w
reads_spelled line w e = spells_at line w (pieces 9 line) refl e
