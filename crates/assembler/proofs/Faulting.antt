-- What is reported of a line is its first wrong field, and such a line is reported so.
use Rattle.std.proofs.Common.{◌≡◌, ℕ, suc, ◌+◌, ◌*◌, ◌^◌, ◌<◌, true, ◌&&◌, eqb, ltb, leb, List, [], ◌∷◌, ◌++◌, length, get_or, drop, Some, None, Ok, Err, Option, Result, sym, refl, ap, ◌∙◌, subst, inl, inr, ⊎_elim, arith, MatchResult}
use Rattle.std.proofs.lemmas.Bool.{and_parts, cases_Bool, cond-true, cond-false, ltb-true, lt-leb}
use Rattle.text.specs.declared.fault.Cause.{Cause}
use Rattle.text.specs.declared.fault.Cause.TheVariants.{Spelling, Digits, Size, Missing, Extra, End}
use Rattle.text.specs.declared.fault.FieldFault.{FieldFault}
use Rattle.text.specs.Faults.{at_field, in_field}
use Rattle.text.specs.Numerals.{numeral, value, number_up_to, WrongNumber}
use Rattle.text.specs.Pieces.{pieces}
use Rattle.text.proofs.Joins.{some_pieces}
use Rattle.text.proofs.Spelling.{number_wrong}
use Rattle.u5.specs.declared.operation.Kind.{Kind}
use Rattle.u5.specs.declared.operation.Kind.TheVariants.{Register, Number}
use Rattle.u5.specs.declared.operation.Slot.{Slot}
use Rattle.u5.specs.Operations.{largest}
use Rattle.u5.specs.Registers.{aliased}
use Rattle.u5.specs.Slots.{placed}
use Rattle.assembler.specs.declared.keyword.Keyword.{Keyword}
use Rattle.assembler.specs.Keywords.{base, slots, keyword_of}
use Rattle.assembler.specs.Grammar.{Names, NamesEach, Spells}
use Rattle.assembler.specs.Faults.{Wrong, WrongHere, FirstWrong, FaultyFields, FaultyLine}
use Rattle.assembler.specs.Lines.{numbered, unless_alias, register_of, read_as, and_then, operands, from_keyword, from_fields, line_word}
use Rattle.assembler.proofs.Keywording.{keyword_spelling, keyword_is, keyword_cause, none_spelled, no_keyword}
use Rattle.assembler.proofs.Reading.{named_read, names_read}
use Rattle.assembler.proofs.Saying.{reads_spells}
use Rattle.assembler.proofs.Slotting.{all_small, small}

differ : {X E : Type 0} (n : X) (c : E) → Ok n ≡ Err c → ⊥
differ n c e = let z : ◌≡◌ {A = ℕ} 0 1 = cc in omega arith

same_cause : {X : Type 0} (c d : Cause) → ◌≡◌ {A = Result X Cause} (Err c) (Err d) → d ≡ c
same_cause c d e = cc

-- one field

numbered_cause : (r : Result ℕ Cause) (c : Cause) → numbered r ≡ Err c → c ≡ Spelling
numbered_cause (Ok n) c e = absurd (differ n c e)
numbered_cause (Err d) c e = same_cause Spelling c e

register_cause : (field : List ℕ) (o : Option ℕ) (c : Cause) → unless_alias o field ≡ Err c → c ≡ Spelling
register_cause field (Some n) c e = absurd (differ n c e)
register_cause field None c e =
    ⊎_elim
    (λ t. numbered_cause (number_up_to 63 (drop 1 field)) c (sym (cond-true (ltb 0 (length field) && eqb (get_or field 0 0) 114) _ _ t) ∙ e))
    (λ f. same_cause Spelling c (sym (cond-false (ltb 0 (length field) && eqb (get_or field 0 0) 114) (numbered (number_up_to 63 (drop 1 field))) (Err Spelling) f) ∙ e))
    (cases_Bool (ltb 0 (length field) && eqb (get_or field 0 0) 114))

wrong_read : (k : Kind) (field : List ℕ) (c : Cause) → largest k < 2 ^ 32 → read_as k field ≡ Err c → Wrong k field c
wrong_read Register field c h e = (register_cause field (aliased field) c e, λ n names. differ n c (sym (names_read Register field n h names) ∙ e))
wrong_read (Number limit) field c h e = number_wrong limit field c e

no_register : (field : List ℕ) (r : Result ℕ Cause) → register_of field ≡ r → ((n : ℕ) → Names Register field n → ⊥) → r ≡ Err Spelling
no_register field (Ok n) e h = absurd (h n (named_read Register field n (omega arith) e))
no_register field (Err c) e h = ap Err (register_cause field (aliased field) c e)

wrong_number : (limit : ℕ) (field : List ℕ) (c : Cause) → WrongNumber limit field c → number_up_to limit field ≡ Err c
wrong_number limit field Digits f = cond-false (numeral field) _ _ f
wrong_number limit field Size (t, l) = cond-true (numeral field) _ _ t ∙ cond-false (leb (value field) limit) (Ok (value field)) (Err Size) (lt-leb (value field) limit l)
wrong_number limit field Spelling f = absurd f
wrong_number limit field Missing f = absurd f
wrong_number limit field Extra f = absurd f
wrong_number limit field End f = absurd f

reads_wrong : (k : Kind) (field : List ℕ) (c : Cause) → Wrong k field c → read_as k field ≡ Err c
reads_wrong Register field c (e, h) = no_register field (register_of field) refl h ∙ ap Err (sym e)
reads_wrong (Number limit) field c w = wrong_number limit field c w

-- the operands: what is reported is the first wrong field

-- the first wrong field from the field i on
record WrongFrom (i : ℕ) (due : List Slot) (fields : List (List ℕ)) (fault : FieldFault) : Type 0 where
  passed : List Slot
  due_here : List Slot
  good : List (List ℕ)
  here : List (List ℕ)
  values : List ℕ
  due_cut : due ≡ passed ++ due_here
  cut : fields ≡ good ++ here
  named : NamesEach passed good values
  place : fault.field ≡ i + length good
  wrong : WrongHere due_here here fault.cause

at_once : (i : ℕ) (due : List Slot) (fields : List (List ℕ)) (c : Cause) (fault : FieldFault) → at_field i c ≡ fault → WrongHere due fields c → WrongFrom i due fields fault
at_once i due fields c fault e w = record {
  passed = [];
  due_here = due;
  good = [];
  here = fields;
  values = [];
  due_cut = refl;
  cut = refl;
  named = tt;
  place = sym (ap (λ f. f.field) e) ∙ omega arith;
  wrong = subst (WrongHere due fields) (ap (λ f. f.cause) e) w;
}

one_further : (i : ℕ) (s : Slot) (due : List Slot) (f : List ℕ) (fields : List (List ℕ)) (v : ℕ) (fault : FieldFault) → Names s.kind f v → WrongFrom (suc i) due fields fault → WrongFrom i (s ∷ due) (f ∷ fields) fault
one_further i s due f fields v fault n w = record {
  passed = s ∷ w.passed;
  due_here = w.due_here;
  good = f ∷ w.good;
  here = w.here;
  values = v ∷ w.values;
  due_cut = ap (λ l. s ∷ l) w.due_cut;
  cut = ap (λ l. f ∷ l) w.cut;
  named = (n, w.named);
  place = omega (arith, w.place);
  wrong = w.wrong;
}

operand_faulty : (i w : ℕ) (s : Slot) (ss : List Slot) (f : List ℕ) (fs : List (List ℕ)) (fault : FieldFault) → ((w' : ℕ) → operands (suc i) w' ss fs ≡ Err fault → WrongFrom (suc i) ss fs fault) → largest s.kind < 2 ^ 32 → (r : Result ℕ Cause) → read_as s.kind f ≡ r → and_then (in_field r i) (λ v. operands (suc i) (w + v * s.weight) ss fs) ≡ Err fault → WrongFrom i (s ∷ ss) (f ∷ fs) fault
operand_faulty i w s ss f fs fault ih l (Ok v) is e = one_further i s ss f fs v fault (named_read s.kind f v l is) (ih (w + v * s.weight) e)
operand_faulty i w s ss f fs fault ih l (Err c) is e = let same : at_field i c ≡ fault = cc in at_once i (s ∷ ss) (f ∷ fs) c fault same (wrong_read s.kind f c l is)

operands_faulty : (i w : ℕ) (ss : List Slot) (fs : List (List ℕ)) (fault : FieldFault) → all_small ss ≡ true → operands i w ss fs ≡ Err fault → WrongFrom i ss fs fault
operands_faulty i w [] [] fault h e = absurd (differ w fault e)
operands_faulty i w [] (f ∷ fs) fault h e = let same : at_field i Extra ≡ fault = cc in at_once i [] (f ∷ fs) Extra fault same refl
operands_faulty i w (s ∷ ss) [] fault h e = let same : at_field i Missing ≡ fault = cc in at_once i (s ∷ ss) [] Missing fault same refl
operands_faulty i w (s ∷ ss) (f ∷ fs) fault h e =
    let parts = and_parts (ltb (largest s.kind) (2 ^ 32)) (all_small ss) h in
    operand_faulty i w s ss f fs fault (λ w' e'. operands_faulty (suc i) w' ss fs fault parts.1 e') (ltb-true (largest s.kind) (2 ^ 32) parts.0) (read_as s.kind f) refl e

first_wrong : (due : List Slot) (fields : List (List ℕ)) (fault : FieldFault) → WrongFrom 2 due fields fault → FirstWrong due fields fault.field fault.cause
first_wrong due fields fault w = record {
  passed = w.passed;
  due_here = w.due_here;
  good = w.good;
  here = w.here;
  values = w.values;
  due_cut = w.due_cut;
  cut = w.cut;
  named = w.named;
  place = w.place;
  wrong = w.wrong;
}

fields_faulty : (f : List ℕ) (fs : List (List ℕ)) (r : Result Keyword Cause) (fault : FieldFault) → keyword_of f ≡ r → from_keyword (in_field r 1) fs ≡ Err fault → FaultyFields (f ∷ fs) fault.field fault.cause
fields_faulty f fs (Err c) fault n e =
    let same : at_field 1 c ≡ fault = cc in
    inl (sym (ap (λ g. g.field) same), sym (ap (λ g. g.cause) same) ∙ keyword_cause f c n, none_spelled f c n)
fields_faulty f fs (Ok k) fault n e = inr (k, keyword_is f k n, first_wrong (slots k) fs fault (operands_faulty 2 (base k) (slots k) fs fault (small k) e))

faulty : (ps : List (List ℕ)) → 0 < length ps → (fault : FieldFault) → from_fields ps ≡ Err fault → FaultyFields ps fault.field fault.cause
faulty [] some fault e = absurd (omega arith)
faulty (f ∷ fs) some fault e = fields_faulty f fs (keyword_of f) fault refl e

-- what is read of a line is what it spells, or its first fault
pub told : (line : List ℕ) (r : Result ℕ FieldFault) → r ≡ line_word line → MatchResult r (λ w. Spells line w) (λ f. FaultyLine line f.field f.cause)
told line (Ok w) e = reads_spells line w (sym e)
told line (Err f) e = faulty (pieces 9 line) (some_pieces 9 line) f (sym e)

-- and a line with such a fault is read as that fault

operands_pass : (i w : ℕ) (ss rest : List Slot) (fs after : List (List ℕ)) (vs : List ℕ) → all_small (ss ++ rest) ≡ true → NamesEach ss fs vs → operands i w (ss ++ rest) (fs ++ after) ≡ operands (i + length fs) (placed w ss vs) rest after
operands_pass i w [] rest [] after [] h o = let e : i ≡ i + 0 = omega arith in ap (λ n. operands n w rest after) e
operands_pass i w [] rest [] after (v ∷ vs) h o = absurd o
operands_pass i w [] rest (f ∷ fs) after vs h o = absurd o
operands_pass i w (s ∷ ss) rest [] after vs h o = absurd o
operands_pass i w (s ∷ ss) rest (f ∷ fs) after [] h o = absurd o
operands_pass i w (s ∷ ss) rest (f ∷ fs) after (v ∷ vs) h o =
    let parts = and_parts (ltb (largest s.kind) (2 ^ 32)) (all_small (ss ++ rest)) h in
    let next : suc i + length fs ≡ i + suc (length fs) = omega arith in
    ap (λ r. and_then (in_field r i) (λ v. operands (suc i) (w + v * s.weight) (ss ++ rest) (fs ++ after))) (names_read s.kind f v (ltb-true (largest s.kind) (2 ^ 32) parts.0) o.0)
    ∙ operands_pass (suc i) (w + v * s.weight) ss rest fs after vs parts.1 o.1
    ∙ ap (λ n. operands n (placed (w + v * s.weight) ss vs) rest after) next

operands_wrong : (i w : ℕ) (due : List Slot) (fs : List (List ℕ)) (c : Cause) → WrongHere due fs c → operands i w due fs ≡ Err (at_field i c)
operands_wrong i w [] [] c h = absurd h
operands_wrong i w [] (f ∷ fs) c h = ap (λ d. Err (at_field i d)) (sym h)
operands_wrong i w (s ∷ ss) [] c h = ap (λ d. Err (at_field i d)) (sym h)
operands_wrong i w (s ∷ ss) (f ∷ fs) c h = ap (λ r. and_then (in_field r i) (λ v. operands (suc i) (w + v * s.weight) ss fs)) (reads_wrong s.kind f c h)

first_wrong_reads : (w : ℕ) (due : List Slot) (fs : List (List ℕ)) (j : ℕ) (c : Cause) → all_small due ≡ true → FirstWrong due fs j c → operands 2 w due fs ≡ Err (at_field j c)
first_wrong_reads w due fs j c h x =
    (λ i. operands 2 w (x.due_cut i) (x.cut i))
    ∙ operands_pass 2 w x.passed x.due_here x.good x.here x.values (ap all_small (sym x.due_cut) ∙ h) x.named
    ∙ operands_wrong (2 + length x.good) (placed w x.passed x.values) x.due_here x.here c x.wrong
    ∙ ap (λ n. Err (at_field n c)) (sym x.place)

fields_wrong : (ps : List (List ℕ)) (j : ℕ) (c : Cause) → FaultyFields ps j c → from_fields ps ≡ Err (at_field j c)
fields_wrong [] j c h = absurd h
fields_wrong (f ∷ fs) j c (inl (e, g, h)) = ap (λ r. from_keyword (in_field r 1) fs) (no_keyword f h) ∙ (λ i. Err (at_field (sym e i) (sym g i)))
fields_wrong (f ∷ fs) j c (inr (k, is, x)) = ap (λ r. from_keyword (in_field r 1) fs) (ap keyword_of is ∙ keyword_spelling k) ∙ first_wrong_reads (base k) (slots k) fs j c (small k) x

pub faulty_reads : (line : List ℕ) (j : ℕ) (c : Cause) → FaultyLine line j c → line_word line ≡ Err (at_field j c)
faulty_reads line j c h = fields_wrong (pieces 9 line) j c h
