-- A sheet is read as the marks that its lines tell, and only so.
use Rattle.std.proofs.Common.{◌≡◌, ℕ, suc, ◌%◌, ◌^◌, ◌<◌, ◌≤◌, cond, eqb, List, [], ◌∷◌, length, Some, None, Ok, Err, codes, Option, Result, sym, refl, ap, ◌∙◌, subst, ⊎_elim, arith}
use Rattle.std.proofs.lemmas.Bool.{cond-true, cond-false, cases_Bool, eqb-true, eqb-false, ne_eqb}
use Rattle.text.specs.declared.fault.Cause.{Cause}
use Rattle.text.specs.declared.fault.Cause.TheVariants.{Spelling, Size}
use Rattle.text.specs.declared.fault.FieldFault.{FieldFault}
use Rattle.text.specs.declared.fault.Fault.{Fault}
use Rattle.text.specs.Faults.{in_field, on_line}
use Rattle.text.specs.Numerals.{number_up_to, spelled}
use Rattle.text.specs.Pieces.{pieces}
use Rattle.text.proofs.Spelling.{number_reads, number_read}
use Rattle.processor.specs.declared.ending.Ending.{Ending}
use Rattle.processor.specs.Names.{ending_name, ending_named, every_ending}
use Rattle.processor.proofs.Naming.{named_name}
use Rattle.u5.specs.Words.{register}
use Rattle.u5.proofs.Encodings.{same_register}
use Rattle.u5.proofs.Tables.{called_is}
use Rattle.sheet.specs.declared.mark.Mark.{Mark}
use Rattle.sheet.specs.declared.mark.Mark.TheVariants.{Word, Byte, Stored, Ends}
use Rattle.sheet.specs.Grammar.{Fair, Tells, Tell, no_lines, one_line}
use Rattle.sheet.specs.Marks.{points_of}
use Rattle.sheet.specs.Lines.{and_then, at_least_one, points_in, spelled_ending, ending_in, with_rest, next, ended, last_points, word_mark, byte_mark, stored_mark, ends_mark, letter_of, by_letter, from_fields, line_mark, onward, with_line, marks_from}

apart : {X E A : Type 0} {x : X} {e : E} → Err e ≡ Ok x → A
apart {x = x} {e = e} is = let z : ◌≡◌ {A = ℕ} 0 1 = cc in absurd (omega arith)

-- what was read before, where all was read

both_ok : {X Y E : Type 0} (r : Result X E) (k : X → Result Y E) (y : Y) → and_then r k ≡ Ok y → (x : X) × (r ≡ Ok x) × (k x ≡ Ok y)
both_ok (Ok x) k y is = (x, refl, is)
both_ok (Err e) k y is = apart is

field_ok : {X : Type 0} (r : Result X Cause) (i : ℕ) (fs : List (List ℕ)) (x : X × List (List ℕ)) → with_rest (in_field r i) fs ≡ Ok x → (r ≡ Ok x.0) × (fs ≡ x.1)
field_ok (Ok y) i fs x is = let both : (y, fs) ≡ x = cc in (ap (λ p. Ok p.0) both, ap (λ p. p.1) both)
field_ok (Err c) i fs x is = apart is

next_ok : {X : Type 0} (read : List ℕ → Result X Cause) (i : ℕ) (fs : List (List ℕ)) (x : X × List (List ℕ)) → next read i fs ≡ Ok x → (f : List ℕ) × (read f ≡ Ok x.0) × (fs ≡ f ∷ x.1)
next_ok read i [] x is = apart is
next_ok read i (f ∷ fs) x is = let ok = field_ok (read f) i fs x is in (f, ok.0, ap (λ l. f ∷ l) ok.1)

ended_ok : (i p : ℕ) (fs : List (List ℕ)) (points : ℕ) → ended i p fs ≡ Ok points → (p ≡ points) × (fs ≡ [])
ended_ok i p [] points is = let same : p ≡ points = cc in (same, refl)
ended_ok i p (f ∷ fs) points is = apart is

fair_ok : (f : List ℕ) (n points : ℕ) → number_up_to 1000 f ≡ Ok n → at_least_one n ≡ Ok points → (f ≡ spelled points) × Fair points
fair_ok f n points reads is =
    let s = number_read 1000 n f (omega arith) reads in
    ⊎_elim
    (λ t. apart (sym (cond-true (eqb n 0) (Err Size) (Ok n) t) ∙ is))
    (λ other.
    let same : n ≡ points = let both : Ok n ≡ Ok points = sym (cond-false (eqb n 0) (Err Size) (Ok n) other) ∙ is in cc in
    let not : n ≡ 0 → ⊥ = eqb-false n 0 other in
    (s.digits ∙ ap spelled same, record { some = omega (arith, not, same); few = omega (arith, s.small, same) }))
    (cases_Bool (eqb n 0))

last_ok : (i : ℕ) (fs : List (List ℕ)) (points : ℕ) → last_points i fs ≡ Ok points → (fs ≡ spelled points ∷ []) × Fair points
last_ok i fs points is =
    let a = both_ok (next points_in i fs) (λ x. ended (suc i) x.0 x.1) points is in
    let b = next_ok points_in i fs a.0 a.1 in
    let e = ended_ok (suc i) a.0.0 a.0.1 points a.2 in
    let n = both_ok (number_up_to 1000 b.0) at_least_one a.0.0 b.1 in
    let fair = fair_ok b.0 n.0 points n.1 (n.2 ∙ ap Ok e.0) in
    let f = b.0 in
    let rest = a.0.1 in
    let cut = b.2 in
    let none = e.1 in
    let spells = fair.0 in
    ((cc), fair.1)

-- what follows a letter tells its mark

-- two numbers and points, which make a mark
record Two (l₁ l₂ : ℕ) (make : ℕ → ℕ → ℕ → Mark) (fs : List (List ℕ)) (m : Mark) : Type 0 where
  first : ℕ
  second : ℕ
  points : ℕ
  cut : fs ≡ spelled first ∷ spelled second ∷ spelled points ∷ []
  first_small : first ≤ l₁
  second_small : second ≤ l₂
  fair : Fair points
  makes : make first second points ≡ m

two_ok : (l₁ l₂ : ℕ) (make : ℕ → ℕ → ℕ → Mark) → l₁ < 2 ^ 32 → l₂ < 2 ^ 32 → (fs : List (List ℕ)) (m : Mark)
    → and_then (next (number_up_to l₁) 2 fs) (λ x. and_then (next (number_up_to l₂) 3 x.1) (λ y. and_then (last_points 4 y.1) (λ p. Ok (make x.0 y.0 p)))) ≡ Ok m → Two l₁ l₂ make fs m
two_ok l₁ l₂ make h₁ h₂ fs m is =
    let a = both_ok (next (number_up_to l₁) 2 fs) (λ x. and_then (next (number_up_to l₂) 3 x.1) (λ y. and_then (last_points 4 y.1) (λ p. Ok (make x.0 y.0 p)))) m is in
    let b = both_ok (next (number_up_to l₂) 3 a.0.1) (λ y. and_then (last_points 4 y.1) (λ p. Ok (make a.0.0 y.0 p))) m a.2 in
    let c = both_ok (last_points 4 b.0.1) (λ p. Ok (make a.0.0 b.0.0 p)) m b.2 in
    let f = next_ok (number_up_to l₁) 2 fs a.0 a.1 in
    let g = next_ok (number_up_to l₂) 3 a.0.1 b.0 b.1 in
    let h = last_ok 4 b.0.1 c.0 c.1 in
    let sf = number_read l₁ a.0.0 f.0 h₁ f.1 in
    let sg = number_read l₂ b.0.0 g.0 h₂ g.1 in
    record {
      first = a.0.0;
      second = b.0.0;
      points = c.0;
      cut = f.2 ∙ ap (λ x. x ∷ a.0.1) sf.digits ∙ ap (λ l. spelled a.0.0 ∷ l) (g.2 ∙ ap (λ x. x ∷ b.0.1) sg.digits ∙ ap (λ l. spelled b.0.0 ∷ l) h.0);
      first_small = sf.small;
      second_small = sg.small;
      fair = h.1;
      makes = let same = c.2 in cc;
    }

word_ok : (fs : List (List ℕ)) (m : Mark) → word_mark fs ≡ Ok m → Tells (codes "R" ∷ fs) m
word_ok fs m is =
    let t = two_ok 63 4294967295 (λ n w p. Word (register n) w p) (omega arith) (omega arith) fs m is in
    let whole : t.first ≡ t.first % 64 = omega (arith, t.first_small) in
    subst (Tells (codes "R" ∷ fs)) t.makes
    (ap (λ l. codes "R" ∷ l) (t.cut ∙ ap (λ n. spelled n ∷ spelled t.second ∷ spelled t.points ∷ []) whole), t.second_small, t.fair)

byte_ok : (fs : List (List ℕ)) (m : Mark) → byte_mark fs ≡ Ok m → Tells (codes "M" ∷ fs) m
byte_ok fs m is =
    let t = two_ok 1048575 255 Byte (omega arith) (omega arith) fs m is in
    subst (Tells (codes "M" ∷ fs)) t.makes (ap (λ l. codes "M" ∷ l) t.cut, t.first_small, t.second_small, t.fair)

stored_ok : (fs : List (List ℕ)) (m : Mark) → stored_mark fs ≡ Ok m → Tells (codes "D" ∷ fs) m
stored_ok fs m is =
    let a = both_ok (next (number_up_to 65535) 2 fs) (λ x. and_then (next (number_up_to 511) 3 x.1) (λ y. and_then (next (number_up_to 255) 4 y.1) (λ z. and_then (last_points 5 z.1) (λ p. Ok (Stored x.0 y.0 z.0 p))))) m is in
    let b = both_ok (next (number_up_to 511) 3 a.0.1) (λ y. and_then (next (number_up_to 255) 4 y.1) (λ z. and_then (last_points 5 z.1) (λ p. Ok (Stored a.0.0 y.0 z.0 p)))) m a.2 in
    let c = both_ok (next (number_up_to 255) 4 b.0.1) (λ z. and_then (last_points 5 z.1) (λ p. Ok (Stored a.0.0 b.0.0 z.0 p))) m b.2 in
    let d = both_ok (last_points 5 c.0.1) (λ p. Ok (Stored a.0.0 b.0.0 c.0.0 p)) m c.2 in
    let f = next_ok (number_up_to 65535) 2 fs a.0 a.1 in
    let g = next_ok (number_up_to 511) 3 a.0.1 b.0 b.1 in
    let h = next_ok (number_up_to 255) 4 b.0.1 c.0 c.1 in
    let k = last_ok 5 c.0.1 d.0 d.1 in
    let sf = number_read 65535 a.0.0 f.0 (omega arith) f.1 in
    let sg = number_read 511 b.0.0 g.0 (omega arith) g.1 in
    let sh = number_read 255 c.0.0 h.0 (omega arith) h.1 in
    let same : Stored a.0.0 b.0.0 c.0.0 d.0 ≡ m = cc in
    subst (Tells (codes "D" ∷ fs)) same
    (ap (λ l. codes "D" ∷ l) (f.2 ∙ ap (λ x. x ∷ a.0.1) sf.digits ∙ ap (λ l. spelled a.0.0 ∷ l) (g.2 ∙ ap (λ x. x ∷ b.0.1) sg.digits ∙ ap (λ l. spelled b.0.0 ∷ l) (h.2 ∙ ap (λ x. x ∷ c.0.1) sh.digits ∙ ap (λ l. spelled c.0.0 ∷ l) k.0))), sf.small, sg.small, sh.small, k.1)

ending_ok : (f : List ℕ) (e : Ending) (o : Option Ending) → ending_named f ≡ o → spelled_ending o ≡ Ok e → f ≡ ending_name e
ending_ok f e (Some d) named is = let same : d ≡ e = cc in called_is ending_name f every_ending d named ∙ ap ending_name same
ending_ok f e None named is = apart is

ends_ok : (fs : List (List ℕ)) (m : Mark) → ends_mark fs ≡ Ok m → Tells (codes "E" ∷ fs) m
ends_ok fs m is =
    let a = both_ok (next ending_in 2 fs) (λ x. and_then (last_points 3 x.1) (λ p. Ok (Ends x.0 p))) m is in
    let b = both_ok (last_points 3 a.0.1) (λ p. Ok (Ends a.0.0 p)) m a.2 in
    let f = next_ok ending_in 2 fs a.0 a.1 in
    let h = last_ok 3 a.0.1 b.0 b.1 in
    let names = ending_ok f.0 a.0.0 (ending_named f.0) refl f.1 in
    let same : Ends a.0.0 b.0 ≡ m = cc in
    subst (Tells (codes "E" ∷ fs)) same (ap (λ l. codes "E" ∷ l) (f.2 ∙ ap (λ x. x ∷ a.0.1) names ∙ ap (λ l. ending_name a.0.0 ∷ l) h.0), h.1)

-- the letter of a line

one_letter : (f : List ℕ) (c : ℕ) → letter_of f ≡ Ok c → f ≡ c ∷ []
one_letter [] c is = apart is
one_letter (x ∷ []) c is = let same : x ≡ c = cc in ap (λ y. y ∷ []) same
one_letter (x ∷ y ∷ ys) c is = apart (sym (cond-false (eqb (length (x ∷ y ∷ ys)) 1) (Ok x) (Err Spelling) (ne_eqb (length (x ∷ y ∷ ys)) 1 (λ e. omega arith))) ∙ is)

abbrev either : {X : Type 0} → ℕ → ℕ → X → X → X
either c letter x y = cond (eqb c letter) x y

-- a line with this letter, or another
by_test : (c letter : ℕ) (fs : List (List ℕ)) (m : Mark) (here past : Result Mark FieldFault) → either c letter here past ≡ Ok m → (here ≡ Ok m → Tells ((letter ∷ []) ∷ fs) m) → (past ≡ Ok m → Tells ((c ∷ []) ∷ fs) m) → Tells ((c ∷ []) ∷ fs) m
by_test c letter fs m here past is yes_so other_so =
    ⊎_elim
    (λ t. subst (λ (x : ℕ). Tells ((x ∷ []) ∷ fs) m) (sym (eqb-true c letter t)) (yes_so (sym (cond-true (eqb c letter) here past t) ∙ is)))
    (λ f. other_so (sym (cond-false (eqb c letter) here past f) ∙ is))
    (cases_Bool (eqb c letter))

letter_ok : (c : ℕ) (fs : List (List ℕ)) (m : Mark) → by_letter c fs ≡ Ok m → Tells ((c ∷ []) ∷ fs) m
letter_ok c fs m is =
    by_test c 82 fs m (word_mark fs) _ is (word_ok fs m)
    (λ past_r. by_test c 77 fs m (byte_mark fs) _ past_r (byte_ok fs m)
    (λ past_m. by_test c 68 fs m (stored_mark fs) _ past_m (stored_ok fs m)
    (λ past_d. by_test c 69 fs m (ends_mark fs) _ past_d (ends_ok fs m) (λ past_e. apart past_e))))

pub line_tells : (line : List ℕ) (m : Mark) → line_mark line ≡ Ok m → Tells (pieces 9 line) m
line_tells line m is =
    let fs = pieces 9 line in
    let a = both_ok (next letter_of 1 fs) (λ x. by_letter x.0 x.1) m is in
    let f = next_ok letter_of 1 fs a.0 a.1 in
    subst (λ (l : List (List ℕ)). Tells l m) (sym (f.2 ∙ ap (λ x. x ∷ a.0.1) (one_letter f.0 a.0.0 f.1))) (letter_ok a.0.0 a.0.1 m a.2)

fair_points : (fs : List (List ℕ)) (m : Mark) → Tells fs m → points_of m ≤ 1000
fair_points fs (Word r word points) t = t.2.few
fair_points fs (Byte address byte points) t = t.3.few
fair_points fs (Stored sector offset byte points) t = t.4.few
fair_points fs (Ends e points) t = t.1.few

-- no line is worth more than 1,000
pub few_points : (line : List ℕ) (m : Mark) → line_mark line ≡ Ok m → points_of m ≤ 1000
few_points line m is = fair_points (pieces 9 line) m (line_tells line m is)

-- what tells a mark is read as it

points_read : (points : ℕ) → Fair points → points_in (spelled points) ≡ Ok points
points_read points fair =
    ap (λ r. and_then r at_least_one) (number_reads 1000 points fair.few (omega (arith, fair.few)))
    ∙ cond-false (eqb points 0) (Err Size) (Ok points) (ne_eqb points 0 (λ e. omega (arith, fair.some)))

last_read : (i points : ℕ) → Fair points → last_points i (spelled points ∷ []) ≡ Ok points
last_read i points fair = ap (λ r. and_then (with_rest (in_field r i) []) (λ x. ended (suc i) x.0 x.1)) (points_read points fair)

one_read : {X Y : Type 0} (read : List ℕ → Result X Cause) (i : ℕ) (f : List ℕ) (rest : List (List ℕ)) (x : X) (k : X × List (List ℕ) → Result Y FieldFault) → read f ≡ Ok x → and_then (next read i (f ∷ rest)) k ≡ k (x, rest)
one_read read i f rest x k is = ap (λ r. and_then (with_rest (in_field r i) rest) k) is

two_read : (l₁ l₂ n k points : ℕ) (make : ℕ → ℕ → ℕ → Mark) → l₁ < 2 ^ 32 → l₂ < 2 ^ 32 → n ≤ l₁ → k ≤ l₂ → Fair points
    → and_then (next (number_up_to l₁) 2 (spelled n ∷ spelled k ∷ spelled points ∷ [])) (λ x. and_then (next (number_up_to l₂) 3 x.1) (λ y. and_then (last_points 4 y.1) (λ p. Ok (make x.0 y.0 p)))) ≡ Ok (make n k points)
two_read l₁ l₂ n k points make h₁ h₂ small₁ small₂ fair =
    one_read (number_up_to l₁) 2 (spelled n) (spelled k ∷ spelled points ∷ []) n _ (number_reads l₁ n small₁ (omega arith))
    ∙ one_read (number_up_to l₂) 3 (spelled k) (spelled points ∷ []) k (λ y. and_then (last_points 4 y.1) (λ p. Ok (make n y.0 p))) (number_reads l₂ k small₂ (omega arith))
    ∙ ap (λ r. and_then r (λ p. Ok (make n k p))) (last_read 4 points fair)

told_read : (fs : List (List ℕ)) (m : Mark) → Tells fs m → from_fields fs ≡ Ok m
told_read fs (Word r word points) (cut, small, fair) =
    let below = r.below in
    ap from_fields cut ∙ two_read 63 4294967295 r.number word points (λ n w p. Word (register n) w p) (omega arith) (omega arith) (omega arith) small fair
    ∙ ap (λ x. Ok (Word x word points)) (sym (same_register r r.number (omega arith)))
told_read fs (Byte address byte points) (cut, small, few, fair) =
    ap from_fields cut ∙ two_read 1048575 255 address byte points Byte (omega arith) (omega arith) small few fair
told_read fs (Stored sector offset byte points) (cut, small, inside, few, fair) =
    ap from_fields cut
    ∙ one_read (number_up_to 65535) 2 (spelled sector) (spelled offset ∷ spelled byte ∷ spelled points ∷ []) sector _ (number_reads 65535 sector small (omega arith))
    ∙ one_read (number_up_to 511) 3 (spelled offset) (spelled byte ∷ spelled points ∷ []) offset (λ y. and_then (next (number_up_to 255) 4 y.1) (λ z. and_then (last_points 5 z.1) (λ p. Ok (Stored sector y.0 z.0 p)))) (number_reads 511 offset inside (omega arith))
    ∙ one_read (number_up_to 255) 4 (spelled byte) (spelled points ∷ []) byte (λ z. and_then (last_points 5 z.1) (λ p. Ok (Stored sector offset z.0 p))) (number_reads 255 byte few (omega arith))
    ∙ ap (λ r. and_then r (λ p. Ok (Stored sector offset byte p))) (last_read 5 points fair)
told_read fs (Ends e points) (cut, fair) =
    ap from_fields cut
    ∙ one_read ending_in 2 (ending_name e) (spelled points ∷ []) e (λ x. and_then (last_points 3 x.1) (λ p. Ok (Ends x.0 p))) (ap spelled_ending (named_name e))
    ∙ ap (λ r. and_then r (λ p. Ok (Ends e p))) (last_read 3 points fair)

-- whole sheets

pub tell_read : {ls : List (List ℕ)} {ms : List Mark} (i : ℕ) → Tell ls ms → marks_from i ls ≡ Ok ms
tell_read i no_lines = refl
tell_read i (one_line {line = line} {m = m} tells no_lines) = ap (λ r. with_line (on_line r i) (Ok [])) (told_read (pieces 9 line) m tells)
tell_read i (one_line {line = line} {m = m} tells (one_line {line = q} {lines = ls} more rest)) =
    ap (λ r. with_line (on_line r i) (marks_from (suc i) (q ∷ ls))) (told_read (pieces 9 line) m tells)
    ∙ ap (onward m) (tell_read (suc i) (one_line {line = q} {lines = ls} more rest))

line_first : (r : Result Mark FieldFault) (i : ℕ) (rest : Result (List Mark) Fault) (ms : List Mark) → with_line (on_line r i) rest ≡ Ok ms → (m : Mark) × (ns : List Mark) × (r ≡ Ok m) × (rest ≡ Ok ns) × (m ∷ ns ≡ ms)
line_first (Ok m) i (Ok ns) ms is = let same : m ∷ ns ≡ ms = cc in (m, ns, refl, refl, same)
line_first (Ok m) i (Err fault) ms is = apart is
line_first (Err fault) i rest ms is = apart is

pub read_tells : (i : ℕ) (ls : List (List ℕ)) (ms : List Mark) → 0 < length ls → marks_from i ls ≡ Ok ms → Tell ls ms
read_tells i [] ms some is = absurd (omega arith)
read_tells i ([] ∷ []) ms some is = let none : [] ≡ ms = cc in subst (λ (l : List Mark). Tell ([] ∷ []) l) none no_lines
read_tells i ((c ∷ cs) ∷ []) ms some is = apart (sym (cond-false (eqb (length (c ∷ cs)) 0) _ _ (ne_eqb (length (c ∷ cs)) 0 (λ e. omega arith))) ∙ is)
read_tells i (line ∷ q ∷ ls) ms some is =
    let a = line_first (line_mark line) i (marks_from (suc i) (q ∷ ls)) ms is in
    subst (λ (l : List Mark). Tell (line ∷ q ∷ ls) l) a.4 (one_line (line_tells line a.0 a.2) (read_tells (suc i) (q ∷ ls) a.1 (omega arith) a.3))
