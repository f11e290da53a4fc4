-- What is read of a text is what it spells, or its first fault.
use Rattle.std.proofs.Common.{◌≡◌, ℕ, suc, ◌+◌, ◌<◌, eqb, List, [], ◌∷◌, ◌++◌, length, Ok, Err, Result, sym, refl, ap, ◌∙◌, subst, ⊎_elim, arith, MatchResult}
use Rattle.std.proofs.lemmas.Bool.{cases_Bool, cond-true, cond-false, eqb-true, eqb-false}
use Rattle.text.specs.declared.fault.Cause.TheVariants.{End}
use Rattle.text.specs.declared.fault.FieldFault.{FieldFault}
use Rattle.text.specs.declared.fault.Fault.{Fault}
use Rattle.text.specs.Faults.{at_field, at_line, on_line}
use Rattle.text.specs.Pieces.{pieces}
use Rattle.text.proofs.Joins.{some_pieces}
use Rattle.assembler.specs.Grammar.{Spells}
use Rattle.assembler.specs.Faults.{FaultyLine}
use Rattle.assembler.specs.Lines.{line_word}
use Rattle.assembler.specs.Programs.{SpellsEach, SpellsText, WrongLine, FirstFault}
use Rattle.assembler.specs.Texts.{onward, with_line, words_from, counted}
use Rattle.assembler.proofs.Faulting.{told}
use Rattle.assembler.proofs.Saying.{spells_reads}

-- the lines from the i-th on spell words, and nothing follows the last newline
record SpellsFrom (ps : List (List ℕ)) (words : List ℕ) : Type 0 where
  lines : List (List ℕ)
  cut : ps ≡ lines ++ ([] ∷ [])
  spelled : SpellsEach lines words

-- the first wrong line from the i-th on
record FaultFrom (i : ℕ) (ps : List (List ℕ)) (fault : Fault) : Type 0 where
  good : List (List ℕ)
  here : List (List ℕ)
  words : List ℕ
  cut : ps ≡ good ++ here
  spelled : SpellsEach good words
  place : fault.line ≡ i + length good
  wrong : WrongLine here fault

abbrev Reads : ℕ → List (List ℕ) → Result (List ℕ) Fault → Type 0
Reads i ps r = MatchResult r (λ ws. SpellsFrom ps ws) (λ f. FaultFrom i ps f)

nothing : (p : List ℕ) → length p ≡ 0 → p ≡ []
nothing [] h = refl
nothing (c ∷ cs) h = absurd (omega arith)

last_line : (i : ℕ) (p : List ℕ) → Reads i (p ∷ []) (words_from i (p ∷ []))
last_line i p =
    ⊎_elim
    (λ t. subst (Reads i (p ∷ [])) (sym (cond-true (eqb (length p) 0) (Ok []) (Err (at_line i (at_field 0 End))) t)) (record { lines = []; cut = ap (λ q. q ∷ []) (nothing p (eqb-true (length p) 0 t)); spelled = tt }))
    (λ f. subst (Reads i (p ∷ [])) (sym (cond-false (eqb (length p) 0) (Ok []) (Err (at_line i (at_field 0 End))) f)) (record { good = []; here = p ∷ []; words = []; cut = refl; spelled = tt; place = omega arith; wrong = (let ne = eqb-false (length p) 0 f in omega arith, refl, refl) }))
    (cases_Bool (eqb (length p) 0))

lines_below : (i : ℕ) (p q : List ℕ) (ps : List (List ℕ)) (w : ℕ) (r : Result (List ℕ) Fault) → Spells p w → Reads (suc i) (q ∷ ps) r → Reads i (p ∷ q ∷ ps) (onward w r)
lines_below i p q ps w (Ok ws) s h = record { lines = p ∷ h.lines; cut = ap (λ l. p ∷ l) h.cut; spelled = (s, h.spelled) }
lines_below i p q ps w (Err f) s h = record { good = p ∷ h.good; here = h.here; words = w ∷ h.words; cut = ap (λ l. p ∷ l) h.cut; spelled = (s, h.spelled); place = omega (arith, h.place); wrong = h.wrong }

line_here : (i : ℕ) (p q : List ℕ) (ps : List (List ℕ)) (l : Result ℕ FieldFault) (r : Result (List ℕ) Fault) → MatchResult l (λ w. Spells p w) (λ f. FaultyLine p f.field f.cause) → Reads (suc i) (q ∷ ps) r → Reads i (p ∷ q ∷ ps) (with_line (on_line l i) r)
line_here i p q ps (Ok w) r s h = lines_below i p q ps w r s h
line_here i p q ps (Err f) r s h = record { good = []; here = p ∷ q ∷ ps; words = []; cut = refl; spelled = tt; place = omega arith; wrong = s }

reads : (i : ℕ) (ps : List (List ℕ)) → 0 < length ps → Reads i ps (words_from i ps)
reads i [] some = absurd (omega arith)
reads i (p ∷ []) some = last_line i p
reads i (p ∷ q ∷ ps) some = line_here i p q ps (line_word p) (words_from (suc i) (q ∷ ps)) (told p (line_word p) refl) (reads (suc i) (q ∷ ps) (omega arith))

text_told : (text : List ℕ) (r : Result (List ℕ) Fault) → words_from 1 (pieces 10 text) ≡ r → MatchResult r (λ ws. SpellsText text ws) (λ f. FirstFault text f)
text_told text (Ok ws) e = let h = subst (Reads 1 (pieces 10 text)) e (reads 1 (pieces 10 text) (some_pieces 10 text)) in record { lines = h.lines; cut = h.cut; spelled = h.spelled }
text_told text (Err f) e = let h = subst (Reads 1 (pieces 10 text)) e (reads 1 (pieces 10 text) (some_pieces 10 text)) in record { good = h.good; here = h.here; words = h.words; cut = h.cut; spelled = h.spelled; place = h.place; wrong = h.wrong }

counted_err : (r : Result (List ℕ) Fault) (f : Fault) → Err f ≡ counted r → r ≡ Err f
counted_err (Ok ws) f e = absurd (let z : ◌≡◌ {A = ℕ} 0 1 = cc in omega arith)
counted_err (Err g) f e = let is : g ≡ f = cc in ap Err is

-- a fault that was counted is the text's first
pub fault_told : (text : List ℕ) (f : Fault) → Err f ≡ counted (words_from 1 (pieces 10 text)) → FirstFault text f
fault_told text f e = text_told text (Err f) (counted_err (words_from 1 (pieces 10 text)) f e)

-- words that were read are those that the text spells
pub words_told : (text ws : List ℕ) → words_from 1 (pieces 10 text) ≡ Ok ws → SpellsText text ws
words_told text ws e = text_told text (Ok ws) e

-- and the words that a text spells are read

spelled_from : (i : ℕ) (ls : List (List ℕ)) (ws : List ℕ) → SpellsEach ls ws → words_from i (ls ++ ([] ∷ [])) ≡ Ok ws
spelled_from i [] [] s = refl
spelled_from i [] (w ∷ ws) s = absurd s
spelled_from i (l ∷ ls) [] s = absurd s
spelled_from i (l ∷ []) (w ∷ ws) (s, ss) = ap (λ r. with_line (on_line r i) (Ok [])) (spells_reads l w s) ∙ ap (onward w) (spelled_from (suc i) [] ws ss)
spelled_from i (l ∷ m ∷ ls) (w ∷ ws) (s, ss) = ap (λ r. with_line (on_line r i) (words_from (suc i) ((m ∷ ls) ++ ([] ∷ [])))) (spells_reads l w s) ∙ ap (onward w) (spelled_from (suc i) (m ∷ ls) ws ss)

pub text_reads : (text ws : List ℕ) → SpellsText text ws → words_from 1 (pieces 10 text) ≡ Ok ws
text_reads text ws h = ap (words_from 1) h.cut ∙ spelled_from 1 h.lines ws h.spelled
