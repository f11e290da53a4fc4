-- A line spells a word by its keyword just where it says an instruction that is encoded so, or gives the word.
use Rattle.std.proofs.Common.{◌≡◌, ℕ, ◌≤◌, List, [], ◌∷◌, Ok, codes, sym, refl, ap, ◌∙◌, subst, inl, inr, arith}
use Rattle.text.specs.Numerals.{spelled}
use Rattle.text.specs.Pieces.{pieces}
use Rattle.u5.specs.declared.operation.Operation.{Operation}
use Rattle.u5.specs.declared.operation.Kind.{Kind}
use Rattle.u5.specs.declared.operation.Kind.TheVariants.{Register, Number}
use Rattle.u5.specs.declared.operation.Slot.{Slot}
use Rattle.u5.specs.Operations.{largest}
use Rattle.u5.specs.Operations as operations
use Rattle.u5.specs.Slots.{InRange, placed}
use Rattle.u5.specs.Words.{operation, values, bare}
use Rattle.u5.proofs.Operands.{Made, made, encoded_placed}
use Rattle.assembler.specs.declared.keyword.Keyword.{Keyword}
use Rattle.assembler.specs.declared.keyword.Keyword.TheVariants.{Of, Word}
use Rattle.assembler.specs.Keywords.{spelling, base, slots}
use Rattle.assembler.specs.Grammar.{Names, NamesEach, Spells}
use Rattle.assembler.specs.Lines.{line_word}
use Rattle.assembler.proofs.Reading.{SpellsBy, spelled_reads, reads_spelled}

name_in_range : (k : Kind) (f : List ℕ) (n : ℕ) → Names k f n → n ≤ largest k
name_in_range Register f n h = omega (arith, h.0)
name_in_range (Number limit) f n h = h.small

names_in_range : (ss : List Slot) (fs : List (List ℕ)) (vs : List ℕ) → NamesEach ss fs vs → InRange ss vs
names_in_range [] [] [] h = tt
names_in_range [] [] (v ∷ vs) h = absurd h
names_in_range [] (f ∷ fs) vs h = absurd h
names_in_range (s ∷ ss) [] vs h = absurd h
names_in_range (s ∷ ss) (f ∷ fs) [] h = absurd h
names_in_range (s ∷ ss) (f ∷ fs) (v ∷ vs) h = (name_in_range s.kind f v h.0, names_in_range ss fs vs h.1)

says_made : (line : List ℕ) (w : ℕ) (o : Operation) (fs : List (List ℕ)) (vs : List ℕ) → pieces 9 line ≡ operations.spelling o ∷ fs → NamesEach (operations.slots o) fs vs → placed (bare o) (operations.slots o) vs ≡ w → Made o vs → Spells line w
says_made line w o fs vs cut named means (i, is, has) =
    inl (
      i,
      record { operands = fs; cut = cut ∙ ap (λ p. operations.spelling p ∷ fs) (sym is); named = subst (λ p. NamesEach (operations.slots p) fs (values i)) (sym is) (subst (NamesEach (operations.slots o) fs) (sym has) named) },
      encoded_placed i ∙ (λ j. placed (bare (is j)) (operations.slots (is j)) (has j)) ∙ means,
    )

gives_word : (line : List ℕ) (w : ℕ) (fs : List (List ℕ)) (vs : List ℕ) → pieces 9 line ≡ codes "WORD" ∷ fs → NamesEach (slots Word) fs vs → placed 0 (slots Word) vs ≡ w → Spells line w
gives_word line w [] [] cut named means = absurd named
gives_word line w [] (v ∷ vs) cut named means = absurd named
gives_word line w (f ∷ fs) [] cut named means = absurd named
gives_word line w (f ∷ []) (v ∷ []) cut named means =
    let is : v ≡ w = omega arith in
    inr (record { small = omega (arith, named.0.small); cut = cut ∙ ap (λ x. codes "WORD" ∷ (x ∷ [])) (named.0.digits ∙ ap spelled is) })
gives_word line w (f ∷ []) (v ∷ u ∷ vs) cut named means = absurd named.1
gives_word line w (f ∷ g ∷ fs) (v ∷ vs) cut named means = absurd named.1

spells_by_keyword : (line : List ℕ) (w : ℕ) (k : Keyword) (fs : List (List ℕ)) (vs : List ℕ) → pieces 9 line ≡ spelling k ∷ fs → NamesEach (slots k) fs vs → placed (base k) (slots k) vs ≡ w → Spells line w
spells_by_keyword line w (Of o) fs vs cut named means = says_made line w o fs vs cut named means (made o vs (names_in_range (operations.slots o) fs vs named))
spells_by_keyword line w Word fs vs cut named means = gives_word line w fs vs cut named means

pub spells : (line : List ℕ) (w : ℕ) → SpellsBy line w → Spells line w
spells line w h = spells_by_keyword line w h.keyword h.fields h.values h.cut h.named h.means

pub spelled_by : (line : List ℕ) (w : ℕ) → Spells line w → SpellsBy line w
spelled_by line w (inl (i, says, e)) = record {
  keyword = Of (operation i);
  fields = says.operands;
  values = values i;
  cut = says.cut;
  named = says.named;
  means = sym (encoded_placed i) ∙ e;
}
spelled_by line w (inr g) = record {
  keyword = Word;
  fields = spelled w ∷ [];
  values = w ∷ [];
  cut = g.cut;
  named = (record { small = omega (arith, g.small); digits = refl }, tt);
  means = omega arith;
}

-- a line is read as a word just where it spells that word
pub spells_reads : (line : List ℕ) (w : ℕ) → Spells line w → line_word line ≡ Ok w
spells_reads line w h = spelled_reads line w (spelled_by line w h)

pub reads_spells : (line : List ℕ) (w : ℕ) → line_word line ≡ Ok w → Spells line w
reads_spells line w e = spells line w (reads_spelled line w e)

-- a line spells at most one word
pub spells_one : (line : List ℕ) (v w : ℕ) → Spells line v → Spells line w → v ≡ w
spells_one line v w a b = let p : Ok v ≡ Ok w = sym (spells_reads line v a) ∙ spells_reads line w b in cc
