-- The line of a word spells the word, and a whole listing spells its words within assemble's limits.
use Rattle.std.proofs.Common.{cond, ◌≡◌, ℕ, zero, suc, ◌+◌, ◌-◌, ◌*◌, ◌/◌, ◌%◌, ◌^◌, ◌<◌, ◌≤◌, Bool, true, false, not, ◌&&◌, eqb, ltb, ◌⊎◌, List, [], ◌∷◌, ◌++◌, map, length, get_or, take, Some, None, codes, Option, sym, refl, ap, ◌∙◌, subst, inl, inr, ⊎_elim, append-nil, arith, length-append}
use Rattle.std.specs.List.{AllByRecursion}
use Rattle.std.proofs.lemmas.Nat.{mod_below}
use Rattle.std.proofs.lemmas.Bool.{and_parts, and_from, cases_Bool, eqb-true, eqb-false, eq-eqb, ne_eqb, cond-true, cond-false, cond_both, not-true}
use Rattle.text.specs.Numerals.{digits_by, spelled}
use Rattle.text.specs.Pieces.{pieces}
use Rattle.u5.specs.declared.instruction.Instruction.{Instruction}
use Rattle.u5.specs.declared.operation.Kind.{Kind}
use Rattle.u5.specs.declared.operation.Kind.TheVariants.{Register, Number}
use Rattle.u5.specs.declared.operation.Slot.{Slot}
use Rattle.u5.specs.Operations.{largest, every}
use Rattle.u5.specs.Operations as operations
use Rattle.u5.specs.Registers.{aliases}
use Rattle.u5.specs.Slots.{placed, part, parts}
use Rattle.u5.specs.Words.{operation, values, encoded, decoded, bare}
use Rattle.u5.proofs.Encodings.{decodes}
use Rattle.u5.proofs.Operands.{encoded_placed, parts_encoded}
use Rattle.u5.proofs.Tables.{each_operation}
use Rattle.assembler.specs.declared.keyword.Keyword.{Keyword}
use Rattle.assembler.specs.declared.keyword.Keyword.TheVariants.{Of, Word}
use Rattle.assembler.specs.Keywords.{spelling, base, slots}
use Rattle.assembler.specs.Grammar.{Names, NamesEach, Spells}
use Rattle.assembler.specs.Programs.{SpellsEach, SpellsText}
use Rattle.std.proofs.lemmas.List.Sums.{sum_by-append, sum_by-cons}
use Rattle.text.specs.Pieces.{newlines}
use Rattle.assembler.specs.Assembly.{WithinLimits}
use Rattle.assembler.specs.Listing.{operand_text, exactly, listed_as, tail, line_as, listed, listing, words_at}
use Rattle.assembler.specs.Lists.{operand_texts, instruction_line, LineOf, OneLine, LineOfEach, ended, Listed}
use Rattle.assembler.specs.Writes.{Appended}
use Rattle.assembler.proofs.Keywording.{Passes, each_keyword}
use Rattle.assembler.proofs.Saying.{spells}
use Rattle.assembler.proofs.Tails.{line_short}

-- a text without a mark

abbrev free : ℕ → List ℕ → Bool
free m [] = true
free m (c ∷ cs) = not (eqb c m) && free m cs

free_append : (m : ℕ) (xs ys : List ℕ) → free m xs ≡ true → free m ys ≡ true → free m (xs ++ ys) ≡ true
free_append m [] ys h g = g
free_append m (c ∷ xs) ys h g =
    let p = and_parts (not (eqb c m)) (free m xs) h in
    and_from (not (eqb c m)) (free m (xs ++ ys)) p.0 (free_append m xs ys p.1 g)

cut_here : (m : ℕ) (xs ys : List ℕ) → free m xs ≡ true → pieces m (xs ++ m ∷ ys) ≡ xs ∷ pieces m ys
cut_here m [] ys h = let yes = eq-eqb m m refl in rw yes
cut_here m (c ∷ xs) ys h =
    let p = and_parts (not (eqb c m)) (free m xs) h in
    let no = not-true (eqb c m) p.0 in
    rw (no, cut_here m xs ys p.1)

cut_last : (m : ℕ) (xs : List ℕ) → free m xs ≡ true → pieces m xs ≡ xs ∷ []
cut_last m [] h = refl
cut_last m (c ∷ xs) h =
    let p = and_parts (not (eqb c m)) (free m xs) h in
    let no = not-true (eqb c m) p.0 in
    rw (no, cut_last m xs p.1)

-- digits, aliases and spellings have no mark below the digits in them

free_digit : (m n : ℕ) → m < 48 → free m ((48 + n) ∷ []) ≡ true
free_digit m n h = let no : eqb (48 + n) m ≡ false = ne_eqb (48 + n) m (λ e. omega arith) in rw no

free_digits_by : (m k n : ℕ) → m < 48 → free m (digits_by k n) ≡ true
free_digits_by m zero n h = refl
free_digits_by m (suc k) n h =
    cond_both (ltb n 10) ((48 + n) ∷ []) (digits_by k (n / 10) ++ ((48 + n % 10) ∷ [])) (λ ds. free m ds ≡ true)
    (λ _. free_digit m n h)
    (λ _. free_append m (digits_by k (n / 10)) ((48 + n % 10) ∷ []) (free_digits_by m k (n / 10) h) (free_digit m (n % 10) h))

free_spelled : (m n : ℕ) → m < 48 → free m (spelled n) ≡ true
unfolding spelled
free_spelled m n h = free_digits_by m 10 n h

abbrev all_free : ℕ → List (List ℕ) → Bool
all_free m [] = true
all_free m (x ∷ xs) = free m x && all_free m xs

free_at : (m : ℕ) (xs : List (List ℕ)) → all_free m xs ≡ true → (n : ℕ) → free m (get_or xs n []) ≡ true
free_at m [] h n = refl
free_at m (x ∷ xs) h zero = (and_parts (free m x) (all_free m xs) h).0
free_at m (x ∷ xs) h (suc n) = free_at m xs (and_parts (free m x) (all_free m xs) h).1 n

free_text : (m : ℕ) → m < 48 → all_free m aliases ≡ true → (k : Kind) (n : ℕ) → free m (operand_text k n) ≡ true
free_text m h a Register n = free_at m aliases a n
free_text m h a (Number limit) n = free_spelled m n h

tabless : Passes (λ k. free 9 (spelling k))
unfolding every
tabless = record { word = refl; operations = each_operation (λ o. free 9 (operations.spelling o)) refl refl }

lineless : Passes (λ k. free 10 (spelling k))
unfolding every
lineless = record { word = refl; operations = each_operation (λ o. free 10 (operations.spelling o)) refl refl }

-- the fields of a listed line

abbrev texts : List Slot → ℕ → List (List ℕ)
texts [] w = []
texts (s ∷ ss) w = operand_text s.kind (part s w) ∷ texts ss w

cut_fields : (ss : List Slot) (w : ℕ) (xs : List ℕ) → free 9 xs ≡ true → pieces 9 (xs ++ tail ss w) ≡ xs ∷ texts ss w
cut_fields [] w xs h = rw append-nil (cut_last 9 xs h)
cut_fields (s ∷ ss) w xs h =
    cut_here 9 xs (operand_text s.kind (part s w) ++ tail ss w) h
    ∙ ap (λ r. xs ∷ r) (cut_fields ss w (operand_text s.kind (part s w)) (free_text 9 (omega arith) refl s.kind (part s w)))

names : (k : Kind) (n : ℕ) → n < largest k + 1 → Names k (operand_text k n) n
names Register n h = (omega arith, inr refl)
names (Number limit) n h = record { small = omega arith; digits = refl }

names_each : (ss : List Slot) (w : ℕ) → NamesEach ss (texts ss w) (parts ss w)
names_each [] w = tt
names_each (s ∷ ss) w = (names s.kind (part s w) (mod_below (w / s.weight) (largest s.kind + 1) (omega arith)), names_each ss w)

-- a word is listed as the instruction whose exact encoding it is, and else as WORD

nothing_some : {X : Type 0} (x : X) → None ≡ Some x → ⊥
nothing_some x e = let z : ◌≡◌ {A = ℕ} 0 1 = cc in omega arith

abbrev Exactly : ℕ → Keyword → Type 0
Exactly w k = ((i : Instruction) × (encoded i ≡ w) × (k ≡ Of (operation i))) ⊎ (((i : Instruction) → encoded i ≡ w → ⊥) × (k ≡ Word))

exact_at : (w : ℕ) (o : Option Instruction) → decoded w ≡ o → Exactly w (exactly o w)
exact_at w None e = inr (λ i is. nothing_some i (sym e ∙ ap decoded (sym is) ∙ decodes i), refl)
exact_at w (Some i) e =
    ⊎_elim
    (λ t. inl (i, eqb-true (encoded i) w t, cond-true (eqb (encoded i) w) (Of (operation i)) Word t))
    (λ f. inr (λ j is. other i j w e (eqb-false (encoded i) w f) is, cond-false (eqb (encoded i) w) (Of (operation i)) Word f))
    (cases_Bool (eqb (encoded i) w))
  where
    other : (i j : Instruction) (w : ℕ) → decoded w ≡ Some i → (encoded i ≡ w → ⊥) → encoded j ≡ w → ⊥
    other i j w e ne is =
        let both : Some i ≡ Some j = sym e ∙ ap decoded (sym is) ∙ decodes j in
        let same : i ≡ j = cc in
        ne (ap encoded same ∙ is)

exact : (w : ℕ) → Exactly w (listed_as w)
exact w = exact_at w (decoded w) refl

parts_of : (i : Instruction) (w : ℕ) → encoded i ≡ w → parts (operations.slots (operation i)) w ≡ values i
parts_of i w e = ap (parts (operations.slots (operation i))) (sym e) ∙ parts_encoded i

means : (w : ℕ) (k : Keyword) → w < 2 ^ 32 → Exactly w k → placed (base k) (slots k) (parts (slots k) w) ≡ w
means w k h (inl (i, e, is)) =
    subst (λ x. placed (base x) (slots x) (parts (slots x) w) ≡ w) (sym is)
    (ap (placed (bare (operation i)) (operations.slots (operation i))) (parts_of i w e) ∙ sym (encoded_placed i) ∙ e)
means w k h (inr (none, is)) = subst (λ x. placed (base x) (slots x) (parts (slots x) w) ≡ w) (sym is) (omega arith)

reads_back : (w : ℕ) → w < 2 ^ 32 → Spells (listed w) w
reads_back w h = spells (listed w) w (record {
  keyword = listed_as w;
  fields = texts (slots (listed_as w)) w;
  values = parts (slots (listed_as w)) w;
  cut = cut_fields (slots (listed_as w)) w (spelling (listed_as w)) (each_keyword (λ k. free 9 (spelling k)) tabless (listed_as w));
  named = names_each (slots (listed_as w)) w;
  means = means w (listed_as w) h (exact w);
})

-- the line of a word

tail_texts : (ss : List Slot) (w : ℕ) → tail ss w ≡ operand_texts ss (parts ss w)
tail_texts [] w = refl
tail_texts (s ∷ ss) w = ap (λ l. 9 ∷ (operand_text s.kind (part s w) ++ l)) (tail_texts ss w)

line_at : (w : ℕ) (k : Keyword) → w < 2 ^ 32 → Exactly w k → LineOf w (line_as k w)
line_at w k h (inl (i, e, is)) =
    inl (i, e, ap (λ x. line_as x w) is ∙ ap (λ l. operations.spelling (operation i) ++ l) (tail_texts (operations.slots (operation i)) w ∙ ap (operand_texts (operations.slots (operation i))) (parts_of i w e)))
line_at w k h (inr (none, is)) =
    let whole : w / 1 % (2 ^ 32 - 1 + 1) ≡ w = omega arith in
    inr (none, ap (λ x. line_as x w) is ∙ ap (λ l. codes "WORD" ++ (9 ∷ l)) (append-nil (spelled (w / 1 % (2 ^ 32 - 1 + 1))) ∙ ap spelled whole))

line_of : (w : ℕ) → w < 2 ^ 32 → LineOf w (listed w)
line_of w h = line_at w (listed_as w) h (exact w)

short_line : (w : ℕ) → length (listed w) < 19
short_line w = omega (arith, line_short (listed_as w) w, length-append (spelling (listed_as w)) (tail (slots (listed_as w)) w))

same_instruction : (i j : Instruction) (w : ℕ) → encoded i ≡ w → encoded j ≡ w → i ≡ j
same_instruction i j w e f = let both : Some i ≡ Some j = sym (decodes i) ∙ ap decoded (e ∙ sym f) ∙ decodes j in cc

line_one : (w : ℕ) (l m : List ℕ) → LineOf w l → LineOf w m → l ≡ m
line_one w l m (inl (i, e, is)) (inl (j, f, same)) = is ∙ ap instruction_line (same_instruction i j w e f) ∙ sym same
line_one w l m (inl (i, e, is)) (inr (none, same)) = absurd (none i e)
line_one w l m (inr (none, is)) (inl (j, f, same)) = absurd (none j f)
line_one w l m (inr (none, is)) (inr (nope, same)) = is ∙ sym same

pub one_line : (w : ℕ) → w < 2 ^ 32 → OneLine w
one_line w h = record { line = listed w; of = line_of w h; only = λ other o. line_one w other (listed w) o (line_of w h); spells = reads_back w h; short = short_line w }

-- whole listings

free_tail : (ss : List Slot) (w : ℕ) → free 10 (tail ss w) ≡ true
free_tail [] w = refl
free_tail (s ∷ ss) w = free_append 10 (operand_text s.kind (part s w)) (tail ss w) (free_text 10 (omega arith) refl s.kind (part s w)) (free_tail ss w)

free_listed : (w : ℕ) → free 10 (listed w) ≡ true
free_listed w = free_append 10 (spelling (listed_as w)) (tail (slots (listed_as w)) w) (each_keyword (λ k. free 10 (spelling k)) lineless (listed_as w)) (free_tail (slots (listed_as w)) w)

cut_lines : (ws : List ℕ) → pieces 10 (listing ws) ≡ map listed ws ++ ([] ∷ [])
cut_lines [] = refl
cut_lines (w ∷ ws) = cut_here 10 (listed w) (listing ws) (free_listed w) ∙ ap (λ l. listed w ∷ l) (cut_lines ws)

each_spells : (ws : List ℕ) → AllByRecursion (λ w. w < 2 ^ 32) ws → SpellsEach (map listed ws) ws
each_spells [] h = tt
each_spells (w ∷ ws) (h, hs) = (reads_back w h, each_spells ws hs)

listing_spells : (ws : List ℕ) → AllByRecursion (λ w. w < 2 ^ 32) ws → SpellsText (listing ws) ws
listing_spells ws h = record { lines = map listed ws; cut = cut_lines ws; spelled = each_spells ws h }

line_of_each : (ws : List ℕ) → AllByRecursion (λ w. w < 2 ^ 32) ws → LineOfEach ws (map listed ws)
line_of_each [] h = tt
line_of_each (w ∷ ws) (h, hs) = (line_of w h, short_line w, line_of_each ws hs)

ended_listing : (ws : List ℕ) → ended (map listed ws) ≡ listing ws
ended_listing [] = refl
ended_listing (w ∷ ws) = ap (λ l. listed w ++ (10 ∷ l)) (ended_listing ws)

no_newlines : (xs : List ℕ) → free 10 xs ≡ true → newlines xs ≡ 0
no_newlines [] h = refl
no_newlines (c ∷ xs) h =
    let p = and_parts (not (eqb c 10)) (free 10 xs) h in
    let no = not-true (eqb c 10) p.0 in
    omega (arith, sum_by-cons (λ x. cond (eqb x 10) 1 0) c xs, no_newlines xs p.1, ap {B = ℕ} (λ b. cond b 1 0) no)

newlines_line : (xs ys : List ℕ) → free 10 xs ≡ true → newlines (xs ++ (10 ∷ ys)) ≡ 1 + newlines ys
newlines_line xs ys h = sum_by-append _ xs (10 ∷ ys) ∙ omega (arith, no_newlines xs h, sum_by-cons (λ x. cond (eqb x 10) 1 0) 10 ys)

newlines_listing : (ws : List ℕ) → newlines (listing ws) ≡ length ws
newlines_listing [] = refl
newlines_listing (w ∷ ws) = omega (arith, newlines_line (listed w) (listing ws) (free_listed w), newlines_listing ws)

length_listing : (ws : List ℕ) → length (listing ws) ≤ 19 * length ws
length_listing [] = omega arith
length_listing (w ∷ ws) = omega (arith, length-append (listed w) (10 ∷ listing ws), short_line w, length_listing ws)

listing_within : (ws : List ℕ) → length ws ≤ 3328 → WithinLimits (listing ws)
listing_within ws h = record { short = omega (arith, length_listing ws); few = omega (arith, newlines_listing ws) }

-- the words that bytes hold

words_below : (xs : List ℕ) → ((i : ℕ) → get_or xs i 0 < 256) → AllByRecursion (λ w. w < 2 ^ 32) (words_at xs)
words_below [] h = tt
words_below (a ∷ []) h = tt
words_below (a ∷ b ∷ []) h = tt
words_below (a ∷ b ∷ c ∷ []) h = tt
words_below (a ∷ b ∷ c ∷ d ∷ rest) h = (omega (arith, h 0, h 1, h 2, h 3), words_below rest (λ i. h (suc (suc (suc (suc i))))))

words_count : (xs : List ℕ) → 4 * length (words_at xs) ≤ length xs
words_count [] = omega arith
words_count (a ∷ []) = omega arith
words_count (a ∷ b ∷ []) = omega arith
words_count (a ∷ b ∷ c ∷ []) = omega arith
words_count (a ∷ b ∷ c ∷ d ∷ rest) = omega (arith, words_count rest)

-- a listing has room where each word has 19 bytes
pub listing_fits : (words out : List ℕ) → 19 * (length words / 4) ≤ length out → length (listing (words_at words)) ≤ length out
listing_fits words out room = omega (arith, length_listing (words_at words), words_count words)

-- what list promises of an accepted call
module _ (words out after : List ℕ) (end : ℕ) (bytes : (i : ℕ) → get_or words i 0 < 256) (put : Appended out 0 (listing (words_at words)) after end) where
  front : take end after ≡ listing (words_at words)
  front = put.front

  pub lists_all : length words ≤ 13312 → length words % 4 ≡ 0 → 19 * (length words / 4) ≤ length out → Listed words out end after
  lists_all short whole room = record {
    listable = record { short = short; whole = whole };
    room = room;
    lines = map listed (words_at words);
    each = line_of_each (words_at words) (words_below words bytes);
    written = subst (λ l. Appended out 0 l after end) (sym (ended_listing (words_at words))) put;
  }

  pub spells_all : SpellsText (take end after) (words_at words)
  spells_all = subst (λ t. SpellsText t (words_at words)) (sym front) (listing_spells (words_at words) (words_below words bytes))

  pub within_all : length words ≤ 13312 → WithinLimits (take end after)
  within_all short = subst WithinLimits (sym front) (listing_within (words_at words) (omega (arith, words_count words)))
