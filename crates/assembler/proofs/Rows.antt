-- Words listed one after another.
use Rattle.std.proofs.Common.{◌≡◌, ℕ, zero, suc, ◌+◌, ◌*◌, ◌/◌, ◌<◌, ◌≤◌, List, [], ◌∷◌, ◌++◌, length, map, sym, refl, ap, ◌∙◌, append_assoc, arith, length-append}
use Rattle.std.specs.Int.{from_be_bytes, w32}
use Rattle.std.specs.Simd.{first_chunks}
use Rattle.assembler.specs.Keywords.{spelling, slots}
use Rattle.assembler.specs.Listing.{tail, listed_as, listed, listing, words_at}
use Rattle.assembler.proofs.Tails.{line_short}

few : (xs : List ℕ) → length xs < 4 → words_at xs ≡ []
few [] h = refl
few (a ∷ []) h = refl
few (a ∷ b ∷ []) h = refl
few (a ∷ b ∷ c ∷ []) h = refl
few (a ∷ b ∷ c ∷ d ∷ rest) h = absurd (omega arith)

-- the words that chunks of four bytes are
abbrev pub words_in : List (List ℕ) → List ℕ
words_in chunks = map (from_be_bytes w32) chunks

pub words_chunked : (n : ℕ) (xs : List ℕ) → n ≡ length xs / 4 → words_in (first_chunks 4 n xs) ≡ words_at xs
words_chunked zero xs h = sym (few xs (omega arith))
words_chunked (suc n) [] h = absurd (omega arith)
words_chunked (suc n) (a ∷ []) h = absurd (omega arith)
words_chunked (suc n) (a ∷ b ∷ []) h = absurd (omega arith)
words_chunked (suc n) (a ∷ b ∷ c ∷ []) h = absurd (omega arith)
words_chunked (suc n) (a ∷ b ∷ c ∷ d ∷ rest) h = ap (λ ws. (a * 16777216 + b * 65536 + c * 256 + d) ∷ ws) (words_chunked n rest (omega arith))

pub listed_short : (w : ℕ) → length (listed w ++ (10 ∷ [])) ≤ 19
listed_short w = omega (arith, line_short (listed_as w) w, length-append (spelling (listed_as w)) (tail (slots (listed_as w)) w), length-append (listed w) (10 ∷ []))

pub lines_more : (p : List ℕ) (w : ℕ) (ws whole : List ℕ) → p ++ listing (w ∷ ws) ≡ whole → (p ++ (listed w ++ (10 ∷ []))) ++ listing ws ≡ whole
lines_more p w ws whole e = append_assoc p (listed w ++ (10 ∷ [])) (listing ws) ∙ ap (λ l. p ++ l) (append_assoc (listed w) (10 ∷ []) (listing ws)) ∙ e
