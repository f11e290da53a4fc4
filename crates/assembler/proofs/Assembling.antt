-- What assemble promises at each of its answers.
use Rattle.std.proofs.Common.{◌≡◌, ℕ, ◌*◌, ◌/◌, ◌<◌, true, List, length, is_ok, Ok, Err, Result, ap, ◌∙◌, arith}
use Rattle.text.specs.declared.fault.Fault.{Fault}
use Rattle.text.specs.Pieces.{pieces}
use Rattle.assembler.specs.Assembly.{WithinLimits, Assembled, Crowded}
use Rattle.assembler.specs.Programs.{SpellsText}
use Rattle.assembler.specs.Texts.{words_from, counted, words_of, bytes}
use Rattle.assembler.specs.Writes.{Appended}
use Rattle.assembler.proofs.Counting.{counted_ok, length_bytes}
use Rattle.assembler.proofs.Programming.{words_told, text_reads}

module _ (text : List ℕ) where
  -- the words that were read of the text
  abbrev read : List ℕ
  read = words_of (words_from 1 (pieces 10 text))

  -- a text that spells words is counted as that many
  pub spelled_count : (ws : List ℕ) (r : Result ℕ Fault) → r ≡ counted (words_from 1 (pieces 10 text)) → SpellsText text ws → r ≡ Ok (length ws)
  spelled_count ws r e s = e ∙ ap counted (text_reads text ws s)

  pub fault_spells_none : (ws : List ℕ) (f : Fault) → Err f ≡ counted (words_from 1 (pieces 10 text)) → SpellsText text ws → ⊥
  fault_spells_none ws f e s = let both = spelled_count ws (Err f) e s in let z : ◌≡◌ {A = ℕ} 0 1 = cc in omega arith

  module _ (n : ℕ) (e : Ok n ≡ counted (words_from 1 (pieces 10 text))) where
    pub as_many : (ws : List ℕ) → SpellsText text ws → n ≡ length ws
    as_many ws s = let both = spelled_count ws (Ok n) e s in cc

    pub spells_read : SpellsText text read
    spells_read = words_told text read (counted_ok (words_from 1 (pieces 10 text)) n e).2

    pub reads : is_ok (words_from 1 (pieces 10 text)) ≡ true
    reads = (counted_ok (words_from 1 (pieces 10 text)) n e).0

    pub four_each : length (bytes read) ≡ 4 * n
    four_each = let many = (counted_ok (words_from 1 (pieces 10 text)) n e).1 in omega (arith, length_bytes read)

    pub crowded : (out : List ℕ) → length out / 4 < n → Crowded text out
    crowded out h = record { words = read; spells = spells_read; too_many = let many = (counted_ok (words_from 1 (pieces 10 text)) n e).1 in omega arith }

    pub assembled : (out after : List ℕ) (end : ℕ) → WithinLimits text → Appended out 0 (bytes read) after end → Assembled text out end after
    assembled out after end limits put =
        let many = (counted_ok (words_from 1 (pieces 10 text)) n e).1 in
        record { limits = limits; words = read; spells = spells_read; four_each = omega (arith, put.till, length_bytes read); written = put }
