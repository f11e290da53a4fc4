-- No action leaves a register file whose r0 is not 0, and memory keeps its length.
use Rattle.std.proofs.Common.{◌≡◌, ℕ, ◌+◌, ◌≤◌, Bool, false, eqb, List, [], length, get_or, set, Some, None, Option, sym, refl, ◌∙◌, arith, length-append, length-drop, length-set, length-take, get_or-set_other}
use Rattle.std.proofs.lemmas.Bool.{cond_both, eqb-false, ltb-false, leb-false}
use Rattle.u5.specs.Words.{decoded}
use Rattle.u5.specs.declared.operand.Register.{Register}
use Rattle.u5.specs.declared.instruction.Instruction.{Instruction}
use Rattle.u5.specs.declared.instruction.Instruction.TheVariants.{LoadB, LoadH, LoadW, StoreB, StoreH, StoreW, Add, Mul, Div, Nor, MovI, CMov, In, Out, Read, Write, Halt}
use Rattle.processor.specs.declared.ending.Ending.{Ending}
use Rattle.processor.specs.declared.ending.Ending.TheVariants.{Fetch, Align, Range, Sector, Zero}
use Rattle.processor.specs.Words.{written, overwritten, last_bytes, number_of}
use Rattle.processor.specs.Machine.{Processor, Action, ends, goes, writes}
use Rattle.processor.specs.Effects.{value, gets, moved, counter, stored, bytes_at, unaligned, outside, missing, unless, placed, load, store, read, write, effect, obeyed, fetched, unfetchable, action}
use Rattle.processor.specs.Laws.{Leaves, Sound, WholeSectors, StaysSound}

-- after a test that may end it, an action leaves what the rest of it leaves
tested : (P : Processor → Type 0) (bad : Bool) (e : Ending) (act : Action) → (bad ≡ false → Leaves P act) → Leaves P (unless bad e act)
tested P bad e act rest = cond_both bad (ends e) act (Leaves P) (λ _. tt) rest

written_zero : (words : List ℕ) (r v : ℕ) → get_or words 0 0 ≡ 0 → get_or (written words r v) 0 0 ≡ 0
written_zero words r v zero =
    cond_both (eqb r 0) words (set words r v) (λ l. get_or l 0 0 ≡ 0) (λ _. zero)
    (λ other. get_or-set_other words r 0 v 0 (λ e. eqb-false r 0 other (sym e)) ∙ zero)

written_length : (words : List ℕ) (r v : ℕ) → length (written words r v) ≡ length words
written_length words r v = cond_both (eqb r 0) words (set words r v) (λ l. length l ≡ length words) (λ _. refl) (λ _. length-set words r v)

overwritten_length : (at width : ℕ) (new memory : List ℕ) → length new ≡ width → at + width ≤ length memory → length (overwritten at width new memory) ≡ length memory
overwritten_length at width new memory is inside = simp (length-append, length-take, length-drop) (omega arith)

module _ {p : Processor} where
  gets_sound : {q : Processor} (r : Register) (v : ℕ) → Sound p q → Sound p (gets r v q)
  gets_sound {q} r v s = record {
    zero_register = written_zero q.registers r.number v s.zero_register;
    registers_number = written_length q.registers r.number v ∙ s.registers_number;
    memory_length = s.memory_length;
  }

  stored_sound : {q : Processor} (at width : ℕ) (new : List ℕ) → length new ≡ width → at + width ≤ length q.memory → Sound p q → Sound p (stored at width new q)
  stored_sound {q} at width new is inside s = record {
    zero_register = s.zero_register;
    registers_number = s.registers_number;
    memory_length = overwritten_length at width new q.memory is inside ∙ s.memory_length;
  }

  module _ (q : Processor) (s : Sound p q) where
    load_sound : (width : ℕ) (a : Register) (at : ℕ) → Leaves (Sound p) (load width a at q)
    load_sound width a at = tested (Sound p) (outside at width q) Range _ (λ _. gets_sound a (number_of (bytes_at at width q)) s)

    placed_sound : (at width : ℕ) (act : Action) → (at + width ≤ length q.memory → Leaves (Sound p) act) → Leaves (Sound p) (placed at width q act)
    placed_sound at width act rest =
        tested (Sound p) (unaligned at width) Align (unless (outside at width q) Range act)
        (λ _. tested (Sound p) (outside at width q) Range act (λ inside. rest (ltb-false _ _ inside)))

    store_sound : (width : ℕ) (a : Register) (at : ℕ) → length (last_bytes width (value q a)) ≡ width → Leaves (Sound p) (store width a at q)
    store_sound width a at is = placed_sound at width _ (λ inside. stored_sound at width (last_bytes width (value q a)) is inside s)

    module _ (ss : List (List ℕ)) (whole : WholeSectors ss) where
      read_sound : (at sector : ℕ) → Leaves (Sound p) (read at sector q ss)
      read_sound at sector =
          placed_sound at 512 _ (λ inside. tested (Sound p) (missing sector ss) Sector (goes (stored at 512 (get_or ss sector []) q))
          (λ there. stored_sound at 512 (get_or ss sector []) (whole sector (leb-false _ _ there)) inside s))

      write_sound : (at sector : ℕ) → Leaves (Sound p) (write at sector q ss)
      write_sound at sector = placed_sound at 512 _ (λ inside. tested (Sound p) (missing sector ss) Sector (writes sector (bytes_at at 512 q) q) (λ _. s))

      effect_sound : (i : Instruction) → Leaves (Sound p) (effect i q ss)
      effect_sound (LoadB a b c) = load_sound 1 a _
      effect_sound (LoadH a b c) = load_sound 2 a _
      effect_sound (LoadW a b c) = load_sound 4 a _
      effect_sound (StoreB a b c) = store_sound 1 a _ refl
      effect_sound (StoreH a b c) = store_sound 2 a _ refl
      effect_sound (StoreW a b c) = store_sound 4 a _ refl
      effect_sound (Add a b c) = gets_sound a _ s
      effect_sound (Mul a b c) = gets_sound a _ s
      effect_sound (Div a b c) = tested (Sound p) (eqb (value q c) 0) Zero _ (λ _. gets_sound a _ s)
      effect_sound (Nor a b c) = gets_sound a _ s
      effect_sound (MovI r i n) = gets_sound r _ s
      effect_sound (CMov a b c) = cond_both (eqb (value q c) 0) q (gets a (value q b) q) (Sound p) (λ _. s) (λ _. gets_sound a (value q b) s)
      effect_sound (In a) = λ byte. gets_sound a byte s
      effect_sound (Out a) = s
      effect_sound (Read a b) = read_sound (value q a) (value q b)
      effect_sound (Write a b) = write_sound (value q a) (value q b)
      effect_sound Halt = s

obeyed_sound : (p : Processor) (ss : List (List ℕ)) → get_or p.registers 0 0 ≡ 0 → WholeSectors ss → (o : Option Instruction) → Leaves (Sound p) (obeyed o p ss)
obeyed_sound p ss zero whole None = tt
obeyed_sound p ss zero whole (Some i) = effect_sound (moved p) (gets_sound counter _ (record { zero_register = zero; registers_number = refl; memory_length = refl })) ss whole i

pub stays_sound : StaysSound
unfolding action
stays_sound p ss zero whole = tested (Sound p) (unfetchable p) Fetch (obeyed (decoded (fetched p)) p ss) (λ _. obeyed_sound p ss zero whole (decoded (fetched p)))
