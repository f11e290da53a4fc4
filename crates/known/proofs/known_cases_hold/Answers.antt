-- Each value of the table is computed; for the rest there is a lemma.
use Rattle.std.proofs.Common.{[], ◌∷◌, codes, refl, inl, inr, lit<, lit≤}
use Rattle.text.specs.Numerals.{spelled}
use Rattle.u5.specs.Words.{register, immediate, shift, decoded}
use Rattle.u5.specs.declared.instruction.Instruction.TheVariants.{MovI}
use Rattle.processor.specs.Effects.{action}
use Rattle.station.specs.Machines.{no_step, no_input, in_want}
use Rattle.station.specs.Worlds.{goes_on}
use Rattle.known.specs.Table.{add_v0_a0_a1}
use Rattle.known.proofs.Inexact.{none_exact}
use Rattle.known.proofs.Executing.{obeys_word}
use Rattle.known.proofs.known_cases_hold.Goals as goal

pub returns : goal.returns
unfolding action decoded spelled
returns c = record {
  exact_line = inl (add_v0_a0_a1, refl, refl);
  inexact_line = inr (none_exact, refl);
  exact_executes = obeys_word 0x40218800;
  inexact_executes = obeys_word 0x40218801;
  jump_spells =
      inl (
        MovI (register 63) (immediate 4) (shift 0),
        record {
          operands = codes "pc" ∷ codes "4" ∷ codes "0" ∷ [];
          cut = refl;
          named = ((lit< tt, inr refl), (record { small = lit≤ tt; digits = refl }, (record { small = lit≤ tt; digits = refl }, tt)));
        },
        refl,
      );
  load_at_m_4 = λ ss. refl;
  load_at_m_3 = λ ss. refl;
  store_at_6 = λ ss. refl;
  store_at_7 = λ ss. refl;
  nothing_waits = λ kind d slots printed paper. goes_on refl (in_want (lit< tt) no_step (no_input refl refl)) refl;
}
