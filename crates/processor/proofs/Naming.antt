-- An ending is known by its name.
use Rattle.std.proofs.Common.{◌≡◌, ℕ, List, Some, None, MatchOption, Option, sym, refl, ap, ◌∙◌}
use Rattle.std.proofs.lemmas.Option.{none-some}
use Rattle.u5.proofs.Tables.{called_is}
use Rattle.processor.specs.declared.ending.Ending.{Ending}
use Rattle.processor.specs.declared.ending.Ending.TheVariants.{Fetch, Code, Zero, Align, Range, Sector, Halt}
use Rattle.processor.specs.Names.{ending_name, every_ending, ending_named}

pub named_name : (e : Ending) → ending_named (ending_name e) ≡ Some e
unfolding every_ending
named_name Fetch = refl
named_name Code = refl
named_name Zero = refl
named_name Align = refl
named_name Range = refl
named_name Sector = refl
named_name Halt = refl

pub named_cases : (field : List ℕ) (r : Option Ending) → r ≡ ending_named field → MatchOption r ((e : Ending) → field ≡ ending_name e → ⊥) (λ e. field ≡ ending_name e)
named_cases field (Some e) is = called_is ending_name field every_ending e (sym is)
named_cases field None is = λ e names. none-some e (is ∙ ap ending_named names ∙ named_name e)
