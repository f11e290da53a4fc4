-- The names that endings and wants are printed by.
use Rattle.std.specs.Prelude.{ℕ, List, [], ◌∷◌, codes, Option}
use Rattle.u5.specs.Tables.{called}
use Rattle.processor.specs.declared.ending.Ending.{Ending}
use Rattle.processor.specs.declared.ending.Ending.TheVariants.{Fetch, Code, Zero, Align, Range, Sector, Halt}
use Rattle.processor.specs.declared.ending.Want.{Want}
use Rattle.processor.specs.declared.ending.Want.TheVariants.{Input, Paper, Keep}

abbrev pub ending_name : Ending → List ℕ
ending_name Fetch = codes "FETCH"
ending_name Code = codes "CODE"
ending_name Zero = codes "ZERO"
ending_name Align = codes "ALIGN"
ending_name Range = codes "RANGE"
ending_name Sector = codes "SECTOR"
ending_name Halt = codes "HALT"

-- the endings, in the order in which they are looked for
unfoldable pub every_ending : List Ending
every_ending = Fetch ∷ Code ∷ Zero ∷ Align ∷ Range ∷ Sector ∷ Halt ∷ []

-- the ending with this name
abbrev pub ending_named : List ℕ → Option Ending
ending_named field = called ending_name field every_ending

abbrev pub want_name : Want → List ℕ
want_name Input = codes "INPUT"
want_name Paper = codes "PAPER"
want_name Keep = codes "KEEP"
