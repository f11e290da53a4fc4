-- The numbers of the stops of a run and of the causes of a fault.
use Rattle.std.specs.Prelude.{ℕ}
use Rattle.processor.specs.declared.ending.Ending.{Ending}
use Rattle.processor.specs.declared.ending.Ending.TheVariants.{Fetch, Code, Zero, Align, Range, Sector, Halt}
use Rattle.processor.specs.declared.ending.Want.{Want}
use Rattle.processor.specs.declared.ending.Want.TheVariants.{Input, Paper, Keep}
use Rattle.station.specs.declared.answer.Stop.{Stop}
use Rattle.station.specs.declared.answer.Stop.TheVariants.{Spent, Wants, Ended}
use Rattle.text.specs.declared.fault.Cause.{Cause}
use Rattle.text.specs.declared.fault.Cause.TheVariants.{Spelling, Digits, Size, Missing, Extra, End}

-- the number of each cause
abbrev pub cause_number : Cause → ℕ
cause_number Spelling = 1
cause_number Digits = 2
cause_number Size = 3
cause_number Missing = 4
cause_number Extra = 5
cause_number End = 6

-- the number of each ending
abbrev pub ending_number : Ending → ℕ
ending_number Fetch = 1
ending_number Code = 2
ending_number Zero = 3
ending_number Align = 4
ending_number Range = 5
ending_number Sector = 6
ending_number Halt = 7

-- the number of each want
abbrev pub want_number : Want → ℕ
want_number Input = 8
want_number Paper = 9
want_number Keep = 10

-- the number of each stop: 0 where all granted steps were executed
abbrev pub stop_number : Stop → ℕ
stop_number Spent = 0
stop_number (Wants want) = want_number want
stop_number (Ended e) = ending_number e
