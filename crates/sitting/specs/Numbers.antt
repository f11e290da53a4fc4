-- The number of each refusal.
use Rattle.std.specs.Prelude.{ℕ}
use Rattle.sitting.specs.declared.refusal.OpenRefusal.{OpenRefusal}
use Rattle.sitting.specs.declared.refusal.OpenRefusal.TheVariants.{NoCandidate, NoGrant}
use Rattle.sitting.specs.declared.refusal.DrawRefusal.{DrawRefusal}
use Rattle.sitting.specs.declared.refusal.DrawRefusal.TheVariants.{MoreThanLeft}
use Rattle.sitting.specs.declared.refusal.GiveBackRefusal.{GiveBackRefusal}
use Rattle.sitting.specs.declared.refusal.GiveBackRefusal.TheVariants.{MoreThanUsed}

abbrev pub open_refusal_number : OpenRefusal → ℕ
open_refusal_number NoCandidate = 11
open_refusal_number NoGrant = 12

abbrev pub draw_refusal_number : DrawRefusal → ℕ
draw_refusal_number MoreThanLeft = 13

abbrev pub give_back_refusal_number : GiveBackRefusal → ℕ
give_back_refusal_number MoreThanUsed = 14
