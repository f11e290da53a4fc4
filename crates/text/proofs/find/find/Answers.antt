use Rattle.std.proofs.Common.{rules, tests, ◌≡◌, ◌∙◌, sym, ◌-◌, length, eqb, drop, arith, length-drop}
use Rattle.std.specs.List.{position}
use Rattle.std.proofs.lemmas.Iterator.{YieldsList-from_slice}
use Rattle.std.proofs.lemmas.Iterator.Search.{position_from_yields_List}
use Rattle.std.proofs.lemmas.List.{take_all}
use Rattle.text.proofs.Cuts.{place_Some, place_None}
use Rattle.text.proofs.find.find.Goals as goal
use Rattle.text.proofs.find.find.Goals.{After-position}

found : (c : After-position) → c.position.result ≡ position (λ x. eqb x c.args.mark) (drop c.args.at c.args.text.now)
found c =
    let rest = drop c.args.at c.args.text.now in
    let all = take_all (length c.args.text.now - c.args.at) rest (omega (arith, length-drop c.args.at c.args.text.now)) in
    position_from_yields_List (λ x. eqb x c.args.mark) _ _ c.position.result c.position.ensures.ran (YieldsList-from_slice rest (c.iter.ensures.rest ∙ all)) (λ x b q k. search (rules, tests))

pub returns-in-Some-clause-place : goal.returns-in-Some-clause-place
returns-in-Some-clause-place c = place_Some _ _ _ c.in-Some.n (sym (found (goal.at.returns-in-Some-clause-place c).After-position) ∙ c.in-Some.is)

pub returns-in-None-clause-place : goal.returns-in-None-clause-place
returns-in-None-clause-place c = place_None _ _ _ c.requires (sym (found (goal.at.returns-in-None-clause-place c).After-position) ∙ c.in-None.is)
