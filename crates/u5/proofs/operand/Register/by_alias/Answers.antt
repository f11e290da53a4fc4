use Rattle.std.proofs.Common.{rules, ◌≡◌, refl}
use Rattle.std.specs.Option.{option_map}
use Rattle.std.specs.Str.{bytes_eq}
use Rattle.std.proofs.lemmas.Iterator.{YieldsList-from_range, YieldsList-from_map_by}
use Rattle.std.proofs.lemmas.Iterator.Search.{find_from_yields_List}
use Rattle.u5.specs.declared.operand.Register.{Register}
use Rattle.u5.specs.Registers.{alias, aliased, numbers}
use Rattle.u5.proofs.Tables.{aliased_cases}
use Rattle.u5.proofs.operand.Register.by_alias.Goals as goal

pub returns : goal.returns
unfolding numbers
returns c =
    let field = c.args.field.now in
    let is : option_map (λ g. g.number) c.find.result ≡ aliased field = find_from_yields_List (λ n. bytes_eq field (alias n)) _ _ c.find.result c.find.ensures.ran (YieldsList-from_map_by _ (λ (g : Register). g.number) (λ n. n) (YieldsList-from_range 0 64 64 (cc) refl) (cc) (λ x r q k. search rules)) (λ x b q k. search rules) in
    record { reads = is; cases = aliased_cases field _ is }
