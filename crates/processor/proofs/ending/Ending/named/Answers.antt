use Rattle.std.proofs.Common.{rules, ◌≡◌, sym, ◌∙◌}
use Rattle.std.specs.Str.{bytes_eq}
use Rattle.std.proofs.lemmas.Iterator.{YieldsList-from_slice}
use Rattle.std.proofs.lemmas.Iterator.Adapters.{option_map_id}
use Rattle.std.proofs.lemmas.Iterator.Consumers.{YieldsList-from_copied}
use Rattle.std.proofs.lemmas.Iterator.Search.{find_from_yields_List}
use Rattle.processor.specs.Names.{ending_name, every_ending, ending_named}
use Rattle.processor.proofs.Naming.{named_cases}
use Rattle.processor.proofs.ending.Ending.named.Goals as goal

pub returns : goal.returns
unfolding every_ending
returns c =
    let field = c.args.field.now in
    let is : c.find.result ≡ ending_named field = sym (option_map_id _) ∙ find_from_yields_List (λ e. bytes_eq field (ending_name e)) _ _ c.find.result c.find.ensures.ran (YieldsList-from_copied (YieldsList-from_slice every_ending cc)) (λ x b q k. search rules) in
    record { reads = is; cases = named_cases field _ is }
