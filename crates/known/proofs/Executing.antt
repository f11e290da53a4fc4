-- A word that was fetched is executed as the instruction that it decodes to.
use Rattle.std.proofs.Common.{◌≡◌, ℕ, false, List, ap, ◌∙◌}
use Rattle.u5.specs.Words.{decoded}
use Rattle.processor.specs.declared.ending.Ending.TheVariants.{Fetch}
use Rattle.processor.specs.Machine.{Processor}
use Rattle.processor.specs.Effects.{unless, obeyed, fetched, unfetchable, action}

pub obeys_word : (word : ℕ) (p : Processor) (ss : List (List ℕ)) → unfetchable p ≡ false → fetched p ≡ word → action p ss ≡ obeyed (decoded word) p ss
unfolding action
obeys_word word p ss inside e = ap (λ b. unless b Fetch (obeyed (decoded (fetched p)) p ss)) inside ∙ ap (λ n. obeyed (decoded n) p ss) e
