use Rattle.std.proofs.Common.{rules, ◌≡◌}
use Rattle.u5.specs.Words.{decoded}
use Rattle.u5.proofs.Encodings.{decoded_cases}
use Rattle.u5.proofs.instruction.Instruction.decode.Goals as goal

pub returns : goal.returns
unfolding decoded
returns c =
    let is : c.map.result ≡ decoded c.args.word = search rules in
    record { value = is; cases = decoded_cases _ _ is }
