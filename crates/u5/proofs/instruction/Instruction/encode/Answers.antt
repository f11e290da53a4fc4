use Rattle.std.proofs.Common.{rules, ap, ◌∙◌}
use Rattle.u5.specs.Words.{decoded}
use Rattle.u5.proofs.Encodings.{decodes}
use Rattle.u5.proofs.instruction.Instruction.encode.Goals as goal

pub returns-clause-decodes : goal.returns-clause-decodes
returns-clause-decodes c = ap decoded (search rules) ∙ decodes c.args.self
