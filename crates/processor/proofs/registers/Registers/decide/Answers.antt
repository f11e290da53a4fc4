use Rattle.std.proofs.Common.{◌≡◌, None, Err, sym, ap, ◌∙◌, subst, inl, inr, arith}
use Rattle.std.proofs.lemmas.Grind.{common_steps}
use Rattle.std.proofs.lemmas.Result.{err_from_is_err_and}
use Rattle.processor.specs.declared.ending.Ending.TheVariants.{Code}
use Rattle.processor.specs.Requests.{Decides, processor}
use Rattle.processor.proofs.Fetches.{not_fetched, cannot, decodes_to}
use Rattle.processor.proofs.registers.Registers.decide.Goals as goal
use Rattle.processor.proofs.registers.Registers.decide.Goals.{then-at-ne0-via-then-at-ne0, then-at-ne0-via-else-at-ne0+then-at-memory}

pub returns-then-at-ne0 : goal.returns-then-at-ne0
returns-then-at-ne0 c =
    let p = processor c.args.self.now c.args.memory.now in
    record {
      as_asked = λ ss. not_fetched p ss (cannot p c.get-at.result c.get-at.ensures.value
          (elim c.then-at-ne0.branch [ then-at-ne0-via-then-at-ne0 w ↦ inl (λ e. omega arith) | then-at-ne0-via-else-at-ne0+then-at-memory w ↦ inr (omega arith) ]));
      in_memory = tt;
    }

pub returns-in_err-instruction : goal.returns-in_err-instruction
returns-in_err-instruction c =
    let p = processor c.args.self.now c.args.memory.now in
    let gone = err_from_is_err_and c.from_residual.result c.from_residual.ensures.1 in
    let none : c.decode.result ≡ None = grind (arith, common_steps, c.in_err-instruction.ensures) in
    let code : c.in_err-instruction.field-0.0 ≡ Code = grind (arith, common_steps, c.in_err-instruction.ensures) in
    subst (Decides p) (sym (gone.1 ∙ ap Err (gone.2 ∙ code))) (record {
      as_asked = decodes_to p c.get-at.result c.get-at.ensures.value _ c.load-word.result (omega arith) (omega arith) c.load-word.ensures (sym none ∙ c.decode.ensures.value);
      in_memory = tt;
    })

pub returns : goal.returns
returns c =
    let p = processor c.args.self.now c.args.memory.now in
    record {
      as_asked = λ ss.
          decodes_to p c.get-at.result c.get-at.ensures.value _ c.load-word.result (omega arith) (omega arith) c.load-word.ensures (sym c.in_ok-instruction.ensures.ok_part ∙ c.decode.ensures.value) ss
          ∙ c.execute.ensures.as_asked ss;
      in_memory = c.execute.ensures.in_memory;
    }
