-- One more byte in each turn, and none left after the last.
use Rattle.std.proofs.Common.{◌≡◌, ◌∙◌, subst, arith}
use Rattle.console_tests.specs.Draining.{Drained}
use Rattle.console_tests.proofs.Pulls.{one_more_drained, all_drained}
use Rattle.console_tests.proofs.drain.Goals as goal

pub loop-i-preserved : goal.loop-i-preserved
loop-i-preserved g c = one_more_drained _ _ _ _ c.loop-i._i c.pull.result (omega (arith, c.printed-count.ensures)) c.loop-i.invariant c.pull.ensures

pub returns : goal.returns
returns g c =
    let before = g.C.Console.meaning c.args.console.now in
    let after = g.C.Console.meaning c.loop-i.console in
    let all : c.loop-i._i ≡ c.printed-count.result = omega arith in
    record {
      count = c.printed-count.ensures;
      empty = all_drained g.C.Console.kind before after (subst (λ n. Drained g.C.Console.kind before n after) (all ∙ c.printed-count.ensures) c.loop-i.invariant);
      drained = subst (λ n. Drained g.C.Console.kind before n after) all c.loop-i.invariant;
    }
