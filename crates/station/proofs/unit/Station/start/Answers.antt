use Rattle.std.proofs.Common.{rules, ℕ, List, length, refl, ap, ◌∙◌, arith}
use Rattle.std.proofs.lemmas.List.{nil_from_length}
use Rattle.std.proofs.lemmas.Result.{err_from_is_err_and}
use Rattle.station.specs.Views.{world}
use Rattle.station.proofs.Starting.{first_sector, front_back}
use Rattle.station.proofs.unit.Station.start.Goals as goal

pub returns : goal.returns
returns g c = λ d is. record {
  allowed = record { whole_sectors = omega arith; one_at_least = omega arith; at_most = omega arith };
  all_collected = nil_from_length _ (omega arith);
  has_sector = omega (arith, c.in_ok-read.ensures.0, ap length is);
  registers_zero = c.new-self.ensures;
  loaded = first_sector _ _ c.read.new.block c.args.memory.now is c.in_ok-read.ensures.1;
  disk_same = refl;
  console_same = refl;
  now_running = refl;
}

pub returns-in_err-read : goal.returns-in_err-read
returns-in_err-read g c =
    let p = err_from_is_err_and c.from_residual.result c.from_residual.ensures.1 in
    let h = c.in_err-read.ensures in
    rw (p.1, p.2) (λ d is. (
      record { whole_sectors = omega arith; one_at_least = omega arith; at_most = omega arith },
      nil_from_length _ (omega arith),
      omega (arith, h.0, ap length is),
      ap (λ (ms : List ℕ). world c.args.self.now ms d (g.C.Console.meaning c.args.console.now)) (front_back c.read.new.block c.args.memory.now (h.1 ∙ search rules)),
    ))
