use Rattle.std.proofs.Common.{◌≡◌, true, arith}
use Rattle.std.proofs.lemmas.Bool.Decides.{nat_tests}
use Rattle.table.specs.Rules.{size_fits}
use Rattle.table.proofs.Highest.{none_broken, one_broken}
use Rattle.table.proofs.check_table.Goals as goal

pub returns-in-Some : goal.returns-in-Some
returns-in-Some c =
    let s : size_fits c.args.records.now ≡ true = grind (arith, nat_tests) in
    record { value = rw (s, ← c.in-Some.ensures); meaning = (s, one_broken c.args.records.now c.in-Some.number c.in-Some.ensures) }

pub returns-in-None : goal.returns-in-None
returns-in-None c =
    let s : size_fits c.args.records.now ≡ true = grind (arith, nat_tests) in
    record { value = rw (s, ← c.in-None.ensures); meaning = (s, none_broken c.args.records.now c.in-None.ensures) }
