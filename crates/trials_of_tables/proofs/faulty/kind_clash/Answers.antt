use Rattle.std.specs.Prelude.{refl}
use Rattle.std.proofs.Common.{arith}
use Rattle.kind_clashes.specs.KindClash.{class_in_production}
use Rattle.trials_of_tables.specs.Faulty.{rule_of_class, X}
use Rattle.trials_of_tables.specs.Writing.{name}
use Rattle.trials_of_tables.proofs.ClassLemmas.{X_is, least}
use Rattle.trials_of_tables.proofs.faulty.kind_clash.Goals as goal

pub returns : goal.returns
returns c = (34, record { there = class_in_production rule_of_class (name 34 X) (0, omega arith, refl) (1, omega arith, refl) X_is refl; least = least }, refl)
