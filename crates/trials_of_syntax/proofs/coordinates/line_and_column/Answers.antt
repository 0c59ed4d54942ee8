use Rattle.std.specs.Prelude.{refl}
use Rattle.trials_of_syntax.proofs.coordinates.line_and_column.Goals as goal

pub returns : goal.returns
returns c = record {
  line = λ sets A number tail. refl;
  column = λ sets A number tail. refl;
  terminal_of_that_name = λ sets A number tail. refl;
  column_beside_it = λ sets A number tail. refl;
  in_a_symbol = λ sets A number tail. refl;
  element_of_that_name = λ sets A number tail. refl;
  with_an_index = λ sets A number tail. refl;
}
