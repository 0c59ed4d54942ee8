-- The texts that names stand for.
use Rattle.std.specs.Prelude.{ℕ, List, [], Option, unwrap_or}
use Rattle.std.specs.Borrow.{Bor}
use Rattle.std.specs.Option.{option_copied}

-- The texts of the table, if there is one.
abbrev pub texts_in : Option (Bor (List (List ℕ))) → List (List ℕ)
texts_in strings = unwrap_or (option_copied strings) []
