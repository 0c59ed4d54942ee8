-- The items that are read so far, as a specification.
use Rattle.std.specs.Prelude.{ℕ}
use Rattle.lido_syntax.specs.declared.spec.Spec.{Spec}
use Rattle.lido_reader.specs.declared.items.Found.{Found}

-- the specification so far, and the number of the next computation
abbrev pub found_in : Found → Spec × ℕ
found_in f = (record { rules = f.rules.items; symbols = f.symbols.items; attrs = f.attrs.items; terms = f.terms.items; chains = f.chains.items }, f.next)
