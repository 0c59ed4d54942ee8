-- What a name is: a class.
use Rattle.std.specs.Prelude.{ℕ, IsTrue, Contains}
use Rattle.lido_syntax.specs.declared.spec.Spec.{Spec}
use Rattle.lido_syntax.specs.declared.spec.SymbolItem.{SymbolItem}
use Rattle.lido_syntax.specs.Sets.{names_of}

-- a CLASS SYMBOL item is about the name
abbrev pub IsClass : Spec → ℕ → Type 0
IsClass spec s = (item : SymbolItem) × Contains spec.symbols item × IsTrue item.class × Contains (names_of item) s
