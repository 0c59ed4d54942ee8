-- What a symbol and its classes have for an aim.
use Rattle.std.specs.Prelude.{◌≡◌, ℕ, Some, None}
use Rattle.symbol_inherit.specs.Index.{noted}
use Rattle.symbol_inherit.specs.Classes.{IsEarliest, IsNone}
use Rattle.computation_aims.specs.declared.aims.Aim.{Aim}
use Rattle.symbol_inherit.specs.declared.notes.Own.{Own}
use Rattle.symbol_inherit.specs.declared.left.Left.{Left}
use Rattle.symbol_inherit.specs.declared.classes.Classes.{Classes}
use Rattle.symbol_inherit.specs.declared.index.Index.{Index}
use Rattle.symbol_inherit.specs.declared.standing.Standing.{Standing}
use Rattle.symbol_inherit.specs.declared.standing.Standing.TheVariants as standing

module _ (classes : Classes) (index : Index) (count x : ℕ) (aim : Aim) where
  -- the symbol's own computation; that of the one class that is left; none; those of two classes
  pub data IsFound : Standing → Type 0 where
    own : (own : Own) → noted index x aim ≡ Some own → IsFound (standing.Computed own.number)
    missing : noted index x aim ≡ None → IsNone classes index x aim count count None → IsFound standing.Missing
    one : (left : Left) → noted index x aim ≡ None → IsEarliest classes index x aim count count None left
        → IsNone classes index x aim count count (Some left.class) → IsFound (standing.Computed left.own.number)
    two : (left other : Left) → noted index x aim ≡ None → IsEarliest classes index x aim count count None left
        → IsEarliest classes index x aim count count (Some left.class) other → IsFound (standing.Clash left.own.at other.own.at)
