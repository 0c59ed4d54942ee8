-- What computations give values to, as the goals of the specification.
use Rattle.std.specs.Prelude.{ℕ, zero, suc, ◌↔◌, Bool, IsTrue, if◌then◌else◌, List, Option, Some, None}
use Rattle.lido_base.specs.Tree.{contains}
use Rattle.lido_syntax.specs.declared.spec.Name.{Name}
use Rattle.lido_syntax.specs.declared.spec.Target.{Target}
use Rattle.lido_syntax.specs.declared.spec.Target.TheVariants as target
use Rattle.lido_syntax.specs.declared.spec.Place.TheVariants as place
use Rattle.lido_syntax.specs.declared.spec.RuleItem.{RuleItem}
use Rattle.lido_syntax.specs.declared.spec.Spec.{Spec}
use Rattle.lido_syntax.specs.Production.{name_of, occurrence}
use Rattle.lido_syntax.specs.Symbols.{IsChain}
use Rattle.lido_syntax.specs.Computation as written
use Rattle.computation_aims.specs.declared.aims.Way.{Way}
use Rattle.computation_aims.specs.declared.aims.Way.TheVariants as way
use Rattle.computation_aims.specs.declared.aims.Aim.{Aim}

-- which of the ways it is
abbrev pub number_of : Way → ℕ
number_of way.Synthesized = 0
number_of way.Inherited = 1
number_of way.Start = 2
number_of way.Behind = 3

-- the goal of an attribute or a chain
abbrev pub goal_by : Way → ℕ → written.Goal
goal_by way.Synthesized a = written.Synthesized a
goal_by way.Inherited a = written.Inherited a
goal_by way.Start c = written.Start c
goal_by way.Behind c = written.Behind c

abbrev pub goal_of : Aim → written.Goal
goal_of aim = goal_by aim.way aim.name.0

abbrev pub aimed : Way → Name → Option Aim
aimed w a = Some (record { way = w; name = a.id })

-- what a computation with this target gives a value to in a symbol's body
abbrev pub aim_in_symbol : Target → Option Aim
aim_in_symbol (target.Attr place.Synt a) = aimed way.Synthesized a
aim_in_symbol (target.Attr place.Inh a) = aimed way.Inherited a
aim_in_symbol (target.Attr place.This a) = aimed way.Behind a
aim_in_symbol (target.Start a) = aimed way.Start a
aim_in_symbol _ = None

-- what a computation of a rule gives a value to whose target is this attribute or chain at an occurrence, and where
abbrev pub aim_at : Bool → Option ℕ → Name → Option (ℕ × Aim)
aim_at is_chain None a = None
aim_at is_chain (Some zero) a = Some (0, record { way = if is_chain then way.Behind else way.Synthesized; name = a.id })
aim_at is_chain (Some (suc k)) a = Some (suc k, record { way = way.Inherited; name = a.id })

-- what a computation with this target gives a value to in a rule's body, and at which occurrence
abbrev pub aim_in_rule : List ℕ → RuleItem → Target → Option (ℕ × Aim)
aim_in_rule chains r (target.Attr (place.Named x i) a) = aim_at (contains (name_of a) chains) (occurrence r x i) a
aim_in_rule chains r (target.Start a) = Some (0, record { way = way.Start; name = a.id })
aim_in_rule chains r _ = None

-- these are the chains that are declared
abbrev pub AreChains : Spec → List ℕ → Type 0
AreChains spec chains = (c : ℕ) → IsTrue (contains c chains) ↔ IsChain spec c
