-- The computation in force for an attribute or a chain at an occurrence of a rule.
use Rattle.std.specs.Prelude.{◌≡◌, ℕ, Option, Some, None}
use Rattle.lido_syntax.specs.declared.spec.Spec.{Spec}
use Rattle.lido_syntax.specs.declared.spec.Comp.{Comp}
use Rattle.lido_syntax.specs.declared.spec.RuleItem.{RuleItem}
use Rattle.lido_syntax.specs.Computation.{Goal, Holder, by_rule, by_symbol, InForce, HasComputation}
use Rattle.symbol_inherit.specs.Index.{noted}
use Rattle.symbol_inherit.specs.Standings.{IsFound}
use Rattle.computation_aims.specs.declared.aims.Aim.{Aim}
use Rattle.symbol_inherit.specs.declared.notes.Own.{Own}
use Rattle.symbol_inherit.specs.declared.classes.Classes.{Classes}
use Rattle.symbol_inherit.specs.declared.index.Index.{Index}
use Rattle.symbol_inherit.specs.declared.forced.Held.{Held}
use Rattle.symbol_inherit.specs.declared.standing.Standing.TheVariants as standing

module _ (rule : Index) (classes : Classes) (index : Index) (count x occ : ℕ) (aim : Aim) where
  -- the rule's own computation; else what is found of the symbol; else none
  pub data IsResolved : Option Held → Type 0 where
    own : (o : Own) → noted rule occ aim ≡ Some o → IsResolved (Some (record { context = 0; number = o.number }))
    found : (n : ℕ) → noted rule occ aim ≡ None → IsFound classes index count x aim (standing.Computed n) → IsResolved (Some (record { context = occ; number = n }))
    missing : noted rule occ aim ≡ None → IsFound classes index count x aim standing.Missing → IsResolved None
    clash : (first second : ℕ) → noted rule occ aim ≡ None → IsFound classes index count x aim (standing.Clash first second) → IsResolved None

-- the occurrence whose node is the context
abbrev pub context_by : Holder → ℕ → ℕ
context_by by_rule occ = 0
context_by by_symbol occ = occ

-- What is answered is in force, and where nothing is answered nothing is.
abbrev pub IsHeld : Spec → RuleItem → ℕ → ℕ → Goal → Option Held → Type 0
IsHeld spec r occ s goal None = ¬ HasComputation spec r occ s goal
IsHeld spec r occ s goal (Some held) = (h : Holder) × (c : Comp) × InForce spec r occ s goal h c × (context_by h occ ≡ held.context) × (c.number ≡ held.number)
