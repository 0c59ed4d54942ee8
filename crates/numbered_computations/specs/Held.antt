-- The computations of a specification by their numbers, each with whose body it stands in.
use Rattle.std.specs.Prelude.{◌≡◌, ℕ, nat_eq, if◌then◌else◌, List, ◌++◌, map, flat_map, fold, Option, Some, option_map, Contains}
use Rattle.std.specs.HashMap as table
use Rattle.lido_syntax.specs.declared.spec.Spec.{Spec}
use Rattle.lido_syntax.specs.declared.spec.Comp.{Comp}
use Rattle.lido_syntax.specs.declared.spec.RuleItem.{RuleItem}
use Rattle.lido_syntax.specs.declared.spec.SymbolItem.{SymbolItem}
use Rattle.numbered_computations.specs.declared.table.Holder.{Holder}
use Rattle.numbered_computations.specs.declared.table.Holder.TheVariants as holder
use Rattle.numbered_computations.specs.declared.table.Held.{Held}
use Rattle.numbered_computations.specs.declared.table.Computations.{Computations}

-- whose body a computation stands in, and the computation
abbrev pub standing : Held → Holder × Comp
standing held = (held.holder, held.comp.now)

abbrev pub held_by : Holder → List Comp → List (Holder × Comp)
held_by h body = map (λ (c : Comp). (h, c)) body

-- all computations of the text
abbrev pub all_held : Spec → List (Holder × Comp)
all_held spec = flat_map (λ (r : RuleItem). held_by holder.Rule r.body) spec.rules ++ flat_map (λ (item : SymbolItem). held_by holder.Symbol item.body) spec.symbols

-- the last of these with that number, and else the one from before
abbrev pub last_of : ℕ → Option (Holder × Comp) → List (Holder × Comp) → Option (Holder × Comp)
last_of n before list = fold (λ (o : Option (Holder × Comp)) (h : Holder × Comp). if nat_eq h.1.number n then Some h else o) before list

-- what the table has for a number
unfoldable pub held_at : Computations → ℕ → Option (Holder × Comp)
held_at computations n = option_map standing (table.get nat_eq computations.held n)

-- The table has each computation of the specification at its number, with whose body it stands in, and no other.
pub record AreComputationsOf (spec : Spec) (computations : Computations) : Type 0 where
  pub of_rules : (r : RuleItem) (c : Comp) → Contains spec.rules r → Contains r.body c → held_at computations c.number ≡ Some (holder.Rule, c)
  pub of_symbols : (item : SymbolItem) (c : Comp) → Contains spec.symbols item → Contains item.body c → held_at computations c.number ≡ Some (holder.Symbol, c)
  pub only : (n : ℕ) (h : Holder × Comp) → held_at computations n ≡ Some h → Contains (all_held spec) h × (h.1.number ≡ n)
