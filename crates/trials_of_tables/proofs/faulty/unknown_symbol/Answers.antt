use Rattle.std.specs.Prelude.{ℕ, ◌≤◌, [], ◌∷◌, None, IsTrue, Contains, refl}
use Rattle.std.proofs.Common.{arith, subst, inl}
use Rattle.lido_base.proofs.TreeLemmas.{test-contains}
use Rattle.lido_syntax.specs.declared.spec.Comp.{Comp}
use Rattle.lido_syntax.specs.declared.spec.RuleItem.{RuleItem}
use Rattle.lido_syntax.specs.declared.spec.Target.{Target}
use Rattle.lido_syntax.specs.declared.spec.Target.TheVariants as target
use Rattle.lido_syntax.specs.declared.spec.Place.{Place}
use Rattle.lido_syntax.specs.declared.spec.Place.TheVariants as place
use Rattle.lido_syntax.specs.declared.spec.Expr.{Expr, Read, Terminal}
use Rattle.lido_syntax.specs.Parts.{leaves_of}
use Rattle.trials_of_syntax.proofs.Members.{every}
use Rattle.lido_symbols.specs.Uses.{symbol_uses}
use Rattle.table_faults.specs.Faults.{IsUnknown, IsKnown, IsPlaceOf, place_at, in_production}
use Rattle.table_faults.specs.Faults as faults
use Rattle.trials_of_tables.specs.Faulty.{env, unknown_symbol, foreign_rule, foreign, Y, a}
use Rattle.trials_of_tables.specs.Writing.{name}
use Rattle.trials_of_tables.proofs.faulty.unknown_symbol.Goals as goal

-- the target's place stands no earlier
abbrev IsBehind : ℕ → Target → Type 0
IsBehind at (target.Attr p b) = 24 ≤ place_at p at
IsBehind at _ = Unit {0}

-- neither a read nor a bare name
abbrev IsNoName : Expr → Type 0
IsNoName (Read at p b) = ⊥
IsNoName (Terminal x i) = ⊥
IsNoName _ = Unit {0}

abbrev OfComputation : Comp → Type 0
OfComputation c = IsBehind c.at c.target × ((e : Expr) → Contains (leaves_of c) e → IsNoName e)

all : (r : RuleItem) → Contains unknown_symbol.rules r → (c : Comp) → Contains r.body c → OfComputation c
all = every (λ (r : RuleItem). (c : Comp) → Contains r.body c → OfComputation c) unknown_symbol.rules (every OfComputation foreign_rule.body ((omega arith, every IsNoName (leaves_of foreign) (tt, tt)), tt), tt)

at_place : (c : Comp) (p : Place) (other : ℕ) → OfComputation c → IsPlaceOf c other p → 24 ≤ other
at_place c p other here (faults.targeted b e at) = let behind : 24 ≤ place_at p c.at = subst (IsBehind c.at) e here.0 in omega (arith, behind, at)
at_place c p other here (faults.read first b m at) = absurd (here.1 (Read first p b) m)

known : (s : ℕ) → Contains (0 ∷ 1 ∷ []) s → IsKnown unknown_symbol env s
known s m = in_production foreign_rule (0, omega arith, refl) m

abbrev IsLate : ℕ × ℕ → Type 0
IsLate u = ¬ IsKnown unknown_symbol env u.1 → 24 ≤ u.0

named : (u : ℕ × ℕ) → Contains (symbol_uses unknown_symbol env) u → IsLate u
named = every IsLate (symbol_uses unknown_symbol env) ((λ not_so. absurd (not_so (known 0 (0, omega arith, refl)))), ((λ not_so. absurd (not_so (known 1 (1, omega arith, refl)))), ((λ not_so. omega arith), tt)))

least : (other : ℕ) → IsUnknown unknown_symbol env other → 24 ≤ other
least other (faults.nowhere s m not_so) = named (other, s) m not_so
least other (faults.IsUnknown.in_rule r c p m k q f) = at_place c p other (all r m c k) q
least other (faults.bare_in_rule r c x i m k b not_so at) = absurd ((all r m c k).1 (Terminal x i) b.0)
least other (faults.IsUnknown.in_symbol item c x i m k p) = absurd (omega (arith, m.1))
least other (faults.bare_in_symbol item c x i m k b at) = absurd (omega (arith, m.1))

outside : ¬ Contains (0 ∷ 1 ∷ []) Y
outside m = let test : IsTrue (Rattle.lido_base.specs.Tree.contains Y (0 ∷ 1 ∷ [])) = test-contains Y (0 ∷ 1 ∷ []) m in cc

pub returns : goal.returns
returns c = inl (24, record { there = faults.IsUnknown.in_rule foreign_rule foreign (place.Named (name 24 Y) None) (0, omega arith, refl) (0, omega arith, refl) (faults.targeted (name 26 a) refl refl) outside; least = least }, refl)
