use Rattle.std.specs.Prelude.{◌≡◌, ℤ, ℕ, ◌≤◌, Option, None, Contains, refl}
use Rattle.std.proofs.Common.{arith, subst}
use Rattle.lido_syntax.specs.declared.spec.Name.{Name}
use Rattle.lido_syntax.specs.declared.spec.Comp.{Comp}
use Rattle.lido_syntax.specs.declared.spec.RuleItem.{RuleItem}
use Rattle.lido_syntax.specs.declared.spec.Target.{Target}
use Rattle.lido_syntax.specs.declared.spec.Target.TheVariants as target
use Rattle.lido_syntax.specs.declared.spec.Place.TheVariants as place
use Rattle.lido_syntax.specs.declared.spec.Expr.{Expr, Read, Terminal}
use Rattle.lido_syntax.specs.Parts.{leaves_of}
use Rattle.lido_syntax.specs.Production.{occurrence}
use Rattle.trials_of_syntax.proofs.Members.{every}
use Rattle.table_faults.specs.Faults.{IsBadIndex, IsPlaceOf}
use Rattle.table_faults.specs.Faults as faults
use Rattle.trials_of_tables.specs.Faulty.{env, bad_index, rule_of_two, no_index, X}
use Rattle.trials_of_tables.specs.Writing.{name}
use Rattle.trials_of_tables.proofs.faulty.bad_index.Goals as goal

-- the target's place means an occurrence
abbrev Means : RuleItem → Target → Type 0
Means r (target.Attr (place.Named x i) b) = occurrence r x i ≡ None → ⊥
Means r _ = Unit {0}

-- what is read isn't a place, and a bare name stands no earlier
abbrev IsBehind : Expr → Type 0
IsBehind (Read at p b) = ⊥
IsBehind (Terminal x i) = 32 ≤ x.at
IsBehind _ = Unit {0}

abbrev OfComputation : RuleItem → Comp → Type 0
OfComputation r c = Means r c.target × ((e : Expr) → Contains (leaves_of c) e → IsBehind e)

all : (r : RuleItem) → Contains bad_index.rules r → (c : Comp) → Contains r.body c → OfComputation r c
all = every (λ (r : RuleItem). (c : Comp) → Contains r.body c → OfComputation r c) bad_index.rules (every (OfComputation rule_of_two) rule_of_two.body (((λ e. cc), every IsBehind (leaves_of no_index) (omega arith, tt)), tt), tt)

at_place : (r : RuleItem) (c : Comp) (x : Name) (i : Option ℤ) (other : ℕ) → OfComputation r c → IsPlaceOf c other (place.Named x i) → occurrence r x i ≡ None → 32 ≤ other
at_place r c x i other here (faults.targeted b e at) none = let means : Means r (target.Attr (place.Named x i) b) = subst (Means r) e here.0 in absurd (means none)
at_place r c x i other here (faults.read first b m at) none = absurd (here.1 (Read first (place.Named x i) b) m)

least : (other : ℕ) → IsBadIndex bad_index env other → 32 ≤ other
least other (faults.of_place r c x i m k p none) = at_place r c x i other (all r m c k) p none
least other (faults.bare r c x i m k b none at) = let here = (all r m c k).1 (Terminal x i) b.0 in omega (arith, here, at)

pub returns : goal.returns
returns c = (32, record { there = faults.bare rule_of_two no_index (name 32 X) None (0, omega arith, refl) (0, omega arith, refl) ((0, omega arith, refl), (λ h. cc)) refl refl; least = least }, refl)
