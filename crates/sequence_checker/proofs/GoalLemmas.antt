-- The computation of a goal.
use Rattle.std.specs.Prelude.{Contains, map}
use Rattle.std.proofs.Common.{◌≡◌, inl, inr, List, [], ◌∷◌, ap, subst}
use Rattle.flat_grammar.specs.declared.flat.Occ.{Occ}
use Rattle.flat_grammar.specs.declared.flat.FlatComp.{FlatComp}
use Rattle.flat_grammar.proofs.Lists.{contains-nil, contains-cons, contains-first, contains-later}

-- a goal has a computation
pub goal-computation : (cs : List FlatComp) (o : Occ) → Contains (map (λ (c : FlatComp). c.goal) cs) o → (c : FlatComp) × Contains cs c × (c.goal ≡ o)
goal-computation [] o m = absurd (contains-nil o m)
goal-computation (c ∷ cs) o m = elim (contains-cons c.goal o (map (λ (d : FlatComp). d.goal) cs) m) [
  | inl e ↦ (c, contains-first c cs, e)
  | inr n ↦ (let p = goal-computation cs o n in (p.0, contains-later c p.0 cs p.1, p.2))
]

pub computation-goal : (cs : List FlatComp) (c : FlatComp) → Contains cs c → Contains (map (λ (d : FlatComp). d.goal) cs) c.goal
computation-goal [] c m = absurd (contains-nil c m)
computation-goal (d ∷ cs) c m = elim (contains-cons d c cs m) [
  | inl e ↦ subst (λ x. Contains (d.goal ∷ map (λ (y : FlatComp). y.goal) cs) x) (ap (λ (x : FlatComp). x.goal) e) (contains-first d.goal (map (λ (y : FlatComp). y.goal) cs))
  | inr n ↦ contains-later d.goal c.goal (map (λ (y : FlatComp). y.goal) cs) (computation-goal cs c n)
]
