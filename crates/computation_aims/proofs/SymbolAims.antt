-- The aim of a target in a symbol's body is its goal.
use Rattle.std.proofs.Common.{◌≡◌, Option, Some, None, refl, subst}
use Rattle.std.proofs.lemmas.Option.{none-some, same_Some}
use Rattle.lido_base.specs.declared.ids.StrId.{StrId}
use Rattle.lido_syntax.specs.declared.spec.Spec.{Spec}
use Rattle.lido_syntax.specs.declared.spec.Target.{Target}
use Rattle.lido_syntax.specs.declared.spec.Target.TheVariants as target
use Rattle.lido_syntax.specs.declared.spec.Place.TheVariants as place
use Rattle.lido_syntax.specs.Computation.{IsSymbolTarget}
use Rattle.computation_aims.specs.Aims.{goal_by, goal_of, aim_in_symbol}
use Rattle.computation_aims.specs.declared.aims.Way.{Way}
use Rattle.computation_aims.specs.declared.aims.Way.TheVariants as way
use Rattle.computation_aims.specs.declared.aims.Aim.{Aim}

module _ (spec : Spec) where
  goal-moved : (t : Target) (a b : Aim) → IsSymbolTarget spec t (goal_of a) → Some a ≡ Some b → IsSymbolTarget spec t (goal_of b)
  goal-moved t a b h e = subst (λ x. IsSymbolTarget spec t (goal_of x)) (same_Some a b e) h

  pub aim-target : (t : Target) (a : Aim) → aim_in_symbol t ≡ Some a → IsSymbolTarget spec t (goal_of a)
  aim-target (target.Attr place.Synt n) a e = goal-moved (target.Attr place.Synt n) _ a refl e
  aim-target (target.Attr place.Inh n) a e = goal-moved (target.Attr place.Inh n) _ a refl e
  aim-target (target.Attr place.This n) a e = goal-moved (target.Attr place.This n) _ a refl e
  aim-target (target.Attr (place.Named x i) n) a e = absurd (none-some a e)
  aim-target (target.Attr place.Tail n) a e = absurd (none-some a e)
  aim-target (target.Start n) a e = goal-moved (target.Start n) _ a refl e
  aim-target target.Out a e = absurd (none-some a e)
  aim-target (target.Message s m) a e = absurd (none-some a e)

  by-way : (t : Target) (w : Way) (n : StrId) → IsSymbolTarget spec t (goal_by w n.0) → aim_in_symbol t ≡ Some (record { way = w; name = n })
  by-way (target.Attr place.Synt a) way.Synthesized n h = λ i. Some (record { way = way.Synthesized; name = record { 0 = h i } })
  by-way (target.Attr place.Inh a) way.Inherited n h = λ i. Some (record { way = way.Inherited; name = record { 0 = h i } })
  by-way (target.Attr place.This a) way.Behind n h = λ i. Some (record { way = way.Behind; name = record { 0 = h i } })
  by-way (target.Start a) way.Start n h = λ i. Some (record { way = way.Start; name = record { 0 = h i } })
  by-way _ _ n h = absurd h

  pub target-aim : (t : Target) (a : Aim) → IsSymbolTarget spec t (goal_of a) → aim_in_symbol t ≡ Some a
  target-aim t a h = by-way t a.way a.name h
