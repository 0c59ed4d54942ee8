-- What is resolved is in force.
use Rattle.std.specs.Prelude.{slice_get}
use Rattle.std.proofs.Common.{◌≡◌, ℕ, length, Option, Some, None, refl, sym, ap, ◌∙◌}
use Rattle.std.proofs.lemmas.Option.{none-some}
use Rattle.lido_base.specs.Environment.{Environment}
use Rattle.lido_syntax.specs.declared.spec.Comp.{Comp}
use Rattle.lido_syntax.specs.declared.spec.RuleItem.{RuleItem}
use Rattle.lido_syntax.specs.Computation.{Holder, by_rule, by_symbol, InForce, of_rule, of_symbol, of_class, IsGoalOf, HasInRule}
use Rattle.lido_syntax.specs.Completeness.{IsSingle}
use Rattle.rule_tables.specs.declared.table.Tables.{Tables}
use Rattle.rule_tables.specs.TablesOf.{named_symbols, AreTablesOf}
use Rattle.rule_tables.specs.Needs.{Tables as Numbered}
use Rattle.computation_aims.specs.Aims.{goal_of}
use Rattle.symbol_inherit.specs.Index.{noted}
use Rattle.symbol_inherit.specs.Symbols.{HasOwn}
use Rattle.symbol_inherit.specs.Rules.{HasRuleAt}
use Rattle.symbol_inherit.specs.Classes.{AreHeirs}
use Rattle.symbol_inherit.specs.BySymbol as its
use Rattle.symbol_inherit.specs.BySymbol.{BySymbol, Says}
use Rattle.symbol_inherit.specs.Forces.{IsResolved, own, found, missing, clash, IsHeld}
use Rattle.computation_aims.specs.declared.aims.Aim.{Aim}
use Rattle.symbol_inherit.specs.declared.notes.Own.{Own}
use Rattle.symbol_inherit.specs.declared.forced.Held.{Held}
use Rattle.symbol_inherit.specs.declared.classes.Classes.{Classes}
use Rattle.symbol_inherit.specs.declared.index.Index.{Index}
use Rattle.symbol_inherit.specs.declared.standing.Standing.TheVariants as standing
use Rattle.symbol_inherit.proofs.StandingLemmas.{found-says}

module _ (t : Tables) (env : Environment) (is : AreTablesOf env t) (single : IsSingle t.spec) (classes : Classes) (heirs : AreHeirs t classes) (index : Index) (owns : HasOwn t index)
    (count : ℕ) (counted : length (named_symbols t) ≡ count) (x s : ℕ) (at : slice_get (named_symbols t) x ≡ Some s) (aim : Aim) (T : Numbered t.spec)
    (r : RuleItem) (rule : Index) (occ : ℕ) (its_own : HasRuleAt t.spec r occ rule) (goal : IsGoalOf r occ s (goal_of aim)) where
  not-in-rule : noted rule occ aim ≡ None → ¬ HasInRule t.spec r occ (goal_of aim)
  not-in-rule none (c, h) = let (o, e) = its_own.all aim c h in none-some o (sym none ∙ e)

  by-symbol-force : ¬ HasInRule t.spec r occ (goal_of aim) → (c : Comp) → BySymbol t.spec s (goal_of aim) c → InForce t.spec r occ s (goal_of aim) by_symbol c
  by-symbol-force none c (its.own h) = of_symbol goal none h
  by-symbol-force none c (its.inherited class not_own left only h) = of_class class goal none not_own left only h

  force-by-symbol : noted rule occ aim ≡ None → (h : Holder) (c : Comp) → InForce t.spec r occ s (goal_of aim) h c → BySymbol t.spec s (goal_of aim) c
  force-by-symbol none _ c (of_rule g h) = absurd (not-in-rule none (c, h))
  force-by-symbol none _ c (of_symbol g no_own h) = its.own h
  force-by-symbol none _ c (of_class class g no_own not_own left only h) = its.inherited class not_own left only h

  pub resolved-held : (o : Option Held) → IsResolved rule classes index count x occ aim o → IsHeld t.spec r occ s (goal_of aim) o
  resolved-held _ (own o e) = let (c, h, k) = its_own.each aim o e in (by_rule, c, of_rule goal h, refl, ap (λ (o : Own). o.number) k)
  resolved-held _ (found n none f) =
      let (c, h, k) = found-says t env is single classes heirs index owns count counted x s at aim T _ f in
      (by_symbol, c, by-symbol-force (not-in-rule none) c h, refl, k)
  resolved-held _ (missing none f) = λ (h, c, force). (found-says t env is single classes heirs index owns count counted x s at aim T _ f).0 c (force-by-symbol none h c force)
  resolved-held _ (clash first second none f) = λ (h, c, force). two (found-says t env is single classes heirs index owns count counted x s at aim T _ f) c (force-by-symbol none h c force)
    where
      two : Says t.spec s (goal_of aim) T (standing.Clash first second) → (c : Comp) → BySymbol t.spec s (goal_of aim) c → ⊥
      two says c (its.own h) = says.0 (c, h)
      two says c (its.inherited class not_own left only h) =
          says.1.two (only says.1.one says.1.is_first.1 ∙ sym (only says.1.other says.1.is_second.1))
