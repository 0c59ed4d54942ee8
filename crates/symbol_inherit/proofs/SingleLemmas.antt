-- A specification from a text without faults of the tables has one computation of each goal.
use Rattle.std.specs.Prelude.{Contains, slice_get, flat_map}
use Rattle.std.proofs.Common.{◌≡◌, ℕ, zero, suc, ◌<◌, ◌≤◌, ◌⊎◌, inl, inr, Some, refl, sym, ap, ◌∙◌, arith}
use Rattle.std.proofs.lemmas.Bool.{cases_lt}
use Rattle.std.proofs.lemmas.Option.{same_Some}
use Rattle.std.proofs.lemmas.List.Elements.{Contains-append_left, Contains-append_right}
use Rattle.lido_base.specs.Environment.{Environment}
use Rattle.lido_base.specs.Faults.{HasNone}
use Rattle.lido_base.proofs.FaultsLemmas.{at_place-none}
use Rattle.lido_base.proofs.Lists.{contains-place, flat-contains}
use Rattle.lido_syntax.specs.declared.fault.SpecFault.TheVariants as fault
use Rattle.lido_syntax.specs.declared.spec.Spec.{Spec}
use Rattle.lido_syntax.specs.declared.spec.Comp.{Comp}
use Rattle.lido_syntax.specs.declared.spec.RuleItem.{RuleItem}
use Rattle.lido_syntax.specs.declared.spec.SymbolItem.{SymbolItem}
use Rattle.lido_syntax.specs.declared.spec.Target.{Target}
use Rattle.lido_syntax.specs.declared.spec.Target.TheVariants as target
use Rattle.lido_syntax.specs.declared.spec.Place.TheVariants as place
use Rattle.lido_syntax.specs.Computation.{Goal, Synthesized, Inherited, Start, Behind, Output, Message, InRule, InSymbol, IsRuleTarget}
use Rattle.lido_syntax.specs.Completeness.{IsSingle}
use Rattle.lido_symbols.specs.Uses.{computations}
use Rattle.lido_symbols.specs.FromText.{IsFromText, AreApart}
use Rattle.table_faults.specs.Faults.{IsDouble, IsBadOut, table_faults}
use Rattle.table_faults.specs.Faults as double
use Rattle.symbol_inherit.proofs.RowLemmas.{pair-at}

module _ (spec : Spec) (env : Environment) (text : IsFromText spec) (none : HasNone (table_faults spec env)) where
  no-double : (at : ℕ) → ¬ IsDouble spec env at
  no-double = at_place-none (λ at. fault.DoubleComputation at) (IsDouble spec env) none.1.1.1.1.1.0

  no-bad-out : (at : ℕ) → ¬ IsBadOut spec env at
  no-bad-out = at_place-none (λ at. fault.BadOut at) (IsBadOut spec env) none.1.1.1.1.1.1.0

  -- computations of the text that stand at different places or are one
  one-place : (c d : Comp) → Contains (computations spec) c → Contains (computations spec) d → (c ≡ d) ⊎ (c.at < d.at) ⊎ (d.at < c.at)
  one-place c d m n =
      let (i, e) = contains-place (computations spec) c m in
      let (j, f) = contains-place (computations spec) d n in
      by i j e f (cases_lt i j) (cases_lt j i)
    where
      apart : (i j : ℕ) (a b : Comp) → slice_get (computations spec) i ≡ Some a → slice_get (computations spec) j ≡ Some b → i < j → (a.at < b.at) ⊎ (b.at < a.at)
      apart i j a b e f h = elim (pair-at (λ (c d : Comp). AreApart spec (c.number, c.at) (d.number, d.at)) (computations spec) i j a b text.computations_apart e f h) [
        | inl p ↦ inl p.1
        | inr p ↦ inr p.1
      ]

      by : (i j : ℕ) → slice_get (computations spec) i ≡ Some c → slice_get (computations spec) j ≡ Some d → (i < j) ⊎ (j ≤ i) → (j < i) ⊎ (i ≤ j)
          → (c ≡ d) ⊎ (c.at < d.at) ⊎ (d.at < c.at)
      by i j e f (inl h) _ = elim (apart i j c d e f h) [ inl l ↦ inr (inl l) | inr l ↦ inr (inr l) ]
      by i j e f (inr h) (inl g) = elim (apart j i d c f e g) [ inl l ↦ inr (inr l) | inr l ↦ inr (inl l) ]
      by i j e f (inr h) (inr g) = let same : i ≡ j = omega arith in inl (same_Some c d (sym e ∙ ap (slice_get (computations spec)) same ∙ f))

  rule-comp : (r : RuleItem) (c : Comp) → Contains spec.rules r → Contains r.body c → Contains (computations spec) c
  rule-comp r c among of = Contains-append_left (flat_map (λ (r : RuleItem). r.body) spec.rules) _ c (flat-contains (λ (r : RuleItem). r.body) spec.rules r c among of)

  item-comp : (item : SymbolItem) (c : Comp) → Contains spec.symbols item → Contains item.body c → Contains (computations spec) c
  item-comp item c among of =
      Contains-append_right (flat_map (λ (r : RuleItem). r.body) spec.rules) (flat_map (λ (item : SymbolItem). item.body) spec.symbols) c (flat-contains (λ (item : SymbolItem). item.body) spec.symbols item c among of)

  in-symbol : (s : ℕ) (goal : Goal) (c d : Comp) → InSymbol spec s goal c → InSymbol spec s goal d → c ≡ d
  in-symbol s goal c d a b = by (one-place c d (item-comp a.0.0 c a.0.1 a.0.3) (item-comp b.0.0 d b.0.1 b.0.3))
    where
      by : (c ≡ d) ⊎ (c.at < d.at) ⊎ (d.at < c.at) → c ≡ d
      by (inl e) = e
      by (inr (inl l)) = absurd (no-double d.at (double.IsDouble.in_symbol s goal c d a b l refl))
      by (inr (inr l)) = absurd (no-double c.at (double.IsDouble.in_symbol s goal d c b a l refl))

  out-target : (r : RuleItem) (k : ℕ) (c : Comp) → IsRuleTarget spec r c c.target k Output → c.target ≡ target.Out
  out-target r k c h = by k c.target refl h
    where
      by : (k : ℕ) (t : Target) → c.target ≡ t → IsRuleTarget spec r c t k Output → c.target ≡ target.Out
      by zero target.Out e h = e
      by zero (target.Attr (place.Named x i) a) e h = absurd h
      by zero (target.Attr place.Synt a) e h = absurd h
      by zero (target.Attr place.Inh a) e h = absurd h
      by zero (target.Attr place.This a) e h = absurd h
      by zero (target.Attr place.Tail a) e h = absurd h
      by zero (target.Start a) e h = absurd h
      by zero (target.Message s m) e h = absurd h
      by (suc k) target.Out e h = absurd h
      by (suc k) (target.Attr (place.Named x i) a) e h = absurd h
      by (suc k) (target.Attr place.Synt a) e h = absurd h
      by (suc k) (target.Attr place.Inh a) e h = absurd h
      by (suc k) (target.Attr place.This a) e h = absurd h
      by (suc k) (target.Attr place.Tail a) e h = absurd h
      by (suc k) (target.Start a) e h = absurd h
      by (suc k) (target.Message s m) e h = absurd h

  in-rule : (r : RuleItem) (k : ℕ) (goal : Goal) (c d : Comp) → Contains spec.rules r → InRule spec r k goal c → InRule spec r k goal d → c ≡ d
  in-rule r k goal c d among a b = by (one-place c d (rule-comp r c among a.0) (rule-comp r d among b.0))
    where
      at : (c d : Comp) → InRule spec r k goal c → InRule spec r k goal d → c.at < d.at → ⊥
      at c d a b l = each goal a b
        where
          twice : (g : Goal) → InRule spec r k g c → InRule spec r k g d → (g ≡ Output → ⊥) → ⊥
          twice g a b other = no-double d.at (double.IsDouble.in_rule r k g c d among a b other l refl)

          each : (g : Goal) → InRule spec r k g c → InRule spec r k g d → ⊥
          each (Synthesized x) a b = twice (Synthesized x) a b (λ e. cc)
          each (Inherited x) a b = twice (Inherited x) a b (λ e. cc)
          each (Start x) a b = twice (Start x) a b (λ e. cc)
          each (Behind x) a b = twice (Behind x) a b (λ e. cc)
          each (Message j) a b = twice (Message j) a b (λ e. cc)
          each Output a b = no-bad-out d.at (double.IsBadOut.second r c d among a.0 b.0 (out-target r k c a.1) (out-target r k d b.1) l refl)

      by : (c ≡ d) ⊎ (c.at < d.at) ⊎ (d.at < c.at) → c ≡ d
      by (inl e) = e
      by (inr (inl l)) = absurd (at c d a b l)
      by (inr (inr l)) = absurd (at d c b a l)

  pub single : IsSingle spec
  single = record { in_rule = in-rule; in_symbol = in-symbol }
