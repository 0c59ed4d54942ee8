-- An accepted specification is complete.
use Rattle.std.specs.Prelude.{Contains, IsTrue, slice_get, flat_map, ◌↔◌, MatchBool}
use Rattle.std.proofs.Common.{◌≡◌, ℕ, zero, suc, ◌<◌, ◌≤◌, ◌⊎◌, inl, inr, Bool, true, false, Some, refl, sym, ap, subst, ◌∙◌, arith}
use Rattle.std.proofs.lemmas.Bool.{cases_lt}
use Rattle.std.proofs.lemmas.Option.{same_Some}
use Rattle.std.proofs.lemmas.List.Elements.{Contains-append_left, Contains-append_right}
use Rattle.lido_base.specs.Tree.{contains}
use Rattle.lido_base.specs.declared.kinds.Kind.{Kind}
use Rattle.lido_base.specs.declared.kinds.Kind.TheVariants as kind
use Rattle.lido_base.proofs.FaultsLemmas.{at_place-none}
use Rattle.lido_base.proofs.Lists.{contains-later, flat-contains, contains-place, place-contains}
use Rattle.lido_base.proofs.TreeLemmas.{contains-test}
use Rattle.lido_syntax.specs.declared.fault.SpecFault.TheVariants as fault
use Rattle.lido_syntax.specs.declared.spec.Comp.{Comp}
use Rattle.lido_syntax.specs.declared.spec.RuleItem.{RuleItem}
use Rattle.lido_syntax.specs.declared.spec.SymbolItem.{SymbolItem}
use Rattle.lido_syntax.specs.declared.spec.Place.TheVariants as place
use Rattle.lido_syntax.specs.declared.spec.Target.{Target}
use Rattle.lido_syntax.specs.declared.spec.Target.TheVariants as target
use Rattle.lido_syntax.specs.Attributes.{InBody, Has, HasKind, by_declaration, by_side, by_default}
use Rattle.lido_syntax.specs.Completeness.{IsComplete}
use Rattle.lido_syntax.specs.Computation.{Goal, Synthesized, Inherited, Start, Behind, Output, Message, Holder, IsRuleTarget, InRule, InSymbol, InForce, of_rule, of_symbol, of_class, HasComputation}
use Rattle.lido_syntax.specs.Production.{left_of, right_of, CanStandAt}
use Rattle.lido_syntax.specs.Symbols.{IsNonterminal, IsRoot}
use Rattle.lido_syntax.proofs.DecidedLemmas.{dec_computation}
use Rattle.lido_symbols.specs.FromText.{AreApart}
use Rattle.lido_symbols.specs.Uses.{computations}
use Rattle.kind_clashes.specs.KindClash.{IsKindClash}
use Rattle.table_faults.specs.Faults.{IsDouble, IsBadOut}
use Rattle.table_faults.specs.Faults as double
use Rattle.rule_tables.specs.InForceFaults.{left as missing_left, right as missing_right, root as missing_root}
use Rattle.rule_tables.specs.PlainRules.{number}
use Rattle.rule_tables.specs.Slots.{Written}
use Rattle.rule_tables.specs.Flat.{IsAttribute}
use Rattle.leaf_types.proofs.SingleLemmas.{single-types}
use Rattle.flat_laws.proofs.Lists.{pair-at, zip-right}
use Rattle.flat_laws.proofs.SymbolLemmas.{left-nonterminal, nonterminal-rule, nonterminal-number}
use Rattle.flat_laws.proofs.FlatSymbolLemmas.{named-at}
use Rattle.flat_laws.proofs.FaultLemmas.{no-clash, no-missing, no-class, attribute-nonterminal}
use Rattle.flat_laws.proofs.ForcedLemmas.{list-target}
use Rattle.flat_laws.proofs.KindLemmas.{said-declared, both-said, told-kind, synthesized-kind, inherited-kind}
use Rattle.carried_trees.specs.Flattening.{Flattening, IsFlattening}

module _ (f : Flattening) (is : IsFlattening f) where
  -- ---- one computation of a goal

  abbrev R : Comp → Comp → Type 0
  R c d = AreApart f.spec (c.number, c.at) (d.number, d.at)

  -- places tell computations
  one-place : (c d : Comp) → Contains (computations f.spec) c → Contains (computations f.spec) d → c.at ≡ d.at → c ≡ d
  one-place c d m n e =
      let (i, at) = contains-place (computations f.spec) c m in
      let (j, there) = contains-place (computations f.spec) d n in
      elim (cases_lt i j) [
        | inl h ↦ absurd (apart (c.number, c.at) (d.number, d.at) (pair-at R (computations f.spec) i j c d is.accepted.from_text.computations_apart at there h) e)
        | inr h ↦ elim (cases_lt j i) [
          | inl g ↦ absurd (apart (d.number, d.at) (c.number, c.at) (pair-at R (computations f.spec) j i d c is.accepted.from_text.computations_apart there at g) (sym e))
          | inr g ↦ same_Some c d (sym at ∙ ap (slice_get (computations f.spec)) (omega (arith, h, g)) ∙ there)
        ]
      ]
    where
      apart : (a b : ℕ × ℕ) → AreApart f.spec a b → a.1 ≡ b.1 → ⊥
      apart a b (inl h) e = omega (arith, h.1, e)
      apart a b (inr h) e = omega (arith, h.1, e)

  -- of two computations neither of which stands behind the other
  neither-behind : (c d : Comp) → Contains (computations f.spec) c → Contains (computations f.spec) d → (c.at < d.at → ⊥) → (d.at < c.at → ⊥) → c ≡ d
  neither-behind c d m n less more = by (cases_lt c.at d.at) (cases_lt d.at c.at)
    where
      by : (c.at < d.at) ⊎ (d.at ≤ c.at) → (d.at < c.at) ⊎ (c.at ≤ d.at) → c ≡ d
      by (inl h) _ = absurd (less h)
      by (inr h) (inl g) = absurd (more g)
      by (inr h) (inr g) = one-place c d m n (omega (arith, h, g))

  no-double : (at : ℕ) → ¬ IsDouble f.spec f.early at
  no-double = at_place-none (λ at. fault.DoubleComputation at) (IsDouble f.spec f.early) is.accepted.tables.1.1.1.1.1.0

  no-bad_out : (at : ℕ) → ¬ IsBadOut f.spec f.early at
  no-bad_out = at_place-none (λ at. fault.BadOut at) (IsBadOut f.spec f.early) is.accepted.tables.1.1.1.1.1.1.0

  of-rule : (r : RuleItem) → Contains f.spec.rules r → (c : Comp) → Contains r.body c → Contains (computations f.spec) c
  of-rule r among c m =
      Contains-append_left (flat_map (λ (r : RuleItem). r.body) f.spec.rules) (flat_map (λ (item : SymbolItem). item.body) f.spec.symbols) c (flat-contains (λ (r : RuleItem). r.body) f.spec.rules r c among m)

  of-body : (s : ℕ) (c : Comp) → InBody f.spec s c → Contains (computations f.spec) c
  of-body s c (item, mi, own, m) =
      Contains-append_right (flat_map (λ (r : RuleItem). r.body) f.spec.rules) (flat_map (λ (item : SymbolItem). item.body) f.spec.symbols) c (flat-contains (λ (item : SymbolItem). item.body) f.spec.symbols item c mi m)

  out-target : (r : RuleItem) (c : Comp) (t : Target) (k : ℕ) → IsRuleTarget f.spec r c t k Output → t ≡ target.Out
  out-target r c target.Out zero h = refl
  out-target r c target.Out (suc k) h = absurd h
  out-target r c (target.Attr (place.Named x i) a) zero h = absurd h
  out-target r c (target.Attr place.Synt a) zero h = absurd h
  out-target r c (target.Attr place.Inh a) zero h = absurd h
  out-target r c (target.Attr place.This a) zero h = absurd h
  out-target r c (target.Attr place.Tail a) zero h = absurd h
  out-target r c (target.Attr (place.Named x i) a) (suc k) h = absurd h
  out-target r c (target.Attr place.Synt a) (suc k) h = absurd h
  out-target r c (target.Attr place.Inh a) (suc k) h = absurd h
  out-target r c (target.Attr place.This a) (suc k) h = absurd h
  out-target r c (target.Attr place.Tail a) (suc k) h = absurd h
  out-target r c (target.Start a) zero h = absurd h
  out-target r c (target.Start a) (suc k) h = absurd h
  out-target r c (target.Message v m) zero h = absurd h
  out-target r c (target.Message v m) (suc k) h = absurd h

  module _ (r : RuleItem) (among : Contains f.spec.rules r) (k : ℕ) where
    of-goal : (g : Goal) → (g ≡ Output → ⊥) → (c d : Comp) → InRule f.spec r k g c → InRule f.spec r k g d → c ≡ d
    of-goal g unlike c d (m, own) (n, other) =
        neither-behind c d (of-rule r among c m) (of-rule r among d n)
        (λ h. no-double d.at (double.in_rule r k g c d among (m, own) (n, other) unlike h refl))
        (λ h. no-double c.at (double.in_rule r k g d c among (n, other) (m, own) unlike h refl))

    single-in_rule : (g : Goal) (c d : Comp) → InRule f.spec r k g c → InRule f.spec r k g d → c ≡ d
    single-in_rule (Synthesized a) = of-goal (Synthesized a) (λ e. cc)
    single-in_rule (Inherited a) = of-goal (Inherited a) (λ e. cc)
    single-in_rule (Start a) = of-goal (Start a) (λ e. cc)
    single-in_rule (Behind a) = of-goal (Behind a) (λ e. cc)
    single-in_rule (Message j) = of-goal (Message j) (λ e. cc)
    single-in_rule Output = λ c d h g.
        neither-behind c d (of-rule r among c h.0) (of-rule r among d g.0)
        (λ less. no-bad_out d.at (double.second r c d among h.0 g.0 (out-target r c c.target k h.1) (out-target r d d.target k g.1) less refl))
        (λ less. no-bad_out c.at (double.second r d c among g.0 h.0 (out-target r d d.target k g.1) (out-target r c c.target k h.1) less refl))

  single-in_symbol : (s : ℕ) (g : Goal) (c d : Comp) → InSymbol f.spec s g c → InSymbol f.spec s g d → c ≡ d
  single-in_symbol s g c d h j =
      neither-behind c d (of-body s c h.0) (of-body s d j.0)
      (λ less. no-double d.at (double.in_symbol s g c d h j less refl))
      (λ less. no-double c.at (double.in_symbol s g d c j h less refl))

  -- ---- one kind

  clashless : (at : ℕ) → ¬ IsKindClash f.spec f.early at
  clashless = no-clash f.spec f.early f.tables is.accepted

  one-kind : (s a : ℕ) (k l : Kind) → HasKind f.spec s a k → HasKind f.spec s a l → k ≡ l
  one-kind s a k l (by_declaration h) (by_declaration j) = both-said f.spec f.early clashless s a k l (said-declared f.spec f.early clashless s a k h) (said-declared f.spec f.early clashless s a l j)
  one-kind s a k l (by_declaration h) (by_side unlike told) = absurd (unlike k h)
  one-kind s a k _ (by_declaration h) (by_default unlike untold) = absurd (unlike k h)
  one-kind s a k l (by_side unlike told) has = sym (told-kind f.spec f.early clashless s a k l told has)
  one-kind s a _ l (by_default unlike untold) (by_declaration j) = absurd (unlike l j)
  one-kind s a _ l (by_default unlike untold) (by_side u told) = absurd (untold l told)
  one-kind s a _ _ (by_default unlike untold) (by_default u v) = refl

  -- an attribute of a nonterminal has a kind
  some-kind : (s a : ℕ) → IsNonterminal f.spec s → Has f.spec s a → (k : Kind) × HasKind f.spec s a k
  some-kind s a nonterminal has =
      let x = number f.spec f.tables.symbols s in
      let at = nonterminal-number f.spec f.env f.tables is.tables s nonterminal in
      let (k, there) = contains-place (f.slots x) (Written a) ((is.ordered.all x (Written a)).1 (s, at, nonterminal, has)) in
      let (y, its) = named-at f.spec f.env f.tables is.tables f.needs f.slots f.symbols f.rules f.shapes f.root is.grammar x s at in
      let (attr, here, of_slot) = zip-right (IsAttribute f.spec f.tables f.needs f.slots f.env x) (f.slots x) y.attrs k (Written a) (is.grammar.attributes x y its.there) there in
      let (q, at_q, of_kind) = of_slot.kind in
      (attr.kind, subst (λ z. HasKind f.spec z a attr.kind) (same_Some q s (sym at_q ∙ at)) of_kind)

  -- ---- what has to be computed is computed

  decided : (r : RuleItem) (o s : ℕ) (g : Goal) → ¬ ¬ HasComputation f.spec r o s g → HasComputation f.spec r o s g
  decided r o s g h = elim (dec_computation f.spec f.tables.sets r o s g) [ inl c ↦ c | inr none ↦ absurd (h none) ]

  synthesized : (r : RuleItem) (a : ℕ) → Contains f.spec.rules r → Has f.spec (left_of r) a → HasKind f.spec (left_of r) a kind.Synthesized ↔ HasComputation f.spec r 0 (left_of r) (Synthesized a)
  synthesized r a among has = (forth, back)
    where
      forth : HasKind f.spec (left_of r) a kind.Synthesized → HasComputation f.spec r 0 (left_of r) (Synthesized a)
      forth of_kind =
          let (i, of) = contains-place f.spec.rules r among in
          decided r 0 (left_of r) (Synthesized a) (λ none. no-missing f.spec f.early f.tables is.accepted i 0 a (missing_left r a of has of_kind none))

      back : HasComputation f.spec r 0 (left_of r) (Synthesized a) → HasKind f.spec (left_of r) a kind.Synthesized
      back (h, c, force) =
          let (k, of_kind) = some-kind (left_of r) a (left-nonterminal f.spec r among) has in
          subst (HasKind f.spec (left_of r) a) (synthesized-kind f.spec f.early clashless r among 0 (left_of r) a h c k force of_kind) of_kind

  -- in a list rule a symbol's computation is in force at each place
  pub list-places : (r : RuleItem) → r.list ≡ true → (i j s a : ℕ) → CanStandAt r (suc j) s → (h : Holder) (c : Comp) → InForce f.spec r (suc i) s (Inherited a) h c → InForce f.spec r (suc j) s (Inherited a) h c
  list-places r l i j s a stands _ c force = by _ c force
    where
      unruled : ¬ ((c : Comp) × InRule f.spec r (suc j) (Inherited a) c)
      unruled (c, (m, h)) = let e = list-target f.spec r l c c.target (suc j) (Inherited a) h in absurd (omega (arith, e))

      by : (h : Holder) (c : Comp) → InForce f.spec r (suc i) s (Inherited a) h c → InForce f.spec r (suc j) s (Inherited a) h c
      by _ c (of_rule at own) = let e = list-target f.spec r l c c.target (suc i) (Inherited a) own.1 in absurd (omega (arith, e))
      by _ c (of_symbol at unlike own) = of_symbol (stands, tt) unruled own
      by _ c (of_class class at unlike no_own left only own) = of_class class (stands, tt) unruled no_own left only own

  module _ (r : RuleItem) (among : Contains f.spec.rules r) (k s a : ℕ) (stands : CanStandAt r (suc k) s) (has : Has f.spec s a) where
    on-right : Contains (right_of r) s
    on-right = by r.list stands
      where
        by : (b : Bool) → MatchBool b (IsTrue (contains s (right_of r))) (slice_get (right_of r) k ≡ Some s) → Contains (right_of r) s
        by true h = contains-test s (right_of r) h
        by false h = place-contains (right_of r) k s h

    forth : HasKind f.spec s a kind.Inherited → HasComputation f.spec r (suc k) s (Inherited a)
    forth of_kind = by r.list refl stands
      where
        at : (j : ℕ) → slice_get (right_of r) j ≡ Some s → HasComputation f.spec r (suc j) s (Inherited a)
        at j there =
            let (i, of) = contains-place f.spec.rules r among in
            decided r (suc j) s (Inherited a) (λ none. no-missing f.spec f.early f.tables is.accepted i (suc j) a (missing_right r j s a of there has of_kind none))

        by : (b : Bool) → r.list ≡ b → MatchBool b (IsTrue (contains s (right_of r))) (slice_get (right_of r) k ≡ Some s) → HasComputation f.spec r (suc k) s (Inherited a)
        by false l h = at k h
        by true l h =
            let (j, there) = contains-place (right_of r) s (contains-test s (right_of r) h) in
            let (holder, c, force) = at j there in
            (holder, c, list-places r l j k s a stands holder c force)

    back : HasComputation f.spec r (suc k) s (Inherited a) → HasKind f.spec s a kind.Inherited
    back (h, c, force) =
        let no_class = no-class f.spec f.early f.tables is.accepted r among s (contains-later (left_of r) s (right_of r) on-right) in
        let (kd, of_kind) = some-kind s a (attribute-nonterminal f.spec f.early f.tables is.accepted r among s a on-right no_class has) has in
        subst (HasKind f.spec s a) (inherited-kind f.spec f.early clashless r among (suc k) s a h c kd force of_kind) of_kind

  no-inherited_root : (s a : ℕ) → IsRoot f.spec s → Has f.spec s a → ¬ HasKind f.spec s a kind.Inherited
  no-inherited_root s a root has of_kind =
      let (r, among, left) = nonterminal-rule f.spec s root.0 in
      let (i, of) = contains-place f.spec.rules r among in
      no-missing f.spec f.early f.tables is.accepted i 0 a
      (missing_root r a of (subst (IsRoot f.spec) (sym left) root) (subst (λ z. Has f.spec z a) (sym left) has) (subst (λ z. HasKind f.spec z a kind.Inherited) (sym left) of_kind))

pub complete : (f : Flattening) → IsFlattening f → IsComplete f.spec
complete f is = record {
  single = record {
    in_rule = λ r k g c d among h j. single-in_rule f is r among k g c d h j;
    in_symbol = single-in_symbol f is;
  };
  one_kind = one-kind f is;
  one_type = λ s a x y h j. (single-types f.spec f.early is.accepted.from_text (clashless f is)).attribute s a x y h j;
  synthesized = synthesized f is;
  inherited = λ r k s a among stands has. (forth f is r among k s a stands has, back f is r among k s a stands has);
  root = no-inherited_root f is;
}
