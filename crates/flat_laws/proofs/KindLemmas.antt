-- What is in force for an attribute tells its kind.
use Rattle.std.specs.Prelude.{Contains, flat_map}
use Rattle.std.proofs.Common.{◌≡◌, ℕ, zero, suc, ◌<◌, ◌≤◌, ◌⊎◌, inl, inr, [], ◌∷◌, Some, refl, sym, subst, arith}
use Rattle.std.proofs.lemmas.Bool.{cases_lt}
use Rattle.std.proofs.lemmas.List.Elements.{Contains-append_left}
use Rattle.lido_base.specs.Environment.{Environment}
use Rattle.lido_base.specs.declared.kinds.Kind.{Kind}
use Rattle.lido_base.specs.declared.kinds.Kind.TheVariants as kind
use Rattle.lido_base.proofs.Lists.{contains-here}
use Rattle.lido_syntax.specs.declared.spec.Spec.{Spec}
use Rattle.lido_syntax.specs.declared.spec.Name.{Name}
use Rattle.lido_syntax.specs.declared.spec.Comp.{Comp}
use Rattle.lido_syntax.specs.declared.spec.RuleItem.{RuleItem}
use Rattle.lido_syntax.specs.declared.spec.Target.{Target}
use Rattle.lido_syntax.specs.declared.spec.Target.TheVariants as target
use Rattle.lido_syntax.specs.declared.spec.Place.{Place}
use Rattle.lido_syntax.specs.declared.spec.Place.TheVariants as place
use Rattle.lido_syntax.specs.Parts.{expressions_of}
use Rattle.lido_syntax.specs.Production.{occurrence, CanStandAt}
use Rattle.lido_syntax.specs.Symbols.{IsChain}
use Rattle.lido_syntax.specs.Attributes.{Use, uses, reads, target_uses, possible, IsOnSide, InBody, IsNamed, by_name, in_body, Has, OfClass, IsDeclaredKind, Tells, side, synt, inh, HasKind, by_declaration, by_side, by_default}
use Rattle.lido_syntax.specs.Computation.{Synthesized, Inherited, Holder, InForce, of_rule, of_symbol, of_class, IsRuleTarget, IsSymbolTarget}
use Rattle.kind_clashes.specs.KindClash.{SaysKind, declared, by_attr, by_target, by_synt, by_inh, IsKindClash}
use Rattle.kind_clashes.specs.KindClash as clash
use Rattle.flat_laws.proofs.OccurrenceLemmas.{occurrence-stands}

same-kind : (k l : Kind) → (k ≡ l) ⊎ (k ≡ l → ⊥)
same-kind kind.Synthesized kind.Synthesized = inl refl
same-kind kind.Synthesized kind.Inherited = inr (λ e. cc)
same-kind kind.Inherited kind.Synthesized = inr (λ e. cc)
same-kind kind.Inherited kind.Inherited = inl refl

target-use : (c : Comp) (p : Place) (a : Name) → c.target ≡ target.Attr p a → Contains (uses c) (let u : Use = (p, a) in u)
target-use c p a e =
    Contains-append_left (target_uses c.target) (flat_map reads (expressions_of c)) (p, a) (subst (λ g. Contains (target_uses g) (let u : Use = (p, a) in u)) (sym e) (contains-here (let u : Use = (p, a) in u) []))

module _ (spec : Spec) (env : Environment) (none : (at : ℕ) → ¬ IsKindClash spec env at) where
  module _ (s a : ℕ) where
    abbrev Said : Kind → Type 0
    Said k = (at : ℕ) × SaysKind spec s a k at

    pub said-declared : (k : Kind) → IsDeclaredKind spec s a k → Said k
    said-declared k (inl (inl (d, is, e))) = (d.attr.at, declared (inl (d, is, e, refl)))
    said-declared k (inl (inr (class, i, (d, is, e)))) = (d.attr.at, declared (inr (class, i, (d, is, e, refl))))
    said-declared k (inr (d, m, n, e)) = (d.attr.at, by_attr d m n e refl)

    abbrev IsTold : Kind → Type 0
    IsTold k = OfClass spec (λ x. Tells spec x a k) s

    said-told : (k : Kind) → IsTold k → Said k
    said-told k (inl (side r c x i b among of t on n m unlike)) = (b.at, by_target (inl (r, c, x, i, b, among, of, t, on, n, m, unlike, refl)))
    said-told _ (inl (synt c of (b, m, n, unlike))) = (b.at, by_synt refl (inl (c, b, of, m, n, unlike, refl)))
    said-told _ (inl (inh c of (b, m, n, unlike))) = (b.at, by_inh refl (inl (c, b, of, m, n, unlike, refl)))
    said-told k (inr (class, h, side r c x i b among of t on n m unlike)) = (b.at, by_target (inr (class, h, (r, c, x, i, b, among, of, t, on, n, m, unlike, refl))))
    said-told _ (inr (class, h, synt c of (b, m, n, unlike))) = (b.at, by_synt refl (inr (class, h, (c, b, of, m, n, unlike, refl))))
    said-told _ (inr (class, h, inh c of (b, m, n, unlike))) = (b.at, by_inh refl (inr (class, h, (c, b, of, m, n, unlike, refl))))

    pub both-said : (k l : Kind) → Said k → Said l → k ≡ l
    both-said k l (at, h) (other, j) = by (same-kind k l) (cases_lt other at)
      where
        by : (k ≡ l) ⊎ (k ≡ l → ⊥) → (other < at) ⊎ (at ≤ other) → k ≡ l
        by (inl e) _ = e
        by (inr differ) (inl lt) = absurd (none at (clash.twofold_attribute (clash.kinds s a other l k j h (λ e. differ (sym e)) (omega arith))))
        by (inr differ) (inr le) = absurd (none other (clash.twofold_attribute (clash.kinds s a at k l h j differ le)))

    -- an attribute is of the kind that is told
    pub told-kind : (k l : Kind) → IsTold k → HasKind spec s a l → l ≡ k
    told-kind k l told (by_declaration h) = both-said l k (said-declared l h) (said-told k told)
    told-kind k l told (by_side unlike h) = both-said l k (said-told l h) (said-told k told)
    told-kind k _ told (by_default unlike untold) = absurd (untold k told)

  told-named : (s a : ℕ) (k : Kind) → Tells spec s a k → IsNamed spec s a
  told-named s a k (side r c x i b among of t on n m unlike) = by_name c x i (inl (r, among, of)) (b, target-use c (place.Named x i) b t, m, unlike) n
  told-named s a _ (synt c of use_it) = in_body c place.Synt of use_it tt
  told-named s a _ (inh c of use_it) = in_body c place.Inh of use_it tt

  told-has : (s a : ℕ) (k : Kind) → IsTold s a k → Has spec s a
  told-has s a k (inl t) = inl (told-named s a k t)
  told-has s a k (inr (class, heir, t)) = inr (class, heir, told-named class a k t)

  rule-synthesized : (r : RuleItem) → Contains spec.rules r → (c : Comp) → Contains r.body c → (o s a : ℕ) → CanStandAt r o s → (t : Target) → c.target ≡ t → IsRuleTarget spec r c t o (Synthesized a)
      → Tells spec s a kind.Synthesized
  rule-synthesized r among c of zero s a stands (target.Attr (place.Named x i) b) e (at, n, unlike) =
      side r c x i b among of e (subst (λ l. IsOnSide kind.Synthesized l) (sym (only at)) tt) (occurrence-stands r x i zero s at stands) n unlike
    where
      only : occurrence r x i ≡ Some 0 → possible r x i ≡ 0 ∷ []
      only e = rw (e, possible) refl
  rule-synthesized r among c of zero s a stands (target.Attr place.Synt d) e h = absurd h
  rule-synthesized r among c of zero s a stands (target.Attr place.Inh d) e h = absurd h
  rule-synthesized r among c of zero s a stands (target.Attr place.This d) e h = absurd h
  rule-synthesized r among c of zero s a stands (target.Attr place.Tail d) e h = absurd h
  rule-synthesized r among c of zero s a stands (target.Start d) e h = absurd h
  rule-synthesized r among c of zero s a stands target.Out e h = absurd h
  rule-synthesized r among c of zero s a stands (target.Message v m) e h = absurd h
  rule-synthesized r among c of (suc o) s a stands (target.Attr (place.Named x i) d) e h = absurd h
  rule-synthesized r among c of (suc o) s a stands (target.Attr place.Synt d) e h = absurd h
  rule-synthesized r among c of (suc o) s a stands (target.Attr place.Inh d) e h = absurd h
  rule-synthesized r among c of (suc o) s a stands (target.Attr place.This d) e h = absurd h
  rule-synthesized r among c of (suc o) s a stands (target.Attr place.Tail d) e h = absurd h
  rule-synthesized r among c of (suc o) s a stands (target.Start d) e h = absurd h
  rule-synthesized r among c of (suc o) s a stands target.Out e h = absurd h
  rule-synthesized r among c of (suc o) s a stands (target.Message v m) e h = absurd h

  rule-inherited : (r : RuleItem) → Contains spec.rules r → (c : Comp) → Contains r.body c → (o s a : ℕ) → CanStandAt r o s → (t : Target) → c.target ≡ t → IsRuleTarget spec r c t o (Inherited a)
      → Tells spec s a kind.Inherited
  rule-inherited r among c of (suc o) s a stands (target.Attr (place.Named x i) b) e (at, n) =
      side r c x i b among of e (subst (λ l. IsOnSide kind.Inherited l) (sym (only at)) tt) (occurrence-stands r x i (suc o) s at stands) n
      (λ chain. none b.at (clash.chain_elsewhere
      (clash.on_right_side r c x i b among of (target-use c (place.Named x i) b e) (subst (λ l. IsOnSide kind.Inherited l) (sym (only at)) tt) (subst (IsChain spec) (sym n) chain) refl)))
    where
      only : occurrence r x i ≡ Some (suc o) → possible r x i ≡ suc o ∷ []
      only e = rw (e, possible) refl
  rule-inherited r among c of (suc o) s a stands (target.Attr place.Synt d) e h = absurd h
  rule-inherited r among c of (suc o) s a stands (target.Attr place.Inh d) e h = absurd h
  rule-inherited r among c of (suc o) s a stands (target.Attr place.This d) e h = absurd h
  rule-inherited r among c of (suc o) s a stands (target.Attr place.Tail d) e h = absurd h
  rule-inherited r among c of (suc o) s a stands (target.Start d) e h = absurd h
  rule-inherited r among c of (suc o) s a stands target.Out e h = absurd h
  rule-inherited r among c of (suc o) s a stands (target.Message v m) e h = absurd h
  rule-inherited r among c of zero s a stands (target.Attr (place.Named x i) d) e h = absurd h
  rule-inherited r among c of zero s a stands (target.Attr place.Synt d) e h = absurd h
  rule-inherited r among c of zero s a stands (target.Attr place.Inh d) e h = absurd h
  rule-inherited r among c of zero s a stands (target.Attr place.This d) e h = absurd h
  rule-inherited r among c of zero s a stands (target.Attr place.Tail d) e h = absurd h
  rule-inherited r among c of zero s a stands (target.Start d) e h = absurd h
  rule-inherited r among c of zero s a stands target.Out e h = absurd h
  rule-inherited r among c of zero s a stands (target.Message v m) e h = absurd h

  symbol-synthesized : (s : ℕ) (c : Comp) → InBody spec s c → (a : ℕ) (t : Target) → c.target ≡ t → IsSymbolTarget spec t (Synthesized a) → Tells spec s a kind.Synthesized
  symbol-synthesized s c of a (target.Attr place.Synt b) e n =
      synt c of (b, target-use c place.Synt b e, n, λ chain. none b.at (clash.chain_elsewhere (clash.synt c b (inr (s, of)) (target-use c place.Synt b e) (subst (IsChain spec) (sym n) chain) refl)))
  symbol-synthesized s c of a _ e h = absurd h

  symbol-inherited : (s : ℕ) (c : Comp) → InBody spec s c → (a : ℕ) (t : Target) → c.target ≡ t → IsSymbolTarget spec t (Inherited a) → Tells spec s a kind.Inherited
  symbol-inherited s c of a (target.Attr place.Inh b) e n =
      inh c of (b, target-use c place.Inh b e, n, λ chain. none b.at (clash.chain_elsewhere (clash.inh c b (inr (s, of)) (target-use c place.Inh b e) (subst (IsChain spec) (sym n) chain) refl)))
  symbol-inherited s c of a _ e h = absurd h

  module _ (r : RuleItem) (among : Contains spec.rules r) (o s a : ℕ) where
    synthesized-told : (h : Holder) (c : Comp) → InForce spec r o s (Synthesized a) h c → IsTold s a kind.Synthesized
    synthesized-told _ c (of_rule at own) = inl (rule-synthesized r among c own.0 o s a at.0 c.target refl own.1)
    synthesized-told _ c (of_symbol at unlike own) = inl (symbol-synthesized s c own.0 a c.target refl own.1)
    synthesized-told _ c (of_class class at unlike no_own left only own) = inr (class, left.inherited, symbol-synthesized class c own.0 a c.target refl own.1)

    inherited-told : (h : Holder) (c : Comp) → InForce spec r o s (Inherited a) h c → IsTold s a kind.Inherited
    inherited-told _ c (of_rule at own) = inl (rule-inherited r among c own.0 o s a at.0 c.target refl own.1)
    inherited-told _ c (of_symbol at unlike own) = inl (symbol-inherited s c own.0 a c.target refl own.1)
    inherited-told _ c (of_class class at unlike no_own left only own) = inr (class, left.inherited, symbol-inherited class c own.0 a c.target refl own.1)

    -- what is in force for an attribute as a synthesized one tells that it is
    pub synthesized-kind : (h : Holder) (c : Comp) (k : Kind) → InForce spec r o s (Synthesized a) h c → HasKind spec s a k → k ≡ kind.Synthesized
    synthesized-kind h c k force has = told-kind s a kind.Synthesized k (synthesized-told h c force) has

    pub inherited-kind : (h : Holder) (c : Comp) (k : Kind) → InForce spec r o s (Inherited a) h c → HasKind spec s a k → k ≡ kind.Inherited
    inherited-kind h c k force has = told-kind s a kind.Inherited k (inherited-told h c force) has

    -- and it is an attribute of the symbol
    pub synthesized-has : (h : Holder) (c : Comp) → InForce spec r o s (Synthesized a) h c → Has spec s a
    synthesized-has h c force = told-has s a kind.Synthesized (synthesized-told h c force)

    pub inherited-has : (h : Holder) (c : Comp) → InForce spec r o s (Inherited a) h c → Has spec s a
    inherited-has h c force = told-has s a kind.Inherited (inherited-told h c force)
