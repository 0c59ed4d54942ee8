-- The specification of counted items has no fault of the computations in force.
use Rattle.std.specs.Prelude.{◌≡◌, ℕ, zero, suc, List, [], ◌∷◌, Some, slice_get, Option, None, nat_eq, Contains, IsTrue, Bool, refl}
use Rattle.std.proofs.Common.{subst, sym, inl, inr, ◌⊎◌, ◌∙◌}
use Rattle.std.proofs.lemmas.Option.{none-some, same_Some}
use Rattle.lido_base.specs.Faults.{HasNone}
use Rattle.lido_base.specs.Reach.{source, IsPath, IsClosedPath}
use Rattle.lido_base.specs.declared.kinds.Kind.{Kind}
use Rattle.lido_base.specs.declared.kinds.Kind.TheVariants as kind
use Rattle.lido_syntax.specs.declared.spec.Comp.{Comp}
use Rattle.lido_syntax.specs.declared.spec.RuleItem.{RuleItem}
use Rattle.lido_syntax.specs.declared.spec.Target.TheVariants as target
use Rattle.lido_syntax.specs.declared.spec.Place.TheVariants as place
use Rattle.lido_syntax.specs.Production.{name_of, left_of}
use Rattle.lido_syntax.specs.Symbols.{IsChain}
use Rattle.lido_syntax.specs.Sets.{Sets, inherits_directly}
use Rattle.lido_syntax.specs.Attributes.{Use, uses, InText, IsNamed, Has, IsDeclaredKind, Tells, HasKind, IsOwn}
use Rattle.lido_syntax.specs.Attributes as attributes
use Rattle.lido_syntax.specs.Computation.{Goal, Synthesized, by_rule, by_symbol, HasComputation}
use Rattle.trials_of_syntax.proofs.Members.{every}
use Rattle.rule_tables.specs.InForceFaults.{IsMissing, IsClash}
use Rattle.rule_tables.specs.InForceFaults as faults
use Rattle.trials_of_tables.specs.CountedItems.{spec, tables, symbols, Counted, Top, Item, b, t, give_t, give_b, start, out, give_no, warn, top_rule, item_rule}
use Rattle.trials_of_tables.proofs.NoFaultLemmas.{in_text}
use Rattle.trials_of_tables.proofs.NoClashLemmas.{no_declaration, no_kind, left_targets, fit_uses, of_body, IsOnLeft}
use Rattle.trials_of_tables.proofs.ForceLemmas.{only_counted, heirs, b_in_force, class_in_force}

-- all attributes are synthesized
tells_synthesized : (s a : ℕ) (k : Kind) → Tells spec s a k → k ≡ kind.Synthesized
tells_synthesized s a k (attributes.side r c x i d m n e on f g h) = let left : IsOnLeft r (target.Attr (place.Named x i) d) = subst (IsOnLeft r) e (left_targets r m c n) in left k on
tells_synthesized s a k (attributes.synt c body u) = refl
tells_synthesized s a k (attributes.inh c body u) = absurd (fit_uses c (of_body s c body) (place.Inh, u.0) u.1)

not_declared : (s a : ℕ) (k : Kind) → IsDeclaredKind spec s a k → ⊥
not_declared s a k (inl (inl (d, h, e))) = no_declaration s a d h
not_declared s a k (inl (inr (class, inh, (d, h, e)))) = no_declaration class a d h
not_declared s a k (inr (d, m, e, f)) = let none = no_kind d m in cc

one_kind : (s a : ℕ) (k : Kind) → HasKind spec s a k → k ≡ kind.Synthesized
one_kind s a k (attributes.by_declaration h) = absurd (not_declared s a k h)
one_kind s a k (attributes.by_side h (inl x)) = tells_synthesized s a k x
one_kind s a k (attributes.by_side h (inr (class, inh, x))) = tells_synthesized class a k x
one_kind s a _ (HasKind.by_default h x) = refl

not_inherited : (s a : ℕ) → HasKind spec s a kind.Inherited → ⊥
not_inherited s a h = let wrong = one_kind s a kind.Inherited h in cc

-- the root has b, and no other symbol has more than t
abbrev IsOf : ℕ → ℕ → Type 0
IsOf s a = ((s ≡ Top) × (a ≡ b)) ⊎ ((s ≡ Top → ⊥) × (a ≡ t))

abbrev IsOfUse : Use → Type 0
IsOfUse (place.Named x i, a) = (IsChain spec (name_of a) → ⊥) → IsOf (name_of x) (name_of a)
IsOfUse _ = Unit {0}

of_use : (c : Comp) → InText spec c → (u : Use) → Contains (uses c) u → IsOfUse u
of_use = in_text (λ c. (u : Use) → Contains (uses c) u → IsOfUse u)
    (every IsOfUse (uses give_t) (tt, ((λ h. inl (refl, refl)), tt)))
    (every IsOfUse (uses give_b) ((λ h. inl (refl, refl)), tt))
    (every IsOfUse (uses start) tt)
    (every IsOfUse (uses out) ((λ h. inr ((λ e. cc), refl)), tt))
    (every IsOfUse (uses give_no) ((λ h. absurd (h refl)), ((λ h. absurd (h refl)), tt)))
    (every IsOfUse (uses warn) tt)

abbrev IsOwnUse : Use → Type 0
IsOwnUse u = IsOwn u.0 → name_of u.1 ≡ t

own_use : (u : Use) → Contains (uses give_t) u → IsOwnUse u
own_use = every IsOwnUse (uses give_t) ((λ h. refl), ((λ h. absurd h), tt))

named : (s a : ℕ) → IsNamed spec s a → IsOf s a
named s a (attributes.declared d h) = absurd (no_declaration s a d h)
named s a (attributes.by_name c x i text (d, m, e, none) f) =
    let here : (IsChain spec (name_of d) → ⊥) → IsOf (name_of x) (name_of d) = of_use c text (place.Named x i, d) m in
    subst (λ s. IsOf s a) f (subst (IsOf (name_of x)) e (here (λ h. none (subst (IsChain spec) e h))))
named s a (attributes.in_body c p body (d, m, e, none) own) =
    let it = only_counted s c body in
    let u : name_of d ≡ t = own_use (p, d) (subst (λ (c : Comp). Contains (uses c) (p, d)) it.1 m) own in
    inr ((λ f. let wrong : Counted ≡ Top = sym it.0 ∙ f in cc), sym e ∙ u)

of_top_alone : (a : ℕ) → IsOf Top a → a ≡ b
of_top_alone a (inl h) = h.1
of_top_alone a (inr h) = absurd (h.0 refl)

of_others : (s a : ℕ) → (s ≡ Top → ⊥) → IsOf s a → a ≡ t
of_others s a other (inl h) = absurd (other h.0)
of_others s a other (inr h) = h.1

pub top_has : (a : ℕ) → Has spec Top a → a ≡ b
top_has a (inl h) = of_top_alone a (named Top a h)
top_has a (inr (class, inh, h)) = let wrong : Top ≡ Item = (heirs Top class inh).0 in cc

pub item_has : (a : ℕ) → Has spec Item a → a ≡ t
item_has a (inl h) = of_others Item a (λ e. cc) (named Item a h)
item_has a (inr (class, inh, h)) = of_others class a (λ e. let wrong : Counted ≡ Top = sym (heirs Item class inh).1 ∙ e in cc) (named class a h)

-- each has a computation
abbrev IsComputed : ℕ → RuleItem → Type 0
IsComputed a r = Has spec (left_of r) a → HasComputation spec r 0 (left_of r) (Synthesized a)

computed : (i a : ℕ) (r : RuleItem) → slice_get spec.rules i ≡ Some r → IsComputed a r
computed zero a r e = subst (IsComputed a) (same_Some _ _ e) (λ h. subst (λ a. HasComputation spec top_rule 0 Top (Synthesized a)) (sym (top_has a h)) (by_rule, give_b, b_in_force))
computed (suc zero) a r e = subst (IsComputed a) (same_Some _ _ e) (λ h. subst (λ a. HasComputation spec item_rule 0 Item (Synthesized a)) (sym (item_has a h)) (by_symbol, give_t, class_in_force))
computed (suc (suc i)) a r e = absurd (none-some _ e)

module _ (sets : Sets spec) where
  pub none_missing : (i k a : ℕ) → IsMissing spec (tables sets) i k a → ⊥
  none_missing i _ _ (faults.IsMissing.left r a e has k none) = none (computed i a r e has)
  none_missing i _ _ (faults.IsMissing.right r j s a e f has k none) = not_inherited s a k
  none_missing i _ _ (faults.IsMissing.root r a e at has k) = not_inherited (left_of r) a k

  pub none_clashes : (s : ℕ) (g : Goal) → IsClash spec (tables sets) s g → ⊥
  none_clashes s g h = h.two ((heirs s h.one h.one_left.inherited).1 ∙ sym (heirs s h.other h.other_left.inherited).1)

-- no class inherits itself: an edge leads from Item to the class alone
direct : (s class : ℕ) → IsTrue (inherits_directly spec s class) → (s ≡ Item) × (class ≡ Counted)
direct s class h = heirs s class (source h)

module _ (sets : Sets spec) where
  abbrev is_edge : ℕ → ℕ → Bool
  is_edge = faults.is_heir spec (tables sets)

  pub symbol_of : (x : ℕ) (s : ℕ) → slice_get symbols x ≡ Some s → x ≡ s
  symbol_of zero s e = same_Some _ _ e
  symbol_of (suc zero) s e = same_Some _ _ e
  symbol_of (suc (suc zero)) s e = same_Some _ _ e
  symbol_of (suc (suc (suc zero))) s e = same_Some _ _ e
  symbol_of (suc (suc (suc (suc x)))) s e = absurd (none-some _ e)

  edge_of : (x y : ℕ) → IsTrue (is_edge x y) → (x ≡ Item) × (y ≡ Counted)
  edge_of x y h = go (slice_get symbols x) (slice_get symbols y) refl refl h
    where
      go : (p q : Option ℕ) → slice_get symbols x ≡ p → slice_get symbols y ≡ q → IsTrue (faults.inherits_of spec (tables sets) p q) → (x ≡ Item) × (y ≡ Counted)
      go (Some s) (Some class) e f h = let d = direct s class h in (symbol_of x s e ∙ d.0, symbol_of y class f ∙ d.1)
      go (Some s) None e f h = cc
      go None q e f h = cc

  no_return : (path : List ℕ) → IsPath (nat_eq Item) is_edge (Counted ∷ path) → ⊥
  no_return [] h = cc
  no_return (y ∷ rest) h = let wrong : Counted ≡ Item = (edge_of Counted y h.0).0 in cc

  abbrev ClosedFrom : ℕ → ℕ → List ℕ → Type 0
  ClosedFrom x y rest = IsPath (nat_eq x) is_edge (y ∷ rest)

  no_cycle : (numbers : List ℕ) → IsClosedPath is_edge numbers → ⊥
  no_cycle [] h = h
  no_cycle (x ∷ []) h = h
  no_cycle (x ∷ y ∷ rest) (h, k) = let e = edge_of x y h in no_return rest (subst (λ y. ClosedFrom Item y rest) e.1 (subst (λ x. ClosedFrom x y rest) e.0 k))

  pub without : HasNone (faults.in_force_faults spec (tables sets))
  without = (
    (λ f h. no_cycle h.0 h.2.is),
    ((λ f h. none_clashes sets h.s h.g h.clash), ((λ f h. none_missing sets h.i h.k h.a h.missing), tt)),
  )
