-- The attribute of a name that a symbol has, by what is said of it.
use Rattle.std.specs.Prelude.{Contains, unwrap_or}
use Rattle.std.specs.Option.{option_or}
use Rattle.std.proofs.Common.{false, ◌≡◌, ℕ, inl, inr, List, [], Option, Some, None, refl, sym, ap, subst, ◌∙◌}
use Rattle.std.proofs.lemmas.Option.{same_Some}
use Rattle.lido_base.specs.declared.kinds.Kind.{Kind}
use Rattle.lido_base.specs.declared.kinds.Kind.TheVariants.{Synthesized}
use Rattle.lido_base.specs.declared.value.ValueType.{ValueType}
use Rattle.lido_base.specs.declared.value.ValueType.TheVariants as type
use Rattle.lido_base.proofs.Lists.{contains-here}
use Rattle.lido_syntax.specs.declared.spec.Spec.{Spec}
use Rattle.lido_syntax.specs.declared.spec.Decl.{Decl}
use Rattle.lido_syntax.specs.declared.spec.Target.{Target}
use Rattle.lido_syntax.specs.declared.spec.Place.TheVariants as place
use Rattle.lido_syntax.specs.Production.{name_of}
use Rattle.lido_syntax.specs.Attributes.{target_uses, IsNamed, declared as by_decl, by_name, in_body, IsDeclared, OfClass, Has, Tells, side, synt, inh, IsTypedBySymbol, IsTypedByAttr, HasType, by_symbol, by_attr, HasKind, by_declaration, by_side}
use Rattle.flat_grammar.specs.declared.flat.FlatAttr.{FlatAttr}
use Rattle.kind_clashes.specs.declared.names.Names.{Names}
use Rattle.kind_clashes.specs.Names.{has}
use Rattle.symbol_attributes.specs.declared.facts.Facts.{Facts}
use Rattle.symbol_attributes.specs.declared.facts.Said.{Said}
use Rattle.symbol_attributes.specs.declared.rows.SaidTables.{SaidTables}
use Rattle.symbol_attributes.specs.declared.facts.AttrTable.{AttrTable}
use Rattle.symbol_attributes.specs.Facts.{IsOneOf, AreSummed, AreSums, said, IsTableOf, declared_facts, IsSaidBy, known_of, AreSaidOn}
use Rattle.symbol_attributes.specs.Said.{no_facts, told_facts, IsSaid, named, declared, told}
use Rattle.symbol_attributes.specs.Written.{IsWrittenAttribute, AreFactsOf, AreOwners, IsAttributeAt, known_by_attr, written_attribute}
use Rattle.symbol_attributes.proofs.FactsLemmas.{one-same, sums-same}
use Rattle.symbol_attributes.proofs.UsesLemmas.{of-target}

-- of what something is said, that is named
said-named : (spec : Spec) (s a : ℕ) (f : Facts) → IsSaid spec s a f → IsNamed spec s a
said-named spec s a f (named n) = n
said-named spec s a f (declared d is) = by_decl d is
said-named spec s a f (told (side r c x i b mr mc et on ex eb free)) =
    by_name c x i (inl (r, mr, mc)) (b, of-target c (place.Named x i, b) (subst (λ (t : Target). Contains (target_uses t) (place.Named x i, b)) (sym et) (contains-here (place.Named x i, b) [])), eb, free) ex
said-named spec s a f (told (synt c there used)) = in_body c place.Synt there used tt
said-named spec s a f (told (inh c there used)) = in_body c place.Inh there used tt

-- what says a type is a declaration
said-type : (spec : Spec) (s a : ℕ) (f : Facts) (ty : ValueType) → IsSaid spec s a f → f.ty ≡ Some ty → (d : Decl) × IsDeclared spec s a d × (d.ty ≡ ty)
said-type spec s a f ty (named n) e = absurd (cc)
said-type spec s a f ty (declared d is) e = (d, is, same_Some d.ty ty e)
said-type spec s a f ty (told t) e = absurd (cc)

said-kind : (spec : Spec) (s a : ℕ) (f : Facts) (kind : Kind) → IsSaid spec s a f → f.kind ≡ Some kind → (d : Decl) × IsDeclared spec s a d × (d.kind ≡ Some kind)
said-kind spec s a f kind (named n) e = absurd (cc)
said-kind spec s a f kind (declared d is) e = (d, is, e)
said-kind spec s a f kind (told t) e = absurd (cc)

said-told : (spec : Spec) (s a : ℕ) (f : Facts) (kind : Kind) → IsSaid spec s a f → f.told ≡ Some kind → Tells spec s a kind
said-told spec s a f kind (named n) e = absurd (cc)
said-told spec s a f kind (declared d is) e = absurd (cc)
said-told spec s a f kind (told {kind = other} t) e = subst (λ k. Tells spec s a k) (same_Some other kind e) t

-- by the types that are declared and that ATTR says
type-by : (spec : Spec) (s a : ℕ) (t u : Option ValueType) → IsOneOf (IsTypedBySymbol spec s a) t → IsOneOf (IsTypedByAttr spec a) u → HasType spec s a (unwrap_or (option_or t u) type.Void)
type-by spec s a (Some ty) u p q = by_symbol p
type-by spec s a None (Some ty) p q = by_attr p q
type-by spec s a None None p q = HasType.by_default p q

abbrev IsKindBySymbol : Spec → ℕ → ℕ → Kind → Type 0
IsKindBySymbol spec s a kind = OfClass spec (λ x. (d : Decl) × IsDeclared spec x a d × (d.kind ≡ Some kind)) s

abbrev IsKindByAttr : Spec → ℕ → Kind → Type 0
IsKindByAttr spec a kind = (d : Decl) × Contains spec.attrs d × (name_of d.attr ≡ a) × (d.kind ≡ Some kind)

kind-by : (spec : Spec) (s a : ℕ) (t u v : Option Kind) → IsOneOf (IsKindBySymbol spec s a) t → IsOneOf (IsKindByAttr spec a) u → IsOneOf (λ kind. OfClass spec (λ x. Tells spec x a kind) s) v
    → HasKind spec s a (unwrap_or (option_or (option_or t u) v) Synthesized)
kind-by spec s a (Some kind) u v p q r = by_declaration (inl p)
kind-by spec s a None (Some kind) v p q r = by_declaration (inr q)
kind-by spec s a None None (Some kind) p q r = by_side (λ other h. elim h [ inl x ↦ p other x | inr x ↦ q other x ]) r
kind-by spec s a None None None p q r = HasKind.by_default (λ other h. elim h [ inl x ↦ p other x | inr x ↦ q other x ]) r

-- what ATTR says
attr-type : (decls : List Decl) (a : ℕ) (o : Option Facts) → AreSums (IsSaidBy decls a) o → IsOneOf (λ ty. (d : Decl) × Contains decls d × (name_of d.attr ≡ a) × (d.ty ≡ ty)) (unwrap_or o no_facts).ty
attr-type decls a None none = λ ty (d, m, e, t). none (declared_facts d) (d, m, e, refl)
attr-type decls a (Some f) sums = one-same f.ty
    (λ ty (g, (d, m, e, eg), t). (d, m, e, same_Some d.ty ty (sym (ap (λ (x : Facts). x.ty) eg) ∙ t)))
    (λ ty (d, m, e, t). (declared_facts d, (d, m, e, refl), ap Some t))
    sums.ty

attr-kind : (decls : List Decl) (a : ℕ) (o : Option Facts) → AreSums (IsSaidBy decls a) o → IsOneOf (λ kind. (d : Decl) × Contains decls d × (name_of d.attr ≡ a) × (d.kind ≡ Some kind)) (unwrap_or o no_facts).kind
attr-kind decls a None none = λ kind (d, m, e, t). none (declared_facts d) (d, m, e, refl)
attr-kind decls a (Some f) sums = one-same f.kind
    (λ kind (g, (d, m, e, eg), t). (d, m, e, sym (ap (λ (x : Facts). x.kind) eg) ∙ t))
    (λ kind (d, m, e, t). (declared_facts d, (d, m, e, refl), t))
    sums.kind

module _ (spec : Spec) (s a : ℕ) where
  -- it is said of the symbol or of a class of it
  abbrev IsSaidOf : Facts → Type 0
  IsSaidOf f = OfClass spec (λ x. IsSaid spec x a f) s

  of-class : {P Q : ℕ → Type 0} → ((x : ℕ) → P x → Q x) → OfClass spec P s → OfClass spec Q s
  of-class to h = elim h [ inl p ↦ inl (to s p) | inr (class, is, p) ↦ inr (class, is, to class p) ]

  -- it is said by something that is said
  with-said : {Q : Facts → Type 0} (R : ℕ → Type 0) → ((x : ℕ) → R x → (f : Facts) × IsSaid spec x a f × Q f) → OfClass spec R s → (f : Facts) × IsSaidOf f × Q f
  with-said R from h = elim h [
    | inl p ↦ (let g = from s p in (g.0, inl g.1, g.2))
    | inr (class, is, p) ↦ (let g = from class p in (g.0, inr (class, is, g.1), g.2))
  ]

  types : (f : Facts) → AreSummed IsSaidOf f → IsOneOf (IsTypedBySymbol spec s a) f.ty
  types f sums = one-same f.ty
      (λ ty (g, is, t). of-class (λ x h. said-type spec x a g ty h t) is)
      (λ ty h. with-said (λ x. (d : Decl) × IsDeclared spec x a d × (d.ty ≡ ty)) (λ x (d, is, t). (declared_facts d, declared d is, ap Some t)) h)
      sums.ty

  kinds : (f : Facts) → AreSummed IsSaidOf f → IsOneOf (IsKindBySymbol spec s a) f.kind
  kinds f sums = one-same f.kind
      (λ kind (g, is, t). of-class (λ x h. said-kind spec x a g kind h t) is)
      (λ kind h. with-said (λ x. (d : Decl) × IsDeclared spec x a d × (d.kind ≡ Some kind)) (λ x (d, is, t). (declared_facts d, declared d is, t)) h)
      sums.kind

  tells : (f : Facts) → AreSummed IsSaidOf f → IsOneOf (λ kind. OfClass spec (λ x. Tells spec x a kind) s) f.told
  tells f sums = one-same f.told
      (λ kind (g, is, t). of-class (λ x h. said-told spec x a g kind h t) is)
      (λ kind h. with-said (λ x. Tells spec x a kind) (λ x t. (told_facts kind, told t, refl)) h)
      sums.told

  module _ (tables : SaidTables) (by_attr : AttrTable) (owners : List ℕ) (facts : AreFactsOf spec tables by_attr) (are : AreOwners spec s owners) where
    -- what is said on the owners is said of the symbol or of a class of it
    abbrev IsOnOwners : List Said → Facts → Type 0
    IsOnOwners list f = (x : ℕ) × Contains owners x × Contains list (said x a f)

    to-said : (f : Facts) → IsOnOwners facts.list f → IsSaidOf f
    to-said f (x, m, k) = let is = (facts.said x a f).0 k in elim ((are x).0 m) [
      | inl e ↦ inl (subst (λ y. IsSaid spec y a f) (sym e) is)
      | inr h ↦ inr (x, h, is)
    ]

    from-said : (f : Facts) → IsSaidOf f → IsOnOwners facts.list f
    from-said f (inl is) = (s, (are s).1 (inl refl), (facts.said s a f).1 is)
    from-said f (inr (class, h, is)) = (class, (are class).1 (inr h), (facts.said class a f).1 is)

    sums-said : (o : Option Facts) → ((list : List Said) → IsTableOf list tables.facts → AreSums (IsOnOwners list) o) → AreSums IsSaidOf o
    sums-said o sums = sums-same o to-said from-said (sums facts.list facts.tables_of.facts)

    pub attribute-absent : (set : Names) → AreSaidOn facts.list owners set → has set a ≡ false → ¬ Has spec s a
    attribute-absent set on none is = absurd (
        let (x, m, k) = from-said no_facts (of-class (λ x n. named n) is) in
        let there = on.all a (x, m, (no_facts, k)) in
        cc
        )

    pub attribute-none : ((list : List Said) → IsTableOf list tables.facts → AreSums (IsOnOwners list) None) → ¬ Has spec s a
    attribute-none sums has = sums-said None sums no_facts (of-class (λ x n. named n) has)

    pub attribute-some : (f : Facts) (x : FlatAttr) → ((list : List Said) → IsTableOf list tables.facts → AreSums (IsOnOwners list) (Some f)) → x ≡ written_attribute a f (known_by_attr by_attr a) → IsAttributeAt spec s a (Some x)
    attribute-some f x sums e = subst (λ (y : FlatAttr). IsWrittenAttribute spec s y × (y.name.0 ≡ a)) (sym e) (
      record {
        of_symbol = of-class (λ x h. said-named spec x a first h) (sum.there.1);
        kind = kind-by spec s a f.kind (known_by_attr by_attr a).kind f.told (kinds f sum) (attr-kind spec.attrs a (known_of by_attr a) (facts.attrs a)) (tells f sum);
        ty = type-by spec s a f.ty (known_by_attr by_attr a).ty (types f sum) (attr-type spec.attrs a (known_of by_attr a) (facts.attrs a));
        written = refl;
        message = refl;
      },
      refl,
    )
      where
        sum : AreSummed IsSaidOf f
        sum = sums-said (Some f) sums

        first : Facts
        first = sum.there.0
