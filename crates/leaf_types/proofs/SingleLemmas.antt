-- Where the tables have no faults, attributes, terminals and chains have one type at most.
use Rattle.std.specs.Prelude.{slice_get, get_or, Contains, flat_map}
use Rattle.std.proofs.Common.{◌≡◌, ℕ, ◌<◌, ◌≤◌, ◌⊎◌, inl, inr, Some, ap, sym, subst, ◌∙◌, arith, refl}
use Rattle.std.proofs.lemmas.Bool.{cases_lt}
use Rattle.std.proofs.lemmas.List.Elements.{Contains-append_left, Contains-append_right}
use Rattle.std.proofs.lemmas.Option.{same_Some, slice_get_within, get_or_from_slice_get}
use Rattle.lido_base.specs.Environment.{Environment}
use Rattle.lido_base.specs.declared.value.ValueType.{ValueType}
use Rattle.lido_base.proofs.Lists.{contains-place, map-contains, flat-contains}
use Rattle.lido_syntax.specs.declared.spec.Spec.{Spec}
use Rattle.lido_syntax.specs.declared.spec.Decl.{Decl}
use Rattle.lido_syntax.specs.declared.spec.Typed1.{Typed1}
use Rattle.lido_syntax.specs.declared.spec.SymbolItem.{SymbolItem}
use Rattle.lido_syntax.specs.Production.{name_of}
use Rattle.lido_syntax.specs.Symbols.{IsTerm, IsTerminal, IsTypedChain}
use Rattle.lido_syntax.specs.Attributes.{IsDeclared, OfClass, IsTypedBySymbol, IsTypedByAttr, HasType}
use Rattle.lido_syntax.specs.Attributes as attributes
use Rattle.lido_symbols.specs.FromText.{IsFromText}
use Rattle.lido_symbols.specs.Uses.{declarations, declared_names}
use Rattle.kind_clashes.specs.KindClash.{IsKindClash, chain_names}
use Rattle.kind_clashes.specs.KindClash as clash
use Rattle.leaf_types.specs.Single.{AreSingleTypes}
use Rattle.leaf_types.proofs.TypeLemmas.{same-or-other}

module _ (spec : Spec) (env : Environment) (text : IsFromText spec) (none : (at : ℕ) → IsKindClash spec env at → ⊥) where
  -- ---- attributes

  in-declarations : (s a : ℕ) (d : Decl) → IsDeclared spec s a d → Contains (declarations spec) d
  in-declarations s a d (item, mi, h, md, e) =
      Contains-append_right spec.attrs (flat_map (λ (i : SymbolItem). i.decls) spec.symbols) d (flat-contains (λ (i : SymbolItem). i.decls) spec.symbols item d mi md)

  gives : (s a : ℕ) (ty : ValueType) → IsTypedBySymbol spec s a ty → (d : Decl) × OfClass spec (λ x. IsDeclared spec x a d) s × Contains (declarations spec) d × (d.ty ≡ ty)
  gives s a ty (inl (d, is, e)) = (d, inl is, in-declarations s a d is, e)
  gives s a ty (inr (class, heir, (d, is, e))) = (d, inr (class, heir, is), in-declarations class a d is, e)

  -- two declarations, of which the later one would be at fault if their types differed
  one-type : (d e : Decl) → Contains (declarations spec) d → Contains (declarations spec) e
      → ((d.ty ≡ e.ty → ⊥) → d.attr.at < e.attr.at → ⊥) → ((e.ty ≡ d.ty → ⊥) → e.attr.at < d.attr.at → ⊥) → d.ty ≡ e.ty
  one-type d e md me later earlier = by (same-or-other d.ty e.ty) (cases_lt d.attr.at e.attr.at) (cases_lt e.attr.at d.attr.at)
    where
      by : (d.ty ≡ e.ty) ⊎ (d.ty ≡ e.ty → ⊥) → (d.attr.at < e.attr.at) ⊎ (e.attr.at ≤ d.attr.at) → (e.attr.at < d.attr.at) ⊎ (d.attr.at ≤ e.attr.at) → d.ty ≡ e.ty
      by (inl same) _ _ = same
      by (inr differ) (inl lt) _ = absurd (later differ lt)
      by (inr differ) (inr le) (inl lt) = absurd (earlier (λ f. differ (sym f)) lt)
      by (inr differ) (inr le) (inr ge) = ap (λ (x : Decl). x.ty) (text.one_declaration d e md me (omega (arith, le, ge)))

  by-symbols : (s a : ℕ) (ty other : ValueType) → IsTypedBySymbol spec s a ty → IsTypedBySymbol spec s a other → ty ≡ other
  by-symbols s a ty other h k =
      let (d, hd, md, dt) = gives s a ty h in
      let (e, he, me, et) = gives s a other k in
      sym dt
      ∙ one-type d e md me (λ differ lt. none e.attr.at (clash.twofold_attribute (clash.types_by_symbol s a d e hd he differ lt refl)))
      (λ differ lt. none d.attr.at (clash.twofold_attribute (clash.types_by_symbol s a e d he hd differ lt refl)))
      ∙ et

  by-attrs : (a : ℕ) (ty other : ValueType) → IsTypedByAttr spec a ty → IsTypedByAttr spec a other → ty ≡ other
  by-attrs a ty other (d, md, dn, dt) (e, me, en, et) =
      let all = flat_map (λ (i : SymbolItem). i.decls) spec.symbols in
      sym dt
      ∙ one-type d e (Contains-append_left spec.attrs all d md) (Contains-append_left spec.attrs all e me)
      (λ differ lt. none e.attr.at (clash.twofold_attribute (clash.types_by_attr d e md me (dn ∙ sym en) differ lt refl)))
      (λ differ lt. none d.attr.at (clash.twofold_attribute (clash.types_by_attr e d me md (en ∙ sym dn) differ lt refl)))
      ∙ et

  attribute : (s a : ℕ) (ty other : ValueType) → HasType spec s a ty → HasType spec s a other → ty ≡ other
  attribute s a ty other (attributes.by_symbol h) (attributes.by_symbol k) = by-symbols s a ty other h k
  attribute s a ty other (attributes.by_symbol h) (attributes.by_attr free k) = absurd (free ty h)
  attribute s a ty _ (attributes.by_symbol h) (HasType.by_default free not) = absurd (free ty h)
  attribute s a ty other (attributes.by_attr free h) (attributes.by_symbol k) = absurd (free other k)
  attribute s a ty other (attributes.by_attr free h) (attributes.by_attr other_free k) = by-attrs a ty other h k
  attribute s a ty _ (attributes.by_attr free h) (HasType.by_default other_free not) = absurd (not ty h)
  attribute s a _ other (HasType.by_default free not) (attributes.by_symbol k) = absurd (free other k)
  attribute s a _ other (HasType.by_default free not) (attributes.by_attr other_free k) = absurd (not other k)
  attribute s a _ _ (HasType.by_default free not) (HasType.by_default other_free other_not) = refl

  -- ---- terminals

  term : (s : ℕ) (ty other : ValueType) → IsTerm spec s ty → IsTerm spec s other → ty ≡ other
  term s ty other (x, mx, xn, xt) (y, my, yn, yt) = sym xt ∙ by (same-or-other x.ty y.ty) (cases_lt x.name.at y.name.at) (cases_lt y.name.at x.name.at) ∙ yt
    where
      by : (x.ty ≡ y.ty) ⊎ (x.ty ≡ y.ty → ⊥) → (x.name.at < y.name.at) ⊎ (y.name.at ≤ x.name.at) → (y.name.at < x.name.at) ⊎ (x.name.at ≤ y.name.at) → x.ty ≡ y.ty
      by (inl same) _ _ = same
      by (inr differ) (inl lt) _ = absurd (none y.name.at (clash.faulty_term y my refl (inr (inr (x, mx, xn ∙ sym yn, differ, lt)))))
      by (inr differ) (inr le) (inl lt) = absurd (none x.name.at (clash.faulty_term x mx refl (inr (inr (y, my, yn ∙ sym xn, (λ f. differ (sym f)), lt)))))
      by (inr differ) (inr le) (inr ge) = ap (λ (z : Typed1). z.ty) (text.one_term x y mx my (omega (arith, le, ge)))

  terminal : (s : ℕ) (ty other : ValueType) → IsTerminal spec s ty → IsTerminal spec s other → ty ≡ other
  terminal s ty other (n, inl h) (m, inl k) = term s ty other h k
  terminal s ty other (n, inl h) (m, inr k) = absurd (k.1 ty h)
  terminal s ty other (n, inr h) (m, inl k) = absurd (h.1 other k)
  terminal s ty other (n, inr h) (m, inr k) = h.2 ∙ sym k.2

  -- ---- chains

  -- a chain's name is declared once
  pub chain-twice : (i j : ℕ) (x y : Typed1) → slice_get spec.chains i ≡ Some x → slice_get spec.chains j ≡ Some y → Contains spec.chains x → Contains spec.chains y → i < j → name_of x.name ≡ name_of y.name → ⊥
  chain-twice i j x y at there mx my less same =
      let within = slice_get_within spec.chains j y there in
      let first : get_or spec.chains i x ≡ x = get_or_from_slice_get spec.chains i x x at in
      let second : get_or spec.chains j x ≡ y = get_or_from_slice_get spec.chains j y x there in
      let ordered : x.name.at < y.name.at = subst (λ (z : Typed1). z.name.at < y.name.at) first
      (subst (λ (z : Typed1). (get_or spec.chains i x).name.at < z.name.at) second (text.chains_in_order i j x less within)) in
      none y.name.at (clash.chain_declared_again (clash.behind_a_chain x.name y.name (map-contains (λ (d : Typed1). d.name) spec.chains x mx)
      (Contains-append_left (chain_names spec) (declared_names spec) y.name (map-contains (λ (d : Typed1). d.name) spec.chains y my)) same ordered refl))

  chain : (c : ℕ) (ty other : ValueType) → IsTypedChain spec c ty → IsTypedChain spec c other → ty ≡ other
  chain c ty other (x, mx, xn, xt) (y, my, yn, yt) =
      let (i, at) = contains-place spec.chains x mx in
      let (j, there) = contains-place spec.chains y my in
      sym xt ∙ by i j at there (cases_lt i j) (cases_lt j i) ∙ yt
    where
      by : (i j : ℕ) → slice_get spec.chains i ≡ Some x → slice_get spec.chains j ≡ Some y → (i < j) ⊎ (j ≤ i) → (j < i) ⊎ (i ≤ j) → x.ty ≡ y.ty
      by i j at there (inl lt) _ = absurd (chain-twice i j x y at there mx my lt (xn ∙ sym yn))
      by i j at there (inr le) (inl lt) = absurd (chain-twice j i y x there at my mx lt (yn ∙ sym xn))
      by i j at there (inr le) (inr ge) = ap (λ (z : Typed1). z.ty) (same_Some x y (sym at ∙ ap (slice_get spec.chains) (omega (arith, le, ge)) ∙ there))

  pub single-types : AreSingleTypes spec
  single-types = record { attribute = attribute; terminal = terminal; chain = chain }
