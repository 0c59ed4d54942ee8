-- What symbols are, by the sets of names and what TERM declares.
use Rattle.std.specs.Prelude.{Contains, nat_eq, map, flat_map, slice_get}
use Rattle.std.proofs.Common.{◌≡◌, ℕ, ◌+◌, ◌<◌, inl, inr, Bool, true, false, if◌then◌else◌, List, [], ◌∷◌, ◌++◌, length, take, get_or, Some, None, refl, ap, sym, subst, ◌∙◌, true≢false, eqb-true, eq-eqb}
use Rattle.std.proofs.lemmas.List.{take_more}
use Rattle.std.proofs.lemmas.List.Elements.{Contains-append_left, Contains-append_right, Contains-append_cases}
use Rattle.std.proofs.lemmas.Option.{none-some, same_Some, slice_get_within, slice_get-get_or}
use Rattle.lido_base.proofs.Lists.{contains-nil, contains-cons, contains-here, map-contains, flat-contains}
use Rattle.lido_base.proofs.TreeLemmas.{test-contains}
use Rattle.lido_base.specs.Environment.{Environment}
use Rattle.lido_base.specs.declared.value.ValueType.{ValueType}
use Rattle.lido_base.specs.declared.value.ValueType.TheVariants.{Int}
use Rattle.lido_syntax.specs.declared.spec.Spec.{Spec}
use Rattle.lido_syntax.specs.declared.spec.Typed1.{Typed1}
use Rattle.lido_syntax.specs.Production.{name_of, left_of, right_of}
use Rattle.lido_syntax.specs.Symbols.{IsNonterminal, IsTerminal}
use Rattle.lido_symbols.specs.Classes.{IsClass}
use Rattle.kind_clashes.specs.declared.sets.NameSets.{NameSets}
use Rattle.kind_clashes.specs.Names.{has}
use Rattle.kind_clashes.specs.Sets.{AreNameSets}
use Rattle.table_faults.specs.Faults.{IsKnown, class, declared, in_production}
use Rattle.rule_tables.specs.SymbolKinds.{type_in, Declares, AreTermTypes}
use Rattle.rule_tables.specs.declared.symbol_kinds.TermTypes.{TermTypes}
use Rattle.rule_tables.specs.declared.table.SymbolClass.{SymbolClass}
use Rattle.rule_tables.specs.declared.table.SymbolClass.TheVariants as kind
use Rattle.rule_tables.specs.TablesOf.{IsSymbolClass}

pub types-none : (types : TermTypes) → ((s : ℕ) → type_in types s ≡ None) → AreTermTypes [] types
types-none types none = record {
  only = λ s ty e. absurd (none-some ty (sym (none s) ∙ e));
  all = λ s ty e d. contains-nil d.0 d.1;
}

-- one more declaration
pub types-more : (terms : List Typed1) (i : ℕ) (x : Typed1) (old new : TermTypes) → slice_get terms i ≡ Some x
    → ((s : ℕ) → type_in new s ≡ (if nat_eq x.name.id.0 s then Some x.ty else type_in old s)) → AreTermTypes (take i terms) old → AreTermTypes (take (i + 1) terms) new
types-more terms i x old new got set before = subst (λ l. AreTermTypes l new) (sym more) record {
  only = λ s ty e. only s ty (nat_eq x.name.id.0 s) refl (sym (set s) ∙ e);
  all = λ s ty e d. all s ty (nat_eq x.name.id.0 s) refl (sym (set s) ∙ e) d;
}
  where
    within : i < length terms
    within = slice_get_within terms i x got

    more : take (i + 1) terms ≡ take i terms ++ x ∷ []
    more = take_more terms i x within ∙ ap (λ (y : Typed1). take i terms ++ y ∷ []) (same_Some (get_or terms i x) x (sym (slice_get-get_or terms i x within) ∙ got))

    only : (s : ℕ) (ty : ValueType) (b : Bool) → nat_eq x.name.id.0 s ≡ b → (if b then Some x.ty else type_in old s) ≡ Some ty → Declares (take i terms ++ x ∷ []) s ty
    only s ty true f e = (x, Contains-append_right (take i terms) (x ∷ []) x (contains-here x []), eqb-true x.name.id.0 s f, same_Some x.ty ty e)
    only s ty false f e = let (y, m, n, t) = before.only s ty e in (y, Contains-append_left (take i terms) (x ∷ []) y m, n, t)

    all : (s : ℕ) (ty : ValueType) (b : Bool) → nat_eq x.name.id.0 s ≡ b → (if b then Some x.ty else type_in old s) ≡ None → Declares (take i terms ++ x ∷ []) s ty → ⊥
    all s ty true f e d = none-some x.ty (sym e)
    all s ty false f e (y, m, n, t) = elim (Contains-append_cases (take i terms) (x ∷ []) y m) [
      | inl k ↦ before.all s ty e (y, k, n, t)
      | inr k ↦ elim (contains-cons x y [] k) [ inl same ↦ (let g = eq-eqb x.name.id.0 s (ap (λ (z : Typed1). name_of z.name) same ∙ n) in true≢false (sym g ∙ f)) | inr n ↦ contains-nil y n ]
    ]

module _ (spec : Spec) (env : Environment) (sets : NameSets) (types : TermTypes) (are : AreNameSets spec sets) (typed : AreTermTypes spec.terms types) (s : ℕ) (left : has sets.nonterminals s ≡ false) where
  no-nonterminal : ¬ IsNonterminal spec s
  no-nonterminal n = true≢false (sym (are.nonterminals.all s n) ∙ left)

  pub declared-terminal : (ty : ValueType) → type_in types s ≡ Some ty → IsTerminal spec s ty
  declared-terminal ty e = (no-nonterminal, inl (typed.only s ty e))

  module _ (none : type_in types s ≡ None) where
    pub plain-terminal : has sets.right_sides s ≡ true → IsTerminal spec s Int
    plain-terminal h = (no-nonterminal, inr (are.right_sides.only s h, λ other. typed.all s other none, refl))

    unknown : has sets.right_sides s ≡ false → has sets.classes s ≡ false → ¬ IsKnown spec env s
    unknown right other known = elim known [
      | class is ↦ true≢false (sym (are.classes.all s is) ∙ other)
      | declared ty is ↦ typed.all s ty none is
      | in_production r there m ↦ elim (contains-cons (left_of r) s (right_of r) m) [
        | inl e ↦ no-nonterminal (test-contains s (map left_of spec.rules) (subst (λ n. Contains (map left_of spec.rules) n) e (map-contains left_of spec.rules r there)))
        | inr k ↦ true≢false (sym (are.right_sides.all s (test-contains s (flat_map right_of spec.rules) (flat-contains right_of spec.rules r s there k))) ∙ right)
      ]
    ]

    pub a-class : has sets.right_sides s ≡ false → ¬ ¬ IsKnown spec env s → IsClass spec s
    a-class right known = by (has sets.classes s) refl
      where
        by : (b : Bool) → has sets.classes s ≡ b → IsClass spec s
        by true e = are.classes.only s e
        by false e = absurd (known (unknown right e))

    -- what stands on no left side and isn't declared
    pub undeclared-class : (symbols : List ℕ) (c : SymbolClass) → c ≡ (if has sets.right_sides s then kind.Terminal Int else kind.Class) → ¬ ¬ IsKnown spec env s → IsSymbolClass spec env symbols s c
    undeclared-class symbols c e known = subst (IsSymbolClass spec env symbols s) (sym e) (by (has sets.right_sides s) refl)
      where
        by : (b : Bool) → has sets.right_sides s ≡ b → IsSymbolClass spec env symbols s (if b then kind.Terminal Int else kind.Class)
        by true h = plain-terminal h
        by false h = a-class h known
