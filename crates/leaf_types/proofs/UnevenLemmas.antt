-- The attributes that are noted are those of classes that have another type on a nonterminal that inherits the class.
use Rattle.std.specs.Prelude.{Contains, IsTrue, is_some}
use Rattle.std.proofs.Common.{◌≡◌, ℕ, ◌⊎◌, inl, inr, true, false, Option, Some, None, refl, ap, sym, subst, ◌∙◌}
use Rattle.std.proofs.lemmas.Bool.{false≢true}
use Rattle.lido_base.specs.Environment.{Environment}
use Rattle.lido_base.specs.declared.value.ValueType.{ValueType}
use Rattle.flat_grammar.specs.declared.flat.FlatAttr.{FlatAttr}
use Rattle.lido_syntax.specs.Symbols.{IsNonterminal}
use Rattle.lido_syntax.specs.Attributes.{Has, HasType}
use Rattle.lido_syntax.specs.Sets.{Inherits}
use Rattle.lido_syntax.proofs.SetsLemmas.{Inherits-transitive}
use Rattle.kind_clashes.specs.KindClash.{IsKindClash}
use Rattle.rule_tables.specs.declared.table.Tables.{Tables}
use Rattle.rule_tables.specs.declared.table.SymbolRow.{SymbolRow}
use Rattle.rule_tables.specs.TablesOf.{AreTablesOf}
use Rattle.leaf_types.specs.declared.attributes.AttributeTypes.{AttributeTypes}
use Rattle.leaf_types.specs.declared.heirs.Heirs.{Heirs}
use Rattle.leaf_types.specs.Single.{AreSingleTypes}
use Rattle.leaf_types.specs.Tables.{type_of_attribute, OfSome, IsTableOf}
use Rattle.leaf_types.specs.Entries.{GivesAttribute}
use Rattle.leaf_types.specs.Heirs.{inherits, AreHeirsOf}
use Rattle.leaf_types.specs.Uneven.{IsOtherOnHeir}
use Rattle.leaf_types.specs.Types.{IsEven}
use Rattle.leaf_types.proofs.TypeLemmas.{is-or-not}
use Rattle.leaf_types.proofs.LeafLemmas.{written-in, in-row, attribute-typed, attribute-there, nonterminal-row, row-nonterminal}

module _ (t : Tables) (env texts : Environment) (is : AreTablesOf env t) (none : (at : ℕ) → IsKindClash t.spec texts at → ⊥) (single : AreSingleTypes t.spec)
    (types : AttributeTypes) (table : IsTableOf (OfSome GivesAttribute t.symbols) (type_of_attribute types))
    (heirs : Heirs) (inherited : AreHeirsOf t.spec heirs)
    (uneven : ℕ × ℕ → Option ValueType) (noted : IsTableOf (OfSome (IsOtherOnHeir types heirs t.symbols) t.symbols) uneven) where
  -- an attribute in the row of a class has the type of the class's attribute
  class-type : (class a : ℕ) (ty : ValueType) (row : SymbolRow) (attr : FlatAttr) → Contains t.symbols row → Contains row.attrs attr → row.name.0 ≡ class → attr.name.0 ≡ a → HasType t.spec class a ty → attr.ty ≡ ty
  class-type class a ty row attr m ma e f typed =
      single.attribute class a attr.ty ty (subst (λ z. HasType t.spec class z attr.ty) f (subst (λ z. HasType t.spec z attr.name.0 attr.ty) e (written-in t env texts is none row attr m ma).ty)) typed

  none-noted : (class a : ℕ) → is_some (uneven (class, a)) ≡ false → uneven (class, a) ≡ None
  none-noted class a = by (uneven (class, a))
    where
      by : (o : Option ValueType) → is_some o ≡ false → o ≡ None
      by None e = refl
      by (Some u) e = absurd (false≢true (sym e))

  pub is-even : (class a : ℕ) (ty : ValueType) → Has t.spec class a → HasType t.spec class a ty → is_some (uneven (class, a)) ≡ false → IsEven t.spec class a ty
  is-even class a ty has typed free s n heir = by (is-or-not (type_of_attribute types (s, a)) ty)
    where
      other : ¬ (type_of_attribute types (s, a) ≡ Some ty) → ⊥
      other differ =
          let (row, attr, m, of, ma, e) = in-row t env texts is none class a has in
          let (own, mo, f, nonterminal) = nonterminal-row t env texts is none s n in
          let same : attr.ty ≡ ty = class-type class a ty row attr m ma of.name e typed in
          let inherits_it : IsTrue (inherits heirs own.name.0 row.name.0) = subst (λ z. IsTrue (inherits heirs z row.name.0)) (sym f) (subst (λ z. IsTrue (inherits heirs s z)) (sym of.name) ((inherited s class).1 heir)) in
          noted.all (class, a) (none-noted class a free) attr.ty (
            own,
            mo,
            (
              nonterminal,
              (
                row,
                m,
                (
                  inherits_it,
                  (
                    attr,
                    ma,
                    (
                      (of.name, e, refl),
                      (λ g. differ (ap (λ z. type_of_attribute types (z, a)) (sym f) ∙ ap (λ z. type_of_attribute types (own.name.0, z)) (sym e) ∙ g ∙ ap Some same)),
                    ),
                  ),
                ),
              ),
            ),
          )

      by : (type_of_attribute types (s, a) ≡ Some ty) ⊎ ¬ (type_of_attribute types (s, a) ≡ Some ty) → HasType t.spec s a ty
      by (inl e) = attribute-typed t env texts is none (type_of_attribute types) table s a ty e
      by (inr differ) = absurd (other differ)

  has-inherited : (s class a : ℕ) → Inherits t.spec s class → Has t.spec class a → Has t.spec s a
  has-inherited s class a heir (inl n) = inr (class, heir, n)
  has-inherited s class a heir (inr (above, h, n)) = inr (above, Inherits-transitive t.spec s class above heir h, n)

  pub is-uneven : (class a : ℕ) (ty : ValueType) → HasType t.spec class a ty → is_some (uneven (class, a)) ≡ true → IsEven t.spec class a ty → ⊥
  is-uneven class a ty typed some even = by (uneven (class, a)) refl some
    where
      on-heir : (own row : SymbolRow) (attr : FlatAttr) → Contains t.symbols own → IsNonterminal t.spec own.name.0 → Contains t.symbols row → Contains row.attrs attr → row.name.0 ≡ class → attr.name.0 ≡ a
          → Inherits t.spec own.name.0 class → ¬ (type_of_attribute types (own.name.0, attr.name.0) ≡ Some attr.ty) → ⊥
      on-heir own row attr mo n m ma e f heir differ = at (type_of_attribute types (own.name.0, a)) refl
        where
          has : Has t.spec own.name.0 a
          has = has-inherited own.name.0 class a heir (subst (λ z. Has t.spec class z) f (subst (λ z. Has t.spec z attr.name.0) e (written-in t env texts is none row attr m ma).of_symbol))

          at : (o : Option ValueType) → type_of_attribute types (own.name.0, a) ≡ o → ⊥
          at None g = attribute-there t env texts is none (type_of_attribute types) table own.name.0 a g has
          at (Some v) g =
              let same : v ≡ ty = single.attribute own.name.0 a v ty (attribute-typed t env texts is none (type_of_attribute types) table own.name.0 a v g) (even own.name.0 n heir) in
              differ (ap (λ z. type_of_attribute types (own.name.0, z)) f ∙ g ∙ ap Some (same ∙ sym (class-type class a ty row attr m ma e f typed)))

      by : (o : Option ValueType) → uneven (class, a) ≡ o → is_some o ≡ true → ⊥
      by None e h = false≢true h
      by (Some u) e h =
          let (own, mo, (nonterminal, (row, m, (heir, (attr, ma, (at, differ)))))) = noted.only (class, a) u e in
          on-heir own row attr mo (row-nonterminal t env texts is none own mo nonterminal) m ma at.0 at.1
          (subst (λ z. Inherits t.spec own.name.0 z) at.0 ((inherited own.name.0 row.name.0).0 heir)) differ
