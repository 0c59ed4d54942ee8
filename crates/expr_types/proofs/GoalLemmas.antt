-- What goals take, by the tables.
use Rattle.std.specs.Prelude.{◌≡◌, ◌↔◌, ◌⊎◌, ℕ, Some, slice_get}
use Rattle.std.proofs.Common.{ap, sym, subst, ◌∙◌}
use Rattle.std.proofs.lemmas.List.Elements.{All-contains}
use Rattle.std.proofs.lemmas.Option.{same_Some}
use Rattle.lido_base.specs.declared.ids.AttrId.{AttrId}
use Rattle.lido_base.specs.declared.value.ValueType.{ValueType}
use Rattle.lido_base.specs.declared.value.ValueType.TheVariants as type
use Rattle.lido_base.specs.Environment.{Environment}
use Rattle.lido_base.proofs.Lists.{place-contains}
use Rattle.flat_grammar.specs.declared.flat.FlatAttr.{FlatAttr}
use Rattle.lido_syntax.specs.declared.spec.Typed1.{Typed1}
use Rattle.lido_syntax.specs.Production.{name_of}
use Rattle.lido_syntax.specs.Symbols.{IsTypedChain}
use Rattle.lido_syntax.specs.Attributes.{HasType}
use Rattle.lido_syntax.specs.Computation.{Goal, Synthesized, Inherited, Start, Behind, Output, Message}
use Rattle.symbol_attributes.specs.Written.{IsWrittenAttribute}
use Rattle.rule_tables.specs.declared.table.Tables.{Tables}
use Rattle.rule_tables.specs.declared.table.SymbolRow.{SymbolRow}
use Rattle.rule_tables.specs.declared.forced.Goal.TheVariants as goal
use Rattle.rule_tables.specs.ForcedOf.{IsAttributeAt, IsChainAt, IsGoalAs}
use Rattle.rule_tables.specs.TablesOf.{AreTablesOf, named_symbols}
use Rattle.expr_types.specs.declared.computations.Wanted.{Wanted}
use Rattle.expr_types.specs.declared.computations.Wanted.TheVariants as wanted
use Rattle.leaf_types.specs.Single.{AreSingleTypes}
use Rattle.expr_types.specs.Computations.{AttributeTakes}
use Rattle.expr_types.specs.Wanted.{Takes, IsWantedOf}
use Rattle.expr_types.specs.Goals.{IsAttributeType, IsChainType}

-- ---- what a goal of the tables is about

pub attribute-goal : (t : Tables) (x : ℕ) (id : AttrId) (g : Goal) → IsGoalAs t x (goal.Attr id) g → (a : ℕ) × IsAttributeAt t x id a
attribute-goal t x id (Synthesized a) at = (a, at)
attribute-goal t x id (Inherited a) at = (a, at)
attribute-goal t x id (Start c) at = absurd at
attribute-goal t x id (Behind c) at = absurd at
attribute-goal t x id Output at = absurd at
attribute-goal t x id (Message j) at = absurd at

pub start-goal : (t : Tables) (x i : ℕ) (g : Goal) → IsGoalAs t x (goal.Start i) g → (c : ℕ) × IsChainAt t i c
start-goal t x i (Start c) at = (c, at)
start-goal t x i (Synthesized a) at = absurd at
start-goal t x i (Inherited a) at = absurd at
start-goal t x i (Behind c) at = absurd at
start-goal t x i Output at = absurd at
start-goal t x i (Message j) at = absurd at

pub behind-goal : (t : Tables) (x i : ℕ) (g : Goal) → IsGoalAs t x (goal.Behind i) g → (c : ℕ) × IsChainAt t i c
behind-goal t x i (Behind c) at = (c, at)
behind-goal t x i (Synthesized a) at = absurd at
behind-goal t x i (Inherited a) at = absurd at
behind-goal t x i (Start c) at = absurd at
behind-goal t x i Output at = absurd at
behind-goal t x i (Message j) at = absurd at

-- ---- what it takes

module _ (env : Environment) (t : Tables) (are : AreTablesOf env t) (single : AreSingleTypes t.spec) where
  takes-type : (s a : ℕ) (ty : ValueType) (w : Wanted) → HasType t.spec s a ty → ((other : ValueType) → Takes w other ↔ ((ty ≡ type.Void) ⊎ (other ≡ ty)))
      → (other : ValueType) → Takes w other ↔ AttributeTakes t.spec s a other
  takes-type s a ty w has by other = (
    (λ takes. (ty, has, (by other).0 takes)),
    (λ x.
        let same : x.0 ≡ ty = single.attribute s a x.0 ty x.1 has in
        (by other).1 (subst (λ u. (u ≡ type.Void) ⊎ (other ≡ u)) same x.2)),
  )

  -- an attribute of the symbol has the type that its row says
  row-type : (x s a : ℕ) (id : AttrId) (ty : ValueType) → slice_get (named_symbols t) x ≡ Some s → IsAttributeAt t x id a → IsAttributeType t x id ty → HasType t.spec s a ty
  row-type x s a id ty named at is =
      let same : at.0 ≡ is.0 = same_Some at.0 is.0 (sym at.2 ∙ is.2) in
      let row = are.rows x s is.0 named is.2 in
      let attr : at.1 ≡ is.1 = same_Some at.1 is.1 (sym at.3 ∙ ap (λ (r : SymbolRow). slice_get r.attrs id.0) same ∙ is.3) in
      let written : IsWrittenAttribute t.spec s is.1 = All-contains (IsWrittenAttribute t.spec s) is.0.attrs is.1 row.attrs.each (place-contains is.0.attrs id.0 is.1 is.3) in
      let name : is.1.name.0 ≡ a = ap (λ (y : FlatAttr). y.name.0) (sym attr) ∙ at.4 in
      subst (λ b. HasType t.spec s b ty) name (subst (λ u. HasType t.spec s is.1.name.0 u) is.4 written.ty)

  pub wanted-attribute : (x s : ℕ) (id : AttrId) (g : Goal) (ty : ValueType) (w : Wanted) → slice_get (named_symbols t) x ≡ Some s → IsGoalAs t x (goal.Attr id) g → IsAttributeType t x id ty
      → ((other : ValueType) → Takes w other ↔ ((ty ≡ type.Void) ⊎ (other ≡ ty))) → IsWantedOf t.spec s g w
  wanted-attribute x s id (Synthesized a) ty w named at is by = takes-type s a ty w (row-type x s a id ty named at is) by
  wanted-attribute x s id (Inherited a) ty w named at is by = takes-type s a ty w (row-type x s a id ty named at is) by
  wanted-attribute x s id (Start c) ty w named at is by = absurd at
  wanted-attribute x s id (Behind c) ty w named at is by = absurd at
  wanted-attribute x s id Output ty w named at is by = absurd at
  wanted-attribute x s id (Message j) ty w named at is by = absurd at

  takes-chain : (i c : ℕ) (ty other : ValueType) → IsChainAt t i c → IsChainType t i ty → (other ≡ ty) ↔ IsTypedChain t.spec c other
  takes-chain i c ty other at is =
      let same : at.0 ≡ is.0 = same_Some at.0 is.0 (sym at.1 ∙ is.1) in
      let its : IsTypedChain t.spec c ty = (is.0, place-contains t.spec.chains i is.0 is.1, ap (λ (d : Typed1). name_of d.name) (sym same) ∙ at.2, is.2) in
      ((λ e. subst (IsTypedChain t.spec c) (sym e) its), (λ h. single.chain c other ty h its))

  pub wanted-start : (x s i : ℕ) (g : Goal) (ty : ValueType) → IsGoalAs t x (goal.Start i) g → IsChainType t i ty → IsWantedOf t.spec s g (wanted.Only ty)
  wanted-start x s i (Start c) ty at is other = takes-chain i c ty other at is
  wanted-start x s i (Synthesized a) ty at is other = absurd at
  wanted-start x s i (Inherited a) ty at is other = absurd at
  wanted-start x s i (Behind c) ty at is other = absurd at
  wanted-start x s i Output ty at is other = absurd at
  wanted-start x s i (Message j) ty at is other = absurd at

  pub wanted-behind : (x s i : ℕ) (g : Goal) (ty : ValueType) → IsGoalAs t x (goal.Behind i) g → IsChainType t i ty → IsWantedOf t.spec s g (wanted.Only ty)
  wanted-behind x s i (Behind c) ty at is other = takes-chain i c ty other at is
  wanted-behind x s i (Synthesized a) ty at is other = absurd at
  wanted-behind x s i (Inherited a) ty at is other = absurd at
  wanted-behind x s i (Start c) ty at is other = absurd at
  wanted-behind x s i Output ty at is other = absurd at
  wanted-behind x s i (Message j) ty at is other = absurd at

  pub wanted-output : (x s : ℕ) (g : Goal) → IsGoalAs t x goal.Out g → IsWantedOf t.spec s g (wanted.Only type.Text)
  wanted-output x s Output at other = ((λ e. e), (λ e. e))
  wanted-output x s (Synthesized a) at other = absurd at
  wanted-output x s (Inherited a) at other = absurd at
  wanted-output x s (Start c) at other = absurd at
  wanted-output x s (Behind c) at other = absurd at
  wanted-output x s (Message j) at other = absurd at

  pub wanted-message : (x s j : ℕ) (g : Goal) → IsGoalAs t x (goal.Message j) g → IsWantedOf t.spec s g (wanted.Only type.Str)
  wanted-message x s j (Message k) at other = ((λ e. e), (λ e. e))
  wanted-message x s j (Synthesized a) at other = absurd at
  wanted-message x s j (Inherited a) at other = absurd at
  wanted-message x s j (Start c) at other = absurd at
  wanted-message x s j (Behind c) at other = absurd at
  wanted-message x s j Output at other = absurd at
