-- The types in rows and declarations are those of the specification.
use Rattle.std.specs.Prelude.{Contains, MatchOption, map}
use Rattle.std.proofs.Common.{◌≡◌, ℕ, ◌⊎◌, inl, inr, [], Option, Some, None, refl, sym, subst, ◌∙◌}
use Rattle.std.proofs.lemmas.List.Elements.{All-contains}
use Rattle.lido_base.specs.Environment.{Environment}
use Rattle.lido_base.specs.declared.value.ValueType.{ValueType}
use Rattle.lido_base.proofs.Lists.{contains-nil, contains-map}
use Rattle.lido_base.proofs.TreeLemmas.{contains-test}
use Rattle.flat_grammar.specs.declared.flat.FlatAttr.{FlatAttr}
use Rattle.lido_syntax.specs.declared.spec.Typed1.{Typed1}
use Rattle.lido_syntax.specs.declared.spec.Spec.{Spec}
use Rattle.lido_syntax.specs.Production.{name_of}
use Rattle.lido_syntax.specs.Symbols.{IsNonterminal, IsTerminal, IsChain, IsTypedChain}
use Rattle.lido_syntax.specs.Attributes.{Has, HasType}
use Rattle.lido_symbols.specs.Classes.{IsClass}
use Rattle.kind_clashes.specs.KindClash.{IsKindClash}
use Rattle.kind_clashes.specs.KindClash as clash
use Rattle.symbol_attributes.specs.Written.{IsWrittenAttribute}
use Rattle.rule_tables.specs.declared.table.Tables.{Tables}
use Rattle.rule_tables.specs.declared.table.SymbolRow.{SymbolRow}
use Rattle.rule_tables.specs.declared.table.SymbolClass.{SymbolClass}
use Rattle.rule_tables.specs.declared.table.SymbolClass.TheVariants as class
use Rattle.rule_tables.specs.TablesOf.{named_symbols, AreTablesOf, IsRowOf, IsSymbolClass}
use Rattle.leaf_types.specs.Tables.{OfSome, IsTableOf}
use Rattle.leaf_types.specs.Entries.{GivesAttribute, GivesTerminal, GivesChain}
use Rattle.leaf_types.proofs.NumberLemmas.{left-named, right-named, has-numbered, terminal-numbered, nonterminal-numbered}
use Rattle.leaf_types.proofs.RowLemmas.{row-of, row-at}

-- the chains
pub chain-types : (spec : Spec) (types : ℕ → Option ValueType) → IsTableOf (OfSome GivesChain spec.chains) types → (c : ℕ) → MatchOption (types c) (IsChain spec c → ⊥) (λ (ty : ValueType). IsTypedChain spec c ty)
chain-types spec types table c = by (types c) refl
  where
    by : (o : Option ValueType) → types c ≡ o → MatchOption o (IsChain spec c → ⊥) (λ (ty : ValueType). IsTypedChain spec c ty)
    by None e = λ chain.
        let (x, m, n) = contains-map (λ (x : Typed1). name_of x.name) spec.chains c (contains-test c (map (λ (x : Typed1). name_of x.name) spec.chains) chain) in
        table.all c e x.ty (x, m, (n, refl))
    by (Some ty) e = let (x, m, g) = table.only c ty e in (x, m, g.0, g.1)

-- the tables as they were checked
module _ (t : Tables) (env texts : Environment) (is : AreTablesOf env t) (none : (at : ℕ) → IsKindClash t.spec texts at → ⊥) where
  abbrev IsRow : ℕ → SymbolRow → Type 0
  IsRow s row = IsRowOf t.spec env (named_symbols t) s row

  -- ---- attributes

  -- an attribute in a row is a written one
  pub written-in : (row : SymbolRow) (attr : FlatAttr) → Contains t.symbols row → Contains row.attrs attr → IsWrittenAttribute t.spec row.name.0 attr
  written-in row attr m ma = elim (row-of t env is row m) [
    | inl of ↦ All-contains (IsWrittenAttribute t.spec row.name.0) row.attrs attr of.attrs.each ma
    | inr cell ↦ absurd (contains-nil attr (subst (λ attrs. Contains attrs attr) cell.1 ma))
  ]

  -- an attribute of a symbol stands in its row
  pub in-row : (s a : ℕ) → Has t.spec s a → (row : SymbolRow) × (attr : FlatAttr) × Contains t.symbols row × IsRow s row × Contains row.attrs attr × (attr.name.0 ≡ a)
  in-row s a has =
      let (row, m, of) = row-at t env is s (has-numbered t.spec env (named_symbols t) is.numbers s a has) in
      let (attr, ma, n) = of.attrs.all a has in
      (row, attr, m, of, ma, n)

  module _ (types : ℕ × ℕ → Option ValueType) (table : IsTableOf (OfSome GivesAttribute t.symbols) types) where
    pub attribute-typed : (s a : ℕ) (ty : ValueType) → types (s, a) ≡ Some ty → HasType t.spec s a ty
    attribute-typed s a ty e =
        let (row, m, (attr, ma, is)) = table.only (s, a) ty e in
        subst (λ u. HasType t.spec s a u) is.2 (subst (λ z. HasType t.spec s z attr.ty) is.1 (subst (λ z. HasType t.spec z attr.name.0 attr.ty) is.0 (written-in row attr m ma).ty))

    pub attribute-there : (s a : ℕ) → types (s, a) ≡ None → ¬ Has t.spec s a
    attribute-there s a e has = let (row, attr, m, of, ma, n) = in-row s a has in table.all (s, a) e attr.ty (row, m, (attr, ma, (of.name, n, refl)))

    pub attribute-types : (s a : ℕ) → MatchOption (types (s, a)) (Has t.spec s a → ⊥) (λ (ty : ValueType). HasType t.spec s a ty)
    attribute-types s a = by (types (s, a)) refl
      where
        by : (o : Option ValueType) → types (s, a) ≡ o → MatchOption o (Has t.spec s a → ⊥) (λ (ty : ValueType). HasType t.spec s a ty)
        by None e = attribute-there s a e
        by (Some ty) e = attribute-typed s a ty e

  -- ---- what symbols are

  no-class : (s : ℕ) (ty : ValueType) → IsClass t.spec s → IsTerminal t.spec s ty → ⊥
  no-class s ty c (n, inl (x, mx, e, u)) = none x.name.at (clash.faulty_term x mx refl (inl (subst (IsClass t.spec) (sym e) c)))
  no-class s ty c (n, inr h) = let (r, x, mr, mx, e) = right-named t.spec s h.0 in none x.at (clash.class_in_production r x mr mx (subst (IsClass t.spec) (sym e) c) refl)

  nonterminal-class : (s : ℕ) (c : SymbolClass) → IsSymbolClass t.spec env (named_symbols t) s c → IsNonterminal t.spec s → c ≡ class.Nonterminal
  nonterminal-class s class.Nonterminal h n = refl
  nonterminal-class s (class.Terminal ty) h n = absurd (h.0 n)
  nonterminal-class s class.Class h n = let (r, x, mr, mx, e) = left-named t.spec s n in absurd (none x.at (clash.class_in_production r x mr mx (subst (IsClass t.spec) (sym e) h) refl))
  nonterminal-class s class.Cell h n = absurd h

  pub nonterminal-row : (s : ℕ) → IsNonterminal t.spec s → (row : SymbolRow) × Contains t.symbols row × (row.name.0 ≡ s) × (row.class ≡ class.Nonterminal)
  nonterminal-row s n =
      let (row, m, of) = row-at t env is s (nonterminal-numbered t.spec env (named_symbols t) is.numbers s n) in
      (row, m, of.name, nonterminal-class s row.class of.class n)

  pub row-nonterminal : (row : SymbolRow) → Contains t.symbols row → row.class ≡ class.Nonterminal → IsNonterminal t.spec row.name.0
  row-nonterminal row m e = elim (row-of t env is row m) [
    | inl of ↦ subst (λ c. IsSymbolClass t.spec env (named_symbols t) row.name.0 c) e of.class
    | inr cell ↦ (let f : class.Nonterminal ≡ class.Cell = sym e ∙ cell.0 in cc)
  ]

  -- ---- terminals

  module _ (types : ℕ → Option ValueType) (table : IsTableOf (OfSome GivesTerminal t.symbols) types) where
    terminal-there : (s : ℕ) → types s ≡ None → (ty : ValueType) → IsTerminal t.spec s ty → ⊥
    terminal-there s e ty h = let (row, m, of) = row-at t env is s (terminal-numbered t.spec env (named_symbols t) is.numbers s ty h) in by row m of.name row.class refl of.class
      where
        by : (row : SymbolRow) → Contains t.symbols row → row.name.0 ≡ s → (c : SymbolClass) → row.class ≡ c → IsSymbolClass t.spec env (named_symbols t) s c → ⊥
        by row m n class.Nonterminal f k = h.0 k
        by row m n (class.Terminal u) f k = table.all s e u (row, m, (n, f))
        by row m n class.Class f k = no-class s ty k h
        by row m n class.Cell f k = k

    terminal-typed : (s : ℕ) (ty : ValueType) → types s ≡ Some ty → IsTerminal t.spec s ty
    terminal-typed s ty e = let (row, m, g) = table.only s ty e in subst (λ z. IsTerminal t.spec z ty) g.0 (by row m g.1 (row-of t env is row m))
      where
        by : (row : SymbolRow) → Contains t.symbols row → row.class ≡ class.Terminal ty → IsRow row.name.0 row ⊎ ((row.class ≡ class.Cell) × (row.attrs ≡ [])) → IsTerminal t.spec row.name.0 ty
        by row m f (inl of) = subst (λ c. IsSymbolClass t.spec env (named_symbols t) row.name.0 c) f of.class
        by row m f (inr cell) = let g : class.Terminal ty ≡ class.Cell = sym f ∙ cell.0 in cc

    pub terminal-types : (s : ℕ) → MatchOption (types s) ((ty : ValueType) → IsTerminal t.spec s ty → ⊥) (λ (ty : ValueType). IsTerminal t.spec s ty)
    terminal-types s = by (types s) refl
      where
        by : (o : Option ValueType) → types s ≡ o → MatchOption o ((ty : ValueType) → IsTerminal t.spec s ty → ⊥) (λ (ty : ValueType). IsTerminal t.spec s ty)
        by None e = terminal-there s e
        by (Some ty) e = terminal-typed s ty e
