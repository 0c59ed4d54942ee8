-- What a specification that was read from a text has beside its form: places tell names and declarations, and places and numbers
-- tell computations and remote lists; chains stand one behind the other; lists that need an element have one. A text has fewer than
-- 2^32 bytes, and so fewer rules, chains and INCLUDINGs.
use Rattle.std.specs.Prelude.{◌≡◌, ℕ, ◌<◌, ◌^◌, ◌⊎◌, false, true, List, ◌++◌, map, flat_map, length, All, AllPairs, Contains}
use Rattle.lido_syntax.specs.declared.spec.Spec.{Spec}
use Rattle.lido_syntax.specs.declared.spec.Name.{Name}
use Rattle.lido_syntax.specs.declared.spec.Decl.{Decl}
use Rattle.lido_syntax.specs.declared.spec.Cons.{Cons}
use Rattle.lido_syntax.specs.declared.spec.Pair.{Pair}
use Rattle.lido_syntax.specs.declared.spec.Comp.{Comp}
use Rattle.lido_syntax.specs.declared.spec.Typed1.{Typed1}
use Rattle.lido_syntax.specs.declared.spec.RuleItem.{RuleItem}
use Rattle.lido_syntax.specs.declared.spec.SymbolItem.{SymbolItem}
use Rattle.lido_syntax.specs.Parts.{leaves_of}
use Rattle.lido_symbols.specs.Uses.{computations, all_includings, all_constituents, production_names, symbols_of_computation, attributes_of_target, attributes_in, declarations, declared_names, all_functions}

-- the names that stand as symbols, or bare, in a rule and in a SYMBOL item
abbrev pub names_of_rule : RuleItem → List Name
names_of_rule r = production_names r ++ flat_map (symbols_of_computation (λ x i. false)) r.body

abbrev pub names_of_item : SymbolItem → List Name
names_of_item item = item.names ++ item.inherits ++ flat_map (symbols_of_computation (λ x i. false)) item.body

module _ (spec : Spec) where
  -- the names of the text that are symbols, bare words, attributes or chains
  abbrev pub all_names : List Name
  all_names = flat_map names_of_rule spec.rules ++ flat_map names_of_item spec.symbols ++ map (λ (x : Typed1). x.name) spec.terms
      ++ declared_names spec ++ flat_map (λ (c : Comp). attributes_of_target c.target ++ flat_map attributes_in (leaves_of c)) (computations spec)
      ++ map (λ (x : Typed1). x.name) spec.chains

  -- Of two numbers with their places the one has the smaller number and stands in front.
  abbrev pub AreApart : ℕ × ℕ → ℕ × ℕ → Type 0
  AreApart x y = ((x.0 < y.0) × (x.1 < y.1)) ⊎ ((y.0 < x.0) × (y.1 < x.1))

  pub record IsFromText : Type 0 where
    pub one_name : (x y : Name) → Contains all_names x → Contains all_names y → x.at ≡ y.at → x ≡ y
    pub one_function : (f g : Name) → Contains (all_functions spec) f → Contains (all_functions spec) g → f.at ≡ g.at → f ≡ g
    pub one_declaration : (d e : Decl) → Contains (declarations spec) d → Contains (declarations spec) e → d.attr.at ≡ e.attr.at → d ≡ e
    pub one_term : (x y : Typed1) → Contains spec.terms x → Contains spec.terms y → x.name.at ≡ y.name.at → x ≡ y
    pub chains_in_order : AllPairs (λ (x y : Typed1). x.name.at < y.name.at) spec.chains
    pub computations_apart : AllPairs (λ (c d : Comp). AreApart (c.number, c.at) (d.number, d.at)) (computations spec)
    pub constituents_apart : AllPairs (λ (x y : ℕ × Cons). AreApart (x.0, x.1.at) (y.0, y.1.at)) (all_constituents spec)
    pub both_apart : (c : Comp) (k : ℕ × Cons) → Contains (computations spec) c → Contains (all_constituents spec) k → AreApart (c.number, c.at) (k.0, k.1.at)
    pub includings_apart : AllPairs (λ (x y : ℕ × List Pair). x.0 ≡ y.0 → ⊥) (all_includings spec)
    pub about : All (λ (item : SymbolItem). 0 < length item.names) spec.symbols
    pub including_pairs : All (λ (x : ℕ × List Pair). 0 < length x.1) (all_includings spec)
    pub constituents_pairs : All (λ (x : ℕ × Cons). 0 < length x.1.pairs) (all_constituents spec)
    pub elements : (r : RuleItem) → Contains spec.rules r → r.list ≡ true → 0 < length r.right
    pub few_rules : length spec.rules < 2 ^ 32
    pub few_chains : length spec.chains < 2 ^ 32
    pub few_includings : length (all_includings spec) < 2 ^ 32
