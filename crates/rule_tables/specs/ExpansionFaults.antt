-- The faults of the expansions. A path in a fault leads from the root along the edges along which a symbol needs what is missing.
use Rattle.std.specs.Prelude.{◌≡◌, ℕ, ◌+◌, ◌⊎◌, nat_eq, IsTrue, List, [], ◌∷◌, ◌++◌, flat_map, length, None, Some, slice_get, codes, Contains}
use Rattle.std.specs.List.{AllZip}
use Rattle.lido_base.specs.Reach.{IsLeastPath}
use Rattle.lido_base.specs.Faults.{IsLeastPlace, AtPlace}
use Rattle.lido_base.specs.Environment.{Environment}
use Rattle.lido_base.specs.declared.ids.StrId.{StrId}
use Rattle.lido_base.specs.declared.value.ValueType.{ValueType}
use Rattle.lido_base.specs.declared.value.ValueType.TheVariants as type
use Rattle.lido_syntax.specs.declared.fault.SpecFault.{SpecFault}
use Rattle.lido_syntax.specs.declared.fault.SpecFault.TheVariants as fault
use Rattle.lido_syntax.specs.declared.spec.Spec.{Spec}
use Rattle.lido_syntax.specs.declared.spec.Comp.{Comp}
use Rattle.lido_syntax.specs.declared.spec.Cons.{Cons}
use Rattle.lido_syntax.specs.declared.spec.Expr.{Expr, Constituents}
use Rattle.lido_syntax.specs.declared.spec.Pair.{Pair}
use Rattle.lido_syntax.specs.declared.spec.RuleItem.{RuleItem}
use Rattle.lido_syntax.specs.Parts.{leaves, conditions}
use Rattle.lido_syntax.specs.Symbols.{IsNonterminal, IsRoot}
use Rattle.lido_syntax.specs.Including.{listed}
use Rattle.lido_syntax.specs.Attributes.{HasType}
use Rattle.lido_syntax.specs.Functions.{text_of}
use Rattle.lido_symbols.specs.Uses.{computations}
use Rattle.rule_tables.specs.PlainRules.{lists}
use Rattle.rule_tables.specs.Needs.{Tables, Needs, uses_including, passes_including, uses_chain, passes_chain}
use Rattle.rule_tables.specs.Slots.{chains}

-- what a computation's value is made of beneath its calls, and a message's condition: not what stands behind `<-`
abbrev pub leaves_of_value : Comp → List Expr
leaves_of_value c = flat_map leaves (conditions c.target ++ c.value ∷ [])

module _ (spec : Spec) (env : Environment) (T : Tables spec) where
  -- the root has this number
  abbrev pub IsRootNumber : ℕ → Type 0
  IsRootNumber x = (s : ℕ) × IsRoot spec s × (slice_get T.symbols x ≡ Some s)

  -- a list's cell has this number, and its name is `$` and that of its rule
  pub record IsCellNamed (x : ℕ) (name : StrId) : Type 0 where
    pub k : ℕ
    pub i : ℕ
    pub rule : RuleItem
    pub of_list : slice_get (lists spec T.symbols) k ≡ Some i
    pub of_rule : slice_get spec.rules i ≡ Some rule
    pub number : x ≡ length T.symbols + k
    pub its_name : text_of env name.0 ≡ codes "$" ++ text_of env rule.name.0

  -- the symbol or cell of this number has this name
  abbrev pub IsNameOf : ℕ → StrId → Type 0
  IsNameOf x name = (slice_get T.symbols x ≡ Some name.0) ⊎ IsCellNamed x name

  -- NoWith: a CONSTITUENTS of the text without WITH, and not behind `<-`, lists for some nonterminal an attribute that isn't VOID
  pub record IsWithoutWith (at : ℕ) : Type 0 where
    pub comp : Comp
    pub constituents : Cons
    pub s : ℕ
    pub a : ℕ
    pub ty : ValueType
    pub of_text : Contains (computations spec) comp
    pub in_value : Contains (leaves_of_value comp) (Constituents constituents)
    pub without : constituents.with ≡ None
    pub nonterminal : IsNonterminal spec s
    pub source : listed spec T.sets constituents.pairs s ≡ Some a
    pub its_type : HasType spec s a ty
    pub not_void : ty ≡ type.Void → ⊥
    pub place : at ≡ constituents.at

  abbrev pub IsNoWith : SpecFault → Type 0
  IsNoWith = AtPlace (λ at. fault.NoWith at) IsWithoutWith

  module _ (needs : Needs spec T) where
    -- NoIncluding: the root needs an INCLUDING; the set of the least number, by the least of the shortest paths
    pub record IsNoIncluding (f : SpecFault) : Type 0 where
      pub root : ℕ
      pub its_root : IsRootNumber root
      pub i : ℕ
      pub pairs : List Pair
      pub least : IsLeastPlace (λ j. (other : List Pair) × (slice_get T.includings j ≡ Some other) × IsTrue (needs.including other root)) i
      pub of_number : slice_get T.includings i ≡ Some pairs
      pub numbers : List ℕ
      pub least_path : IsLeastPath (nat_eq root) (uses_including spec T pairs) (passes_including spec T pairs) numbers
      pub path : List StrId
      pub names : AllZip IsNameOf numbers path
      pub fault : f ≡ fault.NoIncluding path

    -- ChainNoStart: the root needs a chain; the first that is declared, by the least of the shortest paths
    pub record IsChainNoStart (f : SpecFault) : Type 0 where
      pub root : ℕ
      pub its_root : IsRootNumber root
      pub i : ℕ
      pub chain : StrId
      pub least : IsLeastPlace (λ j. (c : ℕ) × (slice_get (chains spec T needs) j ≡ Some c) × IsTrue (needs.chain c root)) i
      pub of_number : slice_get (chains spec T needs) i ≡ Some chain.0
      pub numbers : List ℕ
      pub least_path : IsLeastPath (nat_eq root) (uses_chain spec T chain.0) (passes_chain spec T chain.0) numbers
      pub path : List StrId
      pub names : AllZip IsNameOf numbers path
      pub fault : f ≡ fault.ChainNoStart chain path

    -- the faults of the three expansions, in order
    abbrev pub expansion_faults : List (SpecFault → Type 0)
    expansion_faults = IsNoIncluding ∷ IsNoWith ∷ IsChainNoStart ∷ []
