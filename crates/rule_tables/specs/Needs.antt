-- Which symbols need an INCLUDING, are wanted by a CONSTITUENTS, or need a chain: least sets over plain rules.
use Rattle.std.specs.Prelude.{ℕ, ◌≤◌, ◌↔◌, Bool, true, false, not, ◌||◌, ◌&&◌, nat_eq, IsTrue, List, Option, Some, None, slice_get, option_and_then, is_some, zip, All, Contains}
use Rattle.std.specs.List.{list_any}
use Rattle.lido_base.specs.Tree.{contains}
use Rattle.lido_base.specs.Reach.{Reaches}
use Rattle.lido_syntax.specs.declared.spec.Spec.{Spec}
use Rattle.lido_syntax.specs.declared.spec.Pair.{Pair}
use Rattle.lido_syntax.specs.declared.spec.Cons.{Cons}
use Rattle.lido_syntax.specs.declared.spec.Expr.{Expr, Read}
use Rattle.lido_syntax.specs.declared.spec.Place.{Place}
use Rattle.lido_syntax.specs.declared.spec.Place.TheVariants as place
use Rattle.lido_base.specs.Environment.{Environment}
use Rattle.lido_syntax.specs.Parts.{leaves_of}
use Rattle.lido_syntax.specs.Production.{name_of}
use Rattle.lido_syntax.specs.Sets.{Sets, is_source, is_shield}
use Rattle.lido_syntax.specs.Including.{listed}
use Rattle.lido_syntax.specs.Computation.{Start, Behind}
use Rattle.lido_symbols.specs.Numbers.{AreNumbered}
use Rattle.lido_symbols.specs.Uses.{including_of, constituents_of, is_same_set, is_same_constituents, is_same_option, symbol_uses, attribute_uses, all_includings, all_constituents}
use Rattle.rule_tables.specs.PlainRules.{PlainRule, plain_rules, symbol_at, is_child}
use Rattle.rule_tables.specs.Forced.{Force, context_of, is_same_goal, force_for, AreForced}

-- What is numbered in a specification, and what is in force in its plain rules.
pub record Tables (spec : Spec) : Type 0 where
  pub sets : Sets spec
  pub symbols : List ℕ
  pub attributes : List ℕ
  pub includings : List (List Pair)
  pub constituents : List Cons
  pub forced : List (List Force)

module _ (spec : Spec) (T : Tables spec) where
  -- the plain rules, and each with what is in force in it
  abbrev pub rules : List PlainRule
  rules = plain_rules spec T.symbols

  abbrev pub ruled : List (PlainRule × List Force)
  ruled = zip rules T.forced

  -- the pairs stand at the first INCLUDING of their set
  abbrev pub IsFirstOfSet : List Pair → Type 0
  IsFirstOfSet pairs = (first : ℕ) × Contains (all_includings spec) (first, pairs)
      × ((at : ℕ) (other : List Pair) → Contains (all_includings spec) (at, other) → IsTrue (is_same_set spec T.sets other pairs) → first ≤ at)

  -- The numbers are those of the specification, a set is that of its first INCLUDING, and in force is what is there. Texts tell which bare names are coordinates.
  pub record AreTables (env : Environment) : Type 0 where
    pub symbols : AreNumbered nat_eq (symbol_uses spec env) T.symbols
    pub attributes : AreNumbered nat_eq (attribute_uses spec) T.attributes
    pub includings : AreNumbered (is_same_set spec T.sets) (all_includings spec) T.includings
    pub first_includings : All IsFirstOfSet T.includings
    pub constituents : AreNumbered is_same_constituents (all_constituents spec) T.constituents
    pub forced : AreForced spec rules T.forced

  -- what a test says of the symbol of a number, and of a cell it says no
  abbrev pub of_symbol : (ℕ → Bool) → ℕ → Bool
  of_symbol test x = elim (slice_get T.symbols x) [ None ↦ false | Some s ↦ test s ]

  -- the symbol is that of the context node
  abbrev pub is_at : PlainRule → Force → ℕ → Bool
  is_at p f x = is_same_option (symbol_at p (context_of f)) (Some x)

  -- a computation in force at the symbol passes the test
  abbrev pub in_force_at : (List Force → Force → Bool) → ℕ → Bool
  in_force_at test x = list_any (λ (t : PlainRule × List Force). list_any (λ f. is_at t.0 f x && test t.1 f) t.1) ruled

  -- INCLUDING: the attribute that the pairs give the symbol, and which symbols need it
  abbrev pub listed_at : List Pair → ℕ → Option ℕ
  listed_at pairs x = option_and_then (listed spec T.sets pairs) (slice_get T.symbols x)

  abbrev pub is_including : List Pair → Expr → Bool
  is_including pairs e = elim (including_of e) [ None ↦ false | Some i ↦ is_same_set spec T.sets i.1 pairs ]

  abbrev pub uses_including : List Pair → ℕ → Bool
  uses_including pairs = in_force_at (λ fs f. list_any (is_including pairs) (leaves_of f.comp))

  abbrev pub passes_including : List Pair → ℕ → ℕ → Bool
  passes_including pairs x y = not (is_some (listed_at pairs x)) && is_child rules x y

  abbrev pub NeedsIncluding : List Pair → ℕ → Type 0
  NeedsIncluding pairs = Reaches (uses_including pairs) (passes_including pairs)

  -- CONSTITUENTS: what is wanted below a use, and what can reach a source
  abbrev pub is_constituents : Cons → Expr → Bool
  is_constituents k e = elim (constituents_of e) [ None ↦ false | Some i ↦ is_same_constituents k i.1 ]

  abbrev pub uses_constituents : Cons → ℕ → Bool
  uses_constituents k = in_force_at (λ fs f. list_any (is_constituents k) (leaves_of f.comp))

  abbrev pub shield_at : Cons → ℕ → Bool
  shield_at k = of_symbol (is_shield spec T.sets.inherits k)

  abbrev pub source_at : Cons → ℕ → Bool
  source_at k = of_symbol (is_source spec T.sets.inherits k)

  abbrev pub IsWanted : Cons → ℕ → Type 0
  IsWanted k = Reaches (λ y. list_any (λ p. contains y p.right && uses_constituents k p.left) rules) (λ y x. is_child rules x y && not (shield_at k x))

  abbrev pub CanReach : Cons → ℕ → Type 0
  CanReach k = Reaches (source_at k) (λ x y. not (shield_at k x) && is_child rules x y)

  -- CHAIN: TAIL is a read where no start is in force in its rule
  abbrev pub has_start : List Force → ℕ → Bool
  has_start fs c = is_some (force_for fs 0 (Start c))

  abbrev pub is_tail : Place → Bool
  is_tail place.Tail = true
  is_tail _ = false

  abbrev pub is_read : List Force → ℕ → Expr → Bool
  is_read fs c (Read at p a) = nat_eq (name_of a) c && not (is_tail p && has_start fs c)
  is_read fs c _ = false

  abbrev pub uses_chain : ℕ → ℕ → Bool
  uses_chain c = in_force_at (λ fs f. is_same_goal f.goal (Behind c) || list_any (is_read fs c) (leaves_of f.comp))

  abbrev pub passes_chain : ℕ → ℕ → ℕ → Bool
  passes_chain c x y = list_any (λ (t : PlainRule × List Force). nat_eq t.0.left x && not (has_start t.1 c) && contains y t.0.right) ruled

  abbrev pub NeedsChain : ℕ → ℕ → Type 0
  NeedsChain c = Reaches (uses_chain c) (passes_chain c)

  -- tests that decide these sets; there are some for all tables, and any two agree
  pub record Needs : Type 0 where
    pub including : List Pair → ℕ → Bool
    pub including_exactly : (pairs : List Pair) (x : ℕ) → IsTrue (including pairs x) ↔ NeedsIncluding pairs x
    pub wanted : Cons → ℕ → Bool
    pub wanted_exactly : (k : Cons) (x : ℕ) → IsTrue (wanted k x) ↔ IsWanted k x
    pub reaches : Cons → ℕ → Bool
    pub reaches_exactly : (k : Cons) (x : ℕ) → IsTrue (reaches k x) ↔ CanReach k x
    pub chain : ℕ → ℕ → Bool
    pub chain_exactly : (c x : ℕ) → IsTrue (chain c x) ↔ NeedsChain c x
