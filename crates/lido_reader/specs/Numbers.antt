-- The numbers of computations and CONSTITUENTS, each with the place where it begins, and the places of INCLUDINGs.
use Rattle.std.specs.Prelude.{ℕ, ◌<◌, ◌⊎◌, List, [], ◌∷◌, ◌++◌, flat_map}
use Rattle.lido_lexer.specs.declared.token.Token.{Token}
use Rattle.lido_syntax.specs.declared.spec.Comp.{Comp}
use Rattle.lido_syntax.specs.declared.spec.Expr.{Expr, Including, Constituents}
use Rattle.lido_syntax.specs.declared.spec.RuleItem.{RuleItem}
use Rattle.lido_syntax.specs.declared.spec.SymbolItem.{SymbolItem}
use Rattle.lido_syntax.specs.declared.spec.Spec.{Spec}
use Rattle.lido_syntax.specs.Parts.{parts, expressions_of}

-- a number, and the place that has it
abbrev pub Numbered : Type 0
Numbered = ℕ × ℕ

abbrev pub number_of_part : Expr → List Numbered
number_of_part (Constituents k) = (k.number, k.at) ∷ []
number_of_part _ = []

-- the CONSTITUENTS of an expression, from the left
abbrev pub numbers_in : Expr → List Numbered
numbers_in e = flat_map number_of_part (parts e)

-- a computation, and the CONSTITUENTS within it
abbrev pub numbers_of : Comp → List Numbered
numbers_of c = (c.number, c.at) ∷ flat_map numbers_in (expressions_of c)

-- those of all rules, then those of all symbols
abbrev pub all_numbers : Spec → List Numbered
all_numbers spec = flat_map (λ (r : RuleItem). flat_map numbers_of r.body) spec.rules ++ flat_map (λ (s : SymbolItem). flat_map numbers_of s.body) spec.symbols

-- the place of an INCLUDING
abbrev pub including_of_part : Expr → List ℕ
including_of_part (Including at pairs) = at ∷ []
including_of_part _ = []

-- the INCLUDINGs of an expression, from the left
abbrev pub includings_in : Expr → List ℕ
includings_in e = flat_map including_of_part (parts e)

-- those within a computation
abbrev pub includings_of : Comp → List ℕ
includings_of c = flat_map includings_in (expressions_of c)

-- those of all rules, then those of all symbols
abbrev pub all_includings : Spec → List ℕ
all_includings spec = flat_map (λ (r : RuleItem). flat_map includings_of r.body) spec.rules ++ flat_map (λ (s : SymbolItem). flat_map includings_of s.body) spec.symbols

-- the first has the smaller number, and stands in front
pub record IsInFront (x y : Numbered) : Type 0 where
  pub smaller : x.0 < y.0
  pub earlier : x.1 < y.1

-- their numbers differ, and are in the order of their places
abbrev pub AreApart : Numbered → Numbered → Type 0
AreApart x y = IsInFront x y ⊎ IsInFront y x

-- the one token begins in front of the other
abbrev pub IsEarlier : Token → Token → Type 0
IsEarlier t u = t.from < u.from
