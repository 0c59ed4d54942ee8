-- The functions that a name calls: LIDO's operators and functions, PTG's text functions, and those of the patterns.
use Rattle.std.specs.Prelude.{ℕ, suc, List, [], ◌∷◌, ◌++◌, Option, Some, None, slice_get, unwrap_or, option_map, find, if◌then◌else◌, codes}
use Rattle.std.specs.Str.{bytes_eq}
use Rattle.lido_base.specs.declared.value.BadKind.{BadKind}
use Rattle.lido_base.specs.declared.operation.Op.{Op}
use Rattle.lido_base.specs.declared.operation.Op.TheVariants as op
use Rattle.lido_base.specs.declared.pattern.Pattern.{Pattern}
use Rattle.lido_base.specs.Plain.{Plain, Void}
use Rattle.lido_base.specs.Environment.{Environment}
use Rattle.lido_base.specs.Operations.{operate, unless_bad, chosen, last}

-- the operation of each function name but those of patterns
abbrev pub operation_names : List (List ℕ × Op)
operation_names =
    (codes "ADD", op.Add) ∷ (codes "SUB", op.Sub) ∷ (codes "MUL", op.Mul) ∷ (codes "DIV", op.Div) ∷ (codes "MOD", op.Mod)
    ∷ (codes "NEG", op.Neg) ∷ (codes "AND", op.And) ∷ (codes "OR", op.Or) ∷ (codes "NOT", op.Not) ∷ (codes "EQ", op.Eq)
    ∷ (codes "NE", op.Ne) ∷ (codes "LT", op.Lt) ∷ (codes "LE", op.Le) ∷ (codes "GT", op.Gt) ∷ (codes "GE", op.Ge)
    ∷ (codes "IDENTICAL", op.Identical) ∷ (codes "ZERO", op.Zero) ∷ (codes "ONE", op.One) ∷ (codes "ARGTOONE", op.ArgToOne)
    ∷ (codes "PTGNULL", op.Null) ∷ (codes "PTGNull", op.Null) ∷ (codes "PTGNumb", op.Numb) ∷ (codes "PTGAsIs", op.AsIs) ∷ (codes "PTGSeq", op.Seq) ∷ []

module _ (env : Environment) where
  -- the text of an id
  abbrev pub text_of : ℕ → List ℕ
  text_of id = unwrap_or (slice_get env.texts id) []

  -- a pattern's function has PTG before the pattern's name
  abbrev pub pattern_names : ℕ → List Pattern → List (List ℕ × Op)
  pattern_names k [] = []
  pattern_names k (pattern ∷ more) = (codes "PTG" ++ text_of pattern.name.0, op.Pattern k) ∷ pattern_names (suc k) more

  -- the operation that has this name
  abbrev pub operation_of : List ℕ → Option Op
  operation_of name = option_map (λ (o : List ℕ × Op). o.1) (find (λ (o : List ℕ × Op). bytes_eq o.0 name) (operation_names ++ pattern_names 0 env.patterns))

  -- what an operation gives for these values; an unknown one gives Void
  abbrev pub operated : Option Op → (BadKind → Plain) → List Plain → Plain
  operated None fails vs = Void
  operated (Some o) fails vs = operate env.texts env.patterns fails o vs

  -- What a call of the name gives for the values of its arguments, where `fails` makes the Bad value of an operation that fails first.
  abbrev pub called : ℕ → (BadKind → Plain) → List Plain → Plain
  called id fails vs =
      if bytes_eq (text_of id) (codes "IF") then chosen vs
      else if bytes_eq (text_of id) (codes "ORDER") then unless_bad vs (last vs)
      else operated (operation_of (text_of id)) fails vs
