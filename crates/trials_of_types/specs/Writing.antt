-- Expressions, as they are written, over the texts of their functions' names.
use Rattle.std.specs.Prelude.{ℕ, List, [], ◌∷◌, Bool, Option, None, pos, codes}
use Rattle.lido_base.specs.declared.value.ValueType.TheVariants as type
use Rattle.lido_syntax.specs.declared.spec.Comp.{Comp}
use Rattle.lido_syntax.specs.declared.spec.Pair.{Pair}
use Rattle.lido_syntax.specs.declared.spec.Spec.{Spec}
use Rattle.lido_syntax.specs.declared.spec.Severity.{Severity}
use Rattle.lido_syntax.specs.declared.spec.Target.TheVariants as target
use Rattle.lido_base.specs.Environment.{Environment}
use Rattle.lido_syntax.specs.declared.spec.Name.{Name}
use Rattle.lido_syntax.specs.declared.spec.Expr.{Expr}
use Rattle.lido_syntax.specs.declared.spec.Expr.TheVariants as expression

-- a name with this id
abbrev pub named : ℕ → Name
named id = record { at = 0; id = record { 0 = id } }

abbrev pub number : ℕ → Expr
number n = expression.Int 0 (pos n)

abbrev pub string : Expr
string = expression.Str 0 (record { 0 = 0 })

abbrev pub truth : Bool → Expr
truth b = expression.Bool 0 b

abbrev pub call : ℕ → List Expr → Expr
call id args = expression.Call (named id) args

-- the names' texts: their places here are the ids
abbrev pub functions : Environment
functions = record { texts = codes "IF" ∷ codes "ORDER" ∷ codes "ADD" ∷ codes "NEG" ∷ codes "LINE" ∷ []; patterns = [] }

-- the attribute of symbol 0 that has this id
abbrev pub pair : ℕ → Pair
pair a = record { sym = named 0; attr = named a }

-- ATTR gives attribute 0 the type int and attribute 1 the type string, and chain 2 is VOID.
abbrev pub declared : Spec
declared = record {
  rules = [];
  symbols = [];
  attrs = record { attr = named 0; ty = type.Int; kind = None } ∷ record { attr = named 1; ty = type.Str; kind = None } ∷ [];
  terms = [];
  chains = record { name = named 2; ty = type.Void } ∷ [];
}

-- a plain computation with this condition and this text
abbrev pub message : Option Expr → Expr → Comp
message condition text = record { at = 0; number = 0; target = target.Message Severity.Note condition; value = text; after = [] }
