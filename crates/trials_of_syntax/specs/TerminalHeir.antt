-- A terminal that inherits a listed class.
--   CLASS SYMBOL C END; SYMBOL T INHERITS C END;
--   RULE rTop: Top ::= X END; RULE rX: X ::= T END;
-- CONSTITUENTS C.a WITH (int, DIV, IDENTICAL, ZERO) at Top
use Rattle.std.specs.Prelude.{pos, true, false, [], ◌∷◌}
use Rattle.lido_base.specs.declared.value.ValueType.TheVariants as type
use Rattle.lido_base.specs.Plain.{Plain, Int}
use Rattle.lido_base.specs.Tree.{Tree, Child, Leaf}
use Rattle.lido_syntax.specs.declared.spec.Spec.{Spec}
use Rattle.lido_syntax.specs.declared.spec.Cons.{Cons}
use Rattle.lido_syntax.specs.declared.spec.With.{With}
use Rattle.trials_of_syntax.specs.Writing.{plain_rule, symbol_item, constituents, root, node, name, DIV, IDENTICAL, ZERO}

abbrev pub spec : Spec
spec = record { rules = plain_rule 20 (21 ∷ []) [] ∷ plain_rule 21 (22 ∷ []) [] ∷ []; symbols = symbol_item true 23 [] [] ∷ symbol_item false 22 (23 ∷ []) [] ∷ []; attrs = []; terms = []; chains = [] }

abbrev pub with : With
with = record { ty = type.Int; comb = name DIV; single = name IDENTICAL; null = name ZERO }

abbrev pub k : Cons
k = constituents 1 23 30 [] with

-- (rTop (rX 5))
abbrev pub tree : Tree Plain
tree = root 0 (Child 1 ∷ []) ∷ node 1 0 1 (Leaf (Int (pos 5)) ∷ []) ∷ []
