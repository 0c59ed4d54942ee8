-- LINE and COL in rules with and without a symbol of that name, and in a symbol's computation:
--   RULE rTop: Top ::= Here There Lines END;
--   RULE rHere: Here ::= 'x' COMPUTE Here.v = LINE; Here.w = COL; END;
--   RULE rThere: There ::= LINE COMPUTE There.v = LINE; There.w = COL; END;
--   SYMBOL There COMPUTE SYNT.u = LINE; END;
--   RULE rLines: Lines LISTOF LINE END;
use Rattle.std.specs.Prelude.{◌≡◌, ℕ, pos, [], ◌∷◌}
use Rattle.lido_base.specs.Plain.{Plain, Int}
use Rattle.lido_base.specs.Tree.{Tree, Child, Leaf}
use Rattle.lido_syntax.specs.declared.spec.Spec.{Spec}
use Rattle.lido_syntax.specs.declared.spec.Expr.{Expr}
use Rattle.lido_syntax.specs.declared.spec.Place.TheVariants as place
use Rattle.lido_syntax.specs.declared.spec.RuleItem.{RuleItem}
use Rattle.lido_syntax.specs.Assignment.{Assignment}
use Rattle.lido_syntax.specs.Computation.{Holder}
use Rattle.lido_syntax.specs.Sets.{Sets}
use Rattle.lido_syntax.specs.Value.{value}
use Rattle.trials_of_syntax.specs.Writing.{env_of_messages, terminal, named, attr, comp, plain_rule, list_rule, symbol_item, root, node, placed, LINE, COL}
use Rattle.std.specs.Prelude.{false}

abbrev pub Top : ℕ
Top = 20

abbrev pub Here : ℕ
Here = 21

abbrev pub There : ℕ
There = 22

abbrev pub Lines : ℕ
Lines = 23

abbrev pub here_rule : RuleItem
here_rule = plain_rule Here [] (comp 0 (attr (named Here) 30) (terminal LINE) ∷ comp 1 (attr (named Here) 31) (terminal COL) ∷ [])

abbrev pub there_rule : RuleItem
there_rule = plain_rule There (LINE ∷ []) (comp 2 (attr (named There) 30) (terminal LINE) ∷ comp 3 (attr (named There) 31) (terminal COL) ∷ [])

abbrev pub lines_rule : RuleItem
lines_rule = list_rule Lines (LINE ∷ []) []

abbrev pub spec : Spec
spec = record {
  rules = plain_rule Top (Here ∷ There ∷ Lines ∷ []) [] ∷ here_rule ∷ there_rule ∷ lines_rule ∷ [];
  symbols = symbol_item false There [] (comp 4 (attr place.Synt 32) (terminal LINE) ∷ []) ∷ [];
  attrs = [];
  terms = [];
  chains = [];
}

-- (rTop@1:1 (rHere@3:7) (rThere@4:9 40) (rLines@5:2))
abbrev pub tree : Tree Plain
tree = placed 1 1 (root 0 (Child 1 ∷ Child 2 ∷ Child 3 ∷ [])) ∷ placed 3 7 (node 1 0 1 []) ∷ placed 4 9 (node 2 0 2 (Leaf (Int (pos 40)) ∷ [])) ∷ placed 5 2 (node 3 0 3 []) ∷ []

-- in a computation of that holder at the node, whose rule is r, the expression has this value
abbrev pub HasValue : Holder → RuleItem → ℕ → Expr → Plain → Type 0
HasValue h r n e v = (sets : Sets spec) (A : Assignment) (number : ℕ) (tail : ℕ → Plain) → value spec sets env_of_messages tree A h r number n tail e ≡ v
