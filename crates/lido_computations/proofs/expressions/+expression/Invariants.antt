use Rattle.std.proofs.Common.{length, ◌+◌, ◌*◌, ◌-◌, ◌<◌, ◌≤◌, ℕ, List}
use Rattle.lido_base.specs.Reading.{Finds, Leads}
use Rattle.lido_base.specs.Texts.{IsDistinctTexts}
use Rattle.lido_lexer.specs.Lexing.{Gains}
use Rattle.lido_computations.specs.Expressions.{AreFurther, AreSome, IsExpr, continues}
use Rattle.lido_computations.specs.Parts.{continues_list}
use Rattle.lido_computations.specs.Functions.{Keeps}
use Rattle.lido_computations.proofs.expressions.+expression.Given as goal

abbrev pub decreases-expression : goal.decreases-expression
decreases-expression l = 16 * length l.tokens.now + (9 - l.level)

abbrev pub decreases-operands : goal.decreases-operands
decreases-operands l = 16 * length l.tokens.now

abbrev pub decreases-unary : goal.decreases-unary
decreases-unary l = 16 * length l.tokens.now + 2

abbrev pub decreases-primary : goal.decreases-primary
decreases-primary l = 16 * length l.tokens.now + 1

abbrev pub decreases-counted : goal.decreases-counted
decreases-counted l = 16 * length l.tokens.now + 12

abbrev pub decreases-parenthesized : goal.decreases-parenthesized
decreases-parenthesized l = 16 * length l.tokens.now + 10

abbrev pub decreases-choice : goal.decreases-choice
decreases-choice l = 16 * length l.tokens.now

abbrev pub decreases-order : goal.decreases-order
decreases-order l = 16 * length l.tokens.now

abbrev pub decreases-named : goal.decreases-named
decreases-named l = 16 * length l.tokens.now

abbrev pub decreases-called : goal.decreases-called
decreases-called l = 16 * length l.tokens.now + 11

abbrev pub decreases-some_expressions : goal.decreases-some_expressions
decreases-some_expressions l = 16 * length l.tokens.now + 10

abbrev pub invariant-some_expressions-loop-more : goal.invariant-some_expressions-loop-more
invariant-some_expressions-loop-more l = record {
  leads : (texts : List (List ℕ)) → Gains l.strings texts → IsDistinctTexts texts → Leads (AreFurther texts (l.found.items, l.left)) continues_list l.rest (AreSome texts l.fn.counts) continues_list l.tokens;
  shorter : length l.rest < length l.tokens;
  kept : Gains l.fn.strings l.strings;
  same : Keeps l.fn.strings l.strings;
  left : length l.strings + length l.rest ≤ length l.fn.strings + length l.tokens;
}

abbrev pub decreases-some_expressions-loop-more : goal.decreases-some_expressions-loop-more
decreases-some_expressions-loop-more l = length l.rest

abbrev pub invariant-expression-loop-at : goal.invariant-expression-loop-at
invariant-expression-loop-at l = record {
  found : (texts : List (List ℕ)) → Gains l.strings texts → IsDistinctTexts texts → Finds (IsExpr texts l.at l.fn.counts) (continues l.at) l.tokens (l.tree, l.left) l.rest;
  above : l.level ≤ l.at;
  below : l.at ≤ 6;
  shorter : length l.rest < length l.tokens;
  kept : Gains l.fn.strings l.strings;
  same : Keeps l.fn.strings l.strings;
  left : length l.strings + length l.rest ≤ length l.fn.strings + length l.tokens;
}

abbrev pub decreases-expression-loop-at : goal.decreases-expression-loop-at
decreases-expression-loop-at l = l.at
