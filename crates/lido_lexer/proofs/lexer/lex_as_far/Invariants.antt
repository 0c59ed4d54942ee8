use Rattle.std.proofs.Common.{◌≡◌, ◌+◌, ◌≤◌, length, map, All}
use Rattle.lido_base.specs.Texts.{Gains, interned}
use Rattle.lido_lexer.specs.Lexing.{HasText, IsInOrder, place, shown_in}
use Rattle.lido_lexer.specs.Tables.{texts_in}
use Rattle.lido_lexer.specs.declared.token.Token.{Token}
use Rattle.lido_lexer.proofs.Reading.{IsReading}
use Rattle.lido_lexer.proofs.lexer.lex_as_far.Given as goal

abbrev pub invariant-loop-left : goal.invariant-loop-left
invariant-loop-left l = record {
  reading : IsReading l.text l.strings l.tokens.items l.left;
  ids : All (λ (token : Token). HasText (length l.strings) token.what) l.tokens.items;
  in_order : IsInOrder 0 (place (length l.text) l.left) l.tokens.items;
  count : length l.tokens.items + length l.left ≤ length l.text;
  table : l.strings ≡ interned l.initial.strings (texts_in (map (shown_in l.strings) l.tokens.items));
  kept : Gains l.initial.strings l.strings;
  few : length l.strings + length l.left ≤ length l.initial.strings + length l.text;
}

abbrev pub decreases-loop-left : goal.decreases-loop-left
decreases-loop-left l = length l.left
