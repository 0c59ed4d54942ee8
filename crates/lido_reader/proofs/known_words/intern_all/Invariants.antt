use Rattle.std.proofs.Common.{◌≡◌, ℕ, List, take, map}
use Rattle.std.specs.Borrow.{Bor}
use Rattle.lido_lexer.specs.Lexing.{Gains}
use Rattle.lido_lexer.specs.Tables.{interned}
use Rattle.lido_reader.proofs.known_words.intern_all.Given as goal

abbrev pub invariant-loop-name : goal.invariant-loop-name
invariant-loop-name l = record {
  table : l.strings ≡ interned l.fn.strings (map (λ (name : Bor (List ℕ)). name.now) (take l.name-index l.names));
  kept : Gains l.fn.strings l.strings;
}
