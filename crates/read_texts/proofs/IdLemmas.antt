-- All names of a specification that was read are ids of the table that reading leaves.
use Rattle.std.specs.List.{All}
use Rattle.std.proofs.Common.{ℕ, ◌<◌, ◌≤◌, ◌^◌, List, length, length-append, ap, arith}
use Rattle.lido_base.specs.Texts.{Gains, interned}
use Rattle.lido_lexer.specs.Lexing.{HasText, IsInOrder}
use Rattle.lido_symbols.specs.FromText.{IsFromText}
use Rattle.lido_lexer.specs.declared.token.Token.{Token}
use Rattle.lido_syntax.specs.declared.spec.Spec.{Spec}
use Rattle.lido_computations.specs.Functions.{HasAll}
use Rattle.rule_tables.specs.RuleNames.{HasIds}
use Rattle.lido_reader.specs.Added.{rule_names}
use Rattle.lido_reader.specs.Known.{IsNameOf, IsIdOf, HasKnownId, HasKnownIds}
use Rattle.lido_reader.specs.Specification.{IsSpecOf}
use Rattle.lido_reader.proofs.KnownLemmas.{all_known}
use Rattle.lido_reader.proofs.AddedLemmas.{interned_gains, interned_has}
use Rattle.read_texts.proofs.FromTextLemmas.{read_is_from_text}
use Rattle.read_texts.proofs.OrderLemmas.{each_is_earlier, no_more_than_bytes, ids_known}
use Rattle.read_texts.proofs.NamesLemmas.{name_known, function_known, rule_known}

pub ids_of_texts : (texts : List (List ℕ)) (tokens : List Token) (spec : Spec) → All (HasKnownId texts) tokens → HasAll (rule_names 1 tokens) texts → IsSpecOf texts tokens spec → HasIds texts spec
ids_of_texts texts tokens spec known there p =
    let ids : HasKnownIds texts spec = all_known texts tokens spec known there p in
    record {
      names = name_known (IsNameOf texts) (IsNameOf texts) (IsIdOf texts) spec ids;
      functions = function_known (IsNameOf texts) (IsNameOf texts) (IsIdOf texts) spec ids (λ x k. k);
      rules = λ r m. (rule_known (IsNameOf texts) (IsNameOf texts) (IsIdOf texts) spec ids r m).called;
    }

no_fewer : {old new : List (List ℕ)} → Gains old new → length old ≤ length new
no_fewer {old} {new} g = omega (arith, ap length g.behind, length-append old g.added)

-- what the lexer and the reader leave
pub all_is_read : (old : List (List ℕ)) (tokens : List Token) (size : ℕ) (spec : Spec) → IsInOrder 0 size tokens → size < 2 ^ 32 → All (λ (t : Token). HasText (length old) t.what) tokens
    → IsSpecOf (interned old (rule_names 1 tokens)) tokens spec → IsFromText spec × HasIds (interned old (rule_names 1 tokens)) spec
all_is_read old tokens size spec order small ids p =
    let texts = interned old (rule_names 1 tokens) in (
      read_is_from_text texts tokens spec (each_is_earlier 0 size tokens order) (omega (arith, small, no_more_than_bytes 0 size tokens order)) p,
      ids_of_texts texts tokens spec (ids_known texts (length old) tokens (no_fewer (interned_gains old (rule_names 1 tokens))) ids) (interned_has old (rule_names 1 tokens)) p,
    )
