-- All facts of the flat grammar together.
use Rattle.std.proofs.Common.{ℕ, List}
use Rattle.lido_base.specs.Environment.{Environment}
use Rattle.lido_base.specs.declared.ids.SymId.{SymId}
use Rattle.flat_grammar.specs.declared.flat.FlatSymbol.{FlatSymbol}
use Rattle.flat_grammar.specs.declared.flat.FlatRule.{FlatRule}
use Rattle.flat_grammar.specs.declared.flat.Shape.{Shape}
use Rattle.flat_grammar.specs.WellFormed.{IsWellFormed}
use Rattle.lido_syntax.specs.declared.spec.Spec.{Spec}
use Rattle.rule_tables.specs.Needs.{Tables, Needs}
use Rattle.rule_tables.specs.Slots.{Slot}
use Rattle.flat_laws.specs.Accepted.{IsFlattened}
use Rattle.flat_laws.proofs.FlatSymbolLemmas.{root-nonterminal}
use Rattle.flat_laws.proofs.BareLemmas.{terminals-bare}
use Rattle.flat_laws.proofs.DifferLemmas.{symbol-names, rule-names}
use Rattle.flat_laws.proofs.AttributeLemmas.{attribute-names}
use Rattle.flat_laws.proofs.WholeLemmas.{each-rule, each-list, each-plain}
use Rattle.flat_laws.proofs.ShapeLemmas.{each-shape}
use Rattle.flat_laws.proofs.SizeLemmas.{numbered-symbols, numbered-rules, numbered-occurrences}

pub well-formed : (spec : Spec) (early env : Environment) (T : Tables spec) (needs : Needs spec T) (slots : ℕ → List Slot) (symbols : List FlatSymbol) (rules : List FlatRule) (shapes : List Shape) (root : SymId)
    → IsFlattened spec early env T needs slots symbols rules shapes root → IsWellFormed symbols rules shapes root
well-formed spec early env T needs slots symbols rules shapes root is = record {
  root_symbol = root-nonterminal spec env T is.tables needs slots symbols rules shapes root is.grammar;
  terminals_bare = terminals-bare spec early env T is.tables is.accepted needs slots is.ordered symbols rules shapes root is.grammar;
  symbol_names = symbol-names spec early env T is.tables is.accepted is.names needs slots symbols rules shapes root is.grammar;
  attribute_names = attribute-names spec early env T is.tables is.accepted is.names needs slots is.ordered is.few_includings symbols rules shapes root is.grammar;
  rule_names = rule-names spec early env T is.tables is.accepted is.names needs slots symbols rules shapes root is.grammar;
  each_rule = each-rule spec early env T is.tables is.accepted is.names needs slots is.ordered symbols rules shapes root is.grammar;
  each_list = each-list spec early env T is.tables is.accepted is.names needs slots is.ordered symbols rules shapes root is.grammar;
  each_plain = each-plain spec early env T is.tables is.accepted is.names needs slots is.ordered symbols rules shapes root is.grammar;
  each_shape = each-shape spec env T is.tables needs slots symbols rules shapes root is.grammar;
  numbered_symbols = numbered-symbols spec early env T is.tables is.accepted is.names needs slots symbols rules shapes root is.grammar;
  numbered_rules = numbered-rules spec early env T is.tables is.accepted is.names needs slots symbols rules shapes root is.grammar;
  numbered_occurrences = numbered-occurrences spec early env T is.tables is.accepted is.names needs slots symbols rules shapes root is.grammar;
  few_attributes = is.few.attributes;
  few_occurrences = is.few.occurrences;
}
