-- The report of an order: what passes in each visit of each nonterminal, and the visit sequence of each rule. The form is our own.
use Rattle.std.specs.Prelude.{ℕ, ◌+◌, nat_lt, List, [], ◌∷◌, ◌++◌, if◌then◌else◌, Some, None, option_and_then, slice_get, unwrap_or, filter, length, take, codes, All}
use Rattle.std.specs.Fmt.{decimal}
use Rattle.std.specs.List.{concat, enumerate_from, flat_map}
use Rattle.lido_base.specs.declared.ids.AttrId.{AttrId}
use Rattle.lido_base.specs.declared.ids.SymId.{SymId}
use Rattle.flat_grammar.specs.declared.flat.FlatAttr.{FlatAttr}
use Rattle.flat_grammar.specs.declared.flat.FlatRule.{FlatRule}
use Rattle.flat_grammar.specs.declared.flat.FlatSymbol.{FlatSymbol}
use Rattle.flat_grammar.specs.declared.flat.Occ.{Occ}
use Rattle.flat_grammar.specs.declared.plan.PlanItem.{PlanItem}
use Rattle.flat_grammar.specs.declared.plan.PlanItem.TheVariants.{Eval, Visit, Leave}
use Rattle.flat_grammar.specs.declared.plan.VisitClass.{VisitClass}
use Rattle.flat_grammar.specs.Rules.{symbol_at, symbols_of}
use Rattle.flat_grammar.specs.WellFormed.{is_same_symbol}
use Rattle.order_report.specs.Lines.{IsName, name_of}

-- An index in brackets where a symbol occurs more than once, and nothing where it occurs once.
abbrev pub index_text : ℕ → ℕ → List ℕ
index_text occurrences index = if nat_lt 1 occurrences then concat (codes "[" ∷ decimal index ∷ codes "]" ∷ []) else []

-- How often the symbol stands among these.
abbrev pub occurrences : SymId → List SymId → ℕ
occurrences s symbols = length (filter (is_same_symbol s) symbols)

-- The row of this number, and one without elements where there is none.
abbrev pub row_of : {X : Type 0} → List (List X) → ℕ → List X
row_of rows k = unwrap_or (slice_get rows k) []

module _ (texts : List (List ℕ)) where
  -- The name of the symbol's attribute of that number.
  abbrev pub attribute_text : FlatSymbol → AttrId → List ℕ
  attribute_text x a = elim (slice_get x.attrs a.0) [ None ↦ [] | Some attr ↦ name_of texts attr.name ]

  -- The names of attributes, a word in front of each.
  abbrev pub attributes_text : FlatSymbol → List ℕ → List AttrId → List ℕ
  attributes_text x word attrs = flat_map (λ (a : AttrId). concat (word ∷ attribute_text x a ∷ [])) attrs

  -- The line of the symbol's visit of this number: what it takes, and what it gives.
  abbrev pub visit_line : FlatSymbol → ℕ → VisitClass → List ℕ
  visit_line x number class = concat (codes "visit " ∷ name_of texts x.name ∷ codes " " ∷ decimal number ∷ codes ":"
      ∷ attributes_text x (codes " in ") class.inherited ∷ attributes_text x (codes " out ") class.synthesized ∷ codes "\n" ∷ [])

  -- The lines of all visits of the symbol, the first of which is number 1.
  abbrev pub visit_lines : FlatSymbol → List VisitClass → List ℕ
  visit_lines x row = flat_map (λ (p : ℕ × VisitClass). visit_line x p.0 p.1) (enumerate_from 1 row)

  module _ (symbols : List FlatSymbol) where
    -- The name of a symbol.
    abbrev pub symbol_text : SymId → List ℕ
    symbol_text s = elim (slice_get symbols s.0) [ None ↦ [] | Some x ↦ name_of texts x.name ]

    -- The symbol at an occurrence of the rule, with the index that it has among its occurrences there, from 1, if it has more than one.
    abbrev pub occurrence_text : FlatRule → ℕ → List ℕ
    occurrence_text r k = elim (symbol_at r k) [
      | None ↦ []
      | Some s ↦ symbol_text s ++ index_text (occurrences s (symbols_of r)) (occurrences s (take (k + 1) (symbols_of r)))
    ]

    -- The name of the attribute at an occurrence of the rule.
    abbrev pub attribute_at_text : FlatRule → Occ → List ℕ
    attribute_at_text r o = elim (option_and_then (λ (s : SymId). slice_get symbols s.0) (symbol_at r o.occ)) [ None ↦ [] | Some x ↦ attribute_text x o.attr ]

    -- An attribute occurrence of the rule.
    abbrev pub vertex_text : FlatRule → Occ → List ℕ
    vertex_text r o = concat (occurrence_text r o.occ ∷ codes "." ∷ attribute_at_text r o ∷ [])

    -- An item of the rule's sequence.
    abbrev pub item_text : FlatRule → PlanItem → List ℕ
    item_text r (Eval o) = codes "eval " ++ vertex_text r o
    item_text r (Visit k v) = concat (codes "visit " ∷ occurrence_text r k ∷ codes " " ∷ decimal v ∷ [])
    item_text r (Leave v) = concat (codes "leave " ∷ decimal v ∷ [])

    -- Items, a semicolon and a space in front of each.
    abbrev pub further_text : FlatRule → List PlanItem → List ℕ
    further_text r items = flat_map (λ (item : PlanItem). codes "; " ++ item_text r item) items

    -- Items, a semicolon and a space between them.
    abbrev pub items_text : FlatRule → List PlanItem → List ℕ
    items_text r [] = []
    items_text r (item ∷ more) = item_text r item ++ further_text r more

    -- The line of a rule: its sequence.
    abbrev pub rule_line : FlatRule → List PlanItem → List ℕ
    rule_line r seq = concat (codes "rule " ∷ name_of texts r.name ∷ codes ": " ∷ items_text r seq ∷ codes "\n" ∷ [])

    -- The visits of the symbols in order, and then the rules in order. A symbol without visits, as a terminal, has no line.
    abbrev pub report : List FlatRule → List (List VisitClass) → List (List PlanItem) → List ℕ
    report rules visits seqs = flat_map (λ (p : ℕ × FlatSymbol). visit_lines p.1 (row_of visits p.0)) (enumerate_from 0 symbols)
        ++ flat_map (λ (p : ℕ × FlatRule). rule_line p.1 (row_of seqs p.0)) (enumerate_from 0 rules)

  -- The symbol and its attributes have names among the texts.
  abbrev pub IsNamedSymbol : FlatSymbol → Type 0
  IsNamedSymbol x = IsName texts x.name × All (λ (attr : FlatAttr). IsName texts attr.name) x.attrs

  -- All symbols, attributes and rules have names among the texts.
  pub record IsNamedGrammar (symbols : List FlatSymbol) (rules : List FlatRule) : Type 0 where
    pub of_symbols : All IsNamedSymbol symbols
    pub of_rules : All (λ (r : FlatRule). IsName texts r.name) rules
