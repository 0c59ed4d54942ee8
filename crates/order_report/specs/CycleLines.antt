-- The line of a cycle of dependencies, over the names of the flat grammar. The form is our own.
use Rattle.std.specs.Prelude.{ℕ, ◌+◌, List, [], ◌∷◌, ◌++◌, Some, None, slice_get, take, codes, All}
use Rattle.std.specs.List.{concat, flat_map}
use Rattle.lido_base.specs.declared.ids.StrId.{StrId}
use Rattle.lido_base.specs.declared.ids.SymId.{SymId}
use Rattle.flat_grammar.specs.declared.flat.Occ.{Occ}
use Rattle.flat_grammar.specs.declared.plan.Cycle.{Cycle}
use Rattle.flat_grammar.specs.declared.plan.CycleStep.{CycleStep}
use Rattle.flat_grammar.specs.declared.plan.Label.{Label}
use Rattle.flat_grammar.specs.declared.plan.Label.TheVariants.{Direct, Induced, Partition}
use Rattle.order_report.specs.declared.names.Names.{Names}
use Rattle.order_report.specs.declared.names.RuleNames.{RuleNames}
use Rattle.order_report.specs.Lines.{IsName, name_of}
use Rattle.order_report.specs.Report.{index_text, occurrences, row_of}

-- Why an edge stands in the dependencies of a rule.
abbrev pub label_text : Label → List ℕ
label_text Direct = codes "direct"
label_text Induced = codes "induced"
label_text Partition = codes "partition"

-- The symbols at the occurrences of the rule of this number, the left side first, and none where there is no such rule.
abbrev pub occs_of : Names → ℕ → List SymId
occs_of names k = elim (slice_get names.rules k) [ None ↦ [] | Some r ↦ r.occs ]

module _ (texts : List (List ℕ)) where
  -- The text of the name of this number, and nothing where there is none.
  abbrev pub text_at : List StrId → ℕ → List ℕ
  text_at names k = elim (slice_get names k) [ None ↦ [] | Some id ↦ name_of texts id ]

  module _ (names : Names) (occs : List SymId) where
    -- The symbol at an occurrence among these, with the index that it has among its own there, from 1, if it has more than one.
    abbrev pub named_occurrence : ℕ → List ℕ
    named_occurrence k = elim (slice_get occs k) [ None ↦ [] | Some s ↦ text_at names.symbols s.0 ++ index_text (occurrences s occs) (occurrences s (take (k + 1) occs)) ]

    -- The name of the attribute at an occurrence among these.
    abbrev pub named_attribute : Occ → List ℕ
    named_attribute o = elim (slice_get occs o.occ) [ None ↦ [] | Some s ↦ text_at (row_of names.attrs s.0) o.attr.0 ]

    -- An attribute occurrence.
    abbrev pub named_vertex : Occ → List ℕ
    named_vertex o = concat (named_occurrence o.occ ∷ codes "." ∷ named_attribute o ∷ [])

    -- A step: where it begins, and why its edge stands there.
    abbrev pub step_text : CycleStep → List ℕ
    step_text step = concat (codes " " ∷ named_vertex step.from ∷ codes " " ∷ label_text step.label ∷ [])

    -- Where the first step begins, which is where the last one leads.
    abbrev pub closing_text : List CycleStep → List ℕ
    closing_text [] = []
    closing_text (step ∷ more) = codes " " ++ named_vertex step.from

    -- The steps.
    abbrev pub steps_text : List CycleStep → List ℕ
    steps_text steps = flat_map step_text steps

  -- The name of the rule of this number, and nothing where there is none.
  abbrev pub rule_name_of : Names → ℕ → List ℕ
  rule_name_of names k = elim (slice_get names.rules k) [ None ↦ [] | Some r ↦ name_of texts r.name ]

  -- The line of a cycle of these steps, in the rule of this number.
  abbrev pub line_of_cycle : Names → ℕ → List CycleStep → List ℕ
  line_of_cycle names rule steps = concat (codes "lido: circular in " ∷ rule_name_of names rule ∷ codes ":" ∷ steps_text names (occs_of names rule) steps
      ∷ closing_text names (occs_of names rule) steps ∷ codes "\n" ∷ [])

  -- The line of a cycle.
  abbrev pub cycle_line : Names → Cycle → List ℕ
  cycle_line names cycle = line_of_cycle names cycle.rule.0 cycle.steps

  -- All names are among the texts.
  pub record AreNamed (names : Names) : Type 0 where
    pub of_symbols : All (IsName texts) names.symbols
    pub of_rules : All (λ (r : RuleNames). IsName texts r.name) names.rules
    pub of_attributes : All (All (IsName texts)) names.attrs
