-- The line of a cycle, from its pieces.
use Rattle.std.proofs.Common.{◌≡◌, ◌≤◌, ◌+◌, ℕ, List, [], ◌∷◌, ◌++◌, length, get_or, take, Option, Some, None, slice_get, refl, ap, sym, ◌∙◌, codes, arith}
use Rattle.std.specs.List.{concat}
use Rattle.std.proofs.lemmas.List.Folds.{concat-append}
use Rattle.lido_base.specs.declared.ids.SymId.{SymId}
use Rattle.flat_grammar.specs.declared.plan.CycleStep.{CycleStep}
use Rattle.order_report.specs.declared.names.Names.{Names}
use Rattle.order_report.specs.CycleLines.{closing_text, line_of_cycle, named_occurrence, named_vertex, occs_of, rule_name_of, steps_text, text_at}
use Rattle.order_report.specs.Report.{index_text, occurrences}

-- an occurrence's name and index
pub named_is : (texts : List (List ℕ)) (names : Names) (occs : List SymId) (k : ℕ) (s : SymId) (name : List ℕ) (all index : ℕ) → slice_get occs k ≡ Some s → name ≡ text_at texts names.symbols s.0
    → all ≡ occurrences s occs → index ≡ occurrences s (take (k + 1) occs) → name ++ index_text all index ≡ named_occurrence texts names occs k
named_is texts names occs k s name all index there named whole is =
    (λ j. named j ++ index_text (whole j) (is j))
    ∙ sym (ap (λ (o : Option SymId). elim o [ None ↦ [] | Some q ↦ text_at texts names.symbols q.0 ++ index_text (occurrences q occs) (occurrences q (take (k + 1) occs)) ]) there)

-- where a cycle closes
pub closing_whole : (texts : List (List ℕ)) (names : Names) (occs : List SymId) (steps : List CycleStep) (d : CycleStep) → 1 ≤ length steps
    → codes " " ++ named_vertex texts names occs (get_or steps 0 d).from ≡ closing_text texts names occs steps
closing_whole texts names occs [] d some = absurd (omega (arith, some))
closing_whole texts names occs (step ∷ steps) d some = refl

-- a cycle's line: its head, and what follows
pub cycle_whole : (texts : List (List ℕ)) (names : Names) (rule : ℕ) (steps : List CycleStep) (name : List ℕ) (occs : List SymId) → name ≡ rule_name_of texts names rule → occs ≡ occs_of names rule
    → concat (codes "lido: circular in " ∷ name ∷ codes ":" ∷ []) ++ (steps_text texts names occs steps ++ (closing_text texts names occs steps ++ codes "\n")) ≡ line_of_cycle texts names rule steps
cycle_whole texts names rule steps name occs named there =
    (λ j. concat (codes "lido: circular in " ∷ named j ∷ codes ":" ∷ []) ++ (steps_text texts names (there j) steps ++ (closing_text texts names (there j) steps ++ codes "\n")))
    ∙ sym (concat-append (codes "lido: circular in " ∷ rule_name_of texts names rule ∷ codes ":" ∷ []) (steps_text texts names (occs_of names rule) steps ∷ closing_text texts names (occs_of names rule) steps ∷ codes "\n" ∷ []))
