-- The lines of the report, from their pieces.
use Rattle.std.proofs.Common.{◌≡◌, ◌≤◌, ◌+◌, ◌-◌, ◌<◌, ℕ, Bool, true, false, List, [], ◌∷◌, ◌++◌, length, get_or, drop, take, filter, Option, Some, None, ap, sym, ◌∙◌, codes, arith, cond, add-one}
use mir.Val.{bool_byte}
use Rattle.std.specs.Fmt.{decimal}
use Rattle.std.specs.List.{concat}
use Rattle.std.proofs.lemmas.Bool.{lt-ltb}
use Rattle.std.proofs.lemmas.List.{take_all}
use Rattle.std.proofs.lemmas.List.Folds.{concat-append}
use Rattle.std.proofs.lemmas.Option.{slice_get_within}
use Rattle.lido_base.specs.declared.ids.SymId.{SymId}
use Rattle.flat_grammar.specs.declared.flat.FlatRule.{FlatRule}
use Rattle.flat_grammar.specs.declared.flat.FlatSymbol.{FlatSymbol}
use Rattle.flat_grammar.specs.declared.plan.PlanItem.{PlanItem}
use Rattle.flat_grammar.specs.declared.plan.VisitClass.{VisitClass}
use Rattle.flat_grammar.specs.Rules.{symbol_at, symbols_of}
use Rattle.flat_grammar.specs.WellFormed.{is_same_symbol}
use Rattle.order_report.specs.Lines.{name_of}
use Rattle.order_report.specs.Report.{attributes_text, further_text, index_text, item_text, items_text, occurrence_text, occurrences, rule_line, symbol_text, visit_line}

-- a visit's line: its head, and what follows
pub visit_whole : (texts : List (List ℕ)) (x : FlatSymbol) (number : ℕ) (class : VisitClass) (name digits : List ℕ) → name ≡ name_of texts x.name → digits ≡ decimal number
    → concat (codes "visit " ∷ name ∷ codes " " ∷ digits ∷ codes ":" ∷ []) ++ (attributes_text texts x (codes " in ") class.inherited ++ (attributes_text texts x (codes " out ") class.synthesized ++ codes "\n"))
    ≡ visit_line texts x number class
visit_whole texts x number class name digits named said =
    (λ j. concat (codes "visit " ∷ named j ∷ codes " " ∷ said j ∷ codes ":" ∷ []) ++ (attributes_text texts x (codes " in ") class.inherited ++ (attributes_text texts x (codes " out ") class.synthesized ++ codes "\n")))
    ∙ sym (concat-append (codes "visit " ∷ name_of texts x.name ∷ codes " " ∷ decimal number ∷ codes ":" ∷ []) (attributes_text texts x (codes " in ") class.inherited ∷ attributes_text texts x (codes " out ") class.synthesized ∷ codes "\n" ∷ []))

-- a rule's line: its head, and what follows
pub rule_whole : (texts : List (List ℕ)) (symbols : List FlatSymbol) (r : FlatRule) (seq : List PlanItem) (name : List ℕ) → name ≡ name_of texts r.name
    → concat (codes "rule " ∷ name ∷ codes ": " ∷ []) ++ (items_text texts symbols r seq ++ codes "\n") ≡ rule_line texts symbols r seq
rule_whole texts symbols r seq name named =
    (λ j. concat (codes "rule " ∷ named j ∷ codes ": " ∷ []) ++ (items_text texts symbols r seq ++ codes "\n"))
    ∙ sym (concat-append (codes "rule " ∷ name_of texts r.name ∷ codes ": " ∷ []) (items_text texts symbols r seq ∷ codes "\n" ∷ []))

-- an index where there are several
pub with_index : (all index : ℕ) (digits : List ℕ) → 1 < all → digits ≡ decimal index → concat (codes "[" ∷ digits ∷ codes "]" ∷ []) ≡ index_text all index
with_index all index digits several said =
    (λ j. concat (codes "[" ∷ said j ∷ codes "]" ∷ [])) ∙ sym (ap (λ (b : Bool). cond b (concat (codes "[" ∷ decimal index ∷ codes "]" ∷ [])) []) (lt-ltb 1 all several))

-- the symbol at the left side, and those up to an occurrence
pub counted : (s : SymId) (r : FlatRule) (k : ℕ) (left right : ℕ) → left ≡ bool_byte (is_same_symbol s r.left) → right ≡ occurrences s (take k r.right) → left + right ≡ occurrences s (take (k + 1) (symbols_of r))
counted s r k left right one more = rw add-one (by (is_same_symbol s r.left) one)
  where
    by : (b : Bool) → left ≡ bool_byte b → left + right ≡ length (cond b (r.left ∷ filter (is_same_symbol s) (take k r.right)) (filter (is_same_symbol s) (take k r.right)))
    by true is = let one : left ≡ 1 = is in omega (arith, one, more)
    by false is = let none : left ≡ 0 = is in omega (arith, none, more)

-- an occurrence that has a symbol is one of the rule
pub occurrence_within : (r : FlatRule) (k : ℕ) (s : SymId) → symbol_at r k ≡ Some s → k ≤ length r.right
occurrence_within r k s there = let less : k < length (symbols_of r) = slice_get_within (symbols_of r) k s there in omega (arith, less)

-- an occurrence's name and index
pub occurrence_is : (texts : List (List ℕ)) (symbols : List FlatSymbol) (r : FlatRule) (k : ℕ) (s : SymId) (name : List ℕ) (all index : ℕ) → symbol_at r k ≡ Some s → name ≡ symbol_text texts symbols s
    → all ≡ occurrences s (take (length r.right + 1) (symbols_of r)) → index ≡ occurrences s (take (k + 1) (symbols_of r)) → name ++ index_text all index ≡ occurrence_text texts symbols r k
occurrence_is texts symbols r k s name all index there named whole is =
    let every : all ≡ occurrences s (symbols_of r) = whole ∙ ap (occurrences s) (take_all (length r.right + 1) (symbols_of r) (omega arith)) in
    (λ j. named j ++ index_text (every j) (is j))
    ∙ sym (ap (λ (o : Option SymId). elim o [
      | None ↦ []
      | Some q ↦ symbol_text texts symbols q ++ index_text (occurrences q (symbols_of r)) (occurrences q (take (k + 1) (symbols_of r)))
    ]) there)

-- nothing stands where no symbol does
pub occurrence_is_none : (texts : List (List ℕ)) (symbols : List FlatSymbol) (r : FlatRule) (k : ℕ) → symbol_at r k ≡ None → [] ≡ occurrence_text texts symbols r k
occurrence_is_none texts symbols r k none = sym (ap (λ (o : Option SymId). elim o [
  | None ↦ []
  | Some q ↦ symbol_text texts symbols q ++ index_text (occurrences q (symbols_of r)) (occurrences q (take (k + 1) (symbols_of r)))
]) none)

-- the first item, and those behind it
pub items_whole : (texts : List (List ℕ)) (symbols : List FlatSymbol) (r : FlatRule) (items : List PlanItem) (d : PlanItem) → 1 ≤ length items
    → item_text texts symbols r (get_or items 0 d) ++ further_text texts symbols r (take (length items - 1) (drop 1 items)) ≡ items_text texts symbols r items
items_whole texts symbols r [] d some = absurd (omega (arith, some))
items_whole texts symbols r (item ∷ items) d some = ap (λ (l : List PlanItem). item_text texts symbols r item ++ further_text texts symbols r l) (take_all (length (item ∷ items) - 1) items (omega arith))
