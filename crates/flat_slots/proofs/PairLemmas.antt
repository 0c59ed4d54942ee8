-- What is made of what may be there, and the rules of lists.
use Rattle.std.specs.Prelude.{Contains, filter, option_map, slice_get}
use Rattle.std.proofs.Common.{◌≡◌, ◌∙◌, ℕ, Option, Some, None, refl, sym, ap}
use Rattle.std.proofs.lemmas.Option.{none-some, same_Some}
use Rattle.lido_base.proofs.Lists.{contains-map}
use Rattle.lido_syntax.specs.declared.spec.RuleItem.{RuleItem}
use Rattle.lido_symbols.specs.Numbers.{enumerated}
use Rattle.need_graphs.proofs.PlaceLemmas.{place-of-number}
use Rattle.need_graphs.proofs.RangeLemmas.{filter-part}
use Rattle.rule_tables.specs.declared.table.Tables.{Tables as Rows}
use Rattle.rule_tables.specs.PlainRules.{lists}
use Rattle.rule_tables.specs.TablesOf.{named_symbols}

pub some-mapped : {X Y : Type 0} (f : X → Y) (o : Option X) (y : Y) → option_map f o ≡ Some y → (x : X) × (o ≡ Some x) × (f x ≡ y)
some-mapped f None y e = absurd (none-some y e)
some-mapped f (Some x) y e = (x, refl, same_Some _ _ e)

-- the rule of a list
pub list-rule : (t : Rows) (i : ℕ) → Contains (lists t.spec (named_symbols t)) i → (r : RuleItem) × (slice_get t.spec.rules i ≡ Some r)
list-rule t i m =
    let (z, among, same) = contains-map (λ (x : ℕ × RuleItem). x.0) (filter (λ (x : ℕ × RuleItem). x.1.list) (enumerated 0 t.spec.rules)) i m in
    let at = place-of-number t.spec.rules z (filter-part (λ (x : ℕ × RuleItem). x.1.list) (enumerated 0 t.spec.rules) z among) in
    (z.1, ap (slice_get t.spec.rules) (sym same) ∙ at)
