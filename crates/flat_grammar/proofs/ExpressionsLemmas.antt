-- The words on expressions go down the arguments of calls, IF and ORDER.
use Rattle.std.specs.Prelude.{List, ◌∷◌, ◌++◌, map, ℕ, ◌+◌, ◌≡◌, flat_map, refl, sum_by, length, suc}
use Rattle.std.proofs.Common.{ap, sym, ◌∙◌}
use Rattle.std.proofs.lemmas.List.Sums.{sum_by-cons}
use mathlib.Core.Former.{Count}
use Rattle.lido_base.specs.declared.operation.Op.{Op}
use Rattle.lido_base.specs.Environment.{Environment}
use Rattle.lido_base.specs.Plain.{Plain}
use Rattle.lido_base.specs.Tree.{Tree}
use Rattle.lido_base.specs.Operations.{operate, unless_bad, chosen, last}
use Rattle.flat_grammar.specs.declared.flat.FlatExpr.{FlatExpr}
use Rattle.flat_grammar.specs.declared.flat.FlatExpr.TheVariants as e
use Rattle.flat_grammar.specs.declared.flat.FlatExpr as whole
use Rattle.flat_grammar.specs.declared.flat.FlatExpr.TheBlock.{hidden-the_row-FlatExpr-0}
use Rattle.flat_grammar.specs.Rules.{reads, reads_of_all, terminals_of, terminals_of_all}
use Rattle.flat_grammar.specs.Fitting.{cells, cells_of_all, own_cells, width}
use Rattle.flat_grammar.specs.WholeOrder.{Instance}
use Rattle.flat_grammar.specs.FlatAttribution.{value_of, values_of, fails}

reads-items : (m : Count) (k : whole.Row_of-FlatExpr m) → reads_of_all k ≡ flat_map reads (whole.items-the_row-FlatExpr m k)
reads-items m whole.end_of-FlatExpr = refl
reads-items m (whole.more_of-FlatExpr e es) = ap (λ l. reads e ++ l) (reads-items _ es)

reads-row : (args : List FlatExpr) → reads_of_all (hidden-the_row-FlatExpr-0 args) ≡ flat_map reads args
reads-row args = reads-items _ (hidden-the_row-FlatExpr-0 args) ∙ ap (flat_map reads) (whole.items_hidden-the_row-FlatExpr-0 args)

pub reads-Apply : (comp : ℕ) (op : Op) (args : List FlatExpr) → reads (e.Apply comp op args) ≡ flat_map reads args
reads-Apply comp op args = reads-row args

pub reads-If : (args : List FlatExpr) → reads (e.If args) ≡ flat_map reads args
reads-If args = reads-row args

pub reads-Order : (args : List FlatExpr) → reads (e.Order args) ≡ flat_map reads args
reads-Order args = reads-row args

terminals-items : (m : Count) (k : whole.Row_of-FlatExpr m) → terminals_of_all k ≡ flat_map terminals_of (whole.items-the_row-FlatExpr m k)
terminals-items m whole.end_of-FlatExpr = refl
terminals-items m (whole.more_of-FlatExpr e es) = ap (λ l. terminals_of e ++ l) (terminals-items _ es)

terminals-row : (args : List FlatExpr) → terminals_of_all (hidden-the_row-FlatExpr-0 args) ≡ flat_map terminals_of args
terminals-row args = terminals-items _ (hidden-the_row-FlatExpr-0 args) ∙ ap (flat_map terminals_of) (whole.items_hidden-the_row-FlatExpr-0 args)

pub terminals-Apply : (comp : ℕ) (op : Op) (args : List FlatExpr) → terminals_of (e.Apply comp op args) ≡ flat_map terminals_of args
terminals-Apply comp op args = terminals-row args

pub terminals-If : (args : List FlatExpr) → terminals_of (e.If args) ≡ flat_map terminals_of args
terminals-If args = terminals-row args

pub terminals-Order : (args : List FlatExpr) → terminals_of (e.Order args) ≡ flat_map terminals_of args
terminals-Order args = terminals-row args

cells-items : (m : Count) (k : whole.Row_of-FlatExpr m) → cells_of_all k ≡ sum_by cells (whole.items-the_row-FlatExpr m k)
cells-items m whole.end_of-FlatExpr = refl
cells-items m (whole.more_of-FlatExpr {n = k} e es) = ap (λ n. cells e + n) (cells-items k es) ∙ sym (sum_by-cons cells e (whole.items-the_row-FlatExpr k es))

width-items : (m : Count) (k : whole.Row_of-FlatExpr m) → width k ≡ length (whole.items-the_row-FlatExpr m k)
width-items m whole.end_of-FlatExpr = refl
width-items m (whole.more_of-FlatExpr e es) = ap suc (width-items _ es)

cells-row : (args : List FlatExpr) → cells_of_all (hidden-the_row-FlatExpr-0 args) ≡ sum_by cells args
cells-row args = cells-items _ (hidden-the_row-FlatExpr-0 args) ∙ ap (sum_by cells) (whole.items_hidden-the_row-FlatExpr-0 args)

width-row : (args : List FlatExpr) → width (hidden-the_row-FlatExpr-0 args) ≡ length args
width-row args = width-items _ (hidden-the_row-FlatExpr-0 args) ∙ ap length (whole.items_hidden-the_row-FlatExpr-0 args)

pub cells-Apply : (comp : ℕ) (op : Op) (args : List FlatExpr) → cells (e.Apply comp op args) ≡ own_cells op (length args) + sum_by cells args
cells-Apply comp op args = λ i. own_cells op (width-row args i) + cells-row args i

pub cells-If : (args : List FlatExpr) → cells (e.If args) ≡ sum_by cells args
cells-If args = cells-row args

pub cells-Order : (args : List FlatExpr) → cells (e.Order args) ≡ sum_by cells args
cells-Order args = cells-row args

module _ (env : Environment) (t : Tree Plain) (node_of : List ℕ) (B : Instance → Plain) (origin n : ℕ) where
  abbrev value : FlatExpr → Plain
  value x = value_of env t node_of B origin n x

  values-items : (m : Count) (k : whole.Row_of-FlatExpr m) → values_of env t node_of B origin n k ≡ map value (whole.items-the_row-FlatExpr m k)
  values-items m whole.end_of-FlatExpr = refl
  values-items m (whole.more_of-FlatExpr x es) = ap (λ l. value x ∷ l) (values-items _ es)

  values-row : (args : List FlatExpr) → values_of env t node_of B origin n (hidden-the_row-FlatExpr-0 args) ≡ map value args
  values-row args = values-items _ (hidden-the_row-FlatExpr-0 args) ∙ ap (map value) (whole.items_hidden-the_row-FlatExpr-0 args)

  pub value-Apply : (comp : ℕ) (op : Op) (args : List FlatExpr) → value (e.Apply comp op args) ≡ operate env.texts env.patterns (fails env t node_of B origin n comp) op (map value args)
  value-Apply comp op args = ap (operate env.texts env.patterns (fails env t node_of B origin n comp) op) (values-row args)

  pub value-If : (args : List FlatExpr) → value (e.If args) ≡ chosen (map value args)
  value-If args = ap chosen (values-row args)

  pub value-Order : (args : List FlatExpr) → value (e.Order args) ≡ unless_bad (map value args) (last (map value args))
  value-Order args = ap (λ vs. unless_bad vs (last vs)) (values-row args)
