-- A copied expression has the value of the written one, if its leaves have.
use Rattle.std.specs.Prelude.{Contains, map, filter, slice_get, unwrap_or, codes, if◌then◌else◌}
use Rattle.std.specs.Str.{bytes_eq}
use Rattle.std.proofs.Common.{◌≡◌, ℕ, ℤ, Bool, true, false, List, [], ◌∷◌, Option, Some, None, refl, ap, ◌∙◌}
use Rattle.lido_base.specs.Environment.{Environment}
use Rattle.lido_base.specs.declared.operation.Op.{Op}
use Rattle.lido_base.specs.declared.value.BadKind.{BadKind}
use Rattle.lido_base.specs.Plain.{Plain, Bad}
use Rattle.lido_base.specs.Operations.{operate, unless_bad, chosen, last}
use Rattle.lido_base.specs.Tree.{Tree}
use Rattle.lido_base.proofs.Lists.{contains-here}
use Rattle.lido_syntax.specs.declared.spec.Spec.{Spec}
use Rattle.lido_syntax.specs.declared.spec.Name.{Name}
use Rattle.lido_syntax.specs.declared.spec.Pair.{Pair}
use Rattle.lido_syntax.specs.declared.spec.Cons.{Cons}
use Rattle.lido_syntax.specs.declared.spec.RuleItem.{RuleItem}
use Rattle.lido_syntax.specs.declared.spec.Place.{Place}
use Rattle.lido_syntax.specs.declared.spec.Expr.{Expr}
use Rattle.lido_syntax.specs.declared.spec.Expr as whole
use Rattle.lido_syntax.specs.Production.{name_of}
use Rattle.lido_syntax.specs.Parts.{parts, parts_of_all, is_leaf, leaves}
use Rattle.lido_syntax.specs.Assignment.{Assignment}
use Rattle.lido_syntax.specs.Computation.{Holder}
use Rattle.lido_syntax.specs.Functions.{text_of, operation_of, operated, called}
use Rattle.lido_syntax.specs.Sets.{Sets}
use Rattle.lido_syntax.specs.Value.{value, values}
use Rattle.flat_grammar.specs.declared.flat.FlatExpr.{FlatExpr}
use Rattle.flat_grammar.specs.declared.flat.FlatExpr.TheVariants as flat
use Rattle.flat_grammar.specs.FlatAttribution.{value_of, fails}
use Rattle.flat_grammar.specs.WholeOrder.{Instance}
use Rattle.flat_grammar.proofs.ExpressionsLemmas.{value-Apply, value-If, value-Order}
use Rattle.rule_tables.specs.Copies.{copy, copies, call, operation}
use Rattle.flat_laws.proofs.TerminalLemmas.{part-leaf, leaf-part}

-- a Bad value of a computation at a written node
abbrev pub failed : ℕ → ℕ → BadKind → Plain
failed n comp kind = Bad (record { node = n; comp = comp; kind = kind })

module _ (env : Environment) (ft : Tree Plain) (node_of : List ℕ) (B : Instance → Plain) (origin m : ℕ) where
  abbrev given : FlatExpr → Plain
  given e = value_of env ft node_of B origin m e

  module _ (comp n : ℕ) (same_origin : unwrap_or (slice_get node_of origin) 0 ≡ n) where
    same_fails : fails env ft node_of B origin m comp ≡ failed n comp
    same_fails = λ i kind. Bad (record { node = same_origin i; comp = comp; kind = kind })

    operation-value : (o : Option Op) (args : List FlatExpr) → given (operation env comp o args) ≡ operated env o (failed n comp) (map given args)
    operation-value None args = refl
    operation-value (Some o) args = value-Apply env ft node_of B origin m comp o args ∙ ap (λ f. operate env.texts env.patterns f o (map given args)) same_fails

    -- a call gives what its function gives for the values of its arguments
    pub call-value : (id : ℕ) (args : List FlatExpr) → given (call env comp id args) ≡ called env id (failed n comp) (map given args)
    call-value id args = at_if (bytes_eq (text_of env id) (codes "IF")) (bytes_eq (text_of env id) (codes "ORDER"))
      where
        at_order : (b : Bool) → given (if b then flat.Order args else operation env comp (operation_of env (text_of env id)) args)
            ≡ (if b then unless_bad (map given args) (last (map given args)) else operated env (operation_of env (text_of env id)) (failed n comp) (map given args))
        at_order true = value-Order env ft node_of B origin m args
        at_order false = operation-value (operation_of env (text_of env id)) args

        at_if : (a b : Bool) → given (if a then flat.If args else if b then flat.Order args else operation env comp (operation_of env (text_of env id)) args)
            ≡ (if a then chosen (map given args) else if b then unless_bad (map given args) (last (map given args)) else operated env (operation_of env (text_of env id)) (failed n comp) (map given args))
        at_if true b = value-If env ft node_of B origin m args
        at_if false b = at_order b

    module _ (terminal : Name → Option ℤ → FlatExpr) (read : Place → ℕ → FlatExpr) (including : List Pair → FlatExpr) (constituents : Cons → FlatExpr)
        (spec : Spec) (sets : Sets spec) (t : Tree Plain) (A : Assignment) (h : Holder) (r : RuleItem) (tail : ℕ → Plain) where
      abbrev copied : Expr → FlatExpr
      copied e = copy env comp terminal read including constituents e

      abbrev worth : Expr → Plain
      worth e = value spec sets env t A h r comp n tail e

      -- each of these leaves has its value
      abbrev pub AgreeOn : List Expr → Type 0
      AgreeOn es = (e : Expr) → Contains es e → given (copied e) ≡ worth e

      first : (e : Expr) → AgreeOn (e ∷ []) → given (copied e) ≡ worth e
      first e agree = agree e (contains-here e [])

      mutual
        pub copy-value : (e : Expr) → AgreeOn (leaves e) → given (copied e) ≡ worth e
        copy-value (whole.Int at z) agree = refl
        copy-value (whole.Str at s) agree = refl
        copy-value (whole.Bool at b) agree = refl
        copy-value (whole.Terminal x i) agree = first (whole.Terminal x i) agree
        copy-value (whole.Read at p a) agree = first (whole.Read at p a) agree
        copy-value (whole.Including at pairs) agree = first (whole.Including at pairs) agree
        copy-value (whole.Constituents k) agree = first (whole.Constituents k) agree
        copy-value (whole.Call' f shape args) agree = call-value (name_of f) (copies env comp terminal read including constituents args) ∙ ap (called env (name_of f) (failed n comp)) (copies-value args agree)

        copies-value : {m : _} (k : whole.Row_of-Expr m) → AgreeOn (filter is_leaf (parts_of_all k)) → map given (copies env comp terminal read including constituents k) ≡ values spec sets env t A h r comp n tail k
        copies-value whole.end_of-Expr agree = refl
        copies-value (whole.more_of-Expr e es) agree =
            let one = copy-value e (λ x m. agree x (part-leaf (parts e) (parts_of_all es) x m)) in
            let more = copies-value es (λ x m. agree x (leaf-part (parts e) (parts_of_all es) x m)) in
            λ i. one i ∷ more i
