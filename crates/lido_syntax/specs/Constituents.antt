-- CONSTITUENTS: what the sources below a node give, folded (LIDO, remote access downwards; that nothing is shielded without SHIELD is this profile's own).
use Rattle.std.specs.Prelude.{ℕ, if◌then◌else◌, List, [], ◌∷◌, map, Option, Some, None, filter}
use Rattle.lido_base.specs.Plain.{Plain, Bad, Void}
use Rattle.lido_base.specs.Tree.{Tree, children, from_children}
use Rattle.lido_syntax.specs.declared.spec.Spec.{Spec}
use Rattle.lido_syntax.specs.declared.spec.Name.{Name}
use Rattle.lido_syntax.specs.declared.spec.Cons.{Cons}
use Rattle.lido_syntax.specs.declared.spec.With.{With}
use Rattle.lido_syntax.specs.Production.{name_of}
use Rattle.lido_syntax.specs.Assignment.{Assignment, Attribute, value_at}
use Rattle.lido_base.specs.Environment.{Environment}
use Rattle.lido_syntax.specs.Functions.{called}
use Rattle.lido_syntax.specs.Sets.{Sets, is_shield}
use Rattle.lido_syntax.specs.Including.{listed, symbol_at}

module _ (spec : Spec) (sets : Sets spec) (env : Environment) (t : Tree Plain) (A : Assignment) (k : Cons) where
  module _ (with : With) where
    -- a call by the WITH at node n, which is the origin's node if the operation fails; the number is that of the CONSTITUENTS
    abbrev pub call : Name → ℕ → List Plain → Plain
    call f n vs = called env (name_of f) (λ kind. Bad (record { node = n; comp = k.number; kind = kind })) vs

    -- the right fold of comb over these values, ending with null
    abbrev pub combined : ℕ → List Plain → Plain
    combined n [] = call with.null n []
    combined n (v ∷ vs) = call with.comb n (v ∷ combined n vs ∷ [])

    -- the fold, at node n, over the weights of those of these nodes whose symbol can reach a source
    abbrev pub folded : (ℕ → Plain) → ℕ → List ℕ → Plain
    folded weights n nodes = combined n (map weights (filter (λ c. sets.reaches k (symbol_at spec sets t c)) nodes))

    -- the fold over the children
    abbrev pub below : (ℕ → Plain) → ℕ → Plain
    below weights n = folded weights n (children t n)

    -- what a source gives, whose attribute is a: alone where it is a shield, else before what is below it
    abbrev pub source_weight : (ℕ → Plain) → ℕ → ℕ → Plain
    source_weight weights n a = let own = call with.single n (value_at A n (Attribute a) ∷ []) in
        if is_shield spec sets.inherits k (symbol_at spec sets t n) then own else call with.comb n (own ∷ below weights n ∷ [])

    -- The weight of a node, from those of its children: of a source, of a shield that is none, and of any other node.
    abbrev pub weigh : (ℕ → Plain) → ℕ → Plain
    weigh weights n = elim (listed spec sets k.pairs (symbol_at spec sets t n)) [
      | Some a ↦ source_weight weights n a
      | None ↦ if is_shield spec sets.inherits k (symbol_at spec sets t n) then call with.null n [] else below weights n
    ]

    -- what a node and the nodes below it give
    unfoldable pub weight_of : ℕ → Plain
    weight_of = from_children t Void weigh

  -- the value of the CONSTITUENTS at its context node: without a WITH it is Void
  abbrev pub constituents_at : ℕ → Option With → Plain
  constituents_at n None = Void
  constituents_at n (Some with) = below with (weight_of with) n
