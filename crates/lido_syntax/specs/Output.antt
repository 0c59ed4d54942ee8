-- The output and the notes of an attributed tree, or the least fault (this profile's own).
use Rattle.std.specs.Prelude.{◌≡◌, ℕ, ◌⊎◌, List, [], Some, Result, Ok, Err}
use Rattle.lido_base.specs.declared.value.Origin.{Origin}
use Rattle.lido_base.specs.Plain.{Plain, Bad, Text}
use Rattle.lido_base.specs.Origins.{IsAtMost}
use Rattle.lido_base.specs.Tree.{Tree}
use Rattle.lido_base.specs.Environment.{Environment}
use Rattle.lido_syntax.specs.declared.spec.Spec.{Spec}
use Rattle.lido_syntax.specs.declared.spec.Comp.{Comp}
use Rattle.lido_syntax.specs.Computation.{by_rule}
use Rattle.lido_syntax.specs.Computation as goal
use Rattle.lido_syntax.specs.Assignment.{Assignment, Attribute}
use Rattle.lido_syntax.specs.Nodes.{InForceAt, HasInForce}
use Rattle.lido_syntax.specs.Sets.{Sets}
use Rattle.lido_syntax.specs.Chains.{IsComputed}
use Rattle.lido_syntax.specs.Messages.{IsMessage, AreNotes}

module _ (spec : Spec) (sets : Sets spec) (env : Environment) (t : Tree Plain) (A : Assignment) where
  -- the value of the PTGOut expression at the root, or the empty text where the root's rule has none
  abbrev pub IsOutput : Plain → Type 0
  IsOutput v = ((c : Comp) × InForceAt spec t 0 goal.Output by_rule c × IsComputed spec sets env t A 0 by_rule c v) ⊎ (¬ HasInForce spec t 0 goal.Output × (v ≡ Text []))

  -- the output value, a written attribute or a plain computation went wrong there; a chain's value alone is no fault
  pub data WentWrong (output : Plain) (o : Origin) : Type 0 where
    in_output : output ≡ Bad o → WentWrong output o
    in_attribute : (n a : ℕ) → A n (Attribute a) ≡ Some (Bad o) → WentWrong output o
    in_message : (n j : ℕ) (c : Comp) → InForceAt spec t n (goal.Message j) by_rule c → IsMessage spec sets env t A n c (Bad o) → WentWrong output o

  -- the result of the evaluation: the output's text and the notes, or the least origin, by node, computation and kind
  abbrev pub IsResult : Result (List ℕ × List ℕ) Origin → Type 0
  IsResult (Ok written) = IsOutput (Text written.0) × AreNotes spec sets env t A written.1 × ((o : Origin) → ¬ WentWrong (Text written.0) o)
  IsResult (Err o) = (output : Plain) × IsOutput output × WentWrong output o × ((p : Origin) → WentWrong output p → IsAtMost o p)
