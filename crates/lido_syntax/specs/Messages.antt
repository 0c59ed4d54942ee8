-- Messages: what the plain computations of rules give at the nodes of a tree (this profile's own).
use Rattle.std.specs.Prelude.{◌≡◌, ℕ, List, [], ◌∷◌, ◌++◌, length, map, flat_map, Option, Some, None, slice_get, option_and_then, codes}
use Rattle.std.specs.Option.{option_map_or}
use Rattle.std.specs.List.{AllZip, concat, range_with_len}
use Rattle.std.specs.Fmt.{decimal}
use Rattle.lido_base.specs.Plain.{Plain, Str, Void}
use Rattle.lido_base.specs.Environment.{Environment}
use Rattle.lido_base.specs.Operations.{chosen}
use Rattle.lido_base.specs.Tree.{Tree, rule_at, line_of, column_of}
use Rattle.lido_syntax.specs.declared.spec.Spec.{Spec}
use Rattle.lido_syntax.specs.declared.spec.Comp.{Comp}
use Rattle.lido_syntax.specs.declared.spec.Expr.{Expr}
use Rattle.lido_syntax.specs.declared.spec.Target.TheVariants as target
use Rattle.lido_syntax.specs.declared.spec.Severity.{Severity}
use Rattle.lido_syntax.specs.declared.spec.Severity.TheVariants.{Note, Warning, Error}
use Rattle.lido_syntax.specs.Assignment.{Assignment}
use Rattle.lido_syntax.specs.Computation.{by_rule, messages_of}
use Rattle.lido_syntax.specs.Sets.{Sets}
use Rattle.lido_syntax.specs.Chains.{IsValue, IsComputed}

-- the word of a severity
abbrev pub word_of : Severity → List ℕ
word_of Note = codes "NOTE"
word_of Warning = codes "WARNING"
word_of Error = codes "ERROR"

module _ (spec : Spec) (t : Tree Plain) where
  -- the plain computations of the tree, each with a node of its rule: by node in preorder, at a node by number
  abbrev pub all_messages : List (ℕ × Comp)
  all_messages = flat_map (λ n. map (λ c. (n, c)) (option_map_or messages_of (option_and_then (slice_get spec.rules) (rule_at t n)) [])) (range_with_len 0 (length t))

  -- a message as it is written: the line and the column of its node, the severity and the text
  abbrev pub message_bytes : ℕ → Severity → List ℕ → List ℕ
  message_bytes n severity text = decimal (line_of t n) ++ codes ":" ++ decimal (column_of t n) ++ codes " " ++ word_of severity ++ codes ": " ++ text ++ 10 ∷ []

module _ (spec : Spec) (sets : Sets spec) (env : Environment) (t : Tree Plain) (A : Assignment) where
  -- What a plain computation gives at a node of its rule: its text, or with a condition what `IF(condition, text, nothing)`
  -- gives. So it is Bad where the condition is, Void where the condition is false, and else the text, which can be Bad too.
  pub data IsMessage (n : ℕ) (c : Comp) : Plain → Type 0 where
    unconditional : {s : Severity} {text : Plain} → c.target ≡ target.Message s None → IsComputed spec sets env t A n by_rule c text → IsMessage n c text
    conditional : {s : Severity} {e : Expr} {condition text : Plain} → c.target ≡ target.Message s (Some e) → IsValue spec sets env t A n by_rule c.number e condition
        → IsComputed spec sets env t A n by_rule c text → IsMessage n c (chosen (condition ∷ text ∷ Void ∷ []))

  -- what it adds to the notes: nothing where it gives no message, and else the message
  pub data IsNote (n : ℕ) (c : Comp) : List ℕ → Type 0 where
    silent : IsMessage n c Void → IsNote n c []
    written : {s : Severity} {condition : Option Expr} {text : List ℕ} → c.target ≡ target.Message s condition → IsMessage n c (Str text) → IsNote n c (message_bytes spec t n s text)

  -- the notes: the messages of the tree, one behind another
  abbrev pub AreNotes : List ℕ → Type 0
  AreNotes bytes = (pieces : List (List ℕ)) × AllZip (λ (m : ℕ × Comp) piece. IsNote m.0 m.1 piece) (all_messages spec t) pieces × (bytes ≡ concat pieces)
