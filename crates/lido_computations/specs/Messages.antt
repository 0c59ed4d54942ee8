-- The grammar of plain computations, which give messages, and of the computations that stand in bodies.
use Rattle.std.specs.Prelude.{◌≡◌, ℕ, pos, ◌+◌, Bool, false, nat_eq, if◌then◌else◌, Option, Some, None, List, ◌∷◌}
use Rattle.lido_base.specs.Reading.{GoesOn}
use Rattle.lido_base.specs.declared.ids.StrId.{StrId}
use Rattle.lido_lexer.specs.Seen.{Sees, Signs, Keys}
use Rattle.lido_lexer.specs.declared.keyword.Keyword.TheVariants as key
use Rattle.lido_lexer.specs.declared.sign.Sign.TheVariants as sign
use Rattle.lido_lexer.specs.declared.token.Token.{Token}
use Rattle.lido_lexer.specs.declared.token.TokenKind.{TokenKind}
use Rattle.lido_lexer.specs.declared.token.TokenKind.TheVariants as kind
use Rattle.lido_syntax.specs.declared.spec.Comp.{Comp}
use Rattle.lido_syntax.specs.declared.spec.Expr.{Expr}
use Rattle.lido_syntax.specs.declared.spec.Severity.{Severity}
use Rattle.lido_syntax.specs.declared.spec.Severity.TheVariants as severity
use Rattle.lido_syntax.specs.declared.spec.Target.TheVariants as target
use Rattle.lido_computations.specs.Phrases.{Done, Then}
use Rattle.lido_computations.specs.Counting.{most_operators}
use Rattle.lido_computations.specs.Expressions.{IsExpr}
use Rattle.lido_computations.specs.Computations.{AreAfter, IsComputation, IsValue}
use Rattle.lido_computations.specs.declared.counts.Counts.{Counts}
use Rattle.lido_computations.specs.declared.messages.MessageWords.{MessageWords}
use Rattle.lido_computations.specs.declared.owners.Owner.{Owner}
use Rattle.lido_computations.specs.declared.owners.Owner.TheVariants as owner

-- how severe a message is whose word has this id
abbrev pub severity_of : MessageWords → StrId → Option Severity
severity_of words id = if nat_eq id.0 words.note.0 then Some severity.Note else (if nat_eq id.0 words.warning.0 then Some severity.Warning else (if nat_eq id.0 words.error.0 then Some severity.Error else None))

-- the word of this id is `message`
abbrev pub is_message_kind : MessageWords → TokenKind → Bool
is_message_kind words (kind.Word id) = nat_eq id.0 words.message.0
is_message_kind words _ = false

abbrev pub is_message : MessageWords → Token → Bool
is_message words t = is_message_kind words t.what

module _ (words : MessageWords) where
  -- sev = "NOTE" | "WARNING" | "ERROR"
  pub data IsSeverity : List Token → Severity → List Token → Type 0 where
    severity_word : {t : Token} {us : List Token} {id : StrId} {s : Severity} → t.what ≡ kind.Word id → severity_of words id ≡ Some s → IsSeverity (t ∷ us) s us

  -- behind the text of a message: "," "0" "," "COORDREF" ")"
  abbrev pub IsPlacing : List Token → Token → List Token → Type 0
  IsPlacing = Then (Signs sign.Comma) (λ before_zero. Then (Sees (kind.Int (pos 0))) (λ zero. Then (Signs sign.Comma) (λ before_word. Then (Sees (kind.Word words.coordref)) (λ word. Signs sign.ParenClose))))

  module _ (texts : List (List ℕ)) where
    -- msg, behind the word `message`: "(" sev "," expr "," "0" "," "COORDREF" ")"; the severity and the text
    abbrev pub IsMessageOf : Counts → List Token → (Severity × Expr) × Counts → List Token → Type 0
    IsMessageOf s = Then (Signs sign.ParenOpen) (λ opening. Then IsSeverity (λ severity. Then (Signs sign.Comma) (λ comma. Then (IsExpr texts 0 s) (λ text. Then IsPlacing (λ closing. Done ((severity, text.0), text.1))))))

    -- behind the word `message`, where no condition stands: what is left of a plain computation that begins at this place
    abbrev pub IsUnconditional : ℕ → ℕ → List Token → Comp × ℕ → List Token → Type 0
    IsUnconditional number at = Then (IsMessageOf (record { budget = most_operators; number = number + 1 })) (λ message. Then (AreAfter message.1.number) (λ after.
        Done (record { at = at; number = number; target = target.Message message.0.0 None; value = message.0.1; after = after.0 }, after.1)))

    -- behind IF: "(" expr "," "message" .. ")" ["<-" deps], of a plain computation that begins at this place. The text may spend what the condition leaves.
    abbrev pub IsConditional : ℕ → ℕ → List Token → Comp × ℕ → List Token → Type 0
    IsConditional number at = Then (Signs sign.ParenOpen) (λ opening. Then (IsValue texts number) (λ condition. Then (Signs sign.Comma) (λ comma. Then (Sees (kind.Word words.message)) (λ word. Then (IsMessageOf condition.1) (λ message. Then (Signs sign.ParenClose) (λ closing. Then (AreAfter message.1.number) (λ after.
        Done (record { at = at; number = number; target = target.Message message.0.0 (Some condition.0); value = message.0.1; after = after.0 }, after.1))))))))

    -- in a rule's body: comp | ( msg | "IF" "(" expr "," msg ")" ) ["<-" deps]
    pub data IsRuleComputation (number : ℕ) : List Token → Comp × ℕ → List Token → Type 0 where
      usual : {ts us : List Token} {x : Comp × ℕ} → IsComputation texts number ts x us → IsRuleComputation number ts x us
      message : {ts us : List Token} {x : Comp × ℕ} → Then (Sees (kind.Word words.message)) (λ t. IsUnconditional number t.from) ts x us → IsRuleComputation number ts x us
      conditional : {ts us : List Token} {x : Comp × ℕ} → Then (Keys key.If) (λ t. IsConditional number t.from) ts x us → IsRuleComputation number ts x us

    -- in a symbol's body: comp, and the word `message` begins none
    pub record IsSymbolComputation (number : ℕ) (ts : List Token) (x : Comp × ℕ) (us : List Token) : Type 0 where
      pub usual : IsComputation texts number ts x us
      pub not_message : ¬ GoesOn (is_message words) ts

    -- a computation in a body of this owner
    abbrev pub IsComputationIn : Owner → ℕ → List Token → Comp × ℕ → List Token → Type 0
    IsComputationIn owner.Rule = IsRuleComputation
    IsComputationIn owner.Symbol = IsSymbolComputation
