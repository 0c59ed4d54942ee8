-- Computations in bodies, messages too: two at the same tokens are the same.
use Rattle.std.proofs.Common.{◌≡◌, ℕ, ◌||◌, List, Some, None, refl, sym, ap, ◌∙◌}
use Rattle.lido_base.specs.Reading.{nothing}
use Rattle.lido_base.specs.Texts.{IsDistinctTexts}
use Rattle.lido_lexer.specs.Seen.{Sees, Keys}
use Rattle.lido_lexer.specs.declared.keyword.Keyword.TheVariants as key
use Rattle.lido_lexer.specs.declared.sign.Sign.TheVariants as sign
use Rattle.lido_lexer.specs.declared.token.Token.{Token}
use Rattle.lido_lexer.specs.declared.token.TokenKind.TheVariants as kind
use Rattle.lido_syntax.specs.declared.spec.Comp.{Comp}
use Rattle.lido_syntax.specs.declared.spec.Expr.{Expr}
use Rattle.lido_syntax.specs.declared.spec.Severity.{Severity}
use Rattle.lido_syntax.specs.declared.spec.Target.TheVariants as target
use Rattle.lido_computations.specs.Phrases.{Then}
use Rattle.lido_computations.specs.Expressions.{IsExpr, infix_of, is_at_least, follows_primary, continues}
use Rattle.lido_computations.specs.Computations.{IsComputation, continues_after, continues_computation}
use Rattle.lido_computations.specs.Messages as messages
use Rattle.lido_computations.specs.Messages.{IsSeverity, severity_word, severity_of, IsPlacing, IsMessageOf, IsUnconditional, IsConditional, IsRuleComputation, IsSymbolComputation, IsComputationIn}
use Rattle.lido_computations.specs.declared.counts.Counts.{Counts}
use Rattle.lido_computations.specs.declared.messages.MessageWords.{MessageWords}
use Rattle.lido_computations.specs.declared.owners.Owner.{Owner}
use Rattle.lido_computations.specs.declared.owners.Owner.TheVariants as owner
use Rattle.lido_computations.proofs.PhrasesLemmas.{done_stops as last_stops}
use Rattle.lido_computations.proofs.ComputationsLemmas.{option_continues}
use Rattle.lido_computations.proofs.MessagesLemmas.{placing_stops, computation_no_call, computation_no_if}
use Rattle.lido_reader.proofs.PartsLemmas.{seen_stops}
use Rattle.lido_reader.proofs.SureLemmas.{Rests, IsOnly, IsSure, done_sure, then_sure, lead_sure, only_by, sees_sure, sees_apart, sure_of}
use Rattle.lido_reader.proofs.SureExpressionsLemmas.{expr_only}
use Rattle.lido_reader.proofs.SureComputationsLemmas.{after_sure, computation_sure}

severity_alike : (words : MessageWords) (ts us vs : List Token) (x y : Severity) → IsSeverity words ts x us → IsSeverity words ts y vs → (y ≡ x) × (vs ≡ us)
severity_alike words ts us vs x y (severity_word {id = i} e d) (severity_word {id = j} f g) = let same : j ≡ i = cc in let both : Some y ≡ Some x = sym g ∙ ap (severity_of words) same ∙ d in (cc, refl)

module _ (words : MessageWords) (texts : List (List ℕ)) (distinct : IsDistinctTexts texts) where
  placing_sure : IsSure (IsPlacing words) nothing
  placing_sure = lead_sure sees_sure (λ before_zero. lead_sure sees_sure (λ zero. lead_sure sees_sure (λ before_word. lead_sure sees_sure (λ word. sees_sure))))

  expression_sure : (s : Counts) → IsSure (IsExpr texts 0 s) (continues 0)
  expression_sure s = record { sure = expr_only texts distinct 0 s }

  message_of_sure : (s : Counts) → IsSure (IsMessageOf words texts s) nothing
  message_of_sure s = lead_sure sees_sure (λ opening. lead_sure (sure_of (severity_alike words)) (λ severity. lead_sure sees_sure (λ comma. then_sure (placing_stops words (λ (text : Expr × Counts). ((severity, text.0), text.1)) nothing) (expression_sure s) (λ text.
      lead_sure placing_sure (λ closing. done_sure _)))))

  module _ (number : ℕ) where
    abbrev Unconditional : List Token → Comp × ℕ → List Token → Type 0
    Unconditional = Then (Sees (kind.Word words.message)) (λ t. IsUnconditional words texts number t.from)

    unconditional_sure : IsSure Unconditional continues_computation
    unconditional_sure = lead_sure sees_sure (λ t. lead_sure (message_of_sure _) (λ message. then_sure
        (last_stops continues_after continues_computation (λ (after : List Expr × ℕ). (record { at = t.from; number = number; target = target.Message message.0.0 None; value = message.0.1; after = after.0 }, after.1)) option_continues) (after_sure message.1.number) (λ after. done_sure _)))

    abbrev Conditional : List Token → Comp × ℕ → List Token → Type 0
    Conditional = Then (Keys key.If) (λ t. IsConditional words texts number t.from)

    conditional_sure : IsSure Conditional continues_computation
    conditional_sure = lead_sure sees_sure (λ t. lead_sure sees_sure (λ opening. then_sure (seen_stops (kind.Sign sign.Comma) (λ k. is_at_least 0 (infix_of k) || follows_primary k) refl _ continues_computation) (expression_sure _) (λ condition.
        lead_sure sees_sure (λ comma. lead_sure sees_sure (λ word. lead_sure (message_of_sure condition.1) (λ message. lead_sure sees_sure (λ closing. then_sure
        (last_stops continues_after continues_computation (λ (after : List Expr × ℕ). (record { at = t.from; number = number; target = target.Message message.0.0 (Some condition.0); value = message.0.1; after = after.0 }, after.1)) option_continues)
        (after_sure message.1.number) (λ after. done_sure _))))))))

    to_usual : (ts us : List Token) (x : Comp × ℕ) → IsComputation texts number ts x us → (y : Comp × ℕ) (vs : List Token) → IsRuleComputation words texts number ts y vs → Rests continues_computation vs → IsComputation texts number ts y vs
    to_usual ts us x p y vs (messages.usual q) r = q
    to_usual ts us x p y vs (messages.message q) r = absurd (computation_no_call texts number ts q.between us q.rest.first.between words.message x q.value q.rest.first.value p q.first q.rest.first.first)
    to_usual ts us x p y vs (messages.conditional q) r = absurd (computation_no_if texts number ts us q.between x q.value p q.first)

    to_unconditional : (ts us : List Token) (x : Comp × ℕ) → Unconditional ts x us → (y : Comp × ℕ) (vs : List Token) → IsRuleComputation words texts number ts y vs → Rests continues_computation vs → Unconditional ts y vs
    to_unconditional ts us x p y vs (messages.usual q) r = absurd (computation_no_call texts number ts p.between vs p.rest.first.between words.message y p.value p.rest.first.value q p.first p.rest.first.first)
    to_unconditional ts us x p y vs (messages.message q) r = q
    to_unconditional ts us x p y vs (messages.conditional q) r = absurd (sees_apart (kind.Word words.message) (kind.Key key.If) ts p.between q.between p.value q.value (λ d. cc) p.first q.first)

    to_conditional : (ts us : List Token) (x : Comp × ℕ) → Conditional ts x us → (y : Comp × ℕ) (vs : List Token) → IsRuleComputation words texts number ts y vs → Rests continues_computation vs → Conditional ts y vs
    to_conditional ts us x p y vs (messages.usual q) r = absurd (computation_no_if texts number ts vs p.between y p.value q p.first)
    to_conditional ts us x p y vs (messages.message q) r = absurd (sees_apart (kind.Word words.message) (kind.Key key.If) ts q.between p.between q.value p.value (λ d. cc) q.first p.first)
    to_conditional ts us x p y vs (messages.conditional q) r = q

    rule_computation_at : (ts : List Token) (x : Comp × ℕ) (us : List Token) → IsRuleComputation words texts number ts x us → IsOnly (IsRuleComputation words texts number) continues_computation ts x us
    rule_computation_at ts x us (messages.usual p) = only_by (messages.usual p) (to_usual ts us x p) ((computation_sure texts distinct number).sure ts x us p)
    rule_computation_at ts x us (messages.message p) = only_by (messages.message p) (to_unconditional ts us x p) (unconditional_sure.sure ts x us p)
    rule_computation_at ts x us (messages.conditional p) = only_by (messages.conditional p) (to_conditional ts us x p) (conditional_sure.sure ts x us p)

    symbol_computation_at : (ts : List Token) (x : Comp × ℕ) (us : List Token) → IsSymbolComputation words texts number ts x us → IsOnly (IsSymbolComputation words texts number) continues_computation ts x us
    symbol_computation_at ts x us p = only_by p (λ y vs q r. q.usual) ((computation_sure texts distinct number).sure ts x us p.usual)

  pub computation_in_sure : (o : Owner) (number : ℕ) → IsSure (IsComputationIn words texts o number) continues_computation
  computation_in_sure owner.Rule number = record { sure = rule_computation_at number }
  computation_in_sure owner.Symbol number = record { sure = symbol_computation_at number }
