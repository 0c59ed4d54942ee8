use Rattle.std.specs.Prelude.{◌≡◌, ℕ, List, [], true, false, pos, codes, refl}
use Rattle.lido_base.specs.Operations.{operate}
use Rattle.lido_base.specs.Plain.{Plain, Int, Truth, Str, Bad, Void}
use Rattle.lido_syntax.specs.declared.spec.Expr.TheVariants as expr
use Rattle.lido_syntax.specs.declared.spec.Severity.TheVariants.{Note}
use Rattle.lido_syntax.specs.Assignment.{Assignment}
use Rattle.lido_syntax.specs.Computation.{by_rule}
use Rattle.lido_syntax.specs.Messages.{IsNote, silent, written}
use Rattle.lido_syntax.specs.Nodes.{IsAt}
use Rattle.lido_syntax.specs.Sets.{Sets}
use Rattle.lido_syntax.specs.Value.{value}
use Rattle.lido_syntax.proofs.ExpressionLemmas.{value-Call}
use Rattle.trials_of_syntax.specs.Messages.{spec, tree, numbered, zero_divisor, item_rule, bad_condition, bad_text, never, lost, lost_text}
use Rattle.trials_of_syntax.specs.Writing.{env_of_messages}
use Rattle.trials_of_syntax.proofs.MessageLemmas.{gives, only}
use Rattle.trials_of_syntax.proofs.messages.conditions_of_messages.Goals as goal

abbrev six : Assignment
six = numbered (Int (pos 6))

at_1 : IsAt spec (tree 1) 1 item_rule
at_1 = (1, refl, refl)

module _ (sets : Sets spec) (tail : ℕ → Plain) where
  lost_value : (number : ℕ) → value spec sets env_of_messages (tree 1) six by_rule item_rule number 1 tail lost ≡ Bad (zero_divisor 1 number)
  unfolding operate
  lost_value number = simp (value-Call spec sets env_of_messages (tree 1) six by_rule item_rule number 1 tail) refl

  text_value : (number : ℕ) → value spec sets env_of_messages (tree 1) six by_rule item_rule number 1 tail lost_text ≡ Bad (zero_divisor 1 number)
  unfolding operate
  text_value number = simp (value-Call spec sets env_of_messages (tree 1) six by_rule item_rule number 1 tail) refl

no_note : (sets : Sets spec) (bytes : List ℕ) → IsNote spec sets env_of_messages (tree 1) six 1 never bytes → bytes ≡ []
no_note sets _ (silent m) = refl
no_note sets _ (written {text = u} e m) =
    let wrong : Str u ≡ Void = only spec sets env_of_messages (tree 1) six 1 item_rule at_1 never Note (expr.Bool 0 false) (Truth false) (Bad (zero_divisor 1 8)) (Str u) refl (λ tail. refl) (λ tail. text_value sets tail 8) m in cc

pub returns : goal.returns
returns c = record {
  condition = λ sets. gives spec sets env_of_messages (tree 1) six 1 item_rule at_1 bad_condition Note lost (Bad (zero_divisor 1 6)) (Str (codes "top")) refl (λ tail. lost_value sets tail 6) (λ tail. refl);
  text = λ sets. gives spec sets env_of_messages (tree 1) six 1 item_rule at_1 bad_text Note (expr.Bool 0 true) (Truth true) (Bad (zero_divisor 1 7)) refl (λ tail. refl) (λ tail. text_value sets tail 7);
  never = λ sets. gives spec sets env_of_messages (tree 1) six 1 item_rule at_1 never Note (expr.Bool 0 false) (Truth false) (Bad (zero_divisor 1 8)) refl (λ tail. refl) (λ tail. text_value sets tail 8);
  no_note = no_note;
}
