use Rattle.std.specs.Prelude.{◌≡◌, ℕ, List, [], ◌∷◌, Contains, true, false, pos, codes, refl}
use Rattle.std.specs.Fmt.{digits}
use Rattle.std.proofs.Common.{arith, subst, sym, inl, inr}
use Rattle.lido_base.specs.declared.value.Origin.{Origin}
use Rattle.lido_base.specs.Operations.{operate, chosen}
use Rattle.lido_base.specs.Origins.{IsAtMost}
use Rattle.lido_base.specs.Plain.{Plain, Int, Truth, Str, Text, Bad, Void}
use Rattle.lido_syntax.specs.declared.spec.Comp.{Comp}
use Rattle.lido_syntax.specs.declared.spec.Expr.{Expr}
use Rattle.lido_syntax.specs.declared.spec.RuleItem.{RuleItem}
use Rattle.lido_syntax.specs.declared.spec.Severity.TheVariants.{Note, Warning, Error}
use Rattle.lido_syntax.specs.Assignment.{Attribute}
use Rattle.lido_syntax.specs.Computation.{by_rule, of_rule}
use Rattle.lido_syntax.specs.Messages.{IsMessage, silent, written, message_bytes, AreNotes, all_messages}
use Rattle.lido_syntax.specs.Nodes.{IsAt}
use Rattle.lido_syntax.specs.Output.{IsOutput, WentWrong, in_output, in_attribute, in_message}
use Rattle.lido_syntax.specs.Sets.{Sets}
use Rattle.lido_syntax.specs.Value.{value}
use Rattle.lido_syntax.proofs.ExpressionLemmas.{value-Call}
use Rattle.lido_syntax.proofs.MessageLemmas.{message_listed}
use Rattle.trials_of_syntax.specs.Messages.{spec, tree, rows, numbered, zero_divisor, top_rule, item_rule, top_note, two_note, two_condition, out, one_warning, one_condition, top_error, notes}
use Rattle.trials_of_syntax.specs.Writing.{env_of_messages}
use Rattle.trials_of_syntax.proofs.Members.{every}
use Rattle.trials_of_syntax.proofs.MessageLemmas.{gives, gives_text, only, only_text}
use Rattle.trials_of_syntax.proofs.ValueLemmas.{has_value}
use Rattle.trials_of_syntax.proofs.Tables.{each_value}
use Rattle.trials_of_syntax.proofs.messages.messages_and_least_faults.Goals as goal

bad_same : (o p : Origin) → Bad o ≡ Bad p → o ≡ p
bad_same o p e = cc

abbrev IsGood : Plain → Type 0
IsGood (Bad o) = ⊥
IsGood _ = Unit {0}

good_is : (v : Plain) (o : Origin) → IsGood v → ¬ (Bad o ≡ v)
good_is (Bad p) o g e = g
good_is (Int z) o g e = cc
good_is (Truth b) o g e = cc
good_is (Str s) o g e = cc
good_is (Text s) o g e = cc
good_is Void o g e = cc

-- at a divisor, and a value of the item's number
module _ (z : ℕ) (v : Plain) (sets : Sets spec) where
  abbrev Of : ℕ → Comp → Plain → Type 0
  Of n c w = IsMessage spec sets env_of_messages (tree z) (numbered v) n c w

  abbrev ComesTo : RuleItem → ℕ → ℕ → Expr → Plain → Type 0
  ComesTo r n number e w = (tail : ℕ → Plain) → value spec sets env_of_messages (tree z) (numbered v) by_rule r number n tail e ≡ w

  top : IsAt spec (tree z) 0 top_rule
  top = (0, refl, refl)

  item : IsAt spec (tree z) 1 item_rule
  item = (1, refl, refl)

  output : (w : Plain) → ComesTo top_rule 0 2 out.value w → IsOutput spec sets env_of_messages (tree z) (numbered v) w
  output w h = inl (out, (top_rule, top, of_rule (refl, tt) ((2, omega arith, refl), tt)), has_value spec sets env_of_messages (tree z) (numbered v) 0 by_rule top_rule top 2 out.value w h)

  note : Of 0 top_note (Str (codes "top"))
  note = gives_text spec sets env_of_messages (tree z) (numbered v) 0 top_rule top top_note Note (Str (codes "top")) refl (λ tail. refl)

  error : Of 1 top_error (Str (codes "top"))
  error = gives_text spec sets env_of_messages (tree z) (numbered v) 1 item_rule item top_error Error (Str (codes "top")) refl (λ tail. refl)

  -- a fault of a message is that of one of the two conditions
  module _ (b w : Plain) (two : ComesTo top_rule 0 1 two_condition b) (one : ComesTo item_rule 1 4 one_condition w) (P : Origin → Type 0)
      (of_two : (o : Origin) → Bad o ≡ chosen (b ∷ Str (codes "one") ∷ Void ∷ []) → P o)
      (of_one : (o : Origin) → Bad o ≡ chosen (w ∷ Str (codes "one") ∷ Void ∷ []) → P o) where
    faults : (n : ℕ) (c : Comp) (o : Origin) → Contains (all_messages spec (tree z)) (n, c) → Of n c (Bad o) → P o
    faults n c o m h = every (λ (m : ℕ × Comp). Of m.0 m.1 (Bad o) → P o) (all_messages spec (tree z)) (
      (λ h. absurd (good_is (Str (codes "top")) o tt (only_text spec sets env_of_messages (tree z) (numbered v) 0 top_rule top top_note Note (Str (codes "top")) (Bad o) refl (λ tail. refl) h))),
      (
        (λ h. of_two o (only spec sets env_of_messages (tree z) (numbered v) 0 top_rule top two_note Note two_condition b (Str (codes "one")) (Bad o) refl two (λ tail. refl) h)),
        (
          (λ h. of_one o (only spec sets env_of_messages (tree z) (numbered v) 1 item_rule item one_warning Warning one_condition w (Str (codes "one")) (Bad o) refl one (λ tail. refl) h)),
          ((λ h. absurd (good_is (Str (codes "top")) o tt (only_text spec sets env_of_messages (tree z) (numbered v) 1 item_rule item top_error Error (Str (codes "top")) (Bad o) refl (λ tail. refl) h))), tt),
        ),
      ),
    ) (n, c) m h

module _ (sets : Sets spec) where
  -- with a divisor of 1
  one_two : ComesTo 1 (Int (pos 6)) sets top_rule 0 1 two_condition (Truth false)
  unfolding operate
  one_two tail = simp (value-Call spec sets env_of_messages (tree 1) (numbered (Int (pos 6))) by_rule top_rule 1 0 tail) refl

  one_one : ComesTo 1 (Int (pos 6)) sets item_rule 1 4 one_condition (Truth true)
  unfolding operate
  one_one tail = simp (value-Call spec sets env_of_messages (tree 1) (numbered (Int (pos 6))) by_rule item_rule 4 1 tail) refl

  one_out : ComesTo 1 (Int (pos 6)) sets top_rule 0 2 out.value (Text (codes "1"))
  unfolding operate digits
  one_out tail = simp (value-Call spec sets env_of_messages (tree 1) (numbered (Int (pos 6))) by_rule top_rule 2 0 tail) refl

  pieces : List (List ℕ)
  pieces = message_bytes spec (tree 1) 0 Note (codes "top") ∷ [] ∷ message_bytes spec (tree 1) 1 Warning (codes "one") ∷ message_bytes spec (tree 1) 1 Error (codes "top") ∷ []

  all_notes : AreNotes spec sets env_of_messages (tree 1) (numbered (Int (pos 6))) notes
  unfolding pieces digits
  all_notes = (
    pieces,
    (
      written refl (note 1 (Int (pos 6)) sets),
      (
        silent (gives spec sets env_of_messages (tree 1) (numbered (Int (pos 6))) 0 top_rule (0, refl, refl) two_note Note two_condition (Truth false) (Str (codes "one")) refl one_two (λ tail. refl)),
        (
          written refl (gives spec sets env_of_messages (tree 1) (numbered (Int (pos 6))) 1 item_rule (1, refl, refl) one_warning Warning one_condition (Truth true) (Str (codes "one")) refl one_one (λ tail. refl)),
          (written refl (error 1 (Int (pos 6)) sets), tt),
        ),
      ),
    ),
    refl,
  )

  right : (o : Origin) → ¬ WentWrong spec sets env_of_messages (tree 1) (numbered (Int (pos 6))) (Text (codes "1")) o
  right o (in_output e) = good_is (Text (codes "1")) o tt (sym e)
  right o (in_attribute m a e) = each_value IsGood (rows (Int (pos 6))) (tt, tt) m (Attribute a) (Bad o) e
  right o (in_message m j c force h) = faults 1 (Int (pos 6)) sets (Truth false) (Truth true) one_two one_one (λ o. ⊥) (λ o e. good_is Void o tt e) (λ o e. good_is (Str (codes "one")) o tt e) m c o (message_listed spec (tree 1) m j c force) h

  -- with 7: the number is 0
  seven_two : ComesTo 7 (Int (pos 0)) sets top_rule 0 1 two_condition (Bad (zero_divisor 0 1))
  unfolding operate
  seven_two tail = simp (value-Call spec sets env_of_messages (tree 7) (numbered (Int (pos 0))) by_rule top_rule 1 0 tail) refl

  seven_one : ComesTo 7 (Int (pos 0)) sets item_rule 1 4 one_condition (Truth false)
  unfolding operate
  seven_one tail = simp (value-Call spec sets env_of_messages (tree 7) (numbered (Int (pos 0))) by_rule item_rule 4 1 tail) refl

  seven_out : ComesTo 7 (Int (pos 0)) sets top_rule 0 2 out.value (Bad (zero_divisor 0 2))
  unfolding operate
  seven_out tail = simp (value-Call spec sets env_of_messages (tree 7) (numbered (Int (pos 0))) by_rule top_rule 2 0 tail) refl

  seven_wrong : WentWrong spec sets env_of_messages (tree 7) (numbered (Int (pos 0))) (Bad (zero_divisor 0 2)) (zero_divisor 0 1)
  seven_wrong = in_message 0 2 two_note (top_rule, (0, refl, refl), of_rule (refl, tt) ((1, omega arith, refl), refl))
      (gives spec sets env_of_messages (tree 7) (numbered (Int (pos 0))) 0 top_rule (0, refl, refl) two_note Note two_condition (Bad (zero_divisor 0 1)) (Str (codes "one")) refl seven_two (λ tail. refl))

  seven_least : (o : Origin) → WentWrong spec sets env_of_messages (tree 7) (numbered (Int (pos 0))) (Bad (zero_divisor 0 2)) o → IsAtMost (zero_divisor 0 1) o
  seven_least o (in_output e) = subst (IsAtMost (zero_divisor 0 1)) (bad_same (zero_divisor 0 2) o e) (inr (refl, inl (omega arith)))
  seven_least o (in_attribute m a e) = absurd (each_value IsGood (rows (Int (pos 0))) (tt, tt) m (Attribute a) (Bad o) e)
  seven_least o (in_message m j c force h) = faults 7 (Int (pos 0)) sets (Bad (zero_divisor 0 1)) (Truth false) seven_two seven_one (IsAtMost (zero_divisor 0 1))
      (λ o e. subst (IsAtMost (zero_divisor 0 1)) (sym (bad_same o (zero_divisor 0 1) e)) (inr (refl, inr (refl, omega arith)))) (λ o e. absurd (good_is Void o tt e)) m c o (message_listed spec (tree 7) m j c force) h

  -- with 0: the number is Bad, and what is made of it
  abbrev lost : Plain
  lost = Bad (zero_divisor 1 3)

  none_two : ComesTo 0 lost sets top_rule 0 1 two_condition lost
  unfolding operate
  none_two tail = simp (value-Call spec sets env_of_messages (tree 0) (numbered lost) by_rule top_rule 1 0 tail) refl

  none_one : ComesTo 0 lost sets item_rule 1 4 one_condition (Bad (zero_divisor 1 4))
  unfolding operate
  none_one tail = simp (value-Call spec sets env_of_messages (tree 0) (numbered lost) by_rule item_rule 4 1 tail) refl

  none_out : ComesTo 0 lost sets top_rule 0 2 out.value lost
  unfolding operate
  none_out tail = simp (value-Call spec sets env_of_messages (tree 0) (numbered lost) by_rule top_rule 2 0 tail) refl

  itself : IsAtMost (zero_divisor 1 3) (zero_divisor 1 3)
  itself = inr (refl, inr (refl, omega arith))

  none_least : (o : Origin) → WentWrong spec sets env_of_messages (tree 0) (numbered lost) lost o → IsAtMost (zero_divisor 1 3) o
  none_least o (in_output e) = subst (IsAtMost (zero_divisor 1 3)) (bad_same (zero_divisor 1 3) o e) itself
  none_least o (in_attribute m a e) = each_value (λ v. v ≡ Bad o → IsAtMost (zero_divisor 1 3) o) (rows lost) ((λ f. subst (IsAtMost (zero_divisor 1 3)) (bad_same (zero_divisor 1 3) o f) itself), tt) m (Attribute a) (Bad o) e refl
  none_least o (in_message m j c force h) = faults 0 lost sets lost (Bad (zero_divisor 1 4)) none_two none_one (IsAtMost (zero_divisor 1 3))
      (λ o e. subst (IsAtMost (zero_divisor 1 3)) (sym (bad_same o (zero_divisor 1 3) e)) itself)
      (λ o e. subst (IsAtMost (zero_divisor 1 3)) (sym (bad_same o (zero_divisor 1 4) e)) (inr (refl, inl (omega arith)))) m c o (message_listed spec (tree 0) m j c force) h

pub returns : goal.returns
returns c = record {
  written = λ sets. (output 1 (Int (pos 6)) sets (Text (codes "1")) (one_out sets), all_notes sets, right sets);
  of_a_message = λ sets. (Bad (zero_divisor 0 2), output 7 (Int (pos 0)) sets (Bad (zero_divisor 0 2)) (seven_out sets), seven_wrong sets, seven_least sets);
  of_an_attribute = λ sets. (Bad (zero_divisor 1 3), output 0 (Bad (zero_divisor 1 3)) sets (Bad (zero_divisor 1 3)) (none_out sets), in_output refl, none_least sets);
}
