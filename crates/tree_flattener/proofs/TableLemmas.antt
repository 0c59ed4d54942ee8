-- How the tables of rules are filled.
use Rattle.std.specs.Prelude.{slice_get, slice_set, true, false, nat_eq}
use Rattle.std.proofs.Common.{◌≡◌, ℕ, zero, suc, ◌+◌, ◌<◌, ◌≤◌, ◌⊎◌, inl, inr, List, [], ◌∷◌, length, get_or, Option, Some, refl, ap, sym, subst, ◌∙◌, arith}
use Rattle.std.proofs.lemmas.Bool.{cases_lt}
use Rattle.std.proofs.lemmas.Bool.Decides.{eqb_tells}
use Rattle.std.proofs.lemmas.Option.{slice_get_within, slice_get_read}
use Rattle.lido_base.specs.declared.ids.SymId.{SymId}
use Rattle.lido_base.specs.declared.ids.RuleId.{RuleId}
use Rattle.flat_grammar.specs.declared.flat.FlatSymbol.{FlatSymbol}
use Rattle.flat_grammar.specs.declared.flat.FlatRule.{FlatRule}
use Rattle.flat_grammar.specs.declared.flat.Shape.{Shape}
use Rattle.flat_grammar.specs.WellFormed.{IsWellFormed}
use Rattle.tree_flattener.specs.declared.forms.Form.{Form}
use Rattle.tree_flattener.specs.Forms.{IsElementOf, IsElementRule, IsForm, AreForms}
use Rattle.flat_grammar.proofs.Lists.{slice_get-contains}
use Rattle.tree_flattener.proofs.GrowLemmas.{some_same}
use Rattle.tree_flattener.proofs.ShapeLemmas.{shape_rules_rise}

pub item_at : {X : Type 0} (xs ys : List X) (k : ℕ) (x : X) → xs ≡ ys → k < length xs → x ≡ get_or xs k x → slice_get ys k ≡ Some x
item_at xs ys k x e h at = ap (λ zs. slice_get zs k) (sym e) ∙ slice_get_read xs (length xs) k x refl h at

pub symbol_same : (s q : SymId) → s.0 ≡ q.0 → s ≡ q
symbol_same s q e = let f : ℕ → SymId = λ k. record { 0 = k } in ap f e

pub none_in : {X : Type 0} (xs : List X) → length xs ≡ 0 → xs ≡ []
none_in [] e = refl
none_in (x ∷ xs) e = absurd (omega (arith, e))

pub get_set_same : {X : Type 0} (xs : List X) (i : ℕ) (v : X) → i < length xs → slice_get (slice_set xs i v) i ≡ Some v
get_set_same [] i v h = absurd (omega arith)
get_set_same (x ∷ xs) zero v h = refl
get_set_same (x ∷ xs) (suc i) v h = get_set_same xs i v (omega arith)

pub get_set_other : {X : Type 0} (xs : List X) (i : ℕ) (v : X) (n : ℕ) → (n ≡ i → ⊥) → slice_get (slice_set xs i v) n ≡ slice_get xs n
get_set_other [] i v n other = refl
get_set_other (x ∷ xs) zero v zero other = absurd (other refl)
get_set_other (x ∷ xs) zero v (suc n) other = refl
get_set_other (x ∷ xs) (suc i) v zero other = refl
get_set_other (x ∷ xs) (suc i) v (suc n) other = get_set_other xs i v n (λ e. other (ap suc e))

-- what has a rule keeps one
pub kept_set : (elements : List (Option RuleId)) (e k : ℕ) → e < length elements → (s : ℕ) (i : RuleId) → slice_get elements s ≡ Some (Some i)
    → (j : RuleId) × (slice_get (slice_set elements e (Some (record { 0 = k }))) s ≡ Some (Some j))
kept_set elements e k h s i at = go (eqb_tells s e)
  where
    go : ((nat_eq s e ≡ true) × (s ≡ e)) ⊎ ((nat_eq s e ≡ false) × (s ≡ e → ⊥)) → (j : RuleId) × (slice_get (slice_set elements e (Some (record { 0 = k }))) s ≡ Some (Some j))
    go (inl same) = (record { 0 = k }, ap (slice_get (slice_set elements e (Some (record { 0 = k })))) same.1 ∙ get_set_same elements e (Some (record { 0 = k })) h)
    go (inr other) = (i, get_set_other elements e (Some (record { 0 = k })) s other.1 ∙ at)

module _ (rules : List FlatRule) (cell : SymId) (old new : List (Option RuleId)) (k : ℕ) (rule : FlatRule) (at : slice_get rules k ≡ Some rule) where
  pub found_step : ((s : SymId) (i : RuleId) → slice_get old s.0 ≡ Some (Some i) → IsElementRule rules cell s i)
      → ((s : SymId) (i : RuleId) → slice_get new s.0 ≡ Some (Some i) → (slice_get old s.0 ≡ Some (Some i)) ⊎ (IsElementOf cell rule s × (i ≡ record { 0 = k })))
      → (s : SymId) (i : RuleId) → slice_get new s.0 ≡ Some (Some i) → IsElementRule rules cell s i
  found_step known step s i e = go (step s i e)
    where
      go : (slice_get old s.0 ≡ Some (Some i)) ⊎ (IsElementOf cell rule s × (i ≡ record { 0 = k })) → IsElementRule rules cell s i
      go (inl was) = known s i was
      go (inr (is, here)) = (rule, ap (λ (z : RuleId). slice_get rules z.0) here ∙ at, is.0, is.1)

  pub complete_step : ((s : SymId) (j : ℕ) (r : FlatRule) → j < k → slice_get rules j ≡ Some r → IsElementOf cell r s → (i : RuleId) × (slice_get old s.0 ≡ Some (Some i)))
      → ((s : SymId) (i : RuleId) → slice_get old s.0 ≡ Some (Some i) → (j : RuleId) × (slice_get new s.0 ≡ Some (Some j)))
      → ((s : SymId) → IsElementOf cell rule s → slice_get new s.0 ≡ Some (Some (record { 0 = k })))
      → (s : SymId) (j : ℕ) (r : FlatRule) → j < k + 1 → slice_get rules j ≡ Some r → IsElementOf cell r s → (i : RuleId) × (slice_get new s.0 ≡ Some (Some i))
  complete_step known kept this s j r h got is = go (cases_lt j k)
    where
      go : (j < k) ⊎ (k ≤ j) → (i : RuleId) × (slice_get new s.0 ≡ Some (Some i))
      go (inl low) = let was = known s j r low got is in kept s was.0 was.1
      go (inr high) = let here : j ≡ k = omega arith in let same : r ≡ rule = some_same (sym got ∙ ap (slice_get rules) here ∙ at) in
          (record { 0 = k }, this s (subst (λ z. IsElementOf cell z s) same is))

  -- an end rule is none of the first rules, and not this one
  pub end_step : ((j : ℕ) (r : FlatRule) → j < k → slice_get rules j ≡ Some r → r.left ≡ cell → r.right ≡ [] → ⊥) → (rule.left ≡ cell → rule.right ≡ [] → ⊥)
      → (j : ℕ) (r : FlatRule) → j < k + 1 → slice_get rules j ≡ Some r → r.left ≡ cell → r.right ≡ [] → ⊥
  end_step none not_this j r h got left right = go (cases_lt j k)
    where
      go : (j < k) ⊎ (k ≤ j) → ⊥
      go (inl low) = none j r low got left right
      go (inr high) = let here : j ≡ k = omega arith in let same : r ≡ rule = some_same (sym got ∙ ap (slice_get rules) here ∙ at) in
          not_this (ap (λ (z : FlatRule). z.left) (sym same) ∙ left) (ap (λ (z : FlatRule). z.right) (sym same) ∙ right)

module _ (symbols : List FlatSymbol) (rules : List FlatRule) (shapes : List Shape) where
  abbrev FirstForms : List Form → ℕ → Type 0
  FirstForms forms k = (j : ℕ) (shape : Shape) → j < k → slice_get shapes j ≡ Some shape → (form : Form) × (slice_get forms shape.rule.0 ≡ Some form) × IsForm symbols rules shape form

  pub form_step : (root : SymId) → IsWellFormed symbols rules shapes root → (forms : List Form) (k : ℕ) → FirstForms forms k → (shape : Shape) → slice_get shapes k ≡ Some shape → shape.rule.0 < length forms
      → (form : Form) → IsForm symbols rules shape form → FirstForms (slice_set forms shape.rule.0 form) (k + 1)
  form_step root well forms k known shape at inside form is j other h got = go (cases_lt j k)
    where
      go : (j < k) ⊎ (k ≤ j) → (found : Form) × (slice_get (slice_set forms shape.rule.0 form) other.rule.0 ≡ Some found) × IsForm symbols rules other found
      go (inl low) = let (found, was, fits) = known j other low got in let less = shape_rules_rise symbols rules shapes root well j k other shape got at low in
          (found, get_set_other forms shape.rule.0 form other.rule.0 (λ same. omega arith) ∙ was, fits)
      go (inr high) = let here : j ≡ k = omega arith in let same : shape ≡ other = some_same (sym at ∙ ap (slice_get shapes) (sym here) ∙ got) in
          subst (λ (z : Shape). (found : Form) × (slice_get (slice_set forms shape.rule.0 form) z.rule.0 ≡ Some found) × IsForm symbols rules z found) same (form, get_set_same forms shape.rule.0 form inside, is)

  pub forms_done : (forms : List Form) (k : ℕ) → length shapes ≤ k → FirstForms forms k → AreForms symbols rules shapes forms
  forms_done forms k all known shape among = let at = slice_get-contains shapes shape among in known at.0 shape (let h = slice_get_within shapes at.0 shape at.1 in omega arith) at.1
