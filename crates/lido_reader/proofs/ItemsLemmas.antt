-- The items of a specification, one behind the other.
use Rattle.std.specs.Prelude.{◌≡◌, ◌⊎◌, ◌↔◌, ℕ, Bool, false, IsTrue, List, [], ◌∷◌, refl}
use Rattle.std.proofs.Common.{sym, subst, inl}
use Rattle.lido_base.specs.Reading.{SameHead, GoesOn, Leads, nothing}
use Rattle.lido_base.specs.declared.ids.StrId.{StrId}
use Rattle.lido_lexer.specs.Seen.{Keys}
use Rattle.lido_lexer.specs.declared.keyword.Keyword.{Keyword}
use Rattle.lido_lexer.specs.declared.keyword.Keyword.TheVariants as key
use Rattle.lido_lexer.specs.declared.token.Token.{Token}
use Rattle.lido_lexer.specs.declared.token.TokenKind.{TokenKind}
use Rattle.lido_lexer.specs.declared.token.TokenKind.TheVariants as kind
use Rattle.lido_syntax.specs.declared.spec.Comp.{Comp}
use Rattle.lido_syntax.specs.declared.spec.Spec.{Spec}
use Rattle.lido_computations.specs.declared.owners.Owner.{Owner}
use Rattle.lido_reader.specs.Items.{IsSymbolHead, class, plain, IsRuleItem, IsSymbolItem, IsAttrItem, IsTermItem, IsChainItem, IsFurtherItem, rule, symbol, attr, term, chain, begins_item, begins_item_kind}
use Rattle.lido_computations.proofs.PhrasesLemmas.{chosen, sees_said, sees_some}
use Rattle.lido_reader.proofs.PartsLemmas.{Steps, seen_goes, seen_apart, unseen_head}

-- the item's first word is another one
pub head_apart : (k : Keyword) → (k ≡ key.Class → ⊥) → (k ≡ key.Symbol → ⊥) → (ts us ws ms : List Token) (t : Token) (h : ℕ × Bool) → Keys k ts t us → SameHead ts ws → IsSymbolHead ws h ms → ⊥
head_apart k a b ts us ws ms t h n s (class p) = seen_apart (kind.Key k) (kind.Key key.Class) (λ e. a (cc)) ts us ws p.between t p.value n s p.first
head_apart k a b ts us ws ms t h n s (plain p) = seen_apart (kind.Key k) (kind.Key key.Symbol) (λ e. b (cc)) ts us ws p.between t p.value n s p.first

head_goes : (ts us : List Token) (h : ℕ × Bool) → IsSymbolHead ts h us → GoesOn begins_item ts
head_goes ts us h (class p) = seen_goes (kind.Key key.Class) begins_item_kind refl ts p.between p.value p.first
head_goes ts us h (plain p) = seen_goes (kind.Key key.Symbol) begins_item_kind refl ts p.between p.value p.first

-- a word does not come next
abbrev pub Lacks : Keyword → List Token → Type 0
Lacks k ts = (t : Token) (us : List Token) → Keys k ts t us → ⊥

lacking : {C : Type 0} (k : Keyword) (ts ws us : List Token) (t : Token) → Lacks k ts → SameHead ts ws → Keys k ws t us → C
lacking k ts ws us t none s n = absurd (unseen_head (Keys k) (sees_said (kind.Key k)) (sees_some (kind.Key k)) ts ws none s t us n)

module _ (called : ℕ → StrId) (One : Owner → ℕ → List Token → Comp × ℕ → List Token → Type 0) (found : Spec × ℕ) where
  abbrev Item : List Token → Spec × ℕ → List Token → Type 0
  Item = IsFurtherItem called One found

  pub rule_from : (ts us : List Token) (t : Token) → Keys key.Rule ts t us → (ws vs : List Token) (x : Spec × ℕ) → SameHead ts ws → Item ws x vs → IsRuleItem called One found ws x vs ⊎ GoesOn nothing vs
  rule_from ts us t n ws vs x s (rule p) = inl p
  rule_from ts us t n ws vs x s (symbol p) = absurd (head_apart key.Rule (λ e. cc) (λ e. cc) ts us ws p.first.between t p.first.value n s p.first.first)
  rule_from ts us t n ws vs x s (attr p) = absurd (seen_apart (kind.Key key.Rule) (kind.Key key.Attr) (λ e. cc) ts us ws p.first.between t p.first.value n s p.first.first)
  rule_from ts us t n ws vs x s (term p) = absurd (seen_apart (kind.Key key.Rule) (kind.Key key.Term) (λ e. cc) ts us ws p.first.between t p.first.value n s p.first.first)
  rule_from ts us t n ws vs x s (chain p) = absurd (seen_apart (kind.Key key.Rule) (kind.Key key.Chain) (λ e. cc) ts us ws p.first.between t p.first.value n s p.first.first)

  -- RULE comes next
  pub rule_leads : (ts us : List Token) (t : Token) → Keys key.Rule ts t us → Leads (IsRuleItem called One found) nothing ts Item nothing ts
  rule_leads ts us t n = chosen (IsRuleItem called One found) Item nothing ts (λ us vs x p. rule p) (rule_from ts us t n)

  pub attr_from : (ts us : List Token) (t : Token) → Keys key.Attr ts t us → (ws vs : List Token) (x : Spec × ℕ) → SameHead ts ws → Item ws x vs → IsAttrItem found ws x vs ⊎ GoesOn nothing vs
  attr_from ts us t n ws vs x s (attr p) = inl p
  attr_from ts us t n ws vs x s (symbol p) = absurd (head_apart key.Attr (λ e. cc) (λ e. cc) ts us ws p.first.between t p.first.value n s p.first.first)
  attr_from ts us t n ws vs x s (rule p) = absurd (seen_apart (kind.Key key.Attr) (kind.Key key.Rule) (λ e. cc) ts us ws p.first.between t p.first.value n s p.first.first)
  attr_from ts us t n ws vs x s (term p) = absurd (seen_apart (kind.Key key.Attr) (kind.Key key.Term) (λ e. cc) ts us ws p.first.between t p.first.value n s p.first.first)
  attr_from ts us t n ws vs x s (chain p) = absurd (seen_apart (kind.Key key.Attr) (kind.Key key.Chain) (λ e. cc) ts us ws p.first.between t p.first.value n s p.first.first)

  -- ATTR comes next
  pub attr_leads : (ts us : List Token) (t : Token) → Keys key.Attr ts t us → Leads (IsAttrItem found) nothing ts Item nothing ts
  attr_leads ts us t n = chosen (IsAttrItem found) Item nothing ts (λ us vs x p. attr p) (attr_from ts us t n)

  pub term_from : (ts us : List Token) (t : Token) → Keys key.Term ts t us → (ws vs : List Token) (x : Spec × ℕ) → SameHead ts ws → Item ws x vs → IsTermItem found ws x vs ⊎ GoesOn nothing vs
  term_from ts us t n ws vs x s (term p) = inl p
  term_from ts us t n ws vs x s (symbol p) = absurd (head_apart key.Term (λ e. cc) (λ e. cc) ts us ws p.first.between t p.first.value n s p.first.first)
  term_from ts us t n ws vs x s (rule p) = absurd (seen_apart (kind.Key key.Term) (kind.Key key.Rule) (λ e. cc) ts us ws p.first.between t p.first.value n s p.first.first)
  term_from ts us t n ws vs x s (attr p) = absurd (seen_apart (kind.Key key.Term) (kind.Key key.Attr) (λ e. cc) ts us ws p.first.between t p.first.value n s p.first.first)
  term_from ts us t n ws vs x s (chain p) = absurd (seen_apart (kind.Key key.Term) (kind.Key key.Chain) (λ e. cc) ts us ws p.first.between t p.first.value n s p.first.first)

  -- TERM comes next
  pub term_leads : (ts us : List Token) (t : Token) → Keys key.Term ts t us → Leads (IsTermItem found) nothing ts Item nothing ts
  term_leads ts us t n = chosen (IsTermItem found) Item nothing ts (λ us vs x p. term p) (term_from ts us t n)

  pub chain_from : (ts us : List Token) (t : Token) → Keys key.Chain ts t us → (ws vs : List Token) (x : Spec × ℕ) → SameHead ts ws → Item ws x vs → IsChainItem found ws x vs ⊎ GoesOn nothing vs
  chain_from ts us t n ws vs x s (chain p) = inl p
  chain_from ts us t n ws vs x s (symbol p) = absurd (head_apart key.Chain (λ e. cc) (λ e. cc) ts us ws p.first.between t p.first.value n s p.first.first)
  chain_from ts us t n ws vs x s (rule p) = absurd (seen_apart (kind.Key key.Chain) (kind.Key key.Rule) (λ e. cc) ts us ws p.first.between t p.first.value n s p.first.first)
  chain_from ts us t n ws vs x s (attr p) = absurd (seen_apart (kind.Key key.Chain) (kind.Key key.Attr) (λ e. cc) ts us ws p.first.between t p.first.value n s p.first.first)
  chain_from ts us t n ws vs x s (term p) = absurd (seen_apart (kind.Key key.Chain) (kind.Key key.Term) (λ e. cc) ts us ws p.first.between t p.first.value n s p.first.first)

  -- CHAIN comes next
  pub chain_leads : (ts us : List Token) (t : Token) → Keys key.Chain ts t us → Leads (IsChainItem found) nothing ts Item nothing ts
  chain_leads ts us t n = chosen (IsChainItem found) Item nothing ts (λ us vs x p. chain p) (chain_from ts us t n)

  pub symbol_from : (ts : List Token) → Lacks key.Rule ts → Lacks key.Attr ts → Lacks key.Term ts → Lacks key.Chain ts → (ws vs : List Token) (x : Spec × ℕ) → SameHead ts ws → Item ws x vs → IsSymbolItem called One found ws x vs ⊎ GoesOn nothing vs
  symbol_from ts r a t c ws vs x s (symbol p) = inl p
  symbol_from ts r a t c ws vs x s (rule p) = lacking key.Rule ts ws p.first.between p.first.value r s p.first.first
  symbol_from ts r a t c ws vs x s (attr p) = lacking key.Attr ts ws p.first.between p.first.value a s p.first.first
  symbol_from ts r a t c ws vs x s (term p) = lacking key.Term ts ws p.first.between p.first.value t s p.first.first
  symbol_from ts r a t c ws vs x s (chain p) = lacking key.Chain ts ws p.first.between p.first.value c s p.first.first

  -- none of the four comes next
  pub symbol_leads : (ts : List Token) → Lacks key.Rule ts → Lacks key.Attr ts → Lacks key.Term ts → Lacks key.Chain ts → Leads (IsSymbolItem called One found) nothing ts Item nothing ts
  symbol_leads ts r a t c = chosen (IsSymbolItem called One found) Item nothing ts (λ us vs x p. symbol p) (symbol_from ts r a t c)

item_starts : (called : ℕ → StrId) (One : Owner → ℕ → List Token → Comp × ℕ → List Token → Type 0) (y z : Spec × ℕ) (ts us : List Token) → IsFurtherItem called One y ts z us → GoesOn begins_item ts
item_starts called One y z ts us (symbol p) = head_goes ts p.first.between p.first.value p.first.first
item_starts called One y z ts us (rule p) = seen_goes (kind.Key key.Rule) begins_item_kind refl ts p.first.between p.first.value p.first.first
item_starts called One y z ts us (attr p) = seen_goes (kind.Key key.Attr) begins_item_kind refl ts p.first.between p.first.value p.first.first
item_starts called One y z ts us (term p) = seen_goes (kind.Key key.Term) begins_item_kind refl ts p.first.between p.first.value p.first.first
item_starts called One y z ts us (chain p) = seen_goes (kind.Key key.Chain) begins_item_kind refl ts p.first.between p.first.value p.first.first

pub item_steps : (called : ℕ → StrId) (One : Owner → ℕ → List Token → Comp × ℕ → List Token → Type 0) → Steps (IsFurtherItem called One) begins_item nothing begins_item
item_steps called One = record { starting = item_starts called One; continues = λ t h. h; apart = λ t h g. cc; wider = λ t g. cc }

pub no_item_end : (ts : List Token) → ts ≡ [] → IsTrue false ↔ GoesOn begins_item ts
no_item_end ts e = (λ h. cc, λ h. absurd (subst (GoesOn begins_item) e h))

pub item_token : (ts us : List Token) (t : Token) (b : Bool) → ts ≡ t ∷ us → b ≡ begins_item_kind t.what → IsTrue b ↔ GoesOn begins_item ts
item_token ts us t b e d = (λ h. subst (GoesOn begins_item) (sym e) (subst IsTrue d h), λ h. subst IsTrue (sym d) (subst (GoesOn begins_item) e h))

pub other_token : (ts us : List Token) (t : Token) → ts ≡ t ∷ us → ((word : Keyword) → t.what ≡ kind.Key word → ⊥) → IsTrue false ↔ GoesOn begins_item ts
other_token ts us t e other = item_token ts us t false e (sym (go t.what other))
  where
    go : (k : TokenKind) → ((word : Keyword) → k ≡ kind.Key word → ⊥) → begins_item_kind k ≡ false
    go (kind.Key word) other = absurd (other word refl)
    go _ other = refl
