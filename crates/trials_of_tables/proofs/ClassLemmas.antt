-- KindClash in a specification without computations, whose only item is that of a class.
use Rattle.std.specs.Prelude.{◌≡◌, ℕ, ◌≤◌, List, [], ◌∷◌, Contains, refl}
use Rattle.std.specs.Prelude as prelude
use Rattle.std.proofs.Common.{arith, inl, inr}
use Rattle.lido_base.specs.declared.kinds.Kind.{Kind}
use Rattle.lido_syntax.specs.declared.spec.Name.{Name}
use Rattle.lido_syntax.specs.declared.spec.Comp.{Comp}
use Rattle.lido_syntax.specs.declared.spec.Decl.{Decl}
use Rattle.lido_syntax.specs.declared.spec.RuleItem.{RuleItem}
use Rattle.lido_syntax.specs.declared.spec.SymbolItem.{SymbolItem}
use Rattle.lido_syntax.specs.Production.{name_of}
use Rattle.lido_syntax.specs.Sets.{names_of}
use Rattle.lido_syntax.specs.Attributes.{InBody, InText, IsDeclared, OfClass}
use Rattle.trials_of_syntax.proofs.Members.{every}
use Rattle.lido_symbols.specs.Uses.{production_names}
use Rattle.kind_clashes.specs.KindClash.{IsKindClash, SaysKind, IsOfTerminal, IsTwofold, IsChainAgain, IsChainElsewhere}
use Rattle.lido_symbols.specs.Classes.{IsClass}
use Rattle.kind_clashes.specs.KindClash as clash
use Rattle.trials_of_tables.specs.Faulty.{env, kind_clash, class_item, rule_of_class, S, X}

no_rule_body : (r : RuleItem) → Contains kind_clash.rules r → (c : Comp) → Contains r.body c → ⊥
no_rule_body = every (λ (r : RuleItem). (c : Comp) → Contains r.body c → ⊥) kind_clash.rules ((λ c m. omega (arith, m.1)), tt)

no_item_body : (item : SymbolItem) → Contains kind_clash.symbols item → (c : Comp) → Contains item.body c → ⊥
no_item_body = every (λ (item : SymbolItem). (c : Comp) → Contains item.body c → ⊥) kind_clash.symbols ((λ c m. omega (arith, m.1)), tt)

no_body : (s : ℕ) (c : Comp) → InBody kind_clash s c → ⊥
no_body s c (item, m, named, k) = no_item_body item m c k

no_text : (c : Comp) → InText kind_clash c → ⊥
no_text c (inl (r, m, k)) = no_rule_body r m c k
no_text c (inr (s, h)) = no_body s c h

no_declaration : (s a : ℕ) (d : Decl) → IsDeclared kind_clash s a d → ⊥
no_declaration s a d (item, m, named, k, e) = every (λ (item : SymbolItem). (d : Decl) → Contains item.decls d → ⊥) kind_clash.symbols ((λ d m. omega (arith, m.1)), tt) item m d k

not_of : (P : ℕ → Type 0) → ((s : ℕ) → P s → ⊥) → (s : ℕ) → OfClass kind_clash P s → ⊥
not_of P none s (inl h) = none s h
not_of P none s (inr (class, h, k)) = none class k

says_nothing : (s a : ℕ) (kind : Kind) (at : ℕ) → SaysKind kind_clash s a kind at → ⊥
says_nothing s a kind at (clash.SaysKind.declared h) = not_of _ (λ x t. no_declaration x a t.0 t.1) s h
says_nothing s a kind at (clash.by_attr d m e f g) = omega (arith, m.1)
says_nothing s a kind at (clash.by_target h) = not_of _ (λ x t. no_rule_body t.0 t.5 t.1 t.6) s h
says_nothing s a kind at (clash.by_synt e h) = not_of _ (λ x t. no_body x t.0 t.2) s h
says_nothing s a kind at (clash.by_inh e h) = not_of _ (λ x t. no_body x t.0 t.2) s h

is_X : (s : ℕ) → IsClass kind_clash s → s ≡ X
is_X s (item, m, class, k) = every (λ (item : SymbolItem). Contains (names_of item) s → s ≡ X) kind_clash.symbols ((λ k. every (λ y. y ≡ X) (X ∷ []) (refl, tt) s k), tt) item m k

pub X_is : IsClass kind_clash X
X_is = (class_item, (0, omega arith, refl), refl, (0, omega arith, refl))

in_production : (r : RuleItem) → Contains kind_clash.rules r → (x : Name) → Contains (production_names r) x → IsClass kind_clash (name_of x) → 34 ≤ x.at
in_production = every (λ (r : RuleItem). (x : Name) → Contains (production_names r) x → IsClass kind_clash (name_of x) → 34 ≤ x.at) kind_clash.rules (
  every (λ (x : Name). IsClass kind_clash (name_of x) → 34 ≤ x.at) (production_names rule_of_class) ((λ h. let wrong : S ≡ X = is_X S h in cc), ((λ h. omega arith), tt)),
  tt,
)

no_terminal : (item : SymbolItem) → Contains kind_clash.symbols item → (x : Name) → Contains item.names x → IsClass kind_clash (name_of x)
no_terminal = every (λ (item : SymbolItem). (x : Name) → Contains item.names x → IsClass kind_clash (name_of x)) kind_clash.symbols (every (λ (x : Name). IsClass kind_clash (name_of x)) class_item.names (X_is, tt), tt)

of_terminal : (at : ℕ) → IsOfTerminal kind_clash at → ⊥
of_terminal at (clash.by_item item x m k plain brings e) = plain.1 (no_terminal item m x k)
of_terminal at (clash.by_place c x i a t u not_so plain e) = no_text c t
of_terminal at (clash.by_remote_list e x leaf m plain f) = no_text leaf.0 leaf.1

twofold : (at : ℕ) → IsTwofold kind_clash at → ⊥
twofold at (clash.kinds s a first k l x y not_so h) = says_nothing s a k first x
twofold at (clash.types_by_attr d e m k same not_so h f) = omega (arith, m.1)
twofold at (clash.types_by_symbol s a d e m k not_so h f) = not_of _ (λ x k. no_declaration x a d k) s m

again : (at : ℕ) → IsChainAgain kind_clash at → ⊥
again at (clash.behind_a_chain x y m k e h f) = omega (arith, m.1)
again at (clash.behind_an_attribute x y m k e h f) = omega (arith, k.1)

elsewhere : (at : ℕ) → IsChainElsewhere kind_clash at → ⊥
elsewhere at (clash.IsChainElsewhere.synt c a t u h e) = no_text c t
elsewhere at (clash.IsChainElsewhere.inh c a t u h e) = no_text c t
elsewhere at (clash.on_right_side r c x i a m k u side h e) = no_rule_body r m c k

plain_rules : (r : RuleItem) → Contains kind_clash.rules r → r.list ≡ prelude.false
plain_rules = every (λ (r : RuleItem). r.list ≡ prelude.false) kind_clash.rules (refl, tt)

no_inherits : (item : SymbolItem) → Contains kind_clash.symbols item → (x : Name) → Contains item.inherits x → ⊥
no_inherits = every (λ (item : SymbolItem). (x : Name) → Contains item.inherits x → ⊥) kind_clash.symbols ((λ x m. omega (arith, m.1)), tt)

pub least : (other : ℕ) → IsKindClash kind_clash env other → 34 ≤ other
least other (clash.class_in_production r x m k h e) = let here = in_production r m x k h in omega (arith, here, e)
least other (clash.faulty_term d m e h) = absurd (omega (arith, m.1))
least other (clash.terminal_in_list r x ty m list k h e) = let plain = plain_rules r m in cc
least other (clash.inherits_no_class item x m k h e) = absurd (no_inherits item m x k)
least other (clash.attribute_of_terminal h) = absurd (of_terminal other h)
least other (clash.twofold_attribute h) = absurd (twofold other h)
least other (clash.chain_declared_again h) = absurd (again other h)
least other (clash.chain_in_pair e p leaf m h f) = absurd (no_text leaf.0 leaf.1)
least other (clash.chain_elsewhere h) = absurd (elsewhere other h)
least other (clash.no_chain c a t u h e) = absurd (no_text c t)
least other (clash.target_by_this c a t e h f) = absurd (no_text c t)
least other (clash.below_in_inh s c a e body f m b) = absurd (no_body s c body)
least other (clash.tail_in_start c a b t e m) = absurd (no_text c t)
least other (clash.bare_nonterminal r c x i m k l not_so h e) = absurd (no_rule_body r m c k)
