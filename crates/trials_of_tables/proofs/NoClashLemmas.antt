-- The specification of counted items has no KindClash.
use Rattle.std.specs.Prelude.{◌≡◌, ℤ, ℕ, ◌<◌, Bool, IsTrue, List, [], ◌∷◌, ◌++◌, Option, Some, None, Contains, refl}
use Rattle.std.specs.Prelude as prelude
use Rattle.std.specs.List.{AllByRecursion}
use Rattle.std.proofs.Common.{arith, ap, subst, sym, inl, inr, ◌⊎◌, ◌∙◌}
use Rattle.lido_base.specs.declared.kinds.Kind.{Kind}
use Rattle.lido_base.specs.declared.kinds.Kind.TheVariants.{Synthesized, Inherited}
use Rattle.lido_base.specs.declared.value.ValueType.TheVariants as type
use Rattle.lido_syntax.specs.declared.spec.Name.{Name}
use Rattle.lido_syntax.specs.declared.spec.Comp.{Comp}
use Rattle.lido_syntax.specs.declared.spec.Decl.{Decl}
use Rattle.lido_syntax.specs.declared.spec.Pair.{Pair}
use Rattle.lido_syntax.specs.declared.spec.Typed1.{Typed1}
use Rattle.lido_syntax.specs.declared.spec.RuleItem.{RuleItem}
use Rattle.lido_syntax.specs.declared.spec.SymbolItem.{SymbolItem}
use Rattle.lido_syntax.specs.declared.spec.Element.{Element}
use Rattle.lido_syntax.specs.declared.spec.Element.TheVariants.{Symbol, Literal}
use Rattle.lido_syntax.specs.declared.spec.Target.{Target}
use Rattle.lido_syntax.specs.declared.spec.Target.TheVariants as target
use Rattle.lido_syntax.specs.declared.spec.Place.TheVariants as place
use Rattle.lido_syntax.specs.declared.spec.Expr.{Expr, Read, Terminal, Including, Constituents}
use Rattle.lido_syntax.specs.Production.{name_of}
use Rattle.lido_syntax.specs.Parts.{leaves_of}
use Rattle.lido_syntax.specs.Symbols.{IsNonterminal, IsChain}
use Rattle.lido_syntax.specs.Sets.{names_of}
use Rattle.lido_syntax.specs.Attributes.{Use, uses, possible, IsOnSide, InBody, InText, IsDeclared, OfClass}
use Rattle.trials_of_syntax.proofs.Members.{every}
use Rattle.lido_symbols.specs.Uses.{production_names, declared_names}
use Rattle.kind_clashes.specs.KindClash.{IsPlainTerminal, IsKindClash, SaysKind, IsOfTerminal, IsTwofold, IsChainAgain, IsChainElsewhere, IsBelow, remote_names, pairs_of, chain_names}
use Rattle.lido_symbols.specs.Classes.{IsClass}
use Rattle.kind_clashes.specs.KindClash as clash
use Rattle.trials_of_tables.specs.CountedItems.{spec, env, Num, Counted, Top, Item, no, pairs, sum, give_t, give_b, start, out, give_no, warn, top_rule, item_rule, class_item, heir_item}
use Rattle.trials_of_tables.specs.Writing.{name}
use Rattle.trials_of_tables.proofs.NoFaultLemmas.{each_rule, each_item, in_rules, in_text, its_class}

-- the one class
is_counted : (s : ℕ) → IsClass spec s → s ≡ Counted
is_counted s (item, m, class, k) = each_item (λ item. IsTrue item.class → Contains (names_of item) s → s ≡ Counted) (λ h k. every (λ y. y ≡ Counted) (Counted ∷ []) (refl, tt) s k) (λ h k. cc) item m class k

no_class : (s : ℕ) → IsNonterminal spec s → IsClass spec s → ⊥
no_class s h k = let n : IsNonterminal spec Counted = subst (IsNonterminal spec) (is_counted s k) h in cc

no_terminal : (s : ℕ) → IsNonterminal spec s → IsPlainTerminal spec s → ⊥
no_terminal s h k = k.0.1.0 h

-- what a use names: a nonterminal, or by SYNT an attribute
abbrev IsFitUse : Use → Type 0
IsFitUse (place.Named x i, a) = IsNonterminal spec (name_of x)
IsFitUse (place.Synt, a) = IsChain spec (name_of a) → ⊥
IsFitUse _ = ⊥

abbrev FitUses : Comp → Type 0
FitUses c = (u : Use) → Contains (uses c) u → IsFitUse u

pub fit_uses : (c : Comp) → InText spec c → FitUses c
fit_uses = in_text FitUses (every IsFitUse (uses give_t) ((λ h. cc), (refl, tt))) (every IsFitUse (uses give_b) (refl, tt)) (every IsFitUse (uses start) tt) (every IsFitUse (uses out) (refl, tt))
    (every IsFitUse (uses give_no) (refl, (refl, tt))) (every IsFitUse (uses warn) tt)

-- remote lists name nonterminals and no chain, and no TAIL is read
abbrev IsFitRead : Expr → Type 0
IsFitRead (Read at place.Tail a) = ⊥
IsFitRead _ = Unit {0}

abbrev IsFitLeaf : Expr → Type 0
IsFitLeaf e = ((x : Name) → Contains (remote_names e) x → IsNonterminal spec (name_of x)) × ((p : Pair) → Contains (pairs_of e) p → IsChain spec (name_of p.attr) → ⊥) × IsFitRead e

plain_leaf : (e : Expr) → remote_names e ≡ [] → pairs_of e ≡ [] → IsFitRead e → IsFitLeaf e
plain_leaf e f g h =
    ((λ x m. let k : Contains [] x = subst (λ (xs : List Name). Contains xs x) f m in absurd (omega (arith, k.1))), (λ p m c. let k : Contains [] p = subst (λ (ps : List Pair). Contains ps p) g m in omega (arith, k.1)), h)

abbrev FitLeaves : Comp → Type 0
FitLeaves c = (e : Expr) → Contains (leaves_of c) e → IsFitLeaf e

remote_leaf : (e : Expr) → AllByRecursion (λ (x : Name). IsNonterminal spec (name_of x)) (remote_names e) → AllByRecursion (λ (p : Pair). IsChain spec (name_of p.attr) → ⊥) (pairs_of e) → IsFitRead e → IsFitLeaf e
remote_leaf e f g h = (every (λ (x : Name). IsNonterminal spec (name_of x)) (remote_names e) f, every (λ (p : Pair). IsChain spec (name_of p.attr) → ⊥) (pairs_of e) g, h)

fit_leaves : (c : Comp) → InText spec c → FitLeaves c
fit_leaves = in_text FitLeaves
    (every IsFitLeaf (leaves_of give_t) (remote_leaf (Including 84 pairs) (refl, tt) ((λ h. cc), tt) tt, tt))
    (every IsFitLeaf (leaves_of give_b) (plain_leaf give_b.value refl refl tt, tt))
    (every IsFitLeaf (leaves_of start) (plain_leaf start.value refl refl tt, tt))
    (every IsFitLeaf (leaves_of out) (remote_leaf (Constituents sum) (refl, (refl, tt)) ((λ h. cc), tt) tt, tt))
    (every IsFitLeaf (leaves_of give_no) (plain_leaf (Read 349 (place.Named (name 349 Item) None) (name 354 no)) refl refl tt, (plain_leaf (Terminal (name 359 Num) None) refl refl tt, tt)))
    (every IsFitLeaf (leaves_of warn) (plain_leaf warn.value refl refl tt, tt))

-- targets: neither INH nor THIS, and the start is that of a chain
abbrev IsFitTarget : Target → Type 0
IsFitTarget (target.Attr place.Inh a) = ⊥
IsFitTarget (target.Attr place.This a) = ⊥
IsFitTarget (target.Start a) = IsChain spec (name_of a)
IsFitTarget _ = Unit {0}

fit_targets : (c : Comp) → InText spec c → IsFitTarget c.target
fit_targets = in_text (λ c. IsFitTarget c.target) tt tt refl tt tt tt

-- a rule's computations tell that attributes are synthesized, and name no chain on a right side
at_left : (kind : Kind) → IsOnSide kind (0 ∷ []) → kind ≡ Synthesized
at_left Synthesized h = refl
at_left Inherited h = absurd h

abbrev pub IsOnLeft : RuleItem → Target → Type 0
IsOnLeft r (target.Attr (place.Named x i) b) = (kind : Kind) → IsOnSide kind (possible r x i) → kind ≡ Synthesized
IsOnLeft r _ = Unit {0}

pub left_targets : (r : RuleItem) → Contains spec.rules r → (c : Comp) → Contains r.body c → IsOnLeft r c.target
left_targets = in_rules (λ r c. IsOnLeft r c.target) at_left tt tt at_left tt

abbrev IsFitSide : RuleItem → Use → Type 0
IsFitSide r (place.Named x i, a) = IsOnSide Inherited (possible r x i) → IsChain spec (name_of a) → ⊥
IsFitSide r _ = Unit {0}

fit_sides : (r : RuleItem) → Contains spec.rules r → (c : Comp) → Contains r.body c → (u : Use) → Contains (uses c) u → IsFitSide r u
fit_sides = in_rules (λ r c. (u : Use) → Contains (uses c) u → IsFitSide r u) (every (IsFitSide top_rule) (uses give_b) ((λ h k. h), tt)) (every (IsFitSide top_rule) (uses start) tt)
    (every (IsFitSide top_rule) (uses out) ((λ h k. cc), tt)) (every (IsFitSide item_rule) (uses give_no) ((λ h k. h), ((λ h k. h), tt))) (every (IsFitSide item_rule) (uses warn) tt)

in_rule_text : (r : RuleItem) (c : Comp) → Contains spec.rules r → Contains r.body c → InText spec c
in_rule_text r c m k = inl (r, m, k)

pub of_body : (s : ℕ) (c : Comp) → InBody spec s c → InText spec c
of_body s c h = inr (s, h)

-- kinds
of_class : (P : ℕ → Type 0) (Q : Type 0) → ((s : ℕ) → P s → Q) → (s : ℕ) → OfClass spec P s → Q
of_class P Q f s (inl h) = f s h
of_class P Q f s (inr (class, h, k)) = f class k

pub no_declaration : (s a : ℕ) (d : Decl) → IsDeclared spec s a d → ⊥
no_declaration s a d (item, m, named, k, e) = each_item (λ item. Contains item.decls d → ⊥) (λ k. omega (arith, k.1)) (λ k. omega (arith, k.1)) item m k

pub no_kind : (d : Decl) → Contains spec.attrs d → d.kind ≡ None
no_kind = every (λ (d : Decl). d.kind ≡ None) spec.attrs (refl, (refl, tt))

says_synthesized : (s a : ℕ) (kind : Kind) (at : ℕ) → SaysKind spec s a kind at → kind ≡ Synthesized
says_synthesized s a kind at (clash.SaysKind.declared h) = of_class _ (kind ≡ Synthesized) (λ x t. absurd (no_declaration x a t.0 t.1)) s h
says_synthesized s a kind at (clash.by_attr d m e f g) = let none = no_kind d m in cc
says_synthesized s a kind at (clash.by_target h) =
    of_class _ (kind ≡ Synthesized) (λ x t. let left : IsOnLeft t.0 (target.Attr (place.Named t.2 t.3) t.4) = subst (IsOnLeft t.0) t.7 (left_targets t.0 t.5 t.1 t.6) in left kind t.8) s h
says_synthesized s a kind at (clash.by_synt e h) = e
says_synthesized s a kind at (clash.by_inh e h) = of_class _ (kind ≡ Synthesized) (λ x t. absurd (fit_uses t.0 (of_body x t.0 t.2) (place.Inh, t.1) t.3)) s h

one_type : (d : Decl) → Contains spec.attrs d → d.ty ≡ type.Int
one_type = every (λ (d : Decl). d.ty ≡ type.Int) spec.attrs (refl, (refl, tt))

not_twofold : (at : ℕ) → IsTwofold spec at → ⊥
not_twofold at (clash.kinds s a first k l x y other h) = other (says_synthesized s a k first x ∙ sym (says_synthesized s a l at y))
not_twofold at (clash.types_by_attr d e m k same other h f) = other (one_type d m ∙ sym (one_type e k))
not_twofold at (clash.types_by_symbol s a d e m k other h f) = of_class _ ⊥ (λ x t. no_declaration x a d t) s m

-- terminals
not_of_item : (item : SymbolItem) → Contains spec.symbols item → (x : Name) → Contains item.names x → IsPlainTerminal spec (name_of x) → ⊥
not_of_item = each_item (λ item. (x : Name) → Contains item.names x → IsPlainTerminal spec (name_of x) → ⊥)
    (every (λ (x : Name). IsPlainTerminal spec (name_of x) → ⊥) class_item.names ((λ h. h.1 its_class), tt)) (every (λ (x : Name). IsPlainTerminal spec (name_of x) → ⊥) heir_item.names (no_terminal Item refl, tt))

not_of_terminal : (at : ℕ) → IsOfTerminal spec at → ⊥
not_of_terminal at (clash.by_item item x m k plain brings e) = not_of_item item m x k plain
not_of_terminal at (clash.by_place c x i a t u other plain e) = no_terminal (name_of x) (fit_uses c t (place.Named x i, a) u) plain
not_of_terminal at (clash.by_remote_list e x (c, t, l) m plain f) = no_terminal (name_of x) ((fit_leaves c t e l).0 x m) plain

-- chains
chain_place : (x : Name) → Contains (chain_names spec) x → x ≡ record { at = 22; id = record { 0 = no } }
chain_place = every (λ (x : Name). x ≡ record { at = 22; id = record { 0 = no } }) (chain_names spec) (refl, tt)

no_attribute : (y : Name) → Contains (declared_names spec) y → name_of y ≡ no → ⊥
no_attribute = every (λ (y : Name). name_of y ≡ no → ⊥) (declared_names spec) ((λ e. cc), ((λ e. cc), tt))

one_place : (y : Name) → Contains (chain_names spec ++ declared_names spec) y → name_of y ≡ no → y.at ≡ 22
one_place = every (λ (y : Name). name_of y ≡ no → y.at ≡ 22) (chain_names spec ++ declared_names spec) ((λ e. refl), ((λ e. cc), ((λ e. cc), tt)))

not_again : (at : ℕ) → IsChainAgain spec at → ⊥
not_again at (clash.behind_a_chain x y m k e h f) =
    let second : y.at ≡ 22 = one_place y k (sym e ∙ ap name_of (chain_place x m)) in
    let first : x.at ≡ 22 = ap (λ (x : Name). x.at) (chain_place x m) in
    omega (arith, first, second, h)
not_again at (clash.behind_an_attribute x y m k e h f) = no_attribute x m (e ∙ ap name_of (chain_place y k))

not_elsewhere : (at : ℕ) → IsChainElsewhere spec at → ⊥
not_elsewhere at (clash.IsChainElsewhere.synt c a t u h e) = fit_uses c t (place.Synt, a) u h
not_elsewhere at (clash.IsChainElsewhere.inh c a t u h e) = fit_uses c t (place.Inh, a) u
not_elsewhere at (clash.on_right_side r c x i a m k u side h e) = fit_sides r m c k (place.Named x i, a) u side h

-- symbols
not_in_production : (r : RuleItem) → Contains spec.rules r → (x : Name) → Contains (production_names r) x → IsClass spec (name_of x) → ⊥
not_in_production = each_rule (λ r. (x : Name) → Contains (production_names r) x → IsClass spec (name_of x) → ⊥)
    (every (λ (x : Name). IsClass spec (name_of x) → ⊥) (production_names top_rule) (no_class Top refl, (no_class Item refl, tt)))
    (every (λ (x : Name). IsClass spec (name_of x) → ⊥) (production_names item_rule) (no_class Item refl, ((λ h. let wrong : Num ≡ Counted = is_counted Num h in cc), tt)))

abbrev IsFaultless : Typed1 → Type 0
IsFaultless d = (IsClass spec (name_of d.name) → ⊥) × (IsNonterminal spec (name_of d.name) → ⊥) × (d.ty ≡ type.Int)

faultless : (d : Typed1) → Contains spec.terms d → IsFaultless d
faultless = every IsFaultless spec.terms (((λ h. let wrong : Num ≡ Counted = is_counted Num h in cc), (λ h. cc), refl), tt)

not_faulty_term : (at : ℕ) (d : Typed1) → Contains spec.terms d
    → IsClass spec (name_of d.name) ⊎ IsNonterminal spec (name_of d.name) ⊎ ((e : Typed1) × Contains spec.terms e × (name_of e.name ≡ name_of d.name) × (e.ty ≡ d.ty → ⊥) × (e.name.at < at)) → ⊥
not_faulty_term at d m (inl h) = (faultless d m).0 h
not_faulty_term at d m (inr (inl h)) = (faultless d m).1 h
not_faulty_term at d m (inr (inr (e, k, same, other, h))) = other ((faultless e k).2 ∙ sym (faultless d m).2)

abbrev IsFitElement : Element → Type 0
IsFitElement (Symbol x) = IsNonterminal spec (name_of x)
IsFitElement (Literal s) = Unit {0}

elements : (r : RuleItem) → Contains spec.rules r → r.list ≡ prelude.true → (y : Element) → Contains r.right y → IsFitElement y
elements = each_rule (λ r. r.list ≡ prelude.true → (y : Element) → Contains r.right y → IsFitElement y) (λ e. every IsFitElement top_rule.right (refl, tt)) (λ e. cc)

inherited : (item : SymbolItem) → Contains spec.symbols item → (x : Name) → Contains item.inherits x → IsClass spec (name_of x)
inherited = each_item (λ item. (x : Name) → Contains item.inherits x → IsClass spec (name_of x)) (λ x m. absurd (omega (arith, m.1))) (every (λ (x : Name). IsClass spec (name_of x)) heir_item.inherits (its_class, tt))

abbrev IsFitBare : Expr → Type 0
IsFitBare (Terminal x i) = IsNonterminal spec (name_of x) → ⊥
IsFitBare _ = Unit {0}

fit_bare : (c : Comp) → InText spec c → (e : Expr) → Contains (leaves_of c) e → IsFitBare e
fit_bare = in_text (λ c. (e : Expr) → Contains (leaves_of c) e → IsFitBare e) (every IsFitBare (leaves_of give_t) (tt, tt)) (every IsFitBare (leaves_of give_b) (tt, tt)) (every IsFitBare (leaves_of start) (tt, tt))
    (every IsFitBare (leaves_of out) (tt, tt)) (every IsFitBare (leaves_of give_no) (tt, ((λ h. cc), tt))) (every IsFitBare (leaves_of warn) (tt, tt))

start_or_tail : (c : Comp) (a : Name) → InText spec c → (c.target ≡ target.Start a) ⊎ Contains (uses c) (place.Tail, a) → ¬ IsChain spec (name_of a) → ⊥
start_or_tail c a t (inl e) other = other (subst IsFitTarget e (fit_targets c t))
start_or_tail c a t (inr u) other = fit_uses c t (place.Tail, a) u

pub no_clash : (at : ℕ) → IsKindClash spec env at → ⊥
no_clash at (clash.class_in_production r x m k h e) = not_in_production r m x k h
no_clash at (clash.faulty_term d m e h) = not_faulty_term at d m h
no_clash at (clash.terminal_in_list r x ty m list k h e) = h.0 (elements r m list (Symbol x) k)
no_clash at (clash.inherits_no_class item x m k h e) = h (inherited item m x k)
no_clash at (clash.attribute_of_terminal h) = not_of_terminal at h
no_clash at (clash.twofold_attribute h) = not_twofold at h
no_clash at (clash.chain_declared_again h) = not_again at h
no_clash at (clash.chain_in_pair e p (c, t, l) m h f) = (fit_leaves c t e l).1 p m h
no_clash at (clash.chain_elsewhere h) = not_elsewhere at h
no_clash at (clash.no_chain c a t u h e) = start_or_tail c a t u h
no_clash at (clash.target_by_this c a t e h f) = subst IsFitTarget e (fit_targets c t)
no_clash at (clash.below_in_inh s c a e body f m b) = subst IsFitTarget f (fit_targets c (of_body s c body))
no_clash at (clash.tail_in_start c a b t e m) = (fit_leaves c t (Read at place.Tail b) m).2
no_clash at (clash.bare_nonterminal r c x i m k l other h e) = fit_bare c (in_rule_text r c m k) (Terminal x i) l h
