-- The terminals that the equations of a plain rule use are there.
use Rattle.std.specs.Prelude.{Contains, IsTrue, slice_get, map, flat_map, filter, is_some, nat_eq, ◌&&◌, ◌++◌, if◌then◌else◌, codes}
use Rattle.std.specs.Option.{option_map_or}
use Rattle.std.specs.Str.{bytes_eq}
use Rattle.std.proofs.Common.{◌≡◌, ℕ, ℤ, zero, suc, inl, inr, Bool, true, false, List, [], ◌∷◌, Option, Some, None, refl, sym, ap, subst, ◌∙◌, eqb-true, true≢false}
use Rattle.std.proofs.lemmas.Option.{none-some, same_Some}
use Rattle.std.proofs.lemmas.List.Elements.{Contains-append_left, Contains-append_right}
use Rattle.lido_base.specs.Environment.{Environment}
use Rattle.lido_base.specs.Tree.{contains}
use Rattle.lido_base.specs.declared.operation.Op.{Op}
use Rattle.lido_base.specs.declared.operation.Op.TheVariants as op
use Rattle.lido_base.specs.declared.kinds.CoordPart.{CoordPart}
use Rattle.lido_base.proofs.Lists.{contains-nil, contains-cons, contains-here, contains-flat, flat-contains, place-contains}
use Rattle.lido_base.proofs.TreeLemmas.{both}
use Rattle.flat_grammar.specs.declared.flat.Occ.{Occ}
use Rattle.flat_grammar.specs.declared.flat.FlatExpr.{FlatExpr}
use Rattle.flat_grammar.specs.declared.flat.FlatExpr.TheVariants as flat
use Rattle.flat_grammar.specs.Rules.{terminals_of}
use Rattle.flat_grammar.proofs.ExpressionsLemmas.{terminals-Apply, terminals-If, terminals-Order}
use Rattle.lido_syntax.specs.declared.spec.Spec.{Spec}
use Rattle.lido_syntax.specs.declared.spec.Name.{Name}
use Rattle.lido_syntax.specs.declared.spec.Pair.{Pair}
use Rattle.lido_syntax.specs.declared.spec.Cons.{Cons}
use Rattle.lido_syntax.specs.declared.spec.Comp.{Comp}
use Rattle.lido_syntax.specs.declared.spec.Typed1.{Typed1}
use Rattle.lido_syntax.specs.declared.spec.RuleItem.{RuleItem}
use Rattle.lido_syntax.specs.declared.spec.SymbolItem.{SymbolItem}
use Rattle.lido_syntax.specs.declared.spec.Severity.{Severity}
use Rattle.lido_syntax.specs.declared.spec.Target.{Target}
use Rattle.lido_syntax.specs.declared.spec.Target.TheVariants as target
use Rattle.lido_syntax.specs.declared.spec.Place.{Place}
use Rattle.lido_syntax.specs.declared.spec.Place.TheVariants as place
use Rattle.lido_syntax.specs.declared.spec.Expr.{Expr, Int, Str, Bool as Truth, Terminal, Read, Including, Constituents, Call', Row_of-Expr, end_of-Expr, more_of-Expr}
use Rattle.lido_syntax.specs.Production.{name_of, left_of, right_of, symbols_of, occurrence}
use Rattle.lido_syntax.specs.Parts.{parts, parts_of_all, is_leaf, leaves, leaves_of, conditions, expressions_of}
use Rattle.lido_syntax.specs.Functions.{text_of, operation_of}
use Rattle.lido_syntax.specs.Coordinates.{part_named, coordinate_named}
use Rattle.lido_syntax.specs.Symbols.{IsNonterminal}
use Rattle.lido_syntax.specs.Attributes.{InBody}
use Rattle.lido_syntax.specs.Computation.{Goal, Synthesized, Inherited, Start, Output, Message, Holder, by_rule, by_symbol, InForce, of_rule, of_symbol, of_class, IsSymbolTarget}
use Rattle.lido_syntax.specs.Computation as goal
use Rattle.lido_symbols.specs.FromText.{all_names, names_of_rule, names_of_item}
use Rattle.lido_symbols.specs.Uses.{is_coordinate_of_rule, is_coordinate_of_symbol, symbols_of_computation, symbols_of_target, symbols_in, production_names, computations, declared_names, attributes_of_target, attributes_in}
use Rattle.kind_clashes.specs.KindClash as clash
use Rattle.table_faults.specs.Faults.{bare_in_symbol}
use Rattle.rule_tables.specs.PlainRules.{PlainRule, symbol_at, number}
use Rattle.rule_tables.specs.Forced.{Force, force_for, is_same_goal}
use Rattle.rule_tables.specs.Needs.{Tables, Needs, AreTables}
use Rattle.rule_tables.specs.Slots.{Slot, Front, Behind}
use Rattle.rule_tables.specs.Shares.{Term, Copied, Void, Comb, Single, Null, Empty, last_of, threaded, tail_term}
use Rattle.rule_tables.specs.Shares as share
use Rattle.rule_tables.specs.Flat.{Equation, written, including as by_including, constituents as by_constituents, chain as by_chain, message_of, output}
use Rattle.rule_tables.specs.Copies.{empty_text, nothing, call, operation, copy, copies, shown, joined, constant_text, label, line_feed, get, seen, bare, read, including, made, constituents, copy_of, entered, tail_of, computed, given, message_text, message_if, message_by, message}
use Rattle.flat_laws.proofs.OccurrenceLemmas.{occurrence-names}
use Rattle.flat_laws.proofs.Lists.{mapped-place}
use Rattle.flat_laws.specs.Accepted.{IsAccepted, AreNames}
use Rattle.flat_laws.proofs.SymbolLemmas.{left-nonterminal, right-number, kept, filtered}
use Rattle.flat_laws.proofs.RuleLemmas.{IsRuled, is-rule}
use Rattle.flat_laws.proofs.FaultLemmas.{no-clash, no-unknown}
use Rattle.flat_laws.proofs.ForcedLemmas.{IsForcedAt, Stands, in_rule, in_symbol, in_class, forced-at, IsOfWritten, of_whole, of_listing, of-written}
use Rattle.flat_laws.proofs.NeedLemmas.{found-passes}
use Rattle.flat_laws.proofs.TermLemmas.{IsTermThere, copied}
use Rattle.flat_laws.proofs.TermLemmas as there
use Rattle.flat_laws.proofs.ShareLemmas.{including-share, constituents-share, chain-share, out-share}

-- ---- leaves of arguments

pub part-leaf : (front back : List Expr) (l : Expr) → Contains (filter is_leaf front) l → Contains (filter is_leaf (front ++ back)) l
part-leaf front back l m = let (k, pass) = filtered is_leaf front l m in kept is_leaf (front ++ back) l (Contains-append_left front back l k) pass

pub leaf-part : (front back : List Expr) (l : Expr) → Contains (filter is_leaf back) l → Contains (filter is_leaf (front ++ back)) l
leaf-part front back l m = let (k, pass) = filtered is_leaf back l m in kept is_leaf (front ++ back) l (Contains-append_right front back l k) pass

-- ---- expressions

module _ (env : Environment) (IsThere : ℕ → Type 0) where
  -- all terminals of the expression are there
  abbrev pub AllThere : FlatExpr → Type 0
  AllThere e = (k : ℕ) → Contains (terminals_of e) k → IsThere k

  none : (k : ℕ) → Contains [] k → IsThere k
  none k m = absurd (contains-nil k m)

  of-arguments : (args : List FlatExpr) → ((e : FlatExpr) → Contains args e → AllThere e) → (k : ℕ) → Contains (flat_map terminals_of args) k → IsThere k
  of-arguments args all k m = let (e, me, mk) = contains-flat terminals_of args k m in all e me k mk

  pub apply-there : (comp : ℕ) (op : Op) (args : List FlatExpr) → ((e : FlatExpr) → Contains args e → AllThere e) → AllThere (flat.Apply comp op args)
  apply-there comp op args all k m = of-arguments args all k (subst (λ l. Contains l k) (terminals-Apply comp op args) m)

  pub if-there : (args : List FlatExpr) → ((e : FlatExpr) → Contains args e → AllThere e) → AllThere (flat.If args)
  if-there args all k m = of-arguments args all k (subst (λ l. Contains l k) (terminals-If args) m)

  pub order-there : (args : List FlatExpr) → ((e : FlatExpr) → Contains args e → AllThere e) → AllThere (flat.Order args)
  order-there args all k m = of-arguments args all k (subst (λ l. Contains l k) (terminals-Order args) m)

  pub call-there : (comp id : ℕ) (args : List FlatExpr) → ((e : FlatExpr) → Contains args e → AllThere e) → AllThere (call env comp id args)
  call-there comp id args all = by (bytes_eq (text_of env id) (codes "IF")) (bytes_eq (text_of env id) (codes "ORDER")) (operation_of env (text_of env id))
    where
      by : (a b : Bool) (o : Option Op) → AllThere (if a then flat.If args else if b then flat.Order args else operation env comp o args)
      by true b o = if-there args all
      by false true o = order-there args all
      by false false None = none
      by false false (Some op) = apply-there comp op args all

  pub one-of : (a : FlatExpr) → AllThere a → (e : FlatExpr) → Contains (a ∷ []) e → AllThere e
  one-of a h e m = elim (contains-cons a e [] m) [ inl same ↦ subst AllThere same h | inr n ↦ absurd (contains-nil e n) ]

  pub two-of : (a b : FlatExpr) → AllThere a → AllThere b → (e : FlatExpr) → Contains (a ∷ b ∷ []) e → AllThere e
  two-of a b h g e m = elim (contains-cons a e (b ∷ []) m) [ inl same ↦ subst AllThere same h | inr n ↦ one-of b g e n ]

  first-or : (a : FlatExpr) (as_list : List FlatExpr) → AllThere a → ((e : FlatExpr) → Contains as_list e → AllThere e) → (e : FlatExpr) → Contains (a ∷ as_list) e → AllThere e
  first-or a as_list first later e m = elim (contains-cons a e as_list m) [ inl same ↦ subst AllThere same first | inr n ↦ later e n ]

  -- a copy, by its leaves
  module _ (comp : ℕ) (terminal : Name → Option ℤ → FlatExpr) (reads : Place → ℕ → FlatExpr) (includes : List Pair → FlatExpr) (gathers : Cons → FlatExpr) where
    abbrev pub IsLeafThere : Expr → Type 0
    IsLeafThere (Terminal x i) = AllThere (terminal x i)
    IsLeafThere (Read at q a) = AllThere (reads q (name_of a))
    IsLeafThere (Including at pairs) = AllThere (includes pairs)
    IsLeafThere (Constituents k) = AllThere (gathers k)
    IsLeafThere _ = Unit {0}

    mutual
      pub copy-there : (e : Expr) → ((l : Expr) → Contains (filter is_leaf (parts e)) l → IsLeafThere l) → AllThere (copy env comp terminal reads includes gathers e)
      copy-there (Int at z) all = none
      copy-there (Str at s) all = none
      copy-there (Truth at b) all = none
      copy-there (Terminal x i) all = all (Terminal x i) (contains-here (Terminal x i) [])
      copy-there (Read at q a) all = all (Read at q a) (contains-here (Read at q a) [])
      copy-there (Including at pairs) all = all (Including at pairs) (contains-here (Including at pairs) [])
      copy-there (Constituents k) all = all (Constituents k) (contains-here (Constituents k) [])
      copy-there (Call' f shape args) all = call-there comp (name_of f) (copies env comp terminal reads includes gathers args) (copies-there args all)

      copies-there : {m : _} (args : Row_of-Expr m) → ((l : Expr) → Contains (filter is_leaf (parts_of_all args)) l → IsLeafThere l) → (e : FlatExpr) → Contains (copies env comp terminal reads includes gathers args) e → AllThere e
      copies-there end_of-Expr all e m = absurd (contains-nil e m)
      copies-there (more_of-Expr x xs) all e m = first-or (copy env comp terminal reads includes gathers x) (copies env comp terminal reads includes gathers xs) (copy-there x (λ l k. all l (part-leaf (parts x) (parts_of_all xs) l k))) (copies-there xs (λ l k. all l (leaf-part (parts x) (parts_of_all xs) l k))) e m

-- ---- names of bare words

module _ (spec : Spec) where
  abbrev of_rules : List Name
  of_rules = flat_map names_of_rule spec.rules

  abbrev of_items : List Name
  of_items = flat_map names_of_item spec.symbols

  abbrev of_terms : List Name
  of_terms = map (λ (x : Typed1). x.name) spec.terms

  abbrev of_uses : List Name
  of_uses = flat_map (λ (c : Comp). attributes_of_target c.target ++ flat_map attributes_in (leaves_of c)) (computations spec)

  abbrev of_chains : List Name
  of_chains = map (λ (x : Typed1). x.name) spec.chains

  among-all : (x : Name) → Contains (of_rules ++ of_items) x → Contains (all_names spec) x
  among-all x m = Contains-append_left (of_rules ++ of_items ++ of_terms ++ declared_names spec ++ of_uses) of_chains x
      (Contains-append_left (of_rules ++ of_items ++ of_terms ++ declared_names spec) of_uses x
      (Contains-append_left (of_rules ++ of_items ++ of_terms) (declared_names spec) x
      (Contains-append_left (of_rules ++ of_items) of_terms x m)))

  pub of-rule : (r : RuleItem) (x : Name) → Contains spec.rules r → Contains (names_of_rule r) x → Contains (all_names spec) x
  of-rule r x m k = among-all x (Contains-append_left of_rules of_items x (flat-contains names_of_rule spec.rules r x m k))

  pub of-item : (item : SymbolItem) (x : Name) → Contains spec.symbols item → Contains (names_of_item item) x → Contains (all_names spec) x
  of-item item x m k = among-all x (Contains-append_right of_rules of_items x (flat-contains names_of_item spec.symbols item x m k))

  in-computation : (c : Comp) (x : Name) (i : Option ℤ) → Contains (leaves_of c) (Terminal x i) → Contains (symbols_of_computation (λ x i. false) c) x
  in-computation c x i m = Contains-append_right (symbols_of_target c.target) (flat_map (symbols_in (λ x i. false)) (leaves_of c)) x
      (flat-contains (symbols_in (λ x i. false)) (leaves_of c) (Terminal x i) x m (contains-here x []))

  pub bare-of-rule : (r : RuleItem) (c : Comp) (x : Name) (i : Option ℤ) → Contains spec.rules r → Contains r.body c → Contains (leaves_of c) (Terminal x i) → Contains (all_names spec) x
  bare-of-rule r c x i among mc m = of-rule r x among (Contains-append_right (production_names r) (flat_map (symbols_of_computation (λ x i. false)) r.body) x
      (flat-contains (symbols_of_computation (λ x i. false)) r.body c x mc (in-computation c x i m)))

  pub bare-of-item : (item : SymbolItem) (c : Comp) (x : Name) (i : Option ℤ) → Contains spec.symbols item → Contains item.body c → Contains (leaves_of c) (Terminal x i) → Contains (all_names spec) x
  bare-of-item item c x i among mc m = of-item item x among (Contains-append_right (item.names ++ item.inherits) (flat_map (symbols_of_computation (λ x i. false)) item.body) x
      (flat-contains (symbols_of_computation (λ x i. false)) item.body c x mc (in-computation c x i m)))

same-coordinate : (early env : Environment) (h : Holder) (r : RuleItem) (x : Name) (i : Option ℤ) → text_of early (name_of x) ≡ text_of env (name_of x) → coordinate_named early h r x i ≡ coordinate_named env h r x i
same-coordinate early env by_rule r x None e = ap (λ (text : List ℕ). if contains (name_of x) (symbols_of r) then None else part_named text) e
same-coordinate early env by_symbol r x None e = ap part_named e
same-coordinate early env by_rule r x (Some i) e = refl
same-coordinate early env by_symbol r x (Some i) e = refl

no-symbol-coordinate : (env : Environment) (r : RuleItem) (x : Name) (i : Option ℤ) → coordinate_named env by_symbol r x i ≡ None → ¬ IsTrue (is_coordinate_of_symbol env x i)
no-symbol-coordinate env r x None e h = true≢false (sym h ∙ ap (λ (o : Option CoordPart). is_some o) e)
no-symbol-coordinate env r x (Some i) e h = true≢false (sym h)

module _ (spec : Spec) (early env : Environment) (T : Tables spec) (tables : AreTables spec T env) (accepted : IsAccepted spec early T) (names : AreNames spec early env) (needs : Needs spec T)
    (i : ℕ) (p : PlainRule) (fs : List Force) (is : IsRuled spec env T tables i p fs) (slots : ℕ → List Slot) (r : RuleItem) (of : slice_get spec.rules p.rule ≡ Some r) where
  -- a terminal stands at the occurrence
  pub record IsTerminalAt (k : ℕ) : Type 0 where
    pub x : ℕ
    pub s : ℕ
    pub at : symbol_at p k ≡ Some x
    pub named : slice_get T.symbols x ≡ Some s
    pub terminal : ¬ IsNonterminal spec s

  abbrev pub AreTerminals : FlatExpr → Type 0
  AreTerminals = AllThere env IsTerminalAt

  module _ (f : Force) (among : Contains fs f) where
    its : IsForcedAt spec early T accepted p f
    its = forced-at spec early T accepted p (is-rule spec env T tables i p fs is) f ((is.forced f).0 among)

    same-rule : its.r ≡ r
    same-rule = same_Some its.r r (sym its.rule ∙ of)

    module _ (x : Name) (j : Option ℤ) (m : Contains (leaves_of f.comp) (Terminal x j)) where
      of-production : (mr : Contains its.r.body f.comp) → f.holder ≡ by_rule → coordinate_named env by_rule its.r x j ≡ None → (k : ℕ) → occurrence its.r x j ≡ Some k → IsTerminalAt k
      of-production mr e bare k o = by k (occurrence-names its.r x j k o)
          (of-written spec early T accepted p (is-rule spec env T tables i p fs is) its.r its.rule f.occ its.s f.goal f.comp its.written (subst (λ h. InForce spec its.r f.occ its.s f.goal h f.comp) e its.force))
        where
          text : text_of early (name_of x) ≡ text_of env (name_of x)
          text = names.kept x (bare-of-rule spec its.r f.comp x j its.among mr m)

          no-coordinate : ¬ IsTrue (is_coordinate_of_rule early its.r x j)
          no-coordinate h = true≢false (sym h ∙ ap (λ (o : Option CoordPart). is_some o) (same-coordinate early env by_rule its.r x j text ∙ bare))

          terminal : ¬ IsNonterminal spec (name_of x)
          terminal n = no-clash spec early T accepted x.at (clash.bare_nonterminal its.r f.comp x j its.among mr m no-coordinate n refl)

          by : (k : ℕ) → slice_get (left_of its.r ∷ (if its.r.list then [] else right_of its.r)) k ≡ Some (name_of x) → IsOfWritten spec early T accepted p its.r → IsTerminalAt k
          by zero at w = absurd (terminal (subst (IsNonterminal spec) (same_Some (left_of its.r) (name_of x) at) (left-nonterminal spec its.r its.among)))
          by (suc k) at (of_listing role l left) = absurd (none-some (name_of x) (ap (λ b. slice_get (if b then [] else right_of its.r) k) (sym l) ∙ at))
          by (suc k) at (of_whole role l left right) =
              let h : slice_get (right_of its.r) k ≡ Some (name_of x) = ap (λ b. slice_get (if b then [] else right_of its.r) k) (sym l) ∙ at in
              record {
                x = number spec T.symbols (name_of x);
                s = name_of x;
                at = ap (λ l. slice_get l k) right ∙ mapped-place (number spec T.symbols) (right_of its.r) k (name_of x) h;
                named = right-number spec env T tables its.r its.among (name_of x) (place-contains (right_of its.r) k (name_of x) h);
                terminal = terminal;
              }

      of-body : (s : ℕ) → InBody spec s f.comp → coordinate_named env by_symbol its.r x j ≡ None → ⊥
      of-body s (item, mi, h, mc) bare =
          let text = names.kept x (bare-of-item spec item f.comp x j mi mc m) in
          no-unknown spec early T accepted x.at (bare_in_symbol item f.comp x j mi mc (m, no-symbol-coordinate early its.r x j (same-coordinate early env by_symbol its.r x j text ∙ bare)) refl)

      terminal-at : coordinate_named env f.holder its.r x j ≡ None → (k : ℕ) → occurrence its.r x j ≡ Some k → IsTerminalAt k
      terminal-at none k o = by f.holder refl its.stands_in none
        where
          by : (h : Holder) → f.holder ≡ h → Stands spec its.r its.s f.comp h → coordinate_named env h its.r x j ≡ None → IsTerminalAt k
          by _ e (in_rule mr) none = of-production mr e none k o
          by _ e (in_symbol body) none = absurd (of-body its.s body none)
          by _ e (in_class class heir body) none = absurd (of-body class body none)

      bare-there : (tail : ℕ → FlatExpr) (context : ℕ) → AreTerminals (bare spec T needs slots env r p fs tail f.holder context x j)
      bare-there tail context = by (coordinate_named env f.holder r x j) refl (occurrence r x j) refl
        where
          by : (c : Option CoordPart) → coordinate_named env f.holder r x j ≡ c → (o : Option ℕ) → occurrence r x j ≡ o
              → AreTerminals (elim c as (λ _. FlatExpr) [ Some part ↦ flat.Coord part | None ↦ option_map_or (λ k. flat.Terminal k) o nothing ])
          by (Some part) e o g n k = absurd (contains-nil n k)
          by None e None g n k = absurd (contains-nil n k)
          by None e (Some k) g n m = elim (contains-cons k n [] m) [
            | inl same ↦ subst IsTerminalAt same (terminal-at (ap (λ (r : RuleItem). coordinate_named env f.holder r x j) same-rule ∙ e) k (ap (λ (r : RuleItem). occurrence r x j) same-rule ∙ g))
            | inr z ↦ absurd (contains-nil n z)
          ]

  made-there : (tail : ℕ → FlatExpr) (holder : Holder) (context : ℕ) (e : Term) → AreTerminals (made spec T needs slots env r p fs tail holder context e)
  made-there tail holder context (share.Read k s) = λ n m. absurd (contains-nil n m)
  made-there tail holder context (Copied h c) = λ n m. absurd (contains-nil n m)
  made-there tail holder context (Void ds) = λ n m. absurd (contains-nil n m)
  made-there tail holder context (Comb k g a b) =
      call-there env IsTerminalAt k (name_of g) _ (two-of env IsTerminalAt _ _ (made-there tail holder context a) (made-there tail holder context b))
  made-there tail holder context (Single k g a) = call-there env IsTerminalAt k (name_of g) _ (one-of env IsTerminalAt _ (made-there tail holder context a))
  made-there tail holder context (Null k g) = call-there env IsTerminalAt k (name_of g) [] (λ e m. absurd (contains-nil e m))
  made-there tail holder context Empty = λ n m. absurd (contains-nil n m)

  -- an expression of a computation in force
  pub copied-there : (f : Force) → Contains fs f → (tail : ℕ → FlatExpr) → ((c : ℕ) → AreTerminals (tail c)) → (context comp : ℕ) (e : Expr) → ((l : Expr) → Contains (leaves e) l → Contains (leaves_of f.comp) l)
      → AreTerminals (copy_of spec T needs slots env r p fs tail f.holder context comp e)
  copied-there f among tail tails context comp e within =
      copy-there env IsTerminalAt comp (bare spec T needs slots env r p fs tail f.holder context) (read spec T needs slots env r p fs tail f.holder context) (including spec T needs slots env r p fs tail f.holder context)
      (constituents spec T needs slots env r p fs tail f.holder context) e (λ l m. leaf l (within l m))
    where
      reads : (q : Place) (a : ℕ) → AreTerminals (read spec T needs slots env r p fs tail f.holder context q a)
      reads place.Tail a = tails a
      reads place.Synt a = λ n m. absurd (contains-nil n m)
      reads place.Inh a = λ n m. absurd (contains-nil n m)
      reads place.This a = λ n m. absurd (contains-nil n m)
      reads (place.Named x j) a = by (occurrence r x j)
        where
          by : (o : Option ℕ) → AreTerminals (option_map_or (λ k. get spec T needs slots env r p fs k (seen spec T needs slots env r p fs a)) o nothing)
          by None n m = absurd (contains-nil n m)
          by (Some k) n m = absurd (contains-nil n m)

      leaf : (l : Expr) → Contains (leaves_of f.comp) l → IsLeafThere env IsTerminalAt comp (bare spec T needs slots env r p fs tail f.holder context) (read spec T needs slots env r p fs tail f.holder context)
          (including spec T needs slots env r p fs tail f.holder context) (constituents spec T needs slots env r p fs tail f.holder context) l
      leaf (Terminal x j) m = bare-there f among x j m tail context
      leaf (Read at q a) m = reads q (name_of a)
      leaf (Including at pairs) m = λ n k. absurd (contains-nil n k)
      leaf (Constituents k) m = made-there tail f.holder context _
      leaf (Int at z) m = tt
      leaf (Str at s) m = tt
      leaf (Truth at b) m = tt
      leaf (Call' g shape args) m = tt

  value-within : (c : Comp) (l : Expr) → Contains (leaves c.value) l → Contains (leaves_of c) l
  value-within c l m = flat-contains leaves (expressions_of c) c.value l
      (Contains-append_right (conditions c.target) (c.value ∷ c.after) c.value (contains-here c.value c.after)) m

  nothing-there : (c : ℕ) → AreTerminals nothing
  nothing-there c n m = absurd (contains-nil n m)

  tails-there : (c : ℕ) → AreTerminals (tail_of spec T needs slots env r p fs c)
  tails-there c = by (last_of (threaded spec T needs p fs c)) (force_for fs 0 (Start c)) refl
    where
      by : (o : Option ℕ) (s : Option Force) → force_for fs 0 (Start c) ≡ s
          → AreTerminals (entered spec T needs slots env r p fs (elim o as (λ _. Term) [ None ↦ elim s as (λ _. Term) [ Some f ↦ Copied f.holder f.comp | None ↦ share.Read 0 (Front c) ] | Some j ↦ share.Read j (Behind c) ]))
      by (Some j) s e = λ n m. absurd (contains-nil n m)
      by None None e = λ n m. absurd (contains-nil n m)
      by None (Some f) e =
          let (m, pass) = found-passes (λ (f : Force). nat_eq f.occ 0 && is_same_goal f.goal (Start c)) fs f e in
          copied-there f m (λ chain. nothing) nothing-there 0 f.comp.number f.comp.value (value-within f.comp)

  pub computed-terminals : (f : Force) → Contains fs f → (context : ℕ) → AreTerminals (computed spec T needs slots env r p fs f.holder context f.comp)
  computed-terminals f among context = copied-there f among (tail_of spec T needs slots env r p fs) tails-there context f.comp.number f.comp.value (value-within f.comp)

  pub given-terminals : (e : Term) → IsTermThere spec early env T tables accepted needs i p fs is e → AreTerminals (given spec T needs slots env r p fs e)
  given-terminals _ (copied f m z) = computed-terminals f m 0
  given-terminals _ (there.read k s h) = λ n m. absurd (contains-nil n m)
  given-terminals _ (there.void ds all) = λ n m. absurd (contains-nil n m)
  given-terminals _ (there.comb k g a b x y) = made-there (λ chain. nothing) by_rule 0 (Comb k g a b)
  given-terminals _ (there.single k g a x) = made-there (λ chain. nothing) by_rule 0 (Single k g a)
  given-terminals _ (there.null k g) = made-there (λ chain. nothing) by_rule 0 (Null k g)
  given-terminals _ there.empty = λ n m. absurd (contains-nil n m)

  -- ---- messages

  shown-there : (comp : ℕ) (e : FlatExpr) → AreTerminals e → AreTerminals (shown comp e)
  shown-there comp e h = apply-there env IsTerminalAt comp op.AsIs (e ∷ []) (one-of env IsTerminalAt e h)

  joined-there : (comp : ℕ) (a b : FlatExpr) → AreTerminals a → AreTerminals b → AreTerminals (joined comp a b)
  joined-there comp a b h g = apply-there env IsTerminalAt comp op.Seq (a ∷ b ∷ []) (two-of env IsTerminalAt a b h g)

  constant-there : (text : List ℕ) → AreTerminals (constant_text env text)
  constant-there text n m = absurd (contains-nil n m)

  text-there : (f : Force) → Contains fs f → f.holder ≡ by_rule → (severity : Severity) → AreTerminals (message_text spec T needs slots env r p fs f.comp severity)
  text-there f among e severity =
      joined-there f.comp.number _ _ (shown-there f.comp.number _ (constant-there (label severity)))
      (joined-there f.comp.number _ _ (shown-there f.comp.number _ (subst (λ h. AreTerminals (computed spec T needs slots env r p fs h 0 f.comp)) e (computed-terminals f among 0)))
      (shown-there f.comp.number _ (constant-there line_feed)))

  empty-there : AreTerminals empty_text
  empty-there n m = absurd (contains-nil n m)

  abbrev asked : Comp → Expr → FlatExpr
  asked c x = copy_of spec T needs slots env r p fs (tail_of spec T needs slots env r p fs) by_rule 0 c.number x

  abbrev said : Comp → Severity → FlatExpr
  said c severity = message_text spec T needs slots env r p fs c severity

  condition-there : (f : Force) → Contains fs f → f.holder ≡ by_rule → (severity : Severity) (o : Option Expr) → f.comp.target ≡ target.Message severity o → AreTerminals (message_if spec T needs slots env r p fs f.comp severity o)
  condition-there f among e severity None t = text-there f among e severity
  condition-there f among e severity (Some x) t =
      if-there env IsTerminalAt (asked f.comp x ∷ said f.comp severity ∷ empty_text ∷ []) (first-or env IsTerminalAt (asked f.comp x) (said f.comp severity ∷ empty_text ∷ []) (subst (λ h. AreTerminals (copy_of spec T needs slots env r p fs (tail_of spec T needs slots env r p fs) h 0 f.comp.number x)) e
      (copied-there f among (tail_of spec T needs slots env r p fs) tails-there 0 f.comp.number x within))
      (two-of env IsTerminalAt (said f.comp severity) empty_text (text-there f among e severity) empty-there))
    where
      within : (l : Expr) → Contains (leaves x) l → Contains (leaves_of f.comp) l
      within l m = flat-contains leaves (expressions_of f.comp) x l
          (Contains-append_left (conditions f.comp.target) (f.comp.value ∷ f.comp.after) x (subst (λ (t : Target). Contains (conditions t) x) (sym t) (contains-here x []))) m

  by-target : (f : Force) → Contains fs f → f.holder ≡ by_rule → (t : Target) → f.comp.target ≡ t → AreTerminals (message_by spec T needs slots env r p fs f.comp t)
  by-target f among e (target.Message severity o) t = condition-there f among e severity o t
  by-target f among e (target.Attr q a) t = empty-there
  by-target f among e (target.Start a) t = empty-there
  by-target f among e target.Out t = empty-there

  same-message : (g : Goal) (j : ℕ) → is_same_goal g (Message j) ≡ true → g ≡ Message j
  same-message (Message k) j e = ap Message (eqb-true k j e)
  same-message (Synthesized a) j e = absurd (true≢false (sym e))
  same-message (Inherited a) j e = absurd (true≢false (sym e))
  same-message (Start a) j e = absurd (true≢false (sym e))
  same-message (goal.Behind a) j e = absurd (true≢false (sym e))
  same-message Output j e = absurd (true≢false (sym e))

  -- a message is a rule's own
  message-of-rule : (q : RuleItem) (o s j : ℕ) (h : Holder) (c : Comp) → InForce spec q o s (Message j) h c → h ≡ by_rule
  message-of-rule q o s j _ c (of_rule at own) = refl
  message-of-rule q o s j _ c (of_symbol at unlike own) = absurd (no-target c.target own.1)
    where
      no-target : (t : Target) → ¬ IsSymbolTarget spec t (Message j)
      no-target t h = by t h
        where
          by : (t : Target) → IsSymbolTarget spec t (Message j) → ⊥
          by (target.Attr place.Synt b) h = h
          by (target.Attr place.Inh b) h = h
          by (target.Attr place.This b) h = h
          by (target.Attr place.Tail b) h = h
          by (target.Attr (place.Named x i) b) h = h
          by (target.Start b) h = h
          by target.Out h = h
          by (target.Message v m) h = h
  message-of-rule q o s j _ c (of_class class at unlike no_own is_left only own) = absurd (no-target c.target own.1)
    where
      no-target : (t : Target) → ¬ IsSymbolTarget spec t (Message j)
      no-target t h = by t h
        where
          by : (t : Target) → IsSymbolTarget spec t (Message j) → ⊥
          by (target.Attr place.Synt b) h = h
          by (target.Attr place.Inh b) h = h
          by (target.Attr place.This b) h = h
          by (target.Attr place.Tail b) h = h
          by (target.Attr (place.Named x i) b) h = h
          by (target.Start b) h = h
          by target.Out h = h
          by (target.Message v m) h = h

  message-there : (j : ℕ) → AreTerminals (message spec T needs slots env r p fs j)
  message-there j = by (force_for fs 0 (Message j)) refl
    where
      by : (o : Option Force) → force_for fs 0 (Message j) ≡ o → AreTerminals (elim o as (λ _. FlatExpr) [ Some f ↦ message_by spec T needs slots env r p fs f.comp f.comp.target | None ↦ empty_text ])
      by None e = empty-there
      by (Some f) e =
          let (m, pass) = found-passes (λ (f : Force). nat_eq f.occ 0 && is_same_goal f.goal (Message j)) fs f e in
          let same = same-message f.goal j (both (nat_eq f.occ 0) (is_same_goal f.goal (Message j)) pass).1 in
          let at = its f m in
          by-target f m (message-of-rule at.r f.occ at.s j f.holder f.comp (subst (λ g. InForce spec at.r f.occ at.s g f.holder f.comp) same at.force)) f.comp.target refl

  -- the terminals of an equation are there
  pub equation-terminals : (k : ℕ) (s : Slot) (origin : ℕ) (value : FlatExpr) (deps : List Occ) → Equation spec T needs slots env r p fs k s origin value deps → AreTerminals value
  equation-terminals _ _ _ _ _ (written f a m g) = computed-terminals f m _
  equation-terminals k s _ _ _ (by_including _ _ e h) = given-terminals e (including-share spec early env T tables accepted needs i p fs is k s e h).1
  equation-terminals k s _ _ _ (by_constituents _ _ e h) = given-terminals e (constituents-share spec early env T tables accepted needs i p fs is k s e h).1
  equation-terminals k s _ _ _ (by_chain _ _ e h) = given-terminals e (chain-share spec early env T tables accepted needs i p fs is k s e h).1
  equation-terminals _ _ _ _ _ (message_of j of_node has) = message-there j
  equation-terminals _ _ _ _ _ (output s at is_root) = given-terminals _ (out-share spec early env T tables accepted needs i p fs is)
