-- Computations are in force at nodes by the entries as by the definition.
use Rattle.std.specs.Prelude.{◌&&◌, IsTrue, Contains, slice_get, ◌↔◌, map, unwrap_or, if◌then◌else◌}
use Rattle.std.specs.List.{list_any}
use Rattle.std.proofs.Common.{◌≡◌, ℕ, ◌<◌, Bool, true, false, List, ◌∷◌, [], length, Option, Some, None, refl, sym, ap, subst, ◌∙◌, arith, zero-add}
use Rattle.std.proofs.lemmas.Option.{none-some, same_Some}
use Rattle.lido_base.specs.Environment.{Environment}
use Rattle.lido_base.specs.declared.ids.SymId.{SymId}
use Rattle.lido_base.proofs.Lists.{contains-flat, flat-contains, contains-place, place-contains}
use Rattle.lido_syntax.specs.declared.spec.Comp.{Comp}
use Rattle.lido_symbols.specs.Numbers.{enumerated}
use Rattle.lido_symbols.specs.Uses.{computations}
use Rattle.flat_grammar.specs.declared.flat.FlatRule.{FlatRule}
use Rattle.rule_tables.specs.declared.table.Tables.{Tables}
use Rattle.rule_tables.specs.declared.forced.Forced.{Forced}
use Rattle.rule_tables.specs.declared.forced.Force.{Force as Entry}
use Rattle.rule_tables.specs.PlainRules.{PlainRule, plain_rules, symbol_at}
use Rattle.rule_tables.specs.Forced.{Force, context_of, IsForced}
use Rattle.rule_tables.specs.ForcedOf.{IsEntryOf, AreEntriesOf, AreForcedOf, AreNumbersOf}
use Rattle.rule_tables.specs.Needs.{Tables as Numbered, ruled, is_at, in_force_at}
use Rattle.rule_tables.specs.TablesOf.{named_symbols, IsPlainOf}
use Rattle.rule_tables.proofs.NeedsLemmas.{any-found}
use Rattle.rule_tables.proofs.SlotLemmas.{zip-at, enumerated-at}
use Rattle.need_graphs.specs.declared.numbers.Numbers.{Numbers}
use Rattle.need_graphs.specs.Users.{has, symbol_in, entries_at}
use Rattle.need_graphs.specs.Contexts.{context_by, rule_contexts, all_contexts}
use Rattle.need_graphs.proofs.ListLemmas.{same-bool, contains-filtered, filtered-contains, enumerated-place}
use Rattle.need_graphs.proofs.RangeLemmas.{inside}
use Rattle.need_graphs.proofs.EdgeLemmas.{found-any, zip-left, zip-right}
use Rattle.need_graphs.proofs.StartLemmas.{at-zip}
use Rattle.need_graphs.proofs.UserLemmas.{both, of-both, forced-text}

module _ (t : Tables) (numbers : Numbers) (test : Comp → Bool) (tells : (k : Comp) → Contains (computations t.spec) k → IsTrue (test k) ↔ IsTrue (has numbers k.number))
    (env : Environment) (p : PlainRule) (r : FlatRule) (plain : IsPlainOf t.spec env (named_symbols t) p r) (T : Numbered t.spec) (fs : List Force) (es : List Entry)
    (entries : AreEntriesOf t p es) (forced : (f : Force) → Contains fs f ↔ IsForced t.spec p f) where
  at-same : (e : Entry) (f : Force) → IsEntryOf t p e f → symbol_in r e.context ≡ symbol_at p (context_of f)
  at-same e f is = ap (symbol_in r) is.context ∙ (λ i. slice_get (plain.left i ∷ plain.right i) (context_of f))

  has-same : (e : Entry) (f : Force) → IsEntryOf t p e f → IsForced t.spec p f → has numbers e.number ≡ test f.comp
  has-same e f is here =
      let b = tells f.comp (forced-text t p f here) in
      ap (has numbers) is.number ∙ same-bool (has numbers f.comp.number) (test f.comp) b.1 b.0

  context-same : (e : Entry) (f : Force) → IsEntryOf t p e f → IsForced t.spec p f → context_by numbers r e ≡ (if test f.comp then symbol_at p (context_of f) else None)
  context-same e f is here = let u = has-same e f is here in let s = at-same e f is in λ i. if u i then s i else None

  abbrev passes : ℕ → Force → Bool
  passes x f = is_at t.spec T p f x && test f.comp

  contexts-to : (x : ℕ) → Contains (rule_contexts numbers r es) x → IsTrue (list_any (passes x) fs)
  contexts-to x m =
      let (e, among, made) = contains-filtered (context_by numbers r) es x m in
      let (f, here, is) = entries.each e among in
      found-any (passes x) fs f ((forced f).1 here) (both (symbol_at p (context_of f)) (test f.comp) x (sym (context-same e f is here) ∙ made))

  contexts-from : (x : ℕ) → IsTrue (list_any (passes x) fs) → Contains (rule_contexts numbers r es) x
  contexts-from x h =
      let (f, among, b) = any-found (passes x) fs h in
      let here = (forced f).0 among in
      let (e, of, is) = entries.all f here in
      filtered-contains (context_by numbers r) es e x of (context-same e f is here ∙ of-both (symbol_at p (context_of f)) (test f.comp) x b)

module _ (env : Environment) (forced : Forced) (are : AreForcedOf env forced) (numbers : Numbers) where
  abbrev tables : Tables
  tables = forced.tables

  abbrev plain : List PlainRule
  plain = plain_rules tables.spec (named_symbols tables)

  abbrev IsIts : PlainRule → FlatRule → Type 0
  IsIts = IsPlainOf tables.spec env (named_symbols tables)

  abbrev numbered_contexts : ℕ × FlatRule → List ℕ
  numbered_contexts x = rule_contexts numbers x.1 (entries_at forced.comps x.0)

  -- a context stands in a plain rule
  pub record IsContext (x : ℕ) : Type 0 where
    pub i : ℕ
    pub rule : FlatRule
    pub plain_rule : PlainRule
    pub entries : List Entry
    pub of_rule : slice_get tables.plain i ≡ Some rule
    pub of_plain : slice_get plain i ≡ Some plain_rule
    pub is_plain : IsIts plain_rule rule
    pub are_entries : AreEntriesOf tables plain_rule entries
    pub is : Contains (rule_contexts numbers rule entries) x

  is-context : (x : ℕ) → Contains (all_contexts numbers tables.plain forced.comps) x → IsContext x
  is-context x m =
      let (it, among, of) = contains-flat numbered_contexts (enumerated 0 tables.plain) x m in
      let (j, same, at) = enumerated-place 0 it.0 it.1 tables.plain among in
      let (p, there, is) = zip-left IsIts plain tables.plain j it.1 are.tables.plain at in
      let (es, here, entries) = zip-right (AreEntriesOf tables) plain forced.comps j p are.entries there in
      record {
        i = j;
        rule = it.1;
        plain_rule = p;
        entries = es;
        of_rule = at;
        of_plain = there;
        is_plain = is;
        are_entries = entries;
        is = let e : it.0 ≡ j = omega (arith, same) in subst (λ l. Contains (rule_contexts numbers it.1 l) x) (ap (entries_at forced.comps) e ∙ ap (λ o. unwrap_or o []) here) of;
      }

  symbol-of : (b : Bool) (rule : FlatRule) (k x : ℕ) → (if b then symbol_in rule k else None) ≡ Some x → symbol_in rule k ≡ Some x
  symbol-of true rule k x e = e
  symbol-of false rule k x e = absurd (none-some _ e)

  -- the symbols of contexts have rows
  pub contexts-below : (x : ℕ) → Contains (all_contexts numbers tables.plain forced.comps) x → x < length tables.symbols
  contexts-below x m =
      let u = is-context x m in
      let (e, among, made) = contains-filtered (context_by numbers u.rule) u.entries x u.is in
      let at = symbol-of (has numbers e.number) u.rule e.context x made in
      let there = place-contains (u.rule.left.0 ∷ map (λ (s : SymId). s.0) u.rule.right) e.context x at in
      inside tables env are.tables u.plain_rule (place-contains plain u.i u.plain_rule u.of_plain) x
      (subst (λ l. Contains l x) (λ i. u.is_plain.left i ∷ u.is_plain.right i) there)

  module _ (T : Numbered tables.spec) (of : AreNumbersOf env forced T) (test : Comp → Bool) (tells : (k : Comp) → Contains (computations tables.spec) k → IsTrue (test k) ↔ IsTrue (has numbers k.number)) where
    same-rules : plain_rules tables.spec T.symbols ≡ plain
    same-rules = ap (plain_rules tables.spec) of.symbols

    abbrev at_rule : ℕ → PlainRule × List Force → Bool
    at_rule x r = list_any (λ f. is_at tables.spec T r.0 f x && test f.comp) r.1

    contexts-are-in : (x : ℕ) → Contains (all_contexts numbers tables.plain forced.comps) x → IsTrue (in_force_at tables.spec T (λ fs f. test f.comp) x)
    contexts-are-in x m =
        let u = is-context x m in
        let there : slice_get (plain_rules tables.spec T.symbols) u.i ≡ Some u.plain_rule = ap (λ l. slice_get l u.i) same-rules ∙ u.of_plain in
        let (fs, here, in_force) = zip-right _ (plain_rules tables.spec T.symbols) T.forced u.i u.plain_rule of.numbers.forced there in
        let at = at-zip (plain_rules tables.spec T.symbols) T.forced u.i u.plain_rule fs there here in
        found-any (at_rule x) (ruled tables.spec T) (u.plain_rule, fs) (place-contains (ruled tables.spec T) u.i (u.plain_rule, fs) at)
        (contexts-to tables numbers test tells env u.plain_rule u.rule u.is_plain T fs u.entries u.are_entries in_force x u.is)

    in-are-contexts : (x : ℕ) → IsTrue (in_force_at tables.spec T (λ fs f. test f.comp) x) → Contains (all_contexts numbers tables.plain forced.comps) x
    in-are-contexts x h =
        let (r, among, b) = any-found (at_rule x) (ruled tables.spec T) h in
        let (i, place) = contains-place (ruled tables.spec T) r among in
        let at = zip-at (plain_rules tables.spec T.symbols) T.forced i r.0 r.1 place in
        let (fs, there, in_force) = zip-right _ (plain_rules tables.spec T.symbols) T.forced i r.0 of.numbers.forced at.0 in
        let same : fs ≡ r.1 = same_Some _ _ (sym there ∙ at.1) in
        let its : (f : Force) → Contains r.1 f ↔ IsForced tables.spec r.0 f = subst (λ (l : List Force). (f : Force) → Contains l f ↔ IsForced tables.spec r.0 f) same in_force in
        let of_plain : slice_get plain i ≡ Some r.0 = ap (λ l. slice_get l i) (sym same-rules) ∙ at.0 in
        let (rule, of_flat, is_plain) = zip-right IsIts plain tables.plain i r.0 are.tables.plain of_plain in
        let (es, of_entries, entries) = zip-right (AreEntriesOf tables) plain forced.comps i r.0 are.entries of_plain in
        let m = contexts-from tables numbers test tells env r.0 rule is_plain T r.1 es entries its x b in
        flat-contains numbered_contexts (enumerated 0 tables.plain) (i, rule) x (place-contains (enumerated 0 tables.plain) i (i, rule) (enumerated-at 0 i rule tables.plain of_flat ∙ ap (λ n. Some (n, rule)) (zero-add i)))
        (subst (λ l. Contains (rule_contexts numbers rule l) x) (sym (ap (λ o. unwrap_or o []) of_entries)) m)

    pub contexts-are : (x : ℕ) → Contains (all_contexts numbers tables.plain forced.comps) x ↔ IsTrue (in_force_at tables.spec T (λ fs f. test f.comp) x)
    contexts-are x = (contexts-are-in x, in-are-contexts x)
