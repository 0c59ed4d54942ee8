-- A chain is used in plain rules by the entries as by what is in force.
use Rattle.std.specs.Prelude.{◌&&◌, ◌||◌, IsTrue, Contains, slice_get, ◌↔◌, map, filter, flat_map, unwrap_or, if◌then◌else◌}
use Rattle.std.specs.List.{list_any}
use Rattle.std.proofs.Common.{◌≡◌, ℕ, ◌<◌, inl, inr, Bool, true, false, List, [], ◌∷◌, length, Option, Some, None, refl, sym, ap, subst, ◌∙◌, arith, zero-add, eqb-true, eq-eqb}
use Rattle.std.proofs.lemmas.Option.{none-some, same_Some}
use Rattle.std.proofs.lemmas.List.Elements.{All-contains, filter_passes, Contains-append_left, Contains-append_right, Contains-append_cases}
use Rattle.lido_base.specs.Environment.{Environment}
use Rattle.lido_base.specs.declared.ids.SymId.{SymId}
use Rattle.lido_base.proofs.Lists.{contains-map, map-contains, contains-flat, flat-contains, contains-place, place-contains}
use Rattle.lido_syntax.specs.declared.spec.Comp.{Comp}
use Rattle.lido_syntax.specs.declared.spec.RuleItem.{RuleItem}
use Rattle.lido_syntax.specs.declared.spec.SymbolItem.{SymbolItem}
use Rattle.lido_syntax.specs.Computation as written
use Rattle.lido_syntax.specs.Computation.{Holder, InForce, of_rule, of_symbol, of_class}
use Rattle.lido_syntax.specs.Parts.{leaves_of}
use Rattle.lido_symbols.specs.Numbers.{enumerated}
use Rattle.lido_symbols.specs.Uses.{is_same_option, computations}
use Rattle.flat_grammar.specs.declared.flat.FlatRule.{FlatRule}
use Rattle.rule_tables.specs.declared.table.Tables.{Tables}
use Rattle.rule_tables.specs.declared.forced.Forced.{Forced}
use Rattle.rule_tables.specs.declared.forced.Force.{Force as Entry}
use Rattle.rule_tables.specs.declared.forced.Goal.{Goal}
use Rattle.rule_tables.specs.declared.forced.Goal.TheVariants as goal
use Rattle.rule_tables.specs.PlainRules.{PlainRule, plain_rules, symbol_at}
use Rattle.rule_tables.specs.Forced.{Force, context_of, is_same_goal, IsForced}
use Rattle.rule_tables.specs.ForcedOf.{IsGoalAs, IsEntryOf, AreEntriesOf, AreForcedOf, AreNumbersOf}
use Rattle.rule_tables.specs.Needs.{Tables as Numbered, ruled, is_at, is_read, uses_chain}
use Rattle.rule_tables.specs.TablesOf.{named_symbols, IsPlainOf}
use Rattle.rule_tables.proofs.NeedsLemmas.{any-found}
use Rattle.rule_tables.proofs.SlotLemmas.{zip-at, enumerated-at}
use Rattle.need_graphs.specs.declared.readers.Readers.{Readers}
use Rattle.need_graphs.specs.Reads.{reads}
use Rattle.need_graphs.specs.Starts.{starts}
use Rattle.need_graphs.specs.Users.{readers_of, text_readers, AreReaders, reads_by, is_behind, symbol_in, user_by, entries_at, rule_users, all_users, TellComputations}
use Rattle.need_graphs.proofs.ListLemmas.{same-bool, contains-filtered, filtered-contains, enumerated-place}
use Rattle.need_graphs.proofs.RangeLemmas.{inside, filter-part, filter-kept}
use Rattle.need_graphs.proofs.ReadLemmas.{reads-same}
use Rattle.need_graphs.proofs.EdgeLemmas.{found-any, zip-left, zip-right}
use Rattle.need_graphs.proofs.StartLemmas.{at-zip, called, starts-same}

same-behind : (t : Tables) (c x : ℕ) (g : Goal) (w : written.Goal) → IsGoalAs t x g w → is_behind t.spec.chains c g ≡ is_same_goal w (written.Behind c)
same-behind t c x (goal.Attr id) (written.Synthesized a) h = refl
same-behind t c x (goal.Attr id) (written.Inherited a) h = refl
same-behind t c x (goal.Start i) (written.Start a) h = refl
same-behind t c x (goal.Behind i) (written.Behind a) h = called t c i a h
same-behind t c x goal.Out written.Output h = refl
same-behind t c x (goal.Message j) (written.Message k) h = refl
same-behind t c x _ _ h = absurd h

same-number : (o : Option ℕ) (x : ℕ) → o ≡ Some x → IsTrue (is_same_option o (Some x))
same-number o x e = ap (λ p. is_same_option p (Some x)) e ∙ eq-eqb x x refl

number-same : (o : Option ℕ) (x : ℕ) → IsTrue (is_same_option o (Some x)) → o ≡ Some x
number-same None x h = absurd (cc)
number-same (Some y) x h = ap Some (eqb-true y x h)

-- an option that a test lets through
pub both : (o : Option ℕ) (b : Bool) (x : ℕ) → (if b then o else None) ≡ Some x → IsTrue (is_same_option o (Some x) && b)
both o true x e = ap (λ b. b && true) (same-number o x e)
both o false x e = absurd (none-some _ e)

pub of-both : (o : Option ℕ) (b : Bool) (x : ℕ) → IsTrue (is_same_option o (Some x) && b) → (if b then o else None) ≡ Some x
of-both o b x h = by (is_same_option o (Some x)) b refl h
  where
    by : (a b : Bool) → is_same_option o (Some x) ≡ a → IsTrue (a && b) → (if b then o else None) ≡ Some x
    by true true e h = number-same o x e
    by true false e h = absurd (cc)
    by false b e h = absurd (cc)

module _ (t : Tables) where
  -- what is in force stands in the text
  in-rule : (r : RuleItem) (k : Comp) → Contains t.spec.rules r → Contains r.body k → Contains (computations t.spec) k
  in-rule r k among m = Contains-append_left (flat_map (λ (r : RuleItem). r.body) t.spec.rules) (flat_map (λ (item : SymbolItem). item.body) t.spec.symbols) k
      (flat-contains (λ (r : RuleItem). r.body) t.spec.rules r k among m)

  in-item : (item : SymbolItem) (k : Comp) → Contains t.spec.symbols item → Contains item.body k → Contains (computations t.spec) k
  in-item item k among m = Contains-append_right (flat_map (λ (r : RuleItem). r.body) t.spec.rules) (flat_map (λ (item : SymbolItem). item.body) t.spec.symbols) k
      (flat-contains (λ (item : SymbolItem). item.body) t.spec.symbols item k among m)

  in-text : (r : RuleItem) → Contains t.spec.rules r → (k s : ℕ) (g : written.Goal) (h : Holder) (comp : Comp) → InForce t.spec r k s g h comp → Contains (computations t.spec) comp
  in-text r among k s g _ comp (of_rule at is) = in-rule r comp among is.0
  in-text r among k s g _ comp (of_symbol at none is) = in-item is.0.0 comp is.0.1 is.0.3
  in-text r among k s g _ comp (of_class class at none missing left only is) = in-item is.0.0 comp is.0.1 is.0.3

  pub forced-text : (p : PlainRule) (f : Force) → IsForced t.spec p f → Contains (computations t.spec) f.comp
  forced-text p f is = let (r, s, at, w, i) = is in in-text r (place-contains t.spec.rules p.rule r at) f.occ s f.goal f.holder f.comp i

module _ (t : Tables) (c : ℕ) (readers : Readers) (are : AreReaders t.spec c readers) (tell : TellComputations t.spec) where
  abbrev reads_it : Bool → Comp → Bool
  reads_it starts k = list_any (reads c starts) (leaves_of k)

  reader-of : (starts : Bool) (body : List Comp) (n : ℕ) → Contains (readers_of c starts body) n → (k : Comp) × Contains body k × (k.number ≡ n) × IsTrue (reads_it starts k)
  reader-of starts body n m = let (k, among, e) = contains-map (λ (k : Comp). k.number) (filter (reads_it starts) body) n m in
      (k, filter-part (reads_it starts) body k among, e, All-contains (λ (k : Comp). reads_it starts k ≡ true) (filter (reads_it starts) body) k (filter_passes (reads_it starts) body) among)

  of-reader : (starts : Bool) (body : List Comp) (k : Comp) → Contains body k → IsTrue (reads_it starts k) → Contains (readers_of c starts body) k.number
  of-reader starts body k m h = map-contains (λ (k : Comp). k.number) (filter (reads_it starts) body) k (filter-kept (reads_it starts) body k m h)

  abbrev of_rules : Bool → List ℕ
  of_rules starts = flat_map (λ (r : RuleItem). readers_of c starts r.body) t.spec.rules

  abbrev of_items : Bool → List ℕ
  of_items starts = flat_map (λ (item : SymbolItem). readers_of c starts item.body) t.spec.symbols

  text-reader : (starts : Bool) (n : ℕ) → Contains (text_readers t.spec c starts) n → (k : Comp) × Contains (computations t.spec) k × (k.number ≡ n) × IsTrue (reads_it starts k)
  text-reader starts n m = elim (Contains-append_cases (of_rules starts) (of_items starts) n m) [
    | inl h ↦ let (r, among, i) = contains-flat (λ (r : RuleItem). readers_of c starts r.body) t.spec.rules n h in
        let (k, of, e, b) = reader-of starts r.body n i in (k, in-rule t r k among of, e, b)
    | inr h ↦ let (item, among, i) = contains-flat (λ (item : SymbolItem). readers_of c starts item.body) t.spec.symbols n h in
        let (k, of, e, b) = reader-of starts item.body n i in (k, in-item t item k among of, e, b)
  ]

  reader-text : (starts : Bool) (k : Comp) → Contains (computations t.spec) k → IsTrue (reads_it starts k) → Contains (text_readers t.spec c starts) k.number
  reader-text starts k m h = elim (Contains-append_cases (flat_map (λ (r : RuleItem). r.body) t.spec.rules) (flat_map (λ (item : SymbolItem). item.body) t.spec.symbols) k m) [
    | inl i ↦ let (r, among, of) = contains-flat (λ (r : RuleItem). r.body) t.spec.rules k i in
        Contains-append_left (of_rules starts) (of_items starts) k.number (flat-contains (λ (r : RuleItem). readers_of c starts r.body) t.spec.rules r k.number among (of-reader starts r.body k of h))
    | inr i ↦ let (item, among, of) = contains-flat (λ (item : SymbolItem). item.body) t.spec.symbols k i in
        Contains-append_right (of_rules starts) (of_items starts) k.number (flat-contains (λ (item : SymbolItem). readers_of c starts item.body) t.spec.symbols item k.number among (of-reader starts item.body k of h))
  ]

  by-number : (starts : Bool) (n : ℕ) → IsTrue (reads_by readers starts n) ↔ Contains (text_readers t.spec c starts) n
  by-number true n = are.own n
  by-number false n = are.any n

  reads-number : (starts : Bool) (k : Comp) → Contains (computations t.spec) k → reads_by readers starts k.number ≡ reads_it starts k
  reads-number starts k m = same-bool (reads_by readers starts k.number) (reads_it starts k)
      (λ h. let (l, among, e, b) = text-reader starts k.number ((by-number starts k.number).0 h) in subst (λ z. IsTrue (reads_it starts z)) (tell l k among m e) b)
      (λ h. (by-number starts k.number).1 (reader-text starts k m h))

  module _ (env : Environment) (p : PlainRule) (r : FlatRule) (plain : IsPlainOf t.spec env (named_symbols t) p r) (T : Numbered t.spec) (fs : List Force) (es : List Entry)
      (entries : AreEntriesOf t p es) (forced : (f : Force) → Contains fs f ↔ IsForced t.spec p f) where
    abbrev begun : Bool
    begun = list_any (starts t.spec.chains c) es

    abbrev uses : Force → Bool
    uses f = is_same_goal f.goal (written.Behind c) || list_any (is_read t.spec T fs c) (leaves_of f.comp)

    uses-same : (e : Entry) (f : Force) → IsEntryOf t p e f → IsForced t.spec p f → (is_behind t.spec.chains c e.goal || reads_by readers begun e.number) ≡ uses f
    uses-same e f is here =
        let b = same-behind t c is.symbol e.goal f.goal is.goal in
        let q : reads_by readers begun e.number ≡ list_any (is_read t.spec T fs c) (leaves_of f.comp) =
        ap (reads_by readers begun) is.number ∙ reads-number begun f.comp (forced-text t p f here)
        ∙ reads-same t.spec T fs c begun (sym (starts-same t c p es fs entries forced)) (leaves_of f.comp) in
        λ i. b i || q i

    at-same : (e : Entry) (f : Force) → IsEntryOf t p e f → symbol_in r e.context ≡ symbol_at p (context_of f)
    at-same e f is = ap (symbol_in r) is.context ∙ (λ i. slice_get (plain.left i ∷ plain.right i) (context_of f))

    user-same : (e : Entry) (f : Force) → IsEntryOf t p e f → IsForced t.spec p f → user_by t.spec.chains c readers begun r e ≡ (if uses f then symbol_at p (context_of f) else None)
    user-same e f is here = let u = uses-same e f is here in let s = at-same e f is in λ i. if u i then s i else None

    abbrev test : ℕ → Force → Bool
    test x f = is_at t.spec T p f x && uses f

    users-to : (x : ℕ) → Contains (rule_users t.spec.chains c readers r es) x → IsTrue (list_any (test x) fs)
    users-to x m =
        let (e, among, made) = contains-filtered (user_by t.spec.chains c readers begun r) es x m in
        let (f, here, is) = entries.each e among in
        found-any (test x) fs f ((forced f).1 here) (both (symbol_at p (context_of f)) (uses f) x (sym (user-same e f is here) ∙ made))

    users-from : (x : ℕ) → IsTrue (list_any (test x) fs) → Contains (rule_users t.spec.chains c readers r es) x
    users-from x h =
        let (f, among, b) = any-found (test x) fs h in
        let here = (forced f).0 among in
        let (e, of, is) = entries.all f here in
        filtered-contains (user_by t.spec.chains c readers begun r) es e x of (user-same e f is here ∙ of-both (symbol_at p (context_of f)) (uses f) x b)

module _ (env : Environment) (forced : Forced) (are : AreForcedOf env forced) (c : ℕ) (readers : Readers) where
  abbrev tables : Tables
  tables = forced.tables

  abbrev plain : List PlainRule
  plain = plain_rules tables.spec (named_symbols tables)

  abbrev IsIts : PlainRule → FlatRule → Type 0
  IsIts = IsPlainOf tables.spec env (named_symbols tables)

  abbrev numbered_users : ℕ × FlatRule → List ℕ
  numbered_users x = rule_users tables.spec.chains c readers x.1 (entries_at forced.comps x.0)

  -- a user stands in a plain rule
  pub record IsUser (x : ℕ) : Type 0 where
    pub i : ℕ
    pub rule : FlatRule
    pub plain_rule : PlainRule
    pub entries : List Entry
    pub of_rule : slice_get tables.plain i ≡ Some rule
    pub of_plain : slice_get plain i ≡ Some plain_rule
    pub of_entries : slice_get forced.comps i ≡ Some entries
    pub is_plain : IsIts plain_rule rule
    pub are_entries : AreEntriesOf tables plain_rule entries
    pub user : Contains (rule_users tables.spec.chains c readers rule entries) x

  is-user : (x : ℕ) → Contains (all_users tables.spec.chains c readers tables.plain forced.comps) x → IsUser x
  is-user x m =
      let (it, among, of) = contains-flat numbered_users (enumerated 0 tables.plain) x m in
      let (j, same, at) = enumerated-place 0 it.0 it.1 tables.plain among in
      let (p, there, is) = zip-left IsIts plain tables.plain j it.1 are.tables.plain at in
      let (es, here, entries) = zip-right (AreEntriesOf tables) plain forced.comps j p are.entries there in
      record {
        i = j;
        rule = it.1;
        plain_rule = p;
        entries = es;
        of_rule = at;
        of_plain = there;
        of_entries = here;
        is_plain = is;
        are_entries = entries;
        user = let e : it.0 ≡ j = omega (arith, same) in subst (λ l. Contains (rule_users tables.spec.chains c readers it.1 l) x) (ap (entries_at forced.comps) e ∙ ap (λ o. unwrap_or o []) here) of;
      }

  symbol-of : (b : Bool) (rule : FlatRule) (k x : ℕ) → (if b then symbol_in rule k else None) ≡ Some x → symbol_in rule k ≡ Some x
  symbol-of true rule k x e = e
  symbol-of false rule k x e = absurd (none-some _ e)

  -- the symbols that use the chain have rows
  pub users-below : (x : ℕ) → Contains (all_users tables.spec.chains c readers tables.plain forced.comps) x → x < length tables.symbols
  users-below x m =
      let u = is-user x m in
      let begun = list_any (starts tables.spec.chains c) u.entries in
      let (e, among, made) = contains-filtered (user_by tables.spec.chains c readers begun u.rule) u.entries x u.user in
      let at = symbol-of (is_behind tables.spec.chains c e.goal || reads_by readers begun e.number) u.rule e.context x made in
      let there = place-contains (u.rule.left.0 ∷ map (λ (s : SymId). s.0) u.rule.right) e.context x at in
      inside tables env are.tables u.plain_rule (place-contains plain u.i u.plain_rule u.of_plain) x
      (subst (λ l. Contains l x) (λ i. u.is_plain.left i ∷ u.is_plain.right i) there)

  module _ (read : AreReaders tables.spec c readers) (tell : TellComputations tables.spec) (T : Numbered tables.spec) (numbers : AreNumbersOf env forced T) where
    same-rules : plain_rules tables.spec T.symbols ≡ plain
    same-rules = ap (plain_rules tables.spec) numbers.symbols

    abbrev at_rule : ℕ → PlainRule × List Force → Bool
    at_rule x r = list_any (λ f. is_at tables.spec T r.0 f x && (is_same_goal f.goal (written.Behind c) || list_any (is_read tables.spec T r.1 c) (leaves_of f.comp))) r.1

    users-use : (x : ℕ) → Contains (all_users tables.spec.chains c readers tables.plain forced.comps) x → IsTrue (uses_chain tables.spec T c x)
    users-use x m =
        let u = is-user x m in
        let there : slice_get (plain_rules tables.spec T.symbols) u.i ≡ Some u.plain_rule = ap (λ l. slice_get l u.i) same-rules ∙ u.of_plain in
        let (fs, here, in_force) = zip-right _ (plain_rules tables.spec T.symbols) T.forced u.i u.plain_rule numbers.numbers.forced there in
        let at = at-zip (plain_rules tables.spec T.symbols) T.forced u.i u.plain_rule fs there here in
        found-any (at_rule x) (ruled tables.spec T) (u.plain_rule, fs) (place-contains (ruled tables.spec T) u.i (u.plain_rule, fs) at)
        (users-to tables c readers read tell env u.plain_rule u.rule u.is_plain T fs u.entries u.are_entries in_force x u.user)

    use-users : (x : ℕ) → IsTrue (uses_chain tables.spec T c x) → Contains (all_users tables.spec.chains c readers tables.plain forced.comps) x
    use-users x h =
        let (r, among, b) = any-found (at_rule x) (ruled tables.spec T) h in
        let (i, place) = contains-place (ruled tables.spec T) r among in
        let at = zip-at (plain_rules tables.spec T.symbols) T.forced i r.0 r.1 place in
        let (fs, there, in_force) = zip-right _ (plain_rules tables.spec T.symbols) T.forced i r.0 numbers.numbers.forced at.0 in
        let same : fs ≡ r.1 = same_Some _ _ (sym there ∙ at.1) in
        let its : (f : Force) → Contains r.1 f ↔ IsForced tables.spec r.0 f = subst (λ (l : List Force). (f : Force) → Contains l f ↔ IsForced tables.spec r.0 f) same in_force in
        let of_plain : slice_get plain i ≡ Some r.0 = ap (λ l. slice_get l i) (sym same-rules) ∙ at.0 in
        let (rule, of_flat, is_plain) = zip-right IsIts plain tables.plain i r.0 are.tables.plain of_plain in
        let (es, of_entries, entries) = zip-right (AreEntriesOf tables) plain forced.comps i r.0 are.entries of_plain in
        let m = users-from tables c readers read tell env r.0 rule is_plain T r.1 es entries its x b in
        flat-contains numbered_users (enumerated 0 tables.plain) (i, rule) x (place-contains (enumerated 0 tables.plain) i (i, rule) (enumerated-at 0 i rule tables.plain of_flat ∙ ap (λ n. Some (n, rule)) (zero-add i)))
        (subst (λ l. Contains (rule_users tables.spec.chains c readers rule l) x) (sym (ap (λ o. unwrap_or o []) of_entries)) m)

    pub users-are : (x : ℕ) → Contains (all_users tables.spec.chains c readers tables.plain forced.comps) x ↔ IsTrue (uses_chain tables.spec T c x)
    users-are x = (users-use x, use-users x)
