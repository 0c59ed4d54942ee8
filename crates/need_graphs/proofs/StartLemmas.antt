-- A chain starts in a plain rule by the entries as by what is in force.
use Rattle.std.specs.Prelude.{nat_eq, ◌&&◌, ◌||◌, not, IsTrue, Contains, slice_get, ◌↔◌, find, is_some, zip, option_map, cond}
use Rattle.std.specs.List.{list_any}
use Rattle.std.proofs.Common.{◌≡◌, ℕ, zero, suc, Bool, true, false, List, [], ◌∷◌, length, map, Option, Some, refl, sym, ap, subst, ◌∙◌, eqb-true, eq-eqb}
use Rattle.std.proofs.lemmas.Option.{none-some, same_Some, slice_get-map}
use Rattle.std.proofs.lemmas.Slice.Zip.{AllZip-long}
use Rattle.std.proofs.lemmas.List.{length-map}
use Rattle.lido_base.specs.Environment.{Environment}
use Rattle.lido_base.specs.Tree.{contains}
use Rattle.lido_base.proofs.Lists.{contains-place, place-contains}
use Rattle.lido_base.proofs.TreeLemmas.{contains-test, test-contains}
use Rattle.lido_syntax.specs.declared.spec.Typed1.{Typed1}
use Rattle.lido_syntax.specs.Production.{name_of}
use Rattle.lido_syntax.specs.Computation as written
use Rattle.lido_symbols.specs.Uses.{is_same_option}
use Rattle.least_paths.specs.Graph.{is_in}
use Rattle.least_paths.proofs.GraphLemmas.{in-at}
use Rattle.rule_graphs.specs.Children.{IsRuleEdge}
use Rattle.rule_tables.specs.declared.table.Tables.{Tables}
use Rattle.rule_tables.specs.declared.forced.Forced.{Forced}
use Rattle.rule_tables.specs.declared.forced.Force.{Force as Entry}
use Rattle.rule_tables.specs.declared.forced.Goal.{Goal}
use Rattle.rule_tables.specs.declared.forced.Goal.TheVariants as goal
use Rattle.rule_tables.specs.PlainRules.{PlainRule, plain_rules}
use Rattle.rule_tables.specs.Forced.{Force, force_for, is_same_goal, IsForced}
use Rattle.rule_tables.specs.ForcedOf.{IsGoalAs, IsChainAt, IsEntryOf, AreEntriesOf, AreForcedOf, AreNumbersOf}
use Rattle.rule_tables.specs.Needs.{Tables as Numbered, ruled, has_start, passes_chain}
use Rattle.rule_tables.specs.TablesOf.{named_symbols}
use Rattle.rule_tables.proofs.NeedsLemmas.{any-found}
use Rattle.rule_tables.proofs.SlotLemmas.{zip-at}
use Rattle.need_graphs.specs.Starts.{is_called, is_start, starts}
use Rattle.need_graphs.proofs.ListLemmas.{same-bool}
use Rattle.need_graphs.proofs.EdgeLemmas.{found-any, zip-right, IsOpenEdge, edge-open, open-edge}

-- an item that passes is found
find-any : {X : Type 0} (test : X → Bool) (xs : List X) → is_some (find test xs) ≡ list_any test xs
find-any test [] = refl
find-any test (x ∷ xs) = by (test x) (find-any test xs)
  where
    by : (b : Bool) → is_some (find test xs) ≡ list_any test xs → is_some (cond b (Some x) (find test xs)) ≡ (b || list_any test xs)
    by true later = refl
    by false later = later

pub at-zip : {X Y : Type 0} (xs : List X) (ys : List Y) (i : ℕ) (x : X) (y : Y) → slice_get xs i ≡ Some x → slice_get ys i ≡ Some y → slice_get (zip xs ys) i ≡ Some (x, y)
at-zip [] ys i x y e f = absurd (none-some _ e)
at-zip (a ∷ xs) [] i x y e f = absurd (none-some _ f)
at-zip (a ∷ xs) (b ∷ ys) zero x y e f = let g = same_Some _ _ e in let h = same_Some _ _ f in λ j. Some (g j, h j)
at-zip (a ∷ xs) (b ∷ ys) (suc i) x y e f = at-zip xs ys i x y e f

-- a goal of the tables is the start of a chain as the goal that it stands for
pub called : (t : Tables) (c i a : ℕ) → IsChainAt t i a → is_called t.spec.chains c i ≡ nat_eq a c
called t c i a at = ap (λ (o : Option Typed1). is_same_option (option_map (λ (d : Typed1). name_of d.name) o) (Some c)) at.1 ∙ ap (λ n. nat_eq n c) at.2

same-start : (t : Tables) (c x : ℕ) (g : Goal) (w : written.Goal) → IsGoalAs t x g w → is_start t.spec.chains c g ≡ is_same_goal w (written.Start c)
same-start t c x (goal.Attr id) (written.Synthesized a) h = refl
same-start t c x (goal.Attr id) (written.Inherited a) h = refl
same-start t c x (goal.Start i) (written.Start a) h = called t c i a h
same-start t c x (goal.Behind i) (written.Behind a) h = refl
same-start t c x goal.Out written.Output h = refl
same-start t c x (goal.Message j) (written.Message k) h = refl
same-start t c x _ _ h = absurd h

module _ (t : Tables) (c : ℕ) (p : PlainRule) (es : List Entry) (fs : List Force) (are : AreEntriesOf t p es) (forced : (f : Force) → Contains fs f ↔ IsForced t.spec p f) where
  abbrev test : Force → Bool
  test f = nat_eq f.occ 0 && is_same_goal f.goal (written.Start c)

  same-test : (e : Entry) (f : Force) → IsEntryOf t p e f → starts t.spec.chains c e ≡ test f
  same-test e f is = ap (λ n. nat_eq n 0 && is_start t.spec.chains c e.goal) is.occ ∙ ap (λ b. nat_eq f.occ 0 && b) (same-start t c is.symbol e.goal f.goal is.goal)

  start-to : IsTrue (list_any (starts t.spec.chains c) es) → IsTrue (list_any test fs)
  start-to h =
      let e = any-found (starts t.spec.chains c) es h in
      let f = are.each e.0 e.1 in
      found-any test fs f.0 ((forced f.0).1 f.1) (sym (same-test e.0 f.0 f.2) ∙ e.2)

  start-from : IsTrue (list_any test fs) → IsTrue (list_any (starts t.spec.chains c) es)
  start-from h =
      let f = any-found test fs h in
      let e = are.all f.0 ((forced f.0).0 f.1) in
      found-any (starts t.spec.chains c) es e.0 e.1 (same-test e.0 f.0 e.2 ∙ f.2)

  pub starts-same : list_any (starts t.spec.chains c) es ≡ is_some (force_for fs 0 (written.Start c))
  starts-same = same-bool (list_any (starts t.spec.chains c) es) (list_any test fs) start-to start-from ∙ sym (find-any test fs)

module _ (env : Environment) (forced : Forced) (are : AreForcedOf env forced) (c : ℕ) where
  abbrev tables : Tables
  tables = forced.tables

  abbrev plain : List PlainRule
  plain = plain_rules tables.spec (named_symbols tables)

  abbrev closed : List Bool
  closed = map (list_any (starts tables.spec.chains c)) forced.comps

  pub closed-each : length closed ≡ length tables.plain
  closed-each =
      length-map forced.comps (list_any (starts tables.spec.chains c)) ∙ AllZip-long (AreEntriesOf tables) plain forced.comps are.entries
      ∙ sym (AllZip-long _ plain tables.plain are.tables.plain)

  module _ (T : Numbered tables.spec) (numbers : AreNumbersOf env forced T) where
    same-rules : plain_rules tables.spec T.symbols ≡ plain
    same-rules = ap (plain_rules tables.spec) numbers.symbols

    -- what is closed is where the chain starts
    closed-at : (i : ℕ) (p : PlainRule) (fs : List Force) → slice_get plain i ≡ Some p → slice_get T.forced i ≡ Some fs → ((f : Force) → Contains fs f ↔ IsForced tables.spec p f)
        → is_in closed i ≡ has_start tables.spec T fs c
    closed-at i p fs at there in_force =
        let es = zip-right (AreEntriesOf tables) plain forced.comps i p are.entries at in
        in-at closed i (list_any (starts tables.spec.chains c) es.0) (slice_get-map (list_any (starts tables.spec.chains c)) forced.comps i ∙ ap (option_map (list_any (starts tables.spec.chains c))) es.1)
        ∙ starts-same tables c p es.0 fs es.2 in_force

    three : (a b d : Bool) → IsTrue a → b ≡ false → IsTrue d → IsTrue (a && not b && d)
    three true false true h e k = refl
    three false b d h e k = absurd (cc)
    three a true d h e k = absurd (cc)
    three a b false h e k = absurd (cc)

    of-three : (a b d : Bool) → IsTrue (a && not b && d) → IsTrue a × (b ≡ false) × IsTrue d
    of-three true false true h = (refl, refl, refl)
    of-three false b d h = absurd (cc)
    of-three true true d h = absurd (cc)
    of-three true false false h = absurd (cc)

    is-false : (b : Bool) → ¬ IsTrue b → b ≡ false
    is-false true n = absurd (n refl)
    is-false false n = refl

    abbrev passes : ℕ → ℕ → PlainRule × List Force → Bool
    passes x y r = nat_eq r.0.left x && not (has_start tables.spec T r.1 c) && contains y r.0.right

    pub passes-from : (x y : ℕ) → IsOpenEdge tables env are.tables closed x y → IsTrue (passes_chain tables.spec T c x y)
    passes-from x y e =
        let at : slice_get (plain_rules tables.spec T.symbols) e.i ≡ Some e.rule = ap (λ l. slice_get l e.i) same-rules ∙ e.of_rule in
        let fs = zip-right _ (plain_rules tables.spec T.symbols) T.forced e.i e.rule numbers.numbers.forced at in
        let here = at-zip (plain_rules tables.spec T.symbols) T.forced e.i e.rule fs.0 at fs.1 in
        found-any (passes x y) (ruled tables.spec T) (e.rule, fs.0) (place-contains (ruled tables.spec T) e.i (e.rule, fs.0) here)
        (three (nat_eq e.rule.left x) (has_start tables.spec T fs.0 c) (contains y e.rule.right) (eq-eqb e.rule.left x e.left)
        (sym (closed-at e.i e.rule fs.0 e.of_rule fs.1 fs.2) ∙ is-false (is_in closed e.i) e.is_open) (test-contains y e.rule.right e.right))

    pub passes-to : (x y : ℕ) → IsTrue (passes_chain tables.spec T c x y) → IsOpenEdge tables env are.tables closed x y
    passes-to x y h =
        let r = any-found (passes x y) (ruled tables.spec T) h in
        let i = contains-place (ruled tables.spec T) r.0 r.1 in
        let at = zip-at (plain_rules tables.spec T.symbols) T.forced i.0 r.0.0 r.0.1 i.1 in
        let fs = zip-right _ (plain_rules tables.spec T.symbols) T.forced i.0 r.0.0 numbers.numbers.forced at.0 in
        let all = of-three (nat_eq r.0.0.left x) (has_start tables.spec T r.0.1 c) (contains y r.0.0.right) r.2 in
        let rule : slice_get plain i.0 ≡ Some r.0.0 = ap (λ l. slice_get l i.0) (sym same-rules) ∙ at.0 in
        let same : fs.0 ≡ r.0.1 = same_Some _ _ (sym fs.1 ∙ at.1) in
        let is = closed-at i.0 r.0.0 r.0.1 rule at.1 (subst (λ (l : List Force). (f : Force) → Contains l f ↔ IsForced tables.spec r.0.0 f) same fs.2) in
        record {
          i = i.0;
          rule = r.0.0;
          of_rule = rule;
          is_open = λ k. absurd (let wrong : IsTrue false = sym (is ∙ all.1) ∙ k in cc);
          left = eqb-true r.0.0.left x all.0;
          right = contains-test y r.0.0.right all.2;
        }

    pub passes-edges : (n x y : ℕ) → n ≡ length tables.plain → IsRuleEdge tables.plain closed n x y ↔ IsTrue (passes_chain tables.spec T c x y)
    passes-edges n x y size = (
      (λ e. passes-from x y (edge-open tables env are.tables closed n x y e)),
      (λ h. open-edge tables env are.tables closed n x y size (passes-to x y h)),
    )
