-- Who needs an attribute of an expansion is a symbol or a cell.
use Rattle.std.specs.Prelude.{IsTrue, Contains, ◌&&◌, ◌||◌, nat_eq, not, is_some, if◌then◌else◌}
use Rattle.std.specs.List.{list_any}
use Rattle.std.proofs.Common.{◌≡◌, ℕ, ◌<◌, Bool, true, false, List, ◌∷◌, length, Option, Some, None, refl, ap, subst, eqb-true}
use Rattle.lido_base.specs.Environment.{Environment}
use Rattle.lido_base.specs.Reach.{source, edge}
use Rattle.lido_base.specs.Tree.{contains}
use Rattle.lido_base.proofs.Lists.{contains-here, contains-later, contains-place, place-contains}
use Rattle.lido_base.proofs.TreeLemmas.{both, contains-test}
use Rattle.lido_syntax.specs.declared.spec.Pair.{Pair}
use Rattle.lido_syntax.specs.declared.spec.Cons.{Cons}
use Rattle.lido_syntax.specs.Parts.{leaves_of}
use Rattle.lido_syntax.specs.Computation.{Behind}
use Rattle.lido_symbols.specs.Uses.{is_same_option}
use Rattle.need_graphs.proofs.RangeLemmas.{inside}
use Rattle.rule_tables.specs.declared.table.Tables.{Tables as Rows}
use Rattle.rule_tables.specs.declared.forced.Forced.{Forced}
use Rattle.rule_tables.specs.ForcedOf.{AreForcedOf, AreNumbersOf}
use Rattle.rule_tables.specs.PlainRules.{PlainRule, plain_rules, symbol_at, is_child}
use Rattle.rule_tables.specs.Forced.{Force, context_of, is_same_goal}
use Rattle.rule_tables.specs.Needs.{Tables, rules, ruled, is_at, in_force_at, NeedsIncluding, listed_at, uses_constituents, shield_at, IsWanted, NeedsChain, has_start, is_including, is_read}
use Rattle.rule_tables.proofs.NeedsLemmas.{any-found}
use Rattle.rule_tables.proofs.SlotLemmas.{zip-at}

same-some : (o : Option ℕ) (x : ℕ) → IsTrue (is_same_option o (Some x)) → o ≡ Some x
same-some None x h = absurd (cc)
same-some (Some y) x h = ap Some (eqb-true y x h)

module _ (env : Environment) (forced : Forced) (are : AreForcedOf env forced) (T : Tables forced.tables.spec) (numbers : AreNumbersOf env forced T) where
  abbrev t : Rows
  t = forced.tables

  abbrev IsBelow : ℕ → Type 0
  IsBelow x = x < length t.symbols

  rule-inside : (p : PlainRule) → Contains (rules t.spec T) p → (y : ℕ) → Contains (p.left ∷ p.right) y → IsBelow y
  rule-inside p m = inside t env are.tables p (subst (λ (l : List ℕ). Contains (plain_rules t.spec l) p) numbers.symbols m)

  ruled-inside : (r : PlainRule × List Force) → Contains (ruled t.spec T) r → (y : ℕ) → Contains (r.0.left ∷ r.0.right) y → IsBelow y
  ruled-inside r m =
      let (i, at) = contains-place (ruled t.spec T) r m in
      rule-inside r.0 (place-contains (rules t.spec T) i r.0 (zip-at (rules t.spec T) T.forced i r.0 r.1 at).0)

  in-force-below : (test : List Force → Force → Bool) (x : ℕ) → IsTrue (in_force_at t.spec T test x) → IsBelow x
  in-force-below test x h =
      let (r, m, some) = any-found (λ (r : PlainRule × List Force). list_any (λ f. is_at t.spec T r.0 f x && test r.1 f) r.1) (ruled t.spec T) h in
      let (f, among, its) = any-found (λ f. is_at t.spec T r.0 f x && test r.1 f) r.1 some in
      let at = same-some (symbol_at r.0 (context_of f)) x (both (is_at t.spec T r.0 f x) (test r.1 f) its).0 in
      ruled-inside r m x (place-contains (r.0.left ∷ r.0.right) (context_of f) x at)

  if-left : (b c : Bool) → IsTrue (if b then c else false) → IsTrue b × IsTrue c
  if-left true c h = (refl, h)
  if-left false c h = absurd (cc)

  child-below : (x y : ℕ) → IsTrue (is_child (rules t.spec T) x y) → IsBelow x × IsBelow y
  child-below x y h =
      let (p, m, its) = any-found (λ (p : PlainRule). if nat_eq p.left x then contains y p.right else false) (rules t.spec T) h in
      let (left, right) = if-left (nat_eq p.left x) (contains y p.right) its in
      (subst IsBelow (eqb-true p.left x left) (rule-inside p m p.left (contains-here p.left p.right)), rule-inside p m y (contains-later p.left y p.right (contains-test y p.right right)))

  pub including-below : (pairs : List Pair) (x : ℕ) → NeedsIncluding t.spec T pairs x → IsBelow x
  including-below pairs x (source h) = in-force-below (λ fs f. list_any (is_including t.spec T pairs) (leaves_of f.comp)) x h
  including-below pairs x (edge {s} {c} h r) = (child-below x c (both (not (is_some (listed_at t.spec T pairs x))) (is_child (rules t.spec T) x c) h).1).0

  pub wanted-below : (k : Cons) (x : ℕ) → IsWanted t.spec T k x → IsBelow x
  wanted-below k x (source h) =
      let (p, m, its) = any-found (λ (p : PlainRule). contains x p.right && uses_constituents t.spec T k p.left) (rules t.spec T) h in
      rule-inside p m x (contains-later p.left x p.right (contains-test x p.right (both (contains x p.right) (uses_constituents t.spec T k p.left) its).0))
  wanted-below k x (edge {s} {c} h r) = (child-below c x (both (is_child (rules t.spec T) c x) (not (shield_at t.spec T k c)) h).0).1

  pub chain-below : (c x : ℕ) → NeedsChain t.spec T c x → IsBelow x
  chain-below c x (source h) = in-force-below (λ fs f. is_same_goal f.goal (Behind c) || list_any (is_read t.spec T fs c) (leaves_of f.comp)) x h
  chain-below c x (edge {s} {c = y} h r) =
      let (z, m, its) = any-found (λ (r : PlainRule × List Force). nat_eq r.0.left x && not (has_start t.spec T r.1 c) && contains y r.0.right) (ruled t.spec T) h in
      let left = both (nat_eq z.0.left x) (not (has_start t.spec T z.1 c)) (both (nat_eq z.0.left x && not (has_start t.spec T z.1 c)) (contains y z.0.right) its).0 in
      subst IsBelow (eqb-true z.0.left x left.0) (ruled-inside z m z.0.left (contains-here z.0.left z.0.right))
