-- The entries of a plain rule are filled when all kinds are.
use Rattle.std.specs.Prelude.{true, slice_get, Contains}
use Rattle.std.proofs.Common.{◌≡◌, ℕ, zero, suc, ◌+◌, ◌<◌, inl, arith, List, [], ◌∷◌, length, Some, None, refl, sym, ap, ◌∙◌, subst, add-one}
use Rattle.std.proofs.lemmas.Option.{none-some, same_Some}
use Rattle.lido_base.specs.Environment.{Environment}
use Rattle.lido_base.specs.declared.ids.SymId.{SymId}
use Rattle.lido_base.proofs.Lists.{contains-nil, place-below}
use Rattle.lido_syntax.specs.declared.spec.Comp.{Comp}
use Rattle.lido_syntax.specs.declared.spec.RuleItem.{RuleItem}
use Rattle.lido_syntax.specs.declared.spec.Target.{Target}
use Rattle.lido_syntax.specs.declared.spec.Target.TheVariants as target
use Rattle.lido_syntax.specs.declared.spec.Place.TheVariants as place
use Rattle.lido_syntax.specs.Production.{production}
use Rattle.lido_syntax.specs.Computation as written
use Rattle.lido_syntax.specs.Computation.{InForce, InRule, IsRuleTarget}
use Rattle.computation_aims.specs.Aims.{goal_of}
use Rattle.computation_aims.specs.declared.aims.Aim.{Aim}
use Rattle.rule_tables.specs.declared.table.Tables.{Tables}
use Rattle.rule_tables.specs.declared.forced.Force.{Force as Entry}
use Rattle.rule_tables.specs.declared.forced.Goal.{Goal}
use Rattle.rule_tables.specs.declared.forced.Goal.TheVariants as goal
use Rattle.rule_tables.specs.PlainRules.{PlainRule, Role, Link, End}
use Rattle.rule_tables.specs.Forced.{Force, IsForced, IsWrittenAt}
use Rattle.rule_tables.specs.ForcedOf.{IsEntryOf, AreEntriesOf, kind_of}
use Rattle.symbol_inherit.specs.Index.{noted}
use Rattle.symbol_inherit.specs.Rules.{HasRuleAt}
use Rattle.symbol_inherit.specs.Entries.{IsEntry, AreUpTo, AreKnown, IsOccurrenceOf, IsRuleWith}
use Rattle.symbol_inherit.specs.CellRules.{IsLink, IsCellRule, link, end}
use Rattle.symbol_inherit.specs.declared.index.Index.{Index}
use Rattle.symbol_inherit.specs.declared.symbols.Symbols.{Symbols}
use Rattle.symbol_inherit.proofs.EntryLemmas.{written-one, next-occ, next-kind}
use Rattle.symbol_inherit.proofs.FilledLemmas.{late-entry}
use Rattle.symbol_inherit.proofs.GoalLemmas.{entry-there}
use Rattle.symbol_inherit.proofs.OccurrenceLemmas.{occurrence-names}

kind-small : (g : Goal) → kind_of g < 5
kind-small (goal.Attr id) = omega arith
kind-small (goal.Start i) = omega arith
kind-small (goal.Behind i) = omega arith
kind-small goal.Out = omega arith
kind-small (goal.Message j) = omega arith

module _ (env : Environment) (t : Tables) (symbols : Symbols) (known : AreKnown env t symbols) (p : PlainRule) (entries : List Entry) where
  -- all are there when each that can have an entry has its symbol
  filled : (r : RuleItem) → slice_get t.spec.rules p.rule ≡ Some r → ((o s : ℕ) → IsWrittenAt r p.role o s → (x : ℕ) × IsOccurrenceOf t p r o s x) → AreUpTo t p 5 0 0 entries → AreEntriesOf t p entries
  filled r of placed up = record {
    each = λ e m. (up.each e m).0;
    all = λ f forced. all f forced;
    in_order = up.in_order;
  }
    where
      all : (f : Force) → IsForced t.spec p f → (e : Entry) × Contains entries e × IsEntryOf t p e f
      all f (q, s, of_rule, at, force) =
          let rule : q ≡ r = same_Some q r (sym of_rule ∙ of) in
          let here = placed f.occ s (subst (λ q. IsWrittenAt q p.role f.occ s) rule at) in
          let entry = entry-there t env known.tables known.kinds.0 known.kinds.1 s here.0 here.1.number p r f.occ here.1 f refl (subst (λ q. InForce t.spec q f.occ s f.goal f.holder f.comp) rule force) in
          (entry.0, up.all entry.0 (f, (q, s, of_rule, at, force), entry.1) (inl (kind-small entry.0.goal)), entry.1)

  module _ (r : RuleItem) (left : SymId) (right : List SymId) (with : IsRuleWith t p r left right) where
    rule-placed : (o s : ℕ) → IsWrittenAt r p.role o s → (x : ℕ) × IsOccurrenceOf t p r o s x
    rule-placed zero s h =
        let (q, occurs) = with.at_left in
        (left.0, subst (λ z. IsOccurrenceOf t p r 0 z left.0) (written-one r p.role 0 q s occurs.written h) occurs)
    rule-placed (suc k) s h =
        let l = with.last (suc k) s h in
        let (x, e) = place-below right k (omega arith) in
        let (q, occurs) = with.at_right k x e in
        let there : IsOccurrenceOf t p r (suc k) q x.0 = subst (λ o. IsOccurrenceOf t p r o q x.0) (add-one k) occurs in
        (x.0, subst (λ z. IsOccurrenceOf t p r (suc k) z x.0) (written-one r p.role (suc k) q s there.written h) there)

    pub rule-filled : AreUpTo t p 5 0 0 entries → AreEntriesOf t p entries
    rule-filled = filled r with.at_left.1.of_rule rule-placed

  -- no entry right of the last occurrence
  pub last-occ : (r : RuleItem) (left : SymId) (right : List SymId) → IsRuleWith t p r left right → AreUpTo t p 0 (length right + 1) 0 entries → AreUpTo t p 1 0 0 entries
  last-occ r left right with up = next-kind t p 0 (length right + 1) entries up (λ d (f, (q, s, of, at, force), is) k l.
      let rule : q ≡ r = same_Some q r (sym of ∙ with.at_left.1.of_rule) in
      let w = with.last f.occ s (subst (λ q. IsWrittenAt q p.role f.occ s) rule at) in
      let o = is.occ in
      omega arith)

  -- the rules of cells
  link-occ : (s : ℕ) → p.role ≡ Link s → (r : RuleItem) (o z : ℕ) → IsWrittenAt r p.role o z → o ≡ 1
  link-occ s role r o z h = by o (subst (λ (k : Role). IsWrittenAt r k o z) role h)
    where
      by : (o : ℕ) → IsWrittenAt r (Link s) o z → o ≡ 1
      by zero h = absurd h
      by (suc zero) h = refl
      by (suc (suc o)) h = absurd h

  module _ (element : SymId) (is_link : IsLink t p element) where
    link-entry : (d : Entry) → IsEntry t p d → d.occ ≡ 1
    link-entry d (f, (q, s, of, at, force), is) = is.occ ∙ link-occ is_link.s is_link.role q f.occ s at

    pub link-begin : AreUpTo t p 0 0 0 entries → AreUpTo t p 0 1 0 entries
    link-begin up = next-occ t p 0 0 0 entries up (λ d is k q l. let e = link-entry d is in omega arith)

    pub link-end : AreUpTo t p 0 (1 + 1) 0 entries → AreEntriesOf t p entries
    link-end up =
        let one = next-kind t p 0 (1 + 1) entries up (λ d is k l. let e = link-entry d is in omega arith) in
        let two = next-kind t p 1 0 entries one (λ d is k l. late-entry t p d 0 is k (let e = link-entry d is in omega arith)) in
        let three = next-kind t p 2 0 entries two (λ d is k l. late-entry t p d 1 is k (let e = link-entry d is in omega arith)) in
        let four = next-kind t p 3 0 entries three (λ d is k l. late-entry t p d 2 is k (let e = link-entry d is in omega arith)) in
        filled is_link.r is_link.occurs.of_rule (λ o s h.
        let e = link-occ is_link.s is_link.role is_link.r o s h in
        let same = written-one is_link.r p.role o is_link.s s (subst (λ o. IsWrittenAt is_link.r p.role o is_link.s) (sym e) is_link.occurs.written) h in
        (element.0, subst (λ z. IsOccurrenceOf t p is_link.r o z element.0) same (subst (λ o. IsOccurrenceOf t p is_link.r o is_link.s element.0) (sym e) is_link.occurs)))
        (next-kind t p 4 0 entries four (λ d is k l. late-entry t p d 3 is k (let e = link-entry d is in omega arith)))

  end-filled : p.role ≡ End → entries ≡ [] → AreEntriesOf t p entries
  end-filled role e = record {
    each = λ d m. absurd (contains-nil d (subst (λ l. Contains l d) e m));
    all = λ f (q, s, of, at, force). absurd (nowhere q f.occ s (subst (λ (k : Role). IsWrittenAt q k f.occ s) role at));
    in_order = λ i j d l w. absurd (let z = ap (λ (l : List Entry). length l) e in omega arith);
  }
    where
      nowhere : (r : RuleItem) (o s : ℕ) → IsWrittenAt r End o s → ⊥
      nowhere r zero s h = h
      nowhere r (suc o) s h = h

  end-role : IsCellRule t p [] → p.role ≡ End
  end-role (end e) = e

  pub cell-end : IsCellRule t p [] → entries ≡ [] → AreEntriesOf t p entries
  cell-end is e = end-filled (end-role is) e

pub cell-link : (t : Tables) (p : PlainRule) (element : SymId) (more : List SymId) → IsCellRule t p (element ∷ more) → IsLink t p element
cell-link t p element more (link _ _ is) = is

-- a list's rule computes nothing right of its left side
pub nothing-there : (t : Tables) (r : RuleItem) → r.list ≡ true → (index : Index) → ((place : ℕ) (aim : Aim) → noted index place aim ≡ None) → HasRuleAt t.spec r 1 index
nothing-there t r is_list index none = record {
  each = λ aim own e. absurd (none-some own (sym (none 1 aim) ∙ e));
  all = λ aim c (m, h). absurd (nowhere c (goal_of aim) c.target h);
}
  where
    no-place : (n : ℕ) → slice_get (production r) 1 ≡ Some n → ⊥
    no-place n e = none-some n (by is_list e)
      where
        by : r.list ≡ true → slice_get (production r) 1 ≡ Some n → None ≡ Some n
        by l e = rw l at e

    nowhere : (c : Comp) (g : written.Goal) (a : Target) → IsRuleTarget t.spec r c a 1 g → ⊥
    nowhere c (written.Inherited b) (target.Attr (place.Named x i) a) (at, n) = no-place _ (occurrence-names r x i 1 at)
    nowhere c (written.Synthesized b) (target.Attr (place.Named x i) d) h = absurd h
    nowhere c (written.Synthesized b) (target.Attr place.Synt d) h = absurd h
    nowhere c (written.Synthesized b) (target.Attr place.Inh d) h = absurd h
    nowhere c (written.Synthesized b) (target.Attr place.This d) h = absurd h
    nowhere c (written.Synthesized b) (target.Attr place.Tail d) h = absurd h
    nowhere c (written.Synthesized b) (target.Start d) h = absurd h
    nowhere c (written.Synthesized b) target.Out h = absurd h
    nowhere c (written.Synthesized b) (target.Message v m) h = absurd h
    nowhere c (written.Inherited b) (target.Attr place.Synt d) h = absurd h
    nowhere c (written.Inherited b) (target.Attr place.Inh d) h = absurd h
    nowhere c (written.Inherited b) (target.Attr place.This d) h = absurd h
    nowhere c (written.Inherited b) (target.Attr place.Tail d) h = absurd h
    nowhere c (written.Inherited b) (target.Start d) h = absurd h
    nowhere c (written.Inherited b) target.Out h = absurd h
    nowhere c (written.Inherited b) (target.Message v m) h = absurd h
    nowhere c (written.Start b) (target.Attr (place.Named x i) d) h = absurd h
    nowhere c (written.Start b) (target.Attr place.Synt d) h = absurd h
    nowhere c (written.Start b) (target.Attr place.Inh d) h = absurd h
    nowhere c (written.Start b) (target.Attr place.This d) h = absurd h
    nowhere c (written.Start b) (target.Attr place.Tail d) h = absurd h
    nowhere c (written.Start b) (target.Start d) h = absurd h
    nowhere c (written.Start b) target.Out h = absurd h
    nowhere c (written.Start b) (target.Message v m) h = absurd h
    nowhere c (written.Behind b) (target.Attr (place.Named x i) d) h = absurd h
    nowhere c (written.Behind b) (target.Attr place.Synt d) h = absurd h
    nowhere c (written.Behind b) (target.Attr place.Inh d) h = absurd h
    nowhere c (written.Behind b) (target.Attr place.This d) h = absurd h
    nowhere c (written.Behind b) (target.Attr place.Tail d) h = absurd h
    nowhere c (written.Behind b) (target.Start d) h = absurd h
    nowhere c (written.Behind b) target.Out h = absurd h
    nowhere c (written.Behind b) (target.Message v m) h = absurd h
    nowhere c written.Output (target.Attr (place.Named x i) d) h = absurd h
    nowhere c written.Output (target.Attr place.Synt d) h = absurd h
    nowhere c written.Output (target.Attr place.Inh d) h = absurd h
    nowhere c written.Output (target.Attr place.This d) h = absurd h
    nowhere c written.Output (target.Attr place.Tail d) h = absurd h
    nowhere c written.Output (target.Start d) h = absurd h
    nowhere c written.Output target.Out h = absurd h
    nowhere c written.Output (target.Message v m) h = absurd h
    nowhere c (written.Message b) (target.Attr (place.Named x i) d) h = absurd h
    nowhere c (written.Message b) (target.Attr place.Synt d) h = absurd h
    nowhere c (written.Message b) (target.Attr place.Inh d) h = absurd h
    nowhere c (written.Message b) (target.Attr place.This d) h = absurd h
    nowhere c (written.Message b) (target.Attr place.Tail d) h = absurd h
    nowhere c (written.Message b) (target.Start d) h = absurd h
    nowhere c (written.Message b) target.Out h = absurd h
    nowhere c (written.Message b) (target.Message v m) h = absurd h

pub first-link : (t : Tables) (p : PlainRule) (xs : List SymId) (element : SymId) → slice_get xs 0 ≡ Some element → IsCellRule t p xs → IsLink t p element
first-link t p [] element e is = absurd (none-some element e)
first-link t p (x ∷ xs) element e is = subst (λ z. IsLink t p z) (same_Some x element e) (cell-link t p x xs is)

pub no-first : (t : Tables) (p : PlainRule) (xs : List SymId) → slice_get xs 0 ≡ None → IsCellRule t p xs → IsCellRule t p []
no-first t p [] e is = is
no-first t p (x ∷ xs) e is = absurd (none-some x (sym e))
