-- Which goals the plain rules have, by their right sides.
use Rattle.std.specs.Prelude.{Bool, true, false, MatchBool, IsTrue, if◌then◌else◌, flat_map, slice_get, Contains}
use Rattle.std.proofs.Common.{◌≡◌, ℕ, zero, suc, ◌+◌, ◌-◌, ◌<◌, ◌≤◌, inl, inr, arith, List, [], ◌∷◌, ◌++◌, length, take, map, Some, refl, sym, ap, ◌∙◌, subst, add-one}
use Rattle.std.specs.List.{AllZip}
use Rattle.std.proofs.lemmas.Option.{none-some, same_Some, slice_get_within, get_or_from_slice_get}
use Rattle.std.proofs.lemmas.List.{length-map, take_more}
use Rattle.std.proofs.lemmas.List.Elements.{Contains-append_cases}
use Rattle.lido_base.specs.Environment.{Environment}
use Rattle.lido_base.specs.Tree.{contains}
use Rattle.lido_base.specs.declared.ids.SymId.{SymId}
use Rattle.lido_base.proofs.Lists.{contains-nil, contains-cons, contains-here, contains-later, contains-map, contains-flat, place-contains, AllZip-place}
use Rattle.lido_base.proofs.TreeLemmas.{test-contains}
use Rattle.flat_grammar.specs.declared.flat.FlatRule.{FlatRule}
use Rattle.lido_syntax.specs.declared.spec.RuleItem.{RuleItem}
use Rattle.lido_syntax.specs.Production.{left_of, right_of}
use Rattle.lido_symbols.specs.Numbers.{enumerated, different}
use Rattle.rule_tables.specs.declared.table.Tables.{Tables}
use Rattle.rule_tables.specs.PlainRules.{PlainRule, Role, Whole, Listing, Link, End, symbol_at, number, cell, written_rule, cell_rules, plain_rules}
use Rattle.rule_tables.specs.Forced.{IsWrittenAt}
use Rattle.rule_tables.specs.TablesOf.{named_symbols, AreTablesOf, IsPlainOf}
use Rattle.rule_tables.proofs.PlainLemmas.{zip-append}
use Rattle.symbol_inherit.specs.Entries.{IsOccurrenceOf, IsRuleWith}
use Rattle.symbol_inherit.specs.CellRules.{IsCellRule, link, end}
use Rattle.rule_tables.proofs.CellLemmas.{different-within}
use Rattle.symbol_inherit.proofs.RowLemmas.{enumerated-rule}
use Rattle.symbol_inherit.proofs.HeirLemmas.{mapped-place}
use Rattle.symbol_inherit.proofs.PlaceLemmas.{mapped-back, symbol-number, written-stands, plain-at}

behind-place : {X : Type 0} (xs ys : List X) (k : ℕ) (x : X) → slice_get (xs ++ ys) k ≡ Some x → length xs ≤ k → Contains ys x
behind-place [] ys k x e l = place-contains ys k x e
behind-place (z ∷ xs) ys zero x e l = absurd (omega arith)
behind-place (z ∷ xs) ys (suc k) x e l = behind-place xs ys k x e (omega arith)

enumerated-long : {X : Type 0} (k : ℕ) (xs : List X) → length (enumerated k xs) ≡ length xs
enumerated-long k [] = refl
enumerated-long k (x ∷ xs) = ap suc (enumerated-long (suc k) xs)

module _ (t : Tables) (env : Environment) (is : AreTablesOf env t) where
  abbrev symbols : List ℕ
  symbols = named_symbols t

  module _ (p : PlainRule) (r : RuleItem) (of : slice_get t.spec.rules p.rule ≡ Some r) (flat : FlatRule) (left : flat.left.0 ≡ p.left) (right : map (λ (s : SymId). s.0) flat.right ≡ p.right) where
    right-symbol : (k : ℕ) (x : SymId) → slice_get flat.right k ≡ Some x → symbol_at p (suc k) ≡ Some x.0
    right-symbol k x e = ap (λ l. slice_get l k) (sym right) ∙ mapped-place (λ (s : SymId). s.0) flat.right k x e

    -- that of a written rule
    module _ (its_left : p.left ≡ number t.spec symbols (left_of r)) where
      left-occurs : (role : Role) → p.role ≡ role → ((s : ℕ) → s ≡ left_of r → IsWrittenAt r role 0 s) → (s : ℕ) × IsOccurrenceOf t p r 0 s flat.left.0
      left-occurs role e written = (
        left_of r,
        record {
          of_rule = of;
          written = subst (λ k. IsWrittenAt r k 0 (left_of r)) (sym e) (written (left_of r) refl);
          stands = refl;
          at = ap Some (sym left);
          number = ap (slice_get symbols) (left ∙ its_left) ∙ symbol-number t env is r (place-contains t.spec.rules p.rule r of) (left_of r) (contains-here (left_of r) (right_of r));
        },
      )

      listing-with : p.role ≡ Listing → IsRuleWith t p r flat.left []
      listing-with e = record {
        at_left = left-occurs Listing e (λ s h. h);
        at_right = λ k x f. absurd (none-some x f);
        last = λ o s h. first o s (subst (λ k. IsWrittenAt r k o s) e h);
      }
        where
          first : (o s : ℕ) → IsWrittenAt r Listing o s → o < 0 + 1
          first zero s h = omega arith
          first (suc o) s h = absurd h

      whole-with : p.role ≡ Whole → p.right ≡ map (number t.spec symbols) (right_of r) → IsRuleWith t p r flat.left flat.right
      whole-with e its_right = record {
        at_left = left-occurs Whole e (λ s h. h);
        at_right = λ k x f. at k x f;
        last = λ o s h. within o s (subst (λ k. IsWrittenAt r k o s) e h);
      }
        where
          at : (k : ℕ) (x : SymId) → slice_get flat.right k ≡ Some x → (s : ℕ) × IsOccurrenceOf t p r (k + 1) s x.0
          at k x f =
              let (s, g, n) = mapped-back (number t.spec symbols) (right_of r) k x.0 (ap (λ l. slice_get l k) (sym its_right) ∙ right-symbol k x f) in
              let written : IsWrittenAt r Whole (k + 1) s = subst (λ o. IsWrittenAt r Whole o s) (sym (add-one k)) g in (
                s,
                record {
                  of_rule = of;
                  written = subst (λ role. IsWrittenAt r role (k + 1) s) (sym e) written;
                  stands = written-stands r (k + 1) s written;
                  at = ap (symbol_at p) (add-one k) ∙ right-symbol k x f;
                  number = ap (slice_get symbols) (sym n) ∙ symbol-number t env is r (place-contains t.spec.rules p.rule r of) s (contains-later (left_of r) s (right_of r) (place-contains (right_of r) k s g));
                },
              )

          long : length flat.right ≡ length (right_of r)
          long = sym (length-map flat.right (λ (s : SymId). s.0)) ∙ ap (λ (l : List ℕ). length l) (right ∙ its_right) ∙ length-map (right_of r) (number t.spec symbols)

          within : (o s : ℕ) → IsWrittenAt r Whole o s → o < length flat.right + 1
          within zero s h = omega arith
          within (suc o) s h = let w = slice_get_within (right_of r) o s h in let l = long in omega arith

    -- that of a cell
    link-rule : (s : ℕ) → r.list ≡ true → Contains (right_of r) s → p.role ≡ Link s → (n : ℕ) → p.right ≡ number t.spec symbols s ∷ n ∷ [] → IsCellRule t p flat.right
    link-rule s is_list m role n e = by flat.right (right ∙ e) right-symbol
      where
        stands : (b : Bool) → b ≡ true → MatchBool b (IsTrue (contains s (right_of r))) (slice_get (right_of r) 0 ≡ Some s)
        stands true e = test-contains s (right_of r) m
        stands false e = cc

        by : (xs : List SymId) → map (λ (s : SymId). s.0) xs ≡ number t.spec symbols s ∷ n ∷ [] → ((k : ℕ) (x : SymId) → slice_get xs k ≡ Some x → symbol_at p (suc k) ≡ Some x.0) → IsCellRule t p xs
        by [] e at = cc
        by (x ∷ xs) e at =
            let same : x.0 ≡ number t.spec symbols s = same_Some x.0 (number t.spec symbols s) (ap (λ l. slice_get l 0) e) in
            link x xs (record {
              r = r;
              s = s;
              is_list = is_list;
              role = role;
              occurs = record {
                of_rule = of;
                written = subst (λ k. IsWrittenAt r k 1 s) (sym role) refl;
                stands = stands r.list is_list;
                at = at 0 x refl;
                number = ap (slice_get symbols) same ∙ symbol-number t env is r (place-contains t.spec.rules p.rule r of) s (contains-later (left_of r) s (right_of r) m);
              };
            })

    end-rule : p.role ≡ End → p.right ≡ [] → IsCellRule t p flat.right
    end-rule role e = by flat.right (right ∙ e)
      where
        by : (xs : List SymId) → map (λ (s : SymId). s.0) xs ≡ [] → IsCellRule t p xs
        by [] e = end role
        by (x ∷ xs) e = cc

  abbrev links : ℕ → ℕ → PlainRule
  links i s = record { rule = i; role = Link s; left = cell t.spec symbols i; right = number t.spec symbols s ∷ cell t.spec symbols i ∷ [] }

  abbrev ends : ℕ → PlainRule
  ends i = record { rule = i; role = End; left = cell t.spec symbols i; right = [] }

  module _ (k : ℕ) (p : PlainRule) (at : slice_get (plain_rules t.spec symbols) k ≡ Some p) (flat : FlatRule) (there : slice_get t.plain k ≡ Some flat) where
    its-plain : IsPlainOf t.spec env symbols p flat
    its-plain = AllZip-place (IsPlainOf t.spec env symbols) (plain_rules t.spec symbols) t.plain k p flat is.plain at there

    -- the plain rule of a written rule
    pub rule-with : (r : RuleItem) → slice_get t.spec.rules k ≡ Some r → IsRuleWith t p r flat.left (if r.list then [] else flat.right)
    rule-with r of = by r.list refl
      where
        same : written_rule t.spec symbols (k, r) ≡ p
        same = same_Some (written_rule t.spec symbols (k, r)) p (sym (plain-at t env is k r of) ∙ at)

        of_rule : slice_get t.spec.rules p.rule ≡ Some r
        of_rule = ap (λ (p : PlainRule). slice_get t.spec.rules p.rule) (sym same) ∙ of

        by : (b : Bool) → r.list ≡ b → IsRuleWith t p r flat.left (if b then [] else flat.right)
        by true e = listing-with p r of_rule flat its-plain.left its-plain.right (ap (λ (p : PlainRule). p.left) (sym same))
            (ap (λ (p : PlainRule). p.role) (sym same) ∙ ap (λ b. if b then Listing else Whole) e)
        by false e = whole-with p r of_rule flat its-plain.left its-plain.right (ap (λ (p : PlainRule). p.left) (sym same))
            (ap (λ (p : PlainRule). p.role) (sym same) ∙ ap (λ b. if b then Listing else Whole) e)
            (ap (λ (p : PlainRule). p.right) (sym same) ∙ ap (λ b. if b then cell t.spec symbols k ∷ [] else map (number t.spec symbols) (right_of r)) e)

    -- the rule of a cell
    pub cell-rule : length t.spec.rules ≤ k → IsCellRule t p flat.right
    cell-rule l =
        let long = length-map (enumerated 0 t.spec.rules) (written_rule t.spec symbols) in
        let count = enumerated-long 0 t.spec.rules in
        let m = behind-place (map (written_rule t.spec symbols) (enumerated 0 t.spec.rules)) (flat_map (cell_rules t.spec symbols) (enumerated 0 t.spec.rules)) k p at (omega arith) in
        let (x, among, n) = contains-flat (cell_rules t.spec symbols) (enumerated 0 t.spec.rules) p m in
        by x.0 x.1 among x.1.list refl n
      where
        its-rule : (i : ℕ) (r : RuleItem) → Contains (enumerated 0 t.spec.rules) (let z : ℕ × RuleItem = (i, r) in z) → slice_get t.spec.rules i ≡ Some r
        its-rule i r among = let h = enumerated-rule 0 i r t.spec.rules among in let z : i - 0 ≡ i = omega arith in ap (slice_get t.spec.rules) (sym z) ∙ h.1

        linked : (i : ℕ) (r : RuleItem) → Contains (enumerated 0 t.spec.rules) (let z : ℕ × RuleItem = (i, r) in z) → r.list ≡ true → (s : ℕ) → Contains (different (right_of r)) s
            → links i s ≡ p → IsCellRule t p flat.right
        linked i r among e s m same = link-rule p r (ap (λ (p : PlainRule). slice_get t.spec.rules p.rule) (sym same) ∙ its-rule i r among) flat its-plain.left its-plain.right s e (different-within (right_of r) s m)
            (ap (λ (p : PlainRule). p.role) (sym same)) (cell t.spec symbols i) (ap (λ (p : PlainRule). p.right) (sym same))

        ended : (i : ℕ) (r : RuleItem) → Contains (enumerated 0 t.spec.rules) (let z : ℕ × RuleItem = (i, r) in z)
            → ends i ≡ p → IsCellRule t p flat.right
        ended i r among same = end-rule p r (ap (λ (p : PlainRule). slice_get t.spec.rules p.rule) (sym same) ∙ its-rule i r among) flat its-plain.left its-plain.right
            (ap (λ (p : PlainRule). p.role) (sym same)) (ap (λ (p : PlainRule). p.right) (sym same))

        by : (i : ℕ) (r : RuleItem) → Contains (enumerated 0 t.spec.rules) (let z : ℕ × RuleItem = (i, r) in z) → (b : Bool) → r.list ≡ b
            → Contains (if b then map (links i) (different (right_of r)) ++ ends i ∷ [] else []) p → IsCellRule t p flat.right
        by i r among false e n = absurd (contains-nil p n)
        by i r among true e n = elim (Contains-append_cases (map (links i) (different (right_of r))) (ends i ∷ []) p n) [
          | inl h ↦ let s = contains-map (links i) (different (right_of r)) p h in linked i r among e s.0 s.1 s.2
          | inr h ↦ elim (contains-cons (ends i) p [] h) [ inl f ↦ ended i r among f | inr z ↦ absurd (contains-nil p z) ]
        ]

-- the lists of one more plain rule
pub all-more : {A B : Type 0} (R : A → B → Type 0) (xs : List A) (k : ℕ) (p : A) (all new : List B) (entries : B) → slice_get xs k ≡ Some p → AllZip R (take k xs) all → R p entries
    → new ≡ all ++ entries ∷ [] → AllZip R (take (k + 1) xs) new
all-more R xs k p all new entries e zip r f =
    let w = slice_get_within xs k p e in
    let more = take_more xs k p w ∙ ap (λ z. take k xs ++ z ∷ []) (get_or_from_slice_get xs k p p e) in
    subst (λ l. AllZip R l new) (sym more) (subst (λ l. AllZip R (take k xs ++ p ∷ []) l) (sym f) (zip-append R (take k xs) (p ∷ []) all (entries ∷ []) zip (r, tt)))
