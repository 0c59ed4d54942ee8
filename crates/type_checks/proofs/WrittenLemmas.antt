-- The written rule of a plain rule, by its number and the left side.
use Rattle.std.specs.Prelude.{cond, map, filter, flat_map, nat_eq, Contains, slice_get, if◌then◌else◌}
use Rattle.std.proofs.Common.{◌≡◌, ℕ, zero, suc, ◌+◌, ◌-◌, ◌<◌, ◌≤◌, inl, inr, Bool, true, false, List, [], ◌∷◌, ◌++◌, length, take, get_or, Some, refl, ap, sym, subst, ◌∙◌, arith}
use Rattle.std.proofs.lemmas.List.{map-append}
use Rattle.std.proofs.lemmas.List.Elements.{filter-append, Contains-append_cases}
use Rattle.std.proofs.lemmas.Option.{same_Some}
use Rattle.lido_base.specs.Environment.{Environment}
use Rattle.lido_base.proofs.Lists.{contains-nil, contains-cons, contains-map, contains-flat, map-contains, place-contains}
use Rattle.lido_syntax.specs.declared.spec.Spec.{Spec}
use Rattle.lido_syntax.specs.declared.spec.RuleItem.{RuleItem}
use Rattle.lido_syntax.specs.Production.{right_of}
use Rattle.lido_symbols.specs.Numbers.{enumerated, different, place_in}
use Rattle.rule_tables.specs.declared.table.Tables.{Tables}
use Rattle.rule_tables.specs.PlainRules.{PlainRule, plain_rules, written_rule, cell_rules, cell, lists}
use Rattle.rule_tables.specs.TablesOf.{named_symbols, AreTablesOf}
use Rattle.rule_tables.proofs.PlainLemmas.{enumerated-more}
use Rattle.rule_tables.proofs.SlotLemmas.{number-at_place}
use Rattle.flat_laws.proofs.SymbolLemmas.{kept, numbered-rule}
use Rattle.flat_laws.proofs.RuleLemmas.{link_at, end_at, plain-at}
use Rattle.type_checks.specs.Written.{list_numbers, IsWrittenRule}

-- ---- the numbers of lists

abbrev is_list : ℕ × RuleItem → Bool
is_list x = x.1.list

abbrev first : ℕ × RuleItem → ℕ
first x = x.0

one-number : (i : ℕ) (x : RuleItem) → map first (filter is_list ((i, x) ∷ [])) ≡ (if x.list then i ∷ [] else [])
one-number i x = by x.list
  where
    by : (b : Bool) → map first (cond b ((i, x) ∷ []) []) ≡ (if b then i ∷ [] else [])
    by true = refl
    by false = refl

pub lists-more : (rules : List RuleItem) (i : ℕ) (x : RuleItem) (old new : List ℕ) → i < length rules → x ≡ get_or rules i x → old ≡ list_numbers (take i rules)
    → new ≡ old ++ (if x.list then i ∷ [] else []) → new ≡ list_numbers (take (i + 1) rules)
lists-more rules i x old new below is have made =
    let before = enumerated 0 (take i rules) in
    let next : enumerated 0 (take (i + 1) rules) ≡ before ++ (i, x) ∷ [] = enumerated-more rules i x below ∙ ap (λ (z : RuleItem). before ++ (i, z) ∷ []) (sym is) in
    made
    ∙ ap (λ (l : List ℕ). l ++ (if x.list then i ∷ [] else [])) have
    ∙ ap (λ (l : List ℕ). map first (filter is_list before) ++ l) (sym (one-number i x))
    ∙ sym (map-append first (filter is_list before) (filter is_list ((i, x) ∷ [])))
    ∙ ap (map first) (sym (filter-append is_list before ((i, x) ∷ [])))
    ∙ ap (λ (l : List (ℕ × RuleItem)). map first (filter is_list l)) (sym next)

-- ---- places behind the written rules

behind : {X : Type 0} (xs ys : List X) (j : ℕ) (x : X) → length xs ≤ j → slice_get (xs ++ ys) j ≡ Some x → Contains ys x
behind [] ys j x h e = place-contains ys j x e
behind (z ∷ zs) ys zero x h e = absurd (omega (arith, h))
behind (z ∷ zs) ys (suc j) x h e = behind zs ys j x (omega (arith, h)) e

as-many : {X Y : Type 0} (f : ℕ × X → Y) (k : ℕ) (xs : List X) → length (map f (enumerated k xs)) ≡ length xs
as-many f k [] = refl
as-many f k (x ∷ xs) = let e = as-many f (suc k) xs in omega (arith, e)

module _ (spec : Spec) (symbols : List ℕ) where
  pub record IsCellRule (p : PlainRule) : Type 0 where
    pub rule : RuleItem
    pub of_rule : slice_get spec.rules p.rule ≡ Some rule
    pub list : Contains (lists spec symbols) p.rule
    pub left : p.left ≡ cell spec symbols p.rule

  cell-rule : (x : ℕ × RuleItem) (p : PlainRule) → Contains (enumerated 0 spec.rules) x → Contains (cell_rules spec symbols x) p → IsCellRule p
  cell-rule x p among m = by x.1.list refl m
    where
      made : x.1.list ≡ true → (q : PlainRule) → q.rule ≡ x.0 → q.left ≡ cell spec symbols x.0 → q ≡ p → IsCellRule p
      made e q at left same =
          let rule_is : p.rule ≡ x.0 = ap (λ (z : PlainRule). z.rule) (sym same) ∙ at in
          record {
            rule = x.1;
            of_rule = ap (slice_get spec.rules) rule_is ∙ numbered-rule spec symbols x among;
            list = subst (Contains (lists spec symbols)) (sym rule_is) (map-contains first (filter is_list (enumerated 0 spec.rules)) x (kept is_list (enumerated 0 spec.rules) x among e));
            left = ap (λ (z : PlainRule). z.left) (sym same) ∙ left ∙ ap (cell spec symbols) (sym rule_is);
          }

      by : (b : Bool) → x.1.list ≡ b → Contains (if b then map (link_at spec symbols x.0) (different (right_of x.1)) ++ end_at spec symbols x.0 ∷ [] else []) p → IsCellRule p
      by false e m = absurd (contains-nil p m)
      by true e m = elim (Contains-append_cases (map (link_at spec symbols x.0) (different (right_of x.1))) (end_at spec symbols x.0 ∷ []) p m) [
        | inl h ↦ let (s, ms, same) = contains-map (link_at spec symbols x.0) (different (right_of x.1)) p h in made e (link_at spec symbols x.0 s) refl refl same
        | inr h ↦ elim (contains-cons (end_at spec symbols x.0) p [] h) [ inl same ↦ made e (end_at spec symbols x.0) refl refl same | inr z ↦ absurd (contains-nil p z) ]
      ]

  -- a plain rule behind those of the written ones is one of a cell
  pub behind-written : (j : ℕ) (p : PlainRule) → length spec.rules ≤ j → slice_get (plain_rules spec symbols) j ≡ Some p → IsCellRule p
  behind-written j p past e =
      let count = as-many (written_rule spec symbols) 0 spec.rules in
      let m = behind (map (written_rule spec symbols) (enumerated 0 spec.rules)) (flat_map (cell_rules spec symbols) (enumerated 0 spec.rules)) j p (omega (arith, count, past)) e in
      let (x, among, k) = contains-flat (cell_rules spec symbols) (enumerated 0 spec.rules) p m in
      cell-rule x p among k

  -- the number of its list stands at the cell's place among the lists
  pub list-place : (p : PlainRule) → IsCellRule p → slice_get (lists spec symbols) (p.left - length symbols) ≡ Some p.rule
  list-place p is =
      let left = is.left in
      let place : p.left - length symbols ≡ place_in (nat_eq p.rule) (lists spec symbols) = omega (arith, left) in
      ap (slice_get (lists spec symbols)) place ∙ number-at_place p.rule (lists spec symbols) is.list

  pub list-number : (p : PlainRule) (numbers : List ℕ) (left named : ℕ) → IsCellRule p → numbers ≡ lists spec symbols → left ≡ p.left → named ≡ length symbols → slice_get numbers (left - named) ≡ Some p.rule
  list-number p numbers left named is same on_left count =
      ap (λ (l : List ℕ). slice_get l (left - named)) same ∙ ap (λ (n : ℕ). slice_get (lists spec symbols) (n - named)) on_left ∙ ap (λ (n : ℕ). slice_get (lists spec symbols) (p.left - n)) count ∙ list-place p is

  pub left-behind : (p : PlainRule) → IsCellRule p → length symbols ≤ p.left
  left-behind p is = let left = is.left in omega (arith, left)

pub named-count : (t : Tables) (env : Environment) → AreTablesOf env t → (numbers : List ℕ) → numbers ≡ lists t.spec (named_symbols t) → length t.symbols ≡ length (named_symbols t) + length numbers
named-count t env is numbers same = is.count ∙ ap (λ (l : List ℕ). length (named_symbols t) + length l) (sym same)

-- the plain rule of a written one
pub front-written : (t : Tables) (j : ℕ) (r : RuleItem) → slice_get t.spec.rules j ≡ Some r → IsWrittenRule t j r
front-written t j r at p e =
    let same : written_rule t.spec (named_symbols t) (j, r) ≡ p = same_Some (written_rule t.spec (named_symbols t) (j, r)) p (sym (plain-at t.spec (named_symbols t) j r at) ∙ e) in
    ap (λ (q : PlainRule). slice_get t.spec.rules q.rule) (sym same) ∙ at
