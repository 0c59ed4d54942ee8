-- The plain rules of cells, one after another, and the different symbols of a right side.
use Rattle.std.specs.Prelude.{filter, not, nat_eq, Contains}
use Rattle.std.specs.List.{AllZip, flat_map}
use Rattle.std.proofs.Common.{◌≡◌, ℕ, inl, inr, ◌+◌, ◌<◌, Bool, true, false, if◌then◌else◌, List, [], ◌∷◌, ◌++◌, length, map, take, get_or, ap, sym, subst, ◌∙◌, arith, append_assoc, append-nil}
use Rattle.std.proofs.lemmas.List.{take_more, map-append}
use Rattle.std.proofs.lemmas.List.Elements.{filter-append, Contains-get_or}
use Rattle.lido_base.specs.Environment.{Environment}
use Rattle.lido_symbols.specs.Numbers.{different, enumerated}
use Rattle.lido_syntax.specs.declared.spec.Spec.{Spec}
use Rattle.flat_grammar.specs.declared.flat.FlatRule.{FlatRule}
use Rattle.rule_tables.specs.PlainRules.{PlainRule}
use Rattle.rule_tables.specs.TablesOf.{IsPlainOf, IsCellOf}
use Rattle.rule_tables.specs.CellRules.{AddsPlain}
use Rattle.rule_tables.proofs.PlainLemmas.{zip-append, enumerated-more, is_list}
use Rattle.rule_tables.proofs.LaterTexts.{no-fewer}
use Rattle.rule_tables.specs.RuleNames.{HasNames}
use Rattle.lido_base.specs.Texts.{Gains}
use Rattle.lido_syntax.specs.declared.spec.RuleItem.{RuleItem}
use Rattle.lido_syntax.specs.Production.{right_of}
use Rattle.lido_base.proofs.Lists.{contains-cons, contains-here, contains-later}
use Rattle.std.proofs.lemmas.List.Concat.{flat_map-append}
use Rattle.rule_tables.specs.declared.table.SymbolRow.{SymbolRow}

-- ---- different symbols

within-filter : (p : ℕ → Bool) (xs : List ℕ) (x : ℕ) → Contains (filter p xs) x → Contains xs x
within-filter p [] x m = m
within-filter p (y ∷ ys) x m = by (p y) m (within-filter p ys x)
  where
    by : (b : Bool) → Contains (if b then y ∷ filter p ys else filter p ys) x → (Contains (filter p ys) x → Contains ys x) → Contains (y ∷ ys) x
    by true m later = elim (contains-cons y x (filter p ys) m) [ inl e ↦ subst (Contains (y ∷ ys)) e (contains-here y ys) | inr k ↦ contains-later y x ys (later k) ]
    by false m later = contains-later y x ys (later m)

pub different-within : (xs : List ℕ) (x : ℕ) → Contains (different xs) x → Contains xs x
different-within [] x m = m
different-within (y ∷ ys) x m = elim (contains-cons y x (filter (λ z. not (nat_eq y z)) (different ys)) m) [
  | inl e ↦ subst (Contains (y ∷ ys)) e (contains-here y ys)
  | inr k ↦ contains-later y x ys (different-within ys x (within-filter (λ z. not (nat_eq y z)) (different ys) x k))
]

-- ---- names of rules

module _ (old new : List (List ℕ)) (rules : List RuleItem) (names : HasNames old rules) (gains : Gains old new) (i : ℕ) (x : RuleItem) (h : i < length rules) (at : x ≡ get_or rules i x) where
  there : Contains rules x
  there = subst (Contains rules) (sym at) (Contains-get_or rules i x h)

  pub called-there : x.name.0 < length new
  called-there = let l = names.called x there in let m = no-fewer old new gains in omega (arith, l, m)

  pub right-there : (s : ℕ) → Contains (right_of x) s → s < length new
  right-there s k = let l = names.right x s there k in let m = no-fewer old new gains in omega (arith, l, m)

-- ---- rules that are added

pub map-more : {X Y : Type 0} (f : X → Y) (xs : List X) (i : ℕ) (d : X) → i < length xs → map f (take (i + 1) xs) ≡ map f (take i xs) ++ f (get_or xs i d) ∷ []
map-more f xs i d h = ap (map f) (take_more xs i d h) ∙ map-append f (take i xs) (get_or xs i d ∷ [])

-- one more rule with its number
pub flat-more : {X Y : Type 0} (f : ℕ × X → List Y) (xs : List X) (i : ℕ) (x : X) → i < length xs → x ≡ get_or xs i x → flat_map f (enumerated 0 (take (i + 1) xs)) ≡ flat_map f (enumerated 0 (take i xs)) ++ f (i, x)
flat-more f xs i x h at =
    ap (flat_map f) (enumerated-more xs i x h) ∙ flat_map-append f (enumerated 0 (take i xs)) ((i, get_or xs i x) ∷ [])
    ∙ ap (λ l. flat_map f (enumerated 0 (take i xs)) ++ l) (append-nil (f (i, get_or xs i x)) ∙ ap (λ y. f (i, y)) (sym at))

module _ (spec : Spec) (env : Environment) (symbols : List ℕ) where
  pub adds-none : (old : List FlatRule) → AddsPlain spec env symbols [] old old
  adds-none old before is = subst (λ l. AllZip (IsPlainOf spec env symbols) l old) (sym (append-nil before)) is

  pub adds-one : (p : PlainRule) (flat : FlatRule) (old new : List FlatRule) → IsPlainOf spec env symbols p flat → new ≡ old ++ flat ∷ [] → AddsPlain spec env symbols (p ∷ []) old new
  adds-one p flat old new one e before is = subst (AllZip (IsPlainOf spec env symbols) (before ++ p ∷ [])) (sym e)
      (zip-append (IsPlainOf spec env symbols) before (p ∷ []) old (flat ∷ []) is (one, tt))

  pub adds-then : (a b : List PlainRule) (old middle new : List FlatRule) → AddsPlain spec env symbols a old middle → AddsPlain spec env symbols b middle new → AddsPlain spec env symbols (a ++ b) old new
  adds-then a b old middle new first after before is = subst (λ l. AllZip (IsPlainOf spec env symbols) l new) (append_assoc before a b) (after (before ++ a) (first before is))

  -- the row of one more list's cell
  pub cell-added : (r : RuleItem) (row : SymbolRow) (old new : List SymbolRow) → r.list ≡ true → IsCellOf spec env symbols r row → new ≡ old ++ row ∷ []
      → (before : List RuleItem) → AllZip (IsCellOf spec env symbols) before old → AllZip (IsCellOf spec env symbols) (before ++ filter is_list (r ∷ [])) new
  cell-added r row old new l one e before is =
      let alone : filter is_list (r ∷ []) ≡ r ∷ [] = ap (λ b. if b then r ∷ [] else []) l in
      subst (AllZip (IsCellOf spec env symbols) (before ++ filter is_list (r ∷ []))) (sym e)
      (subst (λ l. AllZip (IsCellOf spec env symbols) (before ++ l) (old ++ row ∷ [])) (sym alone) (zip-append (IsCellOf spec env symbols) before (r ∷ []) old (row ∷ []) is (one, tt)))

pub filter-more : {X : Type 0} (p : X → Bool) (xs : List X) (i : ℕ) (x : X) → i < length xs → x ≡ get_or xs i x → filter p (take (i + 1) xs) ≡ filter p (take i xs) ++ filter p (x ∷ [])
filter-more p xs i x h at = ap (filter p) (take_more xs i x h ∙ ap (λ y. take i xs ++ y ∷ []) (sym at)) ∙ filter-append p (take i xs) (x ∷ [])
