-- The specification of counted items has no fault of the tables.
use Rattle.std.specs.Prelude.{◌≡◌, ℤ, ℕ, zero, suc, ◌<◌, List, [], ◌∷◌, length, Option, Some, None, slice_get, Contains, refl}
use Rattle.std.proofs.Common.{arith, ap, subst, sym, inl, inr, ◌∙◌}
use Rattle.std.proofs.lemmas.Option.{none-some, same_Some}
use Rattle.lido_base.proofs.TreeLemmas.{contains-test}
use Rattle.lido_syntax.specs.declared.fault.SpecFault.{SpecFault}
use Rattle.lido_syntax.specs.declared.spec.Name.{Name}
use Rattle.lido_syntax.specs.declared.spec.Comp.{Comp}
use Rattle.lido_syntax.specs.declared.spec.RuleItem.{RuleItem}
use Rattle.lido_syntax.specs.declared.spec.SymbolItem.{SymbolItem}
use Rattle.lido_syntax.specs.declared.spec.Target.{Target}
use Rattle.lido_syntax.specs.declared.spec.Target.TheVariants as target
use Rattle.lido_syntax.specs.declared.spec.Place.{Place}
use Rattle.lido_syntax.specs.declared.spec.Place.TheVariants as place
use Rattle.lido_syntax.specs.declared.spec.Expr.{Expr, Read, Terminal}
use Rattle.lido_syntax.specs.Production.{name_of, left_of, symbols_of, occurrence}
use Rattle.lido_syntax.specs.Parts.{leaves_of}
use Rattle.lido_syntax.specs.Symbols.{IsRoot, IsOnRightSide}
use Rattle.lido_syntax.specs.Attributes.{InText}
use Rattle.lido_syntax.specs.Computation.{Goal, Synthesized, Inherited, Start, Behind, Output, Message, IsRuleTarget}
use Rattle.trials_of_syntax.proofs.Members.{every}
use Rattle.lido_symbols.specs.Uses.{symbol_uses}
use Rattle.lido_symbols.specs.Classes.{IsClass}
use Rattle.table_faults.specs.Faults.{IsUnknown, IsKnown, IsPlaceOf, IsDuplicate, IsRootNotOne, AreRoots, IsBadIndex, IsDouble, IsBadOut, IsOut, IsTooManyOf, IsTooMany, table_faults, in_production, class}
use Rattle.table_faults.specs.Faults as faults
use Rattle.trials_of_tables.specs.CountedItems.{spec, env, Num, Counted, Top, Item, give_t, give_b, start, out, give_no, warn, top_rule, item_rule, class_item, heir_item}

-- what holds of each rule, each item, and each computation with the rule or item that it stands in
pub each_rule : (P : RuleItem → Type 0) → P top_rule → P item_rule → (r : RuleItem) → Contains spec.rules r → P r
each_rule P x y = every P spec.rules (x, (y, tt))

pub each_item : (P : SymbolItem → Type 0) → P class_item → P heir_item → (item : SymbolItem) → Contains spec.symbols item → P item
each_item P x y = every P spec.symbols (x, (y, tt))

pub in_rules : (P : RuleItem → Comp → Type 0) → P top_rule give_b → P top_rule start → P top_rule out → P item_rule give_no → P item_rule warn
    → (r : RuleItem) → Contains spec.rules r → (c : Comp) → Contains r.body c → P r c
in_rules P x y z u v = each_rule (λ r. (c : Comp) → Contains r.body c → P r c) (every (P top_rule) top_rule.body (x, (y, (z, tt)))) (every (P item_rule) item_rule.body (u, (v, tt)))

pub in_items : (P : Comp → Type 0) → P give_t → (item : SymbolItem) → Contains spec.symbols item → (c : Comp) → Contains item.body c → P c
in_items P x = each_item (λ item. (c : Comp) → Contains item.body c → P c) (every P class_item.body (x, tt)) (every P heir_item.body tt)

pub in_text : (P : Comp → Type 0) → P give_t → P give_b → P start → P out → P give_no → P warn → (c : Comp) → InText spec c → P c
in_text P t x y z u v c (inl (r, m, k)) = in_rules (λ r c. P c) x y z u v r m c k
in_text P t x y z u v c (inr (s, (item, m, named, k))) = in_items P t item m c k

-- UnknownSymbol
abbrev KnownUse : ℕ × ℕ → Type 0
KnownUse u = IsKnown spec env u.1

pub its_class : IsClass spec Counted
its_class = (class_item, (0, omega arith, refl), refl, (0, omega arith, refl))

known_Num : IsKnown spec env Num
known_Num = in_production item_rule (1, omega arith, refl) (1, omega arith, refl)

known_Counted : IsKnown spec env Counted
known_Counted = class its_class

known_Top : IsKnown spec env Top
known_Top = in_production top_rule (0, omega arith, refl) (0, omega arith, refl)

known_Item : IsKnown spec env Item
known_Item = in_production top_rule (0, omega arith, refl) (1, omega arith, refl)

known_uses : (u : ℕ × ℕ) → Contains (symbol_uses spec env) u → KnownUse u
known_uses = every KnownUse (symbol_uses spec env) (known_Top, (known_Item, (known_Top, (known_Item, (known_Item, (known_Item, (known_Num, (known_Item, (known_Item, (known_Num, (known_Counted, (known_Top, (known_Item, (known_Counted, (known_Num, tt)))))))))))))))

-- in a rule's computation each place, and each bare name, means a symbol of the production and an occurrence
abbrev IsMeantName : RuleItem → Name → Option ℤ → Type 0
IsMeantName r x i = Contains (symbols_of r) (name_of x) × (occurrence r x i ≡ None → ⊥)

abbrev IsMeant : RuleItem → Place → Type 0
IsMeant r (place.Named x i) = IsMeantName r x i
IsMeant r _ = ⊥

abbrev IsMeantTarget : RuleItem → Target → Type 0
IsMeantTarget r (target.Attr p a) = IsMeant r p
IsMeantTarget r _ = Unit {0}

abbrev IsMeantLeaf : RuleItem → Expr → Type 0
IsMeantLeaf r (Read at p a) = IsMeant r p
IsMeantLeaf r (Terminal x i) = IsMeantName r x i
IsMeantLeaf r _ = Unit {0}

abbrev AreMeant : RuleItem → Comp → Type 0
AreMeant r c = IsMeantTarget r c.target × ((e : Expr) → Contains (leaves_of c) e → IsMeantLeaf r e)

meant : (r : RuleItem) → Contains spec.rules r → (c : Comp) → Contains r.body c → AreMeant r c
meant = in_rules AreMeant
    (((0, omega arith, refl), (λ e. cc)), every (IsMeantLeaf top_rule) (leaves_of give_b) (tt, tt))
    (tt, every (IsMeantLeaf top_rule) (leaves_of start) (tt, tt))
    (tt, every (IsMeantLeaf top_rule) (leaves_of out) (tt, tt))
    (((0, omega arith, refl), (λ e. cc)), every (IsMeantLeaf item_rule) (leaves_of give_no) (((0, omega arith, refl), (λ e. cc)), (((1, omega arith, refl), (λ e. cc)), tt)))
    (tt, every (IsMeantLeaf item_rule) (leaves_of warn) (tt, tt))

of_place : (r : RuleItem) (c : Comp) (at : ℕ) (p : Place) → AreMeant r c → IsPlaceOf c at p → IsMeant r p
of_place r c at p here (faults.targeted a e f) = subst (IsMeantTarget r) e here.0
of_place r c at p here (faults.read first a m f) = here.1 (Read first p a) m

not_foreign : (r : RuleItem) (p : Place) → IsMeant r p → faults.IsForeign spec env r p → ⊥
not_foreign r (place.Named x i) h f = f h.0
not_foreign r place.Synt h f = h
not_foreign r place.Inh h f = h
not_foreign r place.This h f = h
not_foreign r place.Tail h f = h

-- in the class's computation nothing is named
abbrev IsOwnTarget : Target → Type 0
IsOwnTarget (target.Attr (place.Named x i) a) = ⊥
IsOwnTarget _ = Unit {0}

abbrev IsOwnLeaf : Expr → Type 0
IsOwnLeaf (Read at p a) = ⊥
IsOwnLeaf (Terminal x i) = ⊥
IsOwnLeaf _ = Unit {0}

abbrev NamesNone : Comp → Type 0
NamesNone c = IsOwnTarget c.target × ((e : Expr) → Contains (leaves_of c) e → IsOwnLeaf e)

own : (item : SymbolItem) → Contains spec.symbols item → (c : Comp) → Contains item.body c → NamesNone c
own = in_items NamesNone (tt, every IsOwnLeaf (leaves_of give_t) (tt, tt))

no_name : (c : Comp) (at : ℕ) (x : Name) (i : Option ℤ) → NamesNone c → IsPlaceOf c at (place.Named x i) → ⊥
no_name c at x i here (faults.targeted a e f) = subst IsOwnTarget e here.0
no_name c at x i here (faults.read first a m f) = here.1 (Read first (place.Named x i) a) m

pub no_unknown : (at : ℕ) → IsUnknown spec env at → ⊥
no_unknown at (faults.nowhere s m unknown) = unknown (known_uses (at, s) m)
no_unknown at (faults.IsUnknown.in_rule r c p m k q f) = not_foreign r p (of_place r c at p (meant r m c k) q) f
no_unknown at (faults.bare_in_rule r c x i m k b outside e) = outside ((meant r m c k).1 (Terminal x i) b.0).0
no_unknown at (faults.IsUnknown.in_symbol item c x i m k q) = no_name c at x i (own item m c k) q
no_unknown at (faults.bare_in_symbol item c x i m k b e) = (own item m c k).1 (Terminal x i) b.0

-- BadIndex
pub no_bad_index : (at : ℕ) → IsBadIndex spec env at → ⊥
no_bad_index at (faults.IsBadIndex.of_place r c x i m k q none) = (of_place r c at (place.Named x i) (meant r m c k) q).1 none
no_bad_index at (faults.IsBadIndex.bare r c x i m k b none e) = ((meant r m c k).1 (Terminal x i) b.0).1 none

-- DuplicateRule
two_names : (i j : ℕ) (r q : RuleItem) → i < j → slice_get spec.rules i ≡ Some r → slice_get spec.rules j ≡ Some q → r.name ≡ q.name → ⊥
two_names i zero r q h e f same = omega (arith, h)
two_names zero (suc zero) r q h e f same =
    let first : r.name.0 ≡ 7 = ap (λ (r : RuleItem). r.name.0) (sym (same_Some _ _ e)) in
    let second : q.name.0 ≡ 8 = ap (λ (r : RuleItem). r.name.0) (sym (same_Some _ _ f)) in
    let one : r.name.0 ≡ q.name.0 = ap (λ (s : _). s.0) same in
    omega (arith, first, second, one)
two_names (suc i) (suc zero) r q h e f same = omega (arith, h)
two_names i (suc (suc j)) r q h e f same = none-some _ f

pub no_duplicate : (at : ℕ) → IsDuplicate spec env at → ⊥
no_duplicate at (faults.later i j r q h e f same g) = two_names i j r q h e f same

-- RootNotOne
pub its_root : IsRoot spec Top
its_root = (refl, (λ h. cc))

no_other_root : (s : ℕ) → IsRoot spec s → s ≡ Top
no_other_root s h = every (λ (x : ℕ). ¬ IsOnRightSide spec x → x ≡ Top) (Top ∷ Item ∷ []) ((λ g. refl), ((λ g. absurd (g refl)), tt)) s (contains-test s (Top ∷ Item ∷ []) h.0) h.1

one_root : (roots : List ℕ) → AreRoots spec env roots → length roots ≡ 1
one_root [] h = let m = h.all Top its_root in absurd (omega (arith, m.1))
one_root (s ∷ []) h = refl
one_root (s ∷ q ∷ rest) h =
    let first : s ≡ Top = no_other_root s (h.each s (0, omega arith, refl)) in
    let second : q ≡ Top = no_other_root q (h.each q (1, omega arith, refl)) in
    absurd (h.once 0 1 s (omega arith) (omega arith) (first ∙ sym second))

pub one_root_alone : (f : SpecFault) → IsRootNotOne spec env f → ⊥
one_root_alone f (roots, are, several, e) = several (one_root roots are)

-- DoubleComputation: the computations of one body have targets of different forms
abbrev form : Target → ℕ
form (target.Attr p a) = 0
form (target.Start a) = 1
form target.Out = 2
form (target.Message s e) = 3

abbrev form_of : Goal → ℕ
form_of (Synthesized a) = 0
form_of (Inherited a) = 0
form_of (Behind c) = 0
form_of (Start c) = 1
form_of Output = 2
form_of (Message j) = 3

same_form : (r : RuleItem) (c : Comp) (t : Target) (k : ℕ) (g : Goal) → IsRuleTarget spec r c t k g → form t ≡ form_of g
same_form r c (target.Attr p a) k (Synthesized b) h = refl
same_form r c (target.Attr p a) k (Inherited b) h = refl
same_form r c (target.Attr p a) k (Behind b) h = refl
same_form r c (target.Attr (place.Named x i) a) zero (Start b) h = absurd h
same_form r c (target.Attr (place.Named x i) a) (suc k) (Start b) h = absurd h
same_form r c (target.Attr place.Synt a) k (Start b) h = absurd h
same_form r c (target.Attr place.Inh a) k (Start b) h = absurd h
same_form r c (target.Attr place.This a) k (Start b) h = absurd h
same_form r c (target.Attr place.Tail a) k (Start b) h = absurd h
same_form r c (target.Attr (place.Named x i) a) zero Output h = absurd h
same_form r c (target.Attr (place.Named x i) a) (suc k) Output h = absurd h
same_form r c (target.Attr place.Synt a) k Output h = absurd h
same_form r c (target.Attr place.Inh a) k Output h = absurd h
same_form r c (target.Attr place.This a) k Output h = absurd h
same_form r c (target.Attr place.Tail a) k Output h = absurd h
same_form r c (target.Attr (place.Named x i) a) zero (Message j) h = absurd h
same_form r c (target.Attr (place.Named x i) a) (suc k) (Message j) h = absurd h
same_form r c (target.Attr place.Synt a) k (Message j) h = absurd h
same_form r c (target.Attr place.Inh a) k (Message j) h = absurd h
same_form r c (target.Attr place.This a) k (Message j) h = absurd h
same_form r c (target.Attr place.Tail a) k (Message j) h = absurd h
same_form r c (target.Start a) k (Start b) h = refl
same_form r c (target.Start a) zero (Synthesized b) h = absurd h
same_form r c (target.Start a) zero (Inherited b) h = absurd h
same_form r c (target.Start a) zero (Behind b) h = absurd h
same_form r c (target.Start a) zero Output h = absurd h
same_form r c (target.Start a) zero (Message j) h = absurd h
same_form r c (target.Start a) (suc k) (Synthesized b) h = absurd h
same_form r c (target.Start a) (suc k) (Inherited b) h = absurd h
same_form r c (target.Start a) (suc k) (Behind b) h = absurd h
same_form r c (target.Start a) (suc k) Output h = absurd h
same_form r c (target.Start a) (suc k) (Message j) h = absurd h
same_form r c target.Out k Output h = refl
same_form r c target.Out zero (Synthesized b) h = absurd h
same_form r c target.Out zero (Inherited b) h = absurd h
same_form r c target.Out zero (Behind b) h = absurd h
same_form r c target.Out zero (Start b) h = absurd h
same_form r c target.Out zero (Message j) h = absurd h
same_form r c target.Out (suc k) (Synthesized b) h = absurd h
same_form r c target.Out (suc k) (Inherited b) h = absurd h
same_form r c target.Out (suc k) (Behind b) h = absurd h
same_form r c target.Out (suc k) (Start b) h = absurd h
same_form r c target.Out (suc k) (Message j) h = absurd h
same_form r c (target.Message s e) k (Message j) h = refl
same_form r c (target.Message s e) zero (Synthesized b) h = absurd h
same_form r c (target.Message s e) zero (Inherited b) h = absurd h
same_form r c (target.Message s e) zero (Behind b) h = absurd h
same_form r c (target.Message s e) zero (Start b) h = absurd h
same_form r c (target.Message s e) zero Output h = absurd h
same_form r c (target.Message s e) (suc k) (Synthesized b) h = absurd h
same_form r c (target.Message s e) (suc k) (Inherited b) h = absurd h
same_form r c (target.Message s e) (suc k) (Behind b) h = absurd h
same_form r c (target.Message s e) (suc k) (Start b) h = absurd h
same_form r c (target.Message s e) (suc k) Output h = absurd h

-- in one body a form tells the place
abbrev IsPlaced : Comp → Comp → Type 0
IsPlaced c d = form c.target ≡ form d.target → c.at ≡ d.at

placed : (r : RuleItem) → Contains spec.rules r → (c : Comp) → Contains r.body c → (d : Comp) → Contains r.body d → IsPlaced c d
placed = each_rule (λ r. (c : Comp) → Contains r.body c → (d : Comp) → Contains r.body d → IsPlaced c d)
    (every (λ c. (d : Comp) → Contains top_rule.body d → IsPlaced c d) top_rule.body (
      every (IsPlaced give_b) top_rule.body ((λ e. refl), ((λ e. absurd (omega (arith, e))), ((λ e. absurd (omega (arith, e))), tt))),
      (
        every (IsPlaced start) top_rule.body ((λ e. absurd (omega (arith, e))), ((λ e. refl), ((λ e. absurd (omega (arith, e))), tt))),
        (every (IsPlaced out) top_rule.body ((λ e. absurd (omega (arith, e))), ((λ e. absurd (omega (arith, e))), ((λ e. refl), tt))), tt),
      ),
    ))
    (every (λ c. (d : Comp) → Contains item_rule.body d → IsPlaced c d) item_rule.body (
      every (IsPlaced give_no) item_rule.body ((λ e. refl), ((λ e. absurd (omega (arith, e))), tt)),
      (every (IsPlaced warn) item_rule.body ((λ e. absurd (omega (arith, e))), ((λ e. refl), tt)), tt),
    ))

at_class : (item : SymbolItem) → Contains spec.symbols item → (c : Comp) → Contains item.body c → c.at ≡ give_t.at
at_class = in_items (λ c. c.at ≡ give_t.at) refl

pub no_double : (at : ℕ) → IsDouble spec env at → ⊥
no_double at (faults.IsDouble.in_rule r k g c d m e f other h same) =
    let here = placed r m c e.0 d f.0 (same_form r c c.target k g e.1 ∙ sym (same_form r d d.target k g f.1)) in omega (arith, here, h)
no_double at (faults.IsDouble.in_symbol s g c d e f h same) =
    let (item, m, named, k) = e.0 in
    let (other, l, also, n) = f.0 in
    let first = at_class item m c k in
    let second = at_class other l d n in
    omega (arith, first, second, h)

-- BadOut
abbrev IsNoOut : Target → Type 0
IsNoOut target.Out = ⊥
IsNoOut _ = Unit {0}

class_has_none : (item : SymbolItem) → Contains spec.symbols item → (c : Comp) → Contains item.body c → IsNoOut c.target
class_has_none = in_items (λ c. IsNoOut c.target) tt

abbrev IsAtRoot : RuleItem → Comp → Type 0
IsAtRoot r c = form c.target ≡ 2 → IsRoot spec (left_of r)

at_root : (r : RuleItem) → Contains spec.rules r → (c : Comp) → Contains r.body c → IsAtRoot r c
at_root = in_rules IsAtRoot (λ e. its_root) (λ e. its_root) (λ e. its_root) (λ e. absurd (omega (arith, e))) (λ e. absurd (omega (arith, e)))

pub no_bad_out : (at : ℕ) → IsBadOut spec env at → ⊥
no_bad_out at (faults.IsBadOut.in_symbol item c m k e f) = subst IsNoOut e (class_has_none item m c k)
no_bad_out at (faults.not_at_root r c m k e other f) = other (at_root r m c k (ap form e))
no_bad_out at (faults.second r c d m k l e f h g) = let here = placed r m c k d l (ap form e ∙ sym (ap form f)) in omega (arith, here, h)
