-- The weight of a left side is that of the definition.
use Rattle.std.specs.Prelude.{slice_get, ◌&&◌, ◌||◌, map, filter, filter_map, if◌then◌else◌, option_map, option_to_list, is_some}
use Rattle.std.specs.List.{AllZip, cons_option}
use Rattle.std.proofs.Common.{◌≡◌, ◌∙◌, ℕ, suc, ◌+◌, ◌≤◌, Bool, true, false, List, [], ◌∷◌, ◌++◌, length, Option, Some, None, refl, sym, ap, subst, arith}
use Rattle.std.proofs.lemmas.Option.{slice_get-map}
use Rattle.lido_base.specs.declared.ids.AttrId.{AttrId}
use Rattle.lido_base.specs.declared.ids.SymId.{SymId}
use Rattle.lido_base.specs.declared.value.ValueType.{ValueType}
use Rattle.lido_syntax.specs.declared.spec.Cons.{Cons}
use Rattle.lido_syntax.specs.declared.spec.With.{With}
use Rattle.lido_symbols.specs.Numbers.{enumerated}
use Rattle.rule_tables.specs.declared.table.Tables.{Tables as Rows}
use Rattle.rule_tables.specs.declared.extra.Slot.TheVariants as named
use Rattle.rule_tables.specs.declared.extra.SlotAt.{SlotAt}
use Rattle.rule_tables.specs.declared.extra.Piece.{Piece}
use Rattle.rule_tables.specs.declared.extra.Piece.TheVariants as piece
use Rattle.rule_tables.specs.declared.extra.Term.{Term as Given}
use Rattle.rule_tables.specs.declared.extra.Term.TheVariants as given
use Rattle.rule_tables.specs.PlainRules.{PlainRule, Role, Whole, Listing, Link, End, symbol_at}
use Rattle.rule_tables.specs.Forced.{Force}
use Rattle.rule_tables.specs.ForcedOf.{IsAttributeAt}
use Rattle.rule_tables.specs.Needs.{Tables as Numbered, Needs}
use Rattle.rule_tables.specs.Slots.{Written, Con}
use Rattle.rule_tables.specs.Shares.{Term, Read, Void, Comb, Single, folded, below_by}
use Rattle.rule_tables.specs.ExtraOf.{IsSlotOf, IsPieceAs, AreJoined, IsTermAs}
use Rattle.least_paths.specs.Graph.{is_in}
use Rattle.constituents_expand.specs.declared.weights.Gathering.{Gathering}
use Rattle.constituents_expand.specs.Weights.{child_slot, child_slots, is_bare, ends, null_if, single_of, read_of}

-- a node that is no list
abbrev pub is_whole_role : Role → Bool
is_whole_role Whole = true
is_whole_role _ = false

-- so many children there are at most beside
abbrev pub IsBounded : Role → ℕ → Type 0
IsBounded Whole n = Unit {0}
IsBounded Listing n = n ≤ 1
IsBounded (Link s) n = n ≤ 2
IsBounded End n = n ≤ 0

zip-mapped : {A B C : Type 0} (R : A → C → Type 0) (f : B → C) (xs : List A) (ys : List B) → AllZip (λ x y. R x (f y)) xs ys → AllZip R xs (map f ys)
zip-mapped R f [] [] z = tt
zip-mapped R f [] (y ∷ ys) z = absurd z
zip-mapped R f (x ∷ xs) [] z = absurd z
zip-mapped R f (x ∷ xs) (y ∷ ys) z = (z.0, zip-mapped R f xs ys z.1)

-- the attribute that is listed, as the tables number it
abbrev pub IsSourceAt : Rows → ℕ → Option AttrId → Option ℕ → Type 0
IsSourceAt t x None None = Unit {0}
IsSourceAt t x (Some id) (Some a) = IsAttributeAt t x id a
IsSourceAt t x _ _ = ⊥

module _ (t : Rows) (T : Numbered t.spec) (needs : Needs t.spec T) (p : PlainRule) (fs : List Force) (k : Cons) where
  abbrev IsSlot : SlotAt → ℕ → Type 0
  IsSlot at j = IsSlotOf t p at (j, Con k.number)

  -- the attributes of the children
  module _ (g : Gathering) (same : g.number ≡ k.number) (h : ℕ → Bool) (bearers : (x : ℕ) → is_in g.bearers x ≡ h x) where
    abbrev part : (n : ℕ) → List SymId → List ℕ
    part n ss = map (λ (x : ℕ × ℕ). x.0) (filter (λ (x : ℕ × ℕ). h x.1) (enumerated (suc n) (map (λ (s : SymId). s.0) ss)))

    one-more : (n : ℕ) (s : SymId) (slots : List SlotAt) (rest : List (ℕ × ℕ)) → symbol_at p (suc n) ≡ Some s.0 → AllZip IsSlot slots (map (λ (x : ℕ × ℕ). x.0) rest) → (b : Bool)
        → AllZip IsSlot (cons_option (if b then Some (record { occ = suc n; slot = named.Con g.number }) else None) slots) (map (λ (x : ℕ × ℕ). x.0) (if b then (suc n, s.0) ∷ rest else rest))
    one-more n s slots rest at more true = ((refl, (s.0, at, same)), more)
    one-more n s slots rest at more false = more

    slots-from : (n : ℕ) (ss : List SymId) → ((i : ℕ) (s : SymId) → slice_get ss i ≡ Some s → symbol_at p (suc (n + i)) ≡ Some s.0) → AllZip IsSlot (filter_map (child_slot g) (enumerated n ss)) (part n ss)
    slots-from n [] at = tt
    slots-from n (s ∷ ss) at =
        let rest = filter (λ (x : ℕ × ℕ). h x.1) (enumerated (suc (suc n)) (map (λ (s : SymId). s.0) ss)) in
        let slots = filter_map (child_slot g) (enumerated (suc n) ss) in
        let here : symbol_at p (suc n) ≡ Some s.0 = (let e : n ≡ n + 0 = omega arith in ap (λ m. symbol_at p (suc m)) e ∙ at 0 s refl) in
        let more = slots-from (suc n) ss (λ i q e. (let shift : suc n + i ≡ n + suc i = omega arith in ap (λ m. symbol_at p (suc m)) shift ∙ at (suc i) q e)) in
        subst (λ b. AllZip IsSlot (cons_option (if b then Some (record { occ = suc n; slot = named.Con g.number }) else None) slots) (map (λ (x : ℕ × ℕ). x.0) (if h s.0 then (suc n, s.0) ∷ rest else rest)))
        (sym (bearers s.0)) (one-more n s slots rest here more (h s.0))

    pub slots-are : (ss : List SymId) → map (λ (s : SymId). s.0) ss ≡ p.right → AllZip IsSlot (child_slots g ss) (map (λ (x : ℕ × ℕ). x.0) (filter (λ (x : ℕ × ℕ). h x.1) (enumerated 1 p.right)))
    slots-are ss right = subst (λ l. AllZip IsSlot (child_slots g ss) (map (λ (x : ℕ × ℕ). x.0) (filter (λ (x : ℕ × ℕ). h x.1) (enumerated 1 l)))) right (slots-from 0 ss (λ i s e.
        let zero_i : 0 + i ≡ i = omega arith in
        ap (λ m. slice_get p.right m) zero_i ∙ ap (λ l. slice_get l i) (sym right) ∙ slice_get-map (λ (s : SymId). s.0) ss i ∙ ap (option_map (λ (s : SymId). s.0)) e))

  module _ (m : ℕ) (same : m ≡ k.number) where
    joined-more : (a : Piece) (rest : List Piece) (with : With) (c d : Term) → IsPieceAs t p m a c → AreJoined t p m rest d → AreJoined t p m (a ∷ rest) (Comb k.number with.comb c d)
    joined-more a [] with c d h j = absurd j
    joined-more a (b ∷ more) with c d h j = (same, h, j)

    joined-whole : (with : With) (slots : List SlotAt) (js : List ℕ) → AllZip IsSlot slots js → AreJoined t p m (map read_of slots ++ piece.Null ∷ []) (folded t.spec T needs p fs k with js)
    joined-whole with [] [] z = same
    joined-whole with [] (j ∷ js) z = absurd z
    joined-whole with (a ∷ slots) [] z = absurd z
    joined-whole with (a ∷ slots) (j ∷ js) z = joined-more (piece.Read a) (map read_of slots ++ piece.Null ∷ []) with (Read j (Con k.number)) (folded t.spec T needs p fs k with js) z.0 (joined-whole with slots js z.1)

    joined-below : (with : With) (role : Role) (slots : List SlotAt) (js : List ℕ) → AllZip IsSlot slots js → IsBounded role (length js)
        → AreJoined t p m (map read_of slots ++ null_if (is_whole_role role || is_bare slots)) (below_by t.spec T needs p fs role k with js)
    joined-below with Whole slots js z few = joined-whole with slots js z
    joined-below with Listing [] [] z few = same
    joined-below with Listing (a ∷ slots) [] z few = absurd z
    joined-below with Listing [] (j ∷ []) z few = absurd z
    joined-below with Listing (a ∷ []) (j ∷ []) z few = z.0
    joined-below with Listing (a ∷ b ∷ more) (j ∷ []) z few = absurd z.1
    joined-below with Listing slots (i ∷ j ∷ js) z few = absurd (omega (arith, few))
    joined-below with (Link s) [] [] z few = same
    joined-below with (Link s) (a ∷ slots) [] z few = absurd z
    joined-below with (Link s) [] (j ∷ js) z few = absurd z
    joined-below with (Link s) (a ∷ []) (j ∷ []) z few = z.0
    joined-below with (Link s) (a ∷ b ∷ more) (j ∷ []) z few = absurd z.1
    joined-below with (Link s) (a ∷ []) (i ∷ j ∷ js) z few = absurd z.1
    joined-below with (Link s) (a ∷ b ∷ []) (i ∷ j ∷ []) z few = (same, z.0, z.1.0)
    joined-below with (Link s) (a ∷ b ∷ c ∷ more) (i ∷ j ∷ []) z few = absurd z.1.1
    joined-below with (Link s) slots (h ∷ i ∷ j ∷ js) z few = absurd (omega (arith, few))
    joined-below with End [] [] z few = same
    joined-below with End (a ∷ slots) [] z few = absurd z
    joined-below with End slots (j ∷ js) z few = absurd (omega (arith, few))

    -- the value and the term over what they are made of
    abbrev slot_of : AttrId → SlotAt
    slot_of id = record { occ = 0; slot = named.Written id }

    abbrev pub value : Option ValueType → Option AttrId → Bool → List SlotAt → Bool → Given
    value with source shield slots whole = let below = if is_some source && shield then [] else slots in
        elim with [
          | None ↦ given.Void (option_to_list (option_map slot_of source) ++ below)
          | Some ty ↦ given.Joined m ((map single_of (option_to_list (option_map slot_of source)) ++ map read_of below) ++ null_if (ends (is_some source && shield) whole below))
        ]

    abbrev pub below : Option With → List ℕ → Role → Term
    below with js role = elim with [ None ↦ Void (map (λ j. (j, Con k.number)) js) | Some w ↦ below_by t.spec T needs p fs role k w js ]

    abbrev pub term : Option With → Option ℕ → Bool → List ℕ → Role → Term
    term with listed shield js role = elim listed [
      | None ↦ below with js role
      | Some a ↦ elim with as (λ _. Term) [
        | None ↦ Void ((0, Written a) ∷ (if shield then [] else map (λ j. (j, Con k.number)) js))
        | Some w ↦ let own = Single k.number w.single (Read 0 (Written a)) in if shield then own else Comb k.number w.comb own (below with js role)
      ]
    ]

    pub term-is : (with : Option With) (source : Option AttrId) (listed : Option ℕ) (shield : Bool) (slots : List SlotAt) (js : List ℕ) (role : Role) → IsSourceAt t p.left source listed → AllZip IsSlot slots js
        → IsBounded role (length js) → IsTermAs t p (value (option_map (λ (w : With). w.ty) with) source shield slots (is_whole_role role)) (term with listed shield js role)
    term-is None None None shield slots js role src z few = zip-mapped (IsSlotOf t p) (λ j. (j, Con k.number)) slots js z
    term-is (Some w) None None shield slots js role src z few = joined-below w role slots js z few
    term-is None (Some id) (Some a) true slots js role src z few = ((refl, (p.left, refl, src)), tt)
    term-is None (Some id) (Some a) false slots js role src z few = ((refl, (p.left, refl, src)), zip-mapped (IsSlotOf t p) (λ j. (j, Con k.number)) slots js z)
    term-is (Some w) (Some id) (Some a) true slots js role src z few = (same, (refl, (p.left, refl, src)))
    term-is (Some w) (Some id) (Some a) false slots js role src z few = joined-more (piece.Single (slot_of id)) (map read_of slots ++ null_if (is_whole_role role || is_bare slots)) w
        (Single k.number w.single (Read 0 (Written a))) (below_by t.spec T needs p fs role k w js) (same, (refl, (p.left, refl, src))) (joined-below w role slots js z few)
    term-is _ None (Some a) shield slots js role src z few = absurd src
    term-is _ (Some id) None shield slots js role src z few = absurd src
