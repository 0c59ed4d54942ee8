-- What an expansion adds: its attributes with their kinds and types, and their computations in the plain rules.
use Rattle.std.specs.Prelude.{◌≡◌, ℕ, ◌+◌, ◌*◌, ◌<◌, ◌⊎◌, List, [], ◌∷◌, Some, slice_get, AllPairs, Contains}
use Rattle.std.specs.List.{AllZip}
use Rattle.rule_tables.specs.declared.table.Tables.{Tables as Rows}
use Rattle.rule_tables.specs.declared.extra.Extra.{Extra}
use Rattle.rule_tables.specs.declared.extra.ExtraAttr.{ExtraAttr}
use Rattle.rule_tables.specs.declared.extra.ExtraComp.{ExtraComp}
use Rattle.rule_tables.specs.declared.extra.Slot.{Slot as Named}
use Rattle.rule_tables.specs.declared.extra.Slot.TheVariants as named
use Rattle.rule_tables.specs.declared.extra.SlotAt.{SlotAt}
use Rattle.rule_tables.specs.declared.extra.Term.{Term as Given}
use Rattle.rule_tables.specs.declared.extra.Term.TheVariants as given
use Rattle.rule_tables.specs.declared.extra.Piece.{Piece}
use Rattle.rule_tables.specs.declared.extra.Piece.TheVariants as piece
use Rattle.rule_tables.specs.PlainRules.{PlainRule, symbol_at}
use Rattle.rule_tables.specs.Forced.{Force}
use Rattle.rule_tables.specs.Needs.{Tables, Needs, ruled}
use Rattle.rule_tables.specs.Slots.{Slot, Written, Inc, Con, Front, Behind, HasSlot}
use Rattle.rule_tables.specs.Shares.{Term, Read, Copied, Void, Comb, Single, Null}
use Rattle.rule_tables.specs.Flat.{IsSlotKind, IsSlotType}
use Rattle.rule_tables.specs.ForcedOf.{IsAttributeAt, IsChainAt}

module _ (t : Rows) where
  -- the slot of the symbol of that number
  abbrev pub IsSlotAs : ℕ → Named → Slot → Type 0
  IsSlotAs x (named.Written id) (Written a) = IsAttributeAt t x id a
  IsSlotAs x (named.Inc i) (Inc j) = i ≡ j
  IsSlotAs x (named.Con m) (Con n) = m ≡ n
  IsSlotAs x (named.Front i) (Front c) = IsChainAt t i c
  IsSlotAs x (named.Behind i) (Behind c) = IsChainAt t i c
  IsSlotAs x _ _ = ⊥

  module _ (p : PlainRule) where
    -- the slot at an occurrence of the plain rule
    abbrev pub IsSlotOf : SlotAt → ℕ × Slot → Type 0
    IsSlotOf at o = (at.occ ≡ o.0) × ((x : ℕ) × (symbol_at p o.0 ≡ Some x) × IsSlotAs x at.slot o.1)

    -- what the CONSTITUENTS of that number joins
    abbrev pub IsPieceAs : ℕ → Piece → Term → Type 0
    IsPieceAs m (piece.Read at) (Read k s) = IsSlotOf at (k, s)
    IsPieceAs m (piece.Single at) (Single n f (Read k s)) = (m ≡ n) × IsSlotOf at (k, s)
    IsPieceAs m piece.Null (Null n f) = m ≡ n
    IsPieceAs m _ _ = ⊥

    abbrev pub AreJoined : ℕ → List Piece → Term → Type 0
    AreJoined m [] e = ⊥
    AreJoined m (a ∷ []) e = IsPieceAs m a e
    AreJoined m (a ∷ b ∷ more) (Comb n f c d) = (m ≡ n) × IsPieceAs m a c × AreJoined m (b ∷ more) d
    AreJoined m (a ∷ b ∷ more) _ = ⊥

    -- the term, with its written computation and its CONSTITUENTS by their numbers
    abbrev pub IsTermAs : Given → Term → Type 0
    IsTermAs (given.Read at) (Read k s) = IsSlotOf at (k, s)
    IsTermAs (given.Copied n) (Copied h c) = n ≡ c.number
    IsTermAs (given.Void ats) (Void os) = AllZip IsSlotOf ats os
    IsTermAs (given.Joined m pieces) e = AreJoined m pieces e
    IsTermAs _ _ = ⊥

-- the order of attributes of the flat grammar
abbrev pub group_of : Named → ℕ
group_of (named.Written id) = 0
group_of (named.Inc i) = 1
group_of (named.Con n) = 2
group_of (named.Front i) = 3
group_of (named.Behind i) = 3

abbrev pub within_of : Named → ℕ
within_of (named.Written id) = id.0
within_of (named.Inc i) = i
within_of (named.Con n) = n
within_of (named.Front i) = 2 * i
within_of (named.Behind i) = 2 * i + 1

-- one list of numbers comes before another of the same length
abbrev pub IsBeforeIn : List ℕ → List ℕ → Type 0
IsBeforeIn (x ∷ xs) (y ∷ ys) = (x < y) ⊎ ((x ≡ y) × IsBeforeIn xs ys)
IsBeforeIn _ _ = ⊥

abbrev pub attr_place : ExtraAttr → List ℕ
attr_place a = a.sym.0 ∷ group_of a.slot ∷ within_of a.slot ∷ []

abbrev pub comp_place : ExtraComp → List ℕ
comp_place c = c.rule.0 ∷ c.occ ∷ group_of c.slot ∷ within_of c.slot ∷ []

module _ (t : Rows) (T : Tables t.spec) (needs : Needs t.spec T) where
  -- an added attribute
  pub record IsExtraAttr (a : ExtraAttr) (x : ℕ) (s : Slot) : Type 0 where
    pub symbol : a.sym.0 ≡ x
    pub slot : IsSlotAs t x a.slot s
    pub kind : IsSlotKind t.spec T x s a.kind
    pub ty : IsSlotType t.spec T x s a.ty

  -- An expansion adds the attributes of these slots, and in each plain rule its share.
  module _ (IsIts : Slot → Type 0) (Share : PlainRule → List Force → ℕ → Slot → Term → Type 0) where
    pub record IsComputed (c : ExtraComp) : Type 0 where
      pub rule : PlainRule
      pub forces : List Force
      pub k : ℕ
      pub slot : Slot
      pub term : Term
      pub symbol : ℕ
      pub of_rule : slice_get (ruled t.spec T) c.rule.0 ≡ Some (rule, forces)
      pub share : Share rule forces k slot term
      pub occ : c.occ ≡ k
      pub at : symbol_at rule k ≡ Some symbol
      pub named : IsSlotAs t symbol c.slot slot
      pub value : IsTermAs t rule c.value term

    pub record IsExtra (extra : Extra) : Type 0 where
      pub each : (a : ExtraAttr) → Contains extra.attrs a → (x : ℕ) × (s : Slot) × IsIts s × HasSlot t.spec T needs x s × IsExtraAttr a x s
      pub all : (x : ℕ) (s : Slot) → IsIts s → HasSlot t.spec T needs x s → (a : ExtraAttr) × Contains extra.attrs a × IsExtraAttr a x s
      pub in_order : AllPairs (λ (a b : ExtraAttr). IsBeforeIn (attr_place a) (attr_place b)) extra.attrs
      pub computed : (c : ExtraComp) → Contains extra.comps c → IsComputed c
      pub computes : (i k : ℕ) (p : PlainRule) (fs : List Force) (s : Slot) (e : Term) → slice_get (ruled t.spec T) i ≡ Some (p, fs) → Share p fs k s e
          → (c : ExtraComp) × Contains extra.comps c × (c.rule.0 ≡ i) × (c.occ ≡ k) × ((x : ℕ) × (symbol_at p k ≡ Some x) × IsSlotAs t x c.slot s) × IsTermAs t p c.value e
      pub comps_in_order : AllPairs (λ (a b : ExtraComp). IsBeforeIn (comp_place a) (comp_place b)) extra.comps

-- the slots of each expansion
abbrev pub IsOfIncluding : Slot → Type 0
IsOfIncluding (Inc i) = Unit {0}
IsOfIncluding _ = ⊥

abbrev pub IsOfConstituents : Slot → Type 0
IsOfConstituents (Con n) = Unit {0}
IsOfConstituents _ = ⊥

abbrev pub IsOfChains : Slot → Type 0
IsOfChains (Front c) = Unit {0}
IsOfChains (Behind c) = Unit {0}
IsOfChains _ = ⊥
