-- The Rust values of a plain rule are those of the definitions.
use Rattle.std.specs.Prelude.{◌≡◌, ℕ, ◌≤◌, nat_lt, Bool, List, map, length, Option, Some, None, Contains}
use Rattle.lido_base.specs.Tree.{contains}
use Rattle.lido_base.specs.declared.ids.SymId.{SymId}
use Rattle.lido_syntax.specs.declared.spec.Cons.{Cons}
use Rattle.lido_syntax.specs.declared.spec.With.{With}
use Rattle.lido_syntax.specs.declared.spec.Comp.{Comp}
use Rattle.lido_syntax.specs.declared.spec.Expr.{Expr, Read, Including, Constituents, Call'}
use Rattle.lido_syntax.specs.declared.spec.Place.TheVariants as place
use Rattle.lido_syntax.specs.Production.{name_of, right_of}
use Rattle.lido_syntax.specs.Parts.{leaves, expressions_of}
use Rattle.flat_copies.specs.Ops.{IsKnown}
use Rattle.flat_copies.specs.Copied.{AreKnown}
use Rattle.lido_symbols.specs.Numbers.{place_in}
use Rattle.lido_symbols.specs.Uses.{is_same_set}
use Rattle.rule_tables.specs.PlainRules as plain
use Rattle.rule_tables.specs.Slots.{Slot, Con, is_same_slot, has_con, chains}
use Rattle.rule_tables.specs.Shares.{Term, Copied}
use Rattle.flat_slots.specs.Slots.{slots_in}
use Rattle.flat_terms.specs.declared.site.Role.{Role}
use Rattle.flat_terms.specs.declared.site.Role.TheVariants as role
use Rattle.flat_terms.specs.declared.site.Site.{Site}
use Rattle.flat_terms.specs.declared.tails.Tails.{Tails}
use Rattle.flat_terms.specs.Names.{set_in, tail_in}
use Rattle.flat_terms.specs.Scene.{Scene, tail_term}

abbrev pub IsRoleOf : plain.Role → Role → Type 0
IsRoleOf plain.Whole r = r ≡ role.Whole
IsRoleOf plain.Listing r = r ≡ role.Listing
IsRoleOf (plain.Link s) r = r ≡ role.Link
IsRoleOf plain.End r = r ≡ role.End

-- the attribute is among them
abbrev pub is_among : Slot → List Slot → Bool
is_among s slots = nat_lt (place_in (is_same_slot s) slots) (length slots)

-- The plain rule is that of the scene, of the same written rule, and its names stand for the same. All numbers fit sixteen bits.
pub record IsSiteOf (scene : Scene) (site : Site) : Type 0 where
  pub texts : scene.env.texts ≡ site.strings.now
  pub rule : site.rule.now ≡ scene.rule
  pub left : site.plain.now.left.0 ≡ scene.plain.left
  pub right : map (λ (x : SymId). x.0) site.plain.now.right ≡ scene.plain.right
  pub role : IsRoleOf scene.plain.role site.role
  pub chains : (c : ℕ) → contains c site.chains.now ≡ contains c (chains scene.spec scene.tables scene.needs)
  pub slots : (x : ℕ) → slots_in site.slots.now x ≡ scene.slots x
  pub few_slots : (x : ℕ) → length (scene.slots x) ≤ 65535
  pub few : length scene.plain.right ≤ 65535
  pub few_named : length (right_of scene.rule) ≤ 65535

-- the chain of a TAIL
abbrev pub tail_chain : Expr → Option ℕ
tail_chain (Read at place.Tail a) = Some (name_of a)
tail_chain _ = None

module _ (scene : Scene) (site : Site) where
  -- the functions of a WITH have their operations
  pub record IsKnownWith (with : With) : Type 0 where
    pub comb : IsKnown scene.env site.ops.now (name_of with.comb)
    pub single : IsKnown scene.env site.ops.now (name_of with.single)
    pub null : IsKnown scene.env site.ops.now (name_of with.null)

  -- The tables have what a CONSTITUENTS asks for: its number fits, its WITH's functions, and who has its attribute.
  pub record IsGathered (k : Cons) : Type 0 where
    pub number : k.number ≤ 65535
    pub with : (w : With) → k.with ≡ Some w → IsKnownWith w
    pub bearers : (x : ℕ) → is_among (Con k.number) (scene.slots x) ≡ has_con scene.spec scene.tables scene.needs k x

  -- they have what a leaf names, but for TAIL
  abbrev pub IsNamed : Expr → Type 0
  IsNamed (Including at pairs) = set_in site.sets.now at ≡ place_in (is_same_set scene.spec scene.tables.sets pairs) scene.tables.includings
  IsNamed (Constituents k) = IsGathered k
  IsNamed (Call' f shape args) = ⊥
  IsNamed _ = Unit {0}

  -- they have what a start's computation names, which has no TAIL
  pub record IsNamedStart (c : Comp) : Type 0 where
    pub number : c.number ≤ 65535
    pub known : (e : Expr) → Contains (expressions_of c) e → AreKnown scene.env site.ops.now e
    pub leaves : (e leaf : Expr) → Contains (expressions_of c) e → Contains (leaves e) leaf → IsNamed leaf

  abbrev pub IsNamedTerm : Term → Type 0
  IsNamedTerm (Copied h c) = IsNamedStart c
  IsNamedTerm _ = Unit {0}

  module _ (tails : Tails) where
    -- they have what TAIL stands for
    abbrev pub IsNamedTail : Expr → Type 0
    IsNamedTail (Read at place.Tail a) = (tail_in tails (name_of a) ≡ Some (tail_term scene (name_of a))) × IsNamedTerm (tail_term scene (name_of a))
    IsNamedTail _ = Unit {0}

    -- they have what a computation names
    pub record IsNamedComp (c : Comp) : Type 0 where
      pub start : IsNamedStart c
      pub each_tail : (e leaf : Expr) → Contains (expressions_of c) e → Contains (leaves e) leaf → IsNamedTail leaf
