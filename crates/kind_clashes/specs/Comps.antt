-- Clashes in computations, by the sets of names: of what a target or a leaf names, and of what a target lets stand below it.
use Rattle.std.specs.Prelude.{◌≡◌, ℕ, ◌⊎◌, Bool, not, ◌&&◌, IsTrue}
use Rattle.lido_syntax.specs.declared.spec.Name.{Name}
use Rattle.lido_syntax.specs.declared.spec.Comp.{Comp}
use Rattle.lido_syntax.specs.declared.spec.Pair.{Pair}
use Rattle.lido_syntax.specs.declared.spec.Place.{Place}
use Rattle.lido_syntax.specs.declared.spec.Place.TheVariants as place
use Rattle.lido_syntax.specs.declared.spec.Target.{Target}
use Rattle.lido_syntax.specs.declared.spec.Target.TheVariants as target
use Rattle.lido_syntax.specs.declared.spec.Expr.{Expr, Read, Including, Constituents}
use Rattle.lido_syntax.specs.Production.{name_of}
use Rattle.lido_syntax.specs.Parts.{leaves_of}
use Rattle.kind_clashes.specs.declared.sets.NameSets.{NameSets}
use Rattle.kind_clashes.specs.Least.{Among}
use Rattle.kind_clashes.specs.Names.{has}
use Rattle.kind_clashes.specs.Sets.{is_plain_terminal_in}

module _ (sets : NameSets) where
  abbrev pub is_chain_in : Name → Bool
  is_chain_in a = has sets.chains (name_of a)

  -- an attribute of a terminal, a chain by SYNT or INH, or TAIL of no chain
  abbrev pub IsUseClash : Place → Name → ℕ → Type 0
  IsUseClash (place.Named x i) a at = IsTrue (not (is_chain_in a) && is_plain_terminal_in sets (name_of x)) × (at ≡ x.at)
  IsUseClash place.Synt a at = IsTrue (is_chain_in a) × (at ≡ a.at)
  IsUseClash place.Inh a at = IsTrue (is_chain_in a) × (at ≡ a.at)
  IsUseClash place.This a at = ⊥
  IsUseClash place.Tail a at = IsTrue (not (is_chain_in a)) × (at ≡ a.at)

  -- a terminal in a remote list
  abbrev pub IsTerminalName : Name → ℕ → Type 0
  IsTerminalName x at = IsTrue (is_plain_terminal_in sets (name_of x)) × (at ≡ x.at)

  -- a terminal or a chain in a pair
  abbrev pub IsPairClash : Pair → ℕ → Type 0
  IsPairClash p at = IsTerminalName p.sym at ⊎ (IsTrue (is_chain_in p.attr) × (at ≡ p.attr.at))

  -- of what a leaf names
  abbrev pub IsLeafClash : Expr → ℕ → Type 0
  IsLeafClash (Read first p a) at = IsUseClash p a at
  IsLeafClash (Including word pairs) at = Among IsPairClash pairs at
  IsLeafClash (Constituents k) at = Among IsPairClash k.pairs at ⊎ Among IsTerminalName k.shield at
  IsLeafClash _ at = ⊥

  -- THIS of no chain, in a target
  abbrev pub IsThisClash : ℕ → Place → Name → ℕ → Type 0
  IsThisClash first place.This a at = IsTrue (not (is_chain_in a)) × (at ≡ first)
  IsThisClash first _ a at = ⊥

  -- of the target of a computation that begins there; HEAD of no chain among them
  abbrev pub IsTargetClash : ℕ → Target → ℕ → Type 0
  IsTargetClash first (target.Attr p a) at = IsUseClash p a at ⊎ IsThisClash first p a at
  IsTargetClash first (target.Start a) at = IsTrue (not (is_chain_in a)) × (at ≡ a.at)
  IsTargetClash first _ at = ⊥

-- a leaf that reads TAIL
abbrev pub IsTail : Expr → ℕ → Type 0
IsTail (Read first place.Tail a) at = at ≡ first
IsTail _ at = ⊥

-- a leaf that reads TAIL, or a CONSTITUENTS
abbrev pub IsFromBelow : Expr → ℕ → Type 0
IsFromBelow (Read first place.Tail a) at = at ≡ first
IsFromBelow (Constituents k) at = at ≡ k.at
IsFromBelow _ at = ⊥

-- what this target doesn't let stand in the computation
abbrev pub IsBarredByStart : Target → Expr → ℕ → Type 0
IsBarredByStart (target.Start a) e at = IsTail e at
IsBarredByStart _ e at = ⊥

abbrev pub IsBarredAt : Place → Expr → ℕ → Type 0
IsBarredAt place.Inh e at = IsFromBelow e at
IsBarredAt _ e at = ⊥

abbrev pub IsBarredByInh : Target → Expr → ℕ → Type 0
IsBarredByInh (target.Attr p a) e at = IsBarredAt p e at
IsBarredByInh _ e at = ⊥

-- of a computation, in a rule or in a symbol's body
abbrev pub IsCompClash : NameSets → Comp → ℕ → Type 0
IsCompClash sets c at = IsTargetClash sets c.at c.target at ⊎ (Among (IsLeafClash sets) (leaves_of c) at ⊎ Among (IsBarredByStart c.target) (leaves_of c) at)

-- of one in a symbol's body
abbrev pub IsBodyClash : NameSets → Comp → ℕ → Type 0
IsBodyClash sets c at = IsCompClash sets c at ⊎ Among (IsBarredByInh c.target) (leaves_of c) at
