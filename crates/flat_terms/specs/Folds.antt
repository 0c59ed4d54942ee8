-- What a CONSTITUENTS joins at the left side of a plain rule.
use Rattle.std.specs.Prelude.{ℕ, Bool, if◌then◌else◌, List, [], ◌∷◌, take}
use Rattle.lido_syntax.specs.declared.spec.With.{With}
use Rattle.lido_syntax.specs.Production.{name_of}
use Rattle.flat_grammar.specs.declared.flat.FlatExpr.{FlatExpr}
use Rattle.rule_tables.specs.Slots.{Con}
use Rattle.rule_tables.specs.Copies.{call}
use Rattle.flat_terms.specs.declared.site.Role.{Role}
use Rattle.flat_terms.specs.declared.site.Role.TheVariants as role
use Rattle.flat_terms.specs.Scene.{Scene, get}

module _ (scene : Scene) (number : ℕ) where
  -- a child's attribute
  abbrev pub con_at : ℕ → FlatExpr
  con_at j = get scene j (Con number)

  -- what becomes of a source's attribute, two values joined, and the value where there is no source
  abbrev pub single_at : With → FlatExpr → FlatExpr
  single_at with a = call scene.env number (name_of with.single) (a ∷ [])

  abbrev pub comb_at : With → FlatExpr → FlatExpr → FlatExpr
  comb_at with a b = call scene.env number (name_of with.comb) (a ∷ b ∷ [])

  abbrev pub null_at : With → FlatExpr
  null_at with = call scene.env number (name_of with.null) []

  -- the values of these children joined from the right, with that value behind them
  abbrev pub onto_at : With → FlatExpr → List ℕ → FlatExpr
  onto_at with last [] = last
  onto_at with last (j ∷ js) = comb_at with (con_at j) (onto_at with last js)

  abbrev pub folded_at : With → List ℕ → FlatExpr
  folded_at with js = onto_at with (null_at with) js

  -- what is joined in a plain rule of that role
  abbrev pub joined_at : Role → With → List ℕ → FlatExpr
  joined_at role.Whole with js = folded_at with js
  joined_at role.Listing with [] = null_at with
  joined_at role.Listing with (j ∷ js) = con_at j
  joined_at role.Link with [] = null_at with
  joined_at role.Link with (j ∷ []) = con_at j
  joined_at role.Link with (i ∷ j ∷ js) = comb_at with (con_at i) (con_at j)
  joined_at role.End with js = null_at with

-- the children that are joined there; `all` tells that there is no WITH
abbrev pub places_by : Role → Bool → List ℕ → List ℕ
places_by role.Whole all js = js
places_by role.Listing all js = if all then js else take 1 js
places_by role.Link all js = if all then js else take 2 js
places_by role.End all js = if all then js else []
