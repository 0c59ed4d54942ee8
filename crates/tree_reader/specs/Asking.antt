-- What a flat grammar asks of written trees: the names of its shapes, and the children that each may have. A shape is known by its
-- place among the shapes.
use Rattle.std.specs.Prelude.{◌≡◌, ◌<◌, ◌==◌, ◌||◌, ℕ, suc, Bool, true, false, nat_le, if◌then◌else◌, List, [], ◌∷◌, length, Option, Some, None, slice_get, slice_index_or, option_and_then, option_map, bytes_eq}
use Rattle.std.specs.List.{list_any}
use Rattle.lido_base.specs.declared.ids.SymId.{SymId}
use Rattle.lido_base.specs.declared.value.ValueType.{ValueType}
use Rattle.lido_base.specs.declared.value.ValueType.TheVariants as type
use Rattle.flat_grammar.specs.declared.flat.FlatSymbol.{FlatSymbol}
use Rattle.flat_grammar.specs.declared.flat.FlatRule.{FlatRule}
use Rattle.flat_grammar.specs.declared.flat.Shape.{Shape}
use Rattle.flat_grammar.specs.WellFormed.{is_same_symbol}
use Rattle.tree_reader.specs.WrittenTrees.{Asked}

-- the types are the same
abbrev pub is_same_type : ValueType → ValueType → Bool
is_same_type type.Int type.Int = true
is_same_type type.Str type.Str = true
is_same_type type.Bool type.Bool = true
is_same_type type.Text type.Text = true
is_same_type type.Void type.Void = true
is_same_type _ _ = false

-- what a number that names no shape stands for
abbrev pub no_shape : Shape
no_shape = record { rule = record { 0 = 0 }; list = false; right = [] }

-- the shape of a number
abbrev pub shape_at : List Shape → ℕ → Shape
shape_at shapes k = slice_index_or shapes k no_shape

-- the place of the first that passes the test, counted from k
abbrev pub first_from : {X : Type 0} → ℕ → (X → Bool) → List X → Option ℕ
first_from k p [] = None
first_from k p (x ∷ xs) = if p x then Some k else first_from (suc k) p xs

-- the symbol that child k of a node of the shape has, if it is a plain one
abbrev pub child_symbol : Shape → ℕ → Option SymId
child_symbol shape k = slice_get shape.right k

-- child k of a node of the shape may be of the symbol: the one that stands there, or any element of a list
abbrev pub may_be : Shape → ℕ → SymId → Bool
may_be shape k s = if shape.list then list_any (is_same_symbol s) shape.right else elim (child_symbol shape k) [ None ↦ false | Some q ↦ is_same_symbol s q ]

module _ (symbols : List FlatSymbol) (rules : List FlatRule) (shapes : List Shape) (root : SymId) where
  -- the symbol on the left side of a shape's rule
  abbrev pub left_of : Shape → Option SymId
  left_of shape = option_map (λ (r : FlatRule). r.left) (slice_get rules shape.rule.0)

  -- the type of a terminal
  abbrev pub type_of : SymId → Option ValueType
  type_of s = option_and_then (λ (x : FlatSymbol). x.terminal) (slice_get symbols s.0)

  -- child k of a node may be a terminal of the type: in a list none is
  abbrev pub may_be_value : Shape → ℕ → ValueType → Bool
  may_be_value shape k ty = if shape.list then false else elim (option_and_then type_of (child_symbol shape k)) [ None ↦ false | Some other ↦ is_same_type ty other ]

  -- child k of a node may be a node of the other shape
  abbrev pub may_be_node : Shape → ℕ → Shape → Bool
  may_be_node shape k other = elim (left_of other) [ None ↦ false | Some s ↦ may_be shape k s ]

  -- node 0 may be of the shape
  abbrev pub may_be_root : Shape → Bool
  may_be_root shape = elim (left_of shape) [ None ↦ false | Some s ↦ is_same_symbol s root ]

  module _ (texts : List (List ℕ)) where
    -- the name of a shape's rule
    abbrev pub name_of : Shape → Option (List ℕ)
    name_of shape = option_and_then (λ (r : FlatRule). slice_get texts r.name.0) (slice_get rules shape.rule.0)

    -- the shape's rule has this name
    abbrev pub has_name : List ℕ → Shape → Bool
    has_name name shape = elim (name_of shape) [ None ↦ false | Some text ↦ bytes_eq text name ]

    -- the grammar, as far as reading a tree asks
    abbrev pub asked : Asked ℕ
    asked = record {
      named = λ name. first_from 0 (has_name name) shapes;
      rule = λ x. (shape_at shapes x).rule.0;
      is_root = λ x. may_be_root (shape_at shapes x);
      takes = λ x k y. may_be_node (shape_at shapes x) k (shape_at shapes y);
      takes_value = λ x k ty. may_be_value (shape_at shapes x) k ty;
      is_enough = λ x k. (shape_at shapes x).list || nat_le (length (shape_at shapes x).right) k;
    }

-- the name of the shape's rule has this id
abbrev pub is_called : List FlatRule → ℕ → Shape → Bool
is_called rules id shape = elim (slice_get rules shape.rule.0) [ None ↦ false | Some r ↦ r.name.0 == id ]

-- the first shape that each of so many ids calls
pub record IsNameTable (rules : List FlatRule) (shapes : List Shape) (count : ℕ) (names : List (Option ℕ)) : Type 0 where
  pub each : length names ≡ count
  pub first : (id : ℕ) → id < count → slice_index_or names id None ≡ first_from 0 (is_called rules id) shapes

-- the place that is there, or else this one if the test holds
abbrev pub or_last : Option ℕ → Bool → ℕ → Option ℕ
or_last None b k = if b then Some k else None
or_last (Some j) b k = Some j
