-- Plain rules: each written rule, and for each list the rules of its cell. Symbols are numbered, cells behind the others.
use Rattle.std.specs.Prelude.{◌≡◌, ℕ, ◌+◌, Bool, false, nat_eq, if◌then◌else◌, List, [], ◌∷◌, ◌++◌, map, flat_map, filter, length, Option, slice_get}
use Rattle.std.specs.List.{list_any}
use Rattle.lido_base.specs.Tree.{contains}
use Rattle.lido_symbols.specs.Numbers.{place_in, enumerated, different}
use Rattle.lido_base.specs.declared.ids.SymId.{SymId}
use Rattle.flat_grammar.specs.declared.flat.Shape.{Shape}
use Rattle.lido_syntax.specs.declared.spec.Spec.{Spec}
use Rattle.lido_syntax.specs.declared.spec.RuleItem.{RuleItem}
use Rattle.lido_syntax.specs.Production.{left_of, right_of}

-- what a plain rule is: a written rule that is no list; that of a list, which leads to the cell; in the cell an element, by its
-- symbol, and the next cell; or the end
pub data Role : Type 0 where
  Whole : Role
  Listing : Role
  Link : ℕ → Role
  End : Role

-- a plain rule: the number of its written rule, what it is there, and its symbols, by number
pub record PlainRule : Type 0 where
  pub rule : ℕ
  pub role : Role
  pub left : ℕ
  pub right : List ℕ

-- the symbol at an occurrence: 0 is the left side
abbrev pub symbol_at : PlainRule → ℕ → Option ℕ
symbol_at p k = slice_get (p.left ∷ p.right) k

module _ (spec : Spec) (symbols : List ℕ) where
  -- the written rules that are lists, by number
  abbrev pub lists : List ℕ
  lists = map (λ (x : ℕ × RuleItem). x.0) (filter (λ (x : ℕ × RuleItem). x.1.list) (enumerated 0 spec.rules))

  -- the number of a symbol, and of the cell of a list's rule
  abbrev pub number : ℕ → ℕ
  number s = place_in (nat_eq s) symbols

  abbrev pub cell : ℕ → ℕ
  cell i = length symbols + place_in (nat_eq i) lists

  abbrev pub written_rule : ℕ × RuleItem → PlainRule
  written_rule x = record { rule = x.0; role = if x.1.list then Listing else Whole; left = number (left_of x.1); right = if x.1.list then cell x.0 ∷ [] else map number (right_of x.1) }

  abbrev pub cell_rules : ℕ × RuleItem → List PlainRule
  cell_rules x = if x.1.list
      then map (λ s. record { rule = x.0; role = Link s; left = cell x.0; right = number s ∷ cell x.0 ∷ [] }) (different (right_of x.1)) ++ record { rule = x.0; role = End; left = cell x.0; right = [] } ∷ []
      else []

  -- the written rules in order, then the rules of the cells, list by list
  abbrev pub plain_rules : List PlainRule
  plain_rules = map written_rule (enumerated 0 spec.rules) ++ flat_map cell_rules (enumerated 0 spec.rules)

  -- the shape of the written rule of that number
  pub record IsShapeOf (x : ℕ × RuleItem) (shape : Shape) : Type 0 where
    pub rule : shape.rule.0 ≡ x.0
    pub is_list : shape.list ≡ x.1.list
    pub right : map (λ (s : SymId). s.0) shape.right ≡ map number (right_of x.1)

-- a plain rule of x has y on its right side
abbrev pub is_child : List PlainRule → ℕ → ℕ → Bool
is_child rules x y = list_any (λ p. if nat_eq p.left x then contains y p.right else false) rules
