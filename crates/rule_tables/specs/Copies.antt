-- Expressions of the flat grammar: copies of the written ones, in which remote accesses are reads of the rule's own attributes.
use Rattle.std.specs.Prelude.{ℕ, ℤ, if◌then◌else◌, List, [], ◌∷◌, ◌++◌, map, flat_map, Option, Some, None, codes}
use Rattle.std.specs.Option.{option_map_or}
use Rattle.std.specs.Str.{bytes_eq}
use Rattle.lido_base.specs.Tree.{contains}
use Rattle.lido_base.specs.declared.operation.Op.{Op}
use Rattle.lido_base.specs.declared.operation.Op.TheVariants as op
use Rattle.lido_base.specs.declared.value.Value.TheVariants as constant
use Rattle.lido_syntax.specs.declared.spec.Spec.{Spec}
use Rattle.lido_syntax.specs.declared.spec.Name.{Name}
use Rattle.lido_syntax.specs.declared.spec.Pair.{Pair}
use Rattle.lido_syntax.specs.declared.spec.Cons.{Cons}
use Rattle.lido_syntax.specs.declared.spec.Comp.{Comp}
use Rattle.lido_syntax.specs.declared.spec.RuleItem.{RuleItem}
use Rattle.lido_syntax.specs.declared.spec.Place.{Place}
use Rattle.lido_syntax.specs.declared.spec.Place.TheVariants as place
use Rattle.lido_syntax.specs.declared.spec.Expr.{Expr, Int, Str, Bool as Truth, Terminal, Read, Including, Constituents, Call', Row_of-Expr, end_of-Expr, more_of-Expr}
use Rattle.lido_syntax.specs.Production.{name_of, occurrence}
use Rattle.lido_syntax.specs.declared.spec.Severity.{Severity}
use Rattle.lido_syntax.specs.declared.spec.Target.{Target}
use Rattle.lido_syntax.specs.declared.spec.Target.TheVariants as target
use Rattle.lido_base.specs.Environment.{Environment}
use Rattle.lido_syntax.specs.Computation.{Message, Holder, by_rule}
use Rattle.lido_syntax.specs.Coordinates.{coordinate_named}
use Rattle.lido_syntax.specs.Messages.{word_of}
use Rattle.lido_syntax.specs.Parts.{leaves_of}
use Rattle.lido_syntax.specs.Functions.{text_of, operation_of}
use Rattle.flat_grammar.specs.declared.flat.Occ.{Occ}
use Rattle.flat_grammar.specs.declared.flat.FlatExpr.{FlatExpr}
use Rattle.flat_grammar.specs.declared.flat.FlatExpr.TheVariants as flat
use Rattle.lido_symbols.specs.Uses.{is_same_set}
use Rattle.rule_tables.specs.PlainRules.{PlainRule, symbol_at}
use Rattle.lido_symbols.specs.Numbers.{place_in}
use Rattle.rule_tables.specs.Forced.{Force, force_for}
use Rattle.rule_tables.specs.Needs.{Tables, Needs}
use Rattle.rule_tables.specs.Slots.{Slot, Written, Inc, Front, is_same_slot, chains}
use Rattle.rule_tables.specs.Shares.{Term, Copied, Void, Comb, Single, Null, Empty, below_term, tail_term}
use Rattle.rule_tables.specs.Shares as share

-- the empty text
abbrev pub empty_text : FlatExpr
empty_text = flat.Value (constant.Text (record { room = 0; node = 0; len = 0 }))

-- no value
abbrev pub nothing : FlatExpr
nothing = flat.Value constant.Void

module _ (env : Environment) where
  -- the call of a name, in the computation of that number
  abbrev pub operation : ℕ → Option Op → List FlatExpr → FlatExpr
  operation comp None args = nothing
  operation comp (Some op) args = flat.Apply comp op args

  abbrev pub call : ℕ → ℕ → List FlatExpr → FlatExpr
  call comp id args =
      if bytes_eq (text_of env id) (codes "IF") then flat.If args
      else if bytes_eq (text_of env id) (codes "ORDER") then flat.Order args
      else operation comp (operation_of env (text_of env id)) args

  -- an expression with other leaves
  module _ (comp : ℕ) (terminal : Name → Option ℤ → FlatExpr) (read : Place → ℕ → FlatExpr) (including : List Pair → FlatExpr) (constituents : Cons → FlatExpr) where
    abbrev mutual
      pub copy : Expr → FlatExpr
      copy (Int at z) = flat.Value (constant.Int z)
      copy (Str at s) = flat.Value (constant.Str s)
      copy (Truth at b) = flat.Value (constant.Bool b)
      copy (Terminal x i) = terminal x i
      copy (Read at p a) = read p (name_of a)
      copy (Including at pairs) = including pairs
      copy (Constituents k) = constituents k
      copy (Call' f shape args) = call comp (name_of f) (copies args)

      pub copies : {m : _} → Row_of-Expr m → List FlatExpr
      copies end_of-Expr = []
      copies (more_of-Expr e es) = copy e ∷ copies es

-- The texts of messages besides their own: the id of each is its place among the texts.
abbrev pub label : Severity → List ℕ
label severity = word_of severity ++ codes ": "

abbrev pub line_feed : List ℕ
line_feed = 10 ∷ []

abbrev pub id_of : Environment → List ℕ → ℕ
id_of env text = place_in (bytes_eq text) env.texts

abbrev pub constant_text : Environment → List ℕ → FlatExpr
constant_text env text = flat.Value (constant.Str (record { 0 = id_of env text }))

-- `PTGAsIs` and `PTGSeq`, asked for by the computation of that number
abbrev pub shown : ℕ → FlatExpr → FlatExpr
shown comp e = flat.Apply comp op.AsIs (e ∷ [])

abbrev pub joined : ℕ → FlatExpr → FlatExpr → FlatExpr
joined comp a b = flat.Apply comp op.Seq (a ∷ b ∷ [])

module _ (spec : Spec) (T : Tables spec) (needs : Needs spec T) (slots : ℕ → List Slot) (env : Environment) (r : RuleItem) (p : PlainRule) (fs : List Force) where
  -- the number of an attribute at an occurrence of the rule
  abbrev pub slot_number : Option ℕ → Slot → ℕ
  slot_number None s = 0
  slot_number (Some x) s = place_in (is_same_slot s) (slots x)

  abbrev pub occ : ℕ → Slot → Occ
  occ k s = record { occ = k; attr = record { 0 = slot_number (symbol_at p k) s } }

  abbrev pub get : ℕ → Slot → FlatExpr
  get k s = flat.Read (occ k s)

  -- an attribute, or what a chain has in front
  abbrev pub seen : ℕ → Slot
  seen a = if contains a (chains spec T needs) then Front a else Written a

  -- in a computation of that holder whose context is that occurrence, where `tail` stands for TAIL
  module _ (tail : ℕ → FlatExpr) (holder : Holder) (context : ℕ) where
    abbrev pub bare : Name → Option ℤ → FlatExpr
    bare x i = elim (coordinate_named env holder r x i) [
      | Some part ↦ flat.Coord part
      | None ↦ option_map_or (λ k. flat.Terminal k) (occurrence r x i) nothing
    ]

    abbrev pub read : Place → ℕ → FlatExpr
    read (place.Named x i) a = option_map_or (λ k. get k (seen a)) (occurrence r x i) nothing
    read place.Tail c = tail c
    read _ a = get context (seen a)

    abbrev pub set_number : List Pair → ℕ
    set_number pairs = place_in (is_same_set spec T.sets pairs) T.includings

    abbrev pub including : List Pair → FlatExpr
    including pairs = get context (Inc (set_number pairs))

    -- no written computation stands in it
    abbrev pub made : Term → FlatExpr
    made (share.Read k s) = get k s
    made (Copied h c) = nothing
    made (Void ds) = nothing
    made (Comb n f a b) = call env n (name_of f) (made a ∷ made b ∷ [])
    made (Single n f a) = call env n (name_of f) (made a ∷ [])
    made (Null n f) = call env n (name_of f) []
    made Empty = empty_text

    abbrev pub constituents : Cons → FlatExpr
    constituents k = made (below_term spec T needs p fs k)

    abbrev pub copy_of : ℕ → Expr → FlatExpr
    copy_of number e = copy env number bare read including constituents e

  -- TAIL is what the walk over the children leaves: a start's expression has no TAIL
  abbrev pub entered : Term → FlatExpr
  entered (Copied h c) = copy_of (λ chain. nothing) h 0 c.number c.value
  entered e = made (λ chain. nothing) by_rule 0 e

  abbrev pub tail_of : ℕ → FlatExpr
  tail_of c = entered (tail_term spec T needs p fs c)

  -- what a computation of that holder gives in its context
  abbrev pub computed : Holder → ℕ → Comp → FlatExpr
  computed holder context c = copy_of tail_of holder context c.number c.value

  -- what an extra attribute is given
  abbrev pub given : Term → FlatExpr
  given (Copied h c) = computed h 0 c
  given e = made (λ chain. nothing) by_rule 0 e

  -- What a plain computation gives: its severity, its text and a line feed, or where it has a condition that doesn't hold the empty text.
  abbrev pub message_text : Comp → Severity → FlatExpr
  message_text c severity = joined c.number (shown c.number (constant_text env (label severity)))
      (joined c.number (shown c.number (computed by_rule 0 c)) (shown c.number (constant_text env line_feed)))

  abbrev pub message_if : Comp → Severity → Option Expr → FlatExpr
  message_if c severity None = message_text c severity
  message_if c severity (Some e) = flat.If (copy_of tail_of by_rule 0 c.number e ∷ message_text c severity ∷ empty_text ∷ [])

  abbrev pub message_by : Comp → Target → FlatExpr
  message_by c (target.Message severity condition) = message_if c severity condition
  message_by c _ = empty_text

  -- what the message of that number is in the rule: the empty text where it has fewer
  abbrev pub message : ℕ → FlatExpr
  message j = elim (force_for fs 0 (Message j)) [ Some f ↦ message_by f.comp f.comp.target | None ↦ empty_text ]

  -- what these depend on
  module _ (tail : ℕ → List Occ) (context : ℕ) where
    abbrev pub needed : Term → List Occ
    needed (share.Read k s) = occ k s ∷ []
    needed (Copied h c) = []
    needed (Void ds) = map (λ (d : ℕ × Slot). occ d.0 d.1) ds
    needed (Comb n f a b) = needed a ++ needed b
    needed (Single n f a) = needed a
    needed (Null n f) = []
    needed Empty = []

    abbrev pub needed_read : Place → ℕ → List Occ
    needed_read (place.Named x i) a = option_map_or (λ k. occ k (seen a) ∷ []) (occurrence r x i) []
    needed_read place.Tail c = tail c
    needed_read _ a = occ context (seen a) ∷ []

    abbrev pub needed_by : Expr → List Occ
    needed_by (Read at q a) = needed_read q (name_of a)
    needed_by (Including at pairs) = occ context (Inc (set_number (λ chain. nothing) by_rule context pairs)) ∷ []
    needed_by (Constituents k) = needed (below_term spec T needs p fs k)
    needed_by _ = []

    abbrev pub dependencies_in : Comp → List Occ
    dependencies_in c = flat_map needed_by (leaves_of c)

  abbrev pub entered_needs : Term → List Occ
  entered_needs (Copied h c) = dependencies_in (λ chain. []) 0 c
  entered_needs e = needed (λ chain. []) 0 e

  -- a computation depends on all that its expressions and its dependencies read, and on those of a start that is copied into it
  abbrev pub computed_needs : ℕ → Comp → List Occ
  computed_needs context c = dependencies_in (λ chain. entered_needs (tail_term spec T needs p fs chain)) context c

  abbrev pub given_needs : Term → List Occ
  given_needs (Copied h c) = computed_needs 0 c
  given_needs e = needed (λ chain. []) 0 e

  abbrev pub message_needs : ℕ → List Occ
  message_needs j = elim (force_for fs 0 (Message j)) [ Some f ↦ computed_needs 0 f.comp | None ↦ [] ]
