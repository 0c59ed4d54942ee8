-- The reads and the size of an expression go down its arguments, one call at a time.
use Rattle.std.specs.Prelude.{List, ◌∷◌, ℕ, ◌+◌, ◌<◌, ◌≡◌, ◌↔◌, refl, sum_by, suc, flat_map, ◌++◌, [], Contains}
use Rattle.std.proofs.Common.{ap, sym, ◌∙◌, arith, subst, inl, inr}
use Rattle.std.proofs.lemmas.List.{append-nil, append_assoc}
use Rattle.std.proofs.lemmas.List.Concat.{flat_map-cons}
use Rattle.std.proofs.lemmas.List.Elements.{Contains-append_left, Contains-append_right, Contains-append_cases}
use Rattle.std.proofs.lemmas.Grind.{flat_map-append}
use Rattle.std.proofs.lemmas.List.Sums.{sum_by-cons, sum_by-append, sum_by_push}
use mathlib.Core.Former.{Count}
use Rattle.lido_base.specs.declared.operation.Op.{Op}
use Rattle.flat_grammar.specs.declared.flat.FlatExpr.{FlatExpr}
use Rattle.flat_grammar.specs.declared.flat.FlatExpr.TheVariants as e
use Rattle.flat_grammar.specs.declared.flat.FlatExpr as whole
use Rattle.flat_grammar.specs.declared.flat.FlatExpr.TheBlock.{hidden-the_row-FlatExpr-0}
use Rattle.flat_grammar.specs.declared.flat.Occ.{Occ}
use Rattle.flat_grammar.specs.Rules.{reads}
use Rattle.flat_grammar.specs.Expressions.{own_reads, weight, weight_of_all}

weight-items : (m : Count) (k : whole.Row_of-FlatExpr m) → weight_of_all k ≡ sum_by weight (whole.items-the_row-FlatExpr m k)
weight-items m whole.end_of-FlatExpr = refl
weight-items m (whole.more_of-FlatExpr {n = k} e es) = ap (λ n. weight e + n) (weight-items k es) ∙ sym (sum_by-cons weight e (whole.items-the_row-FlatExpr k es))

weight-row : (args : List FlatExpr) → weight_of_all (hidden-the_row-FlatExpr-0 args) ≡ sum_by weight args
weight-row args = weight-items _ (hidden-the_row-FlatExpr-0 args) ∙ ap (sum_by weight) (whole.items_hidden-the_row-FlatExpr-0 args)

pub weight-Apply : (comp : ℕ) (op : Op) (args : List FlatExpr) → weight (e.Apply comp op args) ≡ suc (sum_by weight args)
weight-Apply comp op args = ap suc (weight-row args)

pub weight-If : (args : List FlatExpr) → weight (e.If args) ≡ suc (sum_by weight args)
weight-If args = ap suc (weight-row args)

pub weight-Order : (args : List FlatExpr) → weight (e.Order args) ≡ suc (sum_by weight args)
weight-Order args = ap suc (weight-row args)

-- the reads of a call, an IF or an ORDER
pub argument-reads : (value : FlatExpr) (args given : List FlatExpr) → reads value ≡ flat_map reads args → own_reads value ≡ [] → given ≡ args → reads value ≡ own_reads value ++ flat_map reads given
argument-reads value args given r own g = r ∙ (ap (flat_map reads) (sym g) ∙ ap (λ l. l ++ flat_map reads given) (sym own))

-- the arguments weigh less
pub weight-step : (xs args : List FlatExpr) (x : FlatExpr) → weight x ≡ suc (sum_by weight args) → sum_by weight (xs ++ args) < sum_by weight (xs ++ x ∷ [])
weight-step xs args x w = let a = sum_by-append weight xs args in let b = sum_by_push weight xs x in omega arith

-- the two lists have the same elements
abbrev pub HaveSame : {X : Type 0} → List X → List X → Type 0
HaveSame {X} xs ys = (x : X) → Contains xs x ↔ Contains ys x

turned : {X : Type 0} (xs ys : List X) (x : X) → Contains (xs ++ ys) x → Contains (ys ++ xs) x
turned xs ys x h = elim (Contains-append_cases xs ys x h) [ inl l ↦ Contains-append_right ys xs x l | inr r ↦ Contains-append_left ys xs x r ]

-- Taking the last expression from the stack: its own reads are listed, and its arguments take its place.
module _ (list : List Occ) (xs args : List FlatExpr) (x : FlatExpr) (parts : reads x ≡ own_reads x ++ flat_map reads args) where
  before : list ++ flat_map reads (xs ++ x ∷ []) ≡ list ++ (flat_map reads xs ++ (own_reads x ++ flat_map reads args))
  before = ap (λ l. list ++ l) (flat_map-append reads xs (x ∷ []) ∙ ap (λ l. flat_map reads xs ++ l) (flat_map-cons reads x [] ∙ append-nil (reads x) ∙ parts))

  after : (list ++ own_reads x) ++ flat_map reads (xs ++ args) ≡ list ++ (own_reads x ++ (flat_map reads xs ++ flat_map reads args))
  after = append_assoc list (own_reads x) (flat_map reads (xs ++ args)) ∙ ap (λ l. list ++ (own_reads x ++ l)) (flat_map-append reads xs args)

  swapped : {X : Type 0} (ps bs cs ds : List X) (o : X) → Contains (ps ++ (bs ++ (cs ++ ds))) o → Contains (ps ++ (cs ++ (bs ++ ds))) o
  swapped ps bs cs ds o h = elim (Contains-append_cases ps (bs ++ (cs ++ ds)) o h) [
    | inl a ↦ Contains-append_left ps (cs ++ (bs ++ ds)) o a
    | inr more ↦ Contains-append_right ps (cs ++ (bs ++ ds)) o (elim (Contains-append_cases bs (cs ++ ds) o more) [
      | inl b ↦ Contains-append_right cs (bs ++ ds) o (Contains-append_left bs ds o b)
      | inr rest ↦ elim (Contains-append_cases cs ds o rest) [ inl c ↦ Contains-append_left cs (bs ++ ds) o c | inr d ↦ Contains-append_right cs (bs ++ ds) o (Contains-append_right bs ds o d) ]
    ])
  ]

  pub reads-step : (whole : List Occ) → HaveSame (list ++ flat_map reads (xs ++ x ∷ [])) whole → HaveSame ((list ++ own_reads x) ++ flat_map reads (xs ++ args)) whole
  reads-step whole same o = let (to, from) = same o in (
    λ h. to (subst (λ l. Contains l o) (sym before) (swapped list (own_reads x) (flat_map reads xs) (flat_map reads args) o (subst (λ l. Contains l o) after h))),
    λ h. subst (λ l. Contains l o) (sym after) (swapped list (flat_map reads xs) (own_reads x) (flat_map reads args) o (subst (λ l. Contains l o) before (from h))),
  )
