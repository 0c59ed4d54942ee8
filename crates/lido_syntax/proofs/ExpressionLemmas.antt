-- A call is seen by the list of its arguments: its parts, leaves and reads, and its value.
use Rattle.std.specs.Prelude.{◌≡◌, ℕ, Bool, List, [], ◌∷◌, ◌++◌, map, flat_map, filter, refl, Contains}
use Rattle.std.proofs.Common.{ap, subst, ◌∙◌, arith}
use Rattle.std.proofs.lemmas.Grind.{flat_map-append}
use Rattle.std.proofs.lemmas.List.Elements.{Contains-append_left, Contains-append_right, filter-append}
use mathlib.Core.Former.{Count}
use Rattle.lido_base.specs.Plain.{Plain, Bad}
use Rattle.lido_base.specs.Tree.{Tree}
use Rattle.lido_syntax.specs.declared.spec.Spec.{Spec}
use Rattle.lido_syntax.specs.declared.spec.Name.{Name}
use Rattle.lido_syntax.specs.declared.spec.RuleItem.{RuleItem}
use Rattle.lido_syntax.specs.declared.spec.Place.{Place}
use Rattle.lido_syntax.specs.declared.spec.Place.TheVariants as place
use Rattle.lido_syntax.specs.declared.spec.Expr.{Expr}
use Rattle.lido_syntax.specs.declared.spec.Expr as whole
use Rattle.lido_syntax.specs.declared.spec.Expr.TheVariants as expr
use Rattle.lido_syntax.specs.declared.spec.Expr.TheBlock.{hidden-the_row-Expr-0}
use Rattle.lido_syntax.specs.Production.{name_of}
use Rattle.lido_syntax.specs.Parts.{parts, parts_of_all, is_leaf, leaves}
use Rattle.lido_syntax.specs.Attributes.{Use, uses_of_part, reads}
use Rattle.lido_syntax.specs.Computation.{Holder}
use Rattle.lido_syntax.specs.Assignment.{Assignment}
use Rattle.lido_base.specs.Environment.{Environment}
use Rattle.lido_syntax.specs.Functions.{called}
use Rattle.lido_syntax.specs.Sets.{Sets}
use Rattle.lido_syntax.specs.Value.{value, values, read}

parts-row : (m : Count) (k : whole.Row_of-Expr m) → parts_of_all k ≡ flat_map parts (whole.items-the_row-Expr m k)
parts-row m whole.end_of-Expr = refl
parts-row m (whole.more_of-Expr e es) = ap (λ more. parts e ++ more) (parts-row _ es)

pub parts_of_args : (args : List Expr) → parts_of_all (hidden-the_row-Expr-0 args) ≡ flat_map parts args
parts_of_args args = parts-row _ (hidden-the_row-Expr-0 args) ∙ ap (flat_map parts) (whole.items_hidden-the_row-Expr-0 args)

pub parts-Call : (f : Name) (args : List Expr) → parts (expr.Call f args) ≡ expr.Call f args ∷ flat_map parts args
parts-Call f args = ap (λ more. expr.Call f args ∷ more) (parts_of_args args)

filter-flat_map : {X A : Type 0} (p : A → Bool) (f : X → List A) (xs : List X) → filter p (flat_map f xs) ≡ flat_map (λ x. filter p (f x)) xs
filter-flat_map p f [] = refl
filter-flat_map p f (x ∷ xs) = filter-append p (f x) (flat_map f xs) ∙ ap (λ more. filter p (f x) ++ more) (filter-flat_map p f xs)

flat_map-flat_map : {X A B : Type 0} (g : A → List B) (f : X → List A) (xs : List X) → flat_map g (flat_map f xs) ≡ flat_map (λ x. flat_map g (f x)) xs
flat_map-flat_map g f [] = refl
flat_map-flat_map g f (x ∷ xs) = flat_map-append g (f x) (flat_map f xs) ∙ ap (λ more. flat_map g (f x) ++ more) (flat_map-flat_map g f xs)

pub leaves-Call : (f : Name) (args : List Expr) → leaves (expr.Call f args) ≡ flat_map leaves args
leaves-Call f args = ap (filter is_leaf) (parts_of_args args) ∙ filter-flat_map is_leaf parts args

pub reads-Call : (f : Name) (args : List Expr) → reads (expr.Call f args) ≡ flat_map reads args
reads-Call f args = ap (flat_map uses_of_part) (parts_of_args args) ∙ flat_map-flat_map uses_of_part parts args

module _ (spec : Spec) (sets : Sets spec) (env : Environment) (t : Tree Plain) (A : Assignment) (h : Holder) (r : RuleItem) (number n : ℕ) (tail : ℕ → Plain) where
  abbrev of : Expr → Plain
  of e = value spec sets env t A h r number n tail e

  values-row : (m : Count) (k : whole.Row_of-Expr m) → values spec sets env t A h r number n tail k ≡ map of (whole.items-the_row-Expr m k)
  values-row m whole.end_of-Expr = refl
  values-row m (whole.more_of-Expr e es) = ap (λ vs. of e ∷ vs) (values-row _ es)

  pub value-Call : (f : Name) (args : List Expr) → value spec sets env t A h r number n tail (expr.Call f args)
      ≡ called env (name_of f) (λ kind. Bad (record { node = n; comp = number; kind = kind })) (map (value spec sets env t A h r number n tail) args)
  value-Call f args = ap (called env (name_of f) (λ kind. Bad (record { node = n; comp = number; kind = kind }))) (values-row _ (hidden-the_row-Expr-0 args) ∙ ap (map of) (whole.items_hidden-the_row-Expr-0 args))

-- the value asks TAIL of those chains alone whose TAIL the expression reads
module _ (spec : Spec) (sets : Sets spec) (env : Environment) (t : Tree Plain) (A : Assignment) (h : Holder) (r : RuleItem) (number n : ℕ) (f g : ℕ → Plain) where
  abbrev AgreesOn : List Use → Type 0
  AgreesOn us = (x : Name) → Contains us (place.Tail, x) → f (name_of x) ≡ g (name_of x)

  at_place : (p : Place) (a : Name) → AgreesOn ((p, a) ∷ []) → read spec sets env t A h r number n f p (name_of a) ≡ read spec sets env t A h r number n g p (name_of a)
  at_place place.Tail a agrees = agrees a (0, (omega arith), refl)
  at_place (place.Named x i) a agrees = refl
  at_place place.Synt a agrees = refl
  at_place place.Inh a agrees = refl
  at_place place.This a agrees = refl

  mutual
    pub same_value : (e : Expr) → AgreesOn (reads e) → value spec sets env t A h r number n f e ≡ value spec sets env t A h r number n g e
    same_value (whole.Int at z) agrees = refl
    same_value (whole.Str at s) agrees = refl
    same_value (whole.Bool at b) agrees = refl
    same_value (whole.Terminal x i) agrees = refl
    same_value (whole.Read at p a) agrees = at_place p a agrees
    same_value (whole.Including at pairs) agrees = refl
    same_value (whole.Constituents k) agrees = refl
    same_value (whole.Call' function shape args) agrees = ap (called env (name_of function) (λ kind. Bad (record { node = n; comp = number; kind = kind }))) (same_values args agrees)

    same_values : {m : _} (k : whole.Row_of-Expr m) → AgreesOn (flat_map uses_of_part (parts_of_all k)) → values spec sets env t A h r number n f k ≡ values spec sets env t A h r number n g k
    same_values whole.end_of-Expr agrees = refl
    same_values (whole.more_of-Expr e es) agrees =
        let both : AgreesOn (reads e ++ flat_map uses_of_part (parts_of_all es)) = subst AgreesOn (flat_map-append uses_of_part (parts e) (parts_of_all es)) agrees in
        let first = same_value e (λ x m. both x (Contains-append_left (reads e) (flat_map uses_of_part (parts_of_all es)) (place.Tail, x) m)) in
        let more = same_values es (λ x m. both x (Contains-append_right (reads e) (flat_map uses_of_part (parts_of_all es)) (place.Tail, x) m)) in
        λ i. first i ∷ more i
