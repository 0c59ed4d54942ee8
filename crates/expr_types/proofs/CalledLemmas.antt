-- The functions that a call and a computation call, expression by expression.
use Rattle.std.specs.Prelude.{◌≡◌, ◌≤◌, ℕ, List, [], ◌∷◌, ◌++◌, flat_map, take, length, refl}
use Rattle.std.proofs.Common.{ap, sym, ◌∙◌, append_assoc}
use Rattle.std.proofs.lemmas.Grind.{flat_map-append}
use Rattle.std.proofs.lemmas.List.{take_all}
use Rattle.lido_syntax.specs.declared.spec.Name.{Name}
use Rattle.lido_syntax.specs.declared.spec.Comp.{Comp}
use Rattle.lido_syntax.specs.declared.spec.Expr.{Expr}
use Rattle.lido_syntax.specs.declared.spec.Expr.TheVariants as expr
use Rattle.lido_syntax.specs.Parts.{parts, expressions_of, parts_of}
use Rattle.lido_syntax.proofs.ExpressionLemmas.{parts-Call}
use Rattle.lido_symbols.specs.Uses.{functions_of_part}
use Rattle.expr_types.specs.Called.{called_in}

flat-flat : {X A B : Type 0} (g : A → List B) (f : X → List A) (xs : List X) → flat_map g (flat_map f xs) ≡ flat_map (λ x. flat_map g (f x)) xs
flat-flat g f [] = refl
flat-flat g f (x ∷ xs) = flat_map-append g (f x) (flat_map f xs) ∙ ap (λ more. flat_map g (f x) ++ more) (flat-flat g f xs)

pub called-Call : (f : Name) (args : List Expr) → called_in (expr.Call f args) ≡ f ∷ flat_map called_in args
called-Call f args = ap (flat_map functions_of_part) (parts-Call f args) ∙ ap (λ more. f ∷ more) (flat-flat functions_of_part parts args)

-- what is found in a call: its name, and in its arguments
pub call-found : (value : Expr) (f : Name) (args slice : List Expr) (i : ℕ) (old named found : List Name) → value ≡ expr.Call f args → slice ≡ args → length slice ≤ i
    → named ≡ old ++ f ∷ [] → found ≡ named ++ flat_map called_in (take i slice) → found ≡ old ++ called_in value
call-found value f args slice i old named found is same past e g =
    g ∙ ap (λ es. named ++ flat_map called_in es) (take_all i slice past ∙ same)
    ∙ ap (λ l. l ++ flat_map called_in args) e ∙ append_assoc old (f ∷ []) (flat_map called_in args)
    ∙ ap (λ l. old ++ l) (sym (ap called_in is ∙ called-Call f args))

-- those that a computation calls are those of its parts
pub called-parts : (c : Comp) → flat_map called_in (expressions_of c) ≡ flat_map functions_of_part (parts_of c)
called-parts c = sym (flat-flat functions_of_part parts (expressions_of c))
