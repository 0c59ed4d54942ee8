-- The reads of a chain in a rule.
use Rattle.std.specs.Prelude.{not, ◌&&◌, ◌||◌, nat_eq}
use Rattle.std.specs.List.{list_any}
use Rattle.std.proofs.Common.{◌≡◌, ℕ, Bool, List, [], ◌∷◌, refl, sym, map}
use Rattle.lido_syntax.specs.declared.spec.Spec.{Spec}
use Rattle.lido_syntax.specs.declared.spec.Expr.{Expr, Read}
use Rattle.lido_syntax.specs.declared.spec.Place.{Place}
use Rattle.lido_syntax.specs.declared.spec.Place.TheVariants as place
use Rattle.lido_syntax.specs.Production.{name_of}
use Rattle.rule_tables.specs.Forced.{Force}
use Rattle.rule_tables.specs.Needs.{Tables, has_start, is_read, is_tail}
use Rattle.need_graphs.specs.Reads.{is_tail_place, reads}

pub any-same : {X : Type 0} (f g : X → Bool) (xs : List X) → ((x : X) → f x ≡ g x) → list_any f xs ≡ list_any g xs
any-same f g [] same = refl
any-same f g (x ∷ xs) same = let here = same x in let later = any-same f g xs same in λ i. here i || later i

pub any-map : {X Y : Type 0} (test : Y → Bool) (h : X → Y) (xs : List X) → list_any test (map h xs) ≡ list_any (λ x. test (h x)) xs
any-map test h [] = refl
any-map test h (x ∷ xs) = let later = any-map test h xs in λ i. test (h x) || later i

module _ (spec : Spec) (T : Tables spec) (fs : List Force) (c : ℕ) (starts : Bool) (is : has_start spec T fs c ≡ starts) where
  tail-same : (p : Place) → is_tail_place p ≡ is_tail spec T p
  tail-same place.Tail = refl
  tail-same (place.Named x i) = refl
  tail-same place.Synt = refl
  tail-same place.Inh = refl
  tail-same place.This = refl

  read-same : (e : Expr) → reads c starts e ≡ is_read spec T fs c e
  read-same (Read at p a) = let t = tail-same p in λ i. nat_eq (name_of a) c && not (t i && sym is i)
  read-same _ = refl

  pub reads-same : (es : List Expr) → list_any (reads c starts) es ≡ list_any (is_read spec T fs c) es
  reads-same es = any-same (reads c starts) (is_read spec T fs c) es read-same
