-- Options that are made of others.
use Rattle.std.specs.Prelude.{option_map, is_some, if◌then◌else◌}
use Rattle.std.proofs.Common.{◌≡◌, Bool, true, false, Option, Some, None, refl}
use Rattle.std.proofs.lemmas.Option.{none-some, same_Some}

pub mapped-twice : {X Y Z : Type 0} (f : Y → Z) (g : X → Y) (o : Option X) → option_map f (option_map g o) ≡ option_map (λ x. f (g x)) o
mapped-twice f g None = refl
mapped-twice f g (Some x) = refl

pub mapped-some : {X Y : Type 0} (f : X → Y) (o : Option X) → is_some o ≡ is_some (option_map f o)
mapped-some f None = refl
mapped-some f (Some x) = refl

-- what a test lets through
pub let-through : {X : Type 0} (b : Bool) (x y : X) → (if b then Some x else None) ≡ Some y → (b ≡ true) × (x ≡ y)
let-through true x y e = (refl, same_Some _ _ e)
let-through false x y e = absurd (none-some _ e)
