-- What an option holds, and what a list has at a place.
use Rattle.std.specs.Prelude.{false, is_some}
use Rattle.std.proofs.Common.{◌≡◌, ◌∙◌, ℕ, ◌<◌, List, Option, Some, None, length, slice_get, get_or, refl, ap, sym}
use Rattle.std.proofs.lemmas.Option.{slice_get-get_or}

pub one_value : {X : Type 0} (o : Option X) (x y : X) → o ≡ Some x → o ≡ Some y → x ≡ y
one_value o x y e f = cc

pub is_none_some : {X : Type 0} (o : Option X) → is_some o ≡ false → o ≡ None
is_none_some None e = refl
is_none_some (Some x) e = cc

pub item_at : {X : Type 0} (xs ys : List X) (i : ℕ) (x : X) → i < length xs → ys ≡ xs → x ≡ get_or ys i x → slice_get xs i ≡ Some x
item_at xs ys i x less same is = slice_get-get_or xs i x less ∙ ap Some (sym (is ∙ ap (λ zs. get_or zs i x) same))
