-- Operations of which the arguments have the types of a row give a value of its type, or Bad.
use Rattle.std.specs.Prelude.{◌≡◌, ◌⊎◌, ◌+ℤ◌, ◌-ℤ◌, ◌*ℤ◌, neg_ℤ, int_div, int_rem, ℤ, ℕ, pos, Bool, true, false, if◌then◌else◌, nat_le, int_le, int_lt, negsuc, ◌^◌, ◌-◌, ◌&&◌, List, [], ◌∷◌, ◌++◌, map, length, Option, Some, None, slice_get, Contains, refl}
use Rattle.std.specs.List.{AllZip}
use Rattle.std.specs.Fmt.{signed_decimal}
use Rattle.std.specs.Ordering.{int_eq}
use Rattle.std.proofs.Common.{inl, inr, sym, subst, ◌∙◌}
use Rattle.std.proofs.lemmas.Option.{none-some}
use Rattle.lido_base.specs.declared.operation.Op.{Op}
use Rattle.lido_base.specs.declared.operation.Op.TheVariants as op
use Rattle.lido_base.specs.declared.value.BadKind.{BadKind}
use Rattle.lido_base.specs.declared.value.BadKind.TheVariants.{Overflow, DivideByZero, TextTooLong}
use Rattle.lido_base.specs.declared.value.ValueType.{ValueType}
use Rattle.lido_base.specs.declared.value.ValueType.TheVariants.{Int, Str, Bool as Truth, Text, Void}
use Rattle.lido_base.specs.declared.pattern.Pattern.{Pattern}
use Rattle.lido_base.specs.Plain.{Plain}
use Rattle.lido_base.specs.Plain as plain
use Rattle.lido_base.specs.Operations.{unless_bad, applied, operate, int, divided, text, pattern_bytes}
use Rattle.lido_base.specs.Types.{Signature, of_types, two_alike, every_type, signatures, Takes, plain_type, IsOfType}
use Rattle.lido_base.proofs.Lists.{contains-cons, contains-nil, contains-map}

-- of the types, and not Bad
abbrev pub HaveTypes : List ValueType → List Plain → Type 0
HaveTypes types vs = AllZip (λ ty v. plain_type v ≡ Some ty) types vs

-- ---- the first Bad argument is the result, and of any type

has_type : (ty u : ValueType) (v : Plain) → plain_type v ≡ Some u → IsOfType ty v → plain_type v ≡ Some ty
has_type ty u v known (inl bad) = absurd (none-some u (sym bad ∙ known))
has_type ty u v known (inr is) = is

unless_bad-type : (gives : ValueType) (types : List ValueType) (vs : List Plain) (v : Plain) → AllZip IsOfType types vs → (HaveTypes types vs → IsOfType gives v) → IsOfType gives (unless_bad vs v)
unless_bad-type gives [] [] v are next = next tt
unless_bad-type gives [] (w ∷ vs) v are next = absurd are
unless_bad-type gives (ty ∷ types) [] v are next = absurd are
unless_bad-type gives (ty ∷ types) (plain.Bad o ∷ vs) v are next = inl refl
unless_bad-type gives (ty ∷ types) (plain.Int z ∷ vs) v are next = unless_bad-type gives types vs v are.1 (λ h. next (has_type ty Int (plain.Int z) refl are.0, h))
unless_bad-type gives (ty ∷ types) (plain.Truth b ∷ vs) v are next = unless_bad-type gives types vs v are.1 (λ h. next (has_type ty Truth (plain.Truth b) refl are.0, h))
unless_bad-type gives (ty ∷ types) (plain.Str s ∷ vs) v are next = unless_bad-type gives types vs v are.1 (λ h. next (has_type ty Str (plain.Str s) refl are.0, h))
unless_bad-type gives (ty ∷ types) (plain.Text s ∷ vs) v are next = unless_bad-type gives types vs v are.1 (λ h. next (has_type ty Text (plain.Text s) refl are.0, h))
unless_bad-type gives (ty ∷ types) (plain.Void ∷ vs) v are next = unless_bad-type gives types vs v are.1 (λ h. next (has_type ty Void plain.Void refl are.0, h))

-- ---- values by their types

is_int : (v : Plain) → plain_type v ≡ Some Int → (z : ℤ) × (v ≡ plain.Int z)
is_int (plain.Int z) e = (z, refl)
is_int _ e = cc

is_truth : (v : Plain) → plain_type v ≡ Some Truth → (b : Bool) × (v ≡ plain.Truth b)
is_truth (plain.Truth b) e = (b, refl)
is_truth _ e = cc

is_str : (v : Plain) → plain_type v ≡ Some Str → (bytes : List ℕ) × (v ≡ plain.Str bytes)
is_str (plain.Str bytes) e = (bytes, refl)
is_str _ e = cc

is_text : (v : Plain) → plain_type v ≡ Some Text → (bytes : List ℕ) × (v ≡ plain.Text bytes)
is_text (plain.Text bytes) e = (bytes, refl)
is_text _ e = cc

-- ---- rows

in-cons : (P : Signature → Type 0) (first row : Signature) (rows : List Signature) → P first → (Contains rows row → P row) → Contains (first ∷ rows) row → P row
in-cons P first row rows here later m = by (contains-cons first row rows m)
  where
    by : (first ≡ row) ⊎ Contains rows row → P row
    by (inl e) = subst P e here
    by (inr k) = later k

in-one : (P : Signature → Type 0) (only row : Signature) → P only → Contains (only ∷ []) row → P row
in-one P only row here m = in-cons P only row [] here (λ k. absurd (contains-nil row k)) m

in-map : (P : Signature → Type 0) (f : ValueType → Signature) (types : List ValueType) (row : Signature) → ((ty : ValueType) → P (f ty)) → Contains (map f types) row → P row
in-map P f types row all m = let (ty, among, e) = contains-map f types row m in subst P e (all ty)

module _ (texts : List (List ℕ)) (patterns : List Pattern) (fails : BadKind → Plain) (bad : (why : BadKind) → plain_type (fails why) ≡ None) where
  int-type : (z : ℤ) → IsOfType Int (int fails z)
  int-type z = by (int_le (negsuc (2 ^ 63 - 1)) z && int_lt z (pos (2 ^ 63)))
    where
      by : (b : Bool) → IsOfType Int (if b then plain.Int z else fails Overflow)
      by true = inr refl
      by false = inl (bad Overflow)

  divided-type : (f : ℤ → ℤ → ℤ) (x y : ℤ) → IsOfType Int (divided fails f x y)
  divided-type f x y = by (int_eq y (pos 0))
    where
      by : (b : Bool) → IsOfType Int (if b then fails DivideByZero else int fails (f x y))
      by true = inl (bad DivideByZero)
      by false = int-type (f x y)

  text-type : (bytes : List ℕ) → IsOfType Text (text fails bytes)
  text-type bytes = by (nat_le (length bytes) (2 ^ 30))
    where
      by : (b : Bool) → IsOfType Text (if b then plain.Text bytes else fails TextTooLong)
      by true = inr refl
      by false = inl (bad TextTooLong)

  -- arguments of the row's types give a value of its type
  abbrev KeepsType : Op → Signature → Type 0
  KeepsType o row = (vs : List Plain) → HaveTypes row.args vs → IsOfType row.gives (applied texts patterns fails o vs)

  none : (o : Op) (gives : ValueType) → IsOfType gives (applied texts patterns fails o []) → KeepsType o (of_types [] gives)
  none o gives is [] h = is
  none o gives is (v ∷ vs) h = absurd h

  one : {A : Type 0} (o : Op) (t gives : ValueType) (f : A → Plain) → ((v : Plain) → plain_type v ≡ Some t → (a : A) × (v ≡ f a))
      → ((a : A) → IsOfType gives (applied texts patterns fails o (f a ∷ []))) → KeepsType o (of_types (t ∷ []) gives)
  one o t gives f seen is [] h = absurd h
  one o t gives f seen is (v ∷ []) h = let (a, e) = seen v h.0 in subst (λ u. IsOfType gives (applied texts patterns fails o (u ∷ []))) (sym e) (is a)
  one o t gives f seen is (v ∷ w ∷ vs) h = absurd h.1

  two : {A : Type 0} (o : Op) (t gives : ValueType) (f : A → Plain) → ((v : Plain) → plain_type v ≡ Some t → (a : A) × (v ≡ f a))
      → ((a b : A) → IsOfType gives (applied texts patterns fails o (f a ∷ f b ∷ []))) → KeepsType o (of_types (t ∷ t ∷ []) gives)
  two o t gives f seen is [] h = absurd h
  two o t gives f seen is (v ∷ []) h = absurd h.1
  two o t gives f seen is (v ∷ w ∷ []) h =
      let (a, e) = seen v h.0 in
      let (b, g) = seen w h.1.0 in
      subst (λ u. IsOfType gives (applied texts patterns fails o (u ∷ w ∷ []))) (sym e) (subst (λ u. IsOfType gives (applied texts patterns fails o (f a ∷ u ∷ []))) (sym g) (is a b))
  two o t gives f seen is (v ∷ w ∷ x ∷ vs) h = absurd h.1.1

  one_row : (o : Op) (only row : Signature) → KeepsType o only → Contains (only ∷ []) row → KeepsType o row
  one_row o only row keeps m = in-one (KeepsType o) only row keeps m

  abbrev ints : Op → ValueType → Type 0
  ints o gives = (x y : ℤ) → IsOfType gives (applied texts patterns fails o (plain.Int x ∷ plain.Int y ∷ []))

  two_ints : (o : Op) (gives : ValueType) (row : Signature) → ints o gives → Contains (of_types (Int ∷ Int ∷ []) gives ∷ []) row → KeepsType o row
  two_ints o gives row is m = one_row o (of_types (Int ∷ Int ∷ []) gives) row (two o Int gives (λ z. plain.Int z) is_int is) m

  two_truths : (o : Op) (row : Signature) → ((x y : Bool) → IsOfType Truth (applied texts patterns fails o (plain.Truth x ∷ plain.Truth y ∷ []))) → Contains (of_types (Truth ∷ Truth ∷ []) Truth ∷ []) row → KeepsType o row
  two_truths o row is m = one_row o (of_types (Truth ∷ Truth ∷ []) Truth) row (two o Truth Truth (λ b. plain.Truth b) is_truth is) m

  -- ints, strings and truths are compared
  compared : (o : Op) (row : Signature) → ints o Truth → ((x y : List ℕ) → IsOfType Truth (applied texts patterns fails o (plain.Str x ∷ plain.Str y ∷ [])))
      → ((x y : Bool) → IsOfType Truth (applied texts patterns fails o (plain.Truth x ∷ plain.Truth y ∷ []))) → Contains (two_alike (Int ∷ Str ∷ Truth ∷ [])) row → KeepsType o row
  compared o row of_ints of_strs of_truths m =
      in-cons (KeepsType o) (of_types (Int ∷ Int ∷ []) Truth) row (two_alike (Str ∷ Truth ∷ [])) (two o Int Truth (λ z. plain.Int z) is_int of_ints)
      (λ k. in-cons (KeepsType o) (of_types (Str ∷ Str ∷ []) Truth) row (two_alike (Truth ∷ [])) (two o Str Truth (λ s. plain.Str s) is_str of_strs) (λ l. two_truths o row of_truths l) k) m

  identical : (ty : ValueType) → KeepsType op.Identical (of_types (ty ∷ []) ty)
  identical ty [] h = absurd h
  identical ty (v ∷ []) h = inr h.0
  identical ty (v ∷ w ∷ vs) h = absurd h.1

  to_one : (ty : ValueType) → KeepsType op.ArgToOne (of_types (ty ∷ []) Int)
  to_one ty [] h = absurd h
  to_one ty (v ∷ []) h = inr refl
  to_one ty (v ∷ w ∷ vs) h = absurd h.1

  pattern_row : (k : ℕ) (row : Signature) (o : Option Pattern) → Contains (elim o [ None ↦ [] | Some pattern ↦ of_types pattern.args Text ∷ [] ]) row → KeepsType (op.Pattern k) row
  pattern_row k row None m = absurd (contains-nil row m)
  pattern_row k row (Some pattern) m = in-one (KeepsType (op.Pattern k)) (of_types pattern.args Text) row (λ vs h. text-type (pattern_bytes texts patterns k vs)) m

  keeps : (o : Op) (row : Signature) → Contains (signatures patterns o) row → KeepsType o row
  keeps op.Add row m = two_ints op.Add Int row (λ x y. int-type (x +ℤ y)) m
  keeps op.Sub row m = two_ints op.Sub Int row (λ x y. int-type (x -ℤ y)) m
  keeps op.Mul row m = two_ints op.Mul Int row (λ x y. int-type (x *ℤ y)) m
  keeps op.Div row m = two_ints op.Div Int row (divided-type int_div) m
  keeps op.Mod row m = two_ints op.Mod Int row (divided-type int_rem) m
  keeps op.Neg row m = one_row op.Neg (of_types (Int ∷ []) Int) row (one op.Neg Int Int (λ z. plain.Int z) is_int (λ z. int-type (neg_ℤ z))) m
  keeps op.And row m = two_truths op.And row (λ x y. inr refl) m
  keeps op.Or row m = two_truths op.Or row (λ x y. inr refl) m
  keeps op.Not row m = one_row op.Not (of_types (Truth ∷ []) Truth) row (one op.Not Truth Truth (λ b. plain.Truth b) is_truth (λ b. inr refl)) m
  keeps op.Eq row m = compared op.Eq row (λ x y. inr refl) (λ x y. inr refl) (λ x y. inr refl) m
  keeps op.Ne row m = compared op.Ne row (λ x y. inr refl) (λ x y. inr refl) (λ x y. inr refl) m
  keeps op.Lt row m = two_ints op.Lt Truth row (λ x y. inr refl) m
  keeps op.Le row m = two_ints op.Le Truth row (λ x y. inr refl) m
  keeps op.Gt row m = two_ints op.Gt Truth row (λ x y. inr refl) m
  keeps op.Ge row m = two_ints op.Ge Truth row (λ x y. inr refl) m
  keeps op.Identical row m = in-map (KeepsType op.Identical) (λ ty. of_types (ty ∷ []) ty) every_type row identical m
  keeps op.Zero row m = one_row op.Zero (of_types [] Int) row (none op.Zero Int (inr refl)) m
  keeps op.One row m = one_row op.One (of_types [] Int) row (none op.One Int (inr refl)) m
  keeps op.ArgToOne row m = in-map (KeepsType op.ArgToOne) (λ ty. of_types (ty ∷ []) Int) every_type row to_one m
  keeps op.Null row m = one_row op.Null (of_types [] Text) row (none op.Null Text (inr refl)) m
  keeps op.Numb row m = one_row op.Numb (of_types (Int ∷ []) Text) row (one op.Numb Int Text (λ z. plain.Int z) is_int (λ z. text-type (signed_decimal z))) m
  keeps op.AsIs row m = one_row op.AsIs (of_types (Str ∷ []) Text) row (one op.AsIs Str Text (λ s. plain.Str s) is_str text-type) m
  keeps op.Seq row m = one_row op.Seq (of_types (Text ∷ Text ∷ []) Text) row (two op.Seq Text Text (λ s. plain.Text s) is_text (λ a b. text-type (a ++ b))) m
  keeps (op.Pattern k) row m = pattern_row k row (slice_get patterns k) m

  pub operate-type : (o : Op) (types : List ValueType) (gives : ValueType) (vs : List Plain) → Takes patterns o types gives → AllZip IsOfType types vs → IsOfType gives (operate texts patterns fails o vs)
  unfolding operate
  operate-type o types gives vs takes are = unless_bad-type gives types vs (applied texts patterns fails o vs) are (λ exact. keeps o (of_types types gives) takes vs exact)
