-- What a function gives, and how many arguments it takes.
use Rattle.std.specs.Prelude.{◌≡◌, ◌+◌, ◌-◌, ℕ, suc, ◌⊎◌, Bool, true, false, if◌then◌else◌, List, [], ◌∷◌, ◌++◌, length, Option, Some, None, option_map, slice_get, codes, Contains, IfSome, IfNone, refl}
use Rattle.std.specs.Str.{bytes_eq}
use Rattle.std.proofs.Common.{subst, sym, ap, ◌∙◌, inl, inr, arith, append-nil, length-append}
use Rattle.std.specs.Option.{option_eq}
use Rattle.std.proofs.lemmas.Option.{none-some}
use Rattle.std.proofs.lemmas.Bool.{false≢true}
use Rattle.lido_base.specs.declared.value.ValueType.{ValueType}
use Rattle.lido_base.specs.declared.operation.Op.{Op}
use Rattle.lido_base.specs.declared.operation.Op.TheVariants as op
use Rattle.lido_base.specs.declared.pattern.Pattern.{Pattern}
use Rattle.lido_base.specs.declared.value.ValueType.TheVariants as type
use Rattle.lido_base.specs.Environment.{Environment}
use Rattle.lido_base.specs.Types.{Signature, of_types, signatures}
use Rattle.lido_base.proofs.Lists.{contains-nil, contains-cons}
use Rattle.lido_syntax.specs.declared.spec.Name.{Name}
use Rattle.lido_syntax.specs.Production.{name_of}
use Rattle.lido_syntax.specs.Functions.{text_of, operation_of}
use Rattle.expr_types.specs.Callees.{HasOneCount}
use Rattle.expr_types.specs.Faults.{Begins}
use Rattle.expr_types.specs.Typing.{Function, WithRows, Order, Gives, choices, function_of, last_type}
use Rattle.expr_types.proofs.TypingLemmas.{same-option, one-call}
use Rattle.leaf_types.proofs.TypeLemmas.{type_eq, type-decides}

-- ---- all rows have as many arguments

abbrev Have : ℕ → List Signature → Type 0
Have n [] = Unit {0}
Have n (row ∷ rows) = (length row.args ≡ n) × Have n rows

have-each : (n : ℕ) (rows : List Signature) (row : Signature) → Have n rows → Contains rows row → length row.args ≡ n
have-each n [] row h m = absurd (contains-nil row m)
have-each n (first ∷ rows) row h m = go (contains-cons first row rows m) (have-each n rows row h.1)
  where
    go : (first ≡ row) ⊎ Contains rows row → (Contains rows row → length row.args ≡ n) → length row.args ≡ n
    go (inl e) later = subst (λ (x : Signature). length x.args ≡ n) e h.0
    go (inr k) later = later k

abbrev HaveSome : List Signature → Type 0
HaveSome rows = (n : ℕ) × Have n rows

pattern-count : (o : Option Pattern) → HaveSome (elim o [ None ↦ [] | Some pattern ↦ of_types pattern.args type.Text ∷ [] ])
pattern-count None = (0, tt)
pattern-count (Some pattern) = (length pattern.args, (refl, tt))

count-of : (patterns : List Pattern) (o : Op) → HaveSome (signatures patterns o)
count-of patterns op.Add = (2, (refl, tt))
count-of patterns op.Sub = (2, (refl, tt))
count-of patterns op.Mul = (2, (refl, tt))
count-of patterns op.Div = (2, (refl, tt))
count-of patterns op.Mod = (2, (refl, tt))
count-of patterns op.Neg = (1, (refl, tt))
count-of patterns op.And = (2, (refl, tt))
count-of patterns op.Or = (2, (refl, tt))
count-of patterns op.Not = (1, (refl, tt))
count-of patterns op.Eq = (2, (refl, (refl, (refl, tt))))
count-of patterns op.Ne = (2, (refl, (refl, (refl, tt))))
count-of patterns op.Lt = (2, (refl, tt))
count-of patterns op.Le = (2, (refl, tt))
count-of patterns op.Gt = (2, (refl, tt))
count-of patterns op.Ge = (2, (refl, tt))
count-of patterns op.Identical = (1, (refl, (refl, (refl, (refl, (refl, tt))))))
count-of patterns op.Zero = (0, (refl, tt))
count-of patterns op.One = (0, (refl, tt))
count-of patterns op.ArgToOne = (1, (refl, (refl, (refl, (refl, (refl, tt))))))
count-of patterns op.Null = (0, (refl, tt))
count-of patterns op.Numb = (1, (refl, tt))
count-of patterns op.AsIs = (1, (refl, tt))
count-of patterns op.Seq = (2, (refl, tt))
count-of patterns (op.Pattern k) = pattern-count (slice_get patterns k)

alike : (rows : List Signature) → HaveSome rows → HasOneCount (WithRows rows)
alike rows h = λ row other m k. have-each h.0 rows row h.1 m ∙ sym (have-each h.0 rows other h.1 k)

abbrev OneCounted : Option Function → Type 0
OneCounted o = (function : Function) → o ≡ Some function → HasOneCount function

counted : (f : Function) → HasOneCount f → OneCounted (Some f)
counted f h = λ function e. subst HasOneCount (same-option f function e) h

operation-counted : (patterns : List Pattern) (o : Option Op) → OneCounted (option_map (λ o. WithRows (signatures patterns o)) o)
operation-counted patterns None = λ function e. absurd (none-some function e)
operation-counted patterns (Some o) = counted (WithRows (signatures patterns o)) (alike (signatures patterns o) (count-of patterns o))

-- what a name calls takes one number of arguments, or is ORDER
pub one-count : (env : Environment) (f : Name) (function : Function) → function_of env f ≡ Some function → HasOneCount function
one-count env f = go (bytes_eq (text_of env (name_of f)) (codes "IF")) (bytes_eq (text_of env (name_of f)) (codes "ORDER"))
  where
    go : (b d : Bool) → OneCounted (if b then Some (WithRows choices) else if d then Some Order else option_map (λ o. WithRows (signatures env.patterns o)) (operation_of env (text_of env (name_of f))))
    go true d = counted (WithRows choices) (alike choices (3, (refl, (refl, (refl, (refl, (refl, tt)))))))
    go false true = counted Order tt
    go false false = operation-counted env.patterns (operation_of env (text_of env (name_of f)))

-- ---- the row that begins with all arguments gives the result

no-more : (args types rest : List ValueType) → args ≡ types ++ rest → length args ≡ length types → args ≡ types
no-more args types [] e same = e ∙ append-nil types
no-more args types (r ∷ rest) e same =
    let longer : length args ≡ length types + length (r ∷ rest) = ap length e ∙ length-append types (r ∷ rest) in
    absurd (omega (arith, longer, same))

pub whole-row : (rows : List Signature) (types : List ValueType) → HasOneCount (WithRows rows) → (row : Signature) → Contains rows row → length row.args ≡ length types
    → Begins rows types → (ty : ValueType) × Contains rows (of_types types ty)
whole-row rows types one row m long begins =
    let same = no-more begins.0.args types begins.1 begins.3 (one begins.0 row begins.2 m ∙ long) in
    (begins.0.gives, subst (λ args. Contains rows (of_types args begins.0.gives)) same begins.2)

-- ---- the last argument

pub last-get : (types : List ValueType) → slice_get types (length types - 1) ≡ last_type types
last-get [] = refl
last-get (t ∷ []) = refl
last-get (t ∷ u ∷ us) =
    let step : length (t ∷ u ∷ us) - 1 ≡ suc (length (u ∷ us) - 1) = grind arith in
    ap (slice_get (t ∷ u ∷ us)) step ∙ last-get (u ∷ us)

-- ---- a function that gives something else, or nothing

-- of what a function gives, if anything, another type is none
pub gives-other : (env : Environment) (f : Name) (function : Function) (args : List ValueType) (given : Option ValueType) (ty : ValueType) → function_of env f ≡ Some function
    → option_eq type_eq given (Some ty) ≡ false → IfSome given (λ t. Gives function args t) → IfNone given ((t : ValueType) → Gives function args t → ⊥)
    → Gives function args ty → ⊥
gives-other env f function args None ty known other some none g = none ty g
gives-other env f function args (Some t) ty known other some none g =
    let same : t ≡ ty = one-call env f args t ty (function, known, some) (function, known, g) in
    false≢true (sym other ∙ (type-decides t ty).1 same)
