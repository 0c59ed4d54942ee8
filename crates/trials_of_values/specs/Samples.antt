-- What the trials of operations are computed with: some texts, patterns, and origins.
use Rattle.std.specs.Prelude.{ℕ, ◌^◌, ◌-◌, ℤ, pos, negsuc, List, [], ◌∷◌, codes, true, false}
use Rattle.lido_base.specs.declared.ids.StrId.{StrId}
use Rattle.lido_base.specs.declared.operation.Op.{Op}
use Rattle.lido_base.specs.declared.pattern.Part.{Part}
use Rattle.lido_base.specs.declared.pattern.PartPiece.TheVariants.{Fixed, Arg}
use Rattle.lido_base.specs.declared.pattern.Pattern.{Pattern}
use Rattle.lido_base.specs.declared.value.BadKind.{BadKind}
use Rattle.lido_base.specs.declared.value.Origin.{Origin}
use Rattle.lido_base.specs.declared.value.ValueType.TheVariants as type
use Rattle.lido_base.specs.Operations.{operate}
use Rattle.lido_base.specs.Plain.{Plain, Bad}

-- An operation that fails here fails at node 3 in computation 1.
abbrev pub fails : BadKind → Plain
fails kind = Bad (record { node = 3; comp = 1; kind = kind })

-- A fault of an argument, from elsewhere.
abbrev pub earlier : BadKind → Origin
earlier kind = record { node = 8; comp = 0; kind = kind }

abbrev pub least : ℤ
least = negsuc (2 ^ 63 - 1)

abbrev pub greatest : ℤ
greatest = pos (2 ^ 63 - 1)

abbrev pub texts : List (List ℕ)
texts = codes "Part" ∷ codes " " ∷ codes "<" ∷ codes ">" ∷ codes "Other" ∷ []

abbrev pub id : ℕ → StrId
id n = record { 0 = n }

abbrev pub fixed : ℕ → Part
fixed n = record { piece = Fixed (id n); brace = false }

abbrev pub point : ℕ → Part
point k = record { piece = Arg k; brace = false }

abbrev pub braced : ℕ → Part
braced n = record { piece = Fixed (id n); brace = true }

abbrev pub braced_point : ℕ → Part
braced_point k = record { piece = Arg k; brace = true }

-- `Part: $ int { " " } $`
abbrev pub spaced : Pattern
spaced = record { name = id 0; args = type.Int ∷ type.Text ∷ []; parts = point 1 ∷ braced 1 ∷ point 2 ∷ [] }

-- `Part: { "<" } $ int { ">" }`, which inserts no text
abbrev pub without_texts : Pattern
without_texts = record { name = id 0; args = type.Int ∷ []; parts = braced 2 ∷ point 1 ∷ braced 3 ∷ [] }

-- `Part: { "<" $ } $ { ">" }`, with a text inside the braces and one outside
abbrev pub two_texts : Pattern
two_texts = record { name = id 0; args = type.Text ∷ type.Text ∷ []; parts = braced 2 ∷ braced_point 1 ∷ point 2 ∷ braced 3 ∷ [] }

-- `Part: { "<" } $2 int $4`, which skips the arguments 1 and 3
abbrev pub skipping : Pattern
skipping = record { name = id 0; args = type.Text ∷ type.Int ∷ type.Text ∷ type.Text ∷ []; parts = braced 2 ∷ point 2 ∷ point 4 ∷ [] }

-- `Part: { "<" } $ string`, whose insertion is no text
abbrev pub of_string : Pattern
of_string = record { name = id 0; args = type.Str ∷ []; parts = braced 2 ∷ point 1 ∷ [] }

-- What an operation gives, with these patterns.
abbrev pub gives : List Pattern → Op → List Plain → Plain
gives patterns op args = operate texts patterns fails op args
