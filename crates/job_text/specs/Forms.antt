-- The forms that the words of a command line have. Our own.
use Rattle.std.specs.Prelude.{ℕ, List, [], ◌∷◌, length, drop, Bool, true, false, ◌&&◌, ◌||◌, ◌==◌, if◌then◌else◌, nat_eq, nat_lt, nat_le, Option, Some, None, is_some, option_and_then, slice_get, bytes_eq, codes}
use Rattle.std.specs.Char.{is_ascii_digit}
use Rattle.lido_base.specs.Bytes.{is_letter, is_name_byte}
use Rattle.std.specs.List.{starts_with, list_all}
use Rattle.std.specs.Str.Parse.{digits_value}
use Rattle.job_text.specs.declared.forms.Verb.{Verb}
use Rattle.job_text.specs.declared.forms.Verb.TheVariants.{Check, Order, Run, Big}
use Rattle.job_text.specs.declared.forms.Form.{Form}
use Rattle.job_text.specs.declared.forms.Form.TheVariants.{First, Count, Workers, Split, Min, Patience}

-- what the first word asks for
unfoldable pub verb_of : List ℕ → Option Verb
verb_of word =
    if bytes_eq word (codes "check") then Some Check
    else if bytes_eq word (codes "order") then Some Order
    else if bytes_eq word (codes "run") then Some Run
    else if bytes_eq word (codes "big") then Some Big
    else None

-- what the command line asks for, if its first word says it
abbrev pub first_verb : List (List ℕ) → Option Verb
first_verb words = option_and_then verb_of (slice_get words 0)

-- what a word of the form begins with
abbrev pub key : Form → List ℕ
key Workers = codes "workers="
key Split = codes "split="
key Min = codes "min="
key Patience = codes "patience="
key First = []
key Count = []

-- 1 to 10 decimal digits
unfoldable pub is_number : List ℕ → Bool
is_number value = nat_lt 0 (length value) && nat_le (length value) 10 && list_all is_ascii_digit value

-- a letter or an underscore, then letters, digits and underscores
unfoldable pub is_identifier : List ℕ → Bool
is_identifier [] = false
is_identifier (first ∷ others) = is_letter first && list_all is_name_byte others

-- what may stand behind the key
abbrev pub is_value : Form → List ℕ → Bool
is_value First value = is_some (verb_of value)
is_value Split value = is_identifier value
is_value Count value = is_number value
is_value Workers value = is_number value
is_value Min value = is_number value
is_value Patience value = is_number value

-- the word is the form's key, and behind it a value
unfoldable pub has_form : Form → List ℕ → Bool
has_form form word = starts_with nat_eq word (key form) && is_value form (drop (length (key form)) word)

-- the number behind the key
unfoldable pub number_of : Form → List ℕ → ℕ
number_of form word = digits_value 10 (drop (length (key form)) word)

-- the greatest number of a form that has one
abbrev pub most_of : Form → ℕ
most_of First = 0
most_of Count = 50000
most_of Workers = 16
most_of Split = 0
most_of Min = 1048576
most_of Patience = 1000

-- the form has a number, and the word's is not from 1 to the greatest
abbrev pub is_outside : Form → List ℕ → Bool
is_outside form word = nat_lt 0 (most_of form) && (number_of form word == 0 || nat_lt (most_of form) (number_of form word))

-- a word of the form may stand more than once
abbrev pub is_repeatable : Form → Bool
is_repeatable Split = true
is_repeatable _ = false

-- a word has to stand where the form may
abbrev pub is_needed : Form → Bool
is_needed First = true
is_needed Count = true
is_needed _ = false

-- the forms that may stand at an index from 1 on, behind this first word
abbrev pub after : Option Verb → ℕ → List Form
after (Some Run) index = Workers ∷ Split ∷ Min ∷ Patience ∷ []
after (Some Big) index = if index == 1 then Count ∷ [] else Workers ∷ []
after _ index = []

-- the forms that may stand at an index, the first word's being 0
abbrev pub allowed : Option Verb → ℕ → List Form
allowed verb index = if index == 0 then First ∷ [] else after verb index
