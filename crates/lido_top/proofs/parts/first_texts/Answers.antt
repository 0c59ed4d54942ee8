use Rattle.std.proofs.Common.{◌≡◌, ◌∙◌, ℕ, List, [], ap, refl}
use Rattle.lido_lexer.specs.Tables.{interned}
use Rattle.lido_computations.specs.Functions.{known_words}
use Rattle.lido_top.proofs.parts.first_texts.Goals as goal

-- no word stands among them twice
all_new : interned [] known_words ≡ known_words
unfolding interned
all_new = refl

pub returns-in-Ok-clause-table : goal.returns-in-Ok-clause-table
returns-in-Ok-clause-table c = c.in-Ok.ensures.table ∙ ap (λ (texts : List (List ℕ)). interned texts known_words) c.requires ∙ all_new
