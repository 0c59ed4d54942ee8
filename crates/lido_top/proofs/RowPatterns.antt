-- The example's text of patterns, which is empty, has none, and adds no text.
use Rattle.std.proofs.Common.{◌≡◌, ℕ, List, [], None, Ok, refl}
use Rattle.std.proofs.lemmas.List.Elements.{All-nil}
use Rattle.lido_lexer.specs.Lexing.{up_to_end}
use Rattle.lido_lexer.specs.Tables.{interned, texts_in}
use Rattle.ptg_patterns.specs.Clashes.{CantStand}
use Rattle.ptg_patterns.specs.Language.{none}
use Rattle.ptg_patterns.specs.Texts.{PatternsOf, PatternsFrom}
use Rattle.ptg_patterns.proofs.FirstLemmas.{none_at_first}
use Rattle.lido_top.specs.Verdict.{part}
use Rattle.lido_top.proofs.RowText.{job, sections}

no_patterns : (texts : List (List ℕ)) → PatternsOf texts [] (Ok [])
unfolding PatternsOf
no_patterns texts = ([], None, record { cut = up_to_end; ids = All-nil _ }, ([], none, none_at_first (CantStand texts), refl))

no_texts : (texts : List (List ℕ)) → texts ≡ interned texts (texts_in [])
unfolding interned
no_texts texts = refl

pub has_no_patterns : (texts : List (List ℕ)) → PatternsFrom texts (part job sections.ptg) (Ok [])
has_no_patterns texts = record {
  later = texts;
  table = record { tokens = []; stuck = None; cut = up_to_end; table = no_texts texts };
  says = no_patterns texts;
}
