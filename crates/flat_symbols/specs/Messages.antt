-- The texts of messages besides their own, by their ids.
use Rattle.std.specs.Prelude.{◌≡◌, ℕ, List}
use Rattle.lido_base.specs.Environment.{Environment}
use Rattle.lido_syntax.specs.declared.spec.Severity.{Severity}
use Rattle.lido_syntax.specs.declared.spec.Severity.TheVariants.{Note, Warning, Error}
use Rattle.lido_syntax.specs.Functions.{text_of}
use Rattle.rule_tables.specs.Copies.{label, line_feed, id_of}
use Rattle.flat_symbols.specs.declared.messages.MessageTexts.{MessageTexts}

abbrev pub id_for : MessageTexts → Severity → ℕ
id_for texts Note = texts.note.0
id_for texts Warning = texts.warning.0
id_for texts Error = texts.error.0

-- it is the id of the text
pub record IsIdOf (env : Environment) (text : List ℕ) (id : ℕ) : Type 0 where
  pub place : id ≡ id_of env text
  pub there : text_of env (id_of env text) ≡ text

pub record AreMessageTexts (env : Environment) (texts : MessageTexts) : Type 0 where
  pub labels : (severity : Severity) → IsIdOf env (label severity) (id_for texts severity)
  pub line_feed : IsIdOf env line_feed texts.line_feed.0
