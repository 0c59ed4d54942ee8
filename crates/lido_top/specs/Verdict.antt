-- What the words and the input call for.
use Rattle.std.specs.Prelude.{◌≡◌, ◌≤◌, ◌-◌, ℕ, List, length, slice_range, Bool, true, Option, Some, None, Result}
use Rattle.lido_base.specs.Phases.{OneOf, Then, Wrapped}
use Rattle.lido_syntax.specs.declared.fault.SpecFault.TheVariants as spec
use Rattle.lido_lexer.specs.declared.token.LexFault.{LexFault}
use Rattle.lido_lexer.specs.declared.token.LexFault.TheVariants as lex
use Rattle.lido_base.specs.declared.pattern.Pattern.{Pattern}
use Rattle.lido_lexer.specs.declared.token.Token.{Token}
use Rattle.lido_lexer.specs.Tables.{interned, LexedFrom}
use Rattle.lido_syntax.specs.declared.spec.Spec.{Spec}
use Rattle.lido_computations.specs.declared.fault.ReadSpecFault.{ReadSpecFault}
use Rattle.lido_computations.specs.declared.fault.ReadSpecFault.TheVariants as read
use Rattle.lido_computations.specs.Functions.{known_words}
use Rattle.lido_reader.specs.Added.{rule_names}
use Rattle.lido_reader.specs.Specification.{IsReading}
use Rattle.ptg_patterns.specs.declared.fault.PtgFault.{PtgFault}
use Rattle.ptg_patterns.specs.declared.fault.PtgFault.TheVariants as ptg
use Rattle.ptg_patterns.specs.Texts.{PatternsFrom}
use Rattle.job_text.specs.declared.cutting.Span.{Span}
use Rattle.job_text.specs.declared.cutting.Sections.{Sections}
use Rattle.job_text.specs.declared.cutting.CutFault.{CutFault}
use Rattle.job_text.specs.declared.cutting.CutFault.TheVariants as cut
use Rattle.job_text.specs.Cutting.{Cutting}
use Rattle.job_text.specs.declared.command_line.Command.{Command}
use Rattle.order_report.specs.declared.status.Status.TheVariants as status
use Rattle.lido_top.specs.Endings.{Ending, plainly, no_memory}
use Rattle.lido_top.specs.Answers.{Answer, Seen, answer_of}
use Rattle.lido_top.specs.Words.{CommandOf}
use Rattle.lido_top.specs.Calls as calls
use Rattle.lido_top.specs.Job.{IsResult}

-- the bytes of a part
abbrev pub part : List ℕ → Span → List ℕ
part bytes span = slice_range bytes span.from span.to

-- the part lies in the text
abbrev pub IsWithin : List ℕ → Span → Type 0
IsWithin bytes span = (span.from ≤ span.to) × (span.to ≤ length bytes)

-- a missing section line
abbrev pub of_cut : CutFault → Ending
of_cut cut.NoPtg = plainly status.NoPtg
of_cut cut.NoTree = plainly status.NoTree

-- a fault of the tokens
abbrev pub of_lex : LexFault → Ending
of_lex (lex.Lexical at) = plainly (status.Spec (spec.Lexical at))
of_lex lex.Memory = no_memory

-- a fault of the specification's form
abbrev pub of_read : ReadSpecFault → Ending
of_read (read.Syntax at) = plainly (status.Spec (spec.Syntax at))
of_read read.Memory = no_memory

-- a fault of the patterns
abbrev pub of_ptg : PtgFault → Ending
of_ptg (ptg.PtgSyntax at) = plainly (status.Spec (spec.PtgSyntax at))
of_ptg (ptg.PtgDuplicate at) = plainly (status.Spec (spec.PtgDuplicate at))
of_ptg (ptg.PtgMixed at) = plainly (status.Spec (spec.PtgMixed at))
of_ptg ptg.Memory = no_memory

-- how many bytes a part has
abbrev pub size_of : Span → ℕ
size_of span = span.to - span.from

-- the sections of the input, or the section line that it lacks
unfoldable pub SectionsOf : List ℕ → Result Sections Ending → Type 0
SectionsOf bytes = Wrapped of_cut (Cutting bytes)

-- The tokens of the specification with the table of texts behind them, where these texts stand before; or where its first token
-- that can't be formed begins. The places of faults are counted in their part.
unfoldable pub TokensOf : List (List ℕ) → List ℕ → Sections → Result (List (List ℕ) × List Token) Ending → Type 0
TokensOf texts bytes sections = Wrapped of_lex (LexedFrom texts (part bytes sections.spec))

-- the table of texts behind a specification: the names of its rules that have none join those of its tokens
abbrev pub behind_spec : List (List ℕ) × List Token → List (List ℕ)
behind_spec (texts, tokens) = interned texts (rule_names 1 tokens)

-- the specification that the tokens of a text of this size are, or where they stop being one
unfoldable pub SyntaxOf : List (List ℕ) × List Token → ℕ → Result Spec Ending → Type 0
SyntaxOf (texts, tokens) size = Wrapped of_read (IsReading (behind_spec (texts, tokens)) tokens size)

-- the patterns, where these texts stand before, or their first fault
unfoldable pub PatternsOf : List (List ℕ) → List ℕ → Sections → Result (List Pattern) Ending → Type 0
PatternsOf texts bytes sections = Wrapped of_ptg (PatternsFrom texts (part bytes sections.ptg))

-- the text of an input that has the form of the first path
unfoldable pub FirstPathOf : List ℕ → Result (List ℕ) Ending → Type 0
FirstPathOf bytes = OneOf (IsResult bytes) (plainly status.FirstPathOnly)

-- the text of an input, or the first refusal that stands in it
unfoldable pub TextOf : List ℕ → Result (List ℕ) Ending → Type 0
TextOf bytes =
    Then (SectionsOf bytes) (λ sections.
    Then (TokensOf known_words bytes sections) (λ read.
    Then (SyntaxOf read (size_of sections.spec)) (λ spec.
    Then (PatternsOf (behind_spec read) bytes sections) (λ patterns.
    FirstPathOf bytes))))

-- the command reads its input: each one that is built does
abbrev pub reads : Command → Bool
reads command = true

-- The answers of a command to an input: the text of the input, or the first refusal that stands in it.
abbrev pub AnswerTo : Command → Option (List ℕ) → Answer → Type 0
AnswerTo command None answer = ⊥
AnswerTo command (Some bytes) answer = (r : Result (List ℕ) Ending) × TextOf bytes r × (answer ≡ answer_of r)

-- Two answers to one input are the same.
abbrev pub IsAlike : Answer → Answer → Type 0
IsAlike first second = first ≡ second

-- what a call decides by the words and by what it takes of the source
abbrev pub Decides : List (List ℕ) → Seen → Seen → Answer → Type 0
Decides = calls.Decides IsAlike CommandOf reads AnswerTo

-- the answers that these words and a source of these bytes call for
abbrev pub IsAnswer : List (List ℕ) → List ℕ → Answer → Type 0
IsAnswer = calls.IsAnswer IsAlike CommandOf reads AnswerTo
