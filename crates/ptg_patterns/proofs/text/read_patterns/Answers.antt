use Rattle.std.proofs.Common.{inl, inr, List, Ok, Err, length, map, sym, subst}
use Rattle.lido_base.specs.Phases.{IsThe}
use Rattle.lido_base.specs.declared.pattern.Pattern.{Pattern}
use Rattle.lido_lexer.specs.Lexing.{shown_in}
use Rattle.lido_lexer.specs.declared.token.Token.{Token}
use Rattle.ptg_patterns.specs.Texts.{AreTokens, Reads, PatternsOf, IsTableBehind}
use Rattle.ptg_patterns.proofs.OneLemmas.{is_the, from_is}
use Rattle.ptg_patterns.proofs.text.read_patterns.Goals as goal

pub returns-in-Ok-read_tokens-clause-gives : goal.returns-in-Ok-read_tokens-clause-gives
returns-in-Ok-read_tokens-clause-gives c =
    let texts = c.lex_as_far-lexed.new.strings in
    let bytes = c.args.text.now in
    let tokens = c.in-Ok.lexed.tokens.items in
    let stuck = c.in-Ok.lexed.stuck in
    let are : AreTokens texts bytes tokens stuck = record { cut = c.in-Ok.ensures.cut; ids = c.in-Ok.ensures.ids } in
    let reads = subst (λ (l : List Token). Reads texts (length bytes) l stuck (Ok c.in-Ok-read_tokens.list.items)) c.deref.ensures.value c.in-Ok-read_tokens.ensures.patterns in
    subst (λ (l : List Pattern). IsThe (PatternsOf texts bytes) (Ok l)) (sym c.from_vec.ensures) (is_the texts bytes tokens stuck (Ok c.in-Ok-read_tokens.list.items) c.len-texts.ensures.distinct are reads)

pub returns-in-Ok-read_tokens-clause-table : goal.returns-in-Ok-read_tokens-clause-table
returns-in-Ok-read_tokens-clause-table c = record {
  tokens = map (shown_in c.lex_as_far-lexed.new.strings) c.in-Ok.lexed.tokens.items;
  stuck = c.in-Ok.lexed.stuck;
  cut = c.in-Ok.ensures.cut;
  table = c.in-Ok.ensures.table;
}

pub returns-in-Ok-read_tokens-clause-reads : goal.returns-in-Ok-read_tokens-clause-reads
returns-in-Ok-read_tokens-clause-reads c =
    from_is c.args.strings.now c.args.text.now c.lex_as_far-lexed.new.strings _ (returns-in-Ok-read_tokens-clause-table c) (returns-in-Ok-read_tokens-clause-gives c)

pub returns-clause-gives : goal.returns-clause-gives
returns-clause-gives c =
    let texts = c.lex_as_far-lexed.new.strings in
    let bytes = c.args.text.now in
    let tokens = c.in-Ok.lexed.tokens.items in
    let stuck = c.in-Ok.lexed.stuck in
    let are : AreTokens texts bytes tokens stuck = record { cut = c.in-Ok.ensures.cut; ids = c.in-Ok.ensures.ids } in
    elim c.in-Err-read_tokens.ensures.fault [
      | inl no_memory ↦ inl no_memory
      | inr fault ↦ inr (is_the texts bytes tokens stuck (Err c.in-Err-read_tokens.e) c.len-texts.ensures.distinct are
          (subst (λ (l : List Token). Reads texts (length bytes) l stuck (Err c.in-Err-read_tokens.e)) c.deref.ensures.value fault))
    ]

pub returns-clause-table_of_fault : goal.returns-clause-table_of_fault
returns-clause-table_of_fault c = inr (record {
  tokens = map (shown_in c.lex_as_far-lexed.new.strings) c.in-Ok.lexed.tokens.items;
  stuck = c.in-Ok.lexed.stuck;
  cut = c.in-Ok.ensures.cut;
  table = c.in-Ok.ensures.table;
})

pub returns-clause-reads : goal.returns-clause-reads
returns-clause-reads c =
    let table : IsTableBehind c.args.strings.now c.args.text.now c.lex_as_far-lexed.new.strings = record {
      tokens = map (shown_in c.lex_as_far-lexed.new.strings) c.in-Ok.lexed.tokens.items;
      stuck = c.in-Ok.lexed.stuck;
      cut = c.in-Ok.ensures.cut;
      table = c.in-Ok.ensures.table;
    } in
    elim (returns-clause-gives c) [
      | inl no_memory ↦ inl no_memory
      | inr the ↦ inr (from_is c.args.strings.now c.args.text.now c.lex_as_far-lexed.new.strings (Err c.in-Err-read_tokens.e) table the)
    ]
