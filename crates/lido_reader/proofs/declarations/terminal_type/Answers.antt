use Rattle.std.specs.Prelude.{◌≡◌, true, false, refl}
use Rattle.lido_reader.specs.Items.{is_terminal_type}
use Rattle.lido_reader.proofs.DeclarationsLemmas.{terminal_type_finds, terminal_type_refuses, not_terminal_type}
use Rattle.lido_reader.proofs.declarations.terminal_type.Goals as goal

pub returns-in_default-clause-reads : goal.returns-in_default-clause-reads
returns-in_default-clause-reads c = rw c.stop.ensures (c.args.tokens.now, terminal_type_refuses c.args.tokens.now (λ x us p h. c.in_default.ensures.seen x us p), refl)

pub returns-then-is_terminal_type-clause-reads : goal.returns-then-is_terminal_type-clause-reads
returns-then-is_terminal_type-clause-reads c =
    let yes : is_terminal_type c.in-Some.ty ≡ true = cc (c.is_terminal_type.ensures, c.if-is_terminal_type.true) in
    terminal_type_finds c.args.tokens.now c.in-Some.rest.now c.in-Some.ty c.in-Some.ensures.seen yes

pub returns-else-is_terminal_type-clause-reads : goal.returns-else-is_terminal_type-clause-reads
returns-else-is_terminal_type-clause-reads c =
    let no : is_terminal_type c.in-Some.ty ≡ false = cc (c.is_terminal_type.ensures, c.if-is_terminal_type.false) in
    rw c.stop-else-is_terminal_type.ensures (
      c.args.tokens.now,
      terminal_type_refuses c.args.tokens.now (not_terminal_type c.args.tokens.now c.in-Some.rest.now c.in-Some.ty c.in-Some.ensures.seen no),
      refl,
    )
