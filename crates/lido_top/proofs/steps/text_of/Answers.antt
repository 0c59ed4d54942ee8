use Rattle.std.proofs.Common.{[], Ok, Err, string_bytes}
use Rattle.std.specs.declared.alloc.Global.{Global}
use Rattle.lido_top.specs.Endings.{ending}
use Rattle.lido_top.proofs.StepsLemmas.{all_known, sections_stop, sections_next, tokens_stop, tokens_next, syntax_stop, syntax_next, patterns_stop, patterns_next}
use Rattle.lido_top.proofs.steps.text_of.Goals as goal

pub syntax_of-requires : goal.syntax_of-requires
syntax_of-requires c = c.in-Ok-tokens_of.ensures.there (all_known c.first_texts.new.strings c.in-Ok-first_texts.ensures.table)

pub returns-in-Err-clause-gives : goal.returns-in-Err-clause-gives
returns-in-Err-clause-gives c =
    sections_stop (string_bytes {Z = Global}) (ending c.args.strings.now) c.args.bytes.now c.in-Err.status (c.in-Err.ensures.gives c.args.strings.now)

pub returns-in-Err-tokens_of-clause-gives : goal.returns-in-Err-tokens_of-clause-gives
returns-in-Err-tokens_of-clause-gives c =
    let bytes = c.args.bytes.now in
    let s = c.in-Ok.sections in
    let first = c.first_texts.new.strings in
    let table = c.in-Ok-first_texts.ensures.table in
    let e = c.in-Err-tokens_of.status in
    sections_next (string_bytes {Z = Global}) (ending c.tokens_of.new.strings) bytes s (Err e) (c.in-Ok.ensures.gives [])
    (tokens_stop (string_bytes {Z = Global}) (ending c.tokens_of.new.strings) bytes s first table e c.in-Err-tokens_of.ensures.gives)

pub returns-in-Err-syntax_of-clause-gives : goal.returns-in-Err-syntax_of-clause-gives
returns-in-Err-syntax_of-clause-gives c =
    let bytes = c.args.bytes.now in
    let s = c.in-Ok.sections in
    let first = c.first_texts.new.strings in
    let table = c.in-Ok-first_texts.ensures.table in
    let texts = c.tokens_of.new.strings in
    let tokens = c.in-Ok-tokens_of.tokens.items in
    let seen = c.deref.result.now in
    let same = c.deref.ensures.value in
    let e = c.in-Err-syntax_of.status in
    sections_next (string_bytes {Z = Global}) (ending c.syntax_of.new.strings) bytes s (Err e) (c.in-Ok.ensures.gives [])
    (tokens_next (string_bytes {Z = Global}) (ending c.syntax_of.new.strings) bytes s first table (texts, tokens) (Err e) c.in-Ok-tokens_of.ensures.gives
    (syntax_stop (string_bytes {Z = Global}) (ending c.syntax_of.new.strings) bytes s texts tokens seen same e c.in-Err-syntax_of.ensures.gives))

pub returns-in-Err-patterns_of-clause-gives : goal.returns-in-Err-patterns_of-clause-gives
returns-in-Err-patterns_of-clause-gives c =
    let bytes = c.args.bytes.now in
    let s = c.in-Ok.sections in
    let first = c.first_texts.new.strings in
    let table = c.in-Ok-first_texts.ensures.table in
    let texts = c.tokens_of.new.strings in
    let tokens = c.in-Ok-tokens_of.tokens.items in
    let seen = c.deref.result.now in
    let same = c.deref.ensures.value in
    let spec = c.in-Ok-syntax_of.field-0 in
    let later = c.syntax_of.new.strings in
    let behind = c.in-Ok-syntax_of.ensures.table in
    let e = c.in-Err-patterns_of.status in
    sections_next (string_bytes {Z = Global}) (ending c.patterns_of.new.strings) bytes s (Err e) (c.in-Ok.ensures.gives [])
    (tokens_next (string_bytes {Z = Global}) (ending c.patterns_of.new.strings) bytes s first table (texts, tokens) (Err e) c.in-Ok-tokens_of.ensures.gives
    (syntax_next (string_bytes {Z = Global}) (ending c.patterns_of.new.strings) bytes s texts tokens seen same spec (Err e) c.in-Ok-syntax_of.ensures.gives
    (patterns_stop (string_bytes {Z = Global}) (ending c.patterns_of.new.strings) bytes s texts tokens seen same later behind spec e c.in-Err-patterns_of.ensures.gives)))

pub returns-in-Ok-first_path-clause-gives : goal.returns-in-Ok-first_path-clause-gives
returns-in-Ok-first_path-clause-gives c =
    let bytes = c.args.bytes.now in
    let s = c.in-Ok.sections in
    let first = c.first_texts.new.strings in
    let table = c.in-Ok-first_texts.ensures.table in
    let texts = c.tokens_of.new.strings in
    let tokens = c.in-Ok-tokens_of.tokens.items in
    let seen = c.deref.result.now in
    let same = c.deref.ensures.value in
    let spec = c.in-Ok-syntax_of.field-0 in
    let later = c.syntax_of.new.strings in
    let behind = c.in-Ok-syntax_of.ensures.table in
    sections_next (string_bytes {Z = Global}) (ending c.patterns_of.new.strings) bytes s (Ok c.in-Ok-first_path.text) (c.in-Ok.ensures.gives [])
    (tokens_next (string_bytes {Z = Global}) (ending c.patterns_of.new.strings) bytes s first table (texts, tokens) (Ok c.in-Ok-first_path.text) c.in-Ok-tokens_of.ensures.gives
    (syntax_next (string_bytes {Z = Global}) (ending c.patterns_of.new.strings) bytes s texts tokens seen same spec (Ok c.in-Ok-first_path.text) c.in-Ok-syntax_of.ensures.gives
    (patterns_next (string_bytes {Z = Global}) (ending c.patterns_of.new.strings) bytes s texts tokens seen same later behind spec c.in-Ok-patterns_of.field-0.list (Ok c.in-Ok-first_path.text) c.in-Ok-patterns_of.ensures.gives
    (c.in-Ok-first_path.ensures.gives c.patterns_of.new.strings))))

pub returns-clause-gives : goal.returns-clause-gives
returns-clause-gives c =
    let bytes = c.args.bytes.now in
    let s = c.in-Ok.sections in
    let first = c.first_texts.new.strings in
    let table = c.in-Ok-first_texts.ensures.table in
    let texts = c.tokens_of.new.strings in
    let tokens = c.in-Ok-tokens_of.tokens.items in
    let seen = c.deref.result.now in
    let same = c.deref.ensures.value in
    let spec = c.in-Ok-syntax_of.field-0 in
    let later = c.syntax_of.new.strings in
    let behind = c.in-Ok-syntax_of.ensures.table in
    sections_next (string_bytes {Z = Global}) (ending c.patterns_of.new.strings) bytes s (Err c.in-Err-first_path.status) (c.in-Ok.ensures.gives [])
    (tokens_next (string_bytes {Z = Global}) (ending c.patterns_of.new.strings) bytes s first table (texts, tokens) (Err c.in-Err-first_path.status) c.in-Ok-tokens_of.ensures.gives
    (syntax_next (string_bytes {Z = Global}) (ending c.patterns_of.new.strings) bytes s texts tokens seen same spec (Err c.in-Err-first_path.status) c.in-Ok-syntax_of.ensures.gives
    (patterns_next (string_bytes {Z = Global}) (ending c.patterns_of.new.strings) bytes s texts tokens seen same later behind spec c.in-Ok-patterns_of.field-0.list (Err c.in-Err-first_path.status) c.in-Ok-patterns_of.ensures.gives
    (c.in-Err-first_path.ensures.gives c.patterns_of.new.strings))))

pub returns-in-Err-clause-named : goal.returns-in-Err-clause-named
returns-in-Err-clause-named c = c.in-Err.ensures.named c.args.strings.now

pub returns-clause-named : goal.returns-clause-named
returns-clause-named c = c.in-Err-first_path.ensures.named c.patterns_of.new.strings
