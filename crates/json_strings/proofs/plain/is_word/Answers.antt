use Rattle.std.proofs.Common.{ap, sym, ◌∙◌, w32}
use Rattle.std.specs.Int.{from_le_bytes}
use Rattle.json_strings.proofs.PackedWords.{plain_chunk, chunk_is}
use Rattle.json_strings.proofs.plain.is_word.Goals as goal

pub returns-then-stops-eq0-clause-other : goal.returns-then-stops-eq0-clause-other
returns-then-stops-eq0-clause-other c e =
    (λ w. c.if-from_le_bytes-word.false (c.from_le_bytes.ensures ∙ ap (from_le_bytes w32) (chunk_is c.args.bytes.now c.args.at c.requires) ∙ sym w), plain_chunk c.args.bytes.now c.args.at c.requires c.if-stops-eq0.true)
