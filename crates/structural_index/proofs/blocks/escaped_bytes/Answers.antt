use Rattle.std.proofs.Common.{◌∙◌, sym}
use Rattle.bit_words.proofs.Bits.{is_set-flag_suc}
use Rattle.structural_index.proofs.Words.{first_escaped}
use Rattle.structural_index.proofs.blocks.escaped_bytes.Goals as goal

pub returns-then-backslash-eq0-clause-bits : goal.returns-then-backslash-eq0-clause-bits
returns-then-backslash-eq0-clause-bits c i h = first_escaped c.args.carry c.args.backslash c.if-backslash-eq0.true i

pub returns-then-backslash-eq0-clause-carry : goal.returns-then-backslash-eq0-clause-carry
returns-then-backslash-eq0-clause-carry c = sym (is_set-flag_suc c.args.carry 63) ∙ first_escaped c.args.carry c.args.backslash c.if-backslash-eq0.true 64
