use Rattle.std.proofs.Common.{arith}
use Rattle.json_tape.proofs.Readers.{is_document, text_short}
use Rattle.json_tape.proofs.document.Document.source.Goals as goal

pub returns-clause-short : goal.returns-clause-short
returns-clause-short c = search (arith, text_short, is_document)
