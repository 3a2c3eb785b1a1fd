use Rattle.decimal_order.proofs.DecimalTexts as decimal_texts
use Rattle.decimal_order.proofs.laws.writes_whole_numbers.Goals as goal

pub returns : goal.returns
returns c = decimal_texts.writes_whole_numbers
