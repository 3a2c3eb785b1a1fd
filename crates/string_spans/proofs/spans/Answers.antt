use Rattle.string_spans.proofs.Strings as strings
use Rattle.string_spans.proofs.spans.Goals as goal

pub returns-clause-interior : goal.returns-clause-interior
returns-clause-interior c = strings.interior c.args.inside c.args.real_quotes c.prefix_parity.result c.ranges.real_quotes.fits c.prefix_parity.type_inv c.prefix_parity.ensures

pub returns-clause-opening : goal.returns-clause-opening
returns-clause-opening c = strings.opening c.args.inside c.args.real_quotes c.prefix_parity.result c.ranges.real_quotes.fits c.prefix_parity.type_inv c.prefix_parity.ensures

pub returns-clause-closing : goal.returns-clause-closing
returns-clause-closing c = strings.closing c.args.inside c.args.real_quotes c.prefix_parity.result c.ranges.real_quotes.fits c.prefix_parity.type_inv c.prefix_parity.ensures

pub returns-clause-inside : goal.returns-clause-inside
returns-clause-inside c = strings.last c.args.inside c.args.real_quotes c.prefix_parity.result c.ranges.real_quotes.fits c.prefix_parity.type_inv c.prefix_parity.ensures
