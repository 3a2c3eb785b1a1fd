use Rattle.json_text.proofs.Names.{[], ◌∷◌, refl, arith, nat_tests}
use Rattle.json_strings.proofs.PlainLanes.{four_letters, four_spell}
use Rattle.json_strings.proofs.plain.are_same.Goals as goal

pub returns : goal.returns
returns c t =
    four_spell c.args.bytes.now c.args.name.now (c.from.result ∷ c.from-2.result ∷ c.from-3.result ∷ c.from-4.result ∷ []) c.args.at c.requires.bytes refl
    (four_letters c.args.name.now c.args.at c.index-name-at.result c.index-name-at-2.result c.index-name-at-3.result c.index-name-at-4.result c.from.result c.from-2.result c.from-3.result c.from-4.result
    c.requires.name c.index-name-at.is c.index-name-at-2.is c.index-name-at-3.is c.index-name-at-4.is c.from.ensures c.from-2.ensures c.from-3.ensures c.from-4.ensures)
    (grind (arith, nat_tests, t))
