use Rattle.json_text.proofs.Names.{◌∷◌, [], get_or, refl, arith, sym, ap, ◌∙◌, sign_at, Opening}
use Rattle.json_text.specs.declared.tape.Shape.TheVariants.{Array, Object}
use Rattle.json_walk.proofs.Known.{spelt_marked}
use Rattle.json_walk.proofs.TokensAt.{sign_token, byte_taken, digit_at}
use Rattle.json_walk.proofs.lexing.value.Goals as goal

pub returns-in-123-clause-value : goal.returns-in-123-clause-value
returns-in-123-clause-value c = sign_token c.args.looks.now.0 c.args.i (Opening Object c.args.i) c.requires.in_text (ap (sign_at c.args.i) (sym c.at.ensures.value ∙ c.in-123.is))

pub returns-in-91-clause-value : goal.returns-in-91-clause-value
returns-in-91-clause-value c = sign_token c.args.looks.now.0 c.args.i (Opening Array c.args.i) c.requires.in_text (ap (sign_at c.args.i) (sym c.at.ensures.value ∙ c.in-91.is))

pub returns-in-48-to-57-clause-value : goal.returns-in-48-to-57-clause-value
returns-in-48-to-57-clause-value c = let v = c.at.ensures.value in search (arith, digit_at)

pub returns-in-48-to-57-clause-marked : goal.returns-in-48-to-57-clause-marked
returns-in-48-to-57-clause-marked c = let text = c.args.looks.now.0 in let i = c.args.i in
    spelt_marked c.late_exponents_keep_limits.ensures text (get_or text i 0 ∷ []) i c.args.may_exceed.now _ (byte_taken text i c.args.next c.requires.in_text) refl (omega arith)
