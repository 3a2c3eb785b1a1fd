use Rattle.json_text.proofs.Names.{◌≡◌, ◌++◌, sym, ap, ◌∙◌, append-nil, encodes, chars}
use Rattle.std.proofs.lemmas.Str.{chars_from_encodes, IsUtf8-string_bytes}
use Rattle.std.specs.String.{string_bytes}
use Rattle.json_strings.specs.Spelling.{scalars_in, has_backslash}
use Rattle.json_strings.proofs.PlainNames.{plain_means}
use Rattle.json_strings.proofs.keys.meaning.Goals as goal

pub returns-then-not-contains-clause-means : goal.returns-then-not-contains-clause-means
returns-then-not-contains-clause-means c = sym (plain_means c.args.inside.now c.utf8.inside (ap has_backslash (sym c.as_bytes.ensures.value) ∙ sym c.contains.ensures.value ∙ c.if-not-contains.true))

pub returns-clause-utf8 : goal.returns-clause-utf8
returns-clause-utf8 c = IsUtf8-string_bytes c.loop-c.name

pub returns-clause-means : goal.returns-clause-means
returns-clause-means c = let s = c.in-None.ensures.steps.0 in let i : string_bytes c.loop-c.name ++ encodes c.loop-c.c-iterator ≡ encodes (scalars_in (chars c.args.inside.now)) = c.loop-c.invariant in
    sym (chars_from_encodes (scalars_in (chars c.args.inside.now)) (string_bytes c.loop-c.name) (IsUtf8-string_bytes c.loop-c.name) (sym i ∙ ap (λ l. string_bytes c.loop-c.name ++ encodes l) s ∙ append-nil (string_bytes c.loop-c.name)))
