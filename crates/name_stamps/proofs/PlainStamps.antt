-- The stamp of a name without a backslash, by its bytes.
use Rattle.json_text.proofs.Names.{◌≡◌, ℕ, ◌+◌, None, false, List, [], ◌∷◌, ◌++◌, length, append_assoc, sym, ap, ◌∙◌, arith, get_or-drop, encodes}
use Rattle.json_text.proofs.Names.{Spelt, Plain, Source, AreChars, IsString, meaning_after, extent, bytes_at}
use lib.Utf8.{encode}
use Rattle.json_text.specs.Meaning.{meaning}
use Rattle.structural_index.specs.Runs.{AreSlashless}
use Rattle.json_strings.specs.Spelling.{has_backslash}
use Rattle.name_stamps.specs.Stamps.{bytes_stamp}
use Rattle.json_text.specs.declared.tape.Extent.{Extent}
use Rattle.json_text.proofs.Fits.{Lies}
use Rattle.json_strings.proofs.PlainNames.{slashless_front, any_back}

escaped : (bs one others rest more : List ℕ) → bs ≡ one ++ others → one ≡ 92 ∷ more → has_backslash (bs ++ rest) ≡ false → ⊥
escaped bs one others rest more e o h = absurd (let x = sym (ap (λ l. has_backslash (l ++ rest)) (e ∙ ap (λ l. l ++ others) o)) ∙ h in cc)

-- characters without a backslash stand for themselves
encoded : (bs rest : List ℕ) (cs : List Spelt) → AreChars bs cs → has_backslash (bs ++ rest) ≡ false → encodes (meaning_after None cs) ≡ bs
encoded bs rest [] e h = sym e
encoded bs rest (Plain c ∷ cs) (one, others, (s, l, q, b, o), g, e) h =
    let left : has_backslash (others ++ rest) ≡ false = any_back one (others ++ rest) (ap has_backslash (sym (append_assoc one others rest) ∙ ap (λ k. k ++ rest) (sym e)) ∙ h) in
    ap (λ k. encode c ++ k) (encoded others rest cs g left) ∙ ap (λ k. k ++ others) (sym o) ∙ sym e
encoded bs rest cs h h' = grind (arith, escaped)

abbrev quoted : List ℕ → List ℕ
quoted bs = 34 ∷ (bs ++ 34 ∷ [])

-- the stamp of what a name means, as it is spelt without a backslash
abbrev pub spelt_stamp : List ℕ → ℕ
spelt_stamp scalars = bytes_stamp (quoted (encodes scalars))

slashless : (text : List ℕ) (s : Source) → Lies text s → AreSlashless text s.place (s.place + length s.bytes) → has_backslash s.bytes ≡ false
slashless text s l none = grind (arith, slashless_front, get_or-drop)

spelt_so : (text : List ℕ) (s : Source) (cs : List Spelt) → Lies text s → IsString s.bytes cs → AreSlashless text s.place (s.place + length s.bytes) → bytes_at text (extent s) ≡ quoted (encodes (meaning cs))
unfolding meaning
spelt_so text s cs l (inside, h, e) none = sym l ∙ e ∙ ap quoted (sym (encoded inside (34 ∷ []) cs h (sym (ap has_backslash e) ∙ slashless text s l none)))

pub stamp_is : (text : List ℕ) (x : Extent) (s : Source) (cs : List Spelt) → x ≡ extent s → Lies text s → IsString s.bytes cs → AreSlashless text x.start (x.start + x.len) → bytes_stamp (bytes_at text x) ≡ spelt_stamp (meaning cs)
stamp_is text x s cs shown l h none = grind (arith, spelt_so)
