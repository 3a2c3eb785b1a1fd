-- The lines that tell hits: this project's own form.
use Rattle.std.specs.Prelude.{ℕ, List, [], ◌∷◌, ◌++◌, flat_map}
use Rattle.tenant_store.specs.Hits.{Hit}

-- a hit's path and a tab
abbrev pub head_of : Hit → List ℕ
head_of h = h.path ++ 9 ∷ []

-- a hit's path, a tab, its source bytes and a line feed
abbrev pub line_of : Hit → List ℕ
line_of h = h.path ++ 9 ∷ (h.source ++ 10 ∷ [])

abbrev pub lines_of : List Hit → List ℕ
lines_of hs = flat_map line_of hs
