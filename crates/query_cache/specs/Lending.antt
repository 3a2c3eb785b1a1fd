-- What a cache is once the query that it lent is let go: this project's own.
use Rattle.std.specs.Prelude.{⊤}
use Rattle.std.specs.Borrow.{Fml, MutBor, follows_so}
use mathlib.Core.Option.{none}
use Rattle.query_cache.specs.contracts.cache.Cache.{the_row}
use Rattle.query_cache.specs.Texts.{Held}

abbrev pub EndsAs : MutBor Held → (Held → Type 0) → Fml
EndsAs cache P = follows_so the_row the_row cache.ghost_name none (λ _ _. ⊤) P
