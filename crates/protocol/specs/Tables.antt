-- The tables of the protocol: this project's own.
use Rattle.std.specs.Prelude.{ℕ, zero, suc, List, [], ◌∷◌, codes, Option, None, slice_get}
use Rattle.protocol.specs.declared.commands.Command.{Command}
use Rattle.protocol.specs.declared.statuses.Status.{Status}

-- each command with the byte that asks for it
abbrev pub commands : List (ℕ × List ℕ)
commands = (1, codes "put") ∷ (2, codes "get") ∷ (3, codes "remove") ∷ (4, codes "list") ∷ (5, codes "query") ∷ (6, codes "drop") ∷ (7, codes "usage") ∷ (8, codes "put_new") ∷ []

-- each status with its number; no reply has 19
abbrev pub statuses : List (ℕ × List ℕ)
statuses = (0, codes "Ok") ∷ (1, codes "Short") ∷ (2, codes "NoTenant") ∷ (3, codes "BadCommand") ∷ (4, codes "BadFields") ∷ (5, codes "TooLong") ∷ (6, codes "NotUtf8") ∷ (7, codes "NotJson") ∷ (8, codes "TooDeep") ∷ (9, codes "NumberLimit") ∷ (10, codes "LoneSurrogate") ∷ (11, codes "DuplicateName") ∷ (12, codes "TooManyCollections") ∷ (13, codes "TooManyDocuments") ∷ (14, codes "TooManyBytes") ∷ (15, codes "NotFound") ∷ (16, codes "QueryTooLong") ∷ (17, codes "NotWellFormed") ∷ (18, codes "NotValid") ∷ (19, codes "Retired") ∷ (20, codes "ReplyTooLarge") ∷ (21, codes "NoMemory") ∷ (22, codes "Costly") ∷ (23, codes "Exists") ∷ []

-- the command that a byte asks for
abbrev pub command_at : ℕ → Option (ℕ × List ℕ)
command_at zero = None
command_at (suc n) = slice_get commands n

abbrev pub status_at : ℕ → Option (ℕ × List ℕ)
status_at number = slice_get statuses number

abbrev pub command_row : Command → ℕ × List ℕ
command_row c = (c.byte, c.name.now)

abbrev pub status_row : Status → ℕ × List ℕ
status_row s = (s.number, s.name.now)
