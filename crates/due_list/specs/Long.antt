-- The turns of a round that answer requests which may take long: this project's own.
use Rattle.std.specs.Prelude.{ℕ, ◌+◌, ◌-◌, ◌^◌, Bool, true, false, not, ◌&&◌, ◌||◌, min, nat_lt, replicate, slice_get, slice_set, unwrap_or, if◌then◌else◌}
use Rattle.due_list.specs.declared.long_turns.LongTurns.{LongTurns}

-- a turn took more than a span in one of the last rounds
abbrev pub is_crowded : LongTurns → Bool
is_crowded l = nat_lt l.since_long 16

-- the party had one since all that waited for one had theirs
abbrev pub has_had : LongTurns → (party : ℕ) → Bool
has_had l party = unwrap_or (slice_get l.had party) false

-- It is the first of its round, or those before took less than two milliseconds. And the party had none, or nobody waits who had none.
abbrev pub may_begin : LongTurns → (party : ℕ) → Bool
may_begin l party = (not l.has_begun || nat_lt l.micros 2000) && not (l.is_waited_for && has_had l party)

-- a sum, up to the greatest number of 64 bits
abbrev pub added : ℕ → ℕ → ℕ
added n more = min (n + more) (2 ^ 64 - 1)

-- A round begins: none had one in it. Once none was put off that had none, each party may have one again.
abbrev pub after_round : LongTurns → LongTurns
after_round l =
    record l { micros = 0; has_begun = false; is_under_way = false; had = if l.has_put_off then l.had else replicate 257 false; is_waited_for = l.has_put_off; has_put_off = false; since_long = min (l.since_long + 1) (2 ^ 32 - 1) }

-- a turn of the party begins, which is one or not
abbrev pub begun : (party : ℕ) → (is_long : Bool) → LongTurns → LongTurns
begun party is_long l = record l { is_under_way = is_long; has_begun = l.has_begun || is_long; had = if is_long && nat_lt party 257 then slice_set l.had party true else l.had }

-- one of the party is put off
abbrev pub put_off : (party : ℕ) → LongTurns → LongTurns
put_off party l = record l { has_put_off = l.has_put_off || not (has_had l party) }

-- the turn took so long: one above a span is counted among them, whatever it answered
abbrev pub counted : (micros : ℕ) → LongTurns → LongTurns
counted micros l =
    record l { micros = if l.is_under_way || nat_lt 1000 micros then added l.micros micros else l.micros; has_begun = l.has_begun || nat_lt 1000 micros; is_under_way = false; since_long = if nat_lt 1000 micros then 0 else l.since_long }
