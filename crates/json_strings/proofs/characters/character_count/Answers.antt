use Rattle.json_text.proofs.Names.{◌≡◌, ◌+◌, ◌≤◌, ◌∙◌, length, take, sym, ap, arith, count_by, take_all}
use Rattle.std.specs.Int.RustNames.{count_ones}
use Rattle.json_strings.specs.Spelling.{begins}
use Rattle.json_strings.proofs.Beginnings.{as_many, few_before, load_more}
use Rattle.json_strings.proofs.characters.character_count.Goals as goal
use Rattle.json_strings.proofs.characters.character_count.Goals.{After-beginnings}

module _ (c : After-beginnings) where
  room : c.loop-k.k + 32 ≤ length c.as_bytes-bytes.result.now
  room = omega (arith, c.loop-k-test.true, c.loop-k.invariant.0)

  many : c.loop-k.count + count_ones c.beginnings.result ≡ count_by begins (take (c.loop-k.k + 32) c.as_bytes-bytes.result.now)
  many = ap (λ n. n + count_ones c.beginnings.result) c.loop-k.invariant.1 ∙ sym (load_more c.as_bytes-bytes.result.now c.loop-k.k c.beginnings.result room c.beginnings.ensures)

pub overflow_add-count : goal.overflow_add-count
overflow_add-count c = record { fits = omega (arith, many c, few_before c.as_bytes-bytes.result.now (c.loop-k.k + 32) (room c), room c) }

pub loop-k-preserved : goal.loop-k-preserved
loop-k-preserved c = (room c, many c)

pub returns : goal.returns
returns c = grind (arith, count_by, take_all, as_many)
